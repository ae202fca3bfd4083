use Rattle.std.proofs.Common.{ap, inl, inr}
use Rattle.io_core.specs.Causes.{Rose}
use Rattle.client_loop.proofs.Stopped.{not_written}
use Rattle.client_loop.proofs.Finishing.{prints, nothing_told, peer_fault_told}
use Rattle.client_loop.proofs.stopping.stop.Goals as goal

pub returns-clause-stops : goal.returns-clause-stops
returns-clause-stops g c =
    let refused : Type 0 = Rose (g.W.Sink.wants c.args.sink.now) (g.W.Sink.wants c.finish.new.sink) in
    record {
      end = c.ask_to_stop-end.result;
      kind = c.ask_to_stop-end.ensures.ends;
      asked = c.ask_to_stop-end.ensures.told;
      printed = prints refused refused refused _ _ _ _ _ _ (λ met. met) (λ met. met)
          (nothing_told _ _ _) c.finish.ensures.ends
          (λ broken. let f = c.finish.ensures.broken broken in (f.0, ap (λ s. g.W.Sink.contents s) f.1));
    }

pub returns-clause-done : goal.returns-clause-done
returns-clause-done g c is told = rw (c.finish.ensures.done is) at (c.ask_to_stop-end.ensures.told told)

pub returns-clause-peer : goal.returns-clause-peer
returns-clause-peer g c is = c.ask_to_stop-end.ensures.faults.rose (c.finish.ensures.peer is)

pub returns-clause-write : goal.returns-clause-write
returns-clause-write g c is = elim (c.finish.ensures.fault is) [
  | inl end ↦ absurd (not_written _ c.ask_to_stop-end.ensures.ends end)
  | inr rose ↦ rose
]

pub returns-clause-peer_told : goal.returns-clause-peer_told
returns-clause-peer_told g c rose =
    peer_fault_told _ _ _ _ _ _ _ c.ask_to_stop-end.ensures.faults rose c.finish.ensures.ends
