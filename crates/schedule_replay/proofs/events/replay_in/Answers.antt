use Rattle.std.proofs.Common.{ap, inl, inr}
use Rattle.io_core.specs.Causes.{Rose}
use Rattle.schedule_replay.proofs.Exactly.{prints, exactly, read_fault_told, write_fault_told, rose_early, rose_late}
use Rattle.schedule_replay.proofs.events.replay_in.Goals as goal

pub returns-clause-replay : goal.returns-clause-replay
returns-clause-replay g c =
    prints _ _ _ _ _ _ (Rose (g.W.Sink.wants c.args.sink.now) (g.W.Sink.wants c.finish.new.sink)) _ _ _ _ _
    (rose_early _ _ _ c.finish.ensures.wants)
    (rose_late _ _ _ c.reach-end.ensures.wants)
    c.reach-end.ensures.reaches c.finish.ensures.ends
    (λ failed. let f = c.finish.ensures.failed failed in (f.0, ap (λ s. g.W.Sink.contents s) f.1))

pub returns-clause-exactly : goal.returns-clause-exactly
returns-clause-exactly g c =
    exactly _ (g.S.Source.before c.reach-end.new.source) (g.S.Source.left c.reach-end.new.source) _ _ _ _ (returns-clause-replay g c)

pub returns-clause-read : goal.returns-clause-read
returns-clause-read g c is = c.reach-end.ensures.read_faults.rose (c.finish.ensures.read_fault is)

pub returns-clause-write : goal.returns-clause-write
returns-clause-write g c is = elim (c.finish.ensures.fault is) [
  | inl end ↦ rose_early _ _ _ c.finish.ensures.later (c.reach-end.ensures.write_faults.rose end)
  | inr rose ↦ rose_late _ _ _ c.reach-end.ensures.write_faults.later rose
]

pub returns-clause-read_told : goal.returns-clause-read_told
returns-clause-read_told g c rose =
    read_fault_told _ _ _ _ _ _ _ _ c.reach-end.ensures.read_faults rose c.finish.ensures.ends

pub returns-clause-write_told : goal.returns-clause-write_told
returns-clause-write_told g c rose =
    write_fault_told _ _ _ _ _ c.reach-end.ensures.write_faults (λ failed. (c.finish.ensures.failed failed).0) c.finish.ensures.told rose
