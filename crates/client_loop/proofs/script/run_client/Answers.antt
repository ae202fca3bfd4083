use Rattle.std.proofs.Common.{ap, inl, inr}
use Rattle.io_core.specs.Causes.{Rose}
use Rattle.client_loop.proofs.Finishing.{prints, read_fault_told, write_fault_told, peer_fault_told, rose_early, rose_late}
use Rattle.client_loop.proofs.Exactly.{exactly}
use Rattle.client_loop.proofs.script.run_client.Goals as goal

pub returns-clause-runs : goal.returns-clause-runs
returns-clause-runs g c =
    let r = c.do_script-end.ensures.reaches in
    record {
      end = c.do_script-end.result;
      lines = r.lines;
      scripts = r.scripts;
      text = r.text;
      after = r.after;
      few = r.few;
      read = r.read;
      spelled = r.spelled;
      done = r.done;
      printed = prints (Rose (g.W.Sink.wants c.args.sink.now) (g.W.Sink.wants c.finish.new.sink)) _ _ _ _ _ _ _ _
          (rose_early _ _ _ c.finish.ensures.wants)
          (rose_late _ _ _ c.do_script-end.ensures.wants)
          r.told c.finish.ensures.ends
          (λ broken. let f = c.finish.ensures.broken broken in (f.0, ap (λ s. g.W.Sink.contents s) f.1));
    }

pub returns-clause-exactly : goal.returns-clause-exactly
returns-clause-exactly g c =
    exactly _ _ _ _ _ _ (g.S.Source.before c.do_script-end.new.source) (g.S.Source.left c.do_script-end.new.source) _ _ _ _ (returns-clause-runs g c)

pub returns-clause-read : goal.returns-clause-read
returns-clause-read g c is = c.do_script-end.ensures.read_faults.rose (c.finish.ensures.read is)

pub returns-clause-peer : goal.returns-clause-peer
returns-clause-peer g c is = c.do_script-end.ensures.peer_faults.rose (c.finish.ensures.peer is)

pub returns-clause-write : goal.returns-clause-write
returns-clause-write g c is = elim (c.finish.ensures.fault is) [
  | inl end ↦ rose_early _ _ _ c.finish.ensures.later (c.do_script-end.ensures.write_faults.rose end)
  | inr rose ↦ rose_late _ _ _ c.do_script-end.ensures.write_faults.later rose
]

pub returns-clause-read_told : goal.returns-clause-read_told
returns-clause-read_told g c rose =
    read_fault_told _ _ _ _ _ _ _ c.do_script-end.ensures.read_faults rose c.finish.ensures.ends

pub returns-clause-peer_told : goal.returns-clause-peer_told
returns-clause-peer_told g c rose =
    peer_fault_told _ _ _ _ _ _ _ c.do_script-end.ensures.peer_faults rose c.finish.ensures.ends

pub returns-clause-write_told : goal.returns-clause-write_told
returns-clause-write_told g c rose =
    write_fault_told _ _ _ _ _ c.do_script-end.ensures.write_faults (λ broken. (c.finish.ensures.broken broken).0) c.finish.ensures.told rose
