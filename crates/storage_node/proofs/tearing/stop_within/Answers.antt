use Rattle.std.proofs.Common.{inl, ◌∙◌, ap, subst, arith}
use Rattle.disk_model.specs.MemDisk.{MemState, mem_history}
use Rattle.disk_model.specs.Laws.{mem_sound}
use Rattle.proto_model.specs.Crashes.{IsCrashOf}
use Rattle.partition_store.specs.Stands.{reads_of, StandsNear}
use Rattle.partition_store.specs.Stores.{Kept, state_by}
use Rattle.storage_node.proofs.Torn.{reads-left, step-left}
use Rattle.storage_node.proofs.tearing.stop_within.Goals as goal

pub returns : goal.returns
returns c =
    let new = c.take.new.store in
    let files = (mem_history new.disk).now in
    let on = ap (λ (k : Kept MemState). k.shut) c.fuse.ensures ∙ c.requires.on in
    let faults = ap (λ (k : Kept MemState). k.disk.faults) c.fuse.ensures in
    record {
      left =
          subst (λ (k : Kept MemState). StandsNear (IsCrashOf (state_by mem_history k) c.args.m.now) k.status.file (reads_of files)) c.fuse.ensures
          (step-left (Unit {0}) (Unit {0}) mem_history c.args.m.now c.fuse.new.self new tt on c.take.result c.take.ensures.step (reads-left (Unit {0}) files (mem_sound new.disk.changes).0 (λ q. inl tt)));
      settled = c.take.ensures.step.steady;
      reliable = λ it. c.take.ensures.keeps.reliable (ap (λ (k : Kept MemState). k.disk.fails) c.fuse.ensures ∙ it);
      later = omega (arith, c.take.ensures.cause.later, faults);
    }
