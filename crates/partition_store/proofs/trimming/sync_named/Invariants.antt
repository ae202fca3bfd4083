use Rattle.std.proofs.Common.{◌≡◌, ℕ, List, take}
use Rattle.disk_model.specs.File.{IsPlain}
use Rattle.disk_model.specs.History.{AtEach, KeepsWorking}
use Rattle.proto_model.specs.Held.{EachNamed}
use Rattle.partition_store.specs.Loading.{HoldFrames, AreFirm}
use Rattle.partition_store.proofs.trimming.sync_named.Given as goal

abbrev pub invariant-loop-entry : goal.invariant-loop-entry
invariant-loop-entry g l = record {
  named : g.D.Disk.tells → EachNamed (λ q. IsPlain ((g.D.Disk.history l.disk).now q)) (take l.entry-index l.entries);
  plain : g.D.Disk.tells → (q : ℕ) → IsPlain ((g.D.Disk.history l.fn.disk).now q) → IsPlain ((g.D.Disk.history l.disk).now q);
  reads : g.D.Disk.tells → (q : ℕ) → ((g.D.Disk.history l.disk).now q).reads ≡ ((g.D.Disk.history l.fn.disk).now q).reads;
  firm : g.D.Disk.tells → (frames : ℕ → List (List ℕ)) → HoldFrames frames (g.D.Disk.history l.fn.disk).now → AreFirm frames (g.D.Disk.history l.fn.disk).now → AtEach (AreFirm frames) (g.D.Disk.history l.fn.disk) (g.D.Disk.history l.disk);
  none : g.D.Disk.faults l.disk ≡ g.D.Disk.faults l.fn.disk;
  keeps : KeepsWorking g.D.Disk.reliable g.D.Disk.unfailing l.fn.disk l.disk ⊥;
}
