use Rattle.std.proofs.Common.{◌≡◌, length, take}
use Rattle.std.specs.List.{flat_map}
use Rattle.tx_model.specs.Spelling.{meta_frame}
use Rattle.disk_model.specs.History.{KeepsWorking}
use Rattle.partition_store.specs.Stands.{reads_of}
use Rattle.partition_store.specs.Loading.{IsLoadedFit, AreLoaded}
use Rattle.partition_store.proofs.taking.take_each.Given as goal

abbrev pub invariant-loop-entry : goal.invariant-loop-entry
invariant-loop-entry g l = record {
  fit : IsLoadedFit l.loaded;
  place : l.place ≡ length (flat_map meta_frame (take l.entry-index l.entries));
  taken : g.D.Disk.tells → AreLoaded (reads_of (g.D.Disk.history l.fn.disk).now) (take l.entry-index l.entries) l.loaded;
  history : g.D.Disk.tells → g.D.Disk.history l.disk ≡ g.D.Disk.history l.fn.disk;
  none : g.D.Disk.faults l.disk ≡ g.D.Disk.faults l.fn.disk;
  keeps : KeepsWorking g.D.Disk.reliable g.D.Disk.unfailing l.fn.disk l.disk ⊥;
}
