use Rattle.std.proofs.Common.{◌≡◌, ◌≤◌, ◌-◌, [], ◌∷◌, ◌++◌, length, take, drop}
use Rattle.tx_model.specs.Records.{RiseByOne}
use Rattle.disk_model.specs.History.{KeepsWorking}
use Rattle.partition_store.specs.Stands.{reads_of}
use Rattle.partition_store.specs.Stores.{records_by}
use Rattle.partition_store.proofs.getting.read_run.Given as goal

abbrev pub invariant-segments : goal.invariant-segments
invariant-segments g l = record {
  most : length l.found.items ≤ l.count;
  rise : RiseByOne l.from l.found.items;
  log : g.D.Disk.tells → l.found.items ≡ take (length l.found.items) (drop (l.from - 1) (records_by (reads_of (g.D.Disk.history l.fn.disk).now) (l.closed ++ l.last ∷ [])));
  history : g.D.Disk.tells → g.D.Disk.history l.disk ≡ g.D.Disk.history l.fn.disk;
  none : g.D.Disk.faults l.disk ≡ g.D.Disk.faults l.fn.disk;
  keeps : KeepsWorking g.D.Disk.reliable g.D.Disk.unfailing l.fn.disk l.disk ⊥;
}

abbrev pub decreases-segments : goal.decreases-segments
decreases-segments g l = l.count - length l.found.items
