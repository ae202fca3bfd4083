use Rattle.std.proofs.Common.{◌≡◌, ◌-◌}
use Rattle.disk_model.specs.History.{KeepsWorking}
use Rattle.segment_store.specs.Loading.{IsAligned, IsReadOf, IsSameFile, IsFit}
use Rattle.segment_store.proofs.reading.Reading.read_all.Given as goal

abbrev pub invariant-pieces : goal.invariant-pieces
invariant-pieces g l = record {
  same : IsSameFile l.fn.self l.self;
  fit : IsFit l.self;
  aligned : IsAligned l.self l.stretch;
  read : g.D.Disk.tells → IsReadOf l.self l.stretch ((g.D.Disk.history l.fn.disk).now l.fn.self.segment.file).reads;
  history : g.D.Disk.tells → g.D.Disk.history l.disk ≡ g.D.Disk.history l.fn.disk;
  none : g.D.Disk.faults l.disk ≡ g.D.Disk.faults l.fn.disk;
  keeps : KeepsWorking g.D.Disk.reliable g.D.Disk.unfailing l.fn.disk l.disk ⊥;
}

abbrev pub decreases-pieces : goal.decreases-pieces
decreases-pieces g l = l.stretch.end - l.stretch.next
