use Rattle.std.proofs.Common.{◌≡◌, ◌-◌, length}
use Rattle.tx_model.specs.Spelling.{IsCount}
use Rattle.disk_model.specs.History.{KeepsWorking}
use Rattle.session_register.specs.Values.{IsFront}
use Rattle.session_register.proofs.entries.read_to.Given as goal

abbrev pub invariant-entries : goal.invariant-entries
invariant-entries g l = record {
  range : IsCount l.front.number;
  front : g.D.Disk.tells → l.size ≡ length ((g.D.Disk.history l.fn.disk).now 0).reads → IsFront ((g.D.Disk.history l.fn.disk).now 0).reads l.front.number l.front.end;
  history : g.D.Disk.tells → g.D.Disk.history l.disk ≡ g.D.Disk.history l.fn.disk;
  none : g.D.Disk.faults l.disk ≡ g.D.Disk.faults l.fn.disk;
  keeps : KeepsWorking g.D.Disk.reliable g.D.Disk.unfailing l.fn.disk l.disk ⊥;
}

abbrev pub decreases-entries : goal.decreases-entries
decreases-entries g l = l.size - l.front.end
