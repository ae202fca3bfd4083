use Rattle.std.proofs.Common.{◌≡◌, ◌≤◌, ◌<◌, ◌+◌, ◌-◌, ◌^◌, length, take, drop}
use Rattle.disk_model.specs.History.{KeepsWorking}
use Rattle.disk_model.proofs.reading.read_full.Given as goal

abbrev pub invariant-calls : goal.invariant-calls
invariant-calls g l = record {
  within : l.done ≤ length l.into;
  size : length l.into ≡ length l.fn.into;
  room : l.at + l.done < 2 ^ 64;
  inside : g.D.Disk.tells → 0 < l.done → l.at + l.done ≤ length ((g.D.Disk.history l.fn.disk).now l.file).reads;
  bytes : g.D.Disk.tells → take l.done l.into ≡ take l.done (drop l.at ((g.D.Disk.history l.fn.disk).now l.file).reads);
  history : g.D.Disk.tells → g.D.Disk.history l.disk ≡ g.D.Disk.history l.fn.disk;
  none : g.D.Disk.faults l.disk ≡ g.D.Disk.faults l.fn.disk;
  keeps : KeepsWorking g.D.Disk.reliable g.D.Disk.unfailing l.fn.disk l.disk ⊥;
}

abbrev pub decreases-calls : goal.decreases-calls
decreases-calls g l = length l.into - l.done
