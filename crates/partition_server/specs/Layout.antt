-- What the fields of a server hold.
use Rattle.partition_server.specs.declared.server.Server.TheInside.{Inside}
use Rattle.partition_server.specs.Held.{Held, IsHeld}

abbrev pub held_by : Inside → Held
held_by s = record {
  rows = s.locks.rows;
  slots = s.locks.slots;
  known = s.nodes;
  kept = s.acks;
  log = s.log.log;
  waiting = s.waiting;
}

abbrev pub IsServer : Inside → Type 0
IsServer s = IsHeld (held_by s) s.locks
