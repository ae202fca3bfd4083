use Rattle.std.proofs.Common.{◌≡◌, drop}
use Rattle.tx_model.specs.Hashes.{fnv_from}
use Rattle.lock_table.proofs.hash.hash_from.Given as goal

-- the bytes that are left lead to the state after all
abbrev pub invariant-loop-byte : goal.invariant-loop-byte
invariant-loop-byte l = fnv_from l.state (drop l.byte-index l.bytes) ≡ fnv_from l.start l.bytes
