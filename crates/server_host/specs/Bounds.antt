-- What the nodes lack is a number of 64 bits.
use Rattle.std.proofs.Common.{ℕ, zero, suc, ◌+◌, ◌*◌, ◌^◌, ◌<◌, ◌≤◌, Bool, true, false, arith}
use Rattle.proto_model.specs.Servers.{ServerState}
use Rattle.server_host.specs.Lacking.{bound, node_lack, lack_to, lack_of}

node_bound : (reported adopted : Bool) (staged acked low : ℕ) → node_lack reported adopted staged acked low ≤ 5 * bound + 2
node_bound true true staged acked low = omega arith
node_bound true false staged acked low = omega arith
node_bound false true staged acked low = omega arith
node_bound false false staged acked low = omega arith

to_bound : (sv : ServerState) (k : ℕ) → lack_to sv k ≤ k * (5 * bound + 2)
unfolding lack_to
to_bound sv zero = omega arith
to_bound sv (suc k) =
    let here = node_bound (sv.reported (suc k)) (sv.adopted (suc k)) (sv.staged (suc k)) (sv.acked (suc k)) (sv.low (suc k)) in
    let rest = to_bound sv k in
    omega (arith, here, rest)

pub lack_bound : (sv : ServerState) → lack_of sv < 2 ^ 64
lack_bound sv = let all = to_bound sv 7 in omega (arith, all)
