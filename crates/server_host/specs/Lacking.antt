-- How much the nodes lack: a number that each awaited reply lessens.
use Rattle.std.specs.Prelude.{◌≡◌, ℕ, zero, suc, ◌+◌, ◌-◌, ◌*◌, ◌^◌, ◌≤◌, Bool, true, if◌then◌else◌, length}
use Rattle.proto_model.specs.Quorums.{quorum}
use Rattle.proto_model.specs.Servers.{Config, ServerState, chosen_len}

-- above each length of a log
abbrev pub bound : ℕ
bound = 2 ^ 48

-- Of one node: its report, its adoption, and what it has yet to stage, to acknowledge and to settle. A report may take
-- back what was staged and settled, so it counts for more than both.
abbrev pub node_lack : Bool → Bool → ℕ → ℕ → ℕ → ℕ
node_lack reported adopted staged acked low =
    (if reported then 0 else 2 * bound + 1) + (if adopted then 0 else 1)
    + (bound - staged) + (bound - acked) + (bound - low)

abbrev pub lack_at : ServerState → ℕ → ℕ
lack_at sv i = node_lack (sv.reported i) (sv.adopted i) (sv.staged i) (sv.acked i) (sv.low i)

-- of the nodes 1 to k
unfoldable pub lack_to : ServerState → ℕ → ℕ
lack_to sv zero = 0
lack_to sv (suc k) = lack_at sv (suc k) + lack_to sv k

-- of all of them, with what the server has yet to fetch
abbrev pub lack_of : ServerState → ℕ
lack_of sv = (bound - length sv.log) + lack_to sv 7

-- A node that adopted acknowledged the chosen log at least.
pub record IsCaughtUp (c : Config) (sv : ServerState) (i : ℕ) : Type 0 where
  pub chose : quorum c.nodes ≤ length sv.reports
  pub acked : chosen_len c sv ≤ sv.acked i

abbrev pub AreCaughtUp : Config → ServerState → Type 0
AreCaughtUp c sv = (i : ℕ) → sv.adopted i ≡ true → IsCaughtUp c sv i
