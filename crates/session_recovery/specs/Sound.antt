-- What is true of a server's state, whatever replies came.
use Rattle.std.specs.Prelude.{◌≡◌, ℕ, ◌≤◌, ◌<◌, Bool, true, false, [], length}
use Rattle.std.specs.List.{AllByRecursion}
use Rattle.tx_model.specs.Records.{IsPlace, RiseByOne}
use Rattle.tx_model.specs.Spelling.{IsCount}
use Rattle.proto_model.specs.declared.message.Report.{Report}
use Rattle.proto_model.specs.declared.message.Phase.{Phase}
use Rattle.proto_model.specs.declared.message.Phase.TheVariants.{Opening, Fetching, Repairing, Running}
use Rattle.proto_model.specs.Quorums.{quorum}
use Rattle.proto_model.specs.Servers.{Config, ServerState, chosen_len, has_fetched, is_active}

-- once a quorum reported there is a chosen log
abbrev pub has_chosen : Phase → Bool
has_chosen Fetching = true
has_chosen Repairing = true
has_chosen Running = true
has_chosen _ = false

pub record IsSound (c : Config) (sv : ServerState) : Type 0 where
  pub session : is_active sv.phase ≡ true → IsPlace sv.session
  pub counts : AllByRecursion (λ (r : Report). IsCount r.length) sv.reports
  pub chose : has_chosen sv.phase ≡ true → quorum c.nodes ≤ length sv.reports
  -- the log's records are valid, and have the ids from 1 on
  pub rise : RiseByOne 1 sv.log
  pub empty : sv.phase ≡ Opening → sv.log ≡ []
  pub fetching : sv.phase ≡ Fetching → length sv.log < chosen_len c sv
  pub whole : sv.phase ≡ Repairing → length sv.log ≡ chosen_len c sv
  pub long : has_fetched sv.phase ≡ true → chosen_len c sv ≤ length sv.log
  pub within : (i : ℕ) → sv.acked i ≤ length sv.log
