-- Which transactions a running server takes.
use Rattle.std.specs.Prelude.{◌≡◌, ◌+◌, ◌≤◌, ◌<◌, length, None}
use Rattle.tx_model.specs.Transactions.{Transaction}
use Rattle.tx_model.specs.Probes.{admission}
use Rattle.proto_model.specs.declared.message.Phase.TheVariants.{Running}
use Rattle.proto_model.specs.Servers.{Config, ServerState, chosen_len, commit_mark}
use Rattle.proto_model.specs.Serving.{last_id, shape_of, window}

-- the mark is known, no lock refuses, and there is room among the records that are not committed, and in the log
pub record IsTakeable (c : Config) (sv : ServerState) (tx : Transaction) : Type 0 where
  pub running : sv.phase ≡ Running
  pub mark : tx.mark ≤ length sv.log
  pub admitted : admission (shape_of c) (chosen_len c sv) sv.log tx ≡ None
  pub few : length sv.log < commit_mark c sv + window
  pub room : length sv.log < last_id
