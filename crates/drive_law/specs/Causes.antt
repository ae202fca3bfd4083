-- Why a drive leaves a record uncommitted, or a server that is not running.
use Rattle.std.specs.Prelude.{◌≡◌, ℕ, ◌<◌, ◌≤◌, Bool, true, false, List, [], ◌∷◌, length, Some, ⊤}
use Rattle.io_core.specs.Links.{Exchange}
use Rattle.proto_model.specs.declared.message.Report.{Report}
use Rattle.proto_model.specs.declared.message.Phase.{Phase}
use Rattle.proto_model.specs.declared.message.Phase.TheVariants.{Opening, Fetching, Repairing, Running}
use Rattle.proto_model.specs.Quorums.{count, quorum}
use Rattle.proto_model.specs.Servers.{Config, ServerState, chosen, chosen_len, commit_mark, drawn, has_fetched}
use Rattle.session_recovery.specs.Sound.{has_chosen}
use Rattle.server_loop.specs.declared.driving.Out.{Out}
use Rattle.server_loop.specs.Drives.{Driving, driving, IsDrive, is_in}

-- fewer than a quorum of the nodes take part at its end
abbrev pub FewTakePart : Config → Driving → Type 0
FewTakePart c d = count (is_in d.outs) c.nodes < quorum c.nodes

-- a record of a running server that a quorum doesn't hold
abbrev pub PendingHasItsCause : Type 0
PendingHasItsCause = (c : Config) (ports : List ℕ) (a d : Driving) → IsDrive c ports a d →
    d.state.phase ≡ Running → commit_mark c d.state < length d.state.log → FewTakePart c d

-- the chosen node takes no part any more
abbrev pub ChosenIsOut : Config → Driving → Type 0
ChosenIsOut c d = (r : Report) × (chosen c d.state ≡ Some r) × (is_in d.outs r.node ≡ false)

-- a drive after a session was drawn
abbrev pub IsRecovery : Config → List ℕ → ℕ → List Out → List Exchange → Driving → Type 0
IsRecovery c ports s outs past d = IsDrive c ports (driving (drawn s) outs past) d

-- by the phase in which it leaves the server
pub record NoQuorumHasItsCause : Type 0 where
  pub opening : (c : Config) (ports : List ℕ) (s : ℕ) (outs : List Out) (past : List Exchange) (d : Driving) →
      IsRecovery c ports s outs past d → d.state.phase ≡ Opening → FewTakePart c d
  pub fetching : (c : Config) (ports : List ℕ) (s : ℕ) (outs : List Out) (past : List Exchange) (d : Driving) →
      IsRecovery c ports s outs past d → d.state.phase ≡ Fetching → ChosenIsOut c d
  pub repairing : (c : Config) (ports : List ℕ) (s : ℕ) (outs : List Out) (past : List Exchange) (d : Driving) →
      IsRecovery c ports s outs past d → d.state.phase ≡ Repairing → FewTakePart c d

-- ---- the log of a server that recovered

-- it is the chosen log, all of it
abbrev pub RecoveredLogIsChosen : Type 0
RecoveredLogIsChosen = (c : Config) (ports : List ℕ) (s : ℕ) (outs : List Out) (past : List Exchange) (d : Driving) →
    IsRecovery c ports s outs past d → d.state.phase ≡ Running → length d.state.log ≡ chosen_len c d.state

-- of a server that has assigned no record
pub record HasChosenLog (c : Config) (sv : ServerState) : Type 0 where
  pub empty : sv.phase ≡ Opening → sv.log ≡ []
  pub chose : has_chosen sv.phase ≡ true → quorum c.nodes ≤ length sv.reports
  pub whole : has_fetched sv.phase ≡ true → length sv.log ≡ chosen_len c sv

-- ---- what the phase of a server that recovers tells of the nodes

abbrev pub is_early : Phase → Bool
is_early Opening = true
is_early Fetching = true
is_early _ = false

abbrev pub AreWithin : ℕ → List Report → Type 0
AreWithin n [] = ⊤
AreWithin n (r ∷ reports) = (1 ≤ r.node) × (r.node ≤ n) × AreWithin n reports

pub record IsYoung (c : Config) (sv : ServerState) : Type 0 where
  pub counted : count sv.reported c.nodes ≡ length sv.reports
  pub within : AreWithin c.nodes sv.reports
  pub opening : sv.phase ≡ Opening → length sv.reports < quorum c.nodes
  pub fetching : sv.phase ≡ Fetching → quorum c.nodes ≤ length sv.reports
  pub fresh : is_early sv.phase ≡ true → (i : ℕ) → sv.adopted i ≡ false
  pub repairing : sv.phase ≡ Repairing → count sv.adopted c.nodes < quorum c.nodes
