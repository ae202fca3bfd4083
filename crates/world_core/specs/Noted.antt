-- What noting all parties makes of the rows.
use Rattle.std.specs.Prelude.{◌≡◌, ℕ, ◌≤◌, Bool, true, List, length, map, take}
use Rattle.std.specs.List.{AllByRecursion}
use Rattle.proto_model.specs.Replicas.{ReplicaState}
use Rattle.proto_model.specs.Servers.{ServerState, has_fetched}
use Rattle.net_model.specs.declared.shown.Entry.{Entry}
use Rattle.world_law.specs.Outcomes.{entry_of}
use Rattle.world_core.specs.Tallies.{is_cast}

-- whether this node has voted for k records of a session, by its state
abbrev pub is_cast_by : (ℕ → ReplicaState) → ℕ → ℕ → ℕ → Bool
is_cast_by nodes s k i = is_cast (nodes i).adopted (length (nodes i).log) i s k i

-- ---- entries, where each session is to have these

-- the server has its session's log
pub record HasTarget (target : ℕ → List Entry) (sessions : ℕ) (sv : ServerState) : Type 0 where
  pub some : 1 ≤ sv.session
  pub known : sv.session ≤ sessions
  pub log : target sv.session ≡ map entry_of sv.log

-- it has, where it repairs or runs
abbrev pub AreTargets : (ℕ → List Entry) → ℕ → ServerState → Type 0
AreTargets target sessions sv = has_fetched sv.phase ≡ true → HasTarget target sessions sv

-- each session has the first of its entries
abbrev pub AreFronts : (ℕ → List Entry) → (ℕ → List Entry) → Type 0
AreFronts target entries = (s : ℕ) → entries s ≡ take (length (entries s)) (target s)

abbrev pub IsNoted : (ℕ → List Entry) → (ℕ → List Entry) → ServerState → Type 0
IsNoted target entries sv =
    has_fetched sv.phase ≡ true → entries sv.session ≡ target sv.session

-- these servers' sessions have all their entries, and what had all of them still has
pub record AreNoted (target : ℕ → List Entry) (servers : List ServerState) (old new : ℕ → List Entry) : Type 0 where
  pub fronts : AreFronts target new
  pub stays : (s : ℕ) → old s ≡ target s → new s ≡ target s
  pub noted : AllByRecursion (IsNoted target new) servers
