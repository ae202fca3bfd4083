-- What the world of a cluster may be seen as.
use Rattle.std.specs.Prelude.{◌≡◌, ℕ, zero, suc, ◌+◌, ◌<◌, true, false, List, [], ◌∷◌, length, map, get_or}
use Rattle.std.proofs.Common.{sym, subst, arith}
use Rattle.std.specs.List.{AllByRecursion}
use Rattle.std.proofs.lemmas.Bool.Decides.{nat_tests}
use Rattle.disk_model.specs.MemDisk.{MemState, mem_history, IsUnfailing}
use Rattle.partition_store.specs.Stands.{reads_of}
use Rattle.partition_store.specs.Stores.{Kept, state_by}
use Rattle.proto_model.specs.declared.message.Status.{Status}
use Rattle.proto_model.specs.Quorums.{is_within}
use Rattle.proto_model.specs.Replicas.{ReplicaState, fresh_replica}
use Rattle.world_law.specs.Worlds.{WorldState}
use Rattle.world_law.specs.Runs.{HasFiles}
use Rattle.world_core.specs.Kept.{KeptWorld, nodes_of, files_of, no_files}
use Rattle.world_core.specs.Fit.{IsGoing, IsWhole}
use Rattle.world_core.specs.Stepping.{IsShownBy}
use Rattle.schedule_replay.specs.Plays.{StandFor}

-- Memory sufficed so far, the nodes are without faults, and the world is shown.
pub record IsSeenAs {R : Type 0} (state : R → ReplicaState) (files : R → ℕ → List ℕ) (is_faultless : R → Type 0) (status : R → Status) (k : KeptWorld R) (w : WorldState) : Type 0 where
  pub going : k.spent ≡ false
  pub whole : IsWhole is_faultless status k.stepped k.system k.rows
  pub shown : IsShownBy state files k w

each-stands : {R : Type 0} (state : R → ReplicaState) (files : R → ℕ → List ℕ) (f : R → Type 0) (s : R → Status) (most : ℕ) → ((r : R) → f r → StandFor (files r) (state r)) → (xs : List R) (i : ℕ) → AllByRecursion (IsGoing f s most) xs → i < length xs
    → StandFor (get_or (map files xs) i no_files) (get_or (map state xs) i fresh_replica)
each-stands state files f s most each [] i all h = absurd (omega arith)
each-stands state files f s most each (x ∷ xs) zero all h = each x all.0.faultless
each-stands state files f s most each (x ∷ xs) (suc i) all h = each-stands state files f s most each xs i all.1 (omega arith)

none-within : (n : ℕ) → is_within n 0 ≡ true → ⊥
none-within n within = grind (arith, nat_tests)

within-less : (n i : ℕ) → is_within n (suc i) ≡ true → i < n
within-less n i within = grind (arith, nat_tests)

node-stands-at : {R : Type 0} (state : R → ReplicaState) (files : R → ℕ → List ℕ) (f : R → Type 0) (s : R → Status) (most n : ℕ) → ((r : R) → f r → StandFor (files r) (state r)) → (xs : List R) → AllByRecursion (IsGoing f s most) xs → length xs ≡ n
    → (node : ℕ) → is_within n node ≡ true → StandFor (files_of (map files xs) node) (nodes_of (map state xs) node)
node-stands-at state files f s most n each xs all size zero within = absurd (none-within n within)
node-stands-at state files f s most n each xs all size (suc i) within = each-stands state files f s most each xs i all (let less = within-less n i within in omega (arith, less, size))

pub seen-stands : {R : Type 0} (state : R → ReplicaState) (files : R → ℕ → List ℕ) (f : R → Type 0) (s : R → Status) → ((r : R) → f r → StandFor (files r) (state r)) → (k : KeptWorld R) (w : WorldState) → IsSeenAs state files f s k w → HasFiles StandFor w
seen-stands state files f s each k w is =
    subst (HasFiles StandFor) (sym is.shown.view) (node-stands-at state files f s (k.stepped + 1) k.system.cluster.nodes each k.system.nodes is.whole.system.going is.whole.system.node_count)

-- a store over an empty disk in memory, and what its node shows
pub record IsFreshStore (k : Kept MemState) (shown : Status) : Type 0 where
  pub empty : state_by mem_history k ≡ fresh_replica
  pub files : (file : ℕ) → reads_of (mem_history k.disk).now file ≡ []
  pub faultless : IsUnfailing k.disk × (k.shut ≡ false)
  pub file : shown.file ≡ 1

-- each of these has P
abbrev pub Each : {A : Type 0} → List A → (A → Type 0) → Type 0
Each xs P = AllByRecursion P xs
