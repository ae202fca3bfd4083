-- Nodes without faults, one of which changed.
use Rattle.std.proofs.Common.{◌≡◌, ◌∙◌, ℕ, ◌+◌, ◌-◌, ◌≤◌, List, length, map, arith, sym, ap, subst, slice_index_or, slice_set}
use Rattle.std.specs.List.{AllByRecursion}
use Rattle.proto_model.specs.declared.message.Status.{Status}
use Rattle.proto_model.specs.Nodes.{IsShown}
use Rattle.proto_model.specs.Replicas.{ReplicaState, fresh_replica}
use Rattle.proto_model.specs.Tables.{put}
use Rattle.proto_model.proofs.TableLemmas.{AllByRecursion-more}
use Rattle.world_core.specs.Kept.{nodes_of, no_files}
use Rattle.world_core.specs.Fit.{IsGoing}
use Rattle.world_core.specs.Files.{SetsNode}
use Rattle.world_core.proofs.Rows.{seen_at, seen_set, all_at, all_set}

pub is_going_at : {R : Type 0} (f : R → Type 0) (s : R → Status) (most : ℕ) (xs : List R) (i : ℕ) (x : R) → 1 ≤ i → i ≤ length xs → x ≡ slice_index_or xs (i - 1) x → AllByRecursion (IsGoing f s most) xs → IsGoing f s most x
is_going_at f s most xs i x some fits is all = all_at (IsGoing f s most) xs i x some fits is all

pub all_faultless : {R : Type 0} (f : R → Type 0) (s : R → Status) (most : ℕ) (xs : List R) → AllByRecursion (IsGoing f s most) xs → AllByRecursion f xs
all_faultless f s most xs all = AllByRecursion-more (IsGoing f s most) f xs (λ r going. going.faultless) all

pub going_more : {R : Type 0} (f : R → Type 0) (s : R → Status) (most : ℕ) (xs : List R) → AllByRecursion (IsGoing f s most) xs → AllByRecursion (IsGoing f s (most + 1)) xs
going_more f s most xs all = AllByRecursion-more (IsGoing f s most) (IsGoing f s (most + 1)) xs (λ r going. record { faultless = going.faultless; file = let before = going.file in omega (arith, before) }) all

-- the changed node begins one file at most
pub going_set : {R : Type 0} (f : R → Type 0) (s : R → Status) (most : ℕ) (xs : List R) (i : ℕ) (x y : R) → 1 ≤ i → i ≤ length xs → x ≡ slice_index_or xs (i - 1) x → (f x → f y) → (s y).file ≤ (s x).file + 1
    → AllByRecursion (IsGoing f s most) xs → AllByRecursion (IsGoing f s (most + 1)) (slice_set xs (i - 1) y)
going_set f s most xs i x y some fits is faultless file all =
    let old = is_going_at f s most xs i x some fits is all in
    let new : IsGoing f s (most + 1) y = record { faultless = faultless old.faultless; file = let before = old.file in omega (arith, file, before) } in
    all_set (IsGoing f s (most + 1)) xs (i - 1) y new (going_more f s most xs all)

pub sets_node : {R : Type 0} (state : R → ReplicaState) (files_in : R → ℕ → List ℕ) (xs : List R) (i : ℕ) (x y : R) → 1 ≤ i → i ≤ length xs → x ≡ slice_index_or xs (i - 1) x → (after : ReplicaState) → (nodes_of (map state xs) i ≡ state x → state y ≡ after)
    → SetsNode state files_in xs (slice_set xs (i - 1) y) i after
sets_node state files_in xs i x y some fits is after changed = record {
  states = seen_set fresh_replica state xs i y some fits ∙ ap (put (nodes_of (map state xs)) i) (changed (seen_at fresh_replica state xs i x some fits is));
  bytes = files_in y;
  files = seen_set no_files files_in xs i y some fits;
}

pub shows : (r after : ReplicaState) (told status : Status) → r ≡ after → told ≡ status → IsShown r status → IsShown after told
shows r after told status same is shown = subst (λ x. IsShown x told) same (subst (λ x. IsShown r x) (sym is) shown)
