-- A node casts its vote.
use Rattle.std.proofs.Common.{◌≡◌, ◌≢◌, ℕ, ◌<◌, ◌≤◌, ◌⊎◌, ◌==◌, ◌||◌, if◌then◌else◌, Bool, true, false, arith, refl, ap, sym, ◌∙◌, inl, inr, List, [], ◌∷◌, ◌++◌, length, append-nil}
use Rattle.proto_model.specs.Replicas.{ReplicaState}
use Rattle.world_law.specs.OneLog.{is_vote, voted}
use Rattle.world_law.specs.Worlds.{Vote, vote_of}
use Rattle.std.proofs.lemmas.Bool.Decides.{nat_tests}

-- a list with one more vote
last_step : (x : Vote) (votes : List Vote) (v : Vote) (s k i : ℕ) → voted (votes ++ v ∷ []) s k i ≡ (voted votes s k i || is_vote s k i v)
    → voted (x ∷ (votes ++ v ∷ [])) s k i ≡ (voted (x ∷ votes) s k i || is_vote s k i v)
last_step x votes v s k i ih = grind (arith, ih)

voted_last : (votes : List Vote) (v : Vote) (s k i : ℕ) → voted (votes ++ v ∷ []) s k i ≡ (voted votes s k i || is_vote s k i v)
voted_last [] v s k i = grind arith
voted_last (x ∷ votes) v s k i = last_step x votes v s k i (voted_last votes v s k i)

-- the vote that a node casts
pub cast : ℕ → ReplicaState → ℕ → ℕ → ℕ → Bool
cast i n s k j = if n.adopted == 0 then false else is_vote s k j (record { node = i; session = n.adopted; length = length n.log })

cast_test : (votes : List Vote) (v : Vote) (b : Bool) (s k j : ℕ)
    → voted (votes ++ (if b then [] else v ∷ [])) s k j ≡ (voted votes s k j || (if b then false else is_vote s k j v))
cast_test votes v true s k j = ap (λ (l : List Vote). voted l s k j) (append-nil votes) ∙ grind arith
cast_test votes v false s k j = voted_last votes v s k j

voted_cast : (votes : List Vote) (i : ℕ) (n : ReplicaState) (s k j : ℕ) → voted (votes ++ vote_of i n) s k j ≡ (voted votes s k j || cast i n s k j)
unfolding cast
voted_cast votes i n s k j = cast_test votes (record { node = i; session = n.adopted; length = length n.log }) (n.adopted == 0) s k j

-- the node's vote is cast
pub cast_own : (votes : List Vote) (i : ℕ) (n : ReplicaState) (k : ℕ) → 0 < n.adopted → k ≤ length n.log
    → voted (votes ++ vote_of i n) n.adopted k i ≡ true
unfolding cast
cast_own votes i n k some le = voted_cast votes i n n.adopted k i ∙ grind (arith, nat_tests)

pub cast_old : (votes : List Vote) (i : ℕ) (n : ReplicaState) (s k j : ℕ) → voted votes s k j ≡ true → voted (votes ++ vote_of i n) s k j ≡ true
cast_old votes i n s k j h = voted_cast votes i n s k j ∙ rw h refl

pub cast_other : (votes : List Vote) (i : ℕ) (n : ReplicaState) (s k j : ℕ) → s ≢ n.adopted
    → voted (votes ++ vote_of i n) s k j ≡ voted votes s k j
unfolding cast
cast_other votes i n s k j ne = voted_cast votes i n s k j ∙ grind (arith, nat_tests)

either_of : (a b : Bool) → (a || b) ≡ true → (a ≡ true) ⊎ (b ≡ true)
either_of a b e = grind arith

cast_is : (i : ℕ) (n : ReplicaState) (s k j : ℕ) → cast i n s k j ≡ true → (i ≡ j) × (s ≡ n.adopted) × (k ≤ length n.log) × (0 < n.adopted)
unfolding cast
cast_is i n s k j h = grind (arith, nat_tests)

pub cast_inv : (votes : List Vote) (i : ℕ) (n : ReplicaState) (s k j : ℕ) → voted (votes ++ vote_of i n) s k j ≡ true
    → (voted votes s k j ≡ true) ⊎ ((i ≡ j) × (s ≡ n.adopted) × (k ≤ length n.log) × (0 < n.adopted))
cast_inv votes i n s k j h =
    elim (either_of (voted votes s k j) (cast i n s k j) (sym (voted_cast votes i n s k j) ∙ h)) [ inl e ↦ inl e | inr e ↦ inr (cast_is i n s k j e) ]

fewer_step : (v : Vote) (votes : List Vote) (s k j i : ℕ) → j ≤ k → (voted votes s k i ≡ true → voted votes s j i ≡ true)
    → voted (v ∷ votes) s k i ≡ true → voted (v ∷ votes) s j i ≡ true
fewer_step v votes s k j i le ih h = grind (arith, nat_tests)

pub fewer : (votes : List Vote) (s k j i : ℕ) → j ≤ k → voted votes s k i ≡ true → voted votes s j i ≡ true
fewer [] s k j i le h = h
fewer (v ∷ votes) s k j i le h = fewer_step v votes s k j i le (fewer votes s k j i le) h

pub cast_others : (votes : List Vote) (i : ℕ) (n : ReplicaState) (s k j : ℕ) → i ≢ j → voted (votes ++ vote_of i n) s k j ≡ voted votes s k j
unfolding cast
cast_others votes i n s k j ne = voted_cast votes i n s k j ∙ grind (arith, nat_tests)

pub same_bools : (a b : Bool) → (a ≡ true → b ≡ true) → (b ≡ true → a ≡ true) → a ≡ b
same_bools a b f g = grind arith
