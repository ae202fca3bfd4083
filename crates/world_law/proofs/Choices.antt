-- The choice among reports.
use Rattle.std.proofs.Common.{◌≡◌, ℕ, suc, ◌+◌, ◌-◌, ◌<◌, ◌≤◌, ◌⊎◌, nat_le, if◌then◌else◌, Bool, true, false, arith, refl, ap, sym, ◌∙◌, inl, inr, subst, List, [], ◌∷◌, ◌++◌, length, take, take_all, length-append, Some, None}
use Rattle.proto_model.specs.Choices.{better, best, recovery_choice}
use Rattle.proto_model.specs.declared.message.Report.{Report}
use Rattle.std.proofs.lemmas.Bool.Decides.{nat_tests}
use Rattle.std.proofs.lemmas.List.{take-append-le}
use Rattle.world_law.proofs.Invariant.{OnList, IsListed}

-- later reports leave the choice as it is
pub choice_kept : (q : ℕ) (reports : List Report) (r : Report) → 1 ≤ q → q ≤ length reports
    → recovery_choice q (reports ++ r ∷ []) ≡ recovery_choice q reports
choice_kept q [] r a b = absurd (omega (arith, a, b))
choice_kept q (x ∷ xs) r a b =
    let low : q - 1 ≤ length xs = omega (arith, b) in
    let long : length (xs ++ r ∷ []) ≡ length xs + 1 = length-append xs (r ∷ []) in
    let same : take (q - 1) (xs ++ r ∷ []) ≡ take (q - 1) xs = take-append-le (q - 1) xs (r ∷ []) low in
    let t1 : nat_le q (suc (length (xs ++ r ∷ []))) ≡ true = grind (arith, nat_tests, b, long) in
    let t2 : nat_le q (suc (length xs)) ≡ true = grind (arith, nat_tests, b) in
    rw (t1, t2, same) refl

pub chosen_row : (b : Bool) (q n : ℕ) (x r : Report) → nat_le q n ≡ b → (if b then Some x else None) ≡ Some r → (q ≤ n) × (x ≡ r)
chosen_row true q n x r e h = (grind (arith, nat_tests, e), cc)
chosen_row false q n x r e h = absurd (let f : None ≡ Some r = h in cc)

-- there is a choice only among so many
pub chosen_among : (q : ℕ) (reports : List Report) (r : Report) → recovery_choice q reports ≡ Some r → q ≤ length reports
chosen_among q [] r h = absurd (let e : None ≡ Some r = h in cc)
chosen_among q (x ∷ xs) r h = (chosen_row (nat_le q (suc (length xs))) q (suc (length xs)) _ r refl h).0

none_row : (b : Bool) (q n : ℕ) (x : Report) → nat_le q n ≡ b → (if b then Some x else None) ≡ None → n < q
none_row true q n x e h = absurd (let f : Some x ≡ None = h in cc)
none_row false q n x e h = grind (arith, nat_tests, e)

-- there is none only among fewer
pub none_among : (q : ℕ) (reports : List Report) → 1 ≤ q → recovery_choice q reports ≡ None → length reports < q
none_among q [] some h = omega arith
none_among q (x ∷ xs) some h = none_row (nat_le q (suc (length xs))) q (suc (length xs)) _ refl h

pub kept_once_chosen : (q : ℕ) (reports : List Report) (r c : Report) → 1 ≤ q → recovery_choice q reports ≡ Some c
    → recovery_choice q (reports ++ r ∷ []) ≡ Some c
kept_once_chosen q reports r c some e = choice_kept q reports r some (chosen_among q reports c e) ∙ e

-- the best of some reports

unfoldable pub no_worse : Report → Report → Type 0
no_worse a b = (b.adopted < a.adopted) ⊎ ((b.adopted ≡ a.adopted) × (b.length ≤ a.length))

better_left : (a b : Report) → no_worse (better a b) a
unfolding no_worse
better_left a b = grind (arith, nat_tests)

better_right : (a b : Report) → no_worse (better a b) b
unfolding no_worse
better_right a b = grind (arith, nat_tests)

better_is : (a b : Report) → (better a b ≡ a) ⊎ (better a b ≡ b)
better_is a b = grind (arith, nat_tests)

no_worse_trans : (a b c : Report) → no_worse a b → no_worse b c → no_worse a c
unfolding no_worse
no_worse_trans a b c f g = grind arith

no_worse_refl : (a : Report) → no_worse a a
unfolding no_worse
no_worse_refl a = inr (refl, omega arith)

best_first : (a : Report) (rs : List Report) → no_worse (best a rs) a
best_first a [] = no_worse_refl a
best_first a (r ∷ rs) = no_worse_trans (best (better a r) rs) (better a r) a (best_first (better a r) rs) (better_left a r)

best_bounds : (a : Report) (rs : List Report) (i : ℕ) → IsListed i rs → (r : Report) × (r.node ≡ i) × OnList r rs × no_worse (best a rs) r
best_bounds a [] i l = absurd l
best_bounds a (r ∷ rs) i (inl e) = (r, e, inl refl, no_worse_trans (best (better a r) rs) (better a r) r (best_first (better a r) rs) (better_right a r))
best_bounds a (r ∷ rs) i (inr l) = (let m = best_bounds (better a r) rs i l in (m.0, m.1, inr m.2, m.3))

listed_step : (a r c : Report) (rs : List Report) → (c ≡ better a r) ⊎ OnList c rs → (c ≡ a) ⊎ ((c ≡ r) ⊎ OnList c rs)
listed_step a r c rs (inl e) = elim (better_is a r) [ inl f ↦ inl (e ∙ f) | inr f ↦ inr (inl (e ∙ f)) ]
listed_step a r c rs (inr l) = inr (inr l)

pub best_listed : (a : Report) (rs : List Report) → (best a rs ≡ a) ⊎ OnList (best a rs) rs
best_listed a [] = inl refl
best_listed a (r ∷ rs) = listed_step a r (best (better a r) rs) rs (best_listed (better a r) rs)

-- what a choice among no more than it needs is to those reports
pub record IsBest (c : Report) (rs : List Report) : Type 0 where
  pub listed : OnList c rs
  pub bounds : (i : ℕ) → IsListed i rs → (r : Report) × (r.node ≡ i) × OnList r rs × no_worse c r

is_best : (a : Report) (rs : List Report) → IsBest (best a rs) (a ∷ rs)
is_best a rs = record {
  listed = best_listed a rs;
  bounds = λ i l. elim l [
    | inl e ↦ (a, e, inl refl, best_first a rs)
    | inr k ↦ (let m = best_bounds a rs i k in (m.0, m.1, inr m.2, m.3))
  ];
}

pub choice_best : (q : ℕ) (rs : List Report) (c : Report) → length rs ≤ q → recovery_choice q rs ≡ Some c → IsBest c rs
choice_best q [] c le e = absurd (let f : None ≡ Some c = e in cc)
choice_best q (x ∷ xs) c le e =
    let whole : take (q - 1) xs ≡ xs = take_all (q - 1) xs (omega arith) in
    let row = chosen_row (nat_le q (suc (length xs))) q (suc (length xs)) (best x (take (q - 1) xs)) c refl e in
    subst (λ (r : Report). IsBest r (x ∷ xs)) (sym (ap (best x) whole) ∙ row.1) (is_best x xs)

-- a list with one more
pub listed_more : (i : ℕ) (rs : List Report) (x : Report) → IsListed i rs → IsListed i (rs ++ x ∷ [])
listed_more i [] x l = absurd l
listed_more i (r ∷ rs) x (inl e) = inl e
listed_more i (r ∷ rs) x (inr l) = inr (listed_more i rs x l)

pub listed_last : (rs : List Report) (x : Report) → IsListed x.node (rs ++ x ∷ [])
listed_last [] x = inl refl
listed_last (r ∷ rs) x = inr (listed_last rs x)

pub on_more : (c : Report) (rs : List Report) (x : Report) → OnList c rs → OnList c (rs ++ x ∷ [])
on_more c [] x l = absurd l
on_more c (r ∷ rs) x (inl e) = inl e
on_more c (r ∷ rs) x (inr l) = inr (on_more c rs x l)
