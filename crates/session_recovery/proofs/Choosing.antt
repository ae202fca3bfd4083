-- The best of the first reports.
use Rattle.std.proofs.Common.{◌≡◌, ℕ, zero, suc, ◌+◌, ◌-◌, ◌<◌, ◌≤◌, nat_lt, nat_le, ◌==◌, ◌&&◌, ◌||◌, if◌then◌else◌, Bool, true, false, List, [], ◌∷◌, ◌++◌, length, take, drop, get_or, Some, None, refl, ap, sym, subst, ◌∙◌, arith, length-append}
use Rattle.std.proofs.lemmas.Bool.Decides.{nat_tests}
use Rattle.std.specs.List.{Contains}
use Rattle.std.proofs.lemmas.List.{take-append-le}
use Rattle.proto_model.specs.declared.message.Report.{Report}
use Rattle.proto_model.specs.Choices.{beats, better, best, recovery_choice, IsChosen}

-- later reports leave the choice as it is
pub choice-append : (q : ℕ) (reports : List Report) (r : Report) → 1 ≤ q → q ≤ length reports → recovery_choice q (reports ++ r ∷ []) ≡ recovery_choice q reports
choice-append q [] r a b = absurd (omega (arith, a, b))
choice-append q (x ∷ xs) r a b =
    let low : q - 1 ≤ length xs = omega (arith, b) in
    let long : length (xs ++ r ∷ []) ≡ length xs + 1 = length-append xs (r ∷ []) in
    let same : take (q - 1) (xs ++ r ∷ []) ≡ take (q - 1) xs = take-append-le (q - 1) xs (r ∷ []) low in
    let t1 : nat_le q (suc (length (xs ++ r ∷ []))) ≡ true = grind (arith, nat_tests, b, long) in
    let t2 : nat_le q (suc (length xs)) ≡ true = grind (arith, nat_tests, b) in
    rw (t1, t2, same) refl

chosen_row : (b : Bool) (q n : ℕ) (x r : Report) → nat_le q n ≡ b → (if b then Some x else None) ≡ Some r → q ≤ n
chosen_row true q n x r e h = grind (arith, nat_tests, e)
chosen_row false q n x r e h = absurd (let f : None ≡ Some r = h in cc)

-- there is a choice only among so many
pub chosen_among : (q : ℕ) (reports : List Report) (r : Report) → recovery_choice q reports ≡ Some r → q ≤ length reports
chosen_among q [] r h = absurd (let e : None ≡ Some r = h in cc)
chosen_among q (x ∷ xs) r h = chosen_row (nat_le q (suc (length xs))) q (suc (length xs)) _ r refl h

-- ---- the choice is the greatest

-- (adopted, length, node) of the one that is chosen over the other come first
abbrev over : ℕ → ℕ → ℕ → ℕ → ℕ → ℕ → Bool
over a l n a' l' n' = nat_lt a' a || (a' == a && (nat_lt l' l || (l' == l && nat_lt n n')))

over_after : (a l n a' l' n' a'' l'' n'' : ℕ) → over a l n a' l' n' ≡ false → over a'' l'' n'' a' l' n' ≡ true → over a l n a'' l'' n'' ≡ false
over_after a l n a' l' n' a'' l'' n'' h k = grind (arith, nat_tests)

over_self : (a l n : ℕ) → over a l n a l n ≡ false
over_self a l n = grind (arith, nat_tests)

-- what isn't chosen over a isn't chosen over the better of a and r, nor is r
better_row : (y a r : Report) (b : Bool) → beats r a ≡ b → beats y a ≡ false → beats y (if b then r else a) ≡ false
better_row y a r true e h = over_after y.adopted y.length y.node a.adopted a.length a.node r.adopted r.length r.node h e
better_row y a r false e h = h

second_row : (a r : Report) (b : Bool) → beats r a ≡ b → beats r (if b then r else a) ≡ false
second_row a r true e = over_self r.adopted r.length r.node
second_row a r false e = e

not_over : (y a : Report) (reports : List Report) → beats y a ≡ false → beats y (best a reports) ≡ false
not_over y a [] h = h
not_over y a (r ∷ reports) h = not_over y (better a r) reports (better_row y a r (beats r a) refl h)

none_over : (a : Report) (reports : List Report) (k : ℕ) (d : Report) → k < length reports → beats (get_or reports k d) (best a reports) ≡ false
none_over a [] k d h = absurd (omega arith)
none_over a (r ∷ reports) zero d h = not_over r (better a r) reports (second_row a r (beats r a) refl)
none_over a (r ∷ reports) (suc k) d h = none_over (better a r) reports k d (omega arith)

first_over : (a : Report) (reports : List Report) → beats a (best a reports) ≡ false
first_over a reports = not_over a a reports (over_self a.adopted a.length a.node)

contains_row : (a r x : Report) (reports : List Report) (b : Bool) → Contains ((if b then r else a) ∷ reports) x → Contains (a ∷ r ∷ reports) x
contains_row a r x reports true (zero, lt, e) = (1, omega arith, e)
contains_row a r x reports false (zero, lt, e) = (0, omega arith, e)
contains_row a r x reports b (suc k, lt, e) = (suc (suc k), omega arith, e)

best_among : (a : Report) (reports : List Report) → Contains (a ∷ reports) (best a reports)
best_among a [] = (0, omega arith, refl)
best_among a (r ∷ reports) = contains_row a r (best a (r ∷ reports)) reports (beats r a) (best_among (better a r) reports)

all_over : (a : Report) (reports : List Report) (x : Report) → Contains (a ∷ reports) x → beats x (best a reports) ≡ false
all_over a reports x (zero, lt, e) = let f : a ≡ x = e in ap (λ y. beats y (best a reports)) (sym f) ∙ first_over a reports
all_over a reports x (suc k, lt, e) = let f : get_or reports k x ≡ x = e in ap (λ y. beats y (best a reports)) (sym f) ∙ none_over a reports k x (omega arith)

front : (q : ℕ) (r : Report) (reports : List Report) → 1 ≤ q → take q (r ∷ reports) ≡ r ∷ take (q - 1) reports
front zero r reports h = absurd (omega arith)
front (suc q) r reports h = let e : suc q - 1 ≡ q = omega arith in rw e refl

best_chosen : (q : ℕ) (reports : List Report) (d : Report) → 1 ≤ q → q ≤ length reports → IsChosen q reports (best (get_or reports 0 d) (take (q - 1) (drop 1 reports)))
best_chosen q [] d a b = absurd (omega (arith, a, b))
best_chosen q (r ∷ reports) d a b =
    let e = front q r reports a in
    record {
      enough = b;
      among = subst (λ (l : List Report). Contains l (best r (take (q - 1) reports))) (sym e) (best_among r (take (q - 1) reports));
      greatest = λ x h. all_over r (take (q - 1) reports) x (subst (λ (l : List Report). Contains l x) e h);
    }

choice_row : (q : ℕ) (r : Report) (reports : List Report) (choice : Report) (b : Bool) → 1 ≤ q → nat_le q (suc (length reports)) ≡ b →
    (if b then Some (best r (take (q - 1) reports)) else None) ≡ Some choice → IsChosen q (r ∷ reports) choice
choice_row q r reports choice true some e h =
    let same : best r (take (q - 1) reports) ≡ choice = cc in
    subst (λ (x : Report). IsChosen q (r ∷ reports) x) same (best_chosen q (r ∷ reports) r some (grind (arith, nat_tests, e)))
choice_row q r reports choice false some e h = absurd (let f : None ≡ Some choice = h in cc)

-- what is chosen is the greatest of the first reports
pub choice_greatest : (q : ℕ) (reports : List Report) (choice : Report) → 1 ≤ q → recovery_choice q reports ≡ Some choice → IsChosen q reports choice
choice_greatest q [] choice some h = absurd (let f : None ≡ Some choice = h in cc)
choice_greatest q (r ∷ reports) choice some h = choice_row q r reports choice (nat_le q (suc (length reports))) some refl h
