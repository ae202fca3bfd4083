-- Requests that wait: what is left of them, and what they are answered.
use Rattle.std.proofs.Common.{◌≡◌, ℕ, zero, suc, ◌+◌, ◌<◌, ◌≤◌, nat_le, nat_lt, Bool, true, false, List, [], ◌∷◌, ◌++◌, length, map, take, slice_get, None, Some, if◌then◌else◌, refl, ap, sym, subst, ◌∙◌, arith}
use Rattle.std.specs.List.{AllByRecursion}
use Rattle.std.proofs.lemmas.Bool.Decides.{nat_tests}
use Rattle.tx_model.specs.Spelling.{IsCount}
use Rattle.proto_model.specs.declared.client_message.FromServer.{FromServer}
use Rattle.proto_model.specs.Servers.{Waiting, is_due, waits_on}
use Rattle.proto_model.specs.Validity.{IsValidFromServer, IsWord}
use Rattle.partition_server.specs.Answers.{addressed}
use Rattle.partition_server.specs.Waits.{WaitUpTo}

-- ---- one more, and fewer

length-push : (waiting : List Waiting) (w : Waiting) → length (waiting ++ w ∷ []) ≡ suc (length waiting)
length-push [] w = refl
length-push (x ∷ waiting) w = ap suc (length-push waiting w)

pub waits_append : (last : ℕ) (waiting : List Waiting) (w : Waiting) → WaitUpTo last waiting → w.id ≡ last + 1 → IsWord w.request → WaitUpTo (last + 1) (waiting ++ w ∷ [])
waits_append last [] w ok next word = (record { place = omega (arith, next); some = omega (arith, next); request = word }, tt)
waits_append last (x ∷ waiting) w ok next word =
    let place = ok.0.place in
    let len = length-push waiting w in
    (record { place = omega (arith, place, len); some = ok.0.some; request = ok.0.request }, waits_append last waiting w ok.1 next word)

later : (last mark : ℕ) (w x : Waiting) (rest : List Waiting) → WaitUpTo last (w ∷ x ∷ rest) → mark < w.id → mark < x.id
later last mark w x rest ok less =
    let a = ok.0.place in
    let b = ok.1.0.place in
    omega (arith, a, b, less)

-- where the first one waits on, so do the others
all_wait_on : (last mark : ℕ) (w : Waiting) (waiting : List Waiting) → WaitUpTo last (w ∷ waiting) → mark < w.id → waits_on mark (w ∷ waiting) ≡ w ∷ waiting
all_wait_on last mark w [] ok less =
    let test : nat_lt mark w.id ≡ true = grind (arith, nat_tests, less) in
    ap (λ b. if b then w ∷ [] else []) test
all_wait_on last mark w (x ∷ rest) ok less =
    let test : nat_lt mark w.id ≡ true = grind (arith, nat_tests, less) in
    ap (λ b. if b then w ∷ waits_on mark (x ∷ rest) else waits_on mark (x ∷ rest)) test
    ∙ ap (λ l. w ∷ l) (all_wait_on last mark x rest ok.1 (later last mark w x rest ok less))

left_row : (last mark : ℕ) (w : Waiting) (waiting : List Waiting) (b : Bool) → nat_lt mark w.id ≡ b → WaitUpTo last (w ∷ waiting) → WaitUpTo last (waits_on mark waiting) →
    (mark < w.id → waits_on mark (w ∷ waiting) ≡ w ∷ waiting) → WaitUpTo last (if b then w ∷ waits_on mark waiting else waits_on mark waiting)
left_row last mark w waiting true e ok rest all =
    let less : mark < w.id = grind (arith, nat_tests, e) in
    let same : w ∷ waits_on mark waiting ≡ w ∷ waiting = ap (λ b. if b then w ∷ waits_on mark waiting else waits_on mark waiting) (sym e) ∙ all less in
    subst (λ (l : List Waiting). WaitUpTo last l) (sym same) ok
left_row last mark w waiting false e ok rest all = rest

pub waits_left : (last mark : ℕ) (waiting : List Waiting) → WaitUpTo last waiting → WaitUpTo last (waits_on mark waiting)
waits_left last mark [] ok = tt
waits_left last mark (w ∷ waiting) ok =
    left_row last mark w waiting (nat_lt mark w.id) refl ok (waits_left last mark waiting ok.1) (λ less. all_wait_on last mark w waiting ok less)

-- ---- what they are answered

abbrev pub AreValidAnswers : List (ℕ × FromServer) → Type 0
AreValidAnswers answers = AllByRecursion (λ (a : ℕ × FromServer). IsValidFromServer a.1) answers

valid_row : (b : Bool) (w : Waiting) (due : List Waiting) → IsValidFromServer (addressed w).1 → AreValidAnswers (map addressed due) → AreValidAnswers (map addressed (if b then w ∷ due else due))
valid_row true w due one rest = (one, rest)
valid_row false w due one rest = rest

pub due_valid : (mark last : ℕ) (waiting : List Waiting) → IsCount last → WaitUpTo last waiting → AreValidAnswers (map addressed (is_due mark waiting))
due_valid mark last [] small ok = tt
due_valid mark last (w ∷ waiting) small ok =
    let place = ok.0.place in
    let some = ok.0.some in
    valid_row (nat_le w.id mark) w (is_due mark waiting)
    (ok.0.request, record { some = some; below = omega (arith, place, small) })
    (due_valid mark last waiting small ok.1)

-- ---- one after another

pub at_place : (waiting : List Waiting) (k : ℕ) → k < length waiting → (w : Waiting) × (slice_get waiting k ≡ Some w)
at_place [] k low = absurd (omega (arith, low))
at_place (w ∷ waiting) zero low = (w, refl)
at_place (w ∷ waiting) (suc k) low = at_place waiting k (omega (arith, low))

answered_more : (waiting : List Waiting) (k : ℕ) (w : Waiting) → slice_get waiting k ≡ Some w → map addressed (take (suc k) waiting) ≡ map addressed (take k waiting) ++ addressed w ∷ []
answered_more [] k w at = absurd (let e : None ≡ Some w = at in cc)
answered_more (x ∷ waiting) zero w at = let e : Some x ≡ Some w = at in let same : x ≡ w = cc in ap (λ y. addressed y ∷ []) same
answered_more (x ∷ waiting) (suc k) w at = ap (λ l. addressed x ∷ l) (answered_more waiting k w at)

pub answered_next : (waiting : List Waiting) (k : ℕ) (w : Waiting) (due more : List (ℕ × FromServer)) (answer : ℕ × FromServer) → slice_get waiting k ≡ Some w → due ≡ map addressed (take k waiting) →
    answer ≡ addressed w → more ≡ due ++ answer ∷ [] → more ≡ map addressed (take (k + 1) waiting)
answered_next waiting k w due more answer at before is made =
    let next : suc k ≡ k + 1 = omega arith in
    made ∙ ((λ j. before j ++ is j ∷ []) ∙ (sym (answered_more waiting k w at) ∙ ap (λ n. map addressed (take n waiting)) next))

pub some_first : (waiting : List Waiting) (n : ℕ) → 0 < n → n ≤ length waiting → take n waiting ≡ [] → ⊥
some_first [] n some within none = omega (arith, some, within)
some_first (w ∷ waiting) zero some within none = omega (arith, some)
some_first (w ∷ waiting) (suc n) some within none = let e : w ∷ take n waiting ≡ [] = none in cc
