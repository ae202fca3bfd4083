-- Envelopes and refusals, and the items that tell of them.
use Rattle.std.proofs.Common.{◌≡◌, ℕ, zero, suc, ◌+◌, ◌<◌, ◌≤◌, List, [], ◌∷◌, ◌++◌, length, take, get_or, arith, refl, sym, ◌∙◌, ap, subst, length-append, Bool, true, false, if◌then◌else◌}
use Rattle.std.proofs.lemmas.List.{take_more}
use Rattle.proto_model.specs.declared.client_message.FromServer.TheVariants as answer
use Rattle.net_model.specs.declared.mail.Mail.{Mail}
use Rattle.net_model.specs.declared.mail.Mail.TheVariants as mail
use Rattle.net_model.specs.declared.mail.Envelope.{Envelope}
use Rattle.net_model.specs.declared.shown.Item.{Item}
use Rattle.net_model.specs.declared.outcome.Outcome.{Outcome}
use Rattle.net_model.specs.Briefs.{brief_of, items_from}
use Rattle.world_law.specs.Worlds.{WorldState}
use Rattle.schedule_replay.specs.Drills.{is_refusal, refusals}
use Rattle.schedule_replay.specs.Drilling.{tells_refusal, one_more_if, refusals_told, AreNumberedFrom, items_of, IsTallyOf}
use Rattle.schedule_replay.specs.declared.drilling.Tally.{Tally}
use Rattle.schedule_replay.proofs.Made.{Made}

tells : (m : Mail) → tells_refusal (brief_of m) ≡ is_refusal m
tells (mail.FromServer (answer.Committed request id)) = refl
tells (mail.FromServer (answer.Pending request id)) = refl
tells (mail.FromServer (answer.Refused request refusal)) = refl
tells (mail.FromServer (answer.Heads from committed heads)) = refl
tells (mail.FromServer (answer.Entry r)) = refl
tells (mail.FromServer (answer.Flushed k)) = refl
tells (mail.FromServer (answer.Unserved refusal)) = refl
tells (mail.ToNode m) = refl
tells (mail.FromNode m) = refl
tells (mail.ToServer m) = refl

-- ---- items of envelopes

items_size : (number : ℕ) (envelopes : List Envelope) → length (items_from number envelopes) ≡ length envelopes
items_size number [] = refl
items_size number (e ∷ envelopes) = let rest = items_size (number + 1) envelopes in omega (arith, rest)

items_refused : (number : ℕ) (envelopes : List Envelope) → refusals_told (items_from number envelopes) ≡ refusals envelopes
items_refused number [] = refl
items_refused number (e ∷ envelopes) =
    let rest = items_refused (number + 1) envelopes in
    rw (tells e.message, rest) refl

items_numbered : (number : ℕ) (envelopes : List Envelope) → AreNumberedFrom number (items_from number envelopes)
items_numbered number [] = tt
items_numbered number (e ∷ envelopes) = (refl, items_numbered (number + 1) envelopes)

-- ---- one after the other

by_test : (b : Bool) (m n k : ℕ) → m ≡ n + k → (if b then m + 1 else m) ≡ (if b then n + 1 else n) + k
by_test true m n k e = omega (arith, e)
by_test false m n k e = e

refusals-append : (xs ys : List Envelope) → refusals (xs ++ ys) ≡ refusals xs + refusals ys
refusals-append [] ys = omega arith
refusals-append (e ∷ xs) ys = by_test (is_refusal e.message) _ _ _ (refusals-append xs ys)

told-append : (xs ys : List Item) → refusals_told (xs ++ ys) ≡ refusals_told xs + refusals_told ys
told-append [] ys = omega arith
told-append (i ∷ xs) ys = by_test (tells_refusal i.brief) _ _ _ (told-append xs ys)

refusals_few : (envelopes : List Envelope) → refusals envelopes ≤ length envelopes
refusals_few [] = omega arith
refusals_few (e ∷ envelopes) = one (is_refusal e.message) (refusals envelopes) (length envelopes) (refusals_few envelopes)
  where
    one : (b : Bool) (m n : ℕ) → m ≤ n → (if b then m + 1 else m) ≤ suc n
    one true m n less = omega (arith, less)
    one false m n less = omega (arith, less)

-- the number of an item among those that are numbered on
pub number_at : (number : ℕ) (items : List Item) (i : ℕ) (item : Item) → i < length items → AreNumberedFrom number items → item ≡ get_or items i item → item.number ≡ number + i
number_at number [] i item less all is = absurd (omega arith)
number_at number (x ∷ items) zero item less all is = ap (λ (y : Item). y.number) is ∙ (all.0 ∙ omega arith)
number_at number (x ∷ items) (suc i) item less all is = number_at (number + 1) items i item (omega arith) all.1 is ∙ omega arith

-- one item more
pub told_next : (items : List Item) (i : ℕ) (item : Item) → i < length items → item ≡ get_or items i item
    → refusals_told (take (i + 1) items) ≡ (if tells_refusal item.brief then refusals_told (take i items) + 1 else refusals_told (take i items))
told_next items i item less is =
    let one : refusals_told (item ∷ []) ≡ (if tells_refusal item.brief then 1 else 0) = refl in
    let more : take (i + 1) items ≡ take i items ++ item ∷ [] = take_more items i item less ∙ ap (λ x. take i items ++ x ∷ []) (sym is) in
    ap refusals_told more ∙ (told-append (take i items) (item ∷ []) ∙ by_one (tells_refusal item.brief) (refusals_told (take i items)))
  where
    by_one : (b : Bool) (m : ℕ) → m + (if b then 0 + 1 else 0) ≡ (if b then m + 1 else m)
    by_one true m = omega arith
    by_one false m = omega arith

-- and what was counted before them
pub refused_next : (items : List Item) (i : ℕ) (item : Item) (first count more : ℕ) → i < length items → item ≡ get_or items i item
    → count ≡ first + refusals_told (take i items) → more ≡ one_more_if (tells_refusal item.brief) count → more ≡ first + refusals_told (take (i + 1) items)
refused_next items i item first count more less is so_far next =
    next ∙ (by_one (tells_refusal item.brief) count (refusals_told (take i items)) so_far ∙ ap (λ n. first + n) (sym (told_next items i item less is)))
  where
    by_one : (b : Bool) (m n : ℕ) → m ≡ first + n → (if b then m + 1 else m) ≡ first + (if b then n + 1 else n)
    by_one true m n e = omega (arith, e)
    by_one false m n e = e

-- ---- the tally of a world

pub tally_numbered : (w : WorldState) (t : Tally) (o : Outcome) (new : WorldState) → IsTallyOf w t → Made w o new → AreNumberedFrom (t.envelopes + 1) (items_of o)
tally_numbered w t o new is m =
    let N : List Item → Type 0 = λ xs. AreNumberedFrom (t.envelopes + 1) xs in
    subst N (sym m.told) (rw is.envelopes (items_numbered (length w.sent + 1) m.more))

pub tally_fits : (w : WorldState) (t : Tally) → IsTallyOf w t → t.refused ≤ t.envelopes
tally_fits w t is = omega (arith, is.envelopes, is.refused, refusals_few w.sent)

pub tally_more : (w : WorldState) (s t : Tally) (o : Outcome) (new : WorldState) → IsTallyOf w s → Made w o new
    → t.envelopes ≡ s.envelopes + length (items_of o) → t.refused ≡ s.refused + refusals_told (items_of o) → IsTallyOf new t
tally_more w s t o new is m more refused =
    let size : length (items_of o) ≡ length m.more = ap length m.told ∙ items_size (length w.sent + 1) m.more in
    let told : refusals_told (items_of o) ≡ refusals m.more = ap refusals_told m.told ∙ items_refused (length w.sent + 1) m.more in
    let all : length new.sent ≡ length w.sent + length m.more = ap length m.sent ∙ length-append w.sent m.more in
    let both : refusals new.sent ≡ refusals w.sent + refusals m.more = ap refusals m.sent ∙ refusals-append w.sent m.more in
    record {
      envelopes = omega (arith, is.envelopes, more, size, all);
      refused = omega (arith, is.refused, refused, told, both);
    }
