-- The values of a line with lists.
use Rattle.std.proofs.Common.{◌≡◌, ℕ, Bool, true, false, List, [], ◌∷◌, length, take, get_or, arith, refl, sym, ap, subst, Some}
use Rattle.schedule_text.specs.declared.lines.form.Form.{Form}
use Rattle.schedule_text.specs.declared.lines.form.Form.TheVariants as form
use Rattle.schedule_text.specs.declared.lines.form.TheConstants.{EVENTS, SCRIPT}
use Rattle.schedule_text.specs.declared.lines.found.Words.{Words}
use Rattle.schedule_text.specs.declared.lines.found.Tail.{Tail}
use Rattle.schedule_text.specs.declared.lines.found.Tail.TheVariants as tail
use Rattle.schedule_text.specs.declared.lines.found.Found.{Found}
use Rattle.schedule_text.specs.Forms.{row_of, IsAmong}
use Rattle.schedule_text.specs.Lines.{Lists}
use Rattle.schedule_text.specs.Spellings.{with_lists}
use Rattle.schedule_text.specs.Found.{AreWords, IsTail, IsFound, SpellsLists, SayFound}

-- ---- the words that were found

are_words : (b : Bool) (text : List ℕ) (t : Tail) (words : Words) → t ≡ tail.Lists words → IsTail b text t → AreWords text words.writes.now words.reads.now words.ops.now
are_words true text tail.End words e is = absurd is
are_words true text (tail.Lists w) words e is = let same : w ≡ words = cc in subst (λ v. AreWords text v.writes.now v.reads.now v.ops.now) same is
are_words false text tail.End words e is = absurd cc
are_words false text (tail.Lists w) words e is = absurd is

pub words_of_found :
    (forms : List Form) (line : List ℕ) (found : Found) (words : Words) → found.tail ≡ tail.Lists words → IsFound forms line found →
    (text : List ℕ) × AreWords text words.writes.now words.reads.now words.ops.now
words_of_found forms line found words e is = (is.tail, are_words (row_of found.form).lists is.tail found.tail words e is.tail_is)

-- ---- the form that has lists

tail_has_lists : (b : Bool) (text : List ℕ) (t : Tail) (words : Words) → t ≡ tail.Lists words → IsTail b text t → b ≡ true
tail_has_lists true text t words e is = refl
tail_has_lists false text tail.End words e is = absurd cc
tail_has_lists false text (tail.Lists w) words e is = absurd is

append_has_lists : (f : Form) → IsAmong EVENTS f → (row_of f).lists ≡ true → f ≡ form.Append
append_has_lists form.Append among e = refl
append_has_lists _ among e = absurd cc

script_has_lists : (f : Form) → IsAmong SCRIPT f → (row_of f).lists ≡ true → f ≡ form.ScriptAppend
script_has_lists form.ScriptAppend among e = refl
script_has_lists _ among e = absurd cc

has_lists : (forms : List Form) (line : List ℕ) (found : Found) (words : Words) → found.tail ≡ tail.Lists words → IsFound forms line found → (row_of found.form).lists ≡ true
has_lists forms line found words e is = tail_has_lists (row_of found.form).lists is.tail found.tail words e is.tail_is

-- ---- the appends that say what was found

two_numbers : (values : List ℕ) → length values ≡ 5 → take 2 values ≡ get_or values 0 0 ∷ get_or values 1 0 ∷ []
two_numbers [] room = absurd (omega arith)
two_numbers (a ∷ []) room = absurd (omega arith)
two_numbers (a ∷ b ∷ values) room = refl

tail_spells : (found : Found) (words : Words) (l : Lists) → found.tail ≡ tail.Lists words → SpellsLists (tail.Lists words) (Some l) → SpellsLists found.tail (Some l)
tail_spells found words l e spelled = subst (λ t. SpellsLists t (Some l)) (sym e) spelled

pub append_said :
    (line : List ℕ) (found : Found) (words : Words) (client server : ℕ) (writes reads : List (List ℕ)) (ops : List ℕ) →
    found.tail ≡ tail.Lists words → IsFound EVENTS line found →
    client ≡ get_or found.numbers.values 0 0 → server ≡ get_or found.numbers.values 1 0 →
    SpellsLists (tail.Lists words) (Some (record { writes = writes; reads = reads; ops = ops })) →
    SayFound found (with_lists form.Append (client ∷ server ∷ []) writes reads ops)
append_said line found words client server writes reads ops e is one two spelled =
    let f = append_has_lists found.form is.among (has_lists EVENTS line found words e is) in
    let count : take (length (row_of found.form).names) found.numbers.values ≡ take 2 found.numbers.values = ap (λ g. take (length (row_of g).names) found.numbers.values) f in
    let numbers = two_numbers found.numbers.values is.room in
    record { lists = Some (record { writes = writes; reads = reads; ops = ops }); spelled = tail_spells found words _ e spelled; same = cc }

pub script_append_said :
    (line : List ℕ) (found : Found) (words : Words) (writes reads : List (List ℕ)) (ops : List ℕ) →
    found.tail ≡ tail.Lists words → IsFound SCRIPT line found →
    SpellsLists (tail.Lists words) (Some (record { writes = writes; reads = reads; ops = ops })) →
    SayFound found (with_lists form.ScriptAppend [] writes reads ops)
script_append_said line found words writes reads ops e is spelled =
    let f = script_has_lists found.form is.among (has_lists SCRIPT line found words e is) in
    let none : take (length (row_of found.form).names) found.numbers.values ≡ [] = ap (λ g. take (length (row_of g).names) found.numbers.values) f in
    record { lists = Some (record { writes = writes; reads = reads; ops = ops }); spelled = tail_spells found words _ e spelled; same = cc }
