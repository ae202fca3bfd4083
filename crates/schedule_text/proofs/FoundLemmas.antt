-- What the reading of a line finds.
use Rattle.std.proofs.Common.{◌≡◌, ℕ, ◌<◌, Bool, true, false, List, [], ◌∷◌, ◌++◌, length, arith, refl, sym, ◌∙◌, ap, subst, append_assoc, Option, Some, None, flat_map}
use Rattle.schedule_text.specs.declared.lines.form.Form.{Form}
use Rattle.schedule_text.specs.declared.lines.found.Tail.{Tail}
use Rattle.schedule_text.specs.declared.lines.found.Tail.TheVariants as tail
use Rattle.schedule_text.specs.declared.lines.found.Found.{Found}
use Rattle.schedule_text.specs.Words.{EndsWord, IsCut}
use Rattle.schedule_text.specs.Lists.{IsKeysWord}
use Rattle.schedule_text.specs.Forms.{row_of, form_named}
use Rattle.schedule_text.specs.Lines.{Lists, Parts, FitsRest, AreNumbers, HasLists, number_text, lists_text, rest_text, Spells}
use Rattle.schedule_text.specs.Fronts.{IsNumberThen, AreKeysThen}
use Rattle.schedule_text.specs.Found.{IsTail, IsFound, SpellsLists, numbers_of, parts_from}
use Rattle.schedule_text.proofs.WordLemmas.{one_number, cut_unique, same_behind}
use Rattle.schedule_text.proofs.KeyLemmas.{HasNoSpace-keys_word}
use Rattle.schedule_text.proofs.SomeLemmas.{word_of_line, form_of_line}

-- ---- numbers

EndsWord-numbers : (numbers rest : List ℕ) → EndsWord rest → EndsWord (flat_map number_text numbers ++ rest)
EndsWord-numbers [] rest ends = ends
EndsWord-numbers (n ∷ numbers) rest ends = refl

-- numbers, and what follows them
abbrev numbers_then : List ℕ → List ℕ → List ℕ
numbers_then numbers rest = flat_map number_text numbers ++ rest

numbers_cons : (n : ℕ) (numbers rest : List ℕ) → numbers_then (n ∷ numbers) rest ≡ number_text n ++ (numbers_then numbers rest)
numbers_cons n numbers rest = append_assoc (number_text n) (flat_map number_text numbers) rest

-- the first of two lists of numbers of one text, and what follows it
after_one :
    (m n : ℕ) (ms ns a b : List ℕ) → AreNumbers (m ∷ ms) → AreNumbers (n ∷ ns) → EndsWord a → EndsWord b →
    numbers_then (m ∷ ms) a ≡ numbers_then (n ∷ ns) b → (m ≡ n) × (numbers_then ms a ≡ numbers_then ns b)
after_one m n ms ns a b small lesser ends stops same =
    one_number m n (numbers_then ms a) (numbers_then ns b) small.0 lesser.0 (EndsWord-numbers ms a ends) (EndsWord-numbers ns b stops)
    (sym (numbers_cons m ms a) ∙ (same ∙ numbers_cons n ns b))

-- where fewer numbers were taken, a number follows
pub number_follows :
    (ms ns a b : List ℕ) → AreNumbers ms → AreNumbers ns → length ms < length ns → EndsWord a → EndsWord b →
    numbers_then ms a ≡ numbers_then ns b → (n : ℕ) × ((rest : List ℕ) × IsNumberThen a n rest)
number_follows [] [] a b small lesser fewer ends stops same = absurd (omega arith)
number_follows (m ∷ ms) [] a b small lesser fewer ends stops same = absurd (omega arith)
number_follows [] (n ∷ ns) a b small lesser fewer ends stops same =
    (n, (numbers_then ns b, record { text_is = same ∙ numbers_cons n ns b; ends = EndsWord-numbers ns b stops; fits = lesser.0 }))
number_follows (m ∷ ms) (n ∷ ns) a b small lesser fewer ends stops same =
    let next = after_one m n ms ns a b small lesser ends stops same in
    number_follows ms ns a b small.1 lesser.1 (omega arith) ends stops next.1

-- as many numbers in front of a text are the same
pub same_numbers : (ms ns a b : List ℕ) → AreNumbers ms → AreNumbers ns → length ms ≡ length ns → EndsWord a → EndsWord b → numbers_then ms a ≡ numbers_then ns b → (ms ≡ ns) × (a ≡ b)
same_numbers [] [] a b small lesser many ends stops same = (refl, same)
same_numbers (m ∷ ms) [] a b small lesser many ends stops same = absurd (omega arith)
same_numbers [] (n ∷ ns) a b small lesser many ends stops same = absurd (omega arith)
same_numbers (m ∷ ms) (n ∷ ns) a b small lesser many ends stops same =
    let next = after_one m n ms ns a b small lesser ends stops same in
    let rest = same_numbers ms ns a b small.1 lesser.1 (omega arith) ends stops next.1 in
    let first = next.0 in
    let more = rest.0 in
    (cc, rest.1)

-- ---- lists

-- a list of keys that was taken
pub keys_cut : (text word rest keys more : List ℕ) → AreKeysThen text word rest → IsKeysWord keys → EndsWord more → text ≡ 32 ∷ (keys ++ more) → (word ≡ keys) × (rest ≡ more)
keys_cut text word rest keys more taken are stops same =
    cut_unique word rest keys more (HasNoSpace-keys_word word taken.are) taken.ends (HasNoSpace-keys_word keys are) stops (same_behind (word ++ rest) (keys ++ more) (sym taken.text_is ∙ same))

pub EndsWord-lists : (lists : Option Lists) → EndsWord (lists_text lists)
EndsWord-lists None = tt
EndsWord-lists (Some l) = refl

-- some lists of a tail
pub lists_of_tail : (b : Bool) (text : List ℕ) (t : Tail) → IsTail b text t → (lists : Option Lists) × SpellsLists t lists
lists_of_tail false text tail.End is = (None, tt)
lists_of_tail true text (tail.Lists w) is =
    (Some (record { writes = is.write_keys.0; reads = is.read_keys.0; ops = is.some_ops.0 }), (is.write_keys.1, is.read_keys.1, is.some_ops.1))
lists_of_tail false text (tail.Lists w) is = absurd is
lists_of_tail true text tail.End is = absurd is

-- the text of a tail's lists
pub text_of_tail : (b : Bool) (text : List ℕ) (t : Tail) (lists : Option Lists) → IsTail b text t → SpellsLists t lists → HasLists b lists × (text ≡ lists_text lists)
text_of_tail false text tail.End None is spelled = (tt, is)
text_of_tail false text tail.End (Some l) is spelled = absurd spelled
text_of_tail true text (tail.Lists w) (Some l) is spelled =
    let writes = spelled.0.text in
    let reads = spelled.1.text in
    let ops = spelled.2.text in
    let whole = is.text_is in
    (record { write_keys = spelled.0.valid; read_keys = spelled.1.valid; ops_bytes = spelled.2.valid }, cc)
text_of_tail true text (tail.Lists w) None is spelled = absurd spelled
text_of_tail false text (tail.Lists w) lists is spelled = absurd is
text_of_tail true text tail.End lists is spelled = absurd is

-- ---- the parts of a line

-- a line in one of the forms, whose first word was found
pub line_of_form :
    (forms : List Form) (line word rest : List ℕ) (f : Form) (p : Parts) → IsCut line word rest → form_named forms word ≡ Some f →
    Spells forms line p →
    (p.form ≡ f) × (rest_text p.numbers p.lists ≡ rest) × FitsRest (length (row_of f).names) (row_of f).lists p.numbers p.lists
line_of_form forms line word rest f p cut named is =
    let parts = word_of_line p line word rest cut is.text in
    let both : Some p.form ≡ Some f = sym (form_of_line forms p line word rest cut is) ∙ named in
    let one : p.form ≡ f = cc in
    (one, parts.1, subst (λ g. FitsRest (length (row_of g).names) (row_of g).lists p.numbers p.lists) one is.form)

-- a line has the parts that were found, with any lists that its tail spells
pub spells_found : (forms : List Form) (line : List ℕ) (f : Found) (lists : Option Lists) → IsFound forms line f → SpellsLists f.tail lists → Spells forms line (parts_from f lists)
spells_found forms line f lists is spelled =
    let tail = text_of_tail (row_of f.form).lists is.tail f.tail lists is.tail_is spelled in
    record {
      short = is.short;
      text = is.text ∙ ap (λ t. (row_of f.form).word ++ (flat_map number_text (numbers_of f) ++ t)) tail.1;
      form = record { count_is = is.count; small = is.numbers; lists_fit = tail.0 };
      among = is.among;
    }

-- and there are such lists
pub some_parts : (forms : List Form) (line : List ℕ) (f : Found) → IsFound forms line f → (lists : Option Lists) × Spells forms line (parts_from f lists)
some_parts forms line f is =
    let lists = lists_of_tail (row_of f.form).lists is.tail f.tail is.tail_is in
    (lists.0, spells_found forms line f lists.0 is lists.1)
