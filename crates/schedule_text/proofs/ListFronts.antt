-- What begins lists of keys and ops.
use Rattle.std.proofs.Common.{◌≡◌, ◌≢◌, ◌⊎◌, ℕ, zero, suc, ◌+◌, true, List, [], ◌∷◌, ◌++◌, length, arith, refl, sym, ◌∙◌, ap, subst, append_assoc, length-append, codes, inl, inr, lit≤, flat_map}
use Rattle.std.specs.List.{AllByRecursion, list_all}
use Rattle.std.proofs.lemmas.Bool.{and_parts, and_from}
use Rattle.std.proofs.lemmas.List.{append-nil}
use Rattle.tx_model.specs.Applications.{IsKey, are_key_bytes, is_key_byte}
use Rattle.schedule_text.specs.Words.{EndsWord}
use Rattle.schedule_text.specs.Lists.{next_key, keys_spelling, ops_word, AreOps, SpellsKeys, IsKeysWord}
use Rattle.schedule_text.specs.Fronts.{AreKeysThen, AreNoKeysThen}
use Rattle.schedule_text.specs.Found.{BeginsLists, BeginsOps, StopsInKeys, keys_text}
use Rattle.schedule_text.proofs.WordLemmas.{cut_unique, front_of_word}
use Rattle.schedule_text.proofs.KeyLemmas.{no_hyphen, HasNoSpace-keys, HasNoSpace-keys_word}
use Rattle.schedule_text.proofs.OpsLemmas.{is_ops_byte, test_from_ops, hyphen_or_not, SpellsOpsWord-itself}

nil_parts : (a b : List ℕ) → [] ≡ a ++ b → a ≡ []
nil_parts [] b e = refl
nil_parts (x ∷ a) b e = absurd cc

-- two ways to cut a text
two_cuts : (a b c d : List ℕ) → a ++ b ≡ c ++ d → ((m : List ℕ) × (a ≡ c ++ m)) ⊎ ((r : List ℕ) × (c ≡ a ++ r) × (b ≡ r ++ d))
two_cuts [] b c d e = inr (c, refl, e)
two_cuts (x ∷ a) b [] d e = inl (x ∷ a, refl)
two_cuts (x ∷ a) b (y ∷ c) d e =
    let first : x ≡ y = cc in
    elim (two_cuts a b c d cc) [
      | inl m ↦ inl (m.0, let same = m.1 in cc)
      | inr r ↦ inr (r.0, let same = r.1 in cc, r.2)
    ]

-- ---- one key

are_key_bytes-front : (front more : List ℕ) → are_key_bytes (front ++ more) ≡ true → are_key_bytes front ≡ true
are_key_bytes-front [] more are = refl
are_key_bytes-front (b ∷ front) more are =
    let parts = and_parts (is_key_byte b) (are_key_bytes (front ++ more)) are in
    and_from (is_key_byte b) (are_key_bytes front) parts.0 (are_key_bytes-front front more parts.1)

IsKey-front : (key : List ℕ) (b : ℕ) (front more : List ℕ) → IsKey key → key ≡ (b ∷ front) ++ more → IsKey (b ∷ front)
IsKey-front key b front more is same =
    let short = is.short in
    let lengths = ap length same in
    let both = length-append (b ∷ front) more in
    record {
      some = omega arith;
      short = omega (arith, short, lengths, both);
      bytes = are_key_bytes-front (b ∷ front) more (subst (λ t. are_key_bytes t ≡ true) same is.bytes);
    }

-- ---- keys, at least one

record SomeKeys (word : List ℕ) : Type 0 where
  key : List ℕ
  keys : List (List ℕ)
  is : IsKey key
  are : AllByRecursion IsKey keys
  text : word ≡ key ++ flat_map next_key keys

abbrev KeyFront : List ℕ → Type 0
KeyFront front = (front ≡ []) ⊎ (SomeKeys front ⊎ ((keys : List ℕ) × SomeKeys keys × (front ≡ keys ++ 44 ∷ [])))

one_key : (key : List ℕ) → IsKey key → SomeKeys key
one_key key is = record { key = key; keys = []; is = is; are = tt; text = sym (append-nil key) }

in_key : (key front more : List ℕ) → IsKey key → key ≡ front ++ more → KeyFront front
in_key key [] more is same = inl refl
in_key key (b ∷ front) more is same = inr (inl (one_key (b ∷ front) (IsKey-front key b front more is same)))

-- a key, a comma and what begins further keys
joined : (key front : List ℕ) → IsKey key → KeyFront front → KeyFront (key ++ 44 ∷ front)
joined key front is (inl none) = inr (inr (key, one_key key is, ap (λ t. key ++ 44 ∷ t) none))
joined key front is (inr (inl some)) = inr (inl (record { key = key; keys = some.key ∷ some.keys; is = is; are = (some.is, some.are); text = ap (λ t. key ++ 44 ∷ t) some.text }))
joined key front is (inr (inr more)) =
    inr (inr (
      key ++ 44 ∷ more.0,
      record { key = key; keys = more.1.key ∷ more.1.keys; is = is; are = (more.1.is, more.1.are); text = ap (λ t. key ++ 44 ∷ t) more.1.text },
      ap (λ t. key ++ 44 ∷ t) more.2 ∙ sym (append_assoc key (44 ∷ more.0) (44 ∷ [])),
    ))

behind_key : (key text front rest more : List ℕ) → IsKey key → ((r : List ℕ) → text ≡ r ++ more → KeyFront r) → front ≡ key ++ rest → 44 ∷ text ≡ rest ++ more → KeyFront front
behind_key key text front [] more is deeper cut same = inr (inl (subst SomeKeys (sym (cut ∙ append-nil key)) (one_key key is)))
behind_key key text front (s ∷ rest) more is deeper cut same =
    let comma : s ≡ 44 = cc in
    subst KeyFront (sym (cut ∙ ap (λ b. key ++ b ∷ rest) comma)) (joined key rest is (deeper rest cc))

front_of_keys : (key : List ℕ) (keys : List (List ℕ)) (front more : List ℕ) → IsKey key → AllByRecursion IsKey keys → key ++ flat_map next_key keys ≡ front ++ more → KeyFront front
front_of_keys key [] front more is are same = elim (two_cuts key [] front more same) [
  | inl m ↦ in_key key front m.0 is m.1
  | inr r ↦ inr (inl (subst SomeKeys (sym (r.1 ∙ (ap (λ t. key ++ t) (nil_parts r.0 more r.2) ∙ append-nil key))) (one_key key is)))
]
front_of_keys key (next ∷ keys) front more is are same = elim (two_cuts key (44 ∷ (next ++ flat_map next_key keys)) front more same) [
  | inl m ↦ in_key key front m.0 is m.1
  | inr r ↦ behind_key key (next ++ flat_map next_key keys) front r.0 more is (λ rest cut. front_of_keys next keys rest more are.0 are.1 cut) r.1 r.2
]

keys_word : (word : List ℕ) → SomeKeys word → IsKeysWord word
keys_word word some = (some.key ∷ some.keys, record { valid = (some.is, some.are); text = some.text })

no_hyphen_keys : (word : List ℕ) → SomeKeys word → word ≢ codes "-"
no_hyphen_keys word some same = no_hyphen some.key (flat_map next_key some.keys) some.is (sym same ∙ some.text)

-- ---- what begins a list of keys

abbrev StopsAfterComma : List ℕ → Type 0
StopsAfterComma front = (keys : List ℕ) × (front ≡ keys ++ 44 ∷ []) × (keys ≢ codes "-") × IsKeysWord keys

from_key_front : (front : List ℕ) → KeyFront front → (front ≡ []) ⊎ (IsKeysWord front ⊎ StopsAfterComma front)
from_key_front front (inl none) = inl none
from_key_front front (inr (inl some)) = inr (inl (keys_word front some))
from_key_front front (inr (inr more)) = inr (inr (more.0, more.2, no_hyphen_keys more.0 more.1, keys_word more.0 more.1))

keys_front : (keys : List (List ℕ)) (front more : List ℕ) → AllByRecursion IsKey keys → keys_spelling keys ≡ front ++ more → (front ≡ []) ⊎ (IsKeysWord front ⊎ StopsAfterComma front)
keys_front [] [] more are same = inl refl
keys_front [] (b ∷ front) more are same =
    let first : 45 ≡ b = cc in
    let none = nil_parts front more cc in
    inr (inl ([], record { valid = tt; text = cc }))
keys_front (key ∷ keys) front more are same = from_key_front front (front_of_keys key keys front more are.0 are.1 same)

-- behind a list of keys that was taken
pub keys_behind :
    (keys : List (List ℕ)) (tail text more word rest : List ℕ) → AllByRecursion IsKey keys → EndsWord tail →
    AreKeysThen text word rest → 32 ∷ (keys_spelling keys ++ tail) ≡ text ++ more → (rest ≡ []) ⊎ (tail ≡ rest ++ more)
keys_behind keys tail text more word [] are ends taken same = inl refl
keys_behind keys tail text more word (s ∷ rest) are ends taken same =
    let whole : 32 ∷ (keys_spelling keys ++ tail) ≡ 32 ∷ (word ++ ((s ∷ rest) ++ more)) =
    same ∙ (ap (λ t. t ++ more) taken.text_is ∙ ap (λ t. 32 ∷ t) (append_assoc word (s ∷ rest) more)) in
    let parts = cut_unique (keys_spelling keys) tail word ((s ∷ rest) ++ more) (HasNoSpace-keys keys are) ends (HasNoSpace-keys_word word taken.are) taken.ends cc in
    inr parts.1

-- no list of keys is in front
stop_in :
    (keys : List (List ℕ)) (tail : List ℕ) (t : ℕ) (front more : List ℕ) → AllByRecursion IsKey keys → EndsWord tail →
    AreNoKeysThen (t ∷ front) → 32 ∷ (keys_spelling keys ++ tail) ≡ (t ∷ front) ++ more → StopsInKeys (t ∷ front)
stop_in keys tail t front more are ends none same =
    let first : 32 ≡ t = cc in
    elim (front_of_word (keys_spelling keys) tail front more ends cc) [
      | inl x ↦ elim (keys_front keys front x.0 are x.1) [
        | inl empty ↦ inl cc
        | inr (inl word) ↦ let nil = append-nil front in absurd (none front [] word tt (cc))
        | inr (inr comma) ↦ inr (comma.0, let text = comma.1 in cc, comma.2, comma.3)
      ]
      | inr r ↦ let text = r.1 in absurd (none (keys_spelling keys) (32 ∷ r.0) (keys, record { valid = are; text = refl }) refl (cc))
    ]

pub keys_stop :
    (keys : List (List ℕ)) (tail text more : List ℕ) → AllByRecursion IsKey keys → EndsWord tail → text ≢ [] →
    AreNoKeysThen text → 32 ∷ (keys_spelling keys ++ tail) ≡ text ++ more → StopsInKeys text
keys_stop keys tail [] more are ends some none same = absurd (some refl)
keys_stop keys tail (t ∷ front) more are ends some none same = stop_in keys tail t front more are ends none same

-- ---- lists of keys that go on

record GoesOn (text : List ℕ) : Type 0 where
  keys : List (List ℕ)
  are : AllByRecursion IsKey keys
  more : List ℕ
  text_is : 32 ∷ keys_spelling keys ≡ text ++ more

abbrev a_key : List ℕ
a_key = 97 ∷ []

a_key_is : IsKey a_key
a_key_is = record { some = lit≤ tt; short = lit≤ tt; bytes = refl }

with_key : (keys : List (List ℕ)) → AllByRecursion IsKey keys → AllByRecursion IsKey (keys ++ a_key ∷ [])
with_key [] are = (a_key_is, tt)
with_key (key ∷ keys) are = (are.0, with_key keys are.1)

key_added : (keys : List (List ℕ)) → flat_map next_key (keys ++ a_key ∷ []) ≡ flat_map next_key keys ++ 44 ∷ 97 ∷ []
key_added [] = refl
key_added (key ∷ keys) = ap (λ t. next_key key ++ t) (key_added keys) ∙ sym (append_assoc (next_key key) (flat_map next_key keys) (44 ∷ 97 ∷ []))

after_comma : (word : List ℕ) (keys : List (List ℕ)) → word ≢ codes "-" → SpellsKeys word keys → GoesOn (32 ∷ (word ++ 44 ∷ []))
after_comma word [] other spelled = absurd (other spelled.text)
after_comma word (key ∷ keys) other spelled = record {
  keys = key ∷ (keys ++ a_key ∷ []);
  are = (spelled.valid.0, with_key keys spelled.valid.1);
  more = 97 ∷ [];
  text_is =
      ap (λ t. 32 ∷ (key ++ t)) (key_added keys) ∙ (ap (λ t. 32 ∷ t) (sym (append_assoc key (flat_map next_key keys) (44 ∷ 97 ∷ []))) ∙ (ap (λ t. 32 ∷ (t ++ 44 ∷ 97 ∷ [])) (sym spelled.text) ∙ ap (λ t. 32 ∷ t) (sym (append_assoc word (44 ∷ []) (97 ∷ [])))));
}

keys_go_on : (text : List ℕ) → StopsInKeys text → GoesOn text
keys_go_on text (inl space) = subst GoesOn (sym space) (record { keys = []; are = tt; more = codes "-"; text_is = refl })
keys_go_on text (inr comma) = subst GoesOn (sym comma.1) (after_comma comma.0 comma.3.0 comma.2 comma.3.1)

-- ---- ops

ops_bytes_of : (ops : List ℕ) → AreOps ops → list_all is_ops_byte (ops_word ops) ≡ true
ops_bytes_of [] are = refl
ops_bytes_of (b ∷ ops) are = test_from_ops (b ∷ ops) are.bytes

list_all-front : (front more : List ℕ) → list_all is_ops_byte (front ++ more) ≡ true → list_all is_ops_byte front ≡ true
list_all-front [] more are = refl
list_all-front (b ∷ front) more are =
    let parts = and_parts (is_ops_byte b) (list_all is_ops_byte (front ++ more)) are in
    and_from (is_ops_byte b) (list_all is_ops_byte front) parts.0 (list_all-front front more parts.1)

no_ops : AreOps []
no_ops = record { bytes = tt; other = λ e. cc }

pub BeginsOps-nothing : BeginsOps []
BeginsOps-nothing = record { ops = []; are = no_ops; more = 32 ∷ codes "-"; text = refl }

pub BeginsOps-bytes : (text ops : List ℕ) → text ≡ 32 ∷ ops → BeginsOps text → list_all is_ops_byte ops ≡ true
BeginsOps-bytes text ops cut begins =
    let same : ops_word begins.ops ≡ ops ++ begins.more = let whole = begins.text in cc in
    list_all-front ops begins.more (subst (λ t. list_all is_ops_byte t ≡ true) same (ops_bytes_of begins.ops begins.are))

some_ops : (b : ℕ) (ops : List ℕ) → list_all is_ops_byte (b ∷ ops) ≡ true → BeginsOps (32 ∷ b ∷ ops)
some_ops b ops are = elim (hyphen_or_not (b ∷ ops)) [
  | inl hyphen ↦ record { ops = []; are = no_ops; more = []; text = ap (λ t. 32 ∷ t) (sym hyphen ∙ sym (append-nil (b ∷ ops))) }
  | inr other ↦ record { ops = b ∷ ops; are = (SpellsOpsWord-itself (b ∷ ops) (omega arith) other are).valid; more = []; text = ap (λ t. 32 ∷ t) (sym (append-nil (b ∷ ops))) }
]

from_bytes : (ops : List ℕ) → list_all is_ops_byte ops ≡ true → BeginsOps (32 ∷ ops)
from_bytes [] are = record { ops = []; are = no_ops; more = codes "-"; text = refl }
from_bytes (b ∷ ops) are = some_ops b ops are

pub BeginsOps-from_bytes : (text ops : List ℕ) → text ≡ 32 ∷ ops → list_all is_ops_byte ops ≡ true → BeginsOps text
BeginsOps-from_bytes text ops cut are = subst BeginsOps (sym cut) (from_bytes ops are)

pub BeginsOps-other : (text : List ℕ) → ((ops : List ℕ) → text ≢ 32 ∷ ops) → BeginsOps text → text ≡ []
BeginsOps-other [] none begins = refl
BeginsOps-other (t ∷ front) none begins = let whole = begins.text in let first : 32 ≡ t = cc in absurd (none front (ap (λ b. b ∷ front) (sym first)))

-- ---- lists of keys, and ops

-- so many lists without keys
abbrev empties : ℕ → List (List (List ℕ))
empties zero = []
empties (suc n) = [] ∷ empties n

empties_are : (n : ℕ) → AllByRecursion (AllByRecursion IsKey) (empties n)
empties_are zero = tt
empties_are (suc n) = (tt, empties_are n)

empties_length : (n : ℕ) → length (empties n) ≡ n
empties_length zero = refl
empties_length (suc n) = omega (arith, empties_length n)

abbrev lists_then : List (List (List ℕ)) → List ℕ → List ℕ
lists_then lists ops = flat_map keys_text lists ++ 32 ∷ ops_word ops

EndsWord-lists_then : (lists : List (List (List ℕ))) (ops : List ℕ) → EndsWord (lists_then lists ops)
EndsWord-lists_then [] ops = refl
EndsWord-lists_then (keys ∷ lists) ops = refl

lists_cons : (keys : List (List ℕ)) (lists : List (List (List ℕ))) (ops : List ℕ) → lists_then (keys ∷ lists) ops ≡ 32 ∷ (keys_spelling keys ++ lists_then lists ops)
lists_cons keys lists ops = append_assoc (keys_text keys) (flat_map keys_text lists) (32 ∷ ops_word ops)

pub BeginsLists-nothing : (count : ℕ) → BeginsLists count []
BeginsLists-nothing count = record { lists = empties count; count_is = empties_length count; are = empties_are count; ops = []; ops_are = no_ops; more = lists_then (empties count) []; text = refl }

-- behind the last list
only_ops : (text : List ℕ) (lists : List (List (List ℕ))) → length lists ≡ 0 → (ops : List ℕ) → AreOps ops → (more : List ℕ) → lists_then lists ops ≡ text ++ more → BeginsOps text
only_ops text [] count ops are more same = record { ops = ops; are = are; more = more; text = same }
only_ops text (keys ∷ lists) count ops are more same = absurd (omega arith)

pub BeginsOps-lists : (count : ℕ) (text : List ℕ) → count ≡ 0 → BeginsLists count text → BeginsOps text
BeginsOps-lists count text e begins = only_ops text begins.lists (begins.count_is ∙ e) begins.ops begins.ops_are begins.more begins.text

pub BeginsLists-ops : (count : ℕ) (text : List ℕ) → count ≡ 0 → BeginsOps text → BeginsLists count text
BeginsLists-ops count text e begins = record { lists = []; count_is = sym e; are = tt; ops = begins.ops; ops_are = begins.are; more = begins.more; text = begins.text }

-- a space and keys, then a text with its beginning
before : (keys : List (List ℕ)) (tail text more word rest : List ℕ) → text ≡ 32 ∷ (word ++ rest) → word ≡ keys_spelling keys → tail ≡ rest ++ more → 32 ∷ (keys_spelling keys ++ tail) ≡ text ++ more
before keys tail text more word rest cut is same =
    ap (λ t. 32 ∷ (keys_spelling keys ++ t)) same ∙ (ap (λ w. 32 ∷ (w ++ (rest ++ more))) (sym is) ∙ (ap (λ t. 32 ∷ t) (sym (append_assoc word rest more)) ∙ ap (λ t. t ++ more) (sym cut)))

pub BeginsLists-before : (count k : ℕ) (text word rest : List ℕ) → count ≡ k + 1 → AreKeysThen text word rest → BeginsLists k rest → BeginsLists count text
BeginsLists-before count k text word rest e taken begins = record {
  lists = taken.are.0 ∷ begins.lists;
  count_is = omega (arith, begins.count_is);
  are = (taken.are.1.valid, begins.are);
  ops = begins.ops;
  ops_are = begins.ops_are;
  more = begins.more;
  text = lists_cons taken.are.0 begins.lists begins.ops ∙ before taken.are.0 (lists_then begins.lists begins.ops) text begins.more word rest taken.text_is taken.are.1.text begins.text;
}

-- behind a list
behind :
    (count k : ℕ) (text word rest : List ℕ) → count ≡ k + 1 → AreKeysThen text word rest → (lists : List (List (List ℕ))) →
    length lists ≡ count → AllByRecursion (AllByRecursion IsKey) lists → (ops : List ℕ) → AreOps ops → (more : List ℕ) →
    lists_then lists ops ≡ text ++ more → BeginsLists k rest
behind count k text word rest e taken [] many are ops ops_are more same = absurd (omega arith)
behind count k text word rest e taken (keys ∷ lists) many are ops ops_are more same =
    elim (keys_behind keys (lists_then lists ops) text more word rest are.0 (EndsWord-lists_then lists ops) taken (sym (lists_cons keys lists ops) ∙ same)) [
      | inl none ↦ subst (BeginsLists k) (sym none) (BeginsLists-nothing k)
      | inr is ↦ record { lists = lists; count_is = omega arith; are = are.1; ops = ops; ops_are = ops_are; more = more; text = is }
    ]

pub BeginsLists-behind : (count k : ℕ) (text word rest : List ℕ) → count ≡ k + 1 → AreKeysThen text word rest → BeginsLists count text → BeginsLists k rest
BeginsLists-behind count k text word rest e taken begins = behind count k text word rest e taken begins.lists begins.count_is begins.are begins.ops begins.ops_are begins.more begins.text

-- no list is in front
stops :
    (count k : ℕ) (text : List ℕ) → count ≡ k + 1 → text ≢ [] → AreNoKeysThen text → (lists : List (List (List ℕ))) →
    length lists ≡ count → AllByRecursion (AllByRecursion IsKey) lists → (ops more : List ℕ) →
    lists_then lists ops ≡ text ++ more → StopsInKeys text
stops count k text e some none [] many are ops more same = absurd (omega arith)
stops count k text e some none (keys ∷ lists) many are ops more same =
    keys_stop keys (lists_then lists ops) text more are.0 (EndsWord-lists_then lists ops) some none (sym (lists_cons keys lists ops) ∙ same)

pub BeginsLists-stops : (count k : ℕ) (text : List ℕ) → count ≡ k + 1 → text ≢ [] → AreNoKeysThen text → BeginsLists count text → StopsInKeys text
BeginsLists-stops count k text e some none begins = stops count k text e some none begins.lists begins.count_is begins.are begins.ops begins.more begins.text

pub BeginsLists-go_on : (count k : ℕ) (text : List ℕ) → count ≡ k + 1 → StopsInKeys text → BeginsLists count text
BeginsLists-go_on count k text e stops =
    let on = keys_go_on text stops in
    record {
      lists = on.keys ∷ empties k;
      count_is = omega (arith, empties_length k);
      are = (on.are, empties_are k);
      ops = [];
      ops_are = no_ops;
      more = on.more ++ lists_then (empties k) [];
      text = lists_cons on.keys (empties k) [] ∙ (ap (λ t. t ++ lists_then (empties k) []) on.text_is ∙ append_assoc text on.more (lists_then (empties k) []));
    }

-- ---- the keys of a text that stops behind a comma

no_push : (xs : List ℕ) (x : ℕ) → [] ≡ xs ++ x ∷ [] → ⊥
no_push [] x same = cc
no_push (y ∷ xs) x same = cc

last_byte : (a b : List ℕ) (x y : ℕ) → a ++ x ∷ [] ≡ b ++ y ∷ [] → a ≡ b
last_byte [] [] x y same = refl
last_byte [] (b ∷ bs) x y same = let nil : [] ≡ bs ++ y ∷ [] = cc in absurd (no_push bs y nil)
last_byte (a ∷ as') [] x y same = let nil : as' ++ x ∷ [] ≡ [] = cc in absurd (no_push as' x (sym nil))
last_byte (a ∷ as') (b ∷ bs) x y same = let rest = last_byte as' bs x y cc in cc

pub keys_of_stop : (text keys : List ℕ) → text ≡ 32 ∷ (keys ++ codes ",") → StopsInKeys text → IsKeysWord keys
keys_of_stop text keys is (inl space) = let none : [] ≡ keys ++ 44 ∷ [] = cc in absurd (no_push keys 44 none)
keys_of_stop text keys is (inr comma) =
    let whole = comma.1 in
    let one : comma.0 ≡ keys = last_byte comma.0 keys 44 44 cc in
    subst IsKeysWord one comma.3
