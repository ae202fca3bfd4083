-- Keys, and words that are lists of keys with a comma between them.
use Rattle.std.proofs.Common.{◌≡◌, ◌≢◌, ℕ, ◌<◌, ◌≤◌, Bool, true, false, eqb, List, [], ◌∷◌, ◌++◌, length, get_or, arith, refl, sym, ◌∙◌, ap, subst, codes}
use Rattle.std.specs.Prelude.{◌&&◌, ◌↔◌, IsTrue, flat_map}
use Rattle.std.specs.List.{All, AllByRecursion, list_all, slice_split, join_with_byte}
use Rattle.std.proofs.lemmas.Bool.{and_parts, and_from}
use Rattle.std.proofs.lemmas.Bool.Decides.{nat_tests}
use Rattle.std.proofs.lemmas.List.{append-nil}
use Rattle.std.proofs.lemmas.List.Elements.{All-from_recursion}
use Rattle.std.proofs.lemmas.List.Recursion.{same_from_clauses}
use Rattle.std.proofs.lemmas.List.Splits.{slice_split_none, slice_split_at, length-slice_split, join_with_byte-slice_split}
use Rattle.tx_model.specs.Applications.{IsKey, is_key, is_key_byte, are_key_bytes}
use Rattle.tx_model.specs.Transactions.{IsName}
use Rattle.schedule_text.specs.Lists.{next_key, keys_spelling, SpellsKeys, IsKeysWord}
use Rattle.schedule_text.specs.Words.{HasNoSpace}

-- ---- one key

key_bytes : (bytes : List ℕ) → are_key_bytes bytes ≡ list_all is_key_byte bytes
key_bytes bytes = same_from_clauses are_key_bytes (list_all is_key_byte) (λ b t. is_key_byte b && t) refl (λ _ _. refl) (λ _ _. refl) bytes

-- bytes of a right number are a key where each of them is a key's byte
pub is_key-within : (bytes : List ℕ) (r : Bool) → 1 ≤ length bytes → length bytes ≤ 64 → r ≡ list_all is_key_byte bytes → r ≡ is_key bytes
is_key-within bytes r some short is = let same = key_bytes bytes in grind (arith, nat_tests)

pub IsKey-from_test : (key : List ℕ) → is_key key ≡ true → IsKey key
IsKey-from_test key is = record { some = grind (arith, nat_tests); short = grind (arith, nat_tests); bytes = grind (arith, nat_tests) }

pub test_from_IsKey : (key : List ℕ) → IsKey key → is_key key ≡ true
test_from_IsKey key is =
    let some = is.some in
    let short = is.short in
    let bytes = is.bytes in
    grind (arith, nat_tests)

pub IsName-from_key : (key : List ℕ) → IsKey key → IsName key
IsName-from_key key is = record { some = is.some; short = is.short }

-- a key's byte is a digit or stands after the digits, and is ASCII
key_byte_range : (b : ℕ) → is_key_byte b ≡ true → (48 ≤ b) × (b ≤ 122)
key_byte_range b is = (grind (arith, nat_tests), grind (arith, nat_tests))

each_byte : (P : ℕ → Type 0) → ((b : ℕ) → (48 ≤ b) × (b ≤ 122) → P b) → (bytes : List ℕ) → are_key_bytes bytes ≡ true → AllByRecursion P bytes
each_byte P holds [] is = tt
each_byte P holds (b ∷ bytes) is =
    let parts = and_parts (is_key_byte b) (are_key_bytes bytes) is in
    (holds b (key_byte_range b parts.0), each_byte P holds bytes parts.1)

no_spaces : (bytes : List ℕ) → AllByRecursion (λ b. b ≢ 32) bytes → HasNoSpace bytes
no_spaces [] none = tt
no_spaces (b ∷ bytes) none = (none.0, no_spaces bytes none.1)

HasNoSpace-key : (key : List ℕ) → IsKey key → HasNoSpace key
HasNoSpace-key key is = no_spaces key (each_byte (λ b. b ≢ 32) (λ b range. omega arith) key is.bytes)

-- ---- lists of keys

abbrev pub is_comma : ℕ → Bool
is_comma b = eqb b 44

no_comma : (key : List ℕ) → IsKey key → All (λ b. is_comma b ≡ false) key
no_comma key is = All-from_recursion (λ b. is_comma b ≡ false) key (each_byte (λ b. is_comma b ≡ false) (λ b range. grind (arith, nat_tests)) key is.bytes)

-- what is joined by commas is cut there again
cut_again : (key : List ℕ) (keys : List (List ℕ)) → IsKey key → AllByRecursion IsKey keys → slice_split is_comma (key ++ flat_map next_key keys) ≡ key ∷ keys
cut_again key [] is are = ap (slice_split is_comma) (append-nil key) ∙ slice_split_none is_comma key (no_comma key is)
cut_again key (next ∷ keys) is are =
    slice_split_at is_comma key 44 (next ++ flat_map next_key keys) (no_comma key is) refl ∙ ap (λ ks. key ∷ ks) (cut_again next keys are.0 are.1)

joined : (key : List ℕ) (keys : List (List ℕ)) → join_with_byte 44 (key ∷ keys) ≡ keys_spelling (key ∷ keys)
joined key [] = sym (append-nil key)
joined key (next ∷ keys) = ap (λ text. key ++ 44 ∷ text) (joined next keys)

-- a text is the spelling of its parts
spelled_by_parts : (word : List ℕ) (parts : List (List ℕ)) → 1 ≤ length parts → join_with_byte 44 parts ≡ word → word ≡ keys_spelling parts
spelled_by_parts word [] some is = absurd (omega arith)
spelled_by_parts word (key ∷ keys) some is = sym is ∙ joined key keys

abbrev pub parts_of : List ℕ → List (List ℕ)
parts_of word = slice_split is_comma word

spelled_by_its_parts : (word : List ℕ) → word ≡ keys_spelling (parts_of word)
spelled_by_its_parts word =
    spelled_by_parts word (parts_of word) (omega (arith, length-slice_split is_comma word)) (join_with_byte-slice_split 44 word)

-- a list of keys that is not empty is the parts of its word
parts_again : (word : List ℕ) (keys : List (List ℕ)) → word ≢ codes "-" → SpellsKeys word keys → parts_of word ≡ keys
parts_again word [] other spelled = absurd (other spelled.text)
parts_again word (key ∷ keys) other spelled = ap parts_of spelled.text ∙ cut_again key keys spelled.valid.0 spelled.valid.1

pub keys_are_parts : (word : List ℕ) → word ≢ codes "-" → IsKeysWord word → SpellsKeys word (parts_of word)
keys_are_parts word other is = subst (SpellsKeys word) (sym (parts_again word is.0 other is.1)) is.1

all_keys : (keys : List (List ℕ)) → list_all is_key keys ≡ true → AllByRecursion IsKey keys
all_keys [] are = tt
all_keys (key ∷ keys) are =
    let parts = and_parts (is_key key) (list_all is_key keys) are in
    (IsKey-from_test key parts.0, all_keys keys parts.1)

test_from_keys : (keys : List (List ℕ)) → AllByRecursion IsKey keys → list_all is_key keys ≡ true
test_from_keys [] are = refl
test_from_keys (key ∷ keys) are = and_from (is_key key) (list_all is_key keys) (test_from_IsKey key are.0) (test_from_keys keys are.1)

-- a word other than the hyphen is a list of keys where all its parts are keys
pub tells_keys : (word : List ℕ) (r : Bool) → word ≢ codes "-" → r ≡ list_all is_key (parts_of word) → IsTrue r ↔ IsKeysWord word
tells_keys word r other is = (
  λ passed. (parts_of word, record { valid = all_keys (parts_of word) (sym is ∙ passed); text = spelled_by_its_parts word }),
  λ keys. is ∙ test_from_keys (parts_of word) (keys_are_parts word other keys).valid,
)

HasNoSpace-append : (xs ys : List ℕ) → HasNoSpace xs → HasNoSpace ys → HasNoSpace (xs ++ ys)
HasNoSpace-append [] ys p q = q
HasNoSpace-append (x ∷ xs) ys p q = (p.0, HasNoSpace-append xs ys p.1 q)

HasNoSpace-more_keys : (keys : List (List ℕ)) → AllByRecursion IsKey keys → HasNoSpace (flat_map next_key keys)
HasNoSpace-more_keys [] are = tt
HasNoSpace-more_keys (key ∷ keys) are =
    ((λ e. absurd (omega (arith, e))), HasNoSpace-append key (flat_map next_key keys) (HasNoSpace-key key are.0) (HasNoSpace-more_keys keys are.1))

pub HasNoSpace-keys : (keys : List (List ℕ)) → AllByRecursion IsKey keys → HasNoSpace (keys_spelling keys)
HasNoSpace-keys [] are = ((λ e. absurd (omega (arith, e))), tt)
HasNoSpace-keys (key ∷ keys) are = HasNoSpace-append key (flat_map next_key keys) (HasNoSpace-key key are.0) (HasNoSpace-more_keys keys are.1)

pub HasNoSpace-keys_word : (word : List ℕ) → IsKeysWord word → HasNoSpace word
HasNoSpace-keys_word word is = subst HasNoSpace (sym is.1.text) (HasNoSpace-keys is.0 is.1.valid)

-- ---- one word is one list of keys

-- a hyphen is no key, nor does a list of keys begin with one
pub no_hyphen : (key : List ℕ) (more : List ℕ) → IsKey key → codes "-" ≡ key ++ more → ⊥
no_hyphen [] more is same = let some = is.some in omega arith
no_hyphen (b ∷ key) more is same =
    let range = key_byte_range b (and_parts (is_key_byte b) (are_key_bytes key) is.bytes).0 in
    let first : 45 ≡ b = ap (λ t. get_or t 0 0) same in
    omega arith

pub keys_spelling_injective : (a b : List (List ℕ)) → AllByRecursion IsKey a → AllByRecursion IsKey b → keys_spelling a ≡ keys_spelling b → a ≡ b
keys_spelling_injective [] [] p q same = refl
keys_spelling_injective [] (key ∷ keys) p q same = absurd (no_hyphen key (flat_map next_key keys) q.0 same)
keys_spelling_injective (key ∷ keys) [] p q same = absurd (no_hyphen key (flat_map next_key keys) p.0 (sym same))
keys_spelling_injective (k ∷ ks) (l ∷ ls) p q same = sym (cut_again k ks p.0 p.1) ∙ ap parts_of same ∙ cut_again l ls q.0 q.1

-- each part of a list of keys is a name
pub name_at : (word : List ℕ) (i : ℕ) (key : List ℕ) → word ≢ codes "-" → IsKeysWord word → i < length (parts_of word) → key ≡ get_or (parts_of word) i key → IsName key
name_at word i key other is within at =
    IsName-from_key key (subst IsKey (sym at) (All-from_recursion IsKey (parts_of word) (keys_are_parts word other is).valid i key within))
