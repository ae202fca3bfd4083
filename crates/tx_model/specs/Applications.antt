-- The application: keys with numbers, what op texts make of them, and serial application of a log.
use Rattle.std.specs.Prelude.{◌≡◌, ℕ, ◌+◌, ◌*◌, ◌-◌, ◌^◌, ◌≤◌, Bool, true, ◌&&◌, ◌||◌, ◌==◌, nat_le, int_lt, int_le, ℤ, pos, neg_ℤ, ◌+ℤ◌, ◌≤ℤ◌, if◌then◌else◌, List, [], ◌∷◌, ◌++◌, length, take, map, flat_map, codes, Option, Some, None, bytes_eq}
use Rattle.std.specs.Fmt.{signed_decimal}
use Rattle.std.specs.List.{AllByRecursion}
use Rattle.std.specs.Ordering.{nat_cmp}
use Rattle.std.specs.declared.cmp.Ordering.{Ordering}
use Rattle.std.specs.Cmp.Lexicographic.{slice_cmp}
use Rattle.std.specs.FinMap as finite
use Rattle.std.specs.FinMap.{FinMap}
use Rattle.tx_model.specs.declared.op.Op.{Op}
use Rattle.tx_model.specs.declared.op.Op.TheVariants.{Set, Add, Del}
use Rattle.tx_model.specs.declared.record.Record.{Record}

-- ---- op texts

-- a letter from a to z, a digit, or an underscore
abbrev pub is_key_byte : ℕ → Bool
is_key_byte b = (nat_le 97 b && nat_le b 122) || ((nat_le 48 b && nat_le b 57) || b == 95)

abbrev pub are_key_bytes : List ℕ → Bool
are_key_bytes [] = true
are_key_bytes (b ∷ bytes) = is_key_byte b && are_key_bytes bytes

-- 1 to 64 such bytes
pub record IsKey (key : List ℕ) : Type 0 where
  pub some : 1 ≤ length key
  pub short : length key ≤ 64
  pub bytes : are_key_bytes key ≡ true

-- a number of an op
pub record IsAmount (n : ℤ) : Type 0 where
  pub least : neg_ℤ (pos 1000000000) ≤ℤ n
  pub most : n ≤ℤ pos 1000000000

abbrev pub IsOp : Op → Type 0
IsOp (Set key n) = IsKey key × IsAmount n
IsOp (Add key n) = IsKey key × IsAmount n
IsOp (Del key) = IsKey key

abbrev pub op_key : Op → List ℕ
op_key (Set key n) = key
op_key (Add key n) = key
op_key (Del key) = key

abbrev pub op_spelling : Op → List ℕ
op_spelling (Set key n) = codes "set " ++ (key ++ 32 ∷ signed_decimal n)
op_spelling (Add key n) = codes "add " ++ (key ++ 32 ∷ signed_decimal n)
op_spelling (Del key) = codes "del " ++ key

abbrev pub next_op : Op → List ℕ
next_op op = 59 ∷ op_spelling op

-- ops with a semicolon between them
abbrev pub ops_spelling : List Op → List ℕ
ops_spelling [] = []
ops_spelling (op ∷ ops) = op_spelling op ++ flat_map next_op ops

-- a text is these ops: it is their spelling
pub record SpellsOps (text : List ℕ) (ops : List Op) : Type 0 where
  pub valid : AllByRecursion IsOp ops
  pub text_is : text ≡ ops_spelling ops

-- ---- the ops of a text, by its words

abbrev pub onto_first : ℕ → List (List ℕ) → List (List ℕ)
onto_first b [] = (b ∷ []) ∷ []
onto_first b (piece ∷ pieces) = (b ∷ piece) ∷ pieces

-- what stands before, between and after the bytes that are this one
abbrev pub pieces : ℕ → List ℕ → List (List ℕ)
pieces separator [] = [] ∷ []
pieces separator (b ∷ bytes) = if b == separator then [] ∷ pieces separator bytes else onto_first b (pieces separator bytes)

abbrev pub is_key : List ℕ → Bool
is_key key = nat_le 1 (length key) && (nat_le (length key) 64 && are_key_bytes key)

abbrev pub digits_value : ℕ → List ℕ → ℕ
digits_value n [] = n
digits_value n (digit ∷ digits) = digits_value (n * 10 + (digit - 48)) digits

abbrev pub amount_value : List ℕ → ℤ
amount_value [] = pos 0
amount_value (b ∷ digits) = if b == 45 then neg_ℤ (pos (digits_value 0 digits)) else pos (digits_value 0 (b ∷ digits))

-- the text is the spelling of its value, which is in range
abbrev pub is_amount : List ℕ → Bool
is_amount text =
    bytes_eq (signed_decimal (amount_value text)) text
    && (int_le (neg_ℤ (pos 1000000000)) (amount_value text) && int_le (amount_value text) (pos 1000000000))

abbrev pub op_of_words : List (List ℕ) → Option Op
op_of_words (word ∷ key ∷ []) = if bytes_eq word (codes "del") && is_key key then Some (Del key) else None
op_of_words (word ∷ key ∷ amount ∷ []) =
    if is_key key && is_amount amount then
    (if bytes_eq word (codes "set") then Some (Set key (amount_value amount))
    else if bytes_eq word (codes "add") then Some (Add key (amount_value amount)) else None)
    else None
op_of_words _ = None

abbrev pub op_of : List ℕ → Option Op
op_of text = op_of_words (pieces 32 text)

abbrev pub onto_ops : Option Op → Option (List Op) → Option (List Op)
onto_ops (Some op) (Some ops) = Some (op ∷ ops)
onto_ops _ _ = None

abbrev pub ops_of_pieces : List (List ℕ) → Option (List Op)
ops_of_pieces [] = Some []
ops_of_pieces (piece ∷ rest) = onto_ops (op_of piece) (ops_of_pieces rest)

-- the ops that a text spells, or None where it is no op text
unfoldable pub ops_of : List ℕ → Option (List Op)
ops_of [] = Some []
ops_of (b ∷ bytes) = ops_of_pieces (pieces 59 (b ∷ bytes))

-- ---- the keys of ops

abbrev pub name_cmp : List ℕ → List ℕ → Ordering
name_cmp = slice_cmp nat_cmp

-- a map with these keys, and nothing at each
abbrev pub key_set : List (List ℕ) → FinMap name_cmp (Unit {0})
key_set [] = finite.empty
key_set (key ∷ keys) = finite.insert (key_set keys) key tt

-- the keys that ops name, in byte order, each once
abbrev pub touched_keys : List Op → List (List ℕ)
touched_keys ops = finite.keys (key_set (map op_key ops))

abbrev pub keys_of : Option (List Op) → List (List ℕ)
keys_of None = []
keys_of (Some ops) = touched_keys ops

-- the keys that a payload's ops name. A payload that is no op text names none
abbrev pub named_keys : List ℕ → List (List ℕ)
named_keys payload = keys_of (ops_of payload)

-- ---- what ops do

-- keys with their numbers, of i64
abbrev pub Application : Type 0
Application = FinMap name_cmp ℤ

abbrev pub empty_application : Application
empty_application = finite.empty

-- within the ends of i64
abbrev pub saturated : ℤ → ℤ
saturated n =
    if int_lt n (neg_ℤ (pos (2 ^ 63))) then neg_ℤ (pos (2 ^ 63))
    else if int_lt (pos (2 ^ 63 - 1)) n then pos (2 ^ 63 - 1) else n

abbrev pub number_or_zero : Option ℤ → ℤ
number_or_zero None = pos 0
number_or_zero (Some n) = n

abbrev pub after_op : Application → Op → Application
after_op app (Set key n) = finite.insert app key n
after_op app (Add key n) = finite.insert app key (saturated (number_or_zero (finite.get app key) +ℤ n))
after_op app (Del key) = finite.remove app key

abbrev pub after_ops : Application → List Op → Application
after_ops app [] = app
after_ops app (op ∷ ops) = after_ops (after_op app op) ops

abbrev pub after_read : Application → Option (List Op) → Application
after_read app None = app
after_read app (Some ops) = after_ops app ops

-- what a payload makes of an application. One that is no op text changes nothing
abbrev pub after_payload : Application → List ℕ → Application
after_payload app payload = after_read app (ops_of payload)

-- ---- serial application

abbrev pub after_records : Application → List Record → Application
after_records app [] = app
after_records app (r ∷ records) = after_records (after_payload app r.tx.payload) records

-- the application after the first m transactions of a log, in order
abbrev pub serial : List Record → ℕ → Application
serial log m = after_records empty_application (take m log)

-- ---- what is printed

abbrev pub pair_text : (List ℕ × ℤ) → List ℕ
pair_text pair = 32 ∷ pair.0 ++ 61 ∷ signed_decimal pair.1

-- a space and key=value for each key, in byte order
abbrev pub application_text : Application → List ℕ
application_text app = flat_map pair_text (finite.entries app)
