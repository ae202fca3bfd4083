-- Reading a body from left to right: whether the bytes are in form, and what they then say.
use Rattle.std.specs.Prelude.{ℕ, zero, suc, ◌+◌, ◌^◌, Bool, true, ◌&&◌, ◌||◌, nat_le, nat_lt, ◌==◌, List, [], ◌∷◌, length, take, drop, slice_index, Option, Some, None, if◌then◌else◌}
use Rattle.std.specs.Int.{Width, w32, w64, byte_len, from_be_bytes}
use Rattle.tx_model.specs.declared.record.Record.{Record}
use Rattle.tx_model.specs.declared.meta.Meta.{Meta}
use Rattle.tx_model.specs.declared.meta.Meta.TheVariants.{Promise, Adopt, Low, Roll, Value}
use Rattle.tx_model.specs.Transactions.{Transaction, is_before, are_apart}

-- the number at a place
abbrev pub number : Width → ℕ → List ℕ → ℕ
number w at bytes = from_be_bytes w (take (byte_len w) (drop at bytes))

-- ---- names

abbrev pub is_name_at : List ℕ → Bool
is_name_at bytes =
    nat_le 1 (slice_index bytes 0) && (nat_le (slice_index bytes 0) 64 && nat_lt (slice_index bytes 0) (length bytes))

abbrev pub name_at : List ℕ → List ℕ
name_at bytes = take (slice_index bytes 0) (drop 1 bytes)

abbrev pub after_name : List ℕ → List ℕ
after_name bytes = drop (slice_index bytes 0) (drop 1 bytes)

-- names at the front that rise strictly, the first from above the last
unfoldable pub are_names : List ℕ → ℕ → List ℕ → Bool
are_names last zero bytes = true
are_names last (suc n) bytes =
    is_name_at bytes && (is_before last (name_at bytes) && are_names (name_at bytes) n (after_name bytes))

unfoldable pub names_of : ℕ → List ℕ → List (List ℕ)
names_of zero bytes = []
names_of (suc n) bytes = name_at bytes ∷ names_of n (after_name bytes)

unfoldable pub past_names : ℕ → List ℕ → List ℕ
past_names zero bytes = bytes
past_names (suc n) bytes = past_names n (after_name bytes)

-- ---- both lists of locks

abbrev pub reads_of : List ℕ → List (List ℕ)
reads_of bytes = names_of (slice_index bytes 0) (drop 2 bytes)

abbrev pub after_reads : List ℕ → List ℕ
after_reads bytes = past_names (slice_index bytes 0) (drop 2 bytes)

abbrev pub writes_of : List ℕ → List (List ℕ)
writes_of bytes = names_of (slice_index bytes 1) (after_reads bytes)

unfoldable pub after_lists : List ℕ → List ℕ
after_lists bytes = past_names (slice_index bytes 1) (after_reads bytes)

unfoldable pub are_lists : List ℕ → Bool
are_lists bytes =
    nat_le 2 (length bytes)
    && (nat_le (slice_index bytes 0 + slice_index bytes 1) 64
    && (are_names [] (slice_index bytes 0) (drop 2 bytes)
    && (are_names [] (slice_index bytes 1) (after_reads bytes)
    && are_apart (reads_of bytes) (writes_of bytes))))

-- ---- a transaction, all of the bytes

abbrev pub is_payload : List ℕ → Bool
is_payload bytes =
    nat_le 4 (length bytes) && (nat_le (number w32 0 bytes) 65536 && (length bytes == 4 + number w32 0 bytes))

unfoldable pub is_transaction : List ℕ → Bool
is_transaction bytes = nat_le 24 (length bytes) && (are_lists (drop 24 bytes) && is_payload (after_lists (drop 24 bytes)))

unfoldable pub transaction_of : List ℕ → Transaction
transaction_of bytes = record {
  client = number w64 0 bytes;
  request = number w64 8 bytes;
  mark = number w64 16 bytes;
  reads = reads_of (drop 24 bytes);
  writes = writes_of (drop 24 bytes);
  payload = drop 4 (after_lists (drop 24 bytes));
}

-- ---- ranges

-- 1 to 2 ^ 48 - 1
abbrev pub is_place : ℕ → Bool
is_place n = nat_le 1 n && nat_lt n (2 ^ 48)

-- 1 to 2 ^ 48
abbrev pub is_next_place : ℕ → Bool
is_next_place n = nat_le 1 n && nat_le n (2 ^ 48)

-- 0 to 2 ^ 48 - 1
abbrev pub is_count : ℕ → Bool
is_count n = nat_lt n (2 ^ 48)

-- ---- a record, all of the bytes

unfoldable pub is_body : List ℕ → Bool
is_body bytes =
    nat_le 17 (length bytes)
    && ((slice_index bytes 0 == 1)
    && (is_place (number w64 1 bytes)
    && (is_place (number w64 9 bytes)
    && is_transaction (drop 17 bytes))))

unfoldable pub record_of : List ℕ → Record
record_of bytes = record {
  id = number w64 1 bytes;
  session = number w64 9 bytes;
  tx = transaction_of (drop 17 bytes);
}

abbrev pub record_in : List ℕ → Option Record
record_in bytes = if is_body bytes then Some (record_of bytes) else None

-- ---- a meta entry, all of the bytes

abbrev pub promise_in : ℕ → Option Meta
promise_in session = if is_place session then Some (Promise session) else None

abbrev pub low_in : ℕ → Option Meta
low_in low = if is_count low then Some (Low low) else None

abbrev pub value_in : ℕ → Option Meta
value_in number = if is_count number then Some (Value number) else None

-- an entry with one number
abbrev pub one_number : ℕ → ℕ → Option Meta
one_number kind n =
    if kind == 1 then promise_in n
    else if kind == 3 then low_in n
    else if kind == 5 then value_in n
    else None

abbrev pub is_adopt : List ℕ → Bool
is_adopt bytes =
    (slice_index bytes 0 == 2)
    && (is_place (number w64 1 bytes)
    && (is_next_place (number w64 9 bytes)
    && is_count (number w64 21 bytes)))

abbrev pub adopt_of : List ℕ → Meta
adopt_of bytes = Adopt (number w64 1 bytes) (number w64 9 bytes) (number w32 17 bytes) (number w64 21 bytes)

abbrev pub adopt_in : List ℕ → Option Meta
adopt_in bytes = if is_adopt bytes then Some (adopt_of bytes) else None

abbrev pub is_roll : List ℕ → Bool
is_roll bytes = (slice_index bytes 0 == 4) && is_next_place (number w64 5 bytes)

abbrev pub roll_of : List ℕ → Meta
roll_of bytes = Roll (number w32 1 bytes) (number w64 5 bytes)

abbrev pub roll_in : List ℕ → Option Meta
roll_in bytes = if is_roll bytes then Some (roll_of bytes) else None

unfoldable pub meta_in : List ℕ → Option Meta
meta_in bytes =
    if length bytes == 9 then one_number (slice_index bytes 0) (number w64 1 bytes)
    else if length bytes == 13 then roll_in bytes
    else if length bytes == 29 then adopt_in bytes
    else None

-- ---- frames

abbrev pub is_record_length : ℕ → Bool
is_record_length n = nat_le 47 n && nat_le n 69743

abbrev pub is_meta_length : ℕ → Bool
is_meta_length n = (n == 9) || ((n == 13) || (n == 29))

-- the length in front, and as many bytes behind it
abbrev pub length_in : List ℕ → ℕ
length_in bytes = number w32 0 bytes

abbrev pub body_in : List ℕ → List ℕ
body_in bytes = take (length_in bytes) (drop 4 bytes)
