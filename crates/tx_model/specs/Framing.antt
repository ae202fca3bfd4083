-- Frames at the front of bytes: how long the whole and right one is, and what it holds.
use Rattle.std.specs.Prelude.{ℕ, ◌+◌, Bool, ◌&&◌, nat_le, bytes_eq, List, length, take, drop, is_some, if◌then◌else◌}
use Rattle.std.specs.Option.{unwrap_or}
use Rattle.tx_model.specs.declared.record.Record.{Record}
use Rattle.tx_model.specs.declared.meta.Meta.{Meta}
use Rattle.tx_model.specs.declared.meta.Meta.TheVariants.{Value}
use Rattle.tx_model.specs.Spelling.{check_of}
use Rattle.tx_model.specs.Reading.{length_in, body_in, is_record_length, is_meta_length, is_body, record_of, meta_in}

-- a body whose length passes the test stands there whole, with its check behind it
abbrev pub is_framed : (ℕ → Bool) → List ℕ → Bool
is_framed test bytes =
    let n = length_in bytes in
    nat_le 4 (length bytes)
    && (test n
    && (nat_le (12 + n) (length bytes)
    && bytes_eq (check_of (take (4 + n) bytes)) (take 8 (drop (4 + n) bytes))))

-- the length of the frame of such a body at the front, or 0 where it is not right
abbrev pub frame_len : (ℕ → Bool) → (List ℕ → Bool) → List ℕ → ℕ
frame_len test is_right bytes = if is_framed test bytes && is_right (body_in bytes) then 12 + length_in bytes else 0

abbrev pub is_meta : List ℕ → Bool
is_meta body = is_some (meta_in body)

-- the length of the record's frame at the front, or 0 where none stands there whole and right
unfoldable pub record_len : List ℕ → ℕ
record_len bytes = frame_len is_record_length is_body bytes

-- the record that the frame at the front holds
unfoldable pub framed_record : List ℕ → Record
framed_record bytes = record_of (body_in bytes)

-- the length of the entry's frame at the front, or 0 where none stands there whole and right
unfoldable pub meta_len : List ℕ → ℕ
meta_len bytes = frame_len is_meta_length is_meta bytes

-- the entry that the frame at the front holds, and some other one where none stands there
unfoldable pub framed_meta : List ℕ → Meta
framed_meta bytes = unwrap_or (meta_in (body_in bytes)) (Value 0)
