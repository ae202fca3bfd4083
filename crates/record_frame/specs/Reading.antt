-- What reading a frame answers: the value and its length, or where it is at fault.
use Rattle.std.specs.Prelude.{◌≡◌, ℕ, ◌+◌, ◌≤◌, Bool, not, nat_lt, bytes_eq, List, length, take, drop, Option, Some, None, Result, Ok, Err, if◌then◌else◌}
use Rattle.tx_model.specs.declared.record.Record.{Record}
use Rattle.tx_model.specs.declared.meta.Meta.{Meta}
use Rattle.tx_model.specs.Spelling.{check_of}
use Rattle.tx_model.specs.Reading.{record_in, meta_in, is_record_length, is_meta_length, length_in, body_in}
use Rattle.record_frame.specs.declared.fault.FrameFault.{FrameFault}
use Rattle.record_frame.specs.declared.fault.FrameFault.TheVariants.{Short, Bad, Memory}
use Rattle.record_frame.specs.declared.framing.Framed.{Framed}
use Rattle.record_frame.specs.declared.framing.Framed.TheVariants.{Record as OfRecord, Meta as OfMeta}

-- whether a body of what is framed may have this length
abbrev pub fits : Framed → ℕ → Bool
fits OfRecord n = is_record_length n
fits OfMeta n = is_meta_length n

-- the body of the whole and right frame at the front, where its length passes the test
unfoldable pub frame_at : (ℕ → Bool) → List ℕ → Result (List ℕ) FrameFault
frame_at test bytes =
    let n = length_in bytes in
    if nat_lt (length bytes) 4 then Err Short
    else if not (test n) then Err (Bad 0)
    else if nat_lt (length bytes) (12 + n) then Err Short
    else if not (bytes_eq (check_of (take (4 + n) bytes)) (take 8 (drop (4 + n) bytes))) then Err (Bad (4 + n))
    else Ok (body_in bytes)

-- the value that a body gives, and the length of its frame
abbrev pub with_frame_length : {V : Type 0} → ℕ → Option V → Result (V × ℕ) FrameFault
with_frame_length n (Some v) = Ok (v, 12 + n)
with_frame_length n None = Err (Bad 4)

abbrev pub if_framed : {V : Type 0} → (List ℕ → Option V) → Result (List ℕ) FrameFault → Result (V × ℕ) FrameFault
if_framed value_of (Ok body) = with_frame_length (length body) (value_of body)
if_framed value_of (Err e) = Err e

-- the value of the frame at the front, and the frame's length
unfoldable pub value_at : {V : Type 0} → (ℕ → Bool) → (List ℕ → Option V) → List ℕ → Result (V × ℕ) FrameFault
value_at test value_of bytes = if_framed value_of (frame_at test bytes)

abbrev pub record_at : List ℕ → Result (Record × ℕ) FrameFault
record_at bytes = value_at is_record_length record_in bytes

abbrev pub meta_at : List ℕ → Result (Meta × ℕ) FrameFault
meta_at bytes = value_at is_meta_length meta_in bytes

-- the length of the frame at the front, or 0 where none is read
abbrev pub read_length : {V : Type 0} → Result (V × ℕ) FrameFault → ℕ
read_length (Ok x) = x.1
read_length (Err e) = 0

-- ---- what callers see

-- what a function returned, seen by view, is what reading gives
abbrev pub Gives : {X Y : Type 0} → (X → Y) → Result X FrameFault → Result Y FrameFault → Type 0
Gives view (Ok x) read = read ≡ Ok (view x)
Gives view (Err e) read = read ≡ Err e

-- a fault of the bytes
abbrev pub IsOfBytes : FrameFault → Type 0
IsOfBytes Short = Unit {0}
IsOfBytes (Bad at) = Unit {0}
IsOfBytes Memory = ⊥

-- what a function without memory returned is the length of what reading gives
abbrev pub Checks : {V : Type 0} → Result ℕ FrameFault → Result (V × ℕ) FrameFault → Type 0
Checks (Ok n) (Ok x) = n ≡ x.1
Checks (Err e) (Err f) = e ≡ f
Checks (Ok n) (Err f) = ⊥
Checks (Err e) (Ok x) = ⊥

-- what a function that builds a value returned is what reading gives. Memory comes only where reading gives a value
abbrev pub Builds : {V : Type 0} → Result (V × ℕ) FrameFault → Result (V × ℕ) FrameFault → Type 0
Builds (Ok x) read = read ≡ Ok x
Builds (Err Memory) (Ok x) = Unit {0}
Builds (Err Memory) (Err f) = ⊥
Builds (Err Short) read = read ≡ Err Short
Builds (Err (Bad at)) read = read ≡ Err (Bad at)

-- the value's spelling stands at the front, with this length
pub record BeginsWith {V : Type 0} (Spelled : List ℕ → V → Type 0) (bytes : List ℕ) (v : V) (n : ℕ) : Type 0 where
  pub within : n ≤ length bytes
  pub spelled : Spelled (take n bytes) v

-- the value, or no memory for it
abbrev pub OkOrMemory : {X : Type 0} → Result X FrameFault → X → Type 0
OkOrMemory (Ok x) y = x ≡ y
OkOrMemory (Err Memory) y = Unit {0}
OkOrMemory (Err Short) y = ⊥
OkOrMemory (Err (Bad at)) y = ⊥
