-- Frames at the front, whatever they hold: their length rests on their own bytes alone, and where none stands, none
-- comes to stand by what follows, unless too few bytes were there.
use Rattle.std.proofs.Common.{◌≡◌, ◌≢◌, ℕ, ◌+◌, ◌<◌, ◌≤◌, inl, inr, Bool, List, ◌++◌, length, take, drop, Option, Some, Result, Ok, Err, refl, sym, ap, ◌∙◌, subst, arith}
use Rattle.std.specs.Prelude.{MatchResult}
use Rattle.std.specs.Option.{unwrap_or}
use Rattle.std.specs.Int.{w32, w64, from_be_bytes}
use Rattle.std.proofs.lemmas.Bool.{cases_lt}
use Rattle.std.proofs.lemmas.List.{take-append-le, take-take, drop-take, drop-drop}
use Rattle.tx_model.specs.declared.record.Record.{Record}
use Rattle.tx_model.specs.declared.meta.Meta.{Meta}
use Rattle.tx_model.specs.declared.meta.Meta.TheVariants.{Value}
use Rattle.tx_model.specs.Records.{IsRecord}
use Rattle.tx_model.specs.Spelling.{record_body, meta_body, IsMeta, SpellsRecord, SpellsMeta}
use Rattle.record_frame.specs.declared.fault.FrameFault.{FrameFault}
use Rattle.record_frame.specs.declared.fault.FrameFault.TheVariants.{Short, Bad, Memory}
use Rattle.record_frame.specs.Faults.{IsRecordLength, IsMetaLength, IsWhole}
use Rattle.tx_model.specs.Reading.{number, length_in, body_in, is_body, record_of, record_in, meta_in, is_record_length, is_meta_length}
use Rattle.record_frame.specs.Reading.{Builds, value_at, read_length, record_at, meta_at, Checks}
use Rattle.tx_model.specs.Framing.{record_len, framed_record, meta_len, framed_meta}
use Rattle.record_frame.proofs.Parts.{IsBytes}
use Rattle.record_frame.proofs.Frames.{length-body_in}
use Rattle.record_frame.proofs.Values.{IsFormat, Row, unknown, unfit, part, wrong, no_body, value, row, value_at-alone, short_exactly, tested, done}
use Rattle.record_frame.proofs.Records.{record_format, record_at-read, record_at-spelled}
use Rattle.record_frame.proofs.Metas.{meta_format, meta_at-read}
use Rattle.record_frame.proofs.Lengths.{record_len-read, meta_len-read}

module _ {V : Type 0} (IsLength : ℕ → Type 0) (IsValid : V → Type 0) (spelling : V → List ℕ) (test : ℕ → Bool) (value_of : List ℕ → Option V) (format : IsFormat IsLength IsValid spelling test value_of) where
  abbrev at : List ℕ → Result (V × ℕ) FrameFault
  at bytes = value_at test value_of bytes

  -- a length that isn't 0 was read
  read : (z : Result (V × ℕ) FrameFault) → 0 < read_length z → (x : V × ℕ) × (z ≡ Ok x)
  read (Ok x) some = (x, refl)
  read (Err e) some = absurd (omega arith)

  within_result : (bytes : List ℕ) (z : Result (V × ℕ) FrameFault) → at bytes ≡ z → read_length z ≤ length bytes
  within_result bytes (Ok x) is = (value_at-alone IsLength IsValid spelling test value_of format bytes x is).within
  within_result bytes (Err e) is = omega arith

  pub within : (bytes : List ℕ) → read_length (at bytes) ≤ length bytes
  within bytes = within_result bytes (at bytes) refl

  -- what is read rests on the frame's bytes
  pub alike : (bytes other : List ℕ) → 0 < read_length (at bytes) → read_length (at bytes) ≤ length other → take (read_length (at bytes)) other ≡ take (read_length (at bytes)) bytes → at other ≡ at bytes
  alike bytes other some enough same =
      let found = read (at bytes) some in
      let x = found.0 in
      let is : at bytes ≡ Ok x = found.1 in
      let n : read_length (at bytes) ≡ x.1 = ap read_length is in
      let here : take x.1 other ≡ take x.1 bytes = subst (λ (k : ℕ). take k other ≡ take k bytes) n same in
      (value_at-alone IsLength IsValid spelling test value_of format bytes x is).alone other (omega arith) here ∙ sym is

  -- what the frame at the front holds
  pub record Holds (bytes : List ℕ) (x : V × ℕ) : Type 0 where
    pub whole : IsWhole IsLength bytes
    pub len : x.1 ≡ 12 + length_in bytes
    pub value : value_of (body_in bytes) ≡ Some x.0

  same_done : (x y : V × ℕ) → done x ≡ done y → x ≡ y
  same_done x y e = cc

  holds_row : (bytes : List ℕ) (z : Result (V × ℕ) FrameFault) (x : V × ℕ) → Row IsLength IsValid spelling test value_of format bytes z → z ≡ Ok x → Holds bytes x
  holds_row bytes z x (unknown a) is = absurd cc
  holds_row bytes z x (unfit a b) is = absurd cc
  holds_row bytes z x (part a b c) is = absurd cc
  holds_row bytes z x (wrong a b) is = absurd cc
  holds_row bytes z x (no_body a b c) is = absurd cc
  holds_row bytes z x (value v a b c) is =
      subst (λ (y : V × ℕ). Holds bytes y) (same_done _ _ is) (record { whole = a; len = ap (λ (n : ℕ). 12 + n) (length-body_in bytes a.whole); value = c })

  pub holds : (bytes : List ℕ) (x : V × ℕ) → at bytes ≡ Ok x → Holds bytes x
  holds bytes x is = holds_row bytes (at bytes) x (row IsLength IsValid spelling test value_of format bytes) is

  -- too few bytes where a frame would go on behind them
  cut_short : (bytes rest : List ℕ) (x : V × ℕ) → at (bytes ++ rest) ≡ Ok x → length bytes < x.1 → at bytes ≡ Err Short
  cut_short bytes rest x is short =
      let found = holds (bytes ++ rest) x is in
      (short_exactly IsLength IsValid spelling test value_of format bytes).1 (elim (cases_lt (length bytes) 4) [
        | inl few ↦ inl few
        | inr four ↦
            let n : length_in (bytes ++ rest) ≡ length_in bytes = ap (λ (l : List ℕ). from_be_bytes w32 l) (take-append-le 4 bytes rest four) in
            inr (four, subst IsLength n found.whole.in_range, omega (arith, found.len, short))
      ])

  -- no frame stands there, and none does whatever follows
  pub stays : (bytes rest : List ℕ) (e : FrameFault) → at bytes ≡ Err e → e ≢ Short → read_length (at (bytes ++ rest)) ≡ 0
  stays bytes rest e is other = elim (cases_lt 0 (read_length (at (bytes ++ rest)))) [
    | inl some ↦
        let found = read (at (bytes ++ rest)) some in
        let n : read_length (at (bytes ++ rest)) ≡ found.0.1 = ap read_length found.1 in
        elim (cases_lt (length bytes) found.0.1) [
          | inl short ↦ let none = cut_short bytes rest found.0 found.1 short in absurd (other (cc))
          | inr enough ↦
              let front : take (read_length (at (bytes ++ rest))) bytes ≡ take (read_length (at (bytes ++ rest))) (bytes ++ rest) = sym (take-append-le _ bytes rest (omega arith)) in
              let same = alike (bytes ++ rest) bytes some (omega arith) front in
              let both = found.1 in
              absurd (cc)
        ]
    | inr none ↦ omega arith
  ]

-- ---- records

record_in-value : (body : List ℕ) (r : Record) → record_in body ≡ Some r → record_of body ≡ r
record_in-value body r e = (tested (is_body body) (record_of body) r e).1

pub record_len-within : (bytes : List ℕ) → record_len bytes ≤ length bytes
record_len-within bytes = subst (λ (n : ℕ). n ≤ length bytes) (sym (record_len-read bytes)) (within IsRecordLength IsRecord record_body is_record_length record_in record_format bytes)

-- the frame alone counts, whatever follows it
same_record : (bytes other : List ℕ) → 0 < record_len bytes → record_len bytes ≤ length other → take (record_len bytes) other ≡ take (record_len bytes) bytes → record_at other ≡ record_at bytes
same_record bytes other some enough same =
    let n = record_len-read bytes in
    alike IsRecordLength IsRecord record_body is_record_length record_in record_format bytes other (subst (λ (k : ℕ). 0 < k) n some) (subst (λ (k : ℕ). k ≤ length other) n enough) (subst (λ (k : ℕ). take k other ≡ take k bytes) n same)

pub record_len-alike : (bytes other : List ℕ) → 0 < record_len bytes → record_len bytes ≤ length other → take (record_len bytes) other ≡ take (record_len bytes) bytes → record_len other ≡ record_len bytes
record_len-alike bytes other some enough same = record_len-read other ∙ ap read_length (same_record bytes other some enough same) ∙ sym (record_len-read bytes)

-- what was read at the front
pub record_at-len : (bytes : List ℕ) (x : Record × ℕ) → record_at bytes ≡ Ok x → (record_len bytes ≡ x.1) × (framed_record bytes ≡ x.0) × (12 < x.1)
unfolding framed_record
record_at-len bytes x is =
    let found = holds IsRecordLength IsRecord record_body is_record_length record_in record_format bytes x is in
    let long : 47 ≤ length_in bytes = found.whole.in_range.0 in
    (record_len-read bytes ∙ ap read_length is, record_in-value (body_in bytes) x.0 found.value, omega (arith, found.len))

pub record_at-found : (bytes : List ℕ) → 0 < record_len bytes → record_at bytes ≡ Ok (framed_record bytes, record_len bytes)
record_at-found bytes some =
    let found = read IsRecordLength IsRecord record_body is_record_length record_in record_format (record_at bytes) (subst (λ (k : ℕ). 0 < k) (record_len-read bytes) some) in
    let parts = record_at-len bytes found.0 found.1 in
    let n : record_len bytes ≡ found.0.1 = parts.0 in
    let r : framed_record bytes ≡ found.0.0 = parts.1 in
    found.1 ∙ ap (λ (k : ℕ). done (found.0.0, k)) (sym n) ∙ ap (λ (s : Record). done (s, record_len bytes)) (sym r)

pub framed_record-alike : (bytes other : List ℕ) → 0 < record_len bytes → record_len bytes ≤ length other → take (record_len bytes) other ≡ take (record_len bytes) bytes → framed_record other ≡ framed_record bytes
framed_record-alike bytes other some enough same = (record_at-len other (framed_record bytes, record_len bytes) (same_record bytes other some enough same ∙ record_at-found bytes some)).1

-- a spelling is a whole and right frame of its record, whatever follows
pub spelling-framed : (f rest : List ℕ) (r : Record) → SpellsRecord f r → (record_len (f ++ rest) ≡ length f) × (framed_record (f ++ rest) ≡ r) × (12 < length f)
spelling-framed f rest r is = let parts = record_at-len (f ++ rest) (r, length f) (record_at-read r f rest is) in (parts.0, parts.1, parts.2)

-- a whole and right frame of bytes is the spelling of its record
pub framed-spells : (bytes : List ℕ) → 0 < record_len bytes → IsBytes bytes → SpellsRecord (take (record_len bytes) bytes) (framed_record bytes)
framed-spells bytes some fits = (record_at-spelled bytes (framed_record bytes, record_len bytes) (record_at-found bytes some) fits).spelled

record_at-none : (bytes : List ℕ) (e : FrameFault) → record_at bytes ≡ Err e → record_len bytes ≡ 0
record_at-none bytes e is = record_len-read bytes ∙ ap read_length is

-- what a check without memory answers
abbrev pub IsLenOf : List ℕ → Result ℕ FrameFault → Type 0
IsLenOf bytes result = MatchResult result (λ n. (n ≡ record_len bytes) × (0 < n)) (λ e. record_len bytes ≡ 0)

checked : (bytes : List ℕ) (result : Result ℕ FrameFault) (z : Result (Record × ℕ) FrameFault) → record_at bytes ≡ z → Checks result z → IsLenOf bytes result
checked bytes (Ok n) (Ok x) is same = let parts = record_at-len bytes x is in (same ∙ sym parts.0, omega (arith, parts.2, same))
checked bytes (Err d) (Err f) is same = record_at-none bytes f is
checked bytes (Ok n) (Err f) is same = absurd same
checked bytes (Err d) (Ok x) is same = absurd same

pub checks-len : (result : Result ℕ FrameFault) (bytes : List ℕ) → Checks result (record_at bytes) → IsLenOf bytes result
checks-len result bytes checks = checked bytes result (record_at bytes) refl checks

-- what a building pass answers
abbrev pub IsFramed : List ℕ → Result (Record × ℕ) FrameFault → Type 0
IsFramed bytes result = MatchResult result (λ x. (x.0 ≡ framed_record bytes) × (x.1 ≡ record_len bytes)) (λ e. e ≢ Memory → record_len bytes ≡ 0)

built : (bytes : List ℕ) (result z : Result (Record × ℕ) FrameFault) → record_at bytes ≡ z → Builds result z → IsFramed bytes result
built bytes (Ok x) z is same = let parts = record_at-len bytes x (is ∙ same) in (sym parts.1, sym parts.0)
built bytes (Err Memory) z is same = λ other. absurd (other refl)
built bytes (Err Short) z is same = λ other. record_at-none bytes Short (is ∙ same)
built bytes (Err (Bad place)) z is same = λ other. record_at-none bytes (Bad place) (is ∙ same)

pub builds-framed : (result : Result (Record × ℕ) FrameFault) (bytes : List ℕ) → Builds result (record_at bytes) → IsFramed bytes result
builds-framed result bytes builds = built bytes result (record_at bytes) refl builds

-- the id stands behind the length and the version
id_at : (n : ℕ) (bytes : List ℕ) → 9 ≤ n → number w64 1 (take n (drop 4 bytes)) ≡ number w64 5 bytes
id_at n bytes long =
    let rest = drop 4 bytes in
    ap (λ (l : List ℕ). from_be_bytes w64 l)
    (sym (drop-take 1 8 (take n rest)) ∙ ap (λ (l : List ℕ). drop 1 l) (take-take 9 n rest long) ∙ drop-take 1 8 rest ∙ ap (λ (l : List ℕ). take 8 l) (drop-drop 1 4 bytes))

pub framed_id-at : (bytes : List ℕ) → 0 < record_len bytes → ((framed_record bytes).id ≡ number w64 5 bytes) × (13 ≤ length bytes)
unfolding framed_record record_of
framed_id-at bytes some =
    let found = holds IsRecordLength IsRecord record_body is_record_length record_in record_format bytes _ (record_at-found bytes some) in
    let whole = found.whole.whole in
    (id_at (length_in bytes) bytes (omega (arith, found.whole.in_range.0)), omega (arith, whole, found.whole.in_range.0))

pub record-stays : (bytes rest : List ℕ) (e : FrameFault) → record_at bytes ≡ Err e → e ≢ Short → record_len (bytes ++ rest) ≡ 0
record-stays bytes rest e is other = record_len-read (bytes ++ rest) ∙ stays IsRecordLength IsRecord record_body is_record_length record_in record_format bytes rest e is other

-- ---- meta entries

pub meta_len-within : (bytes : List ℕ) → meta_len bytes ≤ length bytes
meta_len-within bytes = subst (λ (n : ℕ). n ≤ length bytes) (sym (meta_len-read bytes)) (within IsMetaLength IsMeta meta_body is_meta_length meta_in meta_format bytes)

same_meta : (bytes other : List ℕ) → 0 < meta_len bytes → meta_len bytes ≤ length other → take (meta_len bytes) other ≡ take (meta_len bytes) bytes → meta_at other ≡ meta_at bytes
same_meta bytes other some enough same =
    let n = meta_len-read bytes in
    alike IsMetaLength IsMeta meta_body is_meta_length meta_in meta_format bytes other (subst (λ (k : ℕ). 0 < k) n some) (subst (λ (k : ℕ). k ≤ length other) n enough) (subst (λ (k : ℕ). take k other ≡ take k bytes) n same)

pub meta_len-alike : (bytes other : List ℕ) → 0 < meta_len bytes → meta_len bytes ≤ length other → take (meta_len bytes) other ≡ take (meta_len bytes) bytes → meta_len other ≡ meta_len bytes
meta_len-alike bytes other some enough same = meta_len-read other ∙ ap read_length (same_meta bytes other some enough same) ∙ sym (meta_len-read bytes)

pub meta_at-len : (bytes : List ℕ) (x : Meta × ℕ) → meta_at bytes ≡ Ok x → (meta_len bytes ≡ x.1) × (framed_meta bytes ≡ x.0) × (12 < x.1)
unfolding framed_meta
meta_at-len bytes x is =
    let found = holds IsMetaLength IsMeta meta_body is_meta_length meta_in meta_format bytes x is in
    let long : 12 < 12 + length_in bytes = elim found.whole.in_range [ inl nine ↦ omega arith | inr more ↦ elim more [ inl thirteen ↦ omega arith | inr most ↦ omega arith ] ] in
    (meta_len-read bytes ∙ ap read_length is, ap (λ (o : Option Meta). unwrap_or o (Value 0)) found.value, omega (arith, found.len))

pub meta-spelling-framed : (f rest : List ℕ) (m : Meta) → SpellsMeta f m → (meta_len (f ++ rest) ≡ length f) × (framed_meta (f ++ rest) ≡ m) × (12 < length f)
meta-spelling-framed f rest m is = let parts = meta_at-len (f ++ rest) (m, length f) (meta_at-read m f rest is) in (parts.0, parts.1, parts.2)

pub framed_meta-alike : (bytes other : List ℕ) → 0 < meta_len bytes → meta_len bytes ≤ length other → take (meta_len bytes) other ≡ take (meta_len bytes) bytes → framed_meta other ≡ framed_meta bytes
framed_meta-alike bytes other some enough same =
    let found = read IsMetaLength IsMeta meta_body is_meta_length meta_in meta_format (meta_at bytes) (subst (λ (k : ℕ). 0 < k) (meta_len-read bytes) some) in
    let there = same_meta bytes other some enough same in
    (meta_at-len other found.0 (there ∙ found.1)).1 ∙ sym (meta_at-len bytes found.0 found.1).1

-- what a reading answers
pub meta-framed : (result : Result (Meta × ℕ) FrameFault) (bytes : List ℕ) → result ≡ meta_at bytes
    → MatchResult result (λ x. (x.0 ≡ framed_meta bytes) × (x.1 ≡ meta_len bytes) × (0 < x.1)) (λ e. meta_len bytes ≡ 0)
meta-framed (Ok x) bytes same = let parts = meta_at-len bytes x (sym same) in (sym parts.1, sym parts.0, omega (arith, parts.2))
meta-framed (Err e) bytes same = meta_len-read bytes ∙ ap read_length (sym same)

pub meta-stays : (bytes rest : List ℕ) (e : FrameFault) → meta_at bytes ≡ Err e → e ≢ Short → meta_len (bytes ++ rest) ≡ 0
meta-stays bytes rest e is other = meta_len-read (bytes ++ rest) ∙ stays IsMetaLength IsMeta meta_body is_meta_length meta_in meta_format bytes rest e is other
