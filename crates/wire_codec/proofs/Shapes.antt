-- The shapes that fields have: what is in form is spelled so, and what is spelled is read again.
use Rattle.std.proofs.Common.{◌≡◌, ℕ, suc, ◌+◌, ◌^◌, ◌<◌, ◌⊎◌, inl, inr, Bool, true, false, cond, ◌&&◌, nat_le, List, [], ◌∷◌, ◌++◌, length, drop, Option, Some, None, refl, sym, ap, ◌∙◌, subst, length-drop, drop-cons, arith}
use Rattle.std.specs.Prelude.{slice_index, ◌==◌}
use Rattle.std.specs.Int.{w64}
use Rattle.std.proofs.lemmas.Bool.{leb-true, ltb-true, le-leb, lt-ltb, eqb-true}
use Rattle.std.proofs.lemmas.List.{nil_from_length, append-nil}
use Rattle.std.proofs.lemmas.Nat.{from_be_bytes-to_be_bytes_8}
use Rattle.tx_model.specs.declared.record.Record.{Record}
use Rattle.tx_model.specs.Records.{IsPlace, IsBatch}
use Rattle.tx_model.specs.Spelling.{IsNextPlace, IsCount}
use Rattle.proto_model.specs.declared.message.Phase.{Phase}
use Rattle.proto_model.specs.declared.message.Phase.TheVariants.{Idle, Opening, Fetching, Repairing, Running, Closed}
use Rattle.proto_model.specs.Validity.{IsAskedId, IsUpTo, IsWord, IsNotRunning}
use Rattle.tx_model.specs.Reading.{number, is_place, is_next_place, is_count}
use Rattle.record_frame.proofs.Names.{and_2}
use Rattle.record_frame.proofs.Parts.{IsBytes, IsBytes-drop, split_8, number-below_8, place-tells, place-passes}
use Rattle.record_frame.proofs.Values.{tested}
use Rattle.wire_codec.specs.declared.message.Message.{Message}
use Rattle.wire_codec.specs.Spelling.{one, two, spelled_batch, phase_byte, SpellsMessageBody}
use Rattle.wire_codec.specs.Reading.{is_asked_id, is_up_to, one_in, two_in, session_in, count_in, asked_id_in, session_and_count_in, session_and_next_in, request_and_id_in, of_one, of_two, of_none, of_batch, phase_of, phase_in, of_phase, is_batch, batch_of}
use Rattle.wire_codec.proofs.Batches.{batch-spelled, batch-read}

-- ---- tests of numbers

pub both : (a b : Bool) → a ≡ true → b ≡ true → (a && b) ≡ true
both a b p q = rw (p, q) refl

pub count-tells : (n : ℕ) → is_count n ≡ true → IsCount n
count-tells n e = ltb-true _ _ e

pub count-passes : (n : ℕ) → IsCount n → is_count n ≡ true
count-passes n is = lt-ltb _ _ is

pub next-tells : (n : ℕ) → is_next_place n ≡ true → IsNextPlace n
next-tells n e = let a = and_2 _ _ e in record { some = leb-true _ _ a.0; within = leb-true _ _ a.1 }

pub next-passes : (n : ℕ) → IsNextPlace n → is_next_place n ≡ true
next-passes n is = both _ _ (le-leb _ _ is.some) (le-leb _ _ is.within)

pub asked-tells : (n : ℕ) → is_asked_id n ≡ true → IsAskedId n
asked-tells n e = leb-true _ _ e

pub asked-passes : (n : ℕ) → IsAskedId n → is_asked_id n ≡ true
asked-passes n is = le-leb _ _ is

pub up_to-tells : (most n : ℕ) → is_up_to most n ≡ true → IsUpTo most n
up_to-tells most n e = let a = and_2 _ _ e in record { some = leb-true _ _ a.0; few = leb-true _ _ a.1 }

-- ---- the last of the fields

pub last_8 : (at : ℕ) (bytes : List ℕ) → at + 8 ≡ length bytes → IsBytes bytes → drop at bytes ≡ one (number w64 at bytes)
last_8 at bytes long fits =
    let nothing : drop (at + 8) bytes ≡ [] = nil_from_length _ (omega (arith, length-drop (at + 8) bytes)) in
    split_8 at bytes (omega arith) fits ∙ ap (λ (l : List ℕ). one (number w64 at bytes) ++ l) nothing ∙ append-nil (one (number w64 at bytes))

pub last_1 : (at : ℕ) (bytes : List ℕ) → at + 1 ≡ length bytes → drop at bytes ≡ slice_index bytes at ∷ []
last_1 at bytes long = rw (drop-cons bytes at 0 (omega arith)) (ap (λ (l : List ℕ). slice_index bytes at ∷ l) (nil_from_length _ (omega (arith, length-drop (suc at) bytes))))

pub two-whole : (bytes : List ℕ) → length bytes ≡ 16 → IsBytes bytes → bytes ≡ two (number w64 0 bytes) (number w64 8 bytes)
two-whole bytes long fits = split_8 0 bytes (omega arith) fits ∙ ap (λ (l : List ℕ). one (number w64 0 bytes) ++ l) (last_8 8 bytes (omega arith) fits)

-- ---- what is read of fields behind a front is spelled by both

abbrev pub IsSpelledBehind : List ℕ → (List ℕ → Option Message) → Type 0
IsSpelledBehind front read = (bytes : List ℕ) (m : Message) → read bytes ≡ Some m → IsBytes bytes → SpellsMessageBody (front ++ bytes) m

pub one-spelled : (front : List ℕ) (test : ℕ → Bool) (make : ℕ → Message) → ((n : ℕ) → n < 2 ^ 64 → test n ≡ true → SpellsMessageBody (front ++ one n) (make n)) → IsSpelledBehind front (λ bytes. of_one make (one_in test bytes))
one-spelled front test make each bytes m e fits =
    let x = found (one_in test bytes) e in
    let t = tested ((length bytes == 8) && test (number w64 0 bytes)) (number w64 0 bytes) x.0 x.1 in
    let a = and_2 _ _ t.0 in
    let n = number w64 0 bytes in
    let whole : bytes ≡ one n = last_8 0 bytes (sym (eqb-true _ _ a.0)) fits in
    let made : make n ≡ m = ap make t.1 ∙ x.2 in
    let is = each n (number-below_8 0 bytes fits) a.1 in
    subst (λ (y : Message). SpellsMessageBody (front ++ bytes) y) made (record { valid = is.valid; spelled = ap (λ (l : List ℕ). front ++ l) whole ∙ is.spelled })
  where
    found : (o : Option ℕ) → of_one make o ≡ Some m → (n : ℕ) × (o ≡ Some n) × (make n ≡ m)
    found (Some n) e = (n, refl, cc)
    found None e = absurd cc

pub two-spelled : (front : List ℕ) (test : ℕ → ℕ → Bool) (make : ℕ → ℕ → Message) → ((a b : ℕ) → a < 2 ^ 64 → b < 2 ^ 64 → test a b ≡ true → SpellsMessageBody (front ++ two a b) (make a b)) → IsSpelledBehind front (λ bytes. of_two make (two_in test bytes))
two-spelled front test make each bytes m e fits =
    let x = found (two_in test bytes) e in
    let a = number w64 0 bytes in
    let b = number w64 8 bytes in
    let t = tested ((length bytes == 16) && test a b) (a, b) x.0 x.1 in
    let c = and_2 _ _ t.0 in
    let whole : bytes ≡ two a b = two-whole bytes (eqb-true _ _ c.0) fits in
    let made : make a b ≡ m = ap (λ (y : ℕ × ℕ). make y.0 y.1) t.1 ∙ x.2 in
    let is = each a b (number-below_8 0 bytes fits) (number-below_8 8 bytes fits) c.1 in
    subst (λ (y : Message). SpellsMessageBody (front ++ bytes) y) made (record { valid = is.valid; spelled = ap (λ (l : List ℕ). front ++ l) whole ∙ is.spelled })
  where
    found : (o : Option (ℕ × ℕ)) → of_two make o ≡ Some m → (x : ℕ × ℕ) × (o ≡ Some x) × (make x.0 x.1 ≡ m)
    found (Some x) e = (x, refl, cc)
    found None e = absurd cc

pub none-spelled : (front : List ℕ) (v : Message) → SpellsMessageBody (front ++ []) v → IsSpelledBehind front (of_none v)
none-spelled front v is bytes m e fits =
    let t = tested (length bytes == 0) v m e in
    let whole : bytes ≡ [] = nil_from_length bytes (eqb-true _ _ t.0) in
    subst (λ (y : Message). SpellsMessageBody (front ++ bytes) y) t.1 (record { valid = is.valid; spelled = ap (λ (l : List ℕ). front ++ l) whole ∙ is.spelled })

pub batch_behind-spelled : (front : List ℕ) (make : ℕ → List Record → Message) → ((session : ℕ) (batch : List Record) → IsPlace session → IsBatch batch → SpellsMessageBody (front ++ (one session ++ spelled_batch batch)) (make session batch)) → IsSpelledBehind front (of_batch make)
batch_behind-spelled front make each bytes m e fits =
    let n = number w64 0 bytes in
    let t = tested (nat_le 8 (length bytes) && (is_place n && is_batch (drop 8 bytes))) (make n (batch_of (drop 8 bytes))) m e in
    let a = and_2 _ _ t.0 in
    let b = and_2 _ _ a.1 in
    let rs = batch-spelled (drop 8 bytes) b.1 (IsBytes-drop 8 bytes fits) in
    let whole : bytes ≡ one n ++ spelled_batch (batch_of (drop 8 bytes)) = split_8 0 bytes (leb-true _ _ a.0) fits ∙ ap (λ (l : List ℕ). one n ++ l) rs.spelled in
    let is = each n (batch_of (drop 8 bytes)) (place-tells n b.0) rs.is in
    subst (λ (y : Message). SpellsMessageBody (front ++ bytes) y) t.1 (record { valid = is.valid; spelled = ap (λ (l : List ℕ). front ++ l) whole ∙ is.spelled })

-- ---- phases

-- the row of a table that gave the answer
chosen : {A : Type 0} (b : Bool) (x y z : A) → cond b x y ≡ z → ((b ≡ true) × (x ≡ z)) ⊎ ((b ≡ false) × (y ≡ z))
chosen true x y z e = inl (refl, e)
chosen false x y z e = inr (refl, e)

pub record IsPhaseOf (byte : ℕ) (phase : Phase) : Type 0 where
  pub is : IsNotRunning phase
  pub spelled : byte ≡ phase_byte phase

same_phase : (x y : Phase) (byte : ℕ) → IsPhaseOf byte x → Some x ≡ Some y → IsPhaseOf byte y
same_phase x y byte is e = let same : x ≡ y = cc in subst (λ (p : Phase). IsPhaseOf byte p) same is

pub phase_of-tells : (byte : ℕ) (phase : Phase) → phase_of byte ≡ Some phase → IsPhaseOf byte phase
phase_of-tells byte phase e =
    elim (chosen (byte == 0) (Some Idle) _ (Some phase) e) [
      | inl a ↦ same_phase Idle phase byte (record { is = tt; spelled = eqb-true _ _ a.0 }) a.1
      | inr a ↦ elim (chosen (byte == 1) (Some Opening) _ (Some phase) a.1) [
        | inl b ↦ same_phase Opening phase byte (record { is = tt; spelled = eqb-true _ _ b.0 }) b.1
        | inr b ↦ elim (chosen (byte == 2) (Some Fetching) _ (Some phase) b.1) [
          | inl c ↦ same_phase Fetching phase byte (record { is = tt; spelled = eqb-true _ _ c.0 }) c.1
          | inr c ↦ elim (chosen (byte == 3) (Some Repairing) None (Some phase) c.1) [
            | inl d ↦ same_phase Repairing phase byte (record { is = tt; spelled = eqb-true _ _ d.0 }) d.1
            | inr d ↦ absurd cc
          ]
        ]
      ]
    ]

pub phase-spelled : (front : List ℕ) (make : Phase → Message) → ((phase : Phase) → IsNotRunning phase → SpellsMessageBody (front ++ phase_byte phase ∷ []) (make phase)) → IsSpelledBehind front (λ bytes. of_phase make (phase_in bytes))
phase-spelled front make each bytes m e fits =
    let x = found (phase_in bytes) e in
    elim (chosen (length bytes == 1) (phase_of (slice_index bytes 0)) None (Some x.0) x.1) [
      | inl a ↦
          let p = phase_of-tells (slice_index bytes 0) x.0 a.1 in
          let whole : bytes ≡ phase_byte x.0 ∷ [] = last_1 0 bytes (sym (eqb-true _ _ a.0)) ∙ ap (λ (b : ℕ). b ∷ []) p.spelled in
          let is = each x.0 p.is in
          subst (λ (y : Message). SpellsMessageBody (front ++ bytes) y) x.2 (record { valid = is.valid; spelled = ap (λ (l : List ℕ). front ++ l) whole ∙ is.spelled })
      | inr a ↦ absurd (none_is x.0 a.1)
    ]
  where
    found : (o : Option Phase) → of_phase make o ≡ Some m → (phase : Phase) × (o ≡ Some phase) × (make phase ≡ m)
    found (Some phase) e = (phase, refl, cc)
    found None e = absurd cc

    none_is : (phase : Phase) → None ≡ Some phase → ⊥
    none_is phase e = cc

pub phase-read : (make : Phase → Message) (phase : Phase) → IsNotRunning phase → of_phase make (phase_in (phase_byte phase ∷ [])) ≡ Some (make phase)
phase-read make Idle is = refl
phase-read make Opening is = refl
phase-read make Fetching is = refl
phase-read make Repairing is = refl
phase-read make Running is = absurd is
phase-read make (Closed session) is = absurd is

-- ---- tables: the first row that fits

-- what stands behind a kind, and that it is spelled so
pub record Row (front : ℕ → List ℕ) : Type 0 where
  pub kind : ℕ
  pub read : List ℕ → Option Message
  pub spelled : IsSpelledBehind (front kind) read

abbrev pub row : {front : ℕ → List ℕ} → (kind : ℕ) → (read : List ℕ → Option Message) → IsSpelledBehind (front kind) read → Row front
row k f is = record { kind = k; read = f; spelled = is }

module _ {front : ℕ → List ℕ} (kind : ℕ) where
  abbrev pub session_row : (make : ℕ → Message) → ((n : ℕ) → IsPlace n → SpellsMessageBody (front kind ++ one n) (make n)) → Row front
  session_row make each = row kind (λ bytes. of_one make (session_in bytes)) (one-spelled (front kind) is_place make (λ n below e. each n (place-tells n e)))

  abbrev pub count_row : (make : ℕ → Message) → ((n : ℕ) → IsCount n → SpellsMessageBody (front kind ++ one n) (make n)) → Row front
  count_row make each = row kind (λ bytes. of_one make (count_in bytes)) (one-spelled (front kind) is_count make (λ n below e. each n (count-tells n e)))

  abbrev pub asked_row : (make : ℕ → Message) → ((n : ℕ) → IsAskedId n → SpellsMessageBody (front kind ++ one n) (make n)) → Row front
  asked_row make each = row kind (λ bytes. of_one make (asked_id_in bytes)) (one-spelled (front kind) is_asked_id make (λ n below e. each n (asked-tells n e)))

  abbrev pub counted_row : (make : ℕ → ℕ → Message) → ((s n : ℕ) → IsPlace s → IsCount n → SpellsMessageBody (front kind ++ two s n) (make s n)) → Row front
  counted_row make each = row kind (λ bytes. of_two make (session_and_count_in bytes)) (two-spelled (front kind) (λ session n. is_place session && is_count n) make (λ s n below below_2 e. let t = and_2 _ _ e in each s n (place-tells s t.0) (count-tells n t.1)))

  abbrev pub next_row : (make : ℕ → ℕ → Message) → ((s n : ℕ) → IsPlace s → IsNextPlace n → SpellsMessageBody (front kind ++ two s n) (make s n)) → Row front
  next_row make each = row kind (λ bytes. of_two make (session_and_next_in bytes)) (two-spelled (front kind) (λ session n. is_place session && is_next_place n) make (λ s n below below_2 e. let t = and_2 _ _ e in each s n (place-tells s t.0) (next-tells n t.1)))

  abbrev pub answered_row : (make : ℕ → ℕ → Message) → ((request id : ℕ) → IsWord request → IsPlace id → SpellsMessageBody (front kind ++ two request id) (make request id)) → Row front
  answered_row make each = row kind (λ bytes. of_two make (request_and_id_in bytes)) (two-spelled (front kind) (λ request id. is_place id) make (λ request id below below_2 e. each request id below (place-tells id e)))

  abbrev pub none_row : (m : Message) → SpellsMessageBody (front kind ++ []) m → Row front
  none_row m is = row kind (of_none m) (none-spelled (front kind) m is)

  abbrev pub batch_row : (make : ℕ → List Record → Message) → ((session : ℕ) (batch : List Record) → IsPlace session → IsBatch batch → SpellsMessageBody (front kind ++ (one session ++ spelled_batch batch)) (make session batch)) → Row front
  batch_row make each = row kind (of_batch make) (batch_behind-spelled (front kind) make each)

  abbrev pub phase_row : (make : Phase → Message) → ((phase : Phase) → IsNotRunning phase → SpellsMessageBody (front kind ++ phase_byte phase ∷ []) (make phase)) → Row front
  phase_row make each = row kind (λ bytes. of_phase make (phase_in bytes)) (phase-spelled (front kind) make each)

abbrev pub pick : {front : ℕ → List ℕ} → List (Row front) → ℕ → List ℕ → Option Message
pick [] kind bytes = None
pick (r ∷ rows) kind bytes = cond (kind == r.kind) (r.read bytes) (pick rows kind bytes)

pub pick-spelled : (front : ℕ → List ℕ) (rows : List (Row front)) (kind : ℕ) → IsSpelledBehind (front kind) (pick rows kind)
pick-spelled front [] kind bytes m e fits = absurd cc
pick-spelled front (r ∷ rows) kind bytes m e fits =
    elim (chosen (kind == r.kind) (r.read bytes) (pick rows kind bytes) (Some m) e) [
      | inl a ↦ subst (λ (k : ℕ). SpellsMessageBody (front k ++ bytes) m) (sym (eqb-true _ _ a.0)) (r.spelled bytes m a.1 fits)
      | inr a ↦ pick-spelled front rows kind bytes m a.1 fits
    ]

-- ---- what is spelled is read

pub one-read : (test : ℕ → Bool) (make : ℕ → Message) (n : ℕ) → n < 2 ^ 64 → test n ≡ true → of_one make (one_in test (one n)) ≡ Some (make n)
one-read test make n lt e =
    let a : number w64 0 (one n) ≡ n = from_be_bytes-to_be_bytes_8 n lt in
    let t : test (number w64 0 (one n)) ≡ true = ap test a ∙ e in
    rw (t, a) refl

pub two-read : (test : ℕ → ℕ → Bool) (make : ℕ → ℕ → Message) (a b : ℕ) → a < 2 ^ 64 → b < 2 ^ 64 → test a b ≡ true → of_two make (two_in test (two a b)) ≡ Some (make a b)
two-read test make a b lt lt_2 e =
    let p : number w64 0 (two a b) ≡ a = from_be_bytes-to_be_bytes_8 a lt in
    let q : number w64 8 (two a b) ≡ b = from_be_bytes-to_be_bytes_8 b lt_2 in
    let t : test (number w64 0 (two a b)) (number w64 8 (two a b)) ≡ true = ap (λ (k : ℕ). test k (number w64 8 (two a b))) p ∙ ap (test a) q ∙ e in
    rw (t, p, q) refl

pub batch_behind-read : (make : ℕ → List Record → Message) (session : ℕ) (batch : List Record) → IsPlace session → IsBatch batch → of_batch make (one session ++ spelled_batch batch) ≡ Some (make session batch)
batch_behind-read make session batch is is_batch_of =
    let bytes = one session ++ spelled_batch batch in
    let read = batch-read batch is_batch_of in
    let n : number w64 0 bytes ≡ session = from_be_bytes-to_be_bytes_8 session (omega (arith, is.below)) in
    let place : is_place (number w64 0 bytes) ≡ true = ap is_place n ∙ place-passes session is in
    rw (le-leb 8 (length bytes) (omega arith), place, read.form, n, read.same) refl
