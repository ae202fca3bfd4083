-- Messages in frames: what is read is spelled so, what is spelled is read, and each fault comes by its cause.
use Rattle.std.proofs.Common.{◌≡◌, ℕ, ◌+◌, ◌<◌, ◌≤◌, inl, inr, Bool, true, false, cond, not, nat_lt, List, ◌++◌, length, take, drop, Option, Some, None, Result, Ok, Err, refl, sym, ap, ◌∙◌, subst, length-append, length-drop, arith}
use Rattle.std.specs.Prelude.{◌↔◌}
use Rattle.std.specs.Int.{w32, to_be_bytes}
use Rattle.std.proofs.lemmas.Bool.{leb-true, ltb-true, ltb-false, le-leb, le-ltb}
use Rattle.std.proofs.lemmas.List.{take_at, length-take-le}
use Rattle.std.proofs.lemmas.Nat.{from_be_bytes-to_be_bytes_4}
use Rattle.std.proofs.Math.Seq.{take-add}
use Rattle.tx_model.specs.Spelling.{with_length}
use Rattle.record_frame.specs.declared.fault.FrameFault.{FrameFault}
use Rattle.record_frame.specs.declared.fault.FrameFault.TheVariants.{Short, Bad, Memory}
use Rattle.tx_model.specs.Reading.{number, length_in, body_in}
use Rattle.record_frame.specs.Reading.{BeginsWith}
use Rattle.record_frame.proofs.Names.{and_2}
use Rattle.record_frame.proofs.Parts.{IsBytes, IsBytes-take, IsBytes-drop, number-spelled_4}
use Rattle.record_frame.proofs.Values.{done, failed}
use Rattle.wire_codec.specs.declared.message.Message.{Message}
use Rattle.wire_codec.specs.Spelling.{message_body, message_frame, SpellsMessageBody, SpellsMessage}
use Rattle.wire_codec.specs.Reading.{message_in, is_message_length, frame_at, with_frame_length, if_framed, message_at}
use Rattle.wire_codec.specs.Faults.{IsMessageLength, IsShort, IsWhole, IsBadAt}
use Rattle.wire_codec.proofs.KindLemmas.{message-spelled}
use Rattle.wire_codec.proofs.Rereads.{message-read}
use Rattle.wire_codec.proofs.Lengths.{message-fits}

same_done : {A : Type 0} (x y : A) → done x ≡ done y → x ≡ y
same_done x y e = cc

same_place : (m n : ℕ) → failed {A = Message × ℕ} (Bad m) ≡ failed (Bad n) → m ≡ n
same_place m n e = cc

length-tells : (n : ℕ) → is_message_length n ≡ true → IsMessageLength n
length-tells n e = let a = and_2 _ _ e in record { least = leb-true _ _ a.0; most = leb-true _ _ a.1 }

length-passes : (n : ℕ) → IsMessageLength n → is_message_length n ≡ true
length-passes n is = rw (le-leb _ _ is.least, le-leb _ _ is.most) refl

-- ---- how long a frame is

length-frame : (a : List ℕ) (m : Message) → SpellsMessage a m → length a ≡ 4 + length (message_body m)
length-frame a m is = ap length is.spelled ∙ length-append (to_be_bytes w32 (length (message_body m))) (message_body m)

pub frame-least : (a : List ℕ) (m : Message) → SpellsMessage a m → 6 ≤ length a
frame-least a m is = omega (arith, length-frame a m is, (message-fits m is.valid).least)

pub frame-most : (a : List ℕ) (m : Message) → SpellsMessage a m → length a ≤ 600004
frame-most a m is = omega (arith, length-frame a m is, (message-fits m is.valid).most)

-- ---- what is spelled is read

framed : (bytes body : List ℕ) (n : ℕ) → number w32 0 bytes ≡ n → nat_lt (length bytes) 4 ≡ false → is_message_length n ≡ true → nat_lt (length bytes) (4 + n) ≡ false → take n (drop 4 bytes) ≡ body → frame_at bytes ≡ Ok body
unfolding frame_at
framed bytes body n n_is a b c d = rw (n_is, a, b, c, d) refl

pub message_at-read : (m : Message) (spelled rest : List ℕ) → SpellsMessage spelled m → message_at (spelled ++ rest) ≡ Ok (m, length spelled)
unfolding message_at
message_at-read m spelled rest is =
    let body = message_body m in
    let bytes = with_length body ++ rest in
    let fits = message-fits m is.valid in
    let n : number w32 0 bytes ≡ length body = from_be_bytes-to_be_bytes_4 (length body) (omega (arith, fits.most)) in
    let long : length bytes ≡ 4 + (length body + length rest) = omega (arith, length-append body rest) in
    let inner : take (length body) (drop 4 bytes) ≡ body = take_at body rest (length body) refl in
    let at = framed bytes body (length body) n (le-ltb _ _ (omega arith)) (length-passes _ fits) (le-ltb _ _ (omega arith)) inner in
    let len : 4 + length body ≡ length spelled = sym (length-frame spelled m is) in
    ap (λ (l : List ℕ). if_framed (frame_at (l ++ rest))) is.spelled ∙ ap if_framed at ∙ ap (with_frame_length (length body)) (message-read m is.valid) ∙ ap (λ (k : ℕ). done (m, k)) len

pub one_spelling : (a b x y : List ℕ) (m n : Message) → SpellsMessage a m → SpellsMessage b n → a ++ x ≡ b ++ y → (m ≡ n) × (a ≡ b)
one_spelling a b x y m n p q e =
    let both : (m, length a) ≡ (n, length b) = same_done (m, length a) (n, length b) (sym (message_at-read m a x p) ∙ ap message_at e ∙ message_at-read n b y q) in
    let same : m ≡ n = ap (λ (z : Message × ℕ). z.0) both in
    (same, p.spelled ∙ ap message_frame same ∙ sym q.spelled)

-- ---- what stands at the front, and what is read of it

pub data Row (bytes : List ℕ) : Result (Message × ℕ) FrameFault → Type 0 where
  unknown : length bytes < 4 → Row bytes (Err Short)
  unfit : 4 ≤ length bytes → ¬ IsMessageLength (length_in bytes) → Row bytes (Err (Bad 0))
  part : 4 ≤ length bytes → IsMessageLength (length_in bytes) → length bytes < 4 + length_in bytes → Row bytes (Err Short)
  no_body : IsWhole bytes → ((m : Message) → SpellsMessageBody (body_in bytes) m → ⊥) → Row bytes (Err (Bad 4))
  value : (m : Message) → IsWhole bytes → message_in (body_in bytes) ≡ Some m → Row bytes (Ok (m, 4 + length (body_in bytes)))

module _ (bytes : List ℕ) where
  body_row : (o : Option Message) → message_in (body_in bytes) ≡ o → IsWhole bytes → Row bytes (with_frame_length (length (body_in bytes)) o)
  body_row (Some m) e whole = value m whole e
  body_row None e whole = no_body whole none
    where
      none : (m : Message) → SpellsMessageBody (body_in bytes) m → ⊥
      none m is = let some = ap message_in is.spelled ∙ message-read m is.valid in absurd cc

  whole_row : (b : Bool) → nat_lt (length bytes) (4 + length_in bytes) ≡ b → 4 ≤ length bytes → IsMessageLength (length_in bytes) → Row bytes (if_framed (cond b (Err Short) (Ok (body_in bytes))))
  whole_row true e long in_range = part long in_range (ltb-true _ _ e)
  whole_row false e long in_range = body_row (message_in (body_in bytes)) refl (record { in_range = in_range; whole = ltb-false _ _ e })

  range_row : (b : Bool) → is_message_length (length_in bytes) ≡ b → 4 ≤ length bytes → Row bytes (if_framed (cond (not b) (Err (Bad 0)) (cond (nat_lt (length bytes) (4 + length_in bytes)) (Err Short) (Ok (body_in bytes)))))
  range_row true e long = whole_row _ refl long (length-tells _ e)
  range_row false e long = unfit long (λ is. let yes = length-passes _ is in absurd cc)

  first_row : (b : Bool) → nat_lt (length bytes) 4 ≡ b → Row bytes (if_framed (cond b (Err Short) (cond (not (is_message_length (length_in bytes))) (Err (Bad 0)) (cond (nat_lt (length bytes) (4 + length_in bytes)) (Err Short) (Ok (body_in bytes))))))
  first_row true e = unknown (ltb-true _ _ e)
  first_row false e = range_row _ refl (ltb-false _ _ e)

  row : Row bytes (message_at bytes)
  unfolding message_at frame_at
  row = first_row _ refl

  -- ---- what is read is spelled so

  body-spelled : (m : Message) → message_in (body_in bytes) ≡ Some m → IsBytes bytes → SpellsMessageBody (body_in bytes) m
  body-spelled m e fits = message-spelled (body_in bytes) m e (IsBytes-take (length_in bytes) (drop 4 bytes) (IsBytes-drop 4 bytes fits))

  value-spelled : (m : Message) → IsWhole bytes → message_in (body_in bytes) ≡ Some m → IsBytes bytes → BeginsWith SpellsMessage bytes m (4 + length (body_in bytes))
  value-spelled m is e fits =
      let n = length_in bytes in
      let body = body_in bytes in
      let spelled = body-spelled m e fits in
      let whole = is.whole in
      let len : length body ≡ n = length-take-le n (drop 4 bytes) (omega (arith, length-drop 4 bytes)) in
      let front : take 4 bytes ≡ to_be_bytes w32 n = sym (number-spelled_4 0 bytes (omega arith) fits) in
      record {
        within = omega arith;
        spelled = record {
          valid = spelled.valid;
          spelled = ap (λ (k : ℕ). take (4 + k) bytes) len ∙ take-add 4 n bytes ∙ ap (λ (l : List ℕ). l ++ body) front ∙ ap (λ (k : ℕ). to_be_bytes w32 k ++ body) (sym len) ∙ ap with_length spelled.spelled;
        };
      }

  found : (z : Result (Message × ℕ) FrameFault) (x : Message × ℕ) → Row bytes z → z ≡ Ok x → IsBytes bytes → BeginsWith SpellsMessage bytes x.0 x.1
  found z x (unknown a) e fits = absurd cc
  found z x (unfit a b) e fits = absurd cc
  found z x (part a b c) e fits = absurd cc
  found z x (no_body a b) e fits = absurd cc
  found z x (value m a b) e fits = subst (λ (y : Message × ℕ). BeginsWith SpellsMessage bytes y.0 y.1) (same_done _ _ e) (value-spelled m a b fits)

  pub message_at-spelled : (x : Message × ℕ) → message_at bytes ≡ Ok x → IsBytes bytes → BeginsWith SpellsMessage bytes x.0 x.1
  message_at-spelled x e fits = found _ x row e fits

  -- ---- each fault by its cause

  short_is : (z : Result (Message × ℕ) FrameFault) → Row bytes z → z ≡ Err Short → IsShort bytes
  short_is z (unknown a) e = inl a
  short_is z (unfit a b) e = absurd cc
  short_is z (part a b c) e = inr (a, b, c)
  short_is z (no_body a b) e = absurd cc
  short_is z (value m a b) e = absurd cc

  is_short : (z : Result (Message × ℕ) FrameFault) → Row bytes z → IsShort bytes → z ≡ Err Short
  is_short z (unknown a) h = refl
  is_short z (unfit a b) (inl h) = absurd (omega arith)
  is_short z (unfit a b) (inr h) = absurd (b h.1)
  is_short z (part a b c) h = refl
  is_short z (no_body a b) (inl h) = absurd (omega (arith, a.whole))
  is_short z (no_body a b) (inr h) = absurd (omega (arith, a.whole, h.2))
  is_short z (value m a b) (inl h) = absurd (omega (arith, a.whole))
  is_short z (value m a b) (inr h) = absurd (omega (arith, a.whole, h.2))

  pub message_at-short : (message_at bytes ≡ Err Short) ↔ IsShort bytes
  message_at-short = (short_is _ row, is_short _ row)

  bad_is : (at : ℕ) (z : Result (Message × ℕ) FrameFault) → Row bytes z → z ≡ Err (Bad at) → IsBadAt bytes at
  bad_is at z (unknown a) e = absurd cc
  bad_is at z (unfit a b) e = inl (sym (same_place 0 at e), a, b)
  bad_is at z (part a b c) e = absurd cc
  bad_is at z (no_body a b) e = inr (sym (same_place 4 at e), a, λ is. b is.0 is.1)
  bad_is at z (value m a b) e = absurd cc

  is_bad : (at : ℕ) (z : Result (Message × ℕ) FrameFault) → IsBytes bytes → Row bytes z → IsBadAt bytes at → z ≡ Err (Bad at)
  is_bad at z fits (unknown a) (inl h) = absurd (omega (arith, h.1))
  is_bad at z fits (unknown a) (inr h) = absurd (omega (arith, h.1.whole))
  is_bad at z fits (unfit a b) (inl h) = ap (λ (n : ℕ). failed (Bad n)) (sym h.0)
  is_bad at z fits (unfit a b) (inr h) = absurd (b h.1.in_range)
  is_bad at z fits (part a b c) (inl h) = absurd (h.2 b)
  is_bad at z fits (part a b c) (inr h) = absurd (omega (arith, h.1.whole))
  is_bad at z fits (no_body a b) (inl h) = absurd (h.2 a.in_range)
  is_bad at z fits (no_body a b) (inr h) = ap (λ (n : ℕ). failed (Bad n)) (sym h.0)
  is_bad at z fits (value m a b) (inl h) = absurd (h.2 a.in_range)
  is_bad at z fits (value m a b) (inr h) = absurd (h.2 (m, body-spelled m b fits))

  pub message_at-bad : (at : ℕ) → IsBytes bytes → (message_at bytes ≡ Err (Bad at)) ↔ IsBadAt bytes at
  message_at-bad at fits = (bad_is at _ row, is_bad at _ fits row)

  no_memory : (z : Result (Message × ℕ) FrameFault) → Row bytes z → z ≡ Err Memory → ⊥
  no_memory z (unknown a) e = cc
  no_memory z (unfit a b) e = cc
  no_memory z (part a b c) e = cc
  no_memory z (no_body a b) e = cc
  no_memory z (value m a b) e = cc

  pub message_at-memory : message_at bytes ≡ Err Memory → ⊥
  message_at-memory e = no_memory _ row e
