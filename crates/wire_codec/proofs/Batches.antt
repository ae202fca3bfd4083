-- Batches and heads: what is in form is spelled so, and what is spelled is in form and read again.
use Rattle.std.proofs.Common.{◌≡◌, ℕ, ◌≤◌, Bool, true, ◌&&◌, nat_le, List, [], ◌∷◌, ◌++◌, length, drop, refl, sym, ap, ◌∙◌, subst, length-append, arith}
use Rattle.std.specs.Prelude.{slice_index, ◌==◌}
use Rattle.std.specs.List.{flat_map}
use Rattle.std.specs.Int.{w32, w64, to_be_bytes}
use Rattle.std.proofs.lemmas.Bool.{le-leb}
use Rattle.std.proofs.lemmas.List.{nil_from_length, append-nil}
use Rattle.std.proofs.lemmas.Nat.{from_be_bytes-to_be_bytes_8}
use Rattle.tx_model.specs.declared.record.Record.{Record}
use Rattle.tx_model.specs.declared.record.Head.{Head}
use Rattle.tx_model.specs.Records.{RiseByOne, first_id, IsBatch}
use Rattle.tx_model.specs.Spelling.{record_body}
use Rattle.proto_model.specs.Validity.{AreHeads}
use Rattle.tx_model.specs.Reading.{number, is_place}
use Rattle.record_frame.proofs.Parts.{IsBytes, IsBytes-drop, place-passes, front, record-length}
use Rattle.wire_codec.specs.Spelling.{spelled_entry, spelled_batch, spelled_head, spelled_heads}
use Rattle.wire_codec.specs.Runs.{are_items, items_of, past_items}
use Rattle.wire_codec.specs.Reading.{is_entry, entry_of, after_entry, is_batch, batch_of, is_head, head_of, after_head, are_heads, heads_of}
use Rattle.wire_codec.proofs.Runs.{RunFrom, length-items_of, items-spelled, items-read}
use Rattle.wire_codec.proofs.Formats.{IsEntryAt, IsHeadAt, entries_rise, entries_run, heads_rise, heads_run, is_batch_tells, are_heads_tell, entry_format, head_format}

-- ---- batches

pub record IsSpelledBatch (bytes : List ℕ) : Type 0 where
  pub is : IsBatch (batch_of bytes)
  pub spelled : bytes ≡ spelled_batch (batch_of bytes)

-- a run begins with its first id
run-first : (id : ℕ) (records : List Record) → 1 ≤ length records → RunFrom IsEntryAt id records → first_id records ≡ id
unfolding RunFrom
run-first id [] some run = absurd (omega (arith, some))
run-first id (r ∷ records) some run = run.0.at

pub batch-spelled : (bytes : List ℕ) → is_batch bytes ≡ true → IsBytes bytes → IsSpelledBatch bytes
unfolding batch_of
batch-spelled bytes e fits =
    let t = is_batch_tells bytes e in
    let n = slice_index bytes 0 in
    let first = number w64 6 bytes in
    let rs = items_of entry_of after_entry n (drop 1 bytes) in
    let len : length rs ≡ n = length-items_of entry_of after_entry n (drop 1 bytes) in
    let items = items-spelled spelled_entry IsEntryAt is_entry entry_of after_entry entry_format first n (drop 1 bytes) t.items (IsBytes-drop 1 bytes fits) in
    let nothing : past_items after_entry n (drop 1 bytes) ≡ [] = nil_from_length _ t.all in
    let first_is : first_id rs ≡ first = run-first first rs (omega (arith, t.some)) items.fits in
    let whole : drop 1 bytes ≡ flat_map spelled_entry rs = items.spelled ∙ ap (λ (l : List ℕ). flat_map spelled_entry rs ++ l) nothing ∙ append-nil (flat_map spelled_entry rs) in
    record {
      is = record { some = omega (arith, t.some); few = omega (arith, t.few); rise = subst (λ (k : ℕ). RiseByOne k rs) (sym first_is) (entries_rise first rs items.fits) };
      spelled = front bytes (omega (arith, t.long)) ∙ ap (λ (l : List ℕ). n ∷ l) whole ∙ ap (λ (k : ℕ). k ∷ flat_map spelled_entry rs) (sym len);
    }

pub record BatchIsRead (records : List Record) : Type 0 where
  pub form : is_batch (spelled_batch records) ≡ true
  pub same : batch_of (spelled_batch records) ≡ records

pub batch-read : (records : List Record) → IsBatch records → BatchIsRead records
unfolding is_batch batch_of RiseByOne record_body
batch-read [] is = absurd (omega (arith, is.some))
batch-read (r ∷ rs) is =
    let all_rs = r ∷ rs in
    let bytes = spelled_batch all_rs in
    let read = items-read spelled_entry IsEntryAt is_entry entry_of after_entry entry_format r.id all_rs [] (entries_run r.id all_rs is.rise) in
    let all : flat_map spelled_entry all_rs ++ [] ≡ flat_map spelled_entry all_rs = append-nil (flat_map spelled_entry all_rs) in
    let id : number w64 6 bytes ≡ r.id = from_be_bytes-to_be_bytes_8 r.id (omega (arith, is.rise.0.id.below)) in
    let place : is_place (number w64 6 bytes) ≡ true = ap is_place id ∙ place-passes r.id is.rise.0.id in
    let long : 14 ≤ length bytes = omega (arith, record-length r is.rise.0, length-append (spelled_entry r) (flat_map spelled_entry rs), length-append (to_be_bytes w32 (length (record_body r))) (record_body r)) in
    let a : nat_le 14 (length bytes) ≡ true = le-leb _ _ long in
    let b : nat_le 1 (length all_rs) ≡ true = le-leb _ _ is.some in
    let c : nat_le (length all_rs) 8 ≡ true = le-leb _ _ is.few in
    let d : are_items is_entry after_entry (number w64 6 bytes) (length all_rs) (flat_map spelled_entry all_rs) ≡ true = ap (λ (k : ℕ). are_items is_entry after_entry k (length all_rs) (flat_map spelled_entry all_rs)) id ∙ ap (are_items is_entry after_entry r.id (length all_rs)) (sym all) ∙ read.form in
    let past : past_items after_entry (length all_rs) (flat_map spelled_entry all_rs) ≡ [] = ap (past_items after_entry (length all_rs)) (sym all) ∙ read.past in
    let e : (length (past_items after_entry (length all_rs) (flat_map spelled_entry all_rs)) == 0) ≡ true = ap (λ (l : List ℕ). length l == 0) past in
    record { form = six _ _ _ _ _ _ a b c place d e; same = ap (items_of entry_of after_entry (length all_rs)) (sym all) ∙ read.same }
  where
    six : (a b c d e f : Bool) → a ≡ true → b ≡ true → c ≡ true → d ≡ true → e ≡ true → f ≡ true → (a && (b && (c && (d && (e && f))))) ≡ true
    six a b c d e f p q r s t u = rw (p, q, r, s, t, u) refl

-- ---- heads

pub record AreSpelledHeads (from : ℕ) (bytes : List ℕ) : Type 0 where
  pub are : AreHeads from (heads_of bytes)
  pub spelled : bytes ≡ spelled_heads (heads_of bytes)

pub heads-spelled : (from : ℕ) (bytes : List ℕ) → are_heads from bytes ≡ true → IsBytes bytes → AreSpelledHeads from bytes
unfolding heads_of
heads-spelled from bytes e fits =
    let t = are_heads_tell from bytes e in
    let n = slice_index bytes 0 in
    let hs = items_of head_of after_head n (drop 1 bytes) in
    let len : length hs ≡ n = length-items_of head_of after_head n (drop 1 bytes) in
    let items = items-spelled spelled_head IsHeadAt is_head head_of after_head head_format from n (drop 1 bytes) t.items (IsBytes-drop 1 bytes fits) in
    let nothing : past_items after_head n (drop 1 bytes) ≡ [] = nil_from_length _ t.all in
    let whole : drop 1 bytes ≡ flat_map spelled_head hs = items.spelled ∙ ap (λ (l : List ℕ). flat_map spelled_head hs ++ l) nothing ∙ append-nil (flat_map spelled_head hs) in
    record {
      are = record { few = omega (arith, t.few); rise = heads_rise from hs items.fits };
      spelled = front bytes (omega (arith, t.long)) ∙ ap (λ (l : List ℕ). n ∷ l) whole ∙ ap (λ (k : ℕ). k ∷ flat_map spelled_head hs) (sym len);
    }

pub record HeadsAreRead (from : ℕ) (heads : List Head) : Type 0 where
  pub form : are_heads from (spelled_heads heads) ≡ true
  pub same : heads_of (spelled_heads heads) ≡ heads

pub heads-read : (from : ℕ) (heads : List Head) → AreHeads from heads → HeadsAreRead from heads
unfolding are_heads heads_of
heads-read from hs are =
    let read = items-read spelled_head IsHeadAt is_head head_of after_head head_format from hs [] (heads_run from hs are.rise) in
    let all : flat_map spelled_head hs ++ [] ≡ flat_map spelled_head hs = append-nil (flat_map spelled_head hs) in
    let a : nat_le 1 (length (spelled_heads hs)) ≡ true = le-leb 1 (length (spelled_heads hs)) (omega arith) in
    let b : nat_le (length hs) 16 ≡ true = le-leb _ _ are.few in
    let c : are_items is_head after_head from (length hs) (flat_map spelled_head hs) ≡ true = ap (are_items is_head after_head from (length hs)) (sym all) ∙ read.form in
    let d : past_items after_head (length hs) (flat_map spelled_head hs) ≡ [] = ap (past_items after_head (length hs)) (sym all) ∙ read.past in
    let e : (length (past_items after_head (length hs) (flat_map spelled_head hs)) == 0) ≡ true = ap (λ (l : List ℕ). length l == 0) d in
    record { form = rw (a, b, c, e) refl; same = ap (items_of head_of after_head (length hs)) (sym all) ∙ read.same }
