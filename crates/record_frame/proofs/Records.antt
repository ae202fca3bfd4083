-- The format of records: its bodies are read exactly as they are spelled, and so its frames are.
use Rattle.std.proofs.Common.{◌≡◌, ◌≢◌, ℕ, true, List, ◌++◌, length, Some, Ok, Err, refl, ap, ◌∙◌, subst, arith}
use Rattle.std.specs.Prelude.{◌↔◌}
use Rattle.std.proofs.lemmas.Bool.{leb-true, le-leb}
use Rattle.tx_model.specs.declared.record.Record.{Record}
use Rattle.tx_model.specs.Records.{IsRecord}
use Rattle.tx_model.specs.Spelling.{record_body, SpellsRecordBody, SpellsRecord}
use Rattle.record_frame.specs.declared.fault.FrameFault.TheVariants.{Short, Bad, Memory}
use Rattle.tx_model.specs.Reading.{is_record_length, is_body, record_of, record_in}
use Rattle.record_frame.specs.Reading.{record_at, BeginsWith}
use Rattle.record_frame.specs.Faults.{IsRecordLength, IsRecordBody, IsShort, IsBadAt}
use Rattle.record_frame.proofs.Names.{and_2}
use Rattle.record_frame.proofs.Parts.{IsBytes, record-spelled, record-read, record-length}
use Rattle.record_frame.proofs.Values.{tested, IsFormat, value_at-read, value_at-spelled, value_at-alone, IsAlone, one_spelling, short_exactly, bad_exactly, never_memory}

record_in-spelled : (body : List ℕ) (r : Record) → record_in body ≡ Some r → IsBytes body → SpellsRecordBody body r
record_in-spelled body r e fits =
    let t = tested (is_body body) (record_of body) r e in
    subst (λ (s : Record). SpellsRecordBody body s) t.1 (record-spelled body t.0 fits)

record_in-read : (r : Record) → IsRecord r → record_in (record_body r) ≡ Some r
record_in-read r is = let read = record-read r is in rw (read.form, read.same) refl

pub is_body-exactly : (body : List ℕ) → IsBytes body → (is_body body ≡ true) ↔ IsRecordBody body
is_body-exactly body fits = (λ e. (record_of body, record-spelled body e fits), λ h. ap is_body h.1.spelled ∙ (record-read h.0 h.1.valid).form)

record_tells : (n : ℕ) → is_record_length n ≡ true → IsRecordLength n
record_tells n e = let p = and_2 _ _ e in (leb-true _ _ p.0, leb-true _ _ p.1)

pub record_format : IsFormat IsRecordLength IsRecord record_body is_record_length record_in
record_format = record {
  passes = λ n is. rw (le-leb _ _ is.0, le-leb _ _ is.1) refl;
  tells = record_tells;
  below = λ n is. omega (arith, is.1);
  fits = λ r is. let l = record-length r is in (l.least, l.most);
  spelled = record_in-spelled;
  read = record_in-read;
}

-- ---- records in frames

pub record_at-read : (r : Record) (spelled rest : List ℕ) → SpellsRecord spelled r → record_at (spelled ++ rest) ≡ Ok (r, length spelled)
record_at-read = value_at-read IsRecordLength IsRecord record_body is_record_length record_in record_format

pub record_at-spelled : (bytes : List ℕ) (x : Record × ℕ) → record_at bytes ≡ Ok x → IsBytes bytes → BeginsWith SpellsRecord bytes x.0 x.1
record_at-spelled = value_at-spelled IsRecordLength IsRecord record_body is_record_length record_in record_format

pub record_at-alone : (bytes : List ℕ) (x : Record × ℕ) → record_at bytes ≡ Ok x → IsAlone IsRecordLength IsRecord record_body is_record_length record_in record_format bytes x
record_at-alone = value_at-alone IsRecordLength IsRecord record_body is_record_length record_in record_format

pub record_spellings-apart : (a b x y : List ℕ) (r s : Record) → SpellsRecord a r → SpellsRecord b s → a ++ x ≡ b ++ y → (r ≡ s) × (a ≡ b)
record_spellings-apart = one_spelling IsRecordLength IsRecord record_body is_record_length record_in record_format

pub record_at-short : (bytes : List ℕ) → (record_at bytes ≡ Err Short) ↔ IsShort IsRecordLength bytes
record_at-short = short_exactly IsRecordLength IsRecord record_body is_record_length record_in record_format

pub record_at-bad : (bytes : List ℕ) (at : ℕ) → IsBytes bytes → (record_at bytes ≡ Err (Bad at)) ↔ IsBadAt IsRecordLength IsRecordBody bytes at
record_at-bad = bad_exactly IsRecordLength IsRecord record_body is_record_length record_in record_format

pub record_at-memory : (bytes : List ℕ) → record_at bytes ≢ Err Memory
record_at-memory = never_memory IsRecordLength IsRecord record_body is_record_length record_in record_format
