-- The journal and the files that its entries name, through cuts and syncs: what is counted stays firm at each moment.
use Rattle.std.proofs.Common.{◌≡◌, ◌≢◌, inl, inr, ℕ, ◌<◌, Bool, List, [], ◌∷◌, ◌++◌, length, take, refl, sym, ◌∙◌, ap, subst, arith, Option, Some, None}
use Rattle.std.specs.Prelude.{nat_lt, if◌then◌else◌}
use Rattle.std.proofs.lemmas.Bool.{cases_Bool, cases_eq, false_from_ne_true, ltb-true}
use Rattle.std.proofs.lemmas.List.{append-nil, take_at}
use Rattle.tx_model.specs.declared.meta.Meta.{Meta}
use Rattle.tx_model.specs.declared.meta.Meta.TheVariants.{Promise, Adopt, Low, Roll, Value}
use Rattle.tx_model.specs.Framing.{record_len, meta_len}
use Rattle.tx_model.specs.Frames.{IsFraming, joined, frames_in}
use Rattle.tx_model.specs.Contents.{entries_of}
use Rattle.tx_model.proofs.RecordFrames.{record_framing, meta_framing}
use Rattle.tx_model.proofs.Walks.{split, frames_in-joined}
use Rattle.disk_model.specs.File.{File, IsDuring, IsSound, IsPlain, settled, shortened}
use Rattle.disk_model.specs.Frames.{IsFirm}
use Rattle.disk_model.specs.History.{Files, History, EachMoment, AtEach, Always}
use Rattle.disk_model.proofs.Images.{empty}
use Rattle.disk_model.proofs.Firm.{firm_firmer, firm_settled, firm_shortened, firm_plain}
use Rattle.disk_model.proofs.Moments.{always_too, of_file}
use Rattle.segment_store.specs.Index.{Index}
use Rattle.segment_store.proofs.Loaded.{wholly-frames}
use Rattle.proto_model.specs.Held.{IfNames, EachNamed}
use Rattle.proto_model.specs.Damages.{Naming, named_by, or_before, last_named}
use Rattle.proto_model.proofs.Folding.{named-map}
use Rattle.partition_store.specs.Stands.{framing_of}
use Rattle.partition_store.specs.Loading.{named_file, frames_of, HoldFrames, AreFirm, IsLastFile}

-- ---- the framing of each file

pub framing_at : (q : ℕ) → IsFraming (framing_of q)
framing_at q = elim (cases_Bool (nat_lt q 2)) [
  | inl meta ↦ subst (λ (b : Bool). IsFraming (if b then meta_len else record_len)) (sym meta) meta_framing
  | inr records ↦ subst (λ (b : Bool). IsFraming (if b then meta_len else record_len)) (sym records) record_framing
]

pub framing-records : (q : ℕ) → 1 < q → framing_of q ≡ record_len
framing-records q above =
    ap (λ (b : Bool). if b then meta_len else record_len) (false_from_ne_true (nat_lt q 2) (λ is. omega (arith, above, ltb-true q 2 is)))

-- ---- named files

pub named-all : (P : ℕ → Type 0) (es : List Meta) → ((q : ℕ) → P q) → EachNamed P es
unfolding EachNamed
named-all P [] all = tt
named-all P (Promise s ∷ es) all = (tt, named-all P es all)
named-all P (Adopt s first file count ∷ es) all = (all file, named-all P es all)
named-all P (Low k ∷ es) all = (tt, named-all P es all)
named-all P (Roll file first ∷ es) all = (all file, named-all P es all)
named-all P (Value n ∷ es) all = (tt, named-all P es all)

abbrev IfLast : (ℕ → Type 0) → Option Naming → Type 0
IfLast P None = Unit {0}
IfLast P (Some n) = P n.file

or_first : (P : ℕ → Type 0) (e : Meta) (before : Option Naming) → IfNames P e → IfLast P before → IfLast P (or_before (named_by e) before)
or_first P (Promise s) before here was = was
or_first P (Adopt s first file count) before here was = here
or_first P (Low k) before here was = was
or_first P (Roll file first) before here was = here
or_first P (Value n) before here was = was

-- what holds of each named file holds of the last
named-last : (P : ℕ → Type 0) (es : List Meta) (before : Option Naming) → IfLast P before → EachNamed P es → IfLast P (last_named before es)
unfolding EachNamed last_named
named-last P [] before was all = was
named-last P (e ∷ es) before was all = named-last P es (or_before (named_by e) before) (or_first P e before all.0 was) all.1

pub last-has : (P : ℕ → Type 0) (es : List Meta) (n : Naming) → last_named None es ≡ Some n → EachNamed P es → P n.file
last-has P es n is all = subst (IfLast P) is (named-last P es None tt all)

-- ---- one call

module _ (frames : ℕ → List (List ℕ)) where
  one_file : (q : ℕ) (s t : Files) → AreFirm frames s → IsFirm (framing_of q) (frames q) (t q) → ((p : ℕ) → p ≢ q → t p ≡ s p) → AreFirm frames t
  one_file q s t firm here others = record { journal = at 0 firm.journal; named = named-map _ (λ p. IsFirm (framing_of p) (frames p) (t p)) (entries_of (frames 0)) at firm.named }
    where
      at : (p : ℕ) → IsFirm (framing_of p) (frames p) (s p) → IsFirm (framing_of p) (frames p) (t p)
      at p was = elim (cases_eq p q) [
        | inl same ↦ subst (λ (n : ℕ). IsFirm (framing_of n) (frames n) (t n)) (sym same) here
        | inr other ↦ subst (IsFirm (framing_of p) (frames p)) (sym (others p other)) was
      ]

  one_call : (q : ℕ) (P : File → Type 0) (mid new : History) → AreFirm frames mid.now → EachMoment q P mid new → ((f : File) → P f → IsFirm (framing_of q) (frames q) f) → AtEach (AreFirm frames) mid new
  one_call q P mid new firm run to = of_file q P (AreFirm frames) mid new run (λ s it others. one_file q mid.now s firm (to (s q) it) others)

  -- a cut behind the frames
  pub firm-cut : (q end : ℕ) (mid new : History) → AreFirm frames mid.now → IsFirm (framing_of q) (frames q) (mid.now q) → end ≡ length (joined (frames q))
      → EachMoment q (IsDuring (Unit {0}) (shortened end (mid.now q))) mid new → Always IsSound new → AtEach (AreFirm frames) mid new
  firm-cut q end mid new firm here end_is run sound =
      let len = framing_of q in
      let cut : IsFirm len (frames q) (shortened end (mid.now q)) = subst (λ (n : ℕ). IsFirm len (frames q) (shortened n (mid.now q))) (sym end_is) (firm_shortened len (framing_at q) (frames q) (mid.now q) here) in
      one_call q (λ f. IsDuring (Unit {0}) (shortened end (mid.now q)) f × IsSound f) mid new firm (always_too q (IsDuring (Unit {0}) (shortened end (mid.now q))) IsSound mid new run sound)
      (λ f both. firm_firmer len (framing_at q) (frames q) f (shortened end (mid.now q)) cut both.0.firmer (both.0.put tt) both.1.as_put)

  -- a sync of what is read
  pub firm-sync : (q : ℕ) (mid new : History) → AreFirm frames mid.now → frames_of mid.now q ≡ frames q → EachMoment q (λ f. f ≡ settled (mid.now q).reads) mid new → AtEach (AreFirm frames) mid new
  firm-sync q mid new firm same run =
      let len = framing_of q in
      let parts = split len (framing_at q) (mid.now q).reads in
      let whole : IsFirm len (frames q) (settled (mid.now q).reads) = subst (λ (l : List ℕ). IsFirm len (frames q) (settled l)) (sym parts.is)
      (subst (λ (fs : List (List ℕ)). IsFirm len fs (settled (joined (frames_of mid.now q) ++ parts.rest))) same (firm_settled len (framing_at q) (frames_of mid.now q) parts.rest parts.frames parts.none)) in
      one_call q (λ f. f ≡ settled (mid.now q).reads) mid new firm run (λ f is. subst (IsFirm len (frames q)) (sym is) whole)

-- ---- what is read after a cut

-- the frames alone
pub cut-reads : (q end : ℕ) (old : List ℕ) → end ≡ length (joined (frames_in (framing_of q) old)) → take end old ≡ joined (frames_in (framing_of q) old)
cut-reads q end old end_is =
    let fs = frames_in (framing_of q) old in
    let parts = split (framing_of q) (framing_at q) old in
    ap (λ (n : ℕ). take n old) end_is ∙ ap (λ (l : List ℕ). take (length (joined fs)) l) parts.is ∙ take_at (joined fs) parts.rest (length (joined fs)) refl

-- they are the same frames
pub joined-frames : (q : ℕ) (old : List ℕ) → frames_in (framing_of q) (joined (frames_in (framing_of q) old)) ≡ frames_in (framing_of q) old
joined-frames q old =
    let fs = frames_in (framing_of q) old in
    let parts = split (framing_of q) (framing_at q) old in
    ap (frames_in (framing_of q)) (sym (append-nil (joined fs))) ∙ frames_in-joined (framing_of q) (framing_at q) fs [] parts.frames (empty (framing_of q) (framing_at q))

-- where the last file's last record ends
pub last-end : (entries : List Meta) (s : Files) (i : Index) → IsLastFile entries s i → i.end ≡ length (joined (frames_of s i.file))
last-end entries s i last =
    last.whole.index.end ∙ ap (λ (fs : List (List ℕ)). length (joined fs)) (sym (wholly-frames i (s i.file).reads last.whole))
    ∙ ap (λ (len : List ℕ → ℕ). length (joined (frames_in len (s i.file).reads))) (sym (framing-records i.file last.above))

-- a disk on which nothing is unsynced
pub firm-plain : (s : Files) → ((q : ℕ) → IsPlain (s q)) → AreFirm (frames_of s) s
firm-plain s plain = record {
  journal = firm_plain (framing_of 0) (framing_at 0) (s 0) (plain 0);
  named = named-all _ (entries_of (frames_of s 0)) (λ q. firm_plain (framing_of q) (framing_at q) (s q) (plain q));
}

-- ---- the file that one entry names

pub named-none : (P : ℕ → Type 0) (e : Meta) (o : Option ℕ) → o ≡ named_file e → ((q : ℕ) → o ≡ Some q → ⊥) → EachNamed P (e ∷ [])
unfolding EachNamed
named-none P (Promise s) o is not = (tt, tt)
named-none P (Adopt s first file count) o is not = absurd (not file is)
named-none P (Low k) o is not = (tt, tt)
named-none P (Roll file first) o is not = absurd (not file is)
named-none P (Value n) o is not = (tt, tt)

same_file : (p q : ℕ) → Some p ≡ Some q → p ≡ q
same_file p q e = cc

pub named-one : (P : ℕ → Type 0) (e : Meta) (q : ℕ) → named_file e ≡ Some q → P q → EachNamed P (e ∷ [])
unfolding EachNamed
named-one P (Promise s) q is it = (tt, tt)
named-one P (Adopt s first file count) q is it = (subst P (sym (same_file file q is)) it, tt)
named-one P (Low k) q is it = (tt, tt)
named-one P (Roll file first) q is it = (subst P (sym (same_file file q is)) it, tt)
named-one P (Value n) q is it = (tt, tt)

-- one entry more
pub named-next : (P : ℕ → Type 0) (es : List Meta) (e : Meta) → EachNamed P es → EachNamed P (e ∷ []) → EachNamed P (es ++ e ∷ [])
unfolding EachNamed
named-next P [] e all it = it
named-next P (d ∷ es) e all it = (all.0, named-next P es e all.1 it)

-- a file that was synced
pub plain-settled : (f : File) (bytes : List ℕ) → f ≡ settled bytes → IsPlain f
plain-settled f bytes is = subst IsPlain (sym is) refl

pub none-named : (P : ℕ → Type 0) → EachNamed P []
unfolding EachNamed
none-named P = tt

-- files that read the same hold the same frames
pub hold-same : (frames : ℕ → List (List ℕ)) (s t : Files) → ((q : ℕ) → (t q).reads ≡ (s q).reads) → HoldFrames frames s → HoldFrames frames t
hold-same frames s t reads same q = ap (λ (l : List ℕ). frames_in (framing_of q) l) (reads q) ∙ same q

-- ---- the cut of the last file

-- a file, and where its last record ends
module _ (q end : ℕ) (i : Index) (q_is : q ≡ i.file) (end_is : end ≡ i.end) where
  ends : (entries : List Meta) (s : Files) → IsLastFile entries s i → end ≡ length (joined (frames_of s q))
  ends entries s last = end_is ∙ last-end entries s i last ∙ ap (λ (n : ℕ). length (joined (frames_of s n))) (sym q_is)

  pub firm-cut-last : (frames : ℕ → List (List ℕ)) (old new : History) → HoldFrames frames old.now → AreFirm frames old.now → IsLastFile (entries_of (frames 0)) old.now i
      → EachMoment q (IsDuring (Unit {0}) (shortened end (old.now q))) old new → Always IsSound new → AtEach (AreFirm frames) old new
  firm-cut-last frames old new same firm last run sound =
      let here : IsFirm (framing_of q) (frames q) (old.now q) = subst (λ (n : ℕ). IsFirm (framing_of n) (frames n) (old.now n)) (sym (q_is ∙ last.file_is)) (last-has _ (entries_of (frames 0)) last.named last.last firm.named) in
      firm-cut frames q end old new firm here (ends (entries_of (frames 0)) old.now last ∙ ap (λ (fs : List (List ℕ)). length (joined fs)) (same q)) run sound

  pub cut-last : (entries : List Meta) (old new : Files) → IsLastFile entries old i → (new q).reads ≡ take end (old q).reads → (new i.file).reads ≡ joined (frames_of old i.file)
  cut-last entries old new last reads =
      subst (λ (n : ℕ). (new n).reads ≡ joined (frames_of old n)) q_is (reads ∙ cut-reads q end (old q).reads (ends entries old last))
