-- Files without a tail, of which a segment has all records.
use Rattle.std.proofs.Common.{◌≡◌, ℕ, ◌+◌, ◌<◌, ◌≤◌, ◌^◌, List, [], ◌∷◌, length, sym, ◌∙◌, ap, subst, arith}
use Rattle.tx_model.specs.declared.record.Record.{Record}
use Rattle.tx_model.specs.Records.{RiseByOne}
use Rattle.tx_model.specs.Contents.{records_of, records_in}
use Rattle.disk_model.specs.File.{File, IsPlain, settled}
use Rattle.segment_store.specs.Index.{Index, count_of, IsIndexOfAll, IsTidy as IsTidySegment}
use Rattle.segment_store.proofs.Indexing.{index-count, length-records_of}
use Rattle.segment_store.proofs.Staged.{all-frames}

pub all-count : (i : Index) (bytes : List ℕ) → IsIndexOfAll i bytes → count_of i ≡ length (records_in bytes)
all-count i bytes all =
    index-count i bytes all.index ∙ sym (length-records_of all.index.frames) ∙ ap (λ (fs : List (List ℕ)). length (records_of fs)) (sym (all-frames i bytes all).1)

pub all-rise : (i : Index) (bytes : List ℕ) → IsIndexOfAll i bytes → RiseByOne i.first (records_in bytes)
all-rise i bytes all = subst (λ (fs : List (List ℕ)). RiseByOne i.first (records_of fs)) (sym (all-frames i bytes all).1) all.index.ids

-- a tidy file has no tail
pub tidy-all : (i : Index) (f : File) → IsTidySegment i f → IsIndexOfAll i f.reads
tidy-all i f tidy = record { index = tidy.index; ends = tidy.at_rest.end_is }

pub segment-plain : (i : Index) (f : File) → IsTidySegment i f → IsPlain f
segment-plain i f tidy = tidy.at_rest.is ∙ ap settled (sym (ap (λ (g : File). g.reads) tidy.at_rest.is))

-- records with ids that rise by one end below the limit
pub rise-bound : (id : ℕ) (rs : List Record) → RiseByOne id rs → 0 < length rs → id + length rs ≤ 2 ^ 48
unfolding RiseByOne
rise-bound id [] rise some = absurd (omega arith)
rise-bound id (r ∷ []) rise some = omega (arith, rise.0.id.below, rise.1)
rise-bound id (r ∷ s ∷ rs) rise some = omega (arith, rise-bound (id + 1) (s ∷ rs) rise.2 (omega arith))
