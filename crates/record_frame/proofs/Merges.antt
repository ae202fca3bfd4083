-- Two lists of names in bytes, read together from the front.
use Rattle.std.proofs.Common.{◌≡◌, ℕ, ◌-◌, ◌<◌, Bool, true, false, List, ◌∷◌, arith}
use Rattle.std.specs.declared.cmp.Ordering.TheVariants.{Greater, Equal}
use Rattle.std.specs.Ordering.{nat_cmp}
use Rattle.std.specs.Cmp.Lexicographic.{slice_cmp}
use Rattle.tx_model.proofs.Merging.{IsLess, IsMerge, merge-less, merge-greater, merge-equal, merge-no_reads, merge-no_writes}
use Rattle.tx_model.specs.Transactions.{are_apart}
use Rattle.tx_model.specs.Reading.{is_name_at, name_at, after_name, are_names, names_of}
use Rattle.record_frame.proofs.Names.{is_good, names_of-next, names-rise}

-- this many names that rise stand at the front
abbrev pub Rise : ℕ → List ℕ → Type 0
Rise n bytes = (last : List ℕ) × (are_names last n bytes ≡ true)

-- these are what is left of two lists
pub record AreLeft (apart : Bool) (reads : ℕ) (read_bytes : List ℕ) (writes : ℕ) (write_bytes : List ℕ) : Type 0 where
  pub reads_rise : Rise reads read_bytes
  pub writes_rise : Rise writes write_bytes
  pub same : are_apart (names_of reads read_bytes) (names_of writes write_bytes) ≡ apart

-- the first name, and those behind it
pub record HasFirst (n : ℕ) (bytes : List ℕ) : Type 0 where
  pub name : is_name_at bytes ≡ true
  pub rest : Rise (n - 1) (after_name bytes)
  pub names : names_of n bytes ≡ name_at bytes ∷ names_of (n - 1) (after_name bytes)

pub first_of : (n : ℕ) (bytes : List ℕ) → 0 < n → Rise n bytes → HasFirst n bytes
first_of n bytes some rise =
    let all : n - 0 ≡ n = omega arith in
    let good = is_good rise.0 n 0 bytes some (rw all rise.1) in
    let names = names_of-next n 0 bytes some in
    record { name = good.name; rest = (name_at bytes, good.rest); names = rw all at names }

module _ {apart : Bool} {reads writes : ℕ} {read_bytes write_bytes : List ℕ} where
  merge_of : AreLeft apart reads read_bytes writes write_bytes → IsMerge apart (names_of reads read_bytes) (names_of writes write_bytes)
  merge_of l = record {
    reads_rise = (l.reads_rise.0, names-rise l.reads_rise.0 reads read_bytes l.reads_rise.1);
    writes_rise = (l.writes_rise.0, names-rise l.writes_rise.0 writes write_bytes l.writes_rise.1);
    same = l.same;
  }

  first_merge : AreLeft apart reads read_bytes writes write_bytes → 0 < reads → 0 < writes →
      IsMerge apart (name_at read_bytes ∷ names_of (reads - 1) (after_name read_bytes)) (name_at write_bytes ∷ names_of (writes - 1) (after_name write_bytes))
  first_merge l some_reads some_writes =
      rw ((first_of reads read_bytes some_reads l.reads_rise).names, (first_of writes write_bytes some_writes l.writes_rise).names) at (merge_of l)

  pub left-less : AreLeft apart reads read_bytes writes write_bytes → 0 < reads → 0 < writes → IsLess (name_at read_bytes) (name_at write_bytes) → AreLeft apart (reads - 1) (after_name read_bytes) writes write_bytes
  left-less l some_reads some_writes less = record {
    reads_rise = (first_of reads read_bytes some_reads l.reads_rise).rest;
    writes_rise = l.writes_rise;
    same = rw (first_of writes write_bytes some_writes l.writes_rise).names (merge-less apart _ _ _ _ (first_merge l some_reads some_writes) less).same;
  }

  pub left-greater : AreLeft apart reads read_bytes writes write_bytes → 0 < reads → 0 < writes → slice_cmp nat_cmp (name_at read_bytes) (name_at write_bytes) ≡ Greater → AreLeft apart reads read_bytes (writes - 1) (after_name write_bytes)
  left-greater l some_reads some_writes greater = record {
    reads_rise = l.reads_rise;
    writes_rise = (first_of writes write_bytes some_writes l.writes_rise).rest;
    same = rw (first_of reads read_bytes some_reads l.reads_rise).names (merge-greater apart _ _ _ _ (first_merge l some_reads some_writes) greater).same;
  }

  pub left-equal : AreLeft apart reads read_bytes writes write_bytes → 0 < reads → 0 < writes → slice_cmp nat_cmp (name_at read_bytes) (name_at write_bytes) ≡ Equal → false ≡ apart
  left-equal l some_reads some_writes equal = merge-equal apart _ _ _ _ (first_merge l some_reads some_writes) equal

pub left-no_reads : (apart : Bool) (reads writes : ℕ) (read_bytes write_bytes : List ℕ) → AreLeft apart reads read_bytes writes write_bytes → reads ≡ 0 → true ≡ apart
unfolding names_of
left-no_reads apart reads writes read_bytes write_bytes l none = merge-no_reads apart _ (rw none at (merge_of l))

pub left-no_writes : (apart : Bool) (reads writes : ℕ) (read_bytes write_bytes : List ℕ) → AreLeft apart reads read_bytes writes write_bytes → writes ≡ 0 → true ≡ apart
unfolding names_of
left-no_writes apart reads writes read_bytes write_bytes l none = merge-no_writes apart _ (rw none at (merge_of l))
