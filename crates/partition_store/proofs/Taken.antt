-- Entries taken in while a store is loaded, with the files that they name.
use Rattle.std.proofs.Common.{◌≡◌, inl, inr, ℕ, ◌+◌, ◌-◌, ◌<◌, ◌≤◌, ◌^◌, true, List, [], ◌∷◌, ◌++◌, length, take, refl, sym, ◌∙◌, ap, subst, arith, length-append, Option, Some, None}
use Rattle.std.specs.Prelude.{min, IfNone, IfSome}
use Rattle.std.specs.Option.{option_to_list}
use Rattle.std.proofs.lemmas.List.{append-nil, take_all, take-append-le, length-take-le}
use Rattle.tx_model.specs.declared.record.Record.{Record}
use Rattle.tx_model.specs.declared.meta.Meta.{Meta}
use Rattle.tx_model.specs.Records.{ids_rise}
use Rattle.tx_model.specs.Frames.{frames_in}
use Rattle.tx_model.specs.Framing.{record_len}
use Rattle.tx_model.specs.Contents.{records_of, records_in, entries_in, IsDamagedAt}
use Rattle.tx_model.proofs.RisingIds.{none-rise, ids_rise-take}
use Rattle.segment_store.specs.Index.{Index, count_of, IsWholeIndexOf, IsLoadable, IsDamagedWithin, IsDamagedBehind}
use Rattle.segment_store.proofs.Indexing.{index-count}
use Rattle.segment_store.proofs.Loaded.{wholly-frames}
use Rattle.proto_model.specs.Held.{Held, Contents, table_of, none_held, is_legal, held_after}
use Rattle.proto_model.specs.Damages.{Naming, named_by, or_before, last_named, IsTakenSoFar, FoldsSoFar, Reached, end, names, IsDamaged}
use Rattle.proto_model.proofs.Folding.{none_sane}
use Rattle.proto_model.proofs.SoFar.{so_far-none, so_far-more, so_far-sane, ids_joined, IsCounted, counted-named}
use Rattle.proto_model.proofs.WrongFrames.{length-records, damaged-records}
use Rattle.partition_store.specs.Stores.{AreClosed, IsChain, AreInOrder, records_by}
use Rattle.partition_store.specs.Loading.{IsLastRead, last_records, IsWholeLog, IsWrongTail, IsTailOf, IsLoadedOf}
use Rattle.partition_store.specs.declared.taking.Loaded.{Loaded}
use Rattle.proto_model.proofs.NamedFiles.{names-if, NamesWithin, names-within, named-after, last_named-more}
use Rattle.partition_store.proofs.Chains.{chain-more, closed-append, records_by-append}

-- ---- a file that was read

-- what reading it says
pub record IsFound (c : Contents) (n : Naming) (segment : Index) (frames : ℕ) (wrong : Option ℕ) : Type 0 where
  pub file : segment.file ≡ n.file
  pub long : frames ≡ length (records_in (c n.file))
  pub whole : IfNone wrong (IsWholeIndexOf segment (c n.file))
  pub loadable : IfNone wrong (IsLoadable n.first n.count (records_in (c n.file)))
  pub behind : IfSome wrong (λ at. IsDamagedBehind n.first n.count (c n.file) at)

-- a damaged place behind the counted records leaves those in order
behind-counted : (c : Contents) (n : Naming) (at : ℕ) → IsDamagedBehind n.first n.count (c n.file) at → IsCounted (table_of c) n
behind-counted c n at wrong =
    let bytes = c n.file in
    let front = records_of wrong.damaged.front in
    let more = records_of (frames_in record_len wrong.damaged.rest) in
    let all : records_in bytes ≡ front ++ more = damaged-records n.first n.count bytes at wrong.damaged in
    let few : n.count ≤ length front = omega (arith, wrong.behind, length-records wrong.damaged.front) in
    record {
      enough = omega (arith, few, ap length all, length-append front more);
      ids =
          subst (λ (rs : List Record). ids_rise n.first rs ≡ true)
          (sym (ap (take n.count) all ∙ take-append-le n.count front more few)) (ids_rise-take n.first front n.count wrong.damaged.ids);
    }

loadable-counted : (c : Contents) (n : Naming) → IsLoadable n.first n.count (records_in (c n.file)) → IsCounted (table_of c) n
loadable-counted c n loadable = record { enough = loadable.enough; ids = ids_rise-take n.first (records_in (c n.file)) n.count loadable.ids }

found-counted : (c : Contents) (n : Naming) (segment : Index) (frames : ℕ) (wrong : Option ℕ) → IsFound c n segment frames wrong → IsCounted (table_of c) n
found-counted c n segment frames None found = loadable-counted c n found.loadable
found-counted c n segment frames (Some at) found = behind-counted c n at found.behind

-- what is known where there is no value, or of it
pub if_none : {A T : Type 0} (P : Type 0) (o : Option A) → T → IfNone o (T → P) → IfNone o P
if_none P None t is = is t
if_none P (Some x) t is = tt

pub if_some : {A : Type 0} (o : Option A) (P Q : A → Type 0) → IfSome o P → ((x : A) → P x → Q x) → IfSome o Q
if_some None P Q is to = tt
if_some (Some x) P Q is to = to x is

-- ---- the file before it

-- its tail is in order
pub none_wrong : (wrong : Option ℕ) → ((at : ℕ) → wrong ≡ Some at → ⊥) → wrong ≡ None
none_wrong None not = refl
none_wrong (Some at) not = absurd (not at refl)

-- the greatest number of a file so far
read_above : (c : Contents) (h : Held) (last : Option Index) → IsLastRead c h last → 1 ≤ h.file
read_above c h None is = omega (arith, is)
read_above c h (Some i) is = omega (arith, is.1.0)

-- it is closed now
last-closed : (c : Contents) (h : Held) (last : Option Index) (file : ℕ) → IsLastRead c h last → h.file < file → AreClosed c file (option_to_list last)
last-closed c h None file is above = tt
last-closed c h (Some i) file is above = (record { above = omega (arith, is.0, is.1.0); below = omega (arith, is.0, above); index = is.1.1.index }, tt)

-- its segment has all of its records
whole_records : (i : Index) (bytes : List ℕ) → IsWholeIndexOf i bytes → take (count_of i) (records_in bytes) ≡ records_in bytes
whole_records i bytes whole =
    let count : count_of i ≡ length (records_in bytes) = index-count i bytes whole.index ∙ ap length (sym (wholly-frames i bytes whole)) ∙ sym (length-records (frames_in record_len bytes)) in
    take_all (count_of i) (records_in bytes) (omega (arith, count))

last_by : (c : Contents) (h : Held) (last : Option Index) → IsLastRead c h last → records_by c (option_to_list last) ≡ last_records c last
unfolding records_by
last_by c h None is = refl
last_by c h (Some i) is = append-nil (take (count_of i) (records_in (c i.file))) ∙ whole_records i (c i.file) is.1.1

-- the ids of both
pub order-chain : (closed : List Index) (last : Option Index) (long : ℕ) → AreInOrder closed last long → IsChain 1 (closed ++ option_to_list last) (long + 1)
unfolding IsChain
order-chain closed None long is = subst (λ (xs : List Index). IsChain 1 (xs ++ []) (long + 1)) (sym is.0) (omega (arith, is.1))
order-chain closed (Some i) long is = subst (IsChain 1 (closed ++ i ∷ [])) is.1 (chain-more 1 closed i is.0)

-- as are those before
pub closed-below : (c : Contents) (low high : ℕ) (closed : List Index) → low < high → AreClosed c low closed → AreClosed c high closed
closed-below c low high [] less are = tt
closed-below c low high (i ∷ is) less are = (record { above = are.0.above; below = omega (arith, are.0.below, less); index = are.0.index }, closed-below c low high is less are.1)

-- ---- the next entry names a file, and is legal

module _ (c : Contents) (entries : List Meta) (h : Held) (l : Loaded) (e : Meta) (n : Naming) (of : IsLoadedOf c entries h l) (names_it : named_by e ≡ Some n) (legal : is_legal h e ≡ true) where
  within : NamesWithin h n
  within = names-within h e n (so_far-sane (table_of c) entries none_held h none_sane of.folds) names_it legal

  -- the tail of the file before is wrong
  pub damaged-before : (more : List Meta) (at : ℕ) → entries_in (c 0) ≡ entries ++ e ∷ more → l.wrong ≡ Some at → IsDamaged c l.status.file at
  damaged-before more at is wrong =
      let tail : IsWrongTail c entries h at = subst (IsTailOf c entries h l.closed.items l.last) wrong of.tail in
      let reached : Reached c = record { front = entries; back = e ∷ more; entries = is; held = h; folds = of.folds } in
      let file : l.status.file ≡ tail.named.file = of.file ∙ tail.file in
      let there = subst (λ (q : ℕ). (d : IsDamagedAt tail.named.first tail.named.count (c q) at) × (tail.named.count ≤ length d.front)) (sym file) (tail.damaged.damaged, tail.damaged.behind) in
      inr (inr (record {
        reached = reached;
        closed = names e more n names_it legal;
        named = tail.named;
        last = tail.last;
        file_is = file;
        damaged = there.0;
        behind = there.1;
      }))

  module _ (none : l.wrong ≡ None) where
    whole : IsWholeLog c h l.closed.items l.last
    whole = subst (IsTailOf c entries h l.closed.items l.last) none of.tail

    -- one of its counted records is missing or another
    pub damaged-within : (more : List Meta) (at : ℕ) → entries_in (c 0) ≡ entries ++ e ∷ more → IsDamagedWithin n.first n.count (c n.file) at → IsDamaged c n.file at
    damaged-within more at is wrong = inr (inl (record {
      reached = record { front = entries; back = e ∷ more; entries = is; held = h; folds = of.folds };
      entry = e;
      more = more;
      next = refl;
      legal = legal;
      before = whole.ids;
      named = n;
      names = names_it;
      file_is = refl;
      damaged = wrong.damaged;
      counted = wrong.counted;
    }))

    -- the file is above those that are closed
    pub closes : AreClosed c n.file (l.closed.items ++ option_to_list l.last)
    closes = closed-append c n.file l.closed.items (option_to_list l.last) (closed-below c h.file n.file l.closed.items within.above whole.below) (last-closed c h l.last n.file whole.read within.above)

    -- and has the log with them
    all_records : records_by c (l.closed.items ++ option_to_list l.last) ≡ h.log
    all_records = records_by-append c l.closed.items (option_to_list l.last) ∙ ap (λ (rs : List Record). records_by c l.closed.items ++ rs) (last_by c h l.last whole.read) ∙ sym whole.log

    -- what is held with it
    abbrev g : Held
    g = record h { adopted = (held_after (table_of c) h e).adopted; log = take (n.first - 1) h.log ++ records_in (c n.file); file = n.file; first = n.first }

    module _ (segment : Index) (frames : ℕ) (closed : List Index) (below : AreClosed c n.file closed) (records : records_by c closed ≡ take (n.first - 1) (records_by c (l.closed.items ++ option_to_list l.last))) where
      -- its tail is in order, or not
      tail_now : (wrong : Option ℕ) → IsFound c n segment frames wrong → IsTailOf c (entries ++ e ∷ []) g closed (Some segment) wrong
      tail_now None found = record {
        ids = ids_joined (take (n.first - 1) h.log) (records_in (c n.file)) n.first
            (omega (arith, within.above_low, within.within, length-take-le (n.first - 1) h.log (omega (arith, within.within)))) (ids_rise-take 1 h.log (n.first - 1) whole.ids) found.loadable.ids;
        below = below;
        read = (found.file, (omega (arith, read_above c h l.last whole.read, within.above), subst (λ (q : ℕ). IsWholeIndexOf segment (c q)) (sym found.file) found.whole));
        log = ap (λ (rs : List Record). rs ++ records_in (c n.file)) (ap (take (n.first - 1)) (sym all_records) ∙ sym records) ∙ ap (λ (q : ℕ). records_by c closed ++ records_in (c q)) (sym found.file);
      }
      tail_now (Some at) found = record {
        named = n;
        last = last_named-more None entries e ∙ ap (λ (o : Option Naming). or_before o (last_named None entries)) names_it;
        file = refl;
        damaged = found.behind;
      }

      taken_so_far : (wrong : Option ℕ) → IsFound c n segment frames wrong → IsTakenSoFar (table_of c) h e
      taken_so_far wrong found = record {
        legal = legal;
        before = names-if (λ file. ids_rise 1 h.log ≡ true) e n names_it whole.ids;
        counted = counted-named (table_of c) e n names_it (found-counted c n segment frames wrong found);
      }

      long : (wrong : Option ℕ) → IsFound c n segment frames wrong → length g.log ≡ (n.first - 1) + frames
      long wrong found = omega (arith, length-append (take (n.first - 1) h.log) (records_in (c n.file)), length-take-le (n.first - 1) h.log (omega (arith, within.within)), found.long)

      -- it is taken in
      pub taken-file : (now : Loaded) → IsFound c n segment frames now.wrong
          → now.status.promised ≡ l.status.promised → now.status.adopted ≡ (held_after (table_of c) h e).adopted → now.status.low ≡ l.status.low
          → now.status.length ≡ min ((n.first - 1) + frames) (2 ^ 64 - 1) → now.status.file ≡ n.file → now.first ≡ n.first → now.closed.items ≡ closed → now.last ≡ Some segment
          → IsLoadedOf c (entries ++ e ∷ []) (held_after (table_of c) h e) now
      taken-file now found promised adopted low length_is file first closed_is last =
          subst (λ (k : Held). IsLoadedOf c (entries ++ e ∷ []) k now) (sym (named-after (table_of c) h e n names_it legal)) (record {
            folds = subst (FoldsSoFar (table_of c) (entries ++ e ∷ []) none_held) (named-after (table_of c) h e n names_it legal) (so_far-more (table_of c) entries e none_held h of.folds (taken_so_far now.wrong found));
            promised = promised ∙ of.promised;
            adopted = adopted;
            low = low ∙ of.low;
            length = length_is ∙ ap (λ (k : ℕ). min k (2 ^ 64 - 1)) (sym (long now.wrong found));
            file = file;
            first = first;
            tail =
                subst (λ (is : List Index). IsTailOf c (entries ++ e ∷ []) g is now.last now.wrong) (sym closed_is)
                (subst (λ (o : Option Index). IsTailOf c (entries ++ e ∷ []) g closed o now.wrong) (sym last) (tail_now now.wrong found));
          })

-- ---- all entries

-- the tail of the last file is wrong, and no entry follows
pub damaged-last : (c : Contents) (entries : List Meta) (h : Held) (l : Loaded) (at : ℕ) → IsLoadedOf c entries h l → entries_in (c 0) ≡ entries → l.wrong ≡ Some at → IsDamaged c l.status.file at
damaged-last c entries h l at of is wrong =
    let tail : IsWrongTail c entries h at = subst (IsTailOf c entries h l.closed.items l.last) wrong of.tail in
    let file : l.status.file ≡ tail.named.file = of.file ∙ tail.file in
    let there = subst (λ (q : ℕ). (d : IsDamagedAt tail.named.first tail.named.count (c q) at) × (tail.named.count ≤ length d.front)) (sym file) (tail.damaged.damaged, tail.damaged.behind) in
    inr (inr (record {
      reached = record { front = entries; back = []; entries = is ∙ sym (append-nil entries); held = h; folds = of.folds };
      closed = end;
      named = tail.named;
      last = tail.last;
      file_is = file;
      damaged = there.0;
      behind = there.1;
    }))

none_by : (c : Contents) → [] ≡ records_by c [] ++ []
unfolding records_by
none_by c = refl

-- before the first one
pub none-loaded : (c : Contents) (l : Loaded) → l.status.promised ≡ 0 → l.status.adopted ≡ 0 → l.status.low ≡ 0 → l.status.length ≡ 0 → l.status.file ≡ 1 → l.first ≡ 1 → l.closed.items ≡ [] → l.last ≡ None → l.wrong ≡ None → IsLoadedOf c [] none_held l
none-loaded c l promised adopted low long file first closed last wrong = record {
  folds = so_far-none (table_of c) none_held;
  promised = promised;
  adopted = adopted;
  low = low;
  length = long;
  file = file;
  first = first;
  tail =
      subst (IsTailOf c [] none_held l.closed.items l.last) (sym wrong)
      (subst (λ (o : Option Index). IsWholeLog c none_held l.closed.items o) (sym last)
      (subst (λ (is : List Index). IsWholeLog c none_held is None) (sym closed) (record { ids = none-rise 1; below = tt; read = refl; log = none_by c })));
}
