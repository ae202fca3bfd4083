-- What a read of the log answers, and what it leaves of the store.
use Rattle.std.proofs.Common.{◌≡◌, ℕ, ◌-◌, Bool, true, false, List, refl, sym, ◌∙◌, ap, subst, arith, Option, Some, Result, Ok, Err, IfOk, IfSome, Vec, Global, take, drop, ◌++◌, [], ◌∷◌, None}
use Rattle.std.specs.Prelude.{slice_get}
use Rattle.std.proofs.lemmas.Result.{IfOk-weaker}
use Rattle.std.specs.Option.{option_to_list}
use Rattle.std.proofs.lemmas.List.{take_all}
use Rattle.tx_model.specs.Contents.{records_in}
use Rattle.tx_model.proofs.Walks.{all-append}
use Rattle.tx_model.specs.declared.record.Record.{Record}
use Rattle.disk_model.specs.History.{Files, History}
use Rattle.disk_model.specs.declared.unloaded.LoadFault.{LoadFault}
use Rattle.disk_model.specs.declared.unloaded.LoadFault.TheVariants.{Disk, Damaged, Memory}
use Rattle.segment_store.specs.Index.{Index, count_of, IsIndexOf}
use Rattle.proto_model.specs.Held.{Held, Contents}
use Rattle.proto_model.specs.declared.replica.NodeFault.{NodeFault}
use Rattle.partition_store.specs.Stands.{reads_of, held_now}
use Rattle.partition_store.specs.Stores.{Kept, AreClosed, records_at, IsLastOf, state_of, state_by, records_by, IsSound, IsDurable, IsAnswer}
use Rattle.partition_store.specs.Found.{AreIndexed, node_result, shuts_store}
use Rattle.partition_store.proofs.Whole.{all-count, tidy-all}
use Rattle.partition_store.proofs.Chains.{records_by-append, records_by-one}
use Rattle.partition_store.proofs.Finding.{each_found}
use Rattle.partition_store.proofs.Durable.{durable, sound_kept}

-- ---- what is read stands in the files

indexed-append : (c : Contents) (is js : List Index) → AreIndexed c is → AreIndexed c js → AreIndexed c (is ++ js)
indexed-append c is js front back = all-append (λ (i : Index). IsIndexOf i (c i.file)) is js front back

closed-indexed : (c : Contents) (file : ℕ) (is : List Index) → AreClosed c file is → AreIndexed c is
closed-indexed c file [] all = tt
closed-indexed c file (i ∷ is) all = (all.0.index, closed-indexed c file is all.1)

last-indexed : (s : Files) (h : Held) (o : Option Index) → IsLastOf s h o → AreIndexed (reads_of s) (option_to_list o)
last-indexed s h None it = tt
last-indexed s h (Some i) it = (it.tidy.index, tt)

last-records : (s : Files) (h : Held) (o : Option Index) → IsLastOf s h o → records_by (reads_of s) (option_to_list o) ≡ records_at s o
unfolding records_by
last-records s h None it = refl
last-records s h (Some i) it = records_by-one (reads_of s) i ∙ take_all (count_of i) (records_in (s i.file).reads) (omega (arith, all-count i (s i.file).reads (tidy-all i (s i.file) it.tidy)))

pub sound-indexed : {D : Type 0} (s : Files) (k : Kept D) → IsSound s k → AreIndexed (reads_of s) (k.closed ++ option_to_list k.last)
sound-indexed s k sound = indexed-append (reads_of s) k.closed (option_to_list k.last) (closed-indexed (reads_of s) (held_now s).file k.closed sound.closed) (last-indexed s (held_now s) k.last sound.last)

-- the records of the segments are the log
pub sound-records : {D : Type 0} (s : Files) (k : Kept D) → IsSound s k → records_by (reads_of s) (k.closed ++ option_to_list k.last) ≡ (held_now s).log
sound-records s k sound =
    records_by-append (reads_of s) k.closed (option_to_list k.last)
    ∙ ap (λ (rs : List Record). records_by (reads_of s) k.closed ++ rs) (last-records s (held_now s) k.last sound.last) ∙ sym sound.log

-- ---- the answer

pub node_ok : {T : Type 0} (P : T → Type 0) (read : Result T LoadFault) (result : Result T NodeFault) → result ≡ node_result read → IfOk read P → IfOk result P
node_ok {T} P read result is has = subst (λ (r : Result T NodeFault). IfOk r P) (sym is) (here read has)
  where
    here : (read : Result T LoadFault) → IfOk read P → IfOk (node_result read) P
    here (Ok x) has = has
    here (Err fault) has = tt

module _ {D : Type 0} (tells : Type 0) (history : D → History) (k : Kept D) (d : D) (on : k.shut ≡ false) (same : tells → history d ≡ history k.disk) where
  kept : (record k { disk = d; shut = false } ≡ record k { disk = d }) × (tells → state_by history (record k { disk = d; shut = false }) ≡ state_by history k)
  kept = (ap (λ (b : Bool). record k { disk = d; shut = b }) (sym on), λ t. ap (λ (h : History). state_of h.now k) (same t))

  off : k.shut ≡ true → ⊥
  off is = cc

  module _ {T : Type 0} where
    answered : (read : Result T LoadFault) → IsAnswer {T = T} tells history k (record k { disk = d; shut = shuts_store read }) (node_result read)
    answered (Ok x) = record {
      only_shut = λ is. cc;
      was_shut = λ is. absurd (off is);
      on = refl;
      shuts = λ is. absurd is;
      shows = tt;
      kept = tt;
    }
    answered (Err Disk) = record {
      only_shut = λ is. cc;
      was_shut = λ is. absurd (off is);
      on = tt;
      shuts = λ is. refl;
      shows = (refl, refl);
      kept = λ not. absurd (not tt);
    }
    answered (Err (Damaged file at)) = record {
      only_shut = λ is. cc;
      was_shut = λ is. absurd (off is);
      on = tt;
      shuts = λ is. refl;
      shows = (refl, refl);
      kept = λ not. absurd (not tt);
    }
    answered (Err Memory) = record {
      only_shut = λ is. cc;
      was_shut = λ is. absurd (off is);
      on = tt;
      shuts = λ is. absurd is;
      shows = (refl, refl);
      kept = λ not. kept;
    }

    pub read-answer : (read : Result T LoadFault) (new : Kept D) (result : Result T NodeFault) → new ≡ record k { disk = d; shut = shuts_store read } → result ≡ node_result read → IsAnswer tells history k new result
    read-answer read new result new_is result_is =
        subst (λ (r : Result T NodeFault). IsAnswer tells history k new r) (sym result_is)
        (subst (λ (n : Kept D). IsAnswer tells history k n (node_result read)) (sym new_is) (answered read))

-- ---- the store

pub read-durable : {D : Type 0} (plain : Type 0) (history : D → History) (k new : Kept D) (d : D) (b : Bool) → IsSound (history k.disk).now k → k.shut ≡ false → history d ≡ history k.disk → new ≡ record k { disk = d; shut = b } → new.shut ≡ false → IsDurable plain (history new.disk).now new
read-durable {D} plain history k new d b sound on same new_is still =
    let shut : b ≡ k.shut = sym (ap (λ (n : Kept D). n.shut) new_is) ∙ still ∙ sym on in
    let whole : new ≡ record k { disk = d } = new_is ∙ ap (λ (x : Bool). record k { disk = d; shut = x }) shut in
    subst (λ (n : Kept D). IsDurable plain (history n.disk).now n) (sym whole)
    (durable plain (history d).now (record k { disk = d }) (sound_kept (history k.disk).now (history d).now k d (ap (λ (h : History). h.now) same) sound))

-- a record of the segments is one of the log
pub read-log : {D : Type 0} (tells : Type 0) (history : D → History) (k : Kept D) (id : ℕ) (closed : List Index) (last : Option Index) → closed ≡ k.closed → last ≡ k.last → (tells → IsSound (history k.disk).now k)
    → (read : Result (Option Record) LoadFault) (result : Result (Option Record) NodeFault) → result ≡ node_result read
    → IfOk read (λ found. IfSome found (λ r. tells → slice_get (records_by (reads_of (history k.disk).now) (closed ++ option_to_list last)) (id - 1) ≡ Some r))
    → IfOk result (λ found. IfSome found (λ r. tells → slice_get (state_by history k).log (id - 1) ≡ Some r))
read-log tells history k id closed last closed_is last_is sound read result is has =
    let bytes = reads_of (history k.disk).now in
    node_ok (λ (found : Option Record). IfSome found (λ r. tells → slice_get (state_by history k).log (id - 1) ≡ Some r)) read result is
    (each_found
    (λ (r : Record). tells → slice_get (records_by bytes (closed ++ option_to_list last)) (id - 1) ≡ Some r)
    (λ (r : Record). tells → slice_get (state_by history k).log (id - 1) ≡ Some r) read
    (λ r one t.
    ap (λ (rs : List Record). slice_get rs (id - 1)) (sym (sound-records (history k.disk).now k (sound t)))
    ∙ ap (λ (is : List Index). slice_get (records_by bytes (is ++ option_to_list k.last)) (id - 1)) (sym closed_is)
    ∙ ap (λ (o : Option Index). slice_get (records_by bytes (closed ++ option_to_list o)) (id - 1)) (sym last_is)
    ∙ one t)
    has)

-- so are those in a row
pub read-logs : {D : Type 0} (tells : Type 0) (history : D → History) (k : Kept D) (from max : ℕ) (closed : List Index) (last : Option Index) → closed ≡ k.closed → last ≡ k.last → (tells → IsSound (history k.disk).now k)
    → (read : Result (Vec Record Global) LoadFault) (result : Result (Vec Record Global) NodeFault) → result ≡ node_result read
    → IfOk read (λ found. tells → found.items ≡ take max (drop (from - 1) (records_by (reads_of (history k.disk).now) (closed ++ option_to_list last))))
    → IfOk result (λ found. tells → found.items ≡ take max (drop (from - 1) (state_by history k).log))
read-logs tells history k from max closed last closed_is last_is sound read result is has =
    let bytes = reads_of (history k.disk).now in
    node_ok (λ (found : Vec Record Global). tells → found.items ≡ take max (drop (from - 1) (state_by history k).log)) read result is
    (IfOk-weaker read
    (λ (found : Vec Record Global). tells → found.items ≡ take max (drop (from - 1) (records_by bytes (closed ++ option_to_list last))))
    (λ (found : Vec Record Global). tells → found.items ≡ take max (drop (from - 1) (state_by history k).log))
    (λ found those t.
    those t
    ∙ ap (λ (o : Option Index). take max (drop (from - 1) (records_by bytes (closed ++ option_to_list o)))) last_is
    ∙ ap (λ (is : List Index). take max (drop (from - 1) (records_by bytes (is ++ option_to_list k.last)))) closed_is
    ∙ ap (λ (rs : List Record). take max (drop (from - 1) rs)) (sound-records (history k.disk).now k (sound t)))
    has)
