-- How a record in a batch and a head are read, both ways.
use Rattle.std.proofs.Common.{◌≡◌, ℕ, ◌+◌, ◌≤◌, true, nat_le, List, [], ◌∷◌, ◌++◌, length, take, drop, refl, sym, ap, ◌∙◌, length-append, length-drop, take-append-drop, arith}
use Rattle.std.specs.Prelude.{slice_index, ◌==◌}
use Rattle.std.specs.Int.{w32, w64, to_be_bytes}
use Rattle.std.proofs.lemmas.Bool.{leb-true, le-leb, eqb-true}
use Rattle.std.proofs.lemmas.Bool.Decides.{Decides-eqb}
use Rattle.std.proofs.lemmas.List.{take_at, drop_at, length-take-le}
use Rattle.std.proofs.lemmas.Nat.{from_be_bytes-to_be_bytes_4, from_be_bytes-to_be_bytes_8}
use Rattle.tx_model.specs.declared.record.Record.{Record}
use Rattle.tx_model.specs.declared.record.Head.{Head}
use Rattle.tx_model.specs.Records.{IsRecord, RiseByOne}
use Rattle.tx_model.specs.Spelling.{record_body}
use Rattle.proto_model.specs.Validity.{IsHead, HeadsRise}
use Rattle.tx_model.specs.Reading.{number, is_place, is_body, record_of, are_lists, after_reads}
use Rattle.record_frame.proofs.Names.{and_2, names-rise, length-names_of}
use Rattle.record_frame.proofs.Parts.{IsBytes, IsBytes-take, IsBytes-drop, split_4, split_8, number-below_8, place-tells, place-passes, are_lists_tell, lists-spelled, lists-read, record-spelled, record-read, record-length}
use Rattle.wire_codec.specs.Runs.{are_items, past_items}
use Rattle.wire_codec.specs.Reading.{entry_body, after_entry, entry_of, is_entry, is_batch, is_head, head_of, after_head, are_heads}
use Rattle.wire_codec.specs.Spelling.{spelled_entry, spelled_head}
use Rattle.wire_codec.proofs.Runs.{RunFrom, IsFormat}

-- ---- valid items at an id

pub record IsEntryAt (id : ℕ) (r : Record) : Type 0 where
  pub is : IsRecord r
  pub at : r.id ≡ id

pub record IsHeadAt (id : ℕ) (h : Head) : Type 0 where
  pub is : IsHead h
  pub at : h.id ≡ id

pub entries_rise : (id : ℕ) (records : List Record) → RunFrom IsEntryAt id records → RiseByOne id records
unfolding RunFrom RiseByOne
entries_rise id [] run = tt
entries_rise id (r ∷ records) run = (run.0.is, run.0.at, entries_rise (id + 1) records run.1)

pub entries_run : (id : ℕ) (records : List Record) → RiseByOne id records → RunFrom IsEntryAt id records
unfolding RunFrom RiseByOne
entries_run id [] rise = tt
entries_run id (r ∷ records) rise = (record { is = rise.0; at = rise.1 }, entries_run (id + 1) records rise.2)

pub heads_rise : (id : ℕ) (heads : List Head) → RunFrom IsHeadAt id heads → HeadsRise id heads
unfolding RunFrom HeadsRise
heads_rise id [] run = tt
heads_rise id (head ∷ heads) run = (run.0.is, run.0.at, heads_rise (id + 1) heads run.1)

pub heads_run : (id : ℕ) (heads : List Head) → HeadsRise id heads → RunFrom IsHeadAt id heads
unfolding RunFrom HeadsRise
heads_run id [] rise = tt
heads_run id (head ∷ heads) rise = (record { is = rise.0; at = rise.1 }, heads_run (id + 1) heads rise.2)

-- ---- records behind their lengths

pub record HasEntry (id : ℕ) (bytes : List ℕ) : Type 0 where
  pub long : 4 + number w32 0 bytes ≤ length bytes
  pub body : is_body (entry_body bytes) ≡ true
  pub at : number w64 1 (entry_body bytes) ≡ id

pub is_entry_tells : (id : ℕ) (bytes : List ℕ) → is_entry id bytes ≡ true → HasEntry id bytes
unfolding is_entry
is_entry_tells id bytes e =
    let a = and_2 _ _ e in
    let b = and_2 _ _ a.1 in
    let c = and_2 _ _ b.1 in
    record { long = omega (arith, leb-true _ _ a.0, leb-true _ _ b.0, length-drop 4 bytes); body = c.0; at = eqb-true _ _ c.1 }

record_at_id : (bytes : List ℕ) → (record_of bytes).id ≡ number w64 1 bytes
unfolding record_of
record_at_id bytes = refl

entry-fits : (id : ℕ) (bytes : List ℕ) → is_entry id bytes ≡ true → IsBytes bytes → IsEntryAt id (entry_of bytes)
entry-fits id bytes e fits =
    let t = is_entry_tells id bytes e in
    let r = record-spelled (entry_body bytes) t.body (IsBytes-take (number w32 0 bytes) (drop 4 bytes) (IsBytes-drop 4 bytes fits)) in
    record { is = r.valid; at = record_at_id (entry_body bytes) ∙ t.at }

entry-spelled : (id : ℕ) (bytes : List ℕ) → is_entry id bytes ≡ true → IsBytes bytes → bytes ≡ spelled_entry (entry_of bytes) ++ after_entry bytes
entry-spelled id bytes e fits =
    let t = is_entry_tells id bytes e in
    let n = number w32 0 bytes in
    let body = entry_body bytes in
    let r = record-spelled body t.body (IsBytes-take n (drop 4 bytes) (IsBytes-drop 4 bytes fits)) in
    let len : length (record_body (entry_of bytes)) ≡ n = ap length (sym r.spelled) ∙ length-take-le n (drop 4 bytes) (omega (arith, t.long, length-drop 4 bytes)) in
    let rest : drop 4 bytes ≡ record_body (entry_of bytes) ++ after_entry bytes = sym (take-append-drop n (drop 4 bytes)) ∙ ap (λ (l : List ℕ). l ++ after_entry bytes) r.spelled in
    split_4 0 bytes (omega (arith, t.long)) fits ∙ ap (λ (k : ℕ). to_be_bytes w32 k ++ drop 4 bytes) (sym len) ∙ ap (λ (l : List ℕ). to_be_bytes w32 (length (record_body (entry_of bytes))) ++ l) rest

pub record EntryIsRead (id : ℕ) (r : Record) (bytes rest : List ℕ) : Type 0 where
  pub form : is_entry id bytes ≡ true
  pub same : entry_of bytes ≡ r
  pub past : after_entry bytes ≡ rest

entry-read : (id : ℕ) (r : Record) (rest : List ℕ) → IsEntryAt id r → EntryIsRead id r (spelled_entry r ++ rest) rest
unfolding is_entry
entry-read id r rest is =
    let body = record_body r in
    let bytes = spelled_entry r ++ rest in
    let read = record-read r is.is in
    let long = record-length r is.is in
    let n : number w32 0 bytes ≡ length body = from_be_bytes-to_be_bytes_4 (length body) (omega (arith, long.most)) in
    let taken : entry_body bytes ≡ body = ap (λ (k : ℕ). take k (drop 4 bytes)) n ∙ take_at body rest (length body) refl in
    let past : after_entry bytes ≡ rest = ap (λ (k : ℕ). drop k (drop 4 bytes)) n ∙ drop_at body rest (length body) refl in
    let whole : length bytes ≡ 4 + (length body + length rest) = omega (arith, length-append body rest) in
    let a : nat_le 4 (length bytes) ≡ true = le-leb _ _ (omega arith) in
    let b : nat_le (number w32 0 bytes) (length (drop 4 bytes)) ≡ true = le-leb _ _ (omega (arith, n, length-drop 4 bytes)) in
    let c : is_body (entry_body bytes) ≡ true = ap is_body taken ∙ read.form in
    let d : number w64 1 (entry_body bytes) ≡ id = ap (number w64 1) taken ∙ sym (record_at_id body) ∙ ap (λ (x : Record). x.id) read.same ∙ is.at in
    let e : (number w64 1 (entry_body bytes) == id) ≡ true = ap (λ (k : ℕ). k == id) d ∙ (Decides-eqb id id).1 refl in
    record { form = rw (a, b, c, e) refl; same = ap record_of taken ∙ read.same; past = past }

pub entry_format : IsFormat spelled_entry IsEntryAt is_entry entry_of after_entry
entry_format = record {
  fits = entry-fits;
  spelled = entry-spelled;
  form = λ id r rest is. (entry-read id r rest is).form;
  same = λ id r rest is. (entry-read id r rest is).same;
  past = λ id r rest is. (entry-read id r rest is).past;
}

-- ---- heads

pub record HasHead (id : ℕ) (bytes : List ℕ) : Type 0 where
  pub long : 24 ≤ length bytes
  pub at : number w64 0 bytes ≡ id
  pub place : is_place (number w64 0 bytes) ≡ true
  pub session : is_place (number w64 8 bytes) ≡ true
  pub lists : are_lists (drop 24 bytes) ≡ true

pub is_head_tells : (id : ℕ) (bytes : List ℕ) → is_head id bytes ≡ true → HasHead id bytes
unfolding is_head
is_head_tells id bytes e =
    let a = and_2 _ _ e in
    let b = and_2 _ _ a.1 in
    let c = and_2 _ _ b.1 in
    let d = and_2 _ _ c.1 in
    record { long = leb-true _ _ a.0; at = eqb-true _ _ b.0; place = c.0; session = d.0; lists = d.1 }

head-fits : (id : ℕ) (bytes : List ℕ) → is_head id bytes ≡ true → IsBytes bytes → IsHeadAt id (head_of bytes)
unfolding head_of
head-fits id bytes e fits =
    let t = is_head_tells id bytes e in
    let lists = drop 24 bytes in
    let l = are_lists_tell lists t.lists in
    record {
      is = record {
        id = place-tells _ t.place;
        session = place-tells _ t.session;
        mark = number-below_8 16 bytes fits;
        reads = names-rise [] (slice_index lists 0) (drop 2 lists) l.reads;
        writes = names-rise [] (slice_index lists 1) (after_reads lists) l.writes;
        apart = l.apart;
        count = omega (arith, l.count, length-names_of (slice_index lists 0) (drop 2 lists), length-names_of (slice_index lists 1) (after_reads lists));
      };
      at = t.at;
    }

head-spelled : (id : ℕ) (bytes : List ℕ) → is_head id bytes ≡ true → IsBytes bytes → bytes ≡ spelled_head (head_of bytes) ++ after_head bytes
unfolding head_of spelled_head
head-spelled id bytes e fits =
    let t = is_head_tells id bytes e in
    let lists = lists-spelled (drop 24 bytes) (are_lists_tell (drop 24 bytes) t.lists) in
    split_8 0 bytes (omega (arith, t.long)) fits ∙ ap (λ (l : List ℕ). to_be_bytes w64 (number w64 0 bytes) ++ l) (split_8 8 bytes (omega (arith, t.long)) fits
    ∙ ap (λ (l : List ℕ). to_be_bytes w64 (number w64 8 bytes) ++ l) (split_8 16 bytes (omega (arith, t.long)) fits
    ∙ ap (λ (l : List ℕ). to_be_bytes w64 (number w64 16 bytes) ++ l) lists))

abbrev head_with : ℕ → ℕ → ℕ → List (List ℕ) → List (List ℕ) → Head
head_with i s m rs ws = record { id = i; session = s; mark = m; reads = rs; writes = ws }

same_head : (i s m i' s' m' : ℕ) (rs ws rs' ws' : List (List ℕ)) → i ≡ i' → s ≡ s' → m ≡ m' → rs ≡ rs' → ws ≡ ws' → head_with i s m rs ws ≡ head_with i' s' m' rs' ws'
same_head i s m i' s' m' rs ws rs' ws' a b c d e = cc

pub record HeadIsRead (id : ℕ) (h : Head) (bytes rest : List ℕ) : Type 0 where
  pub form : is_head id bytes ≡ true
  pub same : head_of bytes ≡ h
  pub past : after_head bytes ≡ rest

head-read : (id : ℕ) (h : Head) (rest : List ℕ) → IsHeadAt id h → HeadIsRead id h (spelled_head h ++ rest) rest
unfolding is_head head_of spelled_head
head-read id h rest is =
    let bytes = spelled_head h ++ rest in
    let lists = lists-read h.reads h.writes rest is.is.reads is.is.writes is.is.apart is.is.count in
    let i : number w64 0 bytes ≡ h.id = from_be_bytes-to_be_bytes_8 h.id (omega (arith, is.is.id.below)) in
    let s : number w64 8 bytes ≡ h.session = from_be_bytes-to_be_bytes_8 h.session (omega (arith, is.is.session.below)) in
    let m : number w64 16 bytes ≡ h.mark = from_be_bytes-to_be_bytes_8 h.mark is.is.mark in
    let a : nat_le 24 (length bytes) ≡ true = le-leb 24 (length bytes) (omega arith) in
    let b : (number w64 0 bytes == id) ≡ true = ap (λ (k : ℕ). k == id) (i ∙ is.at) ∙ (Decides-eqb id id).1 refl in
    let c : is_place (number w64 0 bytes) ≡ true = ap is_place i ∙ place-passes h.id is.is.id in
    let d : is_place (number w64 8 bytes) ≡ true = ap is_place s ∙ place-passes h.session is.is.session in
    record { form = rw (a, b, c, d, lists.form) refl; same = same_head _ _ _ _ _ _ _ _ _ _ i s m lists.reads lists.writes; past = lists.after }

pub head_format : IsFormat spelled_head IsHeadAt is_head head_of after_head
head_format = record {
  fits = head-fits;
  spelled = head-spelled;
  form = λ id h rest is. (head-read id h rest is).form;
  same = λ id h rest is. (head-read id h rest is).same;
  past = λ id h rest is. (head-read id h rest is).past;
}

-- ---- whole lists

pub record IsBatchAt (bytes : List ℕ) : Type 0 where
  pub long : 14 ≤ length bytes
  pub some : 1 ≤ slice_index bytes 0
  pub few : slice_index bytes 0 ≤ 8
  pub place : is_place (number w64 6 bytes) ≡ true
  pub items : are_items is_entry after_entry (number w64 6 bytes) (slice_index bytes 0) (drop 1 bytes) ≡ true
  pub all : length (past_items after_entry (slice_index bytes 0) (drop 1 bytes)) ≡ 0

pub is_batch_tells : (bytes : List ℕ) → is_batch bytes ≡ true → IsBatchAt bytes
unfolding is_batch
is_batch_tells bytes e =
    let a = and_2 _ _ e in
    let b = and_2 _ _ a.1 in
    let c = and_2 _ _ b.1 in
    let d = and_2 _ _ c.1 in
    let f = and_2 _ _ d.1 in
    record { long = leb-true _ _ a.0; some = leb-true _ _ b.0; few = leb-true _ _ c.0; place = d.0; items = f.0; all = eqb-true _ _ f.1 }

pub record AreHeadsAt (from : ℕ) (bytes : List ℕ) : Type 0 where
  pub long : 1 ≤ length bytes
  pub few : slice_index bytes 0 ≤ 16
  pub items : are_items is_head after_head from (slice_index bytes 0) (drop 1 bytes) ≡ true
  pub all : length (past_items after_head (slice_index bytes 0) (drop 1 bytes)) ≡ 0

pub are_heads_tell : (from : ℕ) (bytes : List ℕ) → are_heads from bytes ≡ true → AreHeadsAt from bytes
unfolding are_heads
are_heads_tell from bytes e =
    let a = and_2 _ _ e in
    let b = and_2 _ _ a.1 in
    let c = and_2 _ _ b.1 in
    record { long = leb-true _ _ a.0; few = leb-true _ _ b.0; items = c.0; all = eqb-true _ _ c.1 }
