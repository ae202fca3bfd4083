-- The parts of a body: what is in form is spelled so, and what is spelled is in form and read again.
use Rattle.std.proofs.Common.{◌≡◌, ℕ, ◌+◌, ◌*◌, ◌^◌, ◌<◌, ◌≤◌, true, nat_le, List, [], ◌∷◌, ◌++◌, length, get_or, take, drop, refl, sym, ap, ◌∙◌, subst, append_assoc, length-append, length-drop, take-append-drop, arith, inl, inr}
use Rattle.std.specs.Prelude.{slice_index}
use Rattle.std.specs.Int.{w32, w64, from_be_bytes, to_be_bytes}
use Rattle.std.proofs.lemmas.Bool.{cases_lt, ltb-true, leb-true, le-leb, lt-ltb, eqb-true}
use Rattle.std.proofs.lemmas.Bool.Decides.{nat_tests}
use Rattle.std.proofs.lemmas.List.{drop_at, length-take, drop-drop, get_or-drop, get_or-take, get_or_past}
use Rattle.std.proofs.lemmas.Nat.{be_bytes_4, be_bytes_8, from_be_bytes-to_be_bytes_4, from_be_bytes-to_be_bytes_8}
use Rattle.tx_model.specs.declared.record.Record.{Record}
use Rattle.tx_model.specs.Transactions.{Transaction, IsTransaction, RiseFrom, are_apart}
use Rattle.tx_model.specs.Records.{IsPlace, IsRecord}
use Rattle.tx_model.specs.Spelling.{spelled_names, spelled_locks, spelled_transaction, record_body, SpellsRecordBody}
use Rattle.tx_model.specs.Reading.{number, are_names, names_of, past_names, reads_of, after_reads, writes_of, after_lists, are_lists, is_payload, is_transaction, transaction_of, is_place, is_body, record_of}
use Rattle.record_frame.proofs.Names.{and_2, names-rise, names-spelled, length-names_of, names-read}

-- ---- bytes

abbrev pub IsBytes : List ℕ → Type 0
IsBytes bytes = (i : ℕ) → get_or bytes i 0 < 256

pub IsBytes-drop : (n : ℕ) (bytes : List ℕ) → IsBytes bytes → IsBytes (drop n bytes)
IsBytes-drop n bytes h i = rw get_or-drop (h (n + i))

pub IsBytes-take : (n : ℕ) (bytes : List ℕ) → IsBytes bytes → IsBytes (take n bytes)
IsBytes-take n bytes h i =
    elim (cases_lt i n) [
      | inl lt ↦ rw (get_or-take n bytes i 0 lt) (h i)
      | inr le ↦ rw (get_or_past (take n bytes) i 0 (omega (arith, length-take n bytes))) (omega arith)
    ]

-- ---- numbers

pub number-spelled_8 : (at : ℕ) (bytes : List ℕ) → at + 8 ≤ length bytes → IsBytes bytes → to_be_bytes w64 (number w64 at bytes) ≡ take 8 (drop at bytes)
number-spelled_8 at bytes long fits = be_bytes_8 (take 8 (drop at bytes)) (number w64 at bytes) (omega (arith, length-take 8 (drop at bytes), length-drop at bytes)) (IsBytes-take 8 (drop at bytes) (IsBytes-drop at bytes fits)) refl

pub number-spelled_4 : (at : ℕ) (bytes : List ℕ) → at + 4 ≤ length bytes → IsBytes bytes → to_be_bytes w32 (number w32 at bytes) ≡ take 4 (drop at bytes)
number-spelled_4 at bytes long fits = be_bytes_4 (take 4 (drop at bytes)) (number w32 at bytes) (omega (arith, length-take 4 (drop at bytes), length-drop at bytes)) (IsBytes-take 4 (drop at bytes) (IsBytes-drop at bytes fits)) refl

below_8 : (bytes : List ℕ) → IsBytes bytes → from_be_bytes w64 bytes < 2 ^ 64
below_8 bytes fits = omega (arith, fits 0, fits 1, fits 2, fits 3, fits 4, fits 5, fits 6, fits 7)

below_4 : (bytes : List ℕ) → IsBytes bytes → from_be_bytes w32 bytes < 2 ^ 32
below_4 bytes fits = omega (arith, fits 0, fits 1, fits 2, fits 3)

pub number-below_8 : (at : ℕ) (bytes : List ℕ) → IsBytes bytes → number w64 at bytes < 2 ^ 64
number-below_8 at bytes fits = below_8 (take 8 (drop at bytes)) (IsBytes-take 8 (drop at bytes) (IsBytes-drop at bytes fits))

pub number-below_4 : (at : ℕ) (bytes : List ℕ) → IsBytes bytes → number w32 at bytes < 2 ^ 32
number-below_4 at bytes fits = below_4 (take 4 (drop at bytes)) (IsBytes-take 4 (drop at bytes) (IsBytes-drop at bytes fits))

-- the bytes from a place on are a number and the bytes after it
pub split_8 : (at : ℕ) (bytes : List ℕ) → at + 8 ≤ length bytes → IsBytes bytes → drop at bytes ≡ to_be_bytes w64 (number w64 at bytes) ++ drop (at + 8) bytes
split_8 at bytes long fits = sym (take-append-drop 8 (drop at bytes)) ∙ ap (λ (l : List ℕ). l ++ drop 8 (drop at bytes)) (sym (number-spelled_8 at bytes long fits)) ∙ ap (λ (l : List ℕ). to_be_bytes w64 (number w64 at bytes) ++ l) (drop-drop 8 at bytes)

pub split_4 : (at : ℕ) (bytes : List ℕ) → at + 4 ≤ length bytes → IsBytes bytes → drop at bytes ≡ to_be_bytes w32 (number w32 at bytes) ++ drop (at + 4) bytes
split_4 at bytes long fits = sym (take-append-drop 4 (drop at bytes)) ∙ ap (λ (l : List ℕ). l ++ drop 4 (drop at bytes)) (sym (number-spelled_4 at bytes long fits)) ∙ ap (λ (l : List ℕ). to_be_bytes w32 (number w32 at bytes) ++ l) (drop-drop 4 at bytes)

-- ---- both lists

pub record AreLists (bytes : List ℕ) : Type 0 where
  pub long : 2 ≤ length bytes
  pub count : slice_index bytes 0 + slice_index bytes 1 ≤ 64
  pub reads : are_names [] (slice_index bytes 0) (drop 2 bytes) ≡ true
  pub writes : are_names [] (slice_index bytes 1) (after_reads bytes) ≡ true
  pub apart : are_apart (reads_of bytes) (writes_of bytes) ≡ true

pub are_lists_tell : (bytes : List ℕ) → are_lists bytes ≡ true → AreLists bytes
unfolding are_lists
are_lists_tell bytes e =
    let a = and_2 _ _ e in
    let b = and_2 _ _ a.1 in
    let c = and_2 _ _ b.1 in
    let d = and_2 _ _ c.1 in
    record { long = leb-true _ _ a.0; count = leb-true _ _ b.0; reads = c.0; writes = d.0; apart = d.1 }

pub lists-spelled : (bytes : List ℕ) → AreLists bytes → bytes ≡ spelled_locks (reads_of bytes) (writes_of bytes) ++ after_lists bytes
unfolding after_lists
lists-spelled [] is = absurd (omega (arith, is.long))
lists-spelled (n ∷ []) is = absurd (omega (arith, is.long))
lists-spelled (n ∷ m ∷ rest) is =
    let R = names_of n rest in
    let W = names_of m (past_names n rest) in
    let after = past_names m (past_names n rest) in
    let first : rest ≡ spelled_names R ++ past_names n rest = names-spelled [] n rest is.reads in
    let second : past_names n rest ≡ spelled_names W ++ after = names-spelled [] m (past_names n rest) is.writes in
    let whole : rest ≡ (spelled_names R ++ spelled_names W) ++ after = first ∙ ap (λ (l : List ℕ). spelled_names R ++ l) second ∙ sym (append_assoc (spelled_names R) (spelled_names W) after) in
    ap (λ (l : List ℕ). n ∷ m ∷ l) whole ∙ ap (λ (k : ℕ). k ∷ m ∷ ((spelled_names R ++ spelled_names W) ++ after)) (sym (length-names_of n rest)) ∙ ap (λ (k : ℕ). length R ∷ k ∷ ((spelled_names R ++ spelled_names W) ++ after)) (sym (length-names_of m (past_names n rest)))

pub record ListsAreRead (rs ws : List (List ℕ)) (rest bytes : List ℕ) : Type 0 where
  pub form : are_lists bytes ≡ true
  pub reads : reads_of bytes ≡ rs
  pub writes : writes_of bytes ≡ ws
  pub after : after_lists bytes ≡ rest

pub lists-read : (reads writes : List (List ℕ)) (rest : List ℕ) → RiseFrom [] reads → RiseFrom [] writes → are_apart reads writes ≡ true → length reads + length writes ≤ 64 → ListsAreRead reads writes rest (spelled_locks reads writes ++ rest)
unfolding are_lists after_lists
lists-read reads writes rest rise rise_2 apart count =
    let group : (spelled_names reads ++ spelled_names writes) ++ rest ≡ spelled_names reads ++ (spelled_names writes ++ rest) = append_assoc (spelled_names reads) (spelled_names writes) rest in
    let first = names-read [] reads (spelled_names writes ++ rest) rise in
    let second = names-read [] writes rest rise_2 in
    let few : nat_le (length reads + length writes) 64 ≡ true = le-leb _ _ count in
    let made : ListsAreRead reads writes rest (length reads ∷ length writes ∷ (spelled_names reads ++ (spelled_names writes ++ rest))) = record {
      form = rw (le-leb 2 (length (length reads ∷ length writes ∷ (spelled_names reads ++ (spelled_names writes ++ rest)))) (omega arith), few, first.form, first.same, first.past, second.form, second.same, apart) refl;
      reads = first.same;
      writes = ap (names_of (length writes)) first.past ∙ second.same;
      after = ap (past_names (length writes)) first.past ∙ second.past;
    } in
    subst (λ (l : List ℕ). ListsAreRead reads writes rest (length reads ∷ length writes ∷ l)) (sym group) made

-- ---- a payload

pub record IsPayload (bytes : List ℕ) : Type 0 where
  pub long : 4 ≤ length bytes
  pub short : number w32 0 bytes ≤ 65536
  pub all : length bytes ≡ 4 + number w32 0 bytes

pub is_payload-tells : (bytes : List ℕ) → is_payload bytes ≡ true → IsPayload bytes
is_payload-tells bytes e =
    let a = and_2 _ _ e in
    let b = and_2 _ _ a.1 in
    record { long = leb-true _ _ a.0; short = leb-true _ _ b.0; all = eqb-true _ _ b.1 }

pub payload-spelled : (bytes : List ℕ) → IsPayload bytes → IsBytes bytes → bytes ≡ to_be_bytes w32 (length (drop 4 bytes)) ++ drop 4 bytes
payload-spelled bytes is fits =
    let n : length (drop 4 bytes) ≡ number w32 0 bytes = omega (arith, length-drop 4 bytes, is.all) in
    split_4 0 bytes (omega (arith, is.long)) fits ∙ ap (λ (k : ℕ). to_be_bytes w32 k ++ drop 4 bytes) (sym n)

pub payload-read : (payload : List ℕ) → length payload ≤ 65536 → is_payload (to_be_bytes w32 (length payload) ++ payload) ≡ true
payload-read payload short =
    let n : number w32 0 (to_be_bytes w32 (length payload) ++ payload) ≡ length payload = from_be_bytes-to_be_bytes_4 (length payload) (omega arith) in
    let few : nat_le (number w32 0 (to_be_bytes w32 (length payload) ++ payload)) 65536 ≡ true = le-leb _ _ (omega arith) in
    let long : length (to_be_bytes w32 (length payload) ++ payload) ≡ 4 + length payload = length-append (to_be_bytes w32 (length payload)) payload in
    grind (arith, nat_tests)

-- ---- a transaction

pub record IsSpelled (bytes : List ℕ) : Type 0 where
  pub is : IsTransaction (transaction_of bytes)
  pub spelled : bytes ≡ spelled_transaction (transaction_of bytes)

pub record HasForm (bytes : List ℕ) : Type 0 where
  pub long : 24 ≤ length bytes
  pub form : are_lists (drop 24 bytes) ≡ true
  pub lists : AreLists (drop 24 bytes)
  pub payload : IsPayload (after_lists (drop 24 bytes))

pub is_transaction_tells : (bytes : List ℕ) → is_transaction bytes ≡ true → HasForm bytes
unfolding is_transaction
is_transaction_tells bytes e =
    let a = and_2 _ _ e in
    let b = and_2 _ _ a.1 in
    record { long = leb-true _ _ a.0; form = b.0; lists = are_lists_tell (drop 24 bytes) b.0; payload = is_payload-tells (after_lists (drop 24 bytes)) b.1 }

-- what stands behind a prefix of bytes is bytes
pub IsBytes-behind : (front rest bytes : List ℕ) → bytes ≡ front ++ rest → IsBytes bytes → IsBytes rest
IsBytes-behind front rest bytes e fits = subst (λ (l : List ℕ). IsBytes l) (drop_at front rest (length front) refl) (IsBytes-drop (length front) (front ++ rest) (subst (λ (l : List ℕ). IsBytes l) e fits))

pub transaction-spelled : (bytes : List ℕ) → is_transaction bytes ≡ true → IsBytes bytes → IsSpelled bytes
unfolding transaction_of
transaction-spelled bytes e fits =
    let form = is_transaction_tells bytes e in
    let lists = drop 24 bytes in
    let after = after_lists lists in
    let R = reads_of lists in
    let W = writes_of lists in
    let spelled = lists-spelled lists form.lists in
    let after_fits : IsBytes after = IsBytes-behind (spelled_locks R W) after lists spelled (IsBytes-drop 24 bytes fits) in
    let a = split_8 0 bytes (omega (arith, form.long)) fits in
    let b = split_8 8 bytes (omega (arith, form.long)) fits in
    let c = split_8 16 bytes (omega (arith, form.long)) fits in
    let payload = payload-spelled after form.payload after_fits in
    let lists_all : lists ≡ spelled_locks R W ++ (to_be_bytes w32 (length (drop 4 after)) ++ drop 4 after) = spelled ∙ ap (λ (l : List ℕ). spelled_locks R W ++ l) payload in
    record {
      is = record {
        client = number-below_8 0 bytes fits;
        request = number-below_8 8 bytes fits;
        mark = number-below_8 16 bytes fits;
        reads = names-rise [] (slice_index lists 0) (drop 2 lists) form.lists.reads;
        writes = names-rise [] (slice_index lists 1) (after_reads lists) form.lists.writes;
        apart = form.lists.apart;
        count = omega (arith, form.lists.count, length-names_of (slice_index lists 0) (drop 2 lists), length-names_of (slice_index lists 1) (after_reads lists));
        payload = omega (arith, form.payload.short, form.payload.all, length-drop 4 after);
      };
      spelled = a ∙ ap (λ (l : List ℕ). to_be_bytes w64 (number w64 0 bytes) ++ l) (b ∙ ap (λ (l : List ℕ). to_be_bytes w64 (number w64 8 bytes) ++ l) (c ∙ ap (λ (l : List ℕ). to_be_bytes w64 (number w64 16 bytes) ++ l) lists_all));
    }

abbrev pub tx_with : ℕ → ℕ → ℕ → List (List ℕ) → List (List ℕ) → List ℕ → Transaction
tx_with c r m rs ws p = record { client = c; request = r; mark = m; reads = rs; writes = ws; payload = p }

pub same_transaction : (c r m c' r' m' : ℕ) (rs ws rs' ws' : List (List ℕ)) (p p' : List ℕ) → c ≡ c' → r ≡ r' → m ≡ m' → rs ≡ rs' → ws ≡ ws' → p ≡ p' → tx_with c r m rs ws p ≡ tx_with c' r' m' rs' ws' p'
same_transaction c r m c' r' m' rs ws rs' ws' p p' a b d e f g = cc

pub record IsRead (t : Transaction) : Type 0 where
  pub form : is_transaction (spelled_transaction t) ≡ true
  pub same : transaction_of (spelled_transaction t) ≡ t

pub transaction-read : (t : Transaction) → IsTransaction t → IsRead t
unfolding is_transaction transaction_of
transaction-read t is =
    let bytes = spelled_transaction t in
    let tail = to_be_bytes w32 (length t.payload) ++ t.payload in
    let lists = lists-read t.reads t.writes tail is.reads is.writes is.apart is.count in
    let payload = payload-read t.payload is.payload in
    record {
      form = rw (le-leb 24 (length bytes) (omega arith), lists.form, lists.after, payload) refl;
      same = same_transaction _ _ _ _ _ _ _ _ _ _ _ _ (from_be_bytes-to_be_bytes_8 t.client is.client) (from_be_bytes-to_be_bytes_8 t.request is.request) (from_be_bytes-to_be_bytes_8 t.mark is.mark) lists.reads lists.writes (ap (λ (l : List ℕ). drop 4 l) lists.after);
    }

-- ---- a record

pub place-tells : (n : ℕ) → is_place n ≡ true → IsPlace n
place-tells n e = let a = and_2 _ _ e in record { some = leb-true _ _ a.0; below = ltb-true _ _ a.1 }

pub place-passes : (n : ℕ) → IsPlace n → is_place n ≡ true
place-passes n is = rw (le-leb _ _ is.some, lt-ltb _ _ is.below) refl

pub record HasBody (bytes : List ℕ) : Type 0 where
  pub long : 17 ≤ length bytes
  pub version : slice_index bytes 0 ≡ 1
  pub id : is_place (number w64 1 bytes) ≡ true
  pub session : is_place (number w64 9 bytes) ≡ true
  pub tx : is_transaction (drop 17 bytes) ≡ true

pub is_body_tells : (bytes : List ℕ) → is_body bytes ≡ true → HasBody bytes
unfolding is_body
is_body_tells bytes e =
    let a = and_2 _ _ e in
    let b = and_2 _ _ a.1 in
    let c = and_2 _ _ b.1 in
    let d = and_2 _ _ c.1 in
    record { long = leb-true _ _ a.0; version = eqb-true _ _ b.0; id = c.0; session = d.0; tx = d.1 }

pub front : (bytes : List ℕ) → 1 ≤ length bytes → bytes ≡ slice_index bytes 0 ∷ drop 1 bytes
front [] long = absurd (omega (arith, long))
front (b ∷ bytes) long = refl

pub record-spelled : (bytes : List ℕ) → is_body bytes ≡ true → IsBytes bytes → SpellsRecordBody bytes (record_of bytes)
unfolding record_of record_body
record-spelled bytes e fits =
    let form = is_body_tells bytes e in
    let tx = transaction-spelled (drop 17 bytes) form.tx (IsBytes-drop 17 bytes fits) in
    let a = split_8 1 bytes (omega (arith, form.long)) fits in
    let b = split_8 9 bytes (omega (arith, form.long)) fits in
    record {
      valid = record { id = place-tells _ form.id; session = place-tells _ form.session; tx = tx.is };
      spelled = front bytes (omega (arith, form.long)) ∙ ap (λ (k : ℕ). k ∷ drop 1 bytes) form.version ∙ ap (λ (l : List ℕ). 1 ∷ l) (a ∙ ap (λ (l : List ℕ). to_be_bytes w64 (number w64 1 bytes) ++ l) (b ∙ ap (λ (l : List ℕ). to_be_bytes w64 (number w64 9 bytes) ++ l) tx.spelled));
    }

abbrev record_with : ℕ → ℕ → Transaction → Record
record_with i s t = record { id = i; session = s; tx = t }

same_record : (i s i' s' : ℕ) (t t' : Transaction) → i ≡ i' → s ≡ s' → t ≡ t' → record_with i s t ≡ record_with i' s' t'
same_record i s i' s' t t' a b c = cc

pub record IsReadRecord (r : Record) : Type 0 where
  pub form : is_body (record_body r) ≡ true
  pub same : record_of (record_body r) ≡ r

pub record-read : (r : Record) → IsRecord r → IsReadRecord r
unfolding is_body record_of record_body
record-read r is =
    let tx = transaction-read r.tx is.tx in
    let id : number w64 1 (record_body r) ≡ r.id = from_be_bytes-to_be_bytes_8 r.id (omega (arith, is.id.below)) in
    let session : number w64 9 (record_body r) ≡ r.session = from_be_bytes-to_be_bytes_8 r.session (omega (arith, is.session.below)) in
    let id_passes : is_place (number w64 1 (record_body r)) ≡ true = ap is_place id ∙ place-passes r.id is.id in
    let session_passes : is_place (number w64 9 (record_body r)) ≡ true = ap is_place session ∙ place-passes r.session is.session in
    record {
      form = rw (le-leb 17 (length (record_body r)) (omega arith), id_passes, session_passes, tx.form) refl;
      same = same_record _ _ _ _ _ _ id session tx.same;
    }

-- ---- how long a body is

pub names-length : (last : List ℕ) (ns : List (List ℕ)) → RiseFrom last ns → length (spelled_names ns) ≤ 65 * length ns
unfolding RiseFrom
names-length last [] rise = omega arith
names-length last (name ∷ ns) rise = omega (arith, names-length name ns rise.2, rise.0.short, length-append name (spelled_names ns))

pub length-record_body : (r : Record) → length (record_body r) ≡ 47 + length (spelled_names r.tx.reads) + length (spelled_names r.tx.writes) + length r.tx.payload
unfolding record_body
length-record_body r =
    let R = spelled_names r.tx.reads in
    let W = spelled_names r.tx.writes in
    let p = r.tx.payload in
    let tail = to_be_bytes w32 (length p) ++ p in
    let lists : length (spelled_locks r.tx.reads r.tx.writes ++ tail) ≡ 2 + (length R + length W) + length tail = omega (arith, length-append (R ++ W) tail, length-append R W) in
    let last : length tail ≡ 4 + length p = length-append (to_be_bytes w32 (length p)) p in
    let whole : length (record_body r) ≡ 41 + length (spelled_locks r.tx.reads r.tx.writes ++ tail) = omega arith in
    omega arith

pub record IsLongEnough (r : Record) : Type 0 where
  pub least : 47 ≤ length (record_body r)
  pub most : length (record_body r) ≤ 69743

pub record-length : (r : Record) → IsRecord r → IsLongEnough r
record-length r is =
    let whole = length-record_body r in
    let reads = names-length [] r.tx.reads is.tx.reads in
    let writes = names-length [] r.tx.writes is.tx.writes in
    record { least = omega arith; most = omega (arith, is.tx.count, is.tx.payload) }
