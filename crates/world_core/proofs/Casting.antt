-- Rows in which a vote or a log is noted.
use Rattle.std.proofs.Common.{◌≡◌, ◌∙◌, ℕ, zero, suc, ◌+◌, ◌-◌, ◌<◌, ◌≤◌, List, [], ◌∷◌, ◌++◌, length, map, take, drop, Bool, true, false, refl, sym, ap, subst, arith, sub-one, inl, inr, ◌⊎◌, get_or, min, slice_index_or, slice_set, append_assoc, Option, None, Some}
use Rattle.std.specs.Prelude.{◌&&◌, ◌||◌, ◌==◌, if◌then◌else◌, nat_le, nat_lt}
use Rattle.std.specs.List.{AllByRecursion}
use Rattle.std.proofs.lemmas.List.{length-set, take_more, length-append, length-map, length-drop, drop-drop, drop_all, map-append, append-nil}
use Rattle.tx_model.specs.declared.record.Record.{Record}
use Rattle.net_model.specs.declared.shown.Entry.{Entry}
use Rattle.world_law.specs.Outcomes.{entry_of}
use Rattle.std.proofs.lemmas.Bool.Decides.{nat_tests}
use mathlib.Core.Path.{fun_ext}
use Rattle.proto_model.specs.Tables.{put, table}
use Rattle.proto_model.specs.Quorums.{is_within, reached}
use Rattle.proto_model.specs.Replicas.{ReplicaState}
use Rattle.quorum_append.specs.Kept.{Kept, nothing_kept, kept_with, has_kept, reaches, greater}
use Rattle.world_law.proofs.Tables.{put_back}
use Rattle.world_core.specs.declared.tally.Row.{Row}
use Rattle.world_core.specs.Tallies.{acks_of, entries_of, IsRowOf, is_cast, row_length, longest_row, IsLongestRow, IsBounded, continued, shown_entries, rows_outcome}
use Rattle.net_model.specs.declared.outcome.Outcome.TheVariants as outcome
use Rattle.world_core.specs.Noted.{is_cast_by}
use Rattle.world_core.proofs.Rows.{set_at, seen_at, seen_set, all_at}
use Rattle.world_core.proofs.Tallied.{nothing_has}

-- ---- a vote in the row of its session

greater_reaches : (o : Option ℕ) (len k : ℕ) → reaches (greater o len) k ≡ (reaches o k || nat_le k len)
greater_reaches None len k = refl
greater_reaches (Some before) len k = grind (arith, nat_tests)

slot_by : (b : Bool) (o p : Option ℕ) (len k : ℕ) → (b ≡ true → o ≡ p) → reaches (if b then greater p len else o) k ≡ (reaches o k || (b && nat_le k len))
slot_by true o p len k same = greater_reaches p len k ∙ ap (λ q. reaches q k || nat_le k len) (sym (same refl))
slot_by false o p len k same = grind arith

turned : (i node : ℕ) → (i == node) ≡ (node == i)
turned i node = grind (arith, nat_tests)

same_of : (i node : ℕ) → (i == node) ≡ true → i ≡ node
same_of i node h = grind (arith, nat_tests, h)

kept_has : (x : Kept) (node len k i : ℕ) → node < length x.lens → has_kept (kept_with node len x) k i ≡ (has_kept x k i || (node == i && nat_le k len))
kept_has x node len k i fits =
    let slot : ℕ → Option ℕ = λ j. get_or x.lens j None in
    ap (λ o. reaches o k) (set_at None x.lens node (greater (slot node) len) i fits)
    ∙ (slot_by (i == node) (slot i) (slot node) len k (λ h. ap slot (same_of i node h)) ∙ ap (λ b. has_kept x k i || (b && nat_le k len)) (turned i node))

noted_by : (b : Bool) (x o : Kept) (node len k i : ℕ) → node < length x.lens → (b ≡ true → o ≡ x) → has_kept (if b then kept_with node len x else o) k i ≡ (has_kept o k i || (node == i && (b && nat_le k len)))
noted_by true x o node len k i fits same = kept_has x node len k i fits ∙ ap (λ y. has_kept y k i || (node == i && nat_le k len)) (sym (same refl))
noted_by false x o node len k i fits same = grind arith

cast_some : (a len node s k i : ℕ) → 0 < a → (node == i && ((s == a) && nat_le k len)) ≡ is_cast a len node s k i
cast_some a len node s k i some = grind (arith, nat_tests, some)

pub vote_noted : (a node len : ℕ) (old new : ℕ → Kept) (x : Kept) → 0 < a → node < length x.lens → old a ≡ x → new ≡ put old a (kept_with node len x) → (s k i : ℕ) → has_kept (new s) k i ≡ (has_kept (old s) k i || is_cast a len node s k i)
vote_noted a node len old new x some fits here after s k i =
    ap (λ f. has_kept (f s) k i) after
    ∙ (noted_by (s == a) x (old s) node len k i fits (λ h. ap old (same_of s a h) ∙ here) ∙ ap (λ b. has_kept (old s) k i || b) (cast_some a len node s k i some))

cast_none : (a len node s k i : ℕ) → a ≡ 0 → is_cast a len node s k i ≡ false
cast_none a len node s k i none = grind (arith, nat_tests, none)

cast_out : (a len node s k i : ℕ) → s < a → is_cast a len node s k i ≡ false
cast_out a len node s k i out = grind (arith, nat_tests, out)

or_none : (a b : Bool) → b ≡ false → a ≡ (a || b)
or_none a b none = grind (arith, none)

pub none_noted : (a node len : ℕ) (f : ℕ → Kept) → a ≡ 0 → (s k i : ℕ) → has_kept (f s) k i ≡ (has_kept (f s) k i || is_cast a len node s k i)
none_noted a node len f none s k i = or_none (has_kept (f s) k i) (is_cast a len node s k i) (cast_none a len node s k i none)

pub out_noted : (a node len n : ℕ) (f : ℕ → Kept) → n < a → (s k i : ℕ) → s ≤ n → has_kept (f s) k i ≡ (has_kept (f s) k i || is_cast a len node s k i)
out_noted a node len n f out s k i known = or_none (has_kept (f s) k i) (is_cast a len node s k i) (cast_out a len node s k i (omega (arith, out, known)))

within_not : (n node i : ℕ) → (1 ≤ node) × (node ≤ n) → is_within n i ≡ false → (node == i) ≡ false
within_not n node i place out = let some = place.0 in let fits = place.1 in grind (arith, nat_tests, some, fits, out)

and_none : (a b : Bool) → a ≡ false → (a && b) ≡ false
and_none a b none = grind (arith, none)

both_none : (a b : Bool) → a ≡ false → b ≡ false → (a || b) ≡ false
both_none a b none other = grind (arith, none, other)

-- the row with one more vote is of the same nodes
pub row_noted : (n node len : ℕ) (row new : Row) → (1 ≤ node) × (node ≤ n) → n ≤ 7 → IsRowOf n row → new.acks ≡ kept_with node len row.acks → IsRowOf n new
row_noted n node len row new place few is after = record {
  count = ap (λ (x : Kept). x.nodes) after ∙ is.count;
  places = ap (λ (x : Kept). length x.lens) after ∙ (length-set row.acks.lens node _ ∙ is.places);
  others = λ i out.
      let fits : node < length row.acks.lens = (let at = place.1 in let eight = is.places in omega (arith, at, few, eight)) in
      ap (λ x. has_kept x 0 i) after ∙ (kept_has row.acks node len 0 i fits ∙ both_none (has_kept row.acks 0 i) (node == i && nat_le 0 len) (is.others i out) (and_none (node == i) (nat_le 0 len) (within_not n node i place out)));
}

-- ---- tables of rows

pub acks_set : (n : ℕ) (xs : List Row) (a : ℕ) (y : Row) → 1 ≤ a → a ≤ length xs → acks_of n (slice_set xs (a - 1) y) ≡ put (acks_of n xs) a y.acks
acks_set n xs a y some fits = seen_set (nothing_kept n) (λ (r : Row). r.acks) xs a y some fits

pub acks_at : (n : ℕ) (xs : List Row) (a : ℕ) (x : Row) → 1 ≤ a → a ≤ length xs → x ≡ slice_index_or xs (a - 1) x → acks_of n xs a ≡ x.acks
acks_at n xs a x some fits is = seen_at (nothing_kept n) (λ (r : Row). r.acks) xs a x some fits is

pub entries_set : (xs : List Row) (a : ℕ) (y : Row) → 1 ≤ a → a ≤ length xs → entries_of (slice_set xs (a - 1) y) ≡ put (entries_of xs) a y.entries.items
entries_set xs a y some fits = seen_set [] (λ (r : Row). r.entries.items) xs a y some fits

pub entries_at : (xs : List Row) (a : ℕ) (x : Row) → 1 ≤ a → a ≤ length xs → x ≡ slice_index_or xs (a - 1) x → entries_of xs a ≡ x.entries.items
entries_at xs a x some fits is = seen_at [] (λ (r : Row). r.entries.items) xs a x some fits is

-- a row whose entries or votes stay
pub entries_stay : (xs : List Row) (a : ℕ) (x y : Row) → 1 ≤ a → a ≤ length xs → x ≡ slice_index_or xs (a - 1) x → y.entries.items ≡ x.entries.items → entries_of (slice_set xs (a - 1) y) ≡ entries_of xs
entries_stay xs a x y some fits is same =
    entries_set xs a y some fits ∙ (ap (put (entries_of xs) a) (same ∙ sym (entries_at xs a x some fits is)) ∙ put_back (entries_of xs) a)

pub acks_stay : (n : ℕ) (xs : List Row) (a : ℕ) (x y : Row) → 1 ≤ a → a ≤ length xs → x ≡ slice_index_or xs (a - 1) x → y.acks ≡ x.acks → acks_of n (slice_set xs (a - 1) y) ≡ acks_of n xs
acks_stay n xs a x y some fits is same =
    acks_set n xs a y some fits ∙ (ap (put (acks_of n xs) a) (same ∙ sym (acks_at n xs a x some fits is)) ∙ put_back (acks_of n xs) a)

pub row_stays : (n : ℕ) (x y : Row) → y.acks ≡ x.acks → IsRowOf n x → IsRowOf n y
row_stays n x y same is = record { count = ap (λ (k : Kept). k.nodes) same ∙ is.count; places = ap (λ (k : Kept). length k.lens) same ∙ is.places; others = λ i out. ap (λ k. has_kept k 0 i) same ∙ is.others i out }

-- ---- one more row

get_more : {A : Type 0} (xs : List A) (d y : A) (k : ℕ) → y ≡ d → get_or (xs ++ y ∷ []) k d ≡ get_or xs k d
get_more [] d y zero same = same
get_more [] d y (suc k) same = refl
get_more (x ∷ xs) d y zero same = refl
get_more (x ∷ xs) d y (suc k) same = get_more xs d y k same

pub map_more : {A B : Type 0} (f : A → B) (xs : List A) (y : A) → map f (xs ++ y ∷ []) ≡ map f xs ++ f y ∷ []
map_more f [] y = refl
map_more f (x ∷ xs) y = ap (λ l. f x ∷ l) (map_more f xs y)

more_at : {A B : Type 0} (d : B) (f : A → B) (xs : List A) (y : A) (k : ℕ) → f y ≡ d → table d (map f (xs ++ y ∷ [])) k ≡ table d (map f xs) k
more_at d f xs y zero same = refl
more_at d f xs y (suc k) same = ap (λ l. get_or l k d) (map_more f xs y) ∙ get_more (map f xs) d (f y) k same

-- a row of nothing is what a table has past its rows
pub table_more : {A B : Type 0} (d : B) (f : A → B) (xs : List A) (y : A) → f y ≡ d → table d (map f (xs ++ y ∷ [])) ≡ table d (map f xs)
table_more d f xs y same = fun_ext (λ k. more_at d f xs y k same)

pub empty_row : (n : ℕ) (y : Row) → y.acks ≡ nothing_kept n → IsRowOf n y
empty_row n y same = record { count = ap (λ (k : Kept). k.nodes) same; places = ap (λ (k : Kept). length k.lens) same; others = λ i out. ap (λ k. has_kept k 0 i) same ∙ nothing_has n 0 i }

-- ---- the votes of all nodes

abbrev pub are_cast : (ℕ → ReplicaState) → ℕ → ℕ → ℕ → ℕ → Bool
are_cast nodes upto s k i = (nat_le 1 i && nat_le i upto) && is_cast_by nodes s k i

here_more : (l : ℕ) (c : Bool) → (((nat_le 1 (l + 1) && nat_le (l + 1) l) && c) || c) ≡ ((nat_le 1 (l + 1) && nat_le (l + 1) (l + 1)) && c)
here_more l c = grind (arith, nat_tests)

other_more : (l i : ℕ) (c d : Bool) → (l + 1 == i) ≡ false → d ≡ false → (((nat_le 1 i && nat_le i l) && c) || d) ≡ ((nat_le 1 i && nat_le i (l + 1)) && c)
other_more l i c d other none = grind (arith, nat_tests, other, none)

not_cast : (a len node s k i : ℕ) → (node == i) ≡ false → is_cast a len node s k i ≡ false
not_cast a len node s k i other = grind (arith, other)

cast_more : (nodes : ℕ → ReplicaState) (l s k i : ℕ) → (are_cast nodes l s k i || is_cast (nodes (l + 1)).adopted (length (nodes (l + 1)).log) (l + 1) s k i) ≡ are_cast nodes (l + 1) s k i
cast_more nodes l s k i = by (l + 1 == i) refl
  where
    by : (b : Bool) → (l + 1 == i) ≡ b → (are_cast nodes l s k i || is_cast (nodes (l + 1)).adopted (length (nodes (l + 1)).log) (l + 1) s k i) ≡ are_cast nodes (l + 1) s k i
    by true at =
        let P : ℕ → Type 0 = λ j. (are_cast nodes l s k j || is_cast (nodes (l + 1)).adopted (length (nodes (l + 1)).log) (l + 1) s k j) ≡ are_cast nodes (l + 1) s k j in
        subst P (same_of (l + 1) i at) (here_more l (is_cast_by nodes s k (l + 1)))
    by false at = other_more l i (is_cast_by nodes s k i) (is_cast (nodes (l + 1)).adopted (length (nodes (l + 1)).log) (l + 1) s k i) at (not_cast (nodes (l + 1)).adopted (length (nodes (l + 1)).log) (l + 1) s k i at)

or_assoc : (a b c : Bool) → ((a || b) || c) ≡ (a || (b || c))
or_assoc a b c = grind arith

pub votes_more : (nodes : ℕ → ReplicaState) (l s k i adopted len : ℕ) (a b c : Bool) → b ≡ (a || are_cast nodes l s k i) → c ≡ (b || is_cast adopted len (l + 1) s k i) → adopted ≡ (nodes (l + 1)).adopted → len ≡ length (nodes (l + 1)).log → c ≡ (a || are_cast nodes (l + 1) s k i)
votes_more nodes l s k i adopted len a b c first second same_adopted same_len =
    second ∙ (ap (λ x. x || is_cast adopted len (l + 1) s k i) first ∙ (or_assoc a (are_cast nodes l s k i) (is_cast adopted len (l + 1) s k i)
    ∙ (ap (λ x. a || (are_cast nodes l s k i || is_cast x len (l + 1) s k i)) same_adopted
    ∙ (ap (λ x. a || (are_cast nodes l s k i || is_cast (nodes (l + 1)).adopted x (l + 1) s k i)) same_len ∙ ap (λ x. a || x) (cast_more nodes l s k i)))))

pub votes_begin : (nodes : ℕ → ReplicaState) (s k i : ℕ) (a : Bool) → a ≡ (a || are_cast nodes 0 s k i)
votes_begin nodes s k i a = grind (arith, nat_tests)

pub votes_end : (nodes : ℕ → ReplicaState) (n s k i : ℕ) (a c : Bool) → is_within n i ≡ true → c ≡ (a || are_cast nodes n s k i) → c ≡ (a || is_cast_by nodes s k i)
votes_end nodes n s k i a c within is = is ∙ ap (λ b. a || (b && is_cast_by nodes s k i)) within

-- ---- the longest row

less_test : (a b : ℕ) → a < b → nat_lt a b ≡ true
less_test a b less = grind (arith, nat_tests, less)

not_less_test : (a b : ℕ) → b ≤ a → nat_lt a b ≡ false
not_less_test a b less = grind (arith, nat_tests, less)

pub row_length_at : (n : ℕ) (xs : List Row) (a : ℕ) (x : Row) (mark : ℕ) → 1 ≤ a → a ≤ length xs → x ≡ slice_index_or xs (a - 1) x → x.acks.nodes ≡ n → mark ≡ reached x.acks.nodes (has_kept x.acks) (length x.entries.items) → mark ≡ row_length n xs a
row_length_at n xs a x mark some fits is count found =
    let acks = acks_at n xs a x some fits is in
    let entries = entries_at xs a x some fits is in
    rw (acks, entries, ← count) found

pub longest_begin : (n : ℕ) (xs : List Row) → IsLongestRow n xs 0 0 0
longest_begin n xs = record { session_is = refl; len_is = refl }

-- the next row is longer, or not
pub longest_next : (n : ℕ) (xs : List Row) (i session len mark : ℕ) → IsLongestRow n xs i session len → mark ≡ row_length n xs (suc i) → len < mark → IsLongestRow n xs (suc i) (suc i) mark
longest_next n xs i session len mark is found more =
    let best : row_length n xs (longest_row n xs i) ≡ len = ap (row_length n xs) (sym is.session_is) ∙ sym is.len_is in
    let test : nat_lt (row_length n xs (longest_row n xs i)) (row_length n xs (suc i)) ≡ true = rw (best, ← found) (less_test len mark more) in
    record { session_is = rw test refl; len_is = found }

pub longest_same : (n : ℕ) (xs : List Row) (i session len mark : ℕ) → IsLongestRow n xs i session len → mark ≡ row_length n xs (suc i) → mark ≤ len → IsLongestRow n xs (suc i) session len
longest_same n xs i session len mark is found less =
    let best : row_length n xs (longest_row n xs i) ≡ len = ap (row_length n xs) (sym is.session_is) ∙ sym is.len_is in
    let test : nat_lt (row_length n xs (longest_row n xs i)) (row_length n xs (suc i)) ≡ false = rw (best, ← found) (not_less_test len mark less) in
    record { session_is = rw test is.session_is; len_is = is.len_is }

-- ---- entries, one by one

map_entries_more : (f : Record → Entry) (fresh : List Record) (k : ℕ) (r : Record) → k < length fresh → r ≡ get_or fresh k r → map f (take (k + 1) fresh) ≡ map f (take k fresh) ++ f r ∷ []
map_entries_more f fresh k r within is = ap (map f) (take_more fresh k r within ∙ ap (λ x. take k fresh ++ x ∷ []) (sym is)) ∙ map_more f (take k fresh) r

pub entries_more : (old es new : List Entry) (fresh : List Record) (k : ℕ) (r : Record) (e : Entry) → k < length fresh → r ≡ get_or fresh k r → es ≡ old ++ map entry_of (take k fresh) → e ≡ entry_of r → new ≡ es ++ e ∷ [] → new ≡ old ++ map entry_of (take (k + 1) fresh)
entries_more old es new fresh k r e within is so told more =
    more ∙ (ap (λ l. l ++ e ∷ []) so ∙ (append_assoc old (map entry_of (take k fresh)) (e ∷ []) ∙ ap (λ l. old ++ l) (ap (λ x. map entry_of (take k fresh) ++ x ∷ []) told ∙ sym (map_entries_more entry_of fresh k r within is))))

-- ---- entries, a batch at a time

past_part : {A : Type 0} (xs : List A) (n : ℕ) → take n xs ++ drop (length (take n xs)) xs ≡ xs
past_part [] zero = refl
past_part [] (suc n) = refl
past_part (x ∷ xs) zero = refl
past_part (x ∷ xs) (suc n) = ap (λ l. x ∷ l) (past_part xs n)

some_taken : (xs : List Record) (n : ℕ) → 0 < length xs → 0 < length (take (suc n) xs)
some_taken [] n some = absurd (omega (arith, some))
some_taken (x ∷ xs) n some = omega arith

longer_by : (es : List Entry) (batch : List Record) → length (es ++ map entry_of batch) ≡ length es + length batch
longer_by es batch = length-append es (map entry_of batch) ∙ ap (λ n. length es + n) (length-map batch entry_of)

with_part : (es : List Entry) (log batch : List Record) → batch ++ drop (length batch) (drop (length es) log) ≡ drop (length es) log → continued (es ++ map entry_of batch) log ≡ continued es log
with_part es log batch whole =
    let rest : List Record = drop (length batch) (drop (length es) log) in
    let past : drop (length (es ++ map entry_of batch)) log ≡ rest = ap (λ n. drop n log) (longer_by es batch) ∙ sym (drop-drop (length batch) (length es) log) in
    ap (λ l. (es ++ map entry_of batch) ++ map entry_of l) past ∙ (append_assoc es (map entry_of batch) (map entry_of rest) ∙ ap (λ l. es ++ l) (sym (map-append entry_of batch rest) ∙ ap (map entry_of) whole))

pub continued_batch : (old es new : List Entry) (log : List Record) → continued es log ≡ continued old log → new ≡ es ++ map entry_of (take 8 (drop (length es) log)) → continued new log ≡ continued old log
continued_batch old es new log so more =
    ap (λ l. continued l log) more ∙ (with_part es log (take 8 (drop (length es) log)) (past_part (drop (length es) log) 8) ∙ so)

pub continued_all : (old es : List Entry) (log : List Record) → continued es log ≡ continued old log → length log ≤ length es → es ≡ continued old log
continued_all old es log so past = sym (append-nil es) ∙ (ap (λ l. es ++ map entry_of l) (sym (drop_all (length es) log past)) ∙ so)

pub fewer_left : (es new : List Entry) (log : List Record) → length es < length log → new ≡ es ++ map entry_of (take 8 (drop (length es) log)) → length log - length new < length log - length es
fewer_left es new log within more =
    let left = length-drop (length es) log in
    let some = some_taken (drop (length es) log) 7 (omega (arith, left, within)) in
    let long = ap length more ∙ longer_by es (take 8 (drop (length es) log)) in
    omega (arith, some, long, within)

-- ---- places

pub is_some : (a : ℕ) → (a ≡ 0 → ⊥) → 0 < a
is_some zero none = absurd (none refl)
is_some (suc a) none = omega arith

known_or_past : (s n : ℕ) → (s ≤ n) ⊎ (n < s)
known_or_past zero n = inl (omega arith)
known_or_past (suc s) zero = inr (omega arith)
known_or_past (suc s) (suc n) = elim (known_or_past s n) [ inl known ↦ inl (omega (arith, known)) | inr past ↦ inr (omega (arith, past)) ]

pub is_listed : (a len size : ℕ) → len ≡ size → a ≤ len → a ≤ size
is_listed a len size same known = omega (arith, same, known)

pub fits_places : (node nodes places : ℕ) → (1 ≤ node) × (node ≤ nodes) → nodes ≤ 7 → places ≡ 8 → node < places
fits_places node nodes places place few eight = let fits = place.1 in omega (arith, fits, few, eight)

pub least_is : (least mark len size found : ℕ) → least ≡ min mark len → len ≡ size → mark ≡ found → found ≤ size → least ≡ found
least_is least mark len size found is same at fits = grind (arith, is, same, at, fits)

-- ---- what is shown

pub take_past : {A : Type 0} (xs : List A) (n : ℕ) → length xs ≤ n → take n xs ≡ xs
take_past [] zero past = refl
take_past [] (suc n) past = refl
take_past (x ∷ xs) zero past = absurd (omega (arith, past))
take_past (x ∷ xs) (suc n) past = ap (λ l. x ∷ l) (take_past xs n (omega (arith, past)))

least_first : (a b : ℕ) → a ≤ b → min a b ≡ a
least_first a b less = grind (arith, less)

least_second : (a b : ℕ) → b < a → min a b ≡ b
least_second a b less = grind (arith, less)

take_few : (xs : List Entry) (n : ℕ) → take (min (length xs) n) xs ≡ take n xs
take_few xs n = elim (known_or_past (length xs) n) [
  | inl fits ↦ ap (λ k. take k xs) (least_first (length xs) n fits) ∙ (take_past xs (length xs) (omega arith) ∙ sym (take_past xs n fits))
  | inr past ↦ ap (λ k. take k xs) (least_second (length xs) n past)
]

pub shown_by : (items entries front rest few : List Entry) (len from count : ℕ) → items ≡ few → few ≡ take count rest → count ≡ min (length rest) 64 → rest ≡ drop (from - 1) front → front ≡ take len entries → items ≡ shown_entries entries len from
shown_by items entries front rest few len from count copied first least second third =
    copied ∙ (first ∙ (ap (λ n. take n rest) least ∙ (take_few rest 64 ∙ ap (take 64) (second ∙ ap (drop (from - 1)) third))))

pub shows_rows : (n : ℕ) (xs : List Row) (from session len : ℕ) (items es : List Entry) → IsLongestRow n xs (length xs) session len → es ≡ entries_of xs session → items ≡ shown_entries es len from → outcome.Log len items ≡ rows_outcome n xs from
shows_rows n xs from session len items es is same told = rw (told, same, is.len_is, is.session_is) refl

at_place : {A : Type 0} (P : A → Type 0) (xs : List A) (i : ℕ) (x : A) → i < length xs → x ≡ slice_index_or xs i x → AllByRecursion P xs → P x
at_place P xs i x within is all = all_at P xs (suc i) x (omega arith) (omega (arith, within)) (rw sub-one is) all

plus_one : (i : ℕ) → suc i ≡ i + 1
plus_one i = omega arith

pub longest_step : (n : ℕ) (xs : List Row) (i session len mark : ℕ) (best : ℕ × ℕ) (x : Row) → i < length xs → x ≡ slice_index_or xs i x → AllByRecursion (IsRowOf n) xs → session ≤ i → len ≤ length (entries_of xs session) → mark ≤ length x.entries.items
    → (AllByRecursion IsBounded xs → IsLongestRow n xs i session len) → (IsBounded x → mark ≡ reached x.acks.nodes (has_kept x.acks) (length x.entries.items))
    → (len < mark → (best.0 ≡ i + 1) × (best.1 ≡ mark)) → (mark ≤ len → (best.0 ≡ session) × (best.1 ≡ len))
    → (best.0 ≤ i + 1) × (best.1 ≤ length (entries_of xs best.0)) × (AllByRecursion IsBounded xs → IsLongestRow n xs (i + 1) best.0 best.1)
longest_step n xs i session len mark best x within is rows known fits few found value more less =
    let row = at_place (IsRowOf n) xs i x within is rows in
    let here : x ≡ slice_index_or xs (suc i - 1) x = rw sub-one is in
    let entries = entries_at xs (suc i) x (omega arith) (omega (arith, within)) here in
    let marked : AllByRecursion IsBounded xs → mark ≡ row_length n xs (suc i) = λ bounded. row_length_at n xs (suc i) x mark (omega arith) (omega (arith, within)) here row.count (value (at_place IsBounded xs i x within is bounded)) in
    elim (known_or_past mark len) [
      | inl no_more ↦
          let it = less no_more in
          let at = it.0 in
          (omega (arith, at, known), rw (it.1, it.0) fits, λ bounded. rw (it.1, it.0, ← plus_one i) (longest_same n xs i session len mark (found bounded) (marked bounded) no_more))
      | inr longer ↦
          let it = more longer in
          let at = it.0 in
          (omega (arith, at), rw (it.1, it.0, ← plus_one i, entries) few, λ bounded. rw (it.1, it.0, ← plus_one i) (longest_next n xs i session len mark (found bounded) (marked bounded) longer))
    ]
