-- What is kept of the votes and the books of a world, after one more event.
use Rattle.std.proofs.Common.{◌≡◌, ◌∙◌, ◌⊎◌, inl, inr, ℕ, zero, suc, ◌-◌, ◌<◌, ◌≤◌, List, [], ◌∷◌, ◌++◌, length, map, take, drop, Bool, true, false, refl, sym, ap, subst, arith, get_or}
use Rattle.std.specs.Prelude.{◌||◌}
use Rattle.std.specs.List.{AllByRecursion}
use Rattle.std.proofs.lemmas.List.{length-map, length-take-le}
use Rattle.std.proofs.lemmas.Bool.Decides.{nat_tests}
use Rattle.tx_model.specs.declared.record.Record.{Record}
use Rattle.proto_model.specs.declared.message.Phase.{Phase}
use Rattle.proto_model.specs.declared.message.Phase.TheVariants.{Idle, Opening, Fetching, Repairing, Running, Closed}
use Rattle.proto_model.specs.Tables.{table}
use Rattle.proto_model.specs.Quorums.{is_within, count, reached}
use Rattle.proto_model.specs.Servers.{ServerState, has_fetched, is_active}
use Rattle.quorum_append.specs.Kept.{has_kept, nothing_kept}
use Rattle.net_model.specs.declared.shown.Entry.{Entry}
use Rattle.net_model.specs.declared.event.Event.{Event}
use Rattle.net_model.specs.declared.outcome.Outcome.{Outcome}
use Rattle.net_model.specs.declared.outcome.Outcome.TheVariants as outcome
use Rattle.net_model.specs.declared.cluster.Cluster.{Cluster}
use Rattle.world_law.specs.Worlds.{WorldState, Book, config_of, start}
use Rattle.world_law.specs.OneLog.{voted, committed_length, longest, one_log}
use Rattle.world_law.specs.Outcomes.{entry_of, log_outcome}
use Rattle.world_law.specs.Runs.{WorldStep, IsRun, last_world}
use Rattle.world_law.proofs.Invariant.{PhaseFacts}
use Rattle.world_law.proofs.Later.{Later}
use Rattle.world_law.proofs.Lists.{IsFront, front_take}
use Rattle.world_law.proofs.Votes.{fewer, same_bools}
use Rattle.world_law.proofs.Steps.{Good}
use Rattle.world_law.proofs.Runs.{IsRun-push, last_world-push}
use Rattle.world_law.proofs.SafeRuns.{in_every_world}
use Rattle.world_core.specs.declared.tally.Row.{Row}
use Rattle.world_core.specs.Tallies.{acks_of, entries_of, row_length, longest_row, row_outcome, rows_outcome, is_cast}
use Rattle.world_core.specs.Noted.{is_cast_by}
use Rattle.world_core.specs.Told.{IsOfRun, IsTallied}
use Rattle.world_core.proofs.Recorded.{Recorded, no_true}

-- ---- worlds of runs

all_last : (P : WorldState → Type 0) (old : WorldState) (worlds : List WorldState) → AllByRecursion P (old ∷ worlds) → P (last_world old worlds)
all_last P old [] all = all.0
all_last P old (w ∷ worlds) all = all_last P w worlds all.1

pub good_of_run : (w : WorldState) → IsOfRun w → Good w
good_of_run w is = subst Good is.last (all_last Good (start w.cluster) is.worlds (in_every_world Good (λ v g. g) w.cluster is.events is.outcomes is.worlds is.run))

pub run_goes_on : (w : WorldState) (e : Event) (o : Outcome) (v : WorldState) → v.cluster ≡ w.cluster → IsOfRun w → WorldStep w e o v → IsOfRun v
run_goes_on w e o v cluster is step =
    let from : WorldState = start w.cluster in
    let here : WorldStep (last_world from is.worlds) e o v = subst (λ x. WorldStep x e o v) (sym is.last) step in
    let run : IsRun from (is.events ++ e ∷ []) (is.outcomes ++ o ∷ []) (is.worlds ++ v ∷ []) = IsRun-push from is.events is.outcomes is.worlds e o v is.run here in
    let last : last_world from (is.worlds ++ v ∷ []) ≡ v = last_world-push from is.worlds v in
    record {
      events = is.events ++ e ∷ [];
      outcomes = is.outcomes ++ o ∷ [];
      worlds = is.worlds ++ v ∷ [];
      run = subst (λ (c : Cluster). IsRun (start c) (is.events ++ e ∷ []) (is.outcomes ++ o ∷ []) (is.worlds ++ v ∷ [])) (sym cluster) run;
      last = subst (λ (c : Cluster). last_world (start c) (is.worlds ++ v ∷ []) ≡ v) (sym cluster) last;
    }

-- ---- tables past their rows

get_past : {A : Type 0} (xs : List A) (k : ℕ) (d : A) → length xs ≤ k → get_or xs k d ≡ d
get_past [] k d past = refl
get_past (x ∷ xs) zero d past = absurd (omega (arith, past))
get_past (x ∷ xs) (suc k) d past = get_past xs k d (omega (arith, past))

table_past : {A : Type 0} (d : A) (xs : List A) (s : ℕ) → length xs < s → table d xs s ≡ d
table_past d xs zero past = refl
table_past d xs (suc k) past = get_past xs k d (omega (arith, past))

pub acks_past : (nodes : ℕ) (rows : List Row) (s : ℕ) → length rows < s → acks_of nodes rows s ≡ nothing_kept nodes
acks_past nodes rows s past = table_past (nothing_kept nodes) (map (λ (r : Row). r.acks) rows) s (let size = length-map rows (λ (r : Row). r.acks) in omega (arith, past, size))

pub nothing_has : (nodes k i : ℕ) → has_kept (nothing_kept nodes) k i ≡ false
nothing_has nodes k zero = refl
nothing_has nodes k (suc zero) = refl
nothing_has nodes k (suc (suc zero)) = refl
nothing_has nodes k (suc (suc (suc zero))) = refl
nothing_has nodes k (suc (suc (suc (suc zero)))) = refl
nothing_has nodes k (suc (suc (suc (suc (suc zero))))) = refl
nothing_has nodes k (suc (suc (suc (suc (suc (suc zero)))))) = refl
nothing_has nodes k (suc (suc (suc (suc (suc (suc (suc zero))))))) = refl
nothing_has nodes k (suc (suc (suc (suc (suc (suc (suc (suc i)))))))) = refl

-- ---- votes

-- there is no vote in a session that was not won
pub none_voted : (v : WorldState) → Good v → (s k i : ℕ) → v.number < s → voted v.votes s k i ≡ false
none_voted v g s k i past = by (voted v.votes s k i) refl
  where
    by : (b : Bool) → voted v.votes s k i ≡ b → b ≡ false
    by false is = refl
    by true is =
        let repaired = (g.holds.votes i s k is).repaired in
        let unused = g.holds.unused s past in
        let none : (v.books s).repaired ≡ false = ap (λ (b : Book). b.repaired) unused in
        absurd (no_true (sym none ∙ repaired))

cast_is : (adopted len node s k i : ℕ) → is_cast adopted len node s k i ≡ true → (0 < adopted) × (adopted ≡ s) × (k ≤ len)
cast_is adopted len node s k i h = grind (arith, nat_tests, h)

-- a node has the votes that its state tells of
own_voted : (v : WorldState) → Good v → (s k i : ℕ) → is_cast_by v.nodes s k i ≡ true → voted v.votes s k i ≡ true
own_voted v g s k i h =
    let is = cast_is (v.nodes i).adopted (length (v.nodes i).log) i s k i h in
    let own = (g.holds.nodes i).own is.0 in
    let all : voted v.votes (v.nodes i).adopted k i ≡ true = fewer v.votes (v.nodes i).adopted (length (v.nodes i).log) k i is.2 own in
    subst (λ t. voted v.votes t k i ≡ true) is.1 all

either_true : (a b : Bool) → (a || b) ≡ true → (a ≡ true) ⊎ (b ≡ true)
either_true a b h = grind (arith, h)

first_true : (a b : Bool) → a ≡ true → (a || b) ≡ true
first_true a b h = grind (arith, h)

second_true : (a b : Bool) → b ≡ true → (a || b) ≡ true
second_true a b h = grind (arith, h)

pub votes_next : (w v : WorldState) → Good v → Later w v → Recorded w v → (s k i : ℕ) → (voted w.votes s k i || is_cast_by v.nodes s k i) ≡ voted v.votes s k i
votes_next w v g later r s k i =
    same_bools (voted w.votes s k i || is_cast_by v.nodes s k i) (voted v.votes s k i)
    (λ h. elim (either_true (voted w.votes s k i) (is_cast_by v.nodes s k i) h) [ inl old ↦ later.cast i s k old | inr new ↦ own_voted v g s k i new ])
    (λ h. elim (r.votes s k i h) [ inl old ↦ first_true (voted w.votes s k i) (is_cast_by v.nodes s k i) old | inr new ↦ second_true (voted w.votes s k i) (is_cast_by v.nodes s k i) new ])

-- ---- books

-- a server that repairs or runs has its book's log
log_in : (p : Phase) (v : WorldState) (sv : ServerState) → PhaseFacts (config_of v.cluster) v.books sv p → has_fetched p ≡ true → (v.books sv.session).log ≡ sv.log
log_in Idle v sv facts fetched = absurd (no_true fetched)
log_in Opening v sv facts fetched = absurd (no_true fetched)
log_in Fetching v sv facts fetched = absurd (no_true fetched)
log_in Repairing v sv facts fetched = ap (λ (b : Book). b.log) facts.book
log_in Running v sv facts fetched = ap (λ (b : Book). b.log) facts.book
log_in (Closed p) v sv facts fetched = absurd (no_true fetched)

pub server_log : (v : WorldState) → Good v → (u : ℕ) → has_fetched (v.servers u).phase ≡ true → (v.books (v.servers u).session).log ≡ (v.servers u).log
server_log v g u fetched = log_in (v.servers u).phase v (v.servers u) (g.holds.phases u) fetched

active_in : (p : Phase) → has_fetched p ≡ true → is_active p ≡ true
active_in Idle fetched = absurd (no_true fetched)
active_in Opening fetched = refl
active_in Fetching fetched = refl
active_in Repairing fetched = refl
active_in Running fetched = refl
active_in (Closed p) fetched = absurd (no_true fetched)

pub server_session : (v : WorldState) → Good v → (u : ℕ) → has_fetched (v.servers u).phase ≡ true → (1 ≤ (v.servers u).session) × ((v.servers u).session ≤ v.number)
server_session v g u fetched = let active = g.holds.active u (active_in (v.servers u).phase fetched) in (active.some, active.known)

map_take : (n : ℕ) (xs : List Record) → map entry_of (take n xs) ≡ take n (map entry_of xs)
map_take zero xs = refl
map_take (suc n) [] = refl
map_take (suc n) (x ∷ xs) = ap (λ l. entry_of x ∷ l) (map_take n xs)

pub map_drop : (n : ℕ) (xs : List Record) → map entry_of (drop n xs) ≡ drop n (map entry_of xs)
map_drop zero xs = refl
map_drop (suc n) [] = refl
map_drop (suc n) (x ∷ xs) = map_drop n xs

-- entries of a log that only grew
pub entries_front : (old new : List Record) → IsFront old new → map entry_of old ≡ take (length (map entry_of old)) (map entry_of new)
entries_front old new front =
    let size : length (map entry_of old) ≡ length old = length-map old entry_of in
    ap (map entry_of) (front_take old new front) ∙ (map_take (length old) new ∙ ap (λ n. take n (map entry_of new)) (sym size))

-- ---- the one log

counts_same : (n m : ℕ) (f g : ℕ → Bool) → m ≤ n → ((i : ℕ) → is_within n i ≡ true → f i ≡ g i) → count f m ≡ count g m
counts_same n zero f g le same = refl
counts_same n (suc m) f g le same =
    let here : f (suc m) ≡ g (suc m) = same (suc m) (grind (arith, nat_tests, le)) in
    let rest = counts_same n m f g (omega (arith, le)) same in
    rw (here, rest) refl

reached_same : (n : ℕ) (f g : ℕ → ℕ → Bool) (k : ℕ) → ((k i : ℕ) → is_within n i ≡ true → f k i ≡ g k i) → reached n f k ≡ reached n g k
reached_same n f g zero same = refl
reached_same n f g (suc k) same =
    let here : count (f (suc k)) n ≡ count (g (suc k)) n = counts_same n n (f (suc k)) (g (suc k)) (omega arith) (same (suc k)) in
    let rest = reached_same n f g k same in
    rw (here, rest) refl

lengths : (rows : List Row) (w : WorldState) → IsTallied rows w → (s : ℕ) → row_length w.cluster.nodes rows s ≡ committed_length w s
lengths rows w is s =
    let size : length (entries_of rows s) ≡ length (w.books s).log = ap length (is.entries s) ∙ length-map (w.books s).log entry_of in
    ap (reached w.cluster.nodes (has_kept (acks_of w.cluster.nodes rows s))) size
    ∙ reached_same w.cluster.nodes (has_kept (acks_of w.cluster.nodes rows s)) (voted w.votes s) (length (w.books s).log) (λ k i within. is.votes s k i within)

longest_found : (rows : List Row) (w : WorldState) → IsTallied rows w → (s : ℕ) → longest_row w.cluster.nodes rows s ≡ longest w s
longest_found rows w is zero = refl
longest_found rows w is (suc s) =
    let rest = longest_found rows w is s in
    let best : row_length w.cluster.nodes rows (longest_row w.cluster.nodes rows s) ≡ committed_length w (longest w s) = ap (row_length w.cluster.nodes rows) rest ∙ lengths rows w is (longest w s) in
    let next = lengths rows w is (suc s) in
    rw (best, next, rest) refl

pub reached_fits : (n : ℕ) (f : ℕ → ℕ → Bool) (k : ℕ) → reached n f k ≤ k
reached_fits n f zero = omega arith
reached_fits n f (suc k) = let rest = reached_fits n f k in grind (arith, rest)

log_by : {a b : ℕ} {x y : List Entry} → a ≡ b → x ≡ y → outcome.Log a x ≡ outcome.Log b y
log_by same entries = rw (same, entries) refl

-- what is shown of the rows is what is shown of the one log
pub shows_one_log : (rows : List Row) (w : WorldState) (from : ℕ) → IsTallied rows w → rows_outcome w.cluster.nodes rows from ≡ log_outcome (one_log w) from
shows_one_log rows w from is = by (longest_row w.cluster.nodes rows (length rows)) (ap (longest_row w.cluster.nodes rows) is.count ∙ longest_found rows w is w.number)
  where
    by : (s : ℕ) → s ≡ longest w w.number → row_outcome w.cluster.nodes rows s from ≡ log_outcome (one_log w) from
    by s at = rw at (shown_at (longest w w.number))
      where
        shown_at : (t : ℕ) → row_outcome w.cluster.nodes rows t from ≡ log_outcome (take (committed_length w t) (w.books t).log) from
        shown_at t =
            let len = lengths rows w is t in
            let log : List Record = (w.books t).log in
            let n : ℕ = committed_length w t in
            let fits : n ≤ length log = reached_fits w.cluster.nodes (voted w.votes t) (length log) in
            rw (len, is.entries t) (log_by (sym (length-take-le n log fits))
            (ap (λ l. take 64 (drop (from - 1) l)) (sym (map_take n log)) ∙ (ap (take 64) (sym (map_drop (from - 1) (take n log))) ∙ sym (map_take 64 (drop (from - 1) (take n log))))))
