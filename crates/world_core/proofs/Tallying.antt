-- The rows after one more event.
use Rattle.std.proofs.Common.{◌≡◌, ◌∙◌, ◌⊎◌, inl, inr, ℕ, zero, suc, ◌+◌, ◌-◌, ◌<◌, ◌≤◌, List, [], ◌∷◌, length, map, take, Bool, true, false, refl, sym, ap, subst, arith, sub-one, get_or, slice_index_or, Option, None, Some}
use Rattle.std.specs.Prelude.{◌||◌, nat_le}
use Rattle.std.specs.List.{AllByRecursion}
use Rattle.std.proofs.lemmas.List.{length-map}
use Rattle.std.proofs.lemmas.Bool.Decides.{nat_tests}
use Rattle.proto_model.specs.Quorums.{is_within}
use Rattle.proto_model.specs.Servers.{ServerState, idle_server}
use Rattle.quorum_append.specs.Kept.{Kept, has_kept, reaches, or_zero, length_kept, AreKeptWithin}
use Rattle.partition_server.specs.Held.{Held, state_of}
use Rattle.net_model.specs.declared.cluster.Cluster.{Cluster}
use Rattle.net_model.specs.declared.shown.Entry.{Entry}
use Rattle.world_law.specs.Worlds.{WorldState}
use Rattle.world_law.specs.OneLog.{voted}
use Rattle.world_law.specs.Outcomes.{entry_of}
use Rattle.world_law.proofs.Later.{Later}
use Rattle.world_law.specs.Steps.{happens}
use Rattle.world_law.specs.Runs.{WorldStep}
use Rattle.net_model.specs.declared.event.Event.{Event}
use Rattle.net_model.specs.declared.outcome.Outcome.{Outcome}
use Rattle.proto_model.specs.Replicas.{ReplicaState}
use Rattle.world_law.proofs.Steps.{Good, Ahead, ahead}
use Rattle.world_core.specs.Kept.{KeptSystem, Shows, seen, shown_of, nodes_of, servers_of}
use Rattle.world_core.specs.declared.tally.Row.{Row}
use Rattle.world_core.specs.Tallies.{acks_of, entries_of, IsBounded, IsRowOf}
use Rattle.world_core.specs.Noted.{is_cast_by, AreTargets, AreFronts, AreNoted, IsNoted}
use Rattle.world_core.specs.Told.{IsOfRun, IsTallied}
use Rattle.world_core.proofs.Recorded.{Recorded, ServesBook, recorded, no_true}
use Rattle.world_core.proofs.Casting.{acks_at, entries_at}
use Rattle.world_core.proofs.Tallied.{good_of_run, votes_next, none_voted, nothing_has, acks_past, server_log, server_session, entries_front}
use Rattle.world_core.proofs.Noting.{all_listed, listed_all}

-- the entries of the books
abbrev pub book_entries : WorldState → ℕ → List Entry
book_entries v s = map entry_of (v.books s).log

pub target_of_server : (v : WorldState) → Good v → (u : ℕ) → AreTargets (book_entries v) v.number (v.servers u)
target_of_server v g u = λ fetched.
    let session = server_session v g u fetched in
    record { some = session.0; known = session.1; log = ap (map entry_of) (server_log v g u fetched) }

-- the servers of a list are those of the world
pub targets : (v : WorldState) → Good v → (servers : List Held) (sessions : ℕ) → servers_of (map state_of servers) ≡ v.servers → sessions ≡ v.number → AllByRecursion (λ h. AreTargets (book_entries v) sessions (state_of h)) servers
targets v g servers sessions same count =
    all_listed (AreTargets (book_entries v) sessions) idle_server state_of servers (λ u some fits.
    rw (count, ap (λ f. f u) same) (target_of_server v g u))

pub fronts : (w v : WorldState) (rows : List Row) → Later w v → IsTallied rows w → AreFronts (book_entries v) (entries_of rows)
fronts w v rows later is s =
    let P : List Entry → Type 0 = λ l. l ≡ take (length l) (book_entries v s) in
    subst P (sym (is.entries s)) (entries_front (w.books s).log (v.books s).log (later.grown s))

fronts_as : (target a b : ℕ → List Entry) → b ≡ a → AreFronts target a → AreFronts target b
fronts_as target a b same are = subst (AreFronts target) (sym same) are

-- ---- votes

past_none : (v : WorldState) → Good v → (n : ℕ) (rows : List Row) (s k i : ℕ) → length rows ≡ v.number → length rows < s → has_kept (acks_of n rows s) k i ≡ voted v.votes s k i
past_none v g n rows s k i count past =
    let out : v.number < s = omega (arith, count, past) in
    ap (λ a. has_kept a k i) (acks_past n rows s past) ∙ (nothing_has n k i ∙ sym (none_voted v g s k i out))

won_votes : (w v : WorldState) → Good v → Later w v → Recorded w v → (a : Bool) (s k i : ℕ) → a ≡ voted w.votes s k i → (a || is_cast_by v.nodes s k i) ≡ voted v.votes s k i
won_votes w v g later r a s k i is = ap (λ b. b || is_cast_by v.nodes s k i) is ∙ votes_next w v g later r s k i

-- ---- the whole

known_or_past : (s n : ℕ) → (s ≤ n) ⊎ (n < s)
known_or_past zero n = inl (omega arith)
known_or_past (suc s) zero = inr (omega arith)
known_or_past (suc s) (suc n) = elim (known_or_past s n) [ inl known ↦ inl (omega (arith, known)) | inr past ↦ inr (omega (arith, past)) ]

pub tallied_next : (w v : WorldState) (old grown noted final : List Row) (servers : List Held) → Good v → Later w v → Recorded w v → IsTallied old w → length grown ≡ v.number
    → acks_of v.cluster.nodes grown ≡ acks_of v.cluster.nodes old → entries_of grown ≡ entries_of old → length noted ≡ length grown
    → ((s k i : ℕ) → is_within v.cluster.nodes i ≡ true → s ≤ length grown → has_kept (acks_of v.cluster.nodes noted s) k i ≡ (has_kept (acks_of v.cluster.nodes grown s) k i || is_cast_by v.nodes s k i))
    → entries_of noted ≡ entries_of grown → length final ≡ length noted → acks_of v.cluster.nodes final ≡ acks_of v.cluster.nodes noted
    → servers_of (map state_of servers) ≡ v.servers → length servers ≡ v.cluster.servers → AreNoted (book_entries v) (map state_of servers) (entries_of noted) (entries_of final) → IsTallied final v
tallied_next w v old grown noted final servers g later r is count acks_grown entries_grown noted_size votes entries_noted final_size acks_final same size are = record {
  count = final_size ∙ (noted_size ∙ count);
  votes = λ s k i within. by s k i within (known_or_past s (length grown));
  entries = λ s. elim (r.books s) [
    | inl kept ↦ are.stays s (ap (λ f. f s) entries_noted ∙ (ap (λ f. f s) entries_grown ∙ (is.entries s ∙ ap (map entry_of) (sym kept))))
    | inr serves ↦ served s serves
  ];
}
  where
    old_votes : (s k i : ℕ) → is_within v.cluster.nodes i ≡ true → has_kept (acks_of v.cluster.nodes grown s) k i ≡ voted w.votes s k i
    old_votes s k i within =
        let P : ℕ → Type 0 = λ m. is_within m i ≡ true → has_kept (acks_of m old s) k i ≡ voted w.votes s k i in
        let first : has_kept (acks_of v.cluster.nodes old s) k i ≡ voted w.votes s k i = subst P (sym (ap (λ (c : Cluster). c.nodes) later.cluster)) (is.votes s k i) within in
        ap (λ f. has_kept (f s) k i) acks_grown ∙ first

    by : (s k i : ℕ) → is_within v.cluster.nodes i ≡ true → (s ≤ length grown) ⊎ (length grown < s) → has_kept (acks_of v.cluster.nodes final s) k i ≡ voted v.votes s k i
    by s k i within (inl known) = ap (λ f. has_kept (f s) k i) acks_final ∙ (votes s k i within known ∙ won_votes w v g later r (has_kept (acks_of v.cluster.nodes grown s) k i) s k i (old_votes s k i within))
    by s k i within (inr past) = past_none v g v.cluster.nodes final s k i (final_size ∙ (noted_size ∙ count)) (omega (arith, past, final_size, noted_size))

    served : (s : ℕ) → ServesBook v s → entries_of final s ≡ book_entries v s
    served s serves =
        let u : ℕ = serves.server in
        let place : (1 ≤ u) × (u ≤ length (map state_of servers)) = (let within = serves.within in let count = length-map servers state_of in grind (arith, nat_tests, within, count, size)) in
        let noted : IsNoted (book_entries v) (entries_of final) (servers_of (map state_of servers) u) = listed_all (IsNoted (book_entries v) (entries_of final)) idle_server (map state_of servers) u place.0 place.1 are.noted in
        let here : IsNoted (book_entries v) (entries_of final) (v.servers u) = subst (λ (f : ℕ → ServerState). IsNoted (book_entries v) (entries_of final) (f u)) same noted in
        subst (λ t. entries_of final t ≡ book_entries v t) serves.session (here serves.fetched)

-- ---- the same of a world that is seen

pub record Follows (w v : WorldState) : Type 0 where
  pub good : Good v
  pub later : Later w v
  pub recorded : Recorded w v

pub follows : (w : WorldState) (e : Event) (o : Outcome) (v : WorldState) → IsOfRun w → WorldStep w e o v → Follows w v
follows w e o v run step =
    let next : Ahead w (happens w step.fate e) = ahead w (good_of_run w run) step.fate e step.allowed in
    subst (Follows w) (sym step.new_is) (record { good = next.good; later = next.later.later; recorded = recorded w step.fate e })

seen_next : {R : Type 0} (state : R → ReplicaState) (files : R → ℕ → List ℕ) (k : KeptSystem R) (w u : WorldState) (old grown noted final : List Row) → Follows w (seen (shown_of state files k) u) → IsTallied old w
    → length k.servers ≡ k.cluster.servers → (length old ≤ k.number → k.number ≤ length old + 1 → length grown ≡ k.number)
    → acks_of k.cluster.nodes grown ≡ acks_of k.cluster.nodes old → entries_of grown ≡ entries_of old → length noted ≡ length grown
    → ((s k' i : ℕ) → is_within k.cluster.nodes i ≡ true → s ≤ length grown → has_kept (acks_of k.cluster.nodes noted s) k' i ≡ (has_kept (acks_of k.cluster.nodes grown s) k' i || is_cast_by (nodes_of (map state k.nodes)) s k' i))
    → entries_of noted ≡ entries_of grown → length final ≡ length noted → acks_of k.cluster.nodes final ≡ acks_of k.cluster.nodes noted
    → ((target : ℕ → List Entry) → AllByRecursion (λ h. AreTargets target (length noted) (state_of h)) k.servers → AreFronts target (entries_of noted) → AreNoted target (map state_of k.servers) (entries_of noted) (entries_of final))
    → IsTallied final (seen (shown_of state files k) u)
seen_next state files k w u old grown noted final f is size count acks_grown entries_grown noted_size votes entries_noted final_size acks_final servers =
    let v : WorldState = seen (shown_of state files k) u in
    let number : length old ≡ w.number = is.count in
    let later : w.number ≤ k.number = f.recorded.later in
    let once : k.number ≤ w.number + 1 = f.recorded.once in
    let known : length grown ≡ v.number = count (omega (arith, number, later)) (omega (arith, number, once)) in
    let has : AreFronts (book_entries v) (entries_of noted) = fronts_as (book_entries v) (entries_of old) (entries_of noted) (entries_noted ∙ entries_grown) (fronts w v old f.later is) in
    let are = servers (book_entries v) (targets v f.good k.servers (length noted) refl (noted_size ∙ known)) has in
    tallied_next w v old grown noted final k.servers f.good f.later f.recorded is known acks_grown entries_grown noted_size votes entries_noted final_size acks_final refl size are

pub tallies : {R : Type 0} (state : R → ReplicaState) (files : R → ℕ → List ℕ) (k : KeptSystem R) (w : WorldState) (e : Event) (o : Outcome) (v : WorldState) (old grown noted final : List Row)
    → IsOfRun w → WorldStep w e o v → Shows (shown_of state files k) v → IsTallied old w
    → length k.servers ≡ k.cluster.servers → (length old ≤ k.number → k.number ≤ length old + 1 → length grown ≡ k.number)
    → acks_of k.cluster.nodes grown ≡ acks_of k.cluster.nodes old → entries_of grown ≡ entries_of old → length noted ≡ length grown
    → ((s k' i : ℕ) → is_within k.cluster.nodes i ≡ true → s ≤ length grown → has_kept (acks_of k.cluster.nodes noted s) k' i ≡ (has_kept (acks_of k.cluster.nodes grown s) k' i || is_cast_by (nodes_of (map state k.nodes)) s k' i))
    → entries_of noted ≡ entries_of grown → length final ≡ length noted → acks_of k.cluster.nodes final ≡ acks_of k.cluster.nodes noted
    → ((target : ℕ → List Entry) → AllByRecursion (λ h. AreTargets target (length noted) (state_of h)) k.servers → AreFronts target (entries_of noted) → AreNoted target (map state_of k.servers) (entries_of noted) (entries_of final))
    → IsTallied final v
tallies state files k w e o v old grown noted final run step has is size count acks_grown entries_grown noted_size votes entries_noted final_size acks_final servers =
    let f : Follows w (seen (shown_of state files k) v) = subst (Follows w) has (follows w e o v run step) in
    subst (IsTallied final) (sym has) (seen_next state files k w v old grown noted final f is size count acks_grown entries_grown noted_size votes entries_noted final_size acks_final servers)

-- ---- votes are no longer than the book

bounded_by : (o : Option ℕ) (bound : ℕ) → ((k : ℕ) → reaches o k ≡ true → k ≤ bound) → or_zero o ≤ bound
bounded_by None bound each = omega arith
bounded_by (Some len) bound each = each len (grind (arith, nat_tests))

kept_within : (x : Kept) (i bound : ℕ) → ((k : ℕ) → has_kept x k i ≡ true → k ≤ bound) → length_kept x i ≤ bound
kept_within x i bound each = bounded_by (slice_index_or x.lens i None) bound each

no_less : (o : Option ℕ) (k : ℕ) → reaches o 0 ≡ false → reaches o k ≡ true → ⊥
no_less None k none has = no_true has
no_less (Some len) k none has = let h : nat_le 0 len ≡ true = grind (arith, nat_tests) in no_true (sym none ∙ h)

row_bounded : (w : WorldState) → Good w → (rows : List Row) → IsTallied rows w → (s : ℕ) (acks : Kept) (size : ℕ) → acks_of w.cluster.nodes rows s ≡ acks → size ≡ length (w.books s).log → ((i : ℕ) → is_within w.cluster.nodes i ≡ false → has_kept acks 0 i ≡ false) → AreKeptWithin size acks
row_bounded w g rows is s acks size at long others i = by (is_within w.cluster.nodes i) refl
  where
    by : (b : Bool) → is_within w.cluster.nodes i ≡ b → length_kept acks i ≤ size
    by true within = kept_within acks i size (λ k has.
        let kept : has_kept (acks_of w.cluster.nodes rows s) k i ≡ true = ap (λ a. has_kept a k i) at ∙ has in
        let fits = (g.holds.votes i s k (sym (is.votes s k i within) ∙ kept)).fits in
        omega (arith, fits, long))
    by false out = kept_within acks i size (λ k has. absurd (no_less (slice_index_or acks.lens i None) k (others i out) has))

one_bounded : (w : WorldState) → Good w → (rows : List Row) → IsTallied rows w → (k : ℕ) (x : Row) → get_or rows k x ≡ x → k < length rows → IsRowOf w.cluster.nodes x → IsBounded x
one_bounded w g rows is k x found within row =
    let here : x ≡ slice_index_or rows (suc k - 1) x = rw sub-one (sym found) in
    let acks = acks_at w.cluster.nodes rows (suc k) x (omega arith) (omega (arith, within)) here in
    let entries = entries_at rows (suc k) x (omega arith) (omega (arith, within)) here in
    let size : length x.entries.items ≡ length (w.books (suc k)).log = ap length (sym entries ∙ is.entries (suc k)) ∙ length-map (w.books (suc k)).log entry_of in
    row_bounded w g rows is (suc k) x.acks (length x.entries.items) acks size row.others

all_by_place : {A : Type 0} (P Q : A → Type 0) (xs : List A) → ((k : ℕ) (x : A) → get_or xs k x ≡ x → k < length xs → P x → Q x) → AllByRecursion P xs → AllByRecursion Q xs
all_by_place P Q [] each all = tt
all_by_place P Q (x ∷ xs) each all = (each 0 x refl (omega arith) all.0, all_by_place P Q xs (λ k y found within p. each (suc k) y found (omega (arith, within)) p) all.1)

pub bounded_rows : (w : WorldState) → Good w → (rows : List Row) → IsTallied rows w → AllByRecursion (IsRowOf w.cluster.nodes) rows → AllByRecursion IsBounded rows
bounded_rows w g rows is of = all_by_place (IsRowOf w.cluster.nodes) IsBounded rows (one_bounded w g rows is) of
