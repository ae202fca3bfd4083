-- What each request makes of a node.
use Rattle.std.proofs.Common.{◌≡◌, ◌≢◌, ℕ, ◌+◌, ◌<◌, ◌≤◌, ◌⊎◌, nat_lt, true, arith, refl, ap, sym, ◌∙◌, inl, inr, subst, List, [], ◌∷◌, ◌++◌, length, take, get_or, get_or-take, length-take, le_trans}
use Rattle.proto_model.specs.Replicas.{ReplicaState, next_staged, grown, replica_after}
use Rattle.proto_model.specs.Servers.{length_of}
use Rattle.proto_model.specs.declared.message.ToNode.{ToNode}
use Rattle.proto_model.specs.declared.message.ToNode.TheVariants.{Open, Fetch, Stage, Adopt, Append, Low}
use Rattle.world_law.specs.OneLog.{IsCommitted}
use Rattle.world_law.specs.Worlds.{WorldState}
use Rattle.std.proofs.lemmas.Bool.Decides.{nat_tests}
use Rattle.std.proofs.lemmas.Grind.{common_steps}
use Rattle.std.proofs.lemmas.List.{places}
use Rattle.tx_model.specs.Records.{first_id}
use Rattle.tx_model.specs.declared.record.Record.{Record}
use Rattle.world_law.proofs.CommitsStay.{committed_in}
use Rattle.world_law.proofs.Invariant.{StagedFacts, StageWarrant, AdoptWarrant, AppendWarrant, AskWarrant, Holds}
use Rattle.world_law.proofs.Lists.{IsSlice, grown_longer, grown_front, adopted_front, joined_length}
use Rattle.world_law.proofs.NodeFrame.{NodeStep}
use Rattle.world_law.proofs.NodeVotes.{regrown, adopted_anew, append_cases, adopt_cases, revoted}
use Rattle.world_law.proofs.Tests.{if_each, above}
use Rattle.world_law.specs.Promises.{chosen_from, chosen_log}

pub came_of : (w : WorldState) → Holds w → (i : ℕ) → 0 < (w.nodes i).adopted → (w.books (w.nodes i).adopted).repaired ≡ true
came_of w h i some = (h.votes i (w.nodes i).adopted (length (w.nodes i).log) ((h.nodes i).own some)).repaired

-- a node that stays
pub stays : (w : WorldState) → Holds w → (i : ℕ) → NodeStep w i (w.nodes i)
stays w h i = record {
  promised = omega arith;
  facts = revoted w.books w.votes i (w.nodes i) (h.nodes i);
  came = came_of w h i;
  same = λ lt. (refl, refl);
  low = h.lows i;
  staged = h.staged i;
}

-- a node of which only what is staged changes
pub restaged : (w : WorldState) → Holds w → (i : ℕ) (after : ReplicaState) → (w.nodes i).promised ≤ after.promised
    → after.adopted ≡ (w.nodes i).adopted → after.log ≡ (w.nodes i).log → after.low ≡ (w.nodes i).low
    → StagedFacts w after → NodeStep w i after
restaged w h i after promised adopted log low staged =
    let n = w.nodes i in
    let f = h.nodes i in
    let lows = h.lows i in
    record {
      promised = promised;
      facts = regrown w.books w.votes i n after f adopted (let p = f.promised in omega arith) (let e = ap (λ (l : List Record). length l) log in omega arith)
          (rw (adopted, log) f.front);
      came = rw adopted (came_of w h i);
      same = λ lt. (adopted, ap (λ (l : List Record). length l) log);
      low = record {
        fits = rw (low, log) lows.fits;
        committed = λ some. (let c = lows.committed (rw low at some) in (c.0, c.1, c.2, rw adopted c.3, rw low c.4));
      };
      staged = staged;
    }

open_staged : (w : WorldState) → Holds w → (n : ReplicaState) (s : ℕ) → n.adopted ≤ n.promised → n.promised < s
    → StagedFacts w (record n { promised = s; staged = [] })
open_staged w h n s le lt = record { none = λ e. refl; chosen = λ some. absurd (omega arith); slice = λ some. absurd (omega arith) }

pub open_step : (w : WorldState) → Holds w → (i s : ℕ) → NodeStep w i (replica_after (w.nodes i) (Open s))
open_step w h i s =
    let n = w.nodes i in
    if_each (NodeStep w i) (nat_lt n.promised s) (record n { promised = s; staged = [] }) n
    (λ e. restaged w h i (record n { promised = s; staged = [] }) (let lt = above n.promised s e in omega arith) refl refl refl
    (open_staged w h n s (h.nodes i).promised (above n.promised s e)))
    (λ e. stays w h i)

stage_cases : (n : ReplicaState) (s : ℕ) (batch : List Record) → (replica_after n (Stage s batch) ≡ n)
    ⊎ ((s ≡ n.promised) × (n.adopted ≢ s) × (first_id batch ≡ next_staged n)
    × (replica_after n (Stage s batch) ≡ record n { staged = n.staged ++ batch }))
stage_cases n s batch = grind (arith, nat_tests)

slices_join_some : (xs ys zs : List Record) (at : ℕ) → IsSlice xs at zs → IsSlice ys (at + length xs) zs → IsSlice (xs ++ ys) at zs
slices_join_some xs ys zs at f g = record {
  fits = (let a = f.fits in let b = g.fits in grind (arith, common_steps));
  same = λ i d lt. grind (arith, places, f.same, g.same);
}

slices_join : (xs ys zs : List Record) (at : ℕ) → (0 < length xs → IsSlice xs at zs) → IsSlice ys (at + length xs) zs → IsSlice (xs ++ ys) at zs
slices_join [] ys zs at f g = subst (λ (k : ℕ). IsSlice ys k zs) (omega arith) g
slices_join (x ∷ xs) ys zs at f g = slices_join_some (x ∷ xs) ys zs at (f (omega arith)) g

stage_staged : (w : WorldState) → Holds w → (n : ReplicaState) (s : ℕ) (batch : List Record) → StageWarrant w s batch → s ≡ n.promised
    → n.adopted ≢ s → first_id batch ≡ next_staged n → StagedFacts w n
    → StagedFacts w (record n { staged = n.staged ++ batch })
stage_staged w h n s batch f at ne fits g = record {
  none = λ e. absurd (ne (e ∙ sym at));
  chosen = λ some. rw (← at) f.chosen;
  slice = λ some. slices_join n.staged batch (chosen_log w n.promised) n.low g.slice
      (rw (← at) (subst (λ (k : ℕ). IsSlice batch k (chosen_log w s)) (omega arith) f.part.slice));
}

pub stage_step : (w : WorldState) → Holds w → (i s : ℕ) (batch : List Record) → StageWarrant w s batch
    → NodeStep w i (replica_after (w.nodes i) (Stage s batch))
stage_step w h i s batch f =
    let n = w.nodes i in
    elim (stage_cases n s batch) [
      | inl e ↦ subst (NodeStep w i) (sym e) (stays w h i)
      | inr e ↦ subst (NodeStep w i) (sym e.3)
          (restaged w h i (record n { staged = n.staged ++ batch }) (omega arith) refl refl refl (stage_staged w h n s batch f e.0 e.1 e.2 (h.staged i)))
    ]

lower_cases : (n : ReplicaState) (s k : ℕ) → (replica_after n (Low s k) ≡ n)
    ⊎ ((s ≡ n.promised) × (n.adopted ≡ s) × (k ≤ length n.log) × (replica_after n (Low s k) ≡ record n { low = k }))
lower_cases n s k = grind (arith, nat_tests)

nothing_staged : (w : WorldState) (n m : ReplicaState) → StagedFacts w n → n.adopted ≡ n.promised → m.staged ≡ n.staged → StagedFacts w m
nothing_staged w n m f e same =
    let none : m.staged ≡ [] = same ∙ f.none e in
    let empty : length m.staged ≡ 0 = ap (λ (l : List Record). length l) none in
    record { none = λ e'. none; chosen = λ some. absurd (omega arith); slice = λ some. absurd (omega arith) }

pub low_step : (w : WorldState) → Holds w → (i s k : ℕ) → IsCommitted w s k → NodeStep w i (replica_after (w.nodes i) (Low s k))
low_step w h i s k c =
    let n = w.nodes i in
    elim (lower_cases n s k) [
      | inl e ↦ subst (NodeStep w i) (sym e) (stays w h i)
      | inr e ↦ subst (NodeStep w i) (sym e.3) (record {
        promised = omega arith;
        facts = regrown w.books w.votes i n (record n { low = k }) (h.nodes i) refl (h.nodes i).promised (omega arith) (h.nodes i).front;
        came = came_of w h i;
        same = λ lt. (refl, refl);
        low = record { fits = e.2; committed = λ some. (s, k, c, (let a = e.1 in omega arith), (omega arith)) };
        staged = nothing_staged w n (record n { low = k }) (h.staged i) (e.1 ∙ e.0) refl;
      })
    ]

pub append_step : (w : WorldState) → Holds w → (i s : ℕ) (batch : List Record) → AppendWarrant w s batch
    → NodeStep w i (replica_after (w.nodes i) (Append s batch))
append_step w h i s batch f =
    let n = w.nodes i in
    elim (append_cases n s batch) [
      | inl e ↦ subst (NodeStep w i) (sym e) (stays w h i)
      | inr e ↦ subst (NodeStep w i) (sym e.3) (record {
        promised = omega arith;
        facts = regrown w.books w.votes i n (record n { log = grown n.log batch }) (h.nodes i) refl (h.nodes i).promised (grown_longer n.log batch)
            (grown_front n.log batch (w.books n.adopted).log (h.nodes i).front e.2 (rw e.1 f.part));
        came = came_of w h i;
        same = λ lt. absurd (let a = e.0 in let b = e.1 in omega arith);
        low = record { fits = le_trans (h.lows i).fits (grown_longer n.log batch); committed = (h.lows i).committed };
        staged = nothing_staged w n (record n { log = grown n.log batch }) (h.staged i) (e.1 ∙ e.0) refl;
      })
    ]

same_reads : (k : ℕ) (xs ys : List Record) → take k xs ≡ take k ys → (i : ℕ) (d : Record) → i < k → get_or xs i d ≡ get_or ys i d
same_reads k xs ys e i d lt = sym (get_or-take k xs i d lt) ∙ ap (λ (l : List Record). get_or l i d) e ∙ get_or-take k ys i d lt

-- the records that a node keeps below its low mark are those of each later book
low_reads : (w : WorldState) → Holds w → (i s : ℕ) → (w.nodes i).adopted ≤ s → (w.books s).repaired ≡ true
    → (k : ℕ) (d : Record) → k < (w.nodes i).low → get_or (w.nodes i).log k d ≡ get_or (w.books s).log k d
low_reads w h i s le came k d lt =
    let n = w.nodes i in
    let f = h.nodes i in
    let c = (h.lows i).committed (omega arith) in
    let fits = (h.lows i).fits in
    let some = c.2.some in
    let own : (w.books n.adopted).repaired ≡ true = came_of w h i (omega (arith, c.3)) in
    f.front.same k d (omega arith)
    ∙ sym (same_reads c.1 (w.books c.0).log (w.books n.adopted).log (committed_in w h c.0 c.1 n.adopted c.2 c.3 own).0 k d (omega (arith, c.4)))
    ∙ same_reads c.1 (w.books c.0).log (w.books s).log (committed_in w h c.0 c.1 s c.2 (omega (arith, c.3)) came).0 k d (omega (arith, c.4))

slice_of_take_some : (xs : List Record) (at k : ℕ) (ys : List Record) → at + length xs ≤ length ys → IsSlice xs at (take k ys) → IsSlice xs at ys
slice_of_take_some xs at k ys le f = record {
  fits = le;
  same = λ i d lt. f.same i d lt ∙ get_or-take k ys (at + i) d (let fits = f.fits in let e = length-take k ys in omega arith);
}

slice_of_take : (xs : List Record) (at k : ℕ) (ys : List Record) → at + length xs ≤ length ys → (0 < length xs → IsSlice xs at (take k ys))
    → IsSlice xs at ys
slice_of_take [] at k ys le f = record { fits = le; same = λ i d lt. absurd (omega arith) }
slice_of_take (x ∷ xs) at k ys le f = slice_of_take_some (x ∷ xs) at k ys le (f (omega arith))

-- what is staged, in the book
staged_slice : (w : WorldState) → Holds w → (i s len : ℕ) → AdoptWarrant w s len → s ≡ (w.nodes i).promised
    → len ≡ (w.nodes i).low + length (w.nodes i).staged → IsSlice (w.nodes i).staged (w.nodes i).low (w.books s).log
staged_slice w h i s len f at fits =
    let n = w.nodes i in
    let r = h.repaired s f.repaired in
    let kept = h.kept s r.0 r.1 f.repaired in
    let chosen_len : len ≡ r.0.length = f.chosen_len ∙ ap length_of r.1 in
    let log : chosen_log w s ≡ take r.0.length (w.books s).log = ap (chosen_from w.books) r.1 ∙ sym kept.same in
    let long = kept.long in
    slice_of_take n.staged n.low r.0.length (w.books s).log (omega arith)
    (λ some. subst (λ (l : List Record). IsSlice n.staged n.low l) (ap (chosen_log w) (sym at) ∙ log) ((h.staged i).slice some))

adopted_node : ReplicaState → ℕ → ReplicaState
adopted_node n s = record n { adopted = s; log = take n.low n.log ++ n.staged; staged = [] }

adopt_taken_step : (w : WorldState) → Holds w → (i s len : ℕ) → AdoptWarrant w s len → s ≡ (w.nodes i).promised → (w.nodes i).adopted ≢ s
    → len ≡ (w.nodes i).low + length (w.nodes i).staged
    → NodeStep w i (adopted_node (w.nodes i) s)
unfolding adopted_node
adopt_taken_step w h i s len f at ne fits =
    let n = w.nodes i in
    let m = record n { adopted = s; log = take n.low n.log ++ n.staged; staged = [] } in
    let facts = h.nodes i in
    let low = h.lows i in
    let less : n.adopted < s = (let p = facts.promised in omega arith) in
    let slice = staged_slice w h i s len f at fits in
    let l = joined_length n.log n.staged n.low low.fits in
    record {
      promised = omega arith;
      facts = adopted_anew w.books w.votes i n m facts less (omega arith) (let b = f.chosen_len in omega arith)
          (adopted_front n.log n.staged (w.books s).log n.low low.fits (let a = slice.fits in omega arith) (low_reads w h i s (omega arith) f.repaired) slice);
      came = λ some. f.repaired;
      same = λ lt. absurd (omega arith);
      low = record { fits = omega arith; committed = λ some. (let c = low.committed some in (c.0, c.1, c.2, omega (arith, c.3), c.4)) };
      staged = record { none = λ e. refl; chosen = λ some. absurd (omega arith); slice = λ some. absurd (omega arith) };
    }

pub adopt_step : (w : WorldState) → Holds w → (i s len : ℕ) → AdoptWarrant w s len → NodeStep w i (replica_after (w.nodes i) (Adopt s len))
unfolding adopted_node
adopt_step w h i s len f =
    elim (adopt_cases (w.nodes i) s len) [
      | inl e ↦ subst (NodeStep w i) (sym e) (stays w h i)
      | inr e ↦ subst (NodeStep w i) (sym e.3) (adopt_taken_step w h i s len f e.0 e.1 e.2)
    ]

pub request_step : (w : WorldState) → Holds w → (i : ℕ) (m : ToNode) → AskWarrant w i m → NodeStep w i (replica_after (w.nodes i) m)
request_step w h i (Open s) f = open_step w h i s
request_step w h i (Fetch s from most) f = stays w h i
request_step w h i (Stage s batch) f = stage_step w h i s batch f
request_step w h i (Adopt s len) f = adopt_step w h i s len f
request_step w h i (Append s batch) f = append_step w h i s batch f
request_step w h i (Low s k) f = low_step w h i s k f

-- what is staged may be lost
pub crash_step : (w : WorldState) → Holds w → (i : ℕ) → NodeStep w i (record (w.nodes i) { staged = [] })
crash_step w h i =
    restaged w h i (record (w.nodes i) { staged = [] }) (omega arith) refl refl refl
    (record { none = λ e. refl; chosen = λ some. absurd (omega arith); slice = λ some. absurd (omega arith) })
