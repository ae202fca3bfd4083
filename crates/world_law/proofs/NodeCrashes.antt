-- A node that stops within a step takes a step of a node.
use Rattle.std.proofs.Common.{◌≡◌, ℕ, zero, suc, ◌+◌, ◌-◌, ◌≤◌, arith, refl, ap, sym, ◌∙◌, inl, inr, subst, List, [], ◌∷◌, ◌++◌, length, take, drop, append-nil}
use Rattle.proto_model.specs.Replicas.{ReplicaState, grown, replica_after}
use Rattle.proto_model.specs.declared.message.ToNode.{ToNode}
use Rattle.proto_model.specs.declared.message.ToNode.TheVariants.{Append}
use Rattle.world_law.specs.Worlds.{WorldState}
use Rattle.std.proofs.lemmas.Bool.Decides.{nat_tests}
use Rattle.tx_model.specs.Records.{first_id}
use Rattle.tx_model.specs.declared.record.Record.{Record}
use Rattle.world_law.proofs.Invariant.{AppendWarrant, AskWarrant, Holds}
use Rattle.world_law.proofs.Lists.{part_taken}
use Rattle.world_law.proofs.NodeFrame.{NodeStep}
use Rattle.world_law.proofs.NodeSteps.{stays, append_step, request_step}
use Rattle.proto_model.specs.Crashes.{unstaged, IsCut, IsCrashOf}

-- a step, with what is staged lost
unstaged_step : (w : WorldState) (i : ℕ) (m : ReplicaState) → NodeStep w i m → NodeStep w i (unstaged m)
unstaged_step w i m f =
    let facts = f.facts in let low = f.low in
    record {
      promised = f.promised;
      facts = record { promised = facts.promised; front = facts.front; based = facts.based; own = facts.own; above = facts.above; most = facts.most };
      came = f.came;
      same = f.same;
      low = record { fits = low.fits; committed = low.committed };
      staged = record { none = λ e. refl; chosen = λ some. absurd (omega arith); slice = λ some. absurd (omega arith) };
    }

-- a shorter batch is warranted as the whole one is
shorter : (w : WorldState) (s k : ℕ) (batch : List Record) → AppendWarrant w s batch → AppendWarrant w s (take k batch)
shorter w s k batch f = record { some = f.some; repaired = f.repaired; part = part_taken batch (w.books s).log k f.part }

first_taken : (k : ℕ) (batch : List Record) → first_id (take (suc k) batch) ≡ first_id batch
first_taken k [] = refl
first_taken k (r ∷ batch) = refl

taken_nothing : (k : ℕ) → take {A = Record} k [] ≡ []
taken_nothing zero = refl
taken_nothing (suc k) = refl

taken_dropped : (k d j : ℕ) (batch : List Record) → j ≡ d + k → take k (drop d batch) ≡ drop d (take j batch)
taken_dropped k zero j batch e = ap (λ (n : ℕ). take n batch) (let same : k ≡ j = omega (arith, e) in same)
taken_dropped k (suc d) zero batch e = absurd (omega (arith, e))
taken_dropped k (suc d) (suc j) [] e = taken_nothing k
taken_dropped k (suc d) (suc j) (r ∷ batch) e = taken_dropped k d j batch (omega (arith, e))

more_than : (d k : ℕ) → d + suc k ≡ suc (d + k)
more_than d k = omega arith

-- of some new records a prefix: what a shorter batch makes of the node
cut_log : (log batch : List Record) (k : ℕ)
    → log ++ take (suc k) (drop (length log + 1 - first_id batch) batch) ≡ grown log (take (length log + 1 - first_id batch + suc k) batch)
cut_log log batch k =
    let d = length log + 1 - first_id batch in
    let e : first_id (take (d + suc k) batch) ≡ first_id batch = ap (λ (j : ℕ). first_id (take j batch)) (more_than d k) ∙ first_taken (d + k) batch in
    ap (λ (l : List Record). log ++ l) (taken_dropped (suc k) d (d + suc k) batch refl) ∙ ap
    (λ (j : ℕ). log ++ drop (length log + 1 - j) (take (d + suc k) batch)) (sym e)

append_takes : (n : ReplicaState) (s : ℕ) (batch : List Record) → s ≡ n.promised → n.adopted ≡ s → first_id batch ≤ length n.log + 1
    → replica_after n (Append s batch) ≡ record n { log = grown n.log batch }
append_takes n s batch at e le = grind (arith, nat_tests)

cut_step : (w : WorldState) → Holds w → (i s : ℕ) (batch : List Record) (k : ℕ) → AppendWarrant w s batch → s ≡ (w.nodes i).promised
    → (w.nodes i).adopted ≡ s → first_id batch ≤ length (w.nodes i).log + 1
    → NodeStep w i (unstaged (record (w.nodes i) { log = (w.nodes i).log ++ take k (drop (length (w.nodes i).log + 1 - first_id batch) batch) }))
cut_step w h i s batch zero f at e le =
    subst (λ (l : List Record). NodeStep w i (unstaged (record (w.nodes i) { log = l }))) (sym (append-nil (w.nodes i).log))
    (unstaged_step w i (w.nodes i) (stays w h i))
cut_step w h i s batch (suc k) f at e le =
    let n = w.nodes i in
    let short = take (length n.log + 1 - first_id batch + suc k) batch in
    let first : first_id short ≡ first_id batch = ap (λ (j : ℕ). first_id (take j batch)) (more_than (length n.log + 1 - first_id batch) k) ∙ first_taken
    (length n.log + 1 - first_id batch + k) batch in
    let step = unstaged_step w i (replica_after n (Append s short)) (append_step w h i s short (shorter w s (length n.log + 1 - first_id batch + suc k) batch f)) in
    let taken = append_takes n s short at e (omega (arith, first, le)) in
    subst (λ (l : List Record). NodeStep w i (unstaged (record n { log = l }))) (sym (cut_log n.log batch k))
    (subst (λ (m : ReplicaState). NodeStep w i (unstaged m)) taken step)

cut_append : (w : WorldState) → Holds w → (i : ℕ) (m : ToNode) (after : ReplicaState) → AskWarrant w i m → IsCut (w.nodes i) m after
    → NodeStep w i after
cut_append w h i (Append s batch) after f c = subst (NodeStep w i) (sym c.new_is) (cut_step w h i s batch c.kept f c.promised c.adopted c.goes_on)
cut_append w h i m after f c = absurd c

pub crashed_step : (w : WorldState) → Holds w → (i : ℕ) (m : ToNode) (after : ReplicaState) → AskWarrant w i m → IsCrashOf (w.nodes i) m after
    → NodeStep w i after
crashed_step w h i m after f (inl e) = subst (NodeStep w i) (sym e) (unstaged_step w i (w.nodes i) (stays w h i))
crashed_step w h i m after f (inr (inl e)) = subst (NodeStep w i) (sym e) (unstaged_step w i (replica_after (w.nodes i) m) (request_step w h i m f))
crashed_step w h i m after f (inr (inr c)) = cut_append w h i m after f c
