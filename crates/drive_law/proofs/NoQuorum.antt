-- A recovery that ends before the server runs.
use Rattle.std.proofs.Common.{◌≡◌, ℕ, zero, suc, ◌-◌, ◌<◌, ◌≤◌, nat_lt, nat_le, ◌==◌, not, if◌then◌else◌, Bool, true, false, List, [], ◌∷◌, length, take, Option, Some, None, refl, sym, ap, subst, ◌∙◌, inl, inr, arith}
use Rattle.std.proofs.lemmas.Bool.Decides.{nat_tests}
use Rattle.io_core.specs.Links.{Exchange}
use Rattle.proto_model.specs.declared.message.Report.{Report}
use Rattle.proto_model.specs.declared.message.Phase.{Phase}
use Rattle.proto_model.specs.declared.message.Phase.TheVariants.{Opening, Fetching, Repairing}
use Rattle.proto_model.specs.declared.message.ToNode.{ToNode}
use Rattle.proto_model.specs.Quorums.{count, quorum}
use Rattle.proto_model.specs.Choices.{recovery_choice, best, better, beats}
use Rattle.proto_model.specs.Servers.{Config, ServerState, drawn, chosen_len, chosen, is_of}
use Rattle.proto_model.specs.Sending.{next_message, message_in, append_message, repair_message}
use Rattle.proto_model.proofs.TableLemmas.{either}
use Rattle.server_loop.specs.declared.driving.Out.{Out}
use Rattle.server_loop.specs.Drives.{Driving, driving, IsDrive, is_in, is_closed}
use Rattle.drive_law.specs.Causes.{IsYoung, AreWithin, FewTakePart, ChosenIsOut, IsRecovery, NoQuorumHasItsCause}
use Rattle.drive_law.proofs.Kept.{Lasts, round_keeps, rounds_keep}
use Rattle.drive_law.proofs.Quiet.{IsQuiet, quiet, if_none, adopted_row, some_repair, counts}
use Rattle.drive_law.proofs.Young.{young_after, drawn_young, some_quorum}

young_lasts : (c : Config) → Lasts c (IsYoung c)
young_lasts c sv i m some low ok = young_after c sv i m ok some low

-- ---- who takes part has done what the phase awaits

in_phase : (P : ℕ → Bool) (c : Config) (d : Driving) → ((i : ℕ) → next_message c d.state i ≡ None → P i ≡ true) → (i : ℕ) → IsQuiet c d i → is_in d.outs i ≡ true → P i ≡ true
in_phase P c d done i (inl out) is = absurd (let e : false ≡ true = sym out ∙ is in cc)
in_phase P c d done i (inr silent) is = done i silent

message_at : (c : Config) (sv : ServerState) (i : ℕ) (phase : Phase) → sv.phase ≡ phase → next_message c sv i ≡ None → message_in phase c sv i ≡ None
message_at c sv i phase is silent = subst (λ (p : Phase). message_in p c sv i ≡ None) is silent

reported_row : (b : Bool) (x : ToNode) → (if b then None else Some x) ≡ None → b ≡ true
reported_row true x h = refl
reported_row false x h = absurd (let e : Some x ≡ None = h in cc)

opening_done : (c : Config) (sv : ServerState) → sv.phase ≡ Opening → (i : ℕ) → next_message c sv i ≡ None → sv.reported i ≡ true
opening_done c sv is i silent = reported_row (sv.reported i) _ (message_at c sv i Opening is silent)

repairing_done : (c : Config) (sv : ServerState) → sv.phase ≡ Repairing → (i : ℕ) → next_message c sv i ≡ None → sv.adopted i ≡ true
repairing_done c sv is i silent =
    let rest = (if_none (not (sv.reported i)) _ _ (message_at c sv i Repairing is silent)).1 in
    (adopted_row (sv.adopted i) (append_message c sv i) (repair_message c sv i) rest (some_repair (nat_lt (sv.staged i) (chosen_len c sv)) _ _)).0

few : (P : ℕ → Bool) (c : Config) (d : Driving) → ((i : ℕ) → next_message c d.state i ≡ None → P i ≡ true) → ((i : ℕ) → 1 ≤ i → i ≤ c.nodes → IsQuiet c d i) → count P c.nodes < quorum c.nodes → FewTakePart c d
few P c d done each below =
    let less = counts (is_in d.outs) P c.nodes (λ i some low. in_phase P c d done i (each i some low)) in
    omega (arith, less, below)

-- ---- the chosen node

record IsNodeWithin (n : ℕ) (r : Report) : Type 0 where
  pub some : 1 ≤ r.node
  pub low : r.node ≤ n

best_within : (n : ℕ) (r : Report) (reports : List Report) → IsNodeWithin n r → AreWithin n reports → IsNodeWithin n (best r reports)
best_within n r [] one all = one
best_within n r (x ∷ reports) one all = best_within n (better r x) reports (either (IsNodeWithin n) (beats x r) x r (record { some = all.0; low = all.1 }) one) all.2

within_take : (n k : ℕ) (reports : List Report) → AreWithin n reports → AreWithin n (take k reports)
within_take n zero reports all = tt
within_take n (suc k) [] all = tt
within_take n (suc k) (r ∷ reports) all = (all.0, all.1, within_take n k reports all.2)

record HasChoice (n q : ℕ) (reports : List Report) : Type 0 where
  pub choice : Report
  pub is : recovery_choice q reports ≡ Some choice
  pub within : IsNodeWithin n choice

choice_row : (b : Bool) (q m : ℕ) (x : Report) → nat_le q m ≡ b → q ≤ m → (if b then Some x else None) ≡ Some x
choice_row true q m x e h = refl
choice_row false q m x e h = absurd (let f : m < q = grind (arith, nat_tests, e) in omega (arith, f, h))

has_choice : (n q : ℕ) (reports : List Report) → 1 ≤ q → q ≤ length reports → AreWithin n reports → HasChoice n q reports
has_choice n q [] some enough all = absurd (omega (arith, some, enough))
has_choice n q (r ∷ reports) some enough all = record {
  choice = best r (take (q - 1) reports);
  is = choice_row (nat_le q (suc (length reports))) q (suc (length reports)) _ refl enough;
  within = best_within n r (take (q - 1) reports) (record { some = all.0; low = all.1 }) (within_take n (q - 1) reports all.2);
}

same_node : (i : ℕ) → (i == i) ≡ true
same_node i = grind (arith, nat_tests)

asked_chosen : (c : Config) (sv : ServerState) (r : Report) → sv.phase ≡ Fetching → chosen c sv ≡ Some r → next_message c sv r.node ≡ None → ⊥
asked_chosen c sv r is choice silent =
    let rest = (if_none (not (sv.reported r.node)) _ _ (message_at c sv r.node Fetching is silent)).1 in
    let other = (if_none (is_of r.node (chosen c sv)) _ None rest).0 in
    let same : is_of r.node (chosen c sv) ≡ true = subst (λ (o : Option Report). is_of r.node o ≡ true) (sym choice) (same_node r.node) in
    let e : false ≡ true = sym other ∙ same in
    cc

chosen_out : (c : Config) (d : Driving) (r : Report) → d.state.phase ≡ Fetching → chosen c d.state ≡ Some r → IsQuiet c d r.node → is_in d.outs r.node ≡ false
chosen_out c d r is choice (inl out) = out
chosen_out c d r is choice (inr silent) = absurd (asked_chosen c d.state r is choice silent)

-- ---- all

-- a drive that did not close the server
record EndsQuietly (c : Config) (d : Driving) : Type 0 where
  pub young : IsYoung c d.state
  pub each : (i : ℕ) → 1 ≤ i → i ≤ c.nodes → IsQuiet c d i

quiet_drive : (c : Config) (ports : List ℕ) (a d : Driving) → IsYoung c a.state → IsDrive c ports a d → is_closed d.state.phase ≡ false → EndsQuietly c d
quiet_drive c ports a d ok drive works = elim drive.ends [
  | inl silent ↦
      (let up = quiet c ports drive.before c.nodes false d silent refl in
      record {
        young = round_keeps c (IsYoung c) ports drive.before c.nodes false d (young_lasts c) silent (omega arith) (rounds_keep c (IsYoung c) ports a drive.before (young_lasts c) drive.rounds ok);
        each = λ i some low. subst (λ (x : Driving). IsQuiet c x i) (sym up.same) (up.each i some low);
      })
  | inr closed ↦ absurd (let e : false ≡ true = sym works ∙ closed.closed in cc)
]

fetched_out : (c : Config) (d : Driving) → d.state.phase ≡ Fetching → EndsQuietly c d → ChosenIsOut c d
fetched_out c d is ends =
    let choice = has_choice c.nodes (quorum c.nodes) d.state.reports (some_quorum c.nodes) (ends.young.fetching is) ends.young.within in
    (choice.choice, choice.is, chosen_out c d choice.choice is choice.is (ends.each choice.choice.node choice.within.some choice.within.low))

recovery_ends : (c : Config) (ports : List ℕ) (s : ℕ) (outs : List Out) (past : List Exchange) (d : Driving) → IsRecovery c ports s outs past d → is_closed d.state.phase ≡ false → EndsQuietly c d
recovery_ends c ports s outs past d drive works = quiet_drive c ports (driving (drawn s) outs past) d (drawn_young c s) drive works

pub no_quorum : NoQuorumHasItsCause
no_quorum = record {
  opening = λ c ports s outs past d drive is.
      let ends = recovery_ends c ports s outs past d drive (ap is_closed is) in
      let e = ends.young.counted in
      let f = ends.young.opening is in
      few d.state.reported c d (opening_done c d.state is) ends.each (omega (arith, e, f));
  fetching = λ c ports s outs past d drive is. fetched_out c d is (recovery_ends c ports s outs past d drive (ap is_closed is));
  repairing = λ c ports s outs past d drive is.
      let ends = recovery_ends c ports s outs past d drive (ap is_closed is) in
      few d.state.adopted c d (repairing_done c d.state is) ends.each (ends.young.repairing is);
}
