-- A server that recovers: what its phase tells of the nodes.
use Rattle.std.proofs.Common.{◌≡◌, ◌≢◌, ℕ, zero, suc, ◌+◌, ◌-◌, ◌<◌, ◌≤◌, ◌⊎◌, nat_lt, nat_le, ◌==◌, ◌&&◌, not, if◌then◌else◌, Bool, true, false, List, [], ◌∷◌, ◌++◌, length, Option, Some, None, refl, ap, sym, subst, ◌∙◌, inl, inr, arith, length-append}
use Rattle.std.proofs.lemmas.Bool.Decides.{nat_tests}
use Rattle.std.proofs.lemmas.Bool.{cases_eq}
use Rattle.tx_model.specs.declared.record.Record.{Record}
use Rattle.tx_model.specs.Records.{first_id}
use Rattle.proto_model.specs.declared.message.Report.{Report}
use Rattle.proto_model.specs.declared.message.Phase.{Phase}
use Rattle.proto_model.specs.declared.message.Phase.TheVariants.{Idle, Opening, Fetching, Repairing, Running, Closed}
use Rattle.proto_model.specs.declared.message.FromNode.{FromNode}
use Rattle.proto_model.specs.declared.message.FromNode.TheVariants.{Opened, Stale, Unopened, Records, Staged, StageAt, Adopted, Acked, Gap, NotAdopted, LowSet}
use Rattle.proto_model.specs.Tables.{put}
use Rattle.proto_model.specs.Quorums.{count, quorum}
use Rattle.proto_model.specs.Choices.{recovery_choice}
use Rattle.proto_model.specs.Servers.{Config, ServerState, drawn, chosen_len, chosen, commit_mark, is_of, is_fetching, is_heard, has_fetched, phase_reported, with_choice, reported_by, takes_records, takes_ack, answered, begun, acked_by, after_records, after_staged, after_ack, after_low, after_stale, received, server_after}
use Rattle.proto_model.proofs.TableLemmas.{either, if_each}
use Rattle.session_recovery.proofs.Choosing.{chosen_among}
use Rattle.drive_law.specs.Causes.{IsYoung, AreWithin, is_early}

-- ---- tests

and_true : (a b : Bool) → (a && b) ≡ true → (a ≡ true) × (b ≡ true)
and_true true b h = (refl, h)
and_true false b h = absurd (let e : false ≡ true = h in cc)

not_true : (a : Bool) → not a ≡ true → a ≡ false
not_true false h = refl
not_true true h = absurd (let e : false ≡ true = h in cc)

fetching_row : (phase : Phase) → is_fetching phase ≡ true → phase ≡ Fetching
fetching_row Fetching h = refl
fetching_row Idle h = absurd (let e : false ≡ true = h in cc)
fetching_row Opening h = absurd (let e : false ≡ true = h in cc)
fetching_row Repairing h = absurd (let e : false ≡ true = h in cc)
fetching_row Running h = absurd (let e : false ≡ true = h in cc)
fetching_row (Closed p) h = absurd (let e : false ≡ true = h in cc)

early_repair : (phase : Phase) → has_fetched phase ≡ true → is_early phase ≡ true → ⊥
early_repair Repairing h e = let f : false ≡ true = e in cc
early_repair Running h e = let f : false ≡ true = e in cc
early_repair Idle h e = let f : false ≡ true = h in cc
early_repair Opening h e = let f : false ≡ true = h in cc
early_repair Fetching h e = let f : false ≡ true = h in cc
early_repair (Closed p) h e = let f : false ≡ true = h in cc

-- ---- counting

count_none : (p : ℕ → Bool) (n : ℕ) → ((i : ℕ) → p i ≡ false) → count p n ≡ 0
count_none p zero h = refl
count_none p (suc n) h = let e = h (suc n) in let rest = count_none p n h in rw e (omega (arith, rest))

put_there : (p : ℕ → Bool) (i k : ℕ) → k ≢ i → put p i true k ≡ p k
put_there p i k ne = grind (arith, nat_tests)

put_here : (p : ℕ → Bool) (i : ℕ) → put p i true i ≡ true
put_here p i = grind (arith, nat_tests)

count_above : (p : ℕ → Bool) (i n : ℕ) → n < i → count (put p i true) n ≡ count p n
count_above p i zero h = refl
count_above p i (suc n) h =
    let other : suc n ≢ i = omega (arith, h) in
    let e = put_there p i (suc n) other in
    let rest = count_above p i n (omega (arith, h)) in
    rw (e, rest) refl

count_put : (p : ℕ → Bool) (i n : ℕ) → 1 ≤ i → i ≤ n → p i ≡ false → count (put p i true) n ≡ count p n + 1
count_put p i zero some low new = absurd (omega (arith, some, low))
count_put p i (suc n) some low new = elim (cases_eq i (suc n)) [
  | inl here ↦
      (let e : put p i true (suc n) ≡ true = subst (λ (k : ℕ). put p i true k ≡ true) here (put_here p i) in
      let f : p (suc n) ≡ false = subst (λ (k : ℕ). p k ≡ false) here new in
      let rest = count_above p i n (omega (arith, here)) in
      rw (e, f, rest) (omega arith))
  | inr other ↦
      (let ne : suc n ≢ i = omega (arith, other) in
      let e = put_there p i (suc n) ne in
      let rest = count_put p i n some (omega (arith, low, other)) new in
      rw (e, rest) (omega arith))
]

-- ---- reports

within_append : (n : ℕ) (reports : List Report) (r : Report) → AreWithin n reports → 1 ≤ r.node → r.node ≤ n → AreWithin n (reports ++ r ∷ [])
within_append n [] r all some low = (some, low, tt)
within_append n (x ∷ reports) r all some low = (all.0, all.1, within_append n reports r all.2 some low)

none_row : (b : Bool) (q m : ℕ) (x : Report) → nat_le q m ≡ b → (if b then Some x else None) ≡ None → m < q
none_row true q m x e h = absurd (let f : Some x ≡ None = h in cc)
none_row false q m x e h = grind (arith, nat_tests, e)

none_few : (q : ℕ) (reports : List Report) → 1 ≤ q → recovery_choice q reports ≡ None → length reports < q
none_few q [] some h = omega (arith, some)
none_few q (r ∷ reports) some h = none_row (nat_le q (suc (length reports))) q (suc (length reports)) _ refl h

opening_row : (b : Bool) → (if b then Repairing else Fetching) ≡ Opening → ⊥
opening_row true h = let e : Repairing ≡ Opening = h in cc
opening_row false h = let e : Fetching ≡ Opening = h in cc

opening_none : (choice : Option Report) → phase_reported choice Opening ≡ Opening → choice ≡ None
opening_none None h = refl
opening_none (Some r) h = absurd (opening_row (r.length == 0) h)

opening_few : (q : ℕ) (reports : List Report) (phase : Phase) → 1 ≤ q → phase_reported (recovery_choice q reports) phase ≡ Opening → length reports < q
opening_few q reports Opening some h = none_few q reports some (opening_none (recovery_choice q reports) h)
opening_few q reports Idle some h = absurd (let e : Idle ≡ Opening = h in cc)
opening_few q reports Fetching some h = absurd (let e : Fetching ≡ Opening = h in cc)
opening_few q reports Repairing some h = absurd (let e : Repairing ≡ Opening = h in cc)
opening_few q reports Running some h = absurd (let e : Running ≡ Opening = h in cc)
opening_few q reports (Closed p) some h = absurd (let e : Closed p ≡ Opening = h in cc)

some_chose : (q : ℕ) (reports : List Report) (choice : Option Report) → recovery_choice q reports ≡ choice → phase_reported choice Opening ≡ Fetching → q ≤ length reports
some_chose q reports None e h = absurd (let f : Opening ≡ Fetching = h in cc)
some_chose q reports (Some r) e h = chosen_among q reports r e

fetching_chose : (q : ℕ) (reports : List Report) (phase : Phase) → (phase ≡ Fetching → q ≤ length reports) → phase_reported (recovery_choice q reports) phase ≡ Fetching → q ≤ length reports
fetching_chose q reports Opening before h = some_chose q reports (recovery_choice q reports) refl h
fetching_chose q reports Fetching before h = before refl
fetching_chose q reports Idle before h = before h
fetching_chose q reports Repairing before h = before h
fetching_chose q reports Running before h = before h
fetching_chose q reports (Closed p) before h = before h

early_before : (choice : Option Report) (phase : Phase) → is_early (phase_reported choice phase) ≡ true → is_early phase ≡ true
early_before choice Opening h = refl
early_before choice Idle h = h
early_before choice Fetching h = h
early_before choice Repairing h = h
early_before choice Running h = h
early_before choice (Closed p) h = h

repairing_before : (choice : Option Report) (phase : Phase) → phase_reported choice phase ≡ Repairing → (phase ≡ Opening) ⊎ (phase ≡ Repairing)
repairing_before choice Opening h = inl refl
repairing_before choice Repairing h = inr refl
repairing_before choice Idle h = absurd (let e : Idle ≡ Repairing = h in cc)
repairing_before choice Fetching h = absurd (let e : Fetching ≡ Repairing = h in cc)
repairing_before choice Running h = absurd (let e : Running ≡ Repairing = h in cc)
repairing_before choice (Closed p) h = absurd (let e : Closed p ≡ Repairing = h in cc)

pub some_quorum : (n : ℕ) → 1 ≤ quorum n
some_quorum n = omega arith

few_adopted : (c : Config) (sv : ServerState) → ((i : ℕ) → sv.adopted i ≡ false) → count sv.adopted c.nodes < quorum c.nodes
few_adopted c sv none = let e = count_none sv.adopted c.nodes none in omega (arith, e)

reported_young : (c : Config) (sv : ServerState) (r : Report) → IsYoung c sv → 1 ≤ r.node → r.node ≤ c.nodes → sv.reported r.node ≡ false → IsYoung c (with_choice c (reported_by sv r))
reported_young c sv r ok some low new =
    let reports : List Report = sv.reports ++ r ∷ [] in
    let q : ℕ = quorum c.nodes in
    let longer : length reports ≡ length sv.reports + 1 = length-append sv.reports (r ∷ []) in
    let counted = count_put sv.reported r.node c.nodes some low new in
    record {
      counted = counted ∙ (ap (λ n. n + 1) ok.counted ∙ sym longer);
      within = within_append c.nodes sv.reports r ok.within some low;
      opening = λ p. opening_few q reports sv.phase (some_quorum c.nodes) p;
      fetching = λ p. fetching_chose q reports sv.phase (λ e. let x = ok.fetching e in omega (arith, x, longer)) p;
      fresh = λ p. ok.fresh (early_before (recovery_choice q reports) sv.phase p);
      repairing = λ p. elim (repairing_before (recovery_choice q reports) sv.phase p) [ inl opening ↦ few_adopted c sv (ok.fresh (ap is_early opening)) | inr repairing ↦ ok.repairing repairing ];
    }

-- ---- the other replies

fetched_row : (b : Bool) → (if b then Repairing else Fetching) ≡ Opening → ⊥
fetched_row true h = let e : Repairing ≡ Opening = h in cc
fetched_row false h = let e : Fetching ≡ Opening = h in cc

records_young : (c : Config) (sv : ServerState) (i : ℕ) (batch : List Record) → IsYoung c sv → IsYoung c (after_records c sv i batch)
records_young c sv i batch ok =
    if_each (IsYoung c) (takes_records c sv i (first_id batch)) _ sv
    (λ takes.
    let fetching = fetching_row sv.phase (and_true (is_fetching sv.phase) (is_of i (chosen c sv) && first_id batch == length sv.log + 1) takes).0 in
    record {
      counted = ok.counted;
      within = ok.within;
      opening = λ p. absurd (fetched_row _ p);
      fetching = λ p. ok.fetching fetching;
      fresh = λ p. ok.fresh (ap is_early fetching);
      repairing = λ p. few_adopted c sv (ok.fresh (ap is_early fetching));
    })
    (λ _. ok)

running_or : (b : Bool) (phase other : Phase) → (Running ≡ other → ⊥) → (if b then Running else phase) ≡ other → (b ≡ false) × (phase ≡ other)
running_or true phase other not h = absurd (not h)
running_or false phase other not h = (refl, h)

early_or : (b : Bool) (phase : Phase) → is_early (if b then Running else phase) ≡ true → is_early phase ≡ true
early_or true phase h = absurd (let e : false ≡ true = h in cc)
early_or false phase h = h

ack_young : (c : Config) (sv : ServerState) (i len : ℕ) → IsYoung c sv → IsYoung c (after_ack c sv i len)
ack_young c sv i len ok =
    if_each (IsYoung c) (takes_ack c sv i len) (answered c (begun c (acked_by sv i len))) sv
    (λ takes.
    let repairs = (and_true (has_fetched sv.phase) (sv.reported i && (nat_le (chosen_len c sv) len && nat_le len (length sv.log))) takes).0 in
    let n : ℕ = count (put sv.adopted i true) c.nodes in
    let b : Bool = nat_le (quorum c.nodes) n in
    record {
      counted = ok.counted;
      within = ok.within;
      opening = λ p. ok.opening (running_or b sv.phase Opening (λ e. cc) p).1;
      fetching = λ p. ok.fetching (running_or b sv.phase Fetching (λ e. cc) p).1;
      fresh = λ p. absurd (early_repair sv.phase repairs (early_or b sv.phase p));
      repairing = λ p. let few = (running_or b sv.phase Repairing (λ e. cc) p).0 in grind (arith, nat_tests, few);
    })
    (λ _. ok)

same_young : (c : Config) (sv : ServerState) (staged low : ℕ → ℕ) → IsYoung c sv → IsYoung c (record sv { staged = staged; low = low })
same_young c sv staged low ok = record { counted = ok.counted; within = ok.within; opening = ok.opening; fetching = ok.fetching; fresh = ok.fresh; repairing = ok.repairing }

staged_young : (c : Config) (sv : ServerState) (i upto : ℕ) → IsYoung c sv → IsYoung c (after_staged sv i upto)
staged_young c sv i upto ok = either (IsYoung c) (sv.reported i && not (sv.adopted i)) _ sv (same_young c sv (put sv.staged i upto) sv.low ok) ok

low_young : (c : Config) (sv : ServerState) (i low : ℕ) → IsYoung c sv → IsYoung c (after_low c sv i low)
low_young c sv i low ok = either (IsYoung c) (sv.adopted i && nat_le low (commit_mark c sv)) _ sv (same_young c sv sv.staged _ ok) ok

stale_young : (c : Config) (sv : ServerState) (s p : ℕ) → IsYoung c sv → IsYoung c (after_stale sv s p)
stale_young c sv s p ok =
    either (IsYoung c) (nat_lt s p) (record sv { phase = Closed p; waiting = [] }) sv
    (record {
      counted = ok.counted;
      within = ok.within;
      opening = λ q. absurd (let e : Closed p ≡ Opening = q in cc);
      fetching = λ q. absurd (let e : Closed p ≡ Fetching = q in cc);
      fresh = λ q. absurd (let e : false ≡ true = q in cc);
      repairing = λ q. absurd (let e : Closed p ≡ Repairing = q in cc);
    })
    ok

received_young : (c : Config) (sv : ServerState) (i : ℕ) (m : FromNode) → IsYoung c sv → 1 ≤ i → i ≤ c.nodes → IsYoung c (received c sv i m)
received_young c sv i (Opened s adopted low len) ok some in_range =
    let r : Report = record { node = i; adopted = adopted; low = low; length = len } in
    if_each (IsYoung c) (not (sv.reported i) && nat_lt adopted sv.session) (with_choice c (reported_by sv r)) sv
    (λ takes. reported_young c sv r ok some in_range (not_true (sv.reported i) (and_true (not (sv.reported i)) (nat_lt adopted sv.session) takes).0))
    (λ _. ok)
received_young c sv i (Stale s p) ok some low = stale_young c sv s p ok
received_young c sv i (Unopened s p) ok some low = ok
received_young c sv i (Records s batch) ok some low = records_young c sv i batch ok
received_young c sv i (Staged s upto) ok some low = staged_young c sv i upto ok
received_young c sv i (StageAt s next) ok some low = either (IsYoung c) (nat_le 1 next) (after_staged sv i (next - 1)) sv (staged_young c sv i (next - 1) ok) ok
received_young c sv i (Adopted s len) ok some low = ack_young c sv i len ok
received_young c sv i (Acked s len) ok some low = ack_young c sv i len ok
received_young c sv i (Gap s len) ok some low = ok
received_young c sv i (NotAdopted s adopted) ok some low = ok
received_young c sv i (LowSet s k) ok some low = low_young c sv i k ok

pub young_after : (c : Config) (sv : ServerState) (i : ℕ) (m : FromNode) → IsYoung c sv → 1 ≤ i → i ≤ c.nodes → IsYoung c (server_after c sv i m)
young_after c sv i m ok some low = either (IsYoung c) (is_heard sv m) (received c sv i m) sv (received_young c sv i m ok some low) ok

pub drawn_young : (c : Config) (s : ℕ) → IsYoung c (drawn s)
drawn_young c s = record {
  counted = count_none (λ i. false) c.nodes (λ i. refl);
  within = tt;
  opening = λ p. some_quorum c.nodes;
  fetching = λ p. absurd (let e : Opening ≡ Fetching = p in cc);
  fresh = λ p i. refl;
  repairing = λ p. absurd (let e : Opening ≡ Repairing = p in cc);
}
