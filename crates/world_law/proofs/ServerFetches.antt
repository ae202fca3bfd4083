-- Records of the chosen log.
use Rattle.std.proofs.Common.{◌≡◌, ℕ, ◌+◌, ◌-◌, ◌≤◌, ◌==◌, ◌&&◌, true, false, arith, refl, ap, sym, ◌∙◌, subst, List, [], ◌++◌, length, take, take-take, take_all, Option, Some, true≢false}
use Rattle.proto_model.specs.Servers.{Config, ServerState, length_of, chosen, chosen_len, is_of, is_fetching, takes_records, with_fetched, is_active, received}
use Rattle.proto_model.specs.declared.message.FromNode.TheVariants.{Records}
use Rattle.proto_model.specs.declared.message.Phase.{Phase}
use Rattle.proto_model.specs.declared.message.Phase.TheVariants.{Idle, Opening, Fetching, Repairing, Running, Closed}
use Rattle.proto_model.specs.declared.message.Report.{Report}
use Rattle.world_law.specs.Worlds.{Book, WorldState, config_of}
use Rattle.std.proofs.lemmas.Grind.{common_steps}
use Rattle.std.proofs.lemmas.List.{places}
use Rattle.tx_model.specs.Records.{first_id}
use Rattle.tx_model.specs.declared.record.Record.{Record}
use Rattle.world_law.proofs.Invariant.{OpenedWarrant, RecordsWarrant, FetchingFacts, PhaseFacts, Holds}
use Rattle.world_law.proofs.Lists.{IsFront, IsSlice, front_take, front_trans, taken, ids_front}
use Rattle.world_law.proofs.Places.{clean_front}
use Rattle.world_law.proofs.ServerReports.{some_same, warrant_at}
use Rattle.world_law.proofs.ServerFrame.{BookStep, ServerStep}
use Rattle.world_law.proofs.ServerAcks.{quiet, server_stays, same_active}
use Rattle.world_law.proofs.Tables.{put_same}
use Rattle.world_law.proofs.Tests.{if_each, equal, and_right, and_left}

fetching_facts : (n : Config) (books : ℕ → Book) (sv : ServerState) (p : Phase) → is_fetching p ≡ true → PhaseFacts n books sv p
    → FetchingFacts n books sv
fetching_facts n books sv Fetching a f = f
fetching_facts n books sv Idle a f = absurd (true≢false (sym a))
fetching_facts n books sv Opening a f = absurd (true≢false (sym a))
fetching_facts n books sv Repairing a f = absurd (true≢false (sym a))
fetching_facts n books sv Running a f = absurd (true≢false (sym a))
fetching_facts n books sv (Closed by) a f = absurd (true≢false (sym a))

front_fetched : (log batch chosen : List Record) (m : ℕ) → IsFront log chosen → IsSlice batch (length log) chosen
    → IsFront (log ++ take m batch) chosen
front_fetched log batch chosen m f s = record {
  fits = (let a = f.fits in let b = s.fits in grind (arith, common_steps));
  same = λ i d lt. grind (arith, places, f.same, s.same);
}

front_whole : (log book : List Record) (k : ℕ) → IsFront log (take k book) → length log ≡ k → take k log ≡ take k book
front_whole log book k f e =
    take_all k log (omega arith) ∙ front_take log (take k book) f ∙ ap (λ (n : ℕ). take n (take k book)) e ∙ take-take k k book (omega arith)

-- the fetched log is the whole chosen log
fetched_book : (w : WorldState) → Holds w → (s : ℕ) (c : Report) (log : List Record) → 1 ≤ s → s ≤ w.number
    → w.books s ≡ record { log = []; choice = Some c; repaired = false }
    → IsFront log (take c.length (w.books c.adopted).log) → length log ≡ c.length → BookStep w s (record { log = log; choice = Some c; repaired = true })
fetched_book w h s c log some known was front whole =
    let chosen : (w.books s).choice ≡ Some c = ap (λ (x : Book). x.choice) was in
    record {
      chosen = λ r e. sym chosen ∙ e;
      came = λ e. refl;
      grown = rw was (record { fits = omega arith; same = λ i d lt. absurd (omega arith) });
      choice = λ r e. h.choices s r (chosen ∙ e);
      kept = λ r e came. (let same = some_same r c (sym e) in
          subst (λ (x : Report). (x.length ≤ length log) × (take x.length log ≡ take x.length (w.books x.adopted).log)) (sym same)
          (omega arith, front_whole log (w.books c.adopted).log c.length front whole));
      repaired = λ e. (c, refl);
      unrepaired = λ e. absurd (true≢false e);
      unused = λ lt. absurd (omega arith);
      none = λ e. absurd (omega arith);
      clean = clean_front log (w.books c.adopted).log
          (front_trans log (take c.length (w.books c.adopted).log) (w.books c.adopted).log front (taken (w.books c.adopted).log c.length)) (h.clean c.adopted);
      ids = ids_front log (w.books c.adopted).log
          (front_trans log (take c.length (w.books c.adopted).log) (w.books c.adopted).log front (taken (w.books c.adopted).log c.length)) (h.ids c.adopted);
    }

fetched_phase_step : (w : WorldState) → Holds w → (v i : ℕ) (batch : List Record) (f : FetchingFacts (config_of w.cluster) w.books (w.servers v))
    → is_active (w.servers v).phase ≡ true → i ≡ f.choice.node → first_id batch ≡ length (w.servers v).log + 1
    → RecordsWarrant w i (w.servers v).session batch → ServerStep w v
    (with_fetched f.choice.length (w.servers v) ((w.servers v).log ++ take (f.choice.length - length (w.servers v).log) batch))
fetched_phase_step w h v i batch p act at next g =
    let sv = w.servers v in
    let f = h.active v act in
    let c = p.choice in
    let log = sv.log ++ take (c.length - length sv.log) batch in
    let P : Report → Type 0 = λ r. OpenedWarrant w r.node sv.session r.adopted r.length in
    let own = warrant_at P sv.reports f.reports c p.listed in
    let slice : IsSlice batch (first_id batch - 1) (take c.length (w.books c.adopted).log) = (g.part (ap (λ (x : Book). x.repaired) p.book) c.adopted c.length
    (rw at own.greatest)).slice in
    let front = front_fetched sv.log batch (take c.length (w.books c.adopted).log) (c.length - length sv.log) p.front
    (subst (λ (k : ℕ). IsSlice batch k (take c.length (w.books c.adopted).log)) (omega arith) slice) in
    if_each (λ (x : Phase). ServerStep w v (record sv { log = log; phase = x })) (length log == c.length) Repairing Fetching
    (λ e'. record {
      book = subst (λ (o : Option Report). BookStep w sv.session (record { log = log; choice = o; repaired = true })) (sym p.chose)
          (fetched_book w h sv.session c log f.some f.known p.book front (equal (length log) c.length e'));
      apart = λ u ne a q. h.distinct u v ne a act q;
      active = λ a. same_active w sv Repairing log sv.staged sv.low f;
      phase = record {
        choice = c;
        chose = p.chose;
        book = put_same w.books sv.session (record { log = log; choice = chosen (config_of w.cluster) sv; repaired = true })
            ∙ ap (λ (o : Option Report). record { log = log; choice = o; repaired = true }) p.chose;
      };
    })
    (λ e'. quiet w h v (record sv { log = log; phase = Fetching }) act refl (λ a. same_active w sv Fetching log sv.staged sv.low f)
    (record { choice = c; chose = p.chose; book = p.book; front = front; listed = p.listed }))

chosen_node : (i : ℕ) (o : Option Report) (c : Report) → o ≡ Some c → is_of i o ≡ true → i ≡ c.node
chosen_node i o c e t = sym (equal c.node i (rw e at t))

fetched_step : (w : WorldState) → Holds w → (v i : ℕ) (batch : List Record) → is_active (w.servers v).phase ≡ true
    → RecordsWarrant w i (w.servers v).session batch → takes_records (config_of w.cluster) (w.servers v) i (first_id batch) ≡ true
    → ServerStep w v
    (with_fetched (chosen_len (config_of w.cluster) (w.servers v)) (w.servers v)
    ((w.servers v).log ++ take (chosen_len (config_of w.cluster) (w.servers v) - length (w.servers v).log) batch))
fetched_step w h v i batch act g t =
    let sv = w.servers v in
    let n = config_of w.cluster in
    let p = fetching_facts n w.books sv sv.phase (and_left (is_fetching sv.phase) (is_of i (chosen n sv) && first_id batch == length sv.log + 1) t) (h.phases v) in
    let rest = and_right (is_fetching sv.phase) (is_of i (chosen n sv) && first_id batch == length sv.log + 1) t in
    let len : p.choice.length ≡ chosen_len n sv = sym (ap length_of p.chose) in
    subst (λ (k : ℕ). ServerStep w v (with_fetched k sv (sv.log ++ take (k - length sv.log) batch))) len
    (fetched_phase_step w h v i batch p act
    (chosen_node i (chosen n sv) p.choice p.chose (and_left (is_of i (chosen n sv)) (first_id batch == length sv.log + 1) rest))
    (equal (first_id batch) (length sv.log + 1) (and_right (is_of i (chosen n sv)) (first_id batch == length sv.log + 1) rest)) g)

pub records_step : (w : WorldState) → Holds w → (v i s : ℕ) (batch : List Record) → is_active (w.servers v).phase ≡ true
    → (w.servers v).session ≡ s → RecordsWarrant w i s batch → ServerStep w v (received (config_of w.cluster) (w.servers v) i (Records s batch))
records_step w h v i s batch act same g =
    let sv = w.servers v in
    let n = config_of w.cluster in
    if_each (ServerStep w v) (takes_records n sv i (first_id batch)) (with_fetched (chosen_len n sv) sv (sv.log ++ take (chosen_len n sv - length sv.log) batch)) sv
    (λ e. fetched_step w h v i batch act (rw same g) e)
    (λ e. server_stays w h v act)
