-- A report, and the choice that it may bring.
use Rattle.std.proofs.Common.{◌≡◌, ℕ, zero, suc, ◌<◌, ◌≤◌, ◌==◌, ◌&&◌, not, nat_lt, if◌then◌else◌, Bool, true, false, arith, refl, ap, sym, ◌∙◌, inl, inr, subst, List, [], ◌∷◌, ◌++◌, length, length-append, Option, Some, None, le_trans, true≢false}
use Rattle.proto_model.specs.Quorums.{quorum}
use Rattle.proto_model.specs.Servers.{Config, ServerState, length_of, chosen, reported_by, phase_of_choice, phase_reported, with_choice, is_active, received}
use Rattle.proto_model.specs.declared.message.FromNode.TheVariants.{Opened}
use Rattle.proto_model.specs.declared.message.Phase.{Phase}
use Rattle.proto_model.specs.declared.message.Phase.TheVariants.{Idle, Opening, Fetching, Repairing, Running, Closed}
use Rattle.proto_model.specs.declared.message.Report.{Report}
use Rattle.world_law.specs.OneLog.{voted}
use Rattle.world_law.specs.Worlds.{Book, empty_book, WorldState, config_of}
use Rattle.std.specs.List.{AllByRecursion}
use Rattle.world_law.proofs.Choices.{chosen_among, none_among, kept_once_chosen, no_worse, IsBest, choice_best, listed_more, listed_last, on_more}
use Rattle.world_law.proofs.Invariant.{OnList, IsGreatest, ChoiceFacts, OpenedFacts, OpenedWarrant, IsListed, ActiveFacts, OpeningFacts, FetchingFacts, RepairFacts, PhaseFacts, Holds}
use Rattle.world_law.proofs.Later.{greatest_fits, all_append}
use Rattle.world_law.proofs.Lists.{still}
use Rattle.world_law.proofs.Quorums.{IsNode, count_put}
use Rattle.world_law.proofs.Places.{clean_none, ids_none}
use Rattle.world_law.proofs.ServerFrame.{BookStep, ServerStep, adopted_came_at}
use Rattle.world_law.proofs.ServerAcks.{quiet, server_stays, same_active}
use Rattle.world_law.proofs.Tables.{put_same, put_each}
use Rattle.world_law.proofs.Tests.{if_each, above, equal, and_right, and_left}
use Rattle.world_law.proofs.Votes.{fewer}

reported_active : (w : WorldState) (sv : ServerState) (r : Report) → ActiveFacts w sv → sv.reported r.node ≡ false
    → OpenedWarrant w r.node sv.session r.adopted r.length → ActiveFacts w (reported_by sv r)
reported_active w sv r f new g =
    let P : Report → Type 0 = λ x. OpenedWarrant w x.node sv.session x.adopted x.length in
    record {
      some = f.some;
      known = f.known;
      reports = all_append P sv.reports (r ∷ []) f.reports (g, tt);
      listed = put_each (λ (k : ℕ) (x : Bool). x ≡ true → IsListed k (sv.reports ++ r ∷ [])) sv.reported r.node true (λ e. listed_last sv.reports r)
          (λ k ne e. listed_more k sv.reports r (f.listed k e));
      counted = (let one = count_put sv.reported r.node w.cluster.nodes new g.node in let c = f.counted in let l = length-append sv.reports
          (r ∷ []) in omega arith);
      acks = f.acks;
      unacked = f.unacked;
    }

some_quorum : (n : ℕ) → 1 ≤ quorum n
some_quorum n = omega arith

-- a report that comes after the choice
late_fetching : (n : Config) (books : ℕ → Book) (sv : ServerState) (r : Report) → FetchingFacts n books sv → FetchingFacts n books (reported_by sv r)
late_fetching n books sv r f = record {
  choice = f.choice;
  chose = kept_once_chosen (quorum n.nodes) sv.reports r f.choice (some_quorum n.nodes) f.chose;
  book = f.book;
  front = f.front;
  listed = on_more f.choice sv.reports r f.listed;
}

late_repair : (n : Config) (books : ℕ → Book) (sv : ServerState) (r : Report) → RepairFacts n books sv → RepairFacts n books (reported_by sv r)
late_repair n books sv r f =
    record { choice = f.choice; chose = kept_once_chosen (quorum n.nodes) sv.reports r f.choice (some_quorum n.nodes) f.chose; book = f.book }

pub warrant_at : (P : Report → Type 0) (rs : List Report) → AllByRecursion P rs → (r : Report) → OnList r rs → P r
warrant_at P [] h r l = absurd l
warrant_at P (x ∷ xs) h r (inl e) = subst P (sym e) h.0
warrant_at P (x ∷ xs) h r (inr l) = warrant_at P xs h.1 r l

-- a member's own report against the best
member_silent : (w : WorldState) (i s t k : ℕ) (c r : Report) → no_worse c r → IsGreatest w.votes i s r.adopted r.length → c.adopted < t → t < s
    → voted w.votes t k i ≡ false
unfolding no_worse
member_silent w i s t k c r (inl lt) g at below = g.none t k (omega arith) below
member_silent w i s t k c r (inr e) g at below = g.none t k (omega (arith, e.0)) below

member_longest : (w : WorldState) (i s k : ℕ) (c r : Report) → c.adopted < s → no_worse c r → IsGreatest w.votes i s r.adopted r.length
    → voted w.votes c.adopted k i ≡ true → k ≤ c.length
unfolding no_worse
member_longest w i s k c r before (inl lt) g v = absurd (true≢false (sym v ∙ g.none c.adopted k lt before))
member_longest w i s k c r before (inr e) g v = le_trans (g.most k (rw e.0 v)) e.1

grows_from : (w : WorldState) → Holds w → (i s a len : ℕ) → IsGreatest w.votes i s a len → length_of (w.books a).choice ≤ len
grows_from w h i s zero len g = rw h.none (omega arith)
grows_from w h i s (suc a) len g =
    g.most (length_of (w.books (suc a)).choice) (h.based i (suc a) (fewer w.votes (suc a) len 0 i (omega arith) (g.own (omega arith))))

choice_facts : (w : WorldState) → Holds w → (sv : ServerState) (c : Report) → ActiveFacts w sv → chosen (config_of w.cluster) sv ≡ Some c
    → IsBest c sv.reports → ChoiceFacts w sv.session c.adopted c.length
choice_facts w h sv c f chose is =
    let P : Report → Type 0 = λ r. OpenedWarrant w r.node sv.session r.adopted r.length in
    let own = warrant_at P sv.reports f.reports c is.listed in
    record {
      before = own.greatest.before;
      came = adopted_came_at w h c.node c.adopted c.length own.greatest.own;
      fits = greatest_fits w h c.node sv.session c.adopted c.length own.greatest;
      grows = grows_from w h c.node sv.session c.adopted c.length own.greatest;
      members = sv.reported;
      enough = le_trans (chosen_among (quorum w.cluster.nodes) sv.reports c chose) f.counted;
      promised = λ i m. (let b = is.bounds i (f.listed i m) in rw (← b.1) (warrant_at P sv.reports f.reports b.0 b.2).promised);
      silent = λ i t k m at lt. (let b = is.bounds i (f.listed i m) in
          member_silent w i sv.session t k c b.0 b.3
          (subst (λ (j : ℕ). IsGreatest w.votes j sv.session b.0.adopted b.0.length) b.1 (warrant_at P sv.reports f.reports b.0 b.2).greatest) at lt);
      longest = λ i k m v. (let b = is.bounds i (f.listed i m) in
          member_longest w i sv.session k c b.0 own.greatest.before b.3
          (subst (λ (j : ℕ). IsGreatest w.votes j sv.session b.0.adopted b.0.length) b.1 (warrant_at P sv.reports f.reports b.0 b.2).greatest) v);
    }

pub some_same : (a b : Report) → Some a ≡ Some b → a ≡ b
some_same a b e = cc

pub none_some : (a : Report) → None ≡ Some a → ⊥
none_some a e = cc

-- the choice: the opening server's book gains it
chosen_book : (w : WorldState) → Holds w → (s : ℕ) (c : Report) (b : Book) → 1 ≤ s → s ≤ w.number → w.books s ≡ empty_book
    → ChoiceFacts w s c.adopted c.length → b.choice ≡ Some c → b.log ≡ [] → (b.repaired ≡ true → c.length ≡ 0) → BookStep w s b
chosen_book w h s c b some known was choice chosen log empty =
    let none : (w.books s).choice ≡ None = ap (λ (x : Book). x.choice) was in
    let only : (r : Report) → b.choice ≡ Some r → r ≡ c = λ r e. some_same r c (sym e ∙ chosen) in
    record {
      chosen = λ r e. absurd (none_some r (sym none ∙ e));
      came = λ e. absurd (true≢false (sym e ∙ ap (λ (x : Book). x.repaired) was));
      grown = rw (was, log) (still []);
      choice = λ r e. subst (λ (x : Report). ChoiceFacts w s x.adopted x.length) (sym (only r e)) choice;
      kept = λ r e came. (let z : r.length ≡ 0 = ap (λ (x : Report). x.length) (only r e) ∙ empty came in
          (rw z (omega arith), rw z refl));
      repaired = λ e. (c, chosen);
      unrepaired = λ e. log;
      unused = λ lt. absurd (omega arith);
      none = λ e. absurd (omega arith);
      clean = rw log clean_none;
      ids = rw log ids_none;
    }

-- a server with the first reports that are enough
choose_step : (w : WorldState) → Holds w → (v : ℕ) (sv : ServerState) (c : Report) → is_active (w.servers v).phase ≡ true
    → sv.session ≡ (w.servers v).session → ActiveFacts w sv → sv.log ≡ [] → w.books sv.session ≡ empty_book
    → chosen (config_of w.cluster) sv ≡ Some c → IsBest c sv.reports
    → ServerStep w v (record sv { phase = if c.length == 0 then Repairing else Fetching })
choose_step w h v sv c act same f empty was chose is =
    let facts = choice_facts w h sv c f chose is in
    if_each (λ (p : Phase). ServerStep w v (record sv { phase = p })) (c.length == 0) Repairing Fetching
    (λ e. record {
      book = chosen_book w h sv.session c (record { log = sv.log; choice = chosen (config_of w.cluster) sv; repaired = true }) f.some f.known was facts chose empty
          (λ e'. equal c.length 0 e);
      apart = λ u ne a e'. h.distinct u v ne a act (e' ∙ same);
      active = λ a. same_active w sv Repairing sv.log sv.staged sv.low f;
      phase = record {
        choice = c;
        chose = chose;
        book = put_same w.books sv.session (record { log = sv.log; choice = chosen (config_of w.cluster) sv; repaired = true })
            ∙ ap (λ (o : Option Report). record { log = sv.log; choice = o; repaired = true }) chose;
      };
    })
    (λ e. record {
      book = chosen_book w h sv.session c (record (w.books sv.session) { choice = chosen (config_of w.cluster) sv }) f.some f.known was facts chose
          (ap (λ (x : Book). x.log) was) (λ e'. absurd (true≢false (sym e' ∙ ap (λ (x : Book). x.repaired) was)));
      apart = λ u ne a e'. h.distinct u v ne a act (e' ∙ same);
      active = λ a. same_active w sv Fetching sv.log sv.staged sv.low f;
      phase = record {
        choice = c;
        chose = chose;
        book = put_same w.books sv.session (record (w.books sv.session) { choice = chosen (config_of w.cluster) sv })
            ∙ ap (λ (x : Book). record x { choice = chosen (config_of w.cluster) sv }) was
            ∙ ap (λ (o : Option Report). record { log = []; choice = o; repaired = false }) chose;
        front = rw empty (record { fits = omega arith; same = λ i d lt. absurd (omega arith) });
        listed = is.listed;
      };
    })

reported_step : (w : WorldState) → Holds w → (v : ℕ) (r : Report) → is_active (w.servers v).phase ≡ true → (w.servers v).reported r.node ≡ false
    → OpenedWarrant w r.node (w.servers v).session r.adopted r.length
    → PhaseFacts (config_of w.cluster) w.books (reported_by (w.servers v) r) (w.servers v).phase → ServerStep w v (reported_by (w.servers v) r)
reported_step w h v r act new g p = quiet w h v (reported_by (w.servers v) r) act refl (λ a. reported_active w (w.servers v) r (h.active v act) new g) p

opening_step : (w : WorldState) → Holds w → (v : ℕ) (r : Report) → is_active (w.servers v).phase ≡ true → (w.servers v).reported r.node ≡ false
    → OpenedWarrant w r.node (w.servers v).session r.adopted r.length
    → OpeningFacts (config_of w.cluster) w.books (w.servers v) → (o : Option Report) → chosen (config_of w.cluster) (reported_by (w.servers v) r) ≡ o
    → ServerStep w v (record (reported_by (w.servers v) r) { phase = phase_of_choice o })
opening_step w h v r act new g f None e =
    let sv = w.servers v in
    let after = record (reported_by sv r) { phase = Opening } in
    quiet w h v after act refl (λ a. same_active w (reported_by sv r) Opening sv.log after.staged after.low (reported_active w sv r (h.active v act) new g))
    (record { few = none_among (quorum w.cluster.nodes) (sv.reports ++ r ∷ []) (some_quorum w.cluster.nodes) e; log = f.log; book = f.book })
opening_step w h v r act new g f (Some c) e =
    let sv = w.servers v in
    let after = reported_by sv r in
    let exact : length after.reports ≤ quorum w.cluster.nodes = (let l = length-append sv.reports (r ∷ []) in let few = f.few in omega arith) in
    choose_step w h v after c act refl (reported_active w sv r (h.active v act) new g) f.log f.book e
    (choice_best (quorum w.cluster.nodes) after.reports c exact e)

late_step : (w : WorldState) → Holds w → (v : ℕ) (r : Report) (p : Phase) → is_active (w.servers v).phase ≡ true → (w.servers v).phase ≡ p
    → (w.servers v).reported r.node ≡ false → OpenedWarrant w r.node (w.servers v).session r.adopted r.length
    → PhaseFacts (config_of w.cluster) w.books (reported_by (w.servers v) r) p → ServerStep w v (record (reported_by (w.servers v) r) { phase = p })
late_step w h v r p act e new g f =
    subst (λ (q : Phase). ServerStep w v (record (reported_by (w.servers v) r) { phase = q })) e
    (reported_step w h v r act new g (subst (PhaseFacts (config_of w.cluster) w.books (reported_by (w.servers v) r)) (sym e) f))

not_true : (b : Bool) → not b ≡ true → b ≡ false
not_true b e = grind arith

opened_phase_step : (w : WorldState) → Holds w → (v : ℕ) (r : Report) (p : Phase) → is_active (w.servers v).phase ≡ true
    → (w.servers v).phase ≡ p → (w.servers v).reported r.node ≡ false → OpenedWarrant w r.node (w.servers v).session r.adopted r.length
    → PhaseFacts (config_of w.cluster) w.books (w.servers v) p → ServerStep w v
    (record (reported_by (w.servers v) r) { phase = phase_reported (chosen (config_of w.cluster) (reported_by (w.servers v) r)) p })
opened_phase_step w h v r Opening act e new g f = opening_step w h v r act new g f (chosen (config_of w.cluster) (reported_by (w.servers v) r)) refl
opened_phase_step w h v r Fetching act e new g f = late_step w h v r Fetching act e new g (late_fetching (config_of w.cluster) w.books (w.servers v) r f)
opened_phase_step w h v r Repairing act e new g f = late_step w h v r Repairing act e new g (late_repair (config_of w.cluster) w.books (w.servers v) r f)
opened_phase_step w h v r Running act e new g f = late_step w h v r Running act e new g (late_repair (config_of w.cluster) w.books (w.servers v) r f)
opened_phase_step w h v r Idle act e new g f = late_step w h v r Idle act e new g tt
opened_phase_step w h v r (Closed by) act e new g f = late_step w h v r (Closed by) act e new g tt

pub opened_step : (w : WorldState) → Holds w → (v i s a low len : ℕ) → is_active (w.servers v).phase ≡ true → (w.servers v).session ≡ s
    → IsNode w.cluster.nodes i → (a < s → OpenedFacts w i s a len)
    → ServerStep w v (received (config_of w.cluster) (w.servers v) i (Opened s a low len))
opened_step w h v i s a low len act same known g =
    let sv = w.servers v in
    let r : Report = record { node = i; adopted = a; low = low; length = len } in
    if_each (ServerStep w v) (not (sv.reported i) && nat_lt a sv.session) (with_choice (config_of w.cluster) (reported_by sv r)) sv
    (λ e. opened_phase_step w h v r sv.phase act refl (not_true (sv.reported i) (and_left (not (sv.reported i)) (nat_lt a sv.session) e))
    (let facts = g (rw same at (above a sv.session (and_right (not (sv.reported i)) (nat_lt a sv.session) e))) in rw same
    (record { node = known; promised = facts.promised; greatest = facts.greatest }))
    (h.phases v))
    (λ e. server_stays w h v act)
