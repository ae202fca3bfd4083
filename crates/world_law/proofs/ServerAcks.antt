-- A server that keeps its session: columns, acknowledgements, and what closes it.
use Rattle.std.proofs.Common.{◌≡◌, ℕ, ◌⊎◌, ◌&&◌, not, max, nat_le, if◌then◌else◌, Bool, true, false, arith, refl, sym, ◌∙◌, inl, inr, subst, List, [], length, true≢false}
use Rattle.proto_model.specs.Quorums.{count, quorum}
use Rattle.proto_model.specs.Servers.{Config, ServerState, chosen_len, commit_mark, after_staged, has_fetched, takes_ack, acked_by, begun, waits_on, answered, after_ack, after_low, is_active}
use Rattle.proto_model.specs.Tables.{put}
use Rattle.proto_model.specs.declared.message.Phase.{Phase}
use Rattle.proto_model.specs.declared.message.Phase.TheVariants.{Idle, Opening, Fetching, Repairing, Running, Closed}
use Rattle.world_law.specs.OneLog.{voted}
use Rattle.world_law.specs.Worlds.{Book, Vote, WorldState, config_of, book_in}
use Rattle.tx_model.specs.declared.record.Record.{Record}
use Rattle.world_law.proofs.Invariant.{ActiveFacts, RepairFacts, PhaseFacts, Holds}
use Rattle.world_law.proofs.Lists.{still}
use Rattle.world_law.proofs.ServerFrame.{BookStep, ServerStep, waiting_step}
use Rattle.world_law.proofs.Tables.{put_each₂, put_back}
use Rattle.world_law.proofs.Tests.{if_each, and_left}

pub book_stays : (w : WorldState) → Holds w → (s : ℕ) → BookStep w s (w.books s)
book_stays w h s = record {
  chosen = λ r e. e;
  came = λ e. e;
  grown = still (w.books s).log;
  choice = λ r e. h.choices s r e;
  kept = λ r e c. (let k = h.kept s r e c in (k.long, k.same));
  repaired = h.repaired s;
  unrepaired = h.unrepaired s;
  unused = h.unused s;
  none = λ e. rw (e, h.none);
  clean = h.clean s;
  ids = h.ids s;
}

-- the book that a server's phase gives is the one that is there
pub same_book : (n : Config) (books : ℕ → Book) (sv : ServerState) (p : Phase) → PhaseFacts n books sv p
    → book_in p n sv (books sv.session) ≡ books sv.session
same_book n books sv Idle f = refl
same_book n books sv Opening f = refl
same_book n books sv Fetching f = rw (f.book, f.chose) refl
same_book n books sv Repairing f = rw (f.book, f.chose) refl
same_book n books sv Running f = rw (f.book, f.chose) refl
same_book n books sv (Closed p) f = refl

-- a step that leaves the book
pub quiet : (w : WorldState) → Holds w → (v : ℕ) (after : ServerState) → is_active (w.servers v).phase ≡ true
    → after.session ≡ (w.servers v).session
    → (is_active after.phase ≡ true → ActiveFacts w after) → PhaseFacts (config_of w.cluster) w.books after after.phase → ServerStep w v after
quiet w h v after act same active phase =
    let e = same_book (config_of w.cluster) w.books after after.phase phase in
    record {
      book = subst (BookStep w after.session) (sym e) (book_stays w h after.session);
      apart = λ u ne a e'. h.distinct u v ne a act (e' ∙ same);
      active = active;
      phase = subst (λ (b : Book). PhaseFacts (config_of w.cluster) (put w.books after.session b) after after.phase) (sym e)
          (subst (λ (bs : ℕ → Book). PhaseFacts (config_of w.cluster) bs after after.phase) (sym (put_back w.books after.session)) phase);
    }

pub server_stays : (w : WorldState) → Holds w → (v : ℕ) → is_active (w.servers v).phase ≡ true → ServerStep w v (w.servers v)
server_stays w h v act = quiet w h v (w.servers v) act refl (h.active v) (h.phases v)

-- the columns that no fact of a phase speaks of
columns_phase : (n : Config) (books : ℕ → Book) (sv : ServerState) (q : Phase) (staged low acked : ℕ → ℕ) (adopted : ℕ → Bool) (p : Phase)
    → PhaseFacts n books sv p
    → PhaseFacts n books (record sv { phase = q; staged = staged; low = low; adopted = adopted; acked = acked }) p
columns_phase n books sv q staged low acked adopted Idle f = tt
columns_phase n books sv q staged low acked adopted Opening f = record { few = f.few; log = f.log; book = f.book }
columns_phase n books sv q staged low acked adopted Fetching f =
    record { choice = f.choice; chose = f.chose; book = f.book; front = f.front; listed = f.listed }
columns_phase n books sv q staged low acked adopted Repairing f = record { choice = f.choice; chose = f.chose; book = f.book }
columns_phase n books sv q staged low acked adopted Running f = record { choice = f.choice; chose = f.chose; book = f.book }
columns_phase n books sv q staged low acked adopted (Closed by) f = tt

-- what an active server's facts do not speak of
pub same_active : (w : WorldState) (sv : ServerState) (p : Phase) (log : List Record) (staged low : ℕ → ℕ) → ActiveFacts w sv
    → ActiveFacts w (record sv { phase = p; log = log; staged = staged; low = low })
same_active w sv p log staged low f =
    record { some = f.some; known = f.known; reports = f.reports; listed = f.listed; counted = f.counted; acks = f.acks; unacked = f.unacked }

columns_step : (w : WorldState) → Holds w → (v : ℕ) (staged low : ℕ → ℕ) → is_active (w.servers v).phase ≡ true
    → ServerStep w v (record (w.servers v) { staged = staged; low = low })
columns_step w h v staged low act =
    let sv = w.servers v in
    quiet w h v (record sv { staged = staged; low = low }) act refl (λ a. same_active w sv sv.phase sv.log staged low (h.active v act))
    (columns_phase (config_of w.cluster) w.books sv sv.phase staged low sv.acked sv.adopted sv.phase (h.phases v))

-- Stale
pub stale_step : (w : WorldState) → Holds w → (v p : ℕ) → is_active (w.servers v).phase ≡ true
    → ServerStep w v (record (w.servers v) { phase = Closed p; waiting = [] })
stale_step w h v p act = quiet w h v (record (w.servers v) { phase = Closed p; waiting = [] }) act refl (λ a. absurd (true≢false (sym a))) tt

-- Staged, StageAt
pub staged_step : (w : WorldState) → Holds w → (v i upto : ℕ) → is_active (w.servers v).phase ≡ true
    → ServerStep w v (after_staged (w.servers v) i upto)
staged_step w h v i upto act =
    let sv = w.servers v in
    if_each (ServerStep w v) (sv.reported i && not (sv.adopted i)) (record sv { staged = put sv.staged i upto }) sv
    (λ e. columns_step w h v (put sv.staged i upto) sv.low act) (λ e. server_stays w h v act)

-- LowSet
pub lowered_step : (w : WorldState) → Holds w → (v i low : ℕ) → is_active (w.servers v).phase ≡ true
    → ServerStep w v (after_low (config_of w.cluster) (w.servers v) i low)
lowered_step w h v i low act =
    let sv = w.servers v in
    if_each (ServerStep w v) (sv.adopted i && nat_le low (commit_mark (config_of w.cluster) sv)) (record sv { low = put sv.low i (max (sv.low i) low) }) sv
    (λ e. columns_step w h v sv.staged (put sv.low i (max (sv.low i) low)) act) (λ e. server_stays w h v act)

pub repair_facts : (n : Config) (books : ℕ → Book) (sv : ServerState) (p : Phase) → has_fetched p ≡ true → PhaseFacts n books sv p
    → RepairFacts n books sv
repair_facts n books sv Repairing a f = f
repair_facts n books sv Running a f = f
repair_facts n books sv Idle a f = absurd (true≢false (sym a))
repair_facts n books sv Opening a f = absurd (true≢false (sym a))
repair_facts n books sv Fetching a f = absurd (true≢false (sym a))
repair_facts n books sv (Closed by) a f = absurd (true≢false (sym a))

repair_phase : (n : Config) (books : ℕ → Book) (sv : ServerState) (p : Phase) → has_fetched p ≡ true → RepairFacts n books sv
    → PhaseFacts n books sv p
repair_phase n books sv Repairing a f = f
repair_phase n books sv Running a f = f
repair_phase n books sv Idle a f = absurd (true≢false (sym a))
repair_phase n books sv Opening a f = absurd (true≢false (sym a))
repair_phase n books sv Fetching a f = absurd (true≢false (sym a))
repair_phase n books sv (Closed by) a f = absurd (true≢false (sym a))

larger : (a b : ℕ) → (max a b ≡ a) ⊎ (max a b ≡ b)
larger a b = grind arith

max_vote : (votes : List Vote) (s a len i : ℕ) → voted votes s len i ≡ true → (b : Bool) → (b ≡ true → voted votes s a i ≡ true)
    → (b ≡ false → a ≡ 0) → voted votes s (max a len) i ≡ true
max_vote votes s a len i v true f z = elim (larger a len) [ inl e ↦ rw e (f refl) | inr e ↦ rw e v ]
max_vote votes s a len i v false f z = (let e : max a len ≡ len = (let zero = z refl in omega arith) in rw e v)

acked_active : (w : WorldState) (sv : ServerState) (p : Phase) (i len : ℕ) → ActiveFacts w sv → voted w.votes sv.session len i ≡ true
    → ActiveFacts w (record (acked_by sv i len) { phase = p })
acked_active w sv p i len f vote =
    let a = put sv.adopted i true in
    let k = put sv.acked i (max (sv.acked i) len) in
    record {
      some = f.some;
      known = f.known;
      reports = f.reports;
      listed = f.listed;
      counted = f.counted;
      acks = put_each₂ (λ (j : ℕ) (x : Bool) (y : ℕ). x ≡ true → voted w.votes sv.session y j ≡ true) sv.adopted sv.acked i true (max (sv.acked i) len)
          (λ e. max_vote w.votes sv.session (sv.acked i) len i vote (sv.adopted i) (f.acks i) (f.unacked i)) (λ j ne. f.acks j);
      unacked = put_each₂ (λ (j : ℕ) (x : Bool) (y : ℕ). x ≡ false → y ≡ 0) sv.adopted sv.acked i true (max (sv.acked i) len)
          (λ e. absurd (true≢false e)) (λ j ne. f.unacked j);
    }

begun_step : (w : WorldState) → Holds w → (v i len : ℕ) (p : Phase) → is_active (w.servers v).phase ≡ true
    → has_fetched (w.servers v).phase ≡ true → has_fetched p ≡ true → voted w.votes (w.servers v).session len i ≡ true
    → ServerStep w v (record (acked_by (w.servers v) i len) { phase = p })
begun_step w h v i len p act rep rep' vote =
    let sv = w.servers v in
    let f = repair_facts (config_of w.cluster) w.books sv sv.phase rep (h.phases v) in
    quiet w h v (record (acked_by sv i len) { phase = p }) act refl (λ a. acked_active w sv p i len (h.active v act) vote)
    (repair_phase (config_of w.cluster) w.books (record (acked_by sv i len) { phase = p }) p rep' (record { choice = f.choice; chose = f.chose; book = f.book }))

pub acknowledged_step : (w : WorldState) → Holds w → (v i len : ℕ) → is_active (w.servers v).phase ≡ true
    → voted w.votes (w.servers v).session len i ≡ true → ServerStep w v (after_ack (config_of w.cluster) (w.servers v) i len)
acknowledged_step w h v i len act vote =
    let sv = w.servers v in
    let enough = nat_le (quorum w.cluster.nodes) (count (put sv.adopted i true) w.cluster.nodes) in
    let next = begun (config_of w.cluster) (acked_by sv i len) in
    if_each (ServerStep w v) (takes_ack (config_of w.cluster) sv i len) (answered (config_of w.cluster) next) sv
    (λ e. (let rep = and_left (has_fetched sv.phase) (sv.reported i && (nat_le (chosen_len (config_of w.cluster) sv) len && nat_le len (length sv.log))) e in
    waiting_step w v next (waits_on (commit_mark (config_of w.cluster) next) sv.waiting)
    (begun_step w h v i len (if enough then Running else sv.phase) act rep
    (if_each (λ (x : Phase). has_fetched x ≡ true) enough Running sv.phase (λ t. refl) (λ t. rep)) vote)))
    (λ e. server_stays w h v act)
