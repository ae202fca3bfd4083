-- A step of a server, whatever it is.
use Rattle.std.proofs.Common.{◌≡◌, ◌≢◌, ℕ, zero, suc, ◌<◌, ◌≤◌, ◌⊎◌, true, false, arith, refl, ap, sym, ◌∙◌, inl, inr, subst, List, [], length, take, Some, le_trans}
use Rattle.proto_model.specs.Replicas.{ReplicaState}
use Rattle.proto_model.specs.Servers.{Config, Waiting, ServerState, is_active}
use Rattle.proto_model.specs.Tables.{put}
use Rattle.proto_model.specs.declared.message.Phase.{Phase}
use Rattle.proto_model.specs.declared.message.Phase.TheVariants.{Idle, Opening, Fetching, Repairing, Running, Closed}
use Rattle.proto_model.specs.declared.message.Report.{Report}
use Rattle.world_law.specs.OneLog.{voted}
use Rattle.world_law.specs.Worlds.{Book, empty_book, WorldState, config_of, book_in, with_server}
use Rattle.tx_model.specs.Logs.{IsClean}
use Rattle.tx_model.specs.declared.record.Record.{Record}
use Rattle.world_law.proofs.Invariant.{NodeFacts, ChoiceFacts, KeptFacts, ActiveFacts, PhaseFacts, Holds}
use Rattle.world_law.proofs.Later.{Later, Onward, base_later, base_of_came, choice_later, low_later, staged_later, sent_later, active_later}
use Rattle.world_law.proofs.Lists.{IsFront, HasIds, still, front_trans}
use Rattle.world_law.proofs.Quorums.{step}
use Rattle.world_law.proofs.Places.{front_at}
use Rattle.world_law.proofs.Tables.{put_other, put_each}

-- what a step leaves of the session's book
pub record BookStep (w : WorldState) (s : ℕ) (b : Book) : Type 0 where
  pub chosen : (r : Report) → (w.books s).choice ≡ Some r → b.choice ≡ Some r
  pub came : (w.books s).repaired ≡ true → b.repaired ≡ true
  pub grown : IsFront (w.books s).log b.log
  pub choice : (r : Report) → b.choice ≡ Some r → ChoiceFacts w s r.adopted r.length
  pub kept : (r : Report) → b.choice ≡ Some r → b.repaired ≡ true
      → (r.length ≤ length b.log) × (take r.length b.log ≡ take r.length (w.books r.adopted).log)
  pub repaired : b.repaired ≡ true → (r : Report) × (b.choice ≡ Some r)
  pub unrepaired : b.repaired ≡ false → b.log ≡ []
  pub unused : w.number < s → b ≡ empty_book
  pub none : s ≡ 0 → b ≡ empty_book
  pub clean : IsClean b.log
  pub ids : HasIds b.log

pub record ServerStep (w : WorldState) (v : ℕ) (after : ServerState) : Type 0 where
  pub book : BookStep w after.session (book_in after.phase (config_of w.cluster) after (w.books after.session))
  pub apart : (u : ℕ) → u ≢ v → is_active (w.servers u).phase ≡ true → (w.servers u).session ≢ after.session
  pub active : is_active after.phase ≡ true → ActiveFacts w after
  pub phase : PhaseFacts (config_of w.cluster)
      (put w.books after.session (book_in after.phase (config_of w.cluster) after (w.books after.session))) after after.phase

pub server_later : (w : WorldState) → Holds w → (v : ℕ) (after : ServerState) → ServerStep w v after → Later w (with_server w v after)
server_later w h v after step =
    let s = after.session in
    let b = book_in after.phase (config_of w.cluster) after (w.books s) in
    record {
      cluster = refl;
      promised = λ i. omega arith;
      cast = λ i t k e. e;
      frozen = λ i t k lt. refl;
      chosen = put_each (λ (t : ℕ) (x : Book). (r : Report) → (w.books t).choice ≡ Some r → x.choice ≡ Some r) w.books s b step.book.chosen
          (λ t ne r e. e);
      repaired = put_each (λ (t : ℕ) (x : Book). (w.books t).repaired ≡ true → x.repaired ≡ true) w.books s b step.book.came (λ t ne e. e);
      grown = put_each (λ (t : ℕ) (x : Book). IsFront (w.books t).log x.log) w.books s b step.book.grown (λ t ne. still (w.books t).log);
    }

pub adopted_came_at : (w : WorldState) → Holds w → (i a len : ℕ) → (0 < a → voted w.votes a len i ≡ true)
    → (a ≡ 0) ⊎ ((w.books a).repaired ≡ true)
adopted_came_at w h i zero len own = inl refl
adopted_came_at w h i (suc a) len own = inr (h.votes i (suc a) len (own (omega arith))).repaired

adopted_came : (w : WorldState) → Holds w → (i : ℕ) (n : ReplicaState) → NodeFacts w.books w.votes i n
    → (n.adopted ≡ 0) ⊎ ((w.books n.adopted).repaired ≡ true)
adopted_came w h i n f = adopted_came_at w h i n.adopted (length n.log) f.own

kept_later : (w new : WorldState) → Later w new → (t : ℕ) (r : Report) → ChoiceFacts w t r.adopted r.length
    → (r.length ≤ length (new.books t).log) × (take r.length (new.books t).log ≡ take r.length (w.books r.adopted).log)
    → KeptFacts new.books t r.adopted r.length
kept_later w new l t r c k = record {
  long = k.0;
  same = k.1 ∙ sym (front_at r.length (w.books r.adopted).log (new.books r.adopted).log (l.grown r.adopted) c.fits);
}

-- a node's facts, in books that grew
node_in_later : (old new : WorldState) → Later old new → Holds old → (new.books 0 ≡ empty_book) → new.votes ≡ old.votes
    → (i : ℕ) (n : ReplicaState) → NodeFacts old.books old.votes i n → NodeFacts new.books old.votes i n
node_in_later old new l h none votes i n f = record {
  promised = f.promised;
  front = front_trans n.log (old.books n.adopted).log (new.books n.adopted).log f.front (l.grown n.adopted);
  based = (let e = base_of_came old new l h none n.adopted (adopted_came old h i n f) in let g = f.based in omega arith);
  own = f.own;
  above = f.above;
  most = f.most;
}

others_phase : (w new : WorldState) → Later w new → Holds w → (sv : ServerState) (p : Phase)
    → (is_active p ≡ true → new.books sv.session ≡ w.books sv.session) → PhaseFacts (config_of w.cluster) w.books sv p
    → PhaseFacts (config_of w.cluster) new.books sv p
others_phase w new l h sv Idle e f = tt
others_phase w new l h sv Opening e f = record { few = f.few; log = f.log; book = e refl ∙ f.book }
others_phase w new l h sv Fetching e f =
    let c = h.choices sv.session f.choice (ap (λ (b : Book). b.choice) f.book) in
    record {
      choice = f.choice;
      chose = f.chose;
      book = e refl ∙ f.book;
      front = subst (λ (l' : List Record). IsFront sv.log l')
          (sym (front_at f.choice.length (w.books f.choice.adopted).log (new.books f.choice.adopted).log (l.grown f.choice.adopted) c.fits)) f.front;
      listed = f.listed;
    }
others_phase w new l h sv Repairing e f = record { choice = f.choice; chose = f.chose; book = e refl ∙ f.book }
others_phase w new l h sv Running e f = record { choice = f.choice; chose = f.chose; book = e refl ∙ f.book }
others_phase w new l h sv (Closed p) e f = tt

pub server_event : (w : WorldState) → Holds w → (v : ℕ) (after : ServerState) → ServerStep w v after → Onward w (with_server w v after)
server_event w h v after step =
    let s = after.session in
    let b = book_in after.phase (config_of w.cluster) after (w.books s) in
    let new = with_server w v after in
    let l : Later w new = server_later w h v after step in
    let none : new.books 0 ≡ empty_book = put_each (λ (t : ℕ) (x : Book). t ≡ 0 → x ≡ empty_book) w.books s b step.book.none
    (λ t ne e. rw (e, h.none)) 0 refl in
    record {
      later = l;
      holds = record {
        nodes = λ i. node_in_later w new l h none refl i (w.nodes i) (h.nodes i);
        votes = λ i t k e. (let f = h.votes i t k e in record { repaired = l.repaired t f.repaired; fits = le_trans f.fits (l.grown t).fits });
        based = λ i t e. rw (base_later w new l h t (h.votes i t 0 e).repaired) (h.based i t e);
        choices = λ t r e. choice_later w new l h none t r.adopted r.length
            (put_each (λ (t' : ℕ) (x : Book). (r' : Report) → x.choice ≡ Some r' → ChoiceFacts w t' r'.adopted r'.length) w.books s b step.book.choice
            (λ t' ne r' e'. h.choices t' r' e') t r e);
        kept = λ t r e came. kept_later w new l t r
            (put_each (λ (t' : ℕ) (x : Book). (r' : Report) → x.choice ≡ Some r' → ChoiceFacts w t' r'.adopted r'.length) w.books s b step.book.choice
            (λ t' ne r' e'. h.choices t' r' e') t r e)
            (put_each (λ (t' : ℕ) (x : Book). (r' : Report) → x.choice ≡ Some r' → x.repaired ≡ true
            → (r'.length ≤ length x.log) × (take r'.length x.log ≡ take r'.length (w.books r'.adopted).log)) w.books s b step.book.kept
            (λ t' ne r' e' c'. (let k = h.kept t' r' e' c' in (k.long, k.same))) t r e came);
        lows = λ i. low_later w new l (w.nodes i) (h.lows i);
        staged = λ i. staged_later w new l h (w.nodes i) (h.staged i);
        sent = sent_later w new l h;
        active = put_each (λ (u : ℕ) (sv : ServerState). is_active sv.phase ≡ true → ActiveFacts new sv) w.servers v after
            (λ a. active_later w new l (omega arith) after (step.active a))
            (λ u ne a. active_later w new l (omega arith) (w.servers u) (h.active u a));
        phases = put_each (λ (u : ℕ) (sv : ServerState). PhaseFacts (config_of w.cluster) new.books sv sv.phase) w.servers v after step.phase
            (λ u ne. others_phase w new l h (w.servers u) (w.servers u).phase (λ a. put_other w.books s b (w.servers u).session (step.apart u ne a)) (h.phases u));
        distinct = put_each (λ (u : ℕ) (sv : ServerState). (u' : ℕ) → u ≢ u' → is_active sv.phase ≡ true → is_active (new.servers u').phase ≡ true
            → sv.session ≢ (new.servers u').session) w.servers v after
            (put_each (λ (u' : ℕ) (sv' : ServerState). v ≢ u' → is_active after.phase ≡ true → is_active sv'.phase ≡ true
            → after.session ≢ sv'.session) w.servers v after
            (λ ne a a' e. ne refl) (λ u' ne ne' a a' e. step.apart u' ne a' (sym e)))
            (λ u ne. put_each
            (λ (u' : ℕ) (sv' : ServerState). u ≢ u' → is_active (w.servers u).phase ≡ true → is_active sv'.phase ≡ true
            → (w.servers u).session ≢ sv'.session) w.servers v after
            (λ ne' a a'. step.apart u ne a) (λ u' ne' d a a'. h.distinct u u' d a a'));
        repaired = put_each (λ (t : ℕ) (x : Book). x.repaired ≡ true → (r : Report) × (x.choice ≡ Some r)) w.books s b step.book.repaired
            (λ t ne. h.repaired t);
        unrepaired = put_each (λ (t : ℕ) (x : Book). x.repaired ≡ false → x.log ≡ []) w.books s b step.book.unrepaired (λ t ne. h.unrepaired t);
        unused = put_each (λ (t : ℕ) (x : Book). w.number < t → x ≡ empty_book) w.books s b step.book.unused (λ t ne. h.unused t);
        none = none;
        clean = put_each (λ (t : ℕ) (x : Book). IsClean x.log) w.books s b step.book.clean (λ t ne. h.clean t);
        ids = put_each (λ (t : ℕ) (x : Book). HasIds x.log) w.books s b step.book.ids (λ t ne. h.ids t);
      };
    }

-- the requests that wait are no part of the law

waiting_book : (n : Config) (b : Book) (sv : ServerState) (x : List Waiting) (p : Phase) → book_in p n sv b ≡ book_in p n (record sv { waiting = x }) b
waiting_book n b sv x Idle = refl
waiting_book n b sv x Opening = refl
waiting_book n b sv x Fetching = refl
waiting_book n b sv x Repairing = refl
waiting_book n b sv x Running = refl
waiting_book n b sv x (Closed p) = refl

waiting_phase : (n : Config) (books : ℕ → Book) (sv : ServerState) (x : List Waiting) (p : Phase) → PhaseFacts n books sv p
    → PhaseFacts n books (record sv { waiting = x }) p
waiting_phase n books sv x Idle f = tt
waiting_phase n books sv x Opening f = record { few = f.few; log = f.log; book = f.book }
waiting_phase n books sv x Fetching f = record { choice = f.choice; chose = f.chose; book = f.book; front = f.front; listed = f.listed }
waiting_phase n books sv x Repairing f = record { choice = f.choice; chose = f.chose; book = f.book }
waiting_phase n books sv x Running f = record { choice = f.choice; chose = f.chose; book = f.book }
waiting_phase n books sv x (Closed p) f = tt

waiting_active : (w : WorldState) (sv : ServerState) (x : List Waiting) → ActiveFacts w sv → ActiveFacts w (record sv { waiting = x })
waiting_active w sv x f =
    record { some = f.some; known = f.known; reports = f.reports; listed = f.listed; counted = f.counted; acks = f.acks; unacked = f.unacked }

pub waiting_step : (w : WorldState) (v : ℕ) (after : ServerState) (x : List Waiting) → ServerStep w v after
    → ServerStep w v (record after { waiting = x })
waiting_step w v after x f =
    let same = waiting_book (config_of w.cluster) (w.books after.session) after x after.phase in
    record {
      book = subst (BookStep w after.session) same f.book;
      apart = f.apart;
      active = λ a. waiting_active w after x (f.active a);
      phase = subst (λ (b : Book). PhaseFacts (config_of w.cluster) (put w.books after.session b) (record after { waiting = x }) after.phase) same
          (waiting_phase (config_of w.cluster)
          (put w.books after.session (book_in after.phase (config_of w.cluster) after (w.books after.session))) after x after.phase f.phase);
    }
