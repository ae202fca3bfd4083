-- A later world, and what stays true by that alone.
use Rattle.std.proofs.Common.{◌≡◌, ℕ, zero, suc, ◌+◌, ◌-◌, ◌<◌, ◌≤◌, ◌⊎◌, Bool, true, false, arith, refl, sym, ◌∙◌, inl, inr, List, [], ◌∷◌, ◌++◌, length, Option, Some, le_trans}
use Rattle.proto_model.specs.Quorums.{count}
use Rattle.proto_model.specs.Replicas.{ReplicaState}
use Rattle.proto_model.specs.Servers.{ServerState, length_of}
use Rattle.proto_model.specs.declared.message.FromNode.{FromNode}
use Rattle.proto_model.specs.declared.message.FromNode.TheVariants.{Opened, Stale, Unopened, Records, Staged, StageAt, Adopted, Acked, Gap, NotAdopted, LowSet}
use Rattle.proto_model.specs.declared.message.Report.{Report}
use Rattle.proto_model.specs.declared.message.ToNode.{ToNode}
use Rattle.proto_model.specs.declared.message.ToNode.TheVariants.{Open, Fetch, Stage, Adopt, Append, Low}
use Rattle.world_law.specs.OneLog.{voted, IsCommitted}
use Rattle.world_law.specs.Worlds.{empty_book, WorldState}
use Rattle.net_model.specs.declared.mail.Envelope.{Envelope}
use Rattle.net_model.specs.declared.mail.Mail.{Mail}
use Rattle.net_model.specs.declared.mail.Party.{Party}
use Rattle.std.specs.List.{AllByRecursion}
use Rattle.tx_model.specs.Records.{first_id}
use Rattle.tx_model.specs.declared.record.Record.{Record}
use Rattle.world_law.proofs.Invariant.{IsGreatest, ChoiceFacts, LowFacts, StagedFacts, OpenedFacts, OpenedWarrant, RecordsWarrant, StageWarrant, AskWarrant, ReplyWarrant, AskedWarrant, RepliedWarrant, MailWarrant, Warranted, ActiveFacts, Holds}
use Rattle.world_law.proofs.Lists.{IsFront, IsSlice, IsPart, still, front_trans}
use Rattle.world_law.proofs.Places.{front_at}
use Rattle.world_law.specs.Promises.{chosen_log}
use Rattle.net_model.specs.declared.mail.Party.TheVariants as party
use Rattle.net_model.specs.declared.mail.Mail.TheVariants as mail

-- new is old or later
pub record Later (old new : WorldState) : Type 0 where
  pub cluster : new.cluster ≡ old.cluster
  pub promised : (i : ℕ) → (old.nodes i).promised ≤ (new.nodes i).promised
  pub cast : (i s k : ℕ) → voted old.votes s k i ≡ true → voted new.votes s k i ≡ true
  pub frozen : (i s k : ℕ) → s < (old.nodes i).promised → voted new.votes s k i ≡ voted old.votes s k i
  pub chosen : (s : ℕ) (r : Report) → (old.books s).choice ≡ Some r → (new.books s).choice ≡ Some r
  pub repaired : (s : ℕ) → (old.books s).repaired ≡ true → (new.books s).repaired ≡ true
  pub grown : (s : ℕ) → IsFront (old.books s).log (new.books s).log

-- the invariant holds in what comes later
pub record Onward (old new : WorldState) : Type 0 where
  pub holds : Holds new
  pub later : Later old new

pub stay : (w : WorldState) → Holds w → Onward w w
stay w h = record {
  holds = h;
  later = record { cluster = refl; promised = λ i. omega arith; cast = λ i s k e. e; frozen = λ i s k lt. refl; chosen = λ s r e. e; repaired = λ s e. e; grown = λ s. still (w.books s).log };
}

pub onward_trans : (u v w : WorldState) → Onward u v → Onward v w → Onward u w
onward_trans u v w f g =
    let a = f.later in let b = g.later in
    record {
      holds = g.holds;
      later = record {
        cluster = b.cluster ∙ a.cluster;
        promised = λ i. le_trans (a.promised i) (b.promised i);
        cast = λ i s k e. b.cast i s k (a.cast i s k e);
        frozen = λ i s k lt. b.frozen i s k (le_trans lt (a.promised i)) ∙ a.frozen i s k lt;
        chosen = λ s r e. b.chosen s r (a.chosen s r e);
        repaired = λ s e. b.repaired s (a.repaired s e);
        grown = λ s. front_trans (u.books s).log (v.books s).log (w.books s).log (a.grown s) (b.grown s);
      };
    }

-- counts of what is implied
step_counts : (p r : ℕ → Bool) (n : ℕ) → (p (suc n) ≡ true → r (suc n) ≡ true) → count p n ≤ count r n
    → count p (suc n) ≤ count r (suc n)
step_counts p r n at le = grind arith

pub counts : (p r : ℕ → Bool) (n : ℕ) → ((i : ℕ) → p i ≡ true → r i ≡ true) → count p n ≤ count r n
counts p r zero h = omega arith
counts p r (suc n) h = step_counts p r n (h (suc n)) (counts p r n h)

pub committed_later : (old new : WorldState) → Later old new → (s k : ℕ) → IsCommitted old s k → IsCommitted new s k
committed_later old new l s k c = record {
  some = c.some;
  enough = rw l.cluster (le_trans c.enough (counts (voted old.votes s k) (voted new.votes s k) old.cluster.nodes (λ i. l.cast i s k)));
}

-- votes below what is promised
pub greatest_later : (old new : WorldState) → Later old new → (i s a len : ℕ) → s ≤ (old.nodes i).promised → IsGreatest old.votes i s a len
    → IsGreatest new.votes i s a len
greatest_later old new l i s a len le g = record {
  before = g.before;
  none = λ t k at lt. l.frozen i t k (omega arith) ∙ g.none t k at lt;
  most = λ k v. g.most k (sym (l.frozen i a k (let b = g.before in omega arith)) ∙ v);
  own = λ some. l.cast i a len (g.own some);
  zero = g.zero;
}

pub greatest_before : (old new : WorldState) → Later old new → (i s a len : ℕ) → s ≤ (old.nodes i).promised → IsGreatest new.votes i s a len
    → IsGreatest old.votes i s a len
greatest_before old new l i s a len le g = record {
  before = g.before;
  none = λ t k at lt. sym (l.frozen i t k (omega arith)) ∙ g.none t k at lt;
  most = λ k v. g.most k (l.cast i a k v);
  own = λ some. sym (l.frozen i a len (let b = g.before in omega arith)) ∙ g.own some;
  zero = g.zero;
}

base_chosen : (o : Option Report) (r : Report) → o ≡ Some r → length_of o ≡ r.length
base_chosen o r e = rw e

-- the length of a chosen log only changes with the choice
pub base_later : (old new : WorldState) → Later old new → Holds old → (s : ℕ) → (old.books s).repaired ≡ true
    → length_of (new.books s).choice ≡ length_of (old.books s).choice
base_later old new l h s came =
    let r = h.repaired s came in
    base_chosen (new.books s).choice r.0 (l.chosen s r.0 r.1) ∙ sym (base_chosen (old.books s).choice r.0 r.1)

-- a choice, from what came before it
pub base_of_came : (old new : WorldState) → Later old new → Holds old → (new.books 0 ≡ empty_book) → (c : ℕ)
    → (c ≡ 0) ⊎ ((old.books c).repaired ≡ true) → length_of (new.books c).choice ≡ length_of (old.books c).choice
base_of_came old new l h none c (inl e) = rw (e, none, h.none)
base_of_came old new l h none c (inr came) = base_later old new l h c came

came_later : (old new : WorldState) → Later old new → (c : ℕ) → (c ≡ 0) ⊎ ((old.books c).repaired ≡ true)
    → (c ≡ 0) ⊎ ((new.books c).repaired ≡ true)
came_later old new l c (inl e) = inl e
came_later old new l c (inr came) = inr (l.repaired c came)

pub choice_later : (old new : WorldState) → Later old new → Holds old → (new.books 0 ≡ empty_book) → (s c len : ℕ) → ChoiceFacts old s c len
    → ChoiceFacts new s c len
choice_later old new l h none s c len f = record {
  before = f.before;
  came = came_later old new l c f.came;
  fits = (let g = (l.grown c).fits in let e = f.fits in omega arith);
  grows = (let e = base_of_came old new l h none c f.came in let g = f.grows in omega arith);
  members = f.members;
  enough = rw l.cluster f.enough;
  promised = λ i m. le_trans (f.promised i m) (l.promised i);
  silent = λ i t k m at lt. l.frozen i t k (let p = f.promised i m in omega arith) ∙ f.silent i t k m at lt;
  longest = λ i k m v. f.longest i k m (sym (l.frozen i c k (let p = f.promised i m in let b = f.before in omega arith)) ∙ v);
}

-- the chosen log is the same
pub chosen_later : (old new : WorldState) → Later old new → Holds old → (s : ℕ) (r : Report) → (old.books s).choice ≡ Some r
    → chosen_log new s ≡ chosen_log old s
chosen_later old new l h s r e =
    let f = h.choices s r e in
    rw (e, l.chosen s r e) (front_at r.length (old.books r.adopted).log (new.books r.adopted).log (l.grown r.adopted) f.fits)

slice_front : (xs ys zs : List Record) (at : ℕ) → IsSlice xs at ys → IsFront ys zs → IsSlice xs at zs
slice_front xs ys zs at s f = record {
  fits = (let a = s.fits in let b = f.fits in omega arith);
  same = λ i d lt. s.same i d lt ∙ f.same (at + i) d (let a = s.fits in omega arith);
}

pub low_later : (old new : WorldState) → Later old new → (n : ReplicaState) → LowFacts old n → LowFacts new n
low_later old new l n f = record {
  fits = f.fits;
  committed = λ some. (let c = f.committed some in (c.0, c.1, committed_later old new l c.0 c.1 c.2, c.3, c.4));
}

pub staged_later : (old new : WorldState) → Later old new → Holds old → (n : ReplicaState) → StagedFacts old n → StagedFacts new n
staged_later old new l h n f = record {
  none = f.none;
  chosen = λ some. (let r = f.chosen some in (r.0, l.chosen n.promised r.0 r.1));
  slice = λ some. (let r = f.chosen some in rw (chosen_later old new l h n.promised r.0 r.1) (f.slice some));
}

still_false : (a b : Bool) → (a ≡ true → b ≡ true) → b ≡ false → a ≡ false
still_false a b h e = grind arith

pub greatest_fits : (w : WorldState) → Holds w → (i s a len : ℕ) → IsGreatest w.votes i s a len → len ≤ length (w.books a).log
greatest_fits w h i s zero len g = rw (g.zero refl) (omega arith)
greatest_fits w h i s (suc a) len g = (h.votes i (suc a) len (g.own (omega arith))).fits

opened_later : (old new : WorldState) → Later old new → (i s a len : ℕ) → OpenedWarrant old i s a len → OpenedWarrant new i s a len
opened_later old new l i s a len f =
    record { node = rw l.cluster f.node; promised = le_trans f.promised (l.promised i); greatest = greatest_later old new l i s a len f.promised f.greatest }

facts_later : (old new : WorldState) → Later old new → (i s a len : ℕ) → OpenedFacts old i s a len → OpenedFacts new i s a len
facts_later old new l i s a len f =
    record { promised = le_trans f.promised (l.promised i); greatest = greatest_later old new l i s a len f.promised f.greatest }

records_later : (old new : WorldState) → Later old new → Holds old → (i s : ℕ) (batch : List Record) → RecordsWarrant old i s batch
    → RecordsWarrant new i s batch
records_later old new l h i s batch f = record {
  promised = le_trans f.promised (l.promised i);
  part = λ not_yet a len g.
      (let g' = greatest_before old new l i s a len f.promised g in
      let fits = greatest_fits old h i s a len g' in
      rw (front_at len (old.books a).log (new.books a).log (l.grown a) fits) (f.part (still_false (old.books s).repaired (new.books s).repaired (l.repaired s) not_yet) a len g'));
}

stage_later : (old new : WorldState) → Later old new → Holds old → (s : ℕ) (batch : List Record) → StageWarrant old s batch
    → StageWarrant new s batch
stage_later old new l h s batch f = record {
  some = f.some;
  chosen = (f.chosen.0, l.chosen s f.chosen.0 f.chosen.1);
  part = rw (chosen_later old new l h s f.chosen.0 f.chosen.1) f.part;
}

part_front : (xs ys zs : List Record) → IsPart xs ys → IsFront ys zs → IsPart xs zs
part_front xs ys zs p f = record { some = p.some; slice = slice_front xs ys zs (first_id xs - 1) p.slice f }

ask_later : (old new : WorldState) → Later old new → Holds old → (i : ℕ) (m : ToNode) → AskWarrant old i m → AskWarrant new i m
ask_later old new l h i (Open s) f = f
ask_later old new l h i (Fetch s from most) f = f
ask_later old new l h i (Stage s batch) f = stage_later old new l h s batch f
ask_later old new l h i (Adopt s len) f =
    record { some = f.some; repaired = l.repaired s f.repaired; chosen_len = f.chosen_len ∙ sym (base_later old new l h s f.repaired) }
ask_later old new l h i (Append s batch) f =
    record { some = f.some; repaired = l.repaired s f.repaired; part = part_front batch (old.books s).log (new.books s).log f.part (l.grown s) }
ask_later old new l h i (Low s k) f = committed_later old new l s k f

reply_later : (old new : WorldState) → Later old new → Holds old → (i : ℕ) (m : FromNode) → ReplyWarrant old i m → ReplyWarrant new i m
reply_later old new l h i (Opened s a low len) f = λ lt. facts_later old new l i s a len (f lt)
reply_later old new l h i (Records s batch) f = records_later old new l h i s batch f
reply_later old new l h i (Adopted s len) f = l.cast i s len f
reply_later old new l h i (Acked s len) f = l.cast i s len f
reply_later old new l h i (Stale s p) f = tt
reply_later old new l h i (Unopened s p) f = tt
reply_later old new l h i (Staged s upto) f = tt
reply_later old new l h i (StageAt s next) f = tt
reply_later old new l h i (Gap s len) f = tt
reply_later old new l h i (NotAdopted s a) f = tt
reply_later old new l h i (LowSet s low) f = tt

asked_later : (old new : WorldState) → Later old new → Holds old → (m : ToNode) (to : Party) → AskedWarrant old m to → AskedWarrant new m to
asked_later old new l h m (party.Node i) f = ask_later old new l h i m f
asked_later old new l h m (party.Server v) f = tt
asked_later old new l h m (party.Client c) f = tt

replied_later : (old new : WorldState) → Later old new → Holds old → (m : FromNode) (from : Party) → RepliedWarrant old m from
    → RepliedWarrant new m from
replied_later old new l h m (party.Node i) f = reply_later old new l h i m f
replied_later old new l h m (party.Server v) f = tt
replied_later old new l h m (party.Client c) f = tt

mail_later : (old new : WorldState) → Later old new → Holds old → (from to : Party) (m : Mail) → MailWarrant old from to m
    → MailWarrant new from to m
mail_later old new l h from to (mail.ToNode m) f = asked_later old new l h m to f
mail_later old new l h from to (mail.FromNode m) f = replied_later old new l h m from f
mail_later old new l h from to (mail.ToServer m) f = tt
mail_later old new l h from to (mail.FromServer m) f = tt

pub warranted_later : (old new : WorldState) → Later old new → Holds old → (e : Envelope) → Warranted old e → Warranted new e
warranted_later old new l h e f = mail_later old new l h e.from e.to e.message f

pub all_implied : {A : Type 0} (P Q : A → Type 0) → ((x : A) → P x → Q x) → (xs : List A) → AllByRecursion P xs → AllByRecursion Q xs
all_implied P Q f [] h = tt
all_implied P Q f (x ∷ xs) h = (f x h.0, all_implied P Q f xs h.1)

pub all_append : {A : Type 0} (P : A → Type 0) (xs ys : List A) → AllByRecursion P xs → AllByRecursion P ys → AllByRecursion P (xs ++ ys)
all_append P [] ys h g = g
all_append P (x ∷ xs) ys h g = (h.0, all_append P xs ys h.1 g)

pub sent_later : (old new : WorldState) → Later old new → Holds old → AllByRecursion (λ (e : Envelope). Warranted new e) old.sent
sent_later old new l h =
    all_implied (λ (e : Envelope). Warranted old e) (λ (e : Envelope). Warranted new e) (λ e f. warranted_later old new l h e f) old.sent h.sent

-- where the register doesn't fall
pub active_later : (old new : WorldState) → Later old new → old.number ≤ new.number → (sv : ServerState) → ActiveFacts old sv → ActiveFacts new sv
active_later old new l le sv f = record {
  some = f.some;
  known = le_trans f.known le;
  reports = all_implied (λ (r : Report). OpenedWarrant old r.node sv.session r.adopted r.length)
      (λ (r : Report). OpenedWarrant new r.node sv.session r.adopted r.length)
      (λ r g. opened_later old new l r.node sv.session r.adopted r.length g) sv.reports f.reports;
  listed = f.listed;
  counted = rw l.cluster f.counted;
  acks = λ i a. l.cast i sv.session (sv.acked i) (f.acks i a);
  unacked = f.unacked;
}
