-- Every event leaves served what it finds served.
use Rattle.std.proofs.Common.{◌≡◌, ℕ, ◌⊎◌, true, ap, sym, ◌∙◌, inl, inr, subst, List, ◌++◌}
use Rattle.proto_model.proofs.TableLemmas.{AllByRecursion-append}
use Rattle.client_core.specs.Clients.{ClientState}
use Rattle.proto_model.specs.Servers.{ServerState, is_active}
use Rattle.proto_model.specs.Serving.{committed_log}
use Rattle.proto_model.specs.Tables.{put}
use Rattle.world_law.specs.OneLog.{one_log}
use Rattle.world_law.specs.Safety.{IsApplied}
use Rattle.world_law.specs.Worlds.{WorldState, config_of}
use Rattle.net_model.specs.declared.cluster.Cluster.{Cluster}
use Rattle.net_model.specs.declared.mail.Envelope.{Envelope}
use Rattle.tx_model.specs.declared.record.Record.{Record}
use Rattle.world_law.proofs.Invariant.{Holds}
use Rattle.world_law.proofs.Later.{Onward}
use Rattle.world_law.proofs.Lists.{IsFront, front_trans}
use Rattle.world_law.proofs.OneLog.{one_log_grows}
use Rattle.world_law.proofs.Served.{Served, sent_longer, applied_longer}
use Rattle.world_law.proofs.Shown.{active_shown, StaysShown}
use Rattle.world_law.proofs.Tables.{put_same, put_each}
use Rattle.world_law.specs.Promises.{MailStands, AllStand}

-- what is carried to a later world
pub carried_sent : (w new : WorldState) → Holds w → Onward w new → Served w → AllStand (one_log new) w.sent
carried_sent w new h o s = sent_longer (one_log w) (one_log new) (one_log_grows w new h o) w.sent s.sent

carried_applied : (w new : WorldState) → Holds w → Onward w new → Served w → (c : ℕ) → IsApplied (one_log new) (w.clients c)
carried_applied w new h o s c = applied_longer (one_log w) (one_log new) (one_log_grows w new h o) (w.clients c) (s.applied c)

carried_shown : (w new : WorldState) → Holds w → Onward w new → Served w → (v : ℕ)
    → IsFront (committed_log (config_of new.cluster) (w.servers v)) (one_log new)
carried_shown w new h o s v =
    subst (λ (c : Cluster). IsFront (committed_log (config_of c) (w.servers v)) (one_log new)) (sym o.later.cluster)
    (front_trans (committed_log (config_of w.cluster) (w.servers v)) (one_log w) (one_log new) (s.shown v) (one_log_grows w new h o))

-- a server that changed is active, or shows what it did, or nothing
abbrev pub MayShow : WorldState → ServerState → ServerState → Type 0
MayShow new old sv =
    (is_active sv.phase ≡ true) ⊎
    (IsFront (committed_log (config_of new.cluster) old) (one_log new) → IsFront (committed_log (config_of new.cluster) sv) (one_log new))

pub may_show : (new : WorldState) (old sv : ServerState) → StaysShown (config_of new.cluster) old sv → MayShow new old sv
may_show new old sv (inl act) = inl act
may_show new old sv (inr same) = inr (λ f. subst (λ (log : List Record). IsFront log (one_log new)) (sym same) f)

changed_shown : (new : WorldState) → Holds new → (old : ServerState) (v : ℕ) → IsFront (committed_log (config_of new.cluster) old) (one_log new)
    → MayShow new old (new.servers v) → IsFront (committed_log (config_of new.cluster) (new.servers v)) (one_log new)
changed_shown new g old v f (inl act) = active_shown new g v act
changed_shown new g old v f (inr kept) = kept f

-- an event of which clients and servers know nothing
pub unseen : (w new : WorldState) → Holds w → Onward w new → Served w → new.servers ≡ w.servers → new.clients ≡ w.clients
    → AllStand (one_log new) new.sent → Served new
unseen w new h o s servers clients sent = record {
  sent = sent;
  shown = λ v. subst (λ (f : ℕ → ServerState). IsFront (committed_log (config_of new.cluster) (f v)) (one_log new)) (sym servers)
      (carried_shown w new h o s v);
  applied = λ c. subst (λ (f : ℕ → ClientState). IsApplied (one_log new) (f c)) (sym clients) (carried_applied w new h o s c);
}

-- more envelopes, which fit the log of before
pub more_fit : (w new : WorldState) → Holds w → Onward w new → Served w → (more : List Envelope) → AllStand (one_log w) more
    → AllStand (one_log new) (w.sent ++ more)
more_fit w new h o s more fit =
    AllByRecursion-append (λ (e : Envelope). MailStands (one_log new) e.message) w.sent more (carried_sent w new h o s)
    (sent_longer (one_log w) (one_log new) (one_log_grows w new h o) more fit)

-- an event that changes one server
pub server_served : (w new : WorldState) → Holds w → Onward w new → Served w → (v : ℕ) (sv : ServerState) → new.servers ≡ put w.servers v sv
    → new.clients ≡ w.clients → MayShow new (w.servers v) sv → AllStand (one_log new) new.sent → Served new
server_served w new h o s v sv servers clients may sent = record {
  sent = sent;
  shown = λ u. subst (λ (f : ℕ → ServerState). IsFront (committed_log (config_of new.cluster) (f u)) (one_log new)) (sym servers)
      (put_each (λ (k : ℕ) (x : ServerState). IsFront (committed_log (config_of new.cluster) x) (one_log new)) w.servers v sv here
      (λ k ne. carried_shown w new h o s k) u);
  applied = λ c. subst (λ (f : ℕ → ClientState). IsApplied (one_log new) (f c)) (sym clients) (carried_applied w new h o s c);
}
  where
    own : new.servers v ≡ sv
    own = ap (λ (f : ℕ → ServerState). f v) servers ∙ put_same w.servers v sv

    here : IsFront (committed_log (config_of new.cluster) sv) (one_log new)
    here = subst (λ (x : ServerState). IsFront (committed_log (config_of new.cluster) x) (one_log new)) own
        (changed_shown new o.holds (w.servers v) v (carried_shown w new h o s v) (subst (λ (x : ServerState). MayShow new (w.servers v) x) (sym own) may))

-- an event that changes one client
pub client_served : (w new : WorldState) → Holds w → Onward w new → Served w → (c : ℕ) (cl : ClientState) → new.servers ≡ w.servers
    → new.clients ≡ put w.clients c cl → IsApplied (one_log new) cl → AllStand (one_log new) new.sent → Served new
client_served w new h o s c cl servers clients is sent = record {
  sent = sent;
  shown = λ v. subst (λ (f : ℕ → ServerState). IsFront (committed_log (config_of new.cluster) (f v)) (one_log new)) (sym servers)
      (carried_shown w new h o s v);
  applied = λ k. subst (λ (f : ℕ → ClientState). IsApplied (one_log new) (f k)) (sym clients)
      (put_each (λ (j : ℕ) (x : ClientState). IsApplied (one_log new) x) w.clients c cl is (λ j ne. carried_applied w new h o s j) k);
}

-- nothing but these are sent
pub sent_served : (w new : WorldState) → Holds w → Onward w new → Served w → (more : List Envelope) → new.servers ≡ w.servers
    → new.clients ≡ w.clients → new.sent ≡ w.sent ++ more → AllStand (one_log w) more → Served new
sent_served w new h o s more servers clients sent fit =
    unseen w new h o s servers clients (subst (AllStand (one_log new)) (sym sent) (more_fit w new h o s more fit))
