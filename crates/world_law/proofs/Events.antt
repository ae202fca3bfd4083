-- Events that lead onward: a compare-and-set, and what a client sends. The start holds.
use Rattle.std.proofs.Common.{◌≡◌, ℕ, zero, suc, ◌+◌, ◌==◌, if◌then◌else◌, arith, refl, sym, ◌∙◌, [], ◌∷◌, Option, Some, None, true≢false}
use Rattle.proto_model.proofs.TableLemmas.{AllByRecursion-get}
use Rattle.client_core.specs.Clients.{after_build}
use Rattle.proto_model.specs.Servers.{drawn}
use Rattle.proto_model.specs.Tables.{put}
use Rattle.proto_model.specs.declared.client_message.ToServer.{ToServer}
use Rattle.session_register.specs.Registers.{last_session, cas_answer}
use Rattle.std.specs.List.{AllByRecursion}
use Rattle.proto_model.specs.declared.refusal.BuildFault.{BuildFault}
use Rattle.world_law.specs.Worlds.{with_client, empty_book, WorldState, start, with_server, with_sent, envelope_of}
use Rattle.world_law.specs.Steps.{after_answer, after_cas, asked, submitted}
use Rattle.net_model.specs.declared.cluster.Cluster.{Cluster}
use Rattle.net_model.specs.declared.mail.Envelope.{Envelope}
use Rattle.session_register.specs.declared.register.Cas.{Cas}
use Rattle.world_law.proofs.Invariant.{Warranted, Holds}
use Rattle.world_law.proofs.Later.{Onward, stay, onward_trans}
use Rattle.world_law.proofs.LightFrame.{number_event, clients_event, sent_event}
use Rattle.world_law.proofs.Lists.{still}
use Rattle.world_law.proofs.Places.{clean_none, ids_none}
use Rattle.world_law.proofs.ServerFrame.{server_event}
use Rattle.world_law.proofs.ServerAcks.{book_stays}
use Rattle.world_law.proofs.Tables.{put_same}
use Rattle.world_law.proofs.Tests.{if_each}
use Rattle.session_register.specs.declared.register.Cas.TheVariants as cas

-- the register rises, and then the server begins
pub won_event : (w : WorldState) → Holds w → (v s : ℕ) (kept : ℕ → Option ℕ) → s ≡ w.number + 1
    → Onward w (with_server (record w { number = s; kept = kept }) v (drawn s))
won_event w h v s kept at =
    let mid = record w { number = s; kept = kept } in
    let o : Onward w mid = number_event w h s kept (omega arith) in
    let g = o.holds in
    let unused : w.books s ≡ empty_book = h.unused s (omega arith) in
    onward_trans w mid (with_server mid v (drawn s)) o (server_event mid g v (drawn s) (record {
      book = book_stays mid g s;
      apart = λ u ne a e. (let k = (h.active u a).known in absurd (omega arith));
      active = λ a. record {
        some = omega arith;
        known = omega arith;
        reports = tt;
        listed = λ i e. absurd (true≢false (sym e));
        counted = omega arith;
        acks = λ i e. absurd (true≢false (sym e));
        unacked = λ i e. refl;
      };
      phase = record { few = omega arith; log = refl; book = put_same w.books s (w.books s) ∙ unused };
    }))

cas_answer_event : (w : WorldState) → Holds w → (v from : ℕ) → Onward w (after_answer w v (cas_answer w.number from))
cas_answer_event w h v from =
    let P : Cas → Type 0 = λ a. Onward w (after_answer w v a) in
    let kept = put w.kept v None in
    if_each P (w.number == from) (if w.number == last_session then cas.Exhausted else cas.Won (w.number + 1)) (cas.Lost w.number)
    (λ e. if_each P (w.number == last_session) cas.Exhausted (cas.Won (w.number + 1)) (λ e'. number_event w h w.number kept (omega arith))
    (λ e'. won_event w h v (w.number + 1) kept refl))
    (λ e. number_event w h w.number kept (omega arith))

pub cas_event : (w : WorldState) → Holds w → (v : ℕ) (o : Option ℕ) → Onward w (after_cas w v o)
cas_event w h v None = stay w h
cas_event w h v (Some from) = cas_answer_event w h v from

pub submit_event : (w : WorldState) → Holds w → (c v : ℕ) (m : ToServer) (o : Option BuildFault) → Onward w (submitted w c (asked c v m) o)
submit_event w h c v m None =
    let mid = with_client w c (after_build (w.clients c)) in
    let o = clients_event w h (put w.clients c (after_build (w.clients c))) in
    onward_trans w mid (with_sent mid (asked c v m ∷ [])) o (sent_event mid o.holds (asked c v m ∷ []) (tt, tt))
submit_event w h c v m (Some fault) = stay w h

none_some : {A : Type 0} (a : A) → None ≡ Some a → ⊥
none_some a e = cc

-- what holds of every envelope that was sent holds of the one of a number
pub envelope_get : (P : Envelope → Type 0) (w : WorldState) → AllByRecursion P w.sent → (k : ℕ) (e : Envelope) → envelope_of w k ≡ Some e → P e
envelope_get P w all zero e is = absurd (none_some e is)
envelope_get P w all (suc k) e is = AllByRecursion-get P w.sent k e all is

-- what was sent is warranted
pub envelope_warranted : (w : WorldState) → Holds w → (k : ℕ) (e : Envelope) → envelope_of w k ≡ Some e → Warranted w e
envelope_warranted w h k e is = envelope_get (λ (x : Envelope). Warranted w x) w h.sent k e is

pub at_start : (c : Cluster) → Holds (start c)
at_start c = record {
  nodes = λ i. record {
    promised = omega arith;
    front = still [];
    based = omega arith;
    own = λ some. absurd (omega arith);
    above = λ s k lt. refl;
    most = λ k e. absurd (true≢false (sym e));
  };
  votes = λ i s k e. absurd (true≢false (sym e));
  based = λ i s e. absurd (true≢false (sym e));
  choices = λ s r e. absurd (none_some r e);
  kept = λ s r e came. absurd (none_some r e);
  lows = λ i. record { fits = omega arith; committed = λ some. absurd (omega arith) };
  staged = λ i. record { none = λ e. refl; chosen = λ some. absurd (omega arith); slice = λ some. absurd (omega arith) };
  sent = tt;
  active = λ v a. absurd (true≢false (sym a));
  phases = λ v. tt;
  distinct = λ u v ne a b. absurd (true≢false (sym a));
  repaired = λ s e. absurd (true≢false (sym e));
  unrepaired = λ s e. refl;
  unused = λ s lt. refl;
  none = refl;
  clean = λ s. clean_none;
  ids = λ s. ids_none;
}
