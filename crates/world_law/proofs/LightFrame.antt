-- Events that change neither nodes, servers, books nor votes.
use Rattle.std.proofs.Common.{ℕ, ◌≤◌, arith, refl, List, ◌++◌, Option}
use Rattle.proto_model.proofs.TableLemmas.{AllByRecursion-append}
use Rattle.client_core.specs.Clients.{ClientState}
use Rattle.world_law.specs.Worlds.{WorldState, with_sent}
use Rattle.net_model.specs.declared.mail.Envelope.{Envelope}
use Rattle.std.specs.List.{AllByRecursion}
use Rattle.world_law.proofs.Invariant.{Warranted, Holds}
use Rattle.world_law.proofs.Later.{Later, Onward, choice_later, low_later, staged_later, warranted_later, all_implied, sent_later, active_later}
use Rattle.world_law.proofs.Lists.{still}

light_later : (w : WorldState) (r : ℕ) (kept : ℕ → Option ℕ) (clients : ℕ → ClientState) (sent : List Envelope) (cursor : ℕ)
    → Later w (record w { number = r; kept = kept; clients = clients; sent = sent; cursor = cursor })
light_later w r kept clients sent cursor = record {
  cluster = refl;
  promised = λ i. omega arith;
  cast = λ i s k e. e;
  frozen = λ i s k lt. refl;
  chosen = λ s x e. e;
  repaired = λ s e. e;
  grown = λ s. still (w.books s).log;
}

light : (w : WorldState) → Holds w → (r : ℕ) (kept : ℕ → Option ℕ) (clients : ℕ → ClientState) (sent : List Envelope) (cursor : ℕ)
    → w.number ≤ r
    → AllByRecursion (λ (e : Envelope). Warranted (record w { number = r; kept = kept; clients = clients; sent = sent; cursor = cursor }) e) sent
    → Onward w (record w { number = r; kept = kept; clients = clients; sent = sent; cursor = cursor })
light w h r kept clients sent cursor le warranted =
    let new = record w { number = r; kept = kept; clients = clients; sent = sent; cursor = cursor } in
    let l = light_later w r kept clients sent cursor in
    record {
      later = l;
      holds = record {
        nodes = h.nodes;
        votes = h.votes;
        based = h.based;
        choices = λ s x e. choice_later w new l h h.none s x.adopted x.length (h.choices s x e);
        kept = h.kept;
        lows = λ i. low_later w new l (w.nodes i) (h.lows i);
        staged = λ i. staged_later w new l h (w.nodes i) (h.staged i);
        sent = warranted;
        active = λ v a. active_later w new l le (w.servers v) (h.active v a);
        phases = h.phases;
        distinct = h.distinct;
        repaired = h.repaired;
        unrepaired = h.unrepaired;
        unused = λ s lt. h.unused s (omega arith);
        none = h.none;
        clean = h.clean;
        ids = h.ids;
      };
    }

-- the register rises, and numbers are kept
pub number_event : (w : WorldState) → Holds w → (r : ℕ) (kept : ℕ → Option ℕ) → w.number ≤ r
    → Onward w (record w { number = r; kept = kept })
number_event w h r kept le =
    light w h r kept w.clients w.sent w.cursor le (sent_later w (record w { number = r; kept = kept }) (light_later w r kept w.clients w.sent w.cursor) h)

pub clients_event : (w : WorldState) → Holds w → (clients : ℕ → ClientState) → Onward w (record w { clients = clients })
clients_event w h clients =
    light w h w.number w.kept clients w.sent w.cursor (omega arith)
    (sent_later w (record w { clients = clients }) (light_later w w.number w.kept clients w.sent w.cursor) h)

pub cursor_event : (w : WorldState) → Holds w → (cursor : ℕ) → Onward w (record w { cursor = cursor })
cursor_event w h cursor =
    light w h w.number w.kept w.clients w.sent cursor (omega arith)
    (sent_later w (record w { cursor = cursor }) (light_later w w.number w.kept w.clients w.sent cursor) h)

-- envelopes are sent
pub sent_event : (w : WorldState) → Holds w → (more : List Envelope) → AllByRecursion (λ (e : Envelope). Warranted w e) more
    → Onward w (with_sent w more)
sent_event w h more warranted =
    let new = with_sent w more in
    let l : Later w new = light_later w w.number w.kept w.clients (w.sent ++ more) w.cursor in
    light w h w.number w.kept w.clients (w.sent ++ more) w.cursor (omega arith)
    (AllByRecursion-append (λ (e : Envelope). Warranted new e) w.sent more (sent_later w new l h)
    (all_implied (λ (e : Envelope). Warranted w e) (λ (e : Envelope). Warranted new e) (λ e f. warranted_later w new l h e f) more warranted))
