-- A node's turns, by its state, and what its files stand for after them.
use Rattle.std.proofs.Common.{◌≡◌, ℕ, Bool, false, refl, List, Some, subst, sym}
use Rattle.io_core.specs.Ports.{Answered}
use Rattle.disk_model.specs.History.{Files, History}
use Rattle.wire_codec.specs.declared.message.Message.{Message}
use Rattle.proto_model.specs.declared.message.Status.{Status}
use Rattle.proto_model.specs.declared.message.ToNode.{ToNode}
use Rattle.proto_model.specs.Replicas.{ReplicaState}
use Rattle.proto_model.specs.Held.{Contents}
use Rattle.partition_store.specs.Stands.{reads_of, held_now}
use Rattle.partition_store.specs.Stores.{Kept, state_of, IsStanding}
use Rattle.node_loops.specs.declared.requests.Asked.{Asked}
use Rattle.node_loops.specs.declared.end.End.{End}
use Rattle.node_loops.specs.declared.end.End.TheVariants as ends
use Rattle.node_loops.specs.Ends.{IsBlind}
use Rattle.node_loops.specs.Serving.{Desk, desk, Runs}
use Rattle.node_loops.specs.Storage.{IsNodeReply, IsNodeFault, FailsAt, NodeHides, goes_on}
use Rattle.serve_commands.specs.Storages.{Suiting, Breaking, NodeState, unbroken, Stepping, Stopping, LeavesAt, AreHeld, FilesStand, IsSure, GoesFrom, IsUndamaged}
use Rattle.serve_commands.proofs.Seen.{seen_runs}

pub stands_of : {D : Type 0} (history : D → History) (plain : Type 0) (n : NodeState) (a b : D) → a ≡ b
    → FilesStand (IsSure plain (history b).now) n.broke n (reads_of (history b).now)
    → FilesStand (IsSure plain (history a).now) n.broke n (reads_of (history a).now)
stands_of history plain n a b same stands =
    subst (λ d. FilesStand (IsSure plain (history d).now) n.broke n (reads_of (history d).now)) (sym same) stands

-- from an equal state
pub goes_from : (plain : Type 0) (r r' : ReplicaState) (f f' : ℕ) (coming coming' : List (List ℕ)) (answers answers' : List Answered) (end : End) (s : Files) → r ≡ r' → f ≡ f'
    → GoesFrom plain (unbroken r f) coming coming' answers answers' end s → GoesFrom plain (unbroken r' f') coming coming' answers answers' end s
goes_from plain r r' f f' coming coming' answers answers' end s p q goes = rw (p, q) at goes

-- a node that is not shut has files that stand for what it shows
pub node_held : {D : Type 0} (s : Files) (k : Kept D) (shown : Status) → shown ≡ k.status → IsStanding s k → AreHeld (unbroken (state_of s k) shown.file) (reads_of s)
node_held s k shown same is = record { held = held_now s; is = is.held; replica = refl; file = rw same (sym is.file) }

pub undamaged : (tells : Type 0) (end : End) → (IsBlind end → NodeHides tells end) → tells → IsUndamaged end
undamaged tells (ends.Damaged file place) hidden t = hidden tt t
undamaged tells ends.Bye hidden t = tt
undamaged tells ends.Port hidden t = tt
undamaged tells ends.Turns hidden t = tt
undamaged tells ends.Unheard hidden t = tt
undamaged tells ends.Peer hidden t = tt
undamaged tells ends.Disk hidden t = tt
undamaged tells (ends.TakenOver session) hidden t = tt
undamaged tells ends.Answer hidden t = tt
undamaged tells ends.Full hidden t = tt
undamaged tells ends.WriteFault hidden t = tt
undamaged tells ends.Memory hidden t = tt

module _ {R : Type 0} (tells : Type 0) (state : R → ReplicaState) (files : R → Contents) (sure : R → Type 0) (shut : R → Bool) (shown : R → Status) where
  -- whatever the state is
  pub suiting_runs : (a b : Desk R) (end : End) → Runs R (IsNodeReply tells state shut shown) (IsNodeFault tells state files sure shut shown) goes_on a b end →
      Runs (Unit {0}) Suiting Breaking goes_on (desk a.coming a.answers tt) (desk b.coming b.answers tt) end
  suiting_runs a b end runs =
      (seen_runs (IsNodeReply tells state shut shown) (IsNodeFault tells state files sure shut shown) Suiting Breaking
      (λ _ _. Unit {0}) (λ _ _ _. Unit {0})
      (λ asked reply x y t _ r. (tt, (r.suits, tt)))
      (λ asked e x y t _ f. (tt, ((f.message, f.asked_is), tt)))
      (λ e x t _ _. tt) a b tt end tt runs).1.0

  abbrev state_at : R → NodeState
  state_at x = unbroken (state x) (shown x).file

  -- it works, and is in this state
  record IsAt (x : R) (n : NodeState) : Type 0 where
    on : shut x ≡ false
    is : n ≡ state_at x

  abbrev StandsAfter : R → NodeState → Type 0
  StandsAfter x n = FilesStand (sure x) n.broke n (files x)

  module _ (told : tells) (law : (x : R) → tells → shut x ≡ false → AreHeld (state_at x) (files x)) where
    stood : (x : R) (n : NodeState) → IsAt x n → StandsAfter x n
    stood x n at = rw at.is (law x told at.on)

    stepped : (asked : Asked) (reply : Message) (x y : R) (n : NodeState) → IsAt x n → IsNodeReply tells state shut shown asked reply x y →
        (n' : NodeState) × (Stepping asked reply n n' × IsAt y n')
    stepped asked reply x y n at is = (
      state_at y,
      (
        rw at.is
            (record {
              reply_is = is.reply_is told;
              after = is.after told;
              has = is.file told;
              grows = record { from = is.grows.0; to = is.grows.1 };
              works = refl;
            }),
        record { on = is.on; is = refl },
      ),
    )

    left : (m : ToNode) (end : End) (x y : R) (n : NodeState) → IsAt x n → FailsAt tells state files sure shut shown m end x y → shown y ≡ shown x →
        (n' : NodeState) × (LeavesAt m end n n' × StandsAfter y n')
    left m ends.Disk x y n at fails shows =
        (record n { broke = Some m }, (refl, rw at.is (fails told)))
    left m ends.Full x y n at fails shows =
        (n, ((refl, rw at.is (fails.1 told).1), stood y n (record { on = fails.0; is = rw ((fails.1 told).0, shows) at.is })))
    left m ends.Memory x y n at fails shows =
        (n, (refl, stood y n (record { on = fails.0; is = rw (fails.1 told, shows) at.is })))
    left m (ends.Damaged file place) x y n at fails shows = absurd (fails told)
    left m ends.Bye x y n at fails shows = absurd fails
    left m ends.Port x y n at fails shows = absurd fails
    left m ends.Turns x y n at fails shows = absurd fails
    left m ends.Unheard x y n at fails shows = absurd fails
    left m ends.Peer x y n at fails shows = absurd fails
    left m (ends.TakenOver session) x y n at fails shows = absurd fails
    left m ends.Answer x y n at fails shows = absurd fails
    left m ends.WriteFault x y n at fails shows = absurd fails

    -- by its state
    pub stepping_runs : (a b : Desk R) (end : End) → shut a.server ≡ false →
        Runs R (IsNodeReply tells state shut shown) (IsNodeFault tells state files sure shut shown) goes_on a b end →
        (n : NodeState) × (Runs NodeState Stepping Stopping goes_on (desk a.coming a.answers (state_at a.server)) (desk b.coming b.answers n) end
        × StandsAfter b.server n)
    stepping_runs a b end on runs =
        seen_runs (IsNodeReply tells state shut shown) (IsNodeFault tells state files sure shut shown) Stepping Stopping
        IsAt (λ _. StandsAfter) stepped
        (λ asked e x y n at f. let l = left f.message e x y n at f.fails f.shows in (l.0, ((f.message, f.asked_is, l.1.0), l.1.1)))
        (λ _ x n _ at. stood x n at) a b (state_at a.server) end (record { on = on; is = refl }) runs
