-- Any reply at a server.
use Rattle.std.proofs.Common.{◌≡◌, ℕ, ◌-◌, ◌==◌, ◌&&◌, nat_lt, nat_le, true, ap, sym, ◌∙◌, subst, []}
use Rattle.proto_model.specs.Servers.{ServerState, after_staged, is_active, session_of, received, server_after}
use Rattle.proto_model.specs.Tables.{put}
use Rattle.proto_model.specs.declared.message.FromNode.{FromNode}
use Rattle.proto_model.specs.declared.message.FromNode.TheVariants.{Opened, Stale, Unopened, Records, Staged, StageAt, Adopted, Acked, Gap, NotAdopted, LowSet}
use Rattle.proto_model.specs.declared.message.Phase.TheVariants.{Closed}
use Rattle.world_law.specs.Worlds.{Book, WorldState, config_of, book_in, with_server}
use Rattle.world_law.proofs.ServerFetches.{records_step}
use Rattle.world_law.proofs.Invariant.{ReplyWarrant, Holds}
use Rattle.world_law.proofs.Later.{Onward, stay}
use Rattle.world_law.proofs.Quorums.{IsNode}
use Rattle.world_law.proofs.ServerReports.{opened_step}
use Rattle.world_law.proofs.ServerFrame.{ServerStep, server_event}
use Rattle.world_law.proofs.ServerAcks.{server_stays, same_book, stale_step, staged_step, lowered_step, acknowledged_step}
use Rattle.world_law.proofs.Tables.{put_back}
use Rattle.world_law.proofs.Tests.{if_each, equal, and_right, and_left}

received_step : (w : WorldState) → Holds w → (v i : ℕ) (m : FromNode) → IsNode w.cluster.nodes i → is_active (w.servers v).phase ≡ true
    → session_of m ≡ (w.servers v).session → ReplyWarrant w i m → ServerStep w v (received (config_of w.cluster) (w.servers v) i m)
received_step w h v i (Stale s p) known act same f =
    if_each (ServerStep w v) (nat_lt s p) (record (w.servers v) { phase = Closed p; waiting = [] }) (w.servers v) (λ e. stale_step w h v p act)
    (λ e. server_stays w h v act)
received_step w h v i (Opened s a low len) known act same f = opened_step w h v i s a low len act (sym same) known f
received_step w h v i (Records s batch) known act same f = records_step w h v i s batch act (sym same) f
received_step w h v i (Staged s upto) known act same f = staged_step w h v i upto act
received_step w h v i (StageAt s next) known act same f =
    if_each (ServerStep w v) (nat_le 1 next) (after_staged (w.servers v) i (next - 1)) (w.servers v) (λ e. staged_step w h v i (next - 1) act)
    (λ e. server_stays w h v act)
received_step w h v i (Adopted s len) known act same f = acknowledged_step w h v i len act (rw same at f)
received_step w h v i (Acked s len) known act same f = acknowledged_step w h v i len act (rw same at f)
received_step w h v i (LowSet s low) known act same f = lowered_step w h v i low act
received_step w h v i (Unopened s p) known act same f = server_stays w h v act
received_step w h v i (Gap s len) known act same f = server_stays w h v act
received_step w h v i (NotAdopted s a) known act same f = server_stays w h v act

-- a server that stays leaves the world
pub nothing : (w : WorldState) → Holds w → (v : ℕ) → with_server w v (w.servers v) ≡ w
nothing w h v =
    let sv = w.servers v in
    let e : put w.books sv.session (book_in sv.phase (config_of w.cluster) sv (w.books sv.session)) ≡ w.books =
    ap (λ (b : Book). put w.books sv.session b) (same_book (config_of w.cluster) w.books sv sv.phase (h.phases v)) ∙ put_back w.books sv.session in
    let f = put_back w.servers v in
    λ i. record w { servers = f i; books = e i }

pub reply_event : (w : WorldState) → Holds w → (i v : ℕ) (m : FromNode) → IsNode w.cluster.nodes i → ReplyWarrant w i m
    → Onward w (with_server w v (server_after (config_of w.cluster) (w.servers v) i m))
reply_event w h i v m known f =
    let sv = w.servers v in
    if_each (λ (x : ServerState). Onward w (with_server w v x)) (is_active sv.phase && session_of m == sv.session)
    (received (config_of w.cluster) sv i m) sv
    (λ t. server_event w h v (received (config_of w.cluster) sv i m) (received_step w h v i m known (and_left (is_active sv.phase) (session_of m == sv.session) t)
    (equal (session_of m) sv.session (and_right (is_active sv.phase) (session_of m == sv.session) t)) f))
    (λ t. subst (Onward w) (sym (nothing w h v)) (stay w h))
