-- How many requests wait at the servers of a list, one of which changed.
use Rattle.std.proofs.Common.{◌≡◌, ◌∙◌, ℕ, ◌+◌, ◌-◌, ◌≤◌, List, [], length, map, arith, ap, slice_index_or, slice_set, Option}
use Rattle.std.specs.Prelude.{option_to_list}
use Rattle.std.proofs.lemmas.List.{length-map}
use Rattle.proto_model.specs.declared.message.FromNode.{FromNode}
use Rattle.proto_model.specs.declared.client_message.ToServer.{ToServer}
use Rattle.proto_model.specs.declared.client_message.FromServer.{FromServer}
use Rattle.proto_model.specs.Servers.{ServerState, server_after, server_answers}
use Rattle.proto_model.specs.Serving.{served_after, served_answers}
use Rattle.partition_server.specs.Held.{Held, state_of, config_of as held_config}
use Rattle.partition_server.specs.Answers.{addressed}
use Rattle.world_core.specs.Fit.{waiting_at}
use Rattle.world_core.proofs.Rows.{waiting_set}
use Rattle.world_core.proofs.Waiting.{heard_few, served_few}

-- each request that was answered waits no more
pub heard_at : (xs : List Held) (i : ℕ) (x y : Held) (node : ℕ) (m : FromNode) (answers : List (ℕ × FromServer)) → 1 ≤ i → i ≤ length xs → x ≡ slice_index_or xs (i - 1) x
    → state_of y ≡ server_after (held_config x) (state_of x) node m → answers ≡ map addressed (server_answers (held_config x) (state_of x) node m) → waiting_at (slice_set xs (i - 1) y) + length answers ≤ waiting_at xs
heard_at xs i x y node m answers some fits is after given =
    let set = waiting_set xs i x y some fits is in
    let few = heard_few (held_config x) (state_of x) node m in
    let waits : length y.waiting ≡ length (server_after (held_config x) (state_of x) node m).waiting = ap (λ (sv : ServerState). length sv.waiting) after in
    let count : length answers ≡ length (server_answers (held_config x) (state_of x) node m) = ap length given ∙ length-map (server_answers (held_config x) (state_of x) node m) addressed in
    omega (arith, set, few, waits, count)

-- a request is answered, or waits
pub served_at : (xs : List Held) (i : ℕ) (x y : Held) (m : ToServer) (answer : Option FromServer) → 1 ≤ i → i ≤ length xs → x ≡ slice_index_or xs (i - 1) x
    → state_of y ≡ served_after (held_config x) (state_of x) m → option_to_list answer ≡ served_answers (held_config x) (state_of x) m → waiting_at (slice_set xs (i - 1) y) + length (option_to_list answer) ≤ waiting_at xs + 1
served_at xs i x y m answer some fits is after given =
    let set = waiting_set xs i x y some fits is in
    let few = served_few (held_config x) (state_of x) m in
    let waits : length y.waiting ≡ length (served_after (held_config x) (state_of x) m).waiting = ap (λ (sv : ServerState). length sv.waiting) after in
    let count : length (option_to_list answer) ≡ length (served_answers (held_config x) (state_of x) m) = ap length given in
    omega (arith, set, few, waits, count)

-- no request waits at a server that begins
pub quiet_at : (xs : List Held) (i : ℕ) (x y : Held) (sv : ServerState) → 1 ≤ i → i ≤ length xs → x ≡ slice_index_or xs (i - 1) x → state_of y ≡ sv → sv.waiting ≡ [] → waiting_at (slice_set xs (i - 1) y) ≤ waiting_at xs
quiet_at xs i x y sv some fits is after none =
    let set = waiting_set xs i x y some fits is in
    let waits : length y.waiting ≡ length sv.waiting = ap (λ (v : ServerState). length v.waiting) after in
    let count : length sv.waiting ≡ 0 = ap length none in
    omega (arith, set, waits, count)
