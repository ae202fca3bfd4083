use Rattle.std.proofs.Common.{◌≡◌, ◌∙◌, ◌-◌, ℕ, min, length, take, drop, List, Option, nat_eq, ap, sym, arith}
use Rattle.proto_model.specs.Servers.{Waiting, is_due, waits_on}
use Rattle.indexmap.specs.IndexMap.{get, index_map_len}
use Rattle.partition_server.specs.declared.waiting.Asker.{Asker}
use Rattle.partition_server.proofs.ByIds.{listed-length, due_front, due_rest}
use Rattle.partition_server.proofs.waiting.WaitingRequests.count_due.Goals as goal

pub returns-clause-front : goal.returns-clause-front
returns-clause-front c =
    let r = c.self.inside in
    let f : ℕ → Option Asker = get nat_eq r.by_id in
    let n : ℕ = index_map_len r.by_id in
    let count : c.min.result ≡ min (c.args.mark - r.before) n = c.min.ensures ∙ (λ j. min (c.saturating_sub.ensures j) (c.len.ensures.len j)) in
    ap (λ (l : List Waiting). is_due c.args.mark l) (sym c.self.view_is)
    ∙ (due_front f c.args.mark r.before n c.min.result count ∙ ap (λ (l : List Waiting). take c.min.result l) c.self.view_is)

pub returns-clause-rest : goal.returns-clause-rest
returns-clause-rest c =
    let r = c.self.inside in
    let f : ℕ → Option Asker = get nat_eq r.by_id in
    let n : ℕ = index_map_len r.by_id in
    let count : c.min.result ≡ min (c.args.mark - r.before) n = c.min.ensures ∙ (λ j. min (c.saturating_sub.ensures j) (c.len.ensures.len j)) in
    ap (λ (l : List Waiting). waits_on c.args.mark l) (sym c.self.view_is)
    ∙ (due_rest f c.args.mark r.before n c.min.result count ∙ ap (λ (l : List Waiting). drop c.min.result l) c.self.view_is)

pub returns-clause-within : goal.returns-clause-within
returns-clause-within c =
    let r = c.self.inside in
    let f : ℕ → Option Asker = get nat_eq r.by_id in
    let n : ℕ = index_map_len r.by_id in
    let count : c.min.result ≡ min (c.args.mark - r.before) n = c.min.ensures ∙ (λ j. min (c.saturating_sub.ensures j) (c.len.ensures.len j)) in
    let len : length c.args.self.now ≡ n = ap length (sym c.self.view_is) ∙ listed-length f r.before n in
    omega (arith, count, len)
