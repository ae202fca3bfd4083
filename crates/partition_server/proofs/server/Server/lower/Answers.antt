use Rattle.std.proofs.Common.{◌≡◌, ◌≤◌, ◌∙◌, ap, sym, refl, true, arith}
use Rattle.proto_model.specs.Servers.{after_low, commit_mark}
use Rattle.partition_server.specs.Held.{Held, config_of, rest_of, state_of}
use Rattle.partition_server.specs.Layout.{held_by}
use Rattle.partition_server.proofs.Servings.{low_serves}
use Rattle.partition_server.proofs.Helds.{changed_held, config_same, low_adopters, low_taken}
use Rattle.partition_server.proofs.server.Server.lower.Goals as goal

pub invariant_of-self : goal.invariant_of-self
invariant_of-self c =
    let h : Held = held_by c.self.inside in
    let h' : Held = record h { known = c.lower.new.self } in
    let locks = c.self.inside.locks in
    let adopted : (state_of h).adopted c.args.node ≡ true = sym c.has_adopted.ensures ∙ c.if-has_adopted.true in
    let mark = c.committed.ensures.value ∙ ap (λ (x : Held). commit_mark (config_of x) (state_of x)) (sym c.self.view_is) in
    let test = c.if-low-committed.true in
    let low : c.args.low ≤ commit_mark (config_of h) (state_of h) = omega (arith, mark, test) in
    changed_held h h' locks locks (after_low (config_of h) (state_of h) c.args.node c.args.low) c.self.invariant refl (config_same h h' c.lower.ensures.nodes refl refl)
    (c.lower.ensures.value (rest_of h) ∙ low_taken (config_of h) (state_of h) c.args.node c.args.low adopted low) (low_adopters (config_of h) (state_of h) c.args.node c.args.low)
    (low_serves (config_of h) (state_of h) c.args.node c.args.low locks c.self.invariant.is)

pub returns-then-low-committed-clause-value : goal.returns-then-low-committed-clause-value
returns-then-low-committed-clause-value c =
    let h : Held = held_by c.self.inside in
    let adopted : (state_of h).adopted c.args.node ≡ true = sym c.has_adopted.ensures ∙ c.if-has_adopted.true in
    let mark = c.committed.ensures.value ∙ ap (λ (x : Held). commit_mark (config_of x) (state_of x)) (sym c.self.view_is) in
    let test = c.if-low-committed.true in
    let low : c.args.low ≤ commit_mark (config_of h) (state_of h) = omega (arith, mark, test) in
    c.lower.ensures.value (rest_of h)
    ∙ (low_taken (config_of h) (state_of h) c.args.node c.args.low adopted low ∙ ap (λ (x : Held). after_low (config_of x) (state_of x) c.args.node c.args.low) c.self.view_is)
