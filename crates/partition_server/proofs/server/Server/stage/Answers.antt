use Rattle.std.proofs.Common.{◌∙◌, ap, refl}
use Rattle.proto_model.specs.Servers.{after_staged}
use Rattle.partition_server.specs.Held.{Held, config_of, rest_of, state_of}
use Rattle.partition_server.specs.Layout.{held_by}
use Rattle.partition_server.proofs.Servings.{staged_serves}
use Rattle.partition_server.proofs.Helds.{changed_held, config_same, staged_adopters}
use Rattle.partition_server.proofs.server.Server.stage.Goals as goal

pub invariant_of-self : goal.invariant_of-self
invariant_of-self c =
    let h : Held = held_by c.self.inside in
    let h' : Held = record h { known = c.progress.new.self } in
    let locks = c.self.inside.locks in
    changed_held h h' locks locks (after_staged (state_of h) c.args.node c.args.upto) c.self.invariant refl (config_same h h' c.progress.ensures.nodes refl refl)
    (c.progress.ensures.value (rest_of h)) (staged_adopters (state_of h) c.args.node c.args.upto)
    (staged_serves (config_of h) (state_of h) c.args.node c.args.upto locks c.self.invariant.is)

pub returns-clause-value : goal.returns-clause-value
returns-clause-value c =
    c.progress.ensures.value (rest_of (held_by c.self.inside))
    ∙ ap (λ (x : Held). after_staged (state_of x) c.args.node c.args.upto) c.self.view_is
