use Rattle.std.proofs.Common.{◌∙◌, ap, refl, arith}
use Rattle.proto_model.specs.declared.message.Phase.TheVariants.{Closed}
use Rattle.proto_model.specs.Servers.{after_stale}
use Rattle.partition_server.specs.Held.{Held, config_of, rest_of, state_of}
use Rattle.partition_server.specs.Layout.{held_by}
use Rattle.partition_server.proofs.Servings.{stale_serves}
use Rattle.partition_server.proofs.Helds.{changed_held, config_same, stale_adopters, stale_taken}
use Rattle.partition_server.proofs.server.Server.close.Goals as goal

pub invariant_of-self : goal.invariant_of-self
invariant_of-self c =
    let h : Held = held_by c.self.inside in
    let h' : Held = record h { known = c.close.new.self; waiting = c.clear.new.self } in
    let locks = c.self.inside.locks in
    let small = c.requires in
    changed_held h h' locks locks (after_stale (state_of h) c.args.session c.args.promised) c.self.invariant refl (config_same h h' c.close.ensures.nodes refl refl)
    (c.close.ensures.value (rest_of h') ∙ ((λ j. record (state_of h) { phase = Closed c.args.promised; waiting = c.clear.ensures j }) ∙ stale_taken (state_of h) c.args.session c.args.promised c.if-session-promised.true))
    (stale_adopters (state_of h) c.args.session c.args.promised)
    (stale_serves (config_of h) (state_of h) c.args.session c.args.promised locks c.self.invariant.is (λ less. record { some = omega (arith, less); below = small }))

pub returns-then-session-promised-clause-value : goal.returns-then-session-promised-clause-value
returns-then-session-promised-clause-value c =
    let h : Held = held_by c.self.inside in
    let h' : Held = record h { known = c.close.new.self; waiting = c.clear.new.self } in
    c.close.ensures.value (rest_of h')
    ∙ ((λ j. record (state_of h) { phase = Closed c.args.promised; waiting = c.clear.ensures j })
    ∙ (stale_taken (state_of h) c.args.session c.args.promised c.if-session-promised.true ∙ ap (λ (x : Held). after_stale (state_of x) c.args.session c.args.promised) c.self.view_is))
