use Rattle.std.proofs.Common.{◌≡◌, ◌≢◌, ◌-◌, ◌^◌, Some, sym, ◌∙◌, ap, rules, arith}
use Rattle.proto_model.specs.declared.refusal.BuildFault.TheVariants.{Memory}
use Rattle.client_core.specs.Building.{build_refusal}
use Rattle.client_core.specs.States.{state_of}
use Rattle.client_core.proofs.Told.{not_memory, request_left, no_form_refusal}
use Rattle.client_core.proofs.client.Client.build.Goals as goal

pub returns-in-Ok-Some-clause-memory : goal.returns-in-Ok-Some-clause-memory
returns-in-Ok-Some-clause-memory g c = λ e.
    let same : c.in-Ok-Some.fault ≡ Memory = cc in
    let is : Some c.in-Ok-Some.fault ≡ build_refusal (state_of g.A.App.state c.args.self.now) c.args.writes.items c.args.reads.items c.args.ops.now = search rules in
    absurd (not_memory (state_of g.A.App.state c.args.self.now) c.args.writes.items c.args.reads.items c.args.ops.now (ap (λ f. Some f) (sym same) ∙ is))

pub returns-in_default-clause-memory : goal.returns-in_default-clause-memory
returns-in_default-clause-memory g c = λ e.
    no_form_refusal (state_of g.A.App.state c.args.self.now) c.args.writes.items c.args.reads.items c.args.ops.now (search rules)

pub overflow_add-self : goal.overflow_add-self
overflow_add-self g c =
    let left : c.self.inside.request ≢ 2 ^ 64 - 1 = rw (← c.self.view_is) at (request_left (state_of g.A.App.state c.args.self.now) c.args.writes.items c.args.reads.items c.args.ops.now (search rules)) in
    omega (arith, left, c.self.ranges)
