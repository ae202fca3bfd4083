use Rattle.std.proofs.Common.{sym, subst, refl}
use Rattle.std.specs.Prelude.{IfOk}
use Rattle.net_model.specs.declared.mail.Mail.{Mail}
use Rattle.world_core.specs.Kept.{Parties, parties_of}
use Rattle.world_core.specs.Deliveries.{Delivers}
use Rattle.world_core.proofs.deliver.deliver.Goals as goal

pub returns-in-ToNode-clause-delivers : goal.returns-in-ToNode-clause-delivers
returns-in-ToNode-clause-delivers g c =
    let old : Parties = parties_of g.R.Replica.state g.R.Replica.files c.args.cluster c.args.nodes.now.items c.args.servers.now.items c.args.clients.now.items in
    let P : Mail → Type 0 = λ x. IfOk c.take_request.result (Delivers old (parties_of g.R.Replica.state g.R.Replica.files c.args.cluster c.take_request.new.nodes.items c.args.servers.now.items c.args.clients.now.items) c.args.envelope.now.from c.args.envelope.now.to x) in
    subst P (sym c.in-ToNode.is) (c.take_request.ensures.delivers old refl refl refl)

pub returns-in-FromNode-clause-delivers : goal.returns-in-FromNode-clause-delivers
returns-in-FromNode-clause-delivers g c =
    let old : Parties = parties_of g.R.Replica.state g.R.Replica.files c.args.cluster c.args.nodes.now.items c.args.servers.now.items c.args.clients.now.items in
    let P : Mail → Type 0 = λ x. IfOk c.take_reply.result (Delivers old (parties_of g.R.Replica.state g.R.Replica.files c.args.cluster c.args.nodes.now.items c.take_reply.new.servers.items c.args.clients.now.items) c.args.envelope.now.from c.args.envelope.now.to x) in
    subst P (sym c.in-FromNode.is) (c.take_reply.ensures.delivers old refl refl)

pub returns-in-ToServer-clause-delivers : goal.returns-in-ToServer-clause-delivers
returns-in-ToServer-clause-delivers g c =
    let old : Parties = parties_of g.R.Replica.state g.R.Replica.files c.args.cluster c.args.nodes.now.items c.args.servers.now.items c.args.clients.now.items in
    let P : Mail → Type 0 = λ x. IfOk c.take_wish.result (Delivers old (parties_of g.R.Replica.state g.R.Replica.files c.args.cluster c.args.nodes.now.items c.take_wish.new.servers.items c.args.clients.now.items) c.args.envelope.now.from c.args.envelope.now.to x) in
    subst P (sym c.in-ToServer.is) (c.take_wish.ensures.delivers old refl refl)

pub returns-in-FromServer-clause-delivers : goal.returns-in-FromServer-clause-delivers
returns-in-FromServer-clause-delivers g c =
    let old : Parties = parties_of g.R.Replica.state g.R.Replica.files c.args.cluster c.args.nodes.now.items c.args.servers.now.items c.args.clients.now.items in
    let P : Mail → Type 0 = λ x. IfOk c.take_answer.result (Delivers old (parties_of g.R.Replica.state g.R.Replica.files c.args.cluster c.args.nodes.now.items c.args.servers.now.items c.take_answer.new.clients.items) c.args.envelope.now.from c.args.envelope.now.to x) in
    subst P (sym c.in-FromServer.is) (c.take_answer.ensures.delivers old refl refl)
