use Rattle.std.proofs.Common.{rules}
use Rattle.client_core.proofs.Told.{op_text_if, form_refused, key_refused, request_refused, not_refused}
use Rattle.client_core.proofs.client.Client.refusal.Goals as goal

pub returns-in-Some-clause-ok : goal.returns-in-Some-clause-ok
returns-in-Some-clause-ok g c = form_refused _ c.args.writes.now c.args.reads.now c.args.ops.now c.in-Some.fault c.in-Some.ensures

pub unlocked_key-requires : goal.unlocked_key-requires
unlocked_key-requires g c = op_text_if c.args.writes.now c.args.reads.now c.args.ops.now c.in_default.ensures

pub returns-in-Some-2-clause-ok : goal.returns-in-Some-2-clause-ok
returns-in-Some-2-clause-ok g c =
    key_refused _ c.args.writes.now c.args.reads.now c.args.ops.now c.in-Some-2.key c.in_default.ensures (search rules)

pub returns-then-self-clause-ok : goal.returns-then-self-clause-ok
returns-then-self-clause-ok g c =
    request_refused _ c.args.writes.now c.args.reads.now c.args.ops.now c.in_default.ensures (search rules) (search rules)

pub returns-clause-ok : goal.returns-clause-ok
returns-clause-ok g c =
    not_refused _ c.args.writes.now c.args.reads.now c.args.ops.now c.in_default.ensures (search rules) (search rules)
