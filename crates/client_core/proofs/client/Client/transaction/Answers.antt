use Rattle.std.proofs.Common.{◌≡◌, rules}
use Rattle.client_core.proofs.Builds.{built_is}
use Rattle.client_core.proofs.client.Client.transaction.Goals as goal

pub returns-in-Ok-clause-ok : goal.returns-in-Ok-clause-ok
returns-in-Ok-clause-ok g c =
    let payload : c.in_ok-payload.payload.items ≡ c.args.ops.now = search rules in
    let built = built_is c.in-Ok.tx _ _ _ _ _ _ c.in-Ok.ensures.ok in
    rw (← c.self.view_is) (rw payload at built)
