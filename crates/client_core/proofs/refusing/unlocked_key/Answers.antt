use Rattle.std.proofs.Common.{◌∙◌, ap}
use Rattle.kv_app.specs.Touches.{touched_keys}
use Rattle.client_core.proofs.Builds.{key_found}
use Rattle.client_core.proofs.refusing.unlocked_key.Goals as goal

pub returns : goal.returns
returns c =
    key_found c.args.writes.now c.args.ops.now c.in-Ok.read.items c.in_ok-keys.keys.items c.first_unlocked.result c.in-Ok.ensures.ok
    (c.in_ok-keys.ensures.keys ∙ ap touched_keys c.deref.ensures.value) c.first_unlocked.ensures
