use Rattle.std.proofs.Common.{refl}
use Rattle.kv_app.proofs.Endings.{no_place, some_place}
use Rattle.kv_app.proofs.check.bad_place.Goals as goal

pub returns-in-Some-clause-place : goal.returns-in-Some-clause-place
returns-in-Some-clause-place c = some_place c.args.payload.now _ (c.in-Some.len, c.in-Some.ensures.some, refl)

pub returns-in-None-clause-place : goal.returns-in-None-clause-place
returns-in-None-clause-place c = no_place c.args.payload.now (c.in-None.ensures.none refl)
