use Rattle.kv_app.proofs.Endings.{bad_place_is}
use Rattle.kv_app.proofs.laws.bad_places_are_found.Goals as goal

pub returns : goal.returns
returns c text refused = bad_place_is text refused
