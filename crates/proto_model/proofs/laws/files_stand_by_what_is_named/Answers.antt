use Rattle.proto_model.proofs.Folding.{held_in-alike}
use Rattle.proto_model.proofs.laws.files_stand_by_what_is_named.Goals as goal

pub returns : goal.returns
returns c = held_in-alike
