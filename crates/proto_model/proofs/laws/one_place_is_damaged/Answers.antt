use Rattle.proto_model.proofs.DamagedFiles.{damaged-one}
use Rattle.proto_model.proofs.laws.one_place_is_damaged.Goals as goal

pub returns : goal.returns
returns c = damaged-one
