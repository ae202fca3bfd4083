use Rattle.proto_model.proofs.SaneSteps.{every_step}
use Rattle.proto_model.proofs.laws.every_step_is_sane.Goals as goal

pub returns : goal.returns
returns c = every_step
