use Rattle.proto_model.proofs.SaneSteps.{replies}
use Rattle.proto_model.proofs.laws.replies_are_valid.Goals as goal

pub returns : goal.returns
returns c = replies
