use Rattle.proto_model.proofs.SaneServers.{every_receive}
use Rattle.proto_model.proofs.laws.every_receive_is_sane.Goals as goal

pub returns : goal.returns
returns c = every_receive
