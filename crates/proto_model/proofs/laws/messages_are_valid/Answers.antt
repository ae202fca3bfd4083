use Rattle.proto_model.proofs.SaneServers.{messages}
use Rattle.proto_model.proofs.laws.messages_are_valid.Goals as goal

pub returns : goal.returns
returns c = messages
