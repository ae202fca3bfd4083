use Rattle.wire_codec.proofs.Frames.{one_spelling}
use Rattle.wire_codec.proofs.laws.messages_have_one_spelling.Goals as goal

pub returns-clause-apart : goal.returns-clause-apart
returns-clause-apart c = one_spelling
