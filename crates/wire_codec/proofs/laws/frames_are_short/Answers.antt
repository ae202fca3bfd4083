use Rattle.wire_codec.proofs.Frames.{frame-least, frame-most}
use Rattle.wire_codec.proofs.laws.frames_are_short.Goals as goal

pub returns-clause-least : goal.returns-clause-least
returns-clause-least c = frame-least

pub returns-clause-most : goal.returns-clause-most
returns-clause-most c = frame-most
