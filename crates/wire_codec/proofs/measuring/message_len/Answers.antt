use Rattle.std.proofs.Common.{arith}
use Rattle.wire_codec.proofs.Lengths.{message-fits}
use Rattle.wire_codec.proofs.measuring.message_len.Goals as goal

pub returns-clause-short : goal.returns-clause-short
returns-clause-short c = omega (arith, (message-fits c.args.m.now c.requires).most, c.any_len.ensures)
