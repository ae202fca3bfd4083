use Rattle.std.proofs.Common.{sym, ◌∙◌, arith}
use Rattle.record_frame.proofs.FrontFrames.{framed_id-at}
use Rattle.record_frame.proofs.reading.framed_id.Goals as goal

pub u64_in-requires : goal.u64_in-requires
u64_in-requires c = omega (arith, (framed_id-at c.args.bytes.now c.requires).1)

pub returns : goal.returns
returns c = c.u64_in.ensures ∙ sym (framed_id-at c.args.bytes.now c.requires).0
