use Rattle.wire_codec.proofs.Formats.{are_heads_tell}
use Rattle.wire_codec.proofs.building.heads_of.Goals as goal

pub split_at-requires : goal.split_at-requires
split_at-requires c = (are_heads_tell c.args.from c.args.bytes.now c.requires).long

pub some_heads_of-requires : goal.some_heads_of-requires
some_heads_of-requires c = (c.args.from, rw c.split_at.ensures.back ((are_heads_tell c.args.from c.args.bytes.now c.requires).items))
