use Rattle.wire_codec.proofs.Writes.{heads_fit}
use Rattle.wire_codec.proofs.writing.put_heads.Goals as goal

pub put_some_heads-requires : goal.put_some_heads-requires
put_some_heads-requires c = rw c.items-heads.ensures (heads_fit c.args.from c.args.heads.now c.requires.rise)
