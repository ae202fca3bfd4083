use Rattle.wire_codec.proofs.Writes.{heads_fit}
use Rattle.wire_codec.proofs.measuring.heads_len.Goals as goal

pub some_heads_len-requires-clause-fit : goal.some_heads_len-requires-clause-fit
some_heads_len-requires-clause-fit c = rw c.items.ensures (heads_fit c.args.from c.args.heads.now c.requires.rise)
