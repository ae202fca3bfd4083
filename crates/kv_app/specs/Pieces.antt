-- The op that a piece of a text was read as.
use Rattle.tx_model.specs.declared.op.Op.{Op}
use Rattle.tx_model.specs.declared.op.Op.TheVariants as op
use Rattle.kv_app.specs.declared.piece.Piece.{Piece}
use Rattle.kv_app.specs.declared.piece.Piece.TheVariants.{Set, Add, Del}

abbrev pub piece_op : Piece → Op
piece_op (Set pair) = op.Set pair.key.now pair.amount
piece_op (Add pair) = op.Add pair.key.now pair.amount
piece_op (Del key) = op.Del key.now
