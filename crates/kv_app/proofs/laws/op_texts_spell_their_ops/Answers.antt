use Rattle.kv_app.proofs.WordTexts.{SpellsOps-ops_of, ops_of-SpellsOps}
use Rattle.kv_app.proofs.laws.op_texts_spell_their_ops.Goals as goal

pub returns : goal.returns
returns c text ops = (SpellsOps-ops_of text ops, ops_of-SpellsOps text ops)
