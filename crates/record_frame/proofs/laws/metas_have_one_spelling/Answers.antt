use Rattle.record_frame.proofs.Metas.{meta_spellings-apart}
use Rattle.record_frame.proofs.laws.metas_have_one_spelling.Goals as goal

pub returns-clause-apart : goal.returns-clause-apart
returns-clause-apart c = meta_spellings-apart
