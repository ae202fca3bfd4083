use Rattle.segment_store.proofs.Damaged.{not_both}
use Rattle.segment_store.proofs.laws.loadable_records_are_not_damaged.Goals as goal

pub returns : goal.returns
returns c = λ first count bytes at load damaged. not_both first count bytes at load damaged
