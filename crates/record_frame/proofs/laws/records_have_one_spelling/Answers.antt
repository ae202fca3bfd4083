use Rattle.record_frame.proofs.Records.{record_spellings-apart}
use Rattle.record_frame.proofs.laws.records_have_one_spelling.Goals as goal

pub returns-clause-apart : goal.returns-clause-apart
returns-clause-apart c = record_spellings-apart
