use Rattle.record_frame.proofs.Records.{record_at-alone}
use Rattle.record_frame.proofs.laws.records_stand_alone.Goals as goal

pub returns-clause-within : goal.returns-clause-within
returns-clause-within c = λ bytes v n e. (record_at-alone bytes (v, n) e).within

pub returns-clause-alone : goal.returns-clause-alone
returns-clause-alone c = λ bytes other v n e. (record_at-alone bytes (v, n) e).alone other
