use Rattle.record_frame.proofs.Metas.{meta_at-alone}
use Rattle.record_frame.proofs.laws.metas_stand_alone.Goals as goal

pub returns-clause-within : goal.returns-clause-within
returns-clause-within c = λ bytes v n e. (meta_at-alone bytes (v, n) e).within

pub returns-clause-alone : goal.returns-clause-alone
returns-clause-alone c = λ bytes other v n e. (meta_at-alone bytes (v, n) e).alone other
