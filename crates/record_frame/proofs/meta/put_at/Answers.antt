use Rattle.std.proofs.Common.{arith}
use Rattle.std.proofs.lemmas.Slice.{drop-put_mid}
use Rattle.record_frame.proofs.meta.put_at.Goals as goal

pub returns-clause-rest : goal.returns-clause-rest
returns-clause-rest c = λ n le. drop-put_mid c.args.at _ c.args.into.now _ n (omega arith) (omega arith) (omega (arith, c.copy_from_slice.ensures.len))
