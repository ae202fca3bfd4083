use Rattle.std.proofs.Common.{arith}
use Rattle.kv_app.proofs.PieceLemmas.{StopsAt-set, StopsAt-add, StopsAt-del, StopsAt-first_byte, StopsAt-no_byte}
use Rattle.kv_app.proofs.piece.read_piece.Goals as goal

pub returns-in_default-clause-err : goal.returns-in_default-clause-err
returns-in_default-clause-err c = StopsAt-no_byte c.args.text.now c.in_default.ensures.value

pub returns-in-Err-clause-err : goal.returns-in-Err-clause-err
returns-in-Err-clause-err c = StopsAt-set c.args.text.now c.in-Some.first.now c.in-Err.len c.in-Some.ensures.value c.in-115.is c.in-Err.ensures.err

pub returns-in-Err-pair_after-clause-err : goal.returns-in-Err-pair_after-clause-err
returns-in-Err-pair_after-clause-err c = StopsAt-add c.args.text.now c.in-Some.first.now c.in-Err-pair_after.len c.in-Some.ensures.value c.in-97.is c.in-Err-pair_after.ensures.err

pub returns-in-Err-key_after-clause-err : goal.returns-in-Err-key_after-clause-err
returns-in-Err-key_after-clause-err c = StopsAt-del c.args.text.now c.in-Some.first.now c.in-Err-key_after.len c.in-Some.ensures.value c.in-100.is c.in-Err-key_after.ensures.err

pub returns-in_default-first-clause-err : goal.returns-in_default-first-clause-err
returns-in_default-first-clause-err c = StopsAt-first_byte c.args.text.now c.in-Some.first.now c.in-Some.ensures.value (λ e. absurd (omega arith)) (λ e. absurd (omega arith)) (λ e. absurd (omega arith))
