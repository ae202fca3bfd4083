use Rattle.server_loop.proofs.Whole.{part_read, bad_read}
use Rattle.std.proofs.Common.{arith}
use Rattle.std.proofs.lemmas.Bool.Decides.{nat_tests}
use Rattle.server_loop.proofs.requests.whole_message.Goals as goal

pub returns-else-len-bytes-clause-read : goal.returns-else-len-bytes-clause-read
returns-else-len-bytes-clause-read c = part_read c.args.bytes.now c.in-Ok.message c.in-Ok.len c.in-Ok.ensures.only (grind (arith, nat_tests))

pub returns-in-Err-Bad-clause-read : goal.returns-in-Err-Bad-clause-read
returns-in-Err-Bad-clause-read c = bad_read c.args.bytes.now c.in-Err-Bad.field-0-0 (rw c.in-Err-Bad.field-0-is at c.in-Err-Bad.ensures.only)
