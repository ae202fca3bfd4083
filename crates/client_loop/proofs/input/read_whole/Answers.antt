use Rattle.std.proofs.Common.{ap, Err}
use Rattle.client_loop.proofs.input.read_whole.Goals as goal

pub returns-in-Err-Bad : goal.returns-in-Err-Bad
returns-in-Err-Bad c = (c.in-Err-Bad.ensures.bad c.in-Err-Bad.at).0 (ap Err c.in-Err-Bad.field-0-is)
