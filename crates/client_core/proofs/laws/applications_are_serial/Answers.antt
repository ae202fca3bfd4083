use Rattle.client_core.proofs.Applying.{counted, in_order, is_serial}
use Rattle.client_core.proofs.laws.applications_are_serial.Goals as goal

pub returns-clause-mark : goal.returns-clause-mark
returns-clause-mark c = counted

pub returns-clause-ids : goal.returns-clause-ids
returns-clause-ids c = in_order

pub returns-clause-application : goal.returns-clause-application
returns-clause-application c = is_serial
