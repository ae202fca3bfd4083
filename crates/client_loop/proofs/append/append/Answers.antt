use Rattle.std.proofs.Common.{rules}
use Rattle.client_loop.proofs.Submitted.{unsubmitted}
use Rattle.client_loop.proofs.append.append.Goals as goal

pub returns-in-Ok-clause-fails : goal.returns-in-Ok-clause-fails
returns-in-Ok-clause-fails g c =
    unsubmitted _ _ _ _ _ _ _ _ c.in-Ok.tx c.submit.result (search rules) (search rules) c.submit.ensures.unsaid
