use Rattle.client_loop.proofs.Going.{going_start, not_begun}
use Rattle.client_loop.proofs.script.do_script.Goals as goal

pub returns-in-Ok-clause-reaches : goal.returns-in-Ok-clause-reaches
returns-in-Ok-clause-reaches g c =
    c.go_on.ensures.reaches _ _ _ (going_start _ _ _ _ _ _ _ _ _ c.in-Ok.ensures.empty c.in-Ok.ensures.fresh)

pub returns-in-Err-clause-reaches : goal.returns-in-Err-clause-reaches
returns-in-Err-clause-reaches g c =
    not_begun _ _ _ _ _ _ _ _ _ c.in-Err.ensures.memory
