use Rattle.node_loops.specs.Serving.{served}
use Rattle.node_loops.specs.declared.end.End.TheVariants.{Unheard, Memory}
use Rattle.node_loops.proofs.Serves.{broken_early, unmoved, served_from, begun_turns}
use Rattle.node_loops.proofs.Counted.{memory_cause, unheard_cause, broken_cause, cause_from}
use Rattle.std.proofs.Common.{refl, rules}
use Rattle.node_loops.proofs.turns.listen_and_serve.Goals as goal

pub returns-in_default-clause-runs : goal.returns-in_default-clause-runs
returns-in_default-clause-runs g c t = unmoved _ _ _ _ _ _ _ _ Memory tt refl refl

pub returns-in-Err-clause-runs : goal.returns-in-Err-clause-runs
returns-in-Err-clause-runs g c t = unmoved _ _ _ _ _ _ _ _ Unheard tt (c.listen.ensures.coming t) (c.listen.ensures.answers t)

pub returns-clause-runs : goal.returns-clause-runs
returns-clause-runs g c t =
    unmoved _ _ _ _ _ _ _ _ c.in-Err-begin.end (broken_early c.in-Err-begin.end c.in-Err-begin.ensures.broken.0) (c.listen.ensures.coming t) (c.listen.ensures.answers t)

pub returns-in-Ok-begin-clause-runs : goal.returns-in-Ok-begin-clause-runs
returns-in-Ok-begin-clause-runs g c t =
    served_from _ _ _ _ _ _ _ _ _ c.take_turns.result (c.listen.ensures.coming t) (c.listen.ensures.answers t) (served c.take_turns.result (c.take_turns.ensures.serves t))

pub returns-in-Ok-begin-clause-begun : goal.returns-in-Ok-begin-clause-begun
returns-in-Ok-begin-clause-begun g c = begun_turns _ _ _ c.take_turns.result c.take_turns.ensures.ends c.in-Ok-begin.ensures.written

pub returns-in_default-clause-cause : goal.returns-in_default-clause-cause
returns-in_default-clause-cause g c = memory_cause _ _ _ _ _ _ refl refl

pub returns-in-Err-clause-cause : goal.returns-in-Err-clause-cause
returns-in-Err-clause-cause g c = unheard_cause _ _ _ _ _ _ c.listen.ensures.cause.later (search rules) refl

pub returns-clause-cause : goal.returns-clause-cause
returns-clause-cause g c =
    broken_cause _ _ _ _ _ _ c.in-Err-begin.end c.in-Err-begin.ensures.broken.0 (search rules) refl

pub returns-in-Ok-begin-clause-cause : goal.returns-in-Ok-begin-clause-cause
returns-in-Ok-begin-clause-cause g c =
    cause_from _ _ _ _ _ _ _ _ _ c.take_turns.result (search rules) refl (λ b. b) c.take_turns.ensures.cause
