use Rattle.schedule_replay.proofs.WritingLemmas.{writes_end}
use Rattle.schedule_replay.proofs.generating.generate.Goals as goal

pub returns-in-Ok-clause-broken : goal.returns-in-Ok-clause-broken
returns-in-Ok-clause-broken g c = writes_end _ _ _ _ _ c.write.result c.in-Ok.ensures.lines c.write.ensures.broken.1
