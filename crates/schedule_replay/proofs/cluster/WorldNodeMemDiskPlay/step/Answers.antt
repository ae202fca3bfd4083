use Rattle.schedule_replay.proofs.Stepped.{seen_leads}
use Rattle.schedule_replay.proofs.cluster.WorldNodeMemDiskPlay.step.Goals as goal

pub returns-clause-leads : goal.returns-clause-leads
returns-clause-leads c = seen_leads _ _ _ _ _ _ _ _ c.step.ensures.step c.step.ensures.going c.step.ensures.whole
