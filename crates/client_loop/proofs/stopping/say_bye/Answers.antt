use Rattle.client_loop.proofs.Stopped.{stopped_by, stop_counts}
use Rattle.client_loop.proofs.stopping.say_bye.Goals as goal

pub returns-in-Ok-clause-told : goal.returns-in-Ok-clause-told
returns-in-Ok-clause-told g c told = stopped_by _ _ _ c.in-Ok.reply c.end_of.result c.end_of.ensures.value (c.in-Ok.ensures.told told)

pub returns-in-Ok-clause-faults : goal.returns-in-Ok-clause-faults
returns-in-Ok-clause-faults g c = stop_counts _ _ _ c.in-Ok.reply c.end_of.result c.in-Ok.is c.end_of.ensures.value c.exchange.ensures.faults
