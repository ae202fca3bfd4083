use Rattle.server_loop.proofs.Drawing.{asks_made, asks_fault}
use Rattle.server_loop.proofs.link_register.try_cas.Goals as goal

pub returns-in-Ok-clause-told : goal.returns-in-Ok-clause-told
returns-in-Ok-clause-told g c told = asks_made _ _ _ _ _ c.in-Ok.m c.ask.result _ c.in-Ok.is (c.ask.ensures.told told) c.outcome_in.ensures.value

pub returns-in-Err-clause-told : goal.returns-in-Err-clause-told
returns-in-Err-clause-told g c told = asks_fault _ _ _ _ _ c.in-Err.fault c.ask.result c.in-Err.is (c.ask.ensures.told told)
