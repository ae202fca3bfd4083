use Rattle.server_loop.specs.Registers.{unread, tried}
use Rattle.server_loop.proofs.link_register.draw.Goals as goal

pub returns-in-Ok-clause-told : goal.returns-in-Ok-clause-told
returns-in-Ok-clause-told g c told = tried _ _ c.in-Ok.number _ (c.in-Ok.ensures.told told) (c.try_cas.ensures.told told)

pub returns-in-Err-clause-told : goal.returns-in-Err-clause-told
returns-in-Err-clause-told g c told = unread _ c.in-Err.fault (c.in-Err.ensures.told told)
