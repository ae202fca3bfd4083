use Rattle.server_loop.proofs.Drawing.{asked_reply, asked_none}
use Rattle.server_loop.proofs.link_register.ask.Goals as goal

pub returns-in-Ok-clause-told : goal.returns-in-Ok-clause-told
returns-in-Ok-clause-told g c told = asked_reply _ _ _ _ c.in-Ok.reply c.exchange.result _ c.in-Ok.is (c.exchange.ensures.told told) c.message_of.ensures.value

pub returns-clause-told : goal.returns-clause-told
returns-clause-told g c told = asked_none _ _ _ _ c.in-Err.field-0 c.exchange.result c.in-Err.is (c.exchange.ensures.told told)
