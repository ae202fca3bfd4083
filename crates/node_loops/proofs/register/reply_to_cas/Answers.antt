use Rattle.session_register.specs.Registers.{cas_answer, number_after}
use Rattle.node_loops.proofs.RegisterLemmas.{still_told}
use Rattle.node_loops.proofs.register.reply_to_cas.Goals as goal

pub returns-in-Ok-clause-blind : goal.returns-in-Ok-clause-blind
returns-in-Ok-clause-blind g c ok none = still_told _ _ (λ n. number_after n (cas_answer n c.args.from)) c.in-Ok.ensures.tells.after none
