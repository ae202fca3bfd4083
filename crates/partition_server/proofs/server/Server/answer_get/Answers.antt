use Rattle.partition_server.specs.Held.{config_of, state_of}
use Rattle.partition_server.proofs.Answering.{copied_on_error, get_copied}
use Rattle.partition_server.proofs.server.Server.answer_get.Goals as goal

pub returns-in-Err-clause-memory : goal.returns-in-Err-clause-memory
returns-in-Err-clause-memory c =
    let h = c.args.self.now in
    copied_on_error c.unserved.result c.in-Err.fault _ _ c.unserved.ensures.memory c.in-Err.ensures.refused (get_copied (config_of h) (state_of h) c.args.id)
