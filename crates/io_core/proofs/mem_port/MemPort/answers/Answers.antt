use Rattle.std.proofs.Common.{sym, ◌∙◌}
use Rattle.std.proofs.lemmas.List.{length-map}
use Rattle.io_core.proofs.Attempts.{given_bytes-answers_of}
use Rattle.io_core.proofs.mem_port.MemPort.answers.Goals as goal

pub returns : goal.returns
returns c =
    let e = given_bytes-answers_of c.self.inside.past.items _ (c.self.invariant.1 ∙ sym (length-map _ _)) in
    rw (← c.self.view_is, c.deref.ensures.value) (sym e)
