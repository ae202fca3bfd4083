use Rattle.std.proofs.Common.{◌∙◌, sym, arith}
use Rattle.partition_server.proofs.Results.{if_err}
use Rattle.partition_server.proofs.Waits.{at_place, answered_next, some_first}
use Rattle.partition_server.proofs.waiting.WaitingRequests.due.Goals as goal

pub returns-in_err-push-clause-memory : goal.returns-in_err-push-clause-memory
returns-in_err-push-clause-memory c =
    let test = c.loop-place-test.true in
    if_err c.from_residual.result (λ none.
    some_first c.args.self.now c.count_due-place-end.result (omega (arith, test)) c.count_due-place-end.ensures.within (sym c.count_due-place-end.ensures.front ∙ none))

pub loop-place-preserved : goal.loop-place-preserved
loop-place-preserved c =
    let test = c.loop-place-test.true in
    let within = c.count_due-place-end.ensures.within in
    let place = c.loop-place.place in
    let w = at_place c.args.self.now place (omega (arith, test, within)) in
    answered_next c.args.self.now place w.0 c.loop-place.due.items c.push.new.self.items c.answer.result w.1 c.loop-place.invariant (c.answer.ensures w.0 w.1) c.in_ok-push.ensures.items
