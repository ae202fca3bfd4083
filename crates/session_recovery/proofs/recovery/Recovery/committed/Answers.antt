use Rattle.std.proofs.Common.{◌≡◌, ◌∙◌, sym, true, false, length, rules}
use Rattle.session_recovery.specs.Recovering.{Recovering}
use Rattle.session_recovery.specs.contracts.recovery.Recovery.{the_view}
use Rattle.session_recovery.proofs.Recoveries.{mark_done}
use Rattle.session_recovery.proofs.recovery.Recovery.committed.Goals as goal

pub returns-then-done : goal.returns-then-done
returns-then-done c =
    let h : Recovering = the_view c.self.inside in
    let on : c.done.result ≡ true = search rules in
    let len : c.len.result ≡ length h.log = search rules in
    len ∙ mark_done h c.args.self.now true c.self.view_is c.self.invariant.is (sym on ∙ c.done.ensures)

pub returns-else-done : goal.returns-else-done
returns-else-done c =
    let h : Recovering = the_view c.self.inside in
    let off : c.done.result ≡ false = search rules in
    mark_done h c.args.self.now false c.self.view_is c.self.invariant.is (sym off ∙ c.done.ensures)
