use Rattle.std.proofs.Common.{length, arith}
use Rattle.std.specs.Vec.{vec_items}
use Rattle.std.proofs.lemmas.Bool.Decides.{nat_tests}
use Rattle.io_core.proofs.Coming.{nothing_comes, at_end}
use Rattle.io_core.proofs.mem_link.MemLink.is_spent.Goals as goal

pub returns : goal.returns
returns c =
    let sent = length c.self.inside.sent.items in
    let none = nothing_comes vec_items c.self.inside.replies.items sent in
    let all = at_end vec_items c.self.inside.replies.items sent c.self.invariant.0 in
    rw (← c.self.view_is) ((λ t. none (grind (arith, nat_tests))), (λ e. let same = all e in grind (arith, nat_tests)))
