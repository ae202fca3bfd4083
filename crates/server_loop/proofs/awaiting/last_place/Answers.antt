use Rattle.std.proofs.Common.{arith}
use Rattle.server_loop.proofs.Moving.{batch_first}
use Rattle.server_loop.proofs.awaiting.last_place.Goals as goal

pub overflow_add-result : goal.overflow_add-result
overflow_add-result c =
    let place = batch_first _ c.first.ensures.valid in
    let few = c.first.ensures.valid.few in
    omega (arith, place.below, few, c.first.ensures.value, c.len.ensures.value)
