use Rattle.std.proofs.Common.{◌<◌, length, take, length-take, arith, sym, ◌∙◌}
use Rattle.schedule_text.proofs.FoundLemmas.{number_follows}
use Rattle.schedule_text.proofs.lines.found.read_numbers.Goals as goal

pub returns-in_default-clause-none : goal.returns-in_default-clause-none
returns-in_default-clause-none c numbers rest count small ends same =
    let loop = c.loop-i.invariant in
    let room = loop.room in
    let few = c.requires.few in
    let taken = take c.loop-i.i c.loop-i.values in
    let fewer : length taken < length numbers = simp length-take (omega arith) in
    let next = number_follows taken numbers c.loop-i.rest.now rest loop.small small fewer loop.ends ends (sym loop.text ∙ same) in
    c.in_default.ensures.none next.0 next.1.0 next.1.1.fits next.1.1.ends next.1.1.text_is
