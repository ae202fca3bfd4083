use Rattle.std.proofs.Common.{length, take, subst}
use Rattle.schedule_text.specs.Lines.{IsFirstOut}
use Rattle.schedule_text.specs.Found.{parts_from}
use Rattle.schedule_text.proofs.FoundLemmas.{some_parts}
use Rattle.schedule_text.proofs.lines.read.find.Goals as goal

pub returns-in-Some-first_out-clause-fault : goal.returns-in-Some-first_out-clause-fault
returns-in-Some-first_out-clause-fault c =
    let found = c.in-Some.found in
    let parts = some_parts c.args.forms.now c.args.line.now found c.in-Some.ensures.some in
    let out = subst (λ names. IsFirstOut c.args.cluster.now names (take (length names) found.numbers.values) c.in-Some-first_out.name) c.row.ensures.names c.in-Some-first_out.ensures.some in
    (parts_from found parts.0, parts.1, out)
