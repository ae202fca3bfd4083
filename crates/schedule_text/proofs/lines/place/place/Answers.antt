use Rattle.std.proofs.Common.{take, arith, refl, sym, ◌∙◌, subst}
use Rattle.std.proofs.lemmas.Bool.{false≢true}
use Rattle.schedule_text.specs.Places.{IsLongest}
use Rattle.schedule_text.specs.Found.{BeginsSome}
use Rattle.schedule_text.proofs.SomeLemmas.{BeginsSome-nothing}
use Rattle.schedule_text.proofs.PlaceLemmas.{longest_by_next, first_512}
use Rattle.schedule_text.proofs.lines.place.place.Goals as goal
use Rattle.schedule_text.proofs.lines.place.place.Goals.{then-loop-at-test+else-begins_some, else-loop-at-test}

pub loop-at-init : goal.loop-at-init
loop-at-init c = record { within = omega arith; holds = BeginsSome-nothing c.args.forms.now c.requires }

pub returns : goal.returns
returns c =
    let forms = c.args.forms.now in
    let front = take c.min.result c.args.line.now in
    let at = c.loop-at.at in
    let loop = c.loop-at.invariant in
    let longest : IsLongest (BeginsSome forms) front at = elim c.loop-at-test.branch [
      | then-loop-at-test+else-begins_some w ↦ longest_by_next forms front at loop.within loop.holds (λ more begins. false≢true (sym w.if-begins_some.false ∙ w.begins_some.ensures.1 begins))
      | else-loop-at-test w ↦ longest_by_next forms front at loop.within loop.holds (λ more. absurd (omega (arith, w.loop-at-test.false)))
    ] in
    record { longest = at; at_is = refl; is_longest = subst (λ t. IsLongest (BeginsSome forms) t at) (first_512 c.args.line.now c.min.result c.min.ensures) longest }
