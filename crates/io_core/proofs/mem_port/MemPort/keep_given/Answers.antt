use Rattle.std.proofs.Common.{◌∙◌, refl, sym, map, arith}
use Rattle.std.specs.Vec.{vec_items}
use Rattle.std.proofs.lemmas.List.{length-map}
use Rattle.io_core.proofs.Attempts.{answers_of-given, given_count-given}
use Rattle.io_core.proofs.Coming.{length-added}
use Rattle.io_core.proofs.mem_port.MemPort.keep_given.Goals as goal

pub invariant_of-self-2 : goal.invariant_of-self-2
invariant_of-self-2 c =
    let more = length-added vec_items c.self.inside.answers.items c.add_both.new.texts.items c.args.bytes.now c.in_ok-add_both.ensures.text in
    (c.self.invariant.0, rw (c.in_ok-add_both.ensures.item, given_count-given c.self.inside.past.items, more) (omega (arith, c.self.invariant.1)))

pub returns-clause-ok : goal.returns-clause-ok
returns-clause-ok c =
    let more = answers_of-given c.self.inside.past.items (map vec_items c.self.inside.answers.items) c.args.bytes.now (c.self.invariant.1 ∙ sym (length-map _ _)) in
    rw (← c.self.view_is, c.in_ok-add_both.ensures.item, c.in_ok-add_both.ensures.text, more) refl
