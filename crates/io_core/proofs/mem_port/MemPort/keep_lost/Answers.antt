use Rattle.std.proofs.Common.{◌≡◌, refl, map, [], ◌∷◌, ◌++◌, rules}
use Rattle.std.specs.Vec.{vec_items}
use Rattle.io_core.specs.declared.kept.Attempt.TheVariants.{Lost}
use Rattle.io_core.proofs.Attempts.{answers_of-lost, given_count-lost}
use Rattle.io_core.proofs.mem_port.MemPort.keep_lost.Goals as goal

pub invariant_of-self-2 : goal.invariant_of-self-2
invariant_of-self-2 c =
    let pushed : c.push.new.self.items ≡ c.self.inside.past.items ++ Lost c.in_ok-copy.copy ∷ [] = search rules in
    (c.self.invariant.0, rw (pushed, given_count-lost c.self.inside.past.items c.in_ok-copy.copy) c.self.invariant.1)

pub returns-clause-ok : goal.returns-clause-ok
returns-clause-ok c =
    let pushed : c.push.new.self.items ≡ c.self.inside.past.items ++ Lost c.in_ok-copy.copy ∷ [] = search rules in
    let copied : c.in_ok-copy.copy.items ≡ c.args.bytes.now = search rules in
    rw (← c.self.view_is, pushed, answers_of-lost c.self.inside.past.items (map vec_items c.self.inside.answers.items) c.in_ok-copy.copy, copied) refl
