use Rattle.std.proofs.Common.{◌≡◌, refl, map, [], ◌∷◌, ◌++◌, rules}
use Rattle.std.specs.Vec.{vec_items}
use Rattle.io_core.specs.declared.kept.Past.TheVariants.{Unheard}
use Rattle.io_core.proofs.Pasts.{transcript_of-unheard, replied_count-unheard}
use Rattle.io_core.proofs.mem_link.MemLink.keep_unheard.Goals as goal

pub invariant_of-self-2 : goal.invariant_of-self-2
invariant_of-self-2 c =
    let pushed : c.push.new.self.items ≡ c.self.inside.past.items ++ Unheard c.args.port c.in_ok-copy.copy ∷ [] = search rules in
    (c.self.invariant.0, rw (pushed, replied_count-unheard c.self.inside.past.items c.args.port c.in_ok-copy.copy) c.self.invariant.1)

pub returns-clause-ok : goal.returns-clause-ok
returns-clause-ok c =
    let pushed : c.push.new.self.items ≡ c.self.inside.past.items ++ Unheard c.args.port c.in_ok-copy.copy ∷ [] = search rules in
    let copied : c.in_ok-copy.copy.items ≡ c.args.bytes.now = search rules in
    rw (← c.self.view_is, pushed, transcript_of-unheard c.self.inside.past.items (map vec_items c.self.inside.sent.items) (map vec_items c.self.inside.replies.items) c.args.port c.in_ok-copy.copy, copied) refl
