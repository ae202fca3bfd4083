use Rattle.std.proofs.Common.{◌≡◌, map}
use Rattle.schedule_text.proofs.lines.lists.keys_of.Given as goal

abbrev pub invariant-loop-key : goal.invariant-loop-key
invariant-loop-key l = l.keys.items ≡ map (λ x. x.now) l.yielded
