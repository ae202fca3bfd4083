use Rattle.std.proofs.Common.{◌≡◌, ◌++◌, flat_map}
use Rattle.kv_app.proofs.TextLemmas.{text_at}
use Rattle.kv_app.proofs.numbers.text_of.Given as goal

-- what is written, and what the entries that are left give
abbrev pub invariant-loop-key : goal.invariant-loop-key
invariant-loop-key l = l.text.items ++ flat_map (text_at (λ k. k.items)) l.key-iterator ≡ flat_map (text_at (λ k. k.items)) l.fn.numbers.entries
