-- The nodes that are out by a failed exchange, and the faults that a link counted.
use Rattle.std.specs.Prelude.{◌≡◌, ◌≢◌, ℕ, ◌+◌, ◌-◌, ◌^◌, ◌≤◌, min, List, [], ◌∷◌}
use Rattle.io_core.specs.Causes.{Rose}
use Rattle.server_loop.specs.declared.driving.Out.{Out}
use Rattle.server_loop.specs.declared.driving.Out.TheVariants as outs
use Rattle.server_loop.specs.declared.awaiting.Answer.{Answer}
use Rattle.server_loop.specs.declared.awaiting.Answer.TheVariants as answers

abbrev pub failure : Out → ℕ
failure outs.Failed = 1
failure _ = 0

-- how many nodes are out by a failed exchange
unfoldable pub failures : List Out → ℕ
failures [] = 0
failures (out ∷ list) = failure out + failures list

-- so many faults were counted at least, in a count that stays at the greatest `u64`
abbrev pub RoseBy : ℕ → ℕ → ℕ → Type 0
RoseBy before now count = min (before + count) (2 ^ 64 - 1) ≤ now

-- an exchange with a node failed only by a counted fault, and else none was counted
pub record HasAnswerCause (before now : ℕ) (answer : Answer) : Type 0 where
  pub failed : answer ≡ answers.Failed → Rose before now
  pub none : answer ≢ answers.Failed → now ≡ before

-- Each node that went out by a failed exchange has a counted fault of its own. Where there is none, none was counted.
pub record HasCounted (before now : ℕ) (old new : List Out) : Type 0 where
  pub more : failures old ≤ failures new
  pub rose : RoseBy before now (failures new - failures old)
  pub none : failures new ≡ failures old → now ≡ before
