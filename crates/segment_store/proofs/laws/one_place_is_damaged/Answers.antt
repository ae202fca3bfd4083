use Rattle.segment_store.proofs.Damaged.{damaged-once, damaged-front}
use Rattle.segment_store.proofs.laws.one_place_is_damaged.Goals as goal

pub returns-clause-place : goal.returns-clause-place
returns-clause-place c = λ first count other bytes at there one two. damaged-once first count other bytes at there one two

pub returns-clause-front : goal.returns-clause-front
returns-clause-front c = λ first count other bytes at there one two. damaged-front first count other bytes at there one two
