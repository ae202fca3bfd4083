-- What a window holds.
use Rattle.std.specs.Prelude.{ℕ, ◌-◌, List, map, take, drop}
use Rattle.tx_model.specs.declared.record.Record.{Record}
use Rattle.tx_model.specs.declared.record.Head.{Head}
use Rattle.tx_model.specs.Records.{head_of}

pub record Contents : Type 0 where
  -- the records, from the id 1 on
  pub log : List Record
  -- so many more can be pushed without memory
  pub room : ℕ

-- of a log's first records, so many, the heads of those from an id on, so many at most
abbrev pub shown_heads : List Record → ℕ → ℕ → ℕ → List Head
shown_heads log committed from max = map head_of (take max (drop (from - 1) (take committed log)))

-- the records of a log after a place up to another one, eight at most
abbrev pub part_of : List Record → ℕ → ℕ → List Record
part_of log place upto = take 8 (drop place (take upto log))
