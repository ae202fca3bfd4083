-- The register: one number, 0 at first. A read gives it, and a compare-and-set makes it one more.
use Rattle.std.specs.Prelude.{ℕ, ◌+◌, ◌-◌, ◌^◌, ◌==◌, if◌then◌else◌, ⊤}
use Rattle.tx_model.specs.Records.{IsPlace}
use Rattle.tx_model.specs.Spelling.{IsCount}
use Rattle.session_register.specs.declared.register.Cas.{Cas}
use Rattle.session_register.specs.declared.register.Cas.TheVariants.{Won, Lost, Exhausted}

-- the greatest session number
abbrev pub last_session : ℕ
last_session = 2 ^ 48 - 1

-- the answer of a compare-and-set from a number
abbrev pub cas_answer : ℕ → ℕ → Cas
cas_answer number from =
    if number == from then (if number == last_session then Exhausted else Won (number + 1)) else Lost number

-- the register's number after an answer
abbrev pub number_after : ℕ → Cas → ℕ
number_after number (Won session) = session
number_after number (Lost current) = number
number_after number Exhausted = number

-- an answer whose number is in the range of sessions, or of what the register holds
abbrev pub IsCas : Cas → Type 0
IsCas (Won session) = IsPlace session
IsCas (Lost current) = IsCount current
IsCas Exhausted = ⊤
