-- What some journals stand for, by computing: of each kind of entry one that is legal, and one that is not.
use Rattle.std.specs.Prelude.{◌≡◌, ℕ, ◌==◌, if◌then◌else◌, List, [], ◌∷◌, Option, Some, None, refl}
use Rattle.tx_model.specs.declared.record.Record.{Record}
use Rattle.tx_model.specs.declared.meta.Meta.{Meta}
use Rattle.tx_model.specs.declared.meta.Meta.TheVariants.{Promise, Adopt, Low, Roll, Value}
use Rattle.tx_model.specs.Records.{ids_rise}
use Rattle.proto_model.specs.Held.{Held, Table, none_held, folded}

-- a record with this id
abbrev r : ℕ → Record
r id = record { id = id; session = 1; tx = record { client = 1; request = 1; mark = 0; reads = []; writes = []; payload = [] } }

-- File 2 has records 1 and 2, file 3 has 2 and 3, file 4 begins with 3, and file 5 has a gap.
abbrev tab : Table
tab q =
    if q == 2 then r 1 ∷ r 2 ∷ []
    else if q == 3 then r 2 ∷ r 3 ∷ []
    else if q == 4 then r 3 ∷ []
    else if q == 5 then r 1 ∷ r 3 ∷ []
    else []

abbrev of : List Meta → Option Held
of entries = folded tab entries none_held

-- ---- what is held

nothing : of [] ≡ Some none_held
unfolding folded
nothing = refl

promise : of (Promise 7 ∷ []) ≡ Some (record none_held { promised = 7 })
unfolding folded
promise = refl

-- one record is counted, and the file has another one behind it
tail : of (Promise 1 ∷ Adopt 1 1 2 1 ∷ []) ≡ Some (record { promised = 1; adopted = 1; low = 0; log = r 1 ∷ r 2 ∷ []; file = 2; first = 1 })
unfolding folded ids_rise
tail = refl

low : of (Promise 1 ∷ Adopt 1 1 2 2 ∷ Low 1 ∷ []) ≡ Some (record { promised = 1; adopted = 1; low = 1; log = r 1 ∷ r 2 ∷ []; file = 2; first = 1 })
unfolding folded ids_rise
low = refl

-- the records above the low mark are those of the new file
adoption : of (Promise 1 ∷ Adopt 1 1 2 2 ∷ Low 1 ∷ Promise 3 ∷ Adopt 3 2 3 2 ∷ []) ≡ Some (record { promised = 3; adopted = 3; low = 1; log = r 1 ∷ r 2 ∷ r 3 ∷ []; file = 3; first = 2 })
unfolding folded ids_rise
adoption = refl

roll : of (Promise 1 ∷ Adopt 1 1 2 2 ∷ Roll 4 3 ∷ []) ≡ Some (record { promised = 1; adopted = 1; low = 0; log = r 1 ∷ r 2 ∷ r 3 ∷ []; file = 4; first = 3 })
unfolding folded ids_rise
roll = refl

-- the file before is closed where the new one begins
roll_closes : of (Promise 1 ∷ Adopt 1 1 2 2 ∷ Roll 3 2 ∷ []) ≡ Some (record { promised = 1; adopted = 1; low = 0; log = r 1 ∷ r 2 ∷ r 3 ∷ []; file = 3; first = 2 })
unfolding folded ids_rise
roll_closes = refl

-- ---- what is illegal

promise_again : of (Promise 7 ∷ Promise 7 ∷ []) ≡ None
unfolding folded
promise_again = refl

adopt_unpromised : of (Promise 7 ∷ Adopt 6 1 2 0 ∷ []) ≡ None
unfolding folded
adopt_unpromised = refl

adopt_twice : of (Promise 1 ∷ Adopt 1 1 2 0 ∷ Adopt 1 1 3 0 ∷ []) ≡ None
unfolding folded ids_rise
adopt_twice = refl

adopt_past_low : of (Promise 1 ∷ Adopt 1 2 3 0 ∷ []) ≡ None
unfolding folded
adopt_past_low = refl

-- file 1 is used
adopt_old_file : of (Promise 1 ∷ Adopt 1 1 1 0 ∷ []) ≡ None
unfolding folded
adopt_old_file = refl

adopt_missing : of (Promise 1 ∷ Adopt 1 1 2 3 ∷ []) ≡ None
unfolding folded ids_rise
adopt_missing = refl

adopt_gap : of (Promise 1 ∷ Adopt 1 1 5 1 ∷ []) ≡ None
unfolding folded ids_rise
adopt_gap = refl

low_again : of (Low 0 ∷ []) ≡ None
unfolding folded
low_again = refl

low_past_the_end : of (Promise 1 ∷ Adopt 1 1 2 2 ∷ Low 3 ∷ []) ≡ None
unfolding folded ids_rise
low_past_the_end = refl

roll_unadopted : of (Roll 2 1 ∷ []) ≡ None
unfolding folded
roll_unadopted = refl

roll_past_the_end : of (Promise 1 ∷ Adopt 1 1 2 2 ∷ Roll 4 4 ∷ []) ≡ None
unfolding folded ids_rise
roll_past_the_end = refl

-- it would begin below the low mark
roll_below_low : of (Promise 1 ∷ Adopt 1 1 2 2 ∷ Low 2 ∷ Roll 3 2 ∷ []) ≡ None
unfolding folded ids_rise
roll_below_low = refl

-- it would begin below the file that it closes: file 4 begins with record 3
roll_below_the_last_file : of (Promise 1 ∷ Adopt 1 1 2 2 ∷ Roll 4 3 ∷ Roll 5 2 ∷ []) ≡ None
unfolding folded ids_rise
roll_below_the_last_file = refl

-- but where that one begins it may, and none of its records is left
roll_at_the_last_file : of (Promise 1 ∷ Adopt 1 1 2 2 ∷ Roll 4 3 ∷ Roll 6 3 ∷ []) ≡ Some (record { promised = 1; adopted = 1; low = 0; log = r 1 ∷ r 2 ∷ []; file = 6; first = 3 })
unfolding folded ids_rise
roll_at_the_last_file = refl

roll_old_file : of (Promise 1 ∷ Adopt 1 1 2 2 ∷ Roll 2 3 ∷ []) ≡ None
unfolding folded ids_rise
roll_old_file = refl

roll_wrong_ids : of (Promise 1 ∷ Adopt 1 1 2 2 ∷ Roll 3 3 ∷ []) ≡ None
unfolding folded ids_rise
roll_wrong_ids = refl

value : of (Value 5 ∷ []) ≡ None
unfolding folded
value = refl
