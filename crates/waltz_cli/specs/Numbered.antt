-- What the commands on the schedule of a number print.
use Rattle.std.specs.Prelude.{◌≡◌, ◌⊎◌, ℕ, List, Option}
use Rattle.std.specs.Io.KnownBytes.{Appends, Keeps}
use Rattle.io_core.specs.Bytes.{AppendsPrefix}
use Rattle.schedule_replay.specs.Numbered.{numbered_text}
use Rattle.schedule_replay.specs.Drills.{PrintsCounts, PrintsPart}
use Rattle.waltz_cli.specs.Ends.{IsBroken}

-- The schedule of the number is printed; or a prefix, where the output failed or memory ran out.
abbrev pub PrintsNumbered : (number events : ℕ) (held_old held_new : Option (List ℕ)) (status : ℕ) → Type 0
PrintsNumbered number events held_old held_new status =
    ((status ≡ 0) × Appends held_old held_new (numbered_text number events))
    ⊎ (IsBroken status × AppendsPrefix held_old held_new (numbered_text number events))

-- The counts of its run are printed; or a prefix of them, where the output failed; or nothing, where memory ran out, unless
-- the sink met that.
abbrev pub PrintsDrilled : (number events : ℕ) (held_old held_new : Option (List ℕ)) (refused : Type 0) (status : ℕ) → Type 0
PrintsDrilled number events held_old held_new refused status =
    ((status ≡ 0) × PrintsCounts number events held_old held_new)
    ⊎ (((status ≡ 11) × PrintsPart number events held_old held_new)
    ⊎ ((status ≡ 20) × (Keeps held_old held_new ⊎ (refused × PrintsPart number events held_old held_new))))
