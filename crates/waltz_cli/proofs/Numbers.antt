-- How the commands on the schedule of a number end.
use Rattle.std.proofs.Common.{◌≡◌, ◌⊎◌, inl, inr, ℕ, List, Option, Result, Ok, Err, refl, arith}
use Rattle.std.specs.Prelude.{OnOk, OnErr, IfErr}
use Rattle.schedule_replay.specs.declared.fault.ReplayFault.{ReplayFault}
use Rattle.schedule_replay.specs.declared.fault.ReplayFault.TheVariants.{Read, Write, Line, Range, TooManyEvents, Memory}
use Rattle.schedule_replay.specs.Faults.{IsBrokenFault}
use Rattle.schedule_replay.specs.Drills.{PrintsDrill}
use Rattle.waltz_cli.specs.Ends.{status_of, end_of, IsBroken, IsWrittenStatus}
use Rattle.waltz_cli.specs.Numbered.{PrintsDrilled}

pub written : (result : Result Unit ReplayFault) (status : ℕ) (whole part : Type 0) → OnOk result whole → OnErr result part → IfErr result IsBrokenFault → status ≡ status_of (end_of result) → ((status ≡ 0) × whole) ⊎ (IsBroken status × part)
written (Ok u) status whole part w p b is = inl (is, w)
written (Err Write) status whole part w p b is = inr (inl is, p)
written (Err Memory) status whole part w p b is = inr (inr is, p)
written (Err Read) status whole part w p b is = absurd b
written (Err (Line line at)) status whole part w p b is = absurd b
written (Err (Range line name)) status whole part w p b is = absurd b
written (Err TooManyEvents) status whole part w p b is = absurd b

pub drilled : (number events : ℕ) (held held' : Option (List ℕ)) (refused : Type 0) (result : Result Unit ReplayFault) (status : ℕ) → PrintsDrill number events held held' refused result → status ≡ status_of (end_of result) → PrintsDrilled number events held held' refused status
drilled number events held held' refused (Ok u) status p is = inl (is, p)
drilled number events held held' refused (Err Write) status p is = inr (inl (is, p))
drilled number events held held' refused (Err Memory) status p is = inr (inr (is, p))
drilled number events held held' refused (Err Read) status p is = absurd p
drilled number events held held' refused (Err (Line line at)) status p is = absurd p
drilled number events held held' refused (Err (Range line name)) status p is = absurd p
drilled number events held held' refused (Err TooManyEvents) status p is = absurd p

pub few_written : (status : ℕ) (whole part : Type 0) → ((status ≡ 0) × whole) ⊎ (IsBroken status × part) → IsWrittenStatus status
few_written status whole part (inl p) = inl p.0
few_written status whole part (inr p) = inr p.0

pub few_drilled : (number events : ℕ) (held held' : Option (List ℕ)) (refused : Type 0) (status : ℕ) → PrintsDrilled number events held held' refused status → IsWrittenStatus status
few_drilled number events held held' refused status (inl p) = inl p.0
few_drilled number events held held' refused status (inr (inl p)) = inr (inl p.0)
few_drilled number events held held' refused status (inr (inr p)) = inr (inr p.0)

-- 11 is the status of no other end than a failed output
pub is_write : (result : Result Unit ReplayFault) (status : ℕ) → status ≡ status_of (end_of result) → status ≡ 11 → result ≡ Err Write
is_write (Ok u) status is eleven = absurd (omega (arith, is, eleven))
is_write (Err Write) status is eleven = refl
is_write (Err Memory) status is eleven = absurd (omega (arith, is, eleven))
is_write (Err Read) status is eleven = absurd (omega (arith, is, eleven))
is_write (Err (Line line at)) status is eleven = absurd (omega (arith, is, eleven))
is_write (Err (Range line name)) status is eleven = absurd (omega (arith, is, eleven))
is_write (Err TooManyEvents) status is eleven = absurd (omega (arith, is, eleven))
