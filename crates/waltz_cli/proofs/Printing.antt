-- What is printed at each status, and that the lines decide the status.
use Rattle.std.proofs.Common.{◌≡◌, ◌⊎◌, inl, inr, ℕ, ◌<◌, ◌≤◌, List, [], ◌++◌, length, take, arith, refl, sym, ◌∙◌, ap, Option, Some, None, Result, Ok, Err, subst, length-append}
use Rattle.std.specs.Io.KnownBytes.{Appends}
use Rattle.std.proofs.lemmas.Bool.{cases_lt}
use Rattle.std.proofs.lemmas.List.{append-nil, take-append-le}
use Rattle.io_core.specs.Bytes.{AppendsPrefix}
use Rattle.io_core.proofs.Known.{Appends-more, AppendsPrefix-more}
use Rattle.io_core.specs.Causes.{Rose}
use Rattle.schedule_replay.specs.declared.fault.ReplayFault.{ReplayFault}
use Rattle.schedule_replay.specs.declared.fault.ReplayFault.TheVariants.{Read, Write, Line, Range, TooManyEvents, Memory}
use Rattle.schedule_replay.specs.Faults.{IsBroken as IsBrokenEnd, IsReported}
use Rattle.schedule_replay.specs.Replays.{PrintsRun, Prints as PrintsText, ComesExactly as EndsExactly, IsBrokenBy as IsBrokenEndBy}
use Rattle.waltz_cli.specs.declared.end.End.{End}
use Rattle.waltz_cli.specs.declared.end.End.TheVariants.{Done, Stopped}
use Rattle.waltz_cli.specs.Ends.{end_of, status_of, last_line, IsBroken, IsBrokenBy, Finishes}
use Rattle.waltz_cli.specs.Replays.{Prints, PrintsReplay, ComesExactly}

-- ---- what is printed

AppendsPrefix-longer : (a b : Option (List ℕ)) (xs ys : List ℕ) → AppendsPrefix a b xs → AppendsPrefix a b (xs ++ ys)
AppendsPrefix-longer a b xs ys p = (p.0, simp length-append (omega (arith, p.1)), shorter p.0 p.1 p.2)
  where
    shorter : (k : ℕ) → k ≤ length xs → Appends a b (take k xs) → Appends a b (take k (xs ++ ys))
    shorter k within held = rw (take-append-le k xs ys within) held

broken_by : (refused whole : Type 0) (status : ℕ) → (refused → whole) → IsBrokenBy refused status → IsBrokenBy whole status
broken_by refused whole status so (inl is) = inl is
broken_by refused whole status so (inr p) = inr (p.0, so p.1)

-- an end whose whole text was told
reported : (refused whole : Type 0) (end : Result Unit ReplayFault) (h0 h1 h2 : Option (List ℕ)) (text : List ℕ) (status : ℕ) → (refused → whole) → IsReported end → Appends h0 h1 text → Finishes refused h1 h2 (end_of end) status → Prints whole end h0 h2 text status
reported refused whole end h0 h1 h2 text status so is held (inl p) = inl (is, p.0, Appends-more h0 h1 h2 text (last_line (end_of end)) held p.1)
reported refused whole end h0 h1 h2 text status so is held (inr (inl p)) =
    inr (inl (p.0, rw append-nil at (Appends-more h0 h1 h2 text [] held p.1)))
reported refused whole end h0 h1 h2 text status so is held (inr (inr p)) =
    inr (inr (broken_by refused whole status so p.0, AppendsPrefix-more h0 h1 h2 text (last_line (end_of end)) held p.1))

-- an end without a last line
silent_status : (result : Result Unit ReplayFault) (fault : ReplayFault) (h1 h2 : Option (List ℕ)) (status : ℕ) → result ≡ Err fault → last_line (Stopped fault) ≡ [] → (last_line (end_of result) ≡ [] → (status ≡ status_of (end_of result)) × (h2 ≡ h1)) → (status ≡ status_of (Stopped fault)) × (h2 ≡ h1)
silent_status result fault h1 h2 status is none silent =
    let S : Result Unit ReplayFault → Type 0 = λ r. (last_line (end_of r) ≡ [] → (status ≡ status_of (end_of r)) × (h2 ≡ h1)) in
    subst S is silent none

prints_text : (met refused whole : Type 0) (end result : Result Unit ReplayFault) (h0 h1 h2 : Option (List ℕ)) (text : List ℕ) (status : ℕ) → (met → whole) → (refused → whole) → PrintsText met end h0 h1 text result → Finishes refused h1 h2 (end_of result) status → (last_line (end_of result) ≡ [] → (status ≡ status_of (end_of result)) × (h2 ≡ h1)) → Prints whole end h0 h2 text status
prints_text met refused whole end result h0 h1 h2 text status m so (inl p) finish silent =
    let F : Result Unit ReplayFault → Type 0 = λ r. Finishes refused h1 h2 (end_of r) status in
    reported refused whole end h0 h1 h2 text status so p.0 p.2 (subst F p.1 finish)
prints_text met refused whole end result h0 h1 h2 text status m so (inr (inl p)) finish silent =
    let same = silent_status result Memory h1 h2 status p.0 refl silent in
    inr (inl (same.0, rw same.1 p.1))
prints_text met refused whole end result h0 h1 h2 text status m so (inr (inr p)) finish silent = by_cause p.0
  where
    by_cause : IsBrokenEndBy met result → Prints whole end h0 h2 text status
    by_cause (inl is) =
        let same = silent_status result Write h1 h2 status is refl silent in
        inr (inr (inl same.0, rw same.1 (AppendsPrefix-longer h0 h1 text (last_line (end_of end)) p.1)))
    by_cause (inr is) =
        let same = silent_status result Memory h1 h2 status is.0 refl silent in
        inr (inr (inr (same.0, m is.1), rw same.1 (AppendsPrefix-longer h0 h1 text (last_line (end_of end)) p.1)))

pub prints : (left_old before left_new h0 h1 h2 : Option (List ℕ)) (met refused whole : Type 0) (result : Result Unit ReplayFault) (end : End) (status : ℕ) → end ≡ end_of result → (met → whole) → (refused → whole) → PrintsRun left_old before left_new h0 h1 met result → Finishes refused h1 h2 end status → (last_line end ≡ [] → (status ≡ status_of end) × (h2 ≡ h1)) → PrintsReplay left_old before left_new h0 h2 whole status
prints left_old before left_new h0 h1 h2 met refused whole result end status is m so run finish silent =
    let F : End → Type 0 = λ e. Finishes refused h1 h2 e status in
    let S : End → Type 0 = λ e. (last_line e ≡ [] → (status ≡ status_of e) × (h2 ≡ h1)) in record {
      end = run.end;
      cluster = run.cluster;
      lines = run.lines;
      events = run.events;
      outcomes = run.outcomes;
      worlds = run.worlds;
      after = run.after;
      few = run.few;
      read = run.read;
      schedule = run.schedule;
      run = run.run;
      reliable = run.reliable;
      text = prints_text met refused whole run.end result h0 h1 h2 _ status m so run.text (subst F is finish) (subst S is silent);
    }

-- ---- exactly

pub finished : (refused : Type 0) (h1 h2 : Option (List ℕ)) (end : End) (status : ℕ) → Finishes refused h1 h2 end status → (status ≡ status_of end) ⊎ IsBroken status
finished refused h1 h2 end status (inl p) = inl p.0
finished refused h1 h2 end status (inr (inl p)) = inr (inr p.0)
finished refused h1 h2 end status (inr (inr (inl is, held))) = inr (inl is)
finished refused h1 h2 end status (inr (inr (inr p, held))) = inr (inr p.0)

broken_status : (result : Result Unit ReplayFault) (status : ℕ) → IsBrokenEnd result → (status ≡ status_of (end_of result)) ⊎ IsBroken status → IsBroken status
broken_status (Err Write) status is (inl same) = inl same
broken_status (Err Memory) status is (inl same) = inr same
broken_status result status is (inr broken) = broken
broken_status (Ok u) status is (inl same) = absurd is
broken_status (Err Read) status is (inl same) = absurd is
broken_status (Err (Line l at)) status is (inl same) = absurd is
broken_status (Err (Range l name)) status is (inl same) = absurd is
broken_status (Err TooManyEvents) status is (inl same) = absurd is

module _ (refused : Type 0) (h1 h2 : Option (List ℕ)) (result : Result Unit ReplayFault) (end : End) (status : ℕ) (is : end ≡ end_of result) (finish : Finishes refused h1 h2 end status) where
  pub told : (status ≡ status_of (end_of result)) ⊎ IsBroken status
  told = let F : End → Type 0 = λ e. Finishes refused h1 h2 e status in finished refused h1 h2 (end_of result) status (subst F is finish)

  -- the status of an end that is answered
  status_told : (wanted : Result Unit ReplayFault) → (result ≡ wanted) ⊎ ((result ≡ Err Read) ⊎ IsBrokenEnd result) → (status ≡ status_of (end_of wanted)) ⊎ ((status ≡ 10) ⊎ IsBroken status)
  status_told wanted (inl same) = elim told [ inl s ↦ inl (s ∙ ap (λ r. status_of (end_of r)) same) | inr broken ↦ inr (inr broken) ]
  status_told wanted (inr (inl same)) = elim told [ inl s ↦ inr (inl (s ∙ ap (λ r. status_of (end_of r)) same)) | inr broken ↦ inr (inr broken) ]
  status_told wanted (inr (inr broken)) = inr (inr (broken_status result status broken told))

  pub exactly : (left_old : Option (List ℕ)) → EndsExactly left_old result → ComesExactly left_old status
  exactly None ends = tt
  exactly (Some bytes) ends = λ wanted cluster lines events rest d schedule cut reason. status_told wanted (ends wanted cluster lines events rest d schedule cut reason)

  -- a read fault that was counted is told
  pub read_told : (result ≡ Err Read) ⊎ IsBrokenEnd result → (status ≡ 10) ⊎ IsBroken status
  read_told (inl same) = elim told [ inl s ↦ inl (s ∙ ap (λ r. status_of (end_of r)) same) | inr broken ↦ inr broken ]
  read_told (inr broken) = inr (broken_status result status broken told)

-- ---- causes

-- the end of a replay tells its fault
pub stopped : (result : Result Unit ReplayFault) (end : End) (fault : ReplayFault) → end ≡ end_of result → end ≡ Stopped fault → result ≡ Err fault
stopped (Ok u) end fault is same = let never : Done ≡ Stopped fault = sym is ∙ same in cc
stopped (Err other) end fault is same = let both : Stopped other ≡ Stopped fault = sym is ∙ same in cc

-- a write fault of a replay has its status
pub write_status : (result : Result Unit ReplayFault) (end : End) (status : ℕ) → end ≡ end_of result → result ≡ Err Write → (last_line end ≡ [] → status ≡ status_of end) → status ≡ 11
write_status result end status is failed silent =
    let S : End → Type 0 = λ e. (last_line e ≡ [] → status ≡ status_of e) in
    subst S (is ∙ ap end_of failed) silent refl

-- a write fault that was counted is told, whether it came in the replay or at its end
pub write_told : (f0 f1 f2 status : ℕ) → f0 ≤ f1 → (f0 < f1 → status ≡ 11) → (f1 < f2 → status ≡ 11) → f0 < f2 → status ≡ 11
write_told f0 f1 f2 status later early late rose = elim (cases_lt f0 f1) [ inl some ↦ early some | inr none ↦ late (omega (arith, none, later, rose)) ]

pub rose_early : (a b c : ℕ) → b ≤ c → Rose a b → Rose a c
rose_early a b c later rose = omega (arith, later, rose)

pub rose_late : (a b c : ℕ) → a ≤ b → Rose b c → Rose a c
rose_late a b c later rose = grind (arith, later, rose)
