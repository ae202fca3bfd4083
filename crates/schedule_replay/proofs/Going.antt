-- A replay, line by line: what was read and printed so far, and one line more.
use Rattle.std.proofs.Common.{◌≡◌, ℕ, ◌+◌, ◌<◌, ◌≤◌, List, [], ◌∷◌, ◌++◌, arith, refl, sym, ◌∙◌, ap, subst, append_assoc, length-append, Option, None, Some, Ok, inl, inr}
use Rattle.std.specs.Io.KnownBytes.{prepend_known}
use Rattle.std.proofs.KnownBytes.{prepend_known-nil}
use Rattle.std.proofs.lemmas.List.{append-nil}
use Rattle.std.proofs.lemmas.Grind.{flat_map-append}
use Rattle.io_core.specs.Lines.{TakesLine, IsReadWhileOpen}
use Rattle.io_core.proofs.Known.{Appends-nothing, Appends-more}
use Rattle.proto_model.proofs.TableLemmas.{AllByRecursion-append}
use Rattle.net_model.specs.declared.cluster.Cluster.{Cluster}
use Rattle.net_model.specs.declared.outcome.Outcome.{Outcome}
use Rattle.world_law.specs.Worlds.{WorldState, start}
use Rattle.world_law.specs.Runs.{IsRunOnFiles, HasFiles, last_world}
use Rattle.world_law.proofs.Runs.{IsRun-push, last_world-push}
use Rattle.schedule_text.specs.Taken.{TakesLines, IsOver, ReadsOn, room_after}
use Rattle.schedule_text.specs.Outcomes.{printed, outcome_line}
use Rattle.schedule_text.proofs.Taken.{TakesLines-none, TakesLines-more, needs_read, without_read, room-some}
use Rattle.schedule_replay.specs.Plays.{StandFor}
use Rattle.schedule_replay.specs.Schedules.{IsSchedule}
use Rattle.schedule_replay.specs.declared.events.Turned.{Turned}
use Rattle.schedule_replay.specs.declared.events.Turned.TheVariants.{More, Over}
use Rattle.schedule_replay.specs.Steps.{BeginsReplay, TurnOf, Turns, Moves, NeedsLastRead, Going}
use Rattle.schedule_replay.proofs.ScheduleLemmas.{IsSchedule-push}

printed-push : (outcomes : List Outcome) (outcome : Outcome) → printed (outcomes ++ outcome ∷ []) ≡ printed outcomes ++ outcome_line outcome
printed-push outcomes outcome = flat_map-append outcome_line outcomes (outcome ∷ []) ∙ ap (λ xs. printed outcomes ++ xs) (append-nil (outcome_line outcome))

-- the first line needed the last read
first_read : (a next before left : Option (List ℕ)) (line : List ℕ) → TakesLine a next line → IsReadWhileOpen 512 [] a before left → NeedsLastRead (line ∷ []) a before left
first_read None next before left line takes p = tt
first_read (Some bytes) next before left line takes p =
    needs_read 20001 bytes [] line (Some bytes) next before left [] (TakesLines-none (Some bytes)) takes p

-- one line more
needs_more : {S : Type 0} (left before : S → Option (List ℕ)) (old new : S) (a next : Option (List ℕ)) (pending line : List ℕ) (lines : List (List ℕ)) → TakesLines a (prepend_known pending (left old)) lines → NeedsLastRead lines a (before old) (left old) → TakesLine (prepend_known pending (left old)) next line → ReadsOn left before old new (room_after 20001 lines) pending → NeedsLastRead (lines ++ line ∷ []) a (before new) (left new)
needs_more left before old new None next pending line lines taken last takes on = tt
needs_more left before old new (Some bytes) next pending line lines taken last takes (inl same) =
    rw same (without_read 20001 bytes line (before old) (left old) lines last)
needs_more left before old new (Some bytes) next pending line lines taken last takes (inr p) =
    needs_read 20001 bytes pending line (left old) next (before new) (left new) lines taken takes p

module _ (P : Type 0) (shows : P → WorldState → Type 0) (cluster : P → Cluster) where
  -- the files of each world that is shown stand for its nodes' states
  abbrev pub Standing : Type 0
  Standing = (p : P) (w : WorldState) → shows p w → HasFiles StandFor w

  -- after the first line
  pub going_first : (standing : Standing) (a here before left held : Option (List ℕ)) (pending waiting : List ℕ) (p : P) → pending ≡ [] → waiting ≡ [] → BeginsReplay shows cluster (prepend_known pending a) here a before left p → Going shows cluster a here before left held held waiting p 1
  going_first standing a here before left held pending waiting p fresh empty begins =
      let takes = rw (fresh, prepend_known-nil a) at begins.takes.read in
      record {
        lines = begins.takes.line ∷ [];
        events = [];
        outcomes = [];
        worlds = [];
        schedule = (begins.takes.first, tt);
        run = record { run = tt; files = (standing p (start (cluster p)) begins.shown, tt) };
        shown = begins.shown;
        read = TakesLines-more a a here [] begins.takes.line (TakesLines-none a) takes;
        last = first_read a here before left begins.takes.line takes begins.read;
        written = [];
        held = Appends-nothing held;
        told = empty;
        count = refl;
      }

  -- some of what waited was written
  pub going_written : (a b before left h0 h1 h2 : Option (List ℕ)) (w0 w1 : List ℕ) (p : P) (n : ℕ) → Going shows cluster a b before left h0 h1 w0 p n → Moves h1 h2 w0 w1 → Going shows cluster a b before left h0 h2 w1 p n
  going_written a b before left h0 h1 h2 w0 w1 p n going moves = record {
    lines = going.lines;
    events = going.events;
    outcomes = going.outcomes;
    worlds = going.worlds;
    schedule = going.schedule;
    run = going.run;
    shown = going.shown;
    read = going.read;
    last = going.last;
    written = going.written ++ moves.moved;
    held = Appends-more h0 h1 h2 going.written moves.moved going.held moves.held;
    told = append_assoc going.written moves.moved w1 ∙ (ap (λ w. going.written ++ w) (sym moves.split) ∙ going.told);
    count = going.count;
  }

  -- what a turn did
  pub turn_more : (a b : Option (List ℕ)) (old new : P) (w0 w1 : List ℕ) (number : ℕ) (turned : Turned) → turned ≡ More → TurnOf shows cluster a b old new w0 w1 number (Ok turned) → Turns shows cluster a b old new w0 w1
  turn_more a b old new w0 w1 number turned is turn =
      let T : Turned → Type 0 = λ t. TurnOf shows cluster a b old new w0 w1 number (Ok t) in
      subst T is turn

  pub turn_over : (a b : Option (List ℕ)) (old new : P) (w0 w1 : List ℕ) (number : ℕ) (turned : Turned) → turned ≡ Over → TurnOf shows cluster a b old new w0 w1 number (Ok turned) → IsOver a b × (w1 ≡ w0)
  turn_over a b old new w0 w1 number turned is turn =
      let T : Turned → Type 0 = λ t. TurnOf shows cluster a b old new w0 w1 number (Ok t) in
      subst T is turn

  -- one line more
  pub going_more : {S : Type 0} (standing : Standing) (left before : S → Option (List ℕ)) (s0 s1 : S) (a h0 h1 : Option (List ℕ)) (pending0 pending1 w0 w1 : List ℕ) (old new : P) (n : ℕ) → 0 < n → n ≤ 20000 → Going shows cluster a (prepend_known pending0 (left s0)) (before s0) (left s0) h0 h1 w0 old n → Turns shows cluster (prepend_known pending0 (left s0)) (prepend_known pending1 (left s1)) old new w0 w1 → ReadsOn left before s0 s1 512 pending0 → Going shows cluster a (prepend_known pending1 (left s1)) (before s1) (left s1) h0 h1 w1 new (n + 1)
  going_more standing left before s0 s1 a h0 h1 pending0 pending1 w0 w1 old new n some few going turn reads =
      let first : WorldState = start (cluster old) in
      let step = turn.on.leads (last_world first going.worlds) going.shown in
      let S : Cluster → Type 0 = λ x. IsSchedule (going.lines ++ turn.takes.line ∷ []) x (going.events ++ turn.event ∷ []) in
      let R : Cluster → Type 0 = λ x. IsRunOnFiles StandFor (start x) (going.events ++ turn.event ∷ []) (going.outcomes ++ turn.on.outcome ∷ []) (going.worlds ++ step.new ∷ []) in
      let V : WorldState → Type 0 = λ w. shows new w in
      let O : ℕ → Type 0 = λ room. ReadsOn left before s0 s1 room pending0 in
      record {
        lines = going.lines ++ turn.takes.line ∷ [];
        events = going.events ++ turn.event ∷ [];
        outcomes = going.outcomes ++ turn.on.outcome ∷ [];
        worlds = going.worlds ++ step.new ∷ [];
        schedule = subst S (sym turn.on.same) (IsSchedule-push (cluster old) going.lines going.events turn.takes.line turn.event (omega (arith, going.count)) going.schedule turn.takes.further);
        run = subst R (sym turn.on.same) (record {
          run = IsRun-push first going.events going.outcomes going.worlds turn.event turn.on.outcome step.new going.run.run step.step;
          files = AllByRecursion-append (HasFiles StandFor) (first ∷ going.worlds) (step.new ∷ []) going.run.files (standing new step.new step.shown, tt);
        });
        shown = subst V (sym (last_world-push (start (cluster new)) going.worlds step.new)) step.shown;
        read = TakesLines-more a (prepend_known pending0 (left s0)) (prepend_known pending1 (left s1)) going.lines turn.takes.line going.read turn.takes.read;
        last = needs_more left before s0 s1 a (prepend_known pending1 (left s1)) pending0 turn.takes.line going.lines going.read going.last turn.takes.read (subst O (sym (room-some 20001 going.lines n going.count (omega (arith, few)))) reads);
        written = going.written;
        held = going.held;
        told = ap (λ w. going.written ++ w) turn.on.text ∙ (sym (append_assoc going.written w0 (outcome_line turn.on.outcome)) ∙ (ap (λ t. t ++ outcome_line turn.on.outcome) going.told ∙ sym (printed-push going.outcomes turn.on.outcome)));
        count = simp length-append (omega (arith, going.count));
      }
