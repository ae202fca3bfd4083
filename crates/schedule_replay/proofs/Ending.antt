-- How a replay ends.
use Rattle.std.proofs.Common.{◌≡◌, ◌⊎◌, ℕ, ◌+◌, ◌<◌, ◌≤◌, List, [], ◌∷◌, ◌++◌, length, take, arith, refl, sym, ◌∙◌, ap, subst, Option, None, Some, Result, Ok, Err, inl, inr}
use Rattle.std.specs.Prelude.{true}
use Rattle.std.specs.Io.KnownBytes.{prepend_known}
use Rattle.std.proofs.KnownBytes.{prepend_known-nil}
use Rattle.std.proofs.lemmas.Bool.Decides.{nat_tests}
use Rattle.std.proofs.lemmas.List.{append-nil}
use Rattle.std.proofs.Math.Seq.{take-append-add as take-past}
use Rattle.io_core.specs.Bytes.{AppendsPrefix}
use Rattle.io_core.specs.Lines.{lines_of, IsReadWhileOpen}
use Rattle.io_core.proofs.Known.{Appends-nothing, Appends-more}
use Rattle.proto_model.specs.Quorums.{is_within}
use Rattle.net_model.specs.declared.cluster.Cluster.{Cluster}
use Rattle.world_law.specs.Worlds.{WorldState}
use Rattle.schedule_text.specs.declared.lines.form.Name.{Name}
use Rattle.schedule_text.specs.Spellings.{IsClusterOutOfRange, IsEventOutOfRange}
use Rattle.schedule_text.specs.Places.{IsBadEvent}
use Rattle.schedule_text.specs.Taken.{AreTaken, TakesLines, FirstHas, NextHas, IsOver, ReadsOn, room_after, ReadsNoFurther, IsReadForOne}
use Rattle.schedule_text.specs.Outcomes.{printed}
use Rattle.schedule_text.proofs.Taken.{TakesLines-none, lines-rest, some_line, some_first, all_read, keeps_part, part_left, room-some, room-none, reads_first, reads_on, where_some}
use Rattle.schedule_replay.specs.Schedules.{IsBadNext, IsOutNext}
use Rattle.schedule_replay.specs.declared.fault.ReplayFault.{ReplayFault}
use Rattle.schedule_replay.specs.declared.fault.ReplayFault.TheVariants.{Read, Write, Line, Range, TooManyEvents, Memory}
use Rattle.schedule_replay.specs.Replays.{IsAfter, IsFollowed, Leaves, ReadsWhere}
use Rattle.schedule_replay.specs.Steps.{IsBadFirst, BeginsBad, FirstOf, EndsOf, BeginsOf, TurnOf, WritesOf, IsTold, NeedsLastRead, Going, Reaches}
use Rattle.schedule_replay.proofs.Going.{going_written}

-- ---- what follows an end

-- the last read, where it is known what was left
known_last : (a before left : Option (List ℕ)) (bytes : List ℕ) (lines : List (List ℕ)) → a ≡ Some bytes → NeedsLastRead lines a before left → IsReadForOne 20001 lines bytes before left
known_last None before left bytes lines is last = let e : None ≡ Some bytes = is in cc
known_last (Some xs) before left bytes lines is last = let same : xs ≡ bytes = cc in rw same at last

-- the last read, once one line more is asked for, unless nothing was left
asked : {S : Type 0} (left before : S → Option (List ℕ)) (s0 s1 : S) (a : Option (List ℕ)) (lines : List (List ℕ)) (bytes pending mid : List ℕ) → a ≡ Some bytes → prepend_known pending (left s0) ≡ Some mid → AreTaken bytes mid lines → NeedsLastRead lines a (before s0) (left s0) → ReadsOn left before s0 s1 (room_after 20001 lines) pending → ReadsNoFurther 20001 lines bytes (before s1) (left s1) ⊎ ((mid ≡ []) × (left s1 ≡ Some []))
asked left before s0 s1 a lines bytes pending mid known here taken last on =
    reads_on left before s0 s1 20001 lines bytes pending mid (λ b l. ReadsNoFurther 20001 lines bytes b l) taken here (known_last a (before s0) (left s0) bytes lines known last).reads (λ b l further. further) on

bad_next : (lines rest : List (List ℕ)) (at : ℕ) → 0 < length lines → FirstHas (λ line. IsBadEvent line at) rest → IsBadNext lines rest at
bad_next [] rest at some has = absurd (omega arith)
bad_next (first ∷ lines) [] at some has = absurd has
bad_next (first ∷ lines) (line ∷ rest) at some has = has

out_next : (cluster : Cluster) (lines rest : List (List ℕ)) (name : Name) → 0 < length lines → FirstHas (λ line. IsEventOutOfRange cluster line name) rest → IsOutNext cluster lines rest name
out_next cluster [] rest name some has = absurd (omega arith)
out_next cluster (first ∷ lines) [] name some has = absurd has
out_next cluster (first ∷ lines) (line ∷ rest) name some has = has

-- the reason of an end, of a source that tells
reads : (a b before left : Option (List ℕ)) (end : Result Unit ReplayFault) (cluster : Cluster) (lines : List (List ℕ)) → TakesLines a b lines → ((bytes rest : List ℕ) → a ≡ Some bytes → b ≡ Some rest → AreTaken bytes rest lines → IsFollowed end cluster lines (lines_of rest) × Leaves end lines bytes before left) → ReadsWhere end cluster a before left lines
reads None b before left end cluster lines taken reason = tt
reads (Some bytes) None before left end cluster lines taken reason = absurd taken
reads (Some bytes) (Some rest) before left end cluster lines taken reason =
    let why = reason bytes rest refl refl taken in
    record { rest = lines_of rest; split = lines-rest bytes rest lines taken; followed = why.0; leaves = why.1 }

-- writing broke off: what was told is a prefix of the text
prefix_told : (written waiting text : List ℕ) (k : ℕ) → written ++ waiting ≡ text → k ≤ length waiting → (m : ℕ) × ((written ++ take k waiting) ++ [] ≡ take m text)
prefix_told written waiting text k told within =
    (length written + k, append-nil (written ++ take k waiting) ∙ (sym (take-past written waiting k) ∙ ap (take (length written + k)) told))

-- ---- the loop

module _ (P : Type 0) (shows : P → WorldState → Type 0) (cluster : P → Cluster) where
  -- it ends between two lines, with all of the text told or a part of it
  going_ends : (a b before0 left0 before left h0 h1 : Option (List ℕ)) (refused : Type 0) (waiting : List ℕ) (p : P) (n : ℕ) (end : Result Unit ReplayFault) (going : Going shows cluster a b before0 left0 h0 h1 waiting p n) → n ≤ 20001 → IsAfter end going.lines → ReadsWhere end (cluster p) a before left going.lines → IsTold refused end (going.written ++ waiting) (printed going.outcomes) → Reaches a before left h0 h1 refused waiting end
  going_ends a b before0 left0 before left h0 h1 refused waiting p n end going few after read told = record {
    cluster = cluster p;
    lines = going.lines;
    events = going.events;
    outcomes = going.outcomes;
    worlds = going.worlds;
    after = after;
    few = omega (arith, going.count);
    read = read;
    schedule = going.schedule;
    run = going.run;
    written = going.written;
    held = going.held;
    told = told;
  }

  -- the input was read to its end
  pub going_over : {S : Type 0} (left before : S → Option (List ℕ)) (s0 s1 : S) (a h0 h1 : Option (List ℕ)) (refused : Type 0) (pending0 pending1 w0 w1 : List ℕ) (old : P) (n : ℕ) → 0 < n → n ≤ 20001 → Going shows cluster a (prepend_known pending0 (left s0)) (before s0) (left s0) h0 h1 w0 old n → IsOver (prepend_known pending0 (left s0)) (prepend_known pending1 (left s1)) → w1 ≡ w0 → Reaches a (before s1) (left s1) h0 h1 refused w1 (Ok tt)
  going_over left before s0 s1 a h0 h1 refused pending0 pending1 w0 w1 old n some most going over same =
      rw same (going_ends a _ (before s0) (left s0) (before s1) (left s1) h0 h1 refused w0 old n (Ok tt) going most (omega (arith, going.count))
      (reads a (prepend_known pending0 (left s0)) (before s1) (left s1) (Ok tt) (cluster old) going.lines going.read (λ bytes rest known known' taken. all_read (prepend_known pending0 (left s0)) (left s1) pending1 rest known' over))
      going.told)

  -- a turn that ends the loop
  pub going_turn_ends : {S : Type 0} (left before : S → Option (List ℕ)) (s0 s1 : S) (a h0 h1 : Option (List ℕ)) (refused : Type 0) (pending0 pending1 w0 w1 : List ℕ) (old new : P) (n number : ℕ) (fault : ReplayFault) → 0 < n → n ≤ 20000 → number ≡ n + 1 → Going shows cluster a (prepend_known pending0 (left s0)) (before s0) (left s0) h0 h1 w0 old n → TurnOf shows cluster (prepend_known pending0 (left s0)) (prepend_known pending1 (left s1)) old new w0 w1 number (Err fault) → (fault ≡ Read → pending1 ≡ []) → ReadsOn left before s0 s1 512 pending0 → Reaches a (before s1) (left s1) h0 h1 refused w1 (Err fault)
  going_turn_ends left before s0 s1 a h0 h1 refused pending0 pending1 w0 w1 old new n number (Line l at) some most is going turn empty on =
      let O : ℕ → Type 0 = λ room. ReadsOn left before s0 s1 room pending0 in
      let F : List ℕ → Type 0 = λ line. IsBadEvent line at in
      rw turn.2 (going_ends a _ (before s0) (left s0) (before s1) (left s1) h0 h1 refused w0 old n (Err (Line l at)) going (omega arith) (omega (arith, going.count, turn.1), omega (arith, going.count))
      (reads a (prepend_known pending0 (left s0)) (before s1) (left s1) (Err (Line l at)) (cluster old) going.lines going.read (λ bytes rest known known' taken.
      let has : FirstHas F (lines_of rest) = rw known' at turn.0 in (
        bad_next going.lines (lines_of rest) at (omega (arith, going.count)) has,
        where_some rest (left s1) (asked left before s0 s1 a going.lines bytes pending0 rest known known' taken going.last (subst O (sym (room-some 20001 going.lines n going.count (omega (arith, most)))) on)) (some_first F rest has),
      )))
      going.told)
  going_turn_ends left before s0 s1 a h0 h1 refused pending0 pending1 w0 w1 old new n number (Range l name) some most is going turn empty on =
      let O : ℕ → Type 0 = λ room. ReadsOn left before s0 s1 room pending0 in
      let F : List ℕ → Type 0 = λ line. IsEventOutOfRange (cluster old) line name in
      rw turn.2 (going_ends a _ (before s0) (left s0) (before s1) (left s1) h0 h1 refused w0 old n (Err (Range l name)) going (omega arith) (omega (arith, going.count, turn.1), omega (arith, going.count))
      (reads a (prepend_known pending0 (left s0)) (before s1) (left s1) (Err (Range l name)) (cluster old) going.lines going.read (λ bytes rest known known' taken.
      let has : FirstHas F (lines_of rest) = rw known' at turn.0 in (
        out_next (cluster old) going.lines (lines_of rest) name (omega (arith, going.count)) has,
        where_some rest (left s1) (asked left before s0 s1 a going.lines bytes pending0 rest known known' taken going.last (subst O (sym (room-some 20001 going.lines n going.count (omega (arith, most)))) on)) (some_first F rest has),
      )))
      going.told)
  going_turn_ends left before s0 s1 a h0 h1 refused pending0 pending1 w0 w1 old new n number Read some most is going turn empty on =
      rw turn.1 (going_ends a _ (before s0) (left s0) (before s1) (left s1) h0 h1 refused w0 old n (Err Read) going (omega arith) tt
      (reads a (prepend_known pending0 (left s0)) (before s1) (left s1) (Err Read) (cluster old) going.lines going.read (λ bytes rest known known' taken. (tt, part_left 20001 512 (prepend_known pending0 (left s0)) (left s1) pending1 bytes rest going.lines (room-some 20001 going.lines n going.count (omega (arith, most))) known' taken (empty refl) turn.0)))
      going.told)
  going_turn_ends left before s0 s1 a h0 h1 refused pending0 pending1 w0 w1 old new n number Memory some most is going turn empty on =
      let O : ℕ → Type 0 = λ room. ReadsOn left before s0 s1 room pending0 in
      rw turn (going_ends a _ (before s0) (left s0) (before s1) (left s1) h0 h1 refused w0 old n (Err Memory) going (omega arith) tt
      (reads a (prepend_known pending0 (left s0)) (before s1) (left s1) (Err Memory) (cluster old) going.lines going.read (λ bytes rest known known' taken. (tt, elim (asked left before s0 s1 a going.lines bytes pending0 rest known known' taken going.last (subst O (sym (room-some 20001 going.lines n going.count (omega (arith, most)))) on)) [ inl further ↦ inr (inl further) | inr over ↦ inr (inr over.1) ])))
      (inl going.told))
  going_turn_ends left before s0 s1 a h0 h1 refused pending0 pending1 w0 w1 old new n number Write some most is going turn empty on = absurd turn
  going_turn_ends left before s0 s1 a h0 h1 refused pending0 pending1 w0 w1 old new n number TooManyEvents some most is going turn empty on = absurd turn

  broken_ends : (a b before left h0 h1 h2 : Option (List ℕ)) (refused : Type 0) (w0 : List ℕ) (p : P) (n : ℕ) (end : Result Unit ReplayFault) (going : Going shows cluster a b before left h0 h1 w0 p n) → n ≤ 20001 → IsAfter end going.lines → AppendsPrefix h1 h2 w0 → ReadsWhere end (cluster p) a before left going.lines → ((m : ℕ) (told : List ℕ) → told ≡ take m (printed going.outcomes) → IsTold refused end told (printed going.outcomes)) → Reaches a before left h0 h2 refused [] end
  broken_ends a b before left h0 h1 h2 refused w0 p n end going few after broken read told =
      let prefix = prefix_told going.written w0 (printed going.outcomes) broken.0 going.told broken.1 in record {
        cluster = cluster p;
        lines = going.lines;
        events = going.events;
        outcomes = going.outcomes;
        worlds = going.worlds;
        after = after;
        few = omega (arith, going.count);
        read = read;
        schedule = going.schedule;
        run = going.run;
        written = going.written ++ take broken.0 w0;
        held = Appends-more h0 h1 h2 going.written (take broken.0 w0) going.held broken.2;
        told = told prefix.0 _ prefix.1;
      }

  -- writing ends the loop
  pub going_write_ends : (a b before left h0 h1 h2 : Option (List ℕ)) (refused : Type 0) (w0 w1 : List ℕ) (p : P) (n : ℕ) (fault : ReplayFault) → n ≤ 20001 → Going shows cluster a b before left h0 h1 w0 p n → WritesOf h1 h2 w0 w1 (Err fault) → (fault ≡ Memory → refused) → Reaches a before left h0 h2 refused w1 (Err fault)
  going_write_ends a b before left h0 h1 h2 refused w0 w1 p n Write few going writes why =
      rw writes.nothing (broken_ends a b before left h0 h1 h2 refused w0 p n (Err Write) going few tt writes.held
      (reads a b before left (Err Write) (cluster p) going.lines going.read (λ bytes rest known known' taken. (tt, known_last a before left bytes going.lines known going.last)))
      (λ m told is. (m, is)))
  going_write_ends a b before left h0 h1 h2 refused w0 w1 p n Memory few going writes why =
      rw writes.nothing (broken_ends a b before left h0 h1 h2 refused w0 p n (Err Memory) going few tt writes.held
      (reads a b before left (Err Memory) (cluster p) going.lines going.read (λ bytes rest known known' taken. (tt, inr (inl (known_last a before left bytes going.lines known going.last).reads))))
      (λ m told is. inr (why refl, (m, is))))
  going_write_ends a b before left h0 h1 h2 refused w0 w1 p n Read few going writes why = absurd writes
  going_write_ends a b before left h0 h1 h2 refused w0 w1 p n (Line l at) few going writes why = absurd writes
  going_write_ends a b before left h0 h1 h2 refused w0 w1 p n (Range l name) few going writes why = absurd writes
  going_write_ends a b before left h0 h1 h2 refused w0 w1 p n TooManyEvents few going writes why = absurd writes

  -- what follows the last event that is allowed
  pub going_last : {S : Type 0} (left before : S → Option (List ℕ)) (s0 s1 : S) (a h0 h1 h2 : Option (List ℕ)) (refused : Type 0) (pending0 pending1 w0 w1 : List ℕ) (p : P) (n : ℕ) (end : Result Unit ReplayFault) → n ≡ 20001 → Going shows cluster a (prepend_known pending0 (left s0)) (before s0) (left s0) h0 h1 w0 p n → EndsOf (prepend_known pending0 (left s0)) (prepend_known pending1 (left s1)) h1 h2 w0 w1 end → (end ≡ Err Read → pending1 ≡ []) → (end ≡ Err TooManyEvents → ReadsOn left before s0 s1 0 pending0) → ((end ≡ Err Write) ⊎ (end ≡ Err Memory) → s1 ≡ s0) → (end ≡ Err Memory → refused) → Reaches a (before s1) (left s1) h0 h2 refused w1 end
  going_last left before s0 s1 a h0 h1 h2 refused pending0 pending1 w0 w1 p n (Ok u) all going ends empty on alone why =
      let written = going_written P shows cluster a _ (before s0) (left s0) h0 h1 h2 w0 w1 p n going ends.1 in
      going_over left before s0 s1 a h0 h2 refused pending0 pending1 w1 w1 p n (omega (arith, all)) (omega (arith, all)) written ends.0 refl
  going_last left before s0 s1 a h0 h1 h2 refused pending0 pending1 w0 w1 p n (Err TooManyEvents) all going ends empty on alone why =
      let written = going_written P shows cluster a _ (before s0) (left s0) h0 h1 h2 w0 w1 p n going ends.1 in
      let O : ℕ → Type 0 = λ room. ReadsOn left before s0 s1 room pending0 in
      going_ends a _ (before s0) (left s0) (before s1) (left s1) h0 h2 refused w1 p n (Err TooManyEvents) written (omega (arith, all)) (written.count ∙ all)
      (reads a (prepend_known pending0 (left s0)) (before s1) (left s1) (Err TooManyEvents) (cluster p) written.lines written.read (λ bytes rest known known' taken.
      let more = rw known' at ends.0 in
      (some_line rest more, where_some rest (left s1) (asked left before s0 s1 a written.lines bytes pending0 rest known known' taken written.last (subst O (sym (room-none 20001 written.lines (written.count ∙ all))) (on refl))) more)))
      written.told
  going_last left before s0 s1 a h0 h1 h2 refused pending0 pending1 w0 w1 p n (Err Read) all going ends empty on alone why =
      let written = going_written P shows cluster a _ (before s0) (left s0) h0 h1 h2 w0 w1 p n going ends.1 in
      going_ends a _ (before s0) (left s0) (before s1) (left s1) h0 h2 refused w1 p n (Err Read) written (omega (arith, all)) tt
      (reads a (prepend_known pending0 (left s0)) (before s1) (left s1) (Err Read) (cluster p) written.lines written.read (λ bytes rest known known' taken. (tt, part_left 20001 0 (prepend_known pending0 (left s0)) (left s1) pending1 bytes rest written.lines (room-none 20001 written.lines (written.count ∙ all)) known' taken (empty refl) (keeps_part _ _ ends.0))))
      written.told
  going_last left before s0 s1 a h0 h1 h2 refused pending0 pending1 w0 w1 p n (Err Memory) all going ends empty on alone why =
      rw (alone (inr refl)) (going_write_ends a _ (before s0) (left s0) h0 h1 h2 refused w0 w1 p n Memory (omega (arith, all)) going ends (λ _. why refl))
  going_last left before s0 s1 a h0 h1 h2 refused pending0 pending1 w0 w1 p n (Err Write) all going ends empty on alone why =
      rw (alone (inl refl)) (going_write_ends a _ (before s0) (left s0) h0 h1 h2 refused w0 w1 p n Write (omega (arith, all)) going ends (λ e. cc))
  going_last left before s0 s1 a h0 h1 h2 refused pending0 pending1 w0 w1 p n (Err (Line l at)) all going ends empty on alone why = absurd ends.0
  going_last left before s0 s1 a h0 h1 h2 refused pending0 pending1 w0 w1 p n (Err (Range l name)) all going ends empty on alone why = absurd ends.0

-- ---- no line was read

abbrev nobody : Cluster
nobody = record { nodes = 0; servers = 0; clients = 0; rows = 0; slots = 0 }

no_node : (node : ℕ) → is_within 0 node ≡ true → ⊥
no_node node is = grind (arith, nat_tests, is)

nothing_read : (a before left held : Option (List ℕ)) (refused : Type 0) (waiting : List ℕ) (end : Result Unit ReplayFault) → waiting ≡ [] → IsAfter end [] → ReadsWhere end nobody a before left [] → IsTold refused end [] [] → Reaches a before left held held refused waiting end
nothing_read a before left held refused waiting end empty after read told = rw empty (record {
  cluster = nobody;
  lines = [];
  events = [];
  outcomes = [];
  worlds = [];
  after = after;
  few = omega arith;
  read = read;
  schedule = refl;
  run = record { run = tt; files = (λ node is. absurd (no_node node is), tt) };
  written = [];
  held = Appends-nothing held;
  told = told;
})

bad_first : (at : ℕ) (rest : List (List ℕ)) → IsBadFirst at rest → IsBadNext [] rest at
bad_first at [] has = has
bad_first at (line ∷ rest) has = has

out_first : (name : Name) (rest : List (List ℕ)) → FirstHas (λ line. IsClusterOutOfRange line name) rest → IsOutNext nobody [] rest name
out_first name [] has = absurd has
out_first name (line ∷ rest) has = has

-- nothing but a part of the first line was given before the last read
none_read : (a before left : Option (List ℕ)) (bytes : List ℕ) → a ≡ Some bytes → IsReadWhileOpen 512 [] a before left → ReadsNoFurther 20001 [] bytes before left
none_read None before left bytes is p = let e : None ≡ Some bytes = is in cc
none_read (Some xs) before left bytes is p = let same : xs ≡ bytes = cc in rw same at (reads_first 20001 xs before left p)

pub first_ends : (P : Type 0) (shows : P → WorldState → Type 0) (cluster : P → Cluster) (a here before left held : Option (List ℕ)) (refused : Type 0) (pending pending' waiting : List ℕ) (fault : ReplayFault) → pending ≡ [] → waiting ≡ [] → here ≡ prepend_known pending' left → BeginsOf shows cluster (prepend_known pending a) here a before left (Err fault) → (fault ≡ Read → pending' ≡ []) → Reaches a before left held held refused waiting (Err fault)
first_ends P shows cluster a here before left held refused pending pending' waiting (Line l at) fresh empty is first none =
    let p : BeginsBad at a = rw (fresh, prepend_known-nil a) at first.0 in
    nothing_read a before left held refused waiting (Err (Line l at)) empty (first.1, omega arith)
    (reads a a before left (Err (Line l at)) nobody [] (TakesLines-none a) (λ bytes rest known known' taken. (bad_first at (lines_of rest) (rw known' at p), none_read a before left bytes known first.2))) refl
first_ends P shows cluster a here before left held refused pending pending' waiting (Range l name) fresh empty is first none =
    let p : NextHas (λ line. IsClusterOutOfRange line name) a = rw (fresh, prepend_known-nil a) at first.0 in
    nothing_read a before left held refused waiting (Err (Range l name)) empty (first.1, omega arith)
    (reads a a before left (Err (Range l name)) nobody [] (TakesLines-none a) (λ bytes rest known known' taken. (out_first name (lines_of rest) (rw known' at p), none_read a before left bytes known first.2))) refl
first_ends P shows cluster a here before left held refused pending pending' waiting Read fresh empty is first none =
    let p = rw (fresh, prepend_known-nil a, is) at first in
    nothing_read a before left held refused waiting (Err Read) empty tt
    (reads a a before left (Err Read) nobody [] (TakesLines-none a) (λ bytes rest known known' taken. (tt, part_left 20001 512 a left pending' bytes rest [] refl known' taken (none refl) p))) refl
first_ends P shows cluster a here before left held refused pending pending' waiting Memory fresh empty is first none =
    nothing_read a before left held refused waiting (Err Memory) empty tt
    (reads a a before left (Err Memory) nobody [] (TakesLines-none a) (λ bytes rest known known' taken.
    (tt, elim first [ inl same ↦ inl (same ∙ known) | inr p ↦ inr (inl (none_read a before left bytes known p)) ]))) (inl refl)
first_ends P shows cluster a here before left held refused pending pending' waiting Write fresh empty is first none = absurd first
first_ends P shows cluster a here before left held refused pending pending' waiting TooManyEvents fresh empty is first none = absurd first

-- a first line that ends a replay at once
pub begins_err : {S A P : Type 0} (shows : P → WorldState → Type 0) (cluster : P → Cluster) (left before : S → Option (List ℕ)) (old new : S) (here_old here : Option (List ℕ)) (fault : ReplayFault) (result : Result A ReplayFault) → result ≡ Err fault → FirstOf here_old here (Err fault) → (¬ (result ≡ Err Memory) → IsReadWhileOpen 512 [] (left old) (before new) (left new)) → ReadsOn left before old new 512 [] → BeginsOf shows cluster here_old here (left old) (before new) (left new) (Err fault)
begins_err shows cluster left before old new here_old here (Line l at) result is first begun on =
    (first.0, first.1, begun (λ e. let same : Err (Line l at) ≡ Err Memory = sym is ∙ e in cc))
begins_err shows cluster left before old new here_old here (Range l name) result is first begun on =
    (first.0, first.1, begun (λ e. let same : Err (Range l name) ≡ Err Memory = sym is ∙ e in cc))
begins_err shows cluster left before old new here_old here Read result is first begun on = first
begins_err shows cluster left before old new here_old here Memory result is first begun on =
    elim on [ inl same ↦ inl (ap left same) | inr p ↦ inr p ]
begins_err shows cluster left before old new here_old here Write result is first begun on = absurd first
begins_err shows cluster left before old new here_old here TooManyEvents result is first begun on = absurd first
