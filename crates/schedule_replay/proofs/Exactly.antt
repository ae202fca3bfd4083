-- What is printed at each end, and that the lines decide how a replay ends.
use Rattle.std.proofs.Common.{◌≡◌, ◌⊎◌, inl, inr, ℕ, ◌<◌, ◌≤◌, List, [], ◌∷◌, ◌++◌, length, take, arith, refl, sym, ◌∙◌, Option, Some, None, Result, Ok, Err, subst, length-take}
use Rattle.std.specs.Io.KnownBytes.{Appends}
use Rattle.std.proofs.lemmas.List.{append_cancel_left, take-take, take_all}
use Rattle.io_core.specs.Bytes.{AppendsPrefix}
use Rattle.io_core.proofs.Known.{Appends-nothing, Appends-more, AppendsPrefix-more}
use Rattle.io_core.specs.Causes.{Rose}
use Rattle.net_model.specs.declared.cluster.Cluster.{Cluster}
use Rattle.net_model.specs.declared.event.Event.{Event}
use Rattle.net_model.specs.declared.outcome.Outcome.{Outcome}
use Rattle.world_law.specs.Worlds.{WorldState, start}
use Rattle.world_law.specs.Runs.{IsRun}
use Rattle.world_law.proofs.SafeRuns.{every_run}
use Rattle.world_law.proofs.ValidReads.{valid_reads}
use Rattle.world_law.proofs.EnterOnce.{enter_once}
use Rattle.world_law.proofs.SoundRuns.{every_run as every_sound}
use Rattle.schedule_text.specs.declared.lines.form.Name.{Name}
use Rattle.schedule_text.specs.Outcomes.{printed}
use Rattle.schedule_text.proofs.LawLemmas.{faults_one}
use Rattle.schedule_replay.specs.Schedules.{IsSchedule, IsFirstLine, IsFurtherLine, AreFurtherLines, IsBadNext, IsOutNext}
use Rattle.schedule_replay.proofs.ScheduleLemmas.{one_cluster}
use Rattle.schedule_replay.specs.declared.fault.ReplayFault.{ReplayFault}
use Rattle.schedule_replay.specs.declared.fault.ReplayFault.TheVariants.{Read, Write, Line, Range, TooManyEvents, Memory}
use Rattle.schedule_replay.specs.Faults.{IsBroken, IsReported, IsDecided}
use Rattle.schedule_replay.specs.Replays.{IsAfter, HasReason, Reads, IsReliable, IsBrokenBy, Prints, PrintsRun, ComesExactly}
use Rattle.schedule_replay.specs.Steps.{Reaches, Counts, Finishes, IsTold}

-- ---- two readings of one text

-- the next of these lines is a further line
abbrev GoesOn : Cluster → List (List ℕ) → Type 0
GoesOn cluster rest = (line : List ℕ) × (more : List (List ℕ)) × (event : Event) × (rest ≡ line ∷ more) × IsFurtherLine cluster line event

-- one reading, or one of them stops before a further line
abbrev Compared : Cluster → List (List ℕ) → List (List ℕ) → List (List ℕ) → List (List ℕ) → Type 0
Compared cluster l1 l2 r1 r2 =
    (l1 ≡ l2) ⊎ (((length l1 < length l2) × GoesOn cluster r1) ⊎ ((length l2 < length l1) × GoesOn cluster r2))

next_line : (l m : List ℕ) (cluster : Cluster) (ls ms r1 r2 : List (List ℕ)) → l ≡ m → Compared cluster ls ms r1 r2 → Compared cluster (l ∷ ls) (m ∷ ms) r1 r2
next_line l m cluster ls ms r1 r2 same (inl h) = inl cc
next_line l m cluster ls ms r1 r2 same (inr (inl h)) = inr (inl (omega (arith, h.0), h.1))
next_line l m cluster ls ms r1 r2 same (inr (inr h)) = inr (inr (omega (arith, h.0), h.1))

compare : (cluster : Cluster) (l1 : List (List ℕ)) (e1 : List Event) (r1 : List (List ℕ)) (l2 : List (List ℕ)) (e2 : List Event) (r2 : List (List ℕ)) → AreFurtherLines cluster l1 e1 → AreFurtherLines cluster l2 e2 → l1 ++ r1 ≡ l2 ++ r2 → Compared cluster l1 l2 r1 r2
compare cluster [] [] r1 [] [] r2 p q same = inl refl
compare cluster [] [] r1 (m ∷ ms) (f ∷ fs) r2 p q same = inr (inl (omega arith, (m, ms ++ r2, f, same, q.0)))
compare cluster (l ∷ ls) (e ∷ es) r1 [] [] r2 p q same = inr (inr (omega arith, (l, ls ++ r1, e, sym same, p.0)))
compare cluster (l ∷ ls) (e ∷ es) r1 (m ∷ ms) (f ∷ fs) r2 p q same =
    let lines : l ≡ m = cc in
    let rests : ls ++ r1 ≡ ms ++ r2 = cc in
    next_line l m cluster ls ms r1 r2 lines (compare cluster ls es r1 ms fs r2 p.1 q.1 rests)
compare cluster [] (e ∷ es) r1 l2 e2 r2 p q same = absurd p
compare cluster (l ∷ ls) [] r1 l2 e2 r2 p q same = absurd p
compare cluster [] [] r1 [] (f ∷ fs) r2 p q same = absurd q
compare cluster [] [] r1 (m ∷ ms) [] r2 p q same = absurd q
compare cluster (l ∷ ls) (e ∷ es) r1 [] (f ∷ fs) r2 p q same = absurd q
compare cluster (l ∷ ls) (e ∷ es) r1 (m ∷ ms) [] r2 p q same = absurd q

-- ---- one end

-- a decided end before a further line is the limit's
at_limit : (end : Result Unit ReplayFault) (cluster : Cluster) (first : List ℕ) (lines rest : List (List ℕ)) → IsDecided end → HasReason end cluster (first ∷ lines) rest → GoesOn cluster rest → length (first ∷ lines) ≡ 20001
at_limit (Ok u) cluster first lines rest d reason goes = let never : [] ≡ goes.0 ∷ goes.1 = sym reason.0 ∙ goes.3 in cc
at_limit (Err (Line l at)) cluster first lines rest d reason goes =
    let B : List (List ℕ) → Type 0 = λ r. IsBadNext (first ∷ lines) r at in
    let bad = subst B goes.3 reason.0 in
    absurd (bad.0 goes.2 goes.4.text)
at_limit (Err (Range l name)) cluster first lines rest d reason goes =
    let B : List (List ℕ) → Type 0 = λ r. IsOutNext cluster (first ∷ lines) r name in
    absurd (faults_one.in_range cluster goes.0 goes.2 name goes.4.text goes.4.in_range (subst B goes.3 reason.0))
at_limit (Err TooManyEvents) cluster first lines rest d reason goes = reason.1
at_limit (Err Read) cluster first lines rest d reason goes = absurd d
at_limit (Err Write) cluster first lines rest d reason goes = absurd d
at_limit (Err Memory) cluster first lines rest d reason goes = absurd d

-- one line, one fault
one_place : (first : List ℕ) (lines rest : List (List ℕ)) (a b : ℕ) → IsBadNext (first ∷ lines) rest a → IsBadNext (first ∷ lines) rest b → a ≡ b
one_place first lines [] a b p q = absurd p
one_place first lines (line ∷ rest) a b p q = faults_one.places line a b p q

one_name : (cluster : Cluster) (first : List ℕ) (lines rest : List (List ℕ)) (a b : Name) → IsOutNext cluster (first ∷ lines) rest a → IsOutNext cluster (first ∷ lines) rest b → a ≡ b
one_name cluster first lines [] a b p q = absurd p
one_name cluster first lines (line ∷ rest) a b p q = faults_one.names cluster line a b p q

not_both : (cluster : Cluster) (first : List ℕ) (lines rest : List (List ℕ)) (at : ℕ) (name : Name) → IsBadNext (first ∷ lines) rest at → IsOutNext cluster (first ∷ lines) rest name → ⊥
not_both cluster first lines [] at name p q = p
not_both cluster first lines (line ∷ rest) at name p q = p.0 q.0 q.1

none_bad : (first : List ℕ) (lines rest : List (List ℕ)) (at : ℕ) → rest ≡ [] → IsBadNext (first ∷ lines) rest at → ⊥
none_bad first lines rest at none p = let B : List (List ℕ) → Type 0 = λ r. IsBadNext (first ∷ lines) r at in subst B none p

none_out : (cluster : Cluster) (first : List ℕ) (lines rest : List (List ℕ)) (name : Name) → rest ≡ [] → IsOutNext cluster (first ∷ lines) rest name → ⊥
none_out cluster first lines rest name none p = let B : List (List ℕ) → Type 0 = λ r. IsOutNext cluster (first ∷ lines) r name in subst B none p

same_line : (a b at at' : ℕ) → a ≡ b → at ≡ at' → ◌≡◌ {A = Result Unit ReplayFault} (Err (Line a at)) (Err (Line b at'))
same_line a b at at' p q = cc

same_range : (a b : ℕ) (name name' : Name) → a ≡ b → name ≡ name' → ◌≡◌ {A = Result Unit ReplayFault} (Err (Range a name)) (Err (Range b name'))
same_range a b name name' p q = cc

-- two decided ends after the same lines are one
same_place : (a b : Result Unit ReplayFault) (cluster : Cluster) (first : List ℕ) (lines rest : List (List ℕ)) → IsDecided a → IsDecided b → HasReason a cluster (first ∷ lines) rest → HasReason b cluster (first ∷ lines) rest → a ≡ b
same_place (Ok u) (Ok v) cluster first lines rest d e p q = refl
same_place (Err TooManyEvents) (Err TooManyEvents) cluster first lines rest d e p q = refl
same_place (Err (Line a at)) (Err (Line b at')) cluster first lines rest d e p q = same_line a b at at' (p.1.0 ∙ sym q.1.0) (one_place first lines rest at at' p.0 q.0)
same_place (Err (Range a name)) (Err (Range b name')) cluster first lines rest d e p q = same_range a b name name' (p.1.0 ∙ sym q.1.0) (one_name cluster first lines rest name name' p.0 q.0)
same_place (Err (Line a at)) (Err (Range b name)) cluster first lines rest d e p q = absurd (not_both cluster first lines rest at name p.0 q.0)
same_place (Err (Range a name)) (Err (Line b at)) cluster first lines rest d e p q = absurd (not_both cluster first lines rest at name q.0 p.0)
same_place (Ok u) (Err TooManyEvents) cluster first lines rest d e p q = absurd (q.0 p.0)
same_place (Err TooManyEvents) (Ok u) cluster first lines rest d e p q = absurd (p.0 q.0)
same_place (Ok u) (Err (Line b at)) cluster first lines rest d e p q = absurd (none_bad first lines rest at p.0 q.0)
same_place (Err (Line a at)) (Ok u) cluster first lines rest d e p q = absurd (none_bad first lines rest at q.0 p.0)
same_place (Ok u) (Err (Range b name)) cluster first lines rest d e p q = absurd (none_out cluster first lines rest name p.0 q.0)
same_place (Err (Range a name)) (Ok u) cluster first lines rest d e p q = absurd (none_out cluster first lines rest name q.0 p.0)
same_place (Err TooManyEvents) (Err (Line b at)) cluster first lines rest d e p q = absurd (omega (arith, p.1, q.1.1))
same_place (Err (Line a at)) (Err TooManyEvents) cluster first lines rest d e p q = absurd (omega (arith, q.1, p.1.1))
same_place (Err TooManyEvents) (Err (Range b name)) cluster first lines rest d e p q = absurd (omega (arith, p.1, q.1.1))
same_place (Err (Range a name)) (Err TooManyEvents) cluster first lines rest d e p q = absurd (omega (arith, q.1, p.1.1))
same_place (Err Read) b cluster first lines rest d e p q = absurd d
same_place (Err Write) b cluster first lines rest d e p q = absurd d
same_place (Err Memory) b cluster first lines rest d e p q = absurd d
same_place a (Err Read) cluster first lines rest d e p q = absurd e
same_place a (Err Write) cluster first lines rest d e p q = absurd e
same_place a (Err Memory) cluster first lines rest d e p q = absurd e

-- ---- before the first line

first_place : (rest : List (List ℕ)) (a b : ℕ) → IsBadNext [] rest a → IsBadNext [] rest b → a ≡ b
first_place [] a b p q = p ∙ sym q
first_place (line ∷ rest) a b p q = faults_one.first_places line a b p q

first_name : (c d : Cluster) (rest : List (List ℕ)) (a b : Name) → IsOutNext c [] rest a → IsOutNext d [] rest b → a ≡ b
first_name c d [] a b p q = absurd p
first_name c d (line ∷ rest) a b p q = faults_one.first_names line a b p q

first_not_both : (c : Cluster) (rest : List (List ℕ)) (at : ℕ) (name : Name) → IsBadNext [] rest at → IsOutNext c [] rest name → ⊥
first_not_both c [] at name p q = q
first_not_both c (line ∷ rest) at name p q = p.0 q.0 q.1

no_line : {A : Type 0} → 0 < length {A = List ℕ} [] → A
no_line some = absurd (omega arith)

no_lines : {A : Type 0} → length {A = List ℕ} [] ≡ 20001 → A
no_lines all = absurd (omega arith)

same_first : (a b : Result Unit ReplayFault) (c d : Cluster) (rest : List (List ℕ)) → IsDecided a → IsDecided b → HasReason a c [] rest → HasReason b d [] rest → a ≡ b
same_first (Err (Line a at)) (Err (Line b at')) c d rest x y p q = same_line a b at at' (p.1.0 ∙ sym q.1.0) (first_place rest at at' p.0 q.0)
same_first (Err (Range a name)) (Err (Range b name')) c d rest x y p q = same_range a b name name' (p.1.0 ∙ sym q.1.0) (first_name c d rest name name' p.0 q.0)
same_first (Err (Line a at)) (Err (Range b name)) c d rest x y p q = absurd (first_not_both d rest at name p.0 q.0)
same_first (Err (Range a name)) (Err (Line b at)) c d rest x y p q = absurd (first_not_both c rest at name q.0 p.0)
same_first (Ok u) b c d rest x y p q = no_line p.1
same_first a (Ok u) c d rest x y p q = no_line q.1
same_first (Err TooManyEvents) b c d rest x y p q = no_lines p.1
same_first a (Err TooManyEvents) c d rest x y p q = no_lines q.1
same_first (Err Read) b c d rest x y p q = absurd x
same_first (Err Write) b c d rest x y p q = absurd x
same_first (Err Memory) b c d rest x y p q = absurd x
same_first a (Err Read) c d rest x y p q = absurd y
same_first a (Err Write) c d rest x y p q = absurd y
same_first a (Err Memory) c d rest x y p q = absurd y

-- no decided end comes before a first line
not_first : (a : Result Unit ReplayFault) (c d : Cluster) (line : List ℕ) (rest more : List (List ℕ)) → IsDecided a → HasReason a c [] rest → IsFirstLine line d → rest ≡ line ∷ more → ⊥
not_first (Ok u) c d line rest more x p is cut = no_line p.1
not_first (Err TooManyEvents) c d line rest more x p is cut = no_lines p.1
not_first (Err (Line l at)) c d line rest more x p is cut =
    let B : List (List ℕ) → Type 0 = λ r. IsBadNext [] r at in
    let bad = subst B cut p.0 in
    bad.0 d is.text
not_first (Err (Range l name)) c d line rest more x p is cut =
    let B : List (List ℕ) → Type 0 = λ r. IsOutNext c [] r name in
    faults_one.first_in_range line d name is.text is.in_range (subst B cut p.0)
not_first (Err Read) c d line rest more x p is cut = x
not_first (Err Write) c d line rest more x p is cut = x
not_first (Err Memory) c d line rest more x p is cut = x

-- ---- whatever the lines

rest_same : (xs ys r s : List (List ℕ)) → xs ≡ ys → xs ++ r ≡ ys ++ s → r ≡ s
rest_same xs ys r s e both = let P : List (List ℕ) → Type 0 = λ z. xs ++ r ≡ z ++ s in append_cancel_left xs r s (subst P (sym e) both)

-- the lines decide the end
same_end : (a b : Result Unit ReplayFault) (c1 : Cluster) (l1 : List (List ℕ)) (e1 : List Event) (r1 : List (List ℕ)) (c2 : Cluster) (l2 : List (List ℕ)) (e2 : List Event) (r2 : List (List ℕ)) → IsDecided a → IsDecided b → IsSchedule l1 c1 e1 → IsSchedule l2 c2 e2 → l1 ++ r1 ≡ l2 ++ r2 → HasReason a c1 l1 r1 → HasReason b c2 l2 r2 → a ≡ b
same_end a b c1 [] e1 r1 c2 [] e2 r2 d e p q same f g =
    let R : List (List ℕ) → Type 0 = λ r. HasReason b c2 [] r in
    same_first a b c1 c2 r1 d e f (subst R (sym same) g)
same_end a b c1 [] e1 r1 c2 (m ∷ ms) e2 r2 d e p q same f g = absurd (not_first a c1 c2 m r1 (ms ++ r2) d f q.0 same)
same_end a b c1 (l ∷ ls) e1 r1 c2 [] e2 r2 d e p q same f g = absurd (not_first b c2 c1 l r2 (ls ++ r1) e g p.0 (sym same))
same_end a b c1 (l ∷ ls) e1 r1 c2 (m ∷ ms) e2 r2 d e p q same f g =
    decide (compare c1 ls e1 r1 ms e2 r2 p.1 (subst A (sym clusters) q.1) cc)
  where
    lines : l ≡ m
    lines = cc

    F : List ℕ → Type 0
    F x = IsFirstLine x c2

    A : Cluster → Type 0
    A x = AreFurtherLines x ms e2

    clusters : c1 ≡ c2
    clusters = one_cluster l c1 c2 p.0 (subst F (sym lines) q.0)

    H : Cluster → Type 0
    H x = HasReason b x (m ∷ ms) r2

    g' : HasReason b c1 (m ∷ ms) r2
    g' = subst H (sym clusters) g

    decide : Compared c1 ls ms r1 r2 → a ≡ b
    decide (inl tails) =
        let all : l ∷ ls ≡ m ∷ ms = cc in
        let rests : r1 ≡ r2 = rest_same (l ∷ ls) (m ∷ ms) r1 r2 all same in
        let L : List (List ℕ) → Type 0 = λ x. HasReason b c1 x r2 in
        let R : List (List ℕ) → Type 0 = λ x. HasReason b c1 (l ∷ ls) x in
        same_place a b c1 l ls r1 d e f (subst R (sym rests) (subst L (sym all) g'))
    decide (inr (inl h)) = absurd (omega (arith, at_limit a c1 l ls r1 d f h.1, g'.2, h.0))
    decide (inr (inr h)) = absurd (omega (arith, at_limit b c1 m ms r2 e g' h.1, f.2, h.0))

-- ---- what is printed

-- what was written before, and then what was finished
whole_text : (h0 h1 h2 : Option (List ℕ)) (written waiting text : List ℕ) → Appends h0 h1 written → Appends h1 h2 waiting → written ++ waiting ≡ text → Appends h0 h2 text
whole_text h0 h1 h2 written waiting text held more told = rw (← told) (Appends-more h0 h1 h2 written waiting held more)

part_text : (h0 h1 h2 : Option (List ℕ)) (written waiting text : List ℕ) → Appends h0 h1 written → AppendsPrefix h1 h2 waiting → written ++ waiting ≡ text → AppendsPrefix h0 h2 text
part_text h0 h1 h2 written waiting text held more told = rw (← told) (AppendsPrefix-more h0 h1 h2 written waiting held more)

all_appended : (a b : Option (List ℕ)) (xs : List ℕ) → Appends a b xs → AppendsPrefix a b xs
all_appended a b xs p = (length xs, omega arith, rw (take_all (length xs) xs (omega arith)) p)

prefix_of_prefix : (a b : Option (List ℕ)) (text : List ℕ) (k : ℕ) → AppendsPrefix a b (take k text) → AppendsPrefix a b text
prefix_of_prefix a b text k p =
    let short = p.1 in
    let long = length-take k text in
    (p.0, omega (arith, short, long), rw (take-take p.0 k text (omega (arith, short, long))) at p.2)

cut_text : (h0 h1 h2 : Option (List ℕ)) (written waiting text : List ℕ) (k : ℕ) → Appends h0 h1 written → AppendsPrefix h1 h2 waiting → written ++ waiting ≡ take k text → AppendsPrefix h0 h2 text
cut_text h0 h1 h2 written waiting text k held more told =
    prefix_of_prefix h0 h2 text k (part_text h0 h1 h2 written waiting (take k text) held more told)

broken_by : (refused whole : Type 0) (result : Result Unit ReplayFault) → (refused → whole) → IsBrokenBy refused result → IsBrokenBy whole result
broken_by refused whole result so (inl is) = inl is
broken_by refused whole result so (inr p) = inr (p.0, so p.1)

-- an end whose whole text was told
reported : (whole refused : Type 0) (end : Result Unit ReplayFault) (h0 h1 h2 : Option (List ℕ)) (written waiting text : List ℕ) (result : Result Unit ReplayFault) → (refused → whole) → IsReported end → Appends h0 h1 written → written ++ waiting ≡ text → Finishes refused h1 h2 waiting end result → Prints whole end h0 h2 text result
reported whole refused end h0 h1 h2 written waiting text result so is held told (inl p) = inl (is, p.0, whole_text h0 h1 h2 written waiting text held p.1 told)
reported whole refused end h0 h1 h2 written waiting text result so is held told (inr p) =
    inr (inr (broken_by refused whole result so p.0, part_text h0 h1 h2 written waiting text held p.1 told))

-- running out of memory, with the whole text told
memory_told : (whole refused : Type 0) (h0 h1 h2 : Option (List ℕ)) (written waiting text : List ℕ) (result : Result Unit ReplayFault) → (refused → whole) → Appends h0 h1 written → written ++ waiting ≡ text → Finishes refused h1 h2 waiting (Err Memory) result → Prints whole (Err Memory) h0 h2 text result
memory_told whole refused h0 h1 h2 written waiting text result so held told (inl p) =
    inr (inl (p.0, whole_text h0 h1 h2 written waiting text held p.1 told))
memory_told whole refused h0 h1 h2 written waiting text result so held told (inr p) =
    inr (inr (broken_by refused whole result so p.0, part_text h0 h1 h2 written waiting text held p.1 told))

-- running out of memory that the sink met
memory_cut : (whole refused : Type 0) (h0 h1 h2 : Option (List ℕ)) (written waiting text : List ℕ) (k : ℕ) (result : Result Unit ReplayFault) → (refused → whole) → whole → Appends h0 h1 written → written ++ waiting ≡ take k text → Finishes refused h1 h2 waiting (Err Memory) result → Prints whole (Err Memory) h0 h2 text result
memory_cut whole refused h0 h1 h2 written waiting text k result so met held told (inl p) =
    inr (inr (inr (p.0, met), cut_text h0 h1 h2 written waiting text k held (all_appended h1 h2 waiting p.1) told))
memory_cut whole refused h0 h1 h2 written waiting text k result so met held told (inr p) =
    inr (inr (broken_by refused whole result so p.0, cut_text h0 h1 h2 written waiting text k held p.1 told))

-- a write that failed
write_cut : (whole : Type 0) (end : Result Unit ReplayFault) (h0 h1 : Option (List ℕ)) (written waiting text : List ℕ) (k : ℕ) (result : Result Unit ReplayFault) → Appends h0 h1 written → written ++ waiting ≡ take k text → result ≡ Err Write → Prints whole end h0 h1 text result
write_cut whole end h0 h1 written waiting text k result held told is =
    inr (inr (inl is, cut_text h0 h1 h1 written waiting text k held (nothing_more h1 waiting) told))
  where
    nothing_more : (h : Option (List ℕ)) (xs : List ℕ) → AppendsPrefix h h xs
    nothing_more h xs = (0, omega arith, Appends-nothing h)

-- how the text ends, by how the replay ended
prints_text : (whole met refused : Type 0) (end : Result Unit ReplayFault) (h0 h1 h2 : Option (List ℕ)) (written waiting text : List ℕ) (result : Result Unit ReplayFault) → (met → whole) → (refused → whole) → Appends h0 h1 written → IsTold met end (written ++ waiting) text → Finishes refused h1 h2 waiting end result → (end ≡ Err Write → (result ≡ Err Write) × (h2 ≡ h1)) → Prints whole end h0 h2 text result
prints_text whole met refused (Ok u) h0 h1 h2 written waiting text result m so held told finish cut = reported whole refused (Ok u) h0 h1 h2 written waiting text result so tt held told finish
prints_text whole met refused (Err (Line l at)) h0 h1 h2 written waiting text result m so held told finish cut = reported whole refused (Err (Line l at)) h0 h1 h2 written waiting text result so tt held told finish
prints_text whole met refused (Err (Range l name)) h0 h1 h2 written waiting text result m so held told finish cut = reported whole refused (Err (Range l name)) h0 h1 h2 written waiting text result so tt held told finish
prints_text whole met refused (Err TooManyEvents) h0 h1 h2 written waiting text result m so held told finish cut = reported whole refused (Err TooManyEvents) h0 h1 h2 written waiting text result so tt held told finish
prints_text whole met refused (Err Read) h0 h1 h2 written waiting text result m so held told finish cut = reported whole refused (Err Read) h0 h1 h2 written waiting text result so tt held told finish
prints_text whole met refused (Err Write) h0 h1 h2 written waiting text result m so held told finish cut =
    let same = cut refl in
    rw same.1 (write_cut whole (Err Write) h0 h1 written waiting text told.0 result held told.1 same.0)
prints_text whole met refused (Err Memory) h0 h1 h2 written waiting text result m so held (inl told) finish cut = memory_told whole refused h0 h1 h2 written waiting text result so held told finish
prints_text whole met refused (Err Memory) h0 h1 h2 written waiting text result m so held (inr p) finish cut = memory_cut whole refused h0 h1 h2 written waiting text p.1.0 result so (m p.0) held p.1.1 finish

pub reliable : (cluster : Cluster) (events : List Event) (outcomes : List Outcome) (worlds : List WorldState) → IsRun (start cluster) events outcomes worlds → IsReliable (start cluster ∷ worlds) outcomes
reliable cluster events outcomes worlds run = record {
  safe = every_run cluster events outcomes worlds run;
  reads = valid_reads cluster events outcomes worlds run;
  repeats = enter_once cluster events outcomes worlds run;
  sound = every_sound cluster events outcomes worlds run;
}

pub prints : (left_old before left_new h0 h1 h2 : Option (List ℕ)) (whole met refused : Type 0) (waiting : List ℕ) (end result : Result Unit ReplayFault) → (met → whole) → (refused → whole) → Reaches left_old before left_new h0 h1 met waiting end → Finishes refused h1 h2 waiting end result → (end ≡ Err Write → (result ≡ Err Write) × (h2 ≡ h1)) → PrintsRun left_old before left_new h0 h2 whole result
prints left_old before left_new h0 h1 h2 whole met refused waiting end result m so reaches finish cut = record {
  end = end;
  cluster = reaches.cluster;
  lines = reaches.lines;
  events = reaches.events;
  outcomes = reaches.outcomes;
  worlds = reaches.worlds;
  after = reaches.after;
  few = reaches.few;
  read = reaches.read;
  schedule = reaches.schedule;
  run = reaches.run;
  reliable = reliable reaches.cluster reaches.events reaches.outcomes reaches.worlds reaches.run.run;
  text = prints_text whole met refused end h0 h1 h2 reaches.written waiting (printed reaches.outcomes) result m so reaches.held reaches.told finish cut;
}

-- ---- exactly

decided : (bytes : List ℕ) (before left : Option (List ℕ)) (end : Result Unit ReplayFault) (cluster : Cluster) (lines : List (List ℕ)) (events : List Event) (result : Result Unit ReplayFault) → IsDecided end → IsAfter end lines → length lines ≤ 20001 → Reads end cluster bytes before left lines → IsSchedule lines cluster events → result ≡ end → ComesExactly (Some bytes) result
decided bytes before left end cluster lines events result d after few read schedule is other c2 l2 e2 r2 e schedule2 cut reason =
    inl (is ∙ same_end end other cluster lines events read.rest c2 l2 e2 r2 d e schedule schedule2 (sym read.split ∙ cut) (read.followed, after, few) reason)

at_end : (bytes : List ℕ) (before left : Option (List ℕ)) (end : Result Unit ReplayFault) (cluster : Cluster) (lines : List (List ℕ)) (events : List Event) (result : Result Unit ReplayFault) → IsReported end → IsAfter end lines → length lines ≤ 20001 → Reads end cluster bytes before left lines → IsSchedule lines cluster events → result ≡ end → ComesExactly (Some bytes) result
at_end bytes before left (Ok u) cluster lines events result p after few read schedule is = decided bytes before left (Ok u) cluster lines events result tt after few read schedule is
at_end bytes before left (Err (Line l at)) cluster lines events result p after few read schedule is = decided bytes before left (Err (Line l at)) cluster lines events result tt after few read schedule is
at_end bytes before left (Err (Range l name)) cluster lines events result p after few read schedule is = decided bytes before left (Err (Range l name)) cluster lines events result tt after few read schedule is
at_end bytes before left (Err TooManyEvents) cluster lines events result p after few read schedule is = decided bytes before left (Err TooManyEvents) cluster lines events result tt after few read schedule is
at_end bytes before left (Err Read) cluster lines events result p after few read schedule is = λ _ _ _ _ _ _ _ _ _. inr (inl is)
at_end bytes before left (Err Write) cluster lines events result p after few read schedule is = absurd p
at_end bytes before left (Err Memory) cluster lines events result p after few read schedule is = absurd p

at_broken : (result : Result Unit ReplayFault) (fault : ReplayFault) → result ≡ Err fault → IsBroken (Err fault) → IsBroken result
at_broken result fault is broken = subst IsBroken (sym is) broken

pub exactly : (left_old before left_new h0 h2 : Option (List ℕ)) (refused : Type 0) (result : Result Unit ReplayFault) → PrintsRun left_old before left_new h0 h2 refused result → ComesExactly left_old result
exactly None before left_new h0 h2 refused result p = tt
exactly (Some bytes) before left_new h0 h2 refused result p = by_text p.text
  where
    broken : IsBrokenBy refused result → IsBroken result
    broken (inl is) = at_broken result Write is tt
    broken (inr is) = at_broken result Memory is.0 tt

    by_text : Prints refused p.end h0 h2 (printed p.outcomes) result → ComesExactly (Some bytes) result
    by_text (inl t) = at_end bytes before left_new p.end p.cluster p.lines p.events result t.0 p.after p.few p.read p.schedule t.1
    by_text (inr (inl t)) = λ _ _ _ _ _ _ _ _ _. inr (inr (at_broken result Memory t.0 tt))
    by_text (inr (inr t)) = λ _ _ _ _ _ _ _ _ _. inr (inr (broken t.0))

-- ---- faults

-- a read fault that was counted is the end
pub read_fault_told : (end result : Result Unit ReplayFault) (before now : ℕ) (refused : Type 0) (h0 h1 : Option (List ℕ)) (waiting : List ℕ) → Counts before now (end ≡ Err Read) → before < now → Finishes refused h0 h1 waiting end result → (result ≡ Err Read) ⊎ IsBroken result
read_fault_told (Err Read) result before now refused h0 h1 waiting counts rose (inl p) = inl p.0
read_fault_told (Err Read) result before now refused h0 h1 waiting counts rose (inr (p, q)) = by_cause p
  where
    by_cause : IsBrokenBy refused result → (result ≡ Err Read) ⊎ IsBroken result
    by_cause (inl is) = inr (at_broken result Write is tt)
    by_cause (inr is) = inr (at_broken result Memory is.0 tt)
read_fault_told (Ok u) result before now refused h0 h1 waiting counts rose finish = absurd (omega (arith, rose, counts.same (λ e. cc)))
read_fault_told (Err Write) result before now refused h0 h1 waiting counts rose finish = absurd (omega (arith, rose, counts.same (λ e. cc)))
read_fault_told (Err (Line l at)) result before now refused h0 h1 waiting counts rose finish = absurd (omega (arith, rose, counts.same (λ e. cc)))
read_fault_told (Err (Range l name)) result before now refused h0 h1 waiting counts rose finish = absurd (omega (arith, rose, counts.same (λ e. cc)))
read_fault_told (Err TooManyEvents) result before now refused h0 h1 waiting counts rose finish = absurd (omega (arith, rose, counts.same (λ e. cc)))
read_fault_told (Err Memory) result before now refused h0 h1 waiting counts rose finish = absurd (omega (arith, rose, counts.same (λ e. cc)))

-- a write fault that was counted is told, whether it came in the replay or at its end
pub write_fault_told : (end result : Result Unit ReplayFault) (f0 f1 f2 : ℕ) → Counts f0 f1 (end ≡ Err Write) → (end ≡ Err Write → result ≡ Err Write) → (f1 < f2 → result ≡ Err Write) → f0 < f2 → result ≡ Err Write
write_fault_told (Err Write) result f0 f1 f2 counts ended told rose = ended refl
write_fault_told (Ok u) result f0 f1 f2 counts ended told rose = told (omega (arith, rose, counts.same (λ e. cc)))
write_fault_told (Err Read) result f0 f1 f2 counts ended told rose = told (omega (arith, rose, counts.same (λ e. cc)))
write_fault_told (Err (Line l at)) result f0 f1 f2 counts ended told rose = told (omega (arith, rose, counts.same (λ e. cc)))
write_fault_told (Err (Range l name)) result f0 f1 f2 counts ended told rose = told (omega (arith, rose, counts.same (λ e. cc)))
write_fault_told (Err TooManyEvents) result f0 f1 f2 counts ended told rose = told (omega (arith, rose, counts.same (λ e. cc)))
write_fault_told (Err Memory) result f0 f1 f2 counts ended told rose = told (omega (arith, rose, counts.same (λ e. cc)))

-- a want that was counted in a part was counted in the whole
pub rose_early : (a b c : ℕ) → b ≤ c → Rose a b → Rose a c
rose_early a b c later rose = omega (arith, later, rose)

pub rose_late : (a b c : ℕ) → a ≤ b → Rose b c → Rose a c
rose_late a b c later rose = grind (arith, later, rose)
