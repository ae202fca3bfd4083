-- The lines decide how a script ends, where nothing else came first.
use Rattle.std.proofs.Common.{◌≡◌, ◌⊎◌, inl, inr, ℕ, ◌<◌, ◌≤◌, List, [], ◌∷◌, ◌++◌, length, arith, refl, sym, ◌∙◌, subst, Option, Some, None}
use Rattle.std.proofs.lemmas.List.{append_cancel_left}
use Rattle.io_core.specs.Links.{Exchange}
use Rattle.schedule_text.specs.declared.lines.script.ScriptLine.{ScriptLine}
use Rattle.schedule_text.specs.Spellings.{SpellsScript}
use Rattle.client_loop.specs.declared.end.End.{End}
use Rattle.client_loop.specs.declared.end.End.TheVariants.{Done, Bad, Limit, ReadFault, WriteFault, Peer, Garbled, Memory}
use Rattle.client_loop.specs.Ends.{status_of, IsBroken, IsBrokenBy, IsReported, Prints}
use Rattle.client_loop.specs.Reading.{AreScripts, HasReason, IsAfter, IsBadNext, Reads}
use Rattle.client_loop.specs.Runs.{RunsScript, IsDecided, ComesExactly}

-- the next of these lines is one of a script
abbrev GoesOn : List (List ℕ) → Type 0
GoesOn rest = (line : List ℕ) × (more : List (List ℕ)) × (script : ScriptLine) × (rest ≡ line ∷ more) × SpellsScript line script

abbrev HasAfter : End → List (List ℕ) → Type 0
HasAfter end lines = IsAfter end lines × (length lines ≤ 20000)

-- one reading, or one of them stops before a line of a script
abbrev Compared : List (List ℕ) → List (List ℕ) → List (List ℕ) → List (List ℕ) → Type 0
Compared l1 l2 r1 r2 = (l1 ≡ l2) ⊎ (((length l1 < length l2) × GoesOn r1) ⊎ ((length l2 < length l1) × GoesOn r2))

next_line : (l m : List ℕ) (ls ms r1 r2 : List (List ℕ)) → l ≡ m → Compared ls ms r1 r2 → Compared (l ∷ ls) (m ∷ ms) r1 r2
next_line l m ls ms r1 r2 same (inl lines) = inl cc
next_line l m ls ms r1 r2 same (inr (inl h)) = inr (inl (omega (arith, h.0), h.1))
next_line l m ls ms r1 r2 same (inr (inr h)) = inr (inr (omega (arith, h.0), h.1))

compare : (l1 : List (List ℕ)) (s1 : List ScriptLine) (r1 l2 : List (List ℕ)) (s2 : List ScriptLine) (r2 : List (List ℕ)) → AreScripts l1 s1 → AreScripts l2 s2 → l1 ++ r1 ≡ l2 ++ r2 → Compared l1 l2 r1 r2
compare [] s1 r1 [] s2 r2 p q same = inl refl
compare [] s1 r1 (m ∷ ms) [] r2 p q same = absurd q
compare [] s1 r1 (m ∷ ms) (t ∷ ts) r2 p q same = inr (inl (omega arith, (m, ms ++ r2, t, same, q.0)))
compare (l ∷ ls) [] r1 l2 s2 r2 p q same = absurd p
compare (l ∷ ls) (s ∷ ss) r1 [] s2 r2 p q same = inr (inr (omega arith, (l, ls ++ r1, s, sym same, p.0)))
compare (l ∷ ls) (s ∷ ss) r1 (m ∷ ms) [] r2 p q same = absurd q
compare (l ∷ ls) (s ∷ ss) r1 (m ∷ ms) (t ∷ ts) r2 p q same =
    let head : l ≡ m = cc in
    let tail : ls ++ r1 ≡ ms ++ r2 = cc in
    next_line l m ls ms r1 r2 head (compare ls ss r1 ms ts r2 p.1 q.1 tail)

-- a decided end before a line of a script is the limit's
at_limit : (end : End) (lines rest : List (List ℕ)) → IsDecided end → HasReason end lines rest → GoesOn rest → length lines ≡ 20000
at_limit Done lines rest d reason goes = let never : [] ≡ goes.0 ∷ goes.1 = sym reason.followed ∙ goes.3 in cc
at_limit (Bad line at) lines rest d reason goes =
    let P : List (List ℕ) → Type 0 = λ r. IsBadNext r at in
    absurd ((subst P goes.3 reason.followed).0 goes.2 goes.4)
at_limit Limit lines rest d reason goes = reason.after
at_limit ReadFault lines rest d reason goes = absurd d
at_limit WriteFault lines rest d reason goes = absurd d
at_limit Peer lines rest d reason goes = absurd d
at_limit Garbled lines rest d reason goes = absurd d
at_limit Memory lines rest d reason goes = absurd d

-- two decided ends after the same lines have one status
same_place : (a b : End) (lines rest : List (List ℕ)) → IsDecided a → IsDecided b → HasReason a lines rest → HasReason b lines rest → status_of a ≡ status_of b
same_place Done Done lines rest d e p q = refl
same_place Limit Limit lines rest d e p q = refl
same_place (Bad x y) (Bad z w) lines rest d e p q = refl
same_place Done Limit lines rest d e p q = absurd (q.followed p.followed)
same_place Limit Done lines rest d e p q = absurd (p.followed q.followed)
same_place Limit (Bad z w) lines rest d e p q = absurd (omega (arith, p.after, q.after.1))
same_place (Bad x y) Limit lines rest d e p q = absurd (omega (arith, q.after, p.after.1))
same_place Done (Bad z w) lines rest d e p q = let P : List (List ℕ) → Type 0 = λ r. IsBadNext r w in absurd (subst P p.followed q.followed)
same_place (Bad x y) Done lines rest d e p q = let P : List (List ℕ) → Type 0 = λ r. IsBadNext r y in absurd (subst P q.followed p.followed)
same_place ReadFault b lines rest d e p q = absurd d
same_place WriteFault b lines rest d e p q = absurd d
same_place Peer b lines rest d e p q = absurd d
same_place Garbled b lines rest d e p q = absurd d
same_place Memory b lines rest d e p q = absurd d
same_place a ReadFault lines rest d e p q = absurd e
same_place a WriteFault lines rest d e p q = absurd e
same_place a Peer lines rest d e p q = absurd e
same_place a Garbled lines rest d e p q = absurd e
same_place a Memory lines rest d e p q = absurd e

rest_same : (xs ys r s : List (List ℕ)) → xs ≡ ys → xs ++ r ≡ ys ++ s → r ≡ s
rest_same xs ys r s e both = let P : List (List ℕ) → Type 0 = λ z. xs ++ r ≡ z ++ s in append_cancel_left xs r s (subst P (sym e) both)

-- the lines decide the status
same_status : (a b : End) (l1 : List (List ℕ)) (s1 : List ScriptLine) (r1 l2 : List (List ℕ)) (s2 : List ScriptLine) (r2 : List (List ℕ)) → IsDecided a → IsDecided b → AreScripts l1 s1 → AreScripts l2 s2 → l1 ++ r1 ≡ l2 ++ r2 → HasReason a l1 r1 → HasReason b l2 r2 → status_of a ≡ status_of b
same_status a b l1 s1 r1 l2 s2 r2 d e p q same f g = decide (compare l1 s1 r1 l2 s2 r2 p q same)
  where
    decide : Compared l1 l2 r1 r2 → status_of a ≡ status_of b
    decide (inl lines) =
        let L : List (List ℕ) → Type 0 = λ x. HasReason b x r2 in
        let R : List (List ℕ) → Type 0 = λ x. HasReason b l1 x in
        same_place a b l1 r1 d e f (subst R (sym (rest_same l1 l2 r1 r2 lines same)) (subst L (sym lines) g))
    decide (inr (inl h)) = absurd (omega (arith, at_limit a l1 r1 d f h.1, g.few, h.0))
    decide (inr (inr h)) = absurd (omega (arith, at_limit b l2 r2 e g h.1, f.few, h.0))

decided : (bytes : List ℕ) (before left : Option (List ℕ)) (end : End) (lines : List (List ℕ)) (scripts : List ScriptLine) (status : ℕ) → IsDecided end → Reads end bytes before left lines → AreScripts lines scripts → HasAfter end lines → status ≡ status_of end → ComesExactly (Some bytes) status
decided bytes before left end lines scripts status d read spelled after is other l2 s2 r2 e spelled2 cut reason =
    inl (is ∙ same_status end other lines scripts read.rest l2 s2 r2 d e spelled spelled2 (sym read.split ∙ cut) (record { followed = read.followed; after = after.0; few = after.1 }) reason)

at_end : (bytes : List ℕ) (before left : Option (List ℕ)) (end : End) (lines : List (List ℕ)) (scripts : List ScriptLine) (status : ℕ) → IsReported end → Reads end bytes before left lines → AreScripts lines scripts → HasAfter end lines → status ≡ status_of end → ComesExactly (Some bytes) status
at_end bytes before left Done lines scripts status p read spelled after is = decided bytes before left Done lines scripts status tt read spelled after is
at_end bytes before left (Bad line at) lines scripts status p read spelled after is = decided bytes before left (Bad line at) lines scripts status tt read spelled after is
at_end bytes before left Limit lines scripts status p read spelled after is = decided bytes before left Limit lines scripts status tt read spelled after is
at_end bytes before left ReadFault lines scripts status p read spelled after is = λ _ _ _ _ _ _ _ _. inr (inl is)
at_end bytes before left Peer lines scripts status p read spelled after is = λ _ _ _ _ _ _ _ _. inr (inr (inl is))
at_end bytes before left Garbled lines scripts status p read spelled after is = λ _ _ _ _ _ _ _ _. inr (inr (inr (inl is)))
at_end bytes before left WriteFault lines scripts status p read spelled after is = absurd p
at_end bytes before left Memory lines scripts status p read spelled after is = absurd p

pub exactly : (tells : Type 0) (id port : ℕ) (past_old past_new : List Exchange) (left_old before left_new h0 h2 : Option (List ℕ)) (refused : Type 0) (status : ℕ) → RunsScript tells id port past_old past_new left_old before left_new h0 h2 refused status → ComesExactly left_old status
exactly tells id port past_old past_new None before left_new h0 h2 refused status p = tt
exactly tells id port past_old past_new (Some bytes) before left_new h0 h2 refused status p = by_text p.printed
  where
    broken : IsBrokenBy refused status → IsBroken status
    broken (inl is) = inl is
    broken (inr is) = inr is.0

    by_text : Prints refused p.end h0 h2 p.text status → ComesExactly (Some bytes) status
    by_text (inl t) = at_end bytes before left_new p.end p.lines p.scripts status t.0 p.read p.spelled (p.after, p.few) t.1
    by_text (inr (inl t)) = λ _ _ _ _ _ _ _ _. inr (inr (inr (inr (inr t.0))))
    by_text (inr (inr t)) = λ _ _ _ _ _ _ _ _. inr (inr (inr (inr (broken t.0))))
