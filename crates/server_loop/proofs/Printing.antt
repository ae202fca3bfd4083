-- What is printed before the last line of an end, and then that line.
use Rattle.std.proofs.Common.{◌≡◌, ℕ, ◌≤◌, ◌⊎◌, List, [], ◌++◌, length, take, arith, zero, suc, ◌∙◌, ap, refl, inl, inr, Option, Result, Ok, Err, length-append}
use Rattle.std.specs.Prelude.{IfErr}
use Rattle.std.specs.Io.KnownBytes.{Appends}
use Rattle.std.proofs.lemmas.List.{take-append-le, take_all, append-nil}
use Rattle.io_core.specs.Bytes.{AppendsPrefix}
use Rattle.io_core.proofs.Known.{Appends-more, AppendsPrefix-more}
use Rattle.server_loop.specs.declared.end.End.{End}
use Rattle.server_loop.specs.declared.end.End.TheVariants.{Bye, Port, Turns, Peer, Register, Garbled, Exhausted, TakenOver, NoQuorum, WriteFault, Memory}
use Rattle.server_loop.specs.Ends.{Prints, status_of, last_line, HasPrinted, IsUnannounced, SaysPart, IsBroken}

-- a prefix of a text is one of a longer text
pub AppendsPrefix-longer : (a b : Option (List ℕ)) (xs ys : List ℕ) → AppendsPrefix a b xs → AppendsPrefix a b (xs ++ ys)
AppendsPrefix-longer a b xs ys p = (p.0, simp length-append (omega (arith, p.1)), shorter p.0 p.1 p.2)
  where
    shorter : (k : ℕ) → k ≤ length xs → Appends a b (take k xs) → Appends a b (take k (xs ++ ys))
    shorter k within held = rw (take-append-le k xs ys within) held

-- what is written after nothing more
still : (a b c : Option (List ℕ)) (xs : List ℕ) → AppendsPrefix a b xs → Appends b c [] → AppendsPrefix a c xs
still a b c xs p q = (p.0, p.1, rw (append-nil (take p.0 xs)) at (Appends-more a b c (take p.0 xs) [] p.2 q))

take_nil : (k : ℕ) → take {A = ℕ} k [] ≡ []
take_nil zero = refl
take_nil (suc k) = refl

nothing : (b c : Option (List ℕ)) → AppendsPrefix b c [] → Appends b c []
nothing b c p = rw (take_nil p.0) at p.2

-- a whole text, and then what is printed of another
pub prints_both : (a b c : Option (List ℕ)) (xs ys : List ℕ) (due status : ℕ) → Appends a b xs → Prints b c ys due status → Prints a c (xs ++ ys) due status
prints_both a b c xs ys due status p (inl q) = inl (q.0, Appends-more a b c xs ys p q.1)
prints_both a b c xs ys due status p (inr q) = inr (q.0, AppendsPrefix-more a b c xs ys p q.1)

-- a part of a text, and then nothing more
pub broke_off : (a b c : Option (List ℕ)) (xs : List ℕ) (due status : ℕ) → (due ≡ 11) ⊎ (due ≡ 20) → AppendsPrefix a b xs → Prints b c [] due status → Prints a c (xs ++ []) due status
broke_off a b c xs due status (inl e) p (inl q) = inr (inl (q.0 ∙ e), AppendsPrefix-longer a c xs [] (still a b c xs p q.1))
broke_off a b c xs due status (inr e) p (inl q) = inr (inr (q.0 ∙ e), AppendsPrefix-longer a c xs [] (still a b c xs p q.1))
broke_off a b c xs due status e p (inr q) = inr (q.0, AppendsPrefix-longer a c xs [] (still a b c xs p (nothing b c q.1)))

pub printed : (a b c : Option (List ℕ)) (lines : List ℕ) (end : End) (status : ℕ) → HasPrinted a b lines end → Prints b c (last_line end) (status_of end) status → Prints a c (lines ++ last_line end) (status_of end) status
printed a b c lines Bye status p q = prints_both a b c lines _ _ status p q
printed a b c lines Port status p q = prints_both a b c lines _ _ status p q
printed a b c lines Turns status p q = prints_both a b c lines _ _ status p q
printed a b c lines Peer status p q = prints_both a b c lines _ _ status p q
printed a b c lines Register status p q = prints_both a b c lines _ _ status p q
printed a b c lines Garbled status p q = prints_both a b c lines _ _ status p q
printed a b c lines Exhausted status p q = prints_both a b c lines _ _ status p q
printed a b c lines (TakenOver n) status p q = prints_both a b c lines _ _ status p q
printed a b c lines (NoQuorum out) status p q = prints_both a b c lines _ _ status p q
printed a b c lines WriteFault status p q = broke_off a b c lines 11 status (inl refl) p q
printed a b c lines Memory status p q = broke_off a b c lines 20 status (inr refl) p q

Appends-prefix : (a b : Option (List ℕ)) (xs : List ℕ) → Appends a b xs → AppendsPrefix a b xs
Appends-prefix a b xs p = (length xs, omega arith, rw (take_all (length xs) xs (omega arith)) p)

-- all lines are printed, whatever the end is
pub all_printed : (a b : Option (List ℕ)) (lines : List ℕ) (end : End) → Appends a b lines → HasPrinted a b lines end
all_printed a b lines Bye p = p
all_printed a b lines Port p = p
all_printed a b lines Turns p = p
all_printed a b lines Peer p = p
all_printed a b lines Register p = p
all_printed a b lines Garbled p = p
all_printed a b lines Exhausted p = p
all_printed a b lines (TakenOver n) p = p
all_printed a b lines (NoQuorum out) p = p
all_printed a b lines WriteFault p = Appends-prefix a b lines p
all_printed a b lines Memory p = Appends-prefix a b lines p

-- the first of two texts is printed in part
pub first_part : (a b : Option (List ℕ)) (first second : List ℕ) (end : End) → SaysPart a b first end → IsUnannounced a b first second end
first_part a b first second WriteFault p = AppendsPrefix-longer a b first second p
first_part a b first second Memory p = AppendsPrefix-longer a b first second p
first_part a b first second Bye p = absurd p
first_part a b first second Port p = absurd p
first_part a b first second Turns p = absurd p
first_part a b first second Peer p = absurd p
first_part a b first second Register p = absurd p
first_part a b first second Garbled p = absurd p
first_part a b first second Exhausted p = absurd p
first_part a b first second (TakenOver n) p = absurd p
first_part a b first second (NoQuorum out) p = absurd p

-- the first of two texts is printed, and the second in part
pub second_part : (a b c : Option (List ℕ)) (first second : List ℕ) (end : End) → Appends a b first → SaysPart b c second end → IsUnannounced a c first second end
second_part a b c first second WriteFault p q = AppendsPrefix-more a b c first second p q
second_part a b c first second Memory p q = AppendsPrefix-more a b c first second p q
second_part a b c first second Bye p q = absurd q
second_part a b c first second Port p q = absurd q
second_part a b c first second Turns p q = absurd q
second_part a b c first second Peer p q = absurd q
second_part a b c first second Register p q = absurd q
second_part a b c first second Garbled p q = absurd q
second_part a b c first second Exhausted p q = absurd q
second_part a b c first second (TakenOver n) p q = absurd q
second_part a b c first second (NoQuorum out) p q = absurd q

pub if_err-map : {T E : Type 0} (r : Result T E) (P Q : E → Type 0) → ((e : E) → P e → Q e) → IfErr r P → IfErr r Q
if_err-map (Ok x) P Q f h = h
if_err-map (Err e) P Q f h = f e h

-- the status of a port's fault, where its line is printed
pub peer_status : (a b : Option (List ℕ)) (text : List ℕ) (end : End) (status : ℕ) → end ≡ Peer → Prints a b text (status_of end) status → (status ≡ 13) ⊎ IsBroken status
peer_status a b text end status is (inl q) = inl (q.0 ∙ ap status_of is)
peer_status a b text end status is (inr q) = inr q.0
