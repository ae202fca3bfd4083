-- What is printed before the last line of an end, and then that line.
use Rattle.std.proofs.Common.{◌≡◌, ℕ, ◌≤◌, ◌⊎◌, List, [], ◌++◌, length, take, arith, ◌∙◌, refl, inl, inr, zero, suc, Option, length-append}
use Rattle.std.specs.Io.KnownBytes.{Appends}
use Rattle.std.proofs.lemmas.List.{take-append-le, append-nil}
use Rattle.io_core.specs.Bytes.{AppendsPrefix}
use Rattle.io_core.proofs.Known.{Appends-more, AppendsPrefix-more}
use Rattle.node_loops.specs.declared.end.End.{End}
use Rattle.node_loops.specs.declared.end.End.TheVariants.{Bye, Port, Turns, Unheard, Peer, Disk, Damaged, TakenOver, Answer, Full, WriteFault, Memory}
use Rattle.node_loops.specs.Ends.{status_of, last_line, first_line, serving_text, Prints, HasBegun}

-- a prefix of a text is one of a longer text
pub AppendsPrefix-longer : (a b : Option (List ℕ)) (xs ys : List ℕ) → AppendsPrefix a b xs → AppendsPrefix a b (xs ++ ys)
AppendsPrefix-longer a b xs ys p = (p.0, simp length-append (omega (arith, p.1)), shorter p.0 p.1 p.2)
  where
    shorter : (k : ℕ) → k ≤ length xs → Appends a b (take k xs) → Appends a b (take k (xs ++ ys))
    shorter k within held = rw (take-append-le k xs ys within) held

-- what is written after nothing more
still : (a b c : Option (List ℕ)) (xs : List ℕ) → AppendsPrefix a b xs → Appends b c [] → AppendsPrefix a c xs
still a b c xs p q = (p.0, p.1, rw (append-nil (take p.0 xs)) at (Appends-more a b c (take p.0 xs) [] p.2 q))

take_nil : (k : ℕ) → take {A = ℕ} k [] ≡ []
take_nil zero = refl
take_nil (suc k) = refl

nothing : (b c : Option (List ℕ)) → AppendsPrefix b c [] → Appends b c []
nothing b c p = rw (take_nil p.0) at p.2

-- a whole text, and then what is printed of another
pub prints_both : (a b c : Option (List ℕ)) (xs ys : List ℕ) (due status : ℕ) → Appends a b xs → Prints b c ys due status → Prints a c (xs ++ ys) due status
prints_both a b c xs ys due status p (inl q) = inl (q.0, Appends-more a b c xs ys p q.1)
prints_both a b c xs ys due status p (inr q) = inr (q.0, AppendsPrefix-more a b c xs ys p q.1)

-- a part of a text, and then nothing more
pub broke_off : (a b c : Option (List ℕ)) (xs : List ℕ) (due status : ℕ) → (due ≡ 11) ⊎ (due ≡ 20) → AppendsPrefix a b xs → Prints b c [] due status → Prints a c (xs ++ []) due status
broke_off a b c xs due status (inl e) p (inl q) = inr (inl (q.0 ∙ e), AppendsPrefix-longer a c xs [] (still a b c xs p q.1))
broke_off a b c xs due status (inr e) p (inl q) = inr (inr (q.0 ∙ e), AppendsPrefix-longer a c xs [] (still a b c xs p q.1))
broke_off a b c xs due status e p (inr q) = inr (q.0, AppendsPrefix-longer a c xs [] (still a b c xs p (nothing b c q.1)))

pub prints : (a b c : Option (List ℕ)) (port : ℕ) (end : End) (status : ℕ) → HasBegun a b port end → Prints b c (last_line end) (status_of end) status → Prints a c (serving_text port end) (status_of end) status
prints a b c port Bye status p q = prints_both a b c (first_line port) _ _ status p q
prints a b c port Port status p q = prints_both a b c (first_line port) _ _ status p q
prints a b c port Turns status p q = prints_both a b c (first_line port) _ _ status p q
prints a b c port Unheard status p q = prints_both a b c [] _ _ status p q
prints a b c port Peer status p q = prints_both a b c (first_line port) _ _ status p q
prints a b c port Disk status p q = prints_both a b c (first_line port) _ _ status p q
prints a b c port (Damaged file at) status p q = prints_both a b c (first_line port) _ _ status p q
prints a b c port (TakenOver session) status p q = prints_both a b c (first_line port) _ _ status p q
prints a b c port Answer status p q = prints_both a b c (first_line port) _ _ status p q
prints a b c port Full status p q = prints_both a b c (first_line port) _ _ status p q
prints a b c port WriteFault status p q = broke_off a b c (first_line port) 11 status (inl refl) p q
prints a b c port Memory status p q = broke_off a b c (first_line port) 20 status (inr refl) p q
