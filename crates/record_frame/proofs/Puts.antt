-- One piece after another.
use Rattle.std.proofs.Common.{◌≡◌, ◌≤◌, ℕ, List, ◌++◌, length, take, refl, sym, ap, ◌∙◌, append_assoc, length-append, arith}
use Rattle.std.proofs.lemmas.List.{take-take, take_at}
use Rattle.record_frame.specs.Adding.{Keeps}

pub put_3 : (old a b c x y z : List ℕ) → x ≡ old ++ a → y ≡ x ++ b → z ≡ y ++ c → z ≡ old ++ (a ++ (b ++ c))
put_3 old a b c x y z p q r = rw (r, q, p) (simp append_assoc)

pub put_4 : (old a b c d w x y z : List ℕ) → w ≡ old ++ a → x ≡ w ++ b → y ≡ x ++ c → z ≡ y ++ d → z ≡ old ++ (a ++ (b ++ (c ++ d)))
put_4 old a b c d w x y z o p q r = rw (r, q, p, o) (simp append_assoc)

pub put_6 : (old a b c d e f u v w x y z : List ℕ) → u ≡ old ++ a → v ≡ u ++ b → w ≡ v ++ c → x ≡ w ++ d → y ≡ x ++ e → z ≡ y ++ f → z ≡ old ++ (a ++ (b ++ (c ++ (d ++ (e ++ f)))))
put_6 old a b c d e f u v w x y z m n o p q r = rw (r, q, p, o, n, m) (simp append_assoc)

-- what was added is kept, and so is what stood before it
pub keeps_after : (old added more new : List ℕ) → more ≡ old ++ added → Keeps more new → Keeps old new
keeps_after old added more new e kept =
    let within : length old ≤ length more = omega (arith, ap length e, length-append old added) in
    sym (take-take (length old) (length more) new within) ∙ ap (take (length old)) (kept ∙ e) ∙ take_at old added (length old) refl
