-- Texts as they grow.
use Rattle.std.proofs.Common.{◌≡◌, ℕ, List, ◌++◌, ◌∙◌, ap, append_assoc}
use Rattle.std.specs.Prelude.{Result, OnOk}
use Rattle.std.proofs.lemmas.Result.{on_ok_weaker}

-- five texts, one after the other
pub five_texts : {T E : Type 0} (r : Result T E) (old one two three four five a b c d e : List ℕ) → one ≡ old ++ a → two ≡ one ++ b → three ≡ two ++ c → four ≡ three ++ d → OnOk r (five ≡ four ++ e) → OnOk r (five ≡ old ++ (a ++ (b ++ (c ++ (d ++ e)))))
five_texts r old one two three four five a b c d e p q s t last =
    let front : four ≡ old ++ (a ++ (b ++ (c ++ d))) = t ∙ ap (λ l. l ++ d) (s ∙ ap (λ l. l ++ c) (q ∙ ap (λ l. l ++ b) p)) ∙ simp append_assoc in
    on_ok_weaker r (λ is. is ∙ ap (λ l. l ++ e) front ∙ simp append_assoc) last
