-- An entry that names a file: where its records go, and the last one that was named.
use Rattle.std.proofs.Common.{◌≡◌, ℕ, ◌+◌, ◌-◌, ◌<◌, ◌≤◌, true, List, [], ◌∷◌, ◌++◌, length, take, refl, sym, ◌∙◌, ap, subst, arith, Option, Some}
use Rattle.tx_model.specs.declared.meta.Meta.{Meta}
use Rattle.tx_model.specs.declared.meta.Meta.TheVariants.{Promise, Adopt, Low, Roll, Value}
use Rattle.proto_model.specs.Held.{Held, Table, is_legal, held_after, IfNames}
use Rattle.proto_model.specs.Damages.{Naming, named_by, or_before, last_named}
use Rattle.proto_model.proofs.Folding.{IsSane, adopt_fits, roll_fits}

some_same : {A : Type 0} (x y : A) → Some x ≡ Some y → x ≡ y
some_same x y e = cc

pub names-if : (P : ℕ → Type 0) (e : Meta) (n : Naming) → named_by e ≡ Some n → P n.file → IfNames P e
names-if P (Promise s) n is it = tt
names-if P (Adopt s first file count) n is it = subst (λ (m : Naming). P m.file) (sym (some_same _ n is)) it
names-if P (Low k) n is it = tt
names-if P (Roll file first) n is it = subst (λ (m : Naming). P m.file) (sym (some_same _ n is)) it
names-if P (Value k) n is it = tt

-- where its records go
pub record NamesWithin (h : Held) (n : Naming) : Type 0 where
  pub above_low : h.low < n.first
  pub within : n.first ≤ length h.log + 1
  pub above : h.file < n.file

pub names-within : (h : Held) (e : Meta) (n : Naming) → IsSane h → named_by e ≡ Some n → is_legal h e ≡ true → NamesWithin h n
names-within h (Promise s) n sane is legal = absurd (cc is)
names-within h (Adopt s first file count) n sane is legal =
    let fits = adopt_fits h s first file count legal in
    let first_is : first ≡ h.low + 1 = fits.first_is in
    subst (NamesWithin h) (some_same _ n is) (record { above_low = omega (arith, first_is); within = omega (arith, first_is, sane.low); above = fits.above })
names-within h (Low k) n sane is legal = absurd (cc is)
names-within h (Roll file first) n sane is legal =
    let fits = roll_fits h file first legal in
    subst (NamesWithin h) (some_same _ n is) (record { above_low = fits.later; within = fits.within; above = fits.above })
names-within h (Value k) n sane is legal = absurd (cc is)

-- what is held then
pub named-after : (tab : Table) (h : Held) (e : Meta) (n : Naming) → named_by e ≡ Some n → is_legal h e ≡ true
    → held_after tab h e ≡ record h { adopted = (held_after tab h e).adopted; log = take (n.first - 1) h.log ++ tab n.file; file = n.file; first = n.first }
named-after tab h (Promise s) n is legal = absurd (cc is)
named-after tab h (Adopt s first file count) n is legal =
    let first_is : first ≡ h.low + 1 = (adopt_fits h s first file count legal).first_is in
    let low : h.low ≡ first - 1 = omega (arith, first_is) in
    ap (λ (k : ℕ). record h { adopted = s; log = take k h.log ++ tab file; file = file; first = first }) low
    ∙ ap (λ (m : Naming). record h { adopted = s; log = take (m.first - 1) h.log ++ tab m.file; file = m.file; first = m.first }) (some_same _ n is)
named-after tab h (Low k) n is legal = absurd (cc is)
named-after tab h (Roll file first) n is legal = ap (λ (m : Naming). record h { log = take (m.first - 1) h.log ++ tab m.file; file = m.file; first = m.first }) (some_same _ n is)
named-after tab h (Value k) n is legal = absurd (cc is)

pub last_named-more : (before : Option Naming) (es : List Meta) (e : Meta) → last_named before (es ++ e ∷ []) ≡ or_before (named_by e) (last_named before es)
unfolding last_named
last_named-more before [] e = refl
last_named-more before (d ∷ es) e = last_named-more (or_before (named_by d) before) es e
