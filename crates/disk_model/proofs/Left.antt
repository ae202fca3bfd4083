-- What a crash may leave at the moments of a call.
use Rattle.std.proofs.Common.{◌≡◌, inl, inr, ℕ, List, [], ◌∷◌, sym, subst}
use Rattle.std.specs.List.{AllByRecursion}
use Rattle.disk_model.specs.File.{File, IsImage, IsPlain, IsSound}
use Rattle.tx_model.specs.Frames.{frames_in}
use Rattle.disk_model.specs.Frames.{EachImage}
use Rattle.disk_model.specs.Chance.{EachLeft}
use Rattle.disk_model.specs.History.{Files, History, moments, EachMoment, Always}
use Rattle.disk_model.proofs.ByChance.{each_image}
use Rattle.disk_model.proofs.Images.{plain_image}
use Rattle.disk_model.proofs.Moments.{weaker, always_too, plain_as_put}

-- what each image as put has, whatever a crash may leave has
pub left_of : (plain : Type 0) (len : List ℕ → ℕ) (P : List (List ℕ) → Type 0) (f : File) → IsSound f → (plain → IsPlain f) → EachImage len P f → EachLeft plain len P f
left_of plain len P f sound is_plain each c left = elim left.no_chance [
  | inl it ↦ (
      let reads : c ≡ f.reads = plain_image f c (is_plain it) left.image in
      subst (λ (l : List ℕ). P (frames_in len l)) (sym reads) (each f.reads (subst (IsImage f) reads left.image) (plain_as_put len f (is_plain it)))
      )
  | inr not ↦ each_image len P f sound.as_put each c left.image not
]

always_if : (plain : Type 0) (Q : File → Type 0) (ss : List Files) → (plain → AllByRecursion (λ s. (q : ℕ) → Q (s q)) ss) → AllByRecursion (λ s. (q : ℕ) → plain → Q (s q)) ss
always_if plain Q [] all = tt
always_if plain Q (s ∷ ss) all = (λ q it. (all it).0 q, always_if plain Q ss (λ it. (all it).1))

-- at each moment of a call
pub each_left : (plain : Type 0) (len : List ℕ → ℕ) (P : List (List ℕ) → Type 0) (file : ℕ) (old new : History) → Always IsSound new → (plain → Always IsPlain new)
    → EachMoment file (EachImage len P) old new → EachMoment file (EachLeft plain len P) old new
each_left plain len P file old new sound settles run =
    weaker file (EachLeft plain len P) (λ f. (EachImage len P f × IsSound f) × (plain → IsPlain f)) old new
    (always_too file (λ f. EachImage len P f × IsSound f) (λ f. plain → IsPlain f) old new
    (always_too file (EachImage len P) IsSound old new run sound) (always_if plain IsPlain (moments new) settles))
    (λ f both. left_of plain len P f both.0.1 both.1 both.0.0)
