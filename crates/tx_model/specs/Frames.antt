-- Frames at the front of bytes, whatever the framing: `len` gives the length of the whole and right frame at the front,
-- or 0.
use Rattle.std.specs.Prelude.{◌≡◌, ℕ, zero, suc, ◌<◌, ◌≤◌, ◌==◌, if◌then◌else◌, List, [], ◌∷◌, ◌++◌, length, take, drop}

-- the bytes are one whole and right frame
pub record IsFrame (len : List ℕ → ℕ) (f : List ℕ) : Type 0 where
  pub some : 0 < length f
  pub whole : len f ≡ length f

-- what a framing has to meet
pub record IsFraming (len : List ℕ → ℕ) : Type 0 where
  pub fits : (bs : List ℕ) → len bs ≤ length bs
  -- what stands behind a frame doesn't matter
  pub alone : (f rest : List ℕ) → IsFrame len f → len (f ++ rest) ≡ length f
  pub front : (bs : List ℕ) → 0 < len bs → len (take (len bs) bs) ≡ len bs

abbrev pub joined : List (List ℕ) → List ℕ
joined [] = []
joined (f ∷ fs) = f ++ joined fs

-- the first n frames from the front, up to the first that isn't whole and right
unfoldable pub walk : (List ℕ → ℕ) → ℕ → List ℕ → List (List ℕ)
walk len zero bs = []
walk len (suc n) bs = if len bs == 0 then [] else take (len bs) bs ∷ walk len n (drop (len bs) bs)

-- the frames of a file from its front
abbrev pub frames_in : (List ℕ → ℕ) → List ℕ → List (List ℕ)
frames_in len bs = walk len (length bs) bs

-- frames, and of the others a prefix
abbrev pub IsPrefixOf : List (List ℕ) → List (List ℕ) → List (List ℕ) → Type 0
IsPrefixOf fs ns gs = (k : ℕ) × (k ≤ length ns) × (gs ≡ fs ++ take k ns)
