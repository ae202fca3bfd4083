-- What the images of a file hold whose front is firm.
use Rattle.std.proofs.Common.{◌≡◌, inl, inr, ℕ, ◌+◌, ◌<◌, ◌≤◌, false, List, [], ◌++◌, length, take, drop, refl, sym, ◌∙◌, ap, subst, arith, append_assoc, length-append, take-append-drop}
use Rattle.std.specs.List.{AllByRecursion}
use Rattle.std.proofs.lemmas.Bool.{cases_lt}
use Rattle.std.proofs.lemmas.Bool.Decides.{nat_tests}
use Rattle.std.proofs.lemmas.Grind.{same_number_lists}
use Rattle.std.proofs.lemmas.List.{append-nil, append_cancel_left, take_at, length-take-le, get_or-take, take_all, drop_all}
use Rattle.disk_model.specs.File.{File, IsImage, IsPlain, settled, written, shortened}
use Rattle.tx_model.specs.Frames.{IsFrame, IsFraming, joined, frames_in, IsPrefixOf}
use Rattle.disk_model.specs.Frames.{EachImage}
use Rattle.tx_model.proofs.Walks.{joined-append, all-append, split, frames_in-joined, first_of_them}

-- each image has the synced bytes below n, where no place below n is unsynced
pub image_long : (file : File) (c : List ℕ) (n : ℕ) → IsImage file c → ((i : ℕ) → i < n → file.unsynced i ≡ false) → n ≤ length file.synced → n ≤ length c
image_long file c n image firm long = elim (cases_lt (length c) n) [
  | inl short ↦ let is_unsynced = image.ends (length c) (omega arith) (omega arith) in let not = firm (length c) short in absurd (cc (is_unsynced, not))
  | inr enough ↦ enough
]

-- and so the same front
pub image_front : (file : File) (c : List ℕ) (n : ℕ) → IsImage file c → ((i : ℕ) → i < n → file.unsynced i ≡ false) → n ≤ length file.synced → take n c ≡ take n file.synced
image_front file c n image firm long =
    let enough = image_long file c n image firm long in
    same_number_lists (take n c) (take n file.synced) (length-take-le n c enough ∙ sym (length-take-le n file.synced long))
    (λ k below. let near : k < n = omega (arith, below, length-take-le n c enough) in
    get_or-take n c k 0 near ∙ image.bytes k (omega (arith, near, enough)) (firm k near) ∙ sym (get_or-take n file.synced k 0 near))

-- these frames, and then a front of the others
behind_them : (fs ns ts gs : List (List ℕ)) → gs ≡ fs ++ ts → (k : ℕ) × (k ≤ length ns) × (ts ≡ take k ns) → IsPrefixOf fs ns gs
behind_them fs ns ts gs found (k, le, is) = (k, le, found ∙ ap (λ (l : List (List ℕ)). fs ++ l) is)

-- the front holds these frames, and behind them the others were put
pub record Keeps (len : List ℕ → ℕ) (fs ns : List (List ℕ)) (file : File) : Type 0 where
  pub frames : AllByRecursion (IsFrame len) fs
  pub new_frames : AllByRecursion (IsFrame len) ns
  pub firm : (i : ℕ) → i < length (joined fs) → file.unsynced i ≡ false
  pub more : List ℕ
  pub synced : file.synced ≡ joined fs ++ more
  pub rest : List ℕ
  pub put : file.put ≡ joined fs ++ (joined ns ++ rest)
  pub none : len rest ≡ 0

module _ (len : List ℕ → ℕ) (framing : IsFraming len) where
  -- then each image has these frames, and of the others a front
  pub keeps_images : (fs ns : List (List ℕ)) (file : File) → Keeps len fs ns file → EachImage len (IsPrefixOf fs ns) file
  keeps_images fs ns file keeps c image as_put =
      let n = length (joined fs) in
      let long : n ≤ length file.synced = omega (arith, ap length keeps.synced, length-append (joined fs) keeps.more) in
      let front : take n c ≡ joined fs = image_front file c n image keeps.firm long ∙ ap (λ (l : List ℕ). take n l) keeps.synced ∙ take_at (joined fs) keeps.more n refl in
      let tail = drop n c in
      let is : c ≡ joined fs ++ tail = sym (take-append-drop n c) ∙ ap (λ (l : List ℕ). l ++ tail) front in
      let behind = split len framing tail in
      let ts = frames_in len tail in
      let whole : c ≡ joined (fs ++ ts) ++ behind.rest = is ∙ ap (λ (l : List ℕ). joined fs ++ l) behind.is ∙ sym (append_assoc (joined fs) (joined ts) behind.rest) ∙ ap (λ (l : List ℕ). l ++ behind.rest) (sym (joined-append fs ts)) in
      let all : AllByRecursion (IsFrame len) (fs ++ ts) = all-append (IsFrame len) fs ts keeps.frames behind.frames in
      let put = as_put (fs ++ ts) behind.rest all whole in
      let same : joined fs ++ (joined ts ++ put.0) ≡ joined fs ++ (joined ns ++ keeps.rest) = sym (append_assoc (joined fs) (joined ts) put.0) ∙ ap (λ (l : List ℕ). l ++ put.0) (sym (joined-append fs ts)) ∙ sym put.1 ∙ keeps.put in
      let they = first_of_them len framing ts ns put.0 keeps.rest behind.frames keeps.new_frames keeps.none (append_cancel_left (joined fs) (joined ts ++ put.0) (joined ns ++ keeps.rest) same) in
      let found : frames_in len c ≡ fs ++ ts = ap (λ (l : List ℕ). frames_in len l) whole ∙ frames_in-joined len framing (fs ++ ts) behind.rest all behind.none in
      behind_them fs ns ts (frames_in len c) found they

  -- no frame stands at the front of no bytes
  pub empty : len [] ≡ 0
  empty = omega (arith, framing.fits [])

  -- all of it on the disk
  pub keeps_settled : (fs : List (List ℕ)) (rest : List ℕ) → AllByRecursion (IsFrame len) fs → len rest ≡ 0 → Keeps len fs [] (settled (joined fs ++ rest))
  keeps_settled fs rest all none = record { frames = all; new_frames = tt; firm = λ i below. refl; more = rest; synced = refl; rest = rest; put = refl; none = none }

  -- new frames written behind
  pub keeps_written : (fs ns : List (List ℕ)) → AllByRecursion (IsFrame len) fs → AllByRecursion (IsFrame len) ns → Keeps len fs ns (written (length (joined fs)) (joined ns) (settled (joined fs)))
  keeps_written fs ns all_f all_n = record {
    frames = all_f;
    new_frames = all_n;
    firm = λ i below. grind (arith, nat_tests);
    more = [];
    synced = sym (append-nil (joined fs));
    rest = [];
    none = empty;
    put = ap (λ (l : List ℕ). l ++ joined ns ++ drop (length (joined fs) + length (joined ns)) (joined fs)) (take_all (length (joined fs)) (joined fs) (omega arith))
        ∙ ap (λ (l : List ℕ). joined fs ++ joined ns ++ l) (drop_all (length (joined fs) + length (joined ns)) (joined fs) (omega arith))
        ∙ append_assoc (joined fs) (joined ns) [];
  }

  -- a rest that holds no frame cut away
  pub keeps_shortened : (fs : List (List ℕ)) (rest : List ℕ) → AllByRecursion (IsFrame len) fs → len rest ≡ 0 → Keeps len fs [] (shortened (length (joined fs)) (settled (joined fs ++ rest)))
  keeps_shortened fs rest all none = record { frames = all; new_frames = tt; firm = λ i below. grind (arith, nat_tests); more = rest; synced = refl; rest = rest; put = refl; none = none }

-- the one image of a file that is on the disk
pub image_settled : (c r : List ℕ) → IsImage (settled r) c → c ≡ r
image_settled c r image =
    let long = image_long (settled r) c (length r) image (λ i below. refl) (omega arith) in
    let short : length c ≤ length r = elim (cases_lt (length r) (length c)) [
      | inl more ↦ absurd (omega (arith, image.within (length r) more refl))
      | inr enough ↦ enough
    ] in
    let front : take (length r) c ≡ take (length r) r = image_front (settled r) c (length r) image (λ i below. refl) (omega arith) in
    sym (take_all (length r) c short) ∙ front ∙ take_all (length r) r (omega arith)

-- so a crash leaves of a plain file what it reads
pub plain_image : (file : File) (c : List ℕ) → IsPlain file → IsImage file c → c ≡ file.reads
plain_image file c plain image = image_settled c file.reads (subst (λ (f : File). IsImage f c) plain image)
