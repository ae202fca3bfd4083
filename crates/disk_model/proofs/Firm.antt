-- Frames that are synced and were put, with no frame put behind them.
use Rattle.std.proofs.Common.{◌≡◌, inl, inr, ℕ, ◌<◌, ◌≤◌, false, List, [], ◌++◌, length, take, drop, refl, sym, ◌∙◌, ap, subst, arith, length-append, take-append-drop}
use Rattle.std.specs.Prelude.{slice_index}
use Rattle.std.specs.List.{AllByRecursion}
use Rattle.std.proofs.lemmas.Bool.{cases_lt}
use Rattle.std.proofs.lemmas.Bool.Decides.{nat_tests}
use Rattle.std.proofs.lemmas.Grind.{same_number_lists}
use Rattle.std.proofs.lemmas.List.{append-nil, take_at, drop_at, take_all, take-append-le, drop-append-le, length-take-le, get_or-take, get_or_append_left}
use Rattle.disk_model.specs.File.{File, IsFirmer, IsPlain, IsSyncedAsPut, Begins, settled, shortened}
use Rattle.tx_model.specs.Frames.{IsFrame, IsFraming, IsPrefixOf, joined, frames_in}
use Rattle.disk_model.specs.Frames.{IsFirm, HasFirmFrames, EachImage}
use Rattle.tx_model.proofs.Walks.{split, none_before}
use Rattle.disk_model.proofs.Images.{Keeps, keeps_images}

-- no more frames than these
only : (fs gs : List (List ℕ)) → IsPrefixOf fs [] gs → gs ≡ fs
only fs gs found = found.2 ∙ ap (λ (l : List (List ℕ)). fs ++ l) (take_all found.0 [] (omega arith)) ∙ append-nil fs

-- ---- a firmer file

module _ (len : List ℕ → ℕ) (framing : IsFraming len) (fs : List (List ℕ)) (f g : File) (firm : IsFirm len fs g) (firmer : IsFirmer f g) (begins : Begins f.put g.put) (as_put : IsSyncedAsPut f) where
  n : ℕ
  n = length (joined fs)

  long_g : (i : ℕ) → i < length (joined fs) → i < length g.synced
  long_g i below = omega (arith, below, ap length firm.synced.1, length-append (joined fs) firm.synced.0)

  long_f : (i : ℕ) → i < length (joined fs) → i < length f.synced
  long_f i below = firmer.no_shorter i (firm.firm i below) (long_g i below)

  put_f : (i : ℕ) → i < length (joined fs) → i < length f.put
  put_f i below = as_put.within i (firmer.firm i (firm.firm i below)) (long_f i below)

  -- what holds of each place below holds of the length
  at_least : (n m : ℕ) → ((i : ℕ) → i < n → i < m) → n ≤ m
  at_least n m each = elim (cases_lt m n) [
    | inl less ↦ absurd (omega (arith, each m less))
    | inr enough ↦ enough
  ]

  front : take (length (joined fs)) f.synced ≡ joined fs
  front =
      let size : length (take (length (joined fs)) f.synced) ≡ length (joined fs) = length-take-le (length (joined fs)) f.synced (at_least (length (joined fs)) (length f.synced) long_f) in
      same_number_lists (take (length (joined fs)) f.synced) (joined fs) size (λ k below.
      let near : k < length (joined fs) = omega (arith, below, size) in
      get_or-take (length (joined fs)) f.synced k 0 near ∙ firmer.bytes k (firm.firm k near) ∙ ap (λ (l : List ℕ). slice_index l k) firm.synced.1 ∙ get_or_append_left (joined fs) firm.synced.0 0 k near)

  behind : List ℕ
  behind = drop (length (joined fs)) f.put

  put_long : length (joined fs) ≤ length f.put
  put_long = at_least (length (joined fs)) (length f.put) put_f

  both : joined fs ++ firm.behind ≡ f.put ++ begins.0
  both = sym firm.put ∙ begins.1

  put_front : take (length (joined fs)) f.put ≡ joined fs
  put_front =
      sym (take-append-le (length (joined fs)) f.put begins.0 put_long) ∙ ap (λ (l : List ℕ). take (length (joined fs)) l) (sym both)
      ∙ take_at (joined fs) firm.behind (length (joined fs)) refl

  put_behind : firm.behind ≡ drop (length (joined fs)) f.put ++ begins.0
  put_behind =
      sym (drop_at (joined fs) firm.behind (length (joined fs)) refl) ∙ ap (λ (l : List ℕ). drop (length (joined fs)) l) both
      ∙ drop-append-le (length (joined fs)) f.put begins.0 put_long

  pub firm_firmer : IsFirm len fs f
  firm_firmer = record {
    whole = firm.whole;
    firm = λ i below. firmer.firm i (firm.firm i below);
    synced = (drop (length (joined fs)) f.synced, sym (take-append-drop (length (joined fs)) f.synced) ∙ ap (λ (l : List ℕ). l ++ drop (length (joined fs)) f.synced) front);
    behind = drop (length (joined fs)) f.put;
    put = sym (take-append-drop (length (joined fs)) f.put) ∙ ap (λ (l : List ℕ). l ++ drop (length (joined fs)) f.put) put_front;
    none = none_before len framing (drop (length (joined fs)) f.put) begins.0 (ap len (sym put_behind) ∙ firm.none);
  }

module _ (len : List ℕ → ℕ) (framing : IsFraming len) where
  -- each image begins with these frames alone
  pub firm_images : (fs : List (List ℕ)) (file : File) → IsFirm len fs file → EachImage len (λ gs. gs ≡ fs) file
  firm_images fs file firm c image put =
      let keeps : Keeps len fs [] file = record { frames = firm.whole; new_frames = tt; firm = firm.firm; more = firm.synced.0; synced = firm.synced.1; rest = firm.behind; put = firm.put; none = firm.none } in
      only fs (frames_in len c) (keeps_images len framing fs [] file keeps c image put)

  -- all of it on the disk
  pub firm_settled : (fs : List (List ℕ)) (rest : List ℕ) → AllByRecursion (IsFrame len) fs → len rest ≡ 0 → IsFirm len fs (settled (joined fs ++ rest))
  firm_settled fs rest whole none = record { whole = whole; firm = λ i below. refl; synced = (rest, refl); behind = rest; put = refl; none = none }

  pub firm_plain : (file : File) → IsPlain file → HasFirmFrames len file
  firm_plain file plain =
      let parts = split len framing file.reads in
      subst (IsFirm len (frames_in len file.reads)) (sym (plain ∙ ap settled parts.is)) (firm_settled (frames_in len file.reads) parts.rest parts.frames parts.none)

  -- cut behind them
  pub firm_shortened : (fs : List (List ℕ)) (file : File) → IsFirm len fs file → IsFirm len fs (shortened (length (joined fs)) file)
  firm_shortened fs file firm = record {
    whole = firm.whole;
    firm = λ i below. (let was : file.unsynced i ≡ false = firm.firm i below in grind (arith, nat_tests));
    synced = firm.synced;
    behind = firm.behind;
    put = firm.put;
    none = firm.none;
  }
