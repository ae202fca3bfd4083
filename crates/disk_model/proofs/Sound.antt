-- What each file of a disk meets at each moment is kept by a write, a cut and a sync.
use Rattle.std.proofs.Common.{◌≡◌, ◌⊎◌, inl, inr, ℕ, ◌+◌, ◌-◌, ◌<◌, ◌≤◌, Bool, true, false, ◌||◌, List, [], ◌++◌, length, take, drop, get_or, refl, sym, ◌∙◌, ap, arith, length-append, length-drop}
use Rattle.std.proofs.lemmas.Bool.{cases_lt}
use Rattle.std.proofs.lemmas.Bool.Decides.{nat_tests}
use Rattle.std.proofs.lemmas.List.{length-take-le, length-take, get_or-take, get_or_append_left, get_or-append_right, get_or-drop, append-nil}
use Rattle.disk_model.specs.Laws.{sound_settled}
use Rattle.disk_model.specs.File.{File, IsSound, IsDuring, settled, written, shortened, overlaid, is_within}

-- a place that isn't within a write stands before or behind it
pub outside : (at n i : ℕ) → is_within at (at + n) i ≡ false → (i < at) ⊎ (at + n ≤ i)
outside at n i out = elim (cases_lt i at) [
  | inl low ↦ inl low
  | inr high ↦ inr (grind (arith, nat_tests))
]

-- the same of a cut
pub outside_cut : (n len i : ℕ) → is_within n len i ≡ false → (i < n) ⊎ (len ≤ i)
outside_cut n len i out = elim (cases_lt i n) [
  | inl low ↦ inl low
  | inr high ↦ inr (grind (arith, nat_tests))
]

-- how long a file is after a write
pub overlaid_long : (r b : List ℕ) (at : ℕ) → at ≤ length r → length (overlaid r at b) ≡ at + length b + (length r - (at + length b))
overlaid_long r b at le = omega (arith, length-append (take at r ++ b) (drop (at + length b) r), length-append (take at r) b, length-take-le at r le, length-drop (at + length b) r)

-- a write leaves the other places
pub overlaid_outside : (r b : List ℕ) (at n i : ℕ) → at ≤ length r → length b ≤ n → (i < at) ⊎ (at + n ≤ i) → get_or (overlaid r at b) i 0 ≡ get_or r i 0
overlaid_outside r b at n i le short (inl low) =
    let first = length-take-le at r le in
    get_or_append_left (take at r ++ b) (drop (at + length b) r) 0 i (omega (arith, length-append (take at r) b))
    ∙ get_or_append_left (take at r) b 0 i (omega arith) ∙ get_or-take at r i 0 low
overlaid_outside r b at n i le short (inr high) =
    let first = length-take-le at r le in
    let m = at + length b in
    let same : m + (i - m) ≡ i = omega arith in
    get_or-append_right (take at r ++ b) (drop m r) m i 0 (omega (arith, length-append (take at r) b)) (omega arith)
    ∙ get_or-drop m r (i - m) 0 ∙ ap (λ (j : ℕ). get_or r j 0) same

neither : (a b : Bool) → (a || b) ≡ false → (a ≡ false) × (b ≡ false)
neither true b is = absurd (cc is)
neither false b is = (refl, is)

either : (a b : Bool) → (a ≡ true) ⊎ (b ≡ true) → (a || b) ≡ true
either true b is = refl
either false b (inl is) = absurd (cc is)
either false b (inr is) = is

-- a file that was synced
pub sound_synced : (r : List ℕ) → IsSound (settled r)
sound_synced = sound_settled

-- a call that is done is on its way to what it does
pub is_done : (adds : Type 0) (f : File) → IsDuring adds f f
is_done adds f = record {
  firmer = record { firm = λ i out. out; bytes = λ i out. refl; no_longer = λ i out below. below; no_shorter = λ i out below. below };
  put = λ add. ([], sym (append-nil f.put));
}

module _ (f : File) (sound : IsSound f) where
  -- a write
  pub sound_written : (at : ℕ) (bytes : List ℕ) → at ≤ length f.reads → IsSound (written at bytes f)
  sound_written at bytes le =
      let n = length bytes in
      let long = overlaid_long f.reads bytes at le in
      let at_put : at ≤ length f.put = omega (arith, sound.reads_put) in
      let long_put = overlaid_long f.put bytes at at_put in
      record {
        reads_image = record {
          within = λ i below firm. let both = neither (f.unsynced i) (is_within at (at + n) i) firm in elim (outside at n i both.1) [
            | inl low ↦ sound.reads_image.within i (omega arith) both.0
            | inr high ↦ sound.reads_image.within i (omega arith) both.0
          ];
          bytes = λ i below firm. let both = neither (f.unsynced i) (is_within at (at + n) i) firm in
              overlaid_outside f.reads bytes at n i le (omega arith) (outside at n i both.1)
              ∙ sound.reads_image.bytes i (elim (outside at n i both.1) [ inl low ↦ omega arith | inr high ↦ omega arith ]) both.0;
          ends = λ i past below. either (f.unsynced i) (is_within at (at + n) i) (inl (sound.reads_image.ends i (omega arith) below));
        };
        as_put = record {
          within = λ i firm below. let both = neither (f.unsynced i) (is_within at (at + n) i) firm in
              let was : i < length f.put = sound.as_put.within i both.0 below in omega arith;
          same = λ i firm below. let both = neither (f.unsynced i) (is_within at (at + n) i) firm in
              overlaid_outside f.put bytes at n i at_put (omega arith) (outside at n i both.1) ∙ sound.as_put.same i both.0 below;
        };
        reads_put = omega (arith, sound.reads_put);
      }

  -- a cut
  pub sound_shortened : (len : ℕ) → IsSound (shortened len f)
  sound_shortened len =
      let long = length-take len f.reads in
      record {
        reads_image = record {
          within = λ i below firm. let both = neither (f.unsynced i) (is_within len (length f.reads) i) firm in sound.reads_image.within i (omega arith) both.0;
          bytes = λ i below firm. let both = neither (f.unsynced i) (is_within len (length f.reads) i) firm in
              let low : i < len = omega arith in
              get_or-take len f.reads i 0 low ∙ sound.reads_image.bytes i (omega arith) both.0;
          ends = λ i past below. either (f.unsynced i) (is_within len (length f.reads) i) (cut_ends i past below);
        };
        as_put = record {
          within = λ i firm below. sound.as_put.within i (neither (f.unsynced i) (is_within len (length f.reads) i) firm).0 below;
          same = λ i firm below. sound.as_put.same i (neither (f.unsynced i) (is_within len (length f.reads) i) firm).0 below;
        };
        reads_put = omega (arith, sound.reads_put);
      }
    where
      cut_ends : (i : ℕ) → length (take len f.reads) ≤ i → i < length f.synced → (f.unsynced i ≡ true) ⊎ (is_within len (length f.reads) i ≡ true)
      cut_ends i past below = elim (cases_lt i (length f.reads)) [
        | inl low ↦ inr (let long = length-take len f.reads in let from : len ≤ i = omega arith in grind (arith, nat_tests))
        | inr high ↦ inl (sound.reads_image.ends i high below)
      ]
