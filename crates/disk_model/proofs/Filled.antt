-- A buffer that is filled by more than one read.
use Rattle.std.proofs.Common.{◌≡◌, ℕ, ◌+◌, ◌≤◌, List, ◌++◌, length, take, drop, sym, ◌∙◌, ap}
use Rattle.std.proofs.lemmas.List.{take-append-le, drop_at, take_at, drop-drop, length-take-le}
use Rattle.std.proofs.Math.Seq.{take-add}
use borrow.Rule.Slice.PartMut.{put_mid, post_of}

-- The front holds what stands in the file from a place on, and what was read behind it goes on.
pub filled_on : (into room file : List ℕ) (at done k n : ℕ) → done ≤ length into → n ≤ length room → take done into ≡ take done (drop at file)
    → take n room ≡ take n (drop (at + done) file) → take (done + n) (put_mid done k into room) ≡ take (done + n) (drop at file)
filled_on into room file at done k n within few so_far read =
    let front = take done into in
    let rest = post_of done k into in
    let long : length front ≡ done = length-take-le done into within in
    take-add done n (put_mid done k into room)
    ∙ ap (λ (l : List ℕ). l ++ take n (drop done (put_mid done k into room))) (take_at front (room ++ rest) done long ∙ so_far)
    ∙ ap (λ (l : List ℕ). take done (drop at file) ++ take n l) (drop_at front (room ++ rest) done long)
    ∙ ap (λ (l : List ℕ). take done (drop at file) ++ l) (take-append-le n room rest few ∙ read)
    ∙ ap (λ (l : List ℕ). take done (drop at file) ++ take n l) (sym (drop-drop done at file))
    ∙ sym (take-add done n (drop at file))
