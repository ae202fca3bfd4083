-- The framing of meta entries, and what one frame more holds.
use Rattle.std.proofs.Common.{◌≡◌, ◌≢◌, ℕ, ◌+◌, ◌<◌, ◌≤◌, List, [], ◌∷◌, ◌++◌, length, take, drop, refl, sym, ◌∙◌, ap, subst, arith, length-append, Ok, Err}
use Rattle.std.proofs.lemmas.List.{append-nil, map-append, length-take-le, take-append-le, take_all}
use Rattle.tx_model.specs.declared.meta.Meta.{Meta}
use Rattle.tx_model.specs.Spelling.{meta_body, meta_frame, IsMeta, SpellsMeta}
use Rattle.record_frame.specs.declared.fault.FrameFault.{FrameFault}
use Rattle.record_frame.specs.Faults.{IsMetaLength}
use Rattle.tx_model.specs.Reading.{is_meta_length, meta_in}
use Rattle.record_frame.specs.Reading.{meta_at, read_length}
use Rattle.tx_model.specs.Framing.{meta_len, framed_meta}
use Rattle.record_frame.proofs.Lengths.{meta_len-read}
use Rattle.record_frame.proofs.FrontFrames.{meta_len-within, meta_len-alike, meta_at-len, meta-spelling-framed, alike}
use Rattle.record_frame.proofs.Metas.{meta_format}
use Rattle.tx_model.specs.Frames.{IsFrame, IsFraming, joined, frames_in}
use Rattle.tx_model.proofs.Walks.{frames_in-step, frames_in-stop}
use Rattle.tx_model.specs.Contents.{entries_of, entries_in}

front : (bs : List ℕ) → 0 < meta_len bs → meta_len (take (meta_len bs) bs) ≡ meta_len bs
front bs some =
    let n = meta_len bs in
    let f = take n bs in
    let long : length f ≡ n = length-take-le n bs (meta_len-within bs) in
    let same : take n f ≡ take n bs = take_all n f (omega arith) in
    meta_len-alike bs f some (omega arith) same

behind : (f rest : List ℕ) → IsFrame meta_len f → meta_len (f ++ rest) ≡ length f
behind f rest is =
    let whole : meta_len f ≡ length f = is.whole in
    let some : 0 < meta_len f = omega (arith, is.some) in
    let enough : meta_len f ≤ length (f ++ rest) = omega (arith, length-append f rest) in
    let same : take (meta_len f) (f ++ rest) ≡ take (meta_len f) f = take-append-le (meta_len f) f rest (omega arith) in
    meta_len-alike f (f ++ rest) some enough same ∙ whole

pub framing : IsFraming meta_len
framing = record { fits = meta_len-within; alone = behind; front = front }

-- ---- the frame of one entry

pub one_frame : (e : Meta) → IsMeta e → IsFrame meta_len (meta_frame e) × (framed_meta (meta_frame e) ≡ e)
one_frame e valid =
    let spells : SpellsMeta (meta_frame e) e = record { valid = valid; spelled = refl } in
    let found = meta-spelling-framed (meta_frame e) [] e spells in
    let alone : meta_frame e ++ [] ≡ meta_frame e = append-nil (meta_frame e) in (
      record { some = omega (arith, found.2); whole = ap meta_len (sym alone) ∙ found.0 },
      ap framed_meta (sym alone) ∙ found.1,
    )

pub entries_of-append : (fs gs : List (List ℕ)) → entries_of (fs ++ gs) ≡ entries_of fs ++ entries_of gs
entries_of-append fs gs = map-append framed_meta fs gs

-- ---- what is read from the front

same_length : (bs : List ℕ) → read_length (meta_at bs) ≡ meta_len bs
same_length bs = sym (meta_len-read bs)

-- an entry is read, and then those behind it
pub entries_in-step : (bs : List ℕ) (m : Meta) (n : ℕ) → meta_at bs ≡ Ok (m, n) → entries_in bs ≡ m ∷ entries_in (drop n bs)
entries_in-step bs m n is =
    let parts = meta_at-len bs (m, n) is in
    let len : meta_len bs ≡ n = parts.0 in
    let some : meta_len bs ≢ 0 = omega (arith, parts.2) in
    let f = take (meta_len bs) bs in
    let long : length f ≡ meta_len bs = length-take-le (meta_len bs) bs (meta_len-within bs) in
    let size = same_length bs in
    let there : meta_at f ≡ meta_at bs = alike IsMetaLength IsMeta meta_body is_meta_length meta_in meta_format bs f (omega (arith, size, parts.2)) (omega (arith, size)) (ap (λ (k : ℕ). take k f) size ∙ take_all (meta_len bs) f (omega arith) ∙ ap (λ (k : ℕ). take k bs) (sym size)) in
    let held : framed_meta f ≡ m = (meta_at-len f (m, n) (there ∙ is)).1 in
    ap entries_of (frames_in-step meta_len framing bs some)
    ∙ ap (λ (e : Meta). e ∷ entries_in (drop (meta_len bs) bs)) held
    ∙ ap (λ (k : ℕ). m ∷ entries_in (drop k bs)) len

-- and ends so much later
pub ends-step : (bs : List ℕ) (m : Meta) (n : ℕ) → meta_at bs ≡ Ok (m, n) → (length (joined (frames_in meta_len bs)) ≡ n + length (joined (frames_in meta_len (drop n bs)))) × (n ≤ length bs) × (12 < n)
ends-step bs m n is =
    let parts = meta_at-len bs (m, n) is in
    let len : meta_len bs ≡ n = parts.0 in
    let some : meta_len bs ≢ 0 = omega (arith, parts.2) in
    let fits = meta_len-within bs in
    let long : length (take (meta_len bs) bs) ≡ meta_len bs = length-take-le (meta_len bs) bs fits in
    let all : length (joined (frames_in meta_len bs)) ≡ length (take (meta_len bs) bs) + length (joined (frames_in meta_len (drop (meta_len bs) bs))) =
    ap (λ (fs : List (List ℕ)). length (joined fs)) (frames_in-step meta_len framing bs some) ∙ length-append (take (meta_len bs) bs) (joined (frames_in meta_len (drop (meta_len bs) bs))) in
    (subst (λ (k : ℕ). length (joined (frames_in meta_len bs)) ≡ k + length (joined (frames_in meta_len (drop k bs)))) len (all ∙ ap (λ (k : ℕ). k + length (joined (frames_in meta_len (drop (meta_len bs) bs)))) long), omega (arith, len, fits), parts.2)

-- no entry is read
pub none-left : (bs : List ℕ) (e : FrameFault) → meta_at bs ≡ Err e → (entries_in bs ≡ []) × (length (joined (frames_in meta_len bs)) ≡ 0)
none-left bs e is =
    let none : meta_len bs ≡ 0 = meta_len-read bs ∙ ap read_length is in
    let stop = frames_in-stop meta_len framing bs none in
    (ap entries_of stop, ap (λ (fs : List (List ℕ)). length (joined fs)) stop)
