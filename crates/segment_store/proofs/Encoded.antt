-- The frames of records.
use Rattle.std.proofs.Common.{◌≡◌, ℕ, ◌+◌, ◌<◌, List, [], ◌∷◌, ◌++◌, length, take, get_or, All, refl, sym, ◌∙◌, ap, arith}
use Rattle.std.specs.List.{AllByRecursion}
use Rattle.std.proofs.lemmas.List.{append-nil, map-append, length-map, take_more}
use Rattle.std.proofs.lemmas.List.Elements.{All-head, All-tail}
use Rattle.tx_model.specs.declared.record.Record.{Record}
use Rattle.tx_model.specs.Records.{IsRecord}
use Rattle.tx_model.specs.Spelling.{record_frame, SpellsRecord}
use Rattle.tx_model.specs.Framing.{record_len, framed_record}
use Rattle.record_frame.proofs.FrontFrames.{spelling-framed}
use Rattle.tx_model.specs.Frames.{IsFrame, joined}
use Rattle.tx_model.proofs.Walks.{joined-append}
use Rattle.tx_model.specs.Contents.{records_of}
use Rattle.segment_store.specs.Records.{frames_of}
use Rattle.segment_store.specs.Index.{starts_of}
use Rattle.segment_store.proofs.Indexing.{starts_of-append, starts_of-one}

-- ---- a record's frame

spells : (r : Record) → IsRecord r → SpellsRecord (record_frame r) r
spells r is = record { valid = is; spelled = refl }

framed : (r : Record) → IsRecord r → (record_len (record_frame r) ≡ length (record_frame r)) × (framed_record (record_frame r) ≡ r) × (12 < length (record_frame r))
framed r is =
    let found = spelling-framed (record_frame r) [] r (spells r is) in
    let alone : record_frame r ++ [] ≡ record_frame r = append-nil (record_frame r) in
    (ap record_len (sym alone) ∙ found.0, ap framed_record (sym alone) ∙ found.1, found.2)

pub frames_of-frames : (rs : List Record) → All IsRecord rs → AllByRecursion (IsFrame record_len) (frames_of rs)
frames_of-frames [] all = tt
frames_of-frames (r ∷ rs) all =
    let found = framed r (All-head IsRecord r rs all) in
    (record { some = omega (arith, found.2); whole = found.0 }, frames_of-frames rs (All-tail IsRecord r rs all))

pub records_of-frames_of : (rs : List Record) → All IsRecord rs → records_of (frames_of rs) ≡ rs
records_of-frames_of [] all = refl
records_of-frames_of (r ∷ rs) all =
    ap (λ (s : Record). s ∷ records_of (frames_of rs)) (framed r (All-head IsRecord r rs all)).1
    ∙ ap (λ (ss : List Record). r ∷ ss) (records_of-frames_of rs (All-tail IsRecord r rs all))

pub length-frames_of : (rs : List Record) → length (frames_of rs) ≡ length rs
length-frames_of rs = length-map rs record_frame

-- ---- one record more

frames_of-more : (rs : List Record) (i : ℕ) (r : Record) → i < length rs → r ≡ get_or rs i r → frames_of (take (i + 1) rs) ≡ frames_of (take i rs) ++ record_frame r ∷ []
frames_of-more rs i r within is =
    ap frames_of (take_more rs i r within ∙ ap (λ (s : Record). take i rs ++ s ∷ []) (sym is)) ∙ map-append record_frame (take i rs) (r ∷ [])

pub joined-more : (rs : List Record) (i : ℕ) (r : Record) → i < length rs → r ≡ get_or rs i r → joined (frames_of (take (i + 1) rs)) ≡ joined (frames_of (take i rs)) ++ record_frame r
joined-more rs i r within is =
    ap joined (frames_of-more rs i r within is) ∙ joined-append (frames_of (take i rs)) (record_frame r ∷ [])
    ∙ ap (λ (l : List ℕ). joined (frames_of (take i rs)) ++ l) (append-nil (record_frame r))

pub starts-more : (at : ℕ) (rs : List Record) (i : ℕ) (r : Record) → i < length rs → r ≡ get_or rs i r
    → starts_of at (frames_of (take (i + 1) rs)) ≡ starts_of at (frames_of (take i rs)) ++ (at + length (joined (frames_of (take i rs)))) ∷ []
starts-more at rs i r within is =
    let before = frames_of (take i rs) in
    ap (starts_of at) (frames_of-more rs i r within is) ∙ starts_of-append at before (record_frame r ∷ [])
    ∙ ap (λ (l : List ℕ). starts_of at before ++ l) (starts_of-one (at + length (joined before)) (record_frame r))
