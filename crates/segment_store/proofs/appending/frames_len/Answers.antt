use Rattle.std.proofs.Common.{◌≡◌, ◌+◌, ℕ, length, take, ◌∙◌, ap, arith, length-append}
use Rattle.tx_model.specs.Spelling.{record_body, record_frame}
use Rattle.record_frame.proofs.Frames.{length-frame}
use Rattle.tx_model.specs.Frames.{joined}
use Rattle.segment_store.specs.Records.{frames_of}
use Rattle.segment_store.proofs.Encoded.{joined-more}
use Rattle.segment_store.proofs.appending.frames_len.Goals as goal

pub loop-entry-preserved : goal.loop-entry-preserved
loop-entry-preserved c =
    let rs = c.args.records.now in
    let i = c.loop-entry.entry-index in
    let r = c.entry-item.result in
    let front = joined (frames_of (take i rs)) in
    let more : length (joined (frames_of (take (i + 1) rs))) ≡ length front + (12 + length (record_body r)) =
    ap length (joined-more rs i r c.loop-entry-test.true c.entry-item.is) ∙ length-append front (record_frame r) ∙ ap (λ (n : ℕ). length front + n) (length-frame (record_body r)) in
    omega (arith, c.saturating_add-len.ensures, c.loop-entry.invariant, c.body_len.ensures.len, more)
