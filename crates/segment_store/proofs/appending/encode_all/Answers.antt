use Rattle.std.proofs.Common.{◌≡◌, ◌+◌, ◌<◌, ◌^◌, List, ℕ, [], ◌∷◌, ◌++◌, length, take, sym, ◌∙◌, ap, arith, length-append}
use Rattle.tx_model.specs.Spelling.{record_frame}
use Rattle.tx_model.specs.Frames.{joined}
use Rattle.segment_store.specs.Records.{frames_of}
use Rattle.segment_store.specs.Index.{starts_of}
use Rattle.segment_store.proofs.Encoded.{joined-more, starts-more}
use Rattle.segment_store.proofs.appending.encode_all.Goals as goal

pub loop-entry-init : goal.loop-entry-init
unfolding starts_of
loop-entry-init c = record { bytes = c.in_ok-bytes.ensures.items; starts = λ room. c.in_ok-starts.ensures.items; count = ap length c.in_ok-starts.ensures.items }

pub loop-entry-preserved : goal.loop-entry-preserved
loop-entry-preserved c =
    let rs = c.args.records.now in
    let i = c.loop-entry.entry-index in
    let r = c.entry-item.result in
    let inv = c.loop-entry.invariant in
    let added = c.in_ok-encode_record.ensures.ok in
    let longer : length c.encode_record.new.into.items ≡ length c.loop-entry.bytes.items + length (record_frame r) = ap length added ∙ length-append c.loop-entry.bytes.items (record_frame r) in
    record {
      bytes = added ∙ ap (λ (l : List ℕ). l ++ record_frame r) inv.bytes ∙ sym (joined-more rs i r c.loop-entry-test.true c.entry-item.is);
      starts = λ room.
          let fits : c.args.at + length c.loop-entry.bytes.items < 2 ^ 64 = omega (arith, longer, room) in
          let place : c.saturating_add.result ≡ c.args.at + length (joined (frames_of (take i rs))) = omega (arith, c.saturating_add.ensures, c.len.ensures, fits, ap length inv.bytes) in
          c.in_ok-push.ensures.items ∙ ap (λ (l : List ℕ). l ++ c.saturating_add.result ∷ []) (inv.starts fits)
          ∙ ap (λ (n : ℕ). starts_of c.args.at (frames_of (take i rs)) ++ n ∷ []) place ∙ sym (starts-more c.args.at rs i r c.loop-entry-test.true c.entry-item.is);
      count = ap length c.in_ok-push.ensures.items ∙ omega (arith, length-append c.loop-entry.starts.items (c.saturating_add.result ∷ []), inv.count);
    }
