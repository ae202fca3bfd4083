use Rattle.std.proofs.Common.{◌≡◌, ◌+◌, ◌-◌, ℕ, drop, sym, ◌∙◌, ap, arith}
use Rattle.disk_model.proofs.Stretches.{moved}
use Rattle.disk_model.proofs.Told.{told_by_try}
use Rattle.segment_store.proofs.Indexing.{further}
use Rattle.segment_store.proofs.Noted.{same-file, within-same}
use Rattle.segment_store.proofs.reading.Reading.note_all.Goals as goal

pub returns-in_err-note-in-Ok-clause-damaged : goal.returns-in_err-note-in-Ok-clause-damaged
returns-in_err-note-in-Ok-clause-damaged c =
    let inv = c.frames.invariant in
    told_by_try c.from_residual.result c.in_err-note-in-Ok.field-0.0 _ _ c.from_residual.ensures.1 c.in_err-note-in-Ok.ensures.damaged (λ file at is. (
      is.0 ∙ inv.same.file,
      λ all more at_end reading.
          within-same c.args.self.now c.frames.self inv.same all at
          (is.1 all more (moved all c.args.bytes.now c.frames.rest.now more c.args.self.now.end c.frames.self.end at_end inv.later (omega (arith, inv.used, inv.later)) inv.rest) (inv.reading all more at_end reading)),
    ))

pub frames-preserved : goal.frames-preserved
frames-preserved c =
    let len_is : c.note.new.self.end ≡ c.frames.self.end + c.in-Ok.len = c.in_ok-note-in-Ok.ensures.end in
    let inv = c.frames.invariant in
    record {
      same = same-file c.args.self.now c.frames.self c.note.new.self inv.same c.note.ensures.same;
      fit = c.in_ok-note-in-Ok.ensures.fit;
      later = omega (arith, inv.later);
      used = omega (arith, inv.used, c.split_at.ensures.back_len);
      rest = c.split_at.ensures.back ∙ further c.args.bytes.now c.frames.rest.now c.args.self.now.end c.frames.self.end c.in-Ok.len inv.later inv.rest ∙ ap (λ (n : ℕ). drop (n - c.args.self.now.end) c.args.bytes.now) (sym len_is);
      reading = λ all more at_end reading.
          c.in_ok-note-in-Ok.ensures.reading all more (moved all c.args.bytes.now c.frames.rest.now more c.args.self.now.end c.frames.self.end at_end inv.later (omega (arith, inv.used, inv.later)) inv.rest) (inv.reading all more at_end reading);
    }
