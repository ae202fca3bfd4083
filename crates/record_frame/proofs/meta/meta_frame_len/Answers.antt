use Rattle.std.proofs.Common.{◌≡◌, ◌+◌, ap, sym, ◌∙◌, ℕ}
use Rattle.tx_model.specs.Spelling.{meta_body}
use Rattle.record_frame.proofs.Frames.{length-frame}
use Rattle.record_frame.proofs.meta.meta_frame_len.Goals as goal

pub returns-clause-len : goal.returns-clause-len
returns-clause-len c = ap (λ (n : ℕ). 12 + n) c.body_len.ensures ∙ sym (length-frame (meta_body c.args.meta.now))
