use Rattle.std.proofs.Common.{subst}
use Rattle.tx_model.specs.Framing.{meta_len}
use Rattle.disk_model.specs.Frames.{HasFirmFrames}
use Rattle.disk_model.specs.History.{History, EachMoment}
use Rattle.session_register.specs.Values.{KeepsFrames}
use Rattle.session_register.proofs.entries.load_values.Goals as goal

pub returns-in_err-trim-clause-firm : goal.returns-in_err-trim-clause-firm
returns-in_err-trim-clause-firm g c = λ t.
    subst (λ (h : History). HasFirmFrames meta_len (h.now 0) → EachMoment 0 (KeepsFrames (h.now 0).reads) h (g.D.Disk.history c.trim.new.disk)) (c.read.ensures.history t) (c.trim.ensures.firm t)

pub returns-clause-firm : goal.returns-clause-firm
returns-clause-firm g c = λ t.
    subst (λ (h : History). HasFirmFrames meta_len (h.now 0) → EachMoment 0 (KeepsFrames (h.now 0).reads) h (g.D.Disk.history c.trim.new.disk)) (c.read.ensures.history t) (c.trim.ensures.firm t)
