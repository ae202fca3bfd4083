use Rattle.std.proofs.Common.{◌≡◌, subst}
use Rattle.tx_model.specs.Framing.{meta_len}
use Rattle.disk_model.specs.Frames.{HasFirmFrames}
use Rattle.disk_model.specs.History.{History, EachMoment}
use Rattle.meta_journal.specs.Entries.{entries_at, EachLeftHas}
use Rattle.meta_journal.proofs.journal.Journal.load.Goals as goal

pub returns-in_err-trim-clause-any_moment : goal.returns-in_err-trim-clause-any_moment
returns-in_err-trim-clause-any_moment g c = λ t.
    let Held : History → Type 0 = λ h. HasFirmFrames meta_len (h.now 0) → EachMoment 0 (EachLeftHas g.D.Disk.plain (λ entries. entries ≡ entries_at h)) h (g.D.Disk.history c.trim.new.disk) in
    subst Held (c.read.ensures.history t) (c.trim.ensures.any_moment t)

pub returns-clause-any_moment : goal.returns-clause-any_moment
returns-clause-any_moment g c = λ t.
    let Held : History → Type 0 = λ h. HasFirmFrames meta_len (h.now 0) → EachMoment 0 (EachLeftHas g.D.Disk.plain (λ entries. entries ≡ entries_at h)) h (g.D.Disk.history c.trim.new.disk) in
    subst Held (c.read.ensures.history t) (c.trim.ensures.any_moment t)
