use Rattle.std.proofs.Common.{◌≡◌, ℕ, Option, subst}
use Rattle.std.specs.Prelude.{IfSome}
use Rattle.tx_model.specs.Framing.{record_len}
use Rattle.tx_model.specs.Frames.{frames_in}
use Rattle.disk_model.specs.Frames.{IsFirm, HasFirmFrames}
use Rattle.disk_model.specs.History.{History, EachMoment}
use Rattle.tx_model.specs.Contents.{records_in}
use Rattle.segment_store.specs.Records.{EachLeftHolds}
use Rattle.segment_store.specs.Index.{IsIndexOf, IsDamagedBehind}
use Rattle.segment_store.proofs.Damaged.{not_both}
use Rattle.segment_store.proofs.segment.Segment.load.Goals as goal

pub returns-in_err-trim-clause-firm : goal.returns-in_err-trim-clause-firm
returns-in_err-trim-clause-firm g c = λ t.
    let new = g.D.Disk.history c.trim.new.disk in
    let Held : ℕ → History → Type 0 = λ q h. HasFirmFrames record_len (h.now q) → EachMoment q (IsFirm record_len (frames_in record_len (h.now q).reads)) h new in
    subst (λ (q : ℕ). Held q (g.D.Disk.history c.args.disk.now)) c.in_ok-found.ensures.place.0 (subst (λ (h : History). Held c.in_ok-found.found.segment.file h) (c.read.ensures.history t) (c.trim.ensures.firm t))

pub returns-in_err-trim-clause-any_moment : goal.returns-in_err-trim-clause-any_moment
returns-in_err-trim-clause-any_moment g c = λ t.
    let new = g.D.Disk.history c.trim.new.disk in
    let Held : ℕ → History → Type 0 = λ q h. HasFirmFrames record_len (h.now q) → EachMoment q (EachLeftHolds g.D.Disk.plain (λ records. records ≡ records_in (h.now q).reads)) h new in
    subst (λ (q : ℕ). Held q (g.D.Disk.history c.args.disk.now)) c.in_ok-found.ensures.place.0 (subst (λ (h : History). Held c.in_ok-found.found.segment.file h) (c.read.ensures.history t) (c.trim.ensures.any_moment t))

pub returns-clause-firm : goal.returns-clause-firm
returns-clause-firm g c = λ t.
    let new = g.D.Disk.history c.trim.new.disk in
    let Held : ℕ → History → Type 0 = λ q h. HasFirmFrames record_len (h.now q) → EachMoment q (IsFirm record_len (frames_in record_len (h.now q).reads)) h new in
    subst (λ (q : ℕ). Held q (g.D.Disk.history c.args.disk.now)) c.in_ok-found.ensures.place.0 (subst (λ (h : History). Held c.in_ok-found.found.segment.file h) (c.read.ensures.history t) (c.trim.ensures.firm t))

pub returns-clause-any_moment : goal.returns-clause-any_moment
returns-clause-any_moment g c = λ t.
    let new = g.D.Disk.history c.trim.new.disk in
    let Held : ℕ → History → Type 0 = λ q h. HasFirmFrames record_len (h.now q) → EachMoment q (EachLeftHolds g.D.Disk.plain (λ records. records ≡ records_in (h.now q).reads)) h new in
    subst (λ (q : ℕ). Held q (g.D.Disk.history c.args.disk.now)) c.in_ok-found.ensures.place.0 (subst (λ (h : History). Held c.in_ok-found.found.segment.file h) (c.read.ensures.history t) (c.trim.ensures.any_moment t))

pub returns-in-Some-clause-not_damaged : goal.returns-in-Some-clause-not_damaged
returns-in-Some-clause-not_damaged g c = λ t load.
    let all = ((g.D.Disk.history c.args.disk.now).now c.args.file).reads in
    let s = c.in_ok-found.found.segment in
    let Says : ℕ → Type 0 = λ at. g.D.Disk.tells → IsIndexOf s all × (at ≡ s.end) × IsDamagedBehind c.args.first c.args.count all at in
    let behind = subst (λ (o : Option ℕ). IfSome o Says) c.in-Some.is c.in_ok-found.ensures.wrong t in
    not_both c.args.first c.args.count all c.in-Some.at load behind.2.damaged
