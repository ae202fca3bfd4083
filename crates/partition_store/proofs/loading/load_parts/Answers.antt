use Rattle.std.proofs.Common.{rules, sym, ◌∙◌, subst}
use Rattle.disk_model.specs.History.{History}
use Rattle.partition_store.specs.Loading.{HoldFrames, frames_of}
use Rattle.partition_store.proofs.Loads.{parts-held, hold-held}
use Rattle.partition_store.proofs.loading.load_parts.Goals as goal

pub returns-in_err-trim-clause-memory : goal.returns-in_err-trim-clause-memory
returns-in_err-trim-clause-memory g c = λ memory t.
    let old = g.D.Disk.history c.args.disk.now in
    let read = c.in_ok-parts.ensures.read t in
    let held = parts-held old.now c.in_ok-parts.parts.journal c.in_ok-parts.parts.entries.items c.in_ok-parts.parts.loaded read c.in_ok-parts.ensures.fit.1 in
    let hold : HoldFrames (frames_of (g.D.Disk.history c.read_parts.new.disk).now) (g.D.Disk.history c.trim.new.disk).now = search rules in
    hold-held old.now (g.D.Disk.history c.trim.new.disk).now read.loaded.held held (subst (λ (h : History). HoldFrames (frames_of h.now) (g.D.Disk.history c.trim.new.disk).now) (c.read_parts.ensures.history t) hold) ∙ sym held
