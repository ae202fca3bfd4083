use Rattle.std.proofs.Common.{◌≡◌, ◌∙◌, ap, rules}
use Rattle.disk_model.specs.MemDisk.{MemState}
use Rattle.disk_model.proofs.Kept.{cut_agrees, cut_reads, cut_goes}
use Rattle.disk_model.proofs.memory.MemDisk.try_cut.Goals as goal

pub invariant_of-self-2 : goal.invariant_of-self-2
invariant_of-self-2 c =
    let was : c.refuses.new.self ≡ c.args.self.now = search rules in
    cut_agrees c.args.self.now.changes c.self.inside.changes.items c.push.new.self.items c.self.inside.files c.shorten.new.files c.args.file c.args.len
    (ap (λ (m : MemState). m.changes) (c.self.view_is ∙ was)) (search rules) c.shorten.ensures c.self.invariant

pub returns-clause-reads : goal.returns-clause-reads
returns-clause-reads c =
    let was : c.refuses.new.self ≡ c.args.self.now = search rules in
    cut_reads c.args.self.now.changes c.self.inside.changes.items c.push.new.self.items c.self.inside.files c.shorten.new.files c.args.file c.args.len
    (ap (λ (m : MemState). m.changes) (c.self.view_is ∙ was)) (search rules) c.shorten.ensures c.self.invariant

pub returns-clause-moments : goal.returns-clause-moments
returns-clause-moments c =
    let was : c.refuses.new.self ≡ c.args.self.now = search rules in
    cut_goes c.args.self.now.changes c.self.inside.changes.items c.push.new.self.items c.self.inside.files c.shorten.new.files c.args.file c.args.len
    (ap (λ (m : MemState). m.changes) (c.self.view_is ∙ was)) (search rules) c.shorten.ensures c.self.invariant
