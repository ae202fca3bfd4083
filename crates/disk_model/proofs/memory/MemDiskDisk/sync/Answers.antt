use Rattle.std.proofs.Common.{◌≡◌, ◌∙◌, ap, rules}
use Rattle.disk_model.specs.MemDisk.{MemState}
use Rattle.disk_model.specs.Replay.{history_of}
use Rattle.disk_model.proofs.Kept.{plain_now}
use Rattle.disk_model.proofs.memory.MemDiskDisk.sync.Goals as goal

pub returns-clause-synced : goal.returns-clause-synced
returns-clause-synced c =
    let was : c.refuses.new.self ≡ c.args.self.now = search rules in
    λ t. ap (λ (m : MemState). (history_of m.changes).now c.args.file) (c.self.view_is ∙ was) ∙ plain_now c.args.self.now.changes c.args.file
