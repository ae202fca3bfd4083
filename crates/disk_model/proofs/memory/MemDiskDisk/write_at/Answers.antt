use Rattle.std.proofs.Common.{◌∙◌, ap, Err}
use Rattle.disk_model.proofs.Wants.{want_counted, write_wants}
use Rattle.disk_model.proofs.memory.MemDiskDisk.write_at.Goals as goal

pub returns-in-Err-Memory-clause-want : goal.returns-in-Err-Memory-clause-want
returns-in-Err-Memory-clause-want c = want_counted c.args.self.now c.try_write.new.self c.wanted.new.self c.wanted.result c.wanted.ensures.memory (c.try_write.ensures.memory (c.in-Err-Memory.is ∙ ap Err c.in-Err-Memory.field-0-is)) c.wanted.ensures.after c.wanted.ensures.later

pub returns-in-Err-Memory-clause-after : goal.returns-in-Err-Memory-clause-after
returns-in-Err-Memory-clause-after c = λ must. write_wants c.args.self.now c.try_write.new.self c.wanted.new.self c.wanted.result c.wanted.ensures.memory (c.try_write.ensures.memory (c.in-Err-Memory.is ∙ ap Err c.in-Err-Memory.field-0-is)) c.wanted.ensures.after c.args.file c.args.at c.args.bytes.now
