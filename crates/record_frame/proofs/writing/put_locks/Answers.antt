use Rattle.std.proofs.Common.{rules, [], ◌∷◌, length}
use Rattle.tx_model.specs.Spelling.{spelled_names}
use Rattle.record_frame.proofs.Puts.{put_3, keeps_after}
use Rattle.record_frame.proofs.writing.put_locks.Goals as goal

pub returns-in_err-put_names-2-clause-kept : goal.returns-in_err-put_names-2-clause-kept
returns-in_err-put_names-2-clause-kept c =
    keeps_after c.args.into.now.items _ c.put_names.new.into.items c.put_names-2.new.into.items
    (put_3 c.args.into.now.items (length c.args.reads.now ∷ []) (length c.args.writes.now ∷ []) (spelled_names c.args.reads.now) c.push.new.self.items c.push-2.new.self.items c.put_names.new.into.items (search rules) (search rules) (search rules))
    c.put_names-2.ensures.kept
