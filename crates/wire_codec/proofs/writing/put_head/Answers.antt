use Rattle.std.proofs.Common.{rules}
use Rattle.std.specs.Int.{w64, to_be_bytes}
use Rattle.tx_model.specs.Spelling.{spelled_locks}
use Rattle.record_frame.proofs.Puts.{put_4}
use Rattle.wire_codec.specs.Spelling.{spelled_head}
use Rattle.wire_codec.proofs.writing.put_head.Goals as goal

pub returns-clause-ok : goal.returns-clause-ok
unfolding spelled_head
returns-clause-ok c =
    let h = c.args.head.now in
    put_4 c.args.into.now.items (to_be_bytes w64 h.id) (to_be_bytes w64 h.session) (to_be_bytes w64 h.mark) (spelled_locks h.reads h.writes)
    c.extend_from_slice.new.self.items c.extend_from_slice-2.new.self.items c.extend_from_slice-3.new.self.items c.put_locks.new.into.items (search rules) (search rules) (search rules) (search rules)
