use Rattle.std.proofs.Common.{rules, length}
use Rattle.std.specs.Int.{w32, w64, to_be_bytes}
use Rattle.tx_model.specs.Spelling.{spelled_locks}
use Rattle.record_frame.proofs.Puts.{put_6}
use Rattle.record_frame.proofs.writing.put_transaction.Goals as goal

pub returns-clause-ok : goal.returns-clause-ok
returns-clause-ok c =
    let t = c.args.tx.now in
    put_6 c.args.into.now.items (to_be_bytes w64 t.client) (to_be_bytes w64 t.request) (to_be_bytes w64 t.mark) (spelled_locks t.reads t.writes) (to_be_bytes w32 (length t.payload)) t.payload
    c.extend_from_slice.new.self.items c.extend_from_slice-2.new.self.items c.extend_from_slice-3.new.self.items c.put_locks.new.into.items c.extend_from_slice-4.new.self.items c.extend_from_slice-5.new.self.items
    (search rules) (search rules) (search rules) (search rules) (search rules) (search rules)
