use Rattle.std.proofs.Common.{rules, [], ◌∷◌}
use Rattle.std.specs.Int.{w64, to_be_bytes}
use Rattle.tx_model.specs.Spelling.{record_body, spelled_transaction}
use Rattle.record_frame.proofs.Puts.{put_4}
use Rattle.record_frame.proofs.writing.put_record.Goals as goal

pub returns-clause-ok : goal.returns-clause-ok
unfolding record_body
returns-clause-ok c =
    let r = c.args.entry.now in
    put_4 c.args.into.now.items (1 ∷ []) (to_be_bytes w64 r.id) (to_be_bytes w64 r.session) (spelled_transaction r.tx) c.push.new.self.items c.extend_from_slice.new.self.items c.extend_from_slice-2.new.self.items c.put_transaction.new.into.items (search rules) (search rules) (search rules) (search rules)
