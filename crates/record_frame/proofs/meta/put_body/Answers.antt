use Rattle.std.proofs.Common.{rules, [], ◌∷◌, take}
use Rattle.std.specs.Int.{w32, w64, to_be_bytes}
use Rattle.record_frame.proofs.Puts.{put_3, put_4}
use Rattle.record_frame.proofs.meta.put_body.Goals as goal

pub returns-in-Adopt-clause-put : goal.returns-in-Adopt-clause-put
returns-in-Adopt-clause-put c =
    rw c.in-Adopt.is (put_4 (take 4 c.args.into.now) (2 ∷ to_be_bytes w64 c.in-Adopt.session) (to_be_bytes w64 c.in-Adopt.first) (to_be_bytes w32 c.in-Adopt.file) (to_be_bytes w64 c.in-Adopt.count)
    (take c.put_kind-at.result c.put_kind-at.new.into) (take c.put_at-at.result c.put_at-at.new.into) (take c.put_at-at-in-Adopt.result c.put_at-at-in-Adopt.new.into) (take c.put_at.result c.put_at.new.into)
    (search rules) (search rules) (search rules) (search rules))

pub returns-in-Roll-clause-put : goal.returns-in-Roll-clause-put
returns-in-Roll-clause-put c =
    rw c.in-Roll.is (put_3 (take 4 c.args.into.now) (4 ∷ []) (to_be_bytes w32 c.in-Roll.file) (to_be_bytes w64 c.in-Roll.first)
    (take c.put_at-at-in-Roll.result c.put_at-at-in-Roll.new.into) (take c.put_at-at-in-Roll-2.result c.put_at-at-in-Roll-2.new.into) (take c.put_at-in-Roll.result c.put_at-in-Roll.new.into)
    (search rules) (search rules) (search rules))
