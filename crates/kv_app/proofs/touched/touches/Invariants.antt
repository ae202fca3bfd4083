use Rattle.std.proofs.Common.{◌≡◌, map, take}
use Rattle.kv_app.specs.Touches.{op_key}
use Rattle.kv_app.proofs.touched.touches.Given as goal

abbrev pub invariant-loop-op : goal.invariant-loop-op
invariant-loop-op l = l.keys.items ≡ map op_key (take l.op-index l.ops)
