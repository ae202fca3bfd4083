use Rattle.std.proofs.Common.{◌≡◌, bytes_eq, map, ap, ◌∙◌}
use Rattle.std.proofs.lemmas.List.{take_all}
use Rattle.std.proofs.lemmas.List.Filters.{dedup_is}
use Rattle.kv_app.specs.Touches.{op_key}
use Rattle.kv_app.proofs.TouchLemmas.{keys_of_set, rises_at, same_at}
use Rattle.kv_app.proofs.touched.touches.Goals as goal

pub returns-clause-rise : goal.returns-clause-rise
returns-clause-rise c = rises_at c.sort_unstable.new.self.items c.dedup.new.self.items (dedup_is bytes_eq _ _ c.dedup.ensures.filtered) c.sort_unstable.ensures.sorted

pub returns-clause-named : goal.returns-clause-named
returns-clause-named c =
    let named : c.loop-op.keys.items ≡ map op_key c.args.ops.now = c.loop-op.invariant ∙ ap (map op_key) (take_all c.loop-op.op-index c.args.ops.now c.loop-op-test.false) in
    same_at (map op_key c.args.ops.now) c.loop-op.keys.items c.sort_unstable.new.self.items c.dedup.new.self.items named (dedup_is bytes_eq _ _ c.dedup.ensures.filtered) c.sort_unstable.ensures.permutation

pub returns-clause-keys : goal.returns-clause-keys
returns-clause-keys c =
    let named : c.loop-op.keys.items ≡ map op_key c.args.ops.now = c.loop-op.invariant ∙ ap (map op_key) (take_all c.loop-op.op-index c.args.ops.now c.loop-op-test.false) in
    keys_of_set (map op_key c.args.ops.now) c.dedup.new.self.items
    (rises_at c.sort_unstable.new.self.items c.dedup.new.self.items (dedup_is bytes_eq _ _ c.dedup.ensures.filtered) c.sort_unstable.ensures.sorted)
    (same_at (map op_key c.args.ops.now) c.loop-op.keys.items c.sort_unstable.new.self.items c.dedup.new.self.items named (dedup_is bytes_eq _ _ c.dedup.ensures.filtered) c.sort_unstable.ensures.permutation)
