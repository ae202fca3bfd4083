use Rattle.std.proofs.Common.{◌<◌, leb, arith, rules, of_calls}
use Rattle.std.proofs.lemmas.Fn.{always_returns_same}
use Rattle.segment_store.specs.Index.{Index}
use Rattle.partition_store.proofs.Finding.{chain-parted, one_begins, is_found}
use Rattle.partition_store.proofs.getting.find.Goals as goal

pub overflow_sub-result : goal.overflow_sub-result
overflow_sub-result c =
    let closed = c.args.closed.now in
    let last = c.args.last.now in
    let before : c.args.id < last.first = omega arith in
    let point = c.partition_point-behind.ensures.partitioned (λ (i : Index). leb i.first c.args.id) (always_returns_same _ _ _ (λ a r f k. search (rules, of_calls))) (chain-parted 1 last.first c.args.id closed c.requires.order) in
    one_begins closed last c.args.id c.partition_point-behind.result c.requires.first c.requires.order before c.partition_point-behind.ensures.bound point

pub bounds-closed-behind : goal.bounds-closed-behind
bounds-closed-behind c = let some = overflow_sub-result c in omega (arith, some, c.partition_point-behind.ensures.bound)

pub returns : goal.returns
returns c =
    let closed = c.args.closed.now in
    let last = c.args.last.now in
    let before : c.args.id < last.first = omega arith in
    let point = c.partition_point-behind.ensures.partitioned (λ (i : Index). leb i.first c.args.id) (always_returns_same _ _ _ (λ a r f k. search (rules, of_calls))) (chain-parted 1 last.first c.args.id closed c.requires.order) in
    is_found closed last c.args.id c.partition_point-behind.result c.requires.first c.requires.order before c.partition_point-behind.ensures.bound point c.index-closed-behind.result c.index-closed-behind.is
