use Rattle.std.proofs.Common.{◌≡◌, ◌∙◌, ℕ, length, List, Option, nat_eq, slice_get, ap, sym, arith}
use Rattle.proto_model.specs.Servers.{Waiting}
use Rattle.indexmap.specs.IndexMap.{get, index_map_len}
use Rattle.partition_server.specs.declared.waiting.Asker.{Asker}
use Rattle.partition_server.proofs.ByIds.{listed-length, answered_at, some_there}
use Rattle.partition_server.proofs.waiting.WaitingRequests.answer.Goals as goal

pub overflow_add-id-2 : goal.overflow_add-id-2
overflow_add-id-2 c =
    let r = c.self.inside in
    let len : length c.args.self.now ≡ index_map_len r.by_id = ap length (sym c.self.view_is) ∙ listed-length (get nat_eq r.by_id) r.before (index_map_len r.by_id) in
    let low = c.requires in
    let fits = c.self.invariant.fits in
    omega (arith, len, low, fits)

pub unreachable-requires : goal.unreachable-requires
unreachable-requires c =
    let r = c.self.inside in
    let f : ℕ → Option Asker = get nat_eq r.by_id in
    let len : length c.args.self.now ≡ index_map_len r.by_id = ap length (sym c.self.view_is) ∙ listed-length f r.before (index_map_len r.by_id) in
    let low = c.requires in
    some_there f r.before (index_map_len r.by_id) c.args.place c.self.invariant.keys (omega (arith, len, low)) (sym c.in-None.ensures.value)

pub returns : goal.returns
returns c = λ w at.
    let r = c.self.inside in
    let f : ℕ → Option Asker = get nat_eq r.by_id in
    let len : length c.args.self.now ≡ index_map_len r.by_id = ap length (sym c.self.view_is) ∙ listed-length f r.before (index_map_len r.by_id) in
    let low = c.requires in
    answered_at f r.before (index_map_len r.by_id) c.args.place c.in-Some.asker.now w (omega (arith, len, low))
    (ap (λ (l : List Waiting). slice_get l c.args.place) c.self.view_is ∙ at) (sym c.in-Some.ensures.value)
