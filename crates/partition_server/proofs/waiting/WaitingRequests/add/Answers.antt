use Rattle.std.proofs.Common.{◌≡◌, ◌∙◌, ◌+◌, ◌-◌, ◌<◌, ◌^◌, ◌++◌, ◌∷◌, [], ℕ, suc, nat_eq, List, Option, None, is_some, if◌then◌else◌, ap, sym, subst, arith}
use Rattle.proto_model.specs.Servers.{Waiting}
use Rattle.indexmap.specs.IndexMap.{get, index_map_len}
use Rattle.partition_server.specs.declared.waiting.Asker.{Asker}
use Rattle.partition_server.specs.Waits.{WaitUpTo}
use Rattle.partition_server.specs.ById.{listed}
use Rattle.partition_server.proofs.ByIds.{HasIds, next_place, absent, room_before, added_ids, added_list}
use Rattle.partition_server.proofs.waiting.WaitingRequests.add.Goals as goal

-- one more entry
one_more : (n m : ℕ) (old : Option Asker) → old ≡ None → m ≡ n + (if is_some old then 0 else 1) → m ≡ suc n
one_more n m old none is = let e : m ≡ n + 1 = is ∙ ap (λ o. n + (if is_some o then 0 else 1)) none in omega (arith, e)

pub overflow_sub-self : goal.overflow_sub-self
overflow_sub-self c =
    let r = c.self.inside in
    let f : ℕ → Option Asker = get nat_eq r.by_id in
    let n : ℕ = index_map_len r.by_id in
    let wait : WaitUpTo (c.args.id - 1) (listed f r.before n) = subst (λ (l : List Waiting). WaitUpTo (c.args.id - 1) l) (sym c.self.view_is) c.requires.next in
    let next = next_place f r.before n c.args.id wait in
    let none : c.in-Ok.field-0 ≡ None = c.in-Ok.ensures.old ∙ absent f r.before n c.args.id c.self.invariant.keys next in
    let more = one_more n (index_map_len c.insert.new.self) c.in-Ok.field-0 none c.in-Ok.ensures.len in
    let room = room_before r.before n c.args.id c.requires.some next in
    let len = c.len.ensures.len in
    omega (arith, len, more, room)

pub invariant_of-self-2 : goal.invariant_of-self-2
invariant_of-self-2 c =
    let r = c.self.inside in
    let f : ℕ → Option Asker = get nat_eq r.by_id in
    let g : ℕ → Option Asker = get nat_eq c.insert.new.self in
    let n : ℕ = index_map_len r.by_id in
    let wait : WaitUpTo (c.args.id - 1) (listed f r.before n) = subst (λ (l : List Waiting). WaitUpTo (c.args.id - 1) l) (sym c.self.view_is) c.requires.next in
    let next = next_place f r.before n c.args.id wait in
    let none : c.in-Ok.field-0 ≡ None = c.in-Ok.ensures.old ∙ absent f r.before n c.args.id c.self.invariant.keys next in
    let more = one_more n (index_map_len c.insert.new.self) c.in-Ok.field-0 none c.in-Ok.ensures.len in
    let room = room_before r.before n c.args.id c.requires.some next in
    let asker : Asker = record { client = c.args.client; request = c.args.request } in
    let ids : HasIds g (c.args.id - suc n) (suc n) = added_ids f g r.before n c.args.id asker c.self.invariant.keys c.requires.some next c.in-Ok.ensures.updates.0 in
    let fits : c.args.id < 2 ^ 64 = c.ranges.id.fits in
    record {
      keys = subst (λ (k : ℕ). HasIds g (c.args.id - k) (index_map_len c.insert.new.self)) (sym (c.len.ensures.len ∙ more)) (subst (λ (k : ℕ). HasIds g (c.args.id - suc n) k) (sym more) ids);
      fits = let len = c.len.ensures.len in omega (arith, len, more, room, fits);
    }

pub returns-clause-ok : goal.returns-clause-ok
returns-clause-ok c =
    let r = c.self.inside in
    let f : ℕ → Option Asker = get nat_eq r.by_id in
    let g : ℕ → Option Asker = get nat_eq c.insert.new.self in
    let n : ℕ = index_map_len r.by_id in
    let wait : WaitUpTo (c.args.id - 1) (listed f r.before n) = subst (λ (l : List Waiting). WaitUpTo (c.args.id - 1) l) (sym c.self.view_is) c.requires.next in
    let next = next_place f r.before n c.args.id wait in
    let none : c.in-Ok.field-0 ≡ None = c.in-Ok.ensures.old ∙ absent f r.before n c.args.id c.self.invariant.keys next in
    let more = one_more n (index_map_len c.insert.new.self) c.in-Ok.field-0 none c.in-Ok.ensures.len in
    let asker : Asker = record { client = c.args.client; request = c.args.request } in
    let w : Waiting = record { id = c.args.id; client = c.args.client; request = c.args.request } in
    (λ j. listed g (c.args.id - (c.len.ensures.len ∙ more) j) (more j))
    ∙ (added_list f g r.before n c.args.id asker c.requires.some next c.in-Ok.ensures.updates.0 ∙ ap (λ (l : List Waiting). l ++ w ∷ []) c.self.view_is)
