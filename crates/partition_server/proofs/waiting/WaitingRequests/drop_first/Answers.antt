use Rattle.std.proofs.Common.{◌≡◌, ◌∙◌, ◌+◌, ℕ, length, drop, List, Option, Some, None, is_some, if◌then◌else◌, nat_eq, ap, sym, refl, arith}
use Rattle.proto_model.specs.Servers.{Waiting}
use Rattle.indexmap.specs.IndexMap.{get, index_map_len}
use Rattle.partition_server.specs.declared.waiting.Asker.{Asker}
use Rattle.partition_server.proofs.ByIds.{listed-length, some_there, dropped_list}
use Rattle.partition_server.proofs.waiting.WaitingRequests.drop_first.Goals as goal

-- what was there makes one less
one_less : (n m : ℕ) (had : Option Asker) → (had ≡ None → ⊥) → m + (if is_some had then 1 else 0) ≡ n → n ≡ m + 1
one_less n m None some is = absurd (some refl)
one_less n m (Some asker) some is = sym is

pub returns : goal.returns
returns c =
    let r = c.self.inside in
    let f : ℕ → Option Asker = get nat_eq r.by_id in
    let n : ℕ = index_map_len r.by_id in
    let len : length c.args.self.now ≡ n = ap length (sym c.self.view_is) ∙ listed-length f r.before n in
    let low = c.requires in
    let place : r.before + 1 ≡ r.before + 1 + 0 = omega arith in
    let had : c.swap_remove.result ≡ f (r.before + 1 + 0) = c.swap_remove.ensures.value ∙ ap f place in
    let less = one_less n (index_map_len c.swap_remove.new.self) c.swap_remove.result
    (λ none. some_there f r.before n 0 c.self.invariant.keys (omega (arith, len, low)) (sym had ∙ none)) c.swap_remove.ensures.len in
    dropped_list f (get nat_eq c.swap_remove.new.self) r.before n (index_map_len c.swap_remove.new.self) less c.swap_remove.ensures.updates.0
    ∙ ap (λ (l : List Waiting). drop 1 l) c.self.view_is
