use Rattle.std.proofs.Common.{◌≡◌, ◌∙◌, inl, refl, sym, ap, subst}
use Rattle.proto_model.specs.Replicas.{ReplicaState}
use Rattle.proto_model.specs.Crashes.{unstaged}
use Rattle.proto_model.specs.Parts.{adopted_to}
use Rattle.partition_store.specs.Stands.{held_now, LeavesAtEach, IsOldOrNew}
use Rattle.partition_store.specs.Stores.{Kept, state_by, IsDurable}
use Rattle.partition_store.proofs.Durable.{durable, stays}
use Rattle.partition_store.proofs.Left.{at_each_weaker, then_leaves}
use Rattle.partition_store.proofs.store.Store.adopt.Goals as goal

pub returns-in_default-clause-any_moment : goal.returns-in_default-clause-any_moment
returns-in_default-clause-any_moment g c = λ t on.
    let H = g.D.Disk.history in
    subst (λ (k : Kept g.row.D.Denot). LeavesAtEach g.D.Disk.plain (IsOldOrNew (state_by H k) (adopted_to (state_by H k) c.args.session)) (H k.disk) (H k.disk)) c.self.view_is
    (stays g.D.Disk.plain H _ (c.self.invariant.sound t c.if-self.false) _ (λ r is. inl is) _ refl)

pub returns-in_default-clause-durable : goal.returns-in_default-clause-durable
returns-in_default-clause-durable g c = λ t on.
    let H = g.D.Disk.history in
    subst (λ (k : Kept g.row.D.Denot). IsDurable g.D.Disk.plain (H k.disk).now k) c.self.view_is (durable g.D.Disk.plain _ _ (c.self.invariant.sound t c.if-self.false))

pub returns-in-Err-clause-any_moment : goal.returns-in-Err-clause-any_moment
returns-in-Err-clause-any_moment g c = λ t on.
    let H = g.D.Disk.history in
    let old = state_by H c.args.self.now in
    at_each_weaker g.D.Disk.plain (λ r. r ≡ unstaged old) (IsOldOrNew old (adopted_to old c.args.session)) (H c.args.self.now.disk) (H c.ready.new.self.disk) (λ r is. inl is) (c.ready.ensures.any_moment t)

pub returns-in-Ok-clause-any_moment : goal.returns-in-Ok-clause-any_moment
returns-in-Ok-clause-any_moment g c = λ t on.
    let H = g.D.Disk.history in
    let old = state_by H c.args.self.now in
    let same = c.in-Ok.ensures.same in
    let on_then = ap (λ (k : Kept g.row.D.Denot). k.shut) same ∙ sym (ap (λ (k : Kept g.row.D.Denot). k.shut) c.self.view_is) ∙ c.if-self.false in
    let was = subst (λ (k : Kept g.row.D.Denot). k.status.file ≡ (held_now (H k.disk).now).file) c.self.view_is (c.self.invariant.sound t c.if-self.false).standing.file in
    let file = sym (c.ready.ensures.durable t on_then).standing.file ∙ ap (λ (k : Kept g.row.D.Denot). k.status.file) same ∙ was in
    then_leaves g.D.Disk.plain (IsOldOrNew old (adopted_to old c.args.session)) (H c.args.self.now.disk) (H c.ready.new.self.disk) (H c.name.new.self.disk) file
    (at_each_weaker g.D.Disk.plain (λ r. r ≡ unstaged old) (IsOldOrNew old (adopted_to old c.args.session)) (H c.args.self.now.disk) (H c.ready.new.self.disk) (λ r is. inl is) (c.ready.ensures.any_moment t))
    (subst (λ (s : ReplicaState). LeavesAtEach g.D.Disk.plain (IsOldOrNew s (adopted_to s c.args.session)) (H c.ready.new.self.disk) (H c.name.new.self.disk)) (c.in-Ok.ensures.state t) (c.name.ensures.any_moment t))
