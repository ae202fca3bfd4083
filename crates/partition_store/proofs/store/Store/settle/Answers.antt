use Rattle.std.proofs.Common.{◌≡◌, ◌+◌, ◌∙◌, None, sym, ap, subst}
use Rattle.proto_model.specs.Crashes.{unstaged}
use Rattle.partition_store.specs.Stands.{LeavesAtEach}
use Rattle.partition_store.specs.Stores.{Kept, state_by}
use Rattle.partition_store.proofs.Aside.{aside}
use Rattle.partition_store.proofs.Durable.{durable, fit_disk}
use Rattle.partition_store.proofs.Ready.{settled_sound, settled_state, settled_ready}
use Rattle.partition_store.proofs.store.Store.settle.Goals as goal

pub returns-in-Ok-clause-any_moment : goal.returns-in-Ok-clause-any_moment
returns-in-Ok-clause-any_moment g c = λ t.
    let H = g.D.Disk.history in
    let on = ap (λ (k : Kept g.row.D.Denot). k.shut) c.self.view_is ∙ c.requires.on in
    let next = subst (λ (k : Kept g.row.D.Denot). c.args.file ≡ k.status.file + 1) (sym c.self.view_is) c.requires.next in
    subst (λ (k : Kept g.row.D.Denot). LeavesAtEach g.D.Disk.plain (λ r. r ≡ unstaged (state_by H k)) (H k.disk) (H c.sync.new.self)) c.self.view_is
    (aside g.D.Disk.plain H _ (c.self.invariant.sound t on) c.args.file next _ (H c.sync.new.self) (c.sync.ensures.moments t))

pub returns-in-Err-clause-any_moment : goal.returns-in-Err-clause-any_moment
returns-in-Err-clause-any_moment g c = λ t.
    let H = g.D.Disk.history in
    let on = ap (λ (k : Kept g.row.D.Denot). k.shut) c.self.view_is ∙ c.requires.on in
    let next = subst (λ (k : Kept g.row.D.Denot). c.args.file ≡ k.status.file + 1) (sym c.self.view_is) c.requires.next in
    subst (λ (k : Kept g.row.D.Denot). LeavesAtEach g.D.Disk.plain (λ r. r ≡ unstaged (state_by H k)) (H k.disk) (H c.sync.new.self)) c.self.view_is
    (aside g.D.Disk.plain H _ (c.self.invariant.sound t on) c.args.file next _ (H c.sync.new.self) (c.sync.ensures.moments t))

pub invariant_of-self : goal.invariant_of-self
invariant_of-self g c =
    let H = g.D.Disk.history in
    let next = subst (λ (k : Kept g.row.D.Denot). c.args.file ≡ k.status.file + 1) (sym c.self.view_is) c.requires.next in
    record {
      fit = fit_disk _ c.sync.new.self c.self.invariant.fit;
      sound = λ t on. settled_sound g.D.Disk.plain H _ (c.self.invariant.sound t on) c.args.file next (H c.sync.new.self).now (c.sync.ensures.moments t).others_now (c.in-Ok.ensures.synced t) c.sync.new.self;
    }

pub returns-in-Ok-clause-durable : goal.returns-in-Ok-clause-durable
returns-in-Ok-clause-durable g c = λ t on.
    let H = g.D.Disk.history in
    let next = subst (λ (k : Kept g.row.D.Denot). c.args.file ≡ k.status.file + 1) (sym c.self.view_is) c.requires.next in
    durable g.D.Disk.plain _ _ (settled_sound g.D.Disk.plain H _ (c.self.invariant.sound t on) c.args.file next (H c.sync.new.self).now (c.sync.ensures.moments t).others_now (c.in-Ok.ensures.synced t) c.sync.new.self)

pub returns-in-Ok-clause-ready : goal.returns-in-Ok-clause-ready
returns-in-Ok-clause-ready g c = λ t.
    let H = g.D.Disk.history in
    let on = ap (λ (k : Kept g.row.D.Denot). k.shut) c.self.view_is ∙ c.requires.on in
    let next = subst (λ (k : Kept g.row.D.Denot). c.args.file ≡ k.status.file + 1) (sym c.self.view_is) c.requires.next in
    let some = subst (λ (k : Kept g.row.D.Denot). k.staged ≡ None → ⊥) (sym c.self.view_is) c.requires.some in
    settled_ready g.D.Disk.plain H _ (c.self.invariant.sound t on) c.args.file next (H c.sync.new.self).now (c.sync.ensures.moments t).others_now (c.in-Ok.ensures.synced t) some

pub returns-in-Ok-clause-state : goal.returns-in-Ok-clause-state
returns-in-Ok-clause-state g c = λ t.
    let H = g.D.Disk.history in
    let on = ap (λ (k : Kept g.row.D.Denot). k.shut) c.self.view_is ∙ c.requires.on in
    let next = subst (λ (k : Kept g.row.D.Denot). c.args.file ≡ k.status.file + 1) (sym c.self.view_is) c.requires.next in
    settled_state g.D.Disk.plain H _ (c.self.invariant.sound t on) c.args.file next (H c.sync.new.self).now (c.sync.ensures.moments t).others_now (c.in-Ok.ensures.synced t) c.sync.new.self
    ∙ ap (λ (k : Kept g.row.D.Denot). state_by H k) c.self.view_is
