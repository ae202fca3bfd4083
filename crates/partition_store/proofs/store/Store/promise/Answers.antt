use Rattle.std.proofs.Common.{◌<◌, ◌∙◌, inl, Err, sym, ap, subst}
use Rattle.disk_model.specs.History.{History}
use Rattle.proto_model.specs.Parts.{promised_to}
use Rattle.partition_store.specs.Stands.{LeavesAtEach, IsOldOrNew}
use Rattle.partition_store.specs.Stores.{Kept, state_by}
use Rattle.partition_store.proofs.Durable.{durable, entry_kept, stays}
use Rattle.partition_store.proofs.Numbers.{promises, promised_sound, promised_state, promised_fit}
use Rattle.partition_store.proofs.store.Store.promise.Goals as goal

pub invariant_of-self : goal.invariant_of-self
invariant_of-self g c =
    let later = subst (λ (k : Kept g.row.D.Denot). k.status.promised < c.args.session) (sym c.self.view_is) c.requires.above in
    record {
      fit = promised_fit _ c.args.session c.promise.new.disk c.promise.new.self later c.requires.range c.self.invariant.fit;
      sound = λ t on. promised_sound g.D.Disk.plain g.D.Disk.history _ (c.self.invariant.sound t on) c.args.session later c.promise.new.disk c.promise.new.self (c.in-Ok.ensures.done t) (c.promise.ensures.any_moment t).others_now;
    }

pub returns-in-Ok-clause-durable : goal.returns-in-Ok-clause-durable
returns-in-Ok-clause-durable g c = λ t on.
    let later = subst (λ (k : Kept g.row.D.Denot). k.status.promised < c.args.session) (sym c.self.view_is) c.requires.above in
    durable g.D.Disk.plain _ _ (promised_sound g.D.Disk.plain g.D.Disk.history _ (c.self.invariant.sound t on) c.args.session later c.promise.new.disk c.promise.new.self (c.in-Ok.ensures.done t) (c.promise.ensures.any_moment t).others_now)

pub returns-in-Ok-clause-state : goal.returns-in-Ok-clause-state
returns-in-Ok-clause-state g c = λ t.
    let later = subst (λ (k : Kept g.row.D.Denot). k.status.promised < c.args.session) (sym c.self.view_is) c.requires.above in
    promised_state g.D.Disk.plain g.D.Disk.history _ (c.self.invariant.sound t c.if-self.false) c.args.session later c.promise.new.disk c.promise.new.self (c.in-Ok.ensures.done t) (c.promise.ensures.any_moment t).others_now
    ∙ ap (λ (k : Kept g.row.D.Denot). promised_to (state_by g.D.Disk.history k) c.args.session) c.self.view_is

pub returns-in-Err-Memory-clause-durable : goal.returns-in-Err-Memory-clause-durable
returns-in-Err-Memory-clause-durable g c = λ t on.
    durable g.D.Disk.plain _ _ (entry_kept _ _ _ c.promise.new.disk c.promise.new.self c.in-Err-Memory.ensures.err (ap (λ (h : History). h.now) (c.promise.ensures.memory (c.in-Err-Memory.is ∙ ap Err c.in-Err-Memory.field-0-is) t)) (c.self.invariant.sound t on))

pub returns-in-Ok-clause-any_moment : goal.returns-in-Ok-clause-any_moment
returns-in-Ok-clause-any_moment g c = λ t on.
    let H = g.D.Disk.history in
    let new = H c.promise.new.disk in
    let later = subst (λ (k : Kept g.row.D.Denot). k.status.promised < c.args.session) (sym c.self.view_is) c.requires.above in
    subst (λ (k : Kept g.row.D.Denot). LeavesAtEach g.D.Disk.plain (IsOldOrNew (state_by H k) (promised_to (state_by H k) c.args.session)) (H k.disk) new) c.self.view_is
    (promises g.D.Disk.plain H _ (c.self.invariant.sound t c.if-self.false) c.args.session later new (c.promise.ensures.any_moment t))

pub returns-in-Err-Disk-clause-any_moment : goal.returns-in-Err-Disk-clause-any_moment
returns-in-Err-Disk-clause-any_moment g c = λ t on.
    let H = g.D.Disk.history in
    let new = H c.promise.new.disk in
    let later = subst (λ (k : Kept g.row.D.Denot). k.status.promised < c.args.session) (sym c.self.view_is) c.requires.above in
    subst (λ (k : Kept g.row.D.Denot). LeavesAtEach g.D.Disk.plain (IsOldOrNew (state_by H k) (promised_to (state_by H k) c.args.session)) (H k.disk) new) c.self.view_is
    (promises g.D.Disk.plain H _ (c.self.invariant.sound t c.if-self.false) c.args.session later new (c.promise.ensures.any_moment t))

pub returns-in-Err-Memory-clause-any_moment : goal.returns-in-Err-Memory-clause-any_moment
returns-in-Err-Memory-clause-any_moment g c = λ t on.
    let H = g.D.Disk.history in
    let new = H c.promise.new.disk in
    subst (λ (k : Kept g.row.D.Denot). LeavesAtEach g.D.Disk.plain (IsOldOrNew (state_by H k) (promised_to (state_by H k) c.args.session)) (H k.disk) new) c.self.view_is
    (stays g.D.Disk.plain H _ (c.self.invariant.sound t c.if-self.false) _ (λ r is. inl is) new (c.promise.ensures.memory (c.in-Err-Memory.is ∙ ap Err c.in-Err-Memory.field-0-is) t))
