use Rattle.std.proofs.Common.{◌≡◌, ◌<◌, ◌≤◌, ◌∙◌, None, inl, Err, sym, ap, subst}
use Rattle.disk_model.specs.History.{History}
use Rattle.proto_model.specs.Parts.{lowered_to}
use Rattle.partition_store.specs.Stands.{LeavesAtEach, IsOldOrNew}
use Rattle.partition_store.specs.Stores.{Kept, state_by}
use Rattle.partition_store.proofs.Durable.{durable, entry_kept, stays}
use Rattle.partition_store.proofs.Numbers.{lowers, lowered_sound, lowered_state, lowered_fit}
use Rattle.partition_store.proofs.store.Store.low.Goals as goal

pub invariant_of-self : goal.invariant_of-self
invariant_of-self g c =
    let later = subst (λ (k : Kept g.row.D.Denot). k.status.low < c.args.k) (sym c.self.view_is) c.requires.above in
    let within = subst (λ (k : Kept g.row.D.Denot). c.args.k ≤ k.status.length) (sym c.self.view_is) c.requires.within in
    let none = subst (λ (k : Kept g.row.D.Denot). k.staged ≡ None) (sym c.self.view_is) c.requires.none in
    record {
      fit = lowered_fit _ c.args.k c.low.new.disk c.low.new.self within none c.self.invariant.fit;
      sound = λ t on. lowered_sound g.D.Disk.plain g.D.Disk.history _ (c.self.invariant.sound t on) c.args.k later within none c.low.new.disk c.low.new.self (c.in-Ok.ensures.done t) (c.low.ensures.any_moment t).others_now;
    }

pub returns-in-Ok-clause-durable : goal.returns-in-Ok-clause-durable
returns-in-Ok-clause-durable g c = λ t on.
    let later = subst (λ (k : Kept g.row.D.Denot). k.status.low < c.args.k) (sym c.self.view_is) c.requires.above in
    let within = subst (λ (k : Kept g.row.D.Denot). c.args.k ≤ k.status.length) (sym c.self.view_is) c.requires.within in
    let none = subst (λ (k : Kept g.row.D.Denot). k.staged ≡ None) (sym c.self.view_is) c.requires.none in
    durable g.D.Disk.plain _ _ (lowered_sound g.D.Disk.plain g.D.Disk.history _ (c.self.invariant.sound t on) c.args.k later within none c.low.new.disk c.low.new.self (c.in-Ok.ensures.done t) (c.low.ensures.any_moment t).others_now)

pub returns-in-Ok-clause-state : goal.returns-in-Ok-clause-state
returns-in-Ok-clause-state g c = λ t.
    let later = subst (λ (k : Kept g.row.D.Denot). k.status.low < c.args.k) (sym c.self.view_is) c.requires.above in
    let within = subst (λ (k : Kept g.row.D.Denot). c.args.k ≤ k.status.length) (sym c.self.view_is) c.requires.within in
    let none = subst (λ (k : Kept g.row.D.Denot). k.staged ≡ None) (sym c.self.view_is) c.requires.none in
    lowered_state g.D.Disk.plain g.D.Disk.history _ (c.self.invariant.sound t c.if-self.false) c.args.k later within none c.low.new.disk c.low.new.self (c.in-Ok.ensures.done t) (c.low.ensures.any_moment t).others_now
    ∙ ap (λ (k : Kept g.row.D.Denot). lowered_to (state_by g.D.Disk.history k) c.args.k) c.self.view_is

pub returns-in-Err-Memory-clause-durable : goal.returns-in-Err-Memory-clause-durable
returns-in-Err-Memory-clause-durable g c = λ t on.
    durable g.D.Disk.plain _ _ (entry_kept _ _ _ c.low.new.disk c.low.new.self c.in-Err-Memory.ensures.err (ap (λ (h : History). h.now) (c.low.ensures.memory (c.in-Err-Memory.is ∙ ap Err c.in-Err-Memory.field-0-is) t)) (c.self.invariant.sound t on))

pub returns-in-Ok-clause-any_moment : goal.returns-in-Ok-clause-any_moment
returns-in-Ok-clause-any_moment g c = λ t on.
    let H = g.D.Disk.history in
    let new = H c.low.new.disk in
    let later = subst (λ (k : Kept g.row.D.Denot). k.status.low < c.args.k) (sym c.self.view_is) c.requires.above in
    let within = subst (λ (k : Kept g.row.D.Denot). c.args.k ≤ k.status.length) (sym c.self.view_is) c.requires.within in
    let none = subst (λ (k : Kept g.row.D.Denot). k.staged ≡ None) (sym c.self.view_is) c.requires.none in
    subst (λ (k : Kept g.row.D.Denot). LeavesAtEach g.D.Disk.plain (IsOldOrNew (state_by H k) (lowered_to (state_by H k) c.args.k)) (H k.disk) new) c.self.view_is
    (lowers g.D.Disk.plain H _ (c.self.invariant.sound t c.if-self.false) c.args.k later within none new (c.low.ensures.any_moment t))

pub returns-in-Err-Disk-clause-any_moment : goal.returns-in-Err-Disk-clause-any_moment
returns-in-Err-Disk-clause-any_moment g c = λ t on.
    let H = g.D.Disk.history in
    let new = H c.low.new.disk in
    let later = subst (λ (k : Kept g.row.D.Denot). k.status.low < c.args.k) (sym c.self.view_is) c.requires.above in
    let within = subst (λ (k : Kept g.row.D.Denot). c.args.k ≤ k.status.length) (sym c.self.view_is) c.requires.within in
    let none = subst (λ (k : Kept g.row.D.Denot). k.staged ≡ None) (sym c.self.view_is) c.requires.none in
    subst (λ (k : Kept g.row.D.Denot). LeavesAtEach g.D.Disk.plain (IsOldOrNew (state_by H k) (lowered_to (state_by H k) c.args.k)) (H k.disk) new) c.self.view_is
    (lowers g.D.Disk.plain H _ (c.self.invariant.sound t c.if-self.false) c.args.k later within none new (c.low.ensures.any_moment t))

pub returns-in-Err-Memory-clause-any_moment : goal.returns-in-Err-Memory-clause-any_moment
returns-in-Err-Memory-clause-any_moment g c = λ t on.
    let H = g.D.Disk.history in
    let new = H c.low.new.disk in
    subst (λ (k : Kept g.row.D.Denot). LeavesAtEach g.D.Disk.plain (IsOldOrNew (state_by H k) (lowered_to (state_by H k) c.args.k)) (H k.disk) new) c.self.view_is
    (stays g.D.Disk.plain H _ (c.self.invariant.sound t c.if-self.false) _ (λ r is. inl is) new (c.low.ensures.memory (c.in-Err-Memory.is ∙ ap Err c.in-Err-Memory.field-0-is) t))
