use Rattle.std.proofs.Common.{◌≡◌, ◌+◌, ◌∙◌, None, sym, ap, subst}
use Rattle.proto_model.specs.Crashes.{unstaged}
use Rattle.proto_model.specs.declared.replica.NodeFault.TheVariants.{Memory}
use Rattle.partition_store.specs.Stands.{LeavesAtEach}
use Rattle.partition_store.specs.Stores.{Kept, state_by}
use Rattle.partition_store.proofs.Answered.{answer_kept}
use Rattle.partition_store.proofs.Aside.{aside}
use Rattle.partition_store.proofs.Durable.{durable, fit_disk}
use Rattle.partition_store.proofs.Ready.{empty_ready}
use Rattle.partition_store.proofs.Staged.{unstaged_sound, unstaged_state}
use Rattle.partition_store.proofs.store.Store.empty.Goals as goal

pub returns-in-Ok-clause-any_moment : goal.returns-in-Ok-clause-any_moment
returns-in-Ok-clause-any_moment g c = λ t.
    let H = g.D.Disk.history in
    let next = subst (λ (k : Kept g.row.D.Denot). c.args.file ≡ k.status.file + 1) (sym c.self.view_is) c.requires.next in
    let none = subst (λ (k : Kept g.row.D.Denot). k.staged ≡ None) (sym c.self.view_is) c.requires.none in
    let on = ap (λ (k : Kept g.row.D.Denot). k.shut) c.self.view_is ∙ c.requires.on in
    subst (λ (k : Kept g.row.D.Denot). LeavesAtEach g.D.Disk.plain (λ r. r ≡ unstaged (state_by H k)) (H k.disk) (H c.prepare.new.disk)) c.self.view_is
    (aside g.D.Disk.plain H _ (c.self.invariant.sound t on) c.args.file next _ (H c.prepare.new.disk) (c.prepare.ensures.others t))

pub returns-in-Err-Memory-clause-any_moment : goal.returns-in-Err-Memory-clause-any_moment
returns-in-Err-Memory-clause-any_moment g c = λ t.
    let H = g.D.Disk.history in
    let next = subst (λ (k : Kept g.row.D.Denot). c.args.file ≡ k.status.file + 1) (sym c.self.view_is) c.requires.next in
    let none = subst (λ (k : Kept g.row.D.Denot). k.staged ≡ None) (sym c.self.view_is) c.requires.none in
    let on = ap (λ (k : Kept g.row.D.Denot). k.shut) c.self.view_is ∙ c.requires.on in
    subst (λ (k : Kept g.row.D.Denot). LeavesAtEach g.D.Disk.plain (λ r. r ≡ unstaged (state_by H k)) (H k.disk) (H c.prepare.new.disk)) c.self.view_is
    (aside g.D.Disk.plain H _ (c.self.invariant.sound t on) c.args.file next _ (H c.prepare.new.disk) (c.prepare.ensures.others t))

pub returns-in-Err-Disk-clause-any_moment : goal.returns-in-Err-Disk-clause-any_moment
returns-in-Err-Disk-clause-any_moment g c = λ t.
    let H = g.D.Disk.history in
    let next = subst (λ (k : Kept g.row.D.Denot). c.args.file ≡ k.status.file + 1) (sym c.self.view_is) c.requires.next in
    let none = subst (λ (k : Kept g.row.D.Denot). k.staged ≡ None) (sym c.self.view_is) c.requires.none in
    let on = ap (λ (k : Kept g.row.D.Denot). k.shut) c.self.view_is ∙ c.requires.on in
    subst (λ (k : Kept g.row.D.Denot). LeavesAtEach g.D.Disk.plain (λ r. r ≡ unstaged (state_by H k)) (H k.disk) (H c.prepare.new.disk)) c.self.view_is
    (aside g.D.Disk.plain H _ (c.self.invariant.sound t on) c.args.file next _ (H c.prepare.new.disk) (c.prepare.ensures.others t))

pub invariant_of-self : goal.invariant_of-self
invariant_of-self g c =
    let H = g.D.Disk.history in
    let next = subst (λ (k : Kept g.row.D.Denot). c.args.file ≡ k.status.file + 1) (sym c.self.view_is) c.requires.next in
    let none = subst (λ (k : Kept g.row.D.Denot). k.staged ≡ None) (sym c.self.view_is) c.requires.none in
    record {
      fit = fit_disk _ c.prepare.new.disk c.self.invariant.fit;
      sound = λ t on. unstaged_sound g.D.Disk.plain H _ (c.self.invariant.sound t on) c.args.file next none (H c.prepare.new.disk).now (c.prepare.ensures.others t).others_now c.prepare.new.disk;
    }

pub returns-in-Ok-clause-durable : goal.returns-in-Ok-clause-durable
returns-in-Ok-clause-durable g c = λ t on.
    let H = g.D.Disk.history in
    let next = subst (λ (k : Kept g.row.D.Denot). c.args.file ≡ k.status.file + 1) (sym c.self.view_is) c.requires.next in
    let none = subst (λ (k : Kept g.row.D.Denot). k.staged ≡ None) (sym c.self.view_is) c.requires.none in
    durable g.D.Disk.plain _ _ (unstaged_sound g.D.Disk.plain H _ (c.self.invariant.sound t on) c.args.file next none (H c.prepare.new.disk).now (c.prepare.ensures.others t).others_now c.prepare.new.disk)

pub invariant_of-self-in-Err-Memory : goal.invariant_of-self-in-Err-Memory
invariant_of-self-in-Err-Memory g c =
    let H = g.D.Disk.history in
    let next = subst (λ (k : Kept g.row.D.Denot). c.args.file ≡ k.status.file + 1) (sym c.self.view_is) c.requires.next in
    let none = subst (λ (k : Kept g.row.D.Denot). k.staged ≡ None) (sym c.self.view_is) c.requires.none in
    record {
      fit = fit_disk _ c.prepare.new.disk c.self.invariant.fit;
      sound = λ t on. unstaged_sound g.D.Disk.plain H _ (c.self.invariant.sound t on) c.args.file next none (H c.prepare.new.disk).now (c.prepare.ensures.others t).others_now c.prepare.new.disk;
    }

pub returns-in-Err-Memory-clause-durable : goal.returns-in-Err-Memory-clause-durable
returns-in-Err-Memory-clause-durable g c = λ t on.
    let H = g.D.Disk.history in
    let next = subst (λ (k : Kept g.row.D.Denot). c.args.file ≡ k.status.file + 1) (sym c.self.view_is) c.requires.next in
    let none = subst (λ (k : Kept g.row.D.Denot). k.staged ≡ None) (sym c.self.view_is) c.requires.none in
    durable g.D.Disk.plain _ _ (unstaged_sound g.D.Disk.plain H _ (c.self.invariant.sound t on) c.args.file next none (H c.prepare.new.disk).now (c.prepare.ensures.others t).others_now c.prepare.new.disk)

pub returns-in-Ok-clause-ready : goal.returns-in-Ok-clause-ready
returns-in-Ok-clause-ready g c = λ t. empty_ready (g.D.Disk.history c.prepare.new.disk).now c.args.file _ (c.in-Ok.ensures.empty t)

pub returns-in-Ok-clause-state : goal.returns-in-Ok-clause-state
returns-in-Ok-clause-state g c = λ t.
    let H = g.D.Disk.history in
    let next = subst (λ (k : Kept g.row.D.Denot). c.args.file ≡ k.status.file + 1) (sym c.self.view_is) c.requires.next in
    let none = subst (λ (k : Kept g.row.D.Denot). k.staged ≡ None) (sym c.self.view_is) c.requires.none in
    let on = ap (λ (k : Kept g.row.D.Denot). k.shut) c.self.view_is ∙ c.requires.on in
    unstaged_state g.D.Disk.plain H _ (c.self.invariant.sound t on) c.args.file next none (H c.prepare.new.disk).now (c.prepare.ensures.others t).others_now c.prepare.new.disk
    ∙ ap (λ (k : Kept g.row.D.Denot). state_by H k) c.self.view_is

pub returns-in-Err-Memory-clause-answer : goal.returns-in-Err-Memory-clause-answer
returns-in-Err-Memory-clause-answer g c =
    let H = g.D.Disk.history in
    let next = subst (λ (k : Kept g.row.D.Denot). c.args.file ≡ k.status.file + 1) (sym c.self.view_is) c.requires.next in
    let none = subst (λ (k : Kept g.row.D.Denot). k.staged ≡ None) (sym c.self.view_is) c.requires.none in
    let on = ap (λ (k : Kept g.row.D.Denot). k.shut) c.self.view_is ∙ c.requires.on in
    answer_kept g.D.Disk.tells H c.args.self.now _ Memory (λ e. cc) (λ is. is) c.requires.on
    (ap (λ (k : Kept g.row.D.Denot). record k { disk = c.prepare.new.disk }) c.self.view_is)
    (λ t. unstaged_state g.D.Disk.plain H _ (c.self.invariant.sound t on) c.args.file next none (H c.prepare.new.disk).now (c.prepare.ensures.others t).others_now c.prepare.new.disk
    ∙ ap (λ (k : Kept g.row.D.Denot). state_by H k) c.self.view_is)
