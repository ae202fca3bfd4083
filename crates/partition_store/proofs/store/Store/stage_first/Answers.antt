use Rattle.std.proofs.Common.{◌≡◌, ◌+◌, ◌∙◌, None, refl, sym, ap, subst}
use Rattle.tx_model.specs.Records.{RiseByOne}
use Rattle.proto_model.specs.Crashes.{unstaged}
use Rattle.proto_model.specs.Parts.{staged_more}
use Rattle.proto_model.specs.declared.replica.NodeFault.TheVariants.{Memory}
use Rattle.partition_store.specs.Stands.{LeavesAtEach}
use Rattle.partition_store.specs.Stores.{Kept, state_by, IsDurable}
use Rattle.partition_store.proofs.Answered.{answer_kept}
use Rattle.partition_store.proofs.Aside.{aside}
use Rattle.partition_store.proofs.Durable.{durable, fit_disk, stays}
use Rattle.partition_store.proofs.Staged.{first_fit, first_sound, first_state, unstaged_sound, unstaged_state}
use Rattle.partition_store.proofs.store.Store.stage_first.Goals as goal

pub invariant_of-self : goal.invariant_of-self
invariant_of-self g c =
    let H = g.D.Disk.history in
    let none = subst (λ (k : Kept g.row.D.Denot). k.staged ≡ None) (sym c.self.view_is) c.requires.none in
    let ids = subst (λ (k : Kept g.row.D.Denot). RiseByOne (k.status.low + 1) c.args.records.now) (sym c.self.view_is) c.requires.ids in
    record {
      fit = first_fit _ c.begin.new.disk c.in-Ok.segment c.args.records.now c.in-Ok.ensures.place.1 c.in-Ok.ensures.place.2 ids c.requires.some c.self.invariant.fit;
      sound = λ t on. first_sound g.D.Disk.plain H _ (c.self.invariant.sound t on) c.in-Some.file c.in-Some.ensures.1 (H c.begin.new.disk).now (c.begin.ensures.others t).others_now c.in-Ok.segment c.in-Ok.ensures.place.0 (c.in-Ok.ensures.all t) c.begin.new.disk;
    }

pub returns-in-Ok-clause-durable : goal.returns-in-Ok-clause-durable
returns-in-Ok-clause-durable g c = λ t on.
    let H = g.D.Disk.history in
    durable g.D.Disk.plain _ _ (first_sound g.D.Disk.plain H _ (c.self.invariant.sound t on) c.in-Some.file c.in-Some.ensures.1 (H c.begin.new.disk).now (c.begin.ensures.others t).others_now c.in-Ok.segment c.in-Ok.ensures.place.0 (c.in-Ok.ensures.all t) c.begin.new.disk)

pub returns-in-Ok-clause-state : goal.returns-in-Ok-clause-state
returns-in-Ok-clause-state g c = λ t.
    let H = g.D.Disk.history in
    let none = subst (λ (k : Kept g.row.D.Denot). k.staged ≡ None) (sym c.self.view_is) c.requires.none in
    let on = ap (λ (k : Kept g.row.D.Denot). k.shut) c.self.view_is ∙ c.requires.on in
    first_state g.D.Disk.plain H _ (c.self.invariant.sound t on) c.in-Some.file c.in-Some.ensures.1 (H c.begin.new.disk).now (c.begin.ensures.others t).others_now c.in-Ok.segment c.in-Ok.ensures.place.0 (c.in-Ok.ensures.all t) none c.begin.new.disk c.args.records.now (c.in-Ok.ensures.records t)
    ∙ ap (λ (k : Kept g.row.D.Denot). staged_more (state_by H k) c.args.records.now) c.self.view_is

pub returns-in-Ok-clause-any_moment : goal.returns-in-Ok-clause-any_moment
returns-in-Ok-clause-any_moment g c = λ t.
    let H = g.D.Disk.history in
    let on = ap (λ (k : Kept g.row.D.Denot). k.shut) c.self.view_is ∙ c.requires.on in
    subst (λ (k : Kept g.row.D.Denot). LeavesAtEach g.D.Disk.plain (λ r. r ≡ unstaged (state_by H k)) (H k.disk) (H c.begin.new.disk)) c.self.view_is
    (aside g.D.Disk.plain H _ (c.self.invariant.sound t on) c.in-Some.file c.in-Some.ensures.1 _ (H c.begin.new.disk) (c.begin.ensures.others t))

pub returns-in-Err-Disk-clause-any_moment : goal.returns-in-Err-Disk-clause-any_moment
returns-in-Err-Disk-clause-any_moment g c = λ t.
    let H = g.D.Disk.history in
    let on = ap (λ (k : Kept g.row.D.Denot). k.shut) c.self.view_is ∙ c.requires.on in
    subst (λ (k : Kept g.row.D.Denot). LeavesAtEach g.D.Disk.plain (λ r. r ≡ unstaged (state_by H k)) (H k.disk) (H c.begin.new.disk)) c.self.view_is
    (aside g.D.Disk.plain H _ (c.self.invariant.sound t on) c.in-Some.file c.in-Some.ensures.1 _ (H c.begin.new.disk) (c.begin.ensures.others t))

pub returns-in-Err-Memory-clause-any_moment : goal.returns-in-Err-Memory-clause-any_moment
returns-in-Err-Memory-clause-any_moment g c = λ t.
    let H = g.D.Disk.history in
    let on = ap (λ (k : Kept g.row.D.Denot). k.shut) c.self.view_is ∙ c.requires.on in
    subst (λ (k : Kept g.row.D.Denot). LeavesAtEach g.D.Disk.plain (λ r. r ≡ unstaged (state_by H k)) (H k.disk) (H c.begin.new.disk)) c.self.view_is
    (aside g.D.Disk.plain H _ (c.self.invariant.sound t on) c.in-Some.file c.in-Some.ensures.1 _ (H c.begin.new.disk) (c.begin.ensures.others t))

pub invariant_of-self-in-Err-Memory : goal.invariant_of-self-in-Err-Memory
invariant_of-self-in-Err-Memory g c =
    let H = g.D.Disk.history in
    let none = subst (λ (k : Kept g.row.D.Denot). k.staged ≡ None) (sym c.self.view_is) c.requires.none in
    record {
      fit = fit_disk _ c.begin.new.disk c.self.invariant.fit;
      sound = λ t on. unstaged_sound g.D.Disk.plain H _ (c.self.invariant.sound t on) c.in-Some.file c.in-Some.ensures.1 none (H c.begin.new.disk).now (c.begin.ensures.others t).others_now c.begin.new.disk;
    }

pub returns-in-Err-Memory-clause-durable : goal.returns-in-Err-Memory-clause-durable
returns-in-Err-Memory-clause-durable g c = λ t on.
    let H = g.D.Disk.history in
    let none = subst (λ (k : Kept g.row.D.Denot). k.staged ≡ None) (sym c.self.view_is) c.requires.none in
    durable g.D.Disk.plain _ _ (unstaged_sound g.D.Disk.plain H _ (c.self.invariant.sound t on) c.in-Some.file c.in-Some.ensures.1 none (H c.begin.new.disk).now (c.begin.ensures.others t).others_now c.begin.new.disk)

pub returns-in-Err-Memory-clause-answer : goal.returns-in-Err-Memory-clause-answer
returns-in-Err-Memory-clause-answer g c =
    let H = g.D.Disk.history in
    let none = subst (λ (k : Kept g.row.D.Denot). k.staged ≡ None) (sym c.self.view_is) c.requires.none in
    let on = ap (λ (k : Kept g.row.D.Denot). k.shut) c.self.view_is ∙ c.requires.on in
    answer_kept g.D.Disk.tells H c.args.self.now _ Memory (λ e. cc) (λ is. is) c.requires.on
    (ap (λ (k : Kept g.row.D.Denot). record k { disk = c.begin.new.disk }) c.self.view_is)
    (λ t. unstaged_state g.D.Disk.plain H _ (c.self.invariant.sound t on) c.in-Some.file c.in-Some.ensures.1 none (H c.begin.new.disk).now (c.begin.ensures.others t).others_now c.begin.new.disk
    ∙ ap (λ (k : Kept g.row.D.Denot). state_by H k) c.self.view_is)

pub returns-in_default-clause-any_moment : goal.returns-in_default-clause-any_moment
returns-in_default-clause-any_moment g c = λ t.
    let H = g.D.Disk.history in
    let on = ap (λ (k : Kept g.row.D.Denot). k.shut) c.self.view_is ∙ c.requires.on in
    subst (λ (k : Kept g.row.D.Denot). LeavesAtEach g.D.Disk.plain (λ r. r ≡ unstaged (state_by H k)) (H k.disk) (H k.disk)) c.self.view_is
    (stays g.D.Disk.plain H _ (c.self.invariant.sound t on) _ (λ r is. is) _ refl)

pub returns-in_default-clause-durable : goal.returns-in_default-clause-durable
returns-in_default-clause-durable g c = λ t on.
    let H = g.D.Disk.history in
    let still = ap (λ (k : Kept g.row.D.Denot). k.shut) c.self.view_is ∙ on in
    subst (λ (k : Kept g.row.D.Denot). IsDurable g.D.Disk.plain (H k.disk).now k) c.self.view_is (durable g.D.Disk.plain _ _ (c.self.invariant.sound t still))
