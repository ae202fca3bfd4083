use Rattle.std.proofs.Common.{◌≡◌, ◌+◌, ◌∙◌, Err, sym, ap, subst}
use Rattle.tx_model.specs.Records.{RiseByOne}
use Rattle.disk_model.specs.History.{History}
use Rattle.proto_model.specs.Crashes.{unstaged}
use Rattle.proto_model.specs.Parts.{staged_more}
use Rattle.partition_store.specs.Stands.{LeavesAtEach}
use Rattle.partition_store.specs.Stores.{Kept, state_by, staged_count}
use Rattle.partition_store.proofs.Aside.{aside}
use Rattle.partition_store.proofs.Durable.{durable}
use Rattle.partition_store.proofs.Staged.{more_ids, more_fit, more_next, more_all, more_sound, more_state, more_kept}
use Rattle.partition_store.proofs.store.Store.stage_more.Goals as goal

pub stage-requires-clause-all : goal.stage-requires-clause-all
stage-requires-clause-all g c = λ t.
    let on = ap (λ (k : Kept g.row.D.Denot). k.shut) c.self.view_is ∙ c.requires.on in
    more_all g.D.Disk.plain g.D.Disk.history _ (c.self.invariant.sound t on) c.in-Some.segment c.in-Some.is

pub stage-requires-clause-ids : goal.stage-requires-clause-ids
stage-requires-clause-ids g c =
    let ids = subst (λ (k : Kept g.row.D.Denot). RiseByOne (k.status.low + staged_count k.staged + 1) c.args.records.now) (sym c.self.view_is) c.requires.ids in
    more_ids _ c.in-Some.segment c.args.records.now c.in-Some.is c.self.invariant.fit ids

pub invariant_of-self-in-Ok : goal.invariant_of-self-in-Ok
invariant_of-self-in-Ok g c =
    let H = g.D.Disk.history in
    let ids = subst (λ (k : Kept g.row.D.Denot). RiseByOne (k.status.low + staged_count k.staged + 1) c.args.records.now) (sym c.self.view_is) c.requires.ids in
    record {
      fit = more_fit _ c.stage.new.disk c.in-Some.segment c.stage.new.self c.args.records.now c.in-Some.is c.stage.ensures.place.1 c.in-Ok.ensures.count ids c.requires.some c.self.invariant.fit;
      sound = λ t on. more_sound g.D.Disk.plain H _ (c.self.invariant.sound t on) c.in-Some.segment c.in-Some.is (H c.stage.new.disk).now (c.stage.ensures.others t).others_now c.stage.new.self c.stage.ensures.place.0 (c.in-Ok.ensures.all t) c.stage.new.disk;
    }

pub returns-in-Ok-clause-durable : goal.returns-in-Ok-clause-durable
returns-in-Ok-clause-durable g c = λ t on.
    let H = g.D.Disk.history in
    durable g.D.Disk.plain _ _ (more_sound g.D.Disk.plain H _ (c.self.invariant.sound t on) c.in-Some.segment c.in-Some.is (H c.stage.new.disk).now (c.stage.ensures.others t).others_now c.stage.new.self c.stage.ensures.place.0 (c.in-Ok.ensures.all t) c.stage.new.disk)

pub returns-in-Ok-clause-state : goal.returns-in-Ok-clause-state
returns-in-Ok-clause-state g c = λ t.
    let H = g.D.Disk.history in
    let on = ap (λ (k : Kept g.row.D.Denot). k.shut) c.self.view_is ∙ c.requires.on in
    more_state g.D.Disk.plain H _ (c.self.invariant.sound t on) c.in-Some.segment c.in-Some.is (H c.stage.new.disk).now (c.stage.ensures.others t).others_now c.stage.new.self c.stage.ensures.place.0 (c.in-Ok.ensures.all t) c.stage.new.disk c.args.records.now (c.in-Ok.ensures.records t)
    ∙ ap (λ (k : Kept g.row.D.Denot). staged_more (state_by H k) c.args.records.now) c.self.view_is

pub returns-in-Ok-clause-any_moment : goal.returns-in-Ok-clause-any_moment
returns-in-Ok-clause-any_moment g c = λ t.
    let H = g.D.Disk.history in
    let on = ap (λ (k : Kept g.row.D.Denot). k.shut) c.self.view_is ∙ c.requires.on in
    let sound = c.self.invariant.sound t on in
    subst (λ (k : Kept g.row.D.Denot). LeavesAtEach g.D.Disk.plain (λ r. r ≡ unstaged (state_by H k)) (H k.disk) (H c.stage.new.disk)) c.self.view_is
    (aside g.D.Disk.plain H _ sound c.in-Some.segment.file (more_next g.D.Disk.plain H _ sound c.in-Some.segment c.in-Some.is) _ (H c.stage.new.disk) (c.stage.ensures.others t))

pub returns-in-Err-Disk-clause-any_moment : goal.returns-in-Err-Disk-clause-any_moment
returns-in-Err-Disk-clause-any_moment g c = λ t.
    let H = g.D.Disk.history in
    let on = ap (λ (k : Kept g.row.D.Denot). k.shut) c.self.view_is ∙ c.requires.on in
    let sound = c.self.invariant.sound t on in
    subst (λ (k : Kept g.row.D.Denot). LeavesAtEach g.D.Disk.plain (λ r. r ≡ unstaged (state_by H k)) (H k.disk) (H c.stage.new.disk)) c.self.view_is
    (aside g.D.Disk.plain H _ sound c.in-Some.segment.file (more_next g.D.Disk.plain H _ sound c.in-Some.segment c.in-Some.is) _ (H c.stage.new.disk) (c.stage.ensures.others t))

pub returns-in-Err-Memory-clause-any_moment : goal.returns-in-Err-Memory-clause-any_moment
returns-in-Err-Memory-clause-any_moment g c = λ t.
    let H = g.D.Disk.history in
    let on = ap (λ (k : Kept g.row.D.Denot). k.shut) c.self.view_is ∙ c.requires.on in
    let sound = c.self.invariant.sound t on in
    subst (λ (k : Kept g.row.D.Denot). LeavesAtEach g.D.Disk.plain (λ r. r ≡ unstaged (state_by H k)) (H k.disk) (H c.stage.new.disk)) c.self.view_is
    (aside g.D.Disk.plain H _ sound c.in-Some.segment.file (more_next g.D.Disk.plain H _ sound c.in-Some.segment c.in-Some.is) _ (H c.stage.new.disk) (c.stage.ensures.others t))

pub returns-in-Err-Memory-clause-durable : goal.returns-in-Err-Memory-clause-durable
returns-in-Err-Memory-clause-durable g c = λ t on.
    let H = g.D.Disk.history in
    let same = c.stage.ensures.memory (c.in-Err-Memory.is ∙ ap Err c.in-Err-Memory.field-0-is) t in
    durable g.D.Disk.plain _ _ (more_kept g.D.Disk.plain H _ (c.self.invariant.sound t on) c.in-Some.segment c.in-Some.is (H c.stage.new.disk).now c.stage.new.self c.stage.new.disk c.in-Err-Memory.ensures.err (ap (λ (h : History). h.now) same))
