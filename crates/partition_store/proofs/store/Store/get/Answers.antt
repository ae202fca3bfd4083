use Rattle.std.proofs.Common.{◌≡◌, ◌-◌, ◌++◌, List, Option, Some, IfOk, IfSome, ◌∙◌, ap, sym, subst}
use Rattle.std.specs.Option.{option_to_list}
use Rattle.std.specs.Prelude.{option_copied, slice_get}
use Rattle.segment_store.specs.Index.{Index}
use Rattle.proto_model.specs.Held.{Contents}
use Rattle.proto_model.specs.Crashes.{unstaged}
use Rattle.partition_store.specs.Stands.{reads_of, LeavesAtEach}
use Rattle.partition_store.specs.Stores.{Kept, state_by, IsAnswer}
use Rattle.partition_store.specs.Found.{AreIndexed}
use Rattle.partition_store.proofs.Durable.{stays}
use Rattle.partition_store.proofs.ReadAnswers.{sound-indexed, read-log, read-answer, read-durable}
use Rattle.partition_store.proofs.store.Store.get.Goals as goal

pub read_one-found-requires-clause-indexed : goal.read_one-found-requires-clause-indexed
read_one-found-requires-clause-indexed g c = λ t.
    let s = (g.D.Disk.history c.self.inside.disk).now in
    let bytes : Contents = reads_of s in
    let all = sound-indexed s _ (c.self.invariant.sound t c.if-self.false) in
    subst (λ (is : List Index). AreIndexed bytes (is ++ option_to_list (option_copied c.as_ref.result))) (sym c.deref.ensures.value)
    (subst (λ (o : Option Index). AreIndexed bytes (c.self.inside.closed.items ++ option_to_list o)) (sym c.as_ref.ensures.value) all)

pub returns-clause-log : goal.returns-clause-log
returns-clause-log g c =
    let H = g.D.Disk.history in
    subst (λ (k : Kept g.row.D.Denot). IfOk c.answer.result (λ found. IfSome found (λ r. g.D.Disk.tells → slice_get (state_by H k).log (c.args.id - 1) ≡ Some r))) c.self.view_is
    (read-log g.D.Disk.tells H _ c.args.id c.deref.result.now (option_copied c.as_ref.result) c.deref.ensures.value c.as_ref.ensures.value (λ t. c.self.invariant.sound t c.if-self.false) c.read_one-found.result c.answer.result c.answer.ensures.result c.read_one-found.ensures.log)

pub returns-clause-any_moment : goal.returns-clause-any_moment
returns-clause-any_moment g c = λ t on.
    let H = g.D.Disk.history in
    let disk = ap (λ (k : Kept g.row.D.Denot). k.disk) c.answer.ensures.same in
    subst (λ (k : Kept g.row.D.Denot). LeavesAtEach g.D.Disk.plain (λ r. r ≡ unstaged (state_by H k)) (H k.disk) (H c.answer.new.self.disk)) c.self.view_is
    (stays g.D.Disk.plain H _ (c.self.invariant.sound t c.if-self.false) _ (λ r is. is) _ (ap H disk ∙ c.read_one-found.ensures.history t))

pub returns-clause-durable : goal.returns-clause-durable
returns-clause-durable g c = λ t still.
    read-durable g.D.Disk.plain g.D.Disk.history _ c.answer.new.self c.read_one-found.new.disk _ (c.self.invariant.sound t c.if-self.false) c.if-self.false (c.read_one-found.ensures.history t) c.answer.ensures.same still

pub returns-clause-answer : goal.returns-clause-answer
returns-clause-answer g c =
    let H = g.D.Disk.history in
    subst (λ (k : Kept g.row.D.Denot). IsAnswer g.D.Disk.tells H k c.answer.new.self c.answer.result) c.self.view_is
    (read-answer g.D.Disk.tells H _ c.read_one-found.new.disk c.if-self.false c.read_one-found.ensures.history c.read_one-found.result c.answer.new.self c.answer.result c.answer.ensures.same c.answer.ensures.result)
