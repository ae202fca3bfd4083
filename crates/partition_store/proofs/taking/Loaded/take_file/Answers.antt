use Rattle.std.proofs.Common.{◌≡◌, ◌+◌, ◌-◌, ◌<◌, ◌≤◌, ◌^◌, ◌++◌, ℕ, List, take, refl, sym, ◌∙◌, ap, subst, arith, Option, None}
use Rattle.std.specs.Prelude.{IfNone}
use Rattle.std.specs.Option.{option_to_list}
use Rattle.disk_model.proofs.Told.{told_by_try}
use Rattle.segment_store.specs.Index.{Index, count_of}
use Rattle.proto_model.specs.Damages.{Naming, IsDamaged}
use Rattle.partition_store.specs.Stands.{reads_of}
use Rattle.partition_store.specs.Stores.{IsChain, AreClosed, AreInOrder, records_by}
use Rattle.partition_store.proofs.Taken.{IsFound, if_none, if_some, none_wrong, order-chain, damaged-before, damaged-within, closes, taken-file}
use Rattle.partition_store.proofs.taking.Loaded.take_file.Goals as goal

pub returns-in-Some-clause-damaged : goal.returns-in-Some-clause-damaged
returns-in-Some-clause-damaged g c = λ t entries more h e is of names legal.
    damaged-before (reads_of (g.D.Disk.history c.args.disk.now).now) entries h c.args.self.now e (record { file = c.args.file; first = c.args.first; count = c.args.count }) of names legal more c.in-Some.at is c.in-Some.is

pub returns-in_err-found-clause-damaged : goal.returns-in_err-found-clause-damaged
returns-in_err-found-clause-damaged g c =
    told_by_try c.from_residual-in_err-found.result c.in_err-found.field-0.0 _ _ c.from_residual-in_err-found.ensures.1 c.in_err-found.ensures.damaged (λ file at is.
    λ t entries more h e same of names legal.
    let all = reads_of (g.D.Disk.history c.args.disk.now).now in
    subst (λ (q : ℕ). IsDamaged all q at) (sym is.0)
    (damaged-within all entries h c.args.self.now e (record { file = c.args.file; first = c.args.first; count = c.args.count }) of names legal (none_wrong c.args.self.now.wrong c.in_default.not-Some) more at same (is.1 t)))

pub returns-clause-fit : goal.returns-clause-fit
returns-clause-fit g c =
    let fit = c.requires.fit in
    let none = none_wrong c.args.self.now.wrong c.in_default.not-Some in
    let small : c.args.self.now.status.length < 2 ^ 48 = fit.length none in
    let first : c.args.first ≤ 2 ^ 48 = omega (arith, c.requires.some, c.requires.within, small) in
    let place = c.in_ok-found.ensures.place in
    let long : c.args.first + count_of c.in_ok-found.found.segment ≤ 2 ^ 48 = c.in_ok-found.ensures.ids first in
    let count = λ (is : c.in_ok-found.found.wrong ≡ None). subst (λ (o : Option ℕ). IfNone o (c.in_ok-found.found.frames ≡ count_of c.in_ok-found.found.segment)) is c.in_ok-found.ensures.all in
    record {
      promised = fit.promised;
      adopted = c.requires.session;
      low = omega (arith, c.requires.some, c.saturating_add-self.ensures, c.ranges.first.fits);
      none = λ is. absurd (cc is);
      length = λ is. omega (arith, c.requires.some, c.saturating_add-self.ensures, count is, long);
      order = λ is. (
        subst (λ (k : ℕ). IsChain 1 c.retire.new.closed.items k) (omega (arith, place.1, c.requires.some)) c.retire.ensures.chain,
        omega (arith, c.requires.some, c.saturating_add-self.ensures, count is, long, place.1),
      );
    }

pub returns-clause-taken : goal.returns-clause-taken
returns-clause-taken g c = λ t entries h e of names legal adopted.
    let all = reads_of (g.D.Disk.history c.args.disk.now).now in
    let l = c.args.self.now in
    let n : Naming = record { file = c.args.file; first = c.args.first; count = c.args.count } in
    let none = none_wrong l.wrong c.in_default.not-Some in
    let now_closed = c.retire.new.closed.items in
    let found = c.in_ok-found.ensures in
    let read : IsFound all n c.in_ok-found.found.segment c.in_ok-found.found.frames c.in_ok-found.found.wrong = record {
      file = found.place.0;
      long = found.frames t;
      whole = if_none _ c.in_ok-found.found.wrong t found.whole;
      loadable = if_none _ c.in_ok-found.found.wrong t found.loadable;
      behind = if_some c.in_ok-found.found.wrong _ _ found.wrong (λ at wrong. (wrong t).2);
    } in
    let same : c.reserve.new.self.items ≡ l.closed.items = c.in_ok-reserve.ensures.items in
    let all_same : c.reserve.new.self.items ++ option_to_list c.take.result ≡ l.closed.items ++ option_to_list l.last = ap (λ (is : List Index). is ++ option_to_list c.take.result) same ∙ ap (λ (o : Option Index). l.closed.items ++ option_to_list o) c.take.ensures.value in
    let files = subst (AreClosed all c.args.file) (sym all_same) (closes all entries h l e n of names legal none) in
    let records = c.retire.ensures.cut.records all c.args.file files ∙ ap (λ (is : List Index). take (c.args.first - 1) (records_by all is)) all_same in
    taken-file all entries h l e n of names legal none c.in_ok-found.found.segment c.in_ok-found.found.frames now_closed (c.retire.ensures.cut.closed all c.args.file files) records _ read refl (sym adopted) refl c.saturating_add-self.ensures refl refl refl refl

pub retire-requires-clause-small : goal.retire-requires-clause-small
retire-requires-clause-small g c = c.requires.fit.length (none_wrong c.args.self.now.wrong c.in_default.not-Some)

pub retire-requires-clause-chain : goal.retire-requires-clause-chain
retire-requires-clause-chain g c =
    let l = c.args.self.now in
    let order : AreInOrder c.reserve.new.self.items c.take.result l.status.length =
    subst (λ (is : List Index). AreInOrder is c.take.result l.status.length) (sym c.in_ok-reserve.ensures.items)
    (subst (λ (o : Option Index). AreInOrder l.closed.items o l.status.length) (sym c.take.ensures.value) (c.requires.fit.order (none_wrong l.wrong c.in_default.not-Some))) in
    order-chain c.reserve.new.self.items c.take.result l.status.length order
