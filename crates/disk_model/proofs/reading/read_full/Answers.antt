use Rattle.std.proofs.Common.{◌≡◌, ◌≤◌, ◌+◌, ◌-◌, ℕ, length, drop, ◌∙◌, subst, arith, inl, inr}
use Rattle.std.proofs.lemmas.Bool.{cases_lt}
use Rattle.std.proofs.lemmas.List.{length-drop, length-take-le}
use borrow.Rule.Slice.PartMut.{mid_of, same_len_mid}
use Rattle.disk_model.specs.History.{History, IsRead}
use Rattle.disk_model.proofs.Keeping.{keeps_then}
use Rattle.disk_model.proofs.Filled.{filled_on}
use Rattle.disk_model.proofs.reading.read_full.Goals as goal

pub calls-preserved : goal.calls-preserved
calls-preserved g c =
    let inv = c.calls.invariant in
    let n = c.in_ok-count.count in
    let left : ℕ = length c.calls.into - c.calls.done in
    let room : length (mid_of c.calls.done left c.calls.into) ≡ left = length-take-le left (drop c.calls.done c.calls.into) (omega (arith, length-drop c.calls.done c.calls.into)) in
    let size : length c.read.new.into ≡ left = c.read.auto.into ∙ room in
    let few : n ≤ length c.read.new.into = omega (arith, c.in_ok-count.ensures.bound, c.read.auto.into) in
    let long = same_len_mid c.calls.done left c.calls.into c.read.new.into c.read.auto.into in
    let place : c.saturating_add.result ≡ c.args.at + c.calls.done = omega (arith, c.saturating_add.ensures, inv.room) in
    let read = λ (t : g.D.Disk.tells). (
    subst (λ (h : History). IsRead (h.now c.args.file).reads (c.args.at + c.calls.done) c.read.new.into n) (inv.history t)
    (subst (λ (k : ℕ). IsRead ((g.D.Disk.history c.calls.disk).now c.args.file).reads k c.read.new.into n) place (c.in_ok-count.ensures.read t))) in
    record {
      within = omega (arith, long, few, size, inv.within);
      size = long ∙ inv.size;
      room = omega (arith, c.in_ok-count.ensures.room, place);
      inside = λ t some. elim (cases_lt (c.args.at + c.calls.done) (length ((g.D.Disk.history c.args.disk.now).now c.args.file).reads)) [
        | inl inner ↦ omega (arith, (read t).within inner)
        | inr past ↦ absurd (c.if-count-eq0.false ((read t).past past))
      ];
      bytes = λ t. filled_on c.calls.into c.read.new.into ((g.D.Disk.history c.args.disk.now).now c.args.file).reads c.args.at c.calls.done left n inv.within few (inv.bytes t) (read t).bytes;
      history = λ t. c.read.ensures.same t ∙ inv.history t;
      none = c.in_ok-count.ensures.cause.none ∙ inv.none;
      keeps = keeps_then inv.keeps c.in_ok-count.ensures.keeps (λ no_fault. absurd no_fault);
    }
