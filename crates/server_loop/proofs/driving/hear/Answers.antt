use Rattle.std.proofs.Common.{◌≡◌, ap, refl, arith}
use Rattle.server_loop.specs.declared.awaiting.Answer.TheVariants as answer
use Rattle.server_loop.specs.declared.driving.Out.TheVariants.{Other, Failed}
use Rattle.server_loop.specs.Drives.{out_after}
use Rattle.server_loop.specs.Failures.{failure}
use Rattle.server_loop.proofs.Counting.{still_counted, failed_counted, heard_counted}
use Rattle.server_loop.proofs.Moving.{heard_less, out_less, out_yes, out_no}
use Rattle.server_loop.proofs.driving.hear.Goals as goal
use Rattle.server_loop.proofs.driving.hear.Goals.{then-is_awaited_by, else-is_awaited_by}

pub returns-after-is_awaited_by-clause-less : goal.returns-after-is_awaited_by-clause-less
returns-after-is_awaited_by-clause-less g c =
    let same : c.if-is_awaited_by.outs ≡ out_after (g.S.Driven.state c.args.server.now) c.args.sent.now (answer.From c.in-From.reply) = elim c.if-is_awaited_by.branch [
      | then-is_awaited_by w ↦ out_yes (g.S.Driven.state c.args.server.now) c.args.sent.now c.in-From.reply c.last-last.result c.is_awaited_by.result _ c.last-last.ensures c.is_awaited_by.ensures w.if-is_awaited_by.true w.outs-is
      | else-is_awaited_by w ↦ out_no (g.S.Driven.state c.args.server.now) c.args.sent.now c.in-From.reply c.last-last.result c.is_awaited_by.result _ c.last-last.ensures c.is_awaited_by.ensures w.if-is_awaited_by.false w.outs-is
    ] in
    heard_less _ (g.S.Driven.state c.args.server.now) c.args.node c.args.sent.now c.in-From.reply c.args.outs.now c.if-is_awaited_by.outs (g.S.Driven.lack c.args.server.now) (g.S.Driven.lack c.receive.new.self) c.receive.result
    same c.requires.wanted c.receive.ensures.forward (g.S.Driven.bound c.receive.new.self) (omega (arith, c.told-outs, c.requires.few)) c.requires.is_in

pub returns-in-Garbled-clause-less : goal.returns-in-Garbled-clause-less
returns-in-Garbled-clause-less g c =
    out_less c.args.outs.now c.args.node Other (g.S.Driven.lack c.args.server.now) (g.S.Driven.lack c.args.server.now) refl (g.S.Driven.bound c.args.server.now) (omega (arith, c.told-outs, c.requires.few)) c.requires.is_in

pub returns-in-Failed-clause-less : goal.returns-in-Failed-clause-less
returns-in-Failed-clause-less g c =
    out_less c.args.outs.now c.args.node Failed (g.S.Driven.lack c.args.server.now) (g.S.Driven.lack c.args.server.now) refl (g.S.Driven.bound c.args.server.now) (omega (arith, c.told-outs, c.requires.few)) c.requires.is_in

pub returns-after-is_awaited_by-clause-counted : goal.returns-after-is_awaited_by-clause-counted
returns-after-is_awaited_by-clause-counted g c =
    let quiet : failure c.if-is_awaited_by.outs ≡ 0 = elim c.if-is_awaited_by.branch [
      | then-is_awaited_by w ↦ ap failure w.outs-is
      | else-is_awaited_by w ↦ ap failure w.outs-is
    ] in
    heard_counted c.args.outs.now c.args.node c.if-is_awaited_by.outs c.args.answer c.in-From.reply c.receive.result c.in-From.is quiet (omega (arith, c.told-outs, c.requires.few)) c.requires.is_in

pub returns-in-Garbled-clause-counted : goal.returns-in-Garbled-clause-counted
returns-in-Garbled-clause-counted g c before now h =
    still_counted c.args.outs.now c.args.node Other before now refl (omega (arith, c.told-outs, c.requires.few)) c.requires.is_in (h.none (λ e. cc))

pub returns-in-Failed-clause-counted : goal.returns-in-Failed-clause-counted
returns-in-Failed-clause-counted g c before now h =
    failed_counted c.args.outs.now c.args.node before now (omega (arith, c.told-outs, c.requires.few)) c.requires.is_in (h.failed c.in-Failed.is)
