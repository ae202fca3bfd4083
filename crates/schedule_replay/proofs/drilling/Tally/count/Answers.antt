use Rattle.std.proofs.Common.{◌+◌, ◌∙◌, ap, arith}
use Rattle.schedule_replay.specs.Drilling.{one_more_if}
use Rattle.schedule_replay.proofs.Counted.{number_at, refused_next}
use Rattle.schedule_replay.proofs.drilling.Tally.count.Goals as goal

pub add-requires-clause-numbered : goal.add-requires-clause-numbered
add-requires-clause-numbered c =
    let number = number_at (c.args.self.now.envelopes + 1) c.args.items.now c.loop-item.item-index c.item-item.result (omega arith) c.requires.numbered c.item-item.is in
    let before = c.loop-item.invariant.envelopes in
    omega (arith, number, before)

pub loop-item-preserved : goal.loop-item-preserved
loop-item-preserved c = record {
  envelopes = let before = c.loop-item.invariant.envelopes in let more = c.add.ensures.envelopes in omega (arith, before, more);
  refused = refused_next c.args.items.now c.loop-item.item-index c.item-item.result _ _ _ (omega arith) c.item-item.is c.loop-item.invariant.refused
      (c.add.ensures.refused ∙ ap (λ b. one_more_if b c.loop-item.self.refused) c.is_refusal.ensures);
  fits = c.add.ensures.fits;
}
