use Rattle.std.proofs.Common.{◌≡◌, ℕ, List, ◌++◌, true, false, refl, inl, inr, ap, ◌∙◌, rules, arith}
use Rattle.client_loop.specs.Scripts.{none, one_more}
use Rattle.client_loop.specs.Texts.{more_line}
use Rattle.client_loop.proofs.sync.sync.Goals as goal

pub loop-count-init : goal.loop-count-init
loop-count-init g c = record { moved = λ told. none; text = λ told. refl; same = refl; faults = refl }

pub loop-count-preserved : goal.loop-count-preserved
loop-count-preserved g c =
    let off : c.in-Ok-false.field-0 ≡ false = search rules in
    record {
      moved = λ told. let x = rw off at (c.in-Ok-false.ensures.asked told) in one_more _ _ _ (c.loop-count.invariant.moved told) x.0;
      text = λ told. let x = rw off at (c.in-Ok-false.ensures.asked told) in x.1 ∙ c.loop-count.invariant.text told;
      same = c.ask_once.ensures.same ∙ c.loop-count.invariant.same;
      faults = search rules;
    }

pub returns-in-Ok-true-clause-synced : goal.returns-in-Ok-true-clause-synced
returns-in-Ok-true-clause-synced g c told =
    let on : c.in-Ok-true.field-0 ≡ true = search rules in
    let x = rw on at (c.in-Ok-true.ensures.asked told) in (
      x.0,
      record { count = c.loop-count.count; before = _; moved = c.loop-count.invariant.moved told; ends = inl (omega arith, x.1) },
      x.2 ∙ ap (λ (l : List ℕ). l ++ x.0) (c.loop-count.invariant.text told),
    )

pub returns-in-Err-clause-unsynced : goal.returns-in-Err-clause-unsynced
returns-in-Err-clause-unsynced g c told =
    record { count = c.loop-count.count; before = _; moved = c.loop-count.invariant.moved told; stops = inl (omega arith, c.in-Err.ensures.stopped told) }

pub returns-in-Ok-clause-synced : goal.returns-in-Ok-clause-synced
returns-in-Ok-clause-synced g c told =
    let full : c.loop-count.count ≡ 100000 = omega arith in (
      _,
      record { count = c.loop-count.count; before = _; moved = c.loop-count.invariant.moved told; ends = inr (full, refl, ap more_line c.mark.ensures.value) },
      c.in-Ok.ensures ∙ ap (λ (l : List ℕ). l ++ more_line c.mark.result) (c.loop-count.invariant.text told),
    )

pub returns-in-Err-say_more-clause-unsynced : goal.returns-in-Err-say_more-clause-unsynced
returns-in-Err-say_more-clause-unsynced g c told =
    record { count = c.loop-count.count; before = _; moved = c.loop-count.invariant.moved told; stops = inr (omega arith, refl, refl) }
