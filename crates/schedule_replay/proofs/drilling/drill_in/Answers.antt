use Rattle.std.proofs.Common.{rules, inr}
use Rattle.schedule_replay.proofs.DrillLemmas.{prints_counts, prints_part}
use Rattle.schedule_replay.proofs.drilling.drill_in.Goals as goal

pub returns-in-Ok-write_all-clause-drill : goal.returns-in-Ok-write_all-clause-drill
returns-in-Ok-write_all-clause-drill g c =
    prints_counts c.args.number c.args.events c.in-Ok.summary _ _ c.as_bytes.result.now c.in-Ok.ensures (search rules) (search rules)

pub returns-in-Err-Failed-clause-drill : goal.returns-in-Err-Failed-clause-drill
returns-in-Err-Failed-clause-drill g c =
    prints_part c.args.number c.args.events c.in-Ok.summary _ _ c.as_bytes.result.now c.in-Ok.ensures (search rules) (search rules)

pub returns-clause-drill : goal.returns-clause-drill
returns-clause-drill g c =
    inr (search rules, prints_part c.args.number c.args.events c.in-Ok.summary _ _ c.as_bytes.result.now c.in-Ok.ensures (search rules) (search rules))
