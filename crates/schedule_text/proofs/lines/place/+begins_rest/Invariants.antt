use Rattle.schedule_text.proofs.lines.place.+begins_rest.Given as goal

abbrev pub decreases-begins_rest : goal.decreases-begins_rest
decreases-begins_rest l = l.count
