use Rattle.schedule_text.proofs.lines.place.+begins_lists.Given as goal

abbrev pub decreases-begins_lists : goal.decreases-begins_lists
decreases-begins_lists l = l.count
