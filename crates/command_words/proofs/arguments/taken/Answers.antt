use Rattle.command_words.proofs.Matches.{left_true}
use Rattle.command_words.proofs.arguments.taken.Goals as goal

pub returns-in-Ok : goal.returns-in-Ok
returns-in-Ok c simple =
    (record { plain = c.if-not-are_plain.ensures.yes; faultless = c.in-Ok.ensures.kinds simple }, (c.in-Ok.ensures.matches (left_true _ _ simple)).0)
