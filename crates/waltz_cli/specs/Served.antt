-- What the commands of the program have in common.
use Rattle.std.specs.Prelude.{⊤}
use Rattle.command_words.specs.declared.command.Command.{Command}
use Rattle.command_words.specs.declared.command.Command.TheVariants.{Client, Stop}

-- those that ask who serves
abbrev pub IsAsking : Command → Type 0
IsAsking (Client id server) = ⊤
IsAsking (Stop port) = ⊤
IsAsking _ = ⊥
