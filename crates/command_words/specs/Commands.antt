-- The words of a command line, and the command that they are.
use Rattle.std.specs.Prelude.{◌≡◌, ℕ, ◌≤◌, ◌<◌, ◌^◌, ◌-◌, List, [], ◌∷◌, length, take, map, codes, decimal, slice_index, vec_len, Contains, ⊤}
use Rattle.std.specs.List.{AllByRecursion}
use Rattle.server_host.specs.declared.serve.Setting.{Setting}
use Rattle.command_words.specs.declared.command.Command.{Command}
use Rattle.command_words.specs.declared.command.Command.TheVariants.{Replay, Generate, Drill, Storage, Register, Server, Client, Stop}

-- the numbers of a setting, in their order
abbrev pub setting_numbers : Setting → List ℕ
setting_numbers s = s.port ∷ s.register ∷ s.rows ∷ s.slots ∷ s.nodes.items

-- the words of a command
abbrev pub words_of : Command → List (List ℕ)
words_of Replay = codes "replay" ∷ []
words_of (Generate number events) = codes "generate" ∷ decimal number ∷ decimal events ∷ []
words_of (Drill number events) = codes "drill" ∷ decimal number ∷ decimal events ∷ []
words_of (Storage port) = codes "storage" ∷ decimal port ∷ []
words_of (Register port) = codes "register" ∷ decimal port ∷ []
words_of (Server setting) = codes "server" ∷ map decimal (setting_numbers setting)
words_of (Client id server) = codes "client" ∷ decimal id ∷ decimal server ∷ []
words_of (Stop port) = codes "stop" ∷ decimal port ∷ []

-- ---- the ranges of its numbers

pub record IsWithin (least most n : ℕ) : Type 0 where
  pub from : least ≤ n
  pub to : n ≤ most

abbrev pub IsPort : ℕ → Type 0
IsPort = IsWithin 1 65535

-- no number stands among those before it
abbrev pub AreDifferent : List ℕ → Type 0
AreDifferent ns = (i : ℕ) → i < length ns → ¬ Contains (take i ns) (slice_index ns i)

-- one to seven different ports
pub record AreNodePorts (ports : List ℕ) : Type 0 where
  pub count : IsWithin 1 7 (length ports)
  pub each : AllByRecursion IsPort ports
  pub different : AreDifferent ports

pub record IsSetting (s : Setting) : Type 0 where
  pub port : IsPort s.port
  pub register : IsPort s.register
  pub rows : IsWithin 1 8 s.rows
  pub slots : IsWithin 1 4096 s.slots
  pub nodes : AreNodePorts s.nodes.items
  pub sized : vec_len s.nodes ≡ length s.nodes.items

-- any number, and how many events
abbrev pub IsScheduleNumbers : ℕ → ℕ → Type 0
IsScheduleNumbers number events = IsWithin 0 (2 ^ 64 - 1) number × IsWithin 1 20000 events

abbrev pub IsCommand : Command → Type 0
IsCommand Replay = ⊤
IsCommand (Generate number events) = IsScheduleNumbers number events
IsCommand (Drill number events) = IsScheduleNumbers number events
IsCommand (Storage port) = IsPort port
IsCommand (Register port) = IsPort port
IsCommand (Server setting) = IsSetting setting
IsCommand (Client id server) = IsWithin 0 (2 ^ 64 - 1) id × IsPort server
IsCommand (Stop port) = IsPort port

-- these words are this command
pub record AreWordsOf (words : List (List ℕ)) (c : Command) : Type 0 where
  pub range : IsCommand c
  pub are : words ≡ words_of c

-- these words are in no form
abbrev pub AreNoWords : List (List ℕ) → Type 0
AreNoWords words = (c : Command) → AreWordsOf words c → ⊥

-- the words are of no command of which this holds
abbrev pub HaveNo : (Command → Type 0) → List (List ℕ) → Type 0
HaveNo Holds words = (c : Command) → AreWordsOf words c → Holds c → ⊥

-- ---- what a command uses, beside the output

abbrev pub UsesSource : Command → Type 0
UsesSource Replay = ⊤
UsesSource (Client id server) = ⊤
UsesSource _ = ⊥

abbrev pub UsesDisk : Command → Type 0
UsesDisk (Storage port) = ⊤
UsesDisk (Register port) = ⊤
UsesDisk _ = ⊥

abbrev pub UsesPort : Command → Type 0
UsesPort (Storage port) = ⊤
UsesPort (Register port) = ⊤
UsesPort (Server setting) = ⊤
UsesPort _ = ⊥

abbrev pub UsesLink : Command → Type 0
UsesLink (Server setting) = ⊤
UsesLink (Client id server) = ⊤
UsesLink (Stop port) = ⊤
UsesLink _ = ⊥
