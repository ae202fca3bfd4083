-- Which line is which value: a first line a cluster, a further line an event, and a line of a client's script.
use Rattle.std.specs.Prelude.{◌≡◌, ℕ, ◌≤◌, List, [], ◌∷◌, length, Some, None}
use Rattle.net_model.specs.declared.event.Event.{Event}
use Rattle.net_model.specs.declared.event.Event.TheVariants as event
use Rattle.net_model.specs.declared.cluster.Cluster.{Cluster}
use Rattle.net_model.specs.Events.{IsInRange}
use Rattle.schedule_text.specs.declared.lines.form.Name.{Name}
use Rattle.schedule_text.specs.declared.lines.form.Form.{Form}
use Rattle.schedule_text.specs.declared.lines.form.Form.TheVariants as form
use Rattle.schedule_text.specs.declared.lines.script.ScriptLine.{ScriptLine}
use Rattle.schedule_text.specs.declared.lines.script.ScriptLine.TheVariants as script
use Rattle.schedule_text.specs.Forms.{row_of}
use Rattle.schedule_text.specs.Lines.{Parts, line_text, HasForm, AreInRanges, IsFirstOut}

-- a word and numbers
abbrev pub plain : Form → List ℕ → Parts
plain f numbers = record { form = f; numbers = numbers; lists = None }

-- a word, numbers, two lists of keys and ops
abbrev pub with_lists : Form → List ℕ → List (List ℕ) → List (List ℕ) → List ℕ → Parts
with_lists f numbers writes reads ops = record { form = f; numbers = numbers; lists = Some (record { writes = writes; reads = reads; ops = ops }) }

-- the parts of an event's line
abbrev pub parts_of : Event → Parts
parts_of (event.Read server) = plain form.Read (server ∷ [])
parts_of (event.Cas server) = plain form.Cas (server ∷ [])
parts_of (event.Waste server) = plain form.Waste (server ∷ [])
parts_of (event.Tick server) = plain form.Tick (server ∷ [])
parts_of event.Next = plain form.Next []
parts_of event.Skip = plain form.Skip []
parts_of (event.Deliver envelope) = plain form.Deliver (envelope ∷ [])
parts_of (event.Tear envelope bytes) = plain form.Tear (envelope ∷ bytes ∷ [])
parts_of (event.Crash node) = plain form.Crash (node ∷ [])
parts_of (event.Restart server) = plain form.Restart (server ∷ [])
parts_of (event.Reboot client) = plain form.Reboot (client ∷ [])
parts_of (event.Append client server writes reads ops) = with_lists form.Append (client ∷ server ∷ []) writes reads ops
parts_of (event.Ask client server) = plain form.Ask (client ∷ server ∷ [])
parts_of (event.Flush client server) = plain form.Flush (client ∷ server ∷ [])
parts_of (event.Show node) = plain form.Show (node ∷ [])
parts_of (event.Server server) = plain form.Server (server ∷ [])
parts_of (event.App client) = plain form.App (client ∷ [])
parts_of (event.Log from) = plain form.Log (from ∷ [])
parts_of (event.Dump node file at) = plain form.Dump (node ∷ file ∷ at ∷ [])

-- the parts of a first line
abbrev pub first_parts : Cluster → Parts
first_parts c = plain form.Cluster (c.nodes ∷ c.servers ∷ c.clients ∷ c.rows ∷ c.slots ∷ [])

-- the parts of a script's line
abbrev pub script_parts : ScriptLine → Parts
script_parts (script.Append writes reads ops) = with_lists form.ScriptAppend [] writes reads ops
script_parts script.Sync = plain form.ScriptSync []
script_parts script.App = plain form.ScriptApp []
script_parts script.Flush = plain form.ScriptFlush []

-- ---- a line in form, whether or not its numbers are in range

pub record SpellsLine (line : List ℕ) (p : Parts) : Type 0 where
  pub short : length line ≤ 512
  pub text : line ≡ line_text p
  pub form : HasForm p

abbrev pub SpellsEvent : List ℕ → Event → Type 0
SpellsEvent line e = SpellsLine line (parts_of e)

abbrev pub SpellsCluster : List ℕ → Cluster → Type 0
SpellsCluster line c = SpellsLine line (first_parts c)

abbrev pub SpellsScript : List ℕ → ScriptLine → Type 0
SpellsScript line s = SpellsLine line (script_parts s)

-- a line is an event, with its numbers in range
abbrev pub IsEventLine : Cluster → List ℕ → Type 0
IsEventLine cluster line = (e : Event) × SpellsEvent line e × IsInRange cluster e

abbrev pub IsScriptLine : List ℕ → Type 0
IsScriptLine line = (s : ScriptLine) × SpellsScript line s

-- ---- the numbers of a line in form, by the table of the forms

-- each is in its range
abbrev pub AreInRange : Cluster → Parts → Type 0
AreInRange cluster p = AreInRanges cluster (row_of p.form).names p.numbers

-- one is not, and the first such number has this name
abbrev pub IsOutOfRange : Cluster → Parts → Name → Type 0
IsOutOfRange cluster p name = IsFirstOut cluster (row_of p.form).names p.numbers name

-- the ranges of a first line's numbers go by no cluster
abbrev pub no_cluster : Cluster
no_cluster = record { nodes = 0; servers = 0; clients = 0; rows = 0; slots = 0 }

-- a line is in form, and the first of its numbers that is out of range has this name
abbrev pub IsEventOutOfRange : Cluster → List ℕ → Name → Type 0
IsEventOutOfRange cluster line name = (e : Event) × SpellsEvent line e × IsOutOfRange cluster (parts_of e) name

abbrev pub IsClusterOutOfRange : List ℕ → Name → Type 0
IsClusterOutOfRange line name = (c : Cluster) × SpellsCluster line c × IsOutOfRange no_cluster (first_parts c) name
