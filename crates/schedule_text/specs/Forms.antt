-- The table of the forms: the first word of each line, the names of its numbers, and their ranges.
use Rattle.std.specs.Prelude.{◌≡◌, ℕ, Bool, true, false, List, [], ◌∷◌, codes, bytes_eq, if◌then◌else◌, Option, Some, None}
use Rattle.schedule_text.specs.declared.lines.form.Name.{Name}
use Rattle.schedule_text.specs.declared.lines.form.Name.TheVariants.{Nodes, Servers, Clients, Rows, Slots, Server, Client, Node, Envelope, Bytes, From, File, At}
use Rattle.schedule_text.specs.declared.lines.form.Form.{Form}
use Rattle.schedule_text.specs.declared.lines.form.Form.TheVariants as form
use Rattle.net_model.specs.declared.cluster.Cluster.{Cluster}

-- a form's line: its first word, its numbers, and whether two lists of keys and ops follow them
pub record Row : Type 0 where
  pub word : List ℕ
  pub names : List Name
  pub lists : Bool

-- a line of a word and numbers
abbrev pub plain : List ℕ → List Name → Row
plain word names = record { word = word; names = names; lists = false }

-- a line of a word, numbers, two lists of keys and ops
abbrev pub with_lists : List ℕ → List Name → Row
with_lists word names = record { word = word; names = names; lists = true }

abbrev pub row_of : Form → Row
row_of form.Cluster = plain (codes "cluster") (Nodes ∷ Servers ∷ Clients ∷ Rows ∷ Slots ∷ [])
row_of form.Read = plain (codes "read") (Server ∷ [])
row_of form.Cas = plain (codes "cas") (Server ∷ [])
row_of form.Waste = plain (codes "waste") (Server ∷ [])
row_of form.Tick = plain (codes "tick") (Server ∷ [])
row_of form.Next = plain (codes "next") []
row_of form.Skip = plain (codes "skip") []
row_of form.Deliver = plain (codes "deliver") (Envelope ∷ [])
row_of form.Tear = plain (codes "tear") (Envelope ∷ Bytes ∷ [])
row_of form.Crash = plain (codes "crash") (Node ∷ [])
row_of form.Restart = plain (codes "restart") (Server ∷ [])
row_of form.Reboot = plain (codes "reboot") (Client ∷ [])
row_of form.Append = with_lists (codes "append") (Client ∷ Server ∷ [])
row_of form.Ask = plain (codes "ask") (Client ∷ Server ∷ [])
row_of form.Flush = plain (codes "flush") (Client ∷ Server ∷ [])
row_of form.Show = plain (codes "show") (Node ∷ [])
row_of form.Server = plain (codes "server") (Server ∷ [])
row_of form.App = plain (codes "app") (Client ∷ [])
row_of form.Log = plain (codes "log") (From ∷ [])
row_of form.Dump = plain (codes "dump") (Node ∷ File ∷ At ∷ [])
row_of form.ScriptAppend = with_lists (codes "append") []
row_of form.ScriptSync = plain (codes "sync") []
row_of form.ScriptApp = plain (codes "app") []
row_of form.ScriptFlush = plain (codes "flush") []

-- ---- the ranges of numbers, by their names

abbrev pub least : Name → ℕ
least Bytes = 0
least File = 0
least At = 0
least _ = 1

abbrev pub most : Cluster → Name → ℕ
most cluster Nodes = 7
most cluster Servers = 9
most cluster Clients = 9
most cluster Rows = 8
most cluster Slots = 4096
most cluster Server = cluster.servers
most cluster Client = cluster.clients
most cluster Node = cluster.nodes
most cluster Envelope = 4294967295
most cluster Bytes = 1000000
most cluster From = 281474976710655
most cluster File = 4294967295
most cluster At = 4294967295

abbrev pub name_text : Name → List ℕ
name_text Nodes = codes "nodes"
name_text Servers = codes "servers"
name_text Clients = codes "clients"
name_text Rows = codes "rows"
name_text Slots = codes "slots"
name_text Server = codes "server"
name_text Client = codes "client"
name_text Node = codes "node"
name_text Envelope = codes "envelope"
name_text Bytes = codes "bytes"
name_text From = codes "from"
name_text File = codes "file"
name_text At = codes "at"

-- ---- the forms of some lines, as those of events or of a client's script

-- the form whose first word this is
abbrev pub form_named : List Form → List ℕ → Option Form
form_named [] word = None
form_named (f ∷ forms) word = if bytes_eq (row_of f).word word then Some f else form_named forms word

-- a form is one of these: it is found by its word
abbrev pub IsAmong : List Form → Form → Type 0
IsAmong forms f = form_named forms (row_of f).word ≡ Some f
