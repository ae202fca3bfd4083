-- What is printed of outcomes.
use Rattle.std.specs.Prelude.{ℕ, if◌then◌else◌, List, [], ◌∷◌, ◌++◌, codes, decimal, flat_map}
use Rattle.hex.specs.Hex.{encode_lower}
use Rattle.tx_model.specs.Applications.{is_key}
use Rattle.proto_model.specs.declared.message.Phase.{Phase}
use Rattle.proto_model.specs.declared.message.Phase.TheVariants as phase
use Rattle.proto_model.specs.declared.refusal.Refusal.{Refusal}
use Rattle.proto_model.specs.declared.refusal.Refusal.TheVariants as refused
use Rattle.proto_model.specs.declared.refusal.ReadRefusal.{ReadRefusal}
use Rattle.proto_model.specs.declared.refusal.ReadRefusal.TheVariants as unserved
use Rattle.proto_model.specs.declared.refusal.BuildFault.{BuildFault}
use Rattle.proto_model.specs.declared.refusal.BuildFault.TheVariants as unbuilt
use Rattle.net_model.specs.declared.mail.Party.{Party}
use Rattle.net_model.specs.declared.mail.Party.TheVariants as party
use Rattle.net_model.specs.declared.brief.Brief.{Brief}
use Rattle.net_model.specs.declared.brief.Brief.TheVariants as brief
use Rattle.net_model.specs.declared.brief.ToNodeBrief.{ToNodeBrief}
use Rattle.net_model.specs.declared.brief.ToNodeBrief.TheVariants as to_node
use Rattle.net_model.specs.declared.brief.FromNodeBrief.{FromNodeBrief}
use Rattle.net_model.specs.declared.brief.FromNodeBrief.TheVariants as from_node
use Rattle.net_model.specs.declared.brief.ToServerBrief.{ToServerBrief}
use Rattle.net_model.specs.declared.brief.ToServerBrief.TheVariants as to_server
use Rattle.net_model.specs.declared.brief.FromServerBrief.{FromServerBrief}
use Rattle.net_model.specs.declared.brief.FromServerBrief.TheVariants as from_server
use Rattle.net_model.specs.declared.shown.Item.{Item}
use Rattle.net_model.specs.declared.shown.Entry.{Entry}
use Rattle.net_model.specs.declared.outcome.Outcome.{Outcome}
use Rattle.net_model.specs.declared.outcome.Outcome.TheVariants.{Read, Won, Lost, Exhausted, Unread, Wasted, Sent, Quiet, NoEnvelope, Skipped, Torn, Node, Idle, Server, Client, Refused, App, Log, Dump}

abbrev pub party_text : Party → List ℕ
party_text (party.Node i) = codes "n" ++ decimal i
party_text (party.Server v) = codes "s" ++ decimal v
party_text (party.Client c) = codes "c" ++ decimal c

-- ---- reasons

abbrev pub phase_text : Phase → List ℕ
phase_text phase.Idle = codes "idle"
phase_text phase.Opening = codes "opening"
phase_text phase.Fetching = codes "fetching"
phase_text phase.Repairing = codes "repairing"
phase_text phase.Running = codes "running"
phase_text (phase.Closed p) = codes "closed"

-- a key as it stands, and another lock's bytes in hexadecimal
abbrev pub lock_text : List ℕ → List ℕ
lock_text lock = if is_key lock then lock else codes "0x" ++ encode_lower lock

abbrev pub refusal_text : Refusal → List ℕ
refusal_text (refused.NotRunning p) = codes "notrunning " ++ phase_text p
refusal_text (refused.Closed p) = codes "closed " ++ decimal p
refusal_text (refused.MarkAhead last) = codes "markahead " ++ decimal last
refusal_text (refused.Locked lock mark) = codes "locked " ++ (lock_text lock ++ 32 ∷ decimal mark)
refusal_text refused.WindowFull = codes "windowfull"
refusal_text refused.LogFull = codes "logfull"

abbrev pub read_refusal_text : ReadRefusal → List ℕ
read_refusal_text (unserved.NotRunning p) = codes "notrunning " ++ phase_text p
read_refusal_text unserved.BadId = codes "badid"
read_refusal_text (unserved.NotYet committed) = codes "notyet " ++ decimal committed

-- of a fault other than running out of memory
abbrev pub build_fault_text : BuildFault → List ℕ
build_fault_text (unbuilt.BadOps at) = codes "badops " ++ decimal at
build_fault_text unbuilt.TooManyLocks = codes "toomanylocks"
build_fault_text unbuilt.DoubleLock = codes "doublelock"
build_fault_text unbuilt.PayloadTooLong = codes "payloadtoolong"
build_fault_text (unbuilt.Unlocked key) = codes "unlocked " ++ lock_text key
build_fault_text unbuilt.LastRequest = codes "lastrequest"
build_fault_text unbuilt.Memory = []

-- ---- messages

abbrev pub next_number : ℕ → List ℕ
next_number n = 32 ∷ decimal n

-- a word, and then a space and each of these numbers
abbrev pub words_text : List ℕ → List ℕ → List ℕ
words_text word numbers = word ++ flat_map next_number numbers

abbrev pub to_node_text : ToNodeBrief → List ℕ
to_node_text (to_node.Open s) = words_text (codes "open") (s ∷ [])
to_node_text (to_node.Fetch s from max) = words_text (codes "fetch") (s ∷ from ∷ max ∷ [])
to_node_text (to_node.Stage s first count) = words_text (codes "stage") (s ∷ first ∷ count ∷ [])
to_node_text (to_node.Adopt s length) = words_text (codes "adopt") (s ∷ length ∷ [])
to_node_text (to_node.Append s first count) = words_text (codes "append") (s ∷ first ∷ count ∷ [])
to_node_text (to_node.Low s k) = words_text (codes "low") (s ∷ k ∷ [])

abbrev pub from_node_text : FromNodeBrief → List ℕ
from_node_text (from_node.Opened s adopted low length) = words_text (codes "opened") (s ∷ adopted ∷ low ∷ length ∷ [])
from_node_text (from_node.Stale s p) = words_text (codes "stale") (s ∷ p ∷ [])
from_node_text (from_node.Unopened s p) = words_text (codes "unopened") (s ∷ p ∷ [])
from_node_text (from_node.Records s first count) = words_text (codes "records") (s ∷ first ∷ count ∷ [])
from_node_text (from_node.Staged s upto) = words_text (codes "staged") (s ∷ upto ∷ [])
from_node_text (from_node.StageAt s next) = words_text (codes "stageat") (s ∷ next ∷ [])
from_node_text (from_node.Adopted s length) = words_text (codes "adopted") (s ∷ length ∷ [])
from_node_text (from_node.Acked s length) = words_text (codes "acked") (s ∷ length ∷ [])
from_node_text (from_node.Gap s length) = words_text (codes "gap") (s ∷ length ∷ [])
from_node_text (from_node.NotAdopted s adopted) = words_text (codes "notadopted") (s ∷ adopted ∷ [])
from_node_text (from_node.LowSet s low) = words_text (codes "lowset") (s ∷ low ∷ [])

abbrev pub to_server_text : ToServerBrief → List ℕ
to_server_text (to_server.Append request) = words_text (codes "append") (request ∷ [])
to_server_text (to_server.Feed from max) = words_text (codes "feed") (from ∷ max ∷ [])
to_server_text (to_server.Get id) = words_text (codes "get") (id ∷ [])
to_server_text to_server.Flush = words_text (codes "flush") []

abbrev pub from_server_text : FromServerBrief → List ℕ
from_server_text (from_server.Committed request id) = words_text (codes "committed") (request ∷ id ∷ [])
from_server_text (from_server.Pending request id) = words_text (codes "pending") (request ∷ id ∷ [])
from_server_text (from_server.Refused request refusal) = words_text (codes "refused") (request ∷ []) ++ 32 ∷ refusal_text refusal
from_server_text (from_server.Heads from count committed) = words_text (codes "heads") (from ∷ count ∷ committed ∷ [])
from_server_text (from_server.Entry id) = words_text (codes "entry") (id ∷ [])
from_server_text (from_server.Flushed committed) = words_text (codes "flushed") (committed ∷ [])
from_server_text (from_server.Unserved refusal) = codes "unserved " ++ read_refusal_text refusal

abbrev pub brief_text : Brief → List ℕ
brief_text (brief.ToNode m) = to_node_text m
brief_text (brief.FromNode m) = from_node_text m
brief_text (brief.ToServer m) = to_server_text m
brief_text (brief.FromServer m) = from_server_text m

abbrev pub item_text : Item → List ℕ
item_text i = decimal i.number ++ codes " " ++ party_text i.from ++ codes ">" ++ party_text i.to ++ codes " " ++ brief_text i.brief

abbrev pub next_item : Item → List ℕ
next_item i = codes ", " ++ item_text i

-- items with a comma and a space between them
abbrev pub items_text : List Item → List ℕ
items_text [] = []
items_text (i ∷ items) = item_text i ++ flat_map next_item items

-- ---- what is shown

abbrev pub node_text : ℕ → ℕ → ℕ → ℕ → ℕ → List ℕ
node_text node promised adopted low length =
    codes "n" ++ decimal node ++ codes " p=" ++ decimal promised ++ codes " a=" ++ decimal adopted ++ codes " w=" ++ decimal low ++ codes " len=" ++ decimal length

-- a server's phase, and the session that closed it
abbrev pub state_text : Phase → List ℕ
state_text (phase.Closed p) = codes " closed by=" ++ decimal p
state_text p = codes " " ++ phase_text p

abbrev pub server_text : ℕ → Phase → ℕ → ℕ → ℕ → List ℕ
server_text server p session last committed =
    codes "s" ++ decimal server ++ state_text p ++ codes " session=" ++ decimal session ++ codes " last=" ++ decimal last ++ codes " committed=" ++ decimal committed

abbrev pub entry_text : Entry → List ℕ
entry_text e = codes " " ++ decimal e.id ++ codes "/" ++ decimal e.session ++ codes "/" ++ decimal e.client ++ codes "." ++ decimal e.request

-- bytes in hexadecimal, or a hyphen for none
abbrev pub bytes_text : List ℕ → List ℕ
bytes_text [] = codes "-"
bytes_text (b ∷ bytes) = encode_lower (b ∷ bytes)

abbrev pub outcome_text : Outcome → List ℕ
outcome_text (Read x) = codes "read " ++ decimal x
outcome_text (Won x) = codes "won " ++ decimal x
outcome_text (Lost x) = codes "lost " ++ decimal x
outcome_text Exhausted = codes "exhausted"
outcome_text Unread = codes "unread"
outcome_text (Wasted x) = codes "wasted " ++ decimal x
outcome_text (Sent items) = codes "sent " ++ items_text items
outcome_text Quiet = codes "quiet"
outcome_text NoEnvelope = codes "none"
outcome_text (Skipped envelope) = codes "skipped " ++ decimal envelope
outcome_text (Torn node promised adopted low length) = codes "torn " ++ node_text node promised adopted low length
outcome_text (Node node promised adopted low length) = node_text node promised adopted low length
outcome_text (Idle server) = codes "s" ++ decimal server ++ codes " idle"
outcome_text (Server server p session last committed) = server_text server p session last committed
outcome_text (Client client mark) = codes "client " ++ decimal client ++ codes " mark " ++ decimal mark
outcome_text (Refused fault) = codes "refused " ++ build_fault_text fault
outcome_text (App client mark text) = codes "app " ++ decimal client ++ codes " mark=" ++ decimal mark ++ text
outcome_text (Log length entries) = codes "log len=" ++ decimal length ++ flat_map entry_text entries
outcome_text (Dump length bytes) = codes "dump len=" ++ decimal length ++ codes " " ++ bytes_text bytes

abbrev pub outcome_line : Outcome → List ℕ
outcome_line outcome = outcome_text outcome ++ 10 ∷ []

-- the lines of outcomes, in order
abbrev pub printed : List Outcome → List ℕ
printed outcomes = flat_map outcome_line outcomes
