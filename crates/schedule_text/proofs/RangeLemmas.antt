-- The ranges by the table of the forms are those of events and clusters.
use Rattle.std.proofs.Common.{◌≡◌, ℕ, ◌≤◌, arith, refl}
use Rattle.net_model.specs.declared.event.Event.{Event}
use Rattle.net_model.specs.declared.event.Event.TheVariants as event
use Rattle.net_model.specs.declared.cluster.Cluster.{Cluster}
use Rattle.net_model.specs.Clusters.{IsWithin, IsClusterInRange}
use Rattle.net_model.specs.Events.{IsInRange}
use Rattle.schedule_text.specs.declared.lines.form.Name.{Name}
use Rattle.schedule_text.specs.declared.lines.form.Name.TheVariants.{Nodes, Servers, Clients, Rows, Slots, Server, Client, Node, Envelope, Bytes, From, File, At}
use Rattle.schedule_text.specs.Forms.{least, most}
use Rattle.schedule_text.specs.Lines.{IsInRangeOf}
use Rattle.schedule_text.specs.Spellings.{parts_of, first_parts, no_cluster, AreInRange}
use Rattle.schedule_text.specs.ReadingLaws.{RangesAreOne}

-- a number from 1 to the most
to_within : (cluster : Cluster) (name : Name) (n : ℕ) → least name ≡ 1 → IsInRangeOf cluster name n → IsWithin (most cluster name) n
to_within cluster name n e is = record { some = omega (arith, is.some, e); fits = is.fits }

from_within : (cluster : Cluster) (name : Name) (n : ℕ) → least name ≡ 1 → IsWithin (most cluster name) n → IsInRangeOf cluster name n
from_within cluster name n e is = record { some = omega (arith, is.some, e); fits = is.fits }

-- a number from 0 on
from_most : (cluster : Cluster) (name : Name) (n : ℕ) → least name ≡ 0 → n ≤ most cluster name → IsInRangeOf cluster name n
from_most cluster name n e fits = record { some = omega (arith, e); fits = fits }

pub event_range : (cluster : Cluster) (e : Event) → AreInRange cluster (parts_of e) → IsInRange cluster e
event_range c (event.Read v) is = to_within c Server v refl is.0
event_range c (event.Cas v) is = to_within c Server v refl is.0
event_range c (event.Waste v) is = to_within c Server v refl is.0
event_range c (event.Tick v) is = to_within c Server v refl is.0
event_range c event.Next is = tt
event_range c event.Skip is = tt
event_range c (event.Deliver e) is = to_within c Envelope e refl is.0
event_range c (event.Tear e b) is = (to_within c Envelope e refl is.0, is.1.0.fits)
event_range c (event.Crash i) is = to_within c Node i refl is.0
event_range c (event.Restart v) is = to_within c Server v refl is.0
event_range c (event.Reboot i) is = to_within c Client i refl is.0
event_range c (event.Append i v w r o) is = (to_within c Client i refl is.0, to_within c Server v refl is.1.0)
event_range c (event.Ask i v) is = (to_within c Client i refl is.0, to_within c Server v refl is.1.0)
event_range c (event.Flush i v) is = (to_within c Client i refl is.0, to_within c Server v refl is.1.0)
event_range c (event.Show i) is = to_within c Node i refl is.0
event_range c (event.Server v) is = to_within c Server v refl is.0
event_range c (event.App i) is = to_within c Client i refl is.0
event_range c (event.Log f) is = to_within c From f refl is.0
event_range c (event.Dump i f a) is = let file = is.1.0.fits in let place = is.1.1.0.fits in (to_within c Node i refl is.0, omega arith, omega arith)

pub table_range : (cluster : Cluster) (e : Event) → IsInRange cluster e → AreInRange cluster (parts_of e)
table_range c (event.Read v) is = (from_within c Server v refl is, tt)
table_range c (event.Cas v) is = (from_within c Server v refl is, tt)
table_range c (event.Waste v) is = (from_within c Server v refl is, tt)
table_range c (event.Tick v) is = (from_within c Server v refl is, tt)
table_range c event.Next is = tt
table_range c event.Skip is = tt
table_range c (event.Deliver e) is = (from_within c Envelope e refl is, tt)
table_range c (event.Tear e b) is = (from_within c Envelope e refl is.0, (from_most c Bytes b refl is.1, tt))
table_range c (event.Crash i) is = (from_within c Node i refl is, tt)
table_range c (event.Restart v) is = (from_within c Server v refl is, tt)
table_range c (event.Reboot i) is = (from_within c Client i refl is, tt)
table_range c (event.Append i v w r o) is = (from_within c Client i refl is.0, (from_within c Server v refl is.1, tt))
table_range c (event.Ask i v) is = (from_within c Client i refl is.0, (from_within c Server v refl is.1, tt))
table_range c (event.Flush i v) is = (from_within c Client i refl is.0, (from_within c Server v refl is.1, tt))
table_range c (event.Show i) is = (from_within c Node i refl is, tt)
table_range c (event.Server v) is = (from_within c Server v refl is, tt)
table_range c (event.App i) is = (from_within c Client i refl is, tt)
table_range c (event.Log f) is = (from_within c From f refl is, tt)
table_range c (event.Dump i f a) is = let file = is.1 in let place = is.2 in (from_within c Node i refl is.0, (from_most c File f refl (omega arith), (from_most c At a refl (omega arith), tt)))

pub cluster_range : (c : Cluster) → AreInRange no_cluster (first_parts c) → IsClusterInRange c
cluster_range c is = record {
  nodes = to_within no_cluster Nodes c.nodes refl is.0;
  servers = to_within no_cluster Servers c.servers refl is.1.0;
  clients = to_within no_cluster Clients c.clients refl is.1.1.0;
  rows = to_within no_cluster Rows c.rows refl is.1.1.1.0;
  slots = to_within no_cluster Slots c.slots refl is.1.1.1.1.0;
}

pub first_range : (c : Cluster) → IsClusterInRange c → AreInRange no_cluster (first_parts c)
first_range c is =
    let nodes = from_within no_cluster Nodes c.nodes refl is.nodes in
    let servers = from_within no_cluster Servers c.servers refl is.servers in
    let clients = from_within no_cluster Clients c.clients refl is.clients in
    let rows = from_within no_cluster Rows c.rows refl is.rows in
    let slots = from_within no_cluster Slots c.slots refl is.slots in
    (nodes, (servers, (clients, (rows, (slots, tt)))))

pub ranges_one : RangesAreOne
ranges_one = record {
  events = λ cluster e. (event_range cluster e, table_range cluster e);
  clusters = λ c. (cluster_range c, first_range c);
}
