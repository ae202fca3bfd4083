-- Which numbers an event may have in a cluster.
use Rattle.std.specs.Prelude.{◌≤◌, ◌<◌, ◌^◌, ◌-◌, ⊤}
use Rattle.net_model.specs.declared.cluster.Cluster.{Cluster}
use Rattle.net_model.specs.declared.event.Event.{Event}
use Rattle.net_model.specs.declared.event.Event.TheVariants.{Read, Cas, Waste, Tick, Next, Skip, Deliver, Tear, Crash, Restart, Reboot, Append, Ask, Flush, Show, Server, App, Log, Dump}
use Rattle.net_model.specs.Clusters.{IsWithin}

abbrev pub IsInRange : Cluster → Event → Type 0
IsInRange c (Read server) = IsWithin c.servers server
IsInRange c (Cas server) = IsWithin c.servers server
IsInRange c (Waste server) = IsWithin c.servers server
IsInRange c (Tick server) = IsWithin c.servers server
IsInRange c Next = ⊤
IsInRange c Skip = ⊤
IsInRange c (Deliver envelope) = IsWithin (2 ^ 32 - 1) envelope
IsInRange c (Tear envelope bytes) = IsWithin (2 ^ 32 - 1) envelope × (bytes ≤ 1000000)
IsInRange c (Crash node) = IsWithin c.nodes node
IsInRange c (Restart server) = IsWithin c.servers server
IsInRange c (Reboot client) = IsWithin c.clients client
IsInRange c (Append client server writes reads ops) = IsWithin c.clients client × IsWithin c.servers server
IsInRange c (Ask client server) = IsWithin c.clients client × IsWithin c.servers server
IsInRange c (Flush client server) = IsWithin c.clients client × IsWithin c.servers server
IsInRange c (Show node) = IsWithin c.nodes node
IsInRange c (Server server) = IsWithin c.servers server
IsInRange c (App client) = IsWithin c.clients client
IsInRange c (Log from) = IsWithin (2 ^ 48 - 1) from
IsInRange c (Dump node file at) = IsWithin c.nodes node × (file < 2 ^ 32) × (at < 2 ^ 32)
