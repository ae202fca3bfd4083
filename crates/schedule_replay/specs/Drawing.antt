-- The events that are drawn, as the code has them.
use Rattle.net_model.specs.declared.event.Event.{Event}
use Rattle.net_model.specs.declared.event.Event.TheVariants as event
use Rattle.schedule_replay.specs.declared.drawn.DrawnEvent.{DrawnEvent}
use Rattle.schedule_replay.specs.declared.drawn.DrawnEvent.TheVariants.{Read, Cas, Tick, Next, Skip, Append, Ask, Deliver, Crash}
use Rattle.schedule_replay.specs.Numbered.{adding}

abbrev pub event_of : DrawnEvent → Event
event_of (Read server) = event.Read server
event_of (Cas server) = event.Cas server
event_of (Tick server) = event.Tick server
event_of Next = event.Next
event_of Skip = event.Skip
event_of (Append client server key) = adding client server key
event_of (Ask client server) = event.Ask client server
event_of (Deliver envelope) = event.Deliver envelope
event_of (Crash node) = event.Crash node
