-- The definitions of a number's schedule, tried on the first events of number 1.
use Rattle.std.proofs.Common.{◌≡◌, [], ◌∷◌, refl}
use Rattle.net_model.specs.declared.event.Event.TheVariants.{Read, Cas, Next}
use Rattle.schedule_replay.specs.Numbered.{next_state, drawn, numbered_events}

first_state : next_state 1 ≡ 0x6c576fac43fd007c
first_state = refl

first_draw : drawn 1 64 ≡ 22
first_draw = refl

first_events : numbered_events 1 3 ≡ Read 1 ∷ Cas 1 ∷ Next ∷ []
first_events = refl
