-- Which words say one thing, and ask no policy.
use Rattle.std.specs.Prelude.{Bool, true, false}
use Rattle.rina_schedule.specs.declared.event.Event.{Event}
use Rattle.rina_schedule.specs.declared.event.Event.TheVariants as events

-- the word is on a wire, or on an IPC process of a DIF
abbrev pub is_below : Event → Bool
is_below (events.Lose wire frame) = true
is_below (events.Repeat wire frame at) = true
is_below (events.Hold wire frame at) = true
is_below (events.Cut wire) = true
is_below (events.Mend wire) = true
is_below (events.In dif node link) = true
is_below (events.Clock dif node) = true
is_below (events.Cdap dif node bytes) = true
is_below (events.Publish dif node fac) = true
is_below (events.Enrol dif node fac peer) = true
is_below (events.Member dif node) = true
is_below _ = false

-- the word says one thing, and asks no policy
abbrev pub says_one : Event → Bool
says_one (events.Register fac node app) = true
says_one (events.Unregister fac node app) = true
says_one (events.Alloc label fac node app to want) = true
says_one (events.Accept label fac node app) = true
says_one (events.Send label bytes) = true
says_one (events.State label) = true
says_one (events.Free label) = true
says_one event = is_below event
