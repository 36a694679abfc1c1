-- The ranges of the fields of an event.
use Rattle.std.specs.Prelude.{ℕ, ◌≡◌, ◌<◌, ◌≤◌, ◌^◌, List, Option, Some, None, Ok, true, slice_index}
use Rattle.rina_base.specs.Names.{name_at, app_at}
use Rattle.rina_cube.specs.declared.Want.{Want}
use Rattle.rina_schedule.specs.declared.event.Event.{Event}
use Rattle.rina_schedule.specs.declared.event.Event.TheVariants as events
use Rattle.rina_base.specs.ObjectNames.{is_object_name}

abbrev pub IsName : List ℕ → Type 0
IsName text = name_at text ≡ Ok text

abbrev pub IsApp : List ℕ → Type 0
IsApp text = app_at text ≡ Ok text

abbrev pub IsNumber : ℕ → Type 0
IsNumber n = n < 2 ^ 32

abbrev pub IsBytes : List ℕ → Type 0
IsBytes bytes = (i : ℕ) → slice_index bytes i < 256

abbrev pub IsPath : Option (List ℕ) → Type 0
IsPath None = Unit {0}
IsPath (Some path) = is_object_name path ≡ true

abbrev pub IsWant : Want → Type 0
IsWant want = IsNumber want.within × IsNumber want.size

-- an event that a line can ask for
abbrev pub IsEvent : Event → Type 0
IsEvent (events.Register fac node app) = IsName fac × IsName node × IsApp app
IsEvent (events.Unregister fac node app) = IsName fac × IsName node × IsApp app
IsEvent (events.Alloc label fac node app to want) = IsName label × IsName fac × IsName node × IsApp app × IsApp to × IsWant want
IsEvent (events.Accept label fac node app) = IsName label × IsName fac × IsName node × IsApp app
IsEvent (events.Send label bytes) = IsName label × IsBytes bytes
IsEvent (events.Read label) = IsName label
IsEvent (events.State label) = IsName label
IsEvent (events.Free label) = IsName label
IsEvent (events.Tick count) = (1 ≤ count) × (count ≤ 100000)
IsEvent (events.Lose wire frame) = IsName wire × IsNumber frame
IsEvent (events.Repeat wire frame at) = IsName wire × IsNumber frame × IsNumber at
IsEvent (events.Hold wire frame at) = IsName wire × IsNumber frame × IsNumber at
IsEvent (events.Cut wire) = IsName wire
IsEvent (events.Mend wire) = IsName wire
IsEvent (events.Publish dif node fac) = IsName dif × IsName node × IsName fac
IsEvent (events.Enrol dif node fac peer) = IsName dif × IsName node × IsName fac × IsName peer
IsEvent (events.Member dif node) = IsName dif × IsName node
IsEvent (events.In dif node link) = IsName dif × IsName node × IsNumber link
IsEvent (events.Out dif node link) = IsName dif × IsName node × IsNumber link
IsEvent (events.Clock dif node) = IsName dif × IsName node
IsEvent events.Round = Unit {0}
IsEvent (events.Retire policy) = IsName policy
IsEvent (events.Cdap dif node bytes) = IsName dif × IsName node × IsBytes bytes
IsEvent (events.Rib dif node path) = IsName dif × IsName node × IsPath path
IsEvent (events.Ledger dif node) = IsName dif × IsName node
IsEvent (events.Journal fac) = IsName fac
