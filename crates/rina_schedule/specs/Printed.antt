-- Printed lines: single spaces, and one spelling of each field.
use Rattle.std.specs.Prelude.{ℕ, ◌==◌, ◌-◌, ◌^◌, Bool, true, false, List, [], ◌∷◌, ◌++◌, codes, Option, Some, None, if◌then◌else◌}
use Rattle.std.specs.Fmt.{decimal}
use Rattle.rina_cube.specs.declared.Want.{Want}
use Rattle.rina_schedule.specs.declared.event.Event.{Event}
use Rattle.rina_schedule.specs.declared.event.Event.TheVariants as events
use Rattle.rina_schedule.specs.Spelling.{spelling, spaced}

-- an option that is a word, where it is set
unfoldable pub flag_fields : List ℕ → Bool → List (List ℕ)
flag_fields word given = if given then word ∷ [] else []

-- an option that is a word with a number behind it, left out where the number is the default
unfoldable pub setting_fields : List ℕ → ℕ → ℕ → List (List ℕ)
setting_fields word default n = if n == default then [] else (word ++ decimal n) ∷ []

-- the options of alloc, in their order
unfoldable pub want_fields : Want → List (List ℕ)
want_fields w =
    flag_fields (codes "ordered") w.ordered ++ (flag_fields (codes "reliable") w.reliable
    ++ (setting_fields (codes "within=") (2 ^ 32 - 1) w.within ++ setting_fields (codes "size=") 0 w.size))

-- the name of an object, where there is one
unfoldable pub path_fields : Option (List ℕ) → List (List ℕ)
path_fields None = []
path_fields (Some path) = path ∷ []

-- the word of an event
unfoldable pub event_word : Event → List ℕ
event_word (events.Register _ _ _) = codes "register"
event_word (events.Unregister _ _ _) = codes "unregister"
event_word (events.Alloc _ _ _ _ _ _) = codes "alloc"
event_word (events.Accept _ _ _ _) = codes "accept"
event_word (events.Send _ _) = codes "send"
event_word (events.Read _) = codes "read"
event_word (events.State _) = codes "state"
event_word (events.Free _) = codes "free"
event_word (events.Tick _) = codes "tick"
event_word (events.Lose _ _) = codes "lose"
event_word (events.Repeat _ _ _) = codes "repeat"
event_word (events.Hold _ _ _) = codes "hold"
event_word (events.Cut _) = codes "cut"
event_word (events.Mend _) = codes "mend"
event_word (events.Publish _ _ _) = codes "publish"
event_word (events.Enrol _ _ _ _) = codes "enrol"
event_word (events.Member _ _) = codes "member"
event_word (events.In _ _ _) = codes "in"
event_word (events.Out _ _ _) = codes "out"
event_word (events.Clock _ _) = codes "clock"
event_word events.Round = codes "round"
event_word (events.Retire _) = codes "retire"
event_word (events.Cdap _ _ _) = codes "cdap"
event_word (events.Rib _ _ _) = codes "rib"
event_word (events.Ledger _ _) = codes "ledger"
event_word (events.Journal _) = codes "journal"

-- the fields behind the word
unfoldable pub event_fields : Event → List (List ℕ)
event_fields (events.Register fac node app) = fac ∷ node ∷ app ∷ []
event_fields (events.Unregister fac node app) = fac ∷ node ∷ app ∷ []
event_fields (events.Alloc label fac node app to want) = label ∷ fac ∷ node ∷ app ∷ to ∷ want_fields want
event_fields (events.Accept label fac node app) = label ∷ fac ∷ node ∷ app ∷ []
event_fields (events.Send label bytes) = label ∷ spelling bytes ∷ []
event_fields (events.Read label) = label ∷ []
event_fields (events.State label) = label ∷ []
event_fields (events.Free label) = label ∷ []
event_fields (events.Tick count) = decimal count ∷ []
event_fields (events.Lose wire frame) = wire ∷ decimal frame ∷ []
event_fields (events.Repeat wire frame at) = wire ∷ decimal frame ∷ decimal at ∷ []
event_fields (events.Hold wire frame at) = wire ∷ decimal frame ∷ decimal at ∷ []
event_fields (events.Cut wire) = wire ∷ []
event_fields (events.Mend wire) = wire ∷ []
event_fields (events.Publish dif node fac) = dif ∷ node ∷ fac ∷ []
event_fields (events.Enrol dif node fac peer) = dif ∷ node ∷ fac ∷ peer ∷ []
event_fields (events.Member dif node) = dif ∷ node ∷ []
event_fields (events.In dif node link) = dif ∷ node ∷ decimal link ∷ []
event_fields (events.Out dif node link) = dif ∷ node ∷ decimal link ∷ []
event_fields (events.Clock dif node) = dif ∷ node ∷ []
event_fields events.Round = []
event_fields (events.Retire policy) = policy ∷ []
event_fields (events.Cdap dif node bytes) = dif ∷ node ∷ spelling bytes ∷ []
event_fields (events.Rib dif node path) = dif ∷ node ∷ path_fields path
event_fields (events.Ledger dif node) = dif ∷ node ∷ []
event_fields (events.Journal fac) = fac ∷ []

-- the event is about an IPC process of a DIF
abbrev pub is_dif_word : Event → Bool
is_dif_word (events.Publish dif node fac) = true
is_dif_word (events.Enrol dif node fac peer) = true
is_dif_word (events.Member dif node) = true
is_dif_word (events.In dif node link) = true
is_dif_word (events.Out dif node link) = true
is_dif_word (events.Clock dif node) = true
is_dif_word (events.Cdap dif node bytes) = true
is_dif_word (events.Rib dif node path) = true
is_dif_word (events.Ledger dif node) = true
is_dif_word event = false

-- the event names no application
abbrev pub names_no_app : Event → Bool
names_no_app (events.Register fac node app) = false
names_no_app (events.Unregister fac node app) = false
names_no_app (events.Alloc label fac node app to want) = false
names_no_app (events.Accept label fac node app) = false
names_no_app event = true

-- the line of an event
abbrev pub line_text : Event → List ℕ
line_text e = event_word e ++ spaced (event_fields e)
