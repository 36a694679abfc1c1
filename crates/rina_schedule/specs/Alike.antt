-- Words that have the same fields: the event of each, and how it is read.
use Rattle.std.specs.Prelude.{ℕ, List, Result}
use Rattle.rina_schedule.specs.declared.error.LineError.{LineError}
use Rattle.rina_schedule.specs.declared.event.Event.{Event}
use Rattle.rina_schedule.specs.declared.event.Event.TheVariants as events
use Rattle.rina_schedule.specs.declared.words.alike.NameWord.{NameWord}
use Rattle.rina_schedule.specs.declared.words.alike.NameWord.TheVariants as names
use Rattle.rina_schedule.specs.declared.words.alike.AppWord.{AppWord}
use Rattle.rina_schedule.specs.declared.words.alike.AppWord.TheVariants as apps
use Rattle.rina_schedule.specs.declared.words.alike.FrameWord.{FrameWord}
use Rattle.rina_schedule.specs.declared.words.alike.FrameWord.TheVariants as frames
use Rattle.rina_schedule.specs.declared.words.alike.LinkWord.{LinkWord}
use Rattle.rina_schedule.specs.declared.words.alike.LinkWord.TheVariants as links
use Rattle.rina_schedule.specs.declared.words.place.Place.{Place}
use Rattle.rina_schedule.specs.declared.words.place.AppPlace.{AppPlace}
use Rattle.rina_schedule.specs.FlowWords.{register_at, unregister_at, read_at, state_at, free_at}
use Rattle.rina_schedule.specs.WireWords.{repeat_at, hold_at, cut_at, mend_at, retire_at, journal_at}
use Rattle.rina_schedule.specs.DifWords.{in_at, out_at}

-- a word with one field, a name
abbrev pub name_event : NameWord → List ℕ → Event
name_event names.Read name = events.Read name
name_event names.State name = events.State name
name_event names.Free name = events.Free name
name_event names.Cut name = events.Cut name
name_event names.Mend name = events.Mend name
name_event names.Retire name = events.Retire name
name_event names.Journal name = events.Journal name

abbrev pub name_word_at : NameWord → List ℕ → Result Event LineError
name_word_at names.Read text = read_at text
name_word_at names.State text = state_at text
name_word_at names.Free text = free_at text
name_word_at names.Cut text = cut_at text
name_word_at names.Mend text = mend_at text
name_word_at names.Retire text = retire_at text
name_word_at names.Journal text = journal_at text

-- a word about a frame and a tick
abbrev pub frame_event : FrameWord → List ℕ → ℕ → ℕ → Event
frame_event frames.Repeat wire frame at = events.Repeat wire frame at
frame_event frames.Hold wire frame at = events.Hold wire frame at

abbrev pub frame_word_at : FrameWord → List ℕ → Result Event LineError
frame_word_at frames.Repeat text = repeat_at text
frame_word_at frames.Hold text = hold_at text

-- a word for one step at a link
abbrev pub link_event : LinkWord → Place → ℕ → Event
link_event links.In at link = events.In at.fac at.node link
link_event links.Out at link = events.Out at.fac at.node link

abbrev pub link_word_at : LinkWord → List ℕ → Result Event LineError
link_word_at links.In text = in_at text
link_word_at links.Out text = out_at text

-- a word about an application at a node
abbrev pub app_event : AppWord → AppPlace → Event
app_event apps.Register place = events.Register place.at.fac place.at.node place.app
app_event apps.Unregister place = events.Unregister place.at.fac place.at.node place.app

abbrev pub app_word_at : AppWord → List ℕ → Result Event LineError
app_word_at apps.Register text = register_at text
app_word_at apps.Unregister text = unregister_at text
