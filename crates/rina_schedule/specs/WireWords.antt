-- The words about wires, the clock, policies and journals, and the fields behind each.
use Rattle.std.specs.Prelude.{ℕ, ◌&&◌, nat_le, List, Result, Ok}
use Rattle.rina_base.specs.Traverse.{◌>>=◌}
use Rattle.rina_schedule.specs.declared.error.LineError.{LineError}
use Rattle.rina_schedule.specs.declared.error.LineError.TheVariants as errors
use Rattle.rina_schedule.specs.declared.event.Event.{Event}
use Rattle.rina_schedule.specs.declared.event.Event.TheVariants as events
use Rattle.rina_schedule.specs.Gives.{guard}
use Rattle.rina_schedule.specs.Fields.{name_field_at, number_at, end_at}

-- lose WIRE K
unfoldable pub lose_at : List ℕ → Result Event LineError
lose_at text = do
  wire ← name_field_at 1 text
  frame ← number_at 2 wire.1
  _ ← end_at 3 frame.1
  Ok (events.Lose wire.0 frame.0)

-- repeat WIRE K TICK
unfoldable pub repeat_at : List ℕ → Result Event LineError
repeat_at text = do
  wire ← name_field_at 1 text
  frame ← number_at 2 wire.1
  at ← number_at 3 frame.1
  _ ← end_at 4 at.1
  Ok (events.Repeat wire.0 frame.0 at.0)

-- hold WIRE K TICK
unfoldable pub hold_at : List ℕ → Result Event LineError
hold_at text = do
  wire ← name_field_at 1 text
  frame ← number_at 2 wire.1
  at ← number_at 3 frame.1
  _ ← end_at 4 at.1
  Ok (events.Hold wire.0 frame.0 at.0)

-- cut WIRE
unfoldable pub cut_at : List ℕ → Result Event LineError
cut_at text = do
  wire ← name_field_at 1 text
  _ ← end_at 2 wire.1
  Ok (events.Cut wire.0)

-- mend WIRE
unfoldable pub mend_at : List ℕ → Result Event LineError
mend_at text = do
  wire ← name_field_at 1 text
  _ ← end_at 2 wire.1
  Ok (events.Mend wire.0)

-- tick N, from 1 to 100,000
unfoldable pub tick_at : List ℕ → Result Event LineError
tick_at text = do
  count ← number_at 1 text
  _ ← guard (nat_le 1 count.0 && nat_le count.0 100000) (errors.BadNumber 1)
  _ ← end_at 2 count.1
  Ok (events.Tick count.0)

-- round
unfoldable pub round_at : List ℕ → Result Event LineError
round_at text = do
  _ ← end_at 1 text
  Ok events.Round

-- retire POLICY
unfoldable pub retire_at : List ℕ → Result Event LineError
retire_at text = do
  policy ← name_field_at 1 text
  _ ← end_at 2 policy.1
  Ok (events.Retire policy.0)

-- journal FAC
unfoldable pub journal_at : List ℕ → Result Event LineError
journal_at text = do
  fac ← name_field_at 1 text
  _ ← end_at 2 fac.1
  Ok (events.Journal fac.0)
