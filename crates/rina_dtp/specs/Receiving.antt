-- What a receiver keeps, and what it does with a piece in the terms of that.
use Rattle.std.specs.Prelude.{◌≡◌, ℕ, ◌+◌, ◌-◌, ◌*◌, ◌<◌, ◌≤◌, Bool, true, false, ◌&&◌, nat_lt, List, [], ◌∷◌, ◌++◌, length, map, filter, Option, Some, None, if◌then◌else◌}
use Rattle.rina_base.specs.declared.cause.Cause.{Cause}
use Rattle.rina_base.specs.declared.cause.Cause.TheVariants as cause
use Rattle.rina_base.specs.declared.number.Key.{Key}
use Rattle.rina_base.specs.declared.pdu.Pdu.{Pdu}
use Rattle.rina_cube.specs.Cubes.{IsCube, delta_of}
use Rattle.rina_cube.specs.declared.Cube.{Cube}
use Rattle.rina_cube.specs.declared.Kind.{Kind}
use Rattle.rina_cube.specs.declared.Kind.TheVariants as kinds
use Rattle.rina_delim.specs.declared.joiner.Run.{Run}
use Rattle.rina_delim.specs.Joining.{piece, empty}
use Rattle.rina_dtp.specs.declared.accepted.Accepted.{Accepted}
use Rattle.rina_dtp.specs.declared.accepted.Accepted.TheVariants.{Reliable}
use Rattle.rina_dtp.specs.declared.gap.Gap.{Gap}
use Rattle.rina_dtp.specs.declared.source.Source.{Source}
use Rattle.rina_dtp.specs.declared.verdict.Verdict.{Verdict}
use Rattle.rina_dtp.specs.declared.verdict.Verdict.TheVariants.{Accept, Hold, Off}
use Rattle.rina_dtp.specs.Accepted.{number_verdict, top_of, IsCounted, Follows, HasSlotsFor, IsFresh}
use Rattle.rina_dtp.specs.Joins as joins
use Rattle.rina_dtp.specs.Joins.{Joins, IsJoined}
use Rattle.rina_dtp.specs.declared.gap.Lost.{Lost}
use Rattle.rina_dtp.specs.Lost.{numbers_from, lost_with}
use Rattle.rina_dtp.specs.Shelf.{Shelved, holds, with_piece}
use Rattle.rina_dtp.specs.Source.{source_of, key_at}
use Rattle.rina_law.specs.Receiver as law

-- `rest` is `2 * delta`, how long state stands. `going` are the pieces of the joiner that an end of the state gave up
pub record Receiving : Type 0 where
  pub window : ℕ
  pub rest : ℕ
  pub made : Bool
  pub last_in : ℕ
  pub closed : Bool
  pub source : Source
  pub accepted : Accepted
  pub going : Option Run
  pub join : Joins

pub record IsSound (r : Receiving) : Type 0 where
  pub slots : HasSlotsFor r.accepted r.join.slots
  pub most : r.join.slots ≤ 256
  pub last_in : r.last_in ≤ 10000000
  pub rest : r.rest ≤ 6000000

-- how many SDUs one piece can make whole at most
abbrev pub slots_of : Kind → ℕ → ℕ
slots_of kinds.Reliable window = window
slots_of _ window = 1

-- a receiver of a cube to which nothing came yet
pub record StartsFresh (cube : Cube) (size : ℕ) (r : Receiving) : Type 0 where
  pub cube_is : IsCube cube
  pub window : r.window ≡ cube.window
  pub rest : r.rest ≡ 2 * delta_of cube
  pub made : r.made ≡ false
  pub last_in : r.last_in ≡ 0
  pub closed : r.closed ≡ false
  pub accepted : IsFresh cube size r.accepted
  pub going : r.going ≡ None
  pub join : r.join ≡ record { joining = empty cube.largest; whole = []; gaps = []; filled = 0; slots = slots_of cube.kind cube.window }

-- state stands
abbrev pub present_at : ℕ → Receiving → Bool
present_at now r = r.made && nat_lt now (r.last_in + r.rest)

-- The pieces that are given up

-- from one number to another
abbrev pub numbers_to : ℕ → ℕ → List ℕ
numbers_to from last = from ∷ numbers_from (from + 1) (last - from)

abbrev pub lost_in : List Gap → List Lost
lost_in [] = []
lost_in (g ∷ gs) = lost_with g.missing (numbers_to g.from g.last) ++ lost_in gs

abbrev pub run_numbers : Option Run → List ℕ
run_numbers None = []
run_numbers (Some run) = numbers_to run.from run.last

-- the numbers of held pieces, rising
abbrev pub held_in : Shelved → List ℕ
held_in s = filter (holds s.places) (numbers_from s.next (length s.places))

abbrev pub held_numbers : Accepted → List ℕ
held_numbers (Reliable s) = held_in s
held_numbers _ = []

-- the pieces that were accepted and wait for the rest of their SDU, and then those that are held
abbrev pub kept_numbers : Receiving → List ℕ
kept_numbers r = run_numbers r.going ++ run_numbers r.join.joining.held ++ held_numbers r.accepted

-- why what is kept is given up: the connection closed, or its state is gone
abbrev pub end_cause : ℕ → Receiving → Option Cause
end_cause now r = if r.closed then Some (cause.NoConnection r.source.dcep) else (if present_at now r then None else Some (cause.StateGone r.last_in))

abbrev pub ended_with : Source → Option Cause → List ℕ → List (Key × Cause)
ended_with source None ns = []
ended_with source (Some why) ns = map (λ n. (key_at source n, why)) ns

abbrev pub broken_with : Source → List Lost → List (Key × Cause)
broken_with source ls = map (λ (l : Lost). (key_at source l.number, cause.Broken l.missing)) ls

-- all that `dropped` gives, one after the other
abbrev pub drops : ℕ → Receiving → List (Key × Cause)
drops now r = broken_with r.source (lost_in r.join.gaps) ++ ended_with r.source (end_cause now r) (kept_numbers r)

-- A piece that comes

-- what was not fetched is forgotten
abbrev pub cleared : Receiving → Receiving
cleared r = record r { going = None; join = joins.cleared r.join }

-- where no state stands, nothing is joined with what came before
abbrev pub start_join : Bool → Joins → Joins
start_join true j = j
start_join false j = record j { joining = empty j.joining.largest }

abbrev pub verdict_for : Option ℕ → ℕ → Verdict
verdict_for None whole = Accept whole
verdict_for (Some missing) whole = Off (cause.Broken missing)

-- it is counted, joined, and followed by those that are held
pub record IsAccepted (present : Bool) (now : ℕ) (pdu : Pdu) (old : Receiving) (result : Verdict) (new : Receiving) : Type 0 where
  pub counted : Accepted
  pub count : IsCounted present pdu.seq old.accepted counted
  pub missing : Option ℕ
  pub between : Joins
  pub joined : IsJoined (piece pdu.seq pdu.first pdu.last pdu.body) (start_join present old.join) missing between
  pub follows : Follows counted between new.accepted new.join
  pub result_is : result ≡ verdict_for missing (length new.join.whole)
  pub new_is : new ≡ record old { made = true; last_in = now; source = source_of pdu; accepted = new.accepted; join = new.join }

-- it is held, where it has its place
abbrev pub IsHeldIn : Accepted → ℕ → Pdu → Receiving → Verdict → Receiving → Type 0
IsHeldIn (Reliable s) now pdu old result new = length pdu.body ≤ s.piece → pdu.seq < s.next + length s.places →
    (result ≡ Hold) × (new ≡ record old { last_in = now; source = source_of pdu; accepted = Reliable (record s { places = with_piece pdu.seq pdu.first pdu.last pdu.body s.places }) })
IsHeldIn _ now pdu old result new = Unit {0}

-- by the verdict of the numbers
abbrev pub IsStep : law.Verdict → Bool → ℕ → Pdu → Receiving → Verdict → Receiving → Type 0
IsStep law.Accepted present now pdu old result new = IsAccepted present now pdu old result new
IsStep law.Held present now pdu old result new = IsHeldIn old.accepted now pdu old result new
IsStep law.Duplicate present now pdu old result new = (result ≡ Off (cause.Duplicate (record { cep = pdu.scep; seq = pdu.seq }))) × (new ≡ record old { last_in = now })
IsStep law.Behind present now pdu old result new = (result ≡ Off (cause.Behind (top_of old.accepted))) × (new ≡ record old { last_in = now })
IsStep law.NoState present now pdu old result new = (result ≡ Off (cause.NoState pdu.drf)) × (new ≡ old)
IsStep law.NoRoom present now pdu old result new = (result ≡ Off (cause.NoRoom old.window)) × (new ≡ old)

-- the whole call
abbrev pub Steps : ℕ → Pdu → ℕ → Receiving → Verdict → Receiving → Type 0
Steps now pdu unpassed old result new =
    IsStep (law.with_room (nat_lt unpassed old.window) (number_verdict (present_at now old) old.accepted pdu.seq pdu.drf)) (present_at now old) now pdu (cleared old) result new
