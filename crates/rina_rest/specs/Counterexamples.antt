-- Rules on ids of which one is not that of this crate, and for each a run that breaks what is promised.
use Rattle.std.specs.Prelude.{◌≡◌, ℕ, ◌+◌, ◌≤◌, List, [], ◌∷◌, Some, None, slice_get}
use Rattle.rina_cube.specs.Cubes.{IsCube}
use Rattle.rina_law.specs.Constants.{Constants}
use Rattle.rina_law.specs.Counterexamples.{slow, old_rows}
use Rattle.rina_law.specs.Direction.{Row as DirectionRow, start, IsRun, after}
use Rattle.rina_law.specs.Lawful.{IsAlive}
use Rattle.rina_law.specs.Line.{InFlight}
use Rattle.rina_law.specs.Sender.{Ack}
use Rattle.rina_rest.specs.Flows.{Endpoint, HasSameId, Asker, Far, Flow, IsFree, IsInUse, IsSameFour, Four, Goes}
use Rattle.rina_rest.specs.Laws.{MayCome}
use Rattle.rina_rest.specs.Ledger.{empty, Row, Time, Ask, Make, Tell, EndAsker, EndFar, Send, entered, asked_flow, made, told_flow, ended_asker, ended_far, IsAllowed, IsHistory, ledger_after}
use Rattle.rina_rest.specs.Still.{HasEnded, DrawnIsStill}

-- The addresses 1 and 2. Member 1 draws id 7 for each flow that it asks for

abbrev pub end_of_2 : ℕ → Endpoint
end_of_2 cep = record { addr = 2; cep = cep; ended = None }

abbrev pub from_1 : ℕ → ℕ → InFlight Four
from_1 dcep death = record { pdu = record { src = 1; scep = 7; dst = 2; dcep = dcep }; death = death }

abbrev pub from_2 : ℕ → ℕ → InFlight Four
from_2 scep death = record { pdu = record { src = 2; scep = scep; dst = 1; dcep = 7 }; death = death }

-- a flow that member 1 asks member 2 for
abbrev pub flow_of : ℕ → ℕ → Flow
flow_of now rest = asked_flow now rest 2 1 7

-- The own address and CEP-id are no key. Ids rest for 6 ticks, as on a datagram cube with `mpl` 2. The asker's end of flow 0
-- ends, and its id is drawn again for flow 1 while the far end of flow 0 stands and sends

abbrev pub left : Flow
left = ended_asker 0 (made (flow_of 0 6) 5)

abbrev pub two_rows : List Row
two_rows =
    Ask 6 2 1 7 ∷ Make 0 (flow_of 0 6) 5 ∷ EndAsker 0 (made (flow_of 0 6) 5) ∷ Time 6 ∷
    Ask 6 2 1 7 ∷ Make 1 (flow_of 6 6) 6 ∷ Tell 1 (made (flow_of 6 6) 6) ∷
    Send 0 left (end_of_2 5) Far (from_2 5 8) ∷ []

-- two connections in use whose askers have one id, and a PDU that is not dead and goes to the end of the one that stands,
-- and is of the other
pub record OwnIdIsShared (rows : List Row) (i k : ℕ) (f g : Flow) (p : InFlight Four) : Type 0 where
  pub run : IsHistory empty rows
  pub f_stands : slice_get (ledger_after empty rows).flows i ≡ Some f
  pub g_stands : slice_get (ledger_after empty rows).flows k ≡ Some g
  pub apart : i ≡ k → ⊥
  pub f_used : IsInUse (ledger_after empty rows).now f
  pub g_used : IsInUse (ledger_after empty rows).now g
  pub same : HasSameId f.asker g.asker
  pub stands : g.asker.ended ≡ None
  pub comes : MayCome (ledger_after empty rows) p
  pub goes : Goes f_used.far f.asker p.pdu

abbrev pub OwnIdIsNoKey : Type 0
OwnIdIsNoKey = OwnIdIsShared two_rows 0 1 left (told_flow (made (flow_of 6 6) 6)) (from_2 5 8)

-- An ask that is as old as its rest makes a far end. Ids rest for 6 ticks again. The ask of flow 0 is late. Flow 1 has the
-- asker's id since, and its far end, with id 5, ended, so that 5 is drawn again for flow 0

abbrev pub used_up : Flow
used_up = told_flow (made (flow_of 6 6) 5)

abbrev pub closed : Flow
closed = ended_far 6 used_up (end_of_2 5)

abbrev pub late_rows : List Row
late_rows =
    Ask 6 2 1 7 ∷ EndAsker 0 (flow_of 0 6) ∷ Time 6 ∷
    Ask 6 2 1 7 ∷ Make 1 (flow_of 6 6) 5 ∷ Tell 1 (made (flow_of 6 6) 5) ∷ EndFar 1 used_up (end_of_2 5) ∷ Time 6 ∷
    Send 1 closed (record (end_of_2 5) { ended = Some 6 }) Asker (from_1 5 14) ∷ []

-- all but its age allows the ask at i to make a far end. After that two connections in use have one pair of addresses and
-- one pair of CEP-ids, and a PDU that is not dead is of both
pub record OldAskIsMixed (rows : List Row) (i k : ℕ) (f g : Flow) (cep : ℕ) (p : InFlight Four) : Type 0 where
  pub run : IsHistory empty rows
  pub stands : slice_get (ledger_after empty rows).flows i ≡ Some f
  pub none : f.far ≡ None
  pub old : f.asked + f.rest ≤ (ledger_after empty rows).now
  pub free : IsFree (ledger_after empty rows).now (ledger_after empty rows).flows f.peer cep
  pub made_stands : slice_get (entered (ledger_after empty rows) (Make i f cep)).flows i ≡ Some (made f cep)
  pub g_stands : slice_get (entered (ledger_after empty rows) (Make i f cep)).flows k ≡ Some g
  pub apart : i ≡ k → ⊥
  pub f_used : IsInUse (ledger_after empty rows).now (made f cep)
  pub g_used : IsInUse (ledger_after empty rows).now g
  pub same : IsSameFour f.asker f_used.far g.asker g_used.far
  pub comes : MayCome (ledger_after empty rows) p
  pub goes : Goes g.asker g_used.far p.pdu
  pub mixed : Goes f.asker f_used.far p.pdu

abbrev pub OldAskBreaks : Type 0
OldAskBreaks = OldAskIsMixed late_rows 0 1 (ended_asker 0 (flow_of 0 6)) closed 5 (from_1 5 14)

-- Ids that rest too short, by the cube with `mpl` 40, `r` 10, `a` 1 and `delta` 51. The asker sends a piece at tick 0 and
-- is freed. The far end acknowledges it at tick 91, the last one at which it may. At tick 131 the asker's id is drawn again

abbrev pub sending : ℕ → Flow
sending rest = told_flow (made (flow_of 0 rest) 5)

abbrev pub freed : ℕ → Flow
freed rest = ended_asker 0 (sending rest)

abbrev pub short_rows : ℕ → List Row
short_rows rest =
    Ask rest 2 1 7 ∷ Make 0 (flow_of 0 rest) 5 ∷ Tell 0 (made (flow_of 0 rest) 5) ∷ Send 0 (sending rest) (end_of_2 5) Asker (from_1 5 40) ∷ EndAsker 0 (sending rest) ∷
    Time 91 ∷ Send 0 (freed rest) (end_of_2 5) Far (from_2 5 131) ∷ Time 40 ∷ []

-- the asker's direction and the ledger have one clock; the direction's sender ended when its id began to rest; that id has
-- rested, and is drawn again. But an acknowledgement of the direction is not dead, and goes to this id
pub record RestIsShort (rest : Constants → ℕ) (c : Constants) (rows : List DirectionRow) (history : List Row) (f : Flow) (k : InFlight Ack) (p : InFlight Four) : Type 0 where
  pub cube : IsCube c.cube
  pub run : IsRun c (start c) rows
  pub history_is : IsHistory empty history
  pub clock : (after c (start c) rows).line.clock ≡ (ledger_after empty history).now
  pub stands : slice_get (ledger_after empty history).flows 0 ≡ Some f
  pub rests : f.rest ≡ rest c
  pub ended : (t : ℕ) → f.asker.ended ≡ Some t → HasEnded (after c (start c) rows) t
  pub drawn : IsAllowed (ledger_after empty history) (Ask (rest c) f.peer f.asker.addr f.asker.cep)
  pub alive : IsAlive (after c (start c) rows).line (after c (start c) rows).line.acks k
  pub comes : MayCome (ledger_after empty history) p
  pub same : p.death ≡ k.death
  pub to : (p.pdu.dst ≡ f.asker.addr) × (p.pdu.dcep ≡ f.asker.cep)
  pub insufficient : DrawnIsStill rest → ⊥

-- where ids rest for so many ticks, as `2 * delta`, or `2 * mpl + delta`
abbrev pub ShortRestBreaks : (Constants → ℕ) → Type 0
ShortRestBreaks rest = RestIsShort rest slow old_rows (short_rows (rest slow)) (freed (rest slow)) (record { pdu = record { ack = 0; right = 3 }; death = 131 }) (from_2 5 131)
