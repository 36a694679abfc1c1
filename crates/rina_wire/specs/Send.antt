-- `send` and `pass` on wires.
use Rattle.std.specs.Prelude.{◌≡◌, ℕ, ◌+◌, ◌-◌, ◌%◌, ◌^◌, ◌==◌, nat_le, List, [], ◌∷◌, ◌++◌, length, slice_get, slice_set, Option, Some, None, IfSome, Result, Ok, Err, true, false, option_and_then, option_map, if◌then◌else◌}
use Rattle.std.specs.Option.{option_map_or}
use Rattle.rand_pcg.specs.Lcg.{Lcg}
use Rattle.rina_base.specs.declared.number.Num.{Num}
use Rattle.rina_base.specs.declared.number.Port.{Port}
use Rattle.rina_draws.specs.declared.storm.Fate.{Fate}
use Rattle.rina_draws.specs.declared.storm.Fate.TheVariants.{Lost, Sent}
use Rattle.rina_law.specs.declared.entry.Entry.{Entry}
use Rattle.rina_iface.specs.declared.ends.End.{End}
use Rattle.rina_iface.specs.declared.error.SendError.{SendError}
use Rattle.rina_iface.specs.declared.error.SendError.TheVariants.{Memory, NumbersSpent}
use Rattle.rina_iface.specs.Ends.{with_passed, with_sent}
use Rattle.rina_iface.specs.Send.{IsOwnRefusal, by_length, by_state}
use Rattle.rina_wire.specs.declared.flight.Flight.{Flight}
use Rattle.rina_wire.specs.Air.{Air, Line, Goes, end_at, failed_air, on_end, wire_at}
use Rattle.rina_wire.specs.Storm.{fate_under}

-- what a wire refuses beside what every facility does: its numbers are spent
abbrev pub frame_refusal : Line → Option SendError
frame_refusal l = if nat_le (2 ^ 63) l.frames then Some (NumbersSpent 4294967295) else None

abbrev pub own_send_refusal : Air → Port → Option SendError
own_send_refusal a port = option_and_then frame_refusal (wire_at a port.fac)

frame_own : (l : Line) → IfSome (frame_refusal l) IsOwnRefusal
frame_own l = elim (nat_le (2 ^ 63) l.frames) as (λ b. IfSome (if b then Some (NumbersSpent 4294967295) else None) IsOwnRefusal) [ true ↦ tt | false ↦ tt ]

-- which no facility refuses in the same way
pub refuses_own : (wire : Option Line) → IfSome (option_and_then frame_refusal wire) IsOwnRefusal
refuses_own None = tt
refuses_own (Some l) = frame_own l

-- what must be refused to an SDU of so many bytes, in the order of every facility
abbrev pub send_refusal : Air → Port → ℕ → Option SendError
send_refusal a port len =
    by_state (option_map (λ (e : End). e.state) (end_at a port)) (by_length len (option_map (λ (l : Line). l.largest) (wire_at a port.fac)) (own_send_refusal a port))

-- the number of the next frame
abbrev pub frame_number : ℕ → Num
frame_number frames = record { cep = 0; seq = frames }

-- the place of the other end of the flow; both ends were made together
abbrev pub mate : ℕ → ℕ
mate place = if place % 2 == 0 then place + 1 else place - 1

-- a copy of the next frame, from the end at this place, which arrives so many ticks after the wire's delay
abbrev pub flight_of : ℕ → List ℕ → Line → ℕ → ℕ → Flight
flight_of now bytes l place late = record { to = mate place; frame = l.frames; sent = now; due = now + (l.delay + late); bytes = bytes }

-- the copies of the next frame: none of a frame that is lost, and two of one that is repeated
unfoldable pub flights_of : ℕ → List ℕ → Line → ℕ → Fate → List Flight
flights_of now bytes l place Lost = []
flights_of now bytes l place (Sent late None) = flight_of now bytes l place late ∷ []
flights_of now bytes l place (Sent late (Some again)) = flight_of now bytes l place late ∷ flight_of now bytes l place again ∷ []

-- what becomes of the next frame of the wire, and the generator after it
abbrev pub next_fate : Line → Fate × Lcg
next_fate l = fate_under l.storm l.draws

-- the wire with these copies in flight, this entry noted by the end that sent the frame, and the generator gone on to this one
abbrev pub launched : Line → ℕ → End → List Flight → Entry → Lcg → Line
launched l place e flights x draws =
    record l { ends = slice_set l.ends place (with_sent e x); frames = l.frames + 1; flights = l.flights ++ flights; draws = draws }

-- the entry of the next frame
abbrev pub next_entry : ℕ → List ℕ → Line → Entry
next_entry now bytes l = record { tick = now; num = frame_number l.frames; bytes = bytes }

-- the wire after the end at this place sent a frame, whatever its fate: it is noted, and its copies are in flight
abbrev pub sent_from : ℕ → List ℕ → Line → ℕ → End → Line
sent_from now bytes l place e = launched l place e (flights_of now bytes l place (next_fate l).0) (next_entry now bytes l) (next_fate l).1

-- the wires after the SDU was sent
abbrev pub frame_sent : Air → Port → List ℕ → Air
frame_sent a port bytes = on_end a port (sent_from a.now bytes)

-- the frame was sent, and its number answered
pub record IsFrameSent (a : Air) (port : Port) (refusal : Option SendError) (bytes : List ℕ) (num : Num) (a' : Air) : Type 0 where
  pub goes : Goes a refusal None (frame_sent a port bytes) a'
  pub answers : num ≡ frame_number (option_map_or (λ (l : Line). l.frames) (wire_at a port.fac) 0)

-- what `send` does
abbrev pub SendsOn : Air → Port → List ℕ → Result Num SendError → Air → Type 0
SendsOn a port bytes (Ok num) a' = IsFrameSent a port (send_refusal a port (length bytes)) bytes num a'
SendsOn a port bytes (Err Memory) a' = a' ≡ failed_air a
SendsOn a port bytes (Err e) a' = Goes a (send_refusal a port (length bytes)) (Some e) a a'

-- the oldest entry of the port's end that was not passed yet
abbrev pub unpassed_at : Air → Port → Option Entry
unpassed_at a port = option_and_then (λ (e : End). slice_get e.got e.taken) (end_at a port)

-- the wire after the oldest entry of the end at this place was passed
abbrev pub passed_at : Line → ℕ → End → Line
passed_at l place e = record l { ends = slice_set l.ends place (with_passed e) }

-- the wires after the oldest entry of the port's end was passed
abbrev pub passed : Air → Port → Air
passed a port = on_end a port passed_at
