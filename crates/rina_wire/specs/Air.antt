-- What a contract sees of wires.
use Rattle.std.specs.Prelude.{◌≡◌, ℕ, Bool, true, false, List, [], ◌∷◌, map, slice_get, slice_set, Option, Some, None, option_and_then, option_map}
use Rattle.rand_pcg.specs.Lcg.{Lcg}
use Rattle.rina_base.specs.declared.number.Port.{Port}
use Rattle.rina_base.specs.declared.storm.Storm.{Storm}
use Rattle.rina_iface.specs.declared.ask.Registered.{Registered}
use Rattle.rina_iface.specs.declared.ends.End.{End}
use Rattle.rina_iface.specs.Ends.{end_in, place_in}
use Rattle.rina_iface.specs.Seen.{Fac, Offer, Seen}
use Rattle.rina_wire.specs.declared.flight.Flight.{Flight}

-- a wire
pub record Line : Type 0 where
  pub a : ℕ  -- the node at its first end
  pub b : ℕ  -- the node at its second end
  pub delay : ℕ  -- ticks from the acceptance of a frame to its arrival, where no storm makes it late
  pub life : ℕ  -- ticks that a frame lives at most
  pub largest : ℕ  -- bytes of an SDU, at most
  pub ends : List End  -- its journal
  pub waiting : List ℕ  -- the places of the far ends that nobody has claimed yet, the oldest first
  pub names : List Registered  -- the applications that are registered, each with its node
  pub flows : ℕ  -- how many flows were asked for
  pub frames : ℕ  -- how many frames were sent, over both directions
  pub flights : List Flight  -- the copies of frames in flight, in the order in which they were made
  pub cut : Bool  -- it is cut, and may not be asked for
  pub storm : Option Storm  -- what loses, repeats and delays its frames
  pub draws : Lcg  -- the generator that the storm draws from for the next frame

-- all wires, and the clock
pub record Air : Type 0 where
  pub now : ℕ
  pub wires : List Line
  pub failed : Bool  -- an allocation has failed

-- the one cube of a wire
abbrev pub offer_of : Line → Offer
offer_of l = record { id = 0; kind = None; promise = l.life; largest = l.largest }

-- the facility that a wire is
abbrev pub fac_of : Line → Fac
fac_of l = record { ends = l.ends; waiting = l.waiting; names = l.names; members = l.a ∷ l.b ∷ []; cubes = offer_of l ∷ []; admits = 1 }

-- the facilities that the wires are
abbrev pub seen_of : Air → Seen
seen_of a = record { now = a.now; facs = map fac_of a.wires }

-- the wire of this number
abbrev pub wire_at : Air → ℕ → Option Line
wire_at a fac = slice_get a.wires fac

-- the end of a port
abbrev pub end_at : Air → Port → Option End
end_at a port = option_and_then (λ (l : Line). end_in port l.ends) (wire_at a port.fac)

abbrev pub put : List Line → ℕ → Option Line → List Line
put wires fac None = wires
put wires fac (Some l) = slice_set wires fac l

-- the wires with this change to one of them, where it is there
abbrev pub on_wire : Air → ℕ → (Line → Line) → Air
on_wire a fac change = record a { wires = put a.wires fac (option_map change (wire_at a fac)) }

abbrev pub put_at : (Line → ℕ → End → Line) → Line → ℕ → Option End → Line
put_at change l place None = l
put_at change l place (Some e) = change l place e

abbrev pub put_end : (Line → ℕ → End → Line) → Line → Option ℕ → Line
put_end change l None = l
put_end change l (Some place) = put_at change l place (slice_get l.ends place)

-- the wires with this change to the one that has an end of this port, told its place and the end
abbrev pub on_end : Air → Port → (Line → ℕ → End → Line) → Air
on_end a port change = on_wire a port.fac (λ (l : Line). put_end change l (place_in port l.ends))

-- the wires after an allocation has failed
abbrev pub failed_air : Air → Air
failed_air a = record a { failed = true }

-- the wires had not failed, the call had this to refuse or nothing, and the wires became these
pub record Goes {E : Type 0} (a : Air) (refusal told : Option E) (made a' : Air) : Type 0 where
  pub alive : a.failed ≡ false
  pub refused : refusal ≡ told
  pub air : a' ≡ made
