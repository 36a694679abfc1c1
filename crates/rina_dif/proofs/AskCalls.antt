-- What asking for a flow is to the rank of a DIF.
use Rattle.std.proofs.Common.{◌≡◌, ◌∙◌, ℕ, Bool, false, List, [], ◌∷◌, ◌++◌, Option, Some, Result, Ok, Err, option_map, refl, sym, ap, arith}
use Rattle.rina_base.specs.declared.number.FlowName.{FlowName}
use Rattle.rina_base.specs.declared.number.Port.{Port}
use Rattle.rina_cube.specs.Cubes.{fits}
use Rattle.rina_iface.specs.declared.ask.Ask.{Ask}
use Rattle.rina_iface.specs.declared.error.AllocateError.{AllocateError}
use Rattle.rina_iface.specs.declared.error.AllocateError.TheVariants.{Memory}
use Rattle.rina_iface.specs.declared.state.PortState.TheVariants.{Pending}
use Rattle.rina_iface.specs.Allocate.{Allocates, IsAsked, asker_end, next_port, refused_in}
use Rattle.rina_iface.specs.Seen.{Fac, Seen, with_fac}
use Rattle.rina_law.specs.Direction.{Direction}
use Rattle.rina_dif_law.specs.Binding.{flow_next}
use Rattle.rina_dif_law.specs.Dif.{DifSeen, fac_of, offer_of}
use Rattle.rina_dif_law.proofs.Asked.{asked_later}
use Rattle.rina_dif_law.proofs.Keepers.{facility, offered_by}
use Rattle.rina_dif.specs.declared.dif.Dif.{Dif}
use Rattle.rina_dif.specs.Allocating.{allocate_refusal}
use Rattle.rina_dif.specs.Facade.{GoesOn, IsShownAs, StaysStanding, shown_as}
use Rattle.rina_dif.specs.Holding.{Holds, Stands}
use Rattle.rina_dif.specs.Requesting.{AsksAs, AsksAt, AsksTo}
use Rattle.rina_dif.specs.Shown.{seen_of}
use Rattle.rina_dif.specs.Whole.{IsDif}
use Rattle.rina_dif.proofs.Enrolled.{stay_same}
use Rattle.rina_dif.proofs.Facing.{same_goes_on, unchanged}
use Rattle.rina_dif.proofs.Refused.{offered_is}
use Rattle.rina_dif.proofs.Requested.{by_own_id, cubes_apart}

-- Whether an allocation failed is noted

noted : (d : Dif) (lines : List Direction) (below : Seen) (failed : Bool) → d.failed ≡ false → Holds d lines below → Holds (record d { failed = failed }) lines below
noted d lines below failed alive h = record { tied = h.tied; standing = h.standing; carrying = h.carrying; numbered = h.numbered; accounted = h.accounted; caused = h.caused; written_off = h.written_off; housed = h.housed; managed = h.managed; enrolled = h.enrolled; connected = h.connected; flooded = λ same. h.flooded alive }

noted_as : (refusal : Option AllocateError) (d : Dif) (lines : List Direction) (below : Seen) (ask : Ask) (r : Result Port AllocateError) (d' : Dif) (failed : Bool) → d'.failed ≡ false → AsksAs refusal d lines below ask r d' → AsksAs refusal d lines below ask r (record d' { failed = failed })
noted_as refusal d lines below ask (Ok port) d' failed alive x = (let a = x.1 in (x.0, record { lines' = a.lines'; cube = a.cube; meets = a.meets; peer = a.peer; known = a.known; asked = a.asked; port_is = a.port_is; holds = noted d' a.lines' below failed alive a.holds }))
noted_as refusal d lines below ask (Err Memory) d' failed alive x = (x.0, noted d' lines below failed alive x.1)
noted_as refusal d lines below ask (Err e) d' failed alive x = (x.0, x.1, noted d' lines below failed alive x.2)

-- what `allocate` does, on whatever the DIF stands
abbrev pub DoesAsk : Dif → Ask → Result Port AllocateError → Dif → Type 0
DoesAsk d ask r d' = (lines : List Direction) (below : Seen) → Holds d lines below → AsksTo d lines below ask r d'

pub asks_noted : (d : Dif) (ask : Ask) (r : Result Port AllocateError) (d' : Dif) (failed : Bool) → d'.failed ≡ false → DoesAsk d ask r d' → DoesAsk d ask r (record d' { failed = failed })
asks_noted d ask r d' failed alive does lines below h = noted_as (refused_in (Some (fac_of (seen_of d))) ask (allocate_refusal d ask)) d lines below ask r d' failed alive (does lines below h)

-- A failed DIF does nothing
pub asks_none : (d : Dif) (ask : Ask) → DoesAsk d ask (Err Memory) d
asks_none d ask lines below h = (refl, h)

-- What the rank shows

asked_shown : (s : Seen) (d : Dif) (lines : List Direction) (below : Seen) (ask : Ask) (port : Port) (d' : Dif) → IsDif d → d.settings.fac ≡ ask.fac → IsShownAs s ask.fac d → AsksAt d lines below ask port d' → IsAsked s ask port (shown_as s ask.fac d')
asked_shown s d lines below ask port d' is fac shows a =
    let flow : FlowName = flow_next (seen_of d) ask.node a.asked.member in
    let made_by : Port → Fac = λ p. record (fac_of (seen_of d)) { ends = d.flows.journal.ends ++ asker_end flow p ask a.cube.id Pending ∷ [] } in
    record {
      facility = fac_of (seen_of d);
      stands = shows.here;
      cube = offer_of a.cube;
      offer = offered_is ask.want d.settings.cubes ∙ ap (option_map offer_of) a.meets;
      by_id = offered_by a.cube.id d.settings.cubes ∙ ap (option_map offer_of) (by_own_id (fits ask.want) d.settings.cubes a.cube (cubes_apart d is) a.meets);
      fresh = a.port_is ∙ ap (λ (f : ℕ). next_port (fac_of (seen_of d)) f ask.node) fac;
      flow = flow;
      at = sym shows.clock;
      state = Pending;
      facility' = made_by port;
      makes = refl;
      new_is = ap (λ (x : DifSeen). with_fac s ask.fac (fac_of x)) a.asked.new_is ∙ ap (λ (p : Port). with_fac s ask.fac (made_by p)) (sym a.port_is);
    }

shown_by : (s : Seen) (d : Dif) (lines : List Direction) (below : Seen) (ask : Ask) (r : Result Port AllocateError) (d' : Dif) → IsDif d → d.settings.fac ≡ ask.fac → IsShownAs s ask.fac d → AsksTo d lines below ask r d' → Allocates (allocate_refusal d ask) s ask r (shown_as s ask.fac d')
shown_by s d lines below ask (Ok port) d' is fac shows x = (ap (λ (f : Option Fac). refused_in f ask (allocate_refusal d ask)) shows.here ∙ x.0, asked_shown s d lines below ask port d' is fac shows x.1)
shown_by s d lines below ask (Err Memory) d' is fac shows x = unchanged s ask.fac d d' shows x.0
shown_by s d lines below ask (Err e) d' is fac shows x = (ap (λ (f : Option Fac). refused_in f ask (allocate_refusal d ask)) shows.here ∙ x.0, unchanged s ask.fac d d' shows x.1)

pub asks_shown : (s : Seen) (d : Dif) (ask : Ask) (r : Result Port AllocateError) (d' : Dif) → IsDif d → d.settings.fac ≡ ask.fac → IsShownAs s ask.fac d → DoesAsk d ask r d' → Allocates (allocate_refusal d ask) s ask r (shown_as s ask.fac d')
asks_shown s d ask r d' is fac shows does = shown_by s d is.stands.0 is.below ask r d' is fac shows (does is.stands.0 is.below is.stands.1)

-- It goes on as a facility, and stands wherever it stood

pub asks_go_on : (d : Dif) (ask : Ask) (r : Result Port AllocateError) (d' : Dif) → IsDif d → DoesAsk d ask r d' → GoesOn d d'
asks_go_on d ask r d' is does = go r (does is.stands.0 is.below is.stands.1)
  where
    go : (r : Result Port AllocateError) → AsksTo d is.stands.0 is.below ask r d' → GoesOn d d'
    go (Ok port) x =
        let a = x.1 in
        record {
          later = asked_later (seen_of d) is.stands.0 is.below is.stands.1.standing is.stands.1.numbered (record { node = ask.node; app = ask.app; to = ask.to; cube = a.cube.id; peer = a.peer }) (seen_of d') a.lines' a.asked;
          facility = facility (seen_of d') a.lines' is.below a.holds.standing;
          clock = ap (λ (y : DifSeen). y.clock) a.asked.new_is;
          enrolled = stay_same d.enrolled d'.enrolled (ap (λ (y : DifSeen). y.enrolled) a.asked.new_is);
        }
    go (Err Memory) x = same_goes_on d d' is x.0
    go (Err e) x = same_goes_on d d' is x.1

stands_by : (d : Dif) (lines : List Direction) (below : Seen) (ask : Ask) (r : Result Port AllocateError) (d' : Dif) → AsksTo d lines below ask r d' → Stands d' below
stands_by d lines below ask (Ok port) d' x = (x.1.lines', x.1.holds)
stands_by d lines below ask (Err Memory) d' x = (lines, x.1)
stands_by d lines below ask (Err e) d' x = (lines, x.2)

pub asks_stay : (d : Dif) (ask : Ask) (r : Result Port AllocateError) (d' : Dif) → DoesAsk d ask r d' → StaysStanding d d'
asks_stay d ask r d' does below st = stands_by d st.0 below ask r d' (does st.0 below st.1)

pub asks_valid : (d : Dif) (ask : Ask) (r : Result Port AllocateError) (d' : Dif) → IsDif d → d'.clock ≡ d.clock → DoesAsk d ask r d' → IsDif d'
asks_valid d ask r d' is clock does = record { below = is.below; stands = asks_stay d ask r d' does is.below is.stands; clock = (let c = is.clock in omega (arith, c, clock)) }
