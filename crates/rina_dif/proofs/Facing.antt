-- A DIF is a facility of its rank.
use Rattle.std.proofs.Common.{◌≡◌, ◌∙◌, ℕ, ◌+◌, ◌*◌, ◌<◌, ◌≤◌, ◌==◌, ◌&&◌, ◌||◌, Bool, true, false, List, [], ◌∷◌, length, map, slice_get, Option, Some, None, Result, Ok, Err, cond, option_and_then, option_map, refl, sym, ap, subst, arith}
use Rattle.std.specs.Prelude.{IsSome, nat_le, nat_lt}
use Rattle.std.proofs.lemmas.Bool.{false≢true}
use Rattle.std.proofs.lemmas.Bool.Decides.{nat_tests}
use Rattle.std.proofs.lemmas.Option.{slice_get_within}
use Rattle.rina_base.specs.declared.number.Num.{Num}
use Rattle.rina_base.specs.declared.number.Port.{Port}
use Rattle.rina_conn.specs.declared.conn.Conn.{Conn}
use Rattle.rina_conn.specs.declared.sending.Sending.{Sending}
use Rattle.rina_conn.specs.Sending.{IsSender}
use Rattle.rina_cube.specs.declared.Cube.{Cube}
use Rattle.rina_cube.specs.declared.Kind.{Kind}
use Rattle.rina_cube.specs.declared.Kind.TheVariants.{Datagram, Loose, Reliable}
use Rattle.rina_cube.specs.Cubes.{IsCube, delta_of}
use Rattle.rina_dtcp.specs.Senders.{Kept}
use Rattle.rina_iface.specs.declared.ends.End.{End}
use Rattle.rina_iface.specs.declared.error.SendError.{SendError}
use Rattle.rina_iface.specs.declared.error.SendError.TheVariants as errors
use Rattle.rina_iface.specs.declared.state.PortState.{PortState}
use Rattle.rina_iface.specs.Ends.{has_port, place_in}
use Rattle.rina_iface.specs.Seen.{Fac, Offer, Seen, cube_at, cube_in, largest_at, state_of, with_fac}
use Rattle.rina_iface.specs.Later.{IsLaterFac}
use Rattle.rina_iface.specs.Pass.{IsPassed as PassesThere}
use Rattle.rina_iface.specs.Send.{Sends, by_length, by_state, refused}
use Rattle.rina_iface.proofs.Changed.{slice_set-same}
use Rattle.rina_iface.proofs.Found.{end_of_stands}
use Rattle.rina_iface.proofs.Later.{fac_refl}
use Rattle.rina_law.specs.declared.entry.Entry.{Entry}
use Rattle.rina_law.specs.Constants.{Constants}
use Rattle.rina_law.specs.Direction.{Direction}
use Rattle.rina_law.specs.Pieces.{Part, IsCut, join}
use Rattle.rina_law.specs.Sender as law
use Rattle.rina_law.specs.Sender.{Member, Refusal, Sender, TooLong, is_absent, is_empty, refusal, started}
use Rattle.rina_data.specs.Configs.{Config, config_of, cube_by, piece_size}
use Rattle.rina_dif_law.specs.Dif.{DifSeen, fac_of, offer_of}
use Rattle.rina_dif_law.specs.Facade.{IsShown, own_refusal as own_there}
use Rattle.rina_dif_law.specs.Sending.{Offers, by_sender}
use Rattle.rina_dif_law.specs.Standing.{IsConfig}
use Rattle.rina_dif_law.specs.Upward.{IsFacility}
use Rattle.rina_dif_law.proofs.Facades.{offers_send, passed_there, same_refusals}
use Rattle.rina_dif_law.proofs.Keepers.{facility, offered_by}
use Rattle.rina_dif_law.proofs.Upper.{offers_later, passed_later}
use Rattle.rina_dif_law.proofs.Finding.{beside, cube_limits}
use Rattle.rina_flows.specs.Calls.{AreParts}
use Rattle.rina_flows.specs.Tied.{IsAt, ids_of, outward}
use Rattle.rina_flows.proofs.Counted.{cut_count}
use Rattle.rina_flows.proofs.Framed.{ids_at}
use Rattle.rina_queue.proofs.Places.{first_passes}
use Rattle.rina_dif.specs.declared.dif.Dif.{Dif}
use Rattle.rina_dif.specs.Facade.{GoesOn, IsShownAs, RankShows, StaysStanding, cube_there, is_idle, is_over, its_cube, its_end, its_oldest, own_of, own_refusal, pieces_in, refusal_by, shown_as, way_refusal}
use Rattle.rina_dif.specs.Holding.{Holds, Passes, Stands as StandsOn}
use Rattle.rina_dif.specs.Sending.{SendsAt, SendsNowhere}
use Rattle.rina_dif.specs.Sending as sent
use Rattle.rina_dif.specs.Shown.{seen_of}
use Rattle.rina_dif.specs.Whole.{IsDif}
use Rattle.rina_dif.proofs.Enrolled.{stay_same}
use Rattle.rina_dif.proofs.Barred.{line_there, refused_is, sender_refusal}

pub rank_shows : RankShows
rank_shows s d port h = record { end = rw h.here refl; cube = rw h.here refl; oldest = rw h.here refl }

-- the offer of a port is that of its cube
offer_there : (cubes : List Cube) (o : Option End) → option_and_then (λ (e : End). cube_in (map offer_of cubes) e.cube) o ≡ option_map offer_of (option_and_then (λ (e : End). cube_by e.cube cubes) o)
offer_there cubes None = refl
offer_there cubes (Some e) = offered_by e.cube cubes

pub offer_is : (d : Dif) (port : Port) (o : Option Cube) → cube_there d port ≡ o → its_cube d port ≡ option_map offer_of o
offer_is d port o is = offer_there d.settings.cubes (its_end d port) ∙ ap (option_map offer_of) is

limits_there : (g : Config) (o : Option End) (cube : Cube) → IsConfig g → option_and_then (λ (e : End). cube_by e.cube g.cubes) o ≡ Some cube → IsCube cube
limits_there g None cube config is = absurd cc
limits_there g (Some e) cube config is = cube_limits g e.cube cube config is

pub limits_of : (d : Dif) (port : Port) (cube : Cube) → IsDif d → cube_there d port ≡ Some cube → IsCube cube
limits_of d port cube is there = limits_there (config_of d.settings) (its_end d port) cube is.stands.1.standing.config there

-- What the sender refuses

empty_is : (run : List Member) → is_empty run ≡ (length run == 0)
empty_is [] = refl
empty_is (m ∷ ms) = grind (arith, nat_tests)

idle_is : (kind : Kind) (m : Sender) (k : Kept) → k.count ≡ length m.run → k.acked ≡ m.acked → law.is_idle kind m ≡ is_idle kind k
idle_is Datagram m k count acked = refl
idle_is Loose m k count acked = refl
idle_is Reliable m k count acked = (λ i. nat_le (sym count i) (sym acked i))

-- the state of the sender is over exactly where the machine's sender has none
over_is : (c : Constants) (now : ℕ) (m : Sender) (s : Sending) → IsSender c m s → is_absent c now m ≡ is_over now s
over_is c now m s h =
    let empty : is_empty m.run ≡ (s.tx.count == 0) = empty_is m.run ∙ ap (λ (n : ℕ). n == 0) (sym h.tx.count) in
    let idle : law.is_idle c.cube.kind m ≡ is_idle s.form.cube.kind s.tx = idle_is c.cube.kind m s.tx h.tx.count h.tx.acked ∙ ap (λ (k : Kind). is_idle k s.tx) (ap (λ (x : Cube). x.kind) (sym h.cube)) in
    let late : nat_le (m.last_out + 3 * delta_of c.cube) now ≡ nat_le (s.tx.last_out + 3 * delta_of s.form.cube) now = (λ i. nat_le (sym h.tx.last_out i + 3 * delta_of (sym h.cube i)) now) in
    (λ i. empty i || (idle i && late i))

-- the machine's refusal, where the SDU is not too long
refusal_numbers : (over : Bool) (c : Constants) (m : Sender) (s : Sending) (parts : List Part) → IsSender c m s → nat_lt c.cube.largest (length (join parts)) ≡ false → refusal c (started over c m) parts ≡ refusal_by over s (length parts)
refusal_numbers true c m s parts h short = rw (short, ← h.cube, ← h.max, ← h.tx.last_out) refl
refusal_numbers false c m s parts h short = rw (short, ← h.cube, ← h.max, ← h.tx.last_out, ← h.tx.count, ← h.tx.right) refl

-- what the sender and the way refuse to an SDU that is not too long, by what the connection keeps
own_is : (d : Dif) (lines : List Direction) (below : Seen) (at : ℕ) (sdu : List ℕ) (end : End) (conn : Conn) (line : Direction) (parts : List Part) → Holds d lines below → IsAt d.flows.journal.ends d.flows.conns at end conn → slice_get lines at ≡ Some line → AreParts (config_of d.settings) sdu parts → length sdu ≤ conn.sending.form.cube.largest
    → by_sender (sender_refusal d conn line parts) (way_refusal d end conn (length parts)) ≡ own_of d (pieces_in (length sdu) conn.sending.form.piece) end conn
own_is d lines below at sdu end conn line parts h is is_line cut short =
    let sends = h.tied.sends at conn line is.conn_is is_line in
    let c = outward (config_of d.settings) conn in
    let m = line.line.sender in
    let s = conn.sending in
    let size : s.form.piece ≡ piece_size (config_of d.settings) = sends.sender.piece in
    let count : length parts ≡ pieces_in (length sdu) s.form.piece = cut_count s.form.piece (length sdu) (pieces_in (length sdu) s.form.piece) parts s.form.least_piece refl (subst (λ (n : ℕ). IsCut n true parts) (sym size) cut.0) (ap length cut.1) in
    let long : length (join parts) ≤ c.cube.largest = subst (λ (xs : List ℕ). length xs ≤ c.cube.largest) (sym cut.1) short in
    let fits : nat_lt c.cube.largest (length (join parts)) ≡ false = grind (arith, nat_tests, long) in
    let clock : sender_refusal d conn line parts ≡ refusal c (started (is_absent c d.clock m) c m) parts = ap (λ (n : ℕ). refusal c (started (is_absent c n m) c m) parts) sends.clock in
    let over : refusal c (started (is_absent c d.clock m) c m) parts ≡ refusal c (started (is_over d.clock s) c m) parts = ap (λ (b : Bool). refusal c (started b c m) parts) (over_is c d.clock m s sends.sender) in
    let is_refusal : sender_refusal d conn line parts ≡ refusal_by (is_over d.clock s) s (length parts) = clock ∙ over ∙ refusal_numbers (is_over d.clock s) c m s parts sends.sender fits in
    ap (λ (r : Option Refusal). by_sender r (way_refusal d end conn (length parts))) is_refusal ∙ ap (λ (n : ℕ). own_of d n end conn) count

-- an SDU that is too long is refused as that, whatever else would refuse it
lengths : (len max : ℕ) (a b : Option SendError) → (len ≤ max → a ≡ b) → by_length len (Some max) a ≡ by_length len (Some max) b
lengths len max a b same = go (nat_le len max) refl
  where
    go : (t : Bool) → nat_le len max ≡ t → cond (nat_le len max) a (Some (errors.TooLong len max)) ≡ cond (nat_le len max) b (Some (errors.TooLong len max))
    go true is = (let le : len ≤ max = grind (arith, nat_tests, is) in ap (λ (x : Option SendError). cond (nat_le len max) x (Some (errors.TooLong len max))) (same le))
    go false is = rw is refl

-- At the rank

shown_at : (s : Seen) (d : Dif) (port : Port) (at : ℕ) (end : End) → IsShownAs s port.fac d → place_in port d.flows.journal.ends ≡ Some at → slice_get d.flows.journal.ends at ≡ Some end → IsShown s (seen_of d) port at end
shown_at s d port at end h place is = record { clock = h.clock; stands = record { facility = h.here; place = place; is = is } }

largest_there : (s : Seen) (d : Dif) (lines : List Direction) (below : Seen) (port : Port) (at : ℕ) (end : End) (conn : Conn) → Holds d lines below → IsAt d.flows.journal.ends d.flows.conns at end conn → IsShown s (seen_of d) port at end → largest_at s port ≡ Some conn.sending.form.cube.largest
largest_there s d lines below port at end conn h is shows =
    let st = shows.stands in
    let g = config_of d.settings in
    let line = line_there d lines at end h.tied is.end_is in
    let sends = h.tied.sends at conn line.0 is.conn_is line.1 in
    let qos : conn.sending.form.cube.id ≡ end.cube = (h.standing.own.ids at end (ids_of conn) (record { end = is.end_is; ids_are = ids_at d.flows.conns at conn is.conn_is })).qos in
    let there : cube_at s port ≡ cube_in (map offer_of g.cubes) end.cube = rw (st.facility, st.place, st.is) refl in
    let offer : cube_in (map offer_of g.cubes) end.cube ≡ Some (offer_of conn.sending.form.cube) = ap (cube_in (map offer_of g.cubes)) (sym qos) ∙ offered_by conn.sending.form.cube.id g.cubes ∙ ap (option_map offer_of) sends.cube in
    ap (option_map (λ (c : Offer). c.largest)) (there ∙ offer)

-- what is refused by what the DIF alone knows is what its flows refuse
same_own : (s : Seen) (d : Dif) (lines : List Direction) (below : Seen) (port : Port) (at : ℕ) (sdu : List ℕ) (end : End) (conn : Conn) (parts : List Part) → Holds d lines below → IsAt d.flows.journal.ends d.flows.conns at end conn → place_in port d.flows.journal.ends ≡ Some at → IsShown s (seen_of d) port at end → AreParts (config_of d.settings) sdu parts
    → refused s port (length (join parts)) (own_there (seen_of d) lines at end parts) ≡ refused s port (length (join parts)) (own_refusal d port (length sdu))
same_own s d lines below port at sdu end conn parts h is place shows cut =
    let line = line_there d lines at end h.tied is.end_is in
    let max : ℕ = conn.sending.form.cube.largest in
    let own = own_of d (pieces_in (length sdu) conn.sending.form.piece) end conn in
    let own_there_is : own_refusal d port (length sdu) ≡ own = rw (place, is.end_is, is.conn_is) refl in
    let first = same_refusals s (seen_of d) lines below port at end parts h.standing shows ∙ refused_is d lines at end conn line.0 parts h.tied is line.1 in
    let swap : by_length (length (join parts)) (Some max) (by_sender (sender_refusal d conn line.0 parts) (way_refusal d end conn (length parts))) ≡ by_length (length (join parts)) (Some max) own =
    lengths (length (join parts)) max (by_sender (sender_refusal d conn line.0 parts) (way_refusal d end conn (length parts))) own (λ le. own_is d lines below at sdu end conn line.0 parts h is line.1 cut (subst (λ (xs : List ℕ). length xs ≤ max) cut.1 le)) in
    let state : state_of s port ≡ Some end.state = ap (option_map (λ (e : End). e.state)) (end_of_stands s port (fac_of (seen_of d)) at end shows.stands) in
    let last : refused s port (length (join parts)) own ≡ by_state (Some end.state) (by_length (length (join parts)) (Some max) own) = (λ i. by_state (state i) (by_length (length (join parts)) (largest_there s d lines below port at end conn h is shows i) own)) in
    first ∙ ap (by_state (Some end.state)) swap ∙ sym last ∙ ap (refused s port (length (join parts))) (sym own_there_is)

swapped : (own own' : Option SendError) (s : Seen) (port : Port) (bytes : List ℕ) (r : Result Num SendError) (s' : Seen) → refused s port (length bytes) own ≡ refused s port (length bytes) own' → Sends own s port bytes r s' → Sends own' s port bytes r s'
swapped own own' s port bytes (Ok num) s' same x = (sym same ∙ x.0, x.1)
swapped own own' s port bytes (Err errors.Memory) s' same x = x
swapped own own' s port bytes (Err (errors.NotAllocated state)) s' same x = (sym same ∙ x.0, x.1)
swapped own own' s port bytes (Err (errors.Failed fail)) s' same x = (sym same ∙ x.0, x.1)
swapped own own' s port bytes (Err (errors.TooLong len max)) s' same x = (sym same ∙ x.0, x.1)
swapped own own' s port bytes (Err (errors.WindowShut need room)) s' same x = (sym same ∙ x.0, x.1)
swapped own own' s port bytes (Err (errors.NoRoute dst)) s' same x = (sym same ∙ x.0, x.1)
swapped own own' s port bytes (Err (errors.QueueFull need room)) s' same x = (sym same ∙ x.0, x.1)
swapped own own' s port bytes (Err (errors.NumbersSpent until)) s' same x = (sym same ∙ x.0, x.1)

sends_here : (s : Seen) (d : Dif) (lines : List Direction) (below : Seen) (port : Port) (at : ℕ) (sdu : List ℕ) (r : Result Num SendError) (d' : Dif) → Holds d lines below → IsShownAs s port.fac d → place_in port d.flows.journal.ends ≡ Some at → sent.Sends d lines below at sdu r d' → Sends (own_refusal d port (length sdu)) s port sdu r (shown_as s port.fac d')
sends_here s d lines below port at sdu r d' h shows place x =
    let e = first_passes (has_port port) d.flows.journal.ends at place in
    let end : End = e.0 in
    let conn = beside d.flows.journal.ends d.flows.conns at end h.tied.alike e.1.stands in
    let is : IsAt d.flows.journal.ends d.flows.conns at end conn.0 = record { end_is = e.1.stands; conn_is = conn.1 } in
    let there = shown_at s d port at end shows place e.1.stands in
    let sends = offers_send s (seen_of d) lines below port at end x.parts r (seen_of d') x.lines' h.standing there x.offers in
    let swap = swapped (own_there (seen_of d) lines at end x.parts) (own_refusal d port (length sdu)) s port (join x.parts) r (shown_as s port.fac d') (same_own s d lines below port at sdu end conn.0 x.parts h is place there x.cut) sends in
    subst (λ (bytes : List ℕ). Sends (own_refusal d port (length sdu)) s port bytes r (shown_as s port.fac d')) x.cut.1 swap

-- nothing changed
pub unchanged : (s : Seen) (n : ℕ) (d d' : Dif) → IsShownAs s n d → seen_of d' ≡ seen_of d → shown_as s n d' ≡ s
unchanged s n d d' h same = ap (λ (x : DifSeen). with_fac s n (fac_of x)) same ∙ ap (λ (fs : List Fac). record s { facs = fs }) (slice_set-same s.facs n (fac_of (seen_of d)) h.here)

none_there : (s : Seen) (d : Dif) (port : Port) → IsShownAs s port.fac d → place_in port d.flows.journal.ends ≡ None → state_of s port ≡ None
none_there s d port h none = rw (h.here, none) refl

sends_none : (own : Option SendError) (s : Seen) (port : Port) (sdu : List ℕ) (r : Result Num SendError) (s' : Seen) → state_of s port ≡ None → r ≡ Err (errors.NotAllocated None) → s' ≡ s → Sends own s port sdu r s'
sends_none own s port sdu r s' none is same = subst (λ (x : Result Num SendError). Sends own s port sdu x s') (sym is) (ap (λ (x : Option PortState). by_state x (by_length (length sdu) (largest_at s port) own)) none, same)

sends_nowhere : (s : Seen) (d : Dif) (lines : List Direction) (below : Seen) (port : Port) (sdu : List ℕ) (r : Result Num SendError) (d' : Dif) → IsShownAs s port.fac d → place_in port d.flows.journal.ends ≡ None → SendsNowhere d lines below r d' → Sends (own_refusal d port (length sdu)) s port sdu r (shown_as s port.fac d')
sends_nowhere s d lines below port sdu (Err errors.Memory) d' h none x = unchanged s port.fac d d' h x.0
sends_nowhere s d lines below port sdu r d' h none x = sends_none (own_refusal d port (length sdu)) s port sdu r (shown_as s port.fac d') (none_there s d port h none) x.0 (unchanged s port.fac d d' h x.1)

-- a send is a send on a facility of the rank
pub sends_shown : (s : Seen) (d : Dif) (port : Port) (sdu : List ℕ) (r : Result Num SendError) (d' : Dif) → IsDif d → ((lines : List Direction) (below : Seen) → Holds d lines below → SendsAt (place_in port d.flows.journal.ends) d lines below sdu r d') → IsShownAs s port.fac d → Sends (own_refusal d port (length sdu)) s port sdu r (shown_as s port.fac d')
sends_shown s d port sdu r d' is does shows = go (place_in port d.flows.journal.ends) refl (does is.stands.0 is.below is.stands.1)
  where
    go : (o : Option ℕ) → place_in port d.flows.journal.ends ≡ o → SendsAt o d is.stands.0 is.below sdu r d' → Sends (own_refusal d port (length sdu)) s port sdu r (shown_as s port.fac d')
    go None place x = sends_nowhere s d is.stands.0 is.below port sdu r d' shows place x
    go (Some at) place x = sends_here s d is.stands.0 is.below port at sdu r d' is.stands.1 shows place x

-- The DIF goes on

pub same_goes_on : (d d' : Dif) → IsDif d → seen_of d' ≡ seen_of d → GoesOn d d'
same_goes_on d d' is same = record {
  later = subst (λ (x : DifSeen). IsLaterFac d.clock x.clock (fac_of (seen_of d)) (fac_of x)) (sym same) (fac_refl d.clock d.clock (fac_of (seen_of d)));
  facility = subst IsFacility (sym same) (facility (seen_of d) is.stands.0 is.below is.stands.1.standing);
  enrolled = stay_same d.enrolled d'.enrolled (ap (λ (z : DifSeen). z.enrolled) same);
  clock = ap (λ (x : DifSeen). x.clock) same;
}

clock_sent : (d : DifSeen) (lines : List Direction) (at : ℕ) (parts : List Part) (r : Result Num SendError) (d' : DifSeen) (lines' : List Direction) → Offers d lines at parts r d' lines' → d'.clock ≡ d.clock
clock_sent d lines at parts (Ok num) d' lines' x = ap (λ (y : DifSeen). y.clock) x.2.new_is
clock_sent d lines at parts (Err errors.Memory) d' lines' x = ap (λ (y : DifSeen). y.clock) x.0
clock_sent d lines at parts (Err (errors.NotAllocated state)) d' lines' x = ap (λ (y : DifSeen). y.clock) x.1
clock_sent d lines at parts (Err (errors.Failed fail)) d' lines' x = ap (λ (y : DifSeen). y.clock) x.1
clock_sent d lines at parts (Err (errors.TooLong len max)) d' lines' x = ap (λ (y : DifSeen). y.clock) x.1
clock_sent d lines at parts (Err (errors.WindowShut need room)) d' lines' x = ap (λ (y : DifSeen). y.clock) x.1
clock_sent d lines at parts (Err (errors.NoRoute dst)) d' lines' x = ap (λ (y : DifSeen). y.clock) x.1
clock_sent d lines at parts (Err (errors.QueueFull need room)) d' lines' x = ap (λ (y : DifSeen). y.clock) x.1
clock_sent d lines at parts (Err (errors.NumbersSpent until)) d' lines' x = ap (λ (y : DifSeen). y.clock) x.1

nowhere_same : (d : Dif) (lines : List Direction) (below : Seen) (r : Result Num SendError) (d' : Dif) → SendsNowhere d lines below r d' → seen_of d' ≡ seen_of d
nowhere_same d lines below (Err errors.Memory) d' x = x.0
nowhere_same d lines below r d' x = x.1

-- it stands wherever it stood
pub sends_stay : (d : Dif) (port : Port) (sdu : List ℕ) (r : Result Num SendError) (d' : Dif) → ((lines : List Direction) (below : Seen) → Holds d lines below → SendsAt (place_in port d.flows.journal.ends) d lines below sdu r d') → StaysStanding d d'
sends_stay d port sdu r d' does below st = go (place_in port d.flows.journal.ends) r (does st.0 below st.1)
  where
    go : (o : Option ℕ) (r : Result Num SendError) → SendsAt o d st.0 below sdu r d' → StandsOn d' below
    go (Some at) r x = (x.lines', x.holds)
    go None (Err errors.Memory) x = (st.0, x.1)
    go None r x = (st.0, x.2)

pub sends_go_on : (d : Dif) (port : Port) (sdu : List ℕ) (r : Result Num SendError) (d' : Dif) → IsDif d → ((lines : List Direction) (below : Seen) → Holds d lines below → SendsAt (place_in port d.flows.journal.ends) d lines below sdu r d') → d'.enrolled ≡ d.enrolled → GoesOn d d'
sends_go_on d port sdu r d' is does enrolled = go (place_in port d.flows.journal.ends) (does is.stands.0 is.below is.stands.1)
  where
    go : (o : Option ℕ) → SendsAt o d is.stands.0 is.below sdu r d' → GoesOn d d'
    go None x = same_goes_on d d' is (nowhere_same d is.stands.0 is.below r d' x)
    go (Some at) x = record {
      later = offers_later (seen_of d) is.stands.0 is.below at x.parts r (seen_of d') x.lines' is.stands.1.standing x.offers;
      facility = facility (seen_of d') x.lines' is.below x.holds.standing;
      clock = clock_sent (seen_of d) is.stands.0 at x.parts r (seen_of d') x.lines' x.offers;
      enrolled = stay_same d.enrolled d'.enrolled enrolled;
    }

-- An SDU is passed

-- where one waits the port was drawn
pub waits_somewhere : (d : Dif) (port : Port) → place_in port d.flows.journal.ends ≡ None → IsSome (its_oldest d port) → ⊥
waits_somewhere d port none some = false≢true (subst (λ (o : Option ℕ). IsSome (option_and_then (λ (e : End). slice_get e.got e.taken) (option_and_then (λ i. slice_get d.flows.journal.ends i) o))) none some)

pub waits_there : (d : Dif) (port : Port) (at : ℕ) (e : End) → place_in port d.flows.journal.ends ≡ Some at → IsSome (its_oldest d port) → slice_get d.flows.journal.ends at ≡ Some e → e.taken < length e.got
waits_there d port at e place some is =
    let here : its_oldest d port ≡ slice_get e.got e.taken = rw (place, is) refl in
    let x = some_there (slice_get e.got e.taken) (subst (λ (o : Option Entry). IsSome o) here some) in
    slice_get_within e.got e.taken x.0 x.1
  where
    some_there : (o : Option Entry) → IsSome o → (x : Entry) × (o ≡ Some x)
    some_there None h = absurd (false≢true h)
    some_there (Some x) h = (x, refl)

pub passed_whole : (d : Dif) (at : ℕ) (d' : Dif) → (is : IsDif d) → ((lines : List Direction) (below : Seen) → Holds d lines below → Passes d lines at d' below) → IsDif d'
passed_whole d at d' is does =
    let x = does is.stands.0 is.below is.stands.1 in
    record { below = is.below; stands = (x.lines', x.holds); clock = (let c = is.clock in let same = ap (λ (y : DifSeen). y.clock) x.passed.new_is in omega (arith, c, same)) }

pub passed_stays : (d : Dif) (at : ℕ) (d' : Dif) → ((lines : List Direction) (below : Seen) → Holds d lines below → Passes d lines at d' below) → StaysStanding d d'
passed_stays d at d' does below st = (let x = does st.0 below st.1 in (x.lines', x.holds))

pub passed_shown : (s : Seen) (d : Dif) (port : Port) (at : ℕ) (d' : Dif) → (is : IsDif d) → place_in port d.flows.journal.ends ≡ Some at → ((lines : List Direction) (below : Seen) → Holds d lines below → Passes d lines at d' below) → IsShownAs s port.fac d → PassesThere s port (shown_as s port.fac d')
passed_shown s d port at d' is place does shows =
    let x = does is.stands.0 is.below is.stands.1 in
    let e = first_passes (has_port port) d.flows.journal.ends at place in
    passed_there s (seen_of d) is.stands.0 port at e.0 (seen_of d') x.lines' (shown_at s d port at e.0 shows place e.1.stands) x.passed

pub passed_goes_on : (d : Dif) (at : ℕ) (d' : Dif) → (is : IsDif d) → ((lines : List Direction) (below : Seen) → Holds d lines below → Passes d lines at d' below) → GoesOn d d'
passed_goes_on d at d' is does =
    let x = does is.stands.0 is.below is.stands.1 in
    record {
      later = passed_later (seen_of d) is.stands.0 at (seen_of d') x.lines' x.passed;
      facility = facility (seen_of d') x.lines' is.below x.holds.standing;
      clock = ap (λ (y : DifSeen). y.clock) x.passed.new_is;
      enrolled = stay_same d.enrolled d'.enrolled (ap (λ (y : DifSeen). y.enrolled) x.passed.new_is);
    }

-- A port that was never drawn

pub nowhere_sends : (o : Option ℕ) (d : Dif) (sdu : List ℕ) → o ≡ None → (lines : List Direction) (below : Seen) → Holds d lines below → SendsAt o d lines below sdu (Err (errors.NotAllocated None)) d
nowhere_sends o d sdu none lines below h = subst (λ (z : Option ℕ). SendsAt z d lines below sdu (Err (errors.NotAllocated None)) d) (sym none) (refl, refl, h)
