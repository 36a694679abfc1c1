-- What the end of a place refuses to an SDU.
use Rattle.std.proofs.Common.{◌≡◌, ◌∙◌, ℕ, ◌-◌, ◌^◌, ◌<◌, ◌≤◌, Bool, true, false, List, [], ◌∷◌, length, slice_get, Option, Some, None, refl, sym, ap, subst, inr, arith}
use Rattle.std.specs.Prelude.{IfErr, IfOk, Result, Ok, Err, nat_lt, if◌then◌else◌}
use Rattle.std.proofs.lemmas.Bool.Decides.{nat_tests}
use Rattle.rina_conn.specs.declared.conn.Conn.{Conn}
use Rattle.rina_conn.specs.Sending.{TellsRoom}
use Rattle.rina_conn.specs.Carrying.{parts_in}
use Rattle.rina_conn.proofs.Cutting.{parts_cut}
use Rattle.rina_cube.specs.Cubes.{is_reliable}
use Rattle.rina_iface.specs.declared.ends.End.{End}
use Rattle.rina_iface.specs.declared.error.SendError.{SendError}
use Rattle.rina_iface.specs.declared.error.SendError.TheVariants as errors
use Rattle.rina_iface.specs.declared.state.PortState.{PortState}
use Rattle.rina_iface.specs.declared.state.PortState.TheVariants.{Allocated}
use Rattle.rina_iface.specs.Send.{by_length, by_state}
use Rattle.rina_iface.specs.Seen.{Seen}
use Rattle.rina_law.specs.Constants.{Constants}
use Rattle.rina_law.specs.Direction.{Direction, offer_refusal}
use Rattle.rina_law.specs.Pieces.{Part, IsCut, join}
use Rattle.rina_law.specs.Sender.{Refusal, Sender, WindowShut, NumbersSpent, is_absent, refusal, room_of, started}
use Rattle.rina_data.specs.Configs.{Config, config_of, piece_size}
use Rattle.rina_dif_law.specs.Sending.{by_sender, or_else, refused_at}
use Rattle.rina_dif_law.specs.Standing.{IsConfig}
use Rattle.rina_data.specs.Fitting.{IsQos}
use Rattle.rina_dif_law.proofs.Finding.{beside}
use Rattle.rina_flows.specs.Calls.{AreParts, AreTied, TellsNeed}
use Rattle.rina_flows.specs.Tied.{IsAt, IsSending, ids_of, outward}
use Rattle.rina_flows.proofs.Framed.{ids_at}
use Rattle.rina_dif.specs.declared.dif.Dif.{Dif}
use Rattle.rina_dif.specs.declared.send.FirstHop.{FirstHop}
use Rattle.rina_dif.specs.Facade.{way_refusal}
use Rattle.rina_dif.specs.Holding.{Stands}
use Rattle.rina_dif.specs.Sending.{IsAdmitted, IsBarred, IsFirstHop}
use Rattle.rina_dif.specs.Shown.{seen_of}

-- what is refused by the sender
abbrev pub sender_refusal : Dif → Conn → Direction → List Part → Option Refusal
sender_refusal d conn line parts = offer_refusal (outward (config_of d.settings) conn) line parts

-- each end has a connection and a direction
pub line_there : (d : Dif) (lines : List Direction) (at : ℕ) (end : End) → AreTied (config_of d.settings) d.clock d.flows lines → slice_get d.flows.journal.ends at ≡ Some end → (line : Direction) × (slice_get lines at ≡ Some line)
line_there d lines at end t is = beside d.flows.journal.ends lines at end t.lines_alike is

-- the refusals, by what the code keeps
pub refused_is : (d : Dif) (lines : List Direction) (at : ℕ) (end : End) (conn : Conn) (line : Direction) (parts : List Part) → AreTied (config_of d.settings) d.clock d.flows lines → IsAt d.flows.journal.ends d.flows.conns at end conn → slice_get lines at ≡ Some line
    → refused_at (seen_of d) lines at parts ≡ by_state (Some end.state) (by_length (length (join parts)) (Some conn.sending.form.cube.largest) (by_sender (sender_refusal d conn line parts) (way_refusal d end conn (length parts))))
refused_is d lines at end conn line parts t is is_line =
    let sends = t.sends at conn line is.conn_is is_line in
    rw (is.end_is, ids_at d.flows.conns at conn is.conn_is, is_line, sends.cube) refl

-- of an end that is not allocated, or an SDU that is too long
pub barred_by_end : (d : Dif) (at : ℕ) (sdu : List ℕ) (end : End) (conn : Conn) (e : SendError) → IsAt d.flows.journal.ends d.flows.conns at end conn → ((rest : Option SendError) → by_state (Some end.state) (by_length (length sdu) (Some conn.sending.form.cube.largest) rest) ≡ Some e) → IsBarred d at sdu e
barred_by_end d at sdu end conn e is refuses = λ lines parts t cut.
    let line = line_there d lines at end t is.end_is in
    let way = way_refusal d end conn (length parts) in
    let rest = by_sender (sender_refusal d conn line.0 parts) way in
    refused_is d lines at end conn line.0 parts t is line.1 ∙ ap (λ (xs : List ℕ). by_state (Some end.state) (by_length (length xs) (Some conn.sending.form.cube.largest) rest)) cut.1 ∙ refuses rest

within_length : (len max : ℕ) (rest : Option SendError) → len ≤ max → by_length len (Some max) rest ≡ rest
within_length len max rest le = grind (arith, nat_tests, le)

-- past the two first refusals
pub past : (d : Dif) (lines : List Direction) (at : ℕ) (sdu : List ℕ) (end : End) (conn : Conn) (line : Direction) (parts : List Part) → AreTied (config_of d.settings) d.clock d.flows lines → IsAt d.flows.journal.ends d.flows.conns at end conn → slice_get lines at ≡ Some line → end.state ≡ Allocated → length sdu ≤ conn.sending.form.cube.largest → join parts ≡ sdu
    → refused_at (seen_of d) lines at parts ≡ by_sender (sender_refusal d conn line parts) (way_refusal d end conn (length parts))
past d lines at sdu end conn line parts t is is_line state short joins =
    let rest = by_sender (sender_refusal d conn line parts) (way_refusal d end conn (length parts)) in
    refused_is d lines at end conn line parts t is is_line ∙ ap (λ (s : PortState). by_state (Some s) (by_length (length (join parts)) (Some conn.sending.form.cube.largest) rest)) state ∙ ap (λ (xs : List ℕ). by_length (length xs) (Some conn.sending.form.cube.largest) rest) joins ∙ within_length (length sdu) conn.sending.form.cube.largest rest short

-- The window

-- the sender of the direction, as it is when an SDU is offered
abbrev begun : Constants → Direction → Sender
begun c line = started (is_absent c line.line.clock line.line.sender) c line.line.sender

-- the room that is told is that of the direction's sender
room_is : (d : Dif) (conn : Conn) (line : Direction) (room : ℕ) → IsSending (config_of d.settings) d.clock conn line → TellsRoom d.clock conn.sending room → room ≡ (if is_reliable conn.sending.form.cube.kind then room_of (begun (outward (config_of d.settings) conn) line) else 2 ^ 32 - 1)
room_is d conn line room sends told =
    let c = outward (config_of d.settings) conn in
    told c line.line.sender sends.sender ∙ ap (λ (n : ℕ). if is_reliable conn.sending.form.cube.kind then room_of (started (is_absent c n line.line.sender) c line.line.sender) else 2 ^ 32 - 1) (sym sends.clock)

shut : (reliable : Bool) (c : Constants) (tx : Sender) (parts : List Part) (need room : ℕ) → is_reliable c.cube.kind ≡ reliable → length (join parts) ≤ c.cube.largest → room ≡ (if reliable then room_of tx else 2 ^ 32 - 1) → length parts ≡ need → need < 2 ^ 32 → room < need → refusal c tx parts ≡ Some (WindowShut need room)
shut true c tx parts need room kind short is count fits lt =
    let len : nat_lt c.cube.largest (length (join parts)) ≡ false = grind (arith, nat_tests, short) in
    let over : nat_lt (room_of tx) (length parts) ≡ true = grind (arith, nat_tests, is, count, lt) in
    rw (len, kind, over) (ap (λ (n : ℕ). Some (WindowShut n (room_of tx))) count ∙ ap (λ (n : ℕ). Some (WindowShut need n)) (sym is))
shut false c tx parts need room kind short is count fits lt = absurd (omega (arith, is, fits, lt))

pub barred_by_window : (d : Dif) (at : ℕ) (sdu : List ℕ) (end : End) (conn : Conn) (need room : ℕ) (e : SendError) → IsAt d.flows.journal.ends d.flows.conns at end conn → end.state ≡ Allocated → length sdu ≤ conn.sending.form.cube.largest → TellsNeed (length sdu) conn.sending.form.piece need → TellsRoom d.clock conn.sending room → need < 2 ^ 32 → room < need → e ≡ errors.WindowShut need room → IsBarred d at sdu e
barred_by_window d at sdu end conn need room e is state short told_need told_room fits lt e_is = λ lines parts t cut.
    let line = line_there d lines at end t is.end_is in
    let sends = t.sends at conn line.0 is.conn_is line.1 in
    let c = outward (config_of d.settings) conn in
    let size : conn.sending.form.piece ≡ piece_size (config_of d.settings) = sends.sender.piece in
    let count : length parts ≡ need = told_need parts (subst (λ (n : ℕ). IsCut n true parts) (sym size) cut.0) (ap length cut.1) in
    let len : length (join parts) ≤ c.cube.largest = subst (λ (xs : List ℕ). length xs ≤ c.cube.largest) (sym cut.1) short in
    let refuses = shut (is_reliable conn.sending.form.cube.kind) c (begun c line.0) parts need room refl len (room_is d conn line.0 room sends told_room) count fits lt in
    past d lines at sdu end conn line.0 parts t is line.1 state short cut.1 ∙ ap (λ (r : Option Refusal). by_sender r (way_refusal d end conn (length parts))) refuses ∙ sym (ap (λ (x : SendError). Some x) e_is)

-- The way

lets : (spent : Bool) (until : ℕ) (way : Option SendError) (e : SendError) → way ≡ Some e → by_sender (if spent then Some (NumbersSpent until) else None) way ≡ Some e
lets true until way e is = ap (λ (w : Option SendError). or_else w (Some (errors.NumbersSpent until))) is
lets false until way e is = is

-- nothing is left of what a sender refuses but that its numbers are spent
open_window : (reliable : Bool) (c : Constants) (tx : Sender) (parts : List Part) (need room : ℕ) (way : Option SendError) (e : SendError) → is_reliable c.cube.kind ≡ reliable → length (join parts) ≤ c.cube.largest → room ≡ (if reliable then room_of tx else 2 ^ 32 - 1) → length parts ≡ need → need ≤ room → way ≡ Some e → by_sender (refusal c tx parts) way ≡ Some e
open_window true c tx parts need room way e kind short is count le refuses =
    let len : nat_lt c.cube.largest (length (join parts)) ≡ false = grind (arith, nat_tests, short) in
    let over : nat_lt (room_of tx) (length parts) ≡ false = grind (arith, nat_tests, is, count, le) in
    rw (len, kind, over) (lets _ _ way e refuses)
open_window false c tx parts need room way e kind short is count le refuses =
    let len : nat_lt c.cube.largest (length (join parts)) ≡ false = grind (arith, nat_tests, short) in
    rw (len, kind) (lets _ _ way e refuses)

pub barred_by_way : (d : Dif) (at : ℕ) (sdu : List ℕ) (end : End) (conn : Conn) (need room : ℕ) (e : SendError) → IsAt d.flows.journal.ends d.flows.conns at end conn → end.state ≡ Allocated → length sdu ≤ conn.sending.form.cube.largest → TellsNeed (length sdu) conn.sending.form.piece need → TellsRoom d.clock conn.sending room → need ≤ room → way_refusal d end conn need ≡ Some e → IsBarred d at sdu e
barred_by_way d at sdu end conn need room e is state short told_need told_room le refuses = λ lines parts t cut.
    let line = line_there d lines at end t is.end_is in
    let sends = t.sends at conn line.0 is.conn_is line.1 in
    let c = outward (config_of d.settings) conn in
    let size : conn.sending.form.piece ≡ piece_size (config_of d.settings) = sends.sender.piece in
    let count : length parts ≡ need = told_need parts (subst (λ (n : ℕ). IsCut n true parts) (sym size) cut.0) (ap length cut.1) in
    let len : length (join parts) ≤ c.cube.largest = subst (λ (xs : List ℕ). length xs ≤ c.cube.largest) (sym cut.1) short in
    let way : way_refusal d end conn (length parts) ≡ Some e = ap (way_refusal d end conn) count ∙ refuses in
    past d lines at sdu end conn line.0 parts t is line.1 state short cut.1 ∙ open_window (is_reliable conn.sending.form.cube.kind) c (begun c line.0) parts need room (way_refusal d end conn (length parts)) e refl len (room_is d conn line.0 room sends told_room) count le way

-- What the calls of `admit` need

-- an SDU has parts
pub parts_of : (g : Config) (sdu : List ℕ) → IsConfig g → (parts : List Part) × AreParts g sdu parts
parts_of g sdu config =
    let size : 1 ≤ piece_size g = (let p = config.piece in omega (arith, p)) in
    (parts_in (piece_size g) sdu, parts_cut sdu (piece_size g) size)

nonempty : (size : ℕ) (parts : List Part) → IsCut size true parts → 1 ≤ length parts
nonempty size [] cut = absurd cut
nonempty size (p ∷ ps) cut = omega arith

-- the connection of an end is there, and is of a cube of the DIF
pub record IsReady (d : Dif) (at : ℕ) (sdu : List ℕ) (conn : Conn) : Type 0 where
  pub qos : IsQos (config_of d.settings) (ids_of conn).qos
  pub some : (need : ℕ) → TellsNeed (length sdu) conn.sending.form.piece need → 1 ≤ need

pub is_ready : (d : Dif) (below : Seen) (at : ℕ) (sdu : List ℕ) (end : End) (conn : Conn) → Stands d below → IsAt d.flows.journal.ends d.flows.conns at end conn → IsReady d at sdu conn
is_ready d below at sdu end conn st is =
    let t = st.1.tied in
    let line = line_there d st.0 at end t is.end_is in
    let sends = t.sends at conn line.0 is.conn_is line.1 in
    let size : conn.sending.form.piece ≡ piece_size (config_of d.settings) = sends.sender.piece in
    let parts = parts_of (config_of d.settings) sdu st.1.standing.config in
    record {
      qos = inr (conn.sending.form.cube, sends.cube);
      some = λ need told. subst (λ (n : ℕ). 1 ≤ n) (told parts.0 (subst (λ (n : ℕ). IsCut n true parts.0) (sym size) parts.1.0) (ap length parts.1.1)) (nonempty (piece_size (config_of d.settings)) parts.0 parts.1.0);
    }

pub bars_by_way : (d : Dif) (at : ℕ) (sdu : List ℕ) (end : End) (conn : Conn) (need room : ℕ) (result : Result FirstHop SendError) → IsAt d.flows.journal.ends d.flows.conns at end conn → end.state ≡ Allocated → length sdu ≤ conn.sending.form.cube.largest → TellsNeed (length sdu) conn.sending.form.piece need → TellsRoom d.clock conn.sending room → need ≤ room → IfErr result (λ e. way_refusal d end conn need ≡ Some e) → IfErr result (λ e. IsBarred d at sdu e)
bars_by_way d at sdu end conn need room (Ok way) is state short told_need told_room le refuses = refuses
bars_by_way d at sdu end conn need room (Err e) is state short told_need told_room le refuses = barred_by_way d at sdu end conn need room e is state short told_need told_room le refuses

pub admits_by_way : (d : Dif) (at : ℕ) (sdu : List ℕ) (end : End) (conn : Conn) (need room : ℕ) (result : Result FirstHop SendError) → IsAt d.flows.journal.ends d.flows.conns at end conn → end.state ≡ Allocated → length sdu ≤ conn.sending.form.cube.largest → TellsNeed (length sdu) conn.sending.form.piece need → TellsRoom d.clock conn.sending room → need ≤ room → IfOk result (λ way. IsFirstHop d end.port.node (ids_of conn) need way.home way.link) → IfOk result (λ way. (way.qos ≡ (ids_of conn).qos) × (way.left ≡ conn.sending.form.cube.mpl)) → IfOk result (λ way. IsAdmitted d at sdu way)
admits_by_way d at sdu end conn need room (Err e) is state short told_need told_room le goes form = goes
admits_by_way d at sdu end conn need room (Ok way) is state short told_need told_room le goes form = record {
  end = end;
  conn = conn;
  is_at = is;
  allocated = state;
  short = short;
  need = need;
  told_need = told_need;
  room = room;
  told_room = told_room;
  within = le;
  goes = goes;
  qos = form.0;
  left = form.1;
}
