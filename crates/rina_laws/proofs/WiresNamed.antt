-- The names of a wire, and the applications for which its flows were asked, through all that is done to the wire.
use Rattle.std.proofs.Common.{◌≡◌, ◌∙◌, ℕ, ◌+◌, ◌==◌, ◌≤◌, Bool, true, false, cond, List, [], ◌∷◌, fold, map, slice_get, Option, Some, None, refl, sym, ap, subst, arith, inl, inr}
use Rattle.std.proofs.lemmas.Option.{none-some}
use Rattle.rina_iface.specs.declared.ask.Ask.{Ask}
use Rattle.rina_iface.specs.declared.ends.End.{End}
use Rattle.rina_iface.specs.declared.error.AllocateError.{AllocateError}
use Rattle.rina_iface.specs.declared.error.AllocateError.TheVariants.{NoSuchApp, SameSystem}
use Rattle.rina_iface.specs.declared.state.PortState.TheVariants.{Allocated, Closed}
use Rattle.rina_iface.specs.declared.state.Role.TheVariants.{Asker, Far}
use Rattle.rina_iface.specs.Allocate.{asker_end, far_end}
use Rattle.rina_iface.specs.Ends.{with_got, with_passed, with_sent}
use Rattle.rina_iface.specs.Journal.{At}
use Rattle.rina_iface.specs.Seen.{is_registered}
use Rattle.rina_iface.specs.State.{cut_off, cut_state, with_state}
use Rattle.rina_iface.specs.Unregister.{name_place}
use Rattle.rina_dif_law.proofs.Own.{map_at}
use Rattle.rina_report.specs.declared.note.Note.{Note}
use Rattle.rina_stack.specs.declared.plan.Plan.{Plan}
use Rattle.rina_wire.specs.declared.flight.Flight.{Flight}
use Rattle.rina_wire.specs.Air.{Line}
use Rattle.rina_wire.specs.Allocate.{flow_made, flow_on, flow_refusal, is_allocated, other_node, port_on}
use Rattle.rina_wire.specs.Claim.{without}
use Rattle.rina_wire.specs.Cut.{cut_line, mended}
use Rattle.rina_wire.specs.Disturb.{copy_place, first_copy, held, lost, moved, moved_at, repeated, with_copy, without_copy}
use Rattle.rina_wire.specs.Free.{closed_at, closed_both, closed_in, freed_at}
use Rattle.rina_wire.specs.Register.{named}
use Rattle.rina_wire.specs.Send.{mate, next_entry, passed_at, sent_from}
use Rattle.rina_wire.specs.Tick.{arrival, line_ticked, looked_at}
use Rattle.rina_wire.specs.Unregister.{unnamed}
use Rattle.rina_wire.proofs.Arrivals.{looks}
use Rattle.rina_tower.specs.Bystanders.{is_ipc}
use Rattle.rina_laws.specs.Named.{IsOneEnd, IsRegistration}
use Rattle.rina_laws.specs.WireNames.{wire_end_at, wire_has_name}
use Rattle.rina_laws.proofs.LabelGrown.{two_at}
use Rattle.rina_laws.proofs.NamedEnds.{HasIn, in_same, in_set, one_got, one_on, one_refl, one_state}
use Rattle.rina_laws.proofs.NamedNames.{named_by, named_still}
use Rattle.rina_laws.proofs.WiresCalls.{KeepsLine}
use Rattle.rina_laws.proofs.WiresRun.{KeepsEvents}

-- ---- what stays of the ends of a wire

-- each end stood there before, and has kept what it keeps for good
abbrev Back : List End → List End → Type 0
Back old new = (i : ℕ) (e : End) → HasIn e i new → HasIn e i old

back_looked : (now : ℕ) (ends : List End) (f : Flight) → Back ends (looked_at now ends f)
back_looked now ends f i e h = elim (looks now ends f) [
  | inl same ↦ in_same e i ends (looked_at now ends f) same h
  | inr a ↦ in_set e i ends f.to a.end (with_got a.end (arrival now f)) a.stands (one_got a.end _) (subst (HasIn e i) a.is h)
]

back_fold : (now : ℕ) (ends : List End) (fs : List Flight) → Back ends (fold (looked_at now) ends fs)
back_fold now ends [] i e h = h
back_fold now ends (f ∷ fs) i e h = back_looked now ends f i e (back_fold now (looked_at now ends f) fs i e h)

back_closed_in : (ends : List End) (place : ℕ) (o : Option End) → slice_get ends place ≡ o → Back ends (closed_in ends place o)
back_closed_in ends place None is i e h = h
back_closed_in ends place (Some x) is i e h = in_set e i ends place x (with_state x Closed) is (one_state x Closed) h

back_closed : (ends : List End) (place : ℕ) → Back ends (closed_both ends place)
back_closed ends place i e h =
    let once = closed_at ends place in
    back_closed_in ends place (slice_get ends place) refl i e (back_closed_in once (mate place) (slice_get once (mate place)) refl i e h)

back_cut : (now : ℕ) (ends : List End) → Back ends (map (cut_off now) ends)
back_cut now ends i e h =
    let m = map_at (cut_off now) ends i h.end h.stands in
    record { end = m.0; stands = m.1; same = one_on m.0 h.end e (subst (IsOneEnd m.0) (sym m.2) (one_state m.0 (cut_state now m.0.state))) h.same }

-- ---- what follows of a wire

-- a wire later: its nodes are the same, no name came, and no end
record Follows (l l' : Line) : Type 0 where
  a : l'.a ≡ l.a
  b : l'.b ≡ l.b
  names : (node : ℕ) (app : List ℕ) → is_registered l'.names node app ≡ true → is_registered l.names node app ≡ true
  ends : Back l.ends l'.ends

follows_same : (l : Line) → Follows l l
follows_same l = record { a = refl; b = refl; names = λ node app h. h; ends = λ i e h. h }

claimed_after : (l : Line) (o : Option ℕ) → Follows l (without l o)
claimed_after l None = follows_same l
claimed_after l (Some at) = record { a = refl; b = refl; names = λ node app h. h; ends = λ i e h. h }

lost_after : (l : Line) (o : Option ℕ) → Follows l (without_copy l o)
lost_after l None = follows_same l
lost_after l (Some place) = record { a = refl; b = refl; names = λ node app h. h; ends = λ i e h. h }

held_after : (at : ℕ) (l : Line) (o : Option ℕ) → Follows l (moved at l o)
held_after at l None = follows_same l
held_after at l (Some place) = elim (slice_get l.flights place) as (λ o. Follows l (moved_at at l place o)) [
  | None ↦ follows_same l
  | Some f ↦ record { a = refl; b = refl; names = λ node app h. h; ends = λ i e h. h }
]

repeated_after : (at : ℕ) (l : Line) (o : Option Flight) → Follows l (with_copy at l o)
repeated_after at l None = follows_same l
repeated_after at l (Some f) = record { a = refl; b = refl; names = λ node app h. h; ends = λ i e h. h }

freed_after : (l : Line) (i : ℕ) (e : End) → Follows l (freed_at l i e)
freed_after l i e = elim (is_allocated e.state) as (λ b. Follows l (cond b (record l { ends = closed_both l.ends i; flights = [] }) l)) [
  | true ↦ record { a = refl; b = refl; names = λ node app h. h; ends = back_closed l.ends i }
  | false ↦ follows_same l
]

cut_after : (now : ℕ) (l : Line) → Follows l (cut_line now l)
cut_after now l = elim l.cut as (λ b. Follows l (cond b l (record l { ends = map (cut_off now) l.ends; flights = []; cut = true }))) [
  | true ↦ follows_same l
  | false ↦ record { a = refl; b = refl; names = λ node app h. h; ends = back_cut now l.ends }
]

other_same : (l l' : Line) (node : ℕ) → l'.a ≡ l.a → l'.b ≡ l.b → other_node l' node ≡ other_node l node
other_same l l' node a b = ap (λ (x : ℕ). cond (node == x) l'.b x) a ∙ ap (λ (y : ℕ). cond (node == l.a) y l.a) b

-- ---- a flow is asked for

none_free : (there here : Bool) (o : Option AllocateError) → cond there o (cond here (Some SameSystem) (Some NoSuchApp)) ≡ None → there ≡ true
none_free true here o h = refl
none_free false true o h = absurd (none-some SameSystem (sym h))
none_free false false o h = absurd (none-some NoSuchApp (sym h))

-- where a wire refuses nothing, the application is registered at its other node
there_named : (l : Line) (ask : Ask) → flow_refusal l ask ≡ None → is_registered l.names (other_node l ask.node) ask.to ≡ true
there_named l ask free = none_free (is_registered l.names (other_node l ask.node) ask.to) (is_registered l.names ask.node ask.to) _ free

-- ---- the names of one wire

-- it was registered, if not by then, by a later tick
pub later_line : (plan : Plan) (r n node : ℕ) (app : List ℕ) (now later : ℕ) (lines : List (List ℕ)) (ns : List Note) → now ≤ later → IsRegistration plan r n node app now lines ns → IsRegistration plan r n node app later lines ns
later_line plan r n node app now later lines ns le b =
    let past = b.past in
    record { before = b.before; line = b.line; dif_name = b.dif_name; node_name = b.node_name; stands = b.stands; asks = b.asks; names = b.names; tick = b.tick; past = omega (arith, le, past); told = b.told }

module _ (plan : Plan) (fac : ℕ) (opening : Option Line) (lines : List (List ℕ)) (ns : List Note) where
  -- the name is there since the opening, or a line registered it by this tick
  abbrev By : ℕ → List ℕ → ℕ → Type 0
  By node app tick = wire_has_name opening node app ≡ false → IsRegistration plan 0 fac node app tick lines ns

  -- so is each name of the wire, and each for which a flow was asked
  pub record IsNamed (now : ℕ) (l : Line) : Type 0 where
    pub names : (node : ℕ) (app : List ℕ) → is_ipc app ≡ false → is_registered l.names node app ≡ true → By node app now
    pub ends : (i : ℕ) (e : End) → At l.ends i e → e.role ≡ Asker → wire_end_at opening i ≡ None → is_ipc e.peer ≡ false → By (other_node l e.port.node) e.peer e.flow.tick

  -- what is said of an end is said of what it keeps for good
  abbrev IsAsked : Line → End → Type 0
  IsAsked l e = e.role ≡ Asker → is_ipc e.peer ≡ false → By (other_node l e.port.node) e.peer e.flow.tick

  by_same : (l l' : Line) (e e' : End) → l'.a ≡ l.a → l'.b ≡ l.b → IsOneEnd e e' → By (other_node l e.port.node) e.peer e.flow.tick → By (other_node l' e'.port.node) e'.peer e'.flow.tick
  by_same l l' e e' a b s by = rw (other_same l l' e'.port.node a b, s.port, s.peer, s.flow) by

  follow : (now later : ℕ) (l l' : Line) → now ≤ later → Follows l l' → IsNamed now l → IsNamed later l'
  follow now later l l' le f h = record {
    names = λ node app plain k none. later_line plan 0 fac node app now later lines ns le (h.names node app plain (f.names node app k) none);
    ends = λ i e at role new plain.
        let was = f.ends i e (record { end = e; stands = at; same = one_refl e }) in
        by_same l l' was.end e f.a f.b was.same (h.ends i was.end was.stands (sym was.same.role ∙ role) new (subst (λ (p : List ℕ). is_ipc p ≡ false) was.same.peer plain));
  }

  asked_flow : (now : ℕ) (ask : Ask) (l : Line) → flow_refusal l ask ≡ None → IsNamed now l → IsNamed now (flow_made now ask l)
  asked_flow now ask l free h =
      let flow = flow_on l now ask.node in
      let x = asker_end flow (port_on l ask.fac ask.node) ask 0 Allocated in
      let y = far_end flow (port_on l ask.fac (other_node l ask.node)) ask 0 in
      record {
        names = h.names;
        ends = λ i e at role new plain. elim (two_at l.ends x y i e at) [
          | inl old ↦ h.ends i e old role new plain
          | inr more ↦ elim more [
            | inl t ↦ subst (IsAsked l) (sym t.1) (λ asks other. h.names (other_node l ask.node) ask.to other (there_named l ask free)) role plain
            | inr t ↦ subst (IsAsked l) (sym t.1) (λ asks other. absurd (let clash : Far ≡ Asker = asks in cc)) role plain
          ]
        ];
      }

  -- a name that a line registers, or that is an IPC process's
  pub one_more : (now node : ℕ) (app : List ℕ) (l : Line) → (is_ipc app ≡ false → IsRegistration plan 0 fac node app now lines ns) → IsNamed now l → IsNamed now (named node app l)
  one_more now node app l by h = record {
    names = λ place name plain k. elim (named_by l.names node app place name k) [
      | inl old ↦ h.names place name plain old
      | inr t ↦ λ none. rw (← t.0, ← t.1) (by (rw t.1 plain))
    ];
    ends = h.ends;
  }

  pub calls : KeepsLine IsNamed
  calls = record {
    unnamed = λ now node app l h. follow now now l (unnamed node app l) (omega arith) (record { a = refl; b = refl; names = λ place name k. named_still l.names (name_place l.names node app) place name k; ends = λ i e k. k }) h;
    flow = asked_flow;
    claimed = λ now l o h. follow now now l (without l o) (omega arith) (claimed_after l o) h;
    sent = λ now failed n bytes l i e line flows alive at h. follow now now l (sent_from now bytes l i e) (omega arith) (record { a = refl; b = refl; names = λ node app k. k; ends = λ j x k. in_set x j l.ends i e (with_sent e (next_entry now bytes l)) at (record { flow = refl; role = refl; port = refl; app = refl; peer = refl; cube = refl }) k }) h;
    passed = λ now l i e at h. follow now now l (passed_at l i e) (omega arith) (record { a = refl; b = refl; names = λ node app k. k; ends = λ j x k. in_set x j l.ends i e (with_passed e) at (record { flow = refl; role = refl; port = refl; app = refl; peer = refl; cube = refl }) k }) h;
    ticked = λ before failed n l alive flows h. follow before (before + 1) l (line_ticked (before + 1) l) (omega arith) (record { a = refl; b = refl; names = λ node app k. k; ends = back_fold (before + 1) l.ends l.flights }) h;
    mended = λ now l h. follow now now l (mended l) (omega arith) (record { a = refl; b = refl; names = λ node app k. k; ends = λ i e k. k }) h;
  }

  pub happens : KeepsEvents IsNamed
  happens = record {
    lost = λ now frame l h. follow now now l (lost frame l) (omega arith) (lost_after l (copy_place frame l.flights)) h;
    held = λ now frame at l h. follow now now l (held frame at l) (omega arith) (held_after at l (copy_place frame l.flights)) h;
    repeated = λ now frame at l h. follow now now l (repeated frame at l) (omega arith) (repeated_after at l (first_copy frame l.flights)) h;
    freed = λ now l i e at h. follow now now l (freed_at l i e) (omega arith) (freed_after l i e) h;
    cut = λ now l h. follow now now l (cut_line now l) (omega arith) (cut_after now l) h;
  }
