-- Events of a wire that take no memory answer no want of it.
use Rattle.std.proofs.Common.{◌≡◌, ◌≢◌, ℕ, ◌+◌, nat_le, Bool, true, false, Option, Some, None, Result, Err, if◌then◌else◌, subst}
use Rattle.rina_wire.specs.declared.event.WireError.{WireError}
use Rattle.rina_wire.specs.declared.event.WireError.TheVariants.{Memory, EarlyHold, LateHold}
use Rattle.rina_wire.specs.declared.flight.Flight.{Flight}
use Rattle.rina_wire.specs.Air.{Air, Line, wire_at}
use Rattle.rina_wire.specs.Cut.{wire_refusal_on}
use Rattle.rina_wire.specs.Disturb.{at_refusal, copy_refusal, first_copy, lose_refusal_on, move_refusal_on}
use Rattle.rina_tower.specs.declared.tower.Tower.{Tower, Wires, Rank'}
use Rattle.rina_tower.specs.Events.{Cuts, HoldsBack, Loses, Mends}
use Rattle.rina_tower.specs.Levels.{AtWires}

-- what the wires of a tower do not answer, the tower does not
nowhere : (P : Air → Air → Type 0) → ((a a' : Air) → P a a' → ⊥) → (t t' : Tower) → AtWires P t t' → ⊥
nowhere P never (Wires a) (Wires a') h = never a a' h
nowhere P never (Rank' p difs below) (Rank' p' difs' below') h = nowhere P never below below' h.1
nowhere P never (Wires a) (Rank' p difs below) h = h
nowhere P never (Rank' p difs below) (Wires a) h = h

cut_refuses : (o : Option Line) → wire_refusal_on o ≡ Some Memory → ⊥
cut_refuses None is = cc
cut_refuses (Some l) is = cc

copy_refuses : (frame : ℕ) (own : Flight → Option WireError) → ((f : Flight) → own f ≡ Some Memory → ⊥) → (o : Option Flight) → copy_refusal frame own o ≡ Some Memory → ⊥
copy_refuses frame own never None is = cc
copy_refuses frame own never (Some f) is = never f is

none_refused : (f : Flight) → None ≡ Some Memory → ⊥
none_refused f is = cc

lose_refuses : (frame : ℕ) (o : Option Line) → lose_refusal_on frame o ≡ Some Memory → ⊥
lose_refuses frame None is = cc
lose_refuses frame (Some l) is = copy_refuses frame (λ f. None) none_refused (first_copy frame l.flights) is

late : (b : Bool) (last : ℕ) → (if b then None else Some (LateHold last)) ≡ Some Memory → ⊥
late true last is = cc
late false last is = cc

early : (b c : Bool) (now last : ℕ) → (if b then Some (EarlyHold now) else (if c then None else Some (LateHold last))) ≡ Some Memory → ⊥
early true c now last is = cc
early false c now last is = late c last is

at_refuses : (now life at : ℕ) (f : Flight) → at_refusal now life at f ≡ Some Memory → ⊥
at_refuses now life at f is = early (nat_le at now) (nat_le at (f.sent + life)) now (f.sent + life) is

move_refuses : (now frame at : ℕ) (o : Option Line) → move_refusal_on now frame at o ≡ Some Memory → ⊥
move_refuses now frame at None is = cc
move_refuses now frame at (Some l) is = copy_refuses frame (at_refusal now l.life at) (at_refuses now l.life at) (first_copy frame l.flights) is

pub loses : (wire frame : ℕ) (r : Result (Unit {0}) WireError) (t t' : Tower) → Loses wire frame r t t' → r ≢ Err Memory
loses wire frame r t t' h = λ is. nowhere _ (λ a a' p. lose_refuses frame (wire_at a wire) p.refused) t t' (subst (λ x. Loses wire frame x t t') is h)

pub holds : (wire frame at : ℕ) (r : Result (Unit {0}) WireError) (t t' : Tower) → HoldsBack wire frame at r t t' → r ≢ Err Memory
holds wire frame at r t t' h = λ is. nowhere _ (λ a a' p. move_refuses a.now frame at (wire_at a wire) p.refused) t t' (subst (λ x. HoldsBack wire frame at x t t') is h)

pub cuts : (wire : ℕ) (r : Result (Unit {0}) WireError) (t t' : Tower) → Cuts wire r t t' → r ≢ Err Memory
cuts wire r t t' h = λ is. nowhere _ (λ a a' p. cut_refuses (wire_at a wire) p.refused) t t' (subst (λ x. Cuts wire x t t') is h)

pub mends : (wire : ℕ) (r : Result (Unit {0}) WireError) (t t' : Tower) → Mends wire r t t' → r ≢ Err Memory
mends wire r t t' h = λ is. nowhere _ (λ a a' p. cut_refuses (wire_at a wire) p.refused) t t' (subst (λ x. Mends wire x t t') is h)
