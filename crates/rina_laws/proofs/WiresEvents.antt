-- What each event of a wire, and the end of a flow, keeps of one wire.
use Rattle.std.proofs.Common.{ℕ, Result, Ok, Err, sym, subst}
use Rattle.rina_base.specs.declared.number.Port.{Port}
use Rattle.rina_iface.specs.declared.ends.End.{End}
use Rattle.rina_iface.specs.declared.error.FreeError.{FreeError}
use Rattle.rina_iface.specs.declared.error.FreeError.TheVariants as frees
use Rattle.rina_iface.specs.Journal.{At}
use Rattle.rina_wire.specs.declared.event.WireError.{WireError}
use Rattle.rina_wire.specs.declared.event.WireError.TheVariants as wires
use Rattle.rina_wire.specs.Air.{Air, Line}
use Rattle.rina_wire.specs.Cut.{CutsOn, cut_line}
use Rattle.rina_wire.specs.Disturb.{HoldsOn, LosesOn, RepeatsOn, held, lost, repeated}
use Rattle.rina_wire.specs.Free.{FreesOn, freed_at}
use Rattle.rina_wire.proofs.SoundCut.{sound_cuts}
use Rattle.rina_wire.proofs.SoundDisturb.{sound_holds, sound_loses, sound_repeats}
use Rattle.rina_wire.proofs.SoundFree.{sound_frees}
use Rattle.rina_laws.proofs.WiresCalls.{HasWire, OnWire, carry_end, carry_wire}

pub keeps_lose : (Q : ℕ → Line → Type 0) (kept : (now frame : ℕ) (l : Line) → Q now l → Q now (lost frame l)) (fac : ℕ) (a : Air) (n frame : ℕ) (r : Result (Unit {0}) WireError) (a' : Air) → HasWire Q fac a → LosesOn a n frame r a' → HasWire Q fac a'
keeps_lose Q kept fac a n frame (Ok done) a' c g = record {
  sound = sound_loses a n frame (Ok done) a' c.sound g;
  holds = subst (OnWire Q fac) (sym g.air) (carry_wire Q fac a n (lost frame) c.holds (λ l same h d. kept a.now frame l d));
}
keeps_lose Q kept fac a n frame (Err e) a' c g = record { sound = sound_loses a n frame (Err e) a' c.sound g; holds = subst (OnWire Q fac) (sym g.air) c.holds }

pub keeps_hold : (Q : ℕ → Line → Type 0) (kept : (now frame at : ℕ) (l : Line) → Q now l → Q now (held frame at l)) (fac : ℕ) (a : Air) (n frame at : ℕ) (r : Result (Unit {0}) WireError) (a' : Air) → HasWire Q fac a → HoldsOn a n frame at r a' → HasWire Q fac a'
keeps_hold Q kept fac a n frame at (Ok done) a' c g = record {
  sound = sound_holds a n frame at (Ok done) a' c.sound g;
  holds = subst (OnWire Q fac) (sym g.air) (carry_wire Q fac a n (held frame at) c.holds (λ l same h d. kept a.now frame at l d));
}
keeps_hold Q kept fac a n frame at (Err e) a' c g = record { sound = sound_holds a n frame at (Err e) a' c.sound g; holds = subst (OnWire Q fac) (sym g.air) c.holds }

repeats_wire : (Q : ℕ → Line → Type 0) (kept : (now frame at : ℕ) (l : Line) → Q now l → Q now (repeated frame at l)) (fac : ℕ) (a : Air) (n frame at : ℕ) (r : Result (Unit {0}) WireError) (a' : Air) → OnWire Q fac a → RepeatsOn a n frame at r a' → OnWire Q fac a'
repeats_wire Q kept fac a n frame at (Ok done) a' c g = subst (OnWire Q fac) (sym g.air) (carry_wire Q fac a n (repeated frame at) c (λ l same h d. kept a.now frame at l d))
repeats_wire Q kept fac a n frame at (Err wires.Memory) a' c g = subst (OnWire Q fac) (sym g) c
repeats_wire Q kept fac a n frame at (Err wires.NoWire) a' c g = subst (OnWire Q fac) (sym g.air) c
repeats_wire Q kept fac a n frame at (Err (wires.NoFrame m)) a' c g = subst (OnWire Q fac) (sym g.air) c
repeats_wire Q kept fac a n frame at (Err (wires.EarlyHold now)) a' c g = subst (OnWire Q fac) (sym g.air) c
repeats_wire Q kept fac a n frame at (Err (wires.LateHold last)) a' c g = subst (OnWire Q fac) (sym g.air) c

pub keeps_repeat : (Q : ℕ → Line → Type 0) (kept : (now frame at : ℕ) (l : Line) → Q now l → Q now (repeated frame at l)) (fac : ℕ) (a : Air) (n frame at : ℕ) (r : Result (Unit {0}) WireError) (a' : Air) → HasWire Q fac a → RepeatsOn a n frame at r a' → HasWire Q fac a'
keeps_repeat Q kept fac a n frame at r a' c g = record { sound = sound_repeats a n frame at r a' c.sound g; holds = repeats_wire Q kept fac a n frame at r a' c.holds g }

frees_wire : (Q : ℕ → Line → Type 0) (kept : (now : ℕ) (l : Line) (i : ℕ) (e : End) → At l.ends i e → Q now l → Q now (freed_at l i e)) (fac : ℕ) (a : Air) (port : Port) (r : Result (Unit {0}) FreeError) (a' : Air) → OnWire Q fac a → FreesOn a port r a' → OnWire Q fac a'
frees_wire Q kept fac a port (Ok done) a' c g = subst (OnWire Q fac) (sym g.air) (carry_end Q fac a port freed_at c (λ l i e same h place at d. kept a.now l i e at d))
frees_wire Q kept fac a port (Err frees.Memory) a' c g = subst (OnWire Q fac) (sym g) c
frees_wire Q kept fac a port (Err frees.NoPort) a' c g = subst (OnWire Q fac) (sym g.air) c

pub keeps_free : (Q : ℕ → Line → Type 0) (kept : (now : ℕ) (l : Line) (i : ℕ) (e : End) → At l.ends i e → Q now l → Q now (freed_at l i e)) (fac : ℕ) (a : Air) (port : Port) (r : Result (Unit {0}) FreeError) (a' : Air) → HasWire Q fac a → FreesOn a port r a' → HasWire Q fac a'
keeps_free Q kept fac a port r a' c g = record { sound = sound_frees a port r a' c.sound g; holds = frees_wire Q kept fac a port r a' c.holds g }

pub keeps_cut : (Q : ℕ → Line → Type 0) (kept : (now : ℕ) (l : Line) → Q now l → Q now (cut_line now l)) (fac : ℕ) (a : Air) (n : ℕ) (r : Result (Unit {0}) WireError) (a' : Air) → HasWire Q fac a → CutsOn a n r a' → HasWire Q fac a'
keeps_cut Q kept fac a n (Ok done) a' c g = record {
  sound = sound_cuts a n (Ok done) a' c.sound g;
  holds = subst (OnWire Q fac) (sym g.air) (carry_wire Q fac a n (cut_line a.now) c.holds (λ l same h d. kept a.now l d));
}
keeps_cut Q kept fac a n (Err e) a' c g = record { sound = sound_cuts a n (Err e) a' c.sound g; holds = subst (OnWire Q fac) (sym g.air) c.holds }
