-- What every call and event keeps of one wire, every run keeps.
use Rattle.std.proofs.Common.{◌≡◌, ℕ, ◌+◌, List, [], ◌∷◌, Some, None, Option, Result, Ok, Err, Contains, refl, sym, subst}
use Rattle.std.proofs.lemmas.List.Elements.{Contains-append_left}
use Rattle.rina_iface.specs.declared.ends.End.{End}
use Rattle.rina_iface.specs.Journal.{At}
use Rattle.rina_report.specs.declared.note.Note.{Note}
use Rattle.rina_schedule.specs.declared.error.LineError.{LineError}
use Rattle.rina_schedule.specs.declared.event.Event.{Event}
use Rattle.rina_schedule.specs.declared.event.Event.TheVariants as events
use Rattle.rina_stack.specs.declared.plan.Plan.{Plan}
use Rattle.rina_wire.specs.Air.{Air, Line}
use Rattle.rina_wire.specs.Cut.{cut_line}
use Rattle.rina_wire.specs.Disturb.{held, lost, repeated}
use Rattle.rina_wire.specs.Free.{freed_at}
use Rattle.rina_wire.specs.Register.{named}
use Rattle.rina_notes.specs.Look.{state_notes}
use Rattle.rina_notes.specs.Sites.{port_in, site_at}
use Rattle.rina_schedule.specs.Line.{line_at}
use Rattle.rina_words.specs.declared.run.Run.{Run}
use Rattle.rina_words.specs.Step.{Acts, Stage, rounds_after, wire_of}
use Rattle.rina_run.specs.Run.{LineDoes, Runs}
use Rattle.rina_laws.specs.Frames.{wires_of}
use Rattle.rina_laws.proofs.WiresAt.{Holds, rounds_by}
use Rattle.rina_laws.proofs.WiresCalls.{HasWire, KeepsLine, keeps_registers, keeps_wire}
use Rattle.rina_laws.proofs.WiresFreed.{Never, free_clocks, never_after, never_word}
use Rattle.rina_laws.proofs.WiresEvents.{keeps_cut, keeps_free, keeps_hold, keeps_lose, keeps_repeat}
use Rattle.rina_laws.proofs.WiresWords.{Special, acts, cutting, freeing, holding, losing, publishing, registering, repeating}

-- what the events of a wire, and the end of a flow, do to a wire keeps the property of it
pub record KeepsEvents (Q : ℕ → Line → Type 0) : Type 0 where
  pub lost : (now frame : ℕ) (l : Line) → Q now l → Q now (lost frame l)
  pub held : (now frame at : ℕ) (l : Line) → Q now l → Q now (held frame at l)
  pub repeated : (now frame at : ℕ) (l : Line) → Q now l → Q now (repeated frame at l)
  pub freed : (now : ℕ) (l : Line) (i : ℕ) (e : End) → At l.ends i e → Q now l → Q now (freed_at l i e)
  pub cut : (now : ℕ) (l : Line) → Q now l → Q now (cut_line now l)

-- what has to be shown of a word that registers a name
abbrev pub NamesKeep : (Air → Type 0) → Event → Run → Type 0
NamesKeep P (events.Register name node app) w' = Holds P w'.tower
NamesKeep P (events.Publish dif node fac) w' = Holds P w'.tower
NamesKeep P event w' = Unit {0}

special : (Q : ℕ → Line → Type 0) (kept : KeepsEvents Q) (fac : ℕ) (plan : Plan) (line : ℕ) (event : Event) (s : Stage) (ns : List Note) (s' : Stage) → NamesKeep (HasWire Q fac) event s'.run → Holds (HasWire Q fac) s.run.tower → Acts plan line event s ns s' → Special (HasWire Q fac) event s'.run
special Q kept fac plan line (events.Lose wire frame) s ns s' names h d = losing (HasWire Q fac) (wire_of plan wire) frame s.run d.0.says s'.run h d.0.does (λ n r a' is told c g. keeps_lose Q kept.lost fac (wires_of s.run.tower) n frame r a' c g)
special Q kept fac plan line (events.Repeat wire frame at) s ns s' names h d = repeating (HasWire Q fac) (wire_of plan wire) frame at s.run d.0.says s'.run h d.0.does (λ n r a' is told c g. keeps_repeat Q kept.repeated fac (wires_of s.run.tower) n frame at r a' c g)
special Q kept fac plan line (events.Hold wire frame at) s ns s' names h d = holding (HasWire Q fac) (wire_of plan wire) frame at s.run d.0.says s'.run h d.0.does (λ n r a' is told c g. keeps_hold Q kept.held fac (wires_of s.run.tower) n frame at r a' c g)
special Q kept fac plan line (events.Cut wire) s ns s' names h d = cutting (HasWire Q fac) (wire_of plan wire) s.run d.0.says s'.run h d.0.does (λ n r a' is told c g. keeps_cut Q kept.cut fac (wires_of s.run.tower) n r a' c g)
special Q kept fac plan line (events.Free label) s ns s' names h d = freeing (HasWire Q fac) (port_in s.run.labels label) s.run d.0.says s'.run h d.0.does (λ rank port r a' is low c g. keeps_free Q kept.freed fac (wires_of s.run.tower) port r a' c g)
special Q kept fac plan line (events.Register name node app) s ns s' names h d = names
special Q kept fac plan line (events.Publish dif node fac_name) s ns s' names h d = names
special Q kept fac plan line event s ns s' names h d = tt

-- what is registered keeps the property, whoever's name it is
abbrev pub AnyName : (ℕ → Line → Type 0) → Type 0
AnyName Q = (now node : ℕ) (app : List ℕ) (l : Line) → Q now l → Q now (named node app l)

any_name : (Q : ℕ → Line → Type 0) (kept : AnyName Q) (fac : ℕ) (plan : Plan) (line : ℕ) (event : Event) (s : Stage) (ns : List Note) (s' : Stage) → Holds (HasWire Q fac) s.run.tower → Acts plan line event s ns s' → NamesKeep (HasWire Q fac) event s'.run
any_name Q kept fac plan line (events.Register name node app) s ns s' h d = registering (HasWire Q fac) app (site_at plan 1 name node) s.run d.0.says s'.run h d.0.does (λ site x a' is low told c g. keeps_registers Q fac (wires_of s.run.tower) site.fac site.node app x a' (λ same done l. kept (wires_of s.run.tower).now site.node app l) c g)
any_name Q kept fac plan line (events.Publish dif node fac_name) s ns s' h d = publishing (HasWire Q fac) plan dif node fac_name s.run d.0.says s'.run h d.0.does (λ n place name x a' ipc c g. keeps_registers Q fac (wires_of s.run.tower) n place name x a' (λ same done l. kept (wires_of s.run.tower).now place name l) c g)
any_name Q kept fac plan line event s ns s' h d = tt

-- what each word of a line keeps as it registers a name
abbrev pub WordKeeps : (Air → Type 0) → (plan : Plan) (number : ℕ) (r : Result (Option Event) LineError) (s : Stage) (ns : List Note) → Type 0
WordKeeps P plan number r s ns = (event : Event) (told : List Note) (mid : Stage) → r ≡ Ok (Some event) → ((note : Note) → Contains told note → Contains ns note) → Acts plan number event s told mid → NamesKeep P event mid.run

pub line_keeps : (Q : ℕ → Line → Type 0) (calls : KeepsLine Q) (kept : KeepsEvents Q) (fac : ℕ) (plan : Plan) (number : ℕ) (r : Result (Option Event) LineError) (s : Stage) (ns : List Note) (s' : Stage) → WordKeeps (HasWire Q fac) plan number r s ns → Holds (HasWire Q fac) s.run.tower → LineDoes plan number r s ns s' → Holds (HasWire Q fac) s'.run.tower
line_keeps Q calls kept fac plan number (Ok None) s ns s' word h d = subst (λ (v : Stage). Holds (HasWire Q fac) v.run.tower) (sym d.1) h
line_keeps Q calls kept fac plan number (Ok (Some event)) s ns s' word h d =
    let states = state_notes plan number s'.run.tower d.mid.run.labels in
    let names = word event d.answer d.mid refl (λ note c. subst (λ (xs : List Note). Contains xs note) (sym d.notes) (Contains-append_left d.answer states note c)) d.acts in
    let all = keeps_wire Q calls fac in
    let clock = free_clocks (HasWire Q fac) all (keeps_free Q kept.freed fac) in
    let acted = acts (HasWire Q fac) all Never clock plan number event s d.answer d.mid (special Q kept fac plan number event s d.answer d.mid names h d.acts) d.acts (never_word plan number event s d.answer d.mid d.acts) h in
    let rounds = rounds_after plan.rounds event in
    rounds_by (HasWire Q fac) all Never clock rounds d.mid.shelf s'.shelf d.mid.run.tower s'.run.tower d.rounds (never_after rounds d.mid.shelf d.mid.run.tower s'.shelf s'.run.tower d.rounds) acted
line_keeps Q calls kept fac plan number (Err e) s ns s' word h d = absurd d

pub runs_keep : (Q : ℕ → Line → Type 0) (calls : KeepsLine Q) (names : AnyName Q) (kept : KeepsEvents Q) (fac : ℕ) (plan : Plan) (number : ℕ) (s : Stage) (ls : List (List ℕ)) (ns : List Note) (s' : Stage) → Runs plan number s ls ns s' → Holds (HasWire Q fac) s.run.tower → Holds (HasWire Q fac) s'.run.tower
runs_keep Q calls names kept fac plan number s [] ns s' d h = subst (λ (v : Stage). Holds (HasWire Q fac) v.run.tower) (sym d.1) h
runs_keep Q calls names kept fac plan number s (l ∷ ls) ns s' (mid, first, rest, does, others, is) h =
    runs_keep Q calls names kept fac plan (number + 1) mid ls rest s' others (line_keeps Q calls kept fac plan number (line_at l) s first mid (λ event told w asks more acts. any_name Q names fac plan number event s told w h acts) h does)
