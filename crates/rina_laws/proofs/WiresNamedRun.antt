-- Each name of a wire, and each application for which a flow of a wire was asked, was registered by a line of the schedule.
use Rattle.std.proofs.Common.{◌≡◌, ◌∙◌, ℕ, ◌+◌, false, List, [], ◌∷◌, Option, Some, Result, Ok, Err, Contains, refl, sym, ap, subst, arith}
use Rattle.std.proofs.lemmas.Bool.{false≢true}
use Rattle.std.proofs.lemmas.List.Elements.{Contains-append_left, Contains-append_right}
use Rattle.std.proofs.lemmas.Option.{none-some}
use Rattle.rina_iface.specs.declared.error.RegisterError.{RegisterError}
use Rattle.rina_iface.specs.declared.error.RegisterError.TheVariants as register
use Rattle.rina_policy.specs.Slots.{Slot}
use Rattle.rina_report.specs.declared.note.Note.{Note}
use Rattle.rina_schedule.specs.declared.error.LineError.{LineError}
use Rattle.rina_schedule.specs.declared.event.Event.{Event}
use Rattle.rina_schedule.specs.declared.event.Event.TheVariants as events
use Rattle.rina_stack.specs.declared.plan.Plan.{Plan}
use Rattle.rina_wire.specs.Air.{Air, Line, wire_at}
use Rattle.rina_wire.specs.Register.{RegistersOn}
use Rattle.rina_tower.specs.Bystanders.{is_ipc}
use Rattle.rina_tower.specs.Ranks.{now_of}
use Rattle.rina_tower.specs.Stands.{IsTower}
use Rattle.rina_notes.specs.Sites.{site_at}
use Rattle.rina_schedule.specs.Line.{line_at}
use Rattle.rina_words.specs.Step.{Acts, Stage}
use Rattle.rina_run.specs.Opening.{IsOpening}
use Rattle.rina_run.specs.Run.{Runs}
use Rattle.rina_laws.specs.Frames.{wires_of}
use Rattle.rina_laws.specs.Named.{IsRegistration}
use Rattle.rina_laws.specs.WireNames.{WireFlowsAreToNames, WireNamesAreRegistered, wire_end_at, wire_has_name}
use Rattle.rina_laws.proofs.NamedRun.{IsAmong, IsHere, IsName, among_first, among_in, among_later, here_in, here_told, its_site, line_stands, registration}
use Rattle.rina_laws.proofs.WiresAt.{Holds}
use Rattle.rina_laws.proofs.WiresCalls.{HasWire, keeps_registers}
use Rattle.rina_laws.proofs.WiresNamed.{IsNamed, calls, happens, one_more}
use Rattle.rina_laws.proofs.WiresOf.{wires_now, wires_sound}
use Rattle.rina_laws.proofs.WiresRun.{NamesKeep, line_keeps}
use Rattle.rina_laws.proofs.WiresWords.{publishing, registering}

-- the clock stands still where a name is registered
stands_still : (now : ℕ) (a : Air) (n node : ℕ) (app : List ℕ) (r : Result (Unit {0}) RegisterError) (a' : Air) → a.now ≡ now → RegistersOn a n node app r a' → a'.now ≡ now
stands_still now a n node app (Ok done) a' is g = ap (λ (z : Air). z.now) g.air ∙ is
stands_still now a n node app (Err register.Memory) a' is g = ap (λ (z : Air). z.now) g ∙ is
stands_still now a n node app (Err register.Already) a' is g = ap (λ (z : Air). z.now) g.air ∙ is
stands_still now a n node app (Err register.NoMember) a' is g = ap (λ (z : Air). z.now) g.air ∙ is
stands_still now a n node app (Err (register.CountSpent need left)) a' is g = ap (λ (z : Air). z.now) g.air ∙ is

module _ (plan : Plan) (fac : ℕ) (opening : Option Line) (lines : List (List ℕ)) (ns : List Note) where
  abbrev Q : ℕ → Line → Type 0
  Q = IsNamed plan fac opening lines ns

  abbrev P : Air → Type 0
  P = HasWire Q fac

  -- what a line of this number registers on the wire is a registration
  abbrev IsTold : (number : ℕ) (asked : Result (Option Event) LineError) (told : List Note) → Type 0
  IsTold number asked told = (node : ℕ) (app : List ℕ) (now : ℕ) → is_ipc app ≡ false → IsHere plan 0 fac node app number asked told now → IsRegistration plan 0 fac node app now lines ns

  names_keep : (number : ℕ) (event : Event) (s : Stage) (told : List Note) (s' : Stage) → IsTower s.run.tower → IsTold number (Ok (Some event)) told → Holds P s.run.tower → Acts plan number event s told s' → NamesKeep P event s'.run
  names_keep number (events.Register dif place app) s told s' v here h d =
      let a = wires_of s.run.tower in
      let found = site_at plan 1 dif place in
      let still : (wires_of s'.run.tower).now ≡ a.now = registering (λ (b : Air). b.now ≡ a.now) app found s.run d.0.says s'.run refl d.0.does (λ site x a' is low says c g. stands_still a.now a site.fac site.node app x a' refl g) in
      let same : now_of s'.run.tower ≡ a.now = sym (wires_now s'.run.tower) ∙ still in
      registering P app found s.run d.0.says s'.run h d.0.does (λ site x a' is low says c g.
      keeps_registers Q fac a site.fac site.node app x a' (λ its done l was.
      let name : IsName 0 fac site.node app found app d.0.says = record { site = is ∙ its_site 0 fac site.node app site (sym low) (sym its) refl; app_is = refl; done = says done } in
      let line = here_told 0 fac site.node app plan number app dif place d.0.says told (now_of s'.run.tower) name d.0.notes in
      one_more plan fac opening lines ns a.now site.node app l (λ plain. subst (λ (t : ℕ). IsRegistration plan 0 fac site.node app t lines ns) same (here site.node app (now_of s'.run.tower) plain line)) was) c g)
  names_keep number (events.Publish dif place below) s told s' v here h d =
      let a = wires_of s.run.tower in
      publishing P plan dif place below s.run d.0.says s'.run h d.0.does (λ n node name x a' ipc c g.
      keeps_registers Q fac a n node name x a' (λ its done l was.
      one_more plan fac opening lines ns a.now node name l (λ plain. absurd (false≢true (sym plain ∙ ipc v))) was) c g)
  names_keep number event s told s' v here h d = tt

  -- ---- lines

  -- so is what one of these lines registers, of which the first has this number
  abbrev AreTold : (number : ℕ) (ls : List (List ℕ)) (told : List Note) → Type 0
  AreTold number ls told = (node : ℕ) (app : List ℕ) (now : ℕ) → is_ipc app ≡ false → IsAmong plan 0 fac node app number ls told now → IsRegistration plan 0 fac node app now lines ns

  runs : (number : ℕ) (s : Stage) (ls : List (List ℕ)) (told : List Note) (s' : Stage) → IsTower s.run.tower → AreTold number ls told → Runs plan number s ls told s' → Holds P s.run.tower → Holds P s'.run.tower
  runs number s [] told s' v are d h = subst (λ (w : Stage). Holds P w.run.tower) (sym d.1) h
  runs number s (l ∷ ls) told s' v are (mid, first, rest, does, others, is) h =
      let here : IsTold number (line_at l) first = λ node app now plain k.
      are node app now plain (among_first plan 0 fac node app plain number l ls told now (here_in 0 fac node app plan number (line_at l) first told now now (omega arith) (λ note c. subst (λ (xs : List Note). Contains xs note) (sym is) (Contains-append_left first rest note c)) k)) in
      let later : AreTold (number + 1) ls rest = λ node app now plain k.
      are node app now plain (among_later plan 0 fac node app plain number l ls told now (among_in plan 0 fac node app plain (number + 1) ls rest told now (λ note c. subst (λ (xs : List Note). Contains xs note) (sym is) (Contains-append_right first rest note c)) k)) in
      let one = line_keeps Q (calls plan fac opening lines ns) (happens plan fac opening lines ns) fac plan number (line_at l) s first mid (λ event some w asks more acts.
      names_keep number event s some w v (λ node app now plain k. here node app now plain (here_in 0 fac node app plan number (line_at l) some first now now (omega arith) more (subst (λ (r : Result (Option Event) LineError). IsHere plan 0 fac node app number r some now) (sym asks) k))) h acts) h does in
      runs (number + 1) mid ls rest s' (line_stands plan number (line_at l) s first mid v does) later others one

-- ---- the laws

-- what was there where a run begins is not new
begins : (plan : Plan) (fac : ℕ) (lines : List (List ℕ)) (ns : List Note) (a : Air) (l : Line) → wire_at a fac ≡ Some l → IsNamed plan fac (wire_at a fac) lines ns a.now l
begins plan fac lines ns a l wire = record {
  names = λ node app plain k none. absurd (false≢true (sym none ∙ ap (λ (o : Option Line). wire_has_name o node app) wire ∙ k));
  ends = λ i e at role new plain. absurd (none-some e (sym new ∙ ap (λ (o : Option Line). wire_end_at o i) wire ∙ at));
}

has_names : (plan : Plan) (shelf : List Slot) (start : Stage) (lines : List (List ℕ)) (ns : List Note) (s : Stage) → IsOpening plan shelf start → Runs plan 1 start lines ns s → (fac : ℕ) → Holds (HasWire (IsNamed plan fac (wire_at (wires_of start.run.tower) fac) lines ns) fac) s.run.tower
has_names plan shelf start lines ns s o d fac =
    let a = wires_of start.run.tower in
    runs plan fac (wire_at a fac) lines ns 1 start lines ns s o.stands (λ node app now plain k. registration plan 0 fac node app lines ns now k) d (record {
      sound = wires_sound start.run.tower o.stands;
      holds = λ l wire. begins plan fac lines ns a l wire;
    })

pub wire_names_are_registered : WireNamesAreRegistered
wire_names_are_registered plan shelf start lines ns s o d fac l wire node app plain none k =
    let by = ((has_names plan shelf start lines ns s o d fac).holds l wire).names node app plain k none in
    subst (λ (t : ℕ). IsRegistration plan 0 fac node app t lines ns) (wires_now s.run.tower) by

pub wire_flows_are_to_names : WireFlowsAreToNames
wire_flows_are_to_names plan shelf start lines ns s o d fac l wire i e at role new plain none = ((has_names plan shelf start lines ns s o d fac).holds l wire).ends i e at role new plain none
