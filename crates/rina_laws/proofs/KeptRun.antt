-- What a new DIF has and each call and each step keeps, each DIF of a tower has after any run from its opening.
use Rattle.std.proofs.Common.{◌≡◌, ℕ, ◌+◌, ◌≤◌, zero, suc, List, [], ◌∷◌, slice_get, false, Option, Some, None, Result, Ok, Err, Contains, refl, sym, ap, subst, arith, inl, inr}
use Rattle.std.proofs.lemmas.Bool.{cases_Bool}
use Rattle.std.proofs.lemmas.List.Elements.{Contains-append_left, Contains-append_right}
use Rattle.rina_base.specs.declared.number.Port.{Port}
use Rattle.rina_iface.specs.declared.ask.Fixed.{Fixed}
use Rattle.rina_iface.specs.declared.error.AllocateError.{AllocateError}
use Rattle.rina_iface.specs.declared.error.RegisterError.{RegisterError}
use Rattle.rina_iface.specs.Seen.{Seen}
use Rattle.rina_iface.proofs.Changed.{set_at}
use Rattle.rina_report.specs.declared.note.Note.{Note}
use Rattle.rina_schedule.specs.declared.error.LineError.{LineError}
use Rattle.rina_schedule.specs.declared.event.Event.{Event}
use Rattle.rina_schedule.specs.Line.{line_at}
use Rattle.rina_stack.specs.declared.plan.Plan.{Plan}
use Rattle.rina_dif.specs.declared.dif.Dif.{Dif}
use Rattle.rina_dif.specs.Whole.{IsDif}
use Rattle.rina_tower.specs.declared.tower.Tower.{Tower, Wires, Rank'}
use Rattle.rina_tower.specs.Bystanders.{is_ipc}
use Rattle.rina_tower.specs.BuiltWhole.{IsFresh, IsMade}
use Rattle.rina_tower.specs.Calls.{BindsFrom}
use Rattle.rina_tower.specs.Fits.{flows_at}
use Rattle.rina_tower.specs.Ranks.{height_of}
use Rattle.rina_tower.specs.Stands.{IsTower}
use Rattle.rina_notes.specs.Look.{state_notes}
use Rattle.rina_words.specs.Step.{Stage, rounds_after}
use Rattle.rina_run.specs.Run.{LineDoes, Runs}
use Rattle.rina_asked.proofs.Allocates.{allocate_keeps_alone, allocate_keeps_ends}
use Rattle.rina_asked.proofs.Awaits.{free_so}
use Rattle.rina_asked.proofs.Calls.{bind_keeps, cdap_keeps, free_keeps, incoming_keeps, out_keeps, pass_keeps, register_keeps, send_keeps, time_keeps, unregister_keeps}
use Rattle.rina_asked.proofs.Clocks.{clock_keeps}
use Rattle.rina_asked.proofs.Enrols.{enrol_keeps}
use Rattle.rina_asked.proofs.Ins.{in_keeps_alone, in_keeps_ends}
use Rattle.rina_asked.proofs.Quiet.{alone_lasts, ends_last}
use Rattle.rina_asked.proofs.Starts.{new_alone, new_asked}
use Rattle.rina_asked.specs.Alone.{AreAlone}
use Rattle.rina_asked.specs.Calls.{BindKeeps, NewAre, RegisterKeeps}
use Rattle.rina_asked.specs.Ends.{HaveEnds}
use Rattle.rina_laws.specs.Messages.{AsksAreAlone, HoldsInRuns, MessagesHaveEnds, OfEach, WhileAlive}
use Rattle.rina_laws.proofs.KeptDifs.{EachHas, IsKept, Registering, clock_set, enrol_set, in_set}
use Rattle.rina_laws.proofs.KeptSteps.{Sure, sure_is, sure_on}
use Rattle.rina_laws.proofs.KeptWords.{HereKeeps, IsOpen, acts, rounds_by}
use Rattle.rina_laws.proofs.NamedRun.{IsAmong, among_first, among_in, among_later, here_in}
use Rattle.rina_laws.proofs.StartsAt.{BindsKeep, dif_there, made_have, over_keeps, turn_keeps}

-- ---- the lines

-- what one of some lines registers, of which the first has this number, keeps it from its tick on
abbrev pub LinesKeep : (ℕ → ℕ → Dif → Type 0) → (plan : Plan) (number : ℕ) (lines : List (List ℕ)) (ns : List Note) → Type 0
LinesKeep P plan number lines ns = (r n node : ℕ) (app : List ℕ) (done : Unit {0}) (tick : ℕ) → is_ipc app ≡ false → IsAmong plan r n node app number lines ns tick → Registering (P r n) tick node app (Ok done)

module _ (P : ℕ → ℕ → Dif → Type 0) (k : (r n : ℕ) → IsKept (P r n)) (open_to : (r n : ℕ) → IsOpen (P r n)) where
  -- so is the name of an IPC process
  any_name : (tick r n node : ℕ) (app : List ℕ) (done : Unit {0}) → (is_ipc app ≡ false → Registering (P r n) tick node app (Ok done)) → Registering (P r n) tick node app (Ok done)
  any_name tick r n node app done may = elim (cases_Bool (is_ipc app)) [
    | inl ipc ↦ λ d d' is late. (open_to r n).ipcs node app done ipc d d' is (omega arith)
    | inr plain ↦ may plain
  ]

  line_does : (plan : Plan) (number : ℕ) (asks : Result (Option Event) LineError) (s : Stage) (ns : List Note) (s' : Stage) → IsTower s.run.tower → HereKeeps P plan number asks ns → LineDoes plan number asks s ns s' → Sure P k s.run.tower s'.run.tower
  line_does plan number (Ok None) s ns s' v may d = sure_is P k s.run.tower s'.run.tower v (ap (λ (x : Stage). x.run.tower) d.1)
  line_does plan number (Ok (Some event)) s ns s' v may d =
      let states = state_notes plan number s'.run.tower d.mid.run.labels in
      let here : HereKeeps P plan number (Ok (Some event)) d.answer = λ r n node app done tick h.
      may r n node app done tick (here_in r n node app plan number (Ok (Some event)) d.answer ns tick tick (omega arith) (λ note c. subst (λ (xs : List Note). Contains xs note) (sym d.notes) (Contains-append_left d.answer states note c)) h) in
      let first = acts P k open_to plan number event s d.answer d.mid v here d.acts in
      sure_on P k s.run.tower d.mid.run.tower s'.run.tower first (rounds_by P k open_to (rounds_after plan.rounds event) d.mid.shelf s'.shelf d.mid.run.tower s'.run.tower first.valid d.rounds)
  line_does plan number (Err e) s ns s' v may d = absurd d

  pub runs : (plan : Plan) (number : ℕ) (s : Stage) (lines : List (List ℕ)) (ns : List Note) (s' : Stage) → IsTower s.run.tower → LinesKeep P plan number lines ns → Runs plan number s lines ns s' → Sure P k s.run.tower s'.run.tower
  runs plan number s [] ns s' v may d = sure_is P k s.run.tower s'.run.tower v (ap (λ (x : Stage). x.run.tower) d.1)
  runs plan number s (l ∷ ls) ns s' v may (mid, first, rest, does, others, is) =
      let here : HereKeeps P plan number (line_at l) first = λ r n node app done tick h. any_name tick r n node app done (λ plain.
      may r n node app done tick plain (among_first plan r n node app plain number l ls ns tick (here_in r n node app plan number (line_at l) first ns tick tick (omega arith) (λ note c. subst (λ (xs : List Note). Contains xs note) (sym is) (Contains-append_left first rest note c)) h))) in
      let one = line_does plan number (line_at l) s first mid v here does in
      let later : LinesKeep P plan (number + 1) ls rest = λ r n node app done tick plain a.
      may r n node app done tick plain (among_later plan r n node app plain number l ls ns tick (among_in plan r n node app plain (number + 1) ls rest ns tick (λ note c. subst (λ (xs : List Note). Contains xs note) (sym is) (Contains-append_right first rest note c)) a)) in
      sure_on P k s.run.tower mid.run.tower s'.run.tower one (runs plan (number + 1) mid ls rest s' one.valid later others)

-- ---- what holds of every DIF alike

-- a new DIF has it, and each call and each step of a DIF keeps it
pub record IsAlways (P : Dif → Type 0) : Type 0 where
  pub made : NewAre P
  pub bound : BindKeeps P
  pub registered : RegisterKeeps P
  pub others : IsKept P

-- what each DIF has while the tower is built: it is one, and has what each new DIF has
record Built (P : Dif → Type 0) (d : Dif) : Type 0 where
  valid : IsDif d
  has : WhileAlive P d

module _ (P : Dif → Type 0) (k : IsAlways P) where
  new_built : (plan : Plan) (i : ℕ) (d : Dif) (old new : Seen) → IsMade plan i d old new → Built P d
  new_built plan i d old new m =
      let dif = dif_there plan i d.settings (slice_get plan.difs i) refl m.is_new.settings in
      record { valid = m.valid; has = λ alive. k.made plan i dif.0 d old new dif.1 m.is_new (m.connected dif.0 dif.1) m.stands }

  bound_built : (d d' : Dif) (f : Fixed) (x : Result (Port × Port) AllocateError) → BindsFrom f x d d' → Built P d → Built P d'
  bound_built d d' f x s b = record {
    valid = record { below = b.valid.below; stands = s.serves.stands b.valid.below b.valid.stands; clock = subst (λ (n : ℕ). n ≤ 10000000) (sym s.serves.goes_on.clock) b.valid.clock };
    has = k.bound d d' f x b.valid s.does s.managed s.serves.goes_on s.serves.rest s.notes b.has;
  }

  binds_built : BindsKeep (OfEach (Built P))
  binds_built (Wires a) (Wires a') f ports h e = tt
  binds_built (Rank' p difs below) (Rank' p' difs' below') f ports h e =
      let one = h.0 in
      let each : (n : ℕ) (d : Dif) → slice_get difs' n ≡ Some d → Built P d = λ n d at. elim (set_at difs f.fac n one.dif one.dif' d one.is_dif (subst (λ (ds : List Dif). slice_get ds n ≡ Some d) one.new_is at)) [
        | inl s ↦ subst (Built P) (sym s.1) (bound_built one.dif one.dif' f (Ok ports) one.done (e.0 f.fac one.dif one.is_dif))
        | inr o ↦ e.0 n d o.1
      ] in
      (each, subst (OfEach (Built P)) (sym h.1) e.1)
  binds_built (Wires a) (Rank' p' difs' below') f ports h e = absurd h
  binds_built (Rank' p difs below) (Wires a') f ports h e = absurd h

  fresh_built : (plan : Plan) (r : ℕ) (t : Tower) → IsFresh plan r t → OfEach (Built P) t
  fresh_built plan zero t h = subst (OfEach (Built P)) (sym h) tt
  fresh_built plan (suc r) (Wires a) h = absurd h
  fresh_built plan (suc r) (Rank' p difs below) h =
      let Has : Tower → Type 0 = OfEach (Built P) in
      (made_have (Built P) plan (new_built plan) _ h.0 difs h.1 h.3, turn_keeps Has binds_built h.1 (flows_at plan r) below h.4 (over_keeps plan Has binds_built _ h.0 difs h.1 h.3 (fresh_built plan r h.0 h.2)))

  has_them : (t : Tower) → OfEach (Built P) t → OfEach (WhileAlive P) t
  has_them (Wires a) e = tt
  has_them (Rank' p difs below) e = (λ n d at. (e.0 n d at).has, has_them below e.1)

  -- ---- the law

  registers_any : (tick node : ℕ) (app : List ℕ) (x : Result (Unit {0}) RegisterError) → Registering P tick node app x
  registers_any tick node app x d d' is late = k.registered d d' node app x

  each_has : (t : Tower) → OfEach (WhileAlive P) t → EachHas (λ r n. P) t
  each_has (Wires a) e = tt
  each_has (Rank' p difs below) e = (e.0, each_has below e.1)

  of_each : (t : Tower) → EachHas (λ r n. P) t → OfEach (WhileAlive P) t
  of_each (Wires a) e = tt
  of_each (Rank' p difs below) e = (e.0, of_each below e.1)

  pub holds_in_runs : HoldsInRuns P
  holds_in_runs plan shelf start lines ns s o d =
      let built = turn_keeps (OfEach (Built P)) binds_built o.whole.0 _ start.run.tower o.whole.2 (fresh_built plan (height_of start.run.tower) o.whole.0 o.whole.1) in
      let is_open : IsOpen P = record { refused = λ node app e. registers_any 0 node app (Err e); ipcs = λ node app done ipc. registers_any 0 node app (Ok done) } in
      of_each s.run.tower ((runs (λ r n. P) (λ r n. k.others) (λ r n. is_open) plan 1 start lines ns s o.stands (λ r n node app done tick plain a. registers_any tick node app (Ok done)) d).keeps.keeps (each_has start.run.tower (has_them start.run.tower built)))

-- ---- messages about flows

ends_are_kept : IsAlways HaveEnds
ends_are_kept = record {
  made = new_asked;
  bound = bind_keeps HaveEnds ends_last;
  registered = register_keeps HaveEnds ends_last;
  others = record {
    allocated = allocate_keeps_ends;
    claimed = incoming_keeps HaveEnds ends_last;
    sent = send_keeps HaveEnds ends_last;
    passed = pass_keeps HaveEnds ends_last;
    freed = free_so HaveEnds (free_keeps HaveEnds ends_last);
    unregistered = unregister_keeps HaveEnds ends_last;
    answered = cdap_keeps HaveEnds ends_last;
    enrolled = enrol_set HaveEnds (enrol_keeps HaveEnds ends_last);
    taken = in_set HaveEnds in_keeps_ends;
    left = out_keeps HaveEnds ends_last;
    clocked = clock_set HaveEnds (clock_keeps HaveEnds ends_last);
    timed = time_keeps HaveEnds ends_last;
  };
}

asks_are_kept : IsAlways AreAlone
asks_are_kept = record {
  made = new_alone;
  bound = bind_keeps AreAlone alone_lasts;
  registered = register_keeps AreAlone alone_lasts;
  others = record {
    allocated = allocate_keeps_alone;
    claimed = incoming_keeps AreAlone alone_lasts;
    sent = send_keeps AreAlone alone_lasts;
    passed = pass_keeps AreAlone alone_lasts;
    freed = free_so AreAlone (free_keeps AreAlone alone_lasts);
    unregistered = unregister_keeps AreAlone alone_lasts;
    answered = cdap_keeps AreAlone alone_lasts;
    enrolled = enrol_set AreAlone (enrol_keeps AreAlone alone_lasts);
    taken = in_set AreAlone in_keeps_alone;
    left = out_keeps AreAlone alone_lasts;
    clocked = clock_set AreAlone (clock_keeps AreAlone alone_lasts);
    timed = time_keeps AreAlone alone_lasts;
  };
}

pub messages_have_ends : MessagesHaveEnds
messages_have_ends = holds_in_runs HaveEnds ends_are_kept

pub asks_are_alone : AsksAreAlone
asks_are_alone = holds_in_runs AreAlone asks_are_kept
