-- Each name of a DIF was registered by a line of the schedule.
use Rattle.std.proofs.Common.{◌≡◌, ◌∙◌, ◌⊎◌, ℕ, ◌+◌, ◌≤◌, zero, suc, nat_lt, Bool, true, false, List, [], ◌∷◌, slice_get, Option, Some, None, Result, Ok, Err, Contains, refl, sym, ap, subst, arith, inl, inr}
use Rattle.std.proofs.lemmas.Bool.{false≢true}
use Rattle.std.proofs.lemmas.List.Elements.{Contains-append_left, Contains-append_right, Contains-push}
use Rattle.rina_base.specs.Names as base_names
use Rattle.rina_iface.specs.declared.error.RegisterError.{RegisterError}
use Rattle.rina_policy.specs.Slots.{Slot}
use Rattle.rina_report.specs.declared.answer.Answer.{Answer}
use Rattle.rina_report.specs.declared.answer.Answer.TheVariants.{Done}
use Rattle.rina_report.specs.declared.note.Note.{Note}
use Rattle.rina_report.specs.declared.note.Note.TheVariants as notes
use Rattle.rina_schedule.specs.declared.error.LineError.{LineError}
use Rattle.rina_schedule.specs.declared.event.Event.{Event}
use Rattle.rina_schedule.specs.declared.event.Event.TheVariants as events
use Rattle.rina_stack.specs.declared.plan.Plan.{Plan}
use Rattle.rina_table.specs.declared.sketch.Rounds.{Rounds}
use Rattle.rina_table.specs.declared.sketch.Rounds.TheVariants.{Auto, Manual}
use Rattle.rina_data.specs.declared.step.StepError.TheVariants.{NoIpc}
use Rattle.rina_dif.specs.declared.dif.Dif.{Dif}
use Rattle.rina_tower.specs.declared.applications.AppError.{AppError}
use Rattle.rina_tower.specs.declared.applications.AppError.TheVariants.{NoRank}
use Rattle.rina_tower.specs.declared.tower.Tower.{Tower}
use Rattle.rina_tower.specs.Applications.{Answers}
use Rattle.rina_tower.specs.Bystanders.{is_ipc}
use Rattle.rina_tower.specs.Calls.{RegistersAtTop}
use Rattle.rina_tower.specs.Ledgers.{dif_at}
use Rattle.rina_tower.specs.Ranks.{now_of, seen_now}
use Rattle.rina_tower.specs.Rounds.{AllMove, Anything, ClockMove, InMove, IsRound, Move, Moves, OutMove}
use Rattle.rina_tower.specs.Stands.{IsTower}
use Rattle.rina_tower.specs.Steps.{ClocksAtTop, InStepsAtTop, OutStepsAtTop}
use Rattle.rina_notes.specs.declared.site.Site.{Site}
use Rattle.rina_notes.specs.Look.{noted, state_notes}
use Rattle.rina_notes.specs.Sites.{dif_site_at, site_at}
use Rattle.rina_notes.specs.Told.{answer_told, app_told, register_told}
use Rattle.rina_schedule.specs.Line.{line_at}
use Rattle.rina_words.specs.declared.run.Run.{Run}
use Rattle.rina_words.specs.Step.{Acts, ActsOnRun, AtSite, CallsIn, CallsRegister, RoundsBy, Stage, Ticking, Ticks, link_of, rounds_after}
use Rattle.rina_run.specs.Run.{LineDoes, Runs}
use Rattle.rina_laws.specs.Named.{IsRegistration, NamesAreRegistered, has_name, is_named}
use Rattle.rina_laws.proofs.NamedComes.{Comes, Fact, HoldsAt, Never, at_rank, came_at, comes_is, never_at, never_on}
use Rattle.rina_laws.proofs.NamedNames.{ByName, HasName, IsDone, app_registers, ipcs_stay, names_stay, takes_names}
use Rattle.rina_laws.proofs.NamedSteps as steps
use Rattle.rina_laws.proofs.NamedWords as named
use Rattle.rina_laws.proofs.WrittenGoes.{Goes}
use Rattle.rina_laws.proofs.WrittenGrows.{MayBeWritten, Never as NoneWritten}
use Rattle.rina_laws.proofs.WrittenSteps.{moves as move_goes, ticks as tick_goes}
use Rattle.rina_laws.proofs.WrittenWords.{lets, words}

-- ---- what names no application

-- the tower stands afterwards, the clock has not fallen, and what holds held before
record Rests (F : Fact) (t t' : Tower) : Type 0 where
  valid : IsTower t'
  clock : now_of t ≤ now_of t'
  quiet : Comes F Never t t'

rests_same : (F : Fact) (t t' : Tower) → IsTower t → t' ≡ t → Rests F t t'
rests_same F t t' v is = subst (Rests F t) (sym is) (record { valid = v; clock = omega arith; quiet = comes_is F Never t t refl })

rests_on : (F : Fact) (t u v : Tower) → Rests F t u → Rests F u v → Rests F t v
rests_on F t u v f g = (let a = f.clock in let b = g.clock in record { valid = g.valid; clock = omega (arith, a, b); quiet = never_on F t u v f.quiet g.quiet })

pub clock_goes : (W : MayBeWritten) (t t' : Tower) → Goes W t t' → now_of t' ≡ now_of t
clock_goes W t t' g = sym (seen_now t') ∙ g.alone.clock ∙ seen_now t

rests_goes : (F : Fact) (W : MayBeWritten) (t t' : Tower) → Goes W t t' → Comes F Never t t' → Rests F t t'
rests_goes F W t t' g c = (let same = clock_goes W t t' g in record { valid = g.valid; clock = omega (arith, same); quiet = c })

module _ (node : ℕ) (app : List ℕ) where
  abbrev Has : Fact
  Has = HasName node app

  moves : (m : Move) (slots slots' : List Slot) (t t' : Tower) → IsTower t → Moves m slots t slots' t' → Comes Has Never t t'
  moves (InMove p result) slots slots' t t' v d = at_rank Has Never p.rank (InStepsAtTop p.dif p.node p.link result) _ t t' v (λ u u' h w c. steps.takes Has (names_stay node app) Never p.dif p.node p.link result (takes_names node app result) u u' w c) d.1
  moves (ClockMove p result) slots slots' t t' v d = at_rank Has Never p.rank (ClocksAtTop p.dif p.node result) _ t t' v (λ u u' h w c. steps.does_due Has (names_stay node app) p.dif p.node result u u' c) d.1
  moves (OutMove p result) slots slots' t t' v d = at_rank Has Never p.rank (OutStepsAtTop Anything slots slots' p.dif p.node p.link result) _ t t' v (λ u u' h w c. steps.lets_out Has (names_stay node app) slots slots' p.dif p.node p.link result u u' c) d

  all_move : (ms : List Move) (slots : List Slot) (t : Tower) (slots' : List Slot) (t' : Tower) → IsTower t → AllMove ms slots t slots' t' → Rests Has t t'
  all_move [] slots t slots' t' v d = rests_same Has t t' v d.1
  all_move (m ∷ ms) slots t slots' t' v (mid, between, one, others) =
      let first = rests_goes Has _ t between (move_goes m slots mid t between v one) (moves m slots mid t between v one) in
      rests_on Has t between t' first (all_move ms mid between slots' t' first.valid others)

  round : (slots slots' : List Slot) (t t' : Tower) → IsTower t → IsRound slots slots' t t' → Rests Has t t'
  round slots slots' t t' v d =
      let taken = all_move d.takes slots t slots d.taken v d.do_take in
      let clocked = all_move d.dues slots d.taken slots d.clocked taken.valid d.do_dues in
      let left = all_move d.leaves slots d.clocked slots' t' clocked.valid d.do_leave in
      rests_on Has t d.taken t' taken (rests_on Has d.taken d.clocked t' clocked left)

  rounds_by : (rounds : Rounds) (slots : List Slot) (t : Tower) (slots' : List Slot) (t' : Tower) → IsTower t → RoundsBy rounds slots t slots' t' → Rests Has t t'
  rounds_by Auto slots t slots' t' v d = round slots slots' t t' v d
  rounds_by Manual slots t slots' t' v d = rests_same Has t t' v d.1

  all_ticks : (plan : Plan) (line count : ℕ) (s : Stage) (ns : List Note) (s' : Stage) → IsTower s.run.tower → Ticks plan line count s ns s' → Rests Has s.run.tower s'.run.tower
  all_ticks plan line zero s ns s' v d = rests_same Has s.run.tower s'.run.tower v (ap (λ (z : Stage). z.run.tower) d.1)
  all_ticks plan line (suc count) s ns s' v (mid, first, rest, once, others, told) =
      let t = s.run.tower in
      let tick = tick_goes NoneWritten (Ok tt) t once.ticked v once.ticks in
      let low = tick.leaves.later.clock in
      let a = seen_now t in
      let b = seen_now once.ticked in
      let ticked : Rests Has t once.ticked = record { valid = tick.valid; clock = omega (arith, low, a, b); quiet = steps.ticks Has (names_stay node app) (Ok tt) t once.ticked once.ticks } in
      let rounded = rounds_by plan.rounds s.shelf once.ticked mid.shelf mid.run.tower ticked.valid once.rounds in
      rests_on Has t once.ticked s'.run.tower ticked (rests_on Has once.ticked mid.run.tower s'.run.tower rounded (all_ticks plan line count mid rest s' rounded.valid others))

  ticking : (over : Bool) (plan : Plan) (line count : ℕ) (s : Stage) (ns : List Note) (s' : Stage) → IsTower s.run.tower → Ticking over plan line count s ns s' → Rests Has s.run.tower s'.run.tower
  ticking true plan line count s ns s' v d = rests_same Has s.run.tower s'.run.tower v (ap (λ (z : Stage). z.run.tower) d.1)
  ticking false plan line count s ns s' v d = all_ticks plan line count s d.told s' v d.ticks

  taking : (plan : Plan) (link : ℕ) (found : Result Site ℕ) (w : Run) (says : Option Answer) (w' : Run) → IsTower w.tower → AtSite found (CallsIn plan link w) w says w' → Comes Has Never w.tower w'.tower
  taking plan link found w says w' v d =
      named.at_site Has found (CallsIn plan link w) w says w' (λ site c.
      at_rank Has Never site.rank (InStepsAtTop site.fac site.node (link_of link) c.result) (c.result ≡ Err NoIpc) w.tower w'.tower v (λ u u' h z e. steps.takes Has (names_stay node app) Never site.fac site.node (link_of link) c.result (takes_names node app c.result) u u' z e) c.does) d

-- ---- a word

-- a line of this number asks to register the application at this node of this DIF of this rank, and its `ok` is told, at a tick of at most this
pub record IsHere (plan : Plan) (r n node : ℕ) (app : List ℕ) (number : ℕ) (asked : Result (Option Event) LineError) (ns : List Note) (now : ℕ) : Type 0 where
  pub dif_name : List ℕ
  pub node_name : List ℕ
  pub asks : asked ≡ Ok (Some (events.Register dif_name node_name app))
  pub names : site_at plan 1 dif_name node_name ≡ Ok (record { rank = r; fac = n; node = node })
  pub tick : ℕ
  pub past : tick ≤ now
  pub told : Contains ns (notes.Line number tick Done)

-- the tower stands after it, the clock has not fallen, and where the name is there it was so before, or this holds
pub record Leads (r n node : ℕ) (app : List ℕ) (S : Type 0) (t t' : Tower) : Type 0 where
  pub valid : IsTower t'
  pub clock : now_of t ≤ now_of t'
  pub back : HoldsAt (HasName node app) r n t' → HoldsAt (HasName node app) r n t ⊎ S

-- the name that a line registers
pub record IsName (r n node : ℕ) (app : List ℕ) (found : Result Site ℕ) (name : List ℕ) (says : Option Answer) : Type 0 where
  pub site : found ≡ Ok (record { rank = r; fac = n; node = node })
  pub app_is : name ≡ app
  pub done : says ≡ Some Done

-- the site of a line
abbrev site_in : ℕ → ℕ → ℕ → Result Site ℕ
site_in rank fac place = Ok (record { rank = rank; fac = fac; node = place })

pub was_done : (x : Result (Unit {0}) (AppError RegisterError)) → IsDone x → answer_told (λ (z : Unit {0}). Some Done) (app_told register_told) x ≡ Some Done
was_done (Ok done) d = refl
was_done (Err e) d = absurd d

module _ (r n node : ℕ) (app : List ℕ) where
  abbrev There : Tower → Type 0
  There t = HoldsAt (HasName node app) r n t

  leads_rests : (S : Type 0) (t t' : Tower) → Rests (HasName node app) t t' → Leads r n node app S t t'
  leads_rests S t t' k = record { valid = k.valid; clock = k.clock; back = λ h. inl (never_at (HasName node app) t t' r n k.quiet h) }

  pub its_site : (site : Site) → r ≡ site.rank → n ≡ site.fac → site.node ≡ node → site_in site.rank site.fac site.node ≡ site_in r n node
  its_site site rank fac place = ap (λ (a : ℕ). site_in a site.fac site.node) (sym rank) ∙ ap (λ (b : ℕ). site_in r b site.node) (sym fac) ∙ ap (λ (c : ℕ). site_in r n c) place

  registering : (name : List ℕ) (found : Result Site ℕ) (w : Run) (says : Option Answer) (w' : Run) → IsTower w.tower → AtSite found (CallsRegister name w) w says w' → There w'.tower → There w.tower ⊎ IsName r n node app found name says
  registering name (Err field) w says w' v d h = inl (subst (λ (x : Run). There x.tower) d.run h)
  registering name (Ok site) w says w' v d h =
      let W = ByName node app site.rank site.fac site.node name d.result in
      let comes = at_rank (HasName node app) W site.rank (λ u u'. Answers (is_ipc name) (λ x. RegistersAtTop site.fac site.node name x u u') (u' ≡ u) d.result) (d.result ≡ Err NoRank) w.tower w'.tower v (λ u u' high z e. app_registers node app (is_ipc name) site.rank site.fac site.node name d.result u u' high e) d.does in
      elim (came_at (HasName node app) W w.tower w'.tower r n comes h) [
        | inl o ↦ inl o
        | inr c ↦ (let k = c.why.0 in inr (record { site = its_site site k.its_rank k.its_fac k.its_node; app_is = k.its_app; done = d.told ∙ was_done d.result c.why.1 }))
      ]

  pub here_told : (plan : Plan) (number : ℕ) (name dif_name node_name : List ℕ) (says : Option Answer) (ns : List Note) (now : ℕ) → IsName r n node app (site_at plan 1 dif_name node_name) name says → ns ≡ noted number now says → IsHere plan r n node app number (Ok (Some (events.Register dif_name node_name name))) ns now
  here_told plan number name dif_name node_name says ns now k told =
      let is : ns ≡ notes.Line number now Done ∷ [] = told ∙ ap (noted number now) k.done in
      record {
        dif_name = dif_name;
        node_name = node_name;
        asks = ap (λ (a : List ℕ). Ok (Some (events.Register dif_name node_name a))) k.app_is;
        names = k.site;
        tick = now;
        past = omega arith;
        told = subst (λ (xs : List Note). Contains xs (notes.Line number now Done)) (sym is) (Contains-push [] (notes.Line number now Done));
      }

  word_goes : (S : Type 0) (plan : Plan) (line : ℕ) (event : Event) (w : Run) (ns : List Note) (w' : Run) → IsTower w.tower → ActsOnRun plan line event w ns w' → Comes (HasName node app) Never w.tower w'.tower → Leads r n node app S w.tower w'.tower
  word_goes S plan line event w ns w' v d c = leads_rests S w.tower w'.tower (rests_goes (HasName node app) _ w.tower w'.tower (words plan line event w ns w' v d) c)

  word : (plan : Plan) (line : ℕ) (event : Event) (s : Stage) (ns : List Note) (s' : Stage) → is_ipc app ≡ false → IsTower s.run.tower → Acts plan line event s ns s' → Leads r n node app (IsHere plan r n node app line (Ok (Some event)) ns (now_of s'.run.tower)) s.run.tower s'.run.tower
  word plan line (events.Tick count) s ns s' plain v d = leads_rests _ s.run.tower s'.run.tower (ticking node app (nat_lt 10000000 (now_of s.run.tower + count)) plan line count s ns s' v d)
  word plan line events.Round s ns s' plain v d = leads_rests _ s.run.tower s'.run.tower (round node app s.shelf s'.shelf s.run.tower s'.run.tower v d.does)
  word plan line (events.Retire policy) s ns s' plain v d = leads_rests _ s.run.tower s'.run.tower (rests_same (HasName node app) s.run.tower s'.run.tower v (ap (λ (w : Run). w.tower) d.run))
  word plan line (events.Out dif place link) s ns s' plain v d =
      leads_rests _ s.run.tower s'.run.tower (rests_goes (HasName node app) _ s.run.tower s'.run.tower (lets plan line dif place link s ns s' v d) (named.letting (HasName node app) (names_stay node app) plan (dif_site_at plan dif place) link s d.says s' v d.does))
  word plan line (events.Register dif_name node_name name) s ns s' plain v d =
      let g = words plan line (events.Register dif_name node_name name) s.run ns s'.run v d.0 in
      let same = clock_goes _ s.run.tower s'.run.tower g in
      record {
        valid = g.valid;
        clock = omega (arith, same);
        back = λ h. elim (registering name (site_at plan 1 dif_name node_name) s.run d.0.says s'.run v d.0.does h) [
          | inl o ↦ inl o
          | inr k ↦ inr (here_told plan line name dif_name node_name d.0.says ns (now_of s'.run.tower) k d.0.notes)
        ];
      }
  word plan line (events.Publish dif place fac) s ns s' plain v d = word_goes _ plan line (events.Publish dif place fac) s.run ns s'.run v d.0 (named.publishing (HasName node app) plan dif place fac s.run d.0.says s'.run (ipcs_stay node app plain) v d.0.does)
  word plan line (events.In dif place link) s ns s' plain v d = word_goes _ plan line (events.In dif place link) s.run ns s'.run v d.0 (taking node app plan link (dif_site_at plan dif place) s.run d.0.says s'.run v d.0.does)
  word plan line event s ns s' plain v d = word_goes _ plan line event s.run ns s'.run v d.0 (named.words (HasName node app) (names_stay node app) plan line event s.run ns s'.run v tt d.0)

  -- ---- a line

  pub here_in : (plan : Plan) (number : ℕ) (asked : Result (Option Event) LineError) (ns all : List Note) (now later : ℕ) → now ≤ later → ((note : Note) → Contains ns note → Contains all note) → IsHere plan r n node app number asked ns now → IsHere plan r n node app number asked all later
  here_in plan number asked ns all now later le more h = (let past = h.past in record { dif_name = h.dif_name; node_name = h.node_name; asks = h.asks; names = h.names; tick = h.tick; past = omega (arith, le, past); told = more (notes.Line number h.tick Done) h.told })

  line_does : (plan : Plan) (number : ℕ) (asked : Result (Option Event) LineError) (s : Stage) (ns : List Note) (s' : Stage) → is_ipc app ≡ false → IsTower s.run.tower → LineDoes plan number asked s ns s' → Leads r n node app (IsHere plan r n node app number asked ns (now_of s'.run.tower)) s.run.tower s'.run.tower
  line_does plan number (Ok None) s ns s' plain v d = leads_rests _ s.run.tower s'.run.tower (rests_same (HasName node app) s.run.tower s'.run.tower v (ap (λ (z : Stage). z.run.tower) d.1))
  line_does plan number (Ok (Some event)) s ns s' plain v d =
      let first = word plan number event s d.answer d.mid plain v d.acts in
      let after = rounds_by node app (rounds_after plan.rounds event) d.mid.shelf d.mid.run.tower s'.shelf s'.run.tower first.valid d.rounds in
      let a = first.clock in
      let b = after.clock in
      let states = state_notes plan number s'.run.tower d.mid.run.labels in
      record {
        valid = after.valid;
        clock = omega (arith, a, b);
        back = λ h. elim (first.back (never_at (HasName node app) d.mid.run.tower s'.run.tower r n after.quiet h)) [
          | inl o ↦ inl o
          | inr k ↦ inr (here_in plan number (Ok (Some event)) d.answer ns (now_of d.mid.run.tower) (now_of s'.run.tower) b (λ note c. subst (λ (xs : List Note). Contains xs note) (sym d.notes) (Contains-append_left d.answer states note c)) k)
        ];
      }
  line_does plan number (Err e) s ns s' plain v d = absurd d

-- the tower stands after a line
pub line_stands : (plan : Plan) (number : ℕ) (asked : Result (Option Event) LineError) (s : Stage) (ns : List Note) (s' : Stage) → IsTower s.run.tower → LineDoes plan number asked s ns s' → IsTower s'.run.tower
unfolding base_names.slash_in
line_stands plan number asked s ns s' v d = (line_does 0 0 0 [] plan number asked s ns s' refl v d).valid

-- ---- lines

-- one of the lines, of which the first has this number, registers the name
pub record IsAmong (plan : Plan) (r n node : ℕ) (app : List ℕ) (number : ℕ) (lines : List (List ℕ)) (ns : List Note) (now : ℕ) : Type 0 where
  pub before : ℕ
  pub line : List ℕ
  pub stands : slice_get lines before ≡ Some line
  pub here : IsHere plan r n node app (number + before) (line_at line) ns now

module _ (plan : Plan) (r n node : ℕ) (app : List ℕ) (plain : is_ipc app ≡ false) where
  pub among_first : (number : ℕ) (l : List ℕ) (ls : List (List ℕ)) (ns : List Note) (now : ℕ) → IsHere plan r n node app number (line_at l) ns now → IsAmong plan r n node app number (l ∷ ls) ns now
  among_first number l ls ns now h =
      let same : number ≡ number + 0 = omega arith in
      record { before = 0; line = l; stands = refl; here = subst (λ (m : ℕ). IsHere plan r n node app m (line_at l) ns now) same h }

  pub among_later : (number : ℕ) (l : List ℕ) (ls : List (List ℕ)) (ns : List Note) (now : ℕ) → IsAmong plan r n node app (number + 1) ls ns now → IsAmong plan r n node app number (l ∷ ls) ns now
  among_later number l ls ns now a =
      let same : (number + 1) + a.before ≡ number + suc a.before = omega arith in
      record { before = suc a.before; line = a.line; stands = a.stands; here = subst (λ (m : ℕ). IsHere plan r n node app m (line_at a.line) ns now) same a.here }

  pub among_in : (number : ℕ) (ls : List (List ℕ)) (ns all : List Note) (now : ℕ) → ((note : Note) → Contains ns note → Contains all note) → IsAmong plan r n node app number ls ns now → IsAmong plan r n node app number ls all now
  among_in number ls ns all now more a = record { before = a.before; line = a.line; stands = a.stands; here = here_in r n node app plan (number + a.before) (line_at a.line) ns all now now (omega arith) more a.here }

  runs : (number : ℕ) (s : Stage) (ls : List (List ℕ)) (ns : List Note) (s' : Stage) → IsTower s.run.tower → Runs plan number s ls ns s' → Leads r n node app (IsAmong plan r n node app number ls ns (now_of s'.run.tower)) s.run.tower s'.run.tower
  runs number s [] ns s' v d = leads_rests r n node app _ s.run.tower s'.run.tower (rests_same (HasName node app) s.run.tower s'.run.tower v (ap (λ (z : Stage). z.run.tower) d.1))
  runs number s (l ∷ ls) ns s' v (mid, first, rest, does, others, is) =
      let one = line_does r n node app plan number (line_at l) s first mid plain v does in
      let after = runs (number + 1) mid ls rest s' one.valid others in
      let a = one.clock in
      let b = after.clock in
      record {
        valid = after.valid;
        clock = omega (arith, a, b);
        back = λ h. elim (after.back h) [
          | inl o ↦ elim (one.back o) [
            | inl z ↦ inl z
            | inr k ↦ inr (among_first number l ls ns (now_of s'.run.tower) (here_in r n node app plan number (line_at l) first ns (now_of mid.run.tower) (now_of s'.run.tower) b (λ note c. subst (λ (xs : List Note). Contains xs note) (sym is) (Contains-append_left first rest note c)) k))
          ]
          | inr later ↦ inr (among_later number l ls ns (now_of s'.run.tower) (among_in (number + 1) ls rest ns (now_of s'.run.tower) (λ note c. subst (λ (xs : List Note). Contains xs note) (sym is) (Contains-append_right first rest note c)) later))
        ];
      }

-- ---- the law

held_by : (o : Option Dif) (node : ℕ) (app : List ℕ) → has_name o node app ≡ true → (d : Dif) × (o ≡ Some d) × HasName node app d
held_by None node app h = absurd (false≢true h)
held_by (Some d) node app h = (d, refl, h)

named_there : (t : Tower) (r n node : ℕ) (app : List ℕ) → is_named t r n node app ≡ true → HoldsAt (HasName node app) r n t
named_there t r n node app h = (let x = held_by (dif_at t r n) node app h in record { dif = x.0; is_dif = x.1; holds = x.2 })

not_named : (t : Tower) (r n node : ℕ) (app : List ℕ) → is_named t r n node app ≡ false → HoldsAt (HasName node app) r n t → ⊥
not_named t r n node app none h = false≢true (sym none ∙ ap (λ (o : Option Dif). has_name o node app) h.is_dif ∙ h.holds)

pub registration : (plan : Plan) (r n node : ℕ) (app : List ℕ) (lines : List (List ℕ)) (ns : List Note) (now : ℕ) → IsAmong plan r n node app 1 lines ns now → IsRegistration plan r n node app now lines ns
registration plan r n node app lines ns now a =
    let h = a.here in
    let same : 1 + a.before ≡ a.before + 1 = omega arith in
    record {
      before = a.before;
      line = a.line;
      dif_name = h.dif_name;
      node_name = h.node_name;
      stands = a.stands;
      asks = h.asks;
      names = h.names;
      tick = h.tick;
      past = h.past;
      told = subst (λ (m : ℕ). Contains ns (notes.Line m h.tick Done)) same h.told;
    }

pub names_are_registered : NamesAreRegistered
names_are_registered plan shelf start lines ns s o d r n node app plain none h =
    elim ((runs plan r n node app plain 1 start lines ns s o.stands d).back (named_there s.run.tower r n node app h)) [
      | inl old ↦ absurd (not_named start.run.tower r n node app none old)
      | inr among ↦ registration plan r n node app lines ns (now_of s.run.tower) among
    ]
