-- The DIFs of a whole run are as they were planned.
use Rattle.std.proofs.Common.{ℕ, ◌+◌, List, [], ◌∷◌, Some, None, Option, Result, Ok, Err, sym, ap, subst}
use Rattle.rina_iface.specs.Seen.{Seen}
use Rattle.rina_report.specs.declared.note.Note.{Note}
use Rattle.rina_schedule.specs.declared.error.LineError.{LineError}
use Rattle.rina_schedule.specs.declared.event.Event.{Event}
use Rattle.rina_stack.specs.declared.plan.Plan.{Plan}
use Rattle.rina_dif.specs.declared.dif.Dif.{Dif}
use Rattle.rina_dif.specs.declared.layout.Layout.{Layout}
use Rattle.rina_dif.specs.Holding.{Stands}
use Rattle.rina_dif.specs.Routing.{HaveRoutes}
use Rattle.rina_dif.proofs.Managed.{managed_routed}
use Rattle.rina_tower.specs.declared.tower.Tower.{Tower, Wires, Rank'}
use Rattle.rina_tower.specs.PlanSettings.{IsAsPlanned, IsOfPlan}
use Rattle.rina_tower.specs.Ranks.{height_of, seen_of}
use Rattle.rina_tower.specs.Stands.{IsTower}
use Rattle.rina_schedule.specs.Line.{line_at}
use Rattle.rina_run.specs.Run.{LineDoes, Runs}
use Rattle.rina_words.specs.Step.{Stage, rounds_after}
use Rattle.rina_laws.specs.Planned.{AreRoutedAs, IsRoutedAs, RoutesAsPlanned, StaysAsPlanned}
use Rattle.rina_laws.proofs.PlannedAt.{Keeps, keeps_on, keeps_same, rounds_by}
use Rattle.rina_laws.proofs.PlannedWords.{acts}

line_does : (plan : Plan) (number : ℕ) (r : Result (Option Event) LineError) (s : Stage) (ns : List Note) (s' : Stage) → LineDoes plan number r s ns s' → Keeps plan s.run.tower s'.run.tower
line_does plan number (Ok None) s ns s' d = keeps_same plan s.run.tower s'.run.tower (ap (λ (v : Stage). v.run.tower) d.1)
line_does plan number (Ok (Some event)) s ns s' d = keeps_on plan s.run.tower d.mid.run.tower s'.run.tower (acts plan number event s d.answer d.mid d.acts) (rounds_by plan (rounds_after plan.rounds event) d.mid.shelf s'.shelf d.mid.run.tower s'.run.tower d.rounds)
line_does plan number (Err e) s ns s' d = absurd d

runs : (plan : Plan) (number : ℕ) (s : Stage) (ls : List (List ℕ)) (ns : List Note) (s' : Stage) → Runs plan number s ls ns s' → Keeps plan s.run.tower s'.run.tower
runs plan number s [] ns s' d = keeps_same plan s.run.tower s'.run.tower (ap (λ (v : Stage). v.run.tower) d.1)
runs plan number s (l ∷ ls) ns s' (mid, first, rest, does, others, is) = keeps_on plan s.run.tower mid.run.tower s'.run.tower (line_does plan number (line_at l) s first mid does) (runs plan (number + 1) mid ls rest s' others)

pub stays_as_planned : StaysAsPlanned
stays_as_planned plan shelf start lines ns s o d = (runs plan 1 start lines ns s d).1 o.planned

-- ---- next hops

line_stands : (plan : Plan) (number : ℕ) (r : Result (Option Event) LineError) (s : Stage) (ns : List Note) (s' : Stage) → IsTower s.run.tower → LineDoes plan number r s ns s' → IsTower s'.run.tower
line_stands plan number (Ok None) s ns s' v d = subst (λ (x : Stage). IsTower x.run.tower) (sym d.1) v
line_stands plan number (Ok (Some event)) s ns s' v d = d.stands
line_stands plan number (Err e) s ns s' v d = absurd d

run_stands : (plan : Plan) (number : ℕ) (s : Stage) (ls : List (List ℕ)) (ns : List Note) (s' : Stage) → IsTower s.run.tower → Runs plan number s ls ns s' → IsTower s'.run.tower
run_stands plan number s [] ns s' v d = subst (λ (x : Stage). IsTower x.run.tower) (sym d.1) v
run_stands plan number s (l ∷ ls) ns s' v (mid, first, rest, does, others, is) = run_stands plan (number + 1) mid ls rest s' (line_stands plan number (line_at l) s first mid v does) others

dif_routed : (plan : Plan) (rank : ℕ) (d : Dif) (below : Seen) → Stands d below → IsOfPlan plan rank d → IsRoutedAs plan rank d
dif_routed plan rank d below st h = record {
  place = h.place;
  dif = h.dif;
  is_dif = h.is_dif;
  its_rank = h.its_rank;
  settings = h.settings;
  routes = subst (λ (l : Layout). HaveRoutes l.is_static d.settings.members l.links d.processes d.managements) h.laid (managed_routed d.laid.is_static d.settings.members d.laid.links d.clock d.processes d.managements st.1.managed);
}

all_routed : (plan : Plan) (t : Tower) → IsTower t → IsAsPlanned plan t → AreRoutedAs plan t
all_routed plan (Wires a) v h = tt
all_routed plan (Rank' p difs below) v h = (λ n d at. dif_routed plan (height_of below + 1) d (seen_of below) (v.0.standing.stand n d at) (h.0 n d at), all_routed plan below v.1 h.1)

pub routes_as_planned : RoutesAsPlanned
routes_as_planned plan shelf start lines ns s o d = all_routed plan s.run.tower (run_stands plan 1 start lines ns s o.stands d) (stays_as_planned plan shelf start lines ns s o d)
