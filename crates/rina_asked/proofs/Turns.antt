-- A member that handles what came on a link lets no ask wait.
use Rattle.std.proofs.Common.{ℕ, List, [], ◌∷◌, Option, Some, None, Ok, sym, subst}
use Rattle.rina_member.specs.declared.management.Management.{Management}
use Rattle.rina_member.specs.Managements.{HandlesSdu}
use Rattle.rina_dif.specs.Handling.{HandlesInTurn, HandlesOne, or_same}
use Rattle.rina_asked.proofs.Agendas.{AddsNear, adds_none, adds_on, handled_adds}

sdu_adds : (now number : ℕ) (sdu : List ℕ) (m : Management) (after : Option Management) → HandlesSdu now number sdu m (Ok after) → AddsNear m.agent (or_same m after).agent
sdu_adds now number sdu m None h = adds_none m.agent
sdu_adds now number sdu m (Some m') h = handled_adds m.agent m'.agent now number h.0 h.2.handles

one_adds : (now number : ℕ) (sdu : List ℕ) (m m' : Management) → HandlesOne now number sdu m m' → AddsNear m.agent m'.agent
one_adds now number sdu m m' h = subst (λ (z : Management). AddsNear m.agent z.agent) (sym h.is) (sdu_adds now number sdu m h.after h.handles)

pub turns_add : (now number : ℕ) (sdus : List (List ℕ)) (m m' : Management) → HandlesInTurn now number sdus m m' → AddsNear m.agent m'.agent
turns_add now number [] m m' same = subst (λ (z : Management). AddsNear m.agent z.agent) (sym same) (adds_none m.agent)
turns_add now number (sdu ∷ sdus) m m' h = adds_on m.agent h.0.agent m'.agent (one_adds now number sdu m h.0 h.1) (turns_add now number sdus h.0 m' h.2)
