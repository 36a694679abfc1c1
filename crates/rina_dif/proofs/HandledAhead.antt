-- What is told of the messages that a piece makes whole, before it is taken.
use Rattle.std.proofs.Common.{◌≡◌, ◌∙◌, ℕ, List, ◌++◌, slice_get, Option, Some, Result, Ok, Err, sym, subst}
use Rattle.std.proofs.lemmas.Option.{same_Some}
use Rattle.rina_agent.specs.declared.state.AgentError.{AgentError}
use Rattle.rina_agent.specs.declared.state.AgentError.TheVariants.{CountSpent, Memory}
use Rattle.rina_base.specs.declared.number.Port.{Port}
use Rattle.rina_base.specs.declared.pdu.Pdu.{Pdu}
use Rattle.rina_iface.specs.declared.ends.End.{End}
use Rattle.rina_iface.specs.Journal.{At}
use Rattle.rina_data.specs.Hops.{Hop}
use Rattle.rina_member.specs.declared.management.Management.{Management}
use Rattle.rina_dif.specs.declared.dif.Dif.{Dif}
use Rattle.rina_dif.specs.Handling.{AnswersAhead, AnswersInTurn, HandlesInTurn, IsToldAhead, or_same, unpassed_sdus}
use Rattle.rina_dif.specs.Taking.{BringsAs, TakesOwnPiece}
use Rattle.rina_dif.proofs.Turns.{answers_on, lacks_more}

-- what waits at the end of a place is handled so
abbrev AtEnd : Dif → ℕ → ℕ → (Management → End → Type 0) → Type 0
AtEnd d i place does = (m : Management) (end : End) → slice_get d.managements i ≡ Some m → At d.connections.flows.journal.ends place end → does m end

-- counts are spent at what waited
pub ahead_first : (d : Dif) (i place number : ℕ) (its : Pdu) (bodies : List (List ℕ)) (e : AgentError) → IsToldAhead d place its bodies → AtEnd d i place (λ m end. AnswersInTurn d.clock number (unpassed_sdus end) m m (Err e)) → AnswersAhead d i place number its (Err e)
ahead_first d i place number its bodies Memory told h = tt
ahead_first d i place number its bodies (CountSpent need left) told h = λ m end is_m is_end. (bodies, told, lacks_more d.clock number need left (unpassed_sdus end) bodies m (h m end is_m is_end))

-- all that waited is handled, and then what the piece brings
module _ (d : Dif) (i place number : ℕ) (its : Pdu) (bodies : List (List ℕ)) (first : Management) (is_first : slice_get d.managements i ≡ Some first) (mid : Option Management) (told : IsToldAhead d place its bodies) (h : AtEnd d i place (λ m end. HandlesInTurn d.clock number (unpassed_sdus end) m (or_same m mid))) where
  both : (r : Result (Option Management) AgentError) → AnswersInTurn d.clock number bodies first (or_same first mid) r → AtEnd d i place (λ m end. AnswersInTurn d.clock number (unpassed_sdus end ++ bodies) m m r)
  both r rest m end is_m is_end =
      answers_on d.clock number (unpassed_sdus end) bodies m m (or_same m mid) r (h m end is_m is_end)
      (subst (λ (x : Management). AnswersInTurn d.clock number bodies x (or_same x mid) r) (same_Some first m (sym is_first ∙ is_m)) rest)

  pub ahead_then : (r : Result (Option Management) AgentError) → AnswersInTurn d.clock number bodies first (or_same first mid) r → AnswersAhead d i place number its r
  ahead_then (Ok after) rest = λ m end is_m is_end. (bodies, told, both (Ok after) rest m end is_m is_end)
  ahead_then (Err Memory) rest = tt
  ahead_then (Err (CountSpent need left)) rest = λ m end is_m is_end. (bodies, told, both (Err (CountSpent need left)) rest m end is_m is_end)

-- for a piece that came
pub brings_stop : (d : Dif) (i number since place : ℕ) (port : Port) (hop : Hop) (its : Pdu) (e : AgentError) → TakesOwnPiece d since port hop place its → AnswersAhead d i place number its (Err e) → BringsAs d i number since port hop (Err e)
brings_stop d i number since place port hop its Memory takes h = tt
brings_stop d i number since place port hop its (CountSpent need left) takes h = record { place = place; its = its; takes = takes; lacks = h }
