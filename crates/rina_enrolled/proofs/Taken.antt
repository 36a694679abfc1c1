-- A message is taken from an agenda, and sent: the messages of each direction that are not handled are the same.
use Rattle.std.proofs.Common.{◌≡◌, ℕ, List, [], ◌∷◌, ◌++◌, Some, refl, sym, ◌∙◌, ap, subst, append_assoc}
use Rattle.rina_agent.specs.declared.agent.Agent.{Agent}
use Rattle.rina_agent.specs.declared.message.ManagementMessage.{ManagementMessage}
use Rattle.rina_agent.specs.Agenda.{first_on, waiting_on, without_first}
use Rattle.rina_flood.specs.Network.{Side, EndState, There, Network, put_agent, unhandled, waiting_at, AreEndsApart, Take, happens}
use Rattle.rina_flood.proofs.Calls.{at_itself}
use Rattle.rina_flood.proofs.Messages.{first_waits, others_at}
use Rattle.rina_flood.proofs.Places.{direction_case, put_case}

module _ (n : Network) (link : ℕ) (side : Side) (number : ℕ) (m : ManagementMessage) (ends : AreEndsApart n) (there : n.states link side ≡ There number) (first : first_on number (n.agents (n.ends link side)).agenda ≡ Some (record { link = number; message = m })) where
  abbrev from : ℕ
  from = n.ends link side

  abbrev shorter : Agent
  shorter = record (n.agents from) { agenda = without_first number (n.agents from).agenda }

  on_the_link : (n.sent link side ++ m ∷ []) ++ waiting_at (n.states link side) (put_agent from shorter n.agents from).agenda ≡ unhandled n link side
  on_the_link =
      let waits = first_waits number (n.agents from).agenda (record { link = number; message = m }) first in
      ap (λ (c : Agent). (n.sent link side ++ m ∷ []) ++ waiting_at (n.states link side) c.agenda) (at_itself from shorter n.agents)
      ∙ ap (λ (s : EndState). (n.sent link side ++ m ∷ []) ++ waiting_at s (without_first number (n.agents from).agenda)) there
      ∙ append_assoc (n.sent link side) (m ∷ []) (waiting_on number (without_first number (n.agents from).agenda))
      ∙ ap (λ (ms : List ManagementMessage). n.sent link side ++ ms) (sym waits)
      ∙ ap (λ (s : EndState). n.sent link side ++ waiting_at s (n.agents from).agenda) (sym there)

  on_others : (l : ℕ) (d : Side) → (((l ≡ link) × (d ≡ side)) → ⊥) → waiting_at (n.states l d) (put_agent from shorter n.agents (n.ends l d)).agenda ≡ waiting_at (n.states l d) (n.agents (n.ends l d)).agenda
  on_others l d apart =
      let P : Agent → Type 0 = λ c. waiting_at (n.states l d) c.agenda ≡ waiting_at (n.states l d) (n.agents (n.ends l d)).agenda in
      put_case P (n.ends l d) from shorter (n.agents (n.ends l d))
      (λ is. others_at (n.states l d) number (n.agents from).agenda (λ k. apart (ends l d link side number is k there)) ∙ ap (λ (j : ℕ). waiting_at (n.states l d) (n.agents j).agenda) (sym is))
      (λ n. refl)

  pub take_unhandled : (l : ℕ) (d : Side) → unhandled (happens n (Take link side number m)) l d ≡ unhandled n l d
  take_unhandled l d =
      let P : List ManagementMessage → Type 0 = λ s. s ++ waiting_at (n.states l d) (put_agent from shorter n.agents (n.ends l d)).agenda ≡ unhandled n l d in
      direction_case P link side l d (n.sent link side ++ m ∷ []) (n.sent l d)
      (λ a b.
      let Q : ℕ → Type 0 = λ k. (n.sent link side ++ m ∷ []) ++ waiting_at (n.states k d) (put_agent from shorter n.agents (n.ends k d)).agenda ≡ unhandled n k d in
      let R : Side → Type 0 = λ t. (n.sent link side ++ m ∷ []) ++ waiting_at (n.states link t) (put_agent from shorter n.agents (n.ends link t)).agenda ≡ unhandled n link t in
      subst Q (sym a) (subst R (sym b) on_the_link))
      (λ apart. ap (λ (ms : List ManagementMessage). n.sent l d ++ ms) (on_others l d apart))
