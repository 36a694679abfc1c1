-- An SDU comes on a link: its items, which a member takes, were on the link.
use Rattle.std.proofs.Common.{◌≡◌, ◌∙◌, inl, inr, ℕ, ◌<◌, Bool, List, [], ◌∷◌, Contains, length, Option, Some, None, Result, Ok, Err, refl, sym, ap, subst, arith}
use Rattle.std.specs.Prelude.{◌==◌}
use Rattle.std.proofs.lemmas.List.{length-map}
use Rattle.std.proofs.lemmas.List.Quantifiers.{position-Some}
use Rattle.rina_base.specs.declared.memory.Memory.{Memory as NoMemory}
use Rattle.rina_newest.specs.declared.item.Item.{Item}
use Rattle.rina_agent.specs.declared.message.ManagementMessage.TheVariants.{ToNeighbour}
use Rattle.rina_enrol.specs.declared.message.LinkMessage.{LinkMessage}
use Rattle.rina_data.specs.declared.step.InStep.{InStep}
use Rattle.rina_data.specs.declared.step.StepError.{StepError}
use Rattle.rina_data.specs.declared.step.StepError.TheVariants as step
use Rattle.rina_data.specs.Configs.{Member, config_of, member_of}
use Rattle.rina_dif_law.specs.Sending.{home}
use Rattle.rina_flood.specs.Network.{item_in}
use Rattle.rina_iface.specs.Journal.{AreKept}
use Rattle.rina_iface.specs.Seen.{Seen}
use Rattle.rina_law.specs.Direction.{Direction}
use Rattle.rina_route.proofs.Lists.{head, tail}
use Rattle.rina_member.specs.declared.management.Management.{Management}
use Rattle.rina_member.specs.Managements.{HandlesSdu, IsSdu}
use Rattle.rina_dif.specs.declared.dif.Dif.{Dif}
use Rattle.rina_dif.specs.FlowMessages.{HandlesFlows}
use Rattle.rina_dif.specs.Handling.{HandlesInTurn, HandlesOne, or_same}
use Rattle.rina_dif.specs.Holding.{Holds}
use Rattle.rina_dif.specs.Shown.{seen_of}
use Rattle.rina_dif.specs.Taking.{Handles, TakesHome, TakesLinks, TellsFlows, TellsNothing}
use Rattle.rina_asked.specs.Calls.{InKeeps}
use Rattle.rina_asked.proofs.Ins.{MayHandle, as_many, at_none, at_some, by_answer, ins_at, not_stopped}
use Rattle.rina_asked.proofs.Keeps.{stays}
use Rattle.rina_asked.proofs.Links.{NoMoreOnLinks}
use Rattle.rina_known.specs.Entries.{AllAre}
use Rattle.rina_known.proofs.Agents.{IsGood, OwnAre, handled_good}
use Rattle.rina_known.proofs.Calls.{all_good}
use Rattle.rina_known.proofs.Flows.{flows_known}
use Rattle.rina_known.proofs.Keeping.{links_known, moves, no_more_on, stays_known}
use Rattle.rina_known.proofs.Managements.{good_same, good_set}

module _ (G : Item → Type 0) (own : OwnAre G) where
  -- What came

  -- the items in a text are known
  abbrev IsTextKnown : List ℕ → Type 0
  IsTextKnown text = (message : LinkMessage) (x : Item) → IsSdu message text → Contains (item_in message) x → G x

  sdu_good : (now number : ℕ) (sdu : List ℕ) (m : Management) (after : Option Management) → IsTextKnown sdu → HandlesSdu now number sdu m (Ok after) → IsGood G m.agent → IsGood G (or_same m after).agent
  sdu_good now number sdu m None came h g = g
  sdu_good now number sdu m (Some m') came h g = handled_good G own m.agent m'.agent now number h.0 (λ x has. came h.0 x h.1.is_sdu has) h.2.handles g

  one_good : (now number : ℕ) (sdu : List ℕ) (m m' : Management) → IsTextKnown sdu → HandlesOne now number sdu m m' → IsGood G m.agent → IsGood G m'.agent
  one_good now number sdu m m' came h g = subst (λ (z : Management). IsGood G z.agent) (sym h.is) (sdu_good now number sdu m h.after came h.handles g)

  turns_good : (now number : ℕ) (sdus : List (List ℕ)) (m m' : Management) → ((text : List ℕ) → Contains sdus text → IsTextKnown text) → HandlesInTurn now number sdus m m' → IsGood G m.agent → IsGood G m'.agent
  turns_good now number [] m m' came is g = subst (λ (z : Management). IsGood G z.agent) (sym is) g
  turns_good now number (sdu ∷ sdus) m m' came h g = turns_good now number sdus h.0 m' (λ text has. came text (tail sdu sdus text has)) h.2 (one_good now number sdu m h.0 (came sdu (head sdu sdus)) h.1 g)

  handles_known : (d handled : Dif) → MayHandle d handled → NoMoreOnLinks d handled → AllAre G d → AllAre G handled
  handles_known d handled may links known = moves G own d handled (by_may may) (no_more_on d handled links) known
    where
      by_may : MayHandle d handled → all_good G own d.managements → all_good G own handled.managements
      by_may (inl same) good = good_same G own d.managements handled.managements same good
      by_may (inr h) good = subst (all_good G own) (sym h.are) (good_set G own d.managements h.place h.management h.after h.is_management
          (turns_good h.now h.number h.texts h.management h.after (λ text has message x is its. links_known G own d known text (ToNeighbour message) x (h.on_link text has) is its) h.handles) good)

  -- By node

  -- noting a failure is nothing to them
  noted : (d : Dif) (failed : Bool) → AllAre G (record d { failed = failed }) → AllAre G d
  noted d failed = stays_known G own (record d { failed = failed }) d refl refl

  told_known : (d : Dif) (lines : List Direction) (below : Seen) (i n : ℕ) (answer : Result InStep StepError) (handled : Dif) (between : List Direction) (below' : Seen) (result : Result InStep StepError) (d' : Dif) (lines' : List Direction) → TellsFlows d below i n answer handled between below' result d' lines' → i < length handled.settings.members → (result ≡ Err step.Memory → ⊥) → AllAre G handled → AllAre G d'
  told_known d lines below i n answer handled between below' result d' lines' told lt some known =
      let end : Dif = record d' { failed = handled.failed } in
      let walk = subst (λ (r : Result (Unit {0}) NoMemory). HandlesFlows handled between below' i told.messages r end lines') (not_stopped told.stopped answer result told.ends some) told.handles in
      noted d' handled.failed (flows_known G own handled between below' i told.messages end lines' lt walk known)

  home_known : (o : Option ℕ) (d : Dif) (lines : List Direction) (below : Seen) (node n : ℕ) (result : Result InStep StepError) (d' : Dif) (below' : Seen) → home node (config_of d.settings).members ≡ o → Holds d lines below → AreKept below → AreKept below' → TakesHome d lines below node n result d' below' → (result ≡ Err step.Memory → ⊥) → AllAre G d → AllAre G d'
  home_known (Some i) d lines below node n result d' below' here h kept kept' t some known =
      let o : Option ℕ = home node (config_of d.settings).members in
      let does = ins_at (seen_of d) lines below node n i t.answer (seen_of t.taken) t.between below' here t.does in
      let within : i < length d.settings.members = (let p = position-Some (λ (x : Member). x.node == node) (config_of d.settings).members i (record { addr = 0; name = []; node = 0 }) here in let lt = p.0 in let long = length-map d.settings.members member_of in omega (arith, lt, long)) in
      let many = as_many d lines below i n t.answer t.taken t.between below' t.handled does t.rerouted in
      let links = at_some o i (λ k. TakesLinks d h.connected.lines below k n t.answer t.taken) (t.taken.connections ≡ d.connections) here (t.links h.connected) in
      let handles = at_some o i (λ k. Handles d below k n t.answer t.taken below' t.handled) (t.handled ≡ t.taken) here t.handles in
      let told = at_some o i (λ k. TellsFlows d below k n t.answer t.handled t.between below' result d' t.lines') (TellsNothing t.answer t.handled t.between result d' t.lines') here t.told in
      let b = by_answer d lines below h kept i n t.answer t.taken t.between below' kept' t.handled told.messages does links t.managed handles told.are in
      told_known d lines below i n t.answer t.handled t.between below' result d' t.lines' told (subst (λ (k : ℕ). i < k) (sym many) within) some (handles_known d t.handled b.handles b.links known)
  home_known None d lines below node n result d' below' none h kept kept' t some known =
      let o : Option ℕ = home node (config_of d.settings).members in
      let same : t.handled ≡ t.taken = at_none o (λ k. Handles d below k n t.answer t.taken below' t.handled) (t.handled ≡ t.taken) none t.handles in
      let connections : t.taken.connections ≡ d.connections = at_none o (λ k. TakesLinks d h.connected.lines below k n t.answer t.taken) (t.taken.connections ≡ d.connections) none (t.links h.connected) in
      let told = at_none o (λ k. TellsFlows d below k n t.answer t.handled t.between below' result d' t.lines') (TellsNothing t.answer t.handled t.between result d' t.lines') none t.told in
      let handled = stays_known G own d t.handled (ap (λ (z : Dif). z.managements) same ∙ t.managed) (ap (λ (z : Dif). z.connections) same ∙ connections) known in
      noted d' t.handled.failed (subst (AllAre G) (sym told.1) handled)

  pub in_keeps : InKeeps (AllAre G)
  in_keeps d d' below below' node link result kept kept' st does notes = stays (AllAre G) d d' result (Err step.Memory) notes (λ some.
      home_known _ d st.0 below node link result d' below' refl st.1 kept kept' (does st.0 st.1) some)
