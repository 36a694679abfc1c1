-- All rows, and the start.
use Rattle.std.proofs.Common.{◌≡◌, ℕ, ◌⊎◌, ◌<◌, ◌^◌, List, ◌∷◌, ◌++◌, Contains, Some, None, refl, sym, ◌∙◌, ap, subst, inl, inr, []}
use Rattle.std.specs.Prelude.{find, flat_map}
use Rattle.std.proofs.lemmas.Bool.{cases_Bool}
use Rattle.std.proofs.lemmas.Option.{none-some, same_Some}
use Rattle.rina_enrol.specs.declared.event.EnrolEvent.TheVariants as events
use Rattle.rina_enrol.specs.declared.message.LinkMessage.{LinkMessage}
use Rattle.rina_enrol.specs.declared.message.LinkMessage.TheVariants as messages
use Rattle.rina_newest.specs.declared.item.Item.{Item}
use Rattle.rina_newest.specs.Newest.{has_key, kept_at, taken_all}
use Rattle.rina_agent.specs.declared.message.ManagementMessage.{ManagementMessage}
use Rattle.rina_agent.specs.declared.message.ManagementMessage.TheVariants.{ToNeighbour, ToMember}
use Rattle.rina_agent.specs.declared.message.Waiting.{Waiting}
use Rattle.rina_agent.specs.Counts.{next_of, spent}
use Rattle.rina_agent.specs.Enrolled.{Handles}
use Rattle.rina_agent.specs.Enrolments.{hears, is_numbered}
use Rattle.rina_agent.specs.Rows.{denial, was_up}
use Rattle.rina_flood.specs.Network.{Side, other, EndState, Unmade, There, Gone, Network, waiting_at, put_agent, put_sent, unhandled, carried, on_way, Row, Make, Put, Draw, Take, Handle, Lose, Leave, Drop, Know, Pass, happens, May, IsRun, after_rows, IsStart, with_invoke, with_message, item_in, called, Enrol, Claim, KnowsAll, KnowsNothing}
use Rattle.rina_flood.proofs.Flow.{key_same, itself_least}
use Rattle.rina_flood.proofs.Holds.{Holds}
use Rattle.rina_flood.proofs.Places.{nothing_in}
use Rattle.rina_flood.proofs.Steps.{make_holds, took_holds}
use Rattle.rina_flood.proofs.Enrolling.{connect_by, allow_by, deny_by, note_by}
use Rattle.rina_flood.proofs.Entering.{holds_kept, start_keeps}
use Rattle.rina_flood.proofs.Keeping.{IsKept}
use Rattle.rina_flood.proofs.Known.{know_holds}
use Rattle.rina_flood.proofs.NewLinks.{enrol_holds, claim_holds}
use Rattle.rina_flood.proofs.Runs.{draw_moving, lose_by, moving_holds, put_moving, take_holds, left_moving, passed_moving, pass_holds}
use Rattle.rina_flood.proofs.States.{close_holds}
use Rattle.rina_flood.proofs.Stopping.{stop_keeps}

-- A message is handled

-- it keeps what an enrolment keeps, where it carries no item
module _ (P : Network → Type 0) (kept : IsKept P) where
  pub near_keeps : (n : Network) (i k : ℕ) (m : LinkMessage) → item_in m ≡ [] → i < 2 ^ 32 → P n → P (called n i (Handles n.now k m))
  near_keeps n i k (messages.Connect invoke joiner member) empty fits h =
      let a = n.agents i in
      let m = messages.Connect invoke joiner member in
      let reply = messages.ConnectR invoke (denial a joiner) in
      kept.quiet n i _ (connect_by a k m reply (reply ∷ []) (events.Connect (denial a joiner)) (hears a.links k m (reply ∷ []) (events.Connect (denial a joiner))) refl refl) h
  near_keeps n i k (messages.ConnectR invoke None) empty fits h =
      let a = n.agents i in
      let m = messages.ConnectR invoke None in
      let start = messages.Start (next_of a.last_invoke) a.address in
      kept.quiet n i _ (allow_by a k m start (start ∷ []) (events.ConnectR None) (hears a.links k m (start ∷ []) (events.ConnectR None)) refl refl) h
  near_keeps n i k (messages.ConnectR invoke (Some rule)) empty fits h =
      let a = n.agents i in
      let m = messages.ConnectR invoke (Some rule) in
      kept.quiet n i _ (deny_by a k k rule m [] (events.ConnectR (Some rule)) (hears a.links k m [] (events.ConnectR (Some rule))) refl) h
  near_keeps n i k (messages.Start invoke address) empty fits h = start_keeps P kept n i k invoke address fits h
  near_keeps n i k (messages.StartR invoke) empty fits h =
      let a = n.agents i in
      let m = messages.StartR invoke in
      kept.quiet n i _ (note_by a k m [] events.StartR (hears a.links k m [] events.StartR) refl) h
  near_keeps n i k (messages.Item x) empty fits h = absurd (cc)
  near_keeps n i k (messages.Stop invoke) empty fits h = stop_keeps P kept n i k invoke fits h
  near_keeps n i k (messages.StopR invoke) empty fits h =
      let a = n.agents i in
      let m = messages.StopR invoke in
      kept.quiet n i _ (note_by a k m [] events.StopR (hears a.links k m [] events.StopR) refl) h
  near_keeps n i k (messages.Flood x) empty fits h = absurd (cc)

-- one without an item is taken off first
pub popped_holds : (n : Network) (link : ℕ) (side : Side) (m : ManagementMessage) (rest : List ManagementMessage) → Holds n → n.sent link side ≡ m ∷ rest → carried m ≡ [] → Holds (record n { sent = put_sent link side rest n.sent })
popped_holds n link side m rest h first empty = moving_holds n n.agents (put_sent link side rest n.sent) (passed_moving n link side m rest empty first) h

empty_handled : (n : Network) (link : ℕ) (side : Side) (number : ℕ) (m : LinkMessage) (rest : List ManagementMessage) → Holds n → n.states link (other side) ≡ There number → n.sent link side ≡ ToNeighbour m ∷ rest → item_in m ≡ [] → Holds (happens n (Handle link side number (ToNeighbour m) rest))
empty_handled n link side number m rest h there first empty = near_keeps Holds holds_kept (record n { sent = put_sent link side rest n.sent }) (n.ends link (other side)) number m empty (h.laid.fit link (other side)) (popped_holds n link side (ToNeighbour m) rest h first empty)

handle_near : (n : Network) (link : ℕ) (side : Side) (number : ℕ) (m : LinkMessage) (rest : List ManagementMessage) → Holds n → n.states link (other side) ≡ There number → n.sent link side ≡ ToNeighbour m ∷ rest → Holds (happens n (Handle link side number (ToNeighbour m) rest))
handle_near n link side number (messages.Connect invoke joiner member) rest h there first = empty_handled n link side number (messages.Connect invoke joiner member) rest h there first refl
handle_near n link side number (messages.ConnectR invoke denied) rest h there first = empty_handled n link side number (messages.ConnectR invoke denied) rest h there first refl
handle_near n link side number (messages.Start invoke address) rest h there first = empty_handled n link side number (messages.Start invoke address) rest h there first refl
handle_near n link side number (messages.StartR invoke) rest h there first = empty_handled n link side number (messages.StartR invoke) rest h there first refl
handle_near n link side number (messages.Item x) rest h there first = took_holds n link side (ToNeighbour (messages.Item x)) rest first x refl h number there
handle_near n link side number (messages.Stop invoke) rest h there first = empty_handled n link side number (messages.Stop invoke) rest h there first refl
handle_near n link side number (messages.StopR invoke) rest h there first = empty_handled n link side number (messages.StopR invoke) rest h there first refl
handle_near n link side number (messages.Flood x) rest h there first = took_holds n link side (ToNeighbour (messages.Flood x)) rest first x refl h number there

handle_holds : (n : Network) (link : ℕ) (side : Side) (number : ℕ) (m : ManagementMessage) (rest : List ManagementMessage) → Holds n → n.states link (other side) ≡ There number → n.sent link side ≡ m ∷ rest → Holds (happens n (Handle link side number m rest))
handle_holds n link side number (ToNeighbour m) rest h there first = handle_near n link side number m rest h there first
handle_holds n link side number (ToMember m) rest h there first = popped_holds n link side (ToMember m) rest h first refl

-- All rows

pub row_holds : (n : Network) (row : Row) → Holds n → May n row → Holds (happens n row)
row_holds n (Make i key value) h may = make_holds n i key value h may
row_holds n (Put i number m) h may = moving_holds n (put_agent i (with_message (n.agents i) number m) n.agents) n.sent (put_moving n i number m) h
row_holds n (Draw i) h may = moving_holds n (put_agent i (with_invoke (n.agents i)) n.agents) n.sent (draw_moving n i) h
row_holds n (Take link side number m) h may = take_holds n link side number m h may.0 may.1
row_holds n (Handle link side number m rest) h may = handle_holds n link side number m rest h may.0 may.1
row_holds n (Lose link side number) h may = lose_by n (n.ends link side) number (was_up (find (is_numbered number) (n.agents (n.ends link side)).links)) (spent 1 (n.agents (n.ends link side)).last_count) h may.1 may.1
row_holds n (Leave link side number) h may = close_holds n link side h
row_holds n (Drop link side left) h may = moving_holds n n.agents (put_sent link side left n.sent) (left_moving n link side left may.0 may.1) h
row_holds n (Enrol link side number i j member node) h may = enrol_holds n link side number i j member node h may.0 may.1 may.2 may.3 may.4
row_holds n (Claim link side number) h may = claim_holds n link side number h may.1 may.2
row_holds n (Know x) h may = know_holds n x h may
row_holds n Pass h may = pass_holds n h

pub rows_hold : (n : Network) (rows : List Row) → Holds n → IsRun n rows → Holds (after_rows n rows)
rows_hold n [] h run = h
rows_hold n (row ∷ rows) h run = rows_hold (happens n row) rows (row_holds n row h run.0) run.1

-- The start

pub found_key : (items : List Item) (key : List ℕ) (x : Item) → kept_at items key ≡ Some x → x.key ≡ key
found_key [] key x e = absurd (none-some x e)
found_key (i ∷ items) key x e = elim (cases_Bool (has_key key i)) [
  | inl is ↦
      (let same : i ≡ x = same_Some i x (rw is at e) in
      ap (λ (y : Item). y.key) (sym same) ∙ sym (key_same key i.key is))
  | inr isnt ↦ found_key items key x (rw isnt at e)
]

none_at : (s : EndState) → waiting_at s [] ≡ []
none_at Unmade = refl
none_at (There k) = refl
none_at Gone = refl

pub no_messages : (n : Network) (told : List Item) → IsStart n told → (l : ℕ) (d : Side) → unhandled n l d ≡ []
no_messages n told s l d =
    let sent = s.sent l d in
    let agenda = s.agendas (n.ends l d) in
    ap (λ (ms : List ManagementMessage). ms ++ waiting_at (n.states l d) (n.agents (n.ends l d)).agenda) sent ∙ ap (λ (ws : List Waiting). waiting_at (n.states l d) ws) agenda ∙ none_at (n.states l d)

-- a member that keeps the items of the start, and one that keeps none
kept_known : (n : Network) (told : List Item) (i : ℕ) (key : List ℕ) (x : Item) → KnowsAll n told i ⊎ KnowsNothing n i → kept_at (n.agents i).items key ≡ Some x → kept_at (taken_all [] told) key ≡ Some x
kept_known n told i key x (inl all) e = ap (λ (items : List Item). kept_at items key) (sym all.0) ∙ e
kept_known n told i key x (inr none) e = absurd (none-some x (ap (λ (items : List Item). kept_at items key) (sym none.0) ∙ e))

start_knows : (n : Network) (told : List Item) (i : ℕ) → KnowsAll n told i ⊎ KnowsNothing n i → (n.agents i).items ≡ taken_all [] (n.offered i)
start_knows n told i (inl all) = all.0 ∙ ap (λ (items : List Item). taken_all [] items) (sym all.1)
start_knows n told i (inr none) = none.0 ∙ ap (λ (items : List Item). taken_all [] items) (sym none.1)

start_offered : (n : Network) (told : List Item) (i : ℕ) (x : Item) → KnowsAll n told i ⊎ KnowsNothing n i → Contains (n.offered i) x → Contains told x
start_offered n told i x (inl all) e = (let P : List Item → Type 0 = λ items. Contains items x in subst P all.1 e)
start_offered n told i x (inr none) e = (let P : List Item → Type 0 = λ items. Contains items x in absurd (nothing_in x (subst P none.1 e)))

pub begin_holds : (n : Network) (told : List Item) → IsStart n told → Holds n
begin_holds n told s =
    let none : (l : ℕ) (d : Side) (x : Item) → Contains (on_way n l d) x → ⊥ = λ l d x e. (let P : List ManagementMessage → Type 0 = λ ms. Contains (flat_map carried ms) x in nothing_in x (subst P (no_messages n told s l d) e)) in
    let made : (x : Item) → Contains n.made x → Contains told x = λ x e. (let P : List Item → Type 0 = λ items. Contains items x in subst P s.made e) in
    record {
      laid = record {
        addresses = s.addresses;
        laid = s.laid;
        fit = s.fit;
        apart = s.apart;
      };
      flooded = record {
        kept = λ l d x e. absurd (none l d x e);
        owes = λ l d up key x e.
            (let known = kept_known n told (n.ends l d) key x (s.knows (n.ends l d)) e in
            let far = s.both l d up in
            inl (itself_least (n.agents (n.ends l (other d))).items key x (ap (λ (items : List Item). kept_at items key) far.0 ∙ known) (found_key (n.agents (n.ends l d)).items key x e)));
      };
      noted = record {
        knows = λ i. start_knows n told i (s.knows i);
        offered = λ i x e. (let P : List Item → Type 0 = λ items. Contains items x in subst P (sym s.made) (start_offered n told i x (s.knows i) e));
        sent = λ l d x e. absurd (none l d x e);
        one = λ x y a b k v. s.one x y (made x a) (made y b) k v;
        past = λ x e. s.past x (made x e);
        counted = λ x e. s.counted x (made x e);
      };
    }

pub run_holds : (n : Network) (told : List Item) (rows : List Row) → IsStart n told → IsRun n rows → Holds (after_rows n rows)
run_holds n told rows s run = rows_hold n rows (begin_holds n told s) run
