-- Which messages wait at the members of a DIF after what happens to them.
use Rattle.std.proofs.Common.{◌+◌, ◌≡◌, ◌∙◌, ◌⊎◌, inl, inr, ⊎_elim, ℕ, List, [], ◌∷◌, Contains, map, option_map, slice_get, slice_set, Option, Some, None, refl, sym, ap, subst, ◌≤◌, arith, sum_by}
use Rattle.std.proofs.lemmas.List.Elements.{Contains-push_cases}
use Rattle.std.proofs.lemmas.Option.{slice_get-map}
use Rattle.rina_iface.proofs.Changed.{set_at}
use Rattle.rina_alloc.specs.declared.message.FlowMessage.{FlowMessage}
use Rattle.rina_alloc.specs.Messages.{operation_of}
use Rattle.rina_agent.specs.declared.agent.Agent.{Agent}
use Rattle.rina_agent.specs.declared.message.ManagementMessage.{ManagementMessage}
use Rattle.rina_agent.specs.declared.message.ManagementMessage.TheVariants.{ToMember, ToNeighbour}
use Rattle.rina_agent.specs.declared.message.Waiting.{Waiting}
use Rattle.rina_member.specs.declared.management.Management.{Management}
use Rattle.rina_member.specs.Managements.{entered, with_flow, without_flow, without_flows}
use Rattle.rina_dif.specs.Changing.{changed_at, changed_if, with_flow_at, without_flow_at}
use Rattle.rina_dif.specs.Managing.{agents_of}
use Rattle.rina_dif.specs.Posting.{posted, with_message}
use Rattle.rina_dif.proofs.Bare.{map_at}
use Rattle.rina_asked.specs.Alone.{all_waiting, one_waiting}
use Rattle.rina_asked.proofs.Counting.{sum_map, sum_mapped, sum_push, sum_set}
use Rattle.rina_asked.proofs.Agendas.{AddsNear, IsNear, adds_none}
use Rattle.rina_asked.proofs.Drawn.{KeepIds, KeepsIds, ids_kept, keep_agents, keep_map, keep_on, keep_same, keep_set}

-- a message waits at one of the members
pub record HasWaiting (ms : List Management) (w : Waiting) : Type 0 where
  pub place : ℕ
  pub management : Management
  pub is_management : slice_get ms place ≡ Some management
  pub waits : Contains management.agent.agenda w

-- what waits then waited before, or is such a message, and of what is not there is no more. The members keep their addresses and the ids that they drew
pub record Adds (New : ManagementMessage → Type 0) (old new : List Management) : Type 0 where
  pub more : (w : Waiting) → HasWaiting new w → HasWaiting old w ⊎ New w.message
  pub fewer : (F : ManagementMessage → ℕ) → ((x : ManagementMessage) → New x → F x ≡ 0) → all_waiting F new ≤ all_waiting F old
  pub ids : KeepIds old new

-- it is neither an ask for a flow nor an answer
abbrev pub IsOther : ManagementMessage → Type 0
IsOther (ToNeighbour m) = Unit {0}
IsOther (ToMember m) = operation_of m.word ≡ 6

pub near_other : (x : ManagementMessage) → IsNear x → IsOther x
near_other (ToNeighbour m) near = tt
near_other (ToMember m) near = absurd near

pub none_added : (New : ManagementMessage → Type 0) (ms : List Management) → Adds New ms ms
none_added New ms = record { more = λ w has. inl has; fewer = λ F none. omega arith; ids = keep_same ms }

pub same_added : (New : ManagementMessage → Type 0) (ms ms' : List Management) → ms' ≡ ms → Adds New ms ms'
same_added New ms ms' same = subst (Adds New ms) (sym same) (none_added New ms)

pub added_on : (New : ManagementMessage → Type 0) (a b c : List Management) → Adds New a b → Adds New b c → Adds New a c
added_on New a b c f g = record {
  more = λ w has. ⊎_elim (λ mid. f.more w mid) (λ new. inr new) (g.more w has);
  fewer = λ F none. (let x = f.fewer F none in let y = g.fewer F none in omega (arith, x, y));
  ids = keep_on a b c f.ids g.ids;
}

-- such messages are others too
pub widened : (New New' : ManagementMessage → Type 0) (ms ms' : List Management) → ((x : ManagementMessage) → New x → New' x) → Adds New ms ms' → Adds New' ms ms'
widened New New' ms ms' so adds = record {
  more = λ w has. ⊎_elim (λ old. inl old) (λ new. inr (so w.message new)) (adds.more w has);
  fewer = λ F none. adds.fewer F (λ x new. none x (so x new));
  ids = adds.ids;
}

-- One member

-- its agenda has such messages more
pub record MayAdd (New : ManagementMessage → Type 0) (m m' : Management) : Type 0 where
  pub more : (w : Waiting) → Contains m'.agent.agenda w → Contains m.agent.agenda w ⊎ New w.message
  pub fewer : (F : ManagementMessage → ℕ) → ((x : ManagementMessage) → New x → F x ≡ 0) → one_waiting F m' ≤ one_waiting F m
  pub ids : KeepsIds m.agent m'.agent

pub agenda_same : (New : ManagementMessage → Type 0) (m m' : Management) → m'.agent.agenda ≡ m.agent.agenda → KeepsIds m.agent m'.agent → MayAdd New m m'
agenda_same New m m' same ids = record {
  more = λ w has. inl (subst (λ (ws : List Waiting). Contains ws w) same has);
  fewer = λ F none. (let path : one_waiting F m' ≡ one_waiting F m = ap (sum_by (λ (w : Waiting). F w.message)) same in omega (arith, path));
  ids = ids;
}

set_adds : (New : ManagementMessage → Type 0) (ms : List Management) (i : ℕ) (m m' : Management) → slice_get ms i ≡ Some m → MayAdd New m m' → Adds New ms (slice_set ms i m')
set_adds New ms i m m' is adds = record {
  more = λ w has. elim (set_at ms i has.place m m' has.management is has.is_management) [
    | inl t ↦ ⊎_elim (λ old. inl (record { place = i; management = m; is_management = is; waits = old })) (λ new. inr new) (adds.more w (subst (λ (z : Management). Contains z.agent.agenda w) t.1 has.waits))
    | inr u ↦ inl (record { place = has.place; management = has.management; is_management = u.1; waits = has.waits })
  ];
  fewer = λ F none. (let sums = sum_set (one_waiting F) ms i m m' is in let here = adds.fewer F none in omega (arith, sums, here));
  ids = keep_set ms i m m' is adds.ids;
}

changed_by : (New : ManagementMessage → Type 0) (o : Option Management) (at : ℕ) (f : Management → Management) (ms : List Management) → slice_get ms at ≡ o → ((m : Management) → MayAdd New m (f m)) → Adds New ms (changed_if o at f ms)
changed_by New None at f ms is more = none_added New ms
changed_by New (Some m) at f ms is more = set_adds New ms at m (f m) is (more m)

pub changed_adds : (New : ManagementMessage → Type 0) (at : ℕ) (f : Management → Management) (ms : List Management) → ((m : Management) → MayAdd New m (f m)) → Adds New ms (changed_at at f ms)
changed_adds New at f ms more = changed_by New (slice_get ms at) at f ms refl more

near_more : (m m' : Management) → AddsNear m.agent m'.agent → MayAdd IsOther m m'
near_more m m' near = record {
  more = λ w has. ⊎_elim (λ old. inl old) (λ new. inr (near_other w.message new)) (near.more w has);
  fewer = λ F none. near.fewer (λ (w : Waiting). F w.message) (λ w is. none w.message (near_other w.message is));
  ids = near.ids;
}

pub near_set : (ms : List Management) (i : ℕ) (m m' : Management) → slice_get ms i ≡ Some m → AddsNear m.agent m'.agent → Adds IsOther ms (slice_set ms i m')
near_set ms i m m' is near = set_adds IsOther ms i m m' is (near_more m m' near)

pub near_changed : (at : ℕ) (f : Management → Management) (ms : List Management) → ((m : Management) → AddsNear m.agent (f m).agent) → Adds IsOther ms (changed_at at f ms)
near_changed at f ms near = changed_adds IsOther at f ms (λ m. near_more m (f m) (near m))

-- Objects alone

pub shows_flow : (at cep : ℕ) (ms : List Management) → Adds IsOther ms (with_flow_at at cep ms)
shows_flow at cep ms = near_changed at (λ m. with_flow m cep) ms (λ m. adds_none m.agent)

pub hides_flow : (at cep : ℕ) (ms : List Management) → Adds IsOther ms (without_flow_at at cep ms)
hides_flow at cep ms = near_changed at (λ m. without_flow m cep) ms (λ m. adds_none m.agent)

pub without_agent : (m : Management) (ceps : List ℕ) → (without_flows m ceps).agent ≡ m.agent
without_agent m [] = refl
without_agent m (cep ∷ ceps) = without_agent (without_flow m cep) ceps

-- the agents stay
pub agents_added : (ms ms' : List Management) → agents_of ms' ≡ agents_of ms → Adds IsOther ms ms'
agents_added ms ms' same = record {
  more = λ w has.
      (let there : slice_get (agents_of ms) has.place ≡ Some has.management.agent = ap (λ (gs : List Agent). slice_get gs has.place) (sym same) ∙ slice_get-map (λ (z : Management). z.agent) ms' has.place ∙ ap (option_map (λ (z : Management). z.agent)) has.is_management in
      let old = map_at (λ (z : Management). z.agent) ms has.place has.management.agent there in
      inl (record { place = has.place; management = old.0; is_management = old.1; waits = subst (λ (g : Agent). Contains g.agenda w) (sym old.2) has.waits }));
  fewer = λ F none.
      (let G : Agent → ℕ = λ a. sum_by (λ (w : Waiting). F w.message) a.agenda in
      let path : all_waiting F ms' ≡ all_waiting F ms = sum_map G (λ (z : Management). z.agent) ms' ∙ ap (sum_by G) same ∙ sym (sum_map G (λ (z : Management). z.agent) ms) in
      omega (arith, path));
  ids = keep_agents ms ms' same;
}

-- All members take an entry

entered_agenda : (app : List ℕ) (address : ℕ) (m : Management) → (entered app address m).agent.agenda ≡ m.agent.agenda
unfolding entered
entered_agenda app address m = refl

entered_ids : (app : List ℕ) (address : ℕ) (m : Management) → KeepsIds m.agent (entered app address m).agent
unfolding entered
entered_ids app address m = ids_kept m.agent (entered app address m).agent refl refl

pub entered_adds : (app : List ℕ) (address : ℕ) (ms : List Management) → Adds IsOther ms (map (entered app address) ms)
entered_adds app address ms = record {
  more = λ w has.
      (let old = map_at (entered app address) ms has.place has.management has.is_management in
      let waits = subst (λ (z : Management). Contains z.agent.agenda w) (sym old.2) has.waits in
      inl (record { place = has.place; management = old.0; is_management = old.1; waits = subst (λ (ws : List Waiting). Contains ws w) (entered_agenda app address old.0) waits }));
  fewer = λ F none. sum_mapped (one_waiting F) (entered app address) (λ m. ap (sum_by (λ (w : Waiting). F w.message)) (entered_agenda app address m)) ms;
  ids = keep_map (entered app address) (entered_ids app address) ms;
}

-- A message is posted

one_more : (New : ManagementMessage → Type 0) (m : Management) (link : ℕ) (message : FlowMessage) → New (ToMember message) → MayAdd New m (with_message m link message)
one_more New m link message new = record {
  more = λ w has. ⊎_elim (λ old. inl old) (λ same. inr (subst (λ (z : Waiting). New z.message) same new)) (Contains-push_cases m.agent.agenda (record { link = link; message = ToMember message }) w has);
  fewer = λ F none. (let sums = sum_push (λ (w : Waiting). F w.message) m.agent.agenda (record { link = link; message = ToMember message }) in let here = none (ToMember message) new in omega (arith, sums, here));
  ids = ids_kept m.agent (with_message m link message).agent refl refl;
}

pub posted_adds : (New : ManagementMessage → Type 0) (at : ℕ) (o : Option ℕ) (message : FlowMessage) (ms : List Management) → New (ToMember message) → Adds New ms (posted at o message ms)
posted_adds New at None message ms new = none_added New ms
posted_adds New at (Some link) message ms new = changed_adds New at (λ m. with_message m link message) ms (λ m. one_more New m link message new)

-- it is one message at most
with_one : (F : ManagementMessage → ℕ) (link : ℕ) (message : FlowMessage) (m : Management) → one_waiting F (with_message m link message) ≡ one_waiting F m + F (ToMember message)
with_one F link message m = sum_push (λ (w : Waiting). F w.message) m.agent.agenda (record { link = link; message = ToMember message })

put_once : (F : ManagementMessage → ℕ) (at : ℕ) (o : Option Management) (link : ℕ) (message : FlowMessage) (ms : List Management) → slice_get ms at ≡ o → all_waiting F (changed_if o at (λ m. with_message m link message) ms) ≤ all_waiting F ms + F (ToMember message)
put_once F at None link message ms is = omega arith
put_once F at (Some m) link message ms is = (let sums = sum_set (one_waiting F) ms at m (with_message m link message) is in let here = with_one F link message m in omega (arith, sums, here))

pub posted_once : (F : ManagementMessage → ℕ) (at : ℕ) (o : Option ℕ) (message : FlowMessage) (ms : List Management) → all_waiting F (posted at o message ms) ≤ all_waiting F ms + F (ToMember message)
posted_once F at None message ms = omega arith
posted_once F at (Some link) message ms = put_once F at (slice_get ms at) link message ms refl
