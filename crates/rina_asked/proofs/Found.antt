-- Of a flow one ask at most is on its way, which finds the asker's end.
use Rattle.std.proofs.Common.{◌≡◌, ◌∙◌, inl, inr, ⊎_elim, ℕ, zero, suc, ◌+◌, ◌≤◌, true, List, [], ◌∷◌, bytes_eq, sum_by, refl, sym, ap, subst, arith}
use Rattle.std.proofs.lemmas.Bool.{cases_Bool, true≢false}
use Rattle.std.proofs.lemmas.List.Sums.{sum_by-cons}
use Rattle.rina_base.specs.declared.number.FlowName.{FlowName}
use Rattle.rina_agent.specs.declared.message.ManagementMessage.{ManagementMessage}
use Rattle.rina_agent.specs.declared.message.Waiting.{Waiting}
use Rattle.rina_alloc.specs.declared.message.FlowAsk.{FlowAsk}
use Rattle.rina_alloc.specs.declared.message.FlowMessage.{FlowMessage}
use Rattle.rina_alloc.specs.declared.message.FlowWord.{FlowWord}
use Rattle.rina_alloc.specs.declared.message.FlowWord.TheVariants as words
use Rattle.rina_alloc.specs.Messages.{IsInRange}
use Rattle.rina_flood.specs.Network.{Far, Near, Side}
use Rattle.rina_iface.specs.declared.ends.End.{End}
use Rattle.rina_iface.specs.declared.state.Role.{Role}
use Rattle.rina_iface.specs.declared.state.Role.TheVariants as roles
use Rattle.rina_iface.specs.Journal.{At}
use Rattle.rina_iface.specs.Seen.{Seen}
use Rattle.rina_law.specs.Direction.{Direction}
use Rattle.rina_member.specs.Managements.{IsSduOf}
use Rattle.rina_dif.specs.declared.dif.Dif.{Dif}
use Rattle.rina_dif.specs.FarMaking.{HasFar}
use Rattle.rina_dif.specs.Holding.{Holds}
use Rattle.rina_asked.specs.Alone.{AreAlone, IsName, all_on_links, all_waiting, askers, asks, far_ends, is_asker, is_far, name_text, one, one_waiting, text_asks, word_asks}
use Rattle.rina_asked.specs.Calls.{AsksAreCounted, AsksAreOne, AsksFind}
use Rattle.rina_asked.specs.Messages.{IsMessage, IsOnWay, Waits, on_link}
use Rattle.rina_asked.proofs.Counting.{sum_at, sum_each, sum_has}
use Rattle.rina_asked.proofs.Keeps.{askers_found}
use Rattle.rina_asked.proofs.Names.{bytes_are, is_its_own, of_name, same_bytes}
use Rattle.rina_asked.proofs.Weights.{flow_text, text_same, text_weighs}

-- One asker's end

abbrev pub Distinct : List End → Type 0
Distinct ends = (i k : ℕ) (a b : End) → At ends i a → At ends k b → a.flow ≡ b.flow → a.role ≡ b.role → i ≡ k

asker_name : (f : FlowName) (role : Role) (name : FlowName) → is_asker f role name ≡ true → (role ≡ roles.Asker) × (name ≡ f)
asker_name f roles.Asker name is = (refl, of_name f name is)
asker_name f roles.Far name is = absurd (true≢false (sym is))

next_same : (i k : ℕ) → suc i ≡ suc k → i ≡ k
next_same i k same = omega (arith, same)

never_next : (k : ℕ) → ◌≡◌ {A = ℕ} zero (suc k) → ⊥
never_next k same = omega (arith, same)

pub one_asker : (f : FlowName) (ends : List End) → Distinct ends → askers f ends ≤ 1
one_asker f [] distinct = omega arith
one_asker f (e ∷ es) distinct =
    let whole = sum_by-cons (λ (x : End). one (is_asker f x.role x.flow)) e es in
    let rest = one_asker f es (λ i k a b x y flow role. next_same i k (distinct (suc i) (suc k) a b x y flow role)) in
    ⊎_elim
    (λ yes.
    (let here : one (is_asker f e.role e.flow) ≡ 1 = ap one yes in
    let mine = asker_name f e.role e.flow yes in
    let none = sum_each (λ (x : End). one (is_asker f x.role x.flow)) es (λ k x is. ⊎_elim
    (λ its. (let other = asker_name f x.role x.flow its in absurd (never_next k (distinct zero (suc k) e x refl is (mine.1 ∙ sym other.1) (mine.0 ∙ sym other.0)))))
    (λ no. ap one no) (cases_Bool (is_asker f x.role x.flow))) in
    omega (arith, whole, here, none)))
    (λ no. (let here : one (is_asker f e.role e.flow) ≡ 0 = ap one no in omega (arith, whole, here, rest)))
    (cases_Bool (is_asker f e.role e.flow))

pub asks_are_one : AsksAreOne
asks_are_one d lines below h alone f links is = (let before = alone f links is in let asker = one_asker f d.flows.journal.ends h.standing.journal.distinct in omega (arith, before, asker))

-- A message that is there counts

link_has : (G : List ℕ → ℕ) (d : Dif) (l : ℕ) (side : Side) → sum_by G (on_link d l side) ≤ all_on_links G d (suc l)
link_has G d l Near = omega arith
link_has G d l Far = omega arith

waits_counts : (F : ManagementMessage → ℕ) (d : Dif) (text : List ℕ) (w : Waits d text) → F w.waiting.message ≤ all_waiting F d.managements
waits_counts F d text w =
    let here = sum_has (λ (x : Waiting). F x.message) w.management.agent.agenda w.waiting w.waits in
    let all = sum_at (one_waiting F) d.managements w.place w.management w.is_management in
    omega (arith, here, all)

pub way_counts : (F : ManagementMessage → ℕ) (G : List ℕ → ℕ) → ((x : ManagementMessage) (text : List ℕ) → IsSduOf x text → G text ≡ F x) → (d : Dif) (text : List ℕ) → IsOnWay d text → (links : ℕ) × (G text ≤ all_waiting F d.managements + all_on_links G d links)
way_counts F G same d text (inl w) = (zero, (let counts = waits_counts F d text w in let weighs = same w.waiting.message text w.written in omega (arith, counts, weighs)))
way_counts F G same d text (inr l) = (suc l.link, (let counts = sum_has G (on_link d l.link l.side) text l.among in let all = link_has G d l.link l.side in omega (arith, counts, all)))

pub far_counts : (f : FlowName) (ends : List End) → HasFar ends f → 1 ≤ far_ends f ends
far_counts f ends far =
    let at = sum_at (λ (x : End). one (is_far f x.role x.flow)) ends far.place far.end far.stands in
    let here : one (is_far f far.end.role far.end.flow) ≡ 1 = (λ i. one (is_far f (far.is_far i) (far.same i))) ∙ ap one (is_its_own f) in
    omega (arith, at, here)

-- So

no_far : (d : Dif) (lines : List Direction) (below : Seen) (m : FlowMessage) (invoke : ℕ) (ask : FlowAsk) → Holds d lines below → AreAlone d → IsMessage d m → m.word ≡ words.Ask invoke ask → HasFar d.flows.journal.ends ask.flow → ⊥
no_far d lines below m invoke ask h alone is word far =
    let f : FlowName = ask.flow in
    let asks_it : text_asks f is.text ≡ true = flow_text f m is.text is.is.spelled ∙ ap (word_asks f) word ∙ same_bytes f in
    let way = way_counts (λ x. one (asks f x)) (λ t. one (text_asks f t)) (text_weighs f) d is.text is.on_way in
    let counts = way.1 in
    let here : one (text_asks f is.text) ≡ 1 = ap one asks_it in
    let range = subst (λ (w : FlowWord). IsInRange (record { to = m.to; from = m.from; word = w })) word is.is.in_range in
    let name : IsName f = record { src = range.word.1.src; tick = range.word.1.tick; count = range.word.1.count } in
    let before = alone f way.0 name in
    let asker = one_asker f d.flows.journal.ends h.standing.journal.distinct in
    let fars = far_counts f d.flows.journal.ends far in
    omega (arith, counts, here, before, asker, fars)

pub asks_find : AsksFind
asks_find d lines below m invoke ask h asked alone is word = askers_found d m invoke ask asked is word (no_far d lines below m invoke ask h alone is word)

pub asks_are_counted : AsksAreCounted
asks_are_counted f = ((λ to from invoke ask is its. (bytes_are f ask.flow is its, λ same. subst (λ (g : FlowName). bytes_eq (name_text g) (name_text f) ≡ true) (sym same) (same_bytes f))), text_same f)
