-- When there is no more on its way in a DIF than before, and when far ends are no more against the askers' ends.
use Rattle.std.proofs.Common.{◌≡◌, ◌∙◌, ℕ, ◌+◌, ◌≤◌, List, [], ◌∷◌, ◌++◌, length, sum_by, sym, ap, arith}
use Rattle.std.proofs.lemmas.List.Sums.{sum_by-cons}
use Rattle.rina_base.specs.declared.number.FlowName.{FlowName}
use Rattle.rina_alloc.specs.declared.message.FlowMessage.{FlowMessage}
use Rattle.rina_agent.specs.declared.message.ManagementMessage.{ManagementMessage}
use Rattle.rina_agent.specs.declared.message.ManagementMessage.TheVariants.{ToMember}
use Rattle.rina_iface.specs.declared.ends.End.{End}
use Rattle.rina_iface.specs.declared.state.Role.{Role}
use Rattle.rina_iface.specs.declared.state.Role.TheVariants.{Asker, Far}
use Rattle.rina_iface.specs.Later.{AreLater}
use Rattle.rina_member.specs.Managements.{IsSduOf}
use Rattle.rina_dif.specs.declared.dif.Dif.{Dif}
use Rattle.rina_asked.specs.Alone.{AreAlone, all_on_links, all_waiting, askers, asks, far_ends, is_asker, is_far, one, text_asks}
use Rattle.rina_asked.proofs.Counting.{sum_more, sum_same}
use Rattle.rina_asked.proofs.Links.{NoMoreOnLinks}
use Rattle.rina_asked.proofs.Waiting.{Adds, IsOther}
use Rattle.rina_asked.proofs.Weights.{other_weighs, text_weighs}

-- Messages

-- of what is an ask, however a message is counted, and a text as its message
abbrev pub FewerOnWay : Dif → Dif → Type 0
FewerOnWay d d' = (F : ManagementMessage → ℕ) (G : List ℕ → ℕ) → ((x : ManagementMessage) → IsOther x → F x ≡ 0) → ((x : ManagementMessage) (text : List ℕ) → IsSduOf x text → G text ≡ F x)
    → (links : ℕ) → all_waiting F d'.managements + all_on_links G d' links ≤ all_waiting F d.managements + all_on_links G d links

pub fewer_both : (d d' : Dif) → Adds IsOther d.managements d'.managements → NoMoreOnLinks d d' → FewerOnWay d d'
fewer_both d d' adds more F G other same links = (let a = adds.fewer F other in let l = more.fewer G links in omega (arith, a, l))

-- so it is with messages about flows that are in hand, wherever they were on the links before
abbrev pub FewerWith : Dif → Dif → List FlowMessage → Type 0
FewerWith d d' ms = (F : ManagementMessage → ℕ) (G : List ℕ → ℕ) → ((x : ManagementMessage) → IsOther x → F x ≡ 0) → ((x : ManagementMessage) (text : List ℕ) → IsSduOf x text → G text ≡ F x)
    → (links : ℕ) → (before : ℕ) × (all_waiting F d'.managements + all_on_links G d' links + sum_by (λ (m : FlowMessage). F (ToMember m)) ms ≤ all_waiting F d.managements + all_on_links G d before)

-- none is in hand
pub fewer_none : (d d' : Dif) → FewerOnWay d d' → FewerWith d d' []
fewer_none d d' fewer F G other same links = (links, (let way = fewer F G other same links in omega (arith, way)))

-- Ends

abbrev pub Balanced : List End → List End → Type 0
Balanced old new = (f : FlowName) → far_ends f new + askers f old ≤ askers f new + far_ends f old

abbrev far_weighs : FlowName → End → ℕ
far_weighs f e = one (is_far f e.role e.flow)

abbrev asker_weighs : FlowName → End → ℕ
asker_weighs f e = one (is_asker f e.role e.flow)

pub balanced_same : (old new : List End) → new ≡ old → Balanced old new
balanced_same old new same f = (let far = ap (far_ends f) same in let asker = ap (askers f) same in omega (arith, far, asker))

pub balanced_later : (before now : ℕ) (old new : List End) → AreLater before now old new → length new ≡ length old → Balanced old new
balanced_later before now old new later long f =
    let far = sum_same (far_weighs f) old new long (λ i e is. (let n = later i e is in (n.0, n.1, λ k. one (is_far f (n.2.role k) (n.2.flow k))))) in
    let asker = sum_same (asker_weighs f) old new long (λ i e is. (let n = later i e is in (n.0, n.1, λ k. one (is_asker f (n.2.role k) (n.2.flow k))))) in
    omega (arith, far, asker)

-- one end more
pub one_end : (F : End → ℕ) (old new : List End) (e : End) → new ≡ old ++ e ∷ [] → sum_by F new ≡ sum_by F old + F e
one_end F old new e is = (let path = ap (sum_by F) is in let whole = sum_more F old (e ∷ []) in let last = sum_by-cons F e [] in omega (arith, path, whole, last))

two_ends : (F : End → ℕ) (old new : List End) (a b : End) → new ≡ old ++ a ∷ b ∷ [] → sum_by F new ≡ sum_by F old + F a + F b
two_ends F old new a b is = (let path = ap (sum_by F) is in let whole = sum_more F old (a ∷ b ∷ []) in let first = sum_by-cons F a (b ∷ []) in let last = sum_by-cons F b [] in omega (arith, path, whole, first, last))

-- both ends of a flow
pub balanced_pair : (old new : List End) (a b : End) → new ≡ old ++ a ∷ b ∷ [] → a.role ≡ Asker → b.role ≡ Far → b.flow ≡ a.flow → Balanced old new
balanced_pair old new a b is asker far same f =
    let fars = two_ends (far_weighs f) old new a b is in
    let its = two_ends (asker_weighs f) old new a b is in
    let none_a : far_weighs f a ≡ 0 = ap (λ (r : Role). one (is_far f r a.flow)) asker in
    let none_b : asker_weighs f b ≡ 0 = ap (λ (r : Role). one (is_asker f r b.flow)) far in
    let both : far_weighs f b ≡ asker_weighs f a = (λ k. one (is_far f (far k) (same k))) ∙ sym (ap (λ (r : Role). one (is_asker f r a.flow)) asker) in
    omega (arith, fars, its, none_a, none_b, both)

-- So

pub alone_by : (d d' : Dif) → FewerOnWay d d' → Balanced d.flows.journal.ends d'.flows.journal.ends → AreAlone d → AreAlone d'
alone_by d d' fewer ends alone f links is =
    let before = alone f links is in
    let way = fewer (λ x. one (asks f x)) (λ t. one (text_asks f t)) (other_weighs f) (text_weighs f) links in
    let balance = ends f in
    omega (arith, before, way, balance)
