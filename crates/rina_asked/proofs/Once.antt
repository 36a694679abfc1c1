-- One message at most of each ask is on its way, and a member drew its invoke id.
use Rattle.std.proofs.Common.{◌≡◌, ◌∙◌, inl, inr, ⊎_elim, ℕ, zero, suc, ◌^◌, ◌<◌, ◌≤◌, ◌==◌, ◌&&◌, Bool, true, false, List, [], ◌∷◌, leb, length, slice_get, Some, refl, sym, ap, arith}
use Rattle.std.proofs.lemmas.Bool.{and_from, cases_Bool, eq-eqb, le-leb, true≢false}
use Rattle.std.proofs.lemmas.Bool.Decides.{eqb_tells, leb_tells}
use Rattle.std.proofs.lemmas.List.Sums.{sum_by-cons}
use Rattle.std.proofs.lemmas.Option.{slice_get_within}
use Rattle.rina_data.specs.declared.settings.Member.{Member}
use Rattle.rina_data.proofs.Finding.{there}
use Rattle.rina_flood.proofs.Static.{address_is, same_place}
use Rattle.rina_iface.specs.Seen.{Seen}
use Rattle.rina_law.specs.Direction.{Direction}
use Rattle.rina_member.specs.declared.management.Management.{Management}
use Rattle.rina_dif.specs.declared.dif.Dif.{Dif}
use Rattle.rina_dif.specs.Holding.{Holds}
use Rattle.rina_dif.proofs.Leaves.{has_process}
use Rattle.rina_asked.specs.Alone.{one}
use Rattle.rina_asked.specs.Calls.{MessagesAreCounted, MessagesAreSingle}
use Rattle.rina_asked.specs.Single.{AreSingle, AskId, belongs, drawn_by, has_drawn, text_belongs}
use Rattle.rina_asked.proofs.Belonging.{id_is, is_its_id, other_weighs, text_same, text_weighs}
use Rattle.rina_asked.proofs.Counting.{sum_each, sum_rises}
use Rattle.rina_asked.proofs.Drawn.{KeepIds, KeepsIds}
use Rattle.rina_asked.proofs.Quiet.{Lasts}

-- Which members drew it

pub drawn_true : (k : AskId) (m : Management) → has_drawn k m ≡ true → (m.agent.address ≡ k.addr) × (k.invoke ≤ m.agent.last_invoke)
drawn_true k m is = elim (eqb_tells m.agent.address k.addr) [
  | inl t ↦ elim (leb_tells k.invoke m.agent.last_invoke) [
    | inl s ↦ (t.1, s.1)
    | inr u ↦ absurd (true≢false (sym is ∙ ap (λ (b : Bool). (m.agent.address == k.addr) && b) u.0 ∙ ap (λ (b : Bool). b && false) t.0))
  ]
  | inr u ↦ absurd (true≢false (sym is ∙ ap (λ (b : Bool). b && leb k.invoke m.agent.last_invoke) u.0))
]

pub drawn_from : (k : AskId) (m : Management) → m.agent.address ≡ k.addr → k.invoke ≤ m.agent.last_invoke → has_drawn k m ≡ true
drawn_from k m address le = and_from (m.agent.address == k.addr) (leb k.invoke m.agent.last_invoke) (eq-eqb m.agent.address k.addr address) (le-leb k.invoke m.agent.last_invoke le)

pub drawn_on : (k : AskId) (m m' : Management) → k.invoke < 2 ^ 32 → KeepsIds m.agent m'.agent → one (has_drawn k m) ≤ one (has_drawn k m')
drawn_on k m m' small keeps = ⊎_elim
    (λ yes.
    (let was = drawn_true k m yes in
    let old : one (has_drawn k m) ≡ 1 = ap one yes in
    let new : one (has_drawn k m') ≡ 1 = ap one (drawn_from k m' (keeps.address ∙ was.0) (keeps.drawn k.invoke small was.1)) in
    omega (arith, old, new)))
    (λ no. (let old : one (has_drawn k m) ≡ 0 = ap one no in omega (arith, old)))
    (cases_Bool (has_drawn k m))

-- they are no fewer
pub drawn_more : (k : AskId) (old new : List Management) → k.invoke < 2 ^ 32 → KeepIds old new → drawn_by k old ≤ drawn_by k new
drawn_more k old new small keep = sum_rises (λ (m : Management). one (has_drawn k m)) old new (λ i m is. (let x = keep.each i m is in (x.0, x.1, drawn_on k m x.0 small x.2)))

-- no two members have one address
abbrev AreApart : List Management → Type 0
AreApart ms = (i j : ℕ) (a b : Management) → slice_get ms i ≡ Some a → slice_get ms j ≡ Some b → a.agent.address ≡ b.agent.address → i ≡ j

next_same : (i k : ℕ) → suc i ≡ suc k → i ≡ k
next_same i k same = omega (arith, same)

never_next : (k : ℕ) → ◌≡◌ {A = ℕ} zero (suc k) → ⊥
never_next k same = omega (arith, same)

one_drew : (k : AskId) (ms : List Management) → AreApart ms → drawn_by k ms ≤ 1
one_drew k [] apart = omega arith
one_drew k (m ∷ ms) apart =
    let whole = sum_by-cons (λ (x : Management). one (has_drawn k x)) m ms in
    let rest = one_drew k ms (λ i j a b x y same. next_same i j (apart (suc i) (suc j) a b x y same)) in
    ⊎_elim
    (λ yes.
    (let here : one (has_drawn k m) ≡ 1 = ap one yes in
    let mine = drawn_true k m yes in
    let none = sum_each (λ (x : Management). one (has_drawn k x)) ms (λ j x is. ⊎_elim
    (λ its. (let other = drawn_true k x its in absurd (never_next j (apart zero (suc j) m x refl is (mine.0 ∙ sym other.0)))))
    (λ no. ap one no) (cases_Bool (has_drawn k x))) in
    omega (arith, whole, here, none)))
    (λ no. (let here : one (has_drawn k m) ≡ 0 = ap one no in omega (arith, whole, here, rest)))
    (cases_Bool (has_drawn k m))

module _ (d : Dif) (lines : List Direction) (below : Seen) (h : Holds d lines below) where
  -- the management of a member has its address
  pub its_address : (i : ℕ) (m : Member) (g : Management) → slice_get d.settings.members i ≡ Some m → slice_get d.managements i ≡ Some g → g.agent.address ≡ m.addr
  its_address i m g is_member is =
      let process = has_process d below i (lines, h) (slice_get_within d.settings.members i m is_member) in
      (h.managed.each i m process.0 g is_member process.1 is).knows.address

  its_member : (i : ℕ) (g : Management) → slice_get d.managements i ≡ Some g → i < length d.settings.members
  its_member i g is = (let within = slice_get_within d.managements i g is in let aligned = h.managed.aligned in omega (arith, within, aligned))

  pub members_apart : AreApart d.managements
  members_apart i j a b is its same =
      let m = there d.settings.members i (its_member i a is) in
      let n = there d.settings.members j (its_member j b its) in
      same_place d.settings.members h.managed.laid_out.addresses i j (its_member i a is) (its_member j b its)
      (address_is d.settings.members i m.0 m.1 ∙ sym (its_address i m.0 a m.1 is) ∙ same ∙ its_address j n.0 b n.1 its ∙ sym (address_is d.settings.members j n.0 n.1))

-- So

pub messages_are_single : MessagesAreSingle
messages_are_single d lines below h single k links is = (let before = single k links is in let drew = one_drew k d.managements (members_apart d lines below h) in omega (arith, before, drew))

pub messages_are_counted : MessagesAreCounted
messages_are_counted k is = (
  (λ to from invoke ask small fits. (id_is k invoke from is small fits, λ its. is_its_id k invoke from its.0 its.1)),
  (λ to from invoke answer small fits. (id_is k invoke to is small fits, λ its. is_its_id k invoke to its.0 its.1)),
  text_same k,
)

-- What keeps it

pub single_lasts : Lasts AreSingle
single_lasts d d' q single k links is =
    let before = single k links is in
    let way = q.fewer (λ x. one (belongs k x)) (λ t. one (text_belongs k t)) (other_weighs k) (text_weighs k) links in
    let ids = drawn_more k d.managements d'.managements is.invoke q.adds.ids in
    omega (arith, before, way, ids)
