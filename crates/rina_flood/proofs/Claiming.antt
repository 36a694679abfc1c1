-- Where all is quiet on a walk of links, the items of the members at its ends claim the same edges.
use Rattle.std.proofs.Common.{◌≡◌, ℕ, Bool, true, false, not, List, [], ◌∷◌, ◌++◌, Contains, Some, refl, sym, ◌∙◌, ap, subst, inl, inr, arith}
use Rattle.std.proofs.lemmas.Bool.{cases_Bool, false≢true}
use Rattle.std.proofs.lemmas.List.Elements.{Contains-push_cases}
use Rattle.std.proofs.lemmas.Option.{slice_get_within}
use Rattle.rina_graph.specs.declared.graph.Edge.{Edge}
use Rattle.rina_newest.specs.declared.item.Item.{Item}
use Rattle.rina_newest.specs.Newest.{has_key, is_newer, kept_at, taken, taken_all, without}
use Rattle.rina_route.specs.Routes.{claims_of}
use Rattle.rina_route.proofs.Lists.{contains_filter, in_none}
use Rattle.rina_agent.specs.declared.agent.Agent.{Agent}
use Rattle.rina_data.specs.declared.settings.Member.{Member}
use Rattle.rina_data.proofs.Finding.{there}
use Rattle.rina_member.specs.Knowing.{all_claims}
use Rattle.rina_member.specs.Start.{start_items}
use Rattle.rina_member.proofs.Items.{taken_new}
use Rattle.rina_member.proofs.Lists.{found, from_flat, into_flat}
use Rattle.rina_flood.specs.Members.{QuietMembersClaim}
use Rattle.rina_flood.proofs.All.{run_holds}
use Rattle.rina_agent.proofs.Taking.{taken_same}
use Rattle.rina_flood.proofs.Flow.{key_itself, key_same, kept_new, kept_other}
use Rattle.rina_flood.proofs.Members.{net}
use Rattle.rina_flood.proofs.Quiet.{quiet_agree}
use Rattle.rina_flood.proofs.Settles.{Greatest}

-- each item is the one that is kept under its key
abbrev IsOneEach : List Item → Type 0
IsOneEach items = (z : Item) → Contains items z → kept_at items z.key ≡ Some z

apart_key : (b : Bool) → not b ≡ true → b ≡ false
apart_key true is = absurd (false≢true is)
apart_key false is = refl

one_put : (items : List Item) (x z : Item) → is_newer x.version (kept_at items x.key) ≡ true → IsOneEach items → Contains (without x.key items ++ x ∷ []) z → kept_at (taken items x) z.key ≡ Some z
one_put items x z newer one has = elim (Contains-push_cases (without x.key items) x z has) [
  | inl old ↦
      (let r = contains_filter (λ (i : Item). not (has_key x.key i)) items z old in
      let other : has_key z.key x ≡ false = elim (cases_Bool (has_key z.key x)) [
        | inl same ↦ absurd (false≢true (sym (apart_key (has_key x.key z) r.1) ∙ key_itself x.key z.key (sym (key_same z.key x.key same))))
        | inr apart ↦ apart
      ] in
      kept_other z.key x items other ∙ one z r.0)
  | inr same ↦ subst (λ (y : Item). kept_at (taken items x) y.key ≡ Some y) same (kept_new x.key x items (key_itself x.key x.key refl) newer)
]

one_taken : (items : List Item) (x : Item) → IsOneEach items → IsOneEach (taken items x)
one_taken items x one z has = elim (cases_Bool (is_newer x.version (kept_at items x.key))) [
  | inl newer ↦ one_put items x z newer one (subst (λ (is : List Item). Contains is z) (taken_new items x newer) has)
  | inr older ↦
      (let same = taken_same items x older in
      ap (λ (is : List Item). kept_at is z.key) same ∙ one z (subst (λ (is : List Item). Contains is z) same has))
]

one_all : (items new : List Item) → IsOneEach items → IsOneEach (taken_all items new)
one_all items [] one = one
one_all items (x ∷ new) one = one_all (taken items x) new (one_taken items x one)

-- what one list claims the other claims, where both keep the same
claims_too : (xs ys : List Item) → IsOneEach xs → ((key : List ℕ) → kept_at xs key ≡ kept_at ys key) → (e : Edge) → Contains (all_claims xs) e → Contains (all_claims ys) e
claims_too xs ys one same e has =
    let r = from_flat claims_of xs e has in
    let kept : kept_at ys r.0.key ≡ Some r.0 = sym (same r.0.key) ∙ one r.0 r.1 in
    into_flat claims_of ys r.0 e (found (has_key r.0.key) ys r.0 kept).0 r.2

pub quiet_claims : Greatest → QuietMembersClaim
quiet_claims greatest is_static plans s i j steps a b r path is_a is_b =
    let aligned = r.is.aligned in
    let near_within = slice_get_within s.agents i a is_a in
    let near = there s.members i (omega (arith, aligned, near_within)) in
    let agree = (quiet_agree greatest is_static plans s i j steps near.0 a b r path near.1 is_a is_b).0 in
    let far_within = slice_get_within s.agents j b is_b in
    let far = there s.members j (omega (arith, aligned, far_within)) in
    let holds = run_holds r.start (start_items is_static s.members plans) r.rows r.starts r.run in
    let one : (m : Member) (c : Agent) → (net is_static plans s r).agents m.addr ≡ c → IsOneEach c.items = λ m c is.
    subst (λ (items : List Item). IsOneEach items) (sym (holds.noted.knows m.addr) ∙ ap (λ (x : Agent). x.items) is) (one_all [] ((net is_static plans s r).offered m.addr) (λ z none. absurd (in_none z none))) in
    λ e. (
      claims_too a.items b.items (one near.0 a (r.is.agents i near.0 a near.1 is_a)) agree e,
      claims_too b.items a.items (one far.0 b (r.is.agents j far.0 b far.1 is_b)) (λ key. sym (agree key)) e,
    )
