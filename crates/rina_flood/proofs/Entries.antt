-- What is made where only the rows of a DIF happen.
use Rattle.std.proofs.Common.{◌≡◌, ℕ, ◌⊎◌, Bool, true, false, cond, nat_eq, List, ◌∷◌, ◌++◌, Contains, None, Some, refl, ◌≤◌, arith, sym, ◌∙◌, ap, subst, inl, inr, []}
use Rattle.std.specs.Prelude.{codes, find}
use Rattle.std.specs.Fmt.{decimal}
use Rattle.std.specs.List.{starts_with}
use Rattle.std.proofs.lemmas.Bool.{false≢true}
use Rattle.std.proofs.lemmas.List.{append-nil}
use Rattle.std.proofs.lemmas.List.Elements.{Contains-push_cases}
use Rattle.rina_enrol.specs.declared.message.LinkMessage.{LinkMessage}
use Rattle.rina_enrol.specs.declared.message.LinkMessage.TheVariants as messages
use Rattle.rina_newest.specs.declared.item.Item.{Item}
use Rattle.rina_newest.specs.Newest.{item_of}
use Rattle.rina_dir.specs.Directory.{key_of}
use Rattle.rina_agent.specs.declared.message.ManagementMessage.{ManagementMessage}
use Rattle.rina_agent.specs.declared.message.ManagementMessage.TheVariants.{ToNeighbour, ToMember}
use Rattle.rina_agent.specs.Enrolments.{is_numbered}
use Rattle.rina_agent.specs.Counts.{next_of}
use Rattle.rina_agent.specs.Items.{own_item, stated}
use Rattle.rina_agent.specs.Neighbours.{link_key, link_state, member_key}
use Rattle.rina_agent.specs.Rows.{was_up}
use Rattle.rina_plan.specs.declared.dif.LinkPlan.{LinkPlan}
use Rattle.rina_data.specs.declared.settings.Member.{Member}
use Rattle.rina_member.specs.Knowing.{IsEntryKey}
use Rattle.rina_member.specs.Managements.{entry_of}
use Rattle.rina_member.specs.Start.{first_version, start_items}
use Rattle.rina_member.proofs.Items.{entry_not_link}
use Rattle.rina_flood.specs.Network.{Side, other, Network, item_in, last_state, put_sent, Row, Make, Put, Draw, Take, Handle, Lose, Leave, Drop, Know, Pass, Enrol, Claim, happens, IsRun, after_rows, IsStart}
use Rattle.rina_flood.specs.Laws.{LeavesLinkState, AllLeaveLinkState}
use Rattle.rina_flood.specs.Static.{IsFirstEntry, IsOfDif, AreOfDif}
use Rattle.rina_flood.proofs.All.{near_keeps, row_holds, begin_holds}
use Rattle.rina_flood.proofs.Holds.{Holds}
use Rattle.rina_flood.proofs.Keeping.{IsKept}
use Rattle.rina_member.proofs.Starting.{start_of}

-- The rows leave links and link states

leaves : (address : ℕ) (row : Row) → IsOfDif row → LeavesLinkState address row
leaves address (Make i key value) of = λ e. entry_not_link of.0.0 address (sym of.0.1 ∙ e)
leaves address (Put i number m) of = tt
leaves address (Draw i) of = tt
leaves address (Take link side number m) of = tt
leaves address (Handle link side number m rest) of = tt
leaves address (Lose link side number) of = tt
leaves address (Leave link side number) of = tt
leaves address (Drop link side left) of = tt
leaves address (Enrol link side number i j member node) of = tt
leaves address (Claim link side number) of = tt
leaves address (Know x) of = λ e. entry_not_link of.0 address (sym (ap (λ (y : Item). y.key) of.2) ∙ e)
leaves address Pass of = tt

pub rows_leave : (rows : List Row) (address : ℕ) → AreOfDif rows → AllLeaveLinkState address rows
rows_leave [] address of = tt
rows_leave (row ∷ rows) address of = (leaves address row of.0, rows_leave rows address of.1)

-- What is made

-- a directory entry that a member made
abbrev pub IsMadeEntry : Item → Type 0
IsMadeEntry x = IsEntryKey x.key × (1 ≤ x.version.count)

-- a directory entry from the start, one that a member made, a member item or a link state
abbrev pub IsKnown : Item → Type 0
IsKnown x = IsFirstEntry x ⊎ (IsMadeEntry x ⊎ ((address : ℕ) × ((x.key ≡ member_key address) ⊎ (x.key ≡ link_key address))))

pub none_more : (made : List Item) (x : Item) → Contains (made ++ []) x → Contains made x
none_more made x e = (let P : List Item → Type 0 = λ items. Contains items x in subst P (append-nil made) e)

-- so is all that is made in an enrolment
known_kept : IsKept (λ n. (x : Item) → Contains n.made x → IsKnown x)
known_kept = record {
  quiet = λ n i b q known x e. known x (none_more n.made x e);
  introduces = λ n i fits may known x e. elim (Contains-push_cases n.made (own_item (n.agents i) n.now (member_key (n.agents i).address) (Some (n.agents i).node)) x e) [
    | inl old ↦ known x old
    | inr is ↦ inr (inr ((n.agents i).address, inl (sym (ap (λ (y : Item). y.key) is))))
  ];
  raises = λ n i k a batch fits r may known x e. elim (Contains-push_cases n.made (last_state (stated None a n.now) n.now) x e) [
    | inl old ↦ known x old
    | inr is ↦ inr (inr (a.address, inr (sym (ap (λ (y : Item). y.key) is))))
  ];
}

near_known : (n : Network) (link : ℕ) (side : Side) (number : ℕ) (m : LinkMessage) (rest : List ManagementMessage) → Holds n → item_in m ≡ [] → ((x : Item) → Contains n.made x → IsKnown x) → (x : Item) → Contains (happens n (Handle link side number (ToNeighbour m) rest)).made x → IsKnown x
near_known n link side number m rest h empty known = near_keeps (λ n. (x : Item) → Contains n.made x → IsKnown x) known_kept (record n { sent = put_sent link side rest n.sent }) (n.ends link (other side)) number m empty (h.laid.fit link (other side)) known

handle_known : (n : Network) (link : ℕ) (side : Side) (number : ℕ) (m : LinkMessage) (rest : List ManagementMessage) → Holds n → ((x : Item) → Contains n.made x → IsKnown x) → (x : Item) → Contains (happens n (Handle link side number (ToNeighbour m) rest)).made x → IsKnown x
handle_known n link side number (messages.Connect invoke joiner member) rest h known = near_known n link side number (messages.Connect invoke joiner member) rest h refl known
handle_known n link side number (messages.ConnectR invoke denied) rest h known = near_known n link side number (messages.ConnectR invoke denied) rest h refl known
handle_known n link side number (messages.Start invoke address) rest h known = near_known n link side number (messages.Start invoke address) rest h refl known
handle_known n link side number (messages.StartR invoke) rest h known = near_known n link side number (messages.StartR invoke) rest h refl known
handle_known n link side number (messages.Item y) rest h known = λ x e. known x (none_more n.made x e)
handle_known n link side number (messages.Stop invoke) rest h known = near_known n link side number (messages.Stop invoke) rest h refl known
handle_known n link side number (messages.StopR invoke) rest h known = near_known n link side number (messages.StopR invoke) rest h refl known
handle_known n link side number (messages.Flood y) rest h known = λ x e. known x (none_more n.made x e)

abbrev pub state_of_loss : Network → ℕ → ℕ → Item
state_of_loss n i k = own_item (n.agents i) n.now (link_key (n.agents i).address) (Some (link_state (Some k) (n.agents i).links))

lost_made : (n : Network) (i k : ℕ) (up : Bool) (x : Item) → Contains (n.made ++ cond up (state_of_loss n i k ∷ []) []) x → Contains n.made x ⊎ IsKnown x
lost_made n i k true x e = elim (Contains-push_cases n.made (state_of_loss n i k) x e) [
  | inl old ↦ inl old
  | inr is ↦ inr (inr (inr ((n.agents i).address, inr (sym (ap (λ (y : Item). y.key) is)))))
]
lost_made n i k false x e = inl (none_more n.made x e)

next_some : (last : ℕ) → 1 ≤ next_of last
next_some last = grind arith

row_made : (n : Network) (row : Row) → Holds n → IsOfDif row → ((x : Item) → Contains n.made x → IsKnown x) → (x : Item) → Contains (happens n row).made x → IsKnown x
row_made n (Make i key value) h of known x e = elim (Contains-push_cases n.made (own_item (n.agents i) n.now key value) x e) [
  | inl old ↦ known x old
  | inr is ↦ inr (inl ((of.0.0, sym (ap (λ (y : Item). y.key) is) ∙ of.0.1), subst (λ (c : ℕ). 1 ≤ c) (ap (λ (y : Item). y.version.count) is) (next_some (n.agents i).last_count)))
]
row_made n (Put i number m) h of known x e = known x e
row_made n (Draw i) h of known x e = known x e
row_made n (Take link side number m) h of known x e = known x (none_more n.made x e)
row_made n (Handle link side number (ToNeighbour m) rest) h of known x e = handle_known n link side number m rest h known x e
row_made n (Handle link side number (ToMember m) rest) h of known x e = known x e
row_made n (Lose link side number) h of known x e = elim (lost_made n (n.ends link side) number (was_up (find (is_numbered number) (n.agents (n.ends link side)).links)) x e) [ inl old ↦ known x old | inr is ↦ is ]
row_made n (Leave link side number) h of known x e = known x e
row_made n (Drop link side left) h of known x e = known x e
row_made n (Enrol link side number i j member node) h of known x e = known x (none_more n.made x e)
row_made n (Claim link side number) h of known x e = known x (none_more n.made x e)
row_made n (Know y) h of known x e = elim (Contains-push_cases n.made y x e) [
  | inl old ↦ known x old
  | inr is ↦ inl (of.0, of.1, sym is ∙ of.2, of.3)
]
row_made n Pass h of known x e = known x e

rows_made : (n : Network) (rows : List Row) → Holds n → IsRun n rows → AreOfDif rows → ((x : Item) → Contains n.made x → IsKnown x) → (x : Item) → Contains (after_rows n rows).made x → IsKnown x
rows_made n [] h run of known x e = known x e
rows_made n (row ∷ rows) h run of known x e = rows_made (happens n row) rows (row_holds n row h run.0) run.1 of.1 (row_made n row h of.0 known) x e

start_known : (is_static : Bool) (members : List Member) (plans : List LinkPlan) (x : Item) → Contains (start_items is_static members plans) x → IsKnown x
start_known is_static members plans x e = (let r = start_of is_static members plans x e in elim r.2 [
  | inl is ↦ inr (inr (r.0.addr, inl (sym (ap (λ (y : Item). y.key) is))))
  | inr is ↦ inr (inr (r.0.addr, inr (sym (ap (λ (y : Item). y.key) is))))
])

entry_not_member : (app : List ℕ) (address : ℕ) → key_of app ≡ member_key address → ⊥
unfolding key_of
entry_not_member app address e = false≢true (ap (λ (k : List ℕ). starts_with nat_eq k (codes "/member/")) e)

known_entry : (x : Item) (app : List ℕ) (address : ℕ) → IsKnown x → x.key ≡ key_of app → x.version ≡ first_version address → x ≡ entry_of app address
known_entry x app address (inl entry) k v =
    let is = entry.2 in
    let same : key_of entry.0 ≡ key_of app = sym (ap (λ (y : Item). y.key) is) ∙ k in
    let place : entry.1 ≡ address = sym (ap (λ (y : Item). y.version.origin) is) ∙ ap (λ w. w.origin) v in
    is ∙ ap (λ (q : List ℕ). item_of q (first_version entry.1) (Some (decimal entry.1))) same ∙ ap (λ (a : ℕ). item_of (key_of app) (first_version a) (Some (decimal a))) place
known_entry x app address (inr (inl made)) k v = (let none = ap (λ w. w.count) v in let some = made.1 in absurd (omega (arith, none, some)))
known_entry x app address (inr (inr other)) k v = elim other.1 [
  | inl is ↦ absurd (entry_not_member app other.0 (sym k ∙ is))
  | inr is ↦ absurd (entry_not_link app other.0 (sym k ∙ is))
]

pub entries_are_one : (is_static : Bool) (n : Network) (members : List Member) (plans : List LinkPlan) (rows : List Row) (x : Item) (app : List ℕ) (address : ℕ) → IsStart n (start_items is_static members plans) → IsRun n rows → AreOfDif rows
    → Contains (after_rows n rows).made x → x.key ≡ key_of app → x.version ≡ first_version address → x ≡ entry_of app address
entries_are_one is_static n members plans rows x app address s run of e k v =
    let told = start_items is_static members plans in
    let P : Item → List Item → Type 0 = λ y items. Contains items y in
    known_entry x app address (rows_made n rows (begin_holds n told s) run of (λ y has. start_known is_static members plans y (subst (P y) s.made has)) x e) k v
