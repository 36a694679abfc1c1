-- The items of a member have the form of the directory.
use Rattle.std.proofs.Common.{◌≡◌, ◌∙◌, ⊎_elim, ℕ, ◌-◌, ◌^◌, List, Option, Some, None, is_some, get_or, length, take, sym, ap, arith}
use Rattle.std.specs.Prelude.{codes}
use Rattle.std.specs.Fmt.{decimal}
use Rattle.std.proofs.lemmas.Option.{none-some, same_Some}
use Rattle.rina_base.specs.Decimals.{number_of}
use Rattle.rina_base.proofs.Decimals.{decimal_back}
use Rattle.rina_newest.specs.declared.item.Item.{Item}
use Rattle.rina_enrol.specs.Items.{IsEntry as IsTold, IsLinkState, IsMember, IsText}
use Rattle.rina_dir.specs.Directory.{AreEntries, IsEntry, key_of}
use Rattle.rina_agent.specs.declared.agent.Agent.{Agent}
use Rattle.rina_member.specs.Short.{TellsShort}
use Rattle.rina_member.proofs.Tells.{key_short, key_shown}

-- a link state and a member item are no entries
state_form : (item : Item) → IsLinkState item → IsEntry item
state_form item h value live folder = absurd (none (sym (ap (λ (key : List ℕ). take 5 key) h.key) ∙ folder))
  where
    none : codes "/link" ≡ codes "/dir/" → ⊥
    none is = (let second : ◌≡◌ {A = ℕ} 108 100 = ap (λ (key : List ℕ). get_or key 1 0) is in omega (arith, second))

member_form : (item : Item) → IsMember item → IsEntry item
member_form item h value live folder = absurd (none (sym (ap (λ (key : List ℕ). take 5 key) h.key) ∙ folder))
  where
    none : codes "/memb" ≡ codes "/dir/" → ⊥
    none is = (let second : ◌≡◌ {A = ℕ} 109 100 = ap (λ (key : List ℕ). get_or key 1 0) is in omega (arith, second))

-- the value of a live item is its text
live_text : (o : Option (List ℕ)) (value text : List ℕ) → o ≡ Some value → IsText o text → value ≡ text
live_text None value text live is = absurd (none-some value live)
live_text (Some v) value text live is = sym (same_Some v value live) ∙ is

entry_form : (item : Item) → IsTold item → IsEntry item
entry_form item h value live folder =
    let small = h.small in
    let long = key_short h.app h.name in
    let size : length item.key ≡ length (key_of h.app) = ap length (h.key ∙ sym (key_shown h.app)) in
    let text : value ≡ decimal h.address = live_text item.value value (decimal h.address) live h.value in
    let number : number_of value ≡ Some h.address = ap number_of text ∙ decimal_back (2 ^ 32 - 1) h.address (omega (arith, small)) (omega (arith, small)) in
    (omega (arith, long, size), ap is_some number)

pub items_entries : (g : Agent) → TellsShort g → AreEntries g.items
items_entries g h item has = ⊎_elim
    (λ state. state_form item state)
    (λ others. ⊎_elim (λ member. member_form item member) (λ entry. entry_form item entry) others)
    (h.items item has).1
