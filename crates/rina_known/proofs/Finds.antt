-- The application that a member finds is one of the names that are known.
use Rattle.std.proofs.Common.{◌≡◌, ◌∙◌, inl, ℕ, ◌-◌, ◌^◌, List, Contains, Option, Some, None, option_and_then, refl, sym, ap, subst, arith}
use Rattle.std.proofs.lemmas.Option.{none-some, same_Some}
use Rattle.std.specs.Fmt.{decimal}
use Rattle.rina_base.specs.Decimals.{number_of}
use Rattle.rina_base.proofs.Decimals.{decimal_back}
use Rattle.rina_newest.specs.declared.item.Item.{Item}
use Rattle.rina_newest.specs.Newest.{kept_at}
use Rattle.rina_dir.specs.Directory.{found, key_of}
use Rattle.rina_dir.proofs.Apart.{keys_apart}
use Rattle.rina_flood.proofs.All.{found_key}
use Rattle.rina_flood.proofs.Raise.{found_in}
use Rattle.rina_known.specs.Calls.{AsksFindNames, KnowsFindNames, RequestsFindNames}
use Rattle.rina_known.specs.Entries.{IsEntryOf, Name}

-- the item in which an address is found
pub record IsFound (items : List Item) (app : List ℕ) (address : ℕ) : Type 0 where
  pub item : Item
  pub kept : kept_at items (key_of app) ≡ Some item
  pub value : List ℕ
  pub live : item.value ≡ Some value
  pub number : number_of value ≡ Some address

by_value : (items : List Item) (app : List ℕ) (address : ℕ) (item : Item) (o : Option (List ℕ)) → kept_at items (key_of app) ≡ Some item → item.value ≡ o → option_and_then number_of o ≡ Some address → IsFound items app address
by_value items app address item None kept live is = absurd (none-some address is)
by_value items app address item (Some value) kept live is = record { item = item; kept = kept; value = value; live = live; number = is }

by_kept : (items : List Item) (app : List ℕ) (address : ℕ) (o : Option Item) → kept_at items (key_of app) ≡ o → option_and_then number_of (option_and_then (λ (x : Item). x.value) o) ≡ Some address → IsFound items app address
by_kept items app address None kept is = absurd (none-some address is)
by_kept items app address (Some item) kept is = by_value items app address item item.value kept refl is

pub is_found : (items : List Item) (app : List ℕ) (address : ℕ) → found items app ≡ Some address → IsFound items app address
unfolding found
is_found items app address is = by_kept items app address (kept_at items (key_of app)) refl is

-- names of one application and one address are one
one_name : (names : List Name) (name : Name) (app : List ℕ) (address : ℕ) → name.app ≡ app → name.address ≡ address → Contains names name → Contains names (record { app = app; address = address })
one_name names name app address same_app same_address has =
    let same : name ≡ record { app = app; address = address } = (λ i. record { app = same_app i; address = same_address i }) in
    subst (λ (z : Name). Contains names z) same has

pub knows_find : KnowsFindNames
knows_find names d node app address proper is known k =
    let f = is_found k.management.agent.items app address k.finds in
    let key : f.item.key ≡ key_of app = found_key k.management.agent.items (key_of app) f.item f.kept in
    let r = known f.item (inl (record { place = k.place; management = k.management; is_management = k.is_management; among = found_in k.management.agent.items (key_of app) f.item f.kept })) f.value (app, key) f.live in
    let its = proper r.0 r.1 in
    let entry : IsEntryOf r.0 f.item = r.2 in
    let same_app : r.0.app ≡ app = keys_apart r.0.app app its.app is (sym entry.key ∙ key) in
    let text : f.value ≡ decimal r.0.address = same_Some f.value (decimal r.0.address) (sym f.live ∙ entry.value) in
    let fits = its.address in
    let back : number_of (decimal r.0.address) ≡ Some r.0.address = decimal_back (2 ^ 32 - 1) r.0.address (omega (arith, fits)) (omega (arith, fits)) in
    let same_address : r.0.address ≡ address = same_Some r.0.address address (sym back ∙ ap number_of (sym text) ∙ f.number) in
    one_name names r.0 app address same_app same_address r.1

pub asks_find : AsksFindNames
asks_find names d d' lines below ask port proper is known asks = knows_find names d ask.node ask.to asks.1.peer proper is known asks.1.known

pub requests_find : RequestsFindNames
requests_find names d d' ask port proper is known requests =
    let wanted = requests.wanted in
    knows_find names d ask.node ask.to requests.flow.far proper is known (record { place = requests.flow.near.place; here = wanted.here; management = wanted.management; is_management = wanted.is_management; finds = wanted.finds })
