-- The calls of a DIF that make entries: a name is registered, or taken back, and a flow is fixed.
use Rattle.std.proofs.Common.{◌≡◌, ◌∙◌, inl, inr, ℕ, ◌^◌, ◌<◌, List, Contains, length, map, slice_get, Option, Some, None, option_and_then, option_map, Result, Ok, Err, refl, sym, ap, subst, arith}
use Rattle.std.proofs.lemmas.Option.{none-some, same_Some, slice_get_within}
use Rattle.rina_base.specs.declared.number.Port.{Port}
use Rattle.rina_newest.specs.declared.item.Item.{Item}
use Rattle.rina_dir.specs.Directory.{key_of}
use Rattle.rina_agent.specs.Items.{own_item}
use Rattle.rina_data.specs.declared.settings.Member.{Member}
use Rattle.rina_data.proofs.Finding.{there}
use Rattle.rina_iface.specs.declared.ask.Fixed.{Fixed}
use Rattle.rina_iface.specs.declared.error.AllocateError.{AllocateError}
use Rattle.rina_iface.specs.declared.error.AllocateError.TheVariants as allocate
use Rattle.rina_iface.specs.declared.error.RegisterError.{RegisterError}
use Rattle.rina_iface.specs.declared.error.RegisterError.TheVariants as register
use Rattle.rina_iface.specs.declared.error.UnregisterError.{UnregisterError}
use Rattle.rina_iface.specs.declared.error.UnregisterError.TheVariants as unregister
use Rattle.rina_iface.specs.Seen.{Seen}
use Rattle.rina_law.specs.Direction.{Direction}
use Rattle.rina_route.proofs.Lists.{head, tail}
use Rattle.rina_member.specs.declared.management.Management.{Management}
use Rattle.rina_member.specs.Managements.{entered, entry_of}
use Rattle.rina_dif.specs.declared.dif.Dif.{Dif}
use Rattle.rina_dif.specs.Binding.{BindsTo}
use Rattle.rina_dif.specs.Changing.{BindsManaged, ManagesBind, with_flow_at}
use Rattle.rina_dif.specs.Elsewhere.{home_of}
use Rattle.rina_dif.specs.Holding.{Holds}
use Rattle.rina_dif.specs.Registering.{MakesEntryAt, RegistersManaged, UnregistersManaged, no_value, own_address}
use Rattle.rina_dif.specs.Whole.{IsDif}
use Rattle.rina_dif.proofs.Leaves.{has_process}
use Rattle.rina_asked.specs.Calls.{UnregisterKeeps}
use Rattle.rina_asked.proofs.Allocates.{here_home}
use Rattle.rina_asked.proofs.Keeps.{alive, stays}
use Rattle.rina_known.specs.Calls.{BindAdds, RegisterAdds, address_at, name_before}
use Rattle.rina_known.specs.Entries.{AllAre, IsEntryOf, IsKnown, Name}
use Rattle.rina_known.proofs.Agents.{IsGood, OwnAre, made_good}
use Rattle.rina_known.proofs.Calls.{all_good}
use Rattle.rina_known.proofs.Keeping.{more_known, moves, own_known, same_way}
use Rattle.rina_known.proofs.Managements.{good_entered, good_same, good_set, good_shown}

-- One name more

wider : (app : List ℕ) (o : Option ℕ) (names : List Name) (name : Name) → Contains names name → Contains (name_before app o names) name
wider app None names name has = has
wider app (Some address) names name has = tail (record { app = app; address = address }) names name has

-- the address of the member at a place, at a node
home_address : (d : Dif) (node i address : ℕ) (m : Member) → home_of d node ≡ Some i → slice_get d.settings.members i ≡ Some m → m.addr ≡ address → address_at d node ≡ Some address
home_address d node i address m home is same =
    ap (λ (o : Option ℕ). option_map (λ (z : Member). z.addr) (option_and_then (slice_get d.settings.members) o)) home ∙ ap (option_map (λ (z : Member). z.addr)) is ∙ ap (λ (a : ℕ). Some a) same

-- it fits in 32 bits
pub address_fits : (d : Dif) (node address : ℕ) → IsDif d → address_at d node ≡ Some address → address < 2 ^ 32
address_fits d node address is h = at_place (home_of d node) h
  where
    of_member : (i : ℕ) (o : Option Member) → slice_get d.settings.members i ≡ o → option_map (λ (m : Member). m.addr) o ≡ Some address → address < 2 ^ 32
    of_member i None at given = absurd (none-some address given)
    of_member i (Some m) at given =
        let managed = is.stands.1.managed in
        let within = slice_get_within d.settings.members i m at in
        let aligned = managed.aligned in
        let management = there d.managements i (omega (arith, within, aligned)) in
        let process = has_process d is.below i is.stands within in
        let one = managed.each i m process.0 management.0 at process.1 management.1 in
        subst (λ (a : ℕ). a < 2 ^ 32) (same_Some m.addr address given) one.knows.fits

    at_place : (o : Option ℕ) → option_map (λ (m : Member). m.addr) (option_and_then (slice_get d.settings.members) o) ≡ Some address → address < 2 ^ 32
    at_place None given = absurd (none-some address given)
    at_place (Some i) given = of_member i (slice_get d.settings.members i) refl given

-- the entry of an application at the member of a node, where there is one, is such
abbrev pub EntryIs : (Item → Type 0) → Dif → ℕ → List ℕ → Type 0
EntryIs G d node app = (address : ℕ) (item : Item) → address_at d node ≡ Some address → IsEntryOf (record { app = app; address = address }) item → G item

-- so is one that is made now
abbrev pub NewIs : (Item → Type 0) → Dif → ℕ → List ℕ → Type 0
NewIs G d node app = (address : ℕ) (item : Item) → address_at d node ≡ Some address → IsEntryOf (record { app = app; address = address }) item → item.version.tick ≡ d.clock → G item

module _ (G : Item → Type 0) (own : OwnAre G) where
  -- A member makes an entry

  makes_good : (d : Dif) (node : ℕ) (app : List ℕ) (value : Management → Option (List ℕ)) (new : List Management) (e : MakesEntryAt d node app value new) → G (own_item e.management.agent d.clock (key_of app) (value e.management)) → all_good G own d.managements → all_good G own new
  makes_good d node app value new e entry good =
      subst (all_good G own) (sym e.are) (good_set G own d.managements e.i e.management e.after e.is_management (λ g.
      subst (IsGood G) (sym e.makes.makes) (made_good G own None e.management.agent d.clock (key_of app) (value e.management) entry g)) good)

  -- with its own address
  own_entry : (d : Dif) (node : ℕ) (app : List ℕ) (new : List Management) → IsDif d → (e : MakesEntryAt d node app own_address new) → NewIs G d node app → G (own_item e.management.agent d.clock (key_of app) (own_address e.management))
  own_entry d node app new is e entry =
      let managed = is.stands.1.managed in
      let within = slice_get_within d.managements e.i e.management e.is_management in
      let aligned = managed.aligned in
      let lt : e.i < length d.settings.members = omega (arith, within, aligned) in
      let member = there d.settings.members e.i lt in
      let process = has_process d is.below e.i is.stands lt in
      let one = managed.each e.i member.0 process.0 e.management member.1 process.1 e.is_management in
      let address = home_address d node e.i e.management.agent.address member.0 (here_home d node e.i e.at_home) member.1 (sym one.knows.address) in
      entry e.management.agent.address (own_item e.management.agent d.clock (key_of app) (own_address e.management)) address (record { key = refl; value = refl }) refl

  registers_good : (result : Result (Unit {0}) RegisterError) (d : Dif) (node : ℕ) (app : List ℕ) (new : List Management) → IsDif d → RegistersManaged result d node app new → NewIs G d node app → all_good G own d.managements → all_good G own new
  registers_good (Ok done) d node app new is r entry = makes_good d node app own_address new r (own_entry d node app new is r entry)
  registers_good (Err e) d node app new is r entry = good_same G own d.managements new r

  pub register_all : (d d' : Dif) (node : ℕ) (app : List ℕ) (result : Result (Unit {0}) RegisterError) → IsDif d → RegistersManaged result d node app d'.managements → d'.connections ≡ d.connections → NewIs G d node app → AllAre G d → AllAre G d'
  register_all d d' node app result is manages connections entry = moves G own d d' (registers_good result d node app d'.managements is manages entry) (same_way d d' connections)

  -- A name is taken back: an item without a value is no entry

  unregisters_good : ((item : Item) → item.value ≡ None → G item) → (result : Result (Unit {0}) UnregisterError) (d : Dif) (node : ℕ) (app : List ℕ) (new : List Management) → UnregistersManaged result d node app new → all_good G own d.managements → all_good G own new
  unregisters_good none (Ok done) d node app new (inl r) = makes_good d node app no_value new r (none (own_item r.management.agent d.clock (key_of app) None) refl)
  unregisters_good none (Ok done) d node app new (inr r) = good_same G own d.managements new r.1
  unregisters_good none (Err e) d node app new r = good_same G own d.managements new r

  pub unregister_keeps : ((item : Item) → item.value ≡ None → G item) → UnregisterKeeps (AllAre G)
  unregister_keeps none d d' node app result manages whole notes = stays (AllAre G) d d' result (Err unregister.Memory) notes (λ some.
      moves G own d d' (unregisters_good none result d node app d'.managements manages) (same_way d d' (ap (λ (z : Dif). z.connections) whole)))

  -- A flow is fixed

  fixes_good : (d : Dif) (fixed : Fixed) (new : List Management) → ManagesBind d fixed new → EntryIs G d fixed.b fixed.b_app → all_good G own d.managements → all_good G own new
  fixes_good d fixed new m entry good =
      let all : List Management = map (entered fixed.b_app m.far.addr) d.managements in
      let its : G (entry_of fixed.b_app m.far.addr) = entry m.far.addr (entry_of fixed.b_app m.far.addr) (home_address d fixed.b m.b m.far.addr m.far m.at_b m.is_far refl) (record { key = refl; value = refl }) in
      subst (all_good G own) (sym m.are) (good_shown G own m.b m.dcep (with_flow_at m.a m.scep all) (good_shown G own m.a m.scep all (good_entered G own fixed.b_app m.far.addr d.managements its good)))

  binds_good : (result : Result (Port × Port) AllocateError) (d : Dif) (fixed : Fixed) (new : List Management) (lines : List Direction) (below : Seen) (d' : Dif) → (result ≡ Err allocate.Memory → ⊥) → BindsTo d lines below fixed result d' → BindsManaged result d fixed new → EntryIs G d fixed.b fixed.b_app → all_good G own d.managements → all_good G own new
  binds_good (Ok ports) d fixed new lines below d' some b m entry = fixes_good d fixed new m entry
  binds_good (Err allocate.Memory) d fixed new lines below d' some b m entry = absurd (some refl)
  binds_good (Err allocate.NoMember) d fixed new lines below d' some b m entry = absurd b
  binds_good (Err allocate.NoCube) d fixed new lines below d' some b m entry = absurd b
  binds_good (Err allocate.NoSuchApp) d fixed new lines below d' some b m entry = absurd b
  binds_good (Err allocate.SameSystem) d fixed new lines below d' some b m entry = absurd b
  binds_good (Err (allocate.NoIds used)) d fixed new lines below d' some b m entry = absurd b
  binds_good (Err (allocate.NoRoute dst)) d fixed new lines below d' some b m entry = absurd b
  binds_good (Err (allocate.Busy port)) d fixed new lines below d' some b m entry = absurd b
  binds_good (Err (allocate.CountSpent need left)) d fixed new lines below d' some b m entry = absurd b

  bind_all : (d d' : Dif) (fixed : Fixed) (result : Result (Port × Port) AllocateError) → IsDif d → ((lines : List Direction) (below : Seen) → Holds d lines below → BindsTo d lines below fixed result d') → BindsManaged result d fixed d'.managements → d'.connections ≡ d.connections → (result ≡ Err allocate.Memory → ⊥) → EntryIs G d fixed.b fixed.b_app → AllAre G d → AllAre G d'
  bind_all d d' fixed result is does manages connections some entry =
      moves G own d d' (binds_good result d fixed d'.managements is.stands.0 is.below d' some (does is.stands.0 is.below is.stands.1) manages entry) (same_way d d' connections)

-- Among names

-- the entry of the new one is known
entry_known : (names : List Name) (d : Dif) (node : ℕ) (app : List ℕ) → EntryIs (IsKnown (name_before app (address_at d node) names)) d node app
entry_known names d node app address item is entry text key live =
    let name : Name = record { app = app; address = address } in
    (name, subst (λ (o : Option ℕ). Contains (name_before app o names) name) (sym is) (head name names), entry)

pub none_known : (names : List Name) (item : Item) → item.value ≡ None → IsKnown names item
none_known names item none text key live = absurd (none-some text (sym none ∙ live))

pub register_adds : RegisterAdds
register_adds names d d' node app result is manages whole notes known still =
    let more : List Name = name_before app (address_at d node) names in
    let a = alive d d' result (Err register.Memory) notes still in
    register_all (IsKnown more) (own_known more) d d' node app result is manages (ap (λ (z : Dif). z.connections) whole) (λ address item at entry now. entry_known names d node app address item at entry) (more_known names more d (wider app (address_at d node) names) (known a.0))

pub bind_adds : BindAdds
bind_adds names d d' fixed result is does manages whole notes known still =
    let more : List Name = name_before fixed.b_app (address_at d fixed.b) names in
    let a = alive d d' result (Err allocate.Memory) notes still in
    bind_all (IsKnown more) (own_known more) d d' fixed result is does manages (ap (λ (z : Dif). z.connections) whole) a.1 (entry_known names d fixed.b fixed.b_app) (more_known names more d (wider fixed.b_app (address_at d fixed.b) names) (known a.0))
