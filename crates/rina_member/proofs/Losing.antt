-- What a member knows once it lost a link.
use Rattle.std.proofs.Common.{◌≡◌, ◌∙◌, ℕ, Bool, true, false, cond, List, Option, Some, None, Result, Ok, Err, Contains, slice_get, slice_set, refl, sym, ap, subst}
use Rattle.std.specs.Prelude.{find}
use Rattle.rina_route.specs.declared.link.Link.{Link as Hop}
use Rattle.rina_agent.specs.declared.agent.Agent.{Agent}
use Rattle.rina_agent.specs.declared.link.Link.{Link as Managed}
use Rattle.rina_agent.specs.declared.state.AgentError.{AgentError}
use Rattle.rina_agent.specs.declared.state.MemberState.{MemberState}
use Rattle.rina_agent.specs.declared.state.MemberState.TheVariants.{Enrolled}
use Rattle.rina_agent.specs.Agenda.{without_at}
use Rattle.rina_agent.specs.Counts.{spent, unless}
use Rattle.rina_agent.specs.Enrolments.{is_numbered, place_of}
use Rattle.rina_agent.specs.Items.{stated}
use Rattle.rina_agent.specs.Rows.{dropped, lost, lost_state, was_up}
use Rattle.rina_data.specs.declared.link.Link.{Link}
use Rattle.rina_data.specs.declared.settings.Member.{Member}
use Rattle.rina_member.specs.Knowing.{ClaimLinks, KeepsOtherClaims, Knows, live_numbers, managed_numbers}
use Rattle.rina_member.specs.Short.{IsLinkInRange}
use Rattle.rina_member.proofs.Holding.{IsHolding, stated_holding, stated_others, stated_own}
use Rattle.rina_member.proofs.Removing.{Apart, down_hops, gone, is_same, left_hops, left_numbers, live_apart, lost_numbers, still_apart}
use Rattle.rina_member.proofs.Tells.{from_without}

-- what it holds apart from the claims of its own links
pub holding_of : (now : ℕ) (m : Member) (links : List Link) (g : Agent) → Knows now m links g → IsHolding m.addr now g
holding_of now m links g h = record { address = h.address; fits = h.fits; ranges = h.ranges; keys = h.keys; past = h.past }

module _ (now : ℕ) (m : Member) (links : List Link) (g : Agent) (k : ℕ) (link : Link) (h : Knows now m links g) (stands : slice_get links k ≡ Some link) (alive : link.live ≡ true) where
  abbrev links' : List Link
  links' = slice_set links k (record link { live = false })

  abbrev left : List Managed
  left = without_at (place_of link.number g.links) g.links

  numbers_left : managed_numbers left ≡ live_numbers links'
  numbers_left = left_numbers link.number g.links ∙ ap (λ (ns : List ℕ). gone (is_same link.number) ns) h.numbers ∙ sym (lost_numbers links k link h.apart stands alive)

  ranges_left : (l : Managed) → Contains left l → IsLinkInRange l
  ranges_left l has = h.ranges l (from_without (place_of link.number g.links) g.links l has)

  -- A link over which no PDU could leave

  loses_none : was_up (find (is_numbered link.number) g.links) ≡ false → Knows now m links' (dropped g link.number)
  loses_none down = record {
    address = h.address;
    fits = h.fits;
    apart = still_apart links k link h.apart;
    numbers = numbers_left;
    ranges = ranges_left;
    own = subst (λ (hs : List Hop). ClaimLinks g.items m.addr hs) (sym (down_hops link.number g.links down)) h.own;
    keys = h.keys;
    past = h.past;
  }

  -- A link that was up

  loses_one : spent 1 g.last_count ≡ None → Knows now m links' (dropped (stated (Some link.number) g now) link.number)
  loses_one may =
      let holds = holding_of now m links g h in
      let after = stated_holding m.addr now g (Some link.number) holds may in
      let apart = subst (λ (ns : List ℕ). Apart ns) (sym h.numbers) (live_apart links h.apart) in
      record {
        address = after.address;
        fits = after.fits;
        apart = still_apart links k link h.apart;
        numbers = numbers_left;
        ranges = ranges_left;
        own = subst (λ (hs : List Hop). ClaimLinks (stated (Some link.number) g now).items m.addr hs) (sym (left_hops link.number g.links apart)) (stated_own m.addr now g (Some link.number) holds may);
        keys = after.keys;
        past = after.past;
      }

  abbrev Loses : Agent → Type 0
  Loses g' = Knows now m links' g' × KeepsOtherClaims m.addr g.items g'.items

  abbrev LosesOr : Result Agent AgentError → Type 0
  LosesOr (Ok g') = Loses g'
  LosesOr (Err e) = Unit {0}

  lost_one : (o : Option AgentError) → spent 1 g.last_count ≡ o → LosesOr (unless o (dropped (stated (Some link.number) g now) link.number))
  lost_one None may = (loses_one may, stated_others m.addr now g (Some link.number) (holding_of now m links g h) may)
  lost_one (Some e) may = tt

  lost_by : (b : Bool) → was_up (find (is_numbered link.number) g.links) ≡ b → LosesOr (cond b (unless (spent 1 g.last_count) (dropped (stated (Some link.number) g now) link.number)) (Ok (dropped g link.number)))
  lost_by true up = lost_one (spent 1 g.last_count) refl
  lost_by false down = (loses_none down, (λ e apart. ((λ has. has), (λ has. has))))

  pub loses : (g' : Agent) → lost g now link.number ≡ Ok g' → Loses g'
  loses g' is = subst LosesOr is (lost_by (was_up (find (is_numbered link.number) g.links)) refl)

-- It stays enrolled

abbrev EnrolledOr : Result Agent AgentError → Type 0
EnrolledOr (Ok g) = g.state ≡ Enrolled
EnrolledOr (Err e) = Unit {0}

unless_enrolled : (o : Option AgentError) (g : Agent) → g.state ≡ Enrolled → EnrolledOr (unless o g)
unless_enrolled None g h = h
unless_enrolled (Some e) g h = tt

still_enrolled : (link : ℕ) (state : MemberState) → state ≡ Enrolled → lost_state link state ≡ Enrolled
still_enrolled link state is = ap (λ (s : MemberState). lost_state link s) is

lost_enrolled : (b : Bool) (o : Option AgentError) (g : Agent) (now link : ℕ) → g.state ≡ Enrolled → EnrolledOr (cond b (unless o (dropped (stated (Some link) g now) link)) (Ok (dropped g link)))
lost_enrolled true o g now link is = unless_enrolled o (dropped (stated (Some link) g now) link) (still_enrolled link g.state is)
lost_enrolled false o g now link is = still_enrolled link g.state is

pub loses_enrolled : (now number : ℕ) (g g' : Agent) → lost g now number ≡ Ok g' → g.state ≡ Enrolled → g'.state ≡ Enrolled
loses_enrolled now number g g' lost is = subst EnrolledOr lost (lost_enrolled _ (spent 1 g.last_count) g now number is)
