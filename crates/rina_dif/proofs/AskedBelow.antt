-- What an ask for a flow below, from one member of a DIF to another, is to the DIF: it holds on over the rank below, and the new flow may be a link.
use Rattle.std.proofs.Common.{◌≡◌, ◌∙◌, ◌⊎◌, ℕ, ◌≤◌, List, [], length, slice_get, Option, Some, None, option_map, refl, sym, ap, subst, arith, inl, inr}
use Rattle.rina_base.specs.declared.number.FlowName.{FlowName}
use Rattle.rina_base.specs.declared.number.Port.{Port}
use Rattle.rina_channel.specs.declared.channel.Attachment.{Attachment}
use Rattle.rina_channel.specs.Making.{IsAskedBelow, IsNewFlow}
use Rattle.rina_channel.proofs.Asking.{asked_flows_are_new}
use Rattle.rina_data.specs.Configs.{Config, config_of}
use Rattle.rina_dif_law.specs.Cloud.{IsMine}
use Rattle.rina_dif_law.specs.Lifting.{IsLifted}
use Rattle.rina_dif_law.specs.Standing.{IsInside, IsLinked}
use Rattle.rina_dif_law.proofs.Pairs.{first_at, two_at}
use Rattle.rina_iface.specs.declared.ask.Ask.{Ask}
use Rattle.rina_iface.specs.declared.ends.End.{End}
use Rattle.rina_iface.specs.declared.state.PortState.{PortState}
use Rattle.rina_iface.specs.declared.state.PortState.TheVariants as states
use Rattle.rina_iface.specs.Allocate.{IsAsked, Makes, asker_end, far_end, next_port}
use Rattle.rina_iface.specs.Journal.{AreKept, At}
use Rattle.rina_iface.specs.Later.{IsLater}
use Rattle.rina_iface.specs.Seen.{Fac, Offer, Seen, Stands, cube_at, cube_in, end_of, largest_at}
use Rattle.rina_iface.proofs.Changed.{set_at, slice_get-set_same}
use Rattle.rina_iface.proofs.Found.{end_of_stands, found, its_port, stands_there}
use Rattle.rina_iface.proofs.Fresh.{asked_fits, fresh_port}
use Rattle.rina_iface.proofs.Grown.{last_at, pushed_at}
use Rattle.rina_law.specs.Direction.{Direction}
use Rattle.rina_dif.specs.declared.dif.Dif.{Dif}
use Rattle.rina_dif.specs.Claiming.{channels_of}
use Rattle.rina_dif.specs.Enrolling.{far_channel, near_channel}
use Rattle.rina_dif.specs.Facade.{OthersStand}
use Rattle.rina_dif.specs.Holding.{Holds}
use Rattle.rina_dif.specs.Shown.{seen_of}
use Rattle.rina_dif.proofs.FreedBelow.{holds_lifted}

same_some : {X : Type 0} (o : Option X) (a b : X) → o ≡ Some a → o ≡ Some b → a ≡ b
same_some o a b h g = cc

none_some : {X : Type 0} (o : Option X) (e : X) → o ≡ None → o ≡ Some e → ⊥
none_some o e h g = cc

none_of : {X : Type 0} (o : Option X) → ((e : X) → o ≡ Some e → ⊥) → o ≡ None
none_of None none = refl
none_of (Some e) none = absurd (none e refl)

-- the cube of an end that stands
cube_there : (s : Seen) (port : Port) (f : Fac) (i : ℕ) (e : End) → Stands s port f i e → cube_at s port ≡ cube_in f.cubes e.cube
cube_there s port f i e st = rw (st.facility, st.place, st.is) refl

-- The ends after the ask

-- an end that the ask made, of the asker's application or of the one that is asked for: nothing was sent or passed at it
record IsMadeOf (f : Fac) (ask : Ask) (cube : ℕ) (e : End) : Type 0 where
  port : (node : ℕ) × (e.port ≡ next_port f ask.fac node)
  sent : e.sent ≡ []
  taken : e.taken ≡ 0
  cube_is : e.cube ≡ cube
  apps : ((e.app ≡ ask.app) × (e.peer ≡ ask.to)) ⊎ ((e.app ≡ ask.to) × (e.peer ≡ ask.app))

module _ (f f' : Fac) (ask : Ask) (port : Port) (flow : FlowName) (cube : ℕ) (fresh : port ≡ next_port f ask.fac ask.node) where
  asker_made : (state : PortState) → IsMadeOf f ask cube (asker_end flow port ask cube state)
  asker_made state = record { port = (ask.node, fresh); sent = refl; taken = refl; cube_is = refl; apps = inl (refl, refl) }

  far_made : (node : ℕ) → IsMadeOf f ask cube (far_end flow (next_port f ask.fac node) ask cube)
  far_made node = record { port = (node, refl); sent = refl; taken = refl; cube_is = refl; apps = inr (refl, refl) }

  -- each end stood, or was made
  ends_made : (state : PortState) → Makes state f flow port ask cube f' → (i : ℕ) (e : End) → At f'.ends i e → At f.ends i e ⊎ IsMadeOf f ask cube e
  ends_made states.Pending is i e at = elim (pushed_at f.ends (asker_end flow port ask cube states.Pending) i e (ap (λ (z : Fac). slice_get z.ends i) (sym is) ∙ at)) [
    | inl old ↦ inl old
    | inr new ↦ inr (subst (IsMadeOf f ask cube) (sym new.1) (asker_made states.Pending))
  ]
  ends_made states.Allocated m i e at = elim (two_at f.ends (asker_end flow port ask cube states.Allocated) (far_end flow (next_port f ask.fac m.0) ask cube) i e (ap (λ (z : Fac). slice_get z.ends i) (sym m.1) ∙ at)) [
    | inl old ↦ inl old
    | inr (inl new) ↦ inr (subst (IsMadeOf f ask cube) (sym new.1) (asker_made states.Allocated))
    | inr (inr new) ↦ inr (subst (IsMadeOf f ask cube) (sym new.1) (far_made m.0))
  ]
  ends_made (states.Refused why) m i e at = absurd m
  ends_made (states.Failed why) m i e at = absurd m
  ends_made states.Closed m i e at = absurd m

  -- the asker's end is one of them
  asker_there : (state : PortState) → Makes state f flow port ask cube f' → At f'.ends (length f.ends) (asker_end flow port ask cube state)
  asker_there states.Pending is = ap (λ (z : Fac). slice_get z.ends (length f.ends)) is ∙ last_at f.ends (asker_end flow port ask cube states.Pending)
  asker_there states.Allocated m = ap (λ (z : Fac). slice_get z.ends (length f.ends)) m.1 ∙ first_at f.ends (asker_end flow port ask cube states.Allocated) (far_end flow (next_port f ask.fac m.0) ask cube)
  asker_there (states.Refused why) m = absurd m
  asker_there (states.Failed why) m = absurd m
  asker_there states.Closed m = absurd m

  same_cubes : (state : PortState) → Makes state f flow port ask cube f' → f'.cubes ≡ f.cubes
  same_cubes states.Pending is = ap (λ (z : Fac). z.cubes) is
  same_cubes states.Allocated m = ap (λ (z : Fac). z.cubes) m.1
  same_cubes (states.Refused why) m = absurd m
  same_cubes (states.Failed why) m = absurd m
  same_cubes states.Closed m = absurd m

-- The rank below after it

module _ (old new : Seen) (ask : Ask) (port : Port) (kept : AreKept old) (kept' : AreKept new) (later : IsLater old new) (a : IsAsked old ask port new) where
  fac_there : slice_get new.facs ask.fac ≡ Some a.facility'
  fac_there = ap (λ (z : Seen). slice_get z.facs ask.fac) a.new_is ∙ slice_get-set_same old.facs ask.fac a.facility a.facility' a.stands

  abbrev asker : End
  asker = asker_end a.flow port ask a.cube.id a.state

  -- the port is that of the asker's end
  pub asker_here : end_of new port ≡ Some asker
  asker_here = end_of_stands new port a.facility' (length a.facility.ends) asker (stands_there new ask.fac a.facility' (length a.facility.ends) asker fac_there (kept'.ports ask.fac a.facility' fac_there) (asker_there a.facility a.facility' ask port a.flow a.cube.id a.fresh a.state a.makes))

  -- and was no end's before
  never : (p : Port) (node : ℕ) → p ≡ next_port a.facility ask.fac node → (e : End) → end_of old p ≡ Some e → ⊥
  never p node is e here =
      let x = found old p e here in
      let fac : p.fac ≡ ask.fac = ap (λ (q : Port). q.fac) is in
      let same : x.facility ≡ a.facility = same_some (slice_get old.facs ask.fac) x.facility a.facility (ap (slice_get old.facs) (sym fac) ∙ x.stands.facility) a.stands in
      let at : At a.facility.ends x.place e = subst (λ (z : Fac). At z.ends x.place e) same x.stands.is in
      fresh_port ask.fac ask.fac node a.facility x.place e (kept.ports ask.fac a.facility a.stands) at (its_port old p x.facility x.place e x.stands ∙ is)

  -- each end was there, or was made now
  record IsMadeNow (p : Port) (e : End) : Type 0 where
    made : IsMadeOf a.facility ask a.cube.id e
    place : ℕ
    at : At a.facility'.ends place e
    own : e.port ≡ p

  came : (p : Port) (e : End) → end_of new p ≡ Some e → (end_of old p ≡ Some e) ⊎ IsMadeNow p e
  came p e here =
      let x = found new p e here in
      let own = its_port new p x.facility x.place e x.stands in
      elim (set_at old.facs ask.fac p.fac a.facility a.facility' x.facility a.stands (ap (λ (z : Seen). slice_get z.facs p.fac) (sym a.new_is) ∙ x.stands.facility)) [
        | inl t ↦
            let at : At a.facility'.ends x.place e = subst (λ (z : Fac). At z.ends x.place e) t.1 x.stands.is in
            elim (ends_made a.facility a.facility' ask port a.flow a.cube.id a.fresh a.state a.makes x.place e at) [
              | inl was ↦ inl (ap (end_of old) (sym own) ∙ end_of_stands old e.port a.facility x.place e (stands_there old ask.fac a.facility x.place e a.stands (kept.ports ask.fac a.facility a.stands) was))
              | inr made ↦ inr (record { made = made; place = x.place; at = at; own = own })
            ]
        | inr u ↦ inl (ap (end_of old) (sym own) ∙ end_of_stands old e.port x.facility x.place e (stands_there old p.fac x.facility x.place e u.1 (kept.ports p.fac x.facility u.1) x.stands.is))
      ]

  module _ (g : Config) (mine : IsMine g.members ask.app) (its_mine : IsMine g.members ask.to) (whole : g.pdu ≤ ask.want.size) where
    -- the flow runs inside the DIF
    inside : (p : Port) (e : End) → IsMadeNow p e → IsInside g new p e
    inside p e n =
        let there = stands_there new ask.fac a.facility' n.place e fac_there (kept'.ports ask.fac a.facility' fac_there) n.at in
        let cubes : cube_in a.facility'.cubes e.cube ≡ Some a.cube = ap (λ (cs : List Offer). cube_in cs e.cube) (same_cubes a.facility a.facility' ask port a.flow a.cube.id a.fresh a.state a.makes) ∙ ap (cube_in a.facility.cubes) n.made.cube_is ∙ a.by_id in
        let largest : largest_at new p ≡ Some a.cube.largest = ap (largest_at new) (sym n.own) ∙ ap (option_map (λ (c : Offer). c.largest)) (cube_there new e.port a.facility' n.place e there ∙ cubes) in
        let fits = asked_fits old ask port new a in
        let both : IsMine g.members e.app × IsMine g.members e.peer = elim (n.made.apps) [
          | inl s ↦ (subst (IsMine g.members) (sym s.0) mine, subst (IsMine g.members) (sym s.1) its_mine)
          | inr s ↦ (subst (IsMine g.members) (sym s.0) its_mine, subst (IsMine g.members) (sym s.1) mine)
        ] in
        record { app = both.0; peer = both.1; largest = a.cube.largest; is_largest = largest; whole = omega (arith, whole, fits) }

    -- no end of a member did anything, and the new ones have done nothing
    pub asked_lifted : IsLifted g old new
    asked_lifted = record {
      later = later;
      stays = λ p e e' here here' own. elim (came p e' here') [
        | inl was ↦ (let same : e' ≡ e = same_some (end_of old p) e' e was here in (ap (λ (z : End). z.sent) same, ap (λ (z : End). z.taken) same))
        | inr n ↦ absurd (never p n.made.port.0 (sym n.own ∙ n.made.port.1) e here)
      ];
      fresh = λ p e' here' none own. elim (came p e' here') [
        | inl was ↦ absurd (none_some (end_of old p) e' none was)
        | inr n ↦ (n.made.sent, inside p e' n)
      ];
      unread = λ p e' here' none own. elim (came p e' here') [
        | inl was ↦ absurd (none_some (end_of old p) e' none was)
        | inr n ↦ n.made.taken
      ];
    }

    pub asked_below : IsAskedBelow g old new port
    asked_below = record {
      end = asker;
      here = asker_here;
      asks = refl;
      mine = mine;
      fresh = none_of (end_of old port) (never port ask.node a.fresh);
    }

  -- to another DIF, whose members they are not, the new ends are nothing
  pub asked_beside : (g : Config) → (IsMine g.members ask.app → ⊥) → (IsMine g.members ask.to → ⊥) → IsLifted g old new
  asked_beside g none none_too = record {
    later = later;
    stays = λ p e e' here here' own. elim (came p e' here') [
      | inl was ↦ (let same : e' ≡ e = same_some (end_of old p) e' e was here in (ap (λ (z : End). z.sent) same, ap (λ (z : End). z.taken) same))
      | inr n ↦ absurd (never p n.made.port.0 (sym n.own ∙ n.made.port.1) e here)
    ];
    fresh = λ p e' here' fresh own. elim (came p e' here') [
      | inl was ↦ absurd (none_some (end_of old p) e' fresh was)
      | inr n ↦ absurd (elim (n.made.apps) [
        | inl s ↦ elim own [ inl app ↦ none (subst (IsMine g.members) s.0 app) | inr peer ↦ none_too (subst (IsMine g.members) s.1 peer) ]
        | inr s ↦ elim own [ inl app ↦ none_too (subst (IsMine g.members) s.0 app) | inr peer ↦ none (subst (IsMine g.members) s.1 peer) ]
      ])
    ];
    unread = λ p e' here' fresh own. elim (came p e' here') [
      | inl was ↦ absurd (none_some (end_of old p) e' fresh was)
      | inr n ↦ n.made.taken
    ];
  }

-- A DIF that asked

-- it holds on, and the flow may be a link of the member that asked for it
pub record MayTakeAsked (d : Dif) (lines : List Direction) (new : Seen) (i j number : ℕ) (name : List ℕ) (port : Port) : Type 0 where
  pub holds : Holds d lines new
  pub linked : IsLinked new name port
  pub flow : IsNewFlow (channels_of d) (seen_of d).processes new (near_channel (length d.connections.channels) i (record { number = number; port = port })) (far_channel (length d.connections.channels) j)

pub may_take_asked : (d : Dif) (lines : List Direction) (old new : Seen) (ask : Ask) (port : Port) (i j number : ℕ) → AreKept old → AreKept new → IsLater old new → (a : IsAsked old ask port new) → IsMine (config_of d.settings).members ask.app → IsMine (config_of d.settings).members ask.to → (config_of d.settings).pdu ≤ ask.want.size → Holds d lines old → MayTakeAsked d lines new i j number ask.app port
may_take_asked d lines old new ask port i j number kept kept' later a mine its_mine whole h =
    let g = config_of d.settings in
    let link : Attachment = record { number = number; port = port } in
    let lifted = asked_lifted old new ask port kept kept' later a g mine its_mine whole in
    let clock : new.now ≡ old.now = ap (λ (z : Seen). z.now) a.new_is in
    record {
      holds = holds_lifted d lines old new kept' lifted clock h;
      linked = record { end = asker old new ask port kept kept' later a; here = asker_here old new ask port kept kept' later a; app = refl };
      flow = asked_flows_are_new (channels_of d) h.connected.lines (seen_of d).processes old new (near_channel (length d.connections.channels) i link) (far_channel (length d.connections.channels) j) link kept kept' h.connected.standing lifted (asked_below old new ask port kept kept' later a g mine its_mine whole) refl refl;
    }

-- a DIF beside it holds on
pub asked_others : (d : Dif) (old new : Seen) (ask : Ask) (port : Port) → AreKept old → AreKept new → IsLater old new → IsAsked old ask port new → IsMine (config_of d.settings).members ask.app → IsMine (config_of d.settings).members ask.to → OthersStand d old new
asked_others d old new ask port kept kept' later a mine its_mine other lines apart h =
    let lifted = asked_beside old new ask port kept kept' later a (config_of other.settings) (λ its. apart ask.app mine its) (λ its. apart ask.to its_mine its) in
    holds_lifted other lines old new kept' lifted (ap (λ (z : Seen). z.now) a.new_is) h
