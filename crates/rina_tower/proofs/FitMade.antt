-- The DIFs of a rank are made one after the other.
use Rattle.std.proofs.Common.{◌≡◌, ◌≢◌, ◌∙◌, ℕ, zero, suc, ◌+◌, ◌-◌, ◌≤◌, ◌<◌, ◌==◌, cond, Bool, true, false, List, [], ◌∷◌, ◌++◌, length, length-append, map, slice_get, get_or, take, Option, option_and_then, Some, None, refl, sym, ap, subst, arith, inl, inr, ◌⊎◌}
use Rattle.std.specs.Prelude.{All, count_by, filter, flat_map}
use Rattle.std.specs.List.{range_with_len}
use Rattle.std.proofs.lemmas.Bool.Decides.{nat_tests}
use Rattle.std.proofs.lemmas.List.{append_assoc}
use Rattle.std.proofs.lemmas.List.Elements.{All-map, filter-append}
use Rattle.std.proofs.lemmas.List.Sums.{count_by_more_no, count_by_more_yes}
use Rattle.std.proofs.lemmas.List.Concat.{flat_map-cons}
use Rattle.std.proofs.lemmas.Option.{get_or_from_slice_get, same_Some}
use Rattle.rina_base.specs.declared.number.Port.{Port}
use Rattle.rina_iface.specs.declared.ask.Fixed.{Fixed}
use Rattle.rina_iface.specs.declared.ends.End.{End}
use Rattle.rina_iface.specs.Ends.{end_in}
use Rattle.rina_iface.specs.Journal.{AreKept}
use Rattle.rina_iface.specs.Seen.{Fac, Seen, end_of}
use Rattle.rina_plan.specs.declared.dif.DifPlan.{DifPlan}
use Rattle.rina_plan.specs.declared.dif.LinkPlan.{LinkPlan}
use Rattle.rina_plan.specs.declared.dif.Lower.TheVariants.{Dif as IsDif}
use Rattle.rina_plan.specs.Links.{rank_in, rank_of}
use Rattle.rina_plan.specs.Numbers.{number_in_rank}
use Rattle.rina_stack.specs.declared.plan.Plan.{Plan}
use Rattle.rina_dif_law.specs.Cloud.{IsMine}
use Rattle.rina_data.specs.declared.settings.Member.{Member as Kept}
use Rattle.rina_data.specs.declared.settings.Settings.{Settings}
use Rattle.rina_data.specs.Configs.{config_of}
use Rattle.rina_dif_law.specs.Others.{AreApart}
use Rattle.rina_data.proofs.Finding.{there}
use Rattle.rina_dif.specs.declared.dif.Dif.{Dif}
use Rattle.rina_dif.specs.Holding.{Stands}
use Rattle.rina_dif.specs.Laying.{CanBindAll, CanLay, IsLaid, IsNew, Lays, Takes}
use Rattle.rina_dif.specs.Planned.{link_fixed, links_in, links_of, settings_by, settings_in, settings_of}
use Rattle.rina_dif.specs.Shown.{seen_of as seen_of_dif}
use Rattle.rina_member.specs.Start.{first_enrolled}
use Rattle.rina_tower.specs.Bystanders.{IsIpc}
use Rattle.rina_tower.specs.Built.{AreMade, has_rank, places_in}
use Rattle.rina_tower.specs.Fits.{flows_at}
use Rattle.rina_tower.specs.Layout.{IsBefore, IsGround, IsLaying, links_from}
use Rattle.rina_tower.proofs.FitChains.{front_can, rest_can, stay_all, stay_refl, stay_trans}
use Rattle.rina_tower.proofs.FitLaid.{IsIpcOf, laid_alone, mine_of}
use Rattle.rina_tower.proofs.FitNames.{AreNamed, has_slash, one_name}
use Rattle.rina_tower.proofs.Ranking.{holds_beside}

-- Lists

pub record IsBehind {X : Type 0} (xs ys : List X) (k : ℕ) (x : X) : Type 0 where
  pub place : ℕ
  pub sum : k ≡ length xs + place
  pub stands : slice_get ys place ≡ Some x

pub in_two : {X : Type 0} (xs ys : List X) (k : ℕ) (x : X) → slice_get (xs ++ ys) k ≡ Some x → (slice_get xs k ≡ Some x) ⊎ IsBehind xs ys k x
in_two [] ys k x h = inr (record { place = k; sum = omega arith; stands = h })
in_two (y ∷ xs) ys zero x h = inl h
in_two (y ∷ xs) ys (suc k) x h = elim (in_two xs ys k x h) [
  | inl a ↦ inl a
  | inr b ↦ inr (record { place = b.place; sum = (let e = b.sum in omega (arith, e)); stands = b.stands })
]

-- the only one
pub in_last : {X : Type 0} (y : X) (k : ℕ) (x : X) → slice_get (y ∷ []) k ≡ Some x → (y ≡ x) × (k ≡ 0)
in_last y zero x h = (same_Some y x h, refl)
in_last y (suc k) x h = cc

in_one : (b : Bool) (n k i : ℕ) → slice_get (cond b (n ∷ []) []) k ≡ Some i → n ≡ i
in_one true n k i h = (in_last n k i h).0
in_one false n k i h = cc

pub append_nil : {X : Type 0} (xs : List X) → xs ++ [] ≡ xs
append_nil [] = refl
append_nil (x ∷ xs) = ap (λ (ys : List _). x ∷ ys) (append_nil xs)

-- Places

no_more : (a : ℕ) → a + 0 ≡ a
no_more a = omega arith

no_less : (n : ℕ) → 0 + n ≡ n
no_less n = omega arith

pub range_more : (a n : ℕ) → range_with_len a (n + 1) ≡ range_with_len a n ++ (a + n) ∷ []
range_more a zero = rw (no_more a) refl
range_more a (suc n) =
    let long : suc n + 1 ≡ suc (n + 1) = omega arith in
    ap (range_with_len a) long ∙ ap (λ (ks : List ℕ). a ∷ ks) (range_more (a + 1) n ∙ ap (λ (m : ℕ). range_with_len (a + 1) n ++ m ∷ []) (omega arith))

pub places_more : (plan : Plan) (r at : ℕ) → places_in plan r (at + 1) ≡ places_in plan r at ++ cond (has_rank plan r at) (at ∷ []) []
places_more plan r at =
    ap (filter (has_rank plan r)) (range_more 0 at) ∙ (filter-append (has_rank plan r) (range_with_len 0 at) ((0 + at) ∷ []) ∙ ap (λ (m : ℕ). places_in plan r at ++ cond (has_rank plan r m) (m ∷ []) []) (no_less at))

-- how many of the rank come before a place is the number of the DIF there
pub places_count : (plan : Plan) (r at : ℕ) → at ≤ length plan.difs → length (places_in plan r at) ≡ count_by (λ (d : DifPlan). d.rank == r) (take at plan.difs)
places_count plan r zero within = refl
places_count plan r (suc at) within =
    let e = there plan.difs at (omega (arith, within)) in
    let d : DifPlan = e.0 in
    let before : length (places_in plan r at) ≡ count_by (λ (x : DifPlan). x.rank == r) (take at plan.difs) = places_count plan r at (omega (arith, within)) in
    let lt : at < length plan.difs = omega (arith, within) in
    let is : get_or plan.difs at d ≡ d = get_or_from_slice_get plan.difs at d d e.1 in
    let its : has_rank plan r at ≡ (d.rank == r) = ap (λ (o : Option DifPlan). rank_in o == r) e.1 in
    let more : places_in plan r (at + 1) ≡ places_in plan r at ++ cond (has_rank plan r at) (at ∷ []) [] = places_more plan r at in
    let long : length (places_in plan r (at + 1)) ≡ length (places_in plan r at) + length (cond (has_rank plan r at) (at ∷ []) []) = ap length more ∙ length-append (places_in plan r at) (cond (has_rank plan r at) (at ∷ []) []) in
    let next : suc at ≡ at + 1 = omega arith in
    let goal : length (places_in plan r (at + 1)) ≡ count_by (λ (x : DifPlan). x.rank == r) (take (at + 1) plan.difs) = elim (d.rank == r) as (λ b. (d.rank == r) ≡ b → length (places_in plan r (at + 1)) ≡ count_by (λ (x : DifPlan). x.rank == r) (take (at + 1) plan.difs)) [
      | true ↦ λ h.
          let one : length (cond (has_rank plan r at) (at ∷ []) []) ≡ 1 = ap (λ (b : Bool). length (cond b (at ∷ []) [])) (its ∙ h) in
          let up = count_by_more_yes (λ (x : DifPlan). x.rank == r) plan.difs at d lt (ap (λ (x : DifPlan). x.rank == r) is ∙ h) in
          omega (arith, long, one, up, before)
      | false ↦ λ h.
          let none : length (cond (has_rank plan r at) (at ∷ []) []) ≡ 0 = ap (λ (b : Bool). length (cond b (at ∷ []) [])) (its ∙ h) in
          let same = count_by_more_no (λ (x : DifPlan). x.rank == r) plan.difs at d lt (ap (λ (x : DifPlan). x.rank == r) is ∙ h) in
          omega (arith, long, none, same, before)
    ] refl in
    subst (λ (m : ℕ). length (places_in plan r m) ≡ count_by (λ (x : DifPlan). x.rank == r) (take m plan.difs)) (sym next) goal

-- a place among them is before the end
pub place_in : (plan : Plan) (r n k i : ℕ) → slice_get (places_in plan r n) k ≡ Some i → i < n
place_in plan r zero k i h = cc
place_in plan r (suc n) k i h =
    let next : suc n ≡ n + 1 = omega arith in
    let at : slice_get (places_in plan r n ++ cond (has_rank plan r n) (n ∷ []) []) k ≡ Some i = ap (λ (xs : List ℕ). slice_get xs k) (sym (places_more plan r n)) ∙ subst (λ (m : ℕ). slice_get (places_in plan r m) k ≡ Some i) next h in
    elim (in_two (places_in plan r n) (cond (has_rank plan r n) (n ∷ []) []) k i at) [
      | inl old ↦ (let b = place_in plan r n k i old in omega (arith, b))
      | inr new ↦ (let e = in_one (has_rank plan r n) n new.place i new.stands in omega (arith, e))
    ]

-- Links

links_next : (plan : Plan) (r at : ℕ) → at < length plan.difs → links_from plan r at ≡ cond (has_rank plan r at) (links_of plan at) [] ++ links_from plan r (at + 1)
links_next plan r at within =
    let n : ℕ = length plan.difs - (at + 1) in
    let long : length plan.difs - at ≡ suc n = omega (arith, within) in
    ap (λ (m : ℕ). flat_map (λ i. cond (has_rank plan r i) (links_of plan i) []) (range_with_len at m)) long ∙ flat_map-cons (λ i. cond (has_rank plan r i) (links_of plan i) []) at (range_with_len (at + 1) n)

-- Settings

-- settings of the plan are those of its DIF
pub record HasPlan (plan : Plan) (i : ℕ) (s : Settings) : Type 0 where
  pub dif : DifPlan
  pub at : slice_get plan.difs i ≡ Some dif
  pub is : s ≡ settings_by plan i dif

planned_in : (plan : Plan) (i : ℕ) (s : Settings) (o : Option DifPlan) → slice_get plan.difs i ≡ o → settings_in plan i o ≡ Some s → HasPlan plan i s
planned_in plan i s None at h = cc
planned_in plan i s (Some d) at h = record { dif = d; at = at; is = sym (same_Some (settings_by plan i d) s h) }

pub planned : (plan : Plan) (i : ℕ) (s : Settings) → settings_of plan i ≡ Some s → HasPlan plan i s
planned plan i s h = planned_in plan i s (slice_get plan.difs i) refl h

mine_planned : (plan : Plan) (i : ℕ) (s : Settings) (p : HasPlan plan i s) (name : List ℕ) → IsMine (config_of s).members name → IsIpcOf plan p.dif name
mine_planned plan i s p name h = mine_of plan i p.dif name (subst (λ (t : Settings). IsMine (config_of t).members name) p.is h)

-- two DIFs have no IPC process in common
no_common : (plan : Plan) → AreNamed plan → (i k : ℕ) (d e : DifPlan) (name : List ℕ) → slice_get plan.difs i ≡ Some d → slice_get plan.difs k ≡ Some e → i ≢ k → IsIpcOf plan d name → IsIpcOf plan e name → ⊥
no_common plan named i k d e name at_d at_e apart a b = named.differ i k d e at_d at_e apart (one_name plan d e a.node b.node (named.named i d at_d) (named.named k e at_e) (sym a.is ∙ b.is))

-- What was made

pub record IsMadeAt (plan : Plan) (places : List ℕ) (n : ℕ) (d : Dif) : Type 0 where
  pub place : ℕ
  pub is_place : slice_get places n ≡ Some place
  pub settings : settings_of plan place ≡ Some d.settings
  pub ends : d.flows.journal.ends ≡ []
  pub waiting : d.waiting.items ≡ []
  pub names : d.names ≡ []
  pub enrolled : (dif : DifPlan) → slice_get plan.difs place ≡ Some dif → d.enrolled ≡ map (λ (m : Kept). m.node) (first_enrolled dif.is_static d.settings.members)

pub made_at : (plan : Plan) (places : List ℕ) (s : Seen) (ds : List Dif) (s' : Seen) → AreMade plan places s ds s' → (n : ℕ) (d : Dif) → slice_get ds n ≡ Some d → IsMadeAt plan places n d
made_at plan [] s [] s' m n d at = cc
made_at plan [] s (x ∷ xs) s' m n d at = absurd m
made_at plan (i ∷ is) s [] s' m n d at = absurd m
made_at plan (i ∷ is) s (x ∷ xs) s' m zero d at = subst (IsMadeAt plan (i ∷ is) 0) (same_Some x d at) (record { place = i; is_place = refl; settings = m.1.settings; ends = m.1.ends; waiting = m.1.waiting; names = m.1.names; enrolled = m.1.enrolled })
made_at plan (i ∷ is) s (x ∷ xs) s' m (suc n) d at = let r = made_at plan is m.0 xs s' m.2 n d at in record { place = r.place; is_place = r.is_place; settings = r.settings; ends = r.ends; waiting = r.waiting; names = r.names; enrolled = r.enrolled }

pub made_long : (plan : Plan) (places : List ℕ) (s : Seen) (ds : List Dif) (s' : Seen) → AreMade plan places s ds s' → length ds ≡ length places
made_long plan [] s [] s' m = refl
made_long plan [] s (x ∷ xs) s' m = absurd m
made_long plan (i ∷ is) s [] s' m = absurd m
made_long plan (i ∷ is) s (x ∷ xs) s' m = ap (λ (n : ℕ). suc n) (made_long plan is m.0 xs s' m.2)

made_more : (plan : Plan) (places : List ℕ) (i : ℕ) (s : Seen) (ds : List Dif) (d : Dif) (mid s' : Seen) → AreMade plan places s ds mid → IsNew plan i d mid s' → AreMade plan (places ++ i ∷ []) s (ds ++ d ∷ []) s'
made_more plan [] i s [] d mid s' m new = (s', subst (λ (t : Seen). IsNew plan i d t s') m new, refl)
made_more plan [] i s (x ∷ xs) d mid s' m new = absurd m
made_more plan (j ∷ js) i s [] d mid s' m new = absurd m
made_more plan (j ∷ js) i s (x ∷ xs) d mid s' m new = (m.0, m.1, made_more plan js i m.0 xs d mid s' m.2 new)

-- The start

-- where nobody has used a rank there is no end
no_end : (s : Seen) → ((n : ℕ) (f : Fac) → slice_get s.facs n ≡ Some f → f.ends ≡ []) → (port : Port) (e : End) (o : Option Fac) → slice_get s.facs port.fac ≡ o → option_and_then (λ (f : Fac). end_in port f.ends) o ≡ Some e → ⊥
no_end s empty port e None at h = cc
no_end s empty port e (Some f) at h = let none : end_in port [] ≡ Some e = subst (λ (es : List End). end_in port es ≡ Some e) (empty port.fac f at) h in let q : None ≡ Some e = none in cc

whole : (n : ℕ) → n ≡ n - 0
whole n = omega arith

pub begun : (plan : Plan) (k : ℕ) (s : Seen) → IsGround plan k s → IsLaying plan k 0 s [] s
begun plan k s g = record {
  made = refl;
  can = subst (λ (n : ℕ). CanBindAll s (flat_map (λ i. cond (has_rank plan (k + 1) i) (links_of plan i) []) (range_with_len 0 n) ++ flows_at plan k)) (whole (length plan.difs)) g.can;
  offers = stay_refl s;
  inside = λ port e h. absurd (no_end s g.empty port e (slice_get s.facs port.fac) refl h);
  standing = record {
    stand = λ n d at. cc;
    number = λ n d at. cc;
    apart = λ n m d o at. cc;
    ipc = λ n d name at. cc;
  };
}

-- A DIF of another rank is passed over

later_place : (plan : Plan) (at : ℕ) (name : List ℕ) → IsBefore plan at name → IsBefore plan (at + 1) name
later_place plan at name b = record { place = b.place; before = let lt = b.before in omega (arith, lt); dif = b.dif; is_dif = b.is_dif; node = b.node; is = b.is }

pub passed_over : (plan : Plan) (k at : ℕ) (ground : Seen) (difs : List Dif) (s : Seen) → at < length plan.difs → has_rank plan (k + 1) at ≡ false → IsLaying plan k at ground difs s → IsLaying plan k (at + 1) ground difs s
passed_over plan k at ground difs s within other h =
    let places : places_in plan (k + 1) (at + 1) ≡ places_in plan (k + 1) at = places_more plan (k + 1) at ∙ (ap (λ (b : Bool). places_in plan (k + 1) at ++ cond b (at ∷ []) []) other ∙ append_nil (places_in plan (k + 1) at)) in
    let links : links_from plan (k + 1) at ≡ links_from plan (k + 1) (at + 1) = links_next plan (k + 1) at within ∙ ap (λ (b : Bool). cond b (links_of plan at) [] ++ links_from plan (k + 1) (at + 1)) other in
    record {
      made = subst (λ (is : List ℕ). AreMade plan is ground difs s) (sym places) h.made;
      can = subst (λ (ls : List Fixed). CanBindAll s (ls ++ flows_at plan k)) links h.can;
      offers = h.offers;
      inside = λ port e is. (let i = h.inside port e is in (later_place plan at e.app i.0, later_place plan at e.peer i.1));
      standing = h.standing;
    }

-- The next DIF can be made

links_now : (plan : Plan) (k at : ℕ) (s : Seen) → at < length plan.difs → has_rank plan (k + 1) at ≡ true → CanBindAll s (links_from plan (k + 1) at ++ flows_at plan k) → CanBindAll s (links_of plan at ++ (links_from plan (k + 1) (at + 1) ++ flows_at plan k))
links_now plan k at s within own can =
    let split : links_from plan (k + 1) at ≡ links_of plan at ++ links_from plan (k + 1) (at + 1) = links_next plan (k + 1) at within ∙ ap (λ (b : Bool). cond b (links_of plan at) [] ++ links_from plan (k + 1) (at + 1)) own in
    subst (CanBindAll s) (append_assoc (links_of plan at) (links_from plan (k + 1) (at + 1)) (flows_at plan k)) (subst (λ (ls : List Fixed). CanBindAll s (ls ++ flows_at plan k)) split can)

all_take : (plan : Plan) (d : DifPlan) (s : Seen) (ls : List LinkPlan) → ((j : ℕ) (l : LinkPlan) → slice_get ls j ≡ Some l → Takes s d.pdu (link_fixed plan d l)) → All (λ (l : LinkPlan). Takes s d.pdu (link_fixed plan d l)) ls
all_take plan d s ls each = λ j e within. (let t = there ls j within in subst (λ (l : LinkPlan). Takes s d.pdu (link_fixed plan d l)) (sym (get_or_from_slice_get ls j t.0 e t.1)) (each j t.0 t.1))

takes_in : (plan : Plan) (at : ℕ) (s : Seen) (d : DifPlan) → slice_get plan.difs at ≡ Some d → ((j : ℕ) (l : LinkPlan) → slice_get d.links j ≡ Some l → Takes s d.pdu (link_fixed plan d l)) → All (Takes s d.pdu) (links_of plan at)
takes_in plan at s d is each = subst (λ (o : Option DifPlan). All (Takes s d.pdu) (links_in plan o)) (sym is) (All-map (Takes s d.pdu) (link_fixed plan d) d.links (all_take plan d s d.links each))

pub rank_is : (plan : Plan) (r at : ℕ) (d : DifPlan) → slice_get plan.difs at ≡ Some d → has_rank plan r at ≡ true → d.rank ≡ r
rank_is plan r at d is own = let e : (d.rank == r) ≡ true = ap (λ (o : Option DifPlan). rank_in o == r) (sym is) ∙ own in grind (arith, nat_tests)

pub can_lay : (plan : Plan) (k at : ℕ) (ground : Seen) (difs : List Dif) (s : Seen) → AreNamed plan → IsGround plan k ground → at < length plan.difs → has_rank plan (k + 1) at ≡ true → IsLaying plan k at ground difs s → CanLay plan at s
can_lay plan k at ground difs s named g within own h = record {
  binds = front_can s (links_of plan at) (links_from plan (k + 1) (at + 1) ++ flows_at plan k) (links_now plan k at s within own h.can);
  takes = λ st is. (let p = planned plan at st is in
      subst (λ (n : ℕ). All (Takes s n) (links_of plan at)) (sym (ap (λ (t : Settings). t.pdu) p.is)) (takes_in plan at s p.dif p.at (λ j l link. g.take at p.dif s p.at (rank_is plan (k + 1) at p.dif p.at own) h.offers j l link)));
  free = λ st is port end here mine. (let p = planned plan at st is in let i = h.inside port end here in
      elim mine [
        | inl a ↦ not_mine p.dif p.at end.app i.0 (mine_planned plan at st p end.app a)
        | inr b ↦ not_mine p.dif p.at end.peer i.1 (mine_planned plan at st p end.peer b)
      ]);
}
  where
    not_mine : (d : DifPlan) → slice_get plan.difs at ≡ Some d → (name : List ℕ) → IsBefore plan at name → IsIpcOf plan d name → ⊥
    not_mine d is name b own' = no_common plan named b.place at b.dif d name b.is_dif is (λ e. (let lt = b.before in omega (arith, e, lt))) (record { node = b.node; is = b.is }) own'

-- And goes to stand

pub laid_on : (plan : Plan) (k at : ℕ) (ground : Seen) (difs : List Dif) (s s' : Seen) (d : Dif) → AreNamed plan → at < length plan.difs → has_rank plan (k + 1) at ≡ true → AreKept s → AreKept s' → IsLaying plan k at ground difs s → Lays plan at s s' → Stands d s' → IsNew plan at d s s' → IsLaying plan k (at + 1) ground (difs ++ d ∷ []) s'
laid_on plan k at ground difs s s' d named within own kept kept' h lays stands new =
    let p = planned plan at d.settings new.settings in
    let laid = lays d.settings new.settings in
    let long : length difs ≡ length (places_in plan (k + 1) at) = made_long plan (places_in plan (k + 1) at) ground difs s h.made in
    let places : places_in plan (k + 1) (at + 1) ≡ places_in plan (k + 1) at ++ at ∷ [] = places_more plan (k + 1) at ∙ ap (λ (b : Bool). places_in plan (k + 1) at ++ cond b (at ∷ []) []) own in
    record {
      made = subst (λ (is : List ℕ). AreMade plan is ground (difs ++ d ∷ []) s') (sym places) (made_more plan (places_in plan (k + 1) at) at ground difs d s s' h.made new);
      can = rest_can s (links_of plan at) (links_from plan (k + 1) (at + 1) ++ flows_at plan k) new.ports s' (links_now plan k at s within own h.can) new.bound;
      offers = stay_trans ground s s' h.offers (stay_all s (links_of plan at) new.ports s' new.bound);
      inside = λ port e here. inside_now p laid port e here (end_of s port) refl;
      standing = record {
        stand = λ n x is. elim (in_two difs (d ∷ []) n x is) [
          | inl old ↦ old_stands p laid n x old
          | inr last ↦ subst (λ (y : Dif). Stands y s') (in_last d last.place x last.stands).0 stands
        ];
        number = λ n x is. elim (in_two difs (d ∷ []) n x is) [
          | inl old ↦ h.standing.number n x old
          | inr last ↦
              let e = in_last d last.place x last.stands in
              let fac : (config_of d.settings).fac ≡ number_in_rank plan.difs at = ap (λ (t : Settings). t.fac) p.is in
              let rank : rank_of plan.difs (IsDif at) ≡ k + 1 = ap rank_in p.at ∙ rank_is plan (k + 1) at p.dif p.at own in
              let count : number_in_rank plan.difs at ≡ count_by (λ (z : DifPlan). z.rank == k + 1) (take at plan.difs) = ap (λ (m : ℕ). count_by (λ (z : DifPlan). z.rank == m) (take at plan.difs)) rank in
              let places_are = places_count plan (k + 1) at (omega (arith, within)) in
              subst (λ (y : Dif). (config_of y.settings).fac ≡ n) e.0 (let sum = last.sum in let zero_is = e.1 in fac ∙ omega (arith, count, places_are, long, sum, zero_is))
        ];
        apart = λ n m x o is io ne. elim (in_two difs (d ∷ []) n x is) [
          | inl old ↦ elim (in_two difs (d ∷ []) m o io) [
            | inl its ↦ h.standing.apart n m x o old its ne
            | inr last ↦ subst (λ (y : Dif). AreApart (seen_of_dif x) (seen_of_dif y)) (in_last d last.place o last.stands).0 (λ name a b. not_both p n x old name a b)
          ]
          | inr last ↦ elim (in_two difs (d ∷ []) m o io) [
            | inl its ↦ subst (λ (y : Dif). AreApart (seen_of_dif y) (seen_of_dif o)) (in_last d last.place x last.stands).0 (λ name a b. not_both p m o its name b a)
            | inr both ↦ absurd (ne (let a = last.sum in let b = both.sum in let c = (in_last d last.place x last.stands).1 in let e = (in_last d both.place o both.stands).1 in omega (arith, a, b, c, e)))
          ]
        ];
        ipc = λ n x name is mine. elim (in_two difs (d ∷ []) n x is) [
          | inl old ↦ h.standing.ipc n x name old mine
          | inr last ↦
              let e = (in_last d last.place x last.stands).0 in
              let i = mine_planned plan at d.settings p name (subst (λ (y : Dif). IsMine (config_of y.settings).members name) (sym e) mine) in
              subst IsIpc (sym i.is) (has_slash plan p.dif i.node)
        ];
      };
    }
  where
    -- a DIF that was there has no IPC process of the new one
    not_both : (p : HasPlan plan at d.settings) → (n : ℕ) (x : Dif) → slice_get difs n ≡ Some x → (name : List ℕ) → IsMine (config_of x.settings).members name → IsMine (config_of d.settings).members name → ⊥
    not_both p n x old name a b =
        let was = made_at plan (places_in plan (k + 1) at) ground difs s h.made n x old in
        let q = planned plan was.place x.settings was.settings in
        let before = place_in plan (k + 1) at n was.place was.is_place in
        no_common plan named was.place at q.dif p.dif name q.at p.at (λ e. omega (arith, e, before)) (mine_planned plan was.place x.settings q name a) (mine_planned plan at d.settings p name b)

    old_stands : (p : HasPlan plan at d.settings) → IsLaid (config_of d.settings).members s s' → (n : ℕ) (x : Dif) → slice_get difs n ≡ Some x → Stands x s'
    old_stands p laid n x old =
        let st = h.standing.stand n x old in
        let alone = laid_alone (config_of d.settings).members (IsMine (config_of x.settings).members) s s' kept kept' laid (λ name a b. not_both p n x old name a b) in
        (st.0, holds_beside (IsMine (config_of x.settings).members) x st.0 s s' kept kept' (λ name mine. mine) alone st.1)

    inside_now : (p : HasPlan plan at d.settings) → IsLaid (config_of d.settings).members s s' → (port : Port) (e : End) → end_of s' port ≡ Some e → (o : Option End) → end_of s port ≡ o → IsBefore plan (at + 1) e.app × IsBefore plan (at + 1) e.peer
    inside_now p laid port e here (Some x) was =
        let same : x ≡ e = same_Some x e (sym (laid.stays port x was) ∙ here) in
        let i = h.inside port x was in
        subst (λ (y : End). IsBefore plan (at + 1) y.app × IsBefore plan (at + 1) y.peer) same (later_place plan at x.app i.0, later_place plan at x.peer i.1)
    inside_now p laid port e here None was =
        let new_end = laid.fresh port e here was in
        let a = mine_planned plan at d.settings p e.app new_end.app in
        let b = mine_planned plan at d.settings p e.peer new_end.peer in
        (record { place = at; before = omega arith; dif = p.dif; is_dif = p.at; node = a.node; is = a.is }, record { place = at; before = omega arith; dif = p.dif; is_dif = p.at; node = b.node; is = b.is })

-- All of the rank were made

pub all_made : (plan : Plan) (k : ℕ) (ground : Seen) (difs : List Dif) (s : Seen) → IsLaying plan k (length plan.difs) ground difs s → CanBindAll s (flows_at plan k)
all_made plan k ground difs s h =
    let none : length plan.difs - length plan.difs ≡ 0 = omega arith in
    subst (λ (n : ℕ). CanBindAll s (flat_map (λ i. cond (has_rank plan (k + 1) i) (links_of plan i) []) (range_with_len (length plan.difs) n) ++ flows_at plan k)) none h.can
