-- What an enrolment that is asked for does to the ends of all ranks: at the rank below its own ends of IPC processes are made at most, and all others
-- rest.
use Rattle.std.proofs.Common.{arith, ◌≡◌, ◌≢◌, ◌∙◌, ◌+◌, ◌==◌, ℕ, zero, suc, true, false, List, cond, map, slice_get, Option, Some, None, option_map, Result, Ok, Err, refl, sym, ap, subst, inl, inr, ◌⊎◌}
use Rattle.std.proofs.lemmas.Bool.Decides.{eqb_tells}
use Rattle.std.proofs.lemmas.List.{map-set}
use Rattle.std.proofs.lemmas.Option.{slice_get-map}
use Rattle.rina_base.specs.declared.number.Port.{Port}
use Rattle.rina_dif.specs.declared.dif.Dif.{Dif}
use Rattle.rina_dif.specs.declared.enrol.EnrolError.{EnrolError}
use Rattle.rina_iface.specs.declared.ask.Ask.{Ask}
use Rattle.rina_iface.specs.declared.ends.End.{End}
use Rattle.rina_iface.specs.declared.error.AllocateError.{AllocateError}
use Rattle.rina_iface.specs.Seen.{Fac}
use Rattle.rina_wire.specs.Air.{Air}
use Rattle.rina_tower.specs.declared.tower.Tower.{Tower, Rank', Wires}
use Rattle.rina_tower.specs.Bystanders.{IsIpc}
use Rattle.rina_tower.specs.Calls.{AllocatesAtTop}
use Rattle.rina_tower.specs.Enrolling.{EnrolsAt, EnrolsAtTop}
use Rattle.rina_tower.specs.Levels.{AtDif}
use Rattle.rina_tower.specs.Ranks.{fac_of_dif, height_of, rank_of}
use Rattle.rina_tower.specs.Stands.{IsTower}
use Rattle.rina_tower.specs.Unchanged.{ChangesJoiner}
use Rattle.rina_notes.specs.declared.label.Label.{Label}
use Rattle.rina_laws.proofs.Enrolled.{MayAllocate, enrolled}
use Rattle.rina_laws.proofs.LabelEnds.{HavePorts, number_tells}
use Rattle.rina_laws.proofs.LabelFlows.{flow_here, ports_after, rests_ask}
use Rattle.rina_laws.proofs.LabelGrown.{GrownAt, IsGrown}
use Rattle.rina_laws.proofs.LabelKeeps.{Keeps, KeepsShown, shown_rest}
use Rattle.rina_laws.proofs.LabelMade.{fit_grown, grown_named, grown_tells}
use Rattle.rina_laws.proofs.LabelMoves.{Fits, IsView}
use Rattle.rina_laws.proofs.LabelRanks.{AllPorts, AtAll, Both, DoesAll, IsAlone, Shown, alone_refl, at_rank, at_rank_more, at_top, both_as, facs_of, level, rank_kept, shown}
use Rattle.rina_laws.proofs.LabelRests.{Rest, fac_same, rest_same, rest_set}

-- ---- at the rank below

-- an end of an IPC process was made, and the far end of another one with it or not yet
pub record HasLink (fs fs' : List Fac) : Type 0 where
  pub fac : ℕ
  pub asker : End
  pub far : Option End
  pub asker_ipc : IsIpc asker.app
  pub far_ipc : (e : End) → far ≡ Some e → IsIpc e.app
  pub grown : IsGrown fs fac asker far fs'
  pub ports : HavePorts fs'

-- at the rank below r they may have been made, and at each other the ends rest
abbrev pub Links : ℕ → ℕ → List Fac → List Fac → Type 0
Links r k fs fs' = Rest fs fs' ⊎ ((r ≡ k + 1) × HasLink fs fs')

links_idle : (r k : ℕ) (fs fs' : List Fac) → fs' ≡ fs → Links r k fs fs'
links_idle r k fs fs' is = inl (rest_same fs fs' is)

-- only the rank itself changed
record LinksHere (below below' : Tower) : Type 0 where
  alone : IsAlone below below'
  links : Rest (facs_of below) (facs_of below') ⊎ HasLink (facs_of below) (facs_of below')

asked_here : (ask : Ask) (answer : Result Port AllocateError) (below below' : Tower) → IsTower below → IsIpc ask.app → IsIpc ask.to → AllocatesAtTop ask answer below below' → LinksHere below below'
asked_here ask (Ok port) below below' v app to d =
    let here = flow_here ask port below below' v d in
    let f = here.done in
    record {
      alone = here.below;
      links = inr (record {
        fac = ask.fac;
        asker = f.asker;
        far = f.far;
        asker_ipc = subst IsIpc (sym f.app) app;
        far_ipc = λ e is. subst IsIpc (sym (f.far_app e is)) to;
        grown = f.grown;
        ports = f.ports;
      });
    }
asked_here ask (Err e) below below' v app to d = (let here = rests_ask ask e below below' v d in record { alone = here.below; links = inl here.rests })

links_here : (below below' : Tower) → IsTower below → MayAllocate below below' → LinksHere below below'
links_here below below' v (inl is) = record { alone = subst (IsAlone below) (sym is) (alone_refl below); links = inl (rest_same (facs_of below) (facs_of below') (ap facs_of is)) }
links_here below below' v (inr (ask, answer, app, to, d)) = asked_here ask answer below below' v app to d

-- ---- at the own rank

joiner_rests : (n : ℕ) (does : Dif → Dif → Type 0) (none : Type 0) (difs difs' : List Dif) → ((d d' : Dif) → does d d' → ChangesJoiner d d') → AtDif n does none difs difs' → Rest (map fac_of_dif difs) (map fac_of_dif difs')
joiner_rests n does none difs difs' changes (inl h) =
    let is = changes h.dif h.dif' h.done in
    let here : slice_get (map fac_of_dif difs) n ≡ Some (fac_of_dif h.dif) = slice_get-map fac_of_dif difs n ∙ ap (option_map fac_of_dif) h.is_dif in
    let rests = fac_same (fac_of_dif h.dif) (fac_of_dif h.dif') (ap (λ (x : Dif). x.flows.journal.ends) is) (ap (λ (x : Dif). x.waiting.items) is) in
    subst (Rest (map fac_of_dif difs)) (sym (ap (map fac_of_dif) h.new_is ∙ map-set fac_of_dif difs n h.dif')) (rest_set (map fac_of_dif difs) n (fac_of_dif h.dif) (fac_of_dif h.dif') here rests)
joiner_rests n does none difs difs' changes (inr h) = rest_same (map fac_of_dif difs) (map fac_of_dif difs') (ap (map fac_of_dif) h.2)

top_links : (r dif node fac peer : ℕ) (x : Result (Unit {0}) EnrolError) (u u' : Tower) → r ≡ height_of u → IsTower u → EnrolsAtTop dif node fac peer x u u' → DoesAll (Links r) u u'
top_links r dif node fac peer x (Wires a) (Wires a') high v d =
    let all = at_top (Links r) (Wires a) (Wires a') tt (links_idle r 0 (facs_of (Wires a)) (facs_of (Wires a')) (ap (λ (z : Air). facs_of (Wires z)) d.1)) (λ k ne fs fs' is. links_idle r k fs fs' is) in
    record { level = refl; all = all }
top_links r dif node fac peer x (Rank' p difs below) (Rank' p' difs' below') high v d =
    let low = links_here below below' v.1 (enrolled dif node fac peer x p p' difs difs' below below' v d) in
    let own : Links r (height_of below + 1) (map fac_of_dif difs) (map fac_of_dif difs') = inl (joiner_rests dif _ _ difs difs' (λ y y' one. one.rest) d.0) in
    let here : Links r (height_of below) (facs_of below) (facs_of below') = elim low.links [ inl w ↦ inl w | inr w ↦ inr (high, w) ] in
    let deep = at_top (Links r) below below' low.alone here (λ k ne fs fs' is. links_idle r k fs fs' is) in
    record {
      level = ap (λ h. h + 1) (level below below' low.alone);
      all = at_rank_more (Links r) p p' difs difs' below below' (level below below' low.alone) own (λ k ne. deep.rank k);
    }
top_links r dif node fac peer x (Wires a) (Rank' p difs below) high v d = absurd d
top_links r dif node fac peer x (Rank' p difs below) (Wires a) high v d = absurd d

pub enrols_links : (r dif node fac peer : ℕ) (x : Result (Unit {0}) EnrolError) (t t' : Tower) → IsTower t → EnrolsAt r dif node fac peer x t t' → AtAll (Links r) (shown t) (shown t')
enrols_links r dif node fac peer x t t' v d =
    let all = at_rank (Links r) r (EnrolsAtTop dif node fac peer x) _ t t' (rank_of t r) refl (λ u u' is high w. top_links r dif node fac peer x u u' high (rank_kept t r u v is) w) (λ k ne fs fs' is. links_idle r k fs fs' is) d in
    all.all

-- ---- of all ranks: first the ends, and then the rest

-- at one rank ends of IPC processes were made, and at all others the ends rest
pub record LinkMade (g g' : Shown) : Type 0 where
  pub rank : ℕ
  pub facs : List Fac
  pub is_rank : g rank ≡ Some facs
  pub facs' : List Fac
  pub is_rank' : g' rank ≡ Some facs'
  pub link : HasLink facs facs'
  pub rests : (k : ℕ) → k ≢ rank → Both Rest (g k) (g' k)

-- a rank is there, and did this
record Did (B : List Fac → List Fac → Type 0) (o o' : Option (List Fac)) : Type 0 where
  facs : List Fac
  is : o ≡ Some facs
  facs' : List Fac
  is' : o' ≡ Some facs'
  did : B facs facs'

-- it did the one or the other
either : (A B : List Fac → List Fac → Type 0) (o o' : Option (List Fac)) → Both (λ fs fs'. A fs fs' ⊎ B fs fs') o o' → Both A o o' ⊎ Did B o o'
either A B None None b = inl tt
either A B (Some fs) (Some fs') (inl a) = inl a
either A B (Some fs) (Some fs') (inr b) = inr (record { facs = fs; is = refl; facs' = fs'; is' = refl; did = b })
either A B None (Some fs') b = absurd b
either A B (Some fs) None b = absurd b

-- no rank but that below
off_rank : (r k h : ℕ) (fs fs' : List Fac) → r ≡ h + 1 → k ≢ h → Links r k fs fs' → Rest fs fs'
off_rank r k h fs fs' is ne (inl w) = w
off_rank r k h fs fs' is ne (inr w) = absurd (ne (let at = w.0 in omega (arith, is, at)))

pub links_made : (r : ℕ) (g g' : Shown) → AtAll (Links r) g g' → AtAll (λ k. Rest) g g' ⊎ LinkMade g g'
links_made zero g g' a = inl (record { rank = λ k. both_as (Links zero k) Rest (g k) (g' k) (λ fs fs' w. elim w [ inl x ↦ x | inr x ↦ absurd (let at = x.0 in omega (arith, at)) ]) (a.rank k) })
links_made (suc h) g g' a =
    let level : suc h ≡ h + 1 = omega arith in
    let IsLink : List Fac → List Fac → Type 0 = λ fs fs'. (suc h ≡ h + 1) × HasLink fs fs' in
    let others : (k : ℕ) → k ≢ h → Both Rest (g k) (g' k) = λ k ne. both_as (Links (suc h) k) Rest (g k) (g' k) (λ fs fs' w. off_rank (suc h) k h fs fs' level ne w) (a.rank k) in
    elim (either Rest IsLink (g h) (g' h) (a.rank h)) [
      | inl w ↦ inl (record { rank = λ k. elim (number_tells k h) [ inl t ↦ subst (λ (n : ℕ). Both Rest (g n) (g' n)) (sym t) w | inr o ↦ others k o ] })
      | inr w ↦ inr (record { rank = h; facs = w.facs; is_rank = w.is; facs' = w.facs'; is_rank' = w.is'; link = w.did.1; rests = others })
    ]

-- what all ranks show once these ends are there
abbrev between : Shown → Shown → ℕ → Shown
between g g' r k = cond (k == r) (g' k) (g k)

between_here : (g g' : Shown) (r k : ℕ) → k ≡ r → between g g' r k ≡ g' k
between_here g g' r k is = elim (eqb_tells k r) [ inl t ↦ rw t.0 refl | inr f ↦ absurd (f.1 is) ]

between_other : (g g' : Shown) (r k : ℕ) → k ≢ r → between g g' r k ≡ g k
between_other g g' r k ne = elim (eqb_tells k r) [ inl t ↦ absurd (ne t.1) | inr f ↦ rw f.0 refl ]

both_refl : (P : List Fac → List Fac → Type 0) (o : Option (List Fac)) → ((fs : List Fac) → P fs fs) → Both P o o
both_refl P None same = tt
both_refl P (Some fs) same = same fs

grown_first : (g g' : Shown) → (m : LinkMade g g') → GrownAt g m.rank m.link.fac m.link.asker m.link.far (between g g' m.rank)
grown_first g g' m = record {
  facs = m.facs;
  is_rank = m.is_rank;
  facs' = m.facs';
  is_rank' = between_here g g' m.rank m.rank refl ∙ m.is_rank';
  grown = m.link.grown;
  others = λ k ne. subst (Both (λ fs fs'. fs' ≡ fs) (g k)) (sym (between_other g g' m.rank k ne)) (both_refl (λ fs fs'. fs' ≡ fs) (g k) (λ fs. refl));
}

rests_then : (g g' : Shown) → (m : LinkMade g g') → AtAll (λ k. Rest) (between g g' m.rank) g'
rests_then g g' m = record {
  rank = λ k. elim (number_tells k m.rank) [
    | inl t ↦ subst (λ o. Both Rest o (g' k)) (sym (between_here g g' m.rank k t)) (both_refl Rest (g' k) (λ fs. rest_same fs fs refl))
    | inr o ↦ subst (λ x. Both Rest x (g' k)) (sym (between_other g g' m.rank k o)) (m.rests k o)
  ];
}

-- ---- what is kept

ipc_fits : (e : End) → IsIpc e.app → Fits e
ipc_fits e ipc plain = let no : true ≡ false = sym ipc ∙ plain in cc

pub link_keeps : {X : Type 0} (V : End → List X) (told : List ℕ → List X) (g g' : Shown) (ls : List Label) → IsView V → LinkMade g g' → KeepsShown V told g ls → KeepsShown V told g' ls
link_keeps V told g g' ls view m k =
    let mid = between g g' m.rank in
    let l = m.link in
    let grown = grown_first g g' m in
    let ports : AllPorts mid = ports_after g mid m.rank m.facs' k.ports (between_here g g' m.rank m.rank refl ∙ m.is_rank') l.ports grown.others in
    let first : KeepsShown V told mid ls = record {
      ports = ports;
      fits = fit_grown g mid m.rank l.fac l.asker l.far grown (ipc_fits l.asker l.asker_ipc) (λ e is. ipc_fits e (l.far_ipc e is)) k.fits;
      named = grown_named V told g mid m.rank l.fac l.asker l.far ls ports grown k.tells k.named;
      tells = grown_tells V told g mid m.rank l.fac l.asker l.far ls grown (view.hidden l.asker l.asker_ipc) (λ e is. view.hidden e (l.far_ipc e is)) k.tells;
    } in
    shown_rest V told mid g' ls view (rests_then g g' m) first

pub enrol_keeps : {X : Type 0} (V : End → List X) (told : List ℕ → List X) (r dif node fac peer : ℕ) (x : Result (Unit {0}) EnrolError) (t t' : Tower) (ls : List Label) → IsView V → IsTower t → EnrolsAt r dif node fac peer x t t' → Keeps V told t ls → Keeps V told t' ls
enrol_keeps V told r dif node fac peer x t t' ls view v d k = elim (links_made r (shown t) (shown t') (enrols_links r dif node fac peer x t t' v d)) [
  | inl rest ↦ shown_rest V told (shown t) (shown t') ls view rest k
  | inr made ↦ link_keeps V told (shown t) (shown t') ls view made k
]
