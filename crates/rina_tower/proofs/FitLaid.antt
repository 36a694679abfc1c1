-- While the DIFs of a rank are made, each that is there goes on to stand, and the next one can be made.
use Rattle.std.proofs.Common.{◌≡◌, ◌∙◌, ℕ, zero, suc, ◌+◌, ◌≤◌, List, [], ◌∷◌, length, slice_get, Option, Some, None, refl, sym, ap, subst, arith}
use Rattle.std.proofs.lemmas.Option.{same_Some, slice_get_within}
use Rattle.rina_iface.specs.declared.ends.End.{End}
use Rattle.rina_iface.specs.Journal.{AreKept, At}
use Rattle.rina_iface.specs.Seen.{Fac, Seen, end_of}
use Rattle.rina_iface.proofs.Found.{end_of_stands, found, its_port, stands_there}
use Rattle.rina_plan.specs.declared.dif.DifPlan.{DifPlan}
use Rattle.rina_plan.specs.declared.dif.MemberPlan.{MemberPlan}
use Rattle.rina_stack.specs.declared.plan.Plan.{Plan}
use Rattle.rina_dif_law.specs.Cloud.{IsMine}
use Rattle.rina_data.specs.declared.settings.Member.{Member as Kept}
use Rattle.rina_data.specs.Configs.{Member, config_of, member_of as data_member}
use Rattle.rina_dif.specs.Laying.{IsLaid}
use Rattle.rina_dif.specs.Planned.{ipc_name, member_of, members_from, processes_before, settings_by}
use Rattle.rina_tower.specs.Bystanders.{LeavesEnds, LeavesNow}
use Rattle.rina_tower.proofs.Alone.{others_new}
use Rattle.rina_dif_law.proofs.Own.{map_at}

-- What was laid leaves alone whoever is no member

-- the end at a place is that of its port
its_end : (s : Seen) → AreKept s → (n : ℕ) (f : Fac) → slice_get s.facs n ≡ Some f → (i : ℕ) (e : End) → At f.ends i e → end_of s e.port ≡ Some e
its_end s kept n f at i e is = end_of_stands s e.port f i e (stands_there s n f i e at (kept.ports n f at) is)

laid_ends : (members : List Member) (who : List ℕ → Type 0) (s s' : Seen) → AreKept s → AreKept s' → IsLaid members s s' → ((name : List ℕ) → who name → IsMine members name → ⊥) → (n : ℕ) (f f' : Fac) → slice_get s.facs n ≡ Some f → slice_get s'.facs n ≡ Some f' → LeavesEnds who f.ends f'.ends
laid_ends members who s s' kept kept' laid others n f f' at at' = others_new who f.ends f'.ends
    (λ i e e' old new mine.
    let l = laid.later.facs n f at in
    let f_is : l.0 ≡ f' = same_Some l.0 f' (sym l.1 ∙ at') in
    let now = l.2.ends i e old in
    let e_is : now.0 ≡ e' = same_Some now.0 e' (sym (subst (λ (g : Fac). slice_get g.ends i ≡ Some now.0) f_is now.1) ∙ new) in
    let port : e'.port ≡ e.port = subst (λ (x : End). x.port ≡ e.port) e_is now.2.port in
    let here : end_of s' e'.port ≡ Some e' = its_end s' kept' n f' at' i e' new in
    let there : end_of s' e.port ≡ Some e = laid.stays e.port e (its_end s kept n f at i e old) in
    let same : e' ≡ e = same_Some e' e (sym here ∙ (ap (end_of s') port ∙ there)) in
    (ap (λ (x : End). x.sent) same, ap (λ (x : End). x.taken) same))
    (λ i e' new past.
    let here : end_of s' e'.port ≡ Some e' = its_end s' kept' n f' at' i e' new in
    let none : end_of s e'.port ≡ None = was_none i e' new past (end_of s e'.port) refl in
    let mine = laid.fresh e'.port e' here none in
    (λ w. others e'.app w mine.app, λ w. others e'.peer w mine.peer))
  where
    was_none : (i : ℕ) (e' : End) → slice_get f'.ends i ≡ Some e' → length f.ends ≤ i → (o : Option End) → end_of s e'.port ≡ o → o ≡ None
    was_none i e' new past None is = refl
    was_none i e' new past (Some e) is =
        let g = found s e'.port e is in
        let own : e'.port.fac ≡ n = (kept'.ports n f' at').own i e' new in
        let fac_is : g.facility ≡ f = same_Some g.facility f (sym g.stands.facility ∙ (ap (slice_get s.facs) own ∙ at)) in
        let old : slice_get f.ends g.place ≡ Some e = subst (λ (h : Fac). slice_get h.ends g.place ≡ Some e) fac_is g.stands.is in
        let l = laid.later.facs n f at in
        let f_is : l.0 ≡ f' = same_Some l.0 f' (sym l.1 ∙ at') in
        let now = l.2.ends g.place e old in
        let there : slice_get f'.ends g.place ≡ Some now.0 = subst (λ (h : Fac). slice_get h.ends g.place ≡ Some now.0) f_is now.1 in
        let port : now.0.port ≡ e'.port = now.2.port ∙ its_port s e'.port g.facility g.place e g.stands in
        let place : g.place ≡ i = (kept'.ports n f' at').apart g.place i now.0 e' there new port in
        let within = slice_get_within f.ends g.place e old in
        absurd (omega (arith, place, within, past))

pub laid_alone : (members : List Member) (who : List ℕ → Type 0) (s s' : Seen) → AreKept s → AreKept s' → IsLaid members s s' → ((name : List ℕ) → who name → IsMine members name → ⊥) → LeavesNow who s s'
laid_alone members who s s' kept kept' laid others = record {
  leaves = record { later = laid.later; ends = λ n f f' at at'. laid_ends members who s s' kept kept' laid others n f f' at at' };
  clock = laid.clock;
}

-- Members of the DIFs of a plan

-- the name is that of an IPC process of this DIF
pub record IsIpcOf (plan : Plan) (d : DifPlan) (name : List ℕ) : Type 0 where
  pub node : ℕ
  pub is : name ≡ ipc_name plan d node

from_plan : (plan : Plan) (d : DifPlan) (number : ℕ) (ms : List MemberPlan) (k : ℕ) (m : Kept) → slice_get (members_from plan d number ms) k ≡ Some m → IsIpcOf plan d m.name
from_plan plan d number [] k m h = cc
from_plan plan d number (x ∷ xs) zero m h = let is : member_of plan d number x ≡ m = same_Some (member_of plan d number x) m h in record { node = x.node; is = sym (ap (λ (z : Kept). z.name) is) }
from_plan plan d number (x ∷ xs) (suc k) m h = from_plan plan d (number + 1) xs k m h

pub mine_of : (plan : Plan) (i : ℕ) (d : DifPlan) (name : List ℕ) → IsMine (config_of (settings_by plan i d)).members name → IsIpcOf plan d name
mine_of plan i d name h =
    let ms : List Kept = members_from plan d (processes_before plan.difs i) d.members in
    let m = map_at data_member ms h.member.place h.member.member h.member.stands in
    let f = from_plan plan d (processes_before plan.difs i) d.members h.member.place m.0 m.1 in
    record { node = f.node; is = sym h.member.name_is ∙ (ap (λ (z : Member). z.name) m.2 ∙ f.is) }
