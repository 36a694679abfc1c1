-- The links of a DIF are laid one after the other.
use Rattle.std.proofs.Common.{◌≡◌, ◌≢◌, ◌∙◌, ℕ, zero, suc, ◌+◌, ◌<◌, ◌==◌, ◌⊎◌, All, add-one, true, get_or, List, [], ◌∷◌, ◌++◌, drop, length, length-set, map, slice_get, take, Option, Some, None, option_map, Result, Ok, Err, refl, sym, ap, subst, arith, inl, inr}
use Rattle.std.specs.Prelude.{IsSome, OnOk, position}
use Rattle.std.proofs.lemmas.Bool.{false≢true}
use Rattle.std.proofs.lemmas.Bool.Decides.{eqb_tells}
use Rattle.std.proofs.lemmas.Option.{slice_get-get_or, slice_get-map, slice_get_within}
use Rattle.rina_base.specs.declared.memory.Memory.{Memory}
use Rattle.rina_base.specs.declared.number.Port.{Port}
use Rattle.rina_iface.specs.declared.ask.Fixed.{Fixed}
use Rattle.rina_iface.specs.declared.error.AllocateError.{AllocateError}
use Rattle.rina_iface.specs.declared.error.AllocateError.TheVariants as errors
use Rattle.rina_iface.specs.Bind.{Binds, CanBind, IsBound}
use Rattle.rina_iface.specs.Journal.{AreKept}
use Rattle.rina_iface.specs.Later.{IsLater}
use Rattle.rina_iface.specs.Seen.{Fac, Offer, Seen, cube_in, end_of}
use Rattle.rina_iface.proofs.Changed.{all_at, set_at}
use Rattle.rina_iface.proofs.Grown.{pushed_at}
use Rattle.rina_plan.specs.declared.dif.DifPlan.{DifPlan}
use Rattle.rina_plan.specs.declared.dif.LinkPlan.{LinkPlan}
use Rattle.rina_stack.specs.declared.plan.Plan.{Plan}
use Rattle.rina_stack.specs.Plan.{IsPlan}
use Rattle.rina_queue.proofs.Places.{first_passes}
use Rattle.rina_data.specs.declared.process.IpcProcess.{IpcProcess}
use Rattle.rina_data.specs.declared.settings.Member.{Member as Kept}
use Rattle.rina_data.specs.declared.settings.Settings.{Settings}
use Rattle.rina_data.specs.Configs.{Config, config_of, member_of}
use Rattle.rina_dif_law.specs.Cloud.{IsMine}
use Rattle.rina_dif_law.specs.Standing.{IsLinked}
use Rattle.rina_dif_law.specs.Numbered.{AreMembers}
use Rattle.rina_data.proofs.Finding.{there}
use Rattle.rina_dif.specs.Building.{AreBare}
use Rattle.rina_dif.specs.Laying.{AddsLinkAt, AreLaid, AreLinkedUp, AreSettings, BindsAll, BindsInTurn, CanBindAll, IsBoundSo, IsHome, IsLaidIn, IsLinkedUp, LaysLink, LaysPort, LaysPortAt, MayBind, Takes, ends_of}
use Rattle.rina_dif.specs.Planned.{ipc_name, link_fixed, processes_before}
use Rattle.rina_dif.proofs.Below.{asker_of, asker_there, far_of, far_there, stays}
use Rattle.rina_dif.proofs.Laid.{bind_laid, laid_on}
use Rattle.rina_dif.proofs.LinkFlows.{apart_on, ends_push, flows_on, new_link}
use Rattle.rina_dif.proofs.Linked.{bare_up, passes_some, up_adds, up_skips}
use Rattle.rina_dif.proofs.Sound.{HasNode, are_members, link_mine, link_nodes, node_there}

-- One port

is_node : (node : ℕ) (m : Kept) → (m.node == node) ≡ true → m.node ≡ node
is_node node m same = elim (eqb_tells m.node node) [ inl t ↦ t.1 | inr u ↦ absurd (false≢true (sym u.0 ∙ same)) ]

at_node : (node : ℕ) (m : Kept) → m.node ≡ node → (m.node == node) ≡ true
at_node node m same = grind arith

-- an IPC process for each member
one_there : (s : Settings) (port : Port) (old : List IpcProcess) (at : ℕ) → length old ≡ length s.members → position (λ (m : Kept). m.node == port.node) s.members ≡ Some at → (p : IpcProcess) × (slice_get old at ≡ Some p)
one_there s port old at aligned found =
    let m = first_passes (λ (m : Kept). m.node == port.node) s.members at found in
    let within = slice_get_within s.members at m.0 m.1.stands in
    there old at (omega (arith, within, aligned))

length_by : (s : Settings) (port : Port) (old new : List IpcProcess) (o : Option ℕ) → position (λ (m : Kept). m.node == port.node) s.members ≡ o → length old ≡ length s.members → LaysPortAt o port old new → length new ≡ length s.members
length_by s port old new None found aligned lays = ap (λ (ps : List IpcProcess). length ps) lays ∙ aligned
length_by s port old new (Some at) found aligned lays =
    let p = one_there s port old at aligned found in
    let q = lays p.0 p.1 in
    ap (λ (ps : List IpcProcess). length ps) q.2 ∙ length-set old at q.0 ∙ aligned

pub still_aligned : (s : Settings) (port : Port) (old new : List IpcProcess) → length old ≡ length s.members → LaysPort s port old new → length new ≡ length s.members
still_aligned s port old new aligned lays = length_by s port old new (position (λ (m : Kept). m.node == port.node) s.members) refl aligned lays

-- two members of one node are one
pub one_member : (s : Settings) (i k : ℕ) (a b : Kept) → AreMembers (config_of s) → slice_get s.members i ≡ Some a → slice_get s.members k ≡ Some b → a.node ≡ b.node → i ≡ k
one_member s i k a b members x y same =
    let x' : slice_get (map member_of s.members) i ≡ Some (member_of a) = slice_get-map member_of s.members i ∙ ap (option_map member_of) x in
    let y' : slice_get (map member_of s.members) k ≡ Some (member_of b) = slice_get-map member_of s.members k ∙ ap (option_map member_of) y in
    members.nodes i k (member_of a) (member_of b) x' y' same

up_by : (s : Settings) (ports : List Port) (port : Port) (old new : List IpcProcess) (o : Option ℕ) → position (λ (m : Kept). m.node == port.node) s.members ≡ o → AreMembers (config_of s) → AreLinkedUp s ports old → LaysPortAt o port old new → AreLinkedUp s (ports ++ port ∷ []) new
up_by s ports port old new None found members up lays = record {
  aligned = length_by s port old new None found up.aligned lays;
  each = λ k m p is here.
      let other : port.node ≢ m.node = λ same. (let some : IsSome (position (λ (z : Kept). z.node == port.node) s.members) = passes_some (λ (z : Kept). z.node == port.node) s.members k m is (at_node port.node m (sym same)) in absurd (false≢true (subst (λ (z : Option ℕ). IsSome z) found some))) in
      up_skips s m.node ports port p other (up.each k m p is (ap (λ (ps : List IpcProcess). slice_get ps k) (sym lays) ∙ here));
}
up_by s ports port old new (Some at) found members up lays =
    let m0 = first_passes (λ (m : Kept). m.node == port.node) s.members at found in
    let p = one_there s port old at up.aligned found in
    let q = lays p.0 p.1 in
    record {
      aligned = length_by s port old new (Some at) found up.aligned lays;
      each = λ k m r is here. elim (set_at old at k p.0 q.0 r p.1 (ap (λ (ps : List IpcProcess). slice_get ps k) (sym q.2) ∙ here)) [
        | inl t ↦
            let is' : slice_get s.members at ≡ Some m = ap (slice_get s.members) (sym t.0) ∙ is in
            let same : m0.0 ≡ m = (let both : Some m0.0 ≡ Some m = sym m0.1.stands ∙ is' in cc) in
            let node : port.node ≡ m.node = sym (is_node port.node m0.0 m0.1.passes) ∙ ap (λ (z : Kept). z.node) same in
            subst (IsLinkedUp s m.node (ports ++ port ∷ [])) (sym t.1) (up_adds s m.node ports port p.0 q.0 node q.1 (up.each at m p.0 is' p.1))
        | inr u ↦
            let other : port.node ≢ m.node = λ same. u.0 (one_member s k at m m0.0 members is m0.1.stands (sym same ∙ sym (is_node port.node m0.0 m0.1.passes))) in
            up_skips s m.node ports port r other (up.each k m r is u.1)
      ];
    }

pub ports_up : (s : Settings) (ports : List Port) (port : Port) (old new : List IpcProcess) → AreMembers (config_of s) → AreLinkedUp s ports old → LaysPort s port old new → AreLinkedUp s (ports ++ port ∷ []) new
ports_up s ports port old new members up lays = up_by s ports port old new (position (λ (m : Kept). m.node == port.node) s.members) refl members up lays

pub all_bare_up : (s : Settings) (ps : List IpcProcess) → AreBare s ps → AreLinkedUp s [] ps
all_bare_up s ps bare = record { aligned = bare.aligned; each = λ k m p is here. bare_up s m.node p (bare.each k p here) }

-- One link

pub may_bind : (f : Fixed) (old new : Seen) (r : Result (Port × Port) AllocateError) → Binds old f r new → MayBind f old new
may_bind f old new (Ok ports) b = inr (record { a = ports.0; b = ports.1; bound = b })
may_bind f old new (Err errors.Memory) b = inl b
may_bind f old new (Err e) b = absurd b

pub lays_link : (s : Settings) (f : Fixed) (old new : Seen) (a b : Port) (ps mid ps' : List IpcProcess) → IsBound old f a b new → LaysPort s a ps mid → LaysPort s b mid ps' → LaysLink s f (a, b) old new ps ps'
lays_link s f old new a b ps mid ps' bound first second = record { bound = bound; between = mid; a = first; b = second }

pub lays_port : (s : Settings) (port : Port) (at : ℕ) (old new : List IpcProcess) (r : Result (Unit {0}) Memory) → Some at ≡ position (λ (m : Kept). m.node == port.node) s.members → OnOk r (AddsLinkAt port at old new) → OnOk r (LaysPort s port old new)
lays_port s port at old new (Ok u) found adds = subst (λ (o : Option ℕ). LaysPortAt o port old new) found adds
lays_port s port at old new (Err e) found adds = tt

-- All links

pub binds_next : (fixed : LinkPlan → Fixed) (old mid new : Seen) (links : List LinkPlan) (i : ℕ) (l : LinkPlan) (ports : List (Port × Port)) (a b : Port) → slice_get links i ≡ Some l → BindsAll old (map fixed (take i links)) ports mid → IsBound mid (fixed l) a b new → BindsAll old (map fixed (take (suc i) links)) (ports ++ (a, b) ∷ []) new
binds_next fixed old mid new [] i l ports a b at all one = absurd cc
binds_next fixed old mid new (x ∷ xs) zero l [] a b at all one =
    let same : x ≡ l = cc in
    (new, subst (λ (s : Seen). IsBound s (fixed x) a b new) all (subst (λ (z : LinkPlan). IsBound mid (fixed z) a b new) (sym same) one), refl)
binds_next fixed old mid new (x ∷ xs) zero l (p ∷ ps) a b at all one = absurd all
binds_next fixed old mid new (x ∷ xs) (suc i) l [] a b at all one = absurd all
binds_next fixed old mid new (x ∷ xs) (suc i) l (p ∷ ps) a b at all one = (all.0, all.1, binds_next fixed all.0 mid new xs i l ps a b at all.2 one)

pub can_next : (fixed : LinkPlan → Fixed) (s : Seen) (links : List LinkPlan) (i : ℕ) (l : LinkPlan) → slice_get links i ≡ Some l → CanBindAll s (map fixed (drop i links)) → CanBind s (fixed l) × ((p q : Port) (s' : Seen) → IsBound s (fixed l) p q s' → CanBindAll s' (map fixed (drop (suc i) links)))
can_next fixed s [] i l at can = absurd cc
can_next fixed s (x ∷ xs) zero l at can = (let same : x ≡ l = cc in subst (λ (z : LinkPlan). CanBind s (fixed z) × ((p q : Port) (s' : Seen) → IsBound s (fixed z) p q s' → CanBindAll s' (map fixed xs))) same can)
can_next fixed s (x ∷ xs) (suc i) l at can = can_next fixed s xs i l at can

-- What was laid

-- a cube that takes so much took it before
takes_on : (s s' : Seen) (size : ℕ) (f : Fixed) → IsLater s s' → Takes s size f → Takes s' size f
takes_on s s' size f later takes facility cube at offer =
    let within = slice_get_within s'.facs f.fac facility at in
    let old = there s.facs f.fac (let number = later.number in omega (arith, within, number)) in
    let new = later.facs f.fac old.0 old.1 in
    let same : new.0 ≡ facility = (let both : Some new.0 ≡ Some facility = sym new.1 ∙ at in cc) in
    let cubes : facility.cubes ≡ old.0.cubes = ap (λ (z : Fac). z.cubes) (sym same) ∙ new.2.cubes in
    takes old.0 cube old.1 (ap (λ (cs : List Offer). cube_in cs f.cube) (sym cubes) ∙ offer)

one_laid : (g : Config) (old mid new : Seen) (f : Fixed) → AreKept mid → AreKept new → IsLaidIn g old mid → CanBind mid f → IsMine g.members f.a_app → IsMine g.members f.b_app → Takes old g.pdu f → MayBind f mid new → IsLaidIn g old new
one_laid g old mid new f kept kept' laid can a b takes (inl same) = subst (IsLaidIn g old) (sym same) laid
one_laid g old mid new f kept kept' laid can a b takes (inr so) = laid_on g old mid new kept' laid (bind_laid g mid f so.a so.b new can so.bound kept kept' a b (takes_on old mid g.pdu f laid.laid.later takes))

-- of a DIF of the plan
pub next_laid : (plan : Plan) (d : DifPlan) (s : Settings) (i : ℕ) (l : LinkPlan) (old mid new : Seen) → IsPlan plan → AreSettings plan d s → slice_get d.links i ≡ Some l → AreKept mid → AreKept new → IsLaidIn (config_of s) old mid → CanBind mid (link_fixed plan d l) → All (Takes old s.pdu) (map (link_fixed plan d) d.links) → MayBind (link_fixed plan d l) mid new → IsLaidIn (config_of s) old new
next_laid plan d s i l old mid new sound are is kept kept' laid can takes may =
    let mine = subst (λ (z : Settings). IsMine (config_of z).members (ipc_name plan d l.a) × IsMine (config_of z).members (ipc_name plan d l.b)) (sym are.are) (link_mine plan are.place d i l sound are.stands is) in
    let one : Takes old s.pdu (link_fixed plan d l) = all_at (Takes old s.pdu) (map (link_fixed plan d) d.links) i (link_fixed plan d l) takes (slice_get-map (link_fixed plan d) d.links i ∙ ap (option_map (link_fixed plan d)) is) in
    one_laid (config_of s) old mid new (link_fixed plan d l) kept kept' laid can mine.0 mine.1 one may

-- the ends of the new link are named
two_more : {X : Type 0} (xs : List X) (x y z : X) (k : ℕ) → slice_get ((xs ++ x ∷ []) ++ y ∷ []) k ≡ Some z → (slice_get xs k ≡ Some z) ⊎ ((z ≡ x) ⊎ (z ≡ y))
two_more xs x y z k is = elim (pushed_at (xs ++ x ∷ []) y k z is) [
  | inl old ↦ elim (pushed_at xs x k z old) [ inl o ↦ inl o | inr n ↦ inr (inl n.1) ]
  | inr n ↦ inr (inr n.1)
]

pub next_named : (plan : Plan) (d : DifPlan) (l : LinkPlan) (mid new : Seen) (ports : List (Port × Port)) (so : IsBoundSo (link_fixed plan d l) mid new) → AreKept new
    → ((k : ℕ) (port : Port) → slice_get (ends_of ports) k ≡ Some port → IsLinked mid (ipc_name plan d port.node) port)
    → (k : ℕ) (port : Port) → slice_get (ends_of (ports ++ (so.a, so.b) ∷ [])) k ≡ Some port → IsLinked new (ipc_name plan d port.node) port
next_named plan d l mid new ports so kept named k port is = elim (two_more (ends_of ports) so.a so.b port k (ap (λ (ps : List Port). slice_get ps k) (sym (ends_push ports so.a so.b)) ∙ is)) [
  | inl old ↦
      let before = named k port old in
      record { end = before.end; here = stays mid (link_fixed plan d l) so.a so.b new so.bound kept port before.end before.here; app = before.app }
  | inr (inl a) ↦
      let node : port.node ≡ l.a = ap (λ (p : Port). p.node) (a ∙ so.bound.a_fresh) in
      record { end = asker_of mid (link_fixed plan d l) so.a so.b new so.bound; here = ap (end_of new) a ∙ asker_there mid (link_fixed plan d l) so.a so.b new so.bound kept; app = ap (ipc_name plan d) (sym node) }
  | inr (inr b) ↦
      let node : port.node ≡ l.b = ap (λ (p : Port). p.node) (b ∙ so.bound.b_fresh) in
      record { end = far_of mid (link_fixed plan d l) so.a so.b new so.bound; here = ap (end_of new) b ∙ far_there mid (link_fixed plan d l) so.a so.b new so.bound kept; app = ap (ipc_name plan d) (sym node) }
]

-- one link more is laid
pub next_done : (plan : Plan) (d : DifPlan) (s : Settings) (i : ℕ) (l : LinkPlan) (old mid new : Seen) (a b : Port) (ports : List (Port × Port)) (ps ps' : List IpcProcess) → AreMembers (config_of s) → slice_get d.links i ≡ Some l → AreKept mid → AreKept new → l.a ≢ l.b → IsMine (config_of s).members (ipc_name plan d l.a) × IsMine (config_of s).members (ipc_name plan d l.b) → IsHome s a × IsHome s b
    → AreLaid plan d s (take i d.links) old mid ports ps → LaysLink s (link_fixed plan d l) (a, b) mid new ps ps' → AreLaid plan d s (take (i + 1) d.links) old new (ports ++ (a, b) ∷ []) ps'
next_done plan d s i l old mid new a b ports ps ps' members is kept kept' differ mine homes laid lays =
    let f = link_fixed plan d l in
    let first = ports_up s (ends_of ports) a ps lays.between members laid.up lays.a in
    let second = ports_up s (ends_of ports ++ a ∷ []) b lays.between ps' members first lays.b in
    record {
      bound = subst (λ (n : ℕ). BindsAll old (map (link_fixed plan d) (take n d.links)) (ports ++ (a, b) ∷ []) new) (sym (add-one i)) (binds_next (link_fixed plan d) old mid new d.links i l ports a b is laid.bound lays.bound);
      up = subst (λ (es : List Port). AreLinkedUp s es ps') (sym (ends_push ports a b)) second;
      named = next_named plan d l mid new ports (record { a = a; b = b; bound = lays.bound }) kept' laid.named;
      flows = flows_on s mid f a b new ports lays.bound kept' laid.flows (new_link s mid f a b new lays.bound kept' mine.0 mine.1 homes.0 homes.1);
      apart = apart_on mid f a b new ports lays.bound kept differ (λ k port at. (let e = laid.named k port at in (e.end, e.here))) laid.apart;
    }

-- a member stands at the node of each end
pub home_at : (plan : Plan) (d : DifPlan) (s : Settings) (node : ℕ) (port : Port) → AreSettings plan d s → port.node ≡ node → HasNode plan d node → IsHome s port
home_at plan d s node port are same has =
    let k = node_there plan d (processes_before plan.difs are.place) node d.members has in
    let is : slice_get s.members k.0 ≡ Some k.1 = ap (λ (z : Settings). slice_get z.members k.0) are.are ∙ k.2 in
    passes_some (λ (z : Kept). z.node == port.node) s.members k.0 k.1 is (at_node port.node k.1 (k.3 ∙ sym same))

pub settings_members : (plan : Plan) (d : DifPlan) (s : Settings) → IsPlan plan → AreSettings plan d s → AreMembers (config_of s)
settings_members plan d s sound are = subst (λ (z : Settings). AreMembers (config_of z)) (sym are.are) (are_members plan are.place d sound are.stands)

-- In the loop over the links

-- what the loop knows of its link
pub record IsTurn (plan : Plan) (d : DifPlan) (i : ℕ) (f : Fixed) : Type 0 where
  link : LinkPlan
  is : slice_get d.links i ≡ Some link
  fixed : f ≡ link_fixed plan d link

pub its_turn : (plan : Plan) (d : DifPlan) (items : List LinkPlan) (i : ℕ) (f : Fixed) (e : LinkPlan) → items ≡ d.links → i < length items → f ≡ link_fixed plan d (get_or items i e) → IsTurn plan d i f
its_turn plan d items i f e same lt is = record { link = get_or items i e; is = ap (λ (ls : List LinkPlan). slice_get ls i) (sym same) ∙ slice_get-get_or items i e lt; fixed = is }

pub turn_laid : (plan : Plan) (d : DifPlan) (s : Settings) (i : ℕ) (f : Fixed) (old mid new : Seen) → IsTurn plan d i f → IsPlan plan → AreSettings plan d s → AreKept mid → AreKept new → IsLaidIn (config_of s) old mid → CanBindAll mid (map (link_fixed plan d) (drop i d.links)) → All (Takes old s.pdu) (map (link_fixed plan d) d.links) → MayBind f mid new → IsLaidIn (config_of s) old new
turn_laid plan d s i f old mid new t sound are kept kept' laid can takes may =
    next_laid plan d s i t.link old mid new sound are t.is kept kept' laid (can_next (link_fixed plan d) mid d.links i t.link t.is can).0 takes (subst (λ (z : Fixed). MayBind z mid new) t.fixed may)

pub turn_rest : (plan : Plan) (d : DifPlan) (s : Settings) (i : ℕ) (f : Fixed) (mid new : Seen) (pair : Port × Port) (ps ps' : List IpcProcess) → IsTurn plan d i f → CanBindAll mid (map (link_fixed plan d) (drop i d.links)) → LaysLink s f pair mid new ps ps' → CanBindAll new (map (link_fixed plan d) (drop (i + 1) d.links))
turn_rest plan d s i f mid new pair ps ps' t can lays =
    let so = subst (λ (z : Fixed). LaysLink s z pair mid new ps ps') t.fixed lays in
    subst (λ (n : ℕ). CanBindAll new (map (link_fixed plan d) (drop n d.links))) (sym (add-one i)) ((can_next (link_fixed plan d) mid d.links i t.link t.is can).1 pair.0 pair.1 new so.bound)

pub turn_done : (plan : Plan) (d : DifPlan) (s : Settings) (i : ℕ) (f : Fixed) (old mid new : Seen) (pair : Port × Port) (ports : List (Port × Port)) (ps ps' : List IpcProcess) → IsTurn plan d i f → IsPlan plan → AreSettings plan d s → AreKept mid → AreKept new → CanBindAll mid (map (link_fixed plan d) (drop i d.links)) → AreLaid plan d s (take i d.links) old mid ports ps → LaysLink s f pair mid new ps ps' → AreLaid plan d s (take (i + 1) d.links) old new (ports ++ pair ∷ []) ps'
turn_done plan d s i f old mid new pair ports ps ps' t sound are kept kept' can laid lays =
    let l = t.link in
    let so = subst (λ (z : Fixed). LaysLink s z pair mid new ps ps') t.fixed lays in
    let differ = (can_next (link_fixed plan d) mid d.links i l t.is can).0.apart in
    let mine = subst (λ (z : Settings). IsMine (config_of z).members (ipc_name plan d l.a) × IsMine (config_of z).members (ipc_name plan d l.b)) (sym are.are) (link_mine plan are.place d i l sound are.stands t.is) in
    let has = link_nodes plan are.place d i l sound are.stands t.is in
    let homes : IsHome s pair.0 × IsHome s pair.1 = (home_at plan d s l.a pair.0 are (ap (λ (p : Port). p.node) so.bound.a_fresh) has.0, home_at plan d s l.b pair.1 are (ap (λ (p : Port). p.node) so.bound.b_fresh) has.1) in
    next_done plan d s i l old mid new pair.0 pair.1 ports ps ps' (settings_members plan d s sound are) t.is kept kept' differ mine homes laid so

pub turn_can : (plan : Plan) (d : DifPlan) (i : ℕ) (f : Fixed) (mid : Seen) → IsTurn plan d i f → CanBindAll mid (map (link_fixed plan d) (drop i d.links)) → CanBind mid f
turn_can plan d i f mid t can = subst (λ (z : Fixed). CanBind mid z) (sym t.fixed) (can_next (link_fixed plan d) mid d.links i t.link t.is can).0

-- on the whole of the rank below
whole_next : {F : Type 0} (does : F → Fixed → Result (Port × Port) AllocateError → F → Type 0) (fixed : LinkPlan → Fixed) (old mid new : F) (links : List LinkPlan) (i : ℕ) (l : LinkPlan) (ports : Port × Port) → slice_get links i ≡ Some l → BindsInTurn does old (map fixed (take i links)) mid → does mid (fixed l) (Ok ports) new → BindsInTurn does old (map fixed (take (suc i) links)) new
whole_next does fixed old mid new [] i l ports at all one = absurd cc
whole_next does fixed old mid new (x ∷ xs) zero l ports at all one =
    let same : x ≡ l = cc in
    (ports, new, subst (λ s. does s (fixed x) (Ok ports) new) all (subst (λ (z : LinkPlan). does mid (fixed z) (Ok ports) new) (sym same) one), refl)
whole_next does fixed old mid new (x ∷ xs) (suc i) l ports at all one = (all.0, all.1, all.2, whole_next does fixed all.1 mid new xs i l ports at all.3 one)

pub turn_bound : {F : Type 0} (does : F → Fixed → Result (Port × Port) AllocateError → F → Type 0) (plan : Plan) (d : DifPlan) (i : ℕ) (f : Fixed) (old mid new : F) → IsTurn plan d i f → BindsInTurn does old (map (link_fixed plan d) (take i d.links)) mid → (ports : Port × Port) × does mid f (Ok ports) new → BindsInTurn does old (map (link_fixed plan d) (take (i + 1) d.links)) new
turn_bound does plan d i f old mid new t done one =
    let so = subst (λ (z : Fixed). does mid z (Ok one.0) new) t.fixed one.1 in
    subst (λ (n : ℕ). BindsInTurn does old (map (link_fixed plan d) (take n d.links)) new) (sym (add-one i)) (whole_next does (link_fixed plan d) old mid new d.links i t.link one.0 t.is done so)
