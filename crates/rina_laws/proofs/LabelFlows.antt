-- What an ask and a claim of an application do to the facilities of all ranks.
use Rattle.std.proofs.Common.{◌≡◌, ◌≢◌, ◌∙◌, ℕ, Bool, true, false, List, [], ◌∷◌, ◌++◌, append-nil, slice_set, Option, Some, None, option_map, Result, Ok, Err, refl, sym, ap, subst, inl, inr, ◌⊎◌}
use Rattle.std.specs.Prelude.{◌||◌}
use Rattle.std.proofs.lemmas.Option.{none-some, same_Some}
use Rattle.rina_base.specs.declared.number.FlowName.{FlowName}
use Rattle.rina_base.specs.declared.number.Port.{Port}
use Rattle.rina_iface.specs.declared.ask.Ask.{Ask}
use Rattle.rina_iface.specs.declared.ends.End.{End}
use Rattle.rina_iface.specs.declared.error.AllocateError.{AllocateError}
use Rattle.rina_iface.specs.declared.error.AllocateError.TheVariants as allocate
use Rattle.rina_iface.specs.declared.state.PortState.{PortState}
use Rattle.rina_iface.specs.declared.state.PortState.TheVariants.{Allocated, Pending}
use Rattle.rina_iface.specs.Allocate.{Allocates, IsAsked, Makes, asker_end, far_end, next_port}
use Rattle.rina_iface.specs.Seen.{Fac, Seen}
use Rattle.rina_wire.specs.Air.{Air, seen_of as seen_of_wires}
use Rattle.rina_wire.specs.Allocate.{AllocatesOn}
use Rattle.rina_wire.proofs.SoundAllocate.{sound_allocates}
use Rattle.rina_tower.specs.declared.applications.AppError.{AppError}
use Rattle.rina_tower.specs.declared.applications.AppError.TheVariants as apps
use Rattle.rina_tower.specs.declared.tower.Tower.{Tower, Rank', Wires}
use Rattle.rina_tower.specs.Applications.{Answers, AppAllocates}
use Rattle.rina_tower.specs.Bystanders.{is_ipc}
use Rattle.rina_tower.specs.Calls.{AllocatesAtTop}
use Rattle.rina_tower.specs.Ranks.{now_of, rank_of, seen_of_difs}
use Rattle.rina_tower.specs.Refusals.{own_allocate}
use Rattle.rina_tower.specs.Stands.{IsTower}
use Rattle.rina_tower.specs.Levels.{AtRank}
use Rattle.rina_wire.proofs.Asked.{seen_allocates}
use Rattle.rina_tower.proofs.Serving.{allocates_seen, rank_allocates}
use Rattle.rina_laws.proofs.LabelCalls.{AllRest, RestsHere, call_rests, rests_nothing}
use Rattle.rina_laws.proofs.LabelEnds.{HavePorts, number_tells, ports_kept}
use Rattle.rina_laws.proofs.LabelGrown.{GrownAt, IsGrown, grown}
use Rattle.rina_laws.proofs.LabelRanks.{AllPorts, Both, IsIdle, Shown, both_as, both_from, both_on, facs_of, has_rank, rank_kept, shown}
use Rattle.rina_laws.proofs.LabelRests.{rest_same}
use Rattle.rina_laws.proofs.LabelSends.{DoesHere, call_at}

-- this is done at rank r, and nothing at the others
abbrev pub Only : ℕ → (List Fac → List Fac → Type 0) → ℕ → List Fac → List Fac → Type 0
Only r P k fs fs' = (k ≡ r → P fs fs') × (k ≢ r → fs' ≡ fs)

only_idle : (r : ℕ) (P : List Fac → List Fac → Type 0) → IsIdle (Only r P) r
only_idle r P k ne fs fs' is = (λ same. absurd (ne same), λ other. is)

-- where the rank is there, it was done
pub record DoneAt (r : ℕ) (P : List Fac → List Fac → Type 0) (g g' : Shown) : Type 0 where
  pub facs : List Fac
  pub is_rank : g r ≡ Some facs
  pub facs' : List Fac
  pub is_rank' : g' r ≡ Some facs'
  pub done : P facs facs'
  pub others : (k : ℕ) → k ≢ r → Both (λ fs fs'. fs' ≡ fs) (g k) (g' k)

pub done_at : (r : ℕ) (P : List Fac → List Fac → Type 0) (does : Tower → Tower → Type 0) (none : Type 0) (t t' : Tower) → ((u u' : Tower) → rank_of t r ≡ Some u → does u u' → DoesHere P u u') → (none → ⊥) → AtRank r does none t t' → DoneAt r P (shown t) (shown t')
done_at r P does none t t' own never d =
    let all = call_at (Only r P) r does none t t' (λ u u' is w. (let x = own u u' is w in record { below = x.below; done = (λ same. x.done, λ other. absurd (other refl)) })) (only_idle r P) d in
    let there = has_rank r does none t t' never d in
    let is : shown t r ≡ Some (facs_of there.0) = ap (option_map facs_of) there.1 in
    let b = both_on (Only r P r) (shown t r) (shown t' r) (facs_of there.0) (all.rank r) is in
    record { facs = facs_of there.0; is_rank = is; facs' = b.0; is_rank' = b.1; done = b.2.0 refl; others = λ k ne. both_as (Only r P k) (λ fs fs'. fs' ≡ fs) (shown t k) (shown t' k) (λ fs fs' o. o.1 ne) (all.rank k) }

-- ---- allocate

-- an end has no journal yet
abbrev pub IsBlank : End → Type 0
IsBlank e = (e.sent ≡ []) × (e.got ≡ []) × (e.taken ≡ 0)

-- an end was made, which has the port, and the far end with it or not yet. Neither has a journal yet
pub record IsFlow (ask : Ask) (port : Port) (fs fs' : List Fac) : Type 0 where
  pub asker : End
  pub far : Option End
  pub its : port ≡ asker.port
  pub app : asker.app ≡ ask.app
  pub far_app : (e : End) → far ≡ Some e → e.app ≡ ask.to
  pub asker_new : IsBlank asker
  pub far_new : (e : End) → far ≡ Some e → IsBlank e
  pub grown : IsGrown fs ask.fac asker far fs'
  pub ports : HavePorts fs'

-- one facility made it
record HasMade (ask : Ask) (port : Port) (f f' : Fac) : Type 0 where
  asker : End
  far : Option End
  its : port ≡ asker.port
  app : asker.app ≡ ask.app
  far_app : (e : End) → far ≡ Some e → e.app ≡ ask.to
  asker_new : IsBlank asker
  far_new : (e : End) → far ≡ Some e → IsBlank e
  is : f' ≡ grown f asker far

makes_flow : (state : PortState) (f : Fac) (flow : FlowName) (port : Port) (ask : Ask) (cube : ℕ) (f' : Fac) → Makes state f flow port ask cube f' → HasMade ask port f f'
makes_flow Pending f flow port ask cube f' w =
    let asker : End = asker_end flow port ask cube Pending in
    record {
      asker = asker;
      far = None;
      its = refl;
      app = refl;
      far_app = λ e same. absurd (none-some e same);
      asker_new = (refl, refl, refl);
      far_new = λ e same. absurd (none-some e same);
      is = w ∙ ap (λ (ws : List ℕ). record f { ends = f.ends ++ asker ∷ []; waiting = ws }) (sym (append-nil f.waiting));
    }
makes_flow Allocated f flow port ask cube f' w =
    let far : End = far_end flow (next_port f ask.fac w.0) ask cube in
    record {
      asker = asker_end flow port ask cube Allocated;
      far = Some far;
      its = refl;
      app = refl;
      far_app = λ e same. ap (λ (z : End). z.app) (sym (same_Some far e same));
      asker_new = (refl, refl, refl);
      far_new = λ e same. subst IsBlank (same_Some far e same) (refl, refl, refl);
      is = w.1;
    }
makes_flow state f flow port ask cube f' w = absurd w

-- so a rank that was asked for it
flow_of : (ask : Ask) (port : Port) (s s' : Seen) → HavePorts s'.facs → IsAsked s ask port s' → IsFlow ask port s.facs s'.facs
flow_of ask port s s' ports a =
    let m = makes_flow a.state a.facility a.flow port ask a.cube.id a.facility' a.makes in
    record {
      asker = m.asker;
      far = m.far;
      its = m.its;
      app = m.app;
      far_app = m.far_app;
      asker_new = m.asker_new;
      far_new = m.far_new;
      grown = record { facility = a.facility; stands = a.stands; new_is = ap (λ (z : Seen). z.facs) a.new_is ∙ ap (slice_set s.facs ask.fac) m.is };
      ports = ports;
    }

pub flow_here : (ask : Ask) (port : Port) (u u' : Tower) → IsTower u → AllocatesAtTop ask (Ok port) u u' → DoesHere (IsFlow ask port) u u'
flow_here ask port (Wires a) (Wires a') v w =
    let kept = (sound_allocates a ask (Ok port) a' v w).kept in
    record { below = tt; done = flow_of ask port (seen_of_wires a) (seen_of_wires a') (ports_kept (seen_of_wires a') kept) (seen_allocates a ask (Ok port) a' v w).1 }
flow_here ask port (Rank' p difs below) (Rank' p' difs' below') v w =
    let rank = rank_allocates ask (Ok port) (Ok port ≡ Err allocate.NoMember) difs difs' below v.0 v.1 w.0 in
    let s = seen_of_difs (now_of below) difs in
    let s' = seen_of_difs (now_of below) difs' in
    record { below = w.1; done = flow_of ask port s s' (ports_kept s' rank.kept) (allocates_seen ask (Ok port) difs difs' below v.0 w.0).1 }
flow_here ask port (Wires a) (Rank' p difs below) v w = absurd w
flow_here ask port (Rank' p difs below) (Wires a) v w = absurd w

abbrev AllocatesThere : Ask → Result Port (AppError AllocateError) → Tower → Tower → Type 0
AllocatesThere ask r u u' = Answers (is_ipc ask.app || is_ipc ask.to) (λ x. AllocatesAtTop ask x u u') (u' ≡ u) r

left_false : (a b : Bool) → a || b ≡ false → a ≡ false
left_false true b h = h
left_false false b h = refl

-- the ends stand in a facility of rank r, and nothing else changed
pub record HasFlow (r : ℕ) (ask : Ask) (port : Port) (g g' : Shown) : Type 0 where
  pub asker : End
  pub far : Option End
  pub its : port ≡ asker.port
  pub plain : is_ipc asker.app ≡ false
  pub asker_new : IsBlank asker
  pub far_new : (e : End) → far ≡ Some e → IsBlank e
  pub grown : GrownAt g r ask.fac asker far g'
  pub ports : AllPorts g'

-- a flow of an application
record IsAppFlow (ask : Ask) (port : Port) (fs fs' : List Fac) : Type 0 where
  flow : IsFlow ask port fs fs'
  plain : is_ipc ask.app ≡ false

pub ports_after : (g g' : Shown) (r : ℕ) (fs' : List Fac) → AllPorts g → g' r ≡ Some fs' → HavePorts fs' → ((k : ℕ) → k ≢ r → Both (λ xs ys. ys ≡ xs) (g k) (g' k)) → AllPorts g'
ports_after g g' r fs' ports is own others = record { of = λ k ys h. by_rank k ys h (number_tells k r) }
  where
    by_rank : (k : ℕ) (ys : List Fac) → g' k ≡ Some ys → (k ≡ r) ⊎ (k ≢ r) → HavePorts ys
    by_rank k ys h (inl t) = subst HavePorts (same_Some fs' ys (sym is ∙ subst (λ (n : ℕ). g' n ≡ Some ys) t h)) own
    by_rank k ys h (inr o) = (let b = both_from (λ xs ys. ys ≡ xs) (g k) (g' k) ys (others k o) h in subst HavePorts (sym b.2) (ports.of k b.0 b.1))

not_both : {X E : Type 0} (x : X) (e : E) → Ok x ≡ Err e → ⊥
not_both x e clash = cc

pub app_allocates : (r : ℕ) (ask : Ask) (port : Port) (t t' : Tower) → IsTower t → AllPorts (shown t) → AppAllocates r ask (Ok port) t t' → HasFlow r ask port (shown t) (shown t')
app_allocates r ask port t t' v ports d =
    let n = done_at r (IsAppFlow ask port) (AllocatesThere ask (Ok port)) _ t t' (λ u u' is w.
    let x = flow_here ask port u u' (rank_kept t r u v is) w.1 in
    record { below = x.below; done = record { flow = x.done; plain = left_false (is_ipc ask.app) (is_ipc ask.to) w.0 } }) (λ no. not_both port apps.NoRank no) d in
    let f = n.done.flow in
    record {
      asker = f.asker;
      far = f.far;
      its = f.its;
      plain = ap is_ipc f.app ∙ n.done.plain;
      asker_new = f.asker_new;
      far_new = f.far_new;
      grown = record { facs = n.facs; is_rank = n.is_rank; facs' = n.facs'; is_rank' = n.is_rank'; grown = f.grown; others = n.others };
      ports = ports_after (shown t) (shown t') r n.facs' ports n.is_rank' f.ports n.others;
    }

-- an ask that is refused

refused_same : (own : Option AllocateError) (s : Seen) (ask : Ask) (e : AllocateError) (s' : Seen) → Allocates own s ask (Err e) s' → s' ≡ s
refused_same own s ask allocate.Memory s' g = g
refused_same own s ask allocate.NoMember s' g = g.1
refused_same own s ask allocate.NoCube s' g = g.1
refused_same own s ask allocate.NoSuchApp s' g = g.1
refused_same own s ask allocate.SameSystem s' g = g.1
refused_same own s ask (allocate.NoIds used) s' g = g.1
refused_same own s ask (allocate.NoRoute dst) s' g = g.1
refused_same own s ask (allocate.Busy port) s' g = g.1
refused_same own s ask (allocate.CountSpent n k) s' g = g.1

refused_on : (a : Air) (ask : Ask) (e : AllocateError) (a' : Air) → AllocatesOn a ask (Err e) a' → seen_of_wires a' ≡ seen_of_wires a
refused_on a ask allocate.Memory a' g = ap seen_of_wires g
refused_on a ask allocate.NoMember a' g = ap seen_of_wires g.air
refused_on a ask allocate.NoCube a' g = ap seen_of_wires g.air
refused_on a ask allocate.NoSuchApp a' g = ap seen_of_wires g.air
refused_on a ask allocate.SameSystem a' g = ap seen_of_wires g.air
refused_on a ask (allocate.NoIds used) a' g = ap seen_of_wires g.air
refused_on a ask (allocate.NoRoute dst) a' g = ap seen_of_wires g.air
refused_on a ask (allocate.Busy port) a' g = ap seen_of_wires g.air
refused_on a ask (allocate.CountSpent n k) a' g = ap seen_of_wires g.air

pub rests_ask : (ask : Ask) (e : AllocateError) (u u' : Tower) → IsTower u → AllocatesAtTop ask (Err e) u u' → RestsHere u u'
rests_ask ask e (Wires a) (Wires a') v w = record { below = tt; rests = rest_same (facs_of (Wires a)) (facs_of (Wires a')) (ap (λ (z : Seen). z.facs) (refused_on a ask e a' w)) }
rests_ask ask e (Rank' p difs below) (Rank' p' difs' below') v w =
    let s = seen_of_difs (now_of below) difs in
    let s' = seen_of_difs (now_of below) difs' in
    record { below = w.1; rests = rest_same s.facs s'.facs (ap (λ (z : Seen). z.facs) (refused_same (own_allocate difs ask) s ask e s' (allocates_seen ask (Err e) difs difs' below v.0 w.0))) }
rests_ask ask e (Wires a) (Rank' p difs below) v w = absurd w
rests_ask ask e (Rank' p difs below) (Wires a) v w = absurd w

ask_refusal : (ask : Ask) (e : AppError AllocateError) (u u' : Tower) → IsTower u → AllocatesThere ask (Err e) u u' → RestsHere u u'
ask_refusal ask (apps.Call e) u u' v w = rests_ask ask e u u' v w.1
ask_refusal ask apps.NotYours u u' v w = rests_nothing u u' w.1
ask_refusal ask apps.NoRank u u' v w = absurd w

pub app_ask_refused : (r : ℕ) (ask : Ask) (e : AppError AllocateError) (t t' : Tower) → IsTower t → AppAllocates r ask (Err e) t t' → AllRest t t'
app_ask_refused r ask e t t' v d = call_rests r (AllocatesThere ask (Err e)) _ t t' v (λ u u' k w. ask_refusal ask e u u' k w) d
