-- A change of one wire keeps all wires sound.
use Rattle.std.proofs.Common.{◌≡◌, ℕ, ◌+◌, ◌==◌, cond, List, [], ◌∷◌, slice_get, slice_set, Some, None, Option, option_map, All, refl, sym, ap, ◌∙◌, arith, subst}
use Rattle.std.proofs.Common.{◌<◌, Bool, true, IsSome, inl, inr, length, length-set, drop, rules, suc, take}
use Rattle.std.proofs.lemmas.List.Elements.{All-append, All-drop, All-set, All-take}
use Rattle.rina_iface.proofs.Changed.{set_at}
use Rattle.rina_iface.proofs.Grown.{still_at}
use Rattle.rina_wire.specs.Send.{unpassed_at}
use Rattle.rina_wire.specs.Sound.{IsCopy, IsFarPlace, KeepsFlows, site_of}
use Rattle.rina_wire.proofs.Changes.{ends_passed, ends_sent}
use Rattle.rina_wire.proofs.Copies.{copies_new, copies_set}
use Rattle.rina_wire.proofs.Kept.{sound_of}
use Rattle.rand_pcg.specs.Lcg.{Lcg}
use Rattle.rina_base.specs.declared.number.Port.{Port}
use Rattle.rina_base.specs.declared.storm.Storm.{Storm}
use Rattle.rina_draws.specs.Storm.{IsWithin, after_frames, fate_drawn}
use Rattle.rina_draws.proofs.Within.{fate_within}
use Rattle.rina_stack.specs.Rules.{spread_of}
use Rattle.rina_wire.specs.Storm.{draws_at, fate_under}
use Rattle.rina_law.specs.declared.entry.Entry.{Entry}
use Rattle.rina_iface.specs.declared.ends.End.{End}
use Rattle.rina_iface.specs.declared.state.PortState.TheVariants.{Allocated}
use Rattle.rina_iface.specs.Ends.{drawn_at, place_in, with_passed, with_sent}
use Rattle.rina_iface.specs.Seen.{oldest_in}
use Rattle.rina_wire.specs.declared.flight.Flight.{Flight}
use Rattle.rina_wire.specs.Air.{Air, Line, failed_air, on_end, on_wire, put_at, put_end, wire_at}
use Rattle.rina_wire.specs.Claim.{ClaimsOn, without}
use Rattle.rina_wire.specs.Register.{named}
use Rattle.rina_wire.specs.Send.{passed, passed_at, sent_from}
use Rattle.rina_wire.specs.Sound.{IsSound, IsSoundLine}
use Rattle.rina_iface.proofs.Changed.{all_at}
use Rattle.rina_iface.specs.declared.ask.Registered.{Registered}
use Rattle.rina_wire.specs.Air.{put}
use Rattle.rina_wire.specs.Send.{flights_of, next_entry, next_fate}
use Rattle.rina_iface.specs.Register.{with_name}
use Rattle.std.proofs.Common.{add-one, remove}
use Rattle.std.proofs.Common.{get_or}
use Rattle.std.proofs.lemmas.Option.{get_or_from_slice_get, slice_get_within}
use Rattle.std.proofs.lemmas.List.Sums.{sum_by-set}

abbrev pub C : End → Type 0
C e = e.cube ≡ 0

-- the same ports were drawn, of the same cube
pub record IsLike (es es' : List End) : Type 0 where
  pub cubes : All C es → All C es'
  pub drawn : (node : ℕ) → drawn_at node es' ≡ drawn_at node es
  pub size : length es' ≡ length es

pub like_refl : (es : List End) → IsLike es es
like_refl es = record { cubes = λ a. a; drawn = λ node. refl; size = refl }

pub like_trans : (x y z : List End) → IsLike x y → IsLike y z → IsLike x z
like_trans x y z p q = record { cubes = λ a. q.cubes (p.cubes a); drawn = λ node. q.drawn node ∙ p.drawn node; size = q.size ∙ p.size }

-- 1 where the end is at that node
abbrev pub one_at : ℕ → End → ℕ
one_at node e = cond (e.port.node == node) 1 0

drawn_set : (node : ℕ) (es : List End) (i : ℕ) (e e' : End) → slice_get es i ≡ Some e → e'.port ≡ e.port → drawn_at node (slice_set es i e') ≡ drawn_at node es
drawn_set node es i e e' h same =
    let at : get_or es i e ≡ e = get_or_from_slice_get es i e e h in
    let was : one_at node (get_or es i e) ≡ one_at node e = ap (one_at node) at in
    let moved : drawn_at node (slice_set es i e') + one_at node (get_or es i e) ≡ drawn_at node es + one_at node e' = sum_by-set (one_at node) es i e' e (slice_get_within es i e h) in
    let ones : one_at node e' ≡ one_at node e = ap (λ (q : Port). cond (q.node == node) 1 0) same in
    omega (arith, moved, was, ones)

-- an end changed, but for its port and its cube
pub like_set : (es : List End) (i : ℕ) (e e' : End) → slice_get es i ≡ Some e → e'.port ≡ e.port → e'.cube ≡ e.cube → IsLike es (slice_set es i e')
like_set es i e e' h port cube = record {
  cubes = λ a. All-set C es i e' (cube ∙ all_at C es i e a h) a;
  drawn = λ node. drawn_set node es i e e' h port;
  size = length-set es i e';
}

-- only the ends of a sound wire matter, beside what never changes
pub keeps : (l : Line) (es : List End) (ws : List ℕ) (ns : List Registered) (fs : List Flight) → IsSoundLine l → IsLike l.ends es → IsSoundLine (record l { ends = es; waiting = ws; names = ns; flights = fs })
keeps l es ws ns fs s like = record {
  apart = s.apart;
  least_delay = s.least_delay;
  arrives = s.arrives;
  life = s.life;
  largest = s.largest;
  storm = s.storm;
  draws = s.draws;
  cubes = like.cubes s.cubes;
  drawn_a = like.drawn l.a ∙ s.drawn_a;
  drawn_b = like.drawn l.b ∙ s.drawn_b;
}

-- a change that keeps a wire sound keeps all wires sound
sound_put : (ls : List Line) (fac : ℕ) (change : Line → Line) (o : Option Line) → slice_get ls fac ≡ o → All IsSoundLine ls → ((l : Line) → slice_get ls fac ≡ Some l → IsSoundLine l → IsSoundLine (change l)) → All IsSoundLine (put ls fac (option_map change o))
sound_put ls fac change None h all keep = all
sound_put ls fac change (Some l) h all keep = All-set IsSoundLine ls fac (change l) (keep l h (all_at IsSoundLine ls fac l all h)) all

-- so does one that keeps its flows
flows_put : (a : Air) (fac : ℕ) (change : Line → Line) (o : Option Line) → wire_at a fac ≡ o → ((n : ℕ) (l : Line) → wire_at a n ≡ Some l → KeepsFlows a.now a.failed n l) → ((l : Line) → wire_at a fac ≡ Some l → KeepsFlows a.now a.failed fac (change l)) → (n : ℕ) (l : Line) → slice_get (put a.wires fac (option_map change o)) n ≡ Some l → KeepsFlows a.now a.failed n l
flows_put a fac change None h flows keep n l is = flows n l is
flows_put a fac change (Some k) h flows keep n l is = elim (set_at a.wires fac n k (change k) l h is) [
  | inl t ↦ rw (t.0, t.1) (keep k h)
  | inr f ↦ flows n l f.1
]

pub sound_on_wire : (a : Air) (fac : ℕ) (change : Line → Line) → IsSound a → ((l : Line) → wire_at a fac ≡ Some l → IsSoundLine l → IsSoundLine (change l)) → ((l : Line) → wire_at a fac ≡ Some l → IsSoundLine l → KeepsFlows a.now a.failed fac l → KeepsFlows a.now a.failed fac (change l)) → IsSound (on_wire a fac change)
sound_on_wire a fac change s keep keep_flows =
    sound_of (on_wire a fac change) s.clock (sound_put a.wires fac change (wire_at a fac) refl s.lines keep) (flows_put a fac change (wire_at a fac) refl s.flows (λ l h. keep_flows l h (all_at IsSoundLine a.wires fac l s.lines h) (s.flows fac l h)))

-- after an allocation has failed no copy arrives
flows_failed : (now : ℕ) (failed : Bool) (fac : ℕ) (l : Line) → KeepsFlows now failed fac l → KeepsFlows now true fac l
flows_failed now failed fac l k = record { pairs = k.pairs; sound = k.sound; waiting = k.waiting; copies = λ h. cc }

pub sound_failed : (a : Air) → IsSound a → IsSound (failed_air a)
sound_failed a s = sound_of (failed_air a) s.clock s.lines (λ fac l h. flows_failed a.now a.failed fac l (s.flows fac l h))

-- other names and other places that wait
pub flows_of : (now : ℕ) (failed : Bool) (fac : ℕ) (l : Line) (ws : List ℕ) (ns : List Registered) → KeepsFlows now failed fac l → All (IsFarPlace (length l.ends)) ws → KeepsFlows now failed fac (record l { waiting = ws; names = ns })
flows_of now failed fac l ws ns k far = record { pairs = k.pairs; sound = k.sound; waiting = far; copies = k.copies }

pub named_flows : (now : ℕ) (failed : Bool) (fac node : ℕ) (app : List ℕ) (l : Line) → KeepsFlows now failed fac l → KeepsFlows now failed fac (named node app l)
named_flows now failed fac node app l k = flows_of now failed fac l l.waiting (with_name l.names node app) k k.waiting

pub named_stays : (node : ℕ) (app : List ℕ) (l : Line) → IsSoundLine l → IsSoundLine (named node app l)
named_stays node app l s = keeps l l.ends l.waiting (with_name l.names node app) l.flights s (like_refl l.ends)

without_stays : (l : Line) (o : Option ℕ) → IsSoundLine l → IsSoundLine (without l o)
without_stays l None s = s
without_stays l (Some at) s = keeps l l.ends (remove l.waiting at) l.names l.flights s (like_refl l.ends)

pub all_remove : {X : Type 0} (P : X → Type 0) (xs : List X) (i : ℕ) → All P xs → All P (remove xs i)
all_remove P xs i all = All-append P (take i xs) (drop (suc i) xs) (All-take P i xs all) (All-drop P (suc i) xs all)

without_flows : (now : ℕ) (failed : Bool) (fac : ℕ) (l : Line) (o : Option ℕ) → KeepsFlows now failed fac l → KeepsFlows now failed fac (without l o)
without_flows now failed fac l None k = k
without_flows now failed fac l (Some at) k = flows_of now failed fac l (remove l.waiting at) l.names k (all_remove (IsFarPlace (length l.ends)) l.waiting at k.waiting)

pub sound_claims : (a : Air) (fac node : ℕ) (app : List ℕ) (r : Option Port) (a' : Air) → IsSound a → ClaimsOn a fac node app r a' → IsSound a'
sound_claims a fac node app r a' s g = subst IsSound (sym g.air) (sound_on_wire a fac (λ (l : Line). without l (oldest_in l.ends l.waiting node app)) s (λ l h k. without_stays l (oldest_in l.ends l.waiting node app) k) (λ l h k f. without_flows a.now a.failed fac l (oldest_in l.ends l.waiting node app) f))

-- a change of the end of a port
put_end_keeps : (P : Line → Type 0) (l : Line) (change : Line → ℕ → End → Line) (o : Option ℕ) → ((i : ℕ) (e : End) → o ≡ Some i → slice_get l.ends i ≡ Some e → P (change l i e)) → P l → P (put_end change l o)
put_end_keeps P l change None keep s = s
put_end_keeps P l change (Some i) keep s = elim (slice_get l.ends i) as (λ o. slice_get l.ends i ≡ o → P (put_at change l i o)) [ None ↦ λ h. s | Some e ↦ λ h. keep i e refl h ] refl

pub sound_on_end : (a : Air) (port : Port) (change : Line → ℕ → End → Line) → IsSound a → ((l : Line) (i : ℕ) (e : End) → IsSoundLine l → slice_get l.ends i ≡ Some e → IsSoundLine (change l i e)) → ((l : Line) (i : ℕ) (e : End) → wire_at a port.fac ≡ Some l → place_in port l.ends ≡ Some i → slice_get l.ends i ≡ Some e → IsSoundLine l → KeepsFlows a.now a.failed port.fac l → KeepsFlows a.now a.failed port.fac (change l i e)) → IsSound (on_end a port change)
sound_on_end a port change s keep keep_flows = sound_on_wire a port.fac (λ (l : Line). put_end change l (place_in port l.ends)) s (λ l h k. put_end_keeps IsSoundLine l change (place_in port l.ends) (λ i e at g. keep l i e k g) k) (λ l h k f. put_end_keeps (KeepsFlows a.now a.failed port.fac) l change (place_in port l.ends) (λ i e at g. keep_flows l i e h at g k f) f)

passed_stays : (l : Line) (i : ℕ) (e : End) → IsSoundLine l → slice_get l.ends i ≡ Some e → IsSoundLine (passed_at l i e)
passed_stays l i e s h = keeps l (slice_set l.ends i (with_passed e)) l.waiting l.names l.flights s (like_set l.ends i e (with_passed e) h refl refl)

-- what waits to be passed was got
some_within : (xs : List Entry) (i : ℕ) → IsSome (slice_get xs i) → i < length xs
some_within xs i h = elim (slice_get xs i) as (λ o. slice_get xs i ≡ o → IsSome o → i < length xs) [ None ↦ λ is w. search (rules, w) | Some x ↦ λ is w. slice_get_within xs i x is ] refl h

passed_flows : (now : ℕ) (failed : Bool) (fac : ℕ) (l : Line) (i : ℕ) (e : End) → KeepsFlows now failed fac l → slice_get l.ends i ≡ Some e → e.taken < length e.got → KeepsFlows now failed fac (passed_at l i e)
passed_flows now failed fac l i e k at lt =
    let size = length-set l.ends i (with_passed e) in
    record {
      pairs = size ∙ k.pairs;
      sound = ends_passed (site_of fac l) now l.frames l.ends i e k.sound at lt;
      waiting = subst (λ (n : ℕ). All (IsFarPlace n) l.waiting) (sym size) k.waiting;
      copies = λ alive. copies_set l.life now l.ends i e (with_passed e) l.flights at refl (λ j x h. h) (k.copies alive);
    }

-- the end that waits is that of the port
waits_here : (a : Air) (port : Port) (l : Line) (i : ℕ) (e : End) → wire_at a port.fac ≡ Some l → place_in port l.ends ≡ Some i → slice_get l.ends i ≡ Some e → IsSome (unpassed_at a port) → e.taken < length e.got
waits_here a port l i e wire place at w = some_within e.got e.taken (rw (wire, place, at) at w)

pub sound_passed : (a : Air) (port : Port) → IsSound a → IsSome (unpassed_at a port) → IsSound (passed a port)
sound_passed a port s w = sound_on_end a port passed_at s passed_stays (λ l i e wire place at line k. passed_flows a.now a.failed port.fac l i e k at (waits_here a port l i e wire place at w))

-- the generator after one more frame
draws_next : (storm : Option Storm) (g : Lcg) (frames : ℕ) → g ≡ draws_at storm frames → (fate_under storm g).1 ≡ draws_at storm (frames + 1)
draws_next None g frames is = is
draws_next (Some storm) g frames is = ap (λ (h : Lcg). (fate_drawn storm h).1) is ∙ ap (after_frames storm) (sym (add-one frames))

pub sent_stays : (now : ℕ) (bytes : List ℕ) (l : Line) (i : ℕ) (e : End) → IsSoundLine l → slice_get l.ends i ≡ Some e → IsSoundLine (sent_from now bytes l i e)
sent_stays now bytes l i e s h =
    let like = like_set l.ends i e (with_sent e (next_entry now bytes l)) h refl refl in
    record {
      apart = s.apart;
      least_delay = s.least_delay;
      arrives = s.arrives;
      life = s.life;
      largest = s.largest;
      storm = s.storm;
      draws = draws_next l.storm l.draws l.frames s.draws;
      cubes = like.cubes s.cubes;
      drawn_a = like.drawn l.a ∙ s.drawn_a;
      drawn_b = like.drawn l.b ∙ s.drawn_b;
    }

-- no storm delays a frame by more than its spread
fate_short : (storm : Option Storm) (g : Lcg) → IsWithin (spread_of storm) (fate_under storm g).0
fate_short None g = (omega arith, tt)
fate_short (Some storm) g = fate_within storm g

pub sent_flows : (now : ℕ) (failed : Bool) (fac : ℕ) (bytes : List ℕ) (l : Line) (i : ℕ) (e : End) → IsSoundLine l → KeepsFlows now failed fac l → e.state ≡ Allocated → slice_get l.ends i ≡ Some e → KeepsFlows now failed fac (sent_from now bytes l i e)
sent_flows now failed fac bytes l i e line k allocated at =
    let x : Entry = next_entry now bytes l in
    let fate = (next_fate l).0 in
    let size = length-set l.ends i (with_sent e x) in
    let P : Flight → Type 0 = IsCopy l.life now (slice_set l.ends i (with_sent e x)) in
    record {
      pairs = size ∙ k.pairs;
      sound = ends_sent (site_of fac l) now l.frames l.ends i e x k.sound at refl refl;
      waiting = subst (λ (n : ℕ). All (IsFarPlace n) l.waiting) (sym size) k.waiting;
      copies = λ alive. All-append P l.flights (flights_of now bytes l i fate) (copies_set l.life now l.ends i e (with_sent e x) l.flights at refl (λ j y h. still_at e.sent (x ∷ []) j y h) (k.copies alive)) (copies_new now bytes l i e fate line (fate_short l.storm l.draws) allocated at);
    }
