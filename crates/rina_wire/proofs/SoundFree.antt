-- Wires stay sound where a port is freed.
use Rattle.std.proofs.Common.{◌≡◌, ℕ, cond, Bool, true, false, List, [], All, get_or, length, slice_get, slice_set, Some, None, Result, Ok, Err, refl, sym, ◌∙◌, ap, subst}
use Rattle.std.proofs.lemmas.List.Elements.{All-nil}
use Rattle.std.proofs.lemmas.Option.{slice_get-get_or, slice_get_within}
use Rattle.rina_base.specs.declared.number.Port.{Port}
use Rattle.rina_iface.specs.declared.ends.End.{End}
use Rattle.rina_iface.specs.declared.error.FreeError.{FreeError}
use Rattle.rina_iface.specs.declared.error.FreeError.TheVariants.{Memory, NoPort}
use Rattle.rina_iface.specs.declared.state.PortState.TheVariants.{Closed}
use Rattle.rina_iface.specs.Journal.{At}
use Rattle.rina_iface.specs.State.{with_state}
use Rattle.rina_wire.specs.Air.{Air, Line}
use Rattle.rina_wire.specs.Allocate.{is_allocated}
use Rattle.rina_wire.specs.Free.{FreesOn, closed_at, closed_both, closed_in, freed_at}
use Rattle.rina_wire.specs.Send.{mate}
use Rattle.rina_wire.specs.Sound.{IsCopy, IsFarPlace, IsSound, IsSoundLine, KeepsFlows, site_of}
use Rattle.rina_wire.proofs.Mates.{mate_within}
use Rattle.rina_wire.proofs.Restated.{closed_restated, sound_restated, still_mate, was_closed}
use Rattle.rina_wire.proofs.SoundCut.{OnlyStates, states_same}
use Rattle.rina_wire.proofs.Sound.{IsLike, keeps, like_set, like_refl, like_trans, sound_failed, sound_on_end}

-- the other end of a flow
pub record HasMate (ends : List End) (p : ℕ) : Type 0 where
  pub other : End
  pub stands : At ends (mate p) other

pub mate_of : (now : ℕ) (failed : Bool) (fac : ℕ) (l : Line) (p : ℕ) (e : End) → KeepsFlows now failed fac l → At l.ends p e → HasMate l.ends p
mate_of now failed fac l p e k at =
    let within = mate_within p (length l.ends) l.flows k.pairs (slice_get_within l.ends p e at) in
    record { other = get_or l.ends (mate p) e; stands = slice_get-get_or l.ends (mate p) e within }

like_closed_at : (ends : List End) (p : ℕ) → IsLike ends (closed_at ends p)
like_closed_at ends p = elim (slice_get ends p) as (λ o. slice_get ends p ≡ o → IsLike ends (closed_in ends p o)) [
  | None ↦ λ h. like_refl ends
  | Some e ↦ λ h. like_set ends p e (with_state e Closed) h refl refl
] refl

like_closed : (ends : List End) (p : ℕ) → IsLike ends (closed_both ends p)
like_closed ends p = like_trans ends (closed_at ends p) (closed_both ends p) (like_closed_at ends p) (like_closed_at (closed_at ends p) (mate p))

-- the two ends, one after the other
pub both_is : (ends : List End) (p : ℕ) (e other : End) → At ends p e → At ends (mate p) other → closed_both ends p ≡ slice_set (slice_set ends p (with_state e Closed)) (mate p) (with_state other Closed)
both_is ends p e other he ho =
    let first : closed_at ends p ≡ slice_set ends p (with_state e Closed) = rw he refl in
    ap (λ (es : List End). closed_at es (mate p)) first ∙ rw (still_mate ends p e other ho) refl

freed_stays : (l : Line) (p : ℕ) (e : End) → IsSoundLine l → slice_get l.ends p ≡ Some e → IsSoundLine (freed_at l p e)
freed_stays l p e s at = elim (is_allocated e.state) as (λ b. IsSoundLine (cond b (record l { ends = closed_both l.ends p; flights = [] }) l)) [
  | true ↦ keeps l (closed_both l.ends p) l.waiting l.names [] s (like_closed l.ends p)
  | false ↦ s
]

closed_flows : (now : ℕ) (failed : Bool) (fac : ℕ) (l : Line) (p : ℕ) (e : End) → KeepsFlows now failed fac l → At l.ends p e → KeepsFlows now failed fac (record l { ends = closed_both l.ends p; flights = [] })
closed_flows now failed fac l p e k at =
    let size = (like_closed l.ends p).size in
    let m = mate_of now failed fac l p e k at in
    let s = site_of fac l in
    let both : closed_both l.ends p ≡ slice_set (slice_set l.ends p (with_state e Closed)) (mate p) (with_state m.other Closed) = both_is l.ends p e m.other at m.stands in
    record {
      pairs = size ∙ k.pairs;
      sound = rw both (sound_restated s now l.frames l.ends (slice_set (slice_set l.ends p (with_state e Closed)) (mate p) (with_state m.other Closed)) k.sound (closed_restated s now l.frames l.ends p e m.other k.sound at m.stands));
      waiting = subst (λ (n : ℕ). All (IsFarPlace n) l.waiting) (sym size) k.waiting;
      copies = λ alive. All-nil (IsCopy l.life now (closed_both l.ends p));
    }

freed_flows : (now : ℕ) (failed : Bool) (fac : ℕ) (l : Line) (p : ℕ) (e : End) → KeepsFlows now failed fac l → At l.ends p e → KeepsFlows now failed fac (freed_at l p e)
freed_flows now failed fac l p e k at = elim (is_allocated e.state) as (λ b. KeepsFlows now failed fac (cond b (record l { ends = closed_both l.ends p; flights = [] }) l)) [
  | true ↦ closed_flows now failed fac l p e k at
  | false ↦ k
]

pub sound_frees : (a : Air) (port : Port) (r : Result (Unit {0}) FreeError) (a' : Air) → IsSound a → FreesOn a port r a' → IsSound a'
sound_frees a port (Ok done) a' s g = subst IsSound (sym g.air) (sound_on_end a port freed_at s freed_stays (λ l i e wire place at line k. freed_flows a.now a.failed port.fac l i e k at))
sound_frees a port (Err Memory) a' s g = subst IsSound (sym g) (sound_failed a s)
sound_frees a port (Err NoPort) a' s g = subst IsSound (sym g.air) s

-- ---- what the ends were

was_freed : (now : ℕ) (failed : Bool) (fac : ℕ) (l : Line) (p : ℕ) (e : End) → KeepsFlows now failed fac l → At l.ends p e → (i : ℕ) (a : End) → At (closed_both l.ends p) i a → (was : End) × At l.ends i was × (a ≡ with_state was a.state)
was_freed now failed fac l p e k at i a h =
    let m = mate_of now failed fac l p e k at in
    let both : closed_both l.ends p ≡ slice_set (slice_set l.ends p (with_state e Closed)) (mate p) (with_state m.other Closed) = both_is l.ends p e m.other at m.stands in
    was_closed l.ends p e m.other i a at m.stands (subst (λ (es : List End). At es i a) both h)

pub freed_states : (now : ℕ) (failed : Bool) (fac : ℕ) (l : Line) (p : ℕ) (e : End) → KeepsFlows now failed fac l → At l.ends p e → OnlyStates l (freed_at l p e)
freed_states now failed fac l p e k at = elim (is_allocated e.state) as (λ b. OnlyStates l (cond b (record l { ends = closed_both l.ends p; flights = [] }) l)) [
  | true ↦ record { was = λ i a h. was_freed now failed fac l p e k at i a h; size = (like_closed l.ends p).size; waiting = refl }
  | false ↦ states_same l
]
