-- Wires stay sound where one is cut or mended.
use Rattle.std.proofs.Common.{◌≡◌, ℕ, cond, Bool, true, false, List, [], All, length, map, Some, None, Option, option_map, Result, Ok, Err, refl, sym, ◌∙◌, ap, subst}
use Rattle.std.proofs.lemmas.List.Elements.{All-nil}
use Rattle.std.proofs.lemmas.Option.{slice_get-map}
use Rattle.rina_iface.specs.declared.ends.End.{End}
use Rattle.rina_iface.specs.Journal.{At}
use Rattle.rina_iface.specs.Later.{AreLater, IsLater, IsLaterFac}
use Rattle.rina_iface.specs.State.{cut_off, cut_state, with_state}
use Rattle.rina_iface.proofs.Later.{end_restated, fac_refl, later_fac, later_refl, moves_cut}
use Rattle.rina_wire.specs.declared.event.WireError.{WireError}
use Rattle.rina_wire.specs.Air.{Air, Line, fac_of, on_wire, seen_of, wire_at}
use Rattle.rina_wire.specs.Cut.{CutsOn, MendsOn, cut_line, mended}
use Rattle.rina_wire.specs.Sound.{IsCopy, IsFarPlace, IsSound, IsSoundLine, KeepsFlows, site_of}
use Rattle.rina_wire.proofs.Restated.{cut_from, cut_restated, like_cut, sound_restated}
use Rattle.rina_wire.proofs.Seen.{fac_at, seen_on_wire}
use Rattle.rina_wire.proofs.Sound.{keeps, sound_on_wire}
use Rattle.rina_wire.proofs.SoundDisturb.{unseen}

-- whether a wire is cut does not matter
as_cut : (l : Line) (cut : Bool) → IsSoundLine l → IsSoundLine (record l { cut = cut })
as_cut l cut s = record { apart = s.apart; least_delay = s.least_delay; arrives = s.arrives; life = s.life; largest = s.largest; storm = s.storm; draws = s.draws; cubes = s.cubes; drawn_a = s.drawn_a; drawn_b = s.drawn_b }

flows_as_cut : (now : ℕ) (failed : Bool) (fac : ℕ) (l : Line) (cut : Bool) → KeepsFlows now failed fac l → KeepsFlows now failed fac (record l { cut = cut })
flows_as_cut now failed fac l cut k = record { pairs = k.pairs; sound = k.sound; waiting = k.waiting; copies = k.copies }

-- the wire that is cut now
abbrev cut_now : ℕ → Line → Line
cut_now now l = record l { ends = map (cut_off now) l.ends; flights = []; cut = true }

cut_stays : (now : ℕ) (l : Line) → IsSoundLine l → IsSoundLine (cut_line now l)
cut_stays now l s = elim l.cut as (λ b. IsSoundLine (cond b l (cut_now now l))) [
  | true ↦ s
  | false ↦ as_cut (record l { ends = map (cut_off now) l.ends; flights = [] }) true (keeps l (map (cut_off now) l.ends) l.waiting l.names [] s (like_cut now l.ends))
]

cut_flows : (now : ℕ) (failed : Bool) (fac : ℕ) (l : Line) → KeepsFlows now failed fac l → KeepsFlows now failed fac (cut_line now l)
cut_flows now failed fac l k = elim l.cut as (λ b. KeepsFlows now failed fac (cond b l (cut_now now l))) [
  | true ↦ k
  | false ↦
      let size = (like_cut now l.ends).size in
      record {
        pairs = size ∙ k.pairs;
        sound = sound_restated (site_of fac l) now l.frames l.ends (map (cut_off now) l.ends) k.sound (cut_restated (site_of fac l) now l.frames l.ends k.sound);
        waiting = subst (λ (n : ℕ). All (IsFarPlace n) l.waiting) (sym size) k.waiting;
        copies = λ alive. All-nil (IsCopy l.life now (map (cut_off now) l.ends));
      }
]

pub sound_cuts : (a : Air) (wire : ℕ) (r : Result (Unit {0}) WireError) (a' : Air) → IsSound a → CutsOn a wire r a' → IsSound a'
sound_cuts a wire (Ok done) a' s g = subst IsSound (sym g.air) (sound_on_wire a wire (cut_line a.now) s (λ l h k. cut_stays a.now l k) (λ l h line k. cut_flows a.now a.failed wire l k))
sound_cuts a wire (Err e) a' s g = subst IsSound (sym g.air) s

pub sound_mends : (a : Air) (wire : ℕ) (r : Result (Unit {0}) WireError) (a' : Air) → IsSound a → MendsOn a wire r a' → IsSound a'
sound_mends a wire (Ok done) a' s g = subst IsSound (sym g.air) (sound_on_wire a wire mended s (λ l h k. as_cut l false k) (λ l h line k. flows_as_cut a.now a.failed wire l false k))
sound_mends a wire (Err e) a' s g = subst IsSound (sym g.air) s

pub mends_unseen : (a : Air) (wire : ℕ) (r : Result (Unit {0}) WireError) (a' : Air) → MendsOn a wire r a' → seen_of a' ≡ seen_of a
mends_unseen a wire (Ok done) a' g = rw g.air (unseen a wire mended (λ l. refl))
mends_unseen a wire (Err e) a' g = ap seen_of g.air

-- ---- what is seen of a cut

ends_cut : (now : ℕ) (es : List End) → AreLater now now es (map (cut_off now) es)
ends_cut now es i e h = (cut_off now e, slice_get-map (cut_off now) es i ∙ ap (option_map (cut_off now)) h, end_restated now now e (cut_state now e.state) (moves_cut now e.state))

fac_cut : (now : ℕ) (l : Line) → IsLaterFac now now (fac_of l) (fac_of (cut_line now l))
fac_cut now l = elim l.cut as (λ b. IsLaterFac now now (fac_of l) (fac_of (cond b l (cut_now now l)))) [
  | true ↦ fac_refl now now (fac_of l)
  | false ↦ record { ends = ends_cut now l.ends; cubes = refl }
]

cut_later : (a : Air) (wire : ℕ) (o : Option Line) → wire_at a wire ≡ o → IsLater (seen_of a) (seen_of (on_wire a wire (cut_line a.now)))
cut_later a wire None h = rw h (later_refl (seen_of a))
cut_later a wire (Some l) h = subst (IsLater (seen_of a)) (sym (seen_on_wire a wire (cut_line a.now) l h)) (later_fac (seen_of a) wire (fac_of l) (fac_of (cut_line a.now l)) (fac_at a wire ∙ ap (option_map fac_of) h) (fac_cut a.now l))

pub cuts_later : (a : Air) (wire : ℕ) (r : Result (Unit {0}) WireError) (a' : Air) → CutsOn a wire r a' → IsLater (seen_of a) (seen_of a')
cuts_later a wire (Ok done) a' g = subst (λ (x : Air). IsLater (seen_of a) (seen_of x)) (sym g.air) (cut_later a wire (wire_at a wire) refl)
cuts_later a wire (Err e) a' g = subst (λ (x : Air). IsLater (seen_of a) (seen_of x)) (sym g.air) (later_refl (seen_of a))

-- ---- what the ends were

-- only the states of a wire's ends changed, and the same ends wait to be claimed
pub record OnlyStates (l l' : Line) : Type 0 where
  pub was : (i : ℕ) (e' : End) → At l'.ends i e' → (e : End) × At l.ends i e × (e' ≡ with_state e e'.state)
  pub size : length l'.ends ≡ length l.ends
  pub waiting : l'.waiting ≡ l.waiting

pub states_same : (l : Line) → OnlyStates l l
states_same l = record { was = λ i e h. (e, h, refl); size = refl; waiting = refl }

pub cut_states : (now : ℕ) (l : Line) → OnlyStates l (cut_line now l)
cut_states now l = elim l.cut as (λ b. OnlyStates l (cond b l (cut_now now l))) [
  | true ↦ states_same l
  | false ↦ record { was = λ i e h. cut_from now l.ends i e h; size = (like_cut now l.ends).size; waiting = refl }
]
