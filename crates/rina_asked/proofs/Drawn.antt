-- Members keep their addresses, and the invoke ids that they drew.
use Rattle.std.proofs.Common.{◌≡◌, ◌∙◌, inl, inr, ℕ, ◌^◌, ◌<◌, ◌≤◌, List, length, length-set, map, option_map, slice_get, slice_set, Some, refl, sym, ap, subst, arith}
use Rattle.std.proofs.lemmas.Bool.Decides.{eqb_tells}
use Rattle.std.proofs.lemmas.List.{length-map}
use Rattle.std.proofs.lemmas.Option.{same_Some, slice_get-map}
use Rattle.rina_iface.proofs.Changed.{slice_get-set_other, slice_get-set_same}
use Rattle.rina_agent.specs.declared.agent.Agent.{Agent}
use Rattle.rina_agent.specs.Counts.{next_of}
use Rattle.rina_member.specs.declared.management.Management.{Management}
use Rattle.rina_dif.specs.Managing.{agents_of}
use Rattle.rina_dif.proofs.Bare.{map_at}

-- One member

pub record KeepsIds (a g : Agent) : Type 0 where
  pub address : g.address ≡ a.address
  pub drawn : (n : ℕ) → n < 2 ^ 32 → n ≤ a.last_invoke → n ≤ g.last_invoke

pub ids_kept : (a g : Agent) → g.address ≡ a.address → g.last_invoke ≡ a.last_invoke → KeepsIds a g
ids_kept a g address invoke = record { address = address; drawn = λ n small le. subst (λ (k : ℕ). n ≤ k) (sym invoke) le }

-- it draws more
pub more_drawn : (a g : Agent) → g.address ≡ a.address → a.last_invoke ≤ g.last_invoke → KeepsIds a g
more_drawn a g address more = record { address = address; drawn = λ n small le. omega (arith, more, le) }

pub next_drawn : (a g : Agent) → g.address ≡ a.address → g.last_invoke ≡ next_of a.last_invoke → KeepsIds a g
next_drawn a g address next = record { address = address; drawn = λ n small le. subst (λ (k : ℕ). n ≤ k) (sym next) (omega (arith, small, le)) }

pub ids_on : (a b c : Agent) → KeepsIds a b → KeepsIds b c → KeepsIds a c
ids_on a b c f g = record { address = g.address ∙ f.address; drawn = λ n small le. g.drawn n small (f.drawn n small le) }

-- Several

pub record KeepIds (old new : List Management) : Type 0 where
  pub long : length new ≡ length old
  pub each : (i : ℕ) (m : Management) → slice_get old i ≡ Some m → (m' : Management) × (slice_get new i ≡ Some m') × KeepsIds m.agent m'.agent

pub keep_same : (ms : List Management) → KeepIds ms ms
keep_same ms = record { long = refl; each = λ i m is. (m, is, ids_kept m.agent m.agent refl refl) }

pub keep_on : (a b c : List Management) → KeepIds a b → KeepIds b c → KeepIds a c
keep_on a b c f g = record {
  long = g.long ∙ f.long;
  each = λ i m is.
      (let x = f.each i m is in
      let y = g.each i x.0 x.1 in
      (y.0, y.1, ids_on m.agent x.0.agent y.0.agent x.2 y.2));
}

pub keep_set : (ms : List Management) (at : ℕ) (m m' : Management) → slice_get ms at ≡ Some m → KeepsIds m.agent m'.agent → KeepIds ms (slice_set ms at m')
keep_set ms at m m' there ids = record { long = length-set ms at m'; each = λ i x is. each i x is }
  where
    each : (i : ℕ) (x : Management) → slice_get ms i ≡ Some x → (y : Management) × (slice_get (slice_set ms at m') i ≡ Some y) × KeepsIds x.agent y.agent
    each i x is = elim (eqb_tells i at) [
      | inl t ↦
          (let same : m ≡ x = same_Some m x (sym there ∙ ap (slice_get ms) (sym t.1) ∙ is) in
          (m', ap (slice_get (slice_set ms at m')) t.1 ∙ slice_get-set_same ms at m m' there, subst (λ (z : Management). KeepsIds z.agent m'.agent) same ids))
      | inr u ↦ (x, slice_get-set_other ms at i m' u.1 ∙ is, ids_kept x.agent x.agent refl refl)
    ]

pub keep_map : (f : Management → Management) → ((m : Management) → KeepsIds m.agent (f m).agent) → (ms : List Management) → KeepIds ms (map f ms)
keep_map f ids ms = record { long = length-map ms f; each = λ i m is. (f m, slice_get-map f ms i ∙ ap (option_map f) is, ids m) }

-- where the agents stay
pub keep_agents : (ms ms' : List Management) → agents_of ms' ≡ agents_of ms → KeepIds ms ms'
keep_agents ms ms' same = record {
  long = sym (length-map ms' (λ (z : Management). z.agent)) ∙ ap (λ (gs : List Agent). length gs) same ∙ length-map ms (λ (z : Management). z.agent);
  each = λ i m is.
      (let there : slice_get (agents_of ms') i ≡ Some m.agent = ap (λ (gs : List Agent). slice_get gs i) same ∙ slice_get-map (λ (z : Management). z.agent) ms i ∙ ap (option_map (λ (z : Management). z.agent)) is in
      let new = map_at (λ (z : Management). z.agent) ms' i m.agent there in
      (new.0, new.1, subst (KeepsIds m.agent) (sym new.2) (ids_kept m.agent m.agent refl refl)));
}
