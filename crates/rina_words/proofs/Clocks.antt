-- The clock of a tower.
use Rattle.std.proofs.Common.{◌≡◌, ℕ, ◌+◌, ◌<◌, ◌≤◌, true, false, List, Result, Ok, Err, arith, subst, Some, None, sym, ◌∙◌, ap, inl, inr}
use Rattle.std.proofs.lemmas.Bool.Decides.{leb_tells}
use Rattle.rina_wire.specs.Air.{Air}
use Rattle.rina_wire.specs.Tick.{TicksOn}
use Rattle.rina_wire.specs.declared.tick.TickError.{TickError}
use Rattle.rina_wire.specs.declared.tick.TickError.TheVariants.{ClockSpent, Memory}
use Rattle.rina_tower.specs.declared.tower.Tower.{Tower, Rank', Wires}
use Rattle.rina_tower.specs.Bystanders.{LeavesNow}
use Rattle.rina_tower.specs.MemoryFailure.{has_failed}
use Rattle.rina_tower.specs.Ranks.{now_of, seen_now, seen_of}
use Rattle.rina_tower.specs.ClockTick.{Ticks}
use Rattle.rina_words.proofs.Alive.{alive}

-- within a tick
pub clock_stays : (who : List ℕ → Type 0) (t t' : Tower) → LeavesNow who (seen_of t) (seen_of t') → now_of t' ≡ now_of t
clock_stays who t t' l = sym (seen_now t') ∙ l.clock ∙ seen_now t

wires_go : (a a' : Air) → TicksOn a (Ok tt) a' → a'.now ≡ a.now + 1
wires_go a a' t = ap (λ (b : Air). b.now) t.air

wires_end : (a a' : Air) → TicksOn a (Err ClockSpent) a' → 10000000 ≤ a.now
wires_end a a' t = elim (leb_tells 10000000 a.now) [
  | inl h ↦ h.1
  | inr h ↦ let no : None ≡ Some ClockSpent = rw h.0 at t.refused in cc
]

-- a tick
pub tick_goes : (t t' : Tower) → Ticks (Ok tt) t t' → now_of t' ≡ now_of t + 1
tick_goes (Wires a) (Wires a') h = wires_go a a' h
tick_goes (Rank' p difs below) (Rank' p' difs' below') h = tick_goes below below' h.1
tick_goes (Wires a) (Rank' p' difs' below') h = absurd h
tick_goes (Rank' p difs below) (Wires a') h = absurd h

-- a tick is refused at the end of the clock alone
pub tick_ends : (t t' : Tower) → Ticks (Err ClockSpent) t t' → 10000000 ≤ now_of t
tick_ends (Wires a) (Wires a') h = wires_end a a' h
tick_ends (Rank' p difs below) (Rank' p' difs' below') h = tick_ends below below' h.1
tick_ends (Wires a) (Rank' p' difs' below') h = absurd h
tick_ends (Rank' p difs below) (Wires a') h = absurd h

not_wanted : {T : Type 0} (e : TickError) → e ≡ ClockSpent → ◌≡◌ {A = Result T TickError} (Err e) (Err Memory) → ⊥
not_wanted e spent wanted = cc

-- before the end of the clock no tick is refused by it
pub never_spent : (t t' : Tower) (e : TickError) → e ≡ ClockSpent → (has_failed t ≡ false → Ticks (Err e) t t') → (has_failed t ≡ true → (◌≡◌ {A = Result (Unit {0}) TickError} (Err e) (Err Memory)) × (t' ≡ t)) → now_of t < 10000000 → ⊥
never_spent t t' e spent does failed early =
    let up = alive (has_failed t) failed (λ h. not_wanted e spent h.0) in
    let ends = tick_ends t t' (subst (λ (x : TickError). Ticks (Err x) t t') spent (does up)) in
    omega (arith, ends, early)
