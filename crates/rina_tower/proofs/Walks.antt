-- What is done at a rank, and what it is to the tower.
use Rattle.std.proofs.Common.{◌≡◌, ◌≢◌, ◌∙◌, ℕ, ◌+◌, ◌==◌, Bool, true, false, cond, List, Option, Some, None, Result, refl, sym, ap, subst, inl, inr}
use Rattle.std.specs.Prelude.{◌||◌, IsSome}
use Rattle.std.proofs.lemmas.Bool.Decides.{eqb_tells}
use Rattle.std.proofs.lemmas.Option.{same_Some}
use Rattle.rina_base.specs.declared.number.Num.{Num}
use Rattle.rina_base.specs.declared.number.Port.{Port}
use Rattle.rina_iface.specs.declared.ask.Ask.{Ask}
use Rattle.rina_iface.specs.declared.ends.End.{End}
use Rattle.rina_iface.specs.declared.error.AllocateError.{AllocateError}
use Rattle.rina_iface.specs.declared.error.SendError.{SendError}
use Rattle.rina_iface.specs.Allocate.{Allocates}
use Rattle.rina_iface.specs.Pass.{IsPassed}
use Rattle.rina_iface.specs.Seen.{Seen, end_of, unpassed}
use Rattle.rina_iface.specs.Send.{Sends}
use Rattle.rina_dif.specs.declared.dif.Dif.{Dif}
use Rattle.rina_wire.specs.Air.{Air}
use Rattle.rina_tower.specs.declared.tower.Tower.{Tower, Rank', Wires}
use Rattle.rina_tower.specs.Applications.{CanPass, is_ipc_at, is_ipc_end}
use Rattle.rina_tower.specs.Bystanders.{IsIpc, LeavesNow, is_ipc}
use Rattle.rina_tower.specs.Ranks.{height_of, rank_of, seen_of}
use Rattle.rina_tower.specs.Levels.{AtRank, SameBelow}
use Rattle.rina_tower.proofs.Calling.{allocates_alone, passes_alone, sends_alone}

-- at the top rank
pub at_own : (r : ℕ) (does : Tower → Tower → Type 0) (none : Type 0) (t t' : Tower) → r ≡ height_of t → SameBelow t t' → does t t' → AtRank r does none t t'
at_own r does none (Wires a) (Wires a') h same d = inl (h, d)
at_own r does none (Rank' p difs below) (Rank' p' difs' below') h same d = inl (h, d)
at_own r does none (Wires a) (Rank' p' difs' below') h same d = absurd same
at_own r does none (Rank' p difs below) (Wires a') h same d = absurd same

-- Applications that are no IPC processes

both : (a b : Bool) → a || b ≡ false → (a ≡ false) × (b ≡ false)
both true b h = cc
both false b h = (refl, h)

pub no_ipc : (name : List ℕ) → is_ipc name ≡ false → IsIpc name → ⊥
no_ipc name h ipc = (let clash : true ≡ false = sym ipc ∙ h in cc)

pub asked_beside : (own : Option AllocateError) (s : Seen) (ask : Ask) (r : Result Port AllocateError) (s' : Seen) → is_ipc ask.app || is_ipc ask.to ≡ false → Allocates own s ask r s' → LeavesNow IsIpc s s'
asked_beside own s ask r s' h w = (let b = both (is_ipc ask.app) (is_ipc ask.to) h in allocates_alone IsIpc own s ask r s' (no_ipc ask.app b.0) (no_ipc ask.to b.1) w)

other_end : (s : Seen) (port : Port) → is_ipc_at s port ≡ false → (e : End) → end_of s port ≡ Some e → IsIpc e.app → ⊥
other_end s port h e here = no_ipc e.app (sym (ap is_ipc_end here) ∙ h)

pub sent_beside : (own : Option SendError) (s : Seen) (port : Port) (bytes : List ℕ) (r : Result Num SendError) (s' : Seen) → is_ipc_at s port ≡ false → Sends own s port bytes r s' → LeavesNow IsIpc s s'
sent_beside own s port bytes r s' h w = sends_alone IsIpc own s port bytes r s' (other_end s port h) w

pub passed_beside : (s : Seen) (port : Port) (s' : Seen) → is_ipc_at s port ≡ false → IsPassed s port s' → LeavesNow IsIpc s s'
passed_beside s port s' h w = passes_alone IsIpc s port s' (other_end s port h) w

-- The condition of a pass

own_rank : (t : Tower) → rank_of t (height_of t) ≡ Some t
own_rank (Wires a) = refl
own_rank (Rank' p difs below) = elim (eqb_tells (height_of below + 1) (height_of below + 1)) [
  | inl t ↦ rw t.0 refl
  | inr f ↦ absurd (f.1 refl)
]

pub can_own : (t : Tower) (r : ℕ) (port : Port) → r ≡ height_of t → CanPass t r port → (is_ipc_at (seen_of t) port ≡ false) × IsSome (unpassed (seen_of t) port)
can_own t r port h can =
    let here : rank_of t r ≡ Some t = ap (rank_of t) h ∙ own_rank t in
    let same : can.rank ≡ t = same_Some can.rank t (sym can.is_rank ∙ here) in
    (subst (λ (u : Tower). is_ipc_at (seen_of u) port ≡ false) same can.app, subst (λ (u : Tower). IsSome (unpassed (seen_of u) port)) same can.waits)

pub can_below : (p : _) (difs : List Dif) (below : Tower) (r : ℕ) (port : Port) → r ≢ height_of below + 1 → CanPass (Rank' p difs below) r port → CanPass below r port
can_below p difs below r port ne can = elim (eqb_tells r (height_of below + 1)) [
  | inl t ↦ absurd (ne t.1)
  | inr f ↦ record { rank = can.rank; is_rank = rw f.0 at can.is_rank; app = can.app; waits = can.waits }
]

none_else : {X : Type 0} (b : Bool) (x y : X) → b ≡ false → cond b (Some x) None ≡ Some y → ⊥
none_else true x y h e = cc
none_else false x y h e = cc

pub can_not : (a : Air) (r : ℕ) (port : Port) → r ≢ 0 → CanPass (Wires a) r port → ⊥
can_not a r port ne can = elim (eqb_tells r 0) [
  | inl t ↦ ne t.1
  | inr f ↦ none_else (r == 0) (Wires a) can.rank f.0 can.is_rank
]
