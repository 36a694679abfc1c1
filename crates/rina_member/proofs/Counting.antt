-- Version counts: where one is left, the next item of a member is newer than those that it made.
use Rattle.std.proofs.Common.{◌≡◌, inl, inr, ℕ, ◌-◌, ◌^◌, ◌<◌, ◌≤◌, true, false, nat_lt, Option, Some, None, refl, arith}
use Rattle.std.proofs.lemmas.Bool.{cases_Bool}
use Rattle.std.proofs.lemmas.Bool.Decides.{nat_tests}
use Rattle.rina_newest.specs.declared.item.Item.{Item}
use Rattle.rina_newest.specs.declared.item.Version.{Version}
use Rattle.rina_newest.specs.Newest.{is_below, is_newer}
use Rattle.rina_agent.specs.declared.state.AgentError.{AgentError}
use Rattle.rina_agent.specs.Counts.{next_of, spent}
use Rattle.rina_agent.specs.Rows.{either}

-- where a version count is left, the next one is greater
pub counts_on : (last : ℕ) → spent 1 last ≡ None → last < next_of last
counts_on last e = elim (cases_Bool (nat_lt (2 ^ 32 - 1 - last) 1)) [
  | inl is ↦ absurd (cc)
  | inr isnt ↦ grind (arith, isnt)
]

-- where two are left, one is left behind the next
pub two_left : (last : ℕ) → spent 2 last ≡ None → (spent 1 last ≡ None) × (spent 1 (next_of last) ≡ None)
two_left last e = elim (cases_Bool (nat_lt (2 ^ 32 - 1 - last) 2)) [
  | inl is ↦ absurd (cc)
  | inr isnt ↦
      (let one : nat_lt (2 ^ 32 - 1 - last) 1 ≡ false = grind (arith, isnt) in
      let next : nat_lt (2 ^ 32 - 1 - next_of last) 1 ≡ false = grind (arith, isnt) in
      (rw one refl, rw next refl))
]

-- where nothing is refused, neither is the first
pub both_left : (first second : Option AgentError) → either first second ≡ None → first ≡ None
both_left None second h = refl
both_left (Some e) second h = absurd cc

-- the next version is newer than one that was made by now
newer_than : (now count address : ℕ) (v : Version) → v.tick ≤ now → v.count < count → is_below v (record { tick = now; count = count; origin = address }) ≡ true
unfolding is_below
newer_than now count address v tick less = grind (arith, nat_tests, tick, less)

pub newer_by : (now count address : ℕ) (o : Option Item) → ((it : Item) → o ≡ Some it → (it.version.tick ≤ now) × (it.version.count < count)) → is_newer (record { tick = now; count = count; origin = address }) o ≡ true
newer_by now count address None h = refl
newer_by now count address (Some it) h = (let r = h it refl in newer_than now count address it.version r.0 r.1)
