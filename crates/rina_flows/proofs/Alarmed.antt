-- How timers are set, ring, and get room.
use Rattle.std.proofs.Common.{◌≡◌, ℕ, ◌+◌, ◌-◌, ◌^◌, ◌<◌, ◌≤◌, ◌⊎◌, List, Option, Some, None, is_some, cond, length, length-set, slice_index_or, slice_get, slice_set, get_or-set_same, get_or-set_other, refl, sym, ◌∙◌, ap, subst, arith, inl, inr}
use Rattle.std.specs.List.{sum_by}
use Rattle.std.specs.Prelude.{unwrap_or}
use Rattle.std.proofs.lemmas.Bool.{cases_eq, cases_lt}
use Rattle.std.proofs.lemmas.List.{get_or_past}
use Rattle.std.proofs.lemmas.List.Sums.{sum_by-set}
use Rattle.std.proofs.lemmas.Option.{get_or_from_slice_get, slice_get-get_or, slice_get_within}
use Rattle.rina_timers.specs.Times.{IsNoneBefore, IsSet, IsSomeDue}
use Rattle.rina_flows.specs.Alarms.{HasAlarm, IsRung, Sets, how_many, tick_at}

pub has_still : (old new : List (Option ℕ)) (i : ℕ) → length new ≡ length old → HasAlarm old i → HasAlarm new i
has_still old new i e h = (subst (λ n. i < n) (sym e) h.0, h.1)

-- the tick of a place, by what stands there
pub tick_is : (times : List (Option ℕ)) (i : ℕ) (x : Option ℕ) → slice_index_or times i None ≡ x → tick_at times i ≡ unwrap_or x (2 ^ 32 - 1)
tick_is times i x e = ap (λ (o : Option ℕ). unwrap_or o (2 ^ 32 - 1)) e

pub unset_past : (times : List (Option ℕ)) (i : ℕ) → length times ≤ i → tick_at times i ≡ 2 ^ 32 - 1
unset_past times i le = tick_is times i None (get_or_past times i None le)

pub under_last : (until : ℕ) (times : List (Option ℕ)) → ((i : ℕ) → until ≤ tick_at times i) → until ≤ 2 ^ 32 - 1
under_last until times least = (let h = least (length times) in let e = unset_past times (length times) (omega arith) in omega (arith, h, e))

pub sets_least : (at tick until until' : ℕ) (old new : List (Option ℕ)) → Sets at tick old new → until' ≤ until → until' ≤ tick → ((i : ℕ) → until ≤ tick_at old i) → (i : ℕ) → until' ≤ tick_at new i
sets_least at tick until until' old new s le le' least i = elim (cases_eq i at) [
  | inl e ↦ (let h = ap (tick_at new) e ∙ s.here in omega (arith, h, le'))
  | inr ne ↦ (let h = s.others i ne in let l = least i in omega (arith, h, l, le))
]

-- a timer is written
pub written : (times : List (Option ℕ)) (at : ℕ) (x : Option ℕ) → at < length times → Sets at (unwrap_or x (2 ^ 32 - 1)) times (slice_set times at x)
written times at x lt = record {
  here = tick_is (slice_set times at x) at x (get_or-set_same times at x None lt);
  others = (λ i ne. ap (λ (o : Option ℕ). unwrap_or o (2 ^ 32 - 1)) (get_or-set_other times at i x None ne));
  long = length-set times at x;
}

pub written_is : (times times' : List (Option ℕ)) (at tick : ℕ) (x : Option ℕ) → at < length times → times' ≡ slice_set times at x → unwrap_or x (2 ^ 32 - 1) ≡ tick → Sets at tick times times'
written_is times times' at tick x lt e is = subst (λ (ts : List (Option ℕ)). Sets at tick times ts) (sym e) (subst (λ n. Sets at n times (slice_set times at x)) is (written times at x lt))

-- a timer that is not there is cleared
pub past_cleared : (times : List (Option ℕ)) (at : ℕ) → length times ≤ at → Sets at (2 ^ 32 - 1) times times
past_cleared times at le = record { here = unset_past times at le; others = (λ i ne. refl); long = refl }

-- whether a timer counts
abbrev counts : Option ℕ → ℕ
counts t = cond (is_some t) 1 0

one_counts : (o : Option ℕ) (x : ℕ) → o ≡ Some x → counts o ≡ 1
one_counts o x e = ap counts e

-- a timer that is due is cleared
pub rung : (now id : ℕ) (times times' : List (Option ℕ)) → IsSomeDue now times (Some id) → id < 2 ^ 32 → times' ≡ slice_set times id None → IsRung (Some id) times times'
rung now id times times' d few e =
    let set : slice_get times id ≡ Some (Some d.0) = d.1 in
    let lt = slice_get_within times id (Some d.0) set in
    let was : slice_index_or times id None ≡ Some d.0 = get_or_from_slice_get times id (Some d.0) None set in
    let one = one_counts (slice_index_or times id None) d.0 was in
    let sum : sum_by counts (slice_set times id None) + counts (slice_index_or times id None) ≡ sum_by counts times + 0 = sum_by-set counts times id None None lt in
    let less : sum_by counts (slice_set times id None) < sum_by counts times = omega (arith, sum, one) in
    ((lt, few), written_is times times' id (2 ^ 32 - 1) None lt e refl, subst (λ (ts : List (Option ℕ)). how_many ts < how_many times) (sym e) less)

-- what stands at a place
some_or_none : (o : Option ℕ) → (o ≡ None) ⊎ ((x : ℕ) × (o ≡ Some x))
some_or_none None = inl refl
some_or_none (Some x) = inr (x, refl)

stands : (times : List (Option ℕ)) (i : ℕ) → (slice_index_or times i None ≡ None) ⊎ ((x : ℕ) × (slice_index_or times i None ≡ Some x) × IsSet times i x)
stands times i = elim (cases_lt i (length times)) [
  | inr ge ↦ inl (get_or_past times i None ge)
  | inl lt ↦ elim (some_or_none (slice_index_or times i None)) [
    | inl e ↦ inl e
    | inr (x, e) ↦ inr (x, e, slice_get-get_or times i None lt ∙ ap Some e)
  ]
]

-- no timer is set before this tick
pub none_least : (times : List (Option ℕ)) (until : ℕ) → IsNoneBefore until times → until ≤ 2 ^ 32 - 1 → (i : ℕ) → until ≤ tick_at times i
none_least times until h le i = elim (stands times i) [
  | inl e ↦ (let tick = tick_is times i None e in omega (arith, tick, le))
  | inr (x, e, set) ↦ (let tick : tick_at times i ≡ x = tick_is times i (Some x) e in let later = h i x set in omega (arith, tick, later))
]

-- timers are copied, one by one
pub record Copied (from first times : List (Option ℕ)) (id : ℕ) : Type 0 where
  pub done : (i : ℕ) → i < id → tick_at times i ≡ tick_at from i
  pub left : (i : ℕ) → id ≤ i → tick_at times i ≡ 2 ^ 32 - 1
  pub long : length times ≡ length first

pub copy_none : (from first times : List (Option ℕ)) (id : ℕ) → Copied from first times id → slice_get from id ≡ Some None → Copied from first times (id + 1)
copy_none from first times id c e = record {
  done = (λ i lt. elim (cases_eq i id) [
    | inl is ↦
        let a : tick_at times i ≡ 2 ^ 32 - 1 = c.left i (omega (arith, is)) in
        let b : tick_at from i ≡ 2 ^ 32 - 1 = ap (tick_at from) is ∙ tick_is from id None (get_or_from_slice_get from id None None e) in
        a ∙ sym b
    | inr ne ↦ c.done i (omega (arith, lt, ne))
  ]);
  left = (λ i le. c.left i (omega (arith, le)));
  long = c.long;
}

pub copy_some : (from first times times' : List (Option ℕ)) (id at : ℕ) → Copied from first times id → slice_get from id ≡ Some (Some at) → id < length times → times' ≡ slice_set times id (Some at) → Copied from first times' (id + 1)
copy_some from first times times' id at c e lt is =
    let s : Sets id at times times' = written_is times times' id at (Some at) lt is refl in
    record {
      done = (λ i less. elim (cases_eq i id) [
        | inl same ↦
            let a : tick_at times' i ≡ at = ap (tick_at times') same ∙ s.here in
            let b : tick_at from i ≡ at = ap (tick_at from) same ∙ tick_is from id (Some at) (get_or_from_slice_get from id (Some at) None e) in
            a ∙ sym b
        | inr ne ↦ s.others i ne ∙ c.done i (omega (arith, less, ne))
      ]);
      left = (λ i le. s.others i (λ z. absurd (omega (arith, le, z))) ∙ c.left i (omega (arith, le)));
      long = s.long ∙ c.long;
    }

pub copy_ends : (from first times : List (Option ℕ)) (id : ℕ) → Copied from first times id → length from ≤ id → (i : ℕ) → tick_at times i ≡ tick_at from i
copy_ends from first times id c le i = elim (cases_lt i id) [
  | inl lt ↦ c.done i lt
  | inr ge ↦ c.left i ge ∙ sym (unset_past from i (omega (arith, ge, le)))
]
