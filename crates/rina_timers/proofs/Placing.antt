-- Timers stand where they belong, as they are set, and as the clock goes on.
use Rattle.std.proofs.Common.{◌≡◌, ◌≢◌, ℕ, ◌+◌, ◌-◌, ◌<◌, ◌≤◌, ◌⊎◌, List, Option, None, Some, length, slice_set, refl, sym, ◌∙◌, ap, arith, inl, inr, get_or-set_other, get_or-set_same, length-set}
use Rattle.std.proofs.lemmas.Bool.{cases_lt}
use Rattle.std.proofs.lemmas.Bool.Decides.{eqb_tells, leb_tells}
use Rattle.std.proofs.lemmas.List.{get_or_past}
use Rattle.std.proofs.lemmas.Option.{get_or_from_slice_get, slice_get-get_or}
use Rattle.rina_timers.specs.Chains.{chain_of, link, tick, tick_of, IsEarliestOf}
use Rattle.rina_timers.specs.Times.{IsSet, IsFirst, IsDue, IsNoneBefore, IsSomeDue}
use Rattle.rina_timers.specs.Wheel.{slot, slot_start, place, IsPlaced, IsPlacedBut, IsNextSlot, IsReached}
use Rattle.rina_timers.proofs.Slots.{start_after, start_within, slot_drops, slot_stays}

-- where a tick belongs, by whether the clock has reached it
place_told : (clock at : ℕ) → ((at ≤ clock) × (place clock (Some at) ≡ 1)) ⊎ ((clock < at) × (place clock (Some at) ≡ 2 + slot 4 clock at))
place_told clock at = elim (leb_tells at clock) [ inl is ↦ inl (is.1, rw is.0 refl) | inr not ↦ inr (not.1, rw not.0 refl) ]

pub place_some : (clock at : ℕ) → place clock (Some at) ≢ 0
place_some clock at = elim (place_told clock at) [ inl is ↦ (λ z. absurd (omega (arith, is.1, z))) | inr not ↦ (λ z. absurd (omega (arith, not.1, z))) ]

link_set : (times : List (Option ℕ)) (id at : ℕ) → IsSet times id at → link times id ≡ Some at
link_set times id at e = get_or_from_slice_get times id (Some at) None e

set_link_is : (times : List (Option ℕ)) (id at : ℕ) → link times id ≡ Some at → IsSet times id at
set_link_is times id at e = elim (cases_lt id (length times)) [
  | inl lt ↦ slice_get-get_or times id None lt ∙ ap Some e
  | inr ge ↦ (let past = get_or_past times id None ge in absurd cc)
]

-- a timer that stands in the slot belongs before it
pub spread_down : (times : List (Option ℕ)) (chains : List ℕ) (clock chain : ℕ) → IsPlacedBut times chains clock chain → (id : ℕ) → chain_of chains id ≡ chain → place clock (link times id) < chain
spread_down times chains clock chain p id e = elim (p.placed id) [ inl is ↦ absurd (is.0 e) | inr not ↦ not.1 ]

-- the timers of a slot move to where they belong, one by one
pub spread_goes : (times : List (Option ℕ)) (chains : List ℕ) (clock chain : ℕ) → IsPlacedBut times chains clock chain → (id : ℕ) → id < length chains → chain_of chains id ≡ chain → IsPlacedBut times (slice_set chains id (place clock (link times id))) clock chain
spread_goes times chains clock chain p id there e = record {
  long = length-set chains id (place clock (link times id)) ∙ p.long;
  placed = (λ m. elim (eqb_tells m id) [
    | inl is ↦
        (let a = get_or-set_same chains id (place clock (link times id)) 0 there in
        let down = spread_down times chains clock chain p id e in
        rw is.1 (inl ((λ z. absurd (omega (arith, a, down, z))), a)))
    | inr not ↦ (let a = get_or-set_other chains id m (place clock (link times id)) 0 not.1 in rw a (p.placed m))
  ]);
}

pub spread_ends : (times : List (Option ℕ)) (chains : List ℕ) (clock chain : ℕ) → IsPlacedBut times chains clock chain → ((id : ℕ) → chain_of chains id ≢ chain) → IsPlaced times chains clock
spread_ends times chains clock chain p out = record {
  long = p.long;
  placed = (λ m. elim (p.placed m) [ inl is ↦ is.1 | inr not ↦ absurd (out m not.0) ]);
}

-- what a chain tells of a timer: that it is not set, that it is due, or its slot
at_told : (clock c : ℕ) (x : Option ℕ) → c ≡ place clock x → ((c ≡ 0) × (x ≡ None)) ⊎ ((c ≡ 1) × (x ≡ Some (tick x)) × (tick x ≤ clock)) ⊎ ((1 < c) × (x ≡ Some (tick x)) × (clock < tick x) × (c ≡ 2 + slot 4 clock (tick x)))
at_told clock c None e = inl (e, refl)
at_told clock c (Some at) e = elim (place_told clock at) [
  | inl is ↦ inr (inl (e ∙ is.1, refl, is.0))
  | inr not ↦ (let same = e ∙ not.1 in inr (inr (omega (arith, same), refl, not.0, same)))
]

pub chain_told : (times : List (Option ℕ)) (chains : List ℕ) (clock : ℕ) → IsPlaced times chains clock → (id : ℕ) → ((chain_of chains id ≡ 0) × (link times id ≡ None)) ⊎ ((chain_of chains id ≡ 1) × (link times id ≡ Some (tick_of times id)) × (tick_of times id ≤ clock)) ⊎ ((1 < chain_of chains id) × (link times id ≡ Some (tick_of times id)) × (clock < tick_of times id) × (chain_of chains id ≡ 2 + slot 4 clock (tick_of times id)))
chain_told times chains clock p id = at_told clock (chain_of chains id) (link times id) (p.placed id)

-- no timer is set, so none is due
pub none_reached : (times : List (Option ℕ)) (chains : List ℕ) (clock now : ℕ) → IsPlaced times chains clock → ((id : ℕ) → chain_of chains id ≡ 0) → IsReached times chains now
none_reached times chains clock now p none = (λ out id at e. absurd (place_some clock at (ap (place clock) (sym (link_set times id at e)) ∙ sym (p.placed id) ∙ none id)))

-- one is due, and stands in their chain
pub due_reached : (times : List (Option ℕ)) (chains : List ℕ) (now id : ℕ) → chain_of chains id ≡ 1 → IsReached times chains now
due_reached times chains now id e = (λ out. absurd (out id e))

-- the first slot has not come, so no timer has
pub later_reached : (times : List (Option ℕ)) (chains : List ℕ) (clock now c id : ℕ) → IsPlaced times chains clock → ((m : ℕ) → chain_of chains m ≢ 0 → c ≤ chain_of chains m) → c ≢ 0 → c ≢ 1 → chain_of chains id ≡ c → now < slot_start 4 clock (tick_of times id) → IsReached times chains now
later_reached times chains clock now c id p least some more e late = (λ out m at h.
    let set = link_set times m at h in
    let here : tick_of times m ≡ at = ap tick set in
    elim (chain_told times chains clock p m) [
      | inl not ↦ absurd (let z = not.1 in cc)
      | inr (inl due) ↦ absurd (out m due.0)
      | inr (inr (above, is, after, at')) ↦ elim (chain_told times chains clock p id) [
        | inl not ↦ absurd (some (sym e ∙ not.0))
        | inr (inl due) ↦ absurd (more (sym e ∙ due.0))
        | inr (inr (above', is', after', at'')) ↦
            (let le = least m (λ z. absurd (omega (arith, above, z))) in
            let start = start_within 4 clock (tick_of times id) (tick_of times m) after' after (omega (arith, le, e, at', at'')) in
            omega (arith, start, late, here))
      ]
    ])

-- the first slot has come: its timers belong before it, and all others stay
pub slot_opens : (times : List (Option ℕ)) (chains : List ℕ) (clock now c id : ℕ) → IsPlaced times chains clock → ((m : ℕ) → chain_of chains m ≢ 0 → c ≤ chain_of chains m) → c ≢ 0 → c ≢ 1 → c < 514 → chain_of chains id ≡ c → slot_start 4 clock (tick_of times id) ≤ now → IsNextSlot times chains clock now c (slot_start 4 clock (tick_of times id))
slot_opens times chains clock now c id p least some more few e come = elim (chain_told times chains clock p id) [
  | inl not ↦ absurd (some (sym e ∙ not.0))
  | inr (inl due) ↦ absurd (more (sym e ∙ due.0))
  | inr (inr (above, is, after, at)) ↦
      (let t : ℕ = tick_of times id in
      let s : ℕ = slot_start 4 clock t in
      record {
        slot = omega (arith, above, e);
        within = few;
        after = start_after 4 clock t after;
        come = come;
        placed = record {
          long = p.long;
          placed = (λ m. elim (chain_told times chains clock p m) [
            | inl (none, not) ↦ inl ((λ z. some (sym z ∙ none)), none ∙ ap (place s) (sym not))
            | inr (inl due) ↦ (let le = least m (λ z. absurd (omega (arith, z, due.0))) in absurd (omega (arith, le, due.0, some, more)))
            | inr (inr (above', is', after', at')) ↦
                (let u : ℕ = tick_of times m in
                let le = least m (λ z. absurd (omega (arith, above', z))) in
                elim (eqb_tells (chain_of chains m) c) [
                  | inl same ↦ inr (
                    same.1,
                    rw is' (elim (place_told s u) [
                      | inl here ↦ rw here.1 (omega (arith, above', same.1))
                      | inr there ↦
                          (let alike : slot 4 clock u ≡ slot 4 clock t = omega (arith, at, at', e, same.1) in
                          let down = slot_drops 4 clock t u after after' alike there.0 in
                          rw there.1 (omega (arith, down, at, e)))
                    ]),
                  )
                  | inr far ↦
                      (let apart = far.1 in
                      let more' : slot 4 clock t < slot 4 clock u = omega (arith, at, at', e, le, apart) in
                      let (less, same) = slot_stays 4 clock t u after after' more' in
                      inl (
                        apart,
                        rw is' (elim (place_told s u) [
                          | inl here ↦ (let z = here.0 in absurd (omega (arith, z, less)))
                          | inr there ↦ at' ∙ ap (λ k. 2 + k) (sym same) ∙ sym there.1
                        ]),
                      ))
                ])
          ]);
        };
      })
]

-- the earliest of those that are due comes before all
first_of_all : (times : List (Option ℕ)) (chains : List ℕ) (clock : ℕ) → IsPlaced times chains clock → (id : ℕ) → IsEarliestOf times chains 1 (Some id) → IsFirst times id (tick_of times id)
first_of_all times chains clock p id h = elim (chain_told times chains clock p id) [
  | inl not ↦ (let z = not.0 in let e = h.0 in absurd (omega (arith, z, e)))
  | inr (inr (above, is, after, at)) ↦ (let e = h.0 in absurd (omega (arith, above, e)))
  | inr (inl (one, is, reached)) ↦ record {
    is_set = set_link_is times id (tick_of times id) is;
    first = (λ m at s.
        let set = link_set times m at s in
        let here : tick_of times m ≡ at = ap tick set in
        elim (chain_told times chains clock p m) [
          | inl not ↦ absurd (let z = not.1 in cc)
          | inr (inl due) ↦ elim (h.1 m due.0) [ inl lt ↦ inl (omega (arith, lt, here)) | inr same ↦ inr (same.0 ∙ here, same.1) ]
          | inr (inr (above, is', after, at')) ↦ inl (omega (arith, reached, after, here))
        ]);
  }
]

-- the earliest of those that are due, where its tick has come; else none has
pub is_due : (times : List (Option ℕ)) (chains : List ℕ) (clock now : ℕ) → IsPlaced times chains clock → (id : ℕ) → IsEarliestOf times chains 1 (Some id) → tick_of times id ≤ now → IsDue now times (Some id)
is_due times chains clock now p id h le = (tick_of times id, first_of_all times chains clock p id h, le)

pub not_due : (times : List (Option ℕ)) (chains : List ℕ) (clock now : ℕ) → IsPlaced times chains clock → (id : ℕ) → IsEarliestOf times chains 1 (Some id) → now < tick_of times id → IsDue now times None
not_due times chains clock now p id h late = (λ m at s. elim ((first_of_all times chains clock p id h).first m at s) [ inl lt ↦ omega (arith, lt, late) | inr same ↦ (let z = same.0 in omega (arith, z, late)) ])

-- of those that are due one whose tick has come
pub some_due : (times : List (Option ℕ)) (chains : List ℕ) (clock now : ℕ) → IsPlaced times chains clock → (id : ℕ) → chain_of chains id ≡ 1 → tick_of times id ≤ now → IsSomeDue now times (Some id)
some_due times chains clock now p id e le = elim (chain_told times chains clock p id) [
  | inl not ↦ (let z = not.0 in absurd (omega (arith, z, e)))
  | inr (inr (above, is, after, at)) ↦ absurd (omega (arith, above, e))
  | inr (inl (one, is, reached)) ↦ (tick_of times id, set_link_is times id (tick_of times id) is, le)
]

-- none is set before the first tick of the first slot
pub none_before : (times : List (Option ℕ)) (chains : List ℕ) (clock c id start : ℕ) → IsPlaced times chains clock → ((m : ℕ) → chain_of chains m ≢ 0 → c ≤ chain_of chains m) → c ≢ 0 → c ≢ 1 → chain_of chains id ≡ c → start ≡ slot_start 4 clock (tick_of times id) → clock < start → IsNoneBefore start times
none_before times chains clock c id start p least some more e is after = (λ m at h.
    let out : (k : ℕ) → chain_of chains k ≢ 1 = (λ k z. let le = least k (λ z'. absurd (omega (arith, z, z'))) in absurd (omega (arith, le, z, some, more))) in
    let late = later_reached times chains clock (start - 1) c id p least some more e (omega (arith, is, after)) out m at h in
    omega (arith, late, after))
