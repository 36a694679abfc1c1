-- The ids of several IPC processes, as the members of a DIF are.
use Rattle.std.specs.Prelude.{◌≡◌, ℕ, ◌-◌, ◌^◌, List, [], length, slice_get, slice_set, Some}
use Rattle.rina_ids.specs.declared.members.Draw.{Draw}
use Rattle.rina_ids.specs.declared.slot.Slot.{Slot}
use Rattle.rina_ids.specs.Ids.{drawn, free_id, given_back}

-- those of one of them: the greatest, and what is known of each from 1 on that was ever drawn
abbrev pub CepIds : Type 0
CepIds = ℕ × List Slot

-- there are so many, and none of them ever drew an id of this width, in bytes
pub record AreUndrawn (width members : ℕ) (held : List CepIds) : Type 0 where
  pub aligned : length held ≡ members
  pub undrawn : (i : ℕ) (ids : CepIds) → slice_get held i ≡ Some ids → ids ≡ (256 ^ width - 1, [])

-- the one at a place draws the least id that is neither in use nor at rest
pub record DrawsAt (held : List CepIds) (now place cep : ℕ) : Type 0 where
  pub ids : CepIds
  pub are_ids : slice_get held place ≡ Some ids
  pub least : free_id ids.0 now ids.1 ≡ Some cep

-- it has that id in use
abbrev pub with_drawn : ℕ → CepIds → ℕ → List CepIds → List CepIds
with_drawn place ids cep held = slice_set held place (ids.0, drawn ids.1 cep)

-- the one at a place gives an id back, which rests until a tick
abbrev pub with_rest : ℕ → CepIds → ℕ → ℕ → List CepIds → List CepIds
with_rest place ids cep until held = slice_set held place (ids.0, given_back ids.1 cep until)

-- one of them drew an id
pub record IsDrawn (now : ℕ) (ids : CepIds) (draw : Draw) (after : CepIds) : Type 0 where
  pub least : free_id ids.0 now ids.1 ≡ Some draw.cep
  pub was_is : slice_get ids.1 (draw.cep - 1) ≡ draw.was
  pub after_is : after ≡ (ids.0, drawn ids.1 draw.cep)

-- the one at a place did
pub record IsDrawnAt (held : List CepIds) (now place : ℕ) (draw : Draw) (after : List CepIds) : Type 0 where
  pub draws : DrawsAt held now place draw.cep
  pub was_is : slice_get draws.ids.1 (draw.cep - 1) ≡ draw.was
  pub after_is : after ≡ with_drawn place draws.ids draw.cep held

-- two of them drew one each, one after the other
pub record AreDrawnAt (held : List CepIds) (now a b : ℕ) (draws : Draw × Draw) (after : List CepIds) : Type 0 where
  pub between : List CepIds
  pub first : IsDrawnAt held now a draws.0 between
  pub second : IsDrawnAt between now b draws.1 after
