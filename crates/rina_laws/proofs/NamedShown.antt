-- A rank that shows one DIF at a place, for what a call at it is to every rank.
use Rattle.std.proofs.Common.{◌≡◌, ◌∙◌, ℕ, zero, suc, List, [], ◌∷◌, slice_get, Some, refl, sym, ap}
use Rattle.std.proofs.lemmas.Option.{same_Some}
use Rattle.rina_iface.specs.Seen.{Fac, Seen, with_fac}
use Rattle.rina_iface.proofs.Changed.{slice_get-set_same}
use Rattle.rina_dif_law.specs.Dif.{fac_of}
use Rattle.rina_dif.specs.declared.dif.Dif.{Dif}
use Rattle.rina_dif.specs.Facade.{IsShownAs}
use Rattle.rina_dif.specs.Shown.{seen_of as seen_of_dif}

-- so many facilities and one more, each of which is this one
abbrev pub pad : ℕ → Fac → List Fac
pad zero f = f ∷ []
pad (suc n) f = f ∷ pad n f

pub pad_at : (n : ℕ) (f : Fac) → slice_get (pad n f) n ≡ Some f
pad_at zero f = refl
pad_at (suc n) f = pad_at n f

-- a rank that shows this facility at a place
abbrev pub rank_with : ℕ → ℕ → Fac → Seen
rank_with now n f = record { now = now; facs = pad n f }

set_there : (now n : ℕ) (f g : Fac) → slice_get (with_fac (rank_with now n f) n g).facs n ≡ Some g
set_there now n f g = slice_get-set_same (pad n f) n f g (pad_at n f)

-- where it is set to one or to another, and the rank is the same, so are these
pub set_alike : (now n : ℕ) (f g h : Fac) → with_fac (rank_with now n f) n g ≡ with_fac (rank_with now n f) n h → g ≡ h
set_alike now n f g h is = same_Some g h (sym (set_there now n f g) ∙ ap (λ (s : Seen). slice_get s.facs n) is ∙ set_there now n f h)

-- or nothing changed
pub set_nothing : (now n : ℕ) (f g : Fac) → with_fac (rank_with now n f) n g ≡ rank_with now n f → g ≡ f
set_nothing now n f g is = same_Some g f (sym (set_there now n f g) ∙ ap (λ (s : Seen). slice_get s.facs n) is ∙ pad_at n f)

-- the rank shows a DIF there
pub shown_there : (d : Dif) (n : ℕ) → IsShownAs (rank_with d.clock n (fac_of (seen_of_dif d))) n d
shown_there d n = record { clock = refl; here = pad_at n (fac_of (seen_of_dif d)) }
