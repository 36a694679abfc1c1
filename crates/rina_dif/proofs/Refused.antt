-- What a DIF refuses, and what it shows where nothing changed.
use Rattle.std.proofs.Common.{◌≡◌, ◌∙◌, ℕ, ◌==◌, ◌||◌, Bool, true, false, cond, List, [], ◌∷◌, length, map, slice_get, Option, Some, None, Err, option_and_then, option_map, refl, sym, ap, arith}
use Rattle.std.specs.Prelude.{find, nat_lt, position}
use Rattle.std.specs.List.{list_any, position_or_len}
use Rattle.std.proofs.lemmas.Bool.Decides.{nat_tests}
use Rattle.std.proofs.lemmas.List.Folds.{find_at}
use Rattle.std.proofs.lemmas.Option.{slice_get_past}
use Rattle.rina_cube.specs.declared.Cube.{Cube}
use Rattle.rina_cube.specs.declared.Want.{Want}
use Rattle.rina_cube.specs.Cubes.{fits}
use Rattle.rina_iface.specs.declared.ask.Ask.{Ask}
use Rattle.rina_iface.specs.declared.error.AllocateError.{AllocateError}
use Rattle.rina_iface.specs.declared.error.AllocateError.TheVariants as allocate
use Rattle.rina_iface.specs.declared.error.RegisterError.{RegisterError}
use Rattle.rina_iface.specs.declared.error.RegisterError.TheVariants as register
use Rattle.rina_iface.specs.declared.error.UnregisterError.{UnregisterError}
use Rattle.rina_iface.specs.declared.error.UnregisterError.TheVariants as unregister
use Rattle.rina_iface.specs.Allocate.{Allocates}
use Rattle.rina_iface.specs.Allocate as asks
use Rattle.rina_iface.specs.Register.{Registers}
use Rattle.rina_iface.specs.Register as names
use Rattle.rina_iface.specs.Seen.{Fac, Seen, is_member, meets, offered}
use Rattle.rina_iface.specs.Unregister.{Unregisters}
use Rattle.rina_iface.specs.Unregister as left
use Rattle.rina_data.specs.declared.settings.Member.{Member as Kept}
use Rattle.rina_data.specs.Configs.{Member, member_of}
use Rattle.rina_dif_law.specs.Dif.{fac_of, offer_of}
use Rattle.rina_dif.specs.declared.dif.Dif.{Dif}
use Rattle.rina_dif.specs.Facade.{IsShownAs, shown_as}
use Rattle.rina_dif.specs.Shown.{seen_of}
use Rattle.rina_dif.proofs.Facing.{unchanged}

-- The members of a DIF are the nodes that have a place in it

pub members_there : (node : ℕ) (members : List Kept) → list_any (λ (m : Kept). m.node == node) members ≡ is_member (map (λ (m : Member). m.node) (map member_of members)) node
members_there node [] = refl
members_there node (m ∷ ms) = ap (λ (b : Bool). (m.node == node) || b) (members_there node ms)

-- The first cube that meets a wish

pub found_by : {X : Type 0} (p : X → Bool) (xs : List X) → option_and_then (λ i. slice_get xs i) (position p xs) ≡ find p xs
found_by p xs = go (nat_lt (position_or_len p xs) (length xs)) refl
  where
    go : (b : Bool) → nat_lt (position_or_len p xs) (length xs) ≡ b → option_and_then (λ i. slice_get xs i) (cond b (Some (position_or_len p xs)) None) ≡ find p xs
    go true is = sym (find_at p xs)
    go false is = sym (find_at p xs ∙ slice_get_past xs (position_or_len p xs) (grind (arith, nat_tests, is)))

fits_is : (want : Want) (c : Cube) → meets want (offer_of c) ≡ fits want c
unfolding meets fits
fits_is want c = refl

pub offered_is : (want : Want) (cubes : List Cube) → offered (map offer_of cubes) want ≡ option_map offer_of (find (fits want) cubes)
offered_is want [] = refl
offered_is want (c ∷ cs) = ap (λ (b : Bool). cond b (Some (offer_of c)) (offered (map offer_of cs) want)) (fits_is want c) ∙ go (fits want c) (offered_is want cs)
  where
    go : (b : Bool) → offered (map offer_of cs) want ≡ option_map offer_of (find (fits want) cs) → cond b (Some (offer_of c)) (offered (map offer_of cs) want) ≡ option_map offer_of (cond b (Some c) (find (fits want) cs))
    go true e = refl
    go false e = e

-- What is refused is refused as on every facility

pub registers : (own : Option RegisterError) (s : Seen) (n : ℕ) (d : Dif) (node : ℕ) (app : List ℕ) (e : RegisterError) → names.refused_in (Some (fac_of (seen_of d))) node app own ≡ Some e → IsShownAs s n d → Registers own s n node app (Err e) (shown_as s n d)
registers own s n d node app register.Memory r h = unchanged s n d d h refl
registers own s n d node app e r h = (ap (λ (f : Option Fac). names.refused_in f node app own) h.here ∙ r, unchanged s n d d h refl)

pub unregisters : (own : Option UnregisterError) (s : Seen) (n : ℕ) (d : Dif) (node : ℕ) (app : List ℕ) (e : UnregisterError) → left.refused_in (Some (fac_of (seen_of d))) node app own ≡ Some e → IsShownAs s n d → Unregisters own s n node app (Err e) (shown_as s n d)
unregisters own s n d node app unregister.Memory r h = unchanged s n d d h refl
unregisters own s n d node app e r h = (ap (λ (f : Option Fac). left.refused_in f node app own) h.here ∙ r, unchanged s n d d h refl)

pub allocates : (own : Option AllocateError) (s : Seen) (d : Dif) (ask : Ask) (e : AllocateError) → asks.refused_in (Some (fac_of (seen_of d))) ask own ≡ Some e → IsShownAs s ask.fac d → Allocates own s ask (Err e) (shown_as s ask.fac d)
allocates own s d ask allocate.Memory r h = unchanged s ask.fac d d h refl
allocates own s d ask e r h = (ap (λ (f : Option Fac). asks.refused_in f ask own) h.here ∙ r, unchanged s ask.fac d d h refl)
