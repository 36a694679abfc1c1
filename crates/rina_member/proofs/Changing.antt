-- The links of a member, once one of them is another, or one more is there: their numbers, and those over which PDUs may leave.
use Rattle.std.proofs.Common.{◌≡◌, ◌∙◌, ◌⊎◌, inl, inr, ⊎_elim, ℕ, zero, suc, Bool, true, cond, List, [], ◌∷◌, ◌++◌, Option, Some, None, Contains, length, map, slice_get, slice_set, refl, sym, ap, subst}
use Rattle.std.specs.List.{cons_option}
use Rattle.std.proofs.lemmas.List.{append-nil, map-append}
use Rattle.std.proofs.lemmas.List.Elements.{filter-append, filter_map-append}
use Rattle.std.proofs.lemmas.Option.{same_Some}
use Rattle.rina_route.specs.declared.link.Link.{Link as Hop}
use Rattle.rina_route.proofs.Lists.{contains_filter, contains_map, contains_unmap}
use Rattle.rina_agent.specs.declared.link.Link.{Link as Managed}
use Rattle.rina_data.specs.declared.link.Link.{Link}
use Rattle.rina_member.specs.Routing.{live_of}
use Rattle.rina_member.specs.Knowing.{HasLiveLink, HaveOwnNumbers, IsFreeNumber, hop_of, hops_of, live_numbers, managed_numbers}
use Rattle.rina_member.proofs.Lists.{at_place}

-- One is another, of the same number

pub set_numbers : (ls : List Managed) (at : ℕ) (l l' : Managed) → slice_get ls at ≡ Some l → l'.number ≡ l.number → managed_numbers (slice_set ls at l') ≡ managed_numbers ls
set_numbers [] at l l' is same = absurd cc
set_numbers (x ∷ xs) zero l l' is same = ap (λ (n : ℕ). n ∷ managed_numbers xs) (same ∙ ap (λ (z : Managed). z.number) (sym (same_Some x l is)))
set_numbers (x ∷ xs) (suc at) l l' is same = ap (λ (ns : List ℕ). x.number ∷ ns) (set_numbers xs at l l' is same)

-- PDUs may leave over it as before
pub set_hops : (ls : List Managed) (at : ℕ) (l l' : Managed) → slice_get ls at ≡ Some l → hop_of l' ≡ hop_of l → hops_of (slice_set ls at l') ≡ hops_of ls
set_hops [] at l l' is same = absurd cc
set_hops (x ∷ xs) zero l l' is same = ap (λ (o : Option Hop). cons_option o (hops_of xs)) (same ∙ ap (λ (z : Managed). hop_of z) (sym (same_Some x l is)))
set_hops (x ∷ xs) (suc at) l l' is same = ap (λ (hs : List Hop). cons_option (hop_of x) hs) (set_hops xs at l l' is same)

-- One more

pub added_numbers : (links : List Link) (link : Link) → link.live ≡ true → live_numbers (links ++ link ∷ []) ≡ live_numbers links ++ link.number ∷ []
added_numbers links link on =
    ap (λ (ls : List Link). map (λ (l : Link). l.number) ls) (filter-append (λ (l : Link). l.live) links (link ∷ []))
    ∙ map-append (λ (l : Link). l.number) (live_of links) (live_of (link ∷ []))
    ∙ ap (λ (b : Bool). live_numbers links ++ map (λ (l : Link). l.number) (cond b (link ∷ []) [])) on

pub managed_more : (ls : List Managed) (l : Managed) → managed_numbers (ls ++ l ∷ []) ≡ managed_numbers ls ++ l.number ∷ []
managed_more ls l = map-append (λ (z : Managed). z.number) ls (l ∷ [])

added_cases : {X : Type 0} (xs : List X) (y x : X) (i : ℕ) → slice_get (xs ++ y ∷ []) i ≡ Some x → (slice_get xs i ≡ Some x) ⊎ ((i ≡ length xs) × (y ≡ x))
added_cases [] y x zero is = inr (refl, same_Some y x is)
added_cases [] y x (suc i) is = absurd cc
added_cases (z ∷ zs) y x zero is = inl is
added_cases (z ∷ zs) y x (suc i) is = ⊎_elim (λ old. inl old) (λ new. inr (ap (λ (n : ℕ). suc n) new.0, new.1)) (added_cases zs y x i is)

-- of a number that no live link has
pub added_apart : (links : List Link) (link : Link) → HaveOwnNumbers links → IsFreeNumber links link.number → HaveOwnNumbers (links ++ link ∷ [])
added_apart links link apart free i j a b one two alive other same = ⊎_elim
    (λ old. ⊎_elim
    (λ too. apart i j a b old too alive other same)
    (λ new. absurd (free i a old alive (same ∙ ap (λ (l : Link). l.number) (sym new.1))))
    (added_cases links link b j two))
    (λ new. ⊎_elim
    (λ old. absurd (free j b old other (sym same ∙ ap (λ (l : Link). l.number) (sym new.1))))
    (λ too. new.0 ∙ sym too.0)
    (added_cases links link b j two))
    (added_cases links link a i one)

-- that is not up
pub added_hops : (ls : List Managed) (l : Managed) → hop_of l ≡ None → hops_of (ls ++ l ∷ []) ≡ hops_of ls
added_hops ls l none = filter_map-append hop_of ls (l ∷ []) ∙ ap (λ (o : Option Hop). hops_of ls ++ cons_option o []) none ∙ append-nil (hops_of ls)

-- Each link of a management is a live one of the IPC process

pub link_lives : (links : List Link) (ls : List Managed) (l : Managed) → managed_numbers ls ≡ live_numbers links → Contains ls l → HasLiveLink links l.number
link_lives links ls l numbers has =
    let n = subst (λ (ns : List ℕ). Contains ns l.number) numbers (contains_map (λ (z : Managed). z.number) ls l has) in
    let u = contains_unmap (λ (z : Link). z.number) (live_of links) l.number n in
    let s = contains_filter (λ (z : Link). z.live) links u.0 u.1 in
    record { place = s.0.0; link = u.0; stands = at_place links u.0 s.0; live = s.1; is_number = u.2 }
