-- Whether a link is the last one that is live.
use Rattle.std.proofs.Common.{◌≡◌, ◌≢◌, ◌∙◌, ℕ, ◌+◌, ◌<◌, ◌≤◌, true, false, List, get_or, length, slice_get, Option, Some, refl, sym, ap, arith, inl, inr}
use Rattle.std.specs.Prelude.{IsTrue, ◌↔◌}
use Rattle.std.proofs.lemmas.Bool.{cases_lt, false≢true}
use Rattle.std.proofs.lemmas.Option.{slice_get-get_or, slice_get_within}
use Rattle.rina_iface.proofs.Changed.{set_at, slice_get-set_other}
use Rattle.rina_data.specs.declared.link.Link.{Link}
use Rattle.rina_dif_law.specs.Losing.{NoneLive}
use Rattle.rina_dif.specs.Unlinking.{links_without}

-- at none of the first places is a live link, but at that of the lost one
abbrev pub NoneSo : List Link → ℕ → ℕ → Type 0
NoneSo links lost n = (k : ℕ) (link : Link) → k < n → k ≢ lost → slice_get links k ≡ Some link → link.live ≡ true → ⊥

same_some : {X : Type 0} (o : Option X) (a b : X) → o ≡ Some a → o ≡ Some b → a ≡ b
same_some o a b h g = cc

-- all places were looked at
pub none_so : (links : List Link) (lost n : ℕ) (link : Link) → length links ≤ n → NoneSo links lost n → slice_get links lost ≡ Some link → NoneLive (links_without links lost link)
none_so links lost n link all none is k x at live = elim (set_at links lost k link (record link { live = false }) x is at) [
  | inl t ↦ false≢true (ap (λ (z : Link). z.live) (sym t.1) ∙ live)
  | inr f ↦ (let lt = slice_get_within links k x f.1 in none k x (omega (arith, lt, all)) f.0 f.1 live)
]

-- one stands
pub one_so : (links : List Link) (lost k : ℕ) (link x : Link) → k ≢ lost → slice_get links k ≡ Some x → x.live ≡ true → NoneLive (links_without links lost link) → ⊥
one_so links lost k link x ne is live none = none k x (slice_get-set_other links lost k (record link { live = false }) ne ∙ is) live

-- As the code looks at them

pub one_read : (links : List Link) (lost k : ℕ) (d : Link) → k < length links → k ≢ lost → (get_or links k d).live ≡ true → (link : Link) → slice_get links lost ≡ Some link → IsTrue false ↔ NoneLive (links_without links lost link)
one_read links lost k d lt ne live link is = (λ t. absurd (false≢true t), λ none. absurd (one_so links lost k link (get_or links k d) ne (slice_get-get_or links k d lt) live none))

pub more_not : (links : List Link) (lost n : ℕ) (d : Link) → n < length links → NoneSo links lost n → (get_or links n d).live ≡ false → NoneSo links lost (n + 1)
more_not links lost n d lt none dead k link before ne is live = elim (cases_lt k n) [
  | inl l ↦ none k link l ne is live
  | inr ge ↦
      (let at : k ≡ n = omega (arith, before, ge) in
      let same : get_or links n d ≡ link = same_some (slice_get links n) (get_or links n d) link (slice_get-get_or links n d lt) (ap (slice_get links) (sym at) ∙ is) in
      false≢true (sym dead ∙ ap (λ (z : Link). z.live) same ∙ live))
]

pub more_lost : (links : List Link) (lost n : ℕ) → NoneSo links lost n → n ≡ lost → NoneSo links lost (n + 1)
more_lost links lost n none same k link before ne is live = elim (cases_lt k n) [
  | inl l ↦ none k link l ne is live
  | inr ge ↦ (let at : k ≡ n = omega (arith, before, ge) in absurd (ne (at ∙ same)))
]

pub all_read : (links : List Link) (lost n : ℕ) → length links ≤ n → NoneSo links lost n → (link : Link) → slice_get links lost ≡ Some link → IsTrue true ↔ NoneLive (links_without links lost link)
all_read links lost n all none link is = (λ t. none_so links lost n link all none is, λ left. refl)
