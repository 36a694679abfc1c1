-- What an end that is added to the journal, and used by nobody yet, makes of its counts and of its ports.
use Rattle.std.proofs.Common.{◌≡◌, ℕ, zero, suc, ◌+◌, ◌<◌, ◌≤◌, List, [], ◌∷◌, ◌++◌, length, length-append, slice_get, Option, Some, sym, ◌∙◌, ap, subst, arith, inl, inr}
use Rattle.std.proofs.lemmas.List.Sums.{sum_by-append}
use Rattle.std.proofs.lemmas.Option.{none-some, same_Some}
use Rattle.rina_base.specs.declared.number.Key.{Key}
use Rattle.rina_base.specs.declared.number.Port.{Port}
use Rattle.rina_iface.specs.declared.ends.End.{End}
use Rattle.rina_iface.specs.Allocate.{next_port}
use Rattle.rina_iface.specs.Ends.{drawn_at}
use Rattle.rina_iface.specs.Journal.{At, HasPartner, HasPorts}
use Rattle.rina_iface.proofs.Fresh.{fresh_port}
use Rattle.rina_iface.proofs.Grown.{still_at}
use Rattle.rina_law.specs.Direction.{Direction}
use Rattle.rina_dif_law.specs.Accounted.{kept_by, made_by, total}
use Rattle.rina_dif_law.specs.Counting.{held_numbers, times}
use Rattle.rina_dif_law.specs.Dif.{DifSeen, fac_of}
use Rattle.rina_dif_law.specs.Ids.{Ids}
use Rattle.rina_dif_law.specs.Numbered.{IsCounted, asked_at}
use Rattle.rina_dif_law.specs.Start.{IsFresh}
use Rattle.rina_data.specs.Configs.{Config}
use Rattle.rina_dif_law.proofs.Binding.{here_at, one_here}
use Rattle.rina_dif_law.proofs.Founding.{fresh_empty, nothing_made, old_at}
use Rattle.rina_dif_law.proofs.Lasts.{end_at_last, one_at}
use Rattle.rina_dif_law.proofs.Numbering.{counts}
use Rattle.rina_dif_law.proofs.Tallies.{kept_in, made_in}
use Rattle.rina_dif_law.proofs.Totals.{total_same}

-- ---- the ends

-- what holds of those that were there and of the new one
pub by_one : (ends : List End) (x : End) (P : End → Type 0) → ((i : ℕ) (e : End) → At ends i e → P e) → P x → (i : ℕ) (e : End) → At (ends ++ x ∷ []) i e → P e
by_one ends x P old one i e is = elim (one_at ends x i e is) [
  | inl o ↦ old i e o
  | inr t ↦ subst P (sym t.1) one
]

pub still_partner : (ends more : List End) (e : End) → HasPartner ends e → HasPartner (ends ++ more) e
still_partner ends more e h = record { place = h.place; other = h.other; stands = still_at ends more h.place h.other h.stands; partner = h.partner }

-- one port more is drawn at a node, and one flow more may be asked for there

one_drawn : (node : ℕ) (ends : List End) (x : End) → drawn_at node (ends ++ x ∷ []) ≡ drawn_at node ends + here_at node x
one_drawn node ends x = sum_by-append (here_at node) ends (x ∷ []) ∙ ap (λ (k : ℕ). drawn_at node ends + k) (omega arith)

pub one_no_less : (node : ℕ) (ends : List End) (x : End) → drawn_at node ends ≤ drawn_at node (ends ++ x ∷ [])
one_no_less node ends x = (let is = one_drawn node ends x in omega (arith, is))

pub one_more : (node : ℕ) (ends : List End) (x : End) → x.port.node ≡ node → drawn_at node ends + 1 ≤ drawn_at node (ends ++ x ∷ [])
one_more node ends x is = (let more = one_drawn node ends x in let one = one_here node x is in omega (arith, more, one))

pub one_asked : (node : ℕ) (ends : List End) (x : End) → asked_at node (ends ++ x ∷ []) ≡ asked_at node ends + counts node x
one_asked node ends x = sum_by-append (counts node) ends (x ∷ []) ∙ ap (λ (k : ℕ). asked_at node ends + k) (omega arith)

asked_least : (node : ℕ) (ends : List End) (x : End) → asked_at node ends ≤ asked_at node (ends ++ x ∷ [])
asked_least node ends x = (let is = one_asked node ends x in omega (arith, is))

pub still_counted : (g : Config) (ends : List End) (x e : End) → IsCounted g ends e → IsCounted g (ends ++ x ∷ []) e
still_counted g ends x e c = (let was = c.count in let more = asked_least c.member.node ends x in record { place = c.place; member = c.member; stands = c.stands; addr = c.addr; count = omega (arith, was, more) })

-- its port is the one that is given next at a node
pub one_ports : (d : DifSeen) (x : End) (node : ℕ) → HasPorts d.config.fac (fac_of d) → x.port ≡ next_port (fac_of d) d.config.fac node → HasPorts d.config.fac (fac_of (record d { ends = d.ends ++ x ∷ [] }))
one_ports d x node ports is = record {
  own = λ i e at. by_one d.ends x (λ z. z.port.fac ≡ d.config.fac) (λ k z h. ports.own k z h) (ap (λ (p : Port). p.fac) is) i e at;
  apart = λ i k a b ha hb port. elim (one_at d.ends x i a ha) [
    | inl o ↦ elim (one_at d.ends x k b hb) [
      | inl q ↦ ports.apart i k a b o q port
      | inr t ↦ absurd (fresh_port d.config.fac d.config.fac node (fac_of d) i a ports o (port ∙ ap (λ (e : End). e.port) t.1 ∙ is))
    ]
    | inr t ↦ elim (one_at d.ends x k b hb) [
      | inl q ↦ absurd (fresh_port d.config.fac d.config.fac node (fac_of d) k b ports q (sym port ∙ ap (λ (e : End). e.port) t.1 ∙ is))
      | inr u ↦ t.0 ∙ sym u.0
    ]
  ];
  drawn = λ i e at. by_one d.ends x (λ z. z.port.n ≤ drawn_at z.port.node (d.ends ++ x ∷ [])) (λ k z h. (let was = ports.drawn k z h in let more = one_no_less z.port.node d.ends x in omega (arith, was, more)))
      (subst (λ (p : Port). p.n ≤ drawn_at p.node (d.ends ++ x ∷ [])) (sym is) (one_more node d.ends x (ap (λ (p : Port). p.node) is))) i e at;
}

-- ---- the account

-- it counts nothing
total_one : {X : Type 0} (xs : List X) (y : X) (f g : ℕ → ℕ) → ((i : ℕ) → i < length xs → g i ≡ f i) → g (length xs) ≡ 0 → total (length (xs ++ y ∷ [])) g ≡ total (length xs) f
total_one xs y f g same none =
    let all = length-append xs (y ∷ []) in
    let number : length (xs ++ y ∷ []) ≡ suc (length xs) = omega arith in
    let old = total_same (length xs) g f same in
    let sums : total (length (xs ++ y ∷ [])) g ≡ total (length xs) g + g (length xs) = ap (λ (m : ℕ). total m g) number in
    omega (arith, sums, old, none)

module _ (size addr : ℕ) (k : Key) (ends : List End) (conns : List Ids) (x : End) (c : Ids) (alike : length conns ≡ length ends) where
  -- it sent nothing
  pub made_one : x.sent ≡ [] → total (length (ends ++ x ∷ [])) (made_in size (conns ++ c ∷ []) addr k (ends ++ x ∷ [])) ≡ total (length ends) (made_in size conns addr k ends)
  made_one none = total_one ends x (made_in size conns addr k ends) (made_in size (conns ++ c ∷ []) addr k (ends ++ x ∷ []))
      (λ j low. ap (λ (o : Option End). made_by size addr k o (slice_get (conns ++ c ∷ []) j)) (old_at ends (x ∷ []) j low) ∙ ap (made_by size addr k (slice_get ends j)) (old_at conns (c ∷ []) j (omega (arith, low, alike))))
      (ap (λ (o : Option End). made_by size addr k o (slice_get (conns ++ c ∷ []) (length ends))) (end_at_last ends x) ∙ nothing_made size addr k x (slice_get (conns ++ c ∷ []) (length ends)) none)

  -- it keeps nothing, and the others what they kept
  pub kept_one : (lines lines' : List Direction) → ((j : ℕ) → kept_by size (ends ++ x ∷ []) lines' addr k (slice_get ends j) (slice_get conns j) ≡ kept_in size conns lines addr k ends j)
      → ((o : Option Ids) → kept_by size (ends ++ x ∷ []) lines' addr k (Some x) o ≡ 0) → total (length (ends ++ x ∷ [])) (kept_in size (conns ++ c ∷ []) lines' addr k (ends ++ x ∷ [])) ≡ total (length ends) (kept_in size conns lines addr k ends)
  kept_one lines lines' same none = total_one ends x (kept_in size conns lines addr k ends) (kept_in size (conns ++ c ∷ []) lines' addr k (ends ++ x ∷ []))
      (λ j low. ap (λ (o : Option End). kept_by size (ends ++ x ∷ []) lines' addr k o (slice_get (conns ++ c ∷ []) j)) (old_at ends (x ∷ []) j low) ∙ ap (kept_by size (ends ++ x ∷ []) lines' addr k (slice_get ends j)) (old_at conns (c ∷ []) j (omega (arith, low, alike))) ∙ same j)
      (ap (λ (o : Option End). kept_by size (ends ++ x ∷ []) lines' addr k o (slice_get (conns ++ c ∷ []) (length ends))) (end_at_last ends x) ∙ none (slice_get (conns ++ c ∷ []) (length ends)))

-- a direction that starts, alone in a list, holds nothing
pub fresh_one : (d : DifSeen) (ids : Ids) (line : Direction) → IsFresh d ids line → (n i : ℕ) (l : Direction) → slice_get (line ∷ []) i ≡ Some l → times n (held_numbers l) ≡ 0
fresh_one d ids line fresh n zero l at = (let is : line ≡ l = same_Some line l at in ap (λ (z : Direction). times n (held_numbers z)) (sym is) ∙ fresh_empty d ids line n fresh)
fresh_one d ids line fresh n (suc i) l at = absurd (none-some l at)
