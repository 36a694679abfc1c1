-- What the charges of the hops, and the waiting, leave of a lifetime.
use Rattle.std.proofs.Common.{◌≡◌, ℕ, ◌+◌, ◌-◌, ◌^◌, ◌<◌, ◌≤◌, Bool, true, false, cond, min, List, ◌∷◌, subst, inl, inr, ◌⊎◌, arith}
use Rattle.std.specs.Prelude.{nat_le}
use Rattle.std.specs.List.{sum_by}
use Rattle.std.proofs.lemmas.Bool.Decides.{leb_tells}
use Rattle.std.proofs.lemmas.List.Sums.{sum_by-cons}
use Rattle.rina_way.specs.declared.hop.Hop.{Hop}
use Rattle.rina_way.specs.declared.slack.Slack.TheVariants.{Left, Short}
use Rattle.rina_way.specs.Journeys.{Fate, Foretells, LetsGo, Travels, WritesOffOut, arrived, expired, gone, late_in, late_out, taken}
use Rattle.rina_way.specs.Ways.{charges, slack_of}

-- in ticks: what is charged and waited is within the lifetime, and the rest is left; or it is more
abbrev Ends : ℕ → ℕ → Fate → Type 0
Ends mpl spent (arrived rest) = (spent ≤ mpl) × (rest ≡ mpl - spent)
Ends mpl spent (expired l c) = (mpl < spent) × (l < c)

charges-cons : (h : Hop) (hops : List Hop) → charges (h ∷ hops) ≡ h.charge + charges hops
charges-cons h hops = sum_by-cons (λ (x : Hop). x.charge) h hops

-- a hop that was taken
on : (h : Hop) (hops : List Hop) (left here rest later waited : ℕ) (fate : Fate) → LetsGo h left here rest → Ends rest (charges hops + later) fate → waited ≡ here + later → Ends left (charges (h ∷ hops) + waited) fate
on h hops left here rest later waited (arrived r) went ends is =
    let sum = charges-cons h hops in
    (omega (arith, sum, is, ends.0, went.step.in_time, went.left_is, went.waits, went.charge, went.rest_is), omega (arith, sum, is, ends.0, ends.1, went.step.in_time, went.left_is, went.waits, went.charge, went.rest_is))
on h hops left here rest later waited (expired l c) went ends is =
    let sum = charges-cons h hops in
    (omega (arith, sum, is, ends.0, went.step.in_time, went.left_is, went.waits, went.charge, went.rest_is), ends.1)

out : (h : Hop) (hops : List Hop) (left waited l c : ℕ) → WritesOffOut h left waited l c → Ends left (charges (h ∷ hops) + waited) (expired l c)
out h hops left waited l c off =
    let sum = charges-cons h hops in
    (omega (arith, sum, off.step.why.0, off.step.why.1, off.step.why.2, off.left_is, off.waits, off.charge), off.step.why.2)

ends_of : (hops : List Hop) (mpl waited : ℕ) (fate : Fate) → Travels hops mpl waited fate → Ends mpl (charges hops + waited) fate
ends_of hops mpl waited fate (taken left w rest takes is) = (omega (arith, takes.decides.0, takes.left_is, takes.waits), omega (arith, is))
ends_of hops mpl waited fate (late_in hs left w l c off) = (omega (arith, off.decides.0, off.decides.1, off.decides.2, off.left_is, off.waits), off.decides.2)
ends_of hops mpl waited fate (gone h hs left here rest later w f went goes is) = on h hs left here rest later w f went (ends_of hs rest later f goes) is
ends_of hops mpl waited fate (late_out h hs left w l c off) = out h hs left w l c off

told_by : (b : Bool) (mpl spent : ℕ) (fate : Fate) → ((b ≡ true) × (spent ≤ mpl)) ⊎ ((b ≡ false) × (mpl < spent)) → Ends mpl spent fate → Foretells (cond b (Left (mpl - spent)) (Short (min spent (2 ^ 64 - 1) - mpl))) fate
told_by true mpl spent (arrived rest) tells ends = ends.1
told_by true mpl spent (expired l c) (inl t) ends = absurd (omega (arith, t.1, ends.0))
told_by true mpl spent (expired l c) (inr f) ends = cc
told_by false mpl spent (arrived rest) (inl t) ends = cc
told_by false mpl spent (arrived rest) (inr f) ends = absurd (omega (arith, f.1, ends.0))
told_by false mpl spent (expired l c) tells ends = ends.1

pub foretold : (hops : List Hop) (mpl waited : ℕ) (fate : Fate) → Travels hops mpl waited fate → Foretells (slack_of mpl (charges hops + waited)) fate
foretold hops mpl waited fate goes = told_by (nat_le (charges hops + waited) mpl) mpl (charges hops + waited) fate (leb_tells (charges hops + waited) mpl) (ends_of hops mpl waited fate goes)

pub foretold_nowhere : (hops : List Hop) (mpl : ℕ) (fate : Fate) → Travels hops mpl 0 fate → Foretells (slack_of mpl (charges hops)) fate
foretold_nowhere hops mpl fate goes =
    let none : charges hops + 0 ≡ charges hops = omega arith in
    subst (λ (spent : ℕ). Foretells (slack_of mpl spent) fate) none (foretold hops mpl 0 fate goes)
