use Rattle.std.proofs.Common.{◌≡◌, ℕ, ◌<◌, slice_get}
use Rattle.rina_iface.specs.Claim.{NoneWaits}
use Rattle.rina_dif.specs.Lower.{FindsNone}
use Rattle.rina_dif.proofs.claims.claim_first.Given as goal

-- the facilities before this one were asked, and had none
abbrev pub invariant-loop-fac : goal.invariant-loop-fac
invariant-loop-fac g l = record {
  valid : g.F.Facility.valid l.below;
  same : g.F.Facility.same_below l.fn.below l.below;
  shown : g.F.Facility.seen l.below ≡ g.F.Facility.seen l.fn.below;
  none : (n : ℕ) → n < l.fac → NoneWaits (slice_get (g.F.Facility.seen l.fn.below).facs n) l.fn.node l.fn.app;
  chain : FindsNone (λ x fac answer y. g.F.Facility.does_incoming x fac l.fn.node l.fn.app answer y) l.fac l.fn.below l.below;
}
