use Rattle.std.proofs.Common.{◌≡◌, ℕ, ◌<◌, ◌^◌, Some, slice_get}
use Rattle.rina_dtcp.specs.declared.sent.Sent.{Sent}
use Rattle.rina_dtcp.specs.Sents.{IsSomeDueFrom, IsStillUntil}
use Rattle.rina_dtcp.proofs.tx.still_until.Given as goal

abbrev pub invariant-loop-place : goal.invariant-loop-place
invariant-loop-place l = record {
  before : (k : ℕ) (s : Sent) → k < l.place → slice_get l.unacked.items k ≡ Some s → IsStillUntil l.until l.cube s;
  from : IsSomeDueFrom l.until l.cube l.unacked.items;
  most : l.until < 2 ^ 32;
}
