use Rattle.std.proofs.Common.{List, slice_get, sym, ◌∙◌, ap}
use Rattle.rina_dtcp.specs.declared.sent.Sent.{Sent}
use Rattle.rina_dtcp.proofs.Rising.{made_all, rise_added}
use Rattle.rina_dtcp.proofs.tx.Tx.keep_copies.Goals as goal

pub invariant_of-self : goal.invariant_of-self
invariant_of-self c = rw c.in_err-append.ensures.items c.self.invariant

pub invariant_of-self-2 : goal.invariant_of-self-2
invariant_of-self-2 c =
    let sents = c.in_ok-sents.sents.items in
    rw c.in_ok-append.ensures.items (rise_added c.self.inside.cube c.args.now c.mixed_with-mixed.result c.self.inside.unacked.items sents c.mixed_with-mixed.ensures.among c.mixed_with-mixed.ensures.then
    (λ j s at. made_all c.first_kept.result c.args.now c.from.result c.args.pdus.now j s (ap (λ (xs : List Sent). slice_get xs j) (sym c.in_ok-sents.ensures) ∙ at)))
