-- They have one key and one value.
use Rattle.std.proofs.Common.{◌∙◌, sym}
use Rattle.rina_dif.proofs.KeptRoutes.{same_claims}
use Rattle.rina_dif.proofs.kept_routes.claim_alike.Goals as goal

pub returns-then-same_bytes : goal.returns-then-same_bytes
returns-then-same_bytes c = λ e. same_claims c.args.item.now c.args.other.now (sym c.as_slice.ensures ∙ c.same_bytes.ensures c.if-same_bytes.true ∙ c.as_slice-2.ensures) (sym c.live.ensures ∙ c.same_value.ensures e ∙ c.live-then-same_bytes.ensures)
