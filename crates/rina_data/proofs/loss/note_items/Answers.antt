use Rattle.std.proofs.Common.{◌∙◌, ◌++◌, ◌∷◌, [], ap, sym}
use Rattle.rina_base.specs.declared.cause.Cause.TheVariants.{LinkDown}
use Rattle.rina_base.specs.declared.number.Key.{Key}
use Rattle.rina_data.proofs.Downed.{items_more}
use Rattle.rina_data.proofs.loss.note_items.Goals as goal

pub loop-at-preserved : goal.loop-at-preserved
loop-at-preserved c =
    let old = c.loop-at.lines.items in
    items_more c.args.port c.args.queue.now.ring.items c.loop-at.at c.in-Some.item.now c.args.lines.now.items old c.push.new.self.items (sym c.in-Some.ensures) c.loop-at.invariant
    (c.in_ok-push.ensures.items ∙ ap (λ (k : Key). old ++ record { key = k; cause = LinkDown c.args.port } ∷ []) c.key-key.ensures)
