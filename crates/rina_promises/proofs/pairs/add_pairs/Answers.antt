use Rattle.std.proofs.Common.{◌∙◌, ap}
use Rattle.rina_data.specs.declared.settings.Settings.{Settings}
use Rattle.rina_tower.proofs.FitBound.{item_at}
use Rattle.rina_promises.specs.Pairs.{IsFromText}
use Rattle.rina_promises.proofs.Texts.{texts_more, texts_none}
use Rattle.rina_promises.proofs.pairs.add_pairs.Goals as goal

pub members-init : goal.members-init
members-init c = texts_none (IsFromText c.args.nodes.now c.args.fac.now c.args.there.now.below.now c.args.there.now.dif.now) c.args.text.now

pub members-preserved : goal.members-preserved
members-preserved c =
    let at = item_at c.as_slice-from-items.result.now c.args.there.now.dif.now.settings.members c.members.from-index c.from-item.result (c.as_slice-from-items.ensures ∙ ap (λ (s : Settings). s.members) c.settings.ensures) c.members-test.true c.from-item.is in
    texts_more (IsFromText c.args.nodes.now c.args.fac.now c.args.there.now.below.now c.args.there.now.dif.now) c.args.there.now.dif.now.settings.members c.members.from-index c.from-item.result c.args.text.now c.members.text c.add_from.new.text at c.members.invariant c.in_ok-add_from.ensures
