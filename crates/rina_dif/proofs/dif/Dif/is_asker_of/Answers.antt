use Rattle.std.proofs.Common.{◌↔◌, IsTrue, List, subst}
use Rattle.rina_iface.specs.declared.ends.End.{End}
use Rattle.rina_dif.specs.FarMaking.{HasFar}
use Rattle.rina_dif.proofs.FarLooks.{asker_told}
use Rattle.rina_dif.proofs.dif.Dif.is_asker_of.Goals as goal

pub returns : goal.returns
returns c =
    let d = c.args.self.now in
    let ask = c.args.ask.now in
    let far = subst (λ (es : List End). IsTrue c.has_far.result ↔ HasFar es ask.flow) c.as_slice.ensures c.has_far.ensures in
    asker_told d c.args.place c.args.own c.args.from ask c.in-Some-Some.end.now c.in-Some-Some.conn.now c.in-Some-Some.ensures c.in-Some-Some.ensures' c.asks_for.result c.asks_for.ensures c.leads_to.result c.leads_to.ensures c.if-not-asks_for.false c.if-not-leads_to.false c.has_far.result far
