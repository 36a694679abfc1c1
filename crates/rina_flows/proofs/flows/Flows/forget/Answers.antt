use Rattle.std.proofs.Common.{refl, sym, ◌∙◌, arith}
use Rattle.std.specs.Vec.{vec_capacity}
use Rattle.rina_flows.proofs.Stopped.{forgets_from}
use Rattle.rina_flows.specs.Delivering.{GivesUpAll}
use Rattle.rina_flows.proofs.Elsewhere.{by_becoming}
use Rattle.rina_flows.proofs.flows.Flows.forget.Goals as goal

pub returns-in-Ok-clause-forgets : goal.returns-in-Ok-clause-forgets
returns-in-Ok-clause-forgets c =
    let wide = c.in-Ok.ensures.ok in
    let count = c.reserve.new.self.ok.0 in
    forgets_from c.args.now c.args.at c.args.self.now.journal.ends c.args.self.now.conns c.forget.new.self c.args.ledger.now c.put.new.self c.reserve.new.self.items c.forget.new.lines.items (vec_capacity c.reserve.new.self) c.kept-kept.result c.at.result.now c.at.ensures (sym c.present.ensures.kept ∙ c.if-present.false) c.kept-kept.ensures.count (omega arith) (c.reserve.ensures.items ∙ c.take-lines.ensures.lines) (omega arith) c.forget.ensures c.put.ensures

pub returns-in-Ok-clause-leaves : goal.returns-in-Ok-clause-leaves
returns-in-Ok-clause-leaves c = (λ i other. refl, by_becoming (GivesUpAll c.args.now (λ r. r) c.reserve.new.self.items (vec_capacity c.reserve.new.self) c.forget.new.lines.items) c.args.at c.args.self.now.conns c.forget.new.self c.requires c.forget.ensures)
