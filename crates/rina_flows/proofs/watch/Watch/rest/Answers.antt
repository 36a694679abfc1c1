use Rattle.std.proofs.Common.{◌++◌, ◌∷◌, [], ℕ, List, refl, subst}
use Rattle.rina_flows.specs.declared.watch.Watch.{Watch}
use Rattle.rina_flows.specs.Quiet.{AreTimed}
use Rattle.rina_flows.proofs.Watched.{dropped, rested}
use Rattle.rina_flows.proofs.watch.Watch.rest.Goals as goal

pub loop-at-preserved-then-at-conns : goal.loop-at-preserved-then-at-conns
loop-at-preserved-then-at-conns c =
    let was = c.loop-at.self in
    let old : Watch = record was { places = c.pop.new.self } in
    let conns = c.args.conns.now in
    let timed : AreTimed (c.pop.new.self.items ++ c.in-Some.at ∷ []) was.until was.alarms conns = subst (λ (ps : List ℕ). AreTimed ps was.until was.alarms conns) c.in-Some.ensures.items c.loop-at.invariant in
    rested c.pop.new.self.items c.in-Some.at c.quiet_until.result old c.set_by.new.self conns c.index-conns-at.result timed c.set_by.ensures.places refl c.set_by.ensures.notes c.index-conns-at.is c.quiet_until.ensures.before

pub loop-at-preserved : goal.loop-at-preserved
loop-at-preserved c =
    let old = c.loop-at.self in
    let conns = c.args.conns.now in
    let timed : AreTimed (c.pop.new.self.items ++ c.in-Some.at ∷ []) old.until old.alarms conns = subst (λ (ps : List ℕ). AreTimed ps old.until old.alarms conns) c.in-Some.ensures.items c.loop-at.invariant in
    dropped c.pop.new.self.items c.in-Some.at old.until old.alarms conns timed c.if-at-conns.false
