use Rattle.std.proofs.Common.{◌≡◌, ◌∙◌, Some, ap, sym}
use Rattle.std.proofs.lemmas.Bool.{false≢true}
use Rattle.rina_data.specs.Process.{link_by}
use Rattle.rina_dif.proofs.OpenEnd.{no_link, open_found, shut_below}
use Rattle.rina_dif.proofs.Undue.{allocated_is, is_allocated}
use Rattle.rina_dif.proofs.dif.Dif.open_end.Goals as goal

pub returns-in_default : goal.returns-in_default
returns-in_default g c = no_link c.args.self.now (g.F.Facility.seen c.args.below.now) c.args.at c.args.number c.in_ok-process.process.now c.in_ok-process.ensures c.requires.stands.1.connected (ap (link_by c.args.number) (sym c.as_slice.ensures) ∙ sym c.live_link.ensures ∙ c.in_default.is)

pub returns-then-not-is_allocated : goal.returns-then-not-is_allocated
returns-then-not-is_allocated g c =
    let found : link_by c.args.number c.in_ok-process.process.now.links ≡ Some c.in-Some.link = ap (link_by c.args.number) (sym c.as_slice.ensures) ∙ sym c.live_link.ensures ∙ c.in-Some.is in
    shut_below c.args.self.now (g.F.Facility.seen c.args.below.now) c.args.at c.args.number c.in_ok-process.process.now c.in_ok-process.ensures c.requires.stands.1.connected c.in-Some.link found
    (λ state. false≢true (sym c.if-not-is_allocated.true ∙ c.is_allocated.ensures.1 (is_allocated c.state.result (c.state.ensures ∙ state))))

pub returns : goal.returns
returns g c =
    let found : link_by c.args.number c.in_ok-process.process.now.links ≡ Some c.in-Some.link = ap (link_by c.args.number) (sym c.as_slice.ensures) ∙ sym c.live_link.ensures ∙ c.in-Some.is in
    open_found c.args.self.now (g.F.Facility.seen c.args.below.now) c.args.at c.args.number c.in_ok-process.process.now c.in_ok-process.ensures c.requires.stands.1.connected c.in-Some.link found c.open_on.result (sym c.state.ensures ∙ allocated_is c.state.result (c.is_allocated.ensures.0 c.if-not-is_allocated.false)) c.open_on.ensures
