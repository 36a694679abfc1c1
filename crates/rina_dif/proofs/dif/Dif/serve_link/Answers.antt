use Rattle.std.proofs.Common.{◌≡◌, Some, ap, inl, inr, refl, sym}
use Rattle.std.proofs.lemmas.Result.{err_from_is_err_and}
use Rattle.rina_base.specs.declared.number.Num.{Num}
use Rattle.rina_iface.specs.Free.{FreesAsSeen}
use Rattle.rina_flows.specs.declared.due.Item.{Item}
use Rattle.rina_flows.specs.declared.due.Item.TheVariants.{Ack, Again, GiveUp, Gone}
use Rattle.rina_dif.proofs.GivenUp.{frees_over_err, gives_up_link}
use Rattle.rina_dif.proofs.Serving.{turn_is}
use Rattle.rina_dif.proofs.dif.Dif.serve_link.Goals as goal

pub forget_link-requires-clause-due : goal.forget_link-requires-clause-due
forget_link-requires-clause-due g c = λ below links. (turn_is Gone c.args.self.now c.args.at c.args.next c.in-Gone.is c.requires.turn below links).first.due

pub give_up_link-requires-clause-due : goal.give_up_link-requires-clause-due
give_up_link-requires-clause-due g c = λ below links. (turn_is GiveUp c.args.self.now c.args.at c.args.next c.in-GiveUp.is c.requires.turn below links).first.due

pub acknowledge_link-requires-clause-due : goal.acknowledge_link-requires-clause-due
acknowledge_link-requires-clause-due g c = λ below links. (turn_is Ack c.args.self.now c.args.at c.args.next c.in-Ack.is c.requires.turn below links).first.due

pub resend_link-requires-clause-due : goal.resend_link-requires-clause-due
resend_link-requires-clause-due g c = λ below links. (turn_is Again c.args.self.now c.args.at c.args.next c.in-Again.is c.requires.turn below links).first.due

pub returns-in_ok-forget_link-in-Gone-clause-does : goal.returns-in_ok-forget_link-in-Gone-clause-does
returns-in_ok-forget_link-in-Gone-clause-does g c = λ lines h.
    let s = c.in_ok-forget_link-in-Gone.ensures.does lines (g.F.Facility.seen c.args.below.now) h in (
      λ links. (ap (λ (item : Item). Some item) (sym c.in-Gone.is), (refl, s.0 links, refl)),
      s.1,
    )

pub returns-in_ok-num-in-GiveUp-clause-does : goal.returns-in_ok-num-in-GiveUp-clause-does
returns-in_ok-num-in-GiveUp-clause-does g c = λ lines h.
    let e = c.in_ok-num-in-GiveUp.ensures in
    gives_up_link c.args.self.now lines (g.F.Facility.seen c.args.below.now) (g.F.Facility.seen c.give_up_link.new.below) c.args.at c.args.next c.in_ok-num-in-GiveUp.num c.in-GiveUp.is (g.met.F.Facility.kept c.args.below.now c.requires.valid) (g.met.F.Facility.kept c.give_up_link.new.below e.valid) e.later h.connected e.does h

pub returns-in_ok-acknowledge_link-in-Ack-clause-does : goal.returns-in_ok-acknowledge_link-in-Ack-clause-does
returns-in_ok-acknowledge_link-in-Ack-clause-does g c = λ lines h.
    let s = c.in_ok-acknowledge_link-in-Ack.ensures.does lines (g.F.Facility.seen c.args.below.now) h in (
      λ links. (ap (λ (item : Item). Some item) (sym c.in-Ack.is), (refl, s.0 links, refl)),
      s.1,
    )

pub returns-in_ok-num-in-Again-clause-does : goal.returns-in_ok-num-in-Again-clause-does
returns-in_ok-num-in-Again-clause-does g c = λ lines h.
    let s = c.in_ok-num-in-Again.ensures.does lines (g.F.Facility.seen c.args.below.now) h in (
      λ links. (ap (λ (item : Item). Some item) (sym c.in-Again.is), (s.0 links, refl)),
      s.1,
    )

pub returns-in_ok-num-in-GiveUp-clause-lower : goal.returns-in_ok-num-in-GiveUp-clause-lower
returns-in_ok-num-in-GiveUp-clause-lower g c =
    let e = c.in_ok-num-in-GiveUp.ensures in
    inr (ap (λ (n : Num). n.cep) (e.does c.requires.stands.1.connected).num_is, e.frees.0, e.frees.1)

pub returns-in_err-forget_link-in-Gone-clause-lower : goal.returns-in_err-forget_link-in-Gone-clause-lower
returns-in_err-forget_link-in-Gone-clause-lower g c =
    let err = err_from_is_err_and c.from_residual.result c.from_residual.ensures.1 in
    frees_over_err (c.args.below.now ≡ c.args.below.now) (FreesAsSeen g.F.Facility.seen g.F.Facility.frees_both g.F.Facility.does_free c.args.below.now c.args.below.now) c.from_residual.result err.0 err.1 (inl refl)

pub returns-in_err-num-in-GiveUp-clause-lower : goal.returns-in_err-num-in-GiveUp-clause-lower
returns-in_err-num-in-GiveUp-clause-lower g c =
    let err = err_from_is_err_and c.from_residual-in_err-num-in-GiveUp.result c.from_residual-in_err-num-in-GiveUp.ensures.1 in
    frees_over_err (c.give_up_link.new.below ≡ c.args.below.now) (FreesAsSeen g.F.Facility.seen g.F.Facility.frees_both g.F.Facility.does_free c.args.below.now c.give_up_link.new.below) c.from_residual-in_err-num-in-GiveUp.result err.0 err.1 (inr c.in_err-num-in-GiveUp.ensures.fails)

pub returns-in_err-acknowledge_link-in-Ack-clause-lower : goal.returns-in_err-acknowledge_link-in-Ack-clause-lower
returns-in_err-acknowledge_link-in-Ack-clause-lower g c =
    let err = err_from_is_err_and c.from_residual-in_err-acknowledge_link-in-Ack.result c.from_residual-in_err-acknowledge_link-in-Ack.ensures.1 in
    frees_over_err (c.args.below.now ≡ c.args.below.now) (FreesAsSeen g.F.Facility.seen g.F.Facility.frees_both g.F.Facility.does_free c.args.below.now c.args.below.now) c.from_residual-in_err-acknowledge_link-in-Ack.result err.0 err.1 (inl refl)

pub returns-in_err-num-in-Again-clause-lower : goal.returns-in_err-num-in-Again-clause-lower
returns-in_err-num-in-Again-clause-lower g c =
    let err = err_from_is_err_and c.from_residual-in_err-num-in-Again.result c.from_residual-in_err-num-in-Again.ensures.1 in
    frees_over_err (c.args.below.now ≡ c.args.below.now) (FreesAsSeen g.F.Facility.seen g.F.Facility.frees_both g.F.Facility.does_free c.args.below.now c.args.below.now) c.from_residual-in_err-num-in-Again.result err.0 err.1 (inl refl)
