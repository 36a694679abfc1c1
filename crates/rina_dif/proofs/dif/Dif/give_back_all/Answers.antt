-- One more id was given back.
use Rattle.std.proofs.Common.{◌≡◌, ◌∙◌, ℕ, get_or, None, Option, Some, ap, subst, sym}
use Rattle.std.proofs.lemmas.Option.{slice_get-get_or}
use Rattle.rina_dif.specs.declared.dif.Dif.{Dif}
use Rattle.rina_dif.specs.declared.release.IdRest.{IdRest}
use Rattle.rina_dif.specs.IdRests.{GaveOne}
use Rattle.rina_dif.proofs.GivenBack.{can_next, gave_more, gave_same_length}
use Rattle.rina_dif.proofs.dif.Dif.give_back_all.Goals as goal

pub give_back-requires : goal.give_back-requires
give_back-requires c =
    let d = c.args.self.now in
    let d1 = c.loop-at.self in
    let inv = c.loop-at.invariant in
    can_next d d1 c.args.home c.loop-at.at c.args.rests.now _ c.requires (slice_get-get_or c.args.rests.now c.loop-at.at None c.loop-at-test.true) inv.0 inv.1 (gave_same_length c.args.home d.clock c.args.rests.now c.loop-at.at d.ids d1.ids inv.0)

pub loop-at-preserved : goal.loop-at-preserved
loop-at-preserved c =
    let d = c.args.self.now in
    let d1 = c.loop-at.self in
    let new = c.give_back.new.self in
    let inv = c.loop-at.invariant in
    let is = slice_get-get_or c.args.rests.now c.loop-at.at None c.loop-at-test.true in
    let clock : d1.clock ≡ d.clock = ap (λ (z : Dif). z.clock) inv.1 in
    let one = subst (λ (o : Option (Option IdRest)). GaveOne c.args.home d.clock o d1.ids new.ids) (sym is) (subst (λ (n : ℕ). GaveOne c.args.home n (Some (get_or c.args.rests.now c.loop-at.at None)) d1.ids new.ids) clock c.give_back.ensures.given) in
    (gave_more c.args.home d.clock c.args.rests.now c.loop-at.at d.ids d1.ids new.ids inv.0 one, c.give_back.ensures.whole ∙ ap (λ (z : Dif). record z { ids = new.ids }) inv.1)
