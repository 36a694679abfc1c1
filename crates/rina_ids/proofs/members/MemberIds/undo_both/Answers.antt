use Rattle.std.proofs.Common.{List, subst, sym}
use Rattle.rina_ids.specs.Members.{CepIds, IsDrawnAt}
use Rattle.rina_ids.proofs.members.MemberIds.undo_both.Goals as goal

pub undo_draw-requires-2 : goal.undo_draw-requires-2
undo_draw-requires-2 c =
    let r = c.requires.2 in
    (c.requires.0, c.requires.1, subst (λ (z : List CepIds). IsDrawnAt c.requires.0 c.requires.1 c.args.a c.args.draws.0 z) (sym (c.undo_draw.ensures r.between c.requires.1 r.second)) r.first)

pub returns : goal.returns
returns c = λ held now r. c.undo_draw-2.ensures held now (subst (λ (z : List CepIds). IsDrawnAt held now c.args.a c.args.draws.0 z) (sym (c.undo_draw.ensures r.between now r.second)) r.first)
