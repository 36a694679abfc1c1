use Rattle.std.proofs.Common.{◌≡◌, ◌≢◌, ◌∙◌, Some, ap, arith, sym}
use Rattle.rina_data.specs.Configs.{cube_by}
use Rattle.rina_dif.proofs.Room.{may_from}
use Rattle.rina_dif.proofs.dif.Dif.may_bind.Goals as goal

pub returns-then-has_room : goal.returns-then-has_room
returns-then-has_room c =
    let d = c.args.self.now in
    let fixed = c.args.fixed.now in
    let meant = c.if-fixed-self.false in
    let differ = c.if-fixed.false in
    let fac : d.settings.fac ≡ fixed.fac = omega (arith, meant) in
    let apart : fixed.a ≢ fixed.b = λ same. omega (arith, same, differ) in
    let is_cube : cube_by fixed.cube d.settings.cubes ≡ Some c.in-Some._cube.now = ap (cube_by fixed.cube) (sym c.as_slice.ensures) ∙ sym c.in-Some.ensures in
    (λ holds. may_from d fixed c.in-Some._cube.now fac apart is_cube (c.has_room.ensures.0 c.if-has_room.true) (c.has_room-then-has_room.ensures.0 holds), λ may. c.has_room-then-has_room.ensures.1 (may.of_b, may.at_b))
