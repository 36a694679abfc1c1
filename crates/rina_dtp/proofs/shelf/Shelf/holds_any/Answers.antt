use Rattle.std.proofs.Common.{◌≡◌, arith}
use Rattle.std.specs.List.{count_by}
use Rattle.rina_dtp.specs.Shelf.{is_used}
use Rattle.rina_dtp.proofs.Used.{found_any, unheld}
use Rattle.rina_dtp.proofs.shelf.Shelf.holds_any.Goals as goal

pub returns-then-self-eq0 : goal.returns-then-self-eq0
returns-then-self-eq0 c =
    let none : count_by is_used c.self.inside.places.items ≡ 0 = omega arith in
    rw (← c.self.view_is) (unheld (record { next = c.self.inside.next; piece = c.self.inside.piece; places = c.self.inside.places.items }) none)

pub returns : goal.returns
returns c = found_any c.args.self.now c.first_held.result c.is_some.result c.first_held.ensures.some c.first_held.ensures.held c.is_some.ensures
