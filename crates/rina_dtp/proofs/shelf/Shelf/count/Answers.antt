use Rattle.std.proofs.Common.{◌≡◌, ℕ, List, length, Bool, ◌≤◌, arith, cond, ap, ◌∙◌, sym, ◌+◌}
use Rattle.std.specs.List.{count_by}
use Rattle.rina_dtp.specs.Shelf.{is_used}
use Rattle.rina_dtp.proofs.Fetched.{count_more}
use Rattle.rina_dtp.proofs.Used.{unheld}
use Rattle.rina_dtp.proofs.shelf.Shelf.count.Goals as goal
use Rattle.rina_dtp.proofs.shelf.Shelf.count.Goals.{then-holds, else-holds}

pub loop-number-preserved : goal.loop-number-preserved
loop-number-preserved c =
    let s = c.args.self.now in
    let n = c.loop-number.number in
    let from = c.loop-number.auto.number in
    let at = c.next-next.ensures.next in
    let one_if : Bool → ℕ = λ b. cond b 1 0 in
    let low : s.next ≤ n = omega arith in
    elim c.if-holds.branch [
      | then-holds w ↦ (let is = w.count-is in let yes = sym c.holds.ensures.holds ∙ w.if-holds.true in
          (count_more s.places s.next n c.loop-number.count c.if-holds.count low c.loop-number.invariant.0 (is ∙ ap (λ b. c.loop-number.count + cond b 1 0) (sym yes)), omega arith))
      | else-holds w ↦ (let is = w.count-is in let no = sym c.holds.ensures.holds ∙ w.if-holds.false in
          (count_more s.places s.next n c.loop-number.count c.if-holds.count low c.loop-number.invariant.0 (omega (arith, is, ap one_if no)), omega arith))
    ]

pub returns-then-self-eq0-clause-count : goal.returns-then-self-eq0-clause-count
returns-then-self-eq0-clause-count c =
    let none : count_by is_used c.self.inside.places.items ≡ 0 = omega arith in
    rw (← c.self.view_is) (sym (ap (λ (ns : List ℕ). length ns) (unheld (record { next = c.self.inside.next; piece = c.self.inside.piece; places = c.self.inside.places.items }) none)))
