use Rattle.std.proofs.Common.{◌<◌, get_or, length, refl, arith}
use Rattle.rina_dif.proofs.Clocked.{among_all, among_here, among_not_here, none_without}
use Rattle.rina_dif.proofs.dif.Dif.first_among.Goals as goal
use Rattle.rina_dif.proofs.dif.Dif.first_among.Goals.{then-at-len+then-is_due_at, else-at-len, else-at-len-via-then-at-len+else-is_due_at, else-at-len-via-else-at-len}

pub loop-place-preserved : goal.loop-place-preserved
loop-place-preserved c =
    let d = c.args.self.now in
    let places = c.args.places.now in
    let n = c.loop-place.place in
    let at = get_or places n 0 in
    let count = c.len.ensures in
    let inside = c.loop-place-test.true in
    elim c.if-at-len.branch [
      | then-at-len+then-is_due_at w ↦
          let before = w.if-at-len.true in
          let lt : at < length d.flows.conns = omega (arith, count, before) in
          rw (w.first-is, w.earlier.ensures) (among_here c.args.item d c.args.node n at places c.loop-place.first w.turn.result w.is_due_at.result inside refl c.loop-place.invariant w.is_due_at.ensures w.if-is_due_at.true lt w.turn.ensures)
      | else-at-len w ↦ elim w.else-at-len.branch [
        | else-at-len-via-then-at-len+else-is_due_at w' ↦ rw w.first-is (among_not_here c.args.item d c.args.node n at places c.loop-place.first w'.is_due_at.result inside refl c.loop-place.invariant w'.is_due_at.ensures w'.if-is_due_at.false)
        | else-at-len-via-else-at-len w' ↦
            let past = w'.if-at-len.false in
            rw w.first-is (among_not_here c.args.item d c.args.node n at places c.loop-place.first _ inside refl c.loop-place.invariant (none_without c.args.item d c.args.node at (omega (arith, count, past))) refl)
      ]
    ]

pub returns : goal.returns
returns c =
    let after = c.loop-place-test.false in
    let within = c.loop-place.auto.place-end in
    among_all c.args.item c.args.self.now c.args.node c.loop-place.place c.args.places.now c.loop-place.first c.requires (omega (arith, after, within)) c.loop-place.invariant
