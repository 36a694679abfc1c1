use Rattle.std.proofs.Common.{◌≡◌, ◌∙◌, ap, arith, refl, slice_get, sym}
use Rattle.std.proofs.lemmas.Option.{slice_get_read}
use Rattle.std.specs.List.{list_any}
use Rattle.std.specs.ControlFlow.{continue_value}
use Rattle.std.proofs.lemmas.Bool.{false≢true}
use Rattle.rina_iface.specs.declared.state.PortState.TheVariants.{Allocated}
use Rattle.rina_dif.specs.LinkDue.{is_link_of}
use Rattle.rina_dif.proofs.LinkFirst.{tells_due, tells_no_conn, tells_not_live}
use Rattle.rina_dif.proofs.dif.Dif.link_due_at.Goals as goal
use Rattle.rina_dif.proofs.dif.Dif.link_due_at.Goals.{in-Allocated, in_default, then-not-has_link_of-via-then-not-has_link_of, then-not-has_link_of-via-else-not-has_link_of+then-place-len}

pub returns-then-not-has_link_of : goal.returns-then-not-has_link_of
returns-then-not-has_link_of c = elim c.then-not-has_link_of.branch [
  | then-not-has_link_of-via-then-not-has_link_of w ↦
      (let stands = ap (λ xs. slice_get xs c.args.place) (sym c.as_slice.ensures) ∙ slice_get_read c.as_slice.result.now _ c.args.place c.in_ok-channel.channel.now refl c.in_ok-channel.ensures.lookup.3.0 c.in_ok-channel.ensures.lookup.1 in
      let none = ap (list_any (is_link_of c.in_ok-attached.attached)) (sym c.as_slice-2.ensures) ∙ sym c.has_link_of.ensures ∙ w.if-not-has_link_of.true in
      tells_not_live c.args.item c.args.self.now c.args.at c.args.place c.in_ok-process.process.now c.in_ok-channel.channel.now c.in_ok-attached.attached stands c.in_ok-process.ensures c.if-channel-at.false (c.branch-attached.ensures ∙ ap continue_value c.in_ok-attached.is) none)
  | then-not-has_link_of-via-else-not-has_link_of+then-place-len w ↦
      (let count = w.len.ensures in
      let past = w.if-place-len.true in
      tells_no_conn c.args.item c.args.self.now c.args.at c.args.place (omega (arith, count, past)))
]

pub returns : goal.returns
returns c =
    let stands = ap (λ xs. slice_get xs c.args.place) (sym c.as_slice.ensures) ∙ slice_get_read c.as_slice.result.now _ c.args.place c.in_ok-channel.channel.now refl c.in_ok-channel.ensures.lookup.3.0 c.in_ok-channel.ensures.lookup.1 in
    let any = ap (list_any (is_link_of c.in_ok-attached.attached)) (sym c.as_slice-2.ensures) ∙ sym c.has_link_of.ensures ∙ c.if-not-has_link_of.false in
    let allocated : c.in_ok-end.end.now.state ≡ Allocated = elim c.match-matches.branch [ in-Allocated w ↦ w.in-Allocated.is | in_default w ↦ absurd (false≢true (sym w.matches-is ∙ c.if-not-matches.false)) ] in
    tells_due c.args.item c.args.self.now c.args.at c.args.place c.in_ok-process.process.now c.in_ok-channel.channel.now c.in_ok-attached.attached c.in_ok-end.end.now c.is_due.result stands c.in_ok-end.ensures allocated c.in_ok-process.ensures c.if-channel-at.false (c.branch-attached.ensures ∙ ap continue_value c.in_ok-attached.is) any c.is_due.ensures c.if-not-is_due.false
