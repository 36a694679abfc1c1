-- One member more is looked at.
use Rattle.std.proofs.Common.{◌≡◌, ◌∙◌, ◌<◌, ◌≤◌, ◌++◌, [], ◌∷◌, cond, slice_get, slice_set, Some, List, length, ap, refl, subst, sym, arith}
use Rattle.std.proofs.lemmas.List.{take_all}
use Rattle.std.proofs.lemmas.Option.{slice_get_read}
use Rattle.rina_iface.proofs.Changed.{slice_get-set_other, slice_get-set_same}
use Rattle.rina_data.proofs.Finding.{there}
use Rattle.rina_data.specs.declared.settings.Member.{Member}
use Rattle.rina_member.specs.declared.management.Management.{Management}
use Rattle.rina_dif.specs.Managing.{enrolled_nodes, states_of}
use Rattle.rina_dif.proofs.Enrolled.{nodes_next, pushed, unpushed}
use Rattle.rina_dif.proofs.dif.Dif.enrolled_after.Goals.{else-is_in-2, else-place-at, then-is_in-2+in_ok-push, then-place-at}
use Rattle.rina_dif.proofs.dif.Dif.enrolled_after.Goals as goal

pub loop-place-preserved : goal.loop-place-preserved
loop-place-preserved c =
    let ms = c.as_slice-managements.result.now in
    let at = c.args.at in
    let after = c.args.after.now in
    let n = c.loop-place.place in
    let lt : at < length ms = subst (λ (xs : List Management). at < length xs) (sym c.as_slice-managements.ensures) c.requires.at in
    let old = there ms at lt in
    let is_m : slice_get c.as_slice-member-items.result.now n ≡ Some c.member-item.result = slice_get_read c.as_slice-member-items.result.now (length c.as_slice-member-items.result.now) n c.member-item.result refl c.loop-place-test.true c.member-item.is in
    let is_g : slice_get (slice_set ms at after) n ≡ Some c.if-place-at.management.now = elim c.if-place-at.branch [
      | then-place-at w ↦ ap (slice_get (slice_set ms at after)) w.if-place-at.true ∙ slice_get-set_same ms at old.0 after old.1 ∙ ap (λ (g : Management). Some g) (sym (ap (λ b. b.now) w.management-is))
      | else-place-at w ↦
          (let some = c.loop-place-test.true in
          let all = ap (λ (xs : List Member). length xs) c.as_slice-member-items.ensures in
          let as_many = c.requires.aligned in
          let same = ap (λ (xs : List Management). length xs) c.as_slice-managements.ensures in
          let few : n < length ms = omega (arith, some, all, as_many, same) in
          slice_get-set_other ms at n after w.if-place-at.false ∙ slice_get_read ms (length ms) n w.index-managements-place.result refl few w.index-managements-place.is ∙ ap (λ (g : Management). Some g) (sym (ap (λ b. b.now) w.management-is)))
    ] in
    let more : c.if-is_in-2.nodes ≡ c.loop-place.nodes ++ cond c.is_in-in-loop-place.result (c.member-item.result.node ∷ []) [] = elim c.if-is_in-2.branch [
      | then-is_in-2+in_ok-push w ↦ pushed c.is_in-in-loop-place.result c.member-item.result.node c.loop-place.nodes c.if-is_in-2.nodes w.if-is_in-2.true (w.nodes-is ∙ w.in_ok-push.ensures.ok)
      | else-is_in-2 w ↦ unpushed c.is_in-in-loop-place.result c.member-item.result.node c.loop-place.nodes c.if-is_in-2.nodes w.if-is_in-2.false w.nodes-is
    ] in
    nodes_next c.as_slice-member-items.result.now (slice_set ms at after) n c.member-item.result c.if-place-at.management.now c.is_in-in-loop-place.result c.loop-place.nodes c.if-is_in-2.nodes is_m is_g c.is_in-in-loop-place.ensures c.loop-place.invariant more

pub returns : goal.returns
returns c =
    let ended : length c.as_slice-member-items.result.now ≤ c.loop-place.place = c.loop-place-test.false in
    c.loop-place.invariant
    ∙ ap (λ (xs : List Member). enrolled_nodes xs (states_of (slice_set c.as_slice-managements.result.now c.args.at c.args.after.now))) (take_all c.loop-place.place c.as_slice-member-items.result.now ended)
    ∙ (λ j. enrolled_nodes (c.as_slice-member-items.ensures j) (states_of (slice_set (c.as_slice-managements.ensures j) c.args.at c.args.after.now)))
