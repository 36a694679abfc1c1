use Rattle.std.proofs.Common.{List, ℕ, Bool, arith, length, refl, subst, sym}
use Rattle.std.proofs.lemmas.Option.{slice_get_within}
use Rattle.rina_dif.specs.Messaging.{IsFirstSdu, TellsFirstSdu, TellsRoomFor}
use Rattle.rina_dif.proofs.Served.{link_queue}
use Rattle.rina_dif.proofs.Undue.{no_room, ready_at}
use Rattle.rina_dif.proofs.dif.Dif.offer_on.Goals as goal

pub returns-in_default-clause-does : goal.returns-in_default-clause-does
returns-in_default-clause-does g c = λ lines h. (λ links place due. c.in_default.ensures place due.open_end, refl)

pub returns-in_default-2-clause-does : goal.returns-in_default-2-clause-does
returns-in_default-2-clause-does g c = λ lines h. (λ links place due. subst (TellsFirstSdu c.args.self.now c.args.at c.args.number) c.in_default-2.is c.in_ok-bytes.ensures.first due.sdu due.first, refl)

pub has_room_for-requires-clause-place : goal.has_room_for-requires-clause-place
has_room_for-requires-clause-place g c =
    let d = c.args.self.now in
    let here = c.in-Some.ensures.here in
    let lt = slice_get_within d.connections.flows.journal.ends c.in-Some.place here.end here.is_end in
    let same = c.requires.stands.1.connected.tied.alike in
    omega (arith, lt, same)

pub has_room_for-requires-clause-there : goal.has_room_for-requires-clause-there
has_room_for-requires-clause-there g c =
    let st = c.requires.stands in
    link_queue c.args.self.now st.0 (g.F.Facility.seen c.args.below.now) c.args.at c.in-Some.place c.args.number st.1 c.in-Some.ensures.here

pub returns-then-not-has_room_for-clause-does : goal.returns-then-not-has_room_for-clause-does
returns-then-not-has_room_for-clause-does g c = λ lines h. (
  (let d = c.args.self.now in
      let sdu : List ℕ = c.as_slice-sdu.result.now in
      let first : IsFirstSdu d c.args.at c.args.number sdu = subst (IsFirstSdu d c.args.at c.args.number) (sym c.as_slice-sdu.ensures.value) (subst (TellsFirstSdu d c.args.at c.args.number) c.in-Some-2.is c.in_ok-bytes.ensures.first) in
      let told = subst (λ (b : Bool). TellsRoomFor d c.args.at c.in-Some.place c.args.number (length sdu) b) c.if-not-has_room_for.true c.has_room_for.ensures in
      no_room d (g.F.Facility.seen c.args.below.now) c.args.at c.in-Some.place c.args.number sdu c.in-Some.ensures first told),
  refl,
)

pub offer_sdu-requires-clause-ready : goal.offer_sdu-requires-clause-ready
offer_sdu-requires-clause-ready g c =
    let d = c.args.self.now in
    let sdu : List ℕ = c.as_slice-sdu.result.now in
    let first : IsFirstSdu d c.args.at c.args.number sdu = subst (IsFirstSdu d c.args.at c.args.number) (sym c.as_slice-sdu.ensures.value) (subst (TellsFirstSdu d c.args.at c.args.number) c.in-Some-2.is c.in_ok-bytes.ensures.first) in
    let told = subst (λ (b : Bool). TellsRoomFor d c.args.at c.in-Some.place c.args.number (length sdu) b) c.if-not-has_room_for.false c.has_room_for.ensures in
    ready_at d (g.F.Facility.seen c.args.below.now) c.args.at c.in-Some.place c.args.number sdu c.in-Some.ensures first told
