use Rattle.std.proofs.Common.{◌≡◌, ◌∙◌, ℕ, None, Option, Result, Some, ap, false, inr, refl, subst, sym}
use Rattle.std.proofs.lemmas.Result.{err_from_is_err_and}
use Rattle.rina_base.specs.declared.memory.Memory.{Memory}
use Rattle.rina_dif.specs.Claiming.{ClaimsHere, MayLink}
use Rattle.rina_dif.specs.Enrolling.{is_full}
use Rattle.rina_dif.specs.Lower.{ClaimsLower, name_of}
use Rattle.rina_dif.proofs.ClaimedBelow.{claimed_mine, holds_claimed}
use Rattle.rina_dif.proofs.ClaimedFirst.{asked_by, may_link}
use Rattle.rina_dif.proofs.NewLinkHolds.{claimed_holds}
use Rattle.rina_dif.proofs.dif.Dif.claim_at.Goals as goal

pub returns-in_default-claim_first-clause-lower : goal.returns-in_default-claim_first-clause-lower
returns-in_default-claim_first-clause-lower g c = (None, asked_by (λ name x fac answer y. g.F.Facility.does_incoming x fac c.args.node name answer y) c.args.below.now c.claim_first.new.below c.args.self.now c.args.at c.in-Some-Some.member.now None c.in-Some-Some.ensures' c.in_default-claim_first.ensures.lower)

pub awaiting_at-requires-clause-stands : goal.awaiting_at-requires-clause-stands
awaiting_at-requires-clause-stands g c =
    let st = c.requires.stands in
    (st.0, holds_claimed c.args.self.now st.0 (g.F.Facility.seen c.args.below.now) (g.F.Facility.seen c.claim_first.new.below) c.args.node c.in-Some-Some.member.now.name c.in-Some.port (g.met.F.Facility.kept c.claim_first.new.below c.in-Some.ensures.valid) c.in-Some.ensures.claims st.1)

pub awaiting_at-requires-clause-mine : goal.awaiting_at-requires-clause-mine
awaiting_at-requires-clause-mine g c = claimed_mine c.args.self.now c.args.at c.in-Some-Some.member.now (g.F.Facility.seen c.args.below.now) (g.F.Facility.seen c.claim_first.new.below) c.args.node c.in-Some.port c.in-Some-Some.ensures' (g.met.F.Facility.kept c.args.below.now c.requires.valid) c.in-Some.ensures.claims

pub take_claimed-requires-clause-stands : goal.take_claimed-requires-clause-stands
take_claimed-requires-clause-stands g c =
    let st = c.requires.stands in (
      g.F.Facility.seen c.claim_first.new.below,
      (st.0, holds_claimed c.args.self.now st.0 (g.F.Facility.seen c.args.below.now) (g.F.Facility.seen c.claim_first.new.below) c.args.node c.in-Some-Some.member.now.name c.in-Some.port (g.met.F.Facility.kept c.claim_first.new.below c.in-Some.ensures.valid) c.in-Some.ensures.claims st.1),
      c.in-Some-awaiting_at.ensures.finds,
    )

pub returns-in_err-take_claimed-in-Some-awaiting_at-clause-does : goal.returns-in_err-take_claimed-in-Some-awaiting_at-clause-does
returns-in_err-take_claimed-in-Some-awaiting_at-clause-does g c = λ lines h.
    let d = c.args.self.now in
    let below = g.F.Facility.seen c.args.below.now in
    let below' = g.F.Facility.seen c.claim_first.new.below in
    let member = c.in-Some-Some.member.now in
    let err = err_from_is_err_and c.from_residual.result c.from_residual.ensures.1 in
    let now = holds_claimed d lines below below' c.args.node member.name c.in-Some.port (g.met.F.Facility.kept c.claim_first.new.below c.in-Some.ensures.valid) c.in-Some.ensures.claims h in
    let room : is_full c.in-Some-Some.process.now.links ≡ false = ap is_full (sym c.as_slice.ensures) ∙ sym c.if-is_full.ensures in
    let may : MayLink d c.args.node c.args.at member = may_link d c.args.node c.args.at member c.in-Some-Some.process.now c.requires.home c.in-Some-Some.ensures' c.in-Some-Some.ensures room in
    let shows = c.in_err-take_claimed-in-Some-awaiting_at.ensures.err lines below' now in
    subst (λ (r : Result (Option ℕ) Memory). ClaimsHere d lines below c.args.node r c.take_claimed.new.self below') (sym err.1) (shows.0, shows.1, inr (c.args.at, member, c.in-Some.port, may, c.in-Some.ensures.claims))

pub returns-in_err-take_claimed-in-Some-awaiting_at-clause-lower : goal.returns-in_err-take_claimed-in-Some-awaiting_at-clause-lower
returns-in_err-take_claimed-in-Some-awaiting_at-clause-lower g c =
    let err = err_from_is_err_and c.from_residual.result c.from_residual.ensures.1 in
    subst (λ (r : Result (Option ℕ) Memory). ClaimsLower (λ x fac answer y. g.F.Facility.does_incoming x fac c.args.node (name_of c.args.self.now c.args.at) answer y) c.args.below.now r c.claim_first.new.below) (sym err.1)
    (c.in-Some.port, asked_by (λ name x fac answer y. g.F.Facility.does_incoming x fac c.args.node name answer y) c.args.below.now c.claim_first.new.below c.args.self.now c.args.at c.in-Some-Some.member.now (Some c.in-Some.port) c.in-Some-Some.ensures' c.in-Some.ensures.lower)

pub returns-in_ok-take_claimed-in-Some-awaiting_at-clause-does : goal.returns-in_ok-take_claimed-in-Some-awaiting_at-clause-does
returns-in_ok-take_claimed-in-Some-awaiting_at-clause-does g c = λ lines h.
    let d = c.args.self.now in
    let below = g.F.Facility.seen c.args.below.now in
    let below' = g.F.Facility.seen c.claim_first.new.below in
    let member = c.in-Some-Some.member.now in
    let kept = g.met.F.Facility.kept c.args.below.now c.requires.valid in
    let kept' = g.met.F.Facility.kept c.claim_first.new.below c.in-Some.ensures.valid in
    let now = holds_claimed d lines below below' c.args.node member.name c.in-Some.port kept' c.in-Some.ensures.claims h in
    let room : is_full c.in-Some-Some.process.now.links ≡ false = ap is_full (sym c.as_slice.ensures) ∙ sym c.if-is_full.ensures in
    let may : MayLink d c.args.node c.args.at member = may_link d c.args.node c.args.at member c.in-Some-Some.process.now c.requires.home c.in-Some-Some.ensures' c.in-Some-Some.ensures room in
    let takes = c.in_ok-take_claimed-in-Some-awaiting_at.ensures.does below' c.in-Some-awaiting_at.ensures.finds in (
      record { i = c.args.at; member = member; may = may; port = c.in-Some.port; claims = c.in-Some.ensures.claims; takes = takes },
      claimed_holds d lines below below' c.args.node c.args.at member c.in-Some.port c.in_ok-take_claimed-in-Some-awaiting_at.field-0 c.take_claimed.new.self kept kept' may c.in-Some.ensures.claims takes now,
    )

pub returns-in_ok-take_claimed-in-Some-awaiting_at-clause-lower : goal.returns-in_ok-take_claimed-in-Some-awaiting_at-clause-lower
returns-in_ok-take_claimed-in-Some-awaiting_at-clause-lower g c = (c.in-Some.port, asked_by (λ name x fac answer y. g.F.Facility.does_incoming x fac c.args.node name answer y) c.args.below.now c.claim_first.new.below c.args.self.now c.args.at c.in-Some-Some.member.now (Some c.in-Some.port) c.in-Some-Some.ensures' c.in-Some.ensures.lower)

pub returns-in-None-clause-does : goal.returns-in-None-clause-does
returns-in-None-clause-does g c = λ lines h.
    let d = c.args.self.now in
    let below = g.F.Facility.seen c.args.below.now in
    let below' = g.F.Facility.seen c.claim_first.new.below in
    let member = c.in-Some-Some.member.now in
    let now = holds_claimed d lines below below' c.args.node member.name c.in-Some.port (g.met.F.Facility.kept c.claim_first.new.below c.in-Some.ensures.valid) c.in-Some.ensures.claims h in
    let room : is_full c.in-Some-Some.process.now.links ≡ false = ap is_full (sym c.as_slice.ensures) ∙ sym c.if-is_full.ensures in
    let may : MayLink d c.args.node c.args.at member = may_link d c.args.node c.args.at member c.in-Some-Some.process.now c.requires.home c.in-Some-Some.ensures' c.in-Some-Some.ensures room in
    (inr (record { i = c.args.at; member = member; may = may; port = c.in-Some.port; claims = c.in-Some.ensures.claims; unawaited = c.in-None.ensures.finds }), refl, now)

pub returns-in-None-clause-lower : goal.returns-in-None-clause-lower
returns-in-None-clause-lower g c = (Some c.in-Some.port, asked_by (λ name x fac answer y. g.F.Facility.does_incoming x fac c.args.node name answer y) c.args.below.now c.claim_first.new.below c.args.self.now c.args.at c.in-Some-Some.member.now (Some c.in-Some.port) c.in-Some-Some.ensures' c.in-Some.ensures.lower)
