use Rattle.std.proofs.Common.{rules, ◌≡◌, ◌∙◌, Err, None, ap, refl, sym}
use Rattle.rina_iface.specs.declared.error.SendError.TheVariants.{Memory, NotAllocated}
use Rattle.rina_iface.specs.Ends.{place_in}
use Rattle.rina_dif.specs.declared.dif.Dif.{Dif}
use Rattle.rina_dif.proofs.Sent.{failed_sends, refailed, sends_at, sent_whole}
use Rattle.rina_dif.proofs.Facing.{nowhere_sends, sends_go_on, sends_shown, sends_stay}
use Rattle.rina_dif.proofs.Elsewhere.{at_port}
use Rattle.rina_dif.proofs.dif.Dif.send.Goals as goal

pub returns-then-self-clause-does : goal.returns-then-self-clause-does
returns-then-self-clause-does c = failed_sends (place_in c.args.port c.args.self.now.flows.journal.ends) c.args.self.now c.args.sdu.now

pub returns-clause-valid : goal.returns-clause-valid
returns-clause-valid c =
    let d' = c.send_at-result.new.self in
    sent_whole c.args.self.now c.in-Some.at c.args.sdu.now c.send_at-result.result (record d' { failed = c.match-matches.self }) c.requires c.send_at-result.ensures.same.1 (λ lines below h. refailed c.args.self.now lines below c.in-Some.at c.args.sdu.now c.send_at-result.result d' c.match-matches.self (c.send_at-result.ensures.same.2 ∙ c.if-self.false) (c.send_at-result.ensures.does lines below h))

pub returns-clause-does : goal.returns-clause-does
returns-clause-does c = λ lines below h.
    let d' = c.send_at-result.new.self in
    let here = sym c.place.ensures.at ∙ c.in-Some.is in
    sends_at (place_in c.args.port c.args.self.now.flows.journal.ends) c.args.self.now lines below c.in-Some.at c.args.sdu.now c.send_at-result.result (record d' { failed = c.match-matches.self }) here (refailed c.args.self.now lines below c.in-Some.at c.args.sdu.now c.send_at-result.result d' c.match-matches.self (c.send_at-result.ensures.same.2 ∙ c.if-self.false) (c.send_at-result.ensures.does lines below h))

pub returns-then-self-clause-shown : goal.returns-then-self-clause-shown
returns-then-self-clause-shown c = λ s shows. sends_shown s c.args.self.now c.args.port c.args.sdu.now (Err Memory) c.args.self.now c.requires (failed_sends (place_in c.args.port c.args.self.now.flows.journal.ends) c.args.self.now c.args.sdu.now) shows

pub returns-then-self-clause-goes_on : goal.returns-then-self-clause-goes_on
returns-then-self-clause-goes_on c = sends_go_on c.args.self.now c.args.port c.args.sdu.now (Err Memory) c.args.self.now c.requires (failed_sends (place_in c.args.port c.args.self.now.flows.journal.ends) c.args.self.now c.args.sdu.now) refl

pub returns-in_default-clause-shown : goal.returns-in_default-clause-shown
returns-in_default-clause-shown c = λ s shows.
    let none : place_in c.args.port c.args.self.now.flows.journal.ends ≡ None = search rules in
    sends_shown s c.args.self.now c.args.port c.args.sdu.now (Err (NotAllocated None)) c.args.self.now c.requires (nowhere_sends (place_in c.args.port c.args.self.now.flows.journal.ends) c.args.self.now c.args.sdu.now none) shows

pub returns-in_default-clause-goes_on : goal.returns-in_default-clause-goes_on
returns-in_default-clause-goes_on c =
    let none : place_in c.args.port c.args.self.now.flows.journal.ends ≡ None = search rules in
    sends_go_on c.args.self.now c.args.port c.args.sdu.now (Err (NotAllocated None)) c.args.self.now c.requires (nowhere_sends (place_in c.args.port c.args.self.now.flows.journal.ends) c.args.self.now c.args.sdu.now none) refl

pub returns-clause-shown : goal.returns-clause-shown
returns-clause-shown c = λ s shows.
    let d' = c.send_at-result.new.self in
    let here = sym c.place.ensures.at ∙ c.in-Some.is in
    sends_shown s c.args.self.now c.args.port c.args.sdu.now c.send_at-result.result (record d' { failed = c.match-matches.self }) c.requires (λ lines below h. sends_at (place_in c.args.port c.args.self.now.flows.journal.ends) c.args.self.now lines below c.in-Some.at c.args.sdu.now c.send_at-result.result (record d' { failed = c.match-matches.self }) here (refailed c.args.self.now lines below c.in-Some.at c.args.sdu.now c.send_at-result.result d' c.match-matches.self (c.send_at-result.ensures.same.2 ∙ c.if-self.false) (c.send_at-result.ensures.does lines below h))) shows

pub returns-clause-goes_on : goal.returns-clause-goes_on
returns-clause-goes_on c =
    let d' = c.send_at-result.new.self in
    let here = sym c.place.ensures.at ∙ c.in-Some.is in
    sends_go_on c.args.self.now c.args.port c.args.sdu.now c.send_at-result.result (record d' { failed = c.match-matches.self }) c.requires (λ lines below h. sends_at (place_in c.args.port c.args.self.now.flows.journal.ends) c.args.self.now lines below c.in-Some.at c.args.sdu.now c.send_at-result.result (record d' { failed = c.match-matches.self }) here (refailed c.args.self.now lines below c.in-Some.at c.args.sdu.now c.send_at-result.result d' c.match-matches.self (c.send_at-result.ensures.same.2 ∙ c.if-self.false) (c.send_at-result.ensures.does lines below h))) (ap (λ (z : Dif). z.enrolled) c.send_at-result.ensures.whole)

pub returns-clause-stands : goal.returns-clause-stands
returns-clause-stands c =
    let d' = c.send_at-result.new.self in
    let here = sym c.place.ensures.at ∙ c.in-Some.is in
    sends_stay c.args.self.now c.args.port c.args.sdu.now c.send_at-result.result (record d' { failed = c.match-matches.self }) (λ lines below h. sends_at (place_in c.args.port c.args.self.now.flows.journal.ends) c.args.self.now lines below c.in-Some.at c.args.sdu.now c.send_at-result.result (record d' { failed = c.match-matches.self }) here (refailed c.args.self.now lines below c.in-Some.at c.args.sdu.now c.send_at-result.result d' c.match-matches.self (c.send_at-result.ensures.same.2 ∙ c.if-self.false) (c.send_at-result.ensures.does lines below h)))

pub returns-clause-leaves : goal.returns-clause-leaves
returns-clause-leaves c =
    let d' = c.send_at-result.new.self in
    at_port c.send_at-result.result c.args.self.now (record d' { failed = c.match-matches.self }) c.args.port c.in-Some.at (sym c.place.ensures.at ∙ c.in-Some.is) c.send_at-result.ensures.leaves
