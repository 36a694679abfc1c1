use Rattle.std.proofs.Common.{◌≡◌, ◌∙◌, ap, false, refl}
use Rattle.rina_dif.specs.declared.dif.Dif.{Dif}
use Rattle.rina_dif.proofs.AskCalls.{asks_go_on, asks_none, asks_noted, asks_shown, asks_stay, asks_valid}
use Rattle.rina_dif.proofs.Facing.{same_goes_on, unchanged}
use Rattle.rina_dif.proofs.dif.Dif.allocate.Goals as goal

pub returns-then-self-clause-does : goal.returns-then-self-clause-does
returns-then-self-clause-does c = asks_none c.args.self.now c.args.ask.now

pub returns-clause-does : goal.returns-clause-does
returns-clause-does c =
    let d = c.args.self.now in
    let d' = c.ask_for-result.new.self in
    let alive : d'.failed ≡ false = ap (λ (z : Dif). z.failed) c.ask_for-result.ensures.whole ∙ c.if-self.false in
    asks_noted d c.args.ask.now c.ask_for-result.result d' c.wants_memory-self.result alive c.ask_for-result.ensures.does

pub returns-then-self-clause-shown : goal.returns-then-self-clause-shown
returns-then-self-clause-shown c = λ s h fac. unchanged s c.args.ask.now.fac c.args.self.now c.args.self.now h refl

pub returns-then-self-clause-goes_on : goal.returns-then-self-clause-goes_on
returns-then-self-clause-goes_on c = same_goes_on c.args.self.now c.args.self.now c.requires refl

pub returns-clause-valid : goal.returns-clause-valid
returns-clause-valid c =
    let d = c.args.self.now in
    let ask = c.args.ask.now in
    let r = c.ask_for-result.result in
    let d' = c.ask_for-result.new.self in
    let whole = c.ask_for-result.ensures.whole in
    let alive : d'.failed ≡ false = ap (λ (z : Dif). z.failed) whole ∙ c.if-self.false in
    asks_valid d ask r (record d' { failed = c.wants_memory-self.result }) c.requires (ap (λ (z : Dif). z.clock) whole) (asks_noted d ask r d' c.wants_memory-self.result alive c.ask_for-result.ensures.does)

pub returns-clause-shown : goal.returns-clause-shown
returns-clause-shown c = λ s h fac.
    let d = c.args.self.now in
    let ask = c.args.ask.now in
    let r = c.ask_for-result.result in
    let d' = c.ask_for-result.new.self in
    let alive : d'.failed ≡ false = ap (λ (z : Dif). z.failed) c.ask_for-result.ensures.whole ∙ c.if-self.false in
    asks_shown s d ask r (record d' { failed = c.wants_memory-self.result }) c.requires fac h (asks_noted d ask r d' c.wants_memory-self.result alive c.ask_for-result.ensures.does)

pub returns-clause-goes_on : goal.returns-clause-goes_on
returns-clause-goes_on c =
    let d = c.args.self.now in
    let ask = c.args.ask.now in
    let r = c.ask_for-result.result in
    let d' = c.ask_for-result.new.self in
    let alive : d'.failed ≡ false = ap (λ (z : Dif). z.failed) c.ask_for-result.ensures.whole ∙ c.if-self.false in
    asks_go_on d ask r (record d' { failed = c.wants_memory-self.result }) c.requires (asks_noted d ask r d' c.wants_memory-self.result alive c.ask_for-result.ensures.does)

pub returns-clause-stands : goal.returns-clause-stands
returns-clause-stands c =
    let d = c.args.self.now in
    let ask = c.args.ask.now in
    let r = c.ask_for-result.result in
    let d' = c.ask_for-result.new.self in
    let alive : d'.failed ≡ false = ap (λ (z : Dif). z.failed) c.ask_for-result.ensures.whole ∙ c.if-self.false in
    asks_stay d ask r (record d' { failed = c.wants_memory-self.result }) (asks_noted d ask r d' c.wants_memory-self.result alive c.ask_for-result.ensures.does)
