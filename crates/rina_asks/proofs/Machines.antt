-- What the machines of a request say of its flow, before and after what they hear.
use Rattle.std.proofs.Common.{◌≡◌, ℕ, Bool, true, false, Option, Some, None, refl, sym, ◌∙◌, ap, subst}
use Rattle.std.proofs.lemmas.Bool.{false≢true}
use Rattle.std.proofs.lemmas.Option.{none-some, same_Some}
use Rattle.rina_alloc.specs.declared.answer.FlowAnswer.{FlowAnswer}
use Rattle.rina_alloc.specs.declared.answer.FlowAnswer.TheVariants as answers
use Rattle.rina_alloc.specs.declared.asking.Asking.{Asking}
use Rattle.rina_alloc.specs.declared.event.Pair.{Pair}
use Rattle.rina_alloc.specs.declared.event.AskEvent.TheVariants as events
use Rattle.rina_alloc.specs.declared.message.FlowAsk.{FlowAsk}
use Rattle.rina_alloc.specs.Machines.{asking_becomes}
use Rattle.rina_rest.specs.Flows.{Endpoint, Flow}
use Rattle.rina_rest.specs.Ledger.{made, told_flow, ended_far}
use Rattle.rina_asks.specs.Allocation.{FarSide, IsRefusal, heard, new_far_side}
use Rattle.rina_asks.specs.Holding.{AskerIs, IsBoundWhile, FarIs}

-- What the asker's machine says

pub waits_is : (waits : Bool) (bound : Option Pair) (f : Flow) → waits ≡ true → AskerIs waits bound f → (f.asker.ended ≡ None) × (f.told ≡ false)
waits_is true None f e is = is
waits_is true (Some pair) f e is = absurd is
waits_is false bound f e is = absurd (false≢true e)

pub bound_is : (waits : Bool) (bound : Option Pair) (f : Flow) (pair : Pair) → bound ≡ Some pair → AskerIs waits bound f → AskerIs false (Some pair) f
bound_is true None f pair e is = absurd (none-some pair e)
bound_is true (Some p) f pair e is = absurd is
bound_is false None f pair e is = absurd (none-some pair e)
bound_is false (Some p) f pair e is =
    let P : Pair → Type 0 = λ z. AskerIs false (Some z) f in
    subst P (same_Some p pair e) is

-- an asker that waits no more, to which no answer came, has ended
pub over_is : (waits : Bool) (bound : Option Pair) (f : Flow) → waits ≡ false → f.told ≡ false → AskerIs waits bound f → (t : ℕ) × (f.asker.ended ≡ Some t)
over_is true bound f e untold is = absurd (false≢true (sym e))
over_is false None f e untold is = is
over_is false (Some p) f e untold is = absurd (false≢true (sym untold ∙ is.1))

-- What it says after an event

abbrev IsAfter : Asking → Flow → Type 0
IsAfter a x = AskerIs a.waits a.bound x

pub after_clock : (waits : Bool) (bound : Option Pair) (f x : Flow) (t : ℕ) → waits ≡ true → AskerIs waits bound f → x.asker.ended ≡ Some t → IsAfter (asking_becomes waits bound (events.Clock true)) x
after_clock true None f x t e is over = (t, over)
after_clock true (Some pair) f x t e is over = absurd is
after_clock false bound f x t e is over = absurd (false≢true e)

pub after_ended : (waits : Bool) (bound : Option Pair) (x : Flow) (t : ℕ) → x.asker.ended ≡ Some t → IsAfter (asking_becomes waits bound events.Ended) x
after_ended true None x t over = (t, over)
after_ended true (Some pair) x t over = (t, over)
after_ended false None x t over = (t, over)
after_ended false (Some pair) x t over = (t, over)

pub after_delete : (waits : Bool) (bound : Option Pair) (f x : Flow) (pair : Pair) (t : ℕ) → bound ≡ Some pair → AskerIs waits bound f → x.asker.ended ≡ Some t → IsAfter (asking_becomes waits bound events.Delete) x
after_delete true None f x pair t e is over = absurd (none-some pair e)
after_delete true (Some p) f x pair t e is over = absurd is
after_delete false None f x pair t e is over = (t, over)
after_delete false (Some p) f x pair t e is over = (t, over)

pub after_refusal : (waits : Bool) (bound : Option Pair) (answer : FlowAnswer) (x : Flow) (t : ℕ) → waits ≡ true → IsRefusal answer → x.asker.ended ≡ Some t → IsAfter (asking_becomes waits bound (heard answer)) x
after_refusal true bound (answers.Yes dcep scep) x t e refuses over = absurd refuses
after_refusal true bound (answers.Denied rule) x t e refuses over = (t, over)
after_refusal true bound answers.NotHere x t e refuses over = (t, over)
after_refusal true bound (answers.NoIds used) x t e refuses over = (t, over)
after_refusal false bound answer x t e refuses over = absurd (false≢true e)

pub after_yes : (waits : Bool) (bound : Option Pair) (dcep scep : ℕ) (f : Flow) (far : Endpoint) → waits ≡ true → AskerIs waits bound f → scep ≡ f.asker.cep → f.far ≡ Some far → dcep ≡ far.cep → IsAfter (asking_becomes waits bound (heard (answers.Yes dcep scep))) (told_flow f)
after_yes true bound dcep scep f far e is own known other =
    let waiting = waits_is true bound f refl is in
    (waiting.0, refl, own, far, known, other)
after_yes false bound dcep scep f far e is own known other = absurd (false≢true e)

-- What it says where the far end is made, or ends

pub asker_made : (waits : Bool) (bound : Option Pair) (f : Flow) (cep : ℕ) → f.far ≡ None → AskerIs waits bound f → AskerIs waits bound (made f cep)
asker_made true None f cep free is = is
asker_made true (Some pair) f cep free is = is
asker_made false None f cep free is = is
asker_made false (Some pair) f cep free is = absurd (none-some (is.3) (sym free ∙ is.4))

pub asker_far_ended : (waits : Bool) (bound : Option Pair) (now : ℕ) (f : Flow) (far : Endpoint) → f.far ≡ Some far → AskerIs waits bound f → AskerIs waits bound (ended_far now f far)
asker_far_ended true None now f far known is = is
asker_far_ended true (Some pair) now f far known is = is
asker_far_ended false None now f far known is = is
asker_far_ended false (Some pair) now f far known is = (is.0, is.1, is.2, record far { ended = Some now }, refl, is.5 ∙ ap (λ (z : Endpoint). z.cep) (same_Some (is.3) far (sym (is.4) ∙ known)))

-- What the far end's machine says

-- a far end that is known, and one that has its application, its partner and its cube
pub far_is : (ask : FlowAsk) (addr scep : ℕ) (o : Option Endpoint) (p : Option FarSide) (far : Endpoint) (e : FarSide) → o ≡ Some far → p ≡ Some e → FarIs ask addr scep o p → FarIs ask addr scep (Some far) (Some e)
far_is ask addr scep o p far e known there is =
    let P : Option Endpoint → Type 0 = λ z. FarIs ask addr scep z p in
    let Q : Option FarSide → Type 0 = λ z. FarIs ask addr scep (Some far) z in
    subst Q there (subst P known is)

pub far_some : (ask : FlowAsk) (addr scep : ℕ) (o : Option Endpoint) (p : Option FarSide) (far : Endpoint) → o ≡ Some far → FarIs ask addr scep o p → (e : FarSide) × (p ≡ Some e) × FarIs ask addr scep (Some far) (Some e)
far_some ask addr scep None p far known is = absurd (none-some far known)
far_some ask addr scep (Some h) None far known is = absurd is
far_some ask addr scep (Some h) (Some e) far known is = (e, refl, far_is ask addr scep (Some h) (Some e) far e known refl is)

-- it is bound while its end stands
pub bound_while : (ended : Option ℕ) (pair other : Pair) (bound : Option Pair) → IsBoundWhile ended pair bound → bound ≡ Some other → (ended ≡ None) × (pair ≡ other)
bound_while None pair other bound is e = (refl, same_Some pair other (sym is ∙ e))
bound_while (Some t) pair other bound is e = absurd (none-some other (sym is ∙ e))

pub bound_standing : (ended : Option ℕ) (pair : Pair) (bound : Option Pair) → IsBoundWhile ended pair bound → ended ≡ None → bound ≡ Some pair
bound_standing None pair bound is e = is
bound_standing (Some t) pair bound is e = absurd (none-some t (sym e))

abbrev pair_with : ℕ → ℕ → Pair
pair_with cep scep = record { far = scep; own = cep }

-- it is made by the ask
pub far_made : (ask : FlowAsk) (addr peer from cep scep : ℕ) → from ≡ addr → ask.scep ≡ scep → FarIs ask addr scep (Some (record { addr = peer; cep = cep; ended = None })) (Some (new_far_side from ask cep))
far_made ask addr peer from cep scep e own = (refl, refl, refl, e, ap (λ (z : ℕ). Some (pair_with cep z)) own)
