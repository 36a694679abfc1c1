-- What holds of asks and answers on their way stays.
use Rattle.std.proofs.Common.{◌≡◌, ℕ, List, [], ◌∷◌, ◌++◌, slice_get, Some, None, refl, sym, ◌∙◌, ap, subst, arith, inl, inr}
use Rattle.std.proofs.lemmas.Bool.{cases_eq}
use Rattle.std.proofs.lemmas.Option.{none-some, same_Some, slice_get_within}
use Rattle.rina_rest.specs.Flows.{Endpoint, Flow}
use Rattle.rina_rest.specs.Laws.{IsAsked, Answers, IsAnswered, IsNotMakeOf}
use Rattle.rina_rest.specs.Ledger.{Ledger, Row, Time, Cloud, Ask, Make, Tell, EndAsker, EndFar, Send, put, asked_flow, made, told_flow, ended_asker, ended_far, entered, IsAllowed}
use Rattle.rina_rest.proofs.Lists.{put_changed, push_changed, same_flow}

-- what holds of a flow stays where a flow changes and keeps it
pub stays_put : (P : Flow → Type 0) (flows : List Flow) (i j : ℕ) (f x : Flow) → slice_get flows i ≡ Some f → (j ≡ i → P f → P x) → ((g : Flow) × (slice_get flows j ≡ Some g) × P g) → (g : Flow) × (slice_get (put i x flows) j ≡ Some g) × P g
stays_put P flows i j f x at keeps w =
    let changed = put_changed flows i f x at in
    elim (cases_eq j i) [
      | inl same ↦
          (let one : w.0 ≡ f = same_flow flows j i (w.0) f same (w.1) at in
          let Q : ℕ → Type 0 = λ k. slice_get (put i x flows) k ≡ Some x in
          (x, subst Q (sym same) changed.at, keeps same (subst P one (w.2))))
      | inr ne ↦ (w.0, changed.others j ne ∙ w.1, w.2)
    ]

-- and where a flow comes behind
pub stays_push : (P : Flow → Type 0) (flows : List Flow) (j : ℕ) (x : Flow) → ((g : Flow) × (slice_get flows j ≡ Some g) × P g) → (g : Flow) × (slice_get (flows ++ x ∷ []) j ≡ Some g) × P g
stays_push P flows j x w =
    let lt = slice_get_within flows j (w.0) (w.1) in
    let changed = push_changed flows x in
    (w.0, changed.others j (λ e. omega arith) ∙ w.1, w.2)

abbrev HasNone : Flow → Type 0
HasNone f = f.far ≡ None

pub asks_stay : (s : Ledger) (row : Row) (i : ℕ) → IsAllowed s row → IsNotMakeOf i row → IsAsked s.flows i → IsAsked (entered s row).flows i
asks_stay s (Time ticks) i may other w = w
asks_stay s (Cloud cloud) i may other w = w
asks_stay s (Ask rest peer addr cep) i may other w = stays_push (λ f. HasNone f) s.flows i (asked_flow s.now rest peer addr cep) w
asks_stay s (Make j f cep) i may other w = stays_put (λ f. HasNone f) s.flows j i f (made f cep) may.0 (λ e none. absurd (other e)) w
asks_stay s (Tell j f) i may other w = stays_put (λ f. HasNone f) s.flows j i f (told_flow f) may.0 (λ e none. none) w
asks_stay s (EndAsker j f) i may other w = stays_put (λ f. HasNone f) s.flows j i f (ended_asker s.now f) may.0 (λ e none. none) w
asks_stay s (EndFar j f far) i may other w = stays_put (λ f. HasNone f) s.flows j i f (ended_far s.now f far) may.0 (λ e none. absurd (none-some far (sym none ∙ may.1))) w
asks_stay s (Send j f far side p) i may other w = w

pub answers_stay : (s : Ledger) (row : Row) (i cep : ℕ) → IsAllowed s row → IsAnswered s.flows i cep → IsAnswered (entered s row).flows i cep
answers_stay s (Time ticks) i cep may w = w
answers_stay s (Cloud cloud) i cep may w = w
answers_stay s (Ask rest peer addr new) i cep may w = stays_push (λ f. Answers cep f) s.flows i (asked_flow s.now rest peer addr new) w
answers_stay s (Make j f new) i cep may w = stays_put (λ f. Answers cep f) s.flows j i f (made f new) may.0 (λ e a. absurd (none-some (a.0) (sym may.1 ∙ a.1))) w
answers_stay s (Tell j f) i cep may w = stays_put (λ f. Answers cep f) s.flows j i f (told_flow f) may.0 (λ e a. a) w
answers_stay s (EndAsker j f) i cep may w = stays_put (λ f. Answers cep f) s.flows j i f (ended_asker s.now f) may.0 (λ e a. a) w
answers_stay s (EndFar j f far) i cep may w = stays_put (λ f. Answers cep f) s.flows j i f (ended_far s.now f far) may.0 (λ e a. (record far { ended = Some s.now }, refl, ap (λ (z : Endpoint). z.cep) (same_Some far (a.0) (sym may.1 ∙ a.1)) ∙ a.2)) w
answers_stay s (Send j f far side p) i cep may w = w
