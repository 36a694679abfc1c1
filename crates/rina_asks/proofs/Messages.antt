-- Messages on their way, where one is taken out, and where a flow or a request changes.
use Rattle.std.proofs.Common.{◌≡◌, ℕ, zero, suc, false, List, [], ◌∷◌, ◌++◌, slice_get, Some, None, refl, sym, ◌∙◌, ap, subst, arith, inl, inr}
use Rattle.std.proofs.lemmas.Bool.{cases_eq}
use Rattle.std.proofs.lemmas.Option.{none-some, same_Some, slice_get_within}
use Rattle.rina_law.specs.Lists.{In}
use Rattle.rina_alloc.specs.declared.answer.FlowAnswer.{FlowAnswer}
use Rattle.rina_alloc.specs.declared.answer.FlowAnswer.TheVariants as answers
use Rattle.rina_alloc.specs.declared.message.FlowAsk.{FlowAsk}
use Rattle.rina_alloc.specs.declared.message.FlowWord.{FlowWord}
use Rattle.rina_alloc.specs.declared.message.FlowWord.TheVariants as words
use Rattle.rina_rest.specs.Flows.{Endpoint, HasSameId, Side, Asker, Far, Flow, ended_of, Four}
use Rattle.rina_rest.specs.Ledger.{put}
use Rattle.rina_rest.proofs.Holding.{goes_still}
use Rattle.rina_rest.proofs.Messages.{stays_put, stays_push}
use Rattle.rina_asks.specs.Allocation.{Request, Sent, ask_of_word, ask_of, cut, put_request}
use Rattle.rina_asks.specs.Holding.{OfAsk, OfYes, Tells, OfAnswer, four_of_delete, OfDelete, SaysOf, SaysIds, IsOfRequest, SaysNames, AreApart}
use Rattle.rina_asks.proofs.Requests as request_list

-- Lists of messages

pub cut_in : (ms : List Sent) (n : ℕ) (k : Sent) → In k (cut n ms) → In k ms
cut_in [] n k is = is
cut_in (m ∷ ms) zero k is = inr is
cut_in (m ∷ ms) (suc n) k (inl e) = inl e
cut_in (m ∷ ms) (suc n) k (inr is) = inr (cut_in ms n k is)

pub get_in : (ms : List Sent) (n : ℕ) (m : Sent) → slice_get ms n ≡ Some m → In m ms
get_in [] n m e = absurd (none-some m e)
get_in (k ∷ ms) zero m e = inl (sym (same_Some k m e))
get_in (k ∷ ms) (suc n) m e = inr (get_in ms n m e)

-- what was taken out was the one message of its ask
pub cut_gone : (ms : List Sent) (n : ℕ) (m : Sent) (i : ℕ) → AreApart ms → slice_get ms n ≡ Some m → ask_of m ≡ Some i → (k : Sent) → In k (cut n ms) → ask_of k ≡ Some i → ⊥
cut_gone [] n m i apart e a k is b = none-some m e
cut_gone (x ∷ ms) zero m i apart e a k is b = apart.0 i (ap (λ (z : Sent). ask_of z) (same_Some x m e) ∙ a) k is b
cut_gone (x ∷ ms) (suc n) m i apart e a k (inl is) b = apart.0 i (ap (λ (z : Sent). ask_of z) (sym is) ∙ b) m (get_in ms n m e) a
cut_gone (x ∷ ms) (suc n) m i apart e a k (inr is) b = cut_gone ms n m i apart.1 e a k is b

pub cut_apart : (ms : List Sent) (n : ℕ) → AreApart ms → AreApart (cut n ms)
cut_apart [] n a = a
cut_apart (m ∷ ms) zero a = a.1
cut_apart (m ∷ ms) (suc n) a = ((λ i e k is b. a.0 i e k (cut_in ms n k is) b), cut_apart ms n a.1)

pub at_most : (ms : List Sent) (i n k : ℕ) (m m' : Sent) → AreApart ms → slice_get ms n ≡ Some m → slice_get ms k ≡ Some m' → ask_of m ≡ Some i → ask_of m' ≡ Some i → n ≡ k
at_most [] i n k m m' apart e e' a a' = absurd (none-some m e)
at_most (x ∷ ms) i zero zero m m' apart e e' a a' = refl
at_most (x ∷ ms) i zero (suc k) m m' apart e e' a a' = absurd (apart.0 i (ap (λ (z : Sent). ask_of z) (same_Some x m e) ∙ a) m' (get_in ms k m' e') a')
at_most (x ∷ ms) i (suc n) zero m m' apart e e' a a' = absurd (apart.0 i (ap (λ (z : Sent). ask_of z) (same_Some x m' e') ∙ a') m (get_in ms n m e) a)
at_most (x ∷ ms) i (suc n) (suc k) m m' apart e e' a a' = ap suc (at_most ms i n k m m' apart.1 e e' a a')

-- A flow changes

-- addresses, CEP-ids, rests and ticks stay
pub record IsKept (f x : Flow) : Type 0 where
  pub rest : f.rest ≡ x.rest
  pub asked : f.asked ≡ x.asked
  pub peer : f.peer ≡ x.peer
  pub asker : HasSameId f.asker x.asker
  pub asker_ended : (t : ℕ) → f.asker.ended ≡ Some t → x.asker.ended ≡ Some t
  pub far : (h : Endpoint) → f.far ≡ Some h → (k : Endpoint) × (x.far ≡ Some k) × HasSameId h k × ((t : ℕ) → h.ended ≡ Some t → k.ended ≡ Some t)

-- no far end is made, and the asker is not told
abbrev pub IsIdle : Flow → Flow → Type 0
IsIdle f x = (f.far ≡ None → x.far ≡ None) × (f.told ≡ false → x.told ≡ false)

end_kept : (side : Side) (f x : Flow) (far k : Endpoint) (t : ℕ) → IsKept f x → ((t : ℕ) → far.ended ≡ Some t → k.ended ≡ Some t) → ended_of side f far ≡ Some t → ended_of side x k ≡ Some t
end_kept Asker f x far k t kept ended e = kept.asker_ended t e
end_kept Far f x far k t kept ended e = ended t e

delete_kept : (four : Four) (f x : Flow) → IsKept f x → OfDelete four f → OfDelete four x
delete_kept four f x kept w =
    let k = kept.far (w.0) (w.1) in
    (k.0, k.1, w.2, goes_still (w.2) f.asker (w.0) x.asker (k.0) four kept.asker (k.2) (w.3), w.4, end_kept (w.2) f x (w.0) (k.0) (w.4) kept (k.3) (w.5))

yes_kept : (dcep scep : ℕ) (f x : Flow) → IsKept f x → IsIdle f x → OfYes dcep scep f → OfYes dcep scep x
yes_kept dcep scep f x kept idle w =
    let k = kept.far (w.2) (w.3) in
    (idle.1 w.0, w.1 ∙ (kept.asker).1, k.0, k.1, w.4 ∙ (k.2).1)

tells_kept : (answer : FlowAnswer) (f x : Flow) → IsKept f x → IsIdle f x → Tells answer f → Tells answer x
tells_kept (answers.Yes dcep scep) f x kept idle w = yes_kept dcep scep f x kept idle w
tells_kept (answers.Denied rule) f x kept idle w = idle.0 w
tells_kept answers.NotHere f x kept idle w = idle.0 w
tells_kept (answers.NoIds used) f x kept idle w = idle.0 w

says_put : (flows : List Flow) (i : ℕ) (f x : Flow) (j to from : ℕ) (word : FlowWord) → slice_get flows i ≡ Some f → IsKept f x → (ask_of_word j word ≡ Some i → IsIdle f x) → SaysOf flows j to from word → SaysOf (put i x flows) j to from word
says_put flows i f x j to from (words.Ask invoke ask) at kept idle w =
    stays_put (λ g. OfAsk to from g) flows i j f x at (λ e o. (o.0 ∙ kept.peer, o.1 ∙ (kept.asker).0, (idle (ap Some e)).0 o.2, (idle (ap Some e)).1 o.3)) w
says_put flows i f x j to from (words.Answer invoke answer) at kept idle w =
    stays_put (λ g. OfAnswer to from answer g) flows i j f x at (λ e o. (o.0 ∙ (kept.asker).0, o.1 ∙ kept.peer, tells_kept answer f x kept (idle (ap Some e)) (o.2))) w
says_put flows i f x j to from (words.Delete dcep scep) at kept idle w = stays_put (λ g. OfDelete (four_of_delete to from dcep scep) g) flows i j f x at (λ e o. delete_kept (four_of_delete to from dcep scep) f x kept o) w

pub ids_put : (flows : List Flow) (i : ℕ) (f x : Flow) (m : Sent) → slice_get flows i ≡ Some f → IsKept f x → (ask_of m ≡ Some i → IsIdle f x) → SaysIds flows m → SaysIds (put i x flows) m
ids_put flows i f x m at kept idle w = says_put flows i f x m.flow m.message.to m.message.from m.message.word at kept idle w

says_push : (flows : List Flow) (x : Flow) (j to from : ℕ) (word : FlowWord) → SaysOf flows j to from word → SaysOf (flows ++ x ∷ []) j to from word
says_push flows x j to from (words.Ask invoke ask) w = stays_push (λ g. OfAsk to from g) flows j x w
says_push flows x j to from (words.Answer invoke answer) w = stays_push (λ g. OfAnswer to from answer g) flows j x w
says_push flows x j to from (words.Delete dcep scep) w = stays_push (λ g. OfDelete (four_of_delete to from dcep scep) g) flows j x w

pub ids_push : (flows : List Flow) (x : Flow) (m : Sent) → SaysIds flows m → SaysIds (flows ++ x ∷ []) m
ids_push flows x m w = says_push flows x m.flow m.message.to m.message.from m.message.word w

known_of : (flows : List Flow) (j to from : ℕ) (word : FlowWord) (i : ℕ) → SaysOf flows j to from word → ask_of_word j word ≡ Some i → (f : Flow) × (slice_get flows i ≡ Some f)
known_of flows j to from (words.Ask invoke ask) i w e = (w.0, ap (λ (z : ℕ). slice_get flows z) (sym (same_Some j i e)) ∙ w.1)
known_of flows j to from (words.Answer invoke answer) i w e = (w.0, ap (λ (z : ℕ). slice_get flows z) (sym (same_Some j i e)) ∙ w.1)
known_of flows j to from (words.Delete dcep scep) i w e = absurd (none-some i e)

pub ask_known : (flows : List Flow) (m : Sent) (i : ℕ) → SaysIds flows m → ask_of m ≡ Some i → (f : Flow) × (slice_get flows i ≡ Some f)
ask_known flows m i w e = known_of flows m.flow m.message.to m.message.from m.message.word i w e

-- A request changes

pub record IsNamed (a b : Request) : Type 0 where
  pub invoke : a.invoke ≡ b.invoke
  pub ask : a.ask ≡ b.ask

names_stay_put : (P : Request → Type 0) (requests : List Request) (i j : ℕ) (a b : Request) → slice_get requests i ≡ Some a → (P a → P b) → ((c : Request) × (slice_get requests j ≡ Some c) × P c) → (c : Request) × (slice_get (put_request i b requests) j ≡ Some c) × P c
names_stay_put P requests i j a b at keeps w =
    let changed = request_list.put_changed requests i a b at in
    elim (cases_eq j i) [
      | inl same ↦
          (let one : w.0 ≡ a = request_list.same_request requests j i (w.0) a same (w.1) at in
          let Q : ℕ → Type 0 = λ k. slice_get (put_request i b requests) k ≡ Some b in
          (b, subst Q (sym same) changed.at, keeps (subst P one (w.2))))
      | inr ne ↦ (w.0, changed.others j ne ∙ w.1, w.2)
    ]

names_stay_push : (P : Request → Type 0) (requests : List Request) (j : ℕ) (x : Request) → ((c : Request) × (slice_get requests j ≡ Some c) × P c) → (c : Request) × (slice_get (requests ++ x ∷ []) j ≡ Some c) × P c
names_stay_push P requests j x w =
    let lt = slice_get_within requests j (w.0) (w.1) in
    let changed = request_list.push_changed requests x in
    (w.0, changed.others j (λ e. omega arith) ∙ w.1, w.2)

abbrev SaysAsk : ℕ → FlowAsk → Request → Type 0
SaysAsk invoke ask a = (invoke ≡ a.invoke) × (ask ≡ a.ask)

of_request_put : (requests : List Request) (i : ℕ) (a b : Request) (j : ℕ) (word : FlowWord) → slice_get requests i ≡ Some a → IsNamed a b → IsOfRequest requests j word → IsOfRequest (put_request i b requests) j word
of_request_put requests i a b j (words.Ask invoke ask) at named w =
    let v = names_stay_put (λ c. SaysAsk invoke ask c) requests i j a b at (λ o. (o.0 ∙ named.invoke, o.1 ∙ named.ask)) (w.0, w.1, (w.2, w.3)) in
    (v.0, v.1, (v.2).0, (v.2).1)
of_request_put requests i a b j (words.Answer invoke answer) at named w = names_stay_put (λ c. invoke ≡ c.invoke) requests i j a b at (λ o. o ∙ named.invoke) w
of_request_put requests i a b j (words.Delete dcep scep) at named w = tt

pub names_put : (requests : List Request) (i : ℕ) (a b : Request) (m : Sent) → slice_get requests i ≡ Some a → IsNamed a b → SaysNames requests m → SaysNames (put_request i b requests) m
names_put requests i a b m at named w = of_request_put requests i a b m.flow m.message.word at named w

of_request_push : (requests : List Request) (x : Request) (j : ℕ) (word : FlowWord) → IsOfRequest requests j word → IsOfRequest (requests ++ x ∷ []) j word
of_request_push requests x j (words.Ask invoke ask) w =
    let v = names_stay_push (λ c. SaysAsk invoke ask c) requests j x (w.0, w.1, (w.2, w.3)) in
    (v.0, v.1, (v.2).0, (v.2).1)
of_request_push requests x j (words.Answer invoke answer) w = names_stay_push (λ c. invoke ≡ c.invoke) requests j x w
of_request_push requests x j (words.Delete dcep scep) w = tt

pub names_push : (requests : List Request) (x : Request) (m : Sent) → SaysNames requests m → SaysNames (requests ++ x ∷ []) m
names_push requests x m w = of_request_push requests x m.flow m.message.word w
