-- Each row keeps what holds of ids, connections and what is in flight.
use Rattle.std.proofs.Common.{◌≡◌, ℕ, ◌+◌, ◌<◌, ◌≤◌, true, false, List, [], ◌∷◌, ◌++◌, length, slice_get, Option, Some, None, refl, sym, ◌∙◌, ap, subst, arith, inl, inr}
use Rattle.std.proofs.lemmas.Option.{none-some, same_Some}
use Rattle.rina_law.specs.Backed.{Covers, CoversBut}
use Rattle.rina_law.specs.Line.{InFlight, IsCovered}
use Rattle.rina_law.specs.Lists.{In}
use Rattle.rina_rest.specs.Flows.{Endpoint, RestedBy, HasRested, HasSameId, Side, Asker, Far, Flow, end_at, IsFree, IsInUse, IsSameFour, both_ended, Four, GoesFrom, IsOf}
use Rattle.rina_rest.specs.Ledger.{Ledger, empty, Row, Time, Cloud, Ask, Make, Tell, EndAsker, EndFar, Send, put, asked_flow, bound_flow, made, told_flow, ended_asker, ended_far, entered, Stands, IsAllowed, IsHistory, ledger_after, FlowHolds, LedgerHolds, Listed, Holds}
use Rattle.rina_rest.proofs.Lists.{put_changed, push_changed, past_none, same_flow, new_or_old}
use Rattle.rina_rest.proofs.Holding.{rested_later, unended, both_later, both_asker, both_far, both_asker_now, both_far_now, same_to, goes_still, IsKnownOrFree, change_holds}

-- an end that was there
known_end : (now : ℕ) (flows : List Flow) (i : ℕ) (f : Flow) (s : Side) (k h : Endpoint) → slice_get flows i ≡ Some f → end_at s f ≡ Some k → HasSameId k h → (HasRested f.rest now k → ⊥) → IsKnownOrFree now flows i h
known_end now flows i f s k h at is same un = inl (record { flow = f; side = s; end = k; stands = at; is = is; same = same; unrested = un })

-- a PDU of the flow at i is one of f
of_at : (now : ℕ) (flows : List Flow) (i : ℕ) (f g : Flow) (death : ℕ) (four : Four) → slice_get flows i ≡ Some f → slice_get flows i ≡ Some g → IsOf now g death four → IsOf now f death four
of_at now flows i f g death four at e of =
    let P : Flow → Type 0 = λ z. IsOf now z death four in
    subst P (same_flow flows i i g f refl e at) of

-- one end of the two was another with the same id
four_turn : (a b c x y : Endpoint) → HasSameId b c → IsSameFour a b x y → IsSameFour a c x y
four_turn a b c x y e (inl same) = inl (same.0, (sym e.0 ∙ (same.1).0, sym e.1 ∙ (same.1).1))
four_turn a b c x y e (inr same) = inr (same.0, (sym e.0 ∙ (same.1).0, sym e.1 ∙ (same.1).1))

-- the asker's end ends

asker_unrested : (now : ℕ) (f : Flow) → f.asker.ended ≡ None → HasRested f.rest now f.asker → ⊥
asker_unrested now f e r = unended f.rest now f.asker.ended e r

end_asker_origin : (now : ℕ) (flows : List Flow) (i : ℕ) (f : Flow) → slice_get flows i ≡ Some f → f.asker.ended ≡ None → (s : Side) (h : Endpoint) → end_at s (ended_asker now f) ≡ Some h → (HasRested f.rest now h → ⊥) → IsKnownOrFree now flows i h
end_asker_origin now flows i f at stands Asker h is un = known_end now flows i f Asker f.asker h at refl (same_to (ended_asker now f).asker h (same_Some (ended_asker now f).asker h is)) (asker_unrested now f stands)
end_asker_origin now flows i f at stands Far h is un = known_end now flows i f Far h h at is (same_to h h refl) un

pub end_asker_holds : (now : ℕ) (flows : List Flow) (cloud : ℕ → Four → Type 0) (i : ℕ) (f : Flow) → LedgerHolds now flows cloud → slice_get flows i ≡ Some f → f.asker.ended ≡ None → LedgerHolds now (put i (ended_asker now f) flows) cloud
end_asker_holds now flows cloud i f h at stands =
    let flow = h.flow i f at in
    let past = flow.past in
    change_holds now flows (put i (ended_asker now f) flows) cloud i (ended_asker now f) (put_changed flows i f (ended_asker now f) at) h
    (record { some = flow.some; past = flow.past; lasts = λ t e. (let is = same_Some now t e in omega arith); elsewhere = flow.elsewhere; there = flow.there; heard = flow.heard })
    (end_asker_origin now flows i f at stands)
    (λ j g u v ne e same. ne (sym (h.fours i j f g (record { far = u.far; known = u.known; unrested = λ r q. asker_unrested now f stands r }) v at e same)))
    (λ g death four e of.
    (let o = of_at now flows i f g death four at e of in
    let before = both_asker now f.asker.ended o.far.ended stands in
    let later = both_asker_now now o.far.ended in
    let lt = o.in_time in
    record { far = o.far; known = o.known; side = o.side; goes = goes_still o.side f.asker o.far (ended_asker now f).asker o.far four (refl, refl) (refl, refl) o.goes; told = o.told; in_time = omega arith }))

-- the far end ends

end_far_origin : (now : ℕ) (flows : List Flow) (i : ℕ) (f : Flow) (far : Endpoint) → slice_get flows i ≡ Some f → f.far ≡ Some far → far.ended ≡ None → (s : Side) (h : Endpoint) → end_at s (ended_far now f far) ≡ Some h → (HasRested f.rest now h → ⊥) → IsKnownOrFree now flows i h
end_far_origin now flows i f far at known stands Asker h is un = known_end now flows i f Asker h h at is (same_to h h refl) un
end_far_origin now flows i f far at known stands Far h is un = known_end now flows i f Far far h at known (same_to (record far { ended = Some now }) h (same_Some (record far { ended = Some now }) h is)) (unended f.rest now far.ended stands)

pub end_far_holds : (now : ℕ) (flows : List Flow) (cloud : ℕ → Four → Type 0) (i : ℕ) (f : Flow) (far : Endpoint) → LedgerHolds now flows cloud → slice_get flows i ≡ Some f → f.far ≡ Some far → far.ended ≡ None → LedgerHolds now (put i (ended_far now f far) flows) cloud
end_far_holds now flows cloud i f far h at known stands =
    let flow = h.flow i f at in
    let x = ended_far now f far in
    let gone : Endpoint = record far { ended = Some now } in
    change_holds now flows (put i x flows) cloud i x (put_changed flows i f x at) h
    (record { some = flow.some; past = flow.past; lasts = flow.lasts; elsewhere = flow.elsewhere; there = λ k e. (sym (ap (λ (z : Endpoint). z.addr) (same_Some gone k e)) ∙ flow.there far known); heard = λ is none. none-some gone (sym none) })
    (end_far_origin now flows i f far at known stands)
    (λ j g u v ne e same.
    (let is : HasSameId u.far far = same_to u.far gone (sym (same_Some gone u.far u.known)) in
    ne (sym (h.fours i j f g (record { far = far; known = known; unrested = λ r q. unended f.rest now far.ended stands q }) v at e (four_turn f.asker u.far far g.asker v.far is same)))))
    (λ g death four e of.
    (let o = of_at now flows i f g death four at e of in
    let is : o.far ≡ far = same_Some o.far far (sym o.known ∙ known) in
    let open_far : o.far.ended ≡ None = ap (λ (z : Endpoint). z.ended) is ∙ stands in
    let before = both_far now f.asker.ended o.far.ended open_far in
    let later = both_far_now now f.asker.ended in
    let lt = o.in_time in
    record { far = gone; known = refl; side = o.side; goes = goes_still o.side f.asker o.far f.asker gone four (refl, refl) (same_to o.far far is) o.goes; told = o.told; in_time = omega arith }))

-- the answer comes

tell_origin : (now : ℕ) (flows : List Flow) (i : ℕ) (f : Flow) → slice_get flows i ≡ Some f → (s : Side) (h : Endpoint) → end_at s (told_flow f) ≡ Some h → (HasRested f.rest now h → ⊥) → IsKnownOrFree now flows i h
tell_origin now flows i f at Asker h is un = known_end now flows i f Asker h h at is (same_to h h refl) un
tell_origin now flows i f at Far h is un = known_end now flows i f Far h h at is (same_to h h refl) un

pub tell_holds : (now : ℕ) (flows : List Flow) (cloud : ℕ → Four → Type 0) (i : ℕ) (f : Flow) → LedgerHolds now flows cloud → slice_get flows i ≡ Some f → (f.far ≡ None → ⊥) → LedgerHolds now (put i (told_flow f) flows) cloud
tell_holds now flows cloud i f h at known =
    let flow = h.flow i f at in
    let x : Flow = told_flow f in
    change_holds now flows (put i x flows) cloud i x (put_changed flows i f x at) h
    (record { some = flow.some; past = flow.past; lasts = flow.lasts; elsewhere = flow.elsewhere; there = flow.there; heard = λ is. known })
    (tell_origin now flows i f at)
    (λ j g u v ne e same. ne (sym (h.fours i j f g (record { far = u.far; known = u.known; unrested = u.unrested }) v at e same)))
    (λ g death four e of.
    (let o = of_at now flows i f g death four at e of in
    record { far = o.far; known = o.known; side = o.side; goes = o.goes; told = λ is. refl; in_time = o.in_time }))

-- a flow is asked for

ask_origin : (now : ℕ) (flows : List Flow) (rest peer addr cep : ℕ) → IsFree now flows addr cep → (s : Side) (h : Endpoint) → end_at s (asked_flow now rest peer addr cep) ≡ Some h → (HasRested rest now h → ⊥) → IsKnownOrFree now flows (length flows) h
ask_origin now flows rest peer addr cep free Asker h is un =
    let same = same_to _ h (same_Some _ h is) in
    inr (λ j f s k e held_is a b. free j f s k e held_is (a ∙ sym same.0) (b ∙ sym same.1))
ask_origin now flows rest peer addr cep free Far h is un = absurd (none-some h is)

pub ask_holds : (now : ℕ) (flows : List Flow) (cloud : ℕ → Four → Type 0) (rest peer addr cep : ℕ) → LedgerHolds now flows cloud → 1 ≤ rest → (peer ≡ addr → ⊥) → IsFree now flows addr cep → LedgerHolds now (flows ++ asked_flow now rest peer addr cep ∷ []) cloud
ask_holds now flows cloud rest peer addr cep h some ne free =
    let x = asked_flow now rest peer addr cep in
    change_holds now flows (flows ++ x ∷ []) cloud (length flows) x (push_changed flows x) h
    (record { some = some; past = omega arith; lasts = λ t e. absurd (none-some t e); elsewhere = ne; there = λ k e. absurd (none-some k e); heard = λ is. absurd (let clash : false ≡ true = is in cc) })
    (ask_origin now flows rest peer addr cep free)
    (λ j g u v ne e same. none-some u.far u.known)
    (λ g death four e of. absurd (none-some g (sym (past_none flows) ∙ e)))

-- the far end is made

young_from : (now asked rest : ℕ) (e : Option ℕ) → ((t : ℕ) → e ≡ Some t → asked ≤ t) → now < asked + rest → RestedBy rest now e → ⊥
young_from now asked rest None lasts young r = r
young_from now asked rest (Some t) lasts young r = (let le = lasts t refl in absurd (omega arith))

-- an ask that is younger than a rest: the asker's id has not rested
pub young_unrested : (now : ℕ) (f : Flow) → FlowHolds now f → now < f.asked + f.rest → HasRested f.rest now f.asker → ⊥
young_unrested now f flow young r = young_from now f.asked f.rest f.asker.ended flow.lasts young r

make_origin : (now : ℕ) (flows : List Flow) (i : ℕ) (f : Flow) (cep : ℕ) → slice_get flows i ≡ Some f → IsFree now flows f.peer cep → (s : Side) (h : Endpoint) → end_at s (made f cep) ≡ Some h → (HasRested f.rest now h → ⊥) → IsKnownOrFree now flows i h
make_origin now flows i f cep at free Asker h is un = known_end now flows i f Asker h h at is (same_to h h refl) un
make_origin now flows i f cep at free Far h is un =
    let same = same_to _ h (same_Some _ h is) in
    inr (λ j g s k e held_is a b. free j g s k e held_is (a ∙ sym same.0) (b ∙ sym same.1))

-- no connection in use has the two addresses and the two CEP-ids of the new one
pub make_alone : (now : ℕ) (flows : List Flow) (cloud : ℕ → Four → Type 0) (i : ℕ) (f : Flow) (cep : ℕ) → LedgerHolds now flows cloud → slice_get flows i ≡ Some f → f.far ≡ None → now < f.asked + f.rest → IsFree now flows f.peer cep →
    (j : ℕ) (g : Flow) (far : Endpoint) (v : IsInUse now g) → slice_get flows j ≡ Some g → far.addr ≡ f.peer → far.cep ≡ cep → IsSameFour f.asker far g.asker v.far → ⊥
make_alone now flows cloud i f cep h at none young free j g far v e addr is_cep (inl same) =
    let rested = free j g Far v.far e v.known (sym (same.1).0 ∙ addr) (sym (same.1).1 ∙ is_cep) in
    let is = h.ids i j f g Asker Asker f.asker g.asker at e refl refl same.0 (young_unrested now f (h.flow i f at) young) (λ r. v.unrested r rested) in
    let one = same_flow flows i j f g is at e in
    none-some v.far (sym none ∙ ap (λ (z : Flow). z.far) one ∙ v.known)
make_alone now flows cloud i f cep h at none young free j g far v e addr is_cep (inr same) =
    let rested = free j g Asker g.asker e refl (sym (same.1).0 ∙ addr) (sym (same.1).1 ∙ is_cep) in
    let is = h.ids i j f g Asker Far f.asker v.far at e refl v.known same.0 (young_unrested now f (h.flow i f at) young) (λ r. v.unrested rested r) in
    let one = same_flow flows i j f g is at e in
    none-some v.far (sym none ∙ ap (λ (z : Flow). z.far) one ∙ v.known)

pub make_holds : (now : ℕ) (flows : List Flow) (cloud : ℕ → Four → Type 0) (i : ℕ) (f : Flow) (cep : ℕ) → LedgerHolds now flows cloud → slice_get flows i ≡ Some f → f.far ≡ None → now < f.asked + f.rest → IsFree now flows f.peer cep → LedgerHolds now (put i (made f cep) flows) cloud
make_holds now flows cloud i f cep h at none young free =
    let flow = h.flow i f at in
    let x = made f cep in
    let end : Endpoint = record { addr = f.peer; cep = cep; ended = None } in
    change_holds now flows (put i x flows) cloud i x (put_changed flows i f x at) h
    (record { some = flow.some; past = flow.past; lasts = flow.lasts; elsewhere = flow.elsewhere; there = λ k e. sym (ap (λ (z : Endpoint). z.addr) (same_Some end k e)); heard = λ is gone. none-some end (sym gone) })
    (make_origin now flows i f cep at free)
    (λ j g u v ne e same.
    (let is = same_to u.far end (sym (same_Some end u.far u.known)) in
    make_alone now flows cloud i f cep h at none young free j g u.far v e is.0 is.1 same))
    (λ g death four e of. (let o = of_at now flows i f g death four at e of in absurd (none-some o.far (sym none ∙ o.known))))

-- all three at once

put_last : (flows : List Flow) (f x : Flow) → put (length flows) x (flows ++ f ∷ []) ≡ flows ++ x ∷ []
put_last [] f x = refl
put_last (g ∷ flows) f x = ap (λ (l : List Flow). g ∷ l) (put_last flows f x)

-- an id of another address stays free
free_beside : (now : ℕ) (flows : List Flow) (rest peer addr cep far_cep : ℕ) → (peer ≡ addr → ⊥) → IsFree now flows peer far_cep → IsFree now (flows ++ asked_flow now rest peer addr cep ∷ []) peer far_cep
free_beside now flows rest peer addr cep far_cep ne free i f side e at is x y =
    let new = asked_flow now rest peer addr cep in
    elim (new_or_old flows (flows ++ new ∷ []) (length flows) new i f (push_changed flows new) at) [
      | inl same ↦
          (let P : Flow → Type 0 = λ z. end_at side z ≡ Some e in
          absurd (none_asked side (subst P (sym same.1) is)))
      | inr old ↦ free i f side e old.1 is x y
    ]
  where
    none_asked : (s : Side) → end_at s (asked_flow now rest peer addr cep) ≡ Some e → ⊥
    none_asked Asker is' = ne (sym x ∙ sym (ap (λ (z : Endpoint). z.addr) (same_Some (asked_flow now rest peer addr cep).asker e is')))
    none_asked Far is' = none-some e is'

pub bound_holds : (now : ℕ) (flows : List Flow) (cloud : ℕ → Four → Type 0) (rest peer addr cep far_cep : ℕ) → LedgerHolds now flows cloud → 1 ≤ rest → (peer ≡ addr → ⊥) → IsFree now flows addr cep → IsFree now flows peer far_cep →
    LedgerHolds now (flows ++ bound_flow now rest peer addr cep far_cep ∷ []) cloud
bound_holds now flows cloud rest peer addr cep far_cep h some ne free far_free =
    let f = asked_flow now rest peer addr cep in
    let asked = ask_holds now flows cloud rest peer addr cep h some ne free in
    let made_one = make_holds now (flows ++ f ∷ []) cloud (length flows) f far_cep asked (push_changed flows f).at refl (omega arith) (free_beside now flows rest peer addr cep far_cep ne far_free) in
    let P : List Flow → Type 0 = λ l. LedgerHolds now l cloud in
    let there = subst P (put_last flows f (made f far_cep)) made_one in
    subst P (put_last flows (made f far_cep) (told_flow (made f far_cep))) (tell_holds now (flows ++ made f far_cep ∷ []) cloud (length flows) (made f far_cep) there (push_changed flows (made f far_cep)).at (λ gone. none-some (record { addr = peer; cep = far_cep; ended = None }) (sym gone)))

-- time goes on

abbrev pub used_before : (now later : ℕ) (f : Flow) → now ≤ later → IsInUse later f → IsInUse now f
used_before now later f le u = record { far = u.far; known = u.known; unrested = λ r q. u.unrested (rested_later f.rest now later f.asker.ended le r) (rested_later f.rest now later u.far.ended le q) }

pub time_holds : (now later : ℕ) (flows : List Flow) (cloud : ℕ → Four → Type 0) → now ≤ later → LedgerHolds now flows cloud → LedgerHolds later flows cloud
time_holds now later flows cloud le h = record {
  flow = λ i f e. (let w = h.flow i f e in let past = w.past in record { some = w.some; past = omega arith; lasts = w.lasts; elsewhere = w.elsewhere; there = w.there; heard = w.heard });
  ids = λ i j f g s t a b e e' is is' same un un'.
      h.ids i j f g s t a b e e' is is' same (λ r. un (rested_later f.rest now later a.ended le r)) (λ r. un' (rested_later g.rest now later b.ended le r));
  fours = λ i j f g u v e e' same. h.fours i j f g (used_before now later f le u) (used_before now later g le v) e e' same;
  alive = λ death four comes alive.
      (let a = h.alive death four comes (omega arith) in
      let o = a.3 in
      let lt = o.in_time in
      let more = both_later now later (a.1).asker.ended o.far.ended le in
      (a.0, a.1, a.2, record { far = o.far; known = o.known; side = o.side; goes = o.goes; told = o.told; in_time = omega arith }));
}

-- what may still come

pub cloud_holds : (now : ℕ) (flows : List Flow) (cloud cloud' : ℕ → Four → Type 0) → Covers now cloud cloud' → LedgerHolds now flows cloud → LedgerHolds now flows cloud'
cloud_holds now flows cloud cloud' covers h = record {
  flow = h.flow;
  ids = h.ids;
  fours = h.fours;
  alive = λ death four comes alive.
      (let q = covers death four comes alive in
      let older = q.1 in
      let a = h.alive (q.0) four (q.2) (omega arith) in
      let o = a.3 in
      let lt = o.in_time in
      (a.0, a.1, a.2, record { far = o.far; known = o.known; side = o.side; goes = o.goes; told = o.told; in_time = omega arith }));
}

stands_now : (now : ℕ) (side : Side) (f : Flow) (far : Endpoint) → Stands side f far → both_ended now f.asker.ended far.ended ≡ now
stands_now now Asker f far stands = both_asker now f.asker.ended far.ended stands
stands_now now Far f far stands = both_far now f.asker.ended far.ended stands

-- an end that stands makes a PDU, which lives for less than a rest
pub send_holds : (now : ℕ) (flows : List Flow) (cloud cloud' : ℕ → Four → Type 0) (i : ℕ) (f : Flow) (far : Endpoint) (side : Side) (sent : Four → Type 0) (life : ℕ) → LedgerHolds now flows cloud → slice_get flows i ≡ Some f → f.far ≡ Some far → Stands side f far →
    (side ≡ Asker → f.told ≡ true) → ((four : Four) → sent four → GoesFrom side f.asker far four) → life < now + f.rest → CoversBut now cloud sent life cloud' → LedgerHolds now flows cloud'
send_holds now flows cloud cloud' i f far side sent life h at known stands told goes short covers = record {
  flow = h.flow;
  ids = h.ids;
  fours = h.fours;
  alive = λ death four comes alive. elim (covers death four comes alive) [
    | inl old ↦
        (let older = old.1 in
        let a = h.alive (old.0) four (old.2) (omega arith) in
        let o = a.3 in
        let lt = o.in_time in
        (a.0, a.1, a.2, record { far = o.far; known = o.known; side = o.side; goes = o.goes; told = o.told; in_time = omega arith }))
    | inr new ↦
        (let is = stands_now now side f far stands in
        let by = new.1 in
        (i, f, at, record { far = far; known = known; side = side; goes = goes four (new.0); told = told; in_time = omega arith }))
  ];
}

-- each row

listed_covers : (now : ℕ) (pdus pdus' : List (InFlight Four)) → IsCovered pdus pdus' → Covers now (Listed pdus) (Listed pdus')
listed_covers now pdus pdus' covers death four comes alive =
    let q = covers (record { pdu = four; death = death }) comes in
    let P : Four → Type 0 = λ z. In (record { pdu = z; death = (q.0).death }) pdus in
    ((q.0).death, q.3, subst P (sym (q.2)) (q.1))

listed_more : (now : ℕ) (p : InFlight Four) (pdus : List (InFlight Four)) → CoversBut now (Listed pdus) (λ four. four ≡ p.pdu) p.death (Listed (p ∷ pdus))
listed_more now p pdus death four (inl new) alive = inr (ap (λ (z : InFlight Four). z.pdu) new, (let same = ap (λ (z : InFlight Four). z.death) new in omega arith))
listed_more now p pdus death four (inr old) alive = inl (death, omega arith, old)

goes_too : (side : Side) (a b : Endpoint) (p four : Four) → GoesFrom side a b p → four ≡ p → GoesFrom side a b four
goes_too side a b p four goes same =
    let P : Four → Type 0 = λ z. GoesFrom side a b z in
    subst P (sym same) goes

pub row_holds : (s : Ledger) (row : Row) → Holds s → IsAllowed s row → Holds (entered s row)
row_holds s (Time ticks) h may = time_holds s.now (s.now + ticks) s.flows (Listed s.pdus) (omega arith) h
row_holds s (Cloud pdus) h may = cloud_holds s.now s.flows (Listed s.pdus) (Listed pdus) (listed_covers s.now s.pdus pdus may) h
row_holds s (Ask rest peer addr cep) h may = ask_holds s.now s.flows (Listed s.pdus) rest peer addr cep h may.0 may.1 may.2
row_holds s (Make i f cep) h may = make_holds s.now s.flows (Listed s.pdus) i f cep h may.0 may.1 may.2 may.3
row_holds s (Tell i f) h may = tell_holds s.now s.flows (Listed s.pdus) i f h may.0 may.3
row_holds s (EndAsker i f) h may = end_asker_holds s.now s.flows (Listed s.pdus) i f h may.0 may.1
row_holds s (EndFar i f far) h may = end_far_holds s.now s.flows (Listed s.pdus) i f far h may.0 may.1 may.2
row_holds s (Send i f far side p) h may =
    send_holds s.now s.flows (Listed s.pdus) (Listed (p ∷ s.pdus)) i f far side (λ four. four ≡ p.pdu) p.death h may.0 may.1 may.2 may.4 (λ four same. goes_too side f.asker far p.pdu four may.3 same) may.5 (listed_more s.now p s.pdus)

pub run_holds : (s : Ledger) (rows : List Row) → Holds s → IsHistory s rows → Holds (ledger_after s rows)
run_holds s [] h run = h
run_holds s (row ∷ rows) h run = run_holds (entered s row) rows (row_holds s row h run.0) run.1

pub empty_holds : Holds empty
empty_holds = record {
  flow = λ i f e. absurd (none-some f e);
  ids = λ i j f g s t a b e e' is is' same un un'. absurd (none-some f e);
  fours = λ i j f g u v e e' same. absurd (none-some f e);
  alive = λ death four comes alive. absurd comes;
}

pub runs_hold : (rows : List Row) → IsHistory empty rows → Holds (ledger_after empty rows)
runs_hold rows run = run_holds empty rows empty_holds run
