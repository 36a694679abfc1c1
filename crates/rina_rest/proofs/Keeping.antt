-- Each row keeps what an IPC process knows of its ids.
use Rattle.std.proofs.Common.{◌≡◌, ℕ, ◌+◌, ◌<◌, ◌≤◌, false, List, [], ◌∷◌, ◌++◌, length, slice_get, Option, Some, None, refl, sym, ◌∙◌, ap, subst, arith, inl, inr}
use Rattle.std.proofs.lemmas.Bool.{cases_eq}
use Rattle.std.proofs.lemmas.Option.{none-some, same_Some}
use Rattle.rina_ids.specs.declared.slot.Slot.{Slot}
use Rattle.rina_ids.specs.Ids.{free_id, drawn, given_back, IsInUse as HasInUse, IsResting}
use Rattle.rina_rest.specs.Drawn.{IsKept, AreKept, Draws, GivesBack, SlotsAfter}
use Rattle.rina_rest.specs.Flows.{Endpoint, HasSameId, IsFree, Side, Asker, Far, Flow, Four, end_at}
use Rattle.rina_rest.specs.Ledger.{Ledger, Row, Time, Cloud, Ask, Make, Tell, EndAsker, EndFar, Send, put, asked_flow, made, told_flow, bound_flow, ended_asker, ended_far, entered, IsAllowed, LedgerHolds, Listed, Holds}
use Rattle.rina_rest.proofs.Holding.{unended}
use Rattle.rina_rest.proofs.Lists.{IsChanged, put_changed, push_changed, new_or_old}
use Rattle.rina_rest.proofs.Rows.{cloud_holds}
use Rattle.rina_rest.proofs.Slots.{drawn_free, drawn_in_use, given_back_rests, given_back_same, kept_end_later, kept_rested, kept_other, kept_past}

-- One flow changes: its ends are kept, and so are those of all others

change_kept : (now : ℕ) (flows flows' : List Flow) (i : ℕ) (x : Flow) (addr : ℕ) (after : List Slot) → IsChanged flows flows' i x →
    ((side : Side) (e : Endpoint) → end_at side x ≡ Some e → e.addr ≡ addr → IsKept x.rest now after e.cep e.ended) →
    ((k : ℕ) (g : Flow) (side : Side) (e : Endpoint) → (k ≡ i → ⊥) → slice_get flows k ≡ Some g → end_at side g ≡ Some e → e.addr ≡ addr → IsKept g.rest now after e.cep e.ended) → AreKept now flows' addr after
change_kept now flows flows' i x addr after changed mine others k g side e at is there = elim (new_or_old flows flows' i x k g changed at) [
  | inl new ↦
      (let P : Flow → Type 0 = λ z. (side : Side) (e : Endpoint) → end_at side z ≡ Some e → e.addr ≡ addr → IsKept z.rest now after e.cep e.ended in
      subst P new.1 mine side e is there)
  | inr old ↦ others k g side e old.0 old.1 is there
]

-- slots that are as before
same_kept : (now : ℕ) (flows : List Flow) (addr : ℕ) (before after : List Slot) → after ≡ before → AreKept now flows addr before → AreKept now flows addr after
same_kept now flows addr before after same kept =
    let P : List Slot → Type 0 = λ z. AreKept now flows addr z in
    subst P (sym same) kept

-- An id is drawn

drawn_others : (greatest now : ℕ) (flows : List Flow) (addr cep : ℕ) (before : List Slot) → AreKept now flows addr before → free_id greatest now before ≡ Some cep → AreKept now flows addr (drawn before cep)
drawn_others greatest now flows addr cep before kept free i f side e at is there = elim (cases_eq e.cep cep) [
  | inl same ↦ kept_rested f.rest now (drawn before cep) e.cep e.ended (drawn_free greatest now before flows addr cep kept free i f side e at is there same)
  | inr ne ↦ kept_other f.rest now before (drawn before cep) cep e.cep e.ended (drawn_in_use greatest now before cep free).1 ne (kept i f side e at is there)
]

-- and what was kept stays so, at the one that draws and at all others
draws_kept : (greatest now : ℕ) (flows : List Flow) (addr drawer cep : ℕ) (before after : List Slot) → Draws greatest now addr drawer cep before after → AreKept now flows addr before → AreKept now flows addr after
draws_kept greatest now flows addr drawer cep before after draws kept = elim (cases_eq drawer addr) [
  | inl here ↦
      (let d = draws.here here in
      same_kept now flows addr (drawn before cep) after d.1 (drawn_others greatest now flows addr cep before kept d.0))
  | inr ne ↦ same_kept now flows addr before after (draws.elsewhere ne) kept
]

-- the new end has its id in use
draws_used : (greatest now addr drawer cep : ℕ) (before after : List Slot) → Draws greatest now addr drawer cep before after → drawer ≡ addr → HasInUse after cep
draws_used greatest now addr drawer cep before after draws here =
    let d = draws.here here in
    let P : List Slot → Type 0 = λ z. HasInUse z cep in
    subst P (sym d.1) (drawn_in_use greatest now before cep d.0).0

-- an end that is as new
new_kept : (rest now : ℕ) (slots : List Slot) (x e : Endpoint) (addr : ℕ) → x.ended ≡ None → x ≡ e → (x.addr ≡ addr → HasInUse slots x.cep) → e.addr ≡ addr → IsKept rest now slots e.cep e.ended
new_kept rest now slots x e addr stands same used there =
    let P : Option ℕ → Type 0 = λ o. IsKept rest now slots x.cep o in
    let Q : Endpoint → Type 0 = λ z. IsKept rest now slots z.cep z.ended in
    subst Q same (subst P (sym stands) (used (ap (λ (z : Endpoint). z.addr) same ∙ there)))

asked_kept : (now rest peer from cep addr : ℕ) (slots : List Slot) → (from ≡ addr → HasInUse slots cep) → (side : Side) (e : Endpoint) → end_at side (asked_flow now rest peer from cep) ≡ Some e → e.addr ≡ addr → IsKept rest now slots e.cep e.ended
asked_kept now rest peer from cep addr slots used Asker e is there = new_kept rest now slots (asked_flow now rest peer from cep).asker e addr refl (same_Some (asked_flow now rest peer from cep).asker e is) used there
asked_kept now rest peer from cep addr slots used Far e is there = absurd (none-some e is)

made_kept : (now : ℕ) (f : Flow) (cep addr : ℕ) (slots : List Slot) → (f.peer ≡ addr → HasInUse slots cep) → ((e : Endpoint) → Some f.asker ≡ Some e → e.addr ≡ addr → IsKept f.rest now slots e.cep e.ended) → (side : Side) (e : Endpoint) → end_at side (made f cep) ≡ Some e → e.addr ≡ addr → IsKept f.rest now slots e.cep e.ended
made_kept now f cep addr slots used asker Asker e is there = asker e is there
made_kept now f cep addr slots used asker Far e is there =
    let end : Endpoint = record { addr = f.peer; cep = cep; ended = None } in
    new_kept f.rest now slots end e addr refl (same_Some end e is) used there

told_kept : (now : ℕ) (f : Flow) (addr : ℕ) (slots : List Slot) → ((side : Side) (e : Endpoint) → end_at side f ≡ Some e → e.addr ≡ addr → IsKept f.rest now slots e.cep e.ended) → (side : Side) (e : Endpoint) → end_at side (told_flow f) ≡ Some e → e.addr ≡ addr → IsKept f.rest now slots e.cep e.ended
told_kept now f addr slots kept Asker e is there = kept Asker e is there
told_kept now f addr slots kept Far e is there = kept Far e is there

-- An end ends

-- an end other than the one that ends: it has another id, or it has ended
other_kept : (rest own now addr : ℕ) (x e : Endpoint) (before after : List Slot) → GivesBack own now addr x before after → (x.addr ≡ addr → HasInUse before x.cep) → e.addr ≡ addr → (HasSameId x e → e.ended ≡ None → ⊥) → IsKept rest now before e.cep e.ended → IsKept rest now after e.cep e.ended
other_kept rest own now addr x e before after gives used there alone kept = elim (cases_eq x.addr addr) [
  | inl here ↦
      (let P : List Slot → Type 0 = λ z. IsKept rest now z e.cep e.ended in
      let back = given_back before x.cep (now + own) in
      subst P (sym (gives.here here)) (elim (cases_eq e.cep x.cep) [
        | inl same ↦
            (let Q : ℕ → Type 0 = λ n. HasInUse before n in
            kept_past rest now before back e.cep e.ended (subst Q (sym same) (used here)) (alone (here ∙ sym there, sym same)) kept)
        | inr ne ↦ kept_other rest now before back x.cep e.cep e.ended (given_back_same before x.cep (now + own) (used here)) ne kept
      ]))
  | inr ne ↦
      (let P : List Slot → Type 0 = λ z. IsKept rest now z e.cep e.ended in
      subst P (sym (gives.elsewhere ne)) kept)
]

-- the end that ends: its id rests from now on
rests_kept : (rest now addr : ℕ) (x e : Endpoint) (before after : List Slot) → GivesBack rest now addr x before after → (x.addr ≡ addr → HasInUse before x.cep) → record x { ended = Some now } ≡ e → e.addr ≡ addr → IsKept rest now after e.cep e.ended
rests_kept rest now addr x e before after gives used same there =
    let here : x.addr ≡ addr = ap (λ (z : Endpoint). z.addr) same ∙ there in
    let P : List Slot → Type 0 = λ z. IsResting z x.cep (now + rest) in
    let Q : Endpoint → Type 0 = λ z. IsKept rest now after z.cep z.ended in
    subst Q same (inr (now + rest, subst P (sym (gives.here here)) (given_back_rests before x.cep (now + rest) (used here)), omega arith))

-- an end that stands has its id in use
stands_used : (rest now : ℕ) (slots : List Slot) (cep : ℕ) (e : Option ℕ) → e ≡ None → IsKept rest now slots cep e → HasInUse slots cep
stands_used rest now slots cep None is kept = kept
stands_used rest now slots cep (Some t) is kept = absurd (none-some t (sym is))

-- of all ends that stand, one alone has an id
alone_of : (s : Ledger) (i k : ℕ) (f g : Flow) (sx se : Side) (x e : Endpoint) → Holds s → slice_get s.flows i ≡ Some f → end_at sx f ≡ Some x → x.ended ≡ None → (k ≡ i → ⊥) → slice_get s.flows k ≡ Some g → end_at se g ≡ Some e → HasSameId x e → e.ended ≡ None → ⊥
alone_of s i k f g sx se x e h at is stands ne at' is' same stands' = ne (sym (h.ids i k f g sx se x e at at' is is' same (unended f.rest s.now x.ended stands) (unended g.rest s.now e.ended stands')))

-- the two ends of a flow are at two addresses
apart_of : (s : Ledger) (i : ℕ) (f : Flow) (far : Endpoint) → Holds s → slice_get s.flows i ≡ Some f → f.far ≡ Some far → far.addr ≡ f.asker.addr → ⊥
apart_of s i f far h at known e =
    let flow = h.flow i f at in
    flow.elsewhere (sym (flow.there far known) ∙ e)

module _ (s : Ledger) (addr : ℕ) (before after : List Slot) where
  end_asker_ends : (i : ℕ) (f : Flow) → Holds s → slice_get s.flows i ≡ Some f → GivesBack f.rest s.now addr f.asker before after → (f.asker.addr ≡ addr → HasInUse before f.asker.cep) → AreKept s.now s.flows addr before →
      (side : Side) (e : Endpoint) → end_at side (ended_asker s.now f) ≡ Some e → e.addr ≡ addr → IsKept f.rest s.now after e.cep e.ended
  end_asker_ends i f h at gives used kept Asker e is there = rests_kept f.rest s.now addr f.asker e before after gives used (same_Some (ended_asker s.now f).asker e is) there
  end_asker_ends i f h at gives used kept Far e is there = other_kept f.rest f.rest s.now addr f.asker e before after gives used there (λ same stands. apart_of s i f e h at is (sym same.0)) (kept i f Far e at is there)

  end_asker_kept : (i : ℕ) (f : Flow) → Holds s → slice_get s.flows i ≡ Some f → f.asker.ended ≡ None → GivesBack f.rest s.now addr f.asker before after → AreKept s.now s.flows addr before → AreKept s.now (put i (ended_asker s.now f) s.flows) addr after
  end_asker_kept i f h at stands gives kept =
      let x = ended_asker s.now f in
      let used : f.asker.addr ≡ addr → HasInUse before f.asker.cep = λ here. stands_used f.rest s.now before f.asker.cep f.asker.ended stands (kept i f Asker f.asker at refl here) in
      change_kept s.now s.flows (put i x s.flows) i x addr after (put_changed s.flows i f x at) (end_asker_ends i f h at gives used kept)
      (λ k g side e ne at' is there. other_kept g.rest f.rest s.now addr f.asker e before after gives used there (alone_of s i k f g Asker side f.asker e h at refl stands ne at' is) (kept k g side e at' is there))

  end_far_ends : (i : ℕ) (f : Flow) (far : Endpoint) → Holds s → slice_get s.flows i ≡ Some f → f.far ≡ Some far → GivesBack f.rest s.now addr far before after → (far.addr ≡ addr → HasInUse before far.cep) → AreKept s.now s.flows addr before →
      (side : Side) (e : Endpoint) → end_at side (ended_far s.now f far) ≡ Some e → e.addr ≡ addr → IsKept f.rest s.now after e.cep e.ended
  end_far_ends i f far h at known gives used kept Asker e is there =
      let mine = same_Some f.asker e is in
      other_kept f.rest f.rest s.now addr far e before after gives used there (λ same stands. apart_of s i f far h at known (same.0 ∙ sym (ap (λ (z : Endpoint). z.addr) mine))) (kept i f Asker e at is there)
  end_far_ends i f far h at known gives used kept Far e is there = rests_kept f.rest s.now addr far e before after gives used (same_Some (record far { ended = Some s.now }) e is) there

  end_far_kept : (i : ℕ) (f : Flow) (far : Endpoint) → Holds s → slice_get s.flows i ≡ Some f → f.far ≡ Some far → far.ended ≡ None → GivesBack f.rest s.now addr far before after → AreKept s.now s.flows addr before → AreKept s.now (put i (ended_far s.now f far) s.flows) addr after
  end_far_kept i f far h at known stands gives kept =
      let x = ended_far s.now f far in
      let used : far.addr ≡ addr → HasInUse before far.cep = λ here. stands_used f.rest s.now before far.cep far.ended stands (kept i f Far far at known here) in
      change_kept s.now s.flows (put i x s.flows) i x addr after (put_changed s.flows i f x at) (end_far_ends i f far h at known gives used kept)
      (λ k g side e ne at' is there. other_kept g.rest f.rest s.now addr far e before after gives used there (alone_of s i k f g Far side far e h at known stands ne at' is) (kept k g side e at' is there))

-- Each row

pub rows_keep_slots : (greatest : ℕ) (s : Ledger) (row : Row) (addr : ℕ) (before after : List Slot) → Holds s → IsAllowed s row → SlotsAfter greatest s row addr before after → AreKept s.now s.flows addr before → AreKept (entered s row).now (entered s row).flows addr after
rows_keep_slots greatest s (Time ticks) addr before after h may same kept =
    same_kept (s.now + ticks) s.flows addr before after same (λ i f side e at is there. kept_end_later f.rest s.now (s.now + ticks) before e.cep e.ended (omega arith) (kept i f side e at is there))
rows_keep_slots greatest s (Cloud pdus) addr before after h may same kept = same_kept s.now s.flows addr before after same kept
rows_keep_slots greatest s (Ask rest peer from cep) addr before after h may draws kept =
    let x = asked_flow s.now rest peer from cep in
    let was = draws_kept greatest s.now s.flows addr from cep before after draws kept in
    change_kept s.now s.flows (s.flows ++ x ∷ []) (length s.flows) x addr after (push_changed s.flows x) (asked_kept s.now rest peer from cep addr after (draws_used greatest s.now addr from cep before after draws)) (λ k g side e ne at is there. was k g side e at is there)
rows_keep_slots greatest s (Make i f cep) addr before after h may draws kept =
    let x = made f cep in
    let was = draws_kept greatest s.now s.flows addr f.peer cep before after draws kept in
    change_kept s.now s.flows (put i x s.flows) i x addr after (put_changed s.flows i f x may.0) (made_kept s.now f cep addr after (draws_used greatest s.now addr f.peer cep before after draws) (λ e is there. was i f Asker e may.0 is there)) (λ k g side e ne at is there. was k g side e at is there)
rows_keep_slots greatest s (Tell i f) addr before after h may same kept =
    let x = told_flow f in
    let was = same_kept s.now s.flows addr before after same kept in
    change_kept s.now s.flows (put i x s.flows) i x addr after (put_changed s.flows i f x may.0) (told_kept s.now f addr after (λ side e is there. was i f side e may.0 is there)) (λ k g side e ne at is there. was k g side e at is there)
rows_keep_slots greatest s (EndAsker i f) addr before after h may gives kept = end_asker_kept s addr before after i f h may.0 may.1 gives kept
rows_keep_slots greatest s (EndFar i f far) addr before after h may gives kept = end_far_kept s addr before after i f far h may.0 may.1 may.2 gives kept
rows_keep_slots greatest s (Send i f far side p) addr before after h may same kept = same_kept s.now s.flows addr before after same kept

-- A flow is asked for, made and told at once: both IPC processes draw

pub bound_keeps_slots : (near far now : ℕ) (flows : List Flow) (rest peer from cep far_cep addr : ℕ) (before between after : List Slot) → (peer ≡ from → ⊥) → Draws near now addr from cep before between → Draws far now addr peer far_cep between after → AreKept now flows addr before →
    AreKept now (flows ++ bound_flow now rest peer from cep far_cep ∷ []) addr after
bound_keeps_slots near far now flows rest peer from cep far_cep addr before between after apart draws draws' kept =
    let x = bound_flow now rest peer from cep far_cep in
    let was = draws_kept far now flows addr peer far_cep between after draws' (draws_kept near now flows addr from cep before between draws kept) in
    change_kept now flows (flows ++ x ∷ []) (length flows) x addr after (push_changed flows x) mine (λ k g side e ne at is there. was k g side e at is there)
  where
    asker_used : from ≡ addr → HasInUse after cep
    asker_used here =
        let P : List Slot → Type 0 = λ z. HasInUse z cep in
        subst P (sym (draws'.elsewhere (λ there. apart (there ∙ sym here)))) (draws_used near now addr from cep before between draws here)

    mine : (side : Side) (e : Endpoint) → end_at side (bound_flow now rest peer from cep far_cep) ≡ Some e → e.addr ≡ addr → IsKept rest now after e.cep e.ended
    mine Asker e is there = new_kept rest now after (record { addr = from; cep = cep; ended = None }) e addr refl (same_Some (record { addr = from; cep = cep; ended = None }) e is) asker_used there
    mine Far e is there = new_kept rest now after (record { addr = peer; cep = far_cep; ended = None }) e addr refl (same_Some (record { addr = peer; cep = far_cep; ended = None }) e is) (draws_used far now addr peer far_cep between after draws') there

-- An end ends, whatever the cloud is

abbrev listless : ℕ → List Flow → Ledger
listless now flows = record { now = now; flows = flows; pdus = [] }

listless_holds : (now : ℕ) (flows : List Flow) (cloud : ℕ → Four → Type 0) → LedgerHolds now flows cloud → Holds (listless now flows)
listless_holds now flows cloud h = cloud_holds now flows cloud (Listed []) (λ death four x alive. absurd x) h

pub asker_keeps_slots : (now : ℕ) (flows : List Flow) (cloud : ℕ → Four → Type 0) (i : ℕ) (f : Flow) (addr : ℕ) (before after : List Slot) → LedgerHolds now flows cloud → slice_get flows i ≡ Some f → f.asker.ended ≡ None → GivesBack f.rest now addr f.asker before after → AreKept now flows addr before → AreKept now (put i (ended_asker now f) flows) addr after
asker_keeps_slots now flows cloud i f addr before after h at stands gives kept = end_asker_kept (listless now flows) addr before after i f (listless_holds now flows cloud h) at stands gives kept

pub far_keeps_slots : (now : ℕ) (flows : List Flow) (cloud : ℕ → Four → Type 0) (i : ℕ) (f : Flow) (far : Endpoint) (addr : ℕ) (before after : List Slot) → LedgerHolds now flows cloud → slice_get flows i ≡ Some f → f.far ≡ Some far → far.ended ≡ None → GivesBack f.rest now addr far before after → AreKept now flows addr before → AreKept now (put i (ended_far now f far) flows) addr after
far_keeps_slots now flows cloud i f far addr before after h at known stands gives kept = end_far_kept (listless now flows) addr before after i f far (listless_holds now flows cloud h) at known stands gives kept

-- A flow is asked for, its far end is made, or the answer comes, whatever the cloud is

pub ask_keeps_slots : (greatest now : ℕ) (flows : List Flow) (cloud : ℕ → Four → Type 0) (rest peer from cep addr : ℕ) (before after : List Slot) → LedgerHolds now flows cloud → 1 ≤ rest → (peer ≡ from → ⊥) → IsFree now flows from cep → Draws greatest now addr from cep before after → AreKept now flows addr before
    → AreKept now (flows ++ asked_flow now rest peer from cep ∷ []) addr after
ask_keeps_slots greatest now flows cloud rest peer from cep addr before after h some apart free draws kept = rows_keep_slots greatest (listless now flows) (Ask rest peer from cep) addr before after (listless_holds now flows cloud h) (some, apart, free) draws kept

pub make_keeps_slots : (greatest now : ℕ) (flows : List Flow) (cloud : ℕ → Four → Type 0) (i : ℕ) (f : Flow) (cep addr : ℕ) (before after : List Slot) → LedgerHolds now flows cloud → slice_get flows i ≡ Some f → f.far ≡ None → now < f.asked + f.rest → IsFree now flows f.peer cep → Draws greatest now addr f.peer cep before after → AreKept now flows addr before
    → AreKept now (put i (made f cep) flows) addr after
make_keeps_slots greatest now flows cloud i f cep addr before after h at none young free draws kept = rows_keep_slots greatest (listless now flows) (Make i f cep) addr before after (listless_holds now flows cloud h) (at, none, young, free) draws kept

pub tell_keeps_slots : (now : ℕ) (flows : List Flow) (cloud : ℕ → Four → Type 0) (i : ℕ) (f : Flow) (addr : ℕ) (slots : List Slot) → LedgerHolds now flows cloud → slice_get flows i ≡ Some f → f.asker.ended ≡ None → f.told ≡ false → (f.far ≡ None → ⊥) → AreKept now flows addr slots → AreKept now (put i (told_flow f) flows) addr slots
tell_keeps_slots now flows cloud i f addr slots h at stands waits known kept = rows_keep_slots 0 (listless now flows) (Tell i f) addr slots slots (listless_holds now flows cloud h) (at, stands, waits, known) refl kept

pub time_keeps_slots : (now later : ℕ) (flows : List Flow) (addr : ℕ) (slots : List Slot) → now ≤ later → AreKept now flows addr slots → AreKept later flows addr slots
time_keeps_slots now later flows addr slots le kept i f side e at is there = kept_end_later f.rest now later slots e.cep e.ended le (kept i f side e at is there)

-- what stands has its id in use
pub standing_used : (now : ℕ) (flows : List Flow) (addr : ℕ) (slots : List Slot) (i : ℕ) (f : Flow) (side : Side) (e : Endpoint) → AreKept now flows addr slots → slice_get flows i ≡ Some f → end_at side f ≡ Some e → e.addr ≡ addr → e.ended ≡ None → HasInUse slots e.cep
standing_used now flows addr slots i f side e kept at is there stands = stands_used f.rest now slots e.cep e.ended stands (kept i f side e at is there)
