-- The messages about flows among SDUs.
use Rattle.std.proofs.Common.{◌≡◌, ◌∙◌, ℕ, ◌+◌, ◌<◌, List, [], ◌∷◌, ◌++◌, append-nil, append_assoc, drop, get_or, length, take, Option, Some, None, refl, sym, ap, subst}
use Rattle.std.proofs.lemmas.List.{map-append, take_more}
use Rattle.std.proofs.lemmas.Option.{same_Some}
use Rattle.rina_alloc.specs.declared.message.FlowMessage.{FlowMessage}
use Rattle.rina_alloc.specs.Messages.{IsInRange, IsProper, IsSpelled}
use Rattle.rina_base.specs.declared.pdu.Pdu.{Pdu}
use Rattle.rina_iface.specs.declared.ends.End.{End}
use Rattle.rina_iface.specs.Journal.{At}
use Rattle.rina_law.specs.declared.entry.Entry.{Entry}
use Rattle.rina_dif.specs.declared.dif.Dif.{Dif}
use Rattle.rina_dif.specs.Flooding.{texts_of}
use Rattle.rina_dif.specs.FlowMessages.{AddsFlowMessages, AreFlowMessages, BringsMessages, IsReadAs, read_before}
use Rattle.rina_dif.specs.Handling.{IsToldAhead, unpassed_sdus}

-- nothing was added
pub none_added : (old : List FlowMessage) → AddsFlowMessages [] old old
none_added old = ([], refl, sym (append-nil old))

-- one SDU was read
pub one_added : (sdu : List ℕ) (read : Option FlowMessage) (old new : List FlowMessage) → IsReadAs sdu read → new ≡ old ++ read_before read [] → AddsFlowMessages (sdu ∷ []) old new
one_added sdu read old new is same = (read_before read [], (read, [], is, refl, refl), same)

-- what is read of no message is none
pub none_read : (sdu : List ℕ) → ((m : FlowMessage) → IsInRange m → IsProper m.word → IsSpelled m sdu → None ≡ Some m) → IsReadAs sdu None
none_read sdu only = λ m is. (let wrong = only m is.in_range is.proper is.spelled in absurd cc)

before_more : (read : Option FlowMessage) (ms ns : List FlowMessage) → read_before read ms ++ ns ≡ read_before read (ms ++ ns)
before_more None ms ns = refl
before_more (Some m) ms ns = refl

-- several after several
pub messages_on : (xs ys : List (List ℕ)) (ms ns : List FlowMessage) → AreFlowMessages xs ms → AreFlowMessages ys ns → AreFlowMessages (xs ++ ys) (ms ++ ns)
messages_on [] ys ms ns h g = subst (λ (z : List FlowMessage). AreFlowMessages ys (z ++ ns)) (sym h) g
messages_on (x ∷ xs) ys ms ns h g = (h.0, h.1 ++ ns, h.2, messages_on xs ys h.1 ns h.3 g, ap (λ (z : List FlowMessage). z ++ ns) h.4 ∙ before_more h.0 h.1 ns)

pub added_on : (xs ys : List (List ℕ)) (old mid new : List FlowMessage) → AddsFlowMessages xs old mid → AddsFlowMessages ys mid new → AddsFlowMessages (xs ++ ys) old new
added_on xs ys old mid new h g = (h.0 ++ g.0, messages_on xs ys h.0 g.0 h.1 g.1, g.2 ∙ ap (λ (z : List FlowMessage). z ++ g.0) h.2 ∙ append_assoc old h.0 g.0)

-- one more of several
pub body_added : (bodies : List (List ℕ)) (n : ℕ) (d sdu : List ℕ) (old mid new : List FlowMessage) → n < length bodies → sdu ≡ get_or bodies n d → AddsFlowMessages (take n bodies) old mid → AddsFlowMessages (sdu ∷ []) mid new → AddsFlowMessages (take (n + 1) bodies) old new
body_added bodies n d sdu old mid new lt is h one =
    subst (λ (ts : List (List ℕ)). AddsFlowMessages ts old new) (sym (take_more bodies n d lt)) (added_on (take n bodies) (get_or bodies n d ∷ []) old mid new h (subst (λ (t : List ℕ). AddsFlowMessages (t ∷ []) mid new) is one))

texts_more : (came : List Entry) (n : ℕ) (d : Entry) → n < length came → texts_of (take (n + 1) came) ≡ texts_of (take n came) ++ (get_or came n d).bytes ∷ []
texts_more came n d lt = ap texts_of (take_more came n d lt) ∙ map-append (λ (x : Entry). x.bytes) (take n came) (get_or came n d ∷ [])

pub entry_added : (came : List Entry) (n : ℕ) (d : Entry) (sdu : List ℕ) (old mid new : List FlowMessage) → n < length came → sdu ≡ (get_or came n d).bytes → AddsFlowMessages (texts_of (take n came)) old mid → AddsFlowMessages (sdu ∷ []) mid new → AddsFlowMessages (texts_of (take (n + 1) came)) old new
entry_added came n d sdu old mid new lt is h one =
    subst (λ (ts : List (List ℕ)). AddsFlowMessages ts old new) (sym (texts_more came n d lt)) (added_on (texts_of (take n came)) ((get_or came n d).bytes ∷ []) old mid new h (subst (λ (t : List ℕ). AddsFlowMessages (t ∷ []) mid new) is one))

-- those behind none are all
pub all_added : (sdus : List (List ℕ)) (ms : List FlowMessage) → AddsFlowMessages sdus [] ms → AreFlowMessages sdus ms
all_added sdus ms h = subst (AreFlowMessages sdus) (sym h.2) h.1

-- what came to the end of a place and was read, and behind it what a piece brings
pub brings_both : (d : Dif) (place : ℕ) (its : Pdu) (end : End) (came : List Entry) (bodies : List (List ℕ)) (first mid ms : List FlowMessage) → At d.connections.flows.journal.ends place end → came ≡ drop end.taken end.got → first ≡ []
    → AddsFlowMessages (texts_of came) first mid → IsToldAhead d place its bodies → AddsFlowMessages bodies mid ms → BringsMessages d place its ms
brings_both d place its end came bodies first mid ms here is none a told b = λ e there.
    let same : end ≡ e = same_Some end e (sym here ∙ there) in
    let both : AreFlowMessages (texts_of came ++ bodies) ms = all_added (texts_of came ++ bodies) ms (subst (λ (xs : List FlowMessage). AddsFlowMessages (texts_of came ++ bodies) xs ms) none (added_on (texts_of came) bodies first mid ms a b)) in
    (bodies, told, subst (λ (x : End). AreFlowMessages (unpassed_sdus x ++ bodies) ms) same (subst (λ (xs : List Entry). AreFlowMessages (texts_of xs ++ bodies) ms) is both))
