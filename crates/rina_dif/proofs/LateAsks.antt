-- Which asks are late.
use Rattle.std.proofs.Common.{◌≡◌, ◌∙◌, ◌↔◌, ℕ, ◌+◌, ◌<◌, ◌≤◌, Bool, IsTrue, true, false, get_or, length, slice_get, Some, refl, sym, ap, subst, arith, inl, inr}
use Rattle.std.specs.Global.{Vec}
use Rattle.std.specs.List.{remove}
use Rattle.std.proofs.lemmas.Bool.{cases_lt, false≢true}
use Rattle.std.proofs.lemmas.Option.{get_or_from_slice_get, same_Some, slice_get_read, slice_get_within}
use Rattle.rina_iface.specs.declared.ends.End.{End}
use Rattle.rina_iface.specs.declared.state.PortState.TheVariants.{Pending, Refused}
use Rattle.rina_iface.specs.declared.state.Why.TheVariants.{Timeout}
use Rattle.rina_iface.specs.Journal.{At}
use Rattle.rina_data.specs.Configs.{config_of}
use Rattle.rina_dif_law.specs.Sending.{home}
use Rattle.rina_dif.specs.declared.dif.Dif.{Dif}
use Rattle.rina_dif.specs.declared.waiting_asks.WaitingAsk.{WaitingAsk}
use Rattle.rina_dif.specs.Elsewhere.{ChangesOnly, IsOfPort, home_of}
use Rattle.rina_dif.specs.WaitingAsks.{HasWaited, IsFirstLate, IsLateAt, NoneLate, NoneLateUntil, TimesOut, TurnsDown}
use Rattle.rina_dif.proofs.Elsewhere.{flows_more}
use Rattle.rina_dif.proofs.TurnedDown.{turned_down_with}

-- none of the first asks is late
abbrev pub NoneLateBefore : ℕ → Dif → ℕ → Type 0
NoneLateBefore n d node = (which : ℕ) → which < n → IsLateAt d node which → ⊥

-- none of the first asks is late before this tick
abbrev pub WaitBefore : ℕ → Dif → ℕ → Type 0
WaitBefore n d until = (which : ℕ) (ask : WaitingAsk) (end : End) → which < n → slice_get d.asks.items which ≡ Some ask → At d.flows.journal.ends ask.place end → end.state ≡ Pending → until ≤ end.flow.tick + d.laid.wait

-- this one is, and none before it
pub first_late : (d : Dif) (node which : ℕ) (ask : WaitingAsk) (told : Bool) → which < length d.asks.items → ask ≡ get_or d.asks.items which ask → (IsTrue told ↔ HasWaited d node ask) → told ≡ true → NoneLateBefore which d node → IsFirstLate d node which
first_late d node which ask told lt is tells late before = record {
  is_late = record { ask = ask; stands = slice_get_read d.asks.items (length d.asks.items) which ask refl lt is; waited = tells.0 late };
  least = λ other its. elim (cases_lt other which) [ inl l ↦ absurd (before other l its) | inr ge ↦ ge ];
}

-- one more is not
pub late_next : (d : Dif) (node n : ℕ) (ask : WaitingAsk) (told : Bool) → n < length d.asks.items → ask ≡ get_or d.asks.items n ask → (IsTrue told ↔ HasWaited d node ask) → told ≡ false → NoneLateBefore n d node → NoneLateBefore (n + 1) d node
late_next d node n ask told within is tells not before which lt late = elim (cases_lt which n) [
  | inl l ↦ before which l late
  | inr ge ↦
      let same : which ≡ n = omega (arith, lt, ge) in
      let one : late.ask ≡ ask = same_Some late.ask ask (sym late.stands ∙ ap (slice_get d.asks.items) same ∙ slice_get_read d.asks.items (length d.asks.items) n ask refl within is) in
      false≢true (sym not ∙ tells.1 (subst (HasWaited d node) one late.waited))
]

pub none_late : (d : Dif) (node n : ℕ) → length d.asks.items ≤ n → NoneLateBefore n d node → NoneLate d node
none_late d node n le before which late = (let lt = slice_get_within d.asks.items which late.ask late.stands in before which (omega (arith, lt, le)) late)

pub none_until : (d : Dif) (n until : ℕ) → length d.asks.items ≤ n → WaitBefore n d until → NoneLateUntil until d
none_until d n until le before now node lt which late =
    let within = slice_get_within d.asks.items which late.ask late.stands in
    let w = before which late.ask late.waited.end (omega (arith, within, le)) late.stands late.waited.is_end late.waited.waits in
    let l = late.waited.late in
    absurd (omega (arith, w, l, lt))

-- The first that is late has waited

module _ (d : Dif) (node which : ℕ) (ask : WaitingAsk) (first : IsFirstLate d node which) (taken : ask ≡ get_or d.asks.items which ask) where
  -- it is the ask that was taken out
  late_ask_is : first.is_late.ask ≡ ask
  late_ask_is = sym (taken ∙ get_or_from_slice_get d.asks.items which first.is_late.ask ask first.is_late.stands)

  module _ (end : End) (at : slice_get d.flows.journal.ends ask.place ≡ Some end) where
    -- and this is its end
    late_end_is : first.is_late.waited.end ≡ end
    late_end_is = same_Some first.is_late.waited.end end (sym first.is_late.waited.is_end ∙ ap (λ (a : WaitingAsk). slice_get d.flows.journal.ends a.place) late_ask_is ∙ at)

    -- which waits, and is one of the member
    pub late_there : (i : ℕ) → home node (config_of d.settings).members ≡ Some i → (end.state ≡ Pending) × (home_of d end.port.node ≡ Some i)
    late_there i here = (let w = first.is_late.waited in (ap (λ (e : End). e.state) (sym late_end_is) ∙ w.waits, ap (λ (e : End). home_of d e.port.node) (sym late_end_is) ∙ ap (home_of d) w.node_is ∙ here))

    -- it is refused
    pub times_out : (asks : Vec WaitingAsk) (d' : Dif) → asks.items ≡ remove d.asks.items which → d'.asks ≡ asks → TurnsDown (record d { asks = asks }) ask.place (Refused (Timeout end.flow.tick d.clock)) d' → TimesOut d node end.port d'
    times_out asks d' removed same t = record {
      which = which;
      first = first;
      port_is = ap (λ (e : End). e.port) (sym late_end_is);
      turns_down = subst (λ (e : End). TurnsDown d first.is_late.ask.place (Refused (Timeout e.flow.tick d.clock)) d') (sym late_end_is) (subst (λ (a : WaitingAsk). TurnsDown d a.place (Refused (Timeout end.flow.tick d.clock)) d') (sym late_ask_is) (turned_down_with d asks ask.place (Refused (Timeout end.flow.tick d.clock)) d' t));
      asks = ap (λ (v : Vec WaitingAsk). v.items) same ∙ removed;
    }

    -- and no end changes but that of its port
    pub times_out_leaves : (d' : Dif) (asks : Vec WaitingAsk) (i : ℕ) → home node (config_of d.settings).members ≡ Some i → ChangesOnly (λ k. k ≡ ask.place) (Some i) (record d { asks = asks }) d' → ChangesOnly (IsOfPort d (Some i) end.port) (Some i) d d'
    times_out_leaves d' asks i here leaves =
        (flows_more (λ k. k ≡ ask.place) (IsOfPort d (Some i) end.port) d.flows d'.flows (λ k same. record { end_of = record { end = end; is_end = ap (slice_get d.flows.journal.ends) same ∙ at; at_home = (late_there i here).1 }; port_is = refl }) leaves.0, leaves.1)
