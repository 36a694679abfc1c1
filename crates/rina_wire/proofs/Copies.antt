-- Copies in flight stay copies of frames that were sent.
use Rattle.std.proofs.Common.{◌≡◌, ℕ, ◌<◌, ◌≤◌, cond, true, false, List, [], ◌∷◌, ◌++◌, length, slice_get, slice_set, filter, nat_lt, Some, None, All, refl, sym, ◌∙◌, ap, inl, inr, arith}
use Rattle.std.proofs.lemmas.Bool.{ltb-true}
use Rattle.std.proofs.lemmas.Bool.Decides.{eqb_tells}
use Rattle.std.proofs.lemmas.List.Elements.{All-cons, All-head, All-nil, All-tail, All-weaker}
use Rattle.std.proofs.lemmas.Option.{same_Some}
use Rattle.rina_draws.specs.declared.storm.Fate.{Fate}
use Rattle.rina_draws.specs.declared.storm.Fate.TheVariants.{Lost, Sent}
use Rattle.rina_draws.specs.Storm.{IsWithin}
use Rattle.rina_law.specs.declared.entry.Entry.{Entry}
use Rattle.rina_iface.specs.declared.ends.End.{End}
use Rattle.rina_iface.specs.declared.state.PortState.TheVariants.{Allocated}
use Rattle.rina_iface.specs.Ends.{with_sent}
use Rattle.rina_iface.specs.Journal.{At}
use Rattle.rina_iface.proofs.Changed.{slice_get-set_other, slice_get-set_same}
use Rattle.rina_iface.proofs.Grown.{last_at, still_at}
use Rattle.rina_stack.specs.Rules.{spread_of}
use Rattle.rina_wire.specs.declared.flight.Flight.{Flight}
use Rattle.rina_wire.specs.Air.{Line}
use Rattle.rina_wire.specs.Send.{flight_of, flights_of, mate, next_entry}
use Rattle.rina_wire.specs.Sound.{IsCopy, IsSoundLine}
use Rattle.rina_wire.proofs.Mates.{mate_mate}

-- the sender stands, and sent what it had sent
record StillSent (ends : List End) (k : ℕ) (sent : List Entry) : Type 0 where
  sender : End
  stands : At ends k sender
  allocated : sender.state ≡ Allocated
  still : (j : ℕ) (x : Entry) → slice_get sent j ≡ Some x → slice_get sender.sent j ≡ Some x

copy_by : (life now : ℕ) (ends ends' : List End) (f : Flight) (c : IsCopy life now ends f) → StillSent ends' (mate f.to) c.sender.sent → IsCopy life now ends' f
copy_by life now ends ends' f c s = record {
  sender = s.sender;
  stands = s.stands;
  allocated = s.allocated;
  place = c.place;
  source = c.source;
  is = s.still c.place c.source c.is;
  number = c.number;
  bytes = c.bytes;
  since = c.since;
  sent = c.sent;
  waits = c.waits;
  in_time = c.in_time;
}

-- an end changed, but sent what it had sent
pub copy_set : (life now : ℕ) (ends : List End) (i : ℕ) (e e' : End) (f : Flight) → At ends i e → e'.state ≡ e.state → ((j : ℕ) (x : Entry) → slice_get e.sent j ≡ Some x → slice_get e'.sent j ≡ Some x) → IsCopy life now ends f → IsCopy life now (slice_set ends i e') f
copy_set life now ends i e e' f at state still c = copy_by life now ends (slice_set ends i e') f c (elim (eqb_tells (mate f.to) i) [
  | inl t ↦
      let there : At ends i c.sender = rw t.1 at c.stands in
      let same : c.sender ≡ e = same_Some c.sender e (sym there ∙ at) in
      record { sender = e'; stands = rw t.1 (slice_get-set_same ends i e e' at); allocated = state ∙ ap (λ (z : End). z.state) (sym same) ∙ c.allocated; still = rw same still }
  | inr o ↦ record { sender = c.sender; stands = slice_get-set_other ends i (mate f.to) e' o.1 ∙ c.stands; allocated = c.allocated; still = λ j x h. h }
])

pub copies_set : (life now : ℕ) (ends : List End) (i : ℕ) (e e' : End) (fs : List Flight) → At ends i e → e'.state ≡ e.state → ((j : ℕ) (x : Entry) → slice_get e.sent j ≡ Some x → slice_get e'.sent j ≡ Some x) → All (IsCopy life now ends) fs → All (IsCopy life now (slice_set ends i e')) fs
copies_set life now ends i e e' fs at state still cs = All-weaker (IsCopy life now ends) (IsCopy life now (slice_set ends i e')) (λ f c. copy_set life now ends i e e' f at state still c) fs cs

-- new ends stand behind
pub copies_more : (life now : ℕ) (ends more : List End) (fs : List Flight) → All (IsCopy life now ends) fs → All (IsCopy life now (ends ++ more)) fs
copies_more life now ends more fs cs = All-weaker (IsCopy life now ends) (IsCopy life now (ends ++ more)) (λ f c. copy_by life now ends (ends ++ more) f c (record { sender = c.sender; stands = still_at ends more (mate f.to) c.sender c.stands; allocated = c.allocated; still = λ j x h. h })) fs cs

-- a copy of a frame that is sent now
copy_new : (now : ℕ) (bytes : List ℕ) (l : Line) (i : ℕ) (e : End) (late : ℕ) → IsSoundLine l → late ≤ spread_of l.storm → e.state ≡ Allocated → At l.ends i e → IsCopy l.life now (slice_set l.ends i (with_sent e (next_entry now bytes l))) (flight_of now bytes l i late)
copy_new now bytes l i e late line short allocated at =
    let x : Entry = next_entry now bytes l in
    record {
      sender = with_sent e x;
      stands = rw (mate_mate i) (slice_get-set_same l.ends i e (with_sent e x) at);
      allocated = allocated;
      place = length e.sent;
      source = x;
      is = last_at e.sent x;
      number = refl;
      bytes = refl;
      since = refl;
      sent = omega arith;
      waits = omega (arith, line.least_delay);
      in_time = omega (arith, line.arrives, short);
    }

-- the copies of a frame that is sent now
pub copies_new : (now : ℕ) (bytes : List ℕ) (l : Line) (i : ℕ) (e : End) (fate : Fate) → IsSoundLine l → IsWithin (spread_of l.storm) fate → e.state ≡ Allocated → At l.ends i e → All (IsCopy l.life now (slice_set l.ends i (with_sent e (next_entry now bytes l)))) (flights_of now bytes l i fate)
unfolding flights_of
copies_new now bytes l i e Lost line short allocated at = All-nil (IsCopy l.life now (slice_set l.ends i (with_sent e (next_entry now bytes l))))
copies_new now bytes l i e (Sent late None) line short allocated at =
    let P : Flight → Type 0 = IsCopy l.life now (slice_set l.ends i (with_sent e (next_entry now bytes l))) in
    All-cons P (flight_of now bytes l i late) [] (copy_new now bytes l i e late line short.0 allocated at) (All-nil P)
copies_new now bytes l i e (Sent late (Some again)) line short allocated at =
    let P : Flight → Type 0 = IsCopy l.life now (slice_set l.ends i (with_sent e (next_entry now bytes l))) in
    let copy : Flight = flight_of now bytes l i again in
    All-cons P (flight_of now bytes l i late) (copy ∷ []) (copy_new now bytes l i e late line short.0 allocated at) (All-cons P copy [] (copy_new now bytes l i e again line short.1 allocated at) (All-nil P))

copy_waits : (life before now : ℕ) (ends : List End) (f : Flight) → before ≤ now → now < f.due → IsCopy life before ends f → IsCopy life now ends f
copy_waits life before now ends f le lt c = record {
  sender = c.sender;
  stands = c.stands;
  allocated = c.allocated;
  place = c.place;
  source = c.source;
  is = c.is;
  number = c.number;
  bytes = c.bytes;
  since = c.since;
  sent = omega (arith, c.sent, le);
  waits = lt;
  in_time = c.in_time;
}

-- those that are not due yet
pub copies_left : (life before now : ℕ) (ends : List End) (fs : List Flight) → before ≤ now → All (IsCopy life before ends) fs → All (IsCopy life now ends) (filter (λ (f : Flight). nat_lt now f.due) fs)
copies_left life before now ends [] le cs = All-nil (IsCopy life now ends)
copies_left life before now ends (f ∷ fs) le cs =
    let left = copies_left life before now ends fs le (All-tail (IsCopy life before ends) f fs cs) in
    elim (nat_lt now f.due) as (λ b. nat_lt now f.due ≡ b → All (IsCopy life now ends) (cond b (f ∷ filter (λ (g : Flight). nat_lt now g.due) fs) (filter (λ (g : Flight). nat_lt now g.due) fs))) [
      | true ↦ λ is. All-cons (IsCopy life now ends) f _ (copy_waits life before now ends f le (ltb-true now f.due is) (All-head (IsCopy life before ends) f fs cs)) left
      | false ↦ λ is. left
    ] refl
