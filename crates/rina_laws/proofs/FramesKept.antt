-- What holds of one frame of a wire, and what keeps it.
use Rattle.std.proofs.Common.{◌≡◌, ◌≢◌, ℕ, ◌+◌, ◌<◌, ◌==◌, Bool, true, false, List, [], ◌∷◌, ◌++◌, get_or, length, slice_get, slice_set, Some, None, Option, All, refl, sym, ◌∙◌, ap, subst, inl, inr, ◌⊎◌, arith}
use Rattle.std.proofs.lemmas.Bool.Decides.{eqb_tells}
use Rattle.std.proofs.lemmas.List.Elements.{All-weaker}
use Rattle.std.proofs.lemmas.Option.{same_Some, slice_get-get_or, slice_get_within}
use Rattle.rand_pcg.specs.Lcg.{Lcg}
use Rattle.rina_base.specs.declared.number.Num.{Num}
use Rattle.rina_base.specs.declared.storm.Storm.{Storm}
use Rattle.rina_draws.specs.declared.storm.Fate.{Fate}
use Rattle.rina_draws.specs.declared.storm.Fate.TheVariants.{Lost, Sent}
use Rattle.rina_law.specs.declared.entry.Entry.{Entry}
use Rattle.rina_iface.specs.declared.ends.End.{End}
use Rattle.rina_iface.specs.Ends.{with_sent}
use Rattle.rina_iface.specs.Journal.{At}
use Rattle.rina_iface.proofs.Changed.{set_at, slice_get-set_other, slice_get-set_same}
use Rattle.rina_iface.proofs.Grown.{pushed_at}
use Rattle.rina_wire.specs.declared.flight.Flight.{Flight}
use Rattle.rina_wire.specs.Air.{Line}
use Rattle.rina_wire.specs.Send.{flight_of, flights_of, frame_number, mate, next_entry, next_fate, sent_from}
use Rattle.rina_wire.specs.Sound.{AreBelow, IsCopy, IsSoundLine, KeepsFlows}
use Rattle.rina_wire.specs.Storm.{fate_at, fate_under}
use Rattle.rina_wire.proofs.Mates.{mate_apart, mate_within}
use Rattle.rina_laws.specs.Frames.{IsCarried, copies_of, of_number}
use Rattle.rina_notes.specs.Look.{same_num}
use Rattle.rina_laws.proofs.FramesLists.{and_no, append_none, differ, filter_none, filter_none_of, no, push_yes}

-- the end at place i sent this entry as frame k, and it is carried
pub record IsOn (k after now : ℕ) (l : Line) (i : ℕ) (x : Entry) : Type 0 where
  pub number : x.num ≡ frame_number k
  pub carried : IsCarried after now l i x

-- frame k of the wire is carried, once it is sent, where the wire's storm lets it arrive once
abbrev pub Carries : ℕ → ℕ → Line → Type 0
Carries k now l = (late : ℕ) → fate_at l.storm k ≡ Sent late None → (i j : ℕ) (e : End) (x : Entry) → At l.ends i e → slice_get e.sent j ≡ Some x → x.num.seq ≡ k → IsOn k (l.delay + late) now l i x

-- an end that had sent this entry
pub record HadSent (ends : List End) (i : ℕ) (x : Entry) : Type 0 where
  pub end : End
  pub stands : At ends i end
  pub place : ℕ
  pub is : slice_get end.sent place ≡ Some x

-- an end that got what that one got
pub record HasGot (ends : List End) (i : ℕ) (got : List Entry) : Type 0 where
  pub end : End
  pub stands : At ends i end
  pub its : end.got ≡ got

-- nothing changed for frame k
pub record IsAlike (k : ℕ) (l l' : Line) : Type 0 where
  pub delay : l'.delay ≡ l.delay
  pub storm : l'.storm ≡ l.storm
  pub back : (i j : ℕ) (e : End) (x : Entry) → At l'.ends i e → slice_get e.sent j ≡ Some x → x.num.seq ≡ k → HadSent l.ends i x
  pub on : (i : ℕ) (e : End) → At l.ends i e → HasGot l'.ends i e.got
  pub copies : copies_of k l'.flights ≡ copies_of k l.flights

carried_on : (k after now : ℕ) (l l' : Line) (i : ℕ) (x : Entry) → IsAlike k l l' → x.num.seq ≡ k → IsCarried after now l i x → IsCarried after now l' i x
carried_on k after now l l' i x a is c =
    let g = a.on (mate i) c.other c.stands in
    let copies : copies_of x.num.seq l'.flights ≡ copies_of x.num.seq l.flights = rw is a.copies in
    let got : of_number x.num g.end.got ≡ of_number x.num c.other.got = ap (of_number x.num) g.its in
    record {
      other = g.end;
      stands = g.stands;
      came = λ le. got ∙ c.came le;
      landed = λ le. copies ∙ c.landed le;
      flies = λ lt. copies ∙ c.flies lt;
      not_come = λ lt. got ∙ c.not_come lt;
    }

pub carry_on : (k now : ℕ) (l l' : Line) → IsAlike k l l' → Carries k now l → Carries k now l'
carry_on k now l l' a c late fate i j e x at is n =
    let h = a.back i j e x at is n in
    let o = c late (subst (λ (s : Option Storm). fate_at s k ≡ Sent late None) a.storm fate) i h.place h.end x h.stands h.is n in
    let after : l.delay + late ≡ l'.delay + late = ap (λ (d : ℕ). d + late) (sym a.delay) in
    record { number = o.number; carried = subst (λ (m : ℕ). IsCarried m now l' i x) after (carried_on k (l.delay + late) now l l' i x a n o.carried) }

-- the same ends
pub same_back : (ends : List End) (k i j : ℕ) (e : End) (x : Entry) → At ends i e → slice_get e.sent j ≡ Some x → x.num.seq ≡ k → HadSent ends i x
same_back ends k i j e x at is n = record { end = e; stands = at; place = j; is = is }

pub same_on : (ends : List End) (i : ℕ) (e : End) → At ends i e → HasGot ends i e.got
same_on ends i e at = record { end = e; stands = at; its = refl }

pub alike_ends : (k : ℕ) (l l' : Line) → l'.delay ≡ l.delay → l'.storm ≡ l.storm → l'.ends ≡ l.ends → copies_of k l'.flights ≡ copies_of k l.flights → IsAlike k l l'
alike_ends k l l' delay storm ends copies = record {
  delay = delay;
  storm = storm;
  back = λ i j e x at is n. same_back l.ends k i j e x (rw ends at at) is n;
  on = λ i e at. rw ends (same_on l.ends i e at);
  copies = copies;
}

-- one end changed, but for what it sent and got
pub set_back : (ends : List End) (p : ℕ) (old new : End) (k i j : ℕ) (e : End) (x : Entry) → At ends p old → new.sent ≡ old.sent → At (slice_set ends p new) i e → slice_get e.sent j ≡ Some x → HadSent ends i x
set_back ends p old new k i j e x there same at is = elim (set_at ends p i old new e there at) [
  | inl t ↦ record { end = old; stands = rw t.0 there; place = j; is = subst (λ (s : List Entry). slice_get s j ≡ Some x) same (rw t.1 at is) }
  | inr f ↦ record { end = e; stands = f.1; place = j; is = is }
]

pub set_on : (ends : List End) (p : ℕ) (old new : End) (i : ℕ) (e : End) → At ends p old → new.got ≡ old.got → At ends i e → HasGot (slice_set ends p new) i e.got
set_on ends p old new i e there got h = elim (eqb_tells i p) [
  | inl t ↦
      let here : At ends p e = rw t.1 at h in
      let same : e ≡ old = same_Some e old (sym here ∙ there) in
      record { end = new; stands = rw t.1 (slice_get-set_same ends p old new there); its = got ∙ ap (λ (z : End). z.got) (sym same) }
  | inr f ↦ record { end = e; stands = slice_get-set_other ends p i new f.1 ∙ h; its = refl }
]

-- ---- a frame that is sent

-- what the ends sent, but for the frame that is sent now
sent_back : (ends : List End) (p : ℕ) (old : End) (y : Entry) (i j : ℕ) (e : End) (x : Entry) → At ends p old → At (slice_set ends p (with_sent old y)) i e → slice_get e.sent j ≡ Some x → HadSent ends i x ⊎ ((i ≡ p) × (x ≡ y))
sent_back ends p old y i j e x there at is = elim (set_at ends p i old (with_sent old y) e there at) [
  | inl t ↦
      let is' : slice_get (old.sent ++ y ∷ []) j ≡ Some x = rw t.1 at is in
      elim (pushed_at old.sent y j x is') [
        | inl o ↦ inl (record { end = old; stands = rw t.0 there; place = j; is = o })
        | inr n ↦ inr (t.0, n.1)
      ]
  | inr f ↦ inl (record { end = e; stands = f.1; place = j; is = is })
]

-- the next frame: it did not arrive, and no copy of it is in flight
none_got : (frames : ℕ) (got : List Entry) → AreBelow frames got → of_number (frame_number frames) got ≡ []
none_got frames got below = filter_none (λ (x : Entry). same_num x.num (frame_number frames)) got (λ j x h. let lt = below j x h in and_no (x.num.cep == 0) (x.num.seq == frames) (differ x.num.seq frames (λ same. omega (arith, lt, same))))

below_copy : (life now frames : ℕ) (ends : List End) (f : Flight) → ((i : ℕ) (e : End) → At ends i e → AreBelow frames e.sent) → IsCopy life now ends f → f.frame < frames
below_copy life now frames ends f below c =
    let lt = below (mate f.to) c.sender c.stands c.place c.source c.is in
    let is = ap (λ (n : Num). n.seq) c.number in
    omega (arith, lt, is)

none_flies : (life now frames : ℕ) (ends : List End) (fs : List Flight) → ((i : ℕ) (e : End) → At ends i e → AreBelow frames e.sent) → All (IsCopy life now ends) fs → copies_of frames fs ≡ []
none_flies life now frames ends fs below cs =
    let Other : Flight → Type 0 = λ (f : Flight). (f.frame == frames) ≡ false in
    filter_none_of (λ (f : Flight). f.frame == frames) fs (All-weaker (IsCopy life now ends) Other (λ f c. let lt = below_copy life now frames ends f below c in differ f.frame frames (λ same. omega (arith, lt, same))) fs cs)

same_frame : (frame : ℕ) → (frame == frame) ≡ true
same_frame frame = elim (eqb_tells frame frame) [ inl t ↦ t.0 | inr f ↦ absurd (f.1 refl) ]

sent_new : (now : ℕ) (failed : Bool) (fac : ℕ) (bytes : List ℕ) (l : Line) (p : ℕ) (old : End) (late : ℕ) → fate_at l.storm l.frames ≡ Sent late None → IsSoundLine l → KeepsFlows now failed fac l → failed ≡ false → At l.ends p old → IsOn l.frames (l.delay + late) now (sent_from now bytes l p old) p (next_entry now bytes l)
unfolding flights_of
sent_new now failed fac bytes l p old late fate line flows alive there =
    let y : Entry = next_entry now bytes l in
    let f : Flight = flight_of now bytes l p late in
    let drawn : (next_fate l).0 ≡ Sent late None = ap (λ (g : Lcg). (fate_under l.storm g).0) line.draws ∙ fate in
    let one : flights_of now bytes l p (next_fate l).0 ≡ f ∷ [] = ap (flights_of now bytes l p) drawn in
    let within = mate_within p (length l.ends) l.flows flows.pairs (slice_get_within l.ends p old there) in
    let other : End = get_or l.ends (mate p) old in
    let stands : At l.ends (mate p) other = slice_get-get_or l.ends (mate p) old within in
    let least = line.least_delay in
    let none : copies_of l.frames l.flights ≡ [] = none_flies l.life now l.frames l.ends l.flights (λ i e h. (flows.sound.each i e h).sent) (flows.copies alive) in
    record {
      number = refl;
      carried = record {
        other = other;
        stands = slice_get-set_other l.ends p (mate p) (with_sent old y) (mate_apart p) ∙ stands;
        came = λ le. absurd (omega (arith, le, least));
        landed = λ le. absurd (omega (arith, le, least));
        flies = λ lt. ap (λ (gs : List Flight). copies_of l.frames (l.flights ++ gs)) one ∙ push_yes (λ (g : Flight). g.frame == l.frames) l.flights f (same_frame l.frames) ∙ ap (λ (gs : List Flight). gs ++ f ∷ []) none;
        not_come = λ lt. none_got l.frames other.got ((flows.sound.each (mate p) other stands).got);
      };
    }

-- the copies of the next frame are none of frame k
none_new : (k now : ℕ) (bytes : List ℕ) (l : Line) (p : ℕ) (fate : Fate) → (l.frames == k) ≡ false → copies_of k (flights_of now bytes l p fate) ≡ []
unfolding flights_of
none_new k now bytes l p Lost other = refl
none_new k now bytes l p (Sent late None) other = no (λ (g : Flight). g.frame == k) (flight_of now bytes l p late) [] other
none_new k now bytes l p (Sent late (Some again)) other =
    let copy : Flight = flight_of now bytes l p again in
    no (λ (g : Flight). g.frame == k) (flight_of now bytes l p late) (copy ∷ []) other ∙ no (λ (g : Flight). g.frame == k) copy [] other

sent_alike : (k now : ℕ) (bytes : List ℕ) (l : Line) (p : ℕ) (old : End) → k ≢ l.frames → At l.ends p old → IsAlike k l (sent_from now bytes l p old)
sent_alike k now bytes l p old ne there =
    let y : Entry = next_entry now bytes l in
    record {
      delay = refl;
      storm = refl;
      back = λ i j e x h is n. elim (sent_back l.ends p old y i j e x there h is) [
        | inl o ↦ o
        | inr t ↦ absurd (ne (sym n ∙ ap (λ (z : Entry). z.num.seq) t.1))
      ];
      on = λ i e h. set_on l.ends p old (with_sent old y) i e there refl h;
      copies = append_none (λ (g : Flight). g.frame == k) l.flights (flights_of now bytes l p (next_fate l).0) (none_new k now bytes l p (next_fate l).0 (differ l.frames k (λ same. ne (sym same))));
    }

pub carry_sent : (k now : ℕ) (failed : Bool) (fac : ℕ) (bytes : List ℕ) (l : Line) (p : ℕ) (old : End) → IsSoundLine l → KeepsFlows now failed fac l → failed ≡ false → At l.ends p old → Carries k now l → Carries k now (sent_from now bytes l p old)
carry_sent k now failed fac bytes l p old line flows alive there c late fate i j e x h is n =
    let y : Entry = next_entry now bytes l in
    elim (sent_back l.ends p old y i j e x there h is) [
      | inl o ↦
          let lt = (flows.sound.each i o.end o.stands).sent o.place x o.is in
          let ne : k ≢ l.frames = λ same. omega (arith, lt, same, n) in
          carry_on k now l (sent_from now bytes l p old) (sent_alike k now bytes l p old ne there) c late fate i j e x h is n
      | inr t ↦
          let frame : k ≡ l.frames = sym n ∙ ap (λ (z : Entry). z.num.seq) t.1 in
          rw (t.0, t.1, frame) (sent_new now failed fac bytes l p old late (subst (λ (m : ℕ). fate_at l.storm m ≡ Sent late None) frame fate) line flows alive there)
    ]
