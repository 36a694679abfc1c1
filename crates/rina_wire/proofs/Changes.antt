-- What a frame that is sent, one that arrives, and a pass do to the ends of a wire.
use Rattle.std.proofs.Common.{◌≡◌, ◌≢◌, ℕ, ◌+◌, ◌<◌, ◌≤◌, List, [], ◌∷◌, ◌++◌, length, length-append, slice_get, slice_set, Some, refl, sym, ◌∙◌, ap, inl, inr, ◌⊎◌, arith}
use Rattle.std.proofs.lemmas.Option.{same_Some}
use Rattle.rina_base.specs.declared.number.Num.{Num}
use Rattle.rina_law.specs.declared.entry.Entry.{Entry}
use Rattle.rina_law.specs.Journal.{Born}
use Rattle.rina_iface.specs.declared.ends.End.{End}
use Rattle.rina_iface.specs.Ends.{with_got, with_passed, with_sent}
use Rattle.rina_iface.specs.Journal.{At}
use Rattle.rina_iface.proofs.Changed.{set_at}
use Rattle.rina_iface.proofs.Grown.{Distinct, born_got, born_sent, dated_push, pushed_at}
use Rattle.rina_wire.specs.declared.flight.Flight.{Flight}
use Rattle.rina_wire.specs.Send.{mate}
use Rattle.rina_wire.specs.Sound.{AreBelow, AreSound, HaveNumbers, IsCopy, IsSoundEnd, Site}
use Rattle.rina_wire.specs.Tick.{arrival}
use Rattle.rina_wire.proofs.Keeps.{numbers_same, sound_later, sound_set}
use Rattle.rina_wire.proofs.Mates.{mate_mate}

-- one more entry below so many frames
below_push : (frames : ℕ) (xs : List Entry) (x : Entry) → AreBelow frames xs → x.num.seq < frames → AreBelow frames (xs ++ x ∷ [])
below_push frames xs x below lt j y h = elim (pushed_at xs x j y h) [
  | inl o ↦ below j y o
  | inr n ↦ let is = ap (λ (z : Entry). z.num.seq) n.1 in omega (arith, is, lt)
]

-- a number stands once in what one end sent
distinct_of : (ends : List End) (i : ℕ) (e : End) → HaveNumbers ends → At ends i e → Distinct e.sent
distinct_of ends i e numbers at j m x y hx hy n = (numbers i i j m e e x y at at hx hy n).1

-- ---- a pass

end_passed : (s : Site) (now frames i : ℕ) (e : End) → IsSoundEnd s now frames i e → e.taken < length e.got → IsSoundEnd s now frames i (with_passed e)
end_passed s now frames i e x lt = record {
  role = x.role;
  flow = x.flow;
  facility = x.facility;
  number = x.number;
  node = x.node;
  state = x.state;
  whole = record { sent = x.whole.sent; got = x.whole.got; taken = omega (arith, lt) };
  sent = x.sent;
  got = x.got;
}

pub ends_passed : (s : Site) (now frames : ℕ) (ends : List End) (i : ℕ) (e : End) → AreSound s now frames ends → At ends i e → e.taken < length e.got → AreSound s now frames (slice_set ends i (with_passed e))
ends_passed s now frames ends i e sound at lt = sound_set s now frames ends i e (with_passed e) sound at (record {
  flow = refl;
  app = refl;
  peer = refl;
  port = refl;
  state = refl;
  sound = end_passed s now frames i e (sound.each i e at) lt;
  got = λ other h. (sound.mates i e other at h).born;
  sent = λ other h. (sound.mates (mate i) other e h (rw (mate_mate i) at)).born;
}) (numbers_same ends i e (with_passed e) at refl sound.numbers)

-- ---- an arrival

end_got : (s : Site) (now frames i : ℕ) (e : End) (x : Entry) → IsSoundEnd s now frames i e → x.tick ≡ now → x.num.seq < frames → IsSoundEnd s now frames i (with_got e x)
end_got s now frames i e x k at lt = record {
  role = k.role;
  flow = k.flow;
  facility = k.facility;
  number = k.number;
  node = k.node;
  state = k.state;
  whole = record { sent = k.whole.sent; got = dated_push now e.got x k.whole.got at; taken = let le = k.whole.taken in omega (arith, le, length-append e.got (x ∷ [])) };
  sent = k.sent;
  got = below_push frames e.got x k.got lt;
}

-- the copy is born of its frame
born_arrived : (s : Site) (before now frames : ℕ) (ends : List End) (f : Flight) (e other : End) → now ≡ before + 1 → AreSound s now frames ends → IsCopy s.life before ends f → f.due ≤ now → At ends f.to e → At ends (mate f.to) other → Born s.life other.sent (e.got ++ arrival now f ∷ [])
born_arrived s before now frames ends f e other next sound c due at h =
    let sender : c.sender ≡ other = same_Some c.sender other (sym c.stands ∙ h) in
    let is : slice_get other.sent c.place ≡ Some c.source = rw (← sender) c.is in
    let distinct = distinct_of ends (mate f.to) other sound.numbers h in
    born_got s.life other.sent e.got (arrival now f) c.source c.place distinct (sound.mates f.to e other at h).born is c.number (omega (arith, c.sent, next)) c.bytes (omega (arith, c.waits, c.in_time, next, due))

pub ends_got : (s : Site) (before now frames : ℕ) (ends : List End) (f : Flight) (e : End) → now ≡ before + 1 → AreSound s now frames ends → IsCopy s.life before ends f → f.due ≤ now → At ends f.to e → AreSound s now frames (slice_set ends f.to (with_got e (arrival now f)))
ends_got s before now frames ends f e next sound c due at =
    let below = (sound.each (mate f.to) c.sender c.stands).sent c.place c.source c.is in
    let number = ap (λ (n : Num). n.seq) c.number in
    sound_set s now frames ends f.to e (with_got e (arrival now f)) sound at (record {
      flow = refl;
      app = refl;
      peer = refl;
      port = refl;
      state = refl;
      sound = end_got s now frames f.to e (arrival now f) (sound.each f.to e at) refl (omega (arith, below, number));
      got = λ other h. born_arrived s before now frames ends f e other next sound c due at h;
      sent = λ other h. (sound.mates (mate f.to) other e h (rw (mate_mate f.to) at)).born;
    }) (numbers_same ends f.to e (with_got e (arrival now f)) at refl sound.numbers)

-- ---- a frame that is sent

end_sent : (s : Site) (now frames i : ℕ) (e : End) (x : Entry) → IsSoundEnd s now frames i e → x.tick ≡ now → x.num.seq < frames → IsSoundEnd s now frames i (with_sent e x)
end_sent s now frames i e x k at lt = record {
  role = k.role;
  flow = k.flow;
  facility = k.facility;
  number = k.number;
  node = k.node;
  state = k.state;
  whole = record { sent = dated_push now e.sent x k.whole.sent at; got = k.whole.got; taken = k.whole.taken };
  sent = below_push frames e.sent x k.sent lt;
  got = k.got;
}

-- what an end sent after entry x of the end at place i: it sent that before, or it is x
sent_cases : (ends : List End) (i : ℕ) (e : End) (x : Entry) (k j : ℕ) (a : End) (y : Entry) → At ends i e → At (slice_set ends i (with_sent e x)) k a → slice_get a.sent j ≡ Some y → ((was : End) × At ends k was × (slice_get was.sent j ≡ Some y)) ⊎ ((k ≡ i) × (j ≡ length e.sent) × (y ≡ x))
sent_cases ends i e x k j a y at ha hy = elim (set_at ends i k e (with_sent e x) a at ha) [
  | inl t ↦
      let hy' : slice_get (e.sent ++ x ∷ []) j ≡ Some y = rw t.1 at hy in
      elim (pushed_at e.sent x j y hy') [ inl o ↦ inl (e, rw t.0 at, o) | inr n ↦ inr (t.0, n.0, n.1) ]
  | inr f ↦ inl (a, f.1, hy)
]

-- the number is new
numbers_sent : (s : Site) (now frames : ℕ) (ends : List End) (i : ℕ) (e : End) (x : Entry) → AreSound s now frames ends → At ends i e → x.num.seq ≡ frames → HaveNumbers (slice_set ends i (with_sent e x))
numbers_sent s now frames ends i e x sound at new p q j m a b y z ha hb hy hz n =
    let seq = ap (λ (k : Num). k.seq) n in
    elim (sent_cases ends i e x p j a y at ha hy) [
      | inl u ↦ elim (sent_cases ends i e x q m b z at hb hz) [
        | inl v ↦ sound.numbers p q j m u.0 v.0 y z u.1 v.1 u.2 v.2 n
        | inr v ↦ let lt = (sound.each p u.0 u.1).sent j y u.2 in let is = ap (λ (k : Entry). k.num.seq) v.2 in absurd (omega (arith, lt, seq, is, new))
      ]
      | inr u ↦ elim (sent_cases ends i e x q m b z at hb hz) [
        | inl v ↦ let lt = (sound.each q v.0 v.1).sent m z v.2 in let is = ap (λ (k : Entry). k.num.seq) u.2 in absurd (omega (arith, lt, seq, is, new))
        | inr v ↦ (u.0 ∙ sym v.0, u.1 ∙ sym v.1)
      ]
    ]

-- what the other end got has other numbers
fresh_to : (s : Site) (now frames i : ℕ) (other : End) (x : Entry) → IsSoundEnd s now frames i other → x.num.seq ≡ frames → (j : ℕ) (y : Entry) → slice_get other.got j ≡ Some y → x.num ≢ y.num
fresh_to s now frames i other x k new j y h same =
    let lt = k.got j y h in
    let seq = ap (λ (n : Num). n.seq) same in
    omega (arith, lt, seq, new)

pub ends_sent : (s : Site) (now frames : ℕ) (ends : List End) (i : ℕ) (e : End) (x : Entry) → AreSound s now frames ends → At ends i e → x.tick ≡ now → x.num.seq ≡ frames → AreSound s now (frames + 1) (slice_set ends i (with_sent e x))
ends_sent s now frames ends i e x old at dated new =
    let sound = sound_later s now now frames (frames + 1) ends (omega arith) (omega arith) old in
    sound_set s now (frames + 1) ends i e (with_sent e x) sound at (record {
      flow = refl;
      app = refl;
      peer = refl;
      port = refl;
      state = refl;
      sound = end_sent s now (frames + 1) i e x (sound.each i e at) dated (omega (arith, new));
      got = λ other h. (sound.mates i e other at h).born;
      sent = λ other h. born_sent s.life e.sent other.got x (fresh_to s now frames (mate i) other x (old.each (mate i) other h) new) (sound.mates (mate i) other e h (rw (mate_mate i) at)).born;
    }) (numbers_sent s now frames ends i e x old at new)
