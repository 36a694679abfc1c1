-- What is known of the connections that are not watched.
use Rattle.std.proofs.Common.{◌≡◌, ◌≢◌, ℕ, zero, suc, ◌+◌, ◌-◌, ◌^◌, ◌<◌, ◌≤◌, List, [], ◌∷◌, ◌++◌, Contains, get_or, length, length-append, length-set, slice_get, slice_set, Some, None, Option, IfSome, ◌⊎◌, refl, sym, ◌∙◌, ap, subst, arith, inl, inr}
use Rattle.std.specs.Borrow.{Bor}
use Rattle.std.proofs.lemmas.Bool.{cases_eq}
use Rattle.std.proofs.lemmas.List.Elements.{Contains-append_left, Contains-push, Contains-push_cases}
use Rattle.std.proofs.lemmas.Option.{get_or_from_slice_get, slice_get_within}
use Rattle.rina_conn.specs.declared.conn.Conn.{Conn}
use Rattle.rina_conn.specs.Quiet.{IsQuietUntil}
use Rattle.rina_iface.proofs.Changed.{set_at}
use Rattle.rina_data.proofs.Finding.{there}
use Rattle.rina_flows.specs.declared.watch.Watch.{Watch}
use Rattle.rina_flows.specs.Alarms.{HasAlarm, Sets, tick_at}
use Rattle.rina_flows.specs.Quiet.{AreQuietBeside, AreTimed, IsBeside}
use Rattle.rina_flows.specs.Watching.{AreIdleBeside, Clears, Notes, Shifts}
use Rattle.rina_flows.proofs.Alarmed.{has_still, sets_least, under_last, unset_past}
use Rattle.rina_iface.proofs.Grown.{pushed_at}

pub quiet_sooner : (until until' : ℕ) (k : Conn) → IsQuietUntil until k → until' ≤ until → IsQuietUntil until' k
quiet_sooner until until' k quiet le = λ live t lt. quiet live t (omega (arith, lt, le))

-- the connection that was read at a place stands there
one_there : (conns : List Conn) (place : ℕ) (here k : Conn) → here ≡ get_or conns place here → slice_get conns place ≡ Some k → k ≡ here
one_there conns place here k is stands = sym (is ∙ get_or_from_slice_get conns place k here stands)

-- beside one place more, and beside one place less
pub beside_push : (ps : List ℕ) (x i : ℕ) → IsBeside (ps ++ x ∷ []) i → IsBeside ps i × (i ≢ x)
beside_push ps x i b = ((λ c. b (Contains-append_left ps (x ∷ []) i c)), (λ e. b (subst (λ j. Contains (ps ++ x ∷ []) j) (sym e) (Contains-push ps x))))

pub beside_pop : (ps : List ℕ) (x i : ℕ) → IsBeside ps i → i ≢ x → IsBeside (ps ++ x ∷ []) i
beside_pop ps x i b ne = λ c. elim (Contains-push_cases ps x i c) [ inl h ↦ b h | inr e ↦ ne (sym e) ]

-- nothing is due before the least timer, beside the places that are looked at
pub timed_beside : (places : List ℕ) (until : ℕ) (times : List (Option ℕ)) (conns : List Conn) → AreTimed places until times conns → AreQuietBeside places until conns
timed_beside places until times conns t = λ at k stands beside. quiet_sooner (tick_at times at) until k (t.quiet at k stands beside) (t.least at)

-- before the first connection
pub none_timed : (places : List ℕ) (until : ℕ) (times : List (Option ℕ)) → until ≡ 2 ^ 32 - 1 → times ≡ [] → AreTimed places until times []
none_timed places until times e e' = record {
  quiet = (λ at k stands beside. absurd cc);
  least = (λ at. let past = unset_past times at (let n = ap length e' in omega (arith, n)) in omega (arith, e, past));
  room = (λ at lt. absurd (omega (arith, lt)));
}

-- a place is noted
pub note_kept : (at quiet : ℕ) (w : Watch) → (IsBeside w.places.items at → tick_at w.alarms at ≤ quiet) → Notes at quiet w w
note_kept at quiet w h = record { keeps = (λ i ne b. (b, omega arith)); here = h; least = (λ l. l); long = refl }

pub note_pushed : (at quiet : ℕ) (old new : Watch) → new.places.items ≡ old.places.items ++ at ∷ [] → new.until ≡ old.until → new.alarms ≡ old.alarms → Notes at quiet old new
note_pushed at quiet old new places until alarms = record {
  keeps = (λ i ne b.
      let e = ap (λ (ts : List (Option ℕ)). tick_at ts i) alarms in
      ((beside_push old.places.items at i (subst (λ (ps : List ℕ). IsBeside ps i) places b)).0, omega (arith, e)));
  here = (λ b. absurd ((beside_push old.places.items at at (subst (λ (ps : List ℕ). IsBeside ps at) places b)).1 refl));
  least = (λ l i. let e = ap (λ (ts : List (Option ℕ)). tick_at ts i) alarms in let h = l i in omega (arith, e, h, until));
  long = ap length alarms;
}

pub note_set : (at quiet : ℕ) (old new : Watch) → new.places.items ≡ old.places.items → Sets at quiet old.alarms new.alarms → new.until ≤ old.until → new.until ≤ quiet → Notes at quiet old new
note_set at quiet old new places s le le' = record {
  keeps = (λ i ne b. (subst (λ (ps : List ℕ). IsBeside ps i) places b, (let e = s.others i ne in omega (arith, e))));
  here = (λ b. let e = s.here in omega (arith, e));
  least = sets_least at quiet old.until new.until old.alarms new.alarms s le le';
  long = s.long;
}

-- a timer rang, and its place is looked at; or there is no room for that, and the timer is set anew; or none rang
pub ring_none : (old new : Watch) → new.places.items ≡ old.places.items → new.until ≡ old.until → new.alarms ≡ old.alarms → Shifts old new
ring_none old new places until alarms = record {
  keeps = (λ i b. let e = ap (λ (ts : List (Option ℕ)). tick_at ts i) alarms in (subst (λ (ps : List ℕ). IsBeside ps i) places b, omega (arith, e)));
  least = (λ l i. let e = ap (λ (ts : List (Option ℕ)). tick_at ts i) alarms in let h = l i in omega (arith, e, h, until));
  long = ap length alarms;
}

pub ring_pushed : (at : ℕ) (old new : Watch) → new.places.items ≡ old.places.items ++ at ∷ [] → new.until ≡ old.until → Sets at (2 ^ 32 - 1) old.alarms new.alarms → Shifts old new
ring_pushed at old new places until s = record {
  keeps = (λ i b.
      let (b', ne) = beside_push old.places.items at i (subst (λ (ps : List ℕ). IsBeside ps i) places b) in
      let e = s.others i ne in
      (b', omega (arith, e)));
  least = (λ l. sets_least at (2 ^ 32 - 1) old.until new.until old.alarms new.alarms s (omega (arith, until)) (let last = under_last old.until old.alarms l in omega (arith, until, last)) l);
  long = s.long;
}

pub ring_failed : (at : ℕ) (old new : Watch) (mid : List (Option ℕ)) → new.places.items ≡ old.places.items → new.until ≤ 0 → Sets at (2 ^ 32 - 1) old.alarms mid → Sets at 0 mid new.alarms → Shifts old new
ring_failed at old new mid places until s s' = record {
  keeps = (λ i b. (
    subst (λ (ps : List ℕ). IsBeside ps i) places b,
    elim (cases_eq i at) [
      | inl e ↦ (let z = ap (tick_at new.alarms) e ∙ s'.here in omega (arith, z))
      | inr ne ↦ (let h = s'.others i ne in let h' = s.others i ne in omega (arith, h, h'))
    ],
  ));
  least = (λ l i. omega (arith, until));
  long = s'.long ∙ s.long;
}

pub shifted : (old new : Watch) (conns : List Conn) → Shifts old new → AreTimed old.places.items old.until old.alarms conns → AreTimed new.places.items new.until new.alarms conns
shifted old new conns s t = record {
  quiet = (λ i k stands beside. let b = s.keeps i beside in quiet_sooner (tick_at old.alarms i) (tick_at new.alarms i) k (t.quiet i k stands b.0) b.1);
  least = s.least t.least;
  room = (λ i lt. has_still old.alarms new.alarms i s.long (t.room i lt));
}

-- a place is looked at no more: its timer rings soon enough, or there is no connection
pub rested : (ps : List ℕ) (at quiet : ℕ) (old new : Watch) (conns : List Conn) (conn : Conn) → AreTimed (ps ++ at ∷ []) old.until old.alarms conns → new.places.items ≡ ps → old.places.items ≡ ps → Notes at quiet old new → conn ≡ get_or conns at conn → IsQuietUntil quiet conn → AreTimed new.places.items new.until new.alarms conns
rested ps at quiet old new conns conn t places places' notes is quiet_conn = record {
  quiet = (λ i k stands beside. elim (cases_eq i at) [
    | inl e ↦
        let stands' : slice_get conns at ≡ Some k = subst (λ j. slice_get conns j ≡ Some k) e stands in
        let le : tick_at new.alarms i ≤ quiet = subst (λ n. tick_at new.alarms n ≤ quiet) (sym e) (notes.here (subst (λ n. IsBeside new.places.items n) e beside)) in
        subst (λ (x : Conn). IsQuietUntil (tick_at new.alarms i) x) (sym (one_there conns at conn k is stands')) (quiet_sooner quiet (tick_at new.alarms i) conn quiet_conn le)
    | inr ne ↦
        let b = notes.keeps i ne beside in
        quiet_sooner (tick_at old.alarms i) (tick_at new.alarms i) k (t.quiet i k stands (beside_pop ps at i (subst (λ (xs : List ℕ). IsBeside xs i) places' b.0) ne)) b.1
  ]);
  least = notes.least t.least;
  room = (λ i lt. has_still old.alarms new.alarms i notes.long (t.room i lt));
}

pub dropped : (ps : List ℕ) (at until : ℕ) (times : List (Option ℕ)) (conns : List Conn) → AreTimed (ps ++ at ∷ []) until times conns → length conns ≤ at → AreTimed ps until times conns
dropped ps at until times conns t le = record {
  quiet = (λ i k stands beside. let within = slice_get_within conns i k stands in t.quiet i k stands (beside_pop ps at i beside (λ e. absurd (omega (arith, within, le, e)))));
  least = t.least;
  room = t.room;
}

-- the same timers, and another tick before which none is set
pub timed_until : (places : List ℕ) (until until' : ℕ) (times times' : List (Option ℕ)) (conns : List Conn) → AreTimed places until times conns → times' ≡ times → ((i : ℕ) → until' ≤ tick_at times i) → AreTimed places until' times' conns
timed_until places until until' times times' conns t same least = record {
  quiet = (λ i k stands beside. subst (λ (ts : List (Option ℕ)). IsQuietUntil (tick_at ts i) k) (sym same) (t.quiet i k stands beside));
  least = (λ i. let e = ap (λ (ts : List (Option ℕ)). tick_at ts i) same in let h = least i in omega (arith, e, h));
  room = (λ i lt. subst (λ (ts : List (Option ℕ)). HasAlarm ts i) (sym same) (t.room i lt));
}

-- after a connection changed
pub changed : (at quiet : ℕ) (conns : List Conn) (old new : Watch) (k' : Conn) → at < length conns → AreTimed old.places.items old.until old.alarms conns → Notes at quiet old new → IsQuietUntil quiet k' → AreTimed new.places.items new.until new.alarms (slice_set conns at k')
changed at quiet conns old new k' lt t notes is = record {
  quiet = (λ i k stands beside.
      let was = there conns at lt in
      elim (set_at conns at i was.0 k' k was.1 stands) [
        | inl e ↦
            let beside' : IsBeside new.places.items at = subst (λ n. IsBeside new.places.items n) e.0 beside in
            let le : tick_at new.alarms i ≤ quiet = subst (λ n. tick_at new.alarms n ≤ quiet) (sym e.0) (notes.here beside') in
            subst (λ (x : Conn). IsQuietUntil (tick_at new.alarms i) x) (sym e.1) (quiet_sooner quiet (tick_at new.alarms i) k' is le)
        | inr o ↦ (let b = notes.keeps i o.0 beside in quiet_sooner (tick_at old.alarms i) (tick_at new.alarms i) k (t.quiet i k o.1 b.0) b.1)
      ]);
  least = notes.least t.least;
  room = (λ i lt. has_still old.alarms new.alarms i notes.long (t.room i (let e = length-set conns at k' in omega (arith, e, lt))));
}

-- after two were added
added_at : (conns : List Conn) (a b k : Conn) (i : ℕ) → slice_get (conns ++ a ∷ b ∷ []) i ≡ Some k → (slice_get conns i ≡ Some k) ⊎ (((i ≡ length conns) × (k ≡ a)) ⊎ ((i ≡ length conns + 1) × (k ≡ b)))
added_at [] a b k zero e = inr (inl (refl, cc))
added_at [] a b k (suc zero) e = inr (inr (refl, cc))
added_at [] a b k (suc (suc i)) e = absurd cc
added_at (x ∷ conns) a b k zero e = inl e
added_at (x ∷ conns) a b k (suc i) e = elim (added_at conns a b k i e) [
  | inl h ↦ inl h
  | inr o ↦ inr (elim o [ inl h ↦ inl (ap suc h.0, h.1) | inr h ↦ inr ((let e = h.0 in omega (arith, e)), h.1) ])
]

pub both_added : (first second : ℕ) (conns : List Conn) (old mid new : Watch) (a b : Conn) → AreTimed old.places.items old.until old.alarms conns → ((at : ℕ) → at < length conns + 2 → HasAlarm old.alarms at) → Notes (length conns) first old mid → Notes (length conns + 1) second mid new → IsQuietUntil first a → IsQuietUntil second b → AreTimed new.places.items new.until new.alarms (conns ++ a ∷ b ∷ [])
both_added first second conns old mid new a b t room one two is_a is_b = record {
  quiet = (λ i k stands beside. elim (added_at conns a b k i stands) [
    | inl e ↦
        let within = slice_get_within conns i k e in
        let b2 = two.keeps i (λ z. absurd (omega (arith, within, z))) beside in
        let b1 = one.keeps i (λ z. absurd (omega (arith, within, z))) b2.0 in
        quiet_sooner (tick_at old.alarms i) (tick_at new.alarms i) k (t.quiet i k e b1.0) (let le1 = b1.1 in let le2 = b2.1 in omega (arith, le1, le2))
    | inr o ↦ elim o [
      | inl e ↦
          let ne : i ≢ length conns + 1 = (let z = e.0 in λ z'. absurd (omega (arith, z, z'))) in
          let b2 = two.keeps i ne beside in
          let le : tick_at mid.alarms i ≤ first = subst (λ n. tick_at mid.alarms n ≤ first) (sym e.0) (one.here (subst (λ n. IsBeside mid.places.items n) e.0 b2.0)) in
          subst (λ (x : Conn). IsQuietUntil (tick_at new.alarms i) x) (sym e.1) (quiet_sooner first (tick_at new.alarms i) a is_a (let le2 = b2.1 in omega (arith, le, le2)))
      | inr e ↦
          let le : tick_at new.alarms i ≤ second = subst (λ n. tick_at new.alarms n ≤ second) (sym e.0) (two.here (subst (λ n. IsBeside new.places.items n) e.0 beside)) in
          subst (λ (x : Conn). IsQuietUntil (tick_at new.alarms i) x) (sym e.1) (quiet_sooner second (tick_at new.alarms i) b is_b le)
    ]
  ]);
  least = two.least (one.least t.least);
  room = (λ i lt. has_still old.alarms new.alarms i (two.long ∙ one.long) (room i (let e = length-append conns (a ∷ b ∷ []) in omega (arith, e, lt))));
}

-- after one was added
pub one_added : (quiet : ℕ) (conns : List Conn) (old new : Watch) (a : Conn) → AreTimed old.places.items old.until old.alarms conns → ((at : ℕ) → at < length conns + 1 → HasAlarm old.alarms at) → Notes (length conns) quiet old new → IsQuietUntil quiet a → AreTimed new.places.items new.until new.alarms (conns ++ a ∷ [])
one_added quiet conns old new a t room one is_a = record {
  quiet = (λ i k stands beside. elim (pushed_at conns a i k stands) [
    | inl e ↦
        let within = slice_get_within conns i k e in
        let b1 = one.keeps i (λ z. absurd (omega (arith, within, z))) beside in
        quiet_sooner (tick_at old.alarms i) (tick_at new.alarms i) k (t.quiet i k e b1.0) (let le1 = b1.1 in omega (arith, le1))
    | inr e ↦
        let le : tick_at new.alarms i ≤ quiet = subst (λ n. tick_at new.alarms n ≤ quiet) (sym e.0) (one.here (subst (λ n. IsBeside new.places.items n) e.0 beside)) in
        subst (λ (x : Conn). IsQuietUntil (tick_at new.alarms i) x) (sym e.1) (quiet_sooner quiet (tick_at new.alarms i) a is_a le)
  ]);
  least = one.least t.least;
  room = (λ i lt. has_still old.alarms new.alarms i one.long (room i (let e = length-append conns (a ∷ []) in omega (arith, e, lt))));
}

-- after one was taken away
kept_at : (conns gone : List Conn) (i : ℕ) (k : Conn) → slice_get conns i ≡ Some k → slice_get (conns ++ gone) i ≡ Some k
kept_at [] gone i k e = absurd cc
kept_at (x ∷ conns) gone zero k e = e
kept_at (x ∷ conns) gone (suc i) k e = kept_at conns gone i k e

pub fewer : (old new : Watch) (at : ℕ) (all conns gone : List Conn) → all ≡ conns ++ gone → at ≡ length conns → Clears at old new → AreTimed old.places.items old.until old.alarms all → AreTimed new.places.items new.until new.alarms conns
fewer old new at all conns gone e is cl t = record {
  quiet = (λ i k stands beside.
      let within = slice_get_within conns i k stands in
      let ne : i ≢ at = (λ z. absurd (omega (arith, within, z, is))) in
      subst (λ n. IsQuietUntil n k) (sym (cl.sets.others i ne)) (t.quiet i k (ap (λ (xs : List Conn). slice_get xs i) e ∙ kept_at conns gone i k stands) (subst (λ (ps : List ℕ). IsBeside ps i) cl.places beside)));
  least = (let until = cl.until in let last = under_last old.until old.alarms t.least in sets_least at (2 ^ 32 - 1) old.until new.until old.alarms new.alarms cl.sets (omega (arith, until)) (omega (arith, until, last)) t.least);
  room = (λ i lt. has_still old.alarms new.alarms i cl.sets.long (t.room i (let n = ap length e in let n' = length-append conns gone in omega (arith, n, n', lt))));
}

-- where there is only more room
pub still_timed : (conns conns' : List Conn) (old new : Watch) → conns' ≡ conns → new.places.items ≡ old.places.items → new.until ≡ old.until → ((i : ℕ) → tick_at new.alarms i ≡ tick_at old.alarms i) → length old.alarms ≤ length new.alarms → AreTimed old.places.items old.until old.alarms conns → AreTimed new.places.items new.until new.alarms conns'
still_timed conns conns' old new same places until ticks wide t = record {
  quiet = (λ i k stands beside.
      let was : slice_get conns i ≡ Some k = ap (λ (xs : List Conn). slice_get xs i) (sym same) ∙ stands in
      subst (λ n. IsQuietUntil n k) (sym (ticks i)) (t.quiet i k was (subst (λ (ps : List ℕ). IsBeside ps i) places beside)));
  least = (λ i. let e = ticks i in let h = t.least i in omega (arith, e, h, until));
  room = (λ i lt. let n = ap length same in let h = t.room i (omega (arith, n, lt)) in let (within, few) = h in (omega (arith, within, wide), few));
}

-- what is told of the places beside those that are watched
pub idle_beside : (now : ℕ) (conns : List Conn) (watch : Watch) (told : Option (Bor (List ℕ))) → AreQuietBeside watch.places.items watch.until conns → IfSome told (λ places. (places.now ≡ watch.places.items) × (now < watch.until)) → IfSome told (λ places. AreIdleBeside now places.now conns)
idle_beside now conns watch (Some places) h is = λ at k stands beside live. h at k stands (subst (λ (ps : List ℕ). IsBeside ps at) is.0 beside) live now is.1
idle_beside now conns watch None h is = tt
