-- An SDU that is offered keeps what holds of a direction.
use Rattle.std.proofs.Common.{◌≡◌, ℕ, suc, ◌+◌, ◌<◌, ◌≤◌, List, [], ◌∷◌, ◌++◌, length, Bool, true, false, cond, ◌&&◌, ltb, refl, sym, ◌∙◌, ap, subst, arith, inl, inr, Option, Some, None, length-append}
use Rattle.std.proofs.lemmas.Bool.{false≢true, leb-true, ltb-false, cases_lt}
use Rattle.rina_cube.specs.declared.Kind.{Kind}
use Rattle.rina_cube.specs.declared.Kind.TheVariants.{Datagram, Loose, Reliable}
use Rattle.rina_cube.specs.Cubes.{IsCube, is_reliable}
use Rattle.rina_law.specs.declared.entry.Entry.{Entry}
use Rattle.rina_law.specs.Constants.{Constants}
use Rattle.rina_law.specs.Direction.{no_entry, entry, Inbox, Direction, offer_refusal, sent_entry, after_offer}
use Rattle.rina_law.specs.DirectionHolds.{part_at, bytes_of, RunHolds, IsClosed, SentHolds, nth, GotHolds, CoreHolds, DirectionHolds}
use Rattle.rina_law.specs.Line.{Line, put, put_all, begun, HasRoom}
use Rattle.rina_law.specs.Lists.{In}
use Rattle.rina_law.specs.Pieces.{Part, IsCut, join}
use Rattle.rina_law.specs.Sender.{Member, Sender, no_member, member, is_absent, started, Refusal, room_of, refusal, drf_for, member_for}
use Rattle.rina_law.proofs.Beginning.{direction_begun}
use Rattle.rina_law.proofs.Agreeing.{join_agree, got_agree, reach_agree, done_le, held_within}
use Rattle.rina_law.proofs.Lists.{length-push, old_at, new_at}
use Rattle.rina_law.proofs.Runs.{agree_later, reached_agree, pushed}
use Rattle.rina_law.proofs.Sdus.{IsNext, run_first, Owes, sent_first, owes_first, bytes_pushed, bytes_gone_on, run_next, sent_next, owes_next}
use Rattle.rina_law.proofs.Sending.{put_later, put_holds, room_after, room_one}

-- What an SDU that is not refused is

record IsAdmitted (c : Constants) (tx : Sender) (parts : List Part) : Type 0 where
  pub fits : length (join parts) ≤ c.cube.largest
  pub room : HasRoom c tx (length parts)
  pub numbers : length tx.run + length parts ≤ c.max + 1

not_refused : (b : Bool) (x : Refusal) (y : Option Refusal) → cond b (Some x) y ≡ None → (b ≡ false) × (y ≡ None)
not_refused true x y e = cc
not_refused false x y e = (refl, e)

window_open : (kind : Kind) (b : Bool) → (is_reliable kind && b) ≡ false → kind ≡ Reliable → b ≡ false
window_open Datagram b e is = cc
window_open Loose b e is = cc
window_open Reliable b e is = e

admitted : (c : Constants) (tx : Sender) (parts : List Part) → 0 < length parts → refusal c tx parts ≡ None → IsAdmitted c tx parts
admitted c tx parts some e =
    let long = not_refused (ltb c.cube.largest (length (join parts))) _ _ e in
    let shut = not_refused (is_reliable c.cube.kind && ltb (room_of tx) (length parts)) _ _ long.1 in
    let spent = not_refused (ltb (c.max + 1) (length tx.run + length parts)) _ _ shut.1 in
    record {
      fits = ltb-false c.cube.largest (length (join parts)) long.0;
      room = λ is. (let le : length parts ≤ room_of tx = ltb-false (room_of tx) (length parts) (window_open c.cube.kind (ltb (room_of tx) (length parts)) shut.0 is) in omega arith);
      numbers = ltb-false (c.max + 1) (length tx.run + length parts) spent.0;
    }

cut_some : (size : ℕ) (b : Bool) (parts : List Part) → IsCut size b parts → 0 < length parts
cut_some size b [] cut = absurd cut
cut_some size b (p ∷ ps) cut = omega arith

-- One piece

-- a new entry is no source of what was got before
got_sent : (c : Constants) (run : List Member) (base since now : ℕ) (sent : List Entry) (e : Entry) (done : List ℕ) (o : Inbox) → e.num.seq ≡ length run → e.tick ≡ now → since ≤ now → GotHolds c run base since sent done o → GotHolds c run base since (sent ++ e ∷ []) done o
got_sent c run base since now sent e done o num tick since_le h =
    let longer = length-push sent e in
    record {
      size = h.size;
      is = λ i lt.
          (let g = h.is i lt in
          let stands = g.stands in
          let old : entry (sent ++ e ∷ []) (nth o.places i) ≡ entry sent (nth o.places i) = old_at sent e no_entry (nth o.places i) stands in
          record {
            stands = omega arith;
            num = ap (λ (x : Entry). x.num.seq) old ∙ g.num;
            cep = g.cep;
            before = (let x = ap (λ (x : Entry). x.tick) old in omega (arith, g.before));
            bytes = g.bytes ∙ sym (ap (λ (x : Entry). x.bytes) old);
            in_time = (let x = ap (λ (x : Entry). x.tick) old in omega (arith, g.in_time));
            greatest = λ k more same le. elim (cases_lt k (length sent)) [
              | inl less ↦
                  (let x : entry (sent ++ e ∷ []) k ≡ entry sent k = old_at sent e no_entry k less in
                  let n : (entry sent k).num.seq ≡ (entry o.got i).num.seq = rw x at same in
                  let t : (entry sent k).tick ≤ (entry o.got i).tick = rw x at le in
                  g.greatest k less n t)
              | inr ge ↦
                  (let x : entry (sent ++ e ∷ []) k ≡ e = new_at sent e no_entry k (omega arith) in
                  let n : e.num.seq ≡ (entry o.got i).num.seq = rw x at same in
                  let t : e.tick ≤ (entry o.got i).tick = rw x at le in
                  elim (h.age i lt) [ inl a ↦ absurd (omega arith) | inr a ↦ absurd (omega arith) ])
            ];
          });
      age = h.age;
      known = h.known;
      shape = h.shape;
    }

core_put : (c : Constants) (d : Direction) (part : Part) (sent : List Entry) → HasRoom c d.line.sender 1 → CoreHolds c d → RunHolds c (d.line.sender.run ++ member_for c d.line.clock part d.line.sender ∷ []) → SentHolds c (d.line.sender.run ++ member_for c d.line.clock part d.line.sender ∷ []) d.base sent → d.base ≤ length sent → GotHolds c d.line.sender.run d.base d.since sent d.line.done d.inbox → CoreHolds c (record d { line = put c part d.line; sent = sent })
core_put c d part sent room k run source base got =
    let s = member_for c d.line.clock part d.line.sender in
    let l = put_later d.line.sender s d.line.clock k.line.sender.out in
    let a = agree_later d.line.sender _ l in
    let numbers = λ (n : ℕ) (i : In n d.line.done). (k.line.done n i).within in
    record {
      line = put_holds c part d.line k.line room;
      run = run;
      sent = source;
      base = base;
      since = k.since;
      join = λ b. join_agree d.line.sender.run _ d.inbox.joiner a (k.join b);
      got = got_agree c d.line.sender.run _ d.base d.since sent d.line.done d.inbox a numbers got;
      ticks = k.ticks;
      count = λ e. k.count e ∙ sym (reached_agree d.line.sender.run _ d.base (length d.line.done) a (done_le c d.line k.line e));
      reach = λ e b. reach_agree d.line.sender.run _ d.line.receiver.held (length d.line.done) d.state_from d.inbox a (done_le c d.line k.line e) (held_within c d.line k.line e b) (k.reach e b);
    }

next_is : (c : Constants) (run : List Member) (s : Member) (size : ℕ) (b : Bool) (p : Part) (ps : List Part) (n : ℕ) → s.part ≡ p → IsCut size b (p ∷ ps) → size ≡ c.piece → length run + suc n ≤ c.max + 1 → IsNext c run s
next_is c run s size b p [] n is cut same numbers = record { drf = λ k lt. ap (λ (m : Member). m.drf) (old_at run s no_member k lt); sized = rw (is, ← same) (cut.2); numbers = omega arith }
next_is c run s size b p (q ∷ ps) n is cut same numbers = record { drf = λ k lt. ap (λ (m : Member). m.drf) (old_at run s no_member k lt); sized = rw (is, ← same) (cut.2); numbers = omega arith }

-- All pieces of an SDU

closed_new : (run : List Member) (s : Member) → s.part.ends ≡ true → IsClosed (run ++ s ∷ [])
closed_new run s e n is = (let u = pushed run s in let l = u.length_is in ap (λ (x : Member). x.part.ends) (u.new n (omega arith)) ∙ e)

no_drf : (kind : Kind) (tx : Sender) → kind ≡ Reliable → tx.acked < length tx.run → drf_for kind tx ≡ true → ⊥
no_drf Datagram tx e lt t = cc
no_drf Loose tx e lt t = cc
no_drf Reliable tx e lt t = (let le = leb-true (length tx.run) tx.acked t in omega arith)

core_next : (c : Constants) (d : Direction) (p : Part) (rest : List ℕ) (m : ℕ) → HasRoom c d.line.sender 1 → CoreHolds c d → suc m ≡ length d.line.sender.run → (part_at d.line.sender.run m).ends ≡ false → p.begins ≡ false → (member d.line.sender.run m).first ≡ d.line.clock → (c.cube.kind ≡ Reliable → d.line.sender.acked < length d.line.sender.run) → IsNext c d.line.sender.run (member_for c d.line.clock p d.line.sender) → length (bytes_of d.line.sender.run m) + length p.body ≤ c.cube.largest → Owes d.line.sender.run d.base d.sent (p.body ++ rest) → (p.ends ≡ true → rest ≡ []) → CoreHolds c (record d { line = put c p d.line })
core_next c d p rest m room k m_is ends b first acked next fits owes end =
    let s = member_for c d.line.clock p d.line.sender in
    core_put c d p d.sent room k
    (run_next c d.line.sender.run s m m_is k.run ends b (sym first) (λ e. no_drf c.cube.kind d.line.sender e (acked e)) next fits)
    (sent_next c d.line.sender.run s d.base m d.sent rest m_is k.sent owes b (sym first) end)
    k.base k.got

rest_holds : (c : Constants) (parts : List Part) (d : Direction) (m : ℕ) → IsCut c.piece false parts → HasRoom c d.line.sender (length parts) → length d.line.sender.run + length parts ≤ c.max + 1 → CoreHolds c d → suc m ≡ length d.line.sender.run → (part_at d.line.sender.run m).ends ≡ false → (member d.line.sender.run m).first ≡ d.line.clock → (c.cube.kind ≡ Reliable → d.line.sender.acked < length d.line.sender.run) → length (bytes_of d.line.sender.run m) + length (join parts) ≤ c.cube.largest → Owes d.line.sender.run d.base d.sent (join parts) → DirectionHolds c (record d { line = put_all c parts d.line })
rest_holds c [] d m cut room numbers k m_is ends first acked fits owes = absurd cut
rest_holds c (p ∷ []) d m cut room numbers k m_is ends first acked fits owes =
    let next = next_is c d.line.sender.run (member_for c d.line.clock p d.line.sender) c.piece false p [] 0 refl cut refl numbers in
    let total = length-append p.body [] in
    record {
      core = core_next c d p [] m (room_one c d.line.sender 0 room) k m_is ends cut.0 first acked next (omega arith) owes (λ e. refl);
      closed = closed_new d.line.sender.run (member_for c d.line.clock p d.line.sender) cut.1;
    }
rest_holds c (p ∷ q ∷ ps) d m cut room numbers k m_is ends first acked fits owes =
    let s = member_for c d.line.clock p d.line.sender in
    let u = pushed d.line.sender.run s in
    let l = u.length_is in
    let next = next_is c d.line.sender.run s c.piece false p (q ∷ ps) (length (q ∷ ps)) refl cut refl numbers in
    let total = length-append p.body (join (q ∷ ps)) in
    let P : ℕ → Type 0 = λ n. length (bytes_of (d.line.sender.run ++ s ∷ []) n) ≡ length (bytes_of d.line.sender.run m) + length p.body in
    let far = subst P (sym m_is) (bytes_gone_on d.line.sender.run s m m_is cut.0) in
    rest_holds c (q ∷ ps) (record d { line = put c p d.line }) (suc m) cut.3 (room_after c p d.line (length (q ∷ ps)) room) (omega arith)
    (core_next c d p (join (q ∷ ps)) m (room_one c d.line.sender (length (q ∷ ps)) room) k m_is ends cut.0 first acked next (omega arith) owes (λ e. absurd (false≢true (sym cut.1 ∙ e))))
    (omega arith)
    (ap (λ (x : Member). x.part.ends) (u.new (suc m) m_is) ∙ cut.1)
    (ap (λ (x : Member). x.first) (u.new (suc m) m_is))
    (λ e. (let a = acked e in omega arith))
    (omega arith)
    (owes_next d.line.sender.run s d.base m d.sent (join (q ∷ ps)) m_is owes cut.0)

-- the first one, with its entry
core_first : (c : Constants) (d : Direction) (p : Part) (rest : List ℕ) (e : Entry) → HasRoom c d.line.sender 1 → DirectionHolds c d → p.begins ≡ true → e.num.seq ≡ length d.line.sender.run → e.num.cep ≡ c.cep → e.tick ≡ d.line.clock → e.bytes ≡ p.body ++ rest → (p.ends ≡ true → rest ≡ []) → IsNext c d.line.sender.run (member_for c d.line.clock p d.line.sender) → length p.body ≤ c.cube.largest → CoreHolds c (record d { line = put c p d.line; sent = d.sent ++ e ∷ [] })
core_first c d p rest e room h b num cep tick bytes end next fits =
    let s = member_for c d.line.clock p d.line.sender in
    let k = h.core in
    let longer = length-push d.sent e in
    let base = k.base in
    core_put c d p (d.sent ++ e ∷ []) room k
    (run_first c d.line.sender.run s k.run h.closed b next fits)
    (sent_first c d.line.sender.run s d.base d.sent e rest k.sent base b num cep tick bytes end)
    (omega arith)
    (got_sent c d.line.sender.run d.base d.since d.line.clock d.sent e d.line.done d.inbox num tick k.since k.got)

all_holds : (c : Constants) (parts : List Part) (d : Direction) (e : Entry) → IsCut c.piece true parts → IsAdmitted c d.line.sender parts → DirectionHolds c d → e.num.seq ≡ length d.line.sender.run → e.num.cep ≡ c.cep → e.tick ≡ d.line.clock → e.bytes ≡ join parts → DirectionHolds c (record d { line = put_all c parts d.line; sent = d.sent ++ e ∷ [] })
all_holds c [] d e cut ok h num cep tick bytes = absurd cut
all_holds c (p ∷ []) d e cut ok h num cep tick bytes =
    let next = next_is c d.line.sender.run (member_for c d.line.clock p d.line.sender) c.piece true p [] 0 refl cut refl ok.numbers in
    let total = length-append p.body [] in
    let fits = ok.fits in
    record {
      core = core_first c d p [] e (room_one c d.line.sender 0 ok.room) h cut.0 num cep tick bytes (λ t. refl) next (omega arith);
      closed = closed_new d.line.sender.run (member_for c d.line.clock p d.line.sender) cut.1;
    }
all_holds c (p ∷ q ∷ ps) d e cut ok h num cep tick bytes =
    let s = member_for c d.line.clock p d.line.sender in
    let u = pushed d.line.sender.run s in
    let l = u.length_is in
    let next = next_is c d.line.sender.run s c.piece true p (q ∷ ps) (length (q ∷ ps)) refl cut refl ok.numbers in
    let total = length-append p.body (join (q ∷ ps)) in
    let far = bytes_pushed d.line.sender.run s cut.0 in
    let fits = ok.fits in
    let numbers = ok.numbers in
    rest_holds c (q ∷ ps) (record d { line = put c p d.line; sent = d.sent ++ e ∷ [] }) (length d.line.sender.run) cut.3 (room_after c p d.line (length (q ∷ ps)) ok.room) (omega arith)
    (core_first c d p (join (q ∷ ps)) e (room_one c d.line.sender (length (q ∷ ps)) ok.room) h cut.0 num cep tick bytes (λ t. absurd (false≢true (sym cut.1 ∙ t))) next (omega arith))
    (omega arith)
    (ap (λ (x : Member). x.part.ends) (u.new (length d.line.sender.run) refl) ∙ cut.1)
    (ap (λ (x : Member). x.first) (u.new (length d.line.sender.run) refl))
    (λ r. (let a = (h.core.line.gapless r).acked in let le = done_le c d.line h.core.line r in omega arith))
    (omega arith)
    (owes_first c d.line.sender.run s d.base d.sent e (join (q ∷ ps)) h.core.sent cut.0 bytes)

begun_clock : (b : Bool) (c : Constants) (line : Line) → line.clock ≡ (begun b c line).clock
begun_clock true c line = refl
begun_clock false c line = refl

begun_sender : (b : Bool) (c : Constants) (line : Line) → started b c line.sender ≡ (begun b c line).sender
begun_sender true c line = refl
begun_sender false c line = refl

accepted_holds : (c : Constants) (d : Direction) (parts : List Part) (b : Bool) → is_absent c d.line.clock d.line.sender ≡ b → IsCube c.cube → DirectionHolds c d → IsCut c.piece true parts → refusal c (started b c d.line.sender) parts ≡ None →
    DirectionHolds c (record d { line = put_all c parts (begun b c d.line); sent = d.sent ++ sent_entry c b d parts ∷ []; base = cond b (length d.sent) d.base; since = cond b d.line.clock d.since })
accepted_holds c d parts b absent cube h cut ok =
    let P : Sender → Type 0 = λ tx. IsAdmitted c tx parts in
    all_holds c parts (record d { line = begun b c d.line; base = cond b (length d.sent) d.base; since = cond b d.line.clock d.since }) (sent_entry c b d parts) cut
    (subst P (begun_sender b c d.line) (admitted c (started b c d.line.sender) parts (cut_some c.piece true parts cut) ok))
    (direction_begun c d b cube h absent) (ap (λ (tx : Sender). length tx.run) (begun_sender b c d.line)) refl (begun_clock b c d.line) refl

pub direction_offer : (c : Constants) (d : Direction) (parts : List Part) (o : Option Refusal) → offer_refusal c d parts ≡ o → IsCube c.cube → DirectionHolds c d → IsCut c.piece true parts → DirectionHolds c (after_offer o c parts d)
direction_offer c d parts (Some refused) e cube h cut = h
direction_offer c d parts None e cube h cut = accepted_holds c d parts (is_absent c d.line.clock d.line.sender) refl cube h cut e
