-- A DIF holds as the rank below goes on without it, and as a port there is freed.
use Rattle.std.proofs.Common.{◌≡◌, ◌∙◌, ℕ, Bool, true, false, List, slice_get, slice_set, Option, Some, None, refl, sym, ap, subst, inl, inr}
use Rattle.std.proofs.lemmas.Bool.Decides.{eqb_tells}
use Rattle.rina_base.specs.declared.number.Port.{Port}
use Rattle.rina_iface.specs.declared.ends.End.{End}
use Rattle.rina_iface.specs.Free.{FreesEnds, IsFreed}
use Rattle.rina_iface.specs.Journal.{AreKept, At}
use Rattle.rina_iface.specs.Later.{IsLater}
use Rattle.rina_iface.specs.Seen.{Fac, Seen, end_of, with_fac}
use Rattle.rina_iface.specs.State.{freed}
use Rattle.rina_iface.proofs.Changed.{set_at, slice_get-set_other, slice_get-set_same}
use Rattle.rina_iface.proofs.Found.{end_of_stands, found, its_port, stands_there}
use Rattle.rina_law.specs.Direction.{Direction}
use Rattle.rina_data.specs.Configs.{Config, config_of}
use Rattle.rina_dif_law.specs.Lifting.{IsLifted}
use Rattle.rina_dif_law.proofs.Carries.{beside_carries}
use Rattle.rina_dif_law.proofs.Lifted.{beside_accounted}
use Rattle.rina_dif_law.proofs.Numbering.{beside_numbered}
use Rattle.rina_dif_law.proofs.Others.{stands_beside}
use Rattle.rina_dif.specs.declared.dif.Dif.{Dif}
use Rattle.rina_dif.specs.Holding.{Holds}
use Rattle.rina_dif.specs.Shown.{seen_of}
use Rattle.rina_dif.proofs.Causing.{caused_on, lower_later, none_is}
use Rattle.rina_dif.proofs.Connected.{beside_connected}

same_some : {X : Type 0} (o : Option X) (a b : X) → o ≡ Some a → o ≡ Some b → a ≡ b
same_some o a b h g = cc

none_some : {X : Type 0} (o : Option X) (x : X) → o ≡ Some x → o ≡ None → ⊥
none_some o x h g = cc

-- The rank below goes on without it

pub holds_lifted : (d : Dif) (lines : List Direction) (below below' : Seen) → AreKept below' → IsLifted (config_of d.settings) below below' → below'.now ≡ below.now → Holds d lines below → Holds d lines below'
holds_lifted d lines below below' kept' up clock h = record {
  tied = h.tied;
  standing = stands_beside (seen_of d) lines below below' kept' h.standing up clock;
  carrying = beside_carries (seen_of d) lines below below' kept' h.carrying up;
  numbered = beside_numbered (seen_of d) below below' kept' h.numbered up;
  accounted = beside_accounted (seen_of d) lines below below' kept' h.accounted up;
  caused = caused_on (seen_of d) (seen_of d) below below' (none_is (seen_of d) (seen_of d) refl) (lower_later (config_of d.settings) below below' kept' up.later) h.caused;
  written_off = h.written_off;
  housed = h.housed;
  managed = h.managed;
  enrolled = h.enrolled;
  connected = beside_connected (config_of d.settings) d.clock d.connections (seen_of d).processes below below' kept' up clock h.connected;
  flooded = h.flooded;
}

-- A port is freed

-- the end at a place stood there, and has sent and passed the same
record HasStood (ends : List End) (i : ℕ) (e' : End) : Type 0 where
  old : End
  stands : At ends i old
  port : e'.port ≡ old.port
  sent : e'.sent ≡ old.sent
  taken : e'.taken ≡ old.taken

freed_one : (ends : List End) (place : ℕ) (e : End) (i : ℕ) (e' : End) → At ends place e → At (slice_set ends place (freed e)) i e' → HasStood ends i e'
freed_one ends place e i e' at here = elim (set_at ends place i e (freed e) e' at here) [
  | inl t ↦ record { old = e; stands = ap (slice_get ends) t.0 ∙ at; port = ap (λ (z : End). z.port) t.1; sent = ap (λ (z : End). z.sent) t.1; taken = ap (λ (z : End). z.taken) t.1 }
  | inr f ↦ record { old = e'; stands = f.1; port = refl; sent = refl; taken = refl }
]

freed_ends : (both : Bool) (ends : List End) (place : ℕ) (e : End) (ends' : List End) → At ends place e → FreesEnds both ends place e ends' → (i : ℕ) (e' : End) → At ends' i e' → HasStood ends i e'
freed_ends false ends place e ends' at is i e' here = freed_one ends place e i e' at (subst (λ (es : List End). At es i e') is here)
freed_ends true ends place e ends' at (k, other, at_k, partners, is) i e' here =
    let mid : List End = slice_set ends place (freed e) in
    let y : (y : End) × At mid k y = elim (eqb_tells k place) [
      | inl t ↦ (freed e, ap (slice_get mid) t.1 ∙ slice_get-set_same ends place e (freed e) at)
      | inr f ↦ (other, slice_get-set_other ends place k (freed e) f.1 ∙ at_k)
    ] in
    elim (set_at mid k i y.0 (freed other) e' y.1 (subst (λ (es : List End). At es i e') is here)) [
      | inl t ↦ record { old = other; stands = ap (slice_get ends) t.0 ∙ at_k; port = ap (λ (z : End). z.port) t.1; sent = ap (λ (z : End). z.sent) t.1; taken = ap (λ (z : End). z.taken) t.1 }
      | inr f ↦ freed_one ends place e i e' at f.1
    ]

stood : (s : Seen) (port : Port) (n : ℕ) (fac : Fac) (i : ℕ) (e : End) → AreKept s → slice_get s.facs n ≡ Some fac → At fac.ends i e → e.port ≡ port → end_of s port ≡ Some e
stood s port n fac i e kept is at same = ap (end_of s) (sym same) ∙ end_of_stands s e.port fac i e (stands_there s n fac i e is (kept.ports n fac is) at)

-- so at its port
record WasThere (old : Seen) (port : Port) (e' : End) : Type 0 where
  end : End
  is_end : end_of old port ≡ Some end
  sent : e'.sent ≡ end.sent
  taken : e'.taken ≡ end.taken

freed_from : (both : Bool) (old new : Seen) (port : Port) → AreKept old → IsFreed both old port new → (p : Port) (e' : End) → end_of new p ≡ Some e' → WasThere old p e'
freed_from both old new port kept f p e' is =
    let there = found new p e' is in
    let its = its_port new p there.facility there.place e' there.stands in
    let after : Fac = record f.facility { ends = f.ends } in
    let set : slice_get (with_fac old port.fac after).facs p.fac ≡ Some there.facility = ap (λ (z : Seen). slice_get z.facs p.fac) (sym f.new_is) ∙ there.stands.facility in
    elim (set_at old.facs port.fac p.fac f.facility after there.facility f.stands.facility set) [
      | inl t ↦
          let at : At f.ends there.place e' = ap (λ (z : Fac). slice_get z.ends there.place) (sym t.1) ∙ there.stands.is in
          let x = freed_ends both f.facility.ends f.place f.end f.ends f.stands.is f.frees there.place e' at in
          record { end = x.old; is_end = stood old p port.fac f.facility there.place x.old kept f.stands.facility x.stands (sym x.port ∙ its); sent = x.sent; taken = x.taken }
      | inr u ↦ record { end = e'; is_end = stood old p p.fac there.facility there.place e' kept u.1 there.stands.is its; sent = refl; taken = refl }
    ]

-- no end of a member does anything
pub freed_lifted : (g : Config) (both : Bool) (old new : Seen) (port : Port) → AreKept old → IsLater old new → IsFreed both old port new → IsLifted g old new
freed_lifted g both old new port kept later f = record {
  later = later;
  stays = λ p e e' x x' mine.
      let w = freed_from both old new port kept f p e' x' in
      let same : w.end ≡ e = same_some (end_of old p) w.end e w.is_end x in
      (w.sent ∙ ap (λ (z : End). z.sent) same, w.taken ∙ ap (λ (z : End). z.taken) same);
  fresh = λ p e' x' none mine. (let w = freed_from both old new port kept f p e' x' in absurd (none_some (end_of old p) w.end w.is_end none));
  unread = λ p e' x' none mine. (let w = freed_from both old new port kept f p e' x' in absurd (none_some (end_of old p) w.end w.is_end none));
}

freed_clock : (both : Bool) (old new : Seen) (port : Port) → IsFreed both old port new → new.now ≡ old.now
freed_clock both old new port f = ap (λ (s : Seen). s.now) f.new_is

-- the DIF holds
pub holds_freed : (d : Dif) (lines : List Direction) (both : Bool) (below below' : Seen) (port : Port) → AreKept below → AreKept below' → IsLater below below' → IsFreed both below port below' → Holds d lines below → Holds d lines below'
holds_freed d lines both below below' port kept kept' later f = holds_lifted d lines below below' kept' (freed_lifted (config_of d.settings) both below below' port kept later f) (freed_clock both below below' port f)
