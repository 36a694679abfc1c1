-- A DIF holds on as the far end of a flow is made, as the answer comes to the asker, and as the asker's end ends while it waits.
use Rattle.std.proofs.Common.{◌≡◌, ◌∙◌, ℕ, List, slice_get, Option, Some, sym, ap, arith, inl, inr}
use Rattle.std.specs.Global.{Vec}
use Rattle.rina_iface.specs.declared.ends.End.{End}
use Rattle.rina_iface.specs.declared.state.Fail.{Fail}
use Rattle.rina_iface.specs.declared.state.PortState.{PortState}
use Rattle.rina_iface.specs.declared.state.PortState.TheVariants.{Failed}
use Rattle.rina_iface.specs.Seen.{Seen}
use Rattle.rina_iface.proofs.Changed.{set_at, slice_get-set_other}
use Rattle.rina_iface.proofs.Grown.{pushed_at, still_at}
use Rattle.rina_ids.specs.Members.{CepIds}
use Rattle.rina_law.specs.Direction.{Direction}
use Rattle.rina_data.specs.Configs.{config_of}
use Rattle.rina_dif_law.specs.Accounted.{IsAccounted}
use Rattle.rina_dif_law.specs.Answering.{IsAnsweredTo, IsFarMade, IsTurnedDown}
use Rattle.rina_dif_law.specs.Carried.{IsCarrying}
use Rattle.rina_dif_law.specs.Caused.{AreCaused}
use Rattle.rina_dif_law.specs.Dif.{DifSeen}
use Rattle.rina_dif_law.specs.Ids.{Ids}
use Rattle.rina_dif_law.specs.Numbered.{IsNumbered}
use Rattle.rina_dif_law.specs.Standing.{IsStanding}
use Rattle.rina_dif_law.specs.Written.{AreWrittenOff}
use Rattle.rina_dif_law.proofs.Answered.{told_accounted, told_carries, told_numbers, told_stands}
use Rattle.rina_dif_law.proofs.FarMade.{made_accounted, made_carries, made_numbers, made_stands}
use Rattle.rina_dif_law.proofs.Finding.{beside}
use Rattle.rina_dif_law.proofs.TurnedDown.{down_accounted, down_carries, down_numbers, down_stands}
use Rattle.rina_dif_law.proofs.Warranted.{answered_written, made_written, turned_down_written}
use Rattle.rina_flows.specs.declared.flows.Flows.{Flows}
use Rattle.rina_flows.specs.Calls.{AreTied}
use Rattle.rina_dif.specs.declared.dif.Dif.{Dif}
use Rattle.rina_dif.specs.Holding.{Holds}
use Rattle.rina_dif.specs.Shown.{seen_of}
use Rattle.rina_dif.proofs.Causing.{allocated_not, caused_here, still_failed}

same_some : {X : Type 0} (o : Option X) (a b : X) → o ≡ Some a → o ≡ Some b → a ≡ b
same_some o a b h g = cc

-- None fails

-- a far end that is made is allocated
far_caused : (d : DifSeen) (lines : List Direction) (below : Seen) (node at : ℕ) (d' : DifSeen) (lines' : List Direction) → IsStanding d lines below → IsFarMade d lines node at d' lines' → AreCaused d below → AreCaused d' below
far_caused d lines below node at d' lines' st m c = caused_here d d' below (record {
  config = ap (λ (x : DifSeen). x.config) m.new_is;
  clock = (let same = ap (λ (x : DifSeen). x.clock) m.new_is in omega (arith, same));
  was = λ k x ids fail is is_ids failed. elim (pushed_at d.ends _ k x (ap (λ (z : DifSeen). slice_get z.ends k) (sym m.new_is) ∙ is)) [
    | inl old ↦
        (let known = beside d.ends d.conns k x st.own.alike old in
        let same : ids ≡ known.0 = same_some (slice_get d'.conns k) ids known.0 is_ids (ap (λ (z : DifSeen). slice_get z.conns k) m.new_is ∙ still_at d.conns _ k known.0 known.1) in
        still_failed d k x ids fail old (known.1 ∙ ap (λ (i : Ids). Some i) (sym same)) failed)
    | inr t ↦ absurd (allocated_not x fail (ap (λ (e : End). e.state) t.1) failed)
  ];
}) c

-- and so is an end that is answered
told_caused : (d : DifSeen) (below : Seen) (at : ℕ) (d' : DifSeen) → IsAnsweredTo d at d' → AreCaused d below → AreCaused d' below
told_caused d below at d' s c = caused_here d d' below (record {
  config = ap (λ (x : DifSeen). x.config) s.new_is;
  clock = (let same = ap (λ (x : DifSeen). x.clock) s.new_is in omega (arith, same));
  was = λ k x ids fail is is_ids failed. elim (set_at d.ends at k s.asker _ x s.is_conn.end (ap (λ (z : DifSeen). slice_get z.ends k) (sym s.new_is) ∙ is)) [
    | inl t ↦ absurd (allocated_not x fail (ap (λ (e : End). e.state) t.1) failed)
    | inr f ↦ still_failed d k x ids fail f.1 (sym (slice_get-set_other d.conns at k _ f.0) ∙ ap (λ (z : DifSeen). slice_get z.conns k) (sym s.new_is) ∙ is_ids) failed
  ];
}) c

-- an end that is turned down does not fail
down_caused : (d : DifSeen) (below : Seen) (at : ℕ) (state : PortState) (d' : DifSeen) → ((fail : Fail) → state ≡ Failed fail → ⊥) → IsTurnedDown d at state d' → AreCaused d below → AreCaused d' below
down_caused d below at state d' not s c = caused_here d d' below (record {
  config = ap (λ (x : DifSeen). x.config) s.new_is;
  clock = (let same = ap (λ (x : DifSeen). x.clock) s.new_is in omega (arith, same));
  was = λ k x ids fail is is_ids failed. elim (set_at d.ends at k s.end _ x s.is_end (ap (λ (z : DifSeen). slice_get z.ends k) (sym s.new_is) ∙ is)) [
    | inl t ↦ absurd (not fail (ap (λ (e : End). e.state) (sym t.1) ∙ failed))
    | inr f ↦ still_failed d k x ids fail f.1 (ap (λ (z : DifSeen). slice_get z.conns k) (sym s.new_is) ∙ is_ids) failed
  ];
}) c

-- The rows

module _ (d : Dif) (flows : Flows) (held : List CepIds) (waiting : Vec ℕ) (lines : List Direction) (below : Seen) (h : Holds d lines below) where
  abbrev pub after : Dif
  after = record d { flows = flows; ids = held; waiting = waiting }

  row_holds : (lines' : List Direction) → AreTied (config_of d.settings) d.clock flows lines' → IsStanding (seen_of after) lines' below → IsCarrying (seen_of after) lines' below → IsNumbered (seen_of after) below → IsAccounted (seen_of after) lines' below → AreCaused (seen_of after) below → AreWrittenOff (seen_of after) → Holds after lines' below
  row_holds lines' tied standing carrying numbered accounted caused written = record {
    tied = tied;
    standing = standing;
    carrying = carrying;
    numbered = numbered;
    accounted = accounted;
    caused = caused;
    written_off = written;
    housed = h.housed;
    managed = h.managed;
    enrolled = h.enrolled;
    connected = h.connected;
    flooded = h.flooded;
  }

  pub far_holds : (node at : ℕ) (lines' : List Direction) → AreTied (config_of d.settings) d.clock flows lines' → IsFarMade (seen_of d) lines node at (seen_of after) lines' → Holds after lines' below
  far_holds node at lines' tied m =
      let s = seen_of d in
      let s' = seen_of after in
      row_holds lines' tied
      (made_stands s lines below h.standing h.numbered node at s' lines' m)
      (made_carries s lines below h.standing h.numbered node at s' lines' m h.carrying)
      (made_numbers s lines below h.standing h.numbered node at s' lines' m)
      (made_accounted s lines below h.standing h.numbered node at s' lines' m h.accounted)
      (far_caused s lines below node at s' lines' h.standing m h.caused)
      (made_written s lines node at s' lines' h.written_off m)

  pub told_holds : (at : ℕ) → AreTied (config_of d.settings) d.clock flows lines → IsAnsweredTo (seen_of d) at (seen_of after) → Holds after lines below
  told_holds at tied s =
      let old = seen_of d in
      let new = seen_of after in
      row_holds lines tied
      (told_stands old lines below h.standing h.numbered at new s)
      (told_carries old lines below h.standing h.numbered at new s h.carrying)
      (told_numbers old lines below h.standing h.numbered at new s)
      (told_accounted old lines below h.standing h.numbered at new s h.accounted)
      (told_caused old below at new s h.caused)
      (answered_written old at new h.written_off s)

  pub down_holds : (at : ℕ) (state : PortState) → AreTied (config_of d.settings) d.clock flows lines → ((fail : Fail) → state ≡ Failed fail → ⊥) → IsTurnedDown (seen_of d) at state (seen_of after) → Holds after lines below
  down_holds at state tied not s =
      let old = seen_of d in
      let new = seen_of after in
      row_holds lines tied
      (down_stands old lines below h.standing h.numbered at state new s)
      (down_carries old lines below h.standing h.numbered at state new s h.carrying)
      (down_numbers old below at state new h.numbered s)
      (down_accounted old lines below h.standing h.numbered at state new s h.accounted)
      (down_caused old below at state new not s h.caused)
      (turned_down_written old at state new h.written_off s)
