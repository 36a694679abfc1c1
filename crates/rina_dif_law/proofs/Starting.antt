-- A DIF before its first flow stands.
use Rattle.std.proofs.Common.{◌≡◌, ℕ, List, [], ◌∷◌, length, slice_get, Some, sym, ◌∙◌, ap, inl, inr}
use Rattle.std.proofs.lemmas.Option.{none-some}
use Rattle.rina_base.specs.declared.pdu.Pdu.{Pdu}
use Rattle.rina_iface.specs.declared.ends.End.{End}
use Rattle.rina_iface.specs.Seen.{Seen}
use Rattle.rina_law.specs.Direction.{Direction}
use Rattle.rina_dif_law.specs.Cloud.{Cloud, Everywhere}
use Rattle.rina_dif_law.specs.Dif.{DifSeen}
use Rattle.rina_dif_law.specs.Ids.{Ids}
use Rattle.rina_dif_law.specs.Standing.{IsOwn, IsStanding}
use Rattle.rina_dif_law.specs.Start.{IsStart}

none_in : {X : Type 0} (xs : List X) (i : ℕ) (x : X) → xs ≡ [] → slice_get xs i ≡ Some x → ⊥
none_in [] i x e h = cc
none_in (y ∷ ys) i x e h = cc

pub no_cloud : (d : DifSeen) (lines : List Direction) (below : Seen) (death : ℕ) (pdu : Pdu) → IsStart d lines below → Cloud Everywhere d.config d.processes below death pdu → ⊥
no_cloud d lines below death pdu s (inl q) = s.idle q.process q.link q.item q.waits
no_cloud d lines below death pdu s (inr w) = none_in w.end.sent w.at w.entry (s.silent w.port w.end w.here w.mine) w.is_entry

-- no end stands, and no direction
pub no_end : (ends : List End) (i : ℕ) (e : End) → ends ≡ [] → slice_get ends i ≡ Some e → ⊥
no_end ends i e none is = none_in ends i e none is

no_line : (lines : List Direction) (i : ℕ) (line : Direction) → lines ≡ [] → slice_get lines i ≡ Some line → ⊥
no_line lines i line none is = none_in lines i line none is

start_own : (d : DifSeen) (lines : List Direction) (below : Seen) → IsStart d lines below → IsOwn d.config d.clock (Cloud Everywhere d.config d.processes below) d.ids d.ends d.conns lines
start_own d lines below s =
    let E = λ (i : ℕ) (e : End) (is : slice_get d.ends i ≡ Some e). no_end d.ends i e s.no_ends is in
    let ends : length d.ends ≡ 0 = ap (λ (es : List End). length es) s.no_ends in
    let conns : length d.conns ≡ 0 = ap (λ (cs : List Ids). length cs) s.no_conns in
    let none : length lines ≡ 0 = ap (λ (ls : List Direction). length ls) s.no_lines in
    record {
      alike = conns ∙ sym ends;
      lines_alike = none ∙ sym ends;
      flows = [];
      places = [];
      entered = record {
        places_alike = sym ends;
        each = λ i e ids at x h. absurd (E i e x.end);
        once = λ i k x y h g f t. absurd (none-some x h);
        named = λ i k a b x y h g z w f. absurd (E i a h);
        apart = λ i k a b x y h g z w f. absurd (E i a h);
        all = λ n side flow point h is. absurd (none-some flow h);
      };
      ledger = record {
        flow = λ i f e. absurd (none-some f e);
        ids = λ i j f g t u a b e e' is is' same un un'. absurd (none-some f e);
        fours = λ i j f g u v e e' same. absurd (none-some f e);
        alive = λ death four comes alive. absurd (no_cloud d lines below death comes.pdu s comes.in_cloud);
      };
      rests = λ i e x flow h is stands. absurd (E i e h);
      kept = λ i member ids is_member are_ids k flow side point stands is there. absurd (none-some flow stands);
      ids = λ i e c x. absurd (E i e x.end);
      flows_are = λ i k a b x flow far line h g p z w f l. absurd (E i a h);
    }

pub start_stands : (d : DifSeen) (lines : List Direction) (below : Seen) → IsStart d lines below → IsStanding d lines below
start_stands d lines below s =
    let E = λ (i : ℕ) (e : End) (is : slice_get d.ends i ≡ Some e). no_end d.ends i e s.no_ends is in
    record {
      config = s.config;
      clock = s.clock;
      aligned = s.aligned;
      linked = s.linked;
      inside = s.inside;
      spelled = λ port e j x h mine is. absurd (none_in e.sent j x (s.silent port e h mine) is);
      items = λ i n item w. absurd (s.idle i n item w);
      journal = record {
        distinct = λ i k a b x y same role. absurd (E i a x);
        far = λ i e x role. absurd (E i e x);
        named = λ i k e other x y p. absurd (E i e x);
        allocated = λ i e x state. absurd (E i e x);
        met = λ i j e y x got. absurd (E i e x);
        whole = λ i e x. absurd (E i e x);
      };
      ports = record {
        own = λ i e x. absurd (E i e x);
        apart = λ i k a b x y same. absurd (E i a x);
        drawn = λ i e x. absurd (E i e x);
      };
      own = start_own d lines below s;
    }
