-- What a send and a pass of an application do to the views at all ranks.
use Rattle.std.proofs.Common.{◌≡◌, ◌∙◌, ◌==◌, ℕ, Bool, false, cond, List, [], ◌++◌, length, map, slice_get, Option, Some, None, IsSome, option_map, Ok, Err, refl, sym, ap, subst, arith, inl, inr}
use Rattle.std.proofs.lemmas.Bool.Decides.{eqb_tells}
use Rattle.std.proofs.lemmas.Option.{same_Some, slice_get_within}
use Rattle.rina_base.specs.declared.number.Num.{Num}
use Rattle.rina_base.specs.declared.number.Port.{Port}
use Rattle.rina_law.specs.declared.entry.Entry.{Entry}
use Rattle.rina_iface.specs.declared.ends.End.{End}
use Rattle.rina_iface.specs.declared.error.SendError.{SendError}
use Rattle.rina_iface.specs.declared.error.SendError.TheVariants as send
use Rattle.rina_iface.specs.Ends.{with_passed, with_sent}
use Rattle.rina_iface.specs.Pass.{IsPassed}
use Rattle.rina_iface.specs.Seen.{Fac, Seen, Stands, unpassed}
use Rattle.rina_iface.specs.Send.{IsSent, Sends}
use Rattle.rina_iface.proofs.Found.{end_of_stands, its_port}
use Rattle.rina_dif.specs.Facade.{own_refusal}
use Rattle.rina_dif.specs.declared.dif.Dif.{Dif}
use Rattle.rina_wire.specs.Air.{Air}
use Rattle.rina_wire.specs.Send.{own_send_refusal, passed}
use Rattle.rina_wire.proofs.Carried.{seen_passes, seen_sends}
use Rattle.rina_tower.specs.declared.applications.AppError.{AppError}
use Rattle.rina_tower.specs.declared.applications.AppError.TheVariants as apps
use Rattle.rina_tower.specs.declared.tower.Tower.{Tower, Rank', Wires}
use Rattle.rina_tower.specs.Applications.{Answers, AppPasses, AppSends, is_ipc_at, is_ipc_end}
use Rattle.rina_tower.specs.Bystanders.{is_ipc}
use Rattle.rina_tower.specs.Calls.{PassesAtTop, SendsAtTop}
use Rattle.rina_tower.specs.Ranks.{fac_of_dif, now_of, rank_of, seen_now, seen_of, seen_of_difs}
use Rattle.rina_tower.specs.Stands.{IsTower}
use Rattle.rina_tower.specs.Levels.{AtRank}
use Rattle.rina_laws.proofs.LabelCalls.{AllRest, RestsHere, call_rests, rests_nothing, served}
use Rattle.rina_laws.proofs.LabelEnds.{HavePorts}
use Rattle.rina_laws.proofs.LabelMoves.{Fits, IsView, MovesIn, at_port, moves_end, none, rest_moves}
use Rattle.rina_laws.proofs.LabelRanks.{AllPorts, AtAll, IsAlone, IsIdle, at_rank, at_top, facs_of, level, rank_clock, rank_kept, rank_now, shown}
use Rattle.rina_laws.proofs.LabelRests.{rest_same}
use Rattle.rina_laws.proofs.LabelTells.{AllMoves}

-- ---- at one rank of all

-- these at one port of one rank, and none at the others
abbrev pub at_spot : {X : Type 0} → ℕ → Port → List X → ℕ → Port → List X
at_spot r port xs k p = cond (k == r) (at_port port xs p) []

spot_here : {X : Type 0} (V : End → List X) (r : ℕ) (port : Port) (xs : List X) (fs fs' : List Fac) → MovesIn V (at_port port xs) fs fs' → MovesIn V (at_spot r port xs r) fs fs'
spot_here V r port xs fs fs' mv = elim (eqb_tells r r) [
  | inl t ↦ subst (λ (b : Bool). MovesIn V (λ p. cond b (at_port port xs p) []) fs fs') (sym t.0) mv
  | inr f ↦ absurd (f.1 refl)
]

spot_idle : {X : Type 0} (V : End → List X) (r : ℕ) (port : Port) (xs : List X) → IsView V → IsIdle (λ k. MovesIn V (at_spot r port xs k)) r
spot_idle V r port xs v k ne fs fs' is = elim (eqb_tells k r) [
  | inl t ↦ absurd (ne t.1)
  | inr f ↦ subst (λ (b : Bool). MovesIn V (λ p. cond b (at_port port xs p) []) fs fs') (sym f.0) (rest_moves V fs fs' v (rest_same fs fs' is))
]

-- only the own rank changed, and this was done there
pub record DoesHere (P : List Fac → List Fac → Type 0) (u u' : Tower) : Type 0 where
  pub below : IsAlone u u'
  pub done : P (facs_of u) (facs_of u')

pub call_at : (P : ℕ → List Fac → List Fac → Type 0) (r : ℕ) (does : Tower → Tower → Type 0) (none : Type 0) (t t' : Tower) → ((u u' : Tower) → rank_of t r ≡ Some u → does u u' → DoesHere (P r) u u') → IsIdle P r → AtRank r does none t t' → AtAll P (shown t) (shown t')
call_at P r does none t t' own idle d =
    let all = at_rank P r does none t t' (rank_of t r) refl (λ u u' is high w.
    let x = own u u' is w in
    record { level = level u u' x.below; all = at_top P u u' x.below (subst (λ k. P k (facs_of u) (facs_of u')) high x.done) (λ k ne. idle k (λ same. ne (same ∙ high))) }) idle d in
    all.all

-- ---- send

plain_end : (s : Seen) (port : Port) (f : Fac) (i : ℕ) (e : End) → Stands s port f i e → is_ipc_at s port ≡ false → is_ipc e.app ≡ false
plain_end s port f i e st h = sym (ap is_ipc_end (end_of_stands s port f i e st)) ∙ h

-- an SDU that was sent is behind the view of its end
abbrev pub ShowsSent : {X : Type 0} → (End → List X) → Entry → List X → Type 0
ShowsSent V x xs = (e : End) → is_ipc e.app ≡ false → V (with_sent e x) ≡ V e ++ xs

sent_in : {X : Type 0} (V : End → List X) (xs : List X) (s : Seen) (port : Port) (bytes : List ℕ) (num : Num) (s' : Seen) → HavePorts s.facs → is_ipc_at s port ≡ false → ShowsSent V (record { tick = s.now; num = num; bytes = bytes }) xs → IsSent s port bytes num s' → MovesIn V (at_port port xs) s.facs s'.facs
sent_in V xs s port bytes num s' ports plain view w =
    let x : Entry = record { tick = s.now; num = num; bytes = bytes } in
    let its = its_port s port w.facility w.place w.end w.stands in
    let app = plain_end s port w.facility w.place w.end w.stands plain in
    subst (MovesIn V (at_port port xs) s.facs) (sym (ap (λ (z : Seen). z.facs) w.new_is)) (moves_end V s.facs port w.facility w.place w.end (with_sent w.end x) xs ports w.stands.facility w.stands.is its refl refl (λ fits. (fits, view w.end app)))

dif_clock : (p : _) (difs : List Dif) (below : Tower) (n : ℕ) (d : Dif) → IsTower (Rank' p difs below) → slice_get difs n ≡ Some d → d.clock ≡ now_of below
dif_clock p difs below n d v at = (let s = v.0.standing.stand n d at in s.1.standing.clock ∙ seen_now below)

sends_here : {X : Type 0} (V : End → List X) (xs : List X) (port : Port) (bytes : List ℕ) (num : Num) (u u' : Tower) → IsTower u → HavePorts (facs_of u) → is_ipc_at (seen_of u) port ≡ false → ShowsSent V (record { tick = now_of u; num = num; bytes = bytes }) xs
    → SendsAtTop port bytes (Ok num) u u' → DoesHere (MovesIn V (at_port port xs)) u u'
sends_here V xs port bytes num (Wires a) (Wires a') v ports plain view w = record {
  below = tt;
  done = (let g = seen_sends a port bytes (Ok num) a' v w in sent_in V xs (seen_of (Wires a)) port bytes num (seen_of (Wires a')) ports plain view g.1);
}
sends_here V xs port bytes num (Rank' p difs below) (Rank' p' difs' below') v ports plain view w = record {
  below = w.1;
  done = elim w.0 [
    | inl h ↦
        let g = served (λ s s'. Sends (own_refusal h.dif port (length bytes)) s port bytes (Ok num) s') port.fac h.dif h.dif' difs difs' h.is_dif h.new_is h.done.serves in
        let clock = dif_clock p difs below port.fac h.dif v h.is_dif in
        sent_in V xs (seen_of_difs h.dif.clock difs) port bytes num (seen_of_difs h.dif.clock difs') ports plain (subst (λ (n : ℕ). ShowsSent V (record { tick = n; num = num; bytes = bytes }) xs) (sym clock) view) g.1
    | inr h ↦ (let no : Ok num ≡ Err (send.NotAllocated None) = h.1 in cc)
  ];
}
sends_here V xs port bytes num (Wires a) (Rank' p difs below) v ports plain view w = absurd w
sends_here V xs port bytes num (Rank' p difs below) (Wires a) v ports plain view w = absurd w

-- what is done at the rank of the port
abbrev SendsThere : Port → List ℕ → Num → Tower → Tower → Type 0
SendsThere port bytes num u u' = Answers (is_ipc_at (seen_of u) port) (λ x. SendsAtTop port bytes x u u') (u' ≡ u) (Ok num)

pub app_sends : {X : Type 0} (V : End → List X) (xs : List X) (r : ℕ) (port : Port) (bytes : List ℕ) (num : Num) (t t' : Tower) → IsTower t → AllPorts (shown t) → IsView V → ShowsSent V (record { tick = now_of t; num = num; bytes = bytes }) xs
    → AppSends r port bytes (Ok num) t t' → AllMoves V (at_spot r port xs) (shown t) (shown t')
app_sends V xs r port bytes num t t' v ports is_view view d = call_at (λ k. MovesIn V (at_spot r port xs k)) r (SendsThere port bytes num) _ t t' (λ u u' is w.
    let own = ports.of r (facs_of u) (ap (option_map facs_of) is) in
    let x = sends_here V xs port bytes num u u' (rank_kept t r u v is) own w.0 (subst (λ (n : ℕ). ShowsSent V (record { tick = n; num = num; bytes = bytes }) xs) (sym (rank_now t r u is)) view) w.1 in
    record { below = x.below; done = spot_here V r port xs (facs_of u) (facs_of u') x.done }) (spot_idle V r port xs is_view) d

sends_clock : (port : Port) (bytes : List ℕ) (num : Num) (u u' : Tower) → SendsAtTop port bytes (Ok num) u u' → now_of u' ≡ now_of u
sends_clock port bytes num (Wires a) (Wires a') w = ap (λ (x : Air). x.now) w.goes.air
sends_clock port bytes num (Rank' p difs below) (Rank' p' difs' below') w = ap now_of w.1
sends_clock port bytes num (Wires a) (Rank' p difs below) w = absurd w
sends_clock port bytes num (Rank' p difs below) (Wires a) w = absurd w

pub app_sends_clock : (r : ℕ) (port : Port) (bytes : List ℕ) (num : Num) (t t' : Tower) → AppSends r port bytes (Ok num) t t' → now_of t' ≡ now_of t
app_sends_clock r port bytes num t t' d = rank_clock r (SendsThere port bytes num) _ t t' (λ u u' w. sends_clock port bytes num u u' w.1) d

-- a send that is refused

refused_same : (own : Option SendError) (s : Seen) (port : Port) (bytes : List ℕ) (e : SendError) (s' : Seen) → Sends own s port bytes (Err e) s' → s' ≡ s
refused_same own s port bytes send.Memory s' g = g
refused_same own s port bytes (send.NotAllocated state) s' g = g.1
refused_same own s port bytes (send.Failed fail) s' g = g.1
refused_same own s port bytes (send.TooLong len max) s' g = g.1
refused_same own s port bytes (send.WindowShut n k) s' g = g.1
refused_same own s port bytes (send.NoRoute dst) s' g = g.1
refused_same own s port bytes (send.QueueFull n k) s' g = g.1
refused_same own s port bytes (send.NumbersSpent until) s' g = g.1

same_facs : (s s' : Seen) → s' ≡ s → s'.facs ≡ s.facs
same_facs s s' is = ap (λ (z : Seen). z.facs) is

rests_send : (port : Port) (bytes : List ℕ) (e : SendError) (u u' : Tower) → IsTower u → SendsAtTop port bytes (Err e) u u' → RestsHere u u'
rests_send port bytes e (Wires a) (Wires a') v w = record { below = tt; rests = rest_same (facs_of (Wires a)) (facs_of (Wires a')) (same_facs _ _ (refused_same (own_send_refusal a port) (seen_of (Wires a)) port bytes e (seen_of (Wires a')) (seen_sends a port bytes (Err e) a' v w))) }
rests_send port bytes e (Rank' p difs below) (Rank' p' difs' below') v w = record {
  below = w.1;
  rests = elim w.0 [
    | inl h ↦
        let g = served (λ s s'. Sends (own_refusal h.dif port (length bytes)) s port bytes (Err e) s') port.fac h.dif h.dif' difs difs' h.is_dif h.new_is h.done.serves in
        rest_same (map fac_of_dif difs) (map fac_of_dif difs') (same_facs (seen_of_difs h.dif.clock difs) (seen_of_difs h.dif.clock difs') (refused_same (own_refusal h.dif port (length bytes)) (seen_of_difs h.dif.clock difs) port bytes e (seen_of_difs h.dif.clock difs') g))
    | inr h ↦ rest_same (map fac_of_dif difs) (map fac_of_dif difs') (ap (map fac_of_dif) h.2)
  ];
}
rests_send port bytes e (Wires a) (Rank' p difs below) v w = absurd w
rests_send port bytes e (Rank' p difs below) (Wires a) v w = absurd w

answered_refusal : (ipc : Bool) (port : Port) (bytes : List ℕ) (e : AppError SendError) (u u' : Tower) → IsTower u → Answers ipc (λ x. SendsAtTop port bytes x u u') (u' ≡ u) (Err e) → RestsHere u u'
answered_refusal ipc port bytes (apps.Call e) u u' k w = rests_send port bytes e u u' k w.1
answered_refusal ipc port bytes apps.NotYours u u' k w = rests_nothing u u' w.1
answered_refusal ipc port bytes apps.NoRank u u' k w = absurd w

pub app_send_refused : (r : ℕ) (port : Port) (bytes : List ℕ) (e : AppError SendError) (t t' : Tower) → IsTower t → AppSends r port bytes (Err e) t t' → AllRest t t'
app_send_refused r port bytes e t t' v d = call_rests r _ _ t t' v (λ u u' k w. answered_refusal (is_ipc_at (seen_of u) port) port bytes e u u' k w) d

-- ---- pass

-- an entry that was passed is behind the view of its end
abbrev pub ShowsPassed : {X : Type 0} → (End → List X) → Entry → List X → Type 0
ShowsPassed V x xs = (e : End) → is_ipc e.app ≡ false → slice_get e.got e.taken ≡ Some x → V (with_passed e) ≡ V e ++ xs

passed_in : {X : Type 0} (V : End → List X) (xs : List X) (s : Seen) (port : Port) (x : Entry) (s' : Seen) → HavePorts s.facs → is_ipc_at s port ≡ false → unpassed s port ≡ Some x → ShowsPassed V x xs → IsPassed s port s' → MovesIn V (at_port port xs) s.facs s'.facs
passed_in V xs s port x s' ports plain waits view w =
    let its = its_port s port w.facility w.place w.end w.stands in
    let app = plain_end s port w.facility w.place w.end w.stands plain in
    let oldest : slice_get w.end.got w.end.taken ≡ Some x = rw (end_of_stands s port w.facility w.place w.end w.stands) at waits in
    let fits : Fits (with_passed w.end) = λ own. (let within = slice_get_within w.end.got w.end.taken x oldest in omega (arith, within)) in
    subst (MovesIn V (at_port port xs) s.facs) (sym (ap (λ (z : Seen). z.facs) w.new_is)) (moves_end V s.facs port w.facility w.place w.end (with_passed w.end) xs ports w.stands.facility w.stands.is its refl refl (λ was. (fits, view w.end app oldest)))

passes_here : {X : Type 0} (V : End → List X) (xs : List X) (port : Port) (x : Entry) (u u' : Tower) → HavePorts (facs_of u) → is_ipc_at (seen_of u) port ≡ false → unpassed (seen_of u) port ≡ Some x → ShowsPassed V x xs → PassesAtTop port u u' → DoesHere (MovesIn V (at_port port xs)) u u'
passes_here V xs port x (Wires a) (Wires a') ports plain waits view w = record {
  below = tt;
  done =
      let some : IsSome (unpassed (seen_of (Wires a)) port) = rw waits refl in
      subst (λ (b : Air). MovesIn V (at_port port xs) (facs_of (Wires a)) (facs_of (Wires b))) (sym w) (passed_in V xs (seen_of (Wires a)) port x (seen_of (Wires (passed a port))) ports plain waits view (seen_passes a port some));
}
passes_here V xs port x (Rank' p difs below) (Rank' p' difs' below') ports plain waits view w = record {
  below = w.1;
  done =
      let h = w.0 in
      passed_in V xs (seen_of_difs h.dif.clock difs) port x (seen_of_difs h.dif.clock difs') ports plain waits view (served (λ s s'. IsPassed s port s') port.fac h.dif h.dif' difs difs' h.is_dif h.new_is h.done.serves);
}
passes_here V xs port x (Wires a) (Rank' p difs below) ports plain waits view w = absurd w
passes_here V xs port x (Rank' p difs below) (Wires a) ports plain waits view w = absurd w

-- what waits at the port of a rank is an application's
pub record WaitsHere (t : Tower) (r : ℕ) (port : Port) (x : Entry) : Type 0 where
  pub rank : Tower
  pub is_rank : rank_of t r ≡ Some rank
  pub plain : is_ipc_at (seen_of rank) port ≡ false
  pub oldest : unpassed (seen_of rank) port ≡ Some x

pub app_passes : {X : Type 0} (V : End → List X) (xs : List X) (r : ℕ) (port : Port) (x : Entry) (t t' : Tower) → AllPorts (shown t) → IsView V → ShowsPassed V x xs → WaitsHere t r port x → AppPasses r port t t' → AllMoves V (at_spot r port xs) (shown t) (shown t')
app_passes V xs r port x t t' ports is_view view waits d = call_at (λ k. MovesIn V (at_spot r port xs k)) r _ _ t t' (λ u u' is w.
    let own = ports.of r (facs_of u) (ap (option_map facs_of) is) in
    let one : waits.rank ≡ u = same_Some waits.rank u (sym waits.is_rank ∙ is) in
    let done = passes_here V xs port x u u' own (subst (λ (z : Tower). is_ipc_at (seen_of z) port ≡ false) one waits.plain) (subst (λ (z : Tower). unpassed (seen_of z) port ≡ Some x) one waits.oldest) view w in
    record { below = done.below; done = spot_here V r port xs (facs_of u) (facs_of u') done.done }) (spot_idle V r port xs is_view) d
