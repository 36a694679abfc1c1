-- Wires after they were asked for a flow that came in.
use Rattle.std.proofs.Common.{◌≡◌, ◌∙◌, ℕ, zero, suc, List, [], ◌∷◌, map, slice_get, slice_set, Option, Some, None, option_and_then, option_map, refl, sym, ap, subst, inl, inr}
use Rattle.std.proofs.lemmas.Option.{same_Some, slice_get-map}
use Rattle.rina_base.specs.declared.number.Port.{Port}
use Rattle.rina_iface.specs.Claim.{NoneWaits}
use Rattle.rina_iface.specs.Ends.{end_in}
use Rattle.rina_iface.specs.Seen.{Fac, oldest_in}
use Rattle.rina_iface.proofs.Changed.{slice_set-same}
use Rattle.rina_dif.specs.Lower.{ClaimsInTurn, FindsNone}
use Rattle.rina_tower.specs.declared.tower.Tower.{Tower, Wires, Rank'}
use Rattle.rina_tower.specs.Calls.{ClaimsAtTop}
use Rattle.rina_wire.specs.Air.{Air, Line, end_at, fac_of, put, seen_of, wire_at}
use Rattle.rina_wire.specs.Claim.{ClaimsOn, claimed, without}
use Rattle.rina_wire.proofs.Claims.{seen_claims}
use Rattle.rina_wire.proofs.Seen.{fac_at}
use Rattle.rina_laws.specs.Frames.{AreAsked}

-- ---- what is asked of wires

-- where none waits nothing changes
unchanged : (a : Air) (fac node : ℕ) (app : List ℕ) (o : Option Line) → wire_at a fac ≡ o → NoneWaits (option_map fac_of o) node app → claimed a fac node app ≡ a
unchanged a fac node app None is none = rw is refl
unchanged a fac node app (Some l) is none =
    let waits : oldest_in l.ends l.waiting node app ≡ None = none in
    rw (is, waits, slice_set-same a.wires fac l is) refl

none_claimed : (a : Air) (fac node : ℕ) (app : List ℕ) (b : Air) → ClaimsOn a fac node app None b → b ≡ a
none_claimed a fac node app b c =
    let seen : NoneWaits (slice_get (seen_of a).facs fac) node app = (seen_claims a fac node app None b c).0 in
    c.air ∙ unchanged a fac node app (wire_at a fac) refl (subst (λ (o : Option Fac). NoneWaits o node app) (fac_at a fac) seen)

-- a rank after its wires were asked
pub record AskedWires (a : Air) (u : Tower) : Type 0 where
  pub asked : Air
  pub asks : AreAsked a asked
  pub is : u ≡ Wires asked

found_none : (fac node : ℕ) (app : List ℕ) (a : Air) (u : Tower) → ClaimsAtTop fac node app None (Wires a) u → u ≡ Wires a
found_none fac node app a (Wires b) d = ap (λ (z : Air). Wires z) (none_claimed a fac node app b d)
found_none fac node app a (Rank' p difs below) d = absurd d

finds_none : (node : ℕ) (app : List ℕ) (n : ℕ) (a : Air) (u : Tower) → FindsNone (λ t fac answer t'. ClaimsAtTop fac node app answer t t') n (Wires a) u → u ≡ Wires a
finds_none node app zero a u d = d
finds_none node app (suc n) a u d = found_none n node app a u (subst (λ (z : Tower). ClaimsAtTop n node app None z u) (finds_none node app n a d.0 d.1) d.2)

found_one : (fac node : ℕ) (app : List ℕ) (port : Port) (a : Air) (u : Tower) → ClaimsAtTop fac node app (Some port) (Wires a) u → AskedWires a u
found_one fac node app port a (Wires b) d = record { asked = b; asks = inr (fac, node, app, port, d); is = refl }
found_one fac node app port a (Rank' p difs below) d = absurd d

pub asked_in_turn : (node : ℕ) (app : List ℕ) (answer : Option Port) (a : Air) (u : Tower) → ClaimsInTurn (λ t fac x t'. ClaimsAtTop fac node app x t t') (Wires a) answer u → AskedWires a u
asked_in_turn node app (Some port) a u d = found_one d.0 node app port a u (subst (λ (z : Tower). ClaimsAtTop d.0 node app (Some port) z u) (finds_none node app d.0 a d.1 d.2) d.3)
asked_in_turn node app None a u d = record { asked = a; asks = inl refl; is = finds_none node app d.0 a u d.1 }

-- what each claim keeps, they keep
pub asked_keep : (P : Air → Type 0) → ((a : Air) (wire node : ℕ) (app : List ℕ) (r : Option Port) (a' : Air) → P a → ClaimsOn a wire node app r a' → P a') → (a b : Air) → AreAsked a b → P a → P b
asked_keep P claims a b (inl same) h = subst P (sym same) h
asked_keep P claims a b (inr (wire, node, app, port, c)) h = claims a wire node app (Some port) b h c

-- ---- what stays of each wire

-- a wire but for who waits on it
abbrev unwaiting : Line → Line
unwaiting l = record l { waiting = [] }

set_same : (ws : List Line) (n : ℕ) (l l' : Line) → slice_get ws n ≡ Some l → unwaiting l' ≡ unwaiting l → map unwaiting (slice_set ws n l') ≡ map unwaiting ws
set_same [] n l l' at same = cc
set_same (w ∷ ws) zero l l' at same = ap (λ (x : Line). x ∷ map unwaiting ws) (same ∙ ap unwaiting (sym (same_Some w l at)))
set_same (w ∷ ws) (suc n) l l' at same = ap (λ (xs : List Line). unwaiting w ∷ xs) (set_same ws n l l' at same)

put_same : (ws : List Line) (n : ℕ) (change : Line → Line) (o : Option Line) → slice_get ws n ≡ o → ((l : Line) → unwaiting (change l) ≡ unwaiting l) → map unwaiting (put ws n (option_map change o)) ≡ map unwaiting ws
put_same ws n change None at same = refl
put_same ws n change (Some l) at same = set_same ws n l (change l) at (same l)

same_without : (l : Line) (o : Option ℕ) → unwaiting (without l o) ≡ unwaiting l
same_without l None = refl
same_without l (Some at) = refl

asked_wires : (a b : Air) → AreAsked a b → map unwaiting b.wires ≡ map unwaiting a.wires
asked_wires a b (inl same) = ap (λ (z : Air). map unwaiting z.wires) same
asked_wires a b (inr (wire, node, app, port, c)) =
    ap (λ (z : Air). map unwaiting z.wires) c.air ∙ put_same a.wires wire (λ (l : Line). without l (oldest_in l.ends l.waiting node app)) (wire_at a wire) refl (λ l. same_without l (oldest_in l.ends l.waiting node app))

asked_at : (a b : Air) → AreAsked a b → (fac : ℕ) → option_map unwaiting (wire_at b fac) ≡ option_map unwaiting (wire_at a fac)
asked_at a b asks fac = sym (slice_get-map unwaiting b.wires fac) ∙ ap (λ (ls : List Line). slice_get ls fac) (asked_wires a b asks) ∙ slice_get-map unwaiting a.wires fac

was_there : (o : Option Line) (l : Line) → option_map unwaiting (Some l) ≡ option_map unwaiting o → (was : Line) × (o ≡ Some was) × (unwaiting l ≡ unwaiting was)
was_there None l same = cc
was_there (Some was) l same = (was, refl, same_Some (unwaiting l) (unwaiting was) same)

-- the wire before
pub record WasLine (a : Air) (fac : ℕ) (l : Line) : Type 0 where
  pub line : Line
  pub wire : wire_at a fac ≡ Some line
  pub ends : l.ends ≡ line.ends
  pub flights : l.flights ≡ line.flights

pub asked_was : (a b : Air) → AreAsked a b → (fac : ℕ) (l : Line) → wire_at b fac ≡ Some l → WasLine a fac l
asked_was a b asks fac l is =
    let w = was_there (wire_at a fac) l (sym (ap (option_map unwaiting) is) ∙ asked_at a b asks fac) in
    record { line = w.0; wire = w.1; ends = ap (λ (z : Line). z.ends) w.2; flights = ap (λ (z : Line). z.flights) w.2 }

-- the end of a port, by what is but for who waits
end_unwaiting : (port : Port) (o : Option Line) → option_and_then (λ (l : Line). end_in port l.ends) (option_map unwaiting o) ≡ option_and_then (λ (l : Line). end_in port l.ends) o
end_unwaiting port None = refl
end_unwaiting port (Some l) = refl

pub asked_end : (a b : Air) → AreAsked a b → (port : Port) → end_at b port ≡ end_at a port
asked_end a b asks port =
    sym (end_unwaiting port (wire_at b port.fac)) ∙ ap (option_and_then (λ (l : Line). end_in port l.ends)) (asked_at a b asks port.fac) ∙ end_unwaiting port (wire_at a port.fac)
