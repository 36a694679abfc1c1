-- Wires stay sound where a fixed flow is made.
use Rattle.std.proofs.Common.{◌≡◌, ℕ, ◌+◌, Bool, true, false, [], ◌∷◌, All, length, length-append, Some, Result, Ok, Err, refl, sym, ◌∙◌, subst, arith}
use Rattle.std.proofs.lemmas.List.Elements.{All-weaker}
use Rattle.std.proofs.lemmas.Option.{same_Some}
use Rattle.rina_base.specs.declared.number.Port.{Port}
use Rattle.rina_iface.specs.declared.ask.Ask.{Ask}
use Rattle.rina_iface.specs.declared.ask.Fixed.{Fixed}
use Rattle.rina_iface.specs.declared.error.AllocateError.{AllocateError}
use Rattle.rina_iface.specs.declared.error.AllocateError.TheVariants.{Memory, NoMember, NoCube, NoSuchApp, SameSystem, NoIds, NoRoute, Busy, CountSpent}
use Rattle.rina_iface.specs.Bind.{CanBind, with_name_once}
use Rattle.rina_iface.specs.Seen.{is_member}
use Rattle.rina_wire.specs.Air.{Air, Line, seen_of, wire_at}
use Rattle.rina_wire.specs.Allocate.{flow_made, other_node}
use Rattle.rina_wire.specs.Bind.{BindsOn, bound_on}
use Rattle.rina_wire.specs.Sound.{IsFarPlace, IsSound, IsSoundLine, KeepsFlows}
use Rattle.rina_wire.proofs.Bound.{MayBind, may_bind, other_is}
use Rattle.rina_wire.proofs.Sound.{flows_of, keeps, like_refl, sound_failed, sound_on_wire}
use Rattle.rina_wire.proofs.SoundAllocate.{flow_kept, flow_stays}

-- the node is one of the two
abbrev is_at : Line → ℕ → Type 0
is_at l node = is_member (l.a ∷ l.b ∷ []) node ≡ true

-- the ask whose flow is the fixed one
abbrev ask_of : Fixed → Ask
ask_of fixed = record { fac = fixed.fac; node = fixed.a; app = fixed.a_app; to = fixed.b_app; want = record { ordered = false; reliable = false; within = 0; size = 0 } }

-- the wire with that flow, which nobody has to claim
abbrev claimed : ℕ → Fixed → Line → Line
claimed now fixed l = record (flow_made now (ask_of fixed) l) { waiting = l.waiting; names = with_name_once l.names fixed.b fixed.b_app }

bound_is : (now : ℕ) (fixed : Fixed) (l : Line) → other_node l fixed.a ≡ fixed.b → bound_on now fixed l ≡ claimed now fixed l
bound_is now fixed l other = rw other refl

bound_stays : (now : ℕ) (fixed : Fixed) (l : Line) (a : Air) → (m : MayBind a fixed) → m.line ≡ l → IsSoundLine l → IsSoundLine (bound_on now fixed l)
bound_stays now fixed l a m same s =
    let a_in = subst (λ (k : Line). is_at k fixed.a) same m.a_in in
    let other = subst (λ (k : Line). other_node k fixed.a ≡ fixed.b) same (other_is m.line fixed.a fixed.b m.a_in m.b_in m.apart) in
    let made = flow_made now (ask_of fixed) l in
    subst IsSoundLine (sym (bound_is now fixed l other)) (keeps made made.ends l.waiting (with_name_once l.names fixed.b fixed.b_app) made.flights (flow_stays l now (ask_of fixed) s a_in) (like_refl made.ends))

bound_flows : (now : ℕ) (failed : Bool) (fixed : Fixed) (l : Line) (a : Air) → (m : MayBind a fixed) → m.line ≡ l → IsSoundLine l → KeepsFlows now failed fixed.fac l → KeepsFlows now failed fixed.fac (bound_on now fixed l)
bound_flows now failed fixed l a m same s k =
    let a_in = subst (λ (n : Line). is_at n fixed.a) same m.a_in in
    let other = subst (λ (n : Line). other_node n fixed.a ≡ fixed.b) same (other_is m.line fixed.a fixed.b m.a_in m.b_in m.apart) in
    let made = flow_made now (ask_of fixed) l in
    let kept = flow_kept now failed l (ask_of fixed) s a_in k in
    let size : length made.ends ≡ length l.ends + 2 = length-append l.ends _ ∙ omega arith in
    let far : All (IsFarPlace (length made.ends)) l.waiting = All-weaker (IsFarPlace (length l.ends)) (IsFarPlace (length made.ends)) (λ n w. (w.0, omega (arith, w.1, size))) l.waiting k.waiting in
    subst (KeepsFlows now failed fixed.fac) (sym (bound_is now fixed l other)) (flows_of now failed fixed.fac made l.waiting (with_name_once l.names fixed.b fixed.b_app) kept far)

pub sound_binds : (a : Air) (fixed : Fixed) (r : Result (Port × Port) AllocateError) (a' : Air) → IsSound a → CanBind (seen_of a) fixed → BindsOn a fixed r a' → IsSound a'
sound_binds a fixed (Ok ports) a' s c g =
    let m = may_bind a fixed s c in
    let same = λ (l : Line) (h : wire_at a fixed.fac ≡ Some l). same_Some m.line l (sym m.wire ∙ h) in
    subst IsSound (sym g.air) (sound_on_wire a fixed.fac (bound_on a.now fixed) s (λ l h k. bound_stays a.now fixed l a m (same l h) k) (λ l h line k. bound_flows a.now a.failed fixed l a m (same l h) line k))
sound_binds a fixed (Err Memory) a' s c g = subst IsSound (sym g) (sound_failed a s)
sound_binds a fixed (Err NoMember) a' s c g = absurd g
sound_binds a fixed (Err NoCube) a' s c g = absurd g
sound_binds a fixed (Err NoSuchApp) a' s c g = absurd g
sound_binds a fixed (Err SameSystem) a' s c g = absurd g
sound_binds a fixed (Err (NoIds used)) a' s c g = absurd g
sound_binds a fixed (Err (NoRoute dst)) a' s c g = absurd g
sound_binds a fixed (Err (Busy port)) a' s c g = absurd g
sound_binds a fixed (Err (CountSpent n k)) a' s c g = absurd g
