-- A member asks to enrol: CONNECT waits there, and the ends of a new link are bare.
use Rattle.std.proofs.Common.{◌≡◌, ℕ, Option, Some, Result, Ok, Err, refl, sym, ap, subst}
use Rattle.rina_base.specs.declared.number.Port.{Port}
use Rattle.rina_iface.specs.declared.ask.Ask.{Ask}
use Rattle.rina_iface.specs.declared.ends.End.{End}
use Rattle.rina_iface.specs.declared.error.AllocateError.{AllocateError}
use Rattle.rina_iface.specs.declared.error.AllocateError.TheVariants as allocate
use Rattle.rina_iface.specs.Seen.{Seen}
use Rattle.rina_member.specs.Start.{node_of}
use Rattle.rina_dif.specs.declared.dif.Dif.{Dif}
use Rattle.rina_dif.specs.declared.enrol.EnrolError.{EnrolError}
use Rattle.rina_dif.specs.declared.enrol.EnrolError.TheVariants as enrol
use Rattle.rina_dif.specs.Enrolling.{EnrolsAs, EnrolsHere, joins_on}
use Rattle.rina_dif.specs.Flooding.{handled_at, offered_at}
use Rattle.rina_asked.specs.Calls.{EnrolKeeps}
use Rattle.rina_asked.proofs.Agendas.{joining_adds}
use Rattle.rina_asked.proofs.Askers.{askers_same}
use Rattle.rina_asked.proofs.Keeps.{alive}
use Rattle.rina_asked.proofs.Quiet.{IsQuiet, Lasts, LastsSame, ends_flows, lasts_same, quiet_by}
use Rattle.rina_asked.proofs.Links.{made_said, said_links}
use Rattle.rina_asked.proofs.Waiting.{Adds, IsOther, near_set}

pub enrols_quiet : (d : Dif) (node peer : ℕ) (port : Port) (d' : Dif) → EnrolsHere d node peer port d' → IsQuiet d d'
enrols_quiet d node peer port d' e =
    let c = e.connects in
    let j = e.joins in
    let adds : Adds IsOther d.managements d'.managements = subst (Adds IsOther d.managements) (sym j.are) (near_set d.managements e.i j.management (joins_on j.management e.number e.member) j.is_management (joining_adds j.management.agent e.number e.member.name (node_of e.member))) in
    let said = made_said d.connections.flows.journal.ends d'.connections.flows.journal.ends c.asker c.end c.ends_are
    (ap (λ (x : End). offered_at (Some x)) c.asker_is) (ap (λ (x : End). offered_at (Some x)) c.end_is) (ap (λ (x : End). handled_at (Some x)) c.asker_is) (ap (λ (x : End). handled_at (Some x)) c.end_is) in
    quiet_by d d' (askers_same d d' (ap (λ (z : Dif). z.flows) e.only)) (ends_flows d d' (ap (λ (z : Dif). z.flows) e.only)) adds (said_links d d' said)

pub same_kept : (P : Dif → Type 0) (d d' : Dif) → d' ≡ d → P d → P d'
same_kept P d d' same kept = subst P (sym same) kept

pub lower_kept : (P : Dif → Type 0) (e : AllocateError) (own : Ask → Option AllocateError) (d : Dif) (below : Seen) (node fac peer : ℕ) (d' : Dif) (below' : Seen) → EnrolsAs own d below node fac peer (Err (enrol.Lower e)) d' below' → P d → P d'
lower_kept P allocate.Memory own d below node fac peer d' below' s = absurd s
lower_kept P allocate.NoMember own d below node fac peer d' below' s = same_kept P d d' s.same
lower_kept P allocate.NoCube own d below node fac peer d' below' s = same_kept P d d' s.same
lower_kept P allocate.NoSuchApp own d below node fac peer d' below' s = same_kept P d d' s.same
lower_kept P allocate.SameSystem own d below node fac peer d' below' s = same_kept P d d' s.same
lower_kept P (allocate.NoIds used) own d below node fac peer d' below' s = same_kept P d d' s.same
lower_kept P (allocate.NoRoute dst) own d below node fac peer d' below' s = same_kept P d d' s.same
lower_kept P (allocate.Busy port) own d below node fac peer d' below' s = same_kept P d d' s.same
lower_kept P (allocate.CountSpent need left) own d below node fac peer d' below' s = same_kept P d d' s.same

by_enrol : (P : Dif → Type 0) → LastsSame P → (result : Result (Unit {0}) EnrolError) (own : Ask → Option AllocateError) (d : Dif) (below : Seen) (node fac peer : ℕ) (d' : Dif) (below' : Seen) → (result ≡ Err enrol.Memory → ⊥) → EnrolsAs own d below node fac peer result d' below' → P d → P d'
by_enrol P lasts (Ok done) own d below node fac peer d' below' some s = lasts d d' (enrols_quiet d node peer s.port d' s.does) (ap (λ (z : Dif). z.asks) s.does.only)
by_enrol P lasts (Err enrol.Memory) own d below node fac peer d' below' some s = absurd (some refl)
by_enrol P lasts (Err enrol.NoIpc) own d below node fac peer d' below' some s = same_kept P d d' s.1
by_enrol P lasts (Err (enrol.Enrolling link)) own d below node fac peer d' below' some s = same_kept P d d' s.1
by_enrol P lasts (Err (enrol.LinksFull most)) own d below node fac peer d' below' some s = same_kept P d d' s.1
by_enrol P lasts (Err (enrol.CountSpent need left)) own d below node fac peer d' below' some s = same_kept P d d' s.1
by_enrol P lasts (Err (enrol.Lower e)) own d below node fac peer d' below' some s = lower_kept P e own d below node fac peer d' below' s

pub enrol_keeps_same : (P : Dif → Type 0) → LastsSame P → EnrolKeeps P
enrol_keeps_same P lasts d d' below below' own node fac peer result does notes h still =
    let a = alive d d' result (Err enrol.Memory) notes still in
    by_enrol P lasts result own d below node fac peer d' below' a.1 (does a.0) (h a.0)

pub enrol_keeps : (P : Dif → Type 0) → Lasts P → EnrolKeeps P
enrol_keeps P lasts = enrol_keeps_same P (lasts_same P lasts)
