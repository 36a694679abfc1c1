-- An enrolment that is asked for leaves the other DIFs of the rank as they were, and the rank above sees nothing of it.
use Rattle.std.proofs.Common.{◌≡◌, ◌∙◌, ℕ, List, slice_get, Option, Some, option_map, Result, Ok, Err, refl, sym, ap, subst, inl, inr}
use Rattle.std.proofs.lemmas.Option.{slice_get-map}
use Rattle.rina_base.specs.declared.number.Port.{Port}
use Rattle.rina_data.specs.declared.settings.Member.{Member}
use Rattle.rina_data.specs.Configs.{config_of, member_of}
use Rattle.rina_dif_law.specs.Cloud.{IsMine}
use Rattle.rina_dif_law.specs.Upward.{IsSilent}
use Rattle.rina_dif_law.proofs.Keepers.{facility}
use Rattle.rina_dif_law.proofs.Upper.{silent_same}
use Rattle.rina_iface.specs.declared.ask.Ask.{Ask}
use Rattle.rina_iface.specs.declared.error.AllocateError.{AllocateError}
use Rattle.rina_iface.specs.declared.error.AllocateError.TheVariants as allocate
use Rattle.rina_iface.specs.Allocate.{Allocates}
use Rattle.rina_iface.specs.Journal.{AreKept}
use Rattle.rina_iface.specs.Later.{IsLater}
use Rattle.rina_iface.specs.Seen.{Seen}
use Rattle.rina_law.specs.Direction.{Direction}
use Rattle.rina_dif.specs.declared.dif.Dif.{Dif}
use Rattle.rina_dif.specs.declared.enrol.EnrolError.{EnrolError}
use Rattle.rina_dif.specs.declared.enrol.EnrolError.TheVariants as errors
use Rattle.rina_dif.specs.Enrolling.{AllocatesBelow, IsLinkAsk}
use Rattle.rina_dif.specs.Facade.{OthersStand}
use Rattle.rina_dif.specs.Holding.{Holds}
use Rattle.rina_dif.specs.Shown.{seen_of}
use Rattle.rina_dif.proofs.AskedBelow.{asked_others}
use Rattle.rina_dif.proofs.Beside.{IsStep}
use Rattle.rina_dif.proofs.Enrolled.{stay_same}

-- a member's application is one of the DIF's
member_mine : (d : Dif) (k : ℕ) (m : Member) → slice_get d.settings.members k ≡ Some m → IsMine (config_of d.settings).members m.name
member_mine d k m is = record { addr = m.addr; member = record { place = k; member = member_of m; stands = slice_get-map member_of d.settings.members k ∙ ap (option_map member_of) is; addr_is = refl; name_is = refl } }

same_stand : (d : Dif) (below below' : Seen) → below' ≡ below → OthersStand d below below'
same_stand d below below' is other lines apart h = subst (Holds other lines) (sym is) h

module _ (d : Dif) (below below' : Seen) (node fac peer : ℕ) (kept : AreKept below) (kept' : AreKept below') (later : IsLater below below') where
  others_by : (own : Option AllocateError) (ask : Ask) (answer : Result Port AllocateError) → IsLinkAsk d node fac peer ask → Allocates own below ask answer below' → OthersStand d below below'
  others_by own ask (Ok port) is a =
      let app = subst (λ (x : Ask). IsMine (config_of d.settings).members x.app) (sym is.ask_is) (member_mine d is.i is.joiner is.are.is_joiner) in
      let to = subst (λ (x : Ask). IsMine (config_of d.settings).members x.to) (sym is.ask_is) (member_mine d is.j is.member is.are.is_member) in
      asked_others d below below' ask port kept kept' later a.1 app to
  others_by own ask (Err allocate.Memory) is a = same_stand d below below' a
  others_by own ask (Err allocate.NoMember) is a = same_stand d below below' a.1
  others_by own ask (Err allocate.NoCube) is a = same_stand d below below' a.1
  others_by own ask (Err allocate.NoSuchApp) is a = same_stand d below below' a.1
  others_by own ask (Err allocate.SameSystem) is a = same_stand d below below' a.1
  others_by own ask (Err (allocate.NoIds used)) is a = same_stand d below below' a.1
  others_by own ask (Err (allocate.NoRoute dst)) is a = same_stand d below below' a.1
  others_by own ask (Err (allocate.Busy port)) is a = same_stand d below below' a.1
  others_by own ask (Err (allocate.CountSpent need left)) is a = same_stand d below below' a.1

  -- `W` is what else is known of the ask
  pub enrol_others : (X : Type 0) (own : Ask → Option AllocateError) (W : Ask → Result Port AllocateError → Type 0) (result : Result (Unit {0}) EnrolError) → (X → below' ≡ below) → AllocatesBelow X (λ ask answer. Allocates (own ask) below ask answer below' × W ask answer) d node fac peer result → OthersStand d below below'
  enrol_others X own W (Ok done) same (ask, port, is, asked) = others_by (own ask) ask (Ok port) is asked.0
  enrol_others X own W (Err (errors.Lower e)) same (ask, is, asked) = others_by (own ask) ask (Err e) is asked.0
  enrol_others X own W (Err errors.Memory) same (inl x) = same_stand d below below' (same x)
  enrol_others X own W (Err errors.Memory) same (inr (ask, answer, is, asked)) = others_by (own ask) ask answer is asked.0
  enrol_others X own W (Err errors.NoIpc) same x = same_stand d below below' (same x)
  enrol_others X own W (Err (errors.Enrolling link)) same x = same_stand d below below' (same x)
  enrol_others X own W (Err (errors.LinksFull most)) same x = same_stand d below below' (same x)
  enrol_others X own W (Err (errors.CountSpent need left)) same x = same_stand d below below' (same x)

-- a step that leaves the flows, the clock and the enrolled members
pub quiet_step : (d : Dif) (below : Seen) (d' : Dif) (lines : List Direction) (below' : Seen) → d' ≡ record d { processes = d'.processes; connections = d'.connections; managements = d'.managements; failed = d'.failed } → Holds d' lines below' → OthersStand d below below' → IsStep d below d' below'
quiet_step d below d' lines below' only h others =
    let silent : IsSilent (seen_of d) (seen_of d') = silent_same (seen_of d) (seen_of d') (ap (λ (z : Dif). (seen_of z).ends) only) (ap (λ (z : Dif). (seen_of z).config) only) (ap (λ (z : Dif). (seen_of z).clock) only) in
    record {
      goes_on = record { later = silent.later; facility = facility (seen_of d') lines below' h.standing; clock = ap (λ (z : Dif). z.clock) only; enrolled = stay_same d.enrolled d'.enrolled (ap (λ (z : Dif). z.enrolled) only) };
      silent = silent;
      others = others;
    }
