-- What an enrolment that is asked for does, by what it answers.
use Rattle.std.proofs.Common.{◌≡◌, ◌∙◌, ℕ, Bool, true, false, cond, List, slice_get, slice_set, Option, Some, None, option_map, Result, Ok, Err, refl, sym, ap, subst, inl, inr}
use Rattle.std.proofs.lemmas.Bool.{false≢true}
use Rattle.rina_agent.specs.declared.state.AgentError.{AgentError}
use Rattle.rina_agent.specs.declared.state.AgentError.TheVariants as agent
use Rattle.rina_agent.specs.Counts.{spent}
use Rattle.rina_base.specs.declared.number.Port.{Port}
use Rattle.rina_channel.specs.declared.channel.Attachment.{Attachment}
use Rattle.rina_data.specs.declared.process.IpcProcess.{IpcProcess}
use Rattle.rina_data.specs.declared.settings.Member.{Member}
use Rattle.rina_iface.specs.declared.ask.Ask.{Ask}
use Rattle.rina_iface.specs.declared.error.AllocateError.{AllocateError}
use Rattle.rina_iface.specs.declared.error.AllocateError.TheVariants as allocate
use Rattle.rina_iface.specs.Allocate.{Allocates}
use Rattle.rina_iface.specs.Seen.{Seen}
use Rattle.rina_law.specs.Direction.{Direction}
use Rattle.rina_member.specs.declared.management.Management.{Management}
use Rattle.rina_cube.specs.declared.Cube.{Cube}
use Rattle.rina_dif.specs.declared.connections.Connections.{Connections}
use Rattle.rina_dif.specs.declared.dif.Dif.{Dif}
use Rattle.rina_dif.specs.declared.enrol.EnrolError.{EnrolError}
use Rattle.rina_dif.specs.declared.enrol.EnrolError.TheVariants as errors
use Rattle.rina_dif.specs.Elsewhere.{home_of}
use Rattle.rina_dif.specs.Enrolling.{AllocatesBelow, AnswersAsk, EnrolsAs, IsJoining, IsLinkAsk, JoinsNot, JoinsOr, MayHaveAsked, ShowsStill, TellsRefusal, enrol_refusal, enrol_told, enrolling_on, first_of, is_full, joins_on, link_ask, marked, most_links, refused_among, refused_between, refused_joiner}
use Rattle.rina_dif.specs.Holding.{Holds}
use Rattle.rina_dif.specs.Shown.{seen_of}
use Rattle.rina_dif.proofs.Failing.{noted}
use Rattle.rina_dif.proofs.Settling.{unseen}

same_some : {X : Type 0} (o : Option X) (a b : X) → o ≡ Some a → o ≡ Some b → a ≡ b
same_some o a b h g = cc

-- The refusal

-- what the member alone knows refuses nothing for the rank below
never_by : (o : Option ℕ) (b : Bool) (s : Option AgentError) (x : AllocateError) → first_of (option_map (λ link. errors.Enrolling link) o) (first_of (cond b (Some (errors.LinksFull most_links)) None) (option_map enrol_told s)) ≡ Some (errors.Lower x) → ⊥
never_by (Some link) b s x is = absurd cc
never_by None true s x is = absurd cc
never_by None false None x is = absurd cc
never_by None false (Some agent.Memory) x is = absurd cc
never_by None false (Some (agent.CountSpent need left)) x is = absurd cc

never_lower : (p : IpcProcess) (m : Management) (x : AllocateError) → refused_joiner p m ≡ Some (errors.Lower x) → ⊥
never_lower p m x is = never_by (enrolling_on m.agent.links) (is_full p.links) (spent 1 m.agent.last_invoke) x is

-- by the places of the members
pub refusal_by : (d : Dif) (node peer i j : ℕ) (p : IpcProcess) (m : Management) → home_of d node ≡ Some i → home_of d peer ≡ Some j → slice_get d.processes i ≡ Some p → slice_get d.managements i ≡ Some m → enrol_refusal d node peer ≡ refused_joiner p m
refusal_by d node peer i j p m at_i at_j is_p is_m =
    let a : enrol_refusal d node peer ≡ refused_between d (Some i) (home_of d peer) = ap (λ (o : Option ℕ). refused_between d o (home_of d peer)) at_i in
    let b : refused_between d (Some i) (home_of d peer) ≡ refused_between d (Some i) (Some j) = ap (refused_between d (Some i)) at_j in
    let c : refused_between d (Some i) (Some j) ≡ refused_among (Some p) (slice_get d.managements i) = ap (λ (o : Option IpcProcess). refused_among o (slice_get d.managements i)) is_p in
    a ∙ b ∙ c ∙ ap (refused_among (Some p)) is_m

-- nothing is shown of it
pub shows_same : (d : Dif) → ShowsStill d d
shows_same d = record { shown = refl; managements = refl; only = refl }

-- it is refused before the rank below is asked
pub refused_enrols : (own : Ask → Option AllocateError) (d : Dif) (below : Seen) (node fac peer i j : ℕ) (p : IpcProcess) (m : Management) (e : EnrolError) → home_of d node ≡ Some i → home_of d peer ≡ Some j → slice_get d.processes i ≡ Some p → slice_get d.managements i ≡ Some m → TellsRefusal {T = ℕ × Management} (refused_joiner p m) (Err e) → EnrolsAs own d below node fac peer (Err e) d below
refused_enrols own d below node fac peer i j p m errors.Memory at_i at_j is_p is_m tells = (shows_same d, inl refl)
refused_enrols own d below node fac peer i j p m (errors.Lower x) at_i at_j is_p is_m tells = absurd (never_lower p m x tells)
refused_enrols own d below node fac peer i j p m errors.NoIpc at_i at_j is_p is_m tells = (refusal_by d node peer i j p m at_i at_j is_p is_m ∙ tells, refl, refl)
refused_enrols own d below node fac peer i j p m (errors.Enrolling link) at_i at_j is_p is_m tells = (refusal_by d node peer i j p m at_i at_j is_p is_m ∙ tells, refl, refl)
refused_enrols own d below node fac peer i j p m (errors.LinksFull most) at_i at_j is_p is_m tells = (refusal_by d node peer i j p m at_i at_j is_p is_m ∙ tells, refl, refl)
refused_enrols own d below node fac peer i j p m (errors.CountSpent need left) at_i at_j is_p is_m tells = (refusal_by d node peer i j p m at_i at_j is_p is_m ∙ tells, refl, refl)

pub refused_below : (same : Type 0) (asks : Ask → Result Port AllocateError → Type 0) (d : Dif) (node fac peer : ℕ) (p : IpcProcess) (m : Management) (e : EnrolError) → TellsRefusal {T = ℕ × Management} (refused_joiner p m) (Err e) → same → AllocatesBelow same asks d node fac peer (Err e)
refused_below same asks d node fac peer p m errors.Memory tells s = inl s
refused_below same asks d node fac peer p m (errors.Lower x) tells s = absurd (never_lower p m x tells)
refused_below same asks d node fac peer p m errors.NoIpc tells s = s
refused_below same asks d node fac peer p m (errors.Enrolling link) tells s = s
refused_below same asks d node fac peer p m (errors.LinksFull most) tells s = s
refused_below same asks d node fac peer p m (errors.CountSpent need left) tells s = s

-- the DIF holds on where nothing changed, be it one in which an allocation has failed
pub marked_holds : (d : Dif) (lines : List Direction) (below : Seen) (result : Result (Unit {0}) EnrolError) → d.failed ≡ false → Holds d lines below → Holds (marked result d) lines below
marked_holds d lines below (Ok done) alive h = h
marked_holds d lines below (Err errors.Memory) alive h = noted d lines below true alive h
marked_holds d lines below (Err errors.NoIpc) alive h = h
marked_holds d lines below (Err (errors.Enrolling link)) alive h = h
marked_holds d lines below (Err (errors.LinksFull most)) alive h = h
marked_holds d lines below (Err (errors.CountSpent need left)) alive h = h
marked_holds d lines below (Err (errors.Lower x)) alive h = h

-- The DIF shows what it showed
still : (d d' : Dif) (i : ℕ) (link : Attachment) (j : ℕ) (p : IpcProcess) → slice_get d.processes i ≡ Some p → JoinsNot d i j link d' → ShowsStill d d'
still d d' i link j p is x =
    let y = x.processes p is in
    let manage : d'.connections.manage ≡ d.connections.manage = elim x.connects [ inl same ↦ ap (λ (c : Connections). c.manage) same | inr made ↦ made.connects.manage_is ] in
    record {
      shown = ap seen_of x.only ∙ ap (λ (m : Cube). record (seen_of (record d { processes = d'.processes })) { manage = m }) manage ∙ unseen d i p y.0 d'.processes is y.1 y.3;
      managements = ap (λ (z : Dif). z.managements) x.only;
      only = x.only ∙ ap (λ (b : Bool). record d { processes = d'.processes; connections = d'.connections; failed = b }) (sym (ap (λ (z : Dif). z.failed) x.only));
    }

-- The rank below is asked

-- where it refuses, nothing changes there. `W` is what else is known of the answer
module _ (ask : Ask) (own : Ask → Option AllocateError) (below below' : Seen) (W : Result Port AllocateError → Type 0) where
  pub same_below : (e : EnrolError) → AnswersAsk (λ answer. Allocates (own ask) below ask answer below' × W answer) (Err e) → below' ≡ below
  same_below errors.Memory a = a.0
  same_below (errors.Lower allocate.Memory) a = absurd a
  same_below (errors.Lower allocate.NoMember) a = a.0.1
  same_below (errors.Lower allocate.NoCube) a = a.0.1
  same_below (errors.Lower allocate.NoSuchApp) a = a.0.1
  same_below (errors.Lower allocate.SameSystem) a = a.0.1
  same_below (errors.Lower (allocate.NoIds used)) a = a.0.1
  same_below (errors.Lower (allocate.NoRoute dst)) a = a.0.1
  same_below (errors.Lower (allocate.Busy port)) a = a.0.1
  same_below (errors.Lower (allocate.CountSpent need left)) a = a.0.1
  same_below errors.NoIpc a = absurd a
  same_below (errors.Enrolling link) a = absurd a
  same_below (errors.LinksFull most) a = absurd a
  same_below (errors.CountSpent need left) a = absurd a

module _ (d : Dif) (node fac peer i j : ℕ) (joiner member : Member) (at_i : home_of d node ≡ Some i) (at_j : home_of d peer ≡ Some j) (is_joiner : slice_get d.settings.members i ≡ Some joiner) (is_member : slice_get d.settings.members j ≡ Some member) (ask : Ask) (ask_is : ask ≡ link_ask d fac joiner member) where
  pub its_ask : IsLinkAsk d node fac peer ask
  its_ask = record { i = i; j = j; joiner = joiner; member = member; are = record { at_home = at_i; peer_home = at_j; is_joiner = is_joiner; is_member = is_member }; ask_is = ask_is }

  -- `W` is what else is known of the answer
  module _ (own : Ask → Option AllocateError) (below below' : Seen) (W : Result Port AllocateError → Type 0) (may : enrol_refusal d node peer ≡ None) where
    abbrev Answers : Result Port AllocateError → Type 0
    Answers answer = Allocates (own ask) below ask answer below' × W answer

    -- it refuses
    pub asked_refused : (e : EnrolError) → AnswersAsk Answers (Err e) → EnrolsAs own d below node fac peer (Err e) d below'
    asked_refused errors.Memory a = (shows_same d, inl a.0)
    asked_refused (errors.Lower allocate.Memory) a = a
    asked_refused (errors.Lower allocate.NoMember) a = record { may = may; asks = record { ask = ask; is_ask = its_ask; asked = a.0 }; same = refl; same_below = a.0.1 }
    asked_refused (errors.Lower allocate.NoCube) a = record { may = may; asks = record { ask = ask; is_ask = its_ask; asked = a.0 }; same = refl; same_below = a.0.1 }
    asked_refused (errors.Lower allocate.NoSuchApp) a = record { may = may; asks = record { ask = ask; is_ask = its_ask; asked = a.0 }; same = refl; same_below = a.0.1 }
    asked_refused (errors.Lower allocate.SameSystem) a = record { may = may; asks = record { ask = ask; is_ask = its_ask; asked = a.0 }; same = refl; same_below = a.0.1 }
    asked_refused (errors.Lower (allocate.NoIds used)) a = record { may = may; asks = record { ask = ask; is_ask = its_ask; asked = a.0 }; same = refl; same_below = a.0.1 }
    asked_refused (errors.Lower (allocate.NoRoute dst)) a = record { may = may; asks = record { ask = ask; is_ask = its_ask; asked = a.0 }; same = refl; same_below = a.0.1 }
    asked_refused (errors.Lower (allocate.Busy port)) a = record { may = may; asks = record { ask = ask; is_ask = its_ask; asked = a.0 }; same = refl; same_below = a.0.1 }
    asked_refused (errors.Lower (allocate.CountSpent need left)) a = record { may = may; asks = record { ask = ask; is_ask = its_ask; asked = a.0 }; same = refl; same_below = a.0.1 }
    asked_refused errors.NoIpc a = absurd a
    asked_refused (errors.Enrolling link) a = absurd a
    asked_refused (errors.LinksFull most) a = absurd a
    asked_refused (errors.CountSpent need left) a = absurd a

    -- it made the flow, which the DIF takes, or memory was not found then
    pub asked_enrols : (number : ℕ) (port : Port) (after : Management) (r : Result (Unit {0}) EnrolError) (d' : Dif) → Answers (Ok port) → IsJoining d i j (record { number = number; port = port }) after → JoinsOr d i j (record { number = number; port = port }) after r d' → EnrolsAs own d below node fac peer r d' below'
    asked_enrols number port after (Ok done) d' a joining x = record {
      may = may;
      port = port;
      asks = record { ask = ask; is_ask = its_ask; asked = a.0 };
      does = record {
        i = i;
        j = j;
        joiner = x.connects.joiner;
        member = x.connects.member;
        are = record { at_home = at_i; peer_home = at_j; is_joiner = x.connects.is_joiner; is_member = x.connects.is_member };
        number = number;
        links = x.links;
        connects = x.connects.connects;
        joins = record {
          management = joining.management;
          is_management = joining.is_management;
          are =
              let its : joining.member ≡ x.connects.member = same_some (slice_get d.settings.members j) joining.member x.connects.member joining.is_member x.connects.is_member in
              x.managements ∙ ap (slice_set d.managements i) (joining.after_is ∙ ap (joins_on joining.management number) its);
        };
        only = x.only;
      };
    }
    asked_enrols number port after (Err e) d' a joining x =
        let shows : (ShowsStill d d') × MayHaveAsked own d below node fac peer below' = (still d d' i (record { number = number; port = port }) j joining.process joining.is_process x.1, inr (port, record { ask = ask; is_ask = its_ask; asked = a.0 })) in
        subst (λ (z : EnrolError). EnrolsAs own d below node fac peer (Err z) d' below') (sym x.0) shows

  -- what is asked of the rank below, on the whole
  pub asked_below_err : (same : Type 0) (asks : Ask → Result Port AllocateError → Type 0) (e : EnrolError) → AnswersAsk (asks ask) (Err e) → AllocatesBelow same asks d node fac peer (Err e)
  asked_below_err same asks errors.Memory a = inr (ask, Err allocate.Memory, its_ask, a)
  asked_below_err same asks (errors.Lower allocate.Memory) a = absurd a
  asked_below_err same asks (errors.Lower allocate.NoMember) a = (ask, its_ask, a)
  asked_below_err same asks (errors.Lower allocate.NoCube) a = (ask, its_ask, a)
  asked_below_err same asks (errors.Lower allocate.NoSuchApp) a = (ask, its_ask, a)
  asked_below_err same asks (errors.Lower allocate.SameSystem) a = (ask, its_ask, a)
  asked_below_err same asks (errors.Lower (allocate.NoIds used)) a = (ask, its_ask, a)
  asked_below_err same asks (errors.Lower (allocate.NoRoute dst)) a = (ask, its_ask, a)
  asked_below_err same asks (errors.Lower (allocate.Busy port)) a = (ask, its_ask, a)
  asked_below_err same asks (errors.Lower (allocate.CountSpent need left)) a = (ask, its_ask, a)
  asked_below_err same asks errors.NoIpc a = absurd a
  asked_below_err same asks (errors.Enrolling link) a = absurd a
  asked_below_err same asks (errors.LinksFull most) a = absurd a
  asked_below_err same asks (errors.CountSpent need left) a = absurd a

  -- the flow was made
  pub asked_below_ok : (same : Type 0) (asks : Ask → Result Port AllocateError → Type 0) (link : Attachment) (after : Management) (r : Result (Unit {0}) EnrolError) (d' : Dif) → asks ask (Ok link.port) → JoinsOr d i j link after r d' → AllocatesBelow same asks d node fac peer r
  asked_below_ok same asks link after (Ok done) d' a x = (ask, link.port, its_ask, a)
  asked_below_ok same asks link after (Err e) d' a x = subst (λ (z : EnrolError). AllocatesBelow same asks d node fac peer (Err z)) (sym x.0) (inr (ask, Ok link.port, its_ask, a))

-- Whether an allocation has failed is noted

not_failed : (d' : Dif) → d'.failed ≡ false → record d' { failed = false } ≡ d'
not_failed d' alive = ap (λ (b : Bool). record d' { failed = b }) (sym alive)

module _ (d' : Dif) (r : Result (Unit {0}) EnrolError) (alive : d'.failed ≡ false) where
  pub noted_enrols : (own : Ask → Option AllocateError) (d : Dif) (below : Seen) (node fac peer : ℕ) (below' : Seen) (failed : Bool) → (failed ≡ true → r ≡ Err errors.Memory) → EnrolsAs own d below node fac peer r d' below' → EnrolsAs own d below node fac peer r (record d' { failed = failed }) below'
  noted_enrols own d below node fac peer below' false only e = subst (λ (z : Dif). EnrolsAs own d below node fac peer r z below') (sym (not_failed d' alive)) e
  noted_enrols own d below node fac peer below' true only e =
      let is = only refl in
      let x : ShowsStill d d' × MayHaveAsked own d below node fac peer below' = subst (λ (v : Result (Unit {0}) EnrolError). EnrolsAs own d below node fac peer v d' below') is e in
      subst (λ (v : Result (Unit {0}) EnrolError). EnrolsAs own d below node fac peer v (record d' { failed = true }) below') (sym is) (record { shown = x.0.shown; managements = x.0.managements; only = ap (λ (z : Dif). record z { failed = true }) x.0.only }, x.1)

unmarked : (d' : Dif) (r : Result (Unit {0}) EnrolError) → (r ≡ Err errors.Memory → ⊥) → marked r d' ≡ d'
unmarked d' (Ok done) not = refl
unmarked d' (Err errors.Memory) not = absurd (not refl)
unmarked d' (Err errors.NoIpc) not = refl
unmarked d' (Err (errors.Enrolling link)) not = refl
unmarked d' (Err (errors.LinksFull most)) not = refl
unmarked d' (Err (errors.CountSpent need left)) not = refl
unmarked d' (Err (errors.Lower x)) not = refl

pub noted_marked : (d' : Dif) (lines : List Direction) (below : Seen) (r : Result (Unit {0}) EnrolError) (failed : Bool) → d'.failed ≡ false → (failed ≡ true → r ≡ Err errors.Memory) → (r ≡ Err errors.Memory → failed ≡ true) → Holds (marked r d') lines below → Holds (record d' { failed = failed }) lines below
noted_marked d' lines below r false alive only every h = subst (λ (z : Dif). Holds z lines below) (unmarked d' r (λ is. false≢true (every is)) ∙ sym (not_failed d' alive)) h
noted_marked d' lines below r true alive only every h = subst (λ (v : Result (Unit {0}) EnrolError). Holds (marked v d') lines below) (only refl) h
