-- A member that is asked answers: by its grounds, and with the far end where it answers yes.
use Rattle.std.proofs.Common.{◌≡◌, ◌∙◌, ◌↔◌, ℕ, ◌+◌, ◌-◌, ◌*◌, ◌^◌, ◌<◌, ◌≤◌, Bool, true, false, IsTrue, List, length, slice_get, Option, Some, None, Result, Ok, Err, OnErr, OnOk, refl, sym, ap, subst, arith, inl, inr}
use Rattle.std.proofs.lemmas.Bool.{false≢true, leb-false}
use Rattle.std.proofs.lemmas.List.{length-map}
use Rattle.std.proofs.lemmas.Option.{same_Some}
use Rattle.std.proofs.Math.Pow.{le_ones, lt_of_le_ones}
use Rattle.std.specs.Prelude.{option_and_then}
use Rattle.rina_alloc.specs.declared.answer.FlowAnswer.{FlowAnswer}
use Rattle.rina_alloc.specs.declared.answer.FlowAnswer.TheVariants as answers
use Rattle.rina_alloc.specs.declared.asked.Asked.{Asked}
use Rattle.rina_alloc.specs.declared.event.AskDo.{AskDo}
use Rattle.rina_alloc.specs.declared.event.AskEvent.{AskEvent}
use Rattle.rina_alloc.specs.declared.event.AskEvent.TheVariants.{Ask}
use Rattle.rina_alloc.specs.declared.message.FlowAsk.{FlowAsk}
use Rattle.rina_alloc.specs.declared.message.FlowMessage.{FlowMessage}
use Rattle.rina_alloc.specs.declared.message.FlowWord.TheVariants as words
use Rattle.rina_alloc.specs.Machines.{answer_of, asked_does}
use Rattle.rina_alloc.specs.Words.{answer_at}
use Rattle.rina_base.specs.declared.memory.Memory.{Memory}
use Rattle.rina_cube.specs.declared.Cube.{Cube}
use Rattle.rina_cube.specs.Cubes.{delta_of}
use Rattle.rina_iface.specs.Seen.{Seen, is_registered}
use Rattle.rina_law.specs.Direction.{Direction}
use Rattle.rina_data.specs.declared.process.IpcProcess.{IpcProcess}
use Rattle.rina_data.specs.declared.settings.Member.{Member}
use Rattle.rina_data.specs.declared.settings.Settings.{Settings}
use Rattle.rina_data.specs.Process.{next_hop}
use Rattle.rina_data.proofs.Finding.{there}
use Rattle.rina_ids.specs.Ids.{free_id}
use Rattle.rina_ids.specs.Members.{CepIds}
use Rattle.rina_member.specs.declared.management.Management.{Management}
use Rattle.rina_data.specs.Configs.{cube_by, member_of}
use Rattle.rina_dif.specs.declared.dif.Dif.{Dif}
use Rattle.rina_dif.specs.declared.far_ends.Grounds.{Grounds}
use Rattle.rina_dif.specs.Allocating.{spent_ids}
use Rattle.rina_dif.specs.Elsewhere.{enrolled_home}
use Rattle.rina_dif.specs.FarMaking.{Accepts, AcceptsAt, AcceptsOr, AcceptsOrNot, Answers, AnswersBy, CanMakeFar, Decides, FindsJoinable, FitsNext, HandlesAsk, HasMadeFar, IsAskerOf, IsGrounds, MayAccept, MayHaveMade, SendsAnswer, answer_by, answer_told, is_aged_by, is_here_by, is_yes, next_cep, unless_spent}
use Rattle.rina_dif.specs.Freeing.{IsKept}
use Rattle.rina_dif.specs.Holding.{Holds}
use Rattle.rina_dif.specs.Posting.{message_of, posted, posts}
use Rattle.rina_dif.specs.Shown.{seen_of}
use Rattle.rina_dif.specs.Whole.{IsDif}
use Rattle.rina_dif.proofs.FarLooks.{told_none}

-- each member draws CEP-ids
pub at_ids : (d : Dif) → IsDif d → (at : ℕ) → at < length d.settings.members → at < length d.ids
at_ids d is at lt = let same = is.stands.1.numbered.drawn.aligned in omega (arith, lt, same, length-map d.settings.members member_of)

-- What an answer of yes tells of the grounds

pub record IsYes (here aged : Bool) (drawn : Option ℕ) (scep cep its : ℕ) : Type 0 where
  pub here_is : here ≡ true
  pub young : aged ≡ false
  pub drawn_is : drawn ≡ Some cep
  pub same : its ≡ scep

yes_by : (here aged : Bool) (denied drawn : Option ℕ) (used scep cep its : ℕ) → answer_told (answer_of here aged denied drawn used scep) ≡ Some (answers.Yes cep its) → IsYes here aged drawn scep cep its
unfolding answer_at
yes_by false aged denied drawn used scep cep its e = absurd cc
yes_by true true denied drawn used scep cep its e = absurd cc
yes_by true false (Some rule) drawn used scep cep its e = absurd cc
yes_by true false None None used scep cep its e = absurd cc
yes_by true false None (Some id) used scep cep its e =
    let id_is : id ≡ cep = cc in
    let scep_is : scep ≡ its = cc in
    record { here_is = refl; young = refl; drawn_is = ap (λ (n : ℕ). Some n) id_is; same = sym scep_is }

-- the cube of an ask that is for here
here_cube : (o : Option Cube) (registered : Bool) → is_here_by o registered ≡ true → (cube : Cube) × (o ≡ Some cube)
here_cube None registered e = absurd (false≢true e)
here_cube (Some cube) registered e = (cube, refl)

young_by : (o : Option Cube) (cube : Cube) (tick now : ℕ) → o ≡ Some cube → is_aged_by o tick now ≡ false → now < tick + 3 * delta_of cube
young_by o cube tick now is e = leb-false (tick + 3 * delta_of cube) now (ap (λ (z : Option Cube). is_aged_by z tick now) (sym is) ∙ e)

drawn_next : (spent next : Option ℕ) (cep : ℕ) → unless_spent spent next ≡ Some cep → (spent ≡ None) × (next ≡ Some cep)
drawn_next None next cep e = (refl, e)
drawn_next (Some used) next cep e = absurd cc

pub may_accept : (d : Dif) (at : ℕ) (ask : FlowAsk) (g : Grounds) (m : Member) (cep its : ℕ) → slice_get d.settings.members at ≡ Some m → enrolled_home d m.node ≡ Some at → IsGrounds d at m.node ask g → answer_by g ask.scep ≡ Some (answers.Yes cep its) → MayAccept d at ask (answers.Yes cep its)
may_accept d at ask g m cep its is enrolled grounds told =
    let told_yes = yes_by g.here g.aged g.denied g.drawn g.used ask.scep cep its told in
    let cube = here_cube (cube_by ask.cube d.settings.cubes) (is_registered d.names m.node ask.destination) (sym grounds.here ∙ told_yes.here_is) in
    let drawn = drawn_next (spent_ids d at m.node) (next_cep d at) cep (sym grounds.drawn ∙ told_yes.drawn_is) in
    record {
      member = m;
      stands = is;
      enrolled = enrolled;
      cube = cube.0;
      is_cube = cube.1;
      young = young_by (cube_by ask.cube d.settings.cubes) cube.0 ask.flow.tick d.clock cube.1 (sym grounds.aged ∙ told_yes.young);
      room = drawn.0;
      cep = cep;
      next = drawn.1;
      answer_is = ap (λ (n : ℕ). answers.Yes cep n) told_yes.same;
    }

-- The parts of its call

-- an answer is sent from the member's address
pub sent_ok : (d d' : Dif) (at from invoke own : ℕ) (answer : FlowAnswer) (r : Result (Unit {0}) Memory) → ((m : Member) → slice_get d.settings.members at ≡ Some m → own ≡ m.addr) → OnOk r (d' ≡ record d { managements = posts d at (message_of from own (words.Answer invoke answer)) d.managements }) → OnOk r (SendsAnswer d at from invoke answer d')
sent_ok d d' at from invoke own answer (Ok done) owns is = λ m here. is ∙ ap (λ (a : ℕ). record d { managements = posts d at (message_of from a (words.Answer invoke answer)) d.managements }) (owns m here)
sent_ok d d' at from invoke own answer (Err e) owns is = tt

-- the CEP-id that is drawn next fits, or none is
pub next_is : (d : Dif) (at : ℕ) (free : Option ℕ) → at < length d.ids → ((ids : CepIds) → slice_get d.ids at ≡ Some ids → free ≡ free_id ids.0 d.clock ids.1) → next_cep d at ≡ free
next_is d at free lt is = (let ids = there d.ids at lt in ap (option_and_then (λ (z : CepIds). free_id z.0 d.clock z.1)) ids.1 ∙ sym (is ids.0 ids.1))

pub fits_none : (d : Dif) (at : ℕ) → next_cep d at ≡ None → IsTrue true ↔ FitsNext d at
fits_none d at none = ((λ t cep is. absurd (let clash : None ≡ Some cep = sym none ∙ is in cc)), (λ f. refl))

pub fits_not : (d : Dif) (at cep most : ℕ) → next_cep d at ≡ Some cep → most ≡ 2 ^ (8 * d.settings.widths.cep) - 1 → most < cep → IsTrue false ↔ FitsNext d at
fits_not d at cep most is most_is more = told_none (FitsNext d at) (λ f. let le = le_ones (8 * d.settings.widths.cep) (f cep is) in omega (arith, le, most_is, more))

pub fits_so : (d : Dif) (at cep most : ℕ) → next_cep d at ≡ Some cep → most ≡ 2 ^ (8 * d.settings.widths.cep) - 1 → cep ≤ most → IsTrue true ↔ FitsNext d at
fits_so d at cep most is most_is le = ((λ t other next. (let same : cep ≡ other = same_Some cep other (sym is ∙ next) in subst (λ (n : ℕ). n < 2 ^ (8 * d.settings.widths.cep)) same (lt_of_le_ones (8 * d.settings.widths.cep) (subst (λ (n : ℕ). cep ≤ n) most_is le)))), (λ f. refl))

-- The far end, and the answer

-- an answer changes nothing that is seen
made_then : (d d1 : Dif) (ms : List Management) (lines : List Direction) (below : Seen) (at place from invoke own cep : ℕ) (ask : FlowAsk) (made : HasMadeFar d lines below at place d1) → made.member.addr ≡ own → IsAskerOf d place own from ask → next_cep d at ≡ Some cep → d1.processes ≡ d.processes → ms ≡ posts d1 at (message_of from own (words.Answer invoke (answers.Yes cep ask.scep))) d1.managements → Holds (record d1 { managements = ms }) made.lines' below
    → Accepts d lines below at own made.member.node from invoke ask (record d1 { managements = ms })
made_then d d1 ms lines below at place from invoke own cep ask made own_is asker next same are holds =
    let cep_is : cep ≡ made.makes.cep = same_Some cep made.makes.cep (sym next ∙ made.cep_is) in
    let to : ℕ → FlowMessage = λ c. message_of from own (words.Answer invoke (answers.Yes c ask.scep)) in
    record {
      place = place;
      asker = asker;
      lines' = made.lines';
      makes = made.makes;
      managed = are ∙ (λ i. posted at (option_and_then (λ (p : IpcProcess). next_hop from p.routes) (slice_get (same i) at)) (to (cep_is i)) (made.managed i));
      holds = holds;
    }

pub accepted : (d d1 d2 : Dif) (lines : List Direction) (below : Seen) (at place from invoke : ℕ) (ask : FlowAsk) (answer : FlowAnswer) (may : MayAccept d at ask answer) (r : Result (Unit {0}) Memory) → IsAskerOf d place may.member.addr from ask → HasMadeFar d lines below at place d1 → d1.processes ≡ d.processes → d1.settings ≡ d.settings → OnOk r (SendsAnswer d1 at from invoke answer d2) → OnErr r (d2 ≡ d1) → ((ls : List Direction) → Holds d1 ls below → Holds d2 ls below) → AcceptsOr d lines below at from invoke ask r d2
accepted d d1 d2 lines below at place from invoke ask answer may (Ok done) asker made same settings sent err stays =
    let member_is : may.member ≡ made.member = same_Some may.member made.member (sym may.stands ∙ made.stands) in
    let here : slice_get d1.settings.members at ≡ Some may.member = ap (λ (s : Settings). slice_get s.members at) settings ∙ may.stands in
    let is = sent may.member here ∙ ap (λ (a : FlowAnswer). record d1 { managements = posts d1 at (message_of from may.member.addr (words.Answer invoke a)) d1.managements }) may.answer_is in
    let ms = posts d1 at (message_of from may.member.addr (words.Answer invoke (answers.Yes may.cep ask.scep))) d1.managements in
    let holds : Holds (record d1 { managements = ms }) made.lines' below = subst (λ (z : Dif). Holds z made.lines' below) is (stays made.lines' made.holds) in
    let accepts = made_then d d1 ms lines below at place from invoke may.member.addr may.cep ask made (ap (λ (m : Member). m.addr) (sym member_is)) asker may.next same refl holds in
    subst (λ (z : Dif). AcceptsAt d lines below at from invoke ask z) (sym is) (record {
      member = may.member;
      stands = may.stands;
      does = inl (subst (λ (m : Member). Accepts d lines below at may.member.addr m.node from invoke ask (record d1 { managements = ms })) (sym member_is) accepts);
    })
accepted d d1 d2 lines below at place from invoke ask answer may (Err e) asker made same settings sent err stays =
    let member_is = same_Some may.member made.member (sym may.stands ∙ made.stands) in
    inr (subst (MayHaveMade d lines below at from ask) (sym err) (record { place = place; made = made; asker = subst (λ (m : Member). IsAskerOf d place m.addr from ask) member_is asker }))

-- The whole answer

-- each ask is answered
pub always_told : (here aged : Bool) (denied drawn : Option ℕ) (used scep : ℕ) → answer_told (answer_of here aged denied drawn used scep) ≡ None → ⊥
unfolding answer_at
always_told false aged denied drawn used scep e = cc
always_told true true denied drawn used scep e = cc
always_told true false (Some rule) drawn used scep e = cc
always_told true false None None used scep e = cc
always_told true false None (Some id) used scep e = cc

pub may_so : (d : Dif) (at : ℕ) (ask : FlowAsk) (g : Grounds) (m : Member) (answer : FlowAnswer) → is_yes answer ≡ true → slice_get d.settings.members at ≡ Some m → enrolled_home d m.node ≡ Some at → IsGrounds d at m.node ask g → answer_by g ask.scep ≡ Some answer → MayAccept d at ask answer
may_so d at ask g m (answers.Yes cep its) agrees is enrolled grounds told = may_accept d at ask g m cep its is enrolled grounds told
may_so d at ask g m (answers.Denied rule) agrees is enrolled grounds told = absurd (false≢true agrees)
may_so d at ask g m answers.NotHere agrees is enrolled grounds told = absurd (false≢true agrees)
may_so d at ask g m (answers.NoIds used) agrees is enrolled grounds told = absurd (false≢true agrees)

module _ (d d' : Dif) (lines : List Direction) (below : Seen) (at from invoke : ℕ) (ask : FlowAsk) (g : Grounds) (m : Member) (is : slice_get d.settings.members at ≡ Some m) (enrolled : enrolled_home d m.node ≡ Some at) (grounds : IsGrounds d at m.node ask g) where
  by_yes : (answer : FlowAnswer) → is_yes answer ≡ true → AcceptsOrNot d lines below at m.addr m.node from invoke ask d' → AnswersBy answer d lines below at m.addr m.node from invoke ask d'
  by_yes (answers.Yes cep its) agrees does = does
  by_yes (answers.Denied rule) agrees does = absurd (false≢true agrees)
  by_yes answers.NotHere agrees does = absurd (false≢true agrees)
  by_yes (answers.NoIds used) agrees does = absurd (false≢true agrees)

  by_no : (answer : FlowAnswer) → is_yes answer ≡ false → Answers d lines below at m.addr from invoke answer d' → AnswersBy answer d lines below at m.addr m.node from invoke ask d'
  by_no (answers.Yes cep its) denies does = absurd (false≢true (sym denies))
  by_no (answers.Denied rule) denies does = does
  by_no answers.NotHere denies does = does
  by_no (answers.NoIds used) denies does = does

  decides : (answer : FlowAnswer) → answer_by g ask.scep ≡ Some answer → Decides d at ask
  decides answer told = record { member = m; stands = is; enrolled = enrolled; grounds = g; are = grounds; answer = answer; told = told }

  pub handles_yes : (answer : FlowAnswer) (r : Result (Unit {0}) Memory) → is_yes answer ≡ true → answer_by g ask.scep ≡ Some answer → AcceptsOr d lines below at from invoke ask r d' → HandlesAsk d lines below at from invoke ask r d'
  unfolding decides
  handles_yes answer (Ok done) agrees told a =
      let same : a.member ≡ m = same_Some a.member m (sym a.stands ∙ is) in
      inl (record {
        decides = decides answer told;
        does = by_yes answer agrees (subst (λ (k : Member). AcceptsOrNot d lines below at k.addr k.node from invoke ask d') same a.does);
      })
  handles_yes answer (Err e) agrees told (inl kept) = inl kept
  handles_yes answer (Err e) agrees told (inr made) = inr (decides answer told, agrees, made)

  pub handles_no : (answer : FlowAnswer) (r : Result (Unit {0}) Memory) → is_yes answer ≡ false → answer_by g ask.scep ≡ Some answer → OnOk r (SendsAnswer d at from invoke answer d') → OnErr r (d' ≡ d) → Holds d lines below → Holds d' lines below → HandlesAsk d lines below at from invoke ask r d'
  unfolding decides
  handles_no answer (Ok done) denies told sent err old holds = inl (record {
    decides = decides answer told;
    does = by_no answer denies (record { only = sent m is; holds = holds });
  })
  handles_no answer (Err e) denies told sent err old holds = inl (record { same = ap seen_of err; holds = holds })

-- What the call of an answer of yes leaves

module _ (d : Dif) (at from : ℕ) (ask : FlowAsk) (answer : FlowAnswer) (may : MayAccept d at ask answer) (own : ℕ) (own_is : own ≡ may.member.addr) where
  -- the far end can not be made, which the asker is told
  pub told_not : (d' : Dif) (lines : List Direction) (below : Seen) (invoke : ℕ) (r : Result (Unit {0}) Memory) → FindsJoinable d at own from ask None → OnOk r (SendsAnswer d at from invoke answers.NotHere d') → OnErr r (d' ≡ d) → Holds d' lines below → AcceptsOr d lines below at from invoke ask r d'
  told_not d' lines below invoke (Ok done) none sent err holds = record {
    member = may.member;
    stands = may.stands;
    does = inr (subst (λ (a : ℕ). FindsJoinable d at a from ask None) own_is none, record { only = sent may.member may.stands; holds = holds });
  }
  told_not d' lines below invoke (Err e) none sent err holds = inl (record { same = ap seen_of err; holds = holds })

  pub its_asker : (place : ℕ) → IsAskerOf d place own from ask → IsAskerOf d place may.member.addr from ask
  its_asker place asker = subst (λ (a : ℕ). IsAskerOf d place a from ask) own_is asker

  pub can_make : (place : ℕ) → FindsJoinable d at own from ask (Some place) → CanMakeFar d at place from ask
  can_make place found = record {
    member = may.member;
    stands = may.stands;
    enrolled = may.enrolled;
    cube = may.cube;
    is_cube = may.is_cube;
    young = may.young;
    room = may.room;
    fits = found.1;
    asker = its_asker place found.0;
  }

pub accept_err : (d d1 : Dif) (lines : List Direction) (below : Seen) (at from invoke : ℕ) (ask : FlowAsk) (r : Result (Unit {0}) Memory) (e : Memory) → r ≡ Err e → IsKept d lines below d1 → AcceptsOr d lines below at from invoke ask r d1
accept_err d d1 lines below at from invoke ask r e is kept = subst (λ (z : Result (Unit {0}) Memory). AcceptsOr d lines below at from invoke ask z d1) (sym is) (inl kept)

pub handle_err : (d : Dif) (lines : List Direction) (below : Seen) (at from invoke : ℕ) (ask : FlowAsk) (r : Result (Unit {0}) Memory) (e : Memory) → r ≡ Err e → Holds d lines below → HandlesAsk d lines below at from invoke ask r d
handle_err d lines below at from invoke ask r e is h = subst (λ (z : Result (Unit {0}) Memory). HandlesAsk d lines below at from invoke ask z d) (sym is) (inl (record { same = refl; holds = h }))

-- what the machine of the far end tells is what the grounds say
pub told_by : (a : Asked) (event : AskEvent) (does : AskDo) (answer : Option FlowAnswer) (g : Grounds) (scep : ℕ) → event ≡ Ask g.here g.aged g.denied g.drawn g.used scep → does ≡ asked_does a event → answer ≡ answer_told does → answer_by g scep ≡ answer
told_by a event does answer g scep event_is does_is answer_is =
    sym (answer_is ∙ ap answer_told (does_is ∙ ap (asked_does a) event_is))

-- What changes

pub sent_whole : (d d1 : Dif) (at from invoke : ℕ) (answer : FlowAnswer) (r : Result (Unit {0}) Memory) → at < length d.settings.members → OnOk r (SendsAnswer d at from invoke answer d1) → OnErr r (d1 ≡ d) → d1 ≡ record d { managements = d1.managements }
sent_whole d d1 at from invoke answer (Ok t) lt ok err =
    let m = there d.settings.members at lt in
    let is = ok m.0 m.1 in
    is ∙ sym (ap (λ (z : Dif). record d { managements = z.managements }) is)
sent_whole d d1 at from invoke answer (Err e) lt ok err = err ∙ sym (ap (λ (z : Dif). record d { managements = z.managements }) err)

pub whole_after : (d d1 d2 : Dif) → d1 ≡ record d { flows = d1.flows; ids = d1.ids; waiting = d1.waiting; managements = d1.managements } → d2 ≡ record d1 { managements = d2.managements } → d2 ≡ record d { flows = d2.flows; ids = d2.ids; waiting = d2.waiting; managements = d2.managements }
whole_after d d1 d2 one two = two ∙ ap (λ (z : Dif). record z { managements = d2.managements }) one ∙ sym (ap (λ (z : Dif). record d { flows = z.flows; ids = z.ids; waiting = z.waiting; managements = d2.managements }) two)

pub whole_same : (d d1 : Dif) → d1 ≡ record d { managements = d1.managements } → d1 ≡ record d { flows = d1.flows; ids = d1.ids; waiting = d1.waiting; managements = d1.managements }
whole_same d d1 is = is ∙ sym (ap (λ (z : Dif). record d { flows = z.flows; ids = z.ids; waiting = z.waiting; managements = d1.managements }) is)

pub same_Ok : (a b : AskDo) (r : Result AskDo Memory) → r ≡ Ok b → r ≡ Ok a → a ≡ b
same_Ok a b r one two = let same : Ok a ≡ Ok b = sym two ∙ one in cc
