-- The first item that is due at a node, and what it does.
use Rattle.std.proofs.Common.{◌≡◌, ◌∙◌, ℕ, ◌+◌, ◌<◌, ◌≤◌, ◌⊎◌, Bool, true, false, cond, leb, leb-true, leb-false, List, length, get_or, slice_get, slice_index_or, Option, Some, None, Result, Ok, Err, IsTrue, refl, sym, ap, subst, arith, inl, inr}
use Rattle.std.specs.Prelude.{◌↔◌}
use Rattle.std.proofs.lemmas.Bool.{cases_lt, false≢true}
use Rattle.std.proofs.lemmas.List.{get_or_default}
use Rattle.std.proofs.lemmas.Option.{slice_get_within}
use Rattle.rina_base.specs.declared.number.Num.{Num}
use Rattle.rina_iface.specs.Seen.{Seen}
use Rattle.rina_law.specs.Direction.{Direction}
use Rattle.rina_law.specs.Sender.{given_up}
use Rattle.rina_data.specs.declared.step.ClockStep.{ClockStep}
use Rattle.rina_data.specs.declared.step.ClockStep.TheVariants as step
use Rattle.rina_data.specs.declared.step.StepError.{StepError}
use Rattle.rina_data.specs.declared.step.StepError.TheVariants as why
use Rattle.rina_data.specs.declared.loss.Lost.{Lost}
use Rattle.rina_data.specs.Configs.{config_of}
use Rattle.rina_dif_law.specs.Ids.{Ids}
use Rattle.rina_dif_law.specs.Sending.{home}
use Rattle.rina_data.proofs.Finding.{there}
use Rattle.rina_flows.specs.declared.due.Item.{Item}
use Rattle.rina_flows.specs.declared.due.Item.TheVariants.{Ack, Again, GiveUp, Gone}
use Rattle.rina_flows.specs.Quiet.{IsBeside}
use Rattle.rina_flows.specs.Tied.{conns_of, ids_of, outward}
use Rattle.rina_flows.specs.Watching.{NoneDueBeside}
use Rattle.rina_flows.proofs.Framed.{ids_at}
use Rattle.rina_dif.specs.declared.clock_steps.Turn.{Turn}
use Rattle.rina_dif.specs.declared.dif.Dif.{Dif}
use Rattle.rina_dif.specs.Clocking.{FindsFirst, IsDueAt, IsIdle, IsIn, IsTurn, NoneLostAt, StepsFlowHere, StepsHere, earlier}
use Rattle.rina_dif.specs.Holding.{Holds}
use Rattle.rina_dif.specs.Shown.{seen_of}
use Rattle.rina_dif.specs.FlowEnds.{GaveFlowUp, GivesFlowUp, ManagesStep, TellsFar}
use Rattle.rina_dif.specs.Timely.{AcknowledgesAs, ForgetsAs, GivesUp, GivesUpAs, IsHomeEnd, SendsAgainAs}
use Rattle.rina_member.specs.declared.management.Management.{Management}
use Rattle.rina_dif.specs.Unlinking.{AnswersLoss, FindsLostAt, LosesAs}

same_some : {X : Type 0} (o : Option X) (a b : X) → o ≡ Some a → o ≡ Some b → a ≡ b
same_some o a b h g = cc

-- The end of the least CEP-id, of those at the places that were looked at

pub record IsFirstOf (item : Item) (d : Dif) (lines : List Direction) (node : ℕ) (Looked : ℕ → Type 0) (turn : Turn) : Type 0 where
  pub due : IsDueAt item d lines node turn.place
  pub ids : Ids
  pub are_ids : slice_get (conns_of d.flows.conns) turn.place ≡ Some ids
  pub cep_is : turn.cep ≡ ids.scep
  pub least : (other : ℕ) (its : Ids) → Looked other → IsDueAt item d lines node other → slice_get (conns_of d.flows.conns) other ≡ Some its → ids.scep ≤ its.scep

abbrev pub FindsOf : Item → Dif → List Direction → ℕ → (ℕ → Type 0) → Option Turn → Type 0
FindsOf item d lines node Looked None = (at : ℕ) → Looked at → IsDueAt item d lines node at → ⊥
FindsOf item d lines node Looked (Some turn) = IsFirstOf item d lines node Looked turn

abbrev pub FoundOf : Item → Dif → ℕ → (ℕ → Type 0) → Option Turn → Type 0
FoundOf item d node Looked first = (lines : List Direction) (below : Seen) → Holds d lines below → FindsOf item d lines node Looked first

-- the places before n
abbrev pub Before : ℕ → ℕ → Type 0
Before n at = at < n

abbrev pub Found : Item → Dif → ℕ → ℕ → Option Turn → Type 0
Found item d node n first = FoundOf item d node (Before n) first

-- the first n of these places
abbrev pub Among : List ℕ → ℕ → ℕ → Type 0
Among places n at = (k : ℕ) × (k < n) × (slice_index_or places k at ≡ at)

abbrev pub FoundAmong : Item → Dif → ℕ → List ℕ → ℕ → Option Turn → Type 0
FoundAmong item d node places n first = FoundOf item d node (Among places n) first

pub none_found : (item : Item) (d : Dif) (node : ℕ) → Found item d node 0 None
none_found item d node lines below h at lt due = absurd (omega (arith, lt))

pub none_among : (item : Item) (d : Dif) (node : ℕ) (places : List ℕ) → FoundAmong item d node places 0 None
none_among item d node places lines below h at (k, lt, is) due = absurd (omega (arith, lt))

-- one more place is looked at

the_ids : (d : Dif) (n : ℕ) (turn : Turn) → n < length d.flows.conns → IsIn d.flows.conns n turn → (ids : Ids) × (slice_get (conns_of d.flows.conns) n ≡ Some ids) × (turn.cep ≡ ids.scep)
the_ids d n turn lt here = (let k = there d.flows.conns n lt in (ids_of k.0, ids_at d.flows.conns n k.0 k.1, here.cep_is k.0 k.1))

before_or_at : (other n : ℕ) → other < n + 1 → (other < n) ⊎ (other ≡ n)
before_or_at other n lt = elim (cases_lt other n) [ inl l ↦ inl l | inr g ↦ inr (omega (arith, lt, g)) ]

-- the places that were looked at before this one, and this one
abbrev WithOne : (ℕ → Type 0) → (ℕ → Type 0) → ℕ → Type 0
WithOne Old New n = (other : ℕ) → New other → Old other ⊎ (other ≡ n)

lesser : (item : Item) (d : Dif) (lines : List Direction) (node n : ℕ) (Old New : ℕ → Type 0) (first turn : Turn) (b : Bool) → WithOne Old New n → leb first.cep turn.cep ≡ b → IsFirstOf item d lines node Old first → IsDueAt item d lines node n → n < length d.flows.conns → IsIn d.flows.conns n turn → IsFirstOf item d lines node New (cond b first turn)
lesser item d lines node n Old New first turn true one e f due lt here =
    let k = the_ids d n turn lt here in
    let le : first.cep ≤ turn.cep = leb-true first.cep turn.cep e in
    record {
      due = f.due;
      ids = f.ids;
      are_ids = f.are_ids;
      cep_is = f.cep_is;
      least = λ other its before is_due is. elim (one other before) [
        | inl l ↦ f.least other its l is_due is
        | inr same ↦
            (let its_is : its ≡ k.0 = same_some (slice_get (conns_of d.flows.conns) n) its k.0 (ap (slice_get (conns_of d.flows.conns)) (sym same) ∙ is) k.1 in
            let cep : its.scep ≡ k.0.scep = ap (λ (x : Ids). x.scep) its_is in
            let own = f.cep_is in
            let far = k.2 in
            omega (arith, le, cep, own, far))
      ];
    }
lesser item d lines node n Old New first turn false one e f due lt here =
    let k = the_ids d n turn lt here in
    let gt : turn.cep < first.cep = leb-false first.cep turn.cep e in
    record {
      due = subst (IsDueAt item d lines node) (sym here.place_is) due;
      ids = k.0;
      are_ids = ap (slice_get (conns_of d.flows.conns)) here.place_is ∙ k.1;
      cep_is = k.2;
      least = λ other its before is_due is. elim (one other before) [
        | inl l ↦
            (let least = f.least other its l is_due is in
            let own = f.cep_is in
            let far = k.2 in
            omega (arith, gt, least, own, far))
        | inr same ↦
            (let its_is : its ≡ k.0 = same_some (slice_get (conns_of d.flows.conns) n) its k.0 (ap (slice_get (conns_of d.flows.conns)) (sym same) ∙ is) k.1 in
            let cep : its.scep ≡ k.0.scep = ap (λ (x : Ids). x.scep) its_is in
            omega (arith, cep))
      ];
    }

found_with : (item : Item) (d : Dif) (lines : List Direction) (node n : ℕ) (Old New : ℕ → Type 0) (first : Option Turn) (turn : Turn) → WithOne Old New n → FindsOf item d lines node Old first → IsDueAt item d lines node n → n < length d.flows.conns → IsIn d.flows.conns n turn → FindsOf item d lines node New (Some (earlier first turn))
found_with item d lines node n Old New (Some first) turn one f due lt here = lesser item d lines node n Old New first turn (leb first.cep turn.cep) one refl f due lt here
found_with item d lines node n Old New None turn one f due lt here =
    let k = the_ids d n turn lt here in
    record {
      due = subst (IsDueAt item d lines node) (sym here.place_is) due;
      ids = k.0;
      are_ids = ap (slice_get (conns_of d.flows.conns)) here.place_is ∙ k.1;
      cep_is = k.2;
      least = λ other its before is_due is. elim (one other before) [
        | inl l ↦ absurd (f other l is_due)
        | inr same ↦
            (let its_is : its ≡ k.0 = same_some (slice_get (conns_of d.flows.conns) n) its k.0 (ap (slice_get (conns_of d.flows.conns)) (sym same) ∙ is) k.1 in
            let cep : its.scep ≡ k.0.scep = ap (λ (x : Ids). x.scep) its_is in
            omega (arith, cep))
      ];
    }

found_without : (item : Item) (d : Dif) (lines : List Direction) (node n : ℕ) (Old New : ℕ → Type 0) (first : Option Turn) → WithOne Old New n → FindsOf item d lines node Old first → (IsDueAt item d lines node n → ⊥) → FindsOf item d lines node New first
found_without item d lines node n Old New None one f none = λ at lt due. elim (one at lt) [ inl l ↦ f at l due | inr same ↦ none (subst (IsDueAt item d lines node) same due) ]
found_without item d lines node n Old New (Some turn) one f none = record {
  due = f.due;
  ids = f.ids;
  are_ids = f.are_ids;
  cep_is = f.cep_is;
  least = λ other its before is_due is. elim (one other before) [ inl l ↦ f.least other its l is_due is | inr same ↦ absurd (none (subst (IsDueAt item d lines node) same is_due)) ];
}

abbrev pub Tests : Item → Dif → ℕ → ℕ → Bool → Type 0
Tests item d node at r = (lines : List Direction) (below : Seen) → Holds d lines below → IsTrue r ↔ IsDueAt item d lines node at

pub found_here : (item : Item) (d : Dif) (node n : ℕ) (first : Option Turn) (turn : Turn) (r : Bool) → Found item d node n first → Tests item d node n r → r ≡ true → n < length d.flows.conns → IsIn d.flows.conns n turn → Found item d node (n + 1) (Some (earlier first turn))
found_here item d node n first turn r f tests meets lt here lines below h = found_with item d lines node n (Before n) (Before (n + 1)) first turn (λ other b. before_or_at other n b) (f lines below h) ((tests lines below h).0 meets) lt here

pub found_not_here : (item : Item) (d : Dif) (node n : ℕ) (first : Option Turn) (r : Bool) → Found item d node n first → Tests item d node n r → r ≡ false → Found item d node (n + 1) first
found_not_here item d node n first r f tests fails lines below h = found_without item d lines node n (Before n) (Before (n + 1)) first (λ other b. before_or_at other n b) (f lines below h) (λ due. false≢true (sym fails ∙ (tests lines below h).1 due))

-- the same, of the places of a list
among_or_at : (places : List ℕ) (n place : ℕ) → n < length places → place ≡ get_or places n 0 → WithOne (Among places n) (Among places (n + 1)) place
among_or_at places n place lt is other (k, before, same) = elim (before_or_at k n before) [
  | inl l ↦ inl (k, l, same)
  | inr e ↦
      (let there' : slice_index_or places n other ≡ other = subst (λ i. slice_index_or places i other ≡ other) e same in
      inr (sym there' ∙ get_or_default places n other 0 lt ∙ sym is))
]

pub among_here : (item : Item) (d : Dif) (node n place : ℕ) (places : List ℕ) (first : Option Turn) (turn : Turn) (r : Bool) → n < length places → place ≡ get_or places n 0 → FoundAmong item d node places n first → Tests item d node place r → r ≡ true → place < length d.flows.conns → IsIn d.flows.conns place turn → FoundAmong item d node places (n + 1) (Some (earlier first turn))
among_here item d node n place places first turn r inside is f tests meets lt here lines below h = found_with item d lines node place (Among places n) (Among places (n + 1)) first turn (among_or_at places n place inside is) (f lines below h) ((tests lines below h).0 meets) lt here

pub among_not_here : (item : Item) (d : Dif) (node n place : ℕ) (places : List ℕ) (first : Option Turn) (r : Bool) → n < length places → place ≡ get_or places n 0 → FoundAmong item d node places n first → Tests item d node place r → r ≡ false → FoundAmong item d node places (n + 1) first
among_not_here item d node n place places first r inside is f tests fails lines below h = found_without item d lines node place (Among places n) (Among places (n + 1)) first (among_or_at places n place inside is) (f lines below h) (λ due. false≢true (sym fails ∙ (tests lines below h).1 due))

-- all places were looked at

due_within : (item : Item) (d : Dif) (lines : List Direction) (below : Seen) (node at : ℕ) → Holds d lines below → IsDueAt item d lines node at → at < length d.flows.conns
due_within item d lines below node at h due =
    let lt = slice_get_within d.flows.journal.ends at due.here.end due.here.is_end in
    let same = h.tied.alike in
    omega (arith, lt, same)

-- a place that is out of range has no end
pub none_without : (item : Item) (d : Dif) (node at : ℕ) → length d.flows.conns ≤ at → Tests item d node at false
none_without item d node at le lines below h = (λ e. absurd (false≢true e), λ due. (let lt = due_within item d lines below node at h due in absurd (omega (arith, lt, le))))

pub found_all : (item : Item) (d : Dif) (node n : ℕ) (first : Option Turn) → length d.flows.conns ≤ n → Found item d node n first → (lines : List Direction) (below : Seen) → Holds d lines below → FindsFirst item d lines node first
found_all item d node n None le f lines below h = λ at due. (let lt = due_within item d lines below node at h due in f lines below h at (omega (arith, lt, le)) due)
found_all item d node n (Some turn) le f lines below h =
    let x = f lines below h in
    record {
      due = x.due;
      ids = x.ids;
      are_ids = x.are_ids;
      cep_is = x.cep_is;
      least = λ other its due is. (let lt = due_within item d lines below node other h due in x.least other its (omega (arith, lt, le)) due is);
    }

-- or all those beside which nothing is due
none_beside : (item : Item) (d : Dif) (lines : List Direction) (below : Seen) (node at : ℕ) (places : List ℕ) → NoneDueBeside d.clock places d.flows → Holds d lines below → IsBeside places at → IsDueAt item d lines node at → ⊥
none_beside item d lines below node at places none h beside due = false≢true ((none at beside item (config_of d.settings) lines due.here.end h.standing.journal h.tied due.here.is_end due.here.allocated).1 due.due)

pub among_all : (item : Item) (d : Dif) (node n : ℕ) (places : List ℕ) (first : Option Turn) → NoneDueBeside d.clock places d.flows → n ≡ length places → FoundAmong item d node places n first → (lines : List Direction) (below : Seen) → Holds d lines below → FindsFirst item d lines node first
among_all item d node n places None none all f lines below h = λ at due.
    none_beside item d lines below node at places none h (λ c. f lines below h at (c.0, subst (λ m. c.0 < m) (sym all) c.1, c.2) due) due
among_all item d node n places (Some turn) none all f lines below h =
    let x = f lines below h in
    record {
      due = x.due;
      ids = x.ids;
      are_ids = x.are_ids;
      cep_is = x.cep_is;
      least = λ other its due is. elim (cases_lt its.scep x.ids.scep) [
        | inl lt ↦ absurd (none_beside item d lines below node other places none h (λ c. (let le = x.least other its (c.0, subst (λ m. c.0 < m) (sym all) c.1, c.2) due is in absurd (omega (arith, lt, le)))) due)
        | inr ge ↦ ge
      ];
    }

-- Nothing is due

-- at the end of a place
abbrev pub IsQuietAt : Dif → ℕ → ℕ → Type 0
IsQuietAt d node at = (item : Item) (lines : List Direction) (below : Seen) → Holds d lines below → IsDueAt item d lines node at → ⊥

not_due : (item : Item) (d : Dif) (node at : ℕ) (told : Bool) → Tests item d node at told → told ≡ false → (lines : List Direction) (below : Seen) → Holds d lines below → IsDueAt item d lines node at → ⊥
not_due item d node at told tests fails lines below h due = false≢true (sym fails ∙ (tests lines below h).1 due)

-- a place that is out of range has none
pub quiet_without : (d : Dif) (node at : ℕ) → length d.flows.conns ≤ at → IsQuietAt d node at
quiet_without d node at le item lines below h due = not_due item d node at false (none_without item d node at le) refl lines below h due

-- each item was looked at
pub quiet_at : (d : Dif) (node at : ℕ) (a b c e : Bool) → Tests Gone d node at a → Tests GiveUp d node at b → Tests Ack d node at c → Tests Again d node at e → a ≡ false → b ≡ false → c ≡ false → e ≡ false → (item : Item) (lines : List Direction) (below : Seen) → Holds d lines below → IsDueAt item d lines node at → ⊥
quiet_at d node at a b c e ta tb tc te na nb nc ne Gone lines below h due = not_due Gone d node at a ta na lines below h due
quiet_at d node at a b c e ta tb tc te na nb nc ne GiveUp lines below h due = not_due GiveUp d node at b tb nb lines below h due
quiet_at d node at a b c e ta tb tc te na nb nc ne Ack lines below h due = not_due Ack d node at c tc nc lines below h due
quiet_at d node at a b c e ta tb tc te na nb nc ne Again lines below h due = not_due Again d node at e te ne lines below h due

-- at the first n of these places
abbrev pub QuietAmong : Dif → ℕ → List ℕ → ℕ → Type 0
QuietAmong d node places n = (item : Item) → FoundAmong item d node places n None

pub quiet_none : (d : Dif) (node : ℕ) (places : List ℕ) → QuietAmong d node places 0
quiet_none d node places item = none_among item d node places

pub quiet_next : (d : Dif) (node n place : ℕ) (places : List ℕ) → n < length places → place ≡ get_or places n 0 → QuietAmong d node places n → IsQuietAt d node place → QuietAmong d node places (n + 1)
quiet_next d node n place places inside is f quiet item = among_not_here item d node n place places None false inside is (f item) (λ lines below h. (λ e. absurd (false≢true e), λ due. absurd (quiet item lines below h due))) refl

-- The first item

pub then_again : (d : Dif) (lines : List Direction) (node : ℕ) (turn : Turn) → FindsFirst Gone d lines node None → FindsFirst GiveUp d lines node None → FindsFirst Ack d lines node None → FindsFirst Again d lines node (Some turn) → IsTurn Again d lines node turn.place turn.cep
then_again d lines node turn gone give_up ack f = record { before = (gone, give_up, ack); first = f }

pub idle : (d : Dif) (lines : List Direction) (node : ℕ) → FindsFirst Gone d lines node None → FindsFirst GiveUp d lines node None → FindsFirst Ack d lines node None → FindsFirst Again d lines node None → IsIdle d lines node
idle d lines node gone give_up ack again = record { gone = gone; give_up = give_up; ack = ack; again = again }

-- all places were looked at beside which nothing is due
pub quiet_all : (d : Dif) (node n : ℕ) (places : List ℕ) → NoneDueBeside d.clock places d.flows → n ≡ length places → QuietAmong d node places n → (lines : List Direction) (below : Seen) → Holds d lines below → IsIdle d lines node
quiet_all d node n places none all f lines below h = record {
  gone = among_all Gone d node n places None none all (f Gone) lines below h;
  give_up = among_all GiveUp d node n places None none all (f GiveUp) lines below h;
  ack = among_all Ack d node n places None none all (f Ack) lines below h;
  again = among_all Again d node n places None none all (f Again) lines below h;
}

-- What it does

-- the end is at home, of the IPC process at its node
pub turn_home : (item : Item) (d : Dif) (lines : List Direction) (node i at cep : ℕ) → home node (config_of d.settings).members ≡ Some i → IsTurn item d lines node at cep → IsHomeEnd d i at
turn_home item d lines node i at cep is turn = (let here = turn.first.due.here in record {
  end = here.end;
  is_end = here.is_end;
  allocated = here.allocated;
  at_home = ap (λ (n : ℕ). home n (config_of d.settings).members) here.node_is ∙ is;
})

-- the CEP-id is that of the connection there
cep_there : (item : Item) (d : Dif) (lines : List Direction) (node at cep : ℕ) (ids : Ids) → IsTurn item d lines node at cep → slice_get (conns_of d.flows.conns) at ≡ Some ids → cep ≡ ids.scep
cep_there item d lines node at cep ids turn is = turn.first.cep_is ∙ ap (λ (x : Ids). x.scep) (same_some (slice_get (conns_of d.flows.conns) at) turn.first.ids ids turn.first.are_ids is)

turn_with : (item : Item) (d : Dif) (lines : List Direction) (node at cep cep' : ℕ) → cep ≡ cep' → IsTurn item d lines node at cep → IsTurn item d lines node at cep'
turn_with item d lines node at cep cep' is turn = subst (IsTurn item d lines node at) is turn

pub does_gone : (d : Dif) (lines : List Direction) (below : Seen) (node at cep : ℕ) (b : Bool) (d' : Dif) → IsTurn Gone d lines node at cep → ForgetsAs d lines below at (Ok b) d' → StepsFlowHere d lines below node (Ok (step.Gone cep)) d'
does_gone d lines below node at cep true d' turn (f, told) = record { lines' = f.lines'; does = record { at = at; turn = turn; forgotten = f.forgotten }; holds = f.holds }
does_gone d lines below node at cep false d' turn (told, same) = (let due = turn.first.due.due in absurd (told due.conn due.is_conn due.gone))

pub does_give_up : (d : Dif) (lines : List Direction) (below : Seen) (node at cep : ℕ) (num : Num) (d' : Dif) → IsTurn GiveUp d lines node at cep → GivesUpAs d lines below at (Ok (Some num)) d' → StepsFlowHere d lines below node (Ok (step.GaveUp num)) d'
does_give_up d lines below node at cep num d' turn g =
    let cep_is : cep ≡ num.cep = cep_there GiveUp d lines node at cep g.given_up.ids turn g.given_up.ids_are ∙ sym g.cep in
    record { lines' = lines; does = record { at = at; turn = turn_with GiveUp d lines node at cep num.cep cep_is turn; given_up = g.given_up; lines_are = refl }; holds = g.holds }

some_none : {X : Type 0} (o : Option X) (x : X) → o ≡ Some x → o ≡ None → ⊥
some_none o x e f = absurd cc

pub never_kept : (d : Dif) (lines : List Direction) (below : Seen) (node at cep : ℕ) (d' : Dif) → IsTurn GiveUp d lines node at cep → GivesUpAs d lines below at (Ok None) d' → ⊥
never_kept d lines below node at cep d' turn (none, same) =
    let due = turn.first.due.due in
    some_none (given_up (outward (config_of d.settings) due.conn) due.line.line.clock due.line.line.sender) due.number due.is_due (none due.conn due.line due.is_conn due.is_line)

-- the far end was told, and the object of its flow is deleted
pub gave_up_managed : (d : Dif) (lines : List Direction) (below : Seen) (i at : ℕ) (num : Num) (d' : Dif) (new : List Management) → IsHomeEnd d i at → GivesUp d lines below at num d' → GivesFlowUp d i at new → GaveFlowUp d i num.cep new
gave_up_managed d lines below i at num d' new here g gives = record {
  place = at;
  end_of = record { end = here.end; is_end = here.is_end; at_home = here.at_home };
  gives = gives;
  cep_is = (let ids = same_some (slice_get (conns_of d.flows.conns) at) (ids_of gives.conn) g.given_up.ids (ids_at d.flows.conns at gives.conn gives.is_conn) g.given_up.ids_are in ap (λ (z : Ids). z.scep) ids ∙ sym g.cep);
}

-- or without memory the far end alone
pub told_managed : (d : Dif) (below : Seen) (i at node : ℕ) (s : Result ClockStep StepError) (e : StepError) (new : List Management) → IsHomeEnd d i at → (new ≡ d.managements) ⊎ TellsFar d i at new → e ≡ why.Memory → s ≡ Err e → ManagesStep s (Some i) d below node new
told_managed d below i at node s e new here told wants same =
    subst (λ (v : Result ClockStep StepError). ManagesStep v (Some i) d below node new) (sym (same ∙ ap (λ (z : StepError). Err z) wants)) (elim told [
      | inl none ↦ inl none
      | inr tells ↦ inr (record { place = at; end_of = record { end = here.end; is_end = here.is_end; at_home = here.at_home }; tells = tells })
    ])

pub does_ack : (d : Dif) (lines : List Direction) (below : Seen) (node at cep : ℕ) (b : Bool) (d' : Dif) → IsTurn Ack d lines node at cep → AcknowledgesAs d lines below at (Ok b) d' → StepsFlowHere d lines below node (Ok (step.Ack cep)) d'
does_ack d lines below node at cep true d' turn a = record { lines' = a.lines'; does = record { at = at; turn = turn; cause = a.cause; acknowledged = a.acknowledged }; holds = a.holds }
does_ack d lines below node at cep false d' turn (none, same) = absurd (none turn.first.due.due)

pub does_again : (d : Dif) (lines : List Direction) (below : Seen) (node at cep : ℕ) (num : Num) (d' : Dif) → IsTurn Again d lines node at cep → SendsAgainAs d lines below at (Ok (Some num)) d' → StepsFlowHere d lines below node (Ok (step.Again num)) d'
does_again d lines below node at cep num d' turn a =
    let cep_is : cep ≡ num.cep = cep_there Again d lines node at cep a.resent.ids turn a.resent.is_home.is_conn.ids_are ∙ sym a.cep in
    record { lines' = a.lines'; does = record { at = at; turn = turn_with Again d lines node at cep num.cep cep_is turn; cause = a.cause; resent = a.resent; number_is = a.seq }; holds = a.holds }

pub never_silent : (d : Dif) (lines : List Direction) (below : Seen) (node at cep : ℕ) (d' : Dif) → IsTurn Again d lines node at cep → SendsAgainAs d lines below at (Ok None) d' → ⊥
never_silent d lines below node at cep d' turn (none, same) = none turn.first.due.due

-- nothing is due
pub none_due : (d : Dif) (lines : List Direction) (below : Seen) (node : ℕ) → IsIdle d lines node → Holds d lines below → StepsFlowHere d lines below node (Ok step.Idle) d
none_due d lines below node idle h = record { lines' = lines; does = (idle, refl, refl); holds = h }

-- an allocation failed
pub steps_err : (d : Dif) (lines : List Direction) (below : Seen) (node : ℕ) (r : Result ClockStep StepError) (e : StepError) (d' : Dif) → e ≡ why.Memory → r ≡ Err e → (seen_of d' ≡ seen_of d) × Holds d' lines below → StepsFlowHere d lines below node r d'
steps_err d lines below node r e d' is err same = subst (λ (v : Result ClockStep StepError). StepsFlowHere d lines below node v d') (sym (err ∙ ap (λ (z : StepError). Err z) is)) same

-- A link comes before all of them

pub link_first : (d : Dif) (lines : List Direction) (below : Seen) (node i : ℕ) (lost : Lost) (d' : Dif) → home node (config_of d.settings).members ≡ Some i → LosesAs d lines below i node lost.number (Ok tt) d' → StepsHere d lines below node (Ok (step.LinkLost lost.number)) d' below
link_first d lines below node i lost d' here l = record { lines' = lines; does = (record { i = i; at_home = here; loses = l.0 }, refl, refl); holds = l.1 }

pub none_first : (d : Dif) (below : Seen) (node i : ℕ) → home node (config_of d.settings).members ≡ Some i → FindsLostAt d below i None → NoneLostAt d below node
none_first d below node i here none k p at_home is = (let same : k ≡ i = same_some (home node (config_of d.settings).members) k i at_home here in none p (ap (slice_get d.processes) (sym same) ∙ is))

-- a link is lost, and the member makes nothing of it: memory was not found, or no version count is left
pub loss_refused : (d : Dif) (lines : List Direction) (below : Seen) (node i : ℕ) (lost : Lost) (m : Management) (e : StepError) → home node (config_of d.settings).members ≡ Some i → FindsLostAt d below i (Some lost) → slice_get d.managements i ≡ Some m → AnswersLoss d.clock lost.number m (Err e) → Holds d lines below → StepsHere d lines below node (Err e) d below
loss_refused d lines below node i lost m why.Memory here finds is answers h = (refl, h, inl refl)
loss_refused d lines below node i lost m (why.CountSpent need left) here finds is answers h = (record { i = i; at_home = here; lacks = record { lost_link = lost; found = finds; management = m; is_management = is; told = answers } }, refl, h, refl)
loss_refused d lines below node i lost m why.NoIpc here finds is answers h = absurd answers
loss_refused d lines below node i lost m why.NoLink here finds is answers h = absurd answers

-- the management connections stay where only the flows are served
pub same_links : (d x : Dif) → x ≡ record d { processes = x.processes; flows = x.flows; ids = x.ids; managements = x.managements } → x.connections ≡ d.connections
same_links d x whole = ap (λ (z : Dif). z.connections) whole

-- nothing changed
pub same_holds : (d : Dif) (lines : List Direction) (below : Seen) (d' : Dif) → d' ≡ d → Holds d lines below → (seen_of d' ≡ seen_of d) × Holds d' lines below
same_holds d lines below d' is h = (ap seen_of is, subst (λ (z : Dif). Holds z lines below) (sym is) h)
