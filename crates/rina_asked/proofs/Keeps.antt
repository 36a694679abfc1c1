-- What keeps that the asker's end stands of each ask among the messages of a DIF.
use Rattle.std.proofs.Common.{refl, ◌≡◌, ◌∙◌, inl, inr, ⊎_elim, ℕ, false, List, sym, subst}
use Rattle.std.proofs.lemmas.Bool.{cases_Bool, true≢false}
use Rattle.rina_alloc.specs.declared.answer.FlowAnswer.TheVariants as answers
use Rattle.rina_alloc.specs.declared.message.FlowAsk.{FlowAsk}
use Rattle.rina_alloc.specs.declared.message.FlowMessage.{FlowMessage}
use Rattle.rina_alloc.specs.declared.message.FlowWord.TheVariants as words
use Rattle.rina_agent.specs.declared.message.ManagementMessage.{ManagementMessage}
use Rattle.rina_agent.specs.declared.message.Waiting.{Waiting}
use Rattle.rina_member.specs.Managements.{IsSduOf}
use Rattle.rina_dif.specs.declared.dif.Dif.{Dif}
use Rattle.rina_dif.specs.FarMaking.{HasFar, IsAskerOf}
use Rattle.rina_asked.specs.Ends.{HaveEnds, HasEnd}
use Rattle.rina_dif.specs.Facade.{NotesMemory}
use Rattle.rina_asked.specs.Calls.{Stays, YesesFind}
use Rattle.rina_asked.specs.Messages.{IsMessage, IsOnLink, IsOnWay}
use Rattle.rina_asked.proofs.Askers.{KeepAskers, asker_on}
use Rattle.rina_asked.proofs.Texts.{IsAskedFlow, IsAskedText, one_text}
use Rattle.rina_asked.proofs.Waiting.{Adds, HasWaiting}

-- what is on its way is asked
pub way_asked : (d : Dif) (text : List ℕ) → HaveEnds d → IsOnWay d text → IsAskedText d text
way_asked d text h way m is = h m (record { text = text; on_way = way; is = is })

-- and so is each message
pub asked_flow : (d : Dif) → HaveEnds d → (m : FlowMessage) → IsMessage d m → IsAskedFlow d m
asked_flow d h m is text spelled = subst (IsAskedText d) (one_text m is.text text is.is.spelled spelled) (way_asked d is.text h is.on_way)

pub text_on : (d d' : Dif) (text : List ℕ) → KeepAskers d d' → IsAskedText d text → IsAskedText d' text
text_on d d' text keeps asked m is = asker_on d d' m.to m.from m.word keeps (asked m is)

-- what begins to wait is such a message, and what begins to be on a link was on its way
pub asked_by : (New : ManagementMessage → Type 0) (d d' : Dif) → KeepAskers d d' → Adds New d.managements d'.managements → ((w : Waiting) (text : List ℕ) → HasWaiting d'.managements w → New w.message → IsSduOf w.message text → IsAskedText d' text) → ((text : List ℕ) → IsOnLink d' text → IsOnWay d text) → HaveEnds d → HaveEnds d'
asked_by New d d' keeps adds new links h m is = elim (is.on_way) [
  | inl w ↦ ⊎_elim
      (λ old. text_on d d' is.text keeps (way_asked d is.text h (inl (record { place = old.place; management = old.management; is_management = old.is_management; waiting = w.waiting; waits = old.waits; written = w.written }))) m is.is)
      (λ x. new w.waiting is.text (record { place = w.place; management = w.management; is_management = w.is_management; waits = w.waits }) x w.written m is.is)
      (adds.more w.waiting (record { place = w.place; management = w.management; is_management = w.is_management; waits = w.waits }))
  | inr l ↦ text_on d d' is.text keeps (way_asked d is.text h (links is.text l)) m is.is
]

-- Where memory was missing

pub alive : {T : Type 0} (d d' : Dif) (result missing : T) → NotesMemory d d' result missing → d'.failed ≡ false → (d.failed ≡ false) × (result ≡ missing → ⊥)
alive d d' result missing notes still = elim (cases_Bool d.failed) [
  | inl t ↦ absurd (true≢false (sym (notes.fails.1 (notes.failed t)) ∙ still))
  | inr f ↦ (f, λ same. true≢false (sym (notes.fails.1 same) ∙ still))
]

-- what a call keeps where none was missing
pub stays : (P : Dif → Type 0) {T : Type 0} (d d' : Dif) (result missing : T) → NotesMemory d d' result missing → ((result ≡ missing → ⊥) → P d → P d') → Stays P d d'
stays P d d' result missing notes keeps h still = (let a = alive d d' result missing notes still in keeps a.1 (h a.0))

-- What it is for

pub askers_found : (d : Dif) (m : FlowMessage) (invoke : ℕ) (ask : FlowAsk) → HaveEnds d → IsMessage d m → m.word ≡ words.Ask invoke ask → (HasFar d.flows.journal.ends ask.flow → ⊥) → (place : ℕ) × IsAskerOf d place m.to m.from ask
askers_found d m invoke ask h is word none =
    let has : HasEnd d m.to m.from (words.Ask invoke ask) = subst (HasEnd d m.to m.from) word (h m is) in
    (has.0, record { end = has.1.end; conn = has.1.conn; is_at = has.1.is_at; asks = has.1.asks; leads = has.1.leads; alone = none })

pub yeses_find : YesesFind
yeses_find d m invoke cep scep h is word =
    let has : HasEnd d m.to m.from (words.Answer invoke (answers.Yes cep scep)) = subst (HasEnd d m.to m.from) word (h m is) in
    let far = has.1 in
    (has.0, far.end.flow, record { end = far.end; conn = far.conn; is_at = far.is_at; is_far = far.is_far; same = refl; own_is = far.leads.asker; cep_is = far.leads.its_cep })
