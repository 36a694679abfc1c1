-- An end keeps its name, its applications and its cube, and its connection the addresses and its own CEP-id.
use Rattle.std.proofs.Common.{◌≡◌, ◌∙◌, ℕ, List, ◌++◌, slice_get, slice_set, Some, refl, sym, ap, subst, inl, inr}
use Rattle.std.proofs.lemmas.Bool.Decides.{eqb_tells}
use Rattle.rina_alloc.specs.declared.answer.FlowAnswer.TheVariants as answers
use Rattle.rina_alloc.specs.declared.message.FlowAsk.{FlowAsk}
use Rattle.rina_alloc.specs.declared.message.FlowWord.{FlowWord}
use Rattle.rina_alloc.specs.declared.message.FlowWord.TheVariants as words
use Rattle.rina_dif_law.specs.Dif.{DifSeen}
use Rattle.rina_dif_law.specs.Ids.{Ids}
use Rattle.rina_conn.specs.declared.conn.Conn.{Conn}
use Rattle.rina_flows.specs.Tied.{IsAt, conns_of, ids_of}
use Rattle.rina_iface.specs.declared.ends.End.{End}
use Rattle.rina_flows.specs.declared.flows.Flows.{Flows}
use Rattle.rina_flows.proofs.Framed.{ids_at}
use Rattle.rina_iface.specs.Later.{AreLater}
use Rattle.rina_iface.proofs.Changed.{slice_get-set_other, slice_get-set_same}
use Rattle.rina_iface.proofs.Grown.{still_at}
use Rattle.rina_dif.specs.declared.dif.Dif.{Dif}
use Rattle.rina_dif.specs.Facade.{GoesOn}
use Rattle.rina_dif.specs.Shown.{seen_of}
use Rattle.rina_dif.proofs.Bare.{map_at}
use Rattle.rina_asked.specs.Ends.{HasEnd, IsAskersEnd, IsFarEnd}

-- Connections

pub record SameNames (c c' : Ids) : Type 0 where
  pub own : c'.own ≡ c.own
  pub far : c'.far ≡ c.far
  pub scep : c'.scep ≡ c.scep

-- each keeps them
abbrev pub KeepNames : List Ids → List Ids → Type 0
KeepNames ids ids' = (k : ℕ) (c : Ids) → slice_get ids k ≡ Some c → (c' : Ids) × (slice_get ids' k ≡ Some c') × SameNames c c'

pub names_same : (ids ids' : List Ids) → ids' ≡ ids → KeepNames ids ids'
names_same ids ids' same k c is = (c, ap (λ (z : List Ids). slice_get z k) same ∙ is, record { own = refl; far = refl; scep = refl })

pub names_more : (ids ids' more : List Ids) → ids' ≡ ids ++ more → KeepNames ids ids'
names_more ids ids' more same k c is = (c, ap (λ (z : List Ids). slice_get z k) same ∙ still_at ids more k c is, record { own = refl; far = refl; scep = refl })

set_names : (ids : List Ids) (at : ℕ) (x x' : Ids) → slice_get ids at ≡ Some x → SameNames x x' → KeepNames ids (slice_set ids at x')
set_names ids at x x' there names k c is = elim (eqb_tells k at) [
  | inl t ↦
      (let old : c ≡ x = same_some (slice_get ids k) c x is (ap (slice_get ids) t.1 ∙ there) in
      (x', ap (slice_get (slice_set ids at x')) t.1 ∙ slice_get-set_same ids at x x' there, subst (λ (z : Ids). SameNames z x') (sym old) names))
  | inr u ↦ (c, slice_get-set_other ids at k x' u.1 ∙ is, record { own = refl; far = refl; scep = refl })
]
  where
    same_some : (o : _) (a b : Ids) → o ≡ Some a → o ≡ Some b → a ≡ b
    same_some o a b h g = cc

pub names_set : (ids ids' : List Ids) (at : ℕ) (x x' : Ids) → slice_get ids at ≡ Some x → SameNames x x' → ids' ≡ slice_set ids at x' → KeepNames ids ids'
names_set ids ids' at x x' there names same = subst (KeepNames ids) (sym same) (set_names ids at x x' there names)

pub names_on : (a b c : List Ids) → KeepNames a b → KeepNames b c → KeepNames a c
names_on a b c f g k x is =
    let y = f k x is in
    let z = g k y.0 y.1 in
    (z.0, z.1, record { own = z.2.own ∙ y.2.own; far = z.2.far ∙ y.2.far; scep = z.2.scep ∙ y.2.scep })

-- Askers

-- an end stands on, as the same one
pub record StandsOn (d : Dif) (place : ℕ) (before : End) (was : Conn) : Type 0 where
  pub end : End
  pub conn : Conn
  pub is_at : IsAt d.flows.journal.ends d.flows.conns place end conn
  pub role : end.role ≡ before.role
  pub flow : end.flow ≡ before.flow
  pub cube : end.cube ≡ before.cube
  pub app : end.app ≡ before.app
  pub peer : end.peer ≡ before.peer
  pub names : SameNames (ids_of was) (ids_of conn)

-- each does
abbrev pub KeepAskers : Dif → Dif → Type 0
KeepAskers d d' = (place : ℕ) (end : End) (conn : Conn) → IsAt d.flows.journal.ends d.flows.conns place end conn → StandsOn d' place end conn

asker_stands : (d d' : Dif) (place own from : ℕ) (ask : FlowAsk) → KeepAskers d d' → IsAskersEnd d place own from ask → IsAskersEnd d' place own from ask
asker_stands d d' place own from ask keeps is =
    let on = keeps place is.end is.conn is.is_at in
    record {
      end = on.end;
      conn = on.conn;
      is_at = on.is_at;
      asks = record { asks = on.role ∙ is.asks.asks; flow = on.flow ∙ is.asks.flow; cube = on.cube ∙ is.asks.cube; app = on.app ∙ is.asks.app; peer = on.peer ∙ is.asks.peer };
      leads = record { asker = on.names.own ∙ is.leads.asker; asked = on.names.far ∙ is.leads.asked; its_cep = on.names.scep ∙ is.leads.its_cep };
    }

far_stands : (d d' : Dif) (place own from cep : ℕ) → KeepAskers d d' → IsFarEnd d place own from cep → IsFarEnd d' place own from cep
far_stands d d' place own from cep keeps is =
    let on = keeps place is.end is.conn is.is_at in
    record {
      end = on.end;
      conn = on.conn;
      is_at = on.is_at;
      is_far = on.role ∙ is.is_far;
      leads = record { asker = on.names.own ∙ is.leads.asker; asked = on.names.far ∙ is.leads.asked; its_cep = on.names.scep ∙ is.leads.its_cep };
    }

pub asker_on : (d d' : Dif) (own from : ℕ) (word : FlowWord) → KeepAskers d d' → HasEnd d own from word → HasEnd d' own from word
asker_on d d' own from (words.Ask invoke ask) keeps has = (has.0, asker_stands d d' has.0 own from ask keeps has.1)
asker_on d d' own from (words.Answer invoke (answers.Yes cep scep)) keeps has = (has.0, far_stands d d' has.0 own from cep keeps has.1)
asker_on d d' own from (words.Answer invoke (answers.Denied rule)) keeps has = tt
asker_on d d' own from (words.Answer invoke answers.NotHere) keeps has = tt
asker_on d d' own from (words.Answer invoke (answers.NoIds used)) keeps has = tt
asker_on d d' own from (words.Delete dcep scep) keeps has = tt

pub askers_keep : (d d' : Dif) (before now : ℕ) → AreLater before now d.flows.journal.ends d'.flows.journal.ends → KeepNames (conns_of d.flows.conns) (conns_of d'.flows.conns) → KeepAskers d d'
askers_keep d d' before now later names place end conn is =
    let e = later place end is.end_is in
    let n = names place (ids_of conn) (ids_at d.flows.conns place conn is.conn_is) in
    let k = map_at ids_of d'.flows.conns place n.0 n.1 in
    record {
      end = e.0;
      conn = k.0;
      is_at = record { end_is = e.1; conn_is = k.1 };
      role = e.2.role;
      flow = e.2.flow;
      cube = e.2.cube;
      app = e.2.app;
      peer = e.2.peer;
      names = record { own = ap (λ (z : Ids). z.own) k.2 ∙ n.2.own; far = ap (λ (z : Ids). z.far) k.2 ∙ n.2.far; scep = ap (λ (z : Ids). z.scep) k.2 ∙ n.2.scep };
    }

-- by what a call says of the DIF as a facility
pub askers_go_on : (d d' : Dif) → GoesOn d d' → KeepNames (conns_of d.flows.conns) (conns_of d'.flows.conns) → KeepAskers d d'
askers_go_on d d' goes names = askers_keep d d' d.clock d'.clock goes.later.ends names

-- where the flows stay
pub askers_same : (d d' : Dif) → d'.flows ≡ d.flows → KeepAskers d d'
askers_same d d' same place end conn is = record {
  end = end;
  conn = conn;
  is_at = record { end_is = ap (λ (z : Flows). slice_get z.journal.ends place) same ∙ is.end_is; conn_is = ap (λ (z : Flows). slice_get z.conns place) same ∙ is.conn_is };
  role = refl;
  flow = refl;
  cube = refl;
  app = refl;
  peer = refl;
  names = record { own = refl; far = refl; scep = refl };
}

-- where nothing is seen to change
pub names_seen : (d d' : Dif) → seen_of d' ≡ seen_of d → KeepNames (conns_of d.flows.conns) (conns_of d'.flows.conns)
names_seen d d' same = names_same (conns_of d.flows.conns) (conns_of d'.flows.conns) (ap (λ (z : DifSeen). z.conns) same)
