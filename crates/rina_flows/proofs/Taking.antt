-- Which end takes a PDU.
use Rattle.std.proofs.Common.{◌≡◌, ℕ, ◌+◌, ◌≤◌, zero, suc, List, [], ◌∷◌, length, Bool, false, IsTrue, ◌↔◌, slice_get, Some, None, Option, refl, sym, subst, arith, inl, inr}
use Rattle.std.proofs.lemmas.Bool.{false≢true}
use Rattle.std.proofs.lemmas.Bool.Decides.{eqb_tells}
use Rattle.std.proofs.lemmas.Option.{slice_get_within}
use Rattle.rina_base.specs.declared.pdu.Pdu.{Pdu}
use Rattle.rina_conn.specs.declared.conn.Conn.{Conn}
use Rattle.rina_dif_law.specs.Ids.{Ids, IsFrom, flipped}
use Rattle.rina_iface.specs.declared.ends.End.{End}
use Rattle.rina_flows.specs.Calls.{NoneBefore, TakenBy, Takes, TakesHere}
use Rattle.rina_flows.specs.Tied.{conns_of, ids_of}
use Rattle.rina_flows.proofs.Framed.{ids_at}

same_at : {X : Type 0} → (o : Option X) (a b : X) → o ≡ Some a → o ≡ Some b → a ≡ b
same_at o a b h g = cc

pub takes_both : (ends : List End) (conns : List Conn) (at : ℕ) (pdu : Pdu) (end : End) (conn : Conn) (b : Bool) → slice_get ends at ≡ Some end → slice_get conns at ≡ Some conn → (IsTrue b ↔ Takes end conn pdu) → (IsTrue b ↔ TakesHere ends conns at pdu)
takes_both ends conns at pdu end conn b e k w = (
  (λ t. record { end = end; conn = conn; is_at = record { end_is = e; conn_is = k }; takes = w.0 t }),
  (λ h.
      let end_is = same_at (slice_get ends at) h.end end h.is_at.end_is e in
      let conn_is = same_at (slice_get conns at) h.conn conn h.is_at.conn_is k in
      w.1 (subst (λ (x : End). Takes x conn pdu) end_is (subst (λ (x : Conn). Takes h.end x pdu) conn_is h.takes))),
)

pub no_conn : (ends : List End) (conns : List Conn) (at : ℕ) (pdu : Pdu) → length conns ≤ at → (IsTrue false ↔ TakesHere ends conns at pdu)
no_conn ends conns at pdu le = ((λ t. absurd (false≢true t)), (λ h. let lt = slice_get_within conns at h.conn h.is_at.conn_is in absurd (omega arith)))

pub no_end : (ends : List End) (conns : List Conn) (at : ℕ) (pdu : Pdu) → length ends ≤ at → (IsTrue false ↔ TakesHere ends conns at pdu)
no_end ends conns at pdu le = ((λ t. absurd (false≢true t)), (λ h. let lt = slice_get_within ends at h.end h.is_at.end_is in absurd (omega arith)))

-- the connection of an id
record IsIdOf (conns : List Conn) (at : ℕ) (ids : Ids) : Type 0 where
  conn : Conn
  conn_is : slice_get conns at ≡ Some conn
  ids_are : ids_of conn ≡ ids

of_id : (conns : List Conn) (at : ℕ) (ids : Ids) → slice_get (conns_of conns) at ≡ Some ids → IsIdOf conns at ids
of_id [] at ids h = absurd cc
of_id (k ∷ ks) zero ids h = record { conn = k; conn_is = refl; ids_are = cc }
of_id (k ∷ ks) (suc at) ids h = (let r = of_id ks at ids h in record { conn = r.conn; conn_is = r.conn_is; ids_are = r.ids_are })

pub taken_here : (ends : List End) (conns : List Conn) (at : ℕ) (pdu : Pdu) → TakesHere ends conns at pdu → TakenBy ends (conns_of conns) pdu (Some at)
taken_here ends conns at pdu h = (
  h.end,
  ids_of h.conn,
  record {
    is_conn = record { end = h.is_at.end_is; ids_are = ids_at conns at h.conn h.is_at.conn_is };
    allocated = h.takes.allocated;
    names = h.takes.names;
  },
)

pub taken_nowhere : (ends : List End) (conns : List Conn) (n : ℕ) (pdu : Pdu) → length conns ≤ n → NoneBefore n ends conns pdu → TakenBy ends (conns_of conns) pdu None
taken_nowhere ends conns n pdu le none at end ids h =
    let r = of_id conns at ids h.is_conn.ids_are in
    let lt = slice_get_within conns at r.conn r.conn_is in
    none at (omega arith) (record {
      end = end;
      conn = r.conn;
      is_at = record { end_is = h.is_conn.end; conn_is = r.conn_is };
      takes = record { allocated = h.allocated; names = subst (λ (i : Ids). IsFrom (flipped i) pdu) (sym r.ids_are) h.names };
    })

pub none_more : (ends : List End) (conns : List Conn) (n : ℕ) (pdu : Pdu) → NoneBefore n ends conns pdu → (TakesHere ends conns n pdu → ⊥) → NoneBefore (n + 1) ends conns pdu
none_more ends conns n pdu none here at lt h = elim (eqb_tells at n) [
  | inl t ↦ here (subst (λ (k : ℕ). TakesHere ends conns k pdu) t.1 h)
  | inr f ↦ (let ne = f.1 in none at (omega arith) h)
]
