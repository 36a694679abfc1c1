-- What is told of flows.
use Rattle.std.proofs.Common.{◌≡◌, ◌∙◌, ℕ, List, [], ◌∷◌, ◌++◌, length, slice_get, Some, sym, ap, subst, inl, inr}
use Rattle.std.proofs.lemmas.Option.{same_Some}
use Rattle.rina_conn.specs.declared.conn.Conn.{Conn}
use Rattle.rina_iface.specs.declared.ends.End.{End}
use Rattle.rina_iface.proofs.Grown.{pushed_at}
use Rattle.rina_dif.specs.declared.flow_state.FlowState.{FlowState}
use Rattle.rina_dif.specs.Objects.{IsFlow}

-- Flows

-- so far each end is told as it is
abbrev pub AreSoFar : ℕ → List End → List Conn → List FlowState → Type 0
AreSoFar now ends conns states = (at : ℕ) (e : End) (k : Conn) (f : FlowState) → slice_get ends at ≡ Some e → slice_get conns at ≡ Some k → slice_get states at ≡ Some f → IsFlow now e k f

-- and one more
pub one_flow : (now : ℕ) (ends : List End) (conns : List Conn) (states : List FlowState) (end : End) (conn : Conn) (f : FlowState) → AreSoFar now ends conns states → slice_get ends (length states) ≡ Some end → slice_get conns (length states) ≡ Some conn → IsFlow now end conn f → AreSoFar now ends conns (states ++ f ∷ [])
one_flow now ends conns states end conn f so here there is = λ at e k g is_end is_conn is_state. elim (pushed_at states f at g is_state) [
  | inl h ↦ so at e k g is_end is_conn h
  | inr h ↦
      let same_end : end ≡ e = same_Some end e (sym here ∙ ap (slice_get ends) (sym h.0) ∙ is_end) in
      let same_conn : conn ≡ k = same_Some conn k (sym there ∙ ap (slice_get conns) (sym h.0) ∙ is_conn) in
      subst (λ (x : FlowState). IsFlow now e k x) (sym h.1) (subst (λ (x : Conn). IsFlow now e x f) same_conn (subst (λ (x : End). IsFlow now x conn f) same_end is))
]
