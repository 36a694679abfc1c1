-- Of what the far end of a flow sent nothing was taken while its asker waits.
use Rattle.std.proofs.Common.{◌≡◌, ◌≢◌, ◌∙◌, ℕ, Bool, true, false, List, slice_get, Some, refl, sym, subst}
use Rattle.rina_base.specs.declared.pdu.Pdu.{Pdu}
use Rattle.rina_iface.specs.declared.ends.End.{End}
use Rattle.rina_iface.specs.declared.state.PortState.TheVariants.{Pending}
use Rattle.rina_iface.specs.declared.state.Role.{Role}
use Rattle.rina_iface.specs.Journal.{IsPartner}
use Rattle.rina_ids.specs.Members.{CepIds}
use Rattle.rina_law.specs.Constants.{Constants}
use Rattle.rina_law.specs.Direction.{Direction}
use Rattle.rina_rest.specs.Flows.{Asker, Far, Flow, Side}
use Rattle.rina_rest.specs.Still.{IsUntaken}
use Rattle.rina_data.specs.Configs.{Config}
use Rattle.rina_dif_law.specs.Dif.{constants}
use Rattle.rina_dif_law.specs.Ids.{Ids}
use Rattle.rina_dif_law.specs.Places.{Knows, ids_from, role_of}
use Rattle.rina_dif_law.specs.Standing.{IsConn, IsOwn, IsUntold}
use Rattle.rina_dif_law.proofs.Finding.{beside}
use Rattle.rina_dif_law.proofs.Own.{end_of_flow, has_far, partner_back}

-- an end that does not know the other one is an asker's, which was not told
asker_side : (s : Side) (f : Flow) → (Knows s f → ⊥) → s ≡ Asker
asker_side Asker f none = refl
asker_side Far f none = absurd (none tt)

not_true : (b : Bool) → (b ≡ true → ⊥) → b ≡ false
not_true true none = absurd (none refl)
not_true false none = refl

-- and its partner is the far one
far_side : (s t : Side) (a b : Role) → s ≡ Asker → a ≡ role_of s → b ≡ role_of t → b ≢ a → t ≡ Far
far_side s Asker a b is here there other = absurd (other (there ∙ sym (subst (λ (z : Side). a ≡ role_of z) is here)))
far_side s Far a b is here there other = refl

pub untaken_line : (g : Config) (now : ℕ) (cloud : ℕ → Pdu → Type 0) (held : List CepIds) (ends : List End) (conns : List Ids) (lines : List Direction) → (own : IsOwn g now cloud held ends conns lines) → (at far_at : ℕ) (e far : End) (ids far_ids : Ids) (line : Direction) → IsConn ends conns at e ids → IsConn ends conns far_at far far_ids → IsPartner e far → e.state ≡ Pending → slice_get lines far_at ≡ Some line → (k : Constants) × IsUntaken k line
untaken_line g now cloud held ends conns lines own at far_at e far ids far_ids line is is_far partners waits is_line =
    let x = beside ends own.places at e own.entered.places_alike is.end in
    let m = own.entered.each at e ids x.0 is x.1 in
    let side = asker_side x.0.side m.flow (m.end.waits waits) in
    let f = has_far g now cloud held ends conns lines own at far_at e far x.0 m.flow is.end is_far.end partners x.1 m.stands in
    let untold : m.flow.told ≡ false = not_true m.flow.told (λ t. m.end.waits waits (subst (λ (s : Side). Knows s m.flow) (sym side) t)) in
    let y = beside ends own.places far_at far own.entered.places_alike is_far.end in
    let same : y.0.flow ≡ x.0.flow = own.entered.apart far_at at far e y.0 x.0 is_far.end is.end y.1 x.1 partners.same_flow in
    let stands : slice_get own.flows y.0.flow ≡ Some m.flow = subst (λ (n : ℕ). slice_get own.flows n ≡ Some m.flow) (sym same) m.stands in
    let its = end_of_flow g now cloud held ends conns lines own far_at far far_ids y.0 m.flow is_far y.1 stands in
    let its_side = far_side x.0.side y.0.side e.role far.role side m.end.role its.role partners.other_role in
    let h = own.flows_are far_at at far e y.0 m.flow f.0 line is_far.end is.end (partner_back e far partners) y.1 stands f.1 is_line in
    let k : Constants = constants g h.direction.cube (ids_from y.0.side m.flow f.0 far.cube) in
    let given : IsUntold k Far m.flow line = subst (λ (z : Side). IsUntold k z m.flow line) its_side h.untold in
    (k, given untold)
