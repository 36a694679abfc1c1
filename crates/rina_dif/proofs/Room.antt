-- Whether a DIF may make a flow more.
use Rattle.std.proofs.Common.{◌≡◌, ◌≢◌, ◌∙◌, ◌↔◌, ◌<◌, ℕ, length, Option, None, Some, IfSome, true, ltb, option_map, sym, ap, subst}
use Rattle.std.specs.Prelude.{IsSome}
use Rattle.std.proofs.lemmas.Bool.{false≢true, lt-ltb, ltb-true}
use Rattle.std.proofs.lemmas.Option.{slice_get-map}
use Rattle.rina_cube.specs.declared.Cube.{Cube}
use Rattle.rina_data.specs.Configs.{cube_by, member_of}
use Rattle.rina_data.proofs.Finding.{there}
use Rattle.rina_iface.specs.declared.ask.Fixed.{Fixed}
use Rattle.rina_iface.specs.Ends.{drawn_at}
use Rattle.rina_dif.specs.declared.dif.Dif.{Dif}
use Rattle.rina_dif.specs.Binding.{MayBind, SomeDraws}
use Rattle.rina_dif.specs.Elsewhere.{enrolled_home}
use Rattle.rina_dif.proofs.Enrolled.{enrolled_home_is}

-- an enrolled member stands at a node, and fewer ports were drawn there than it may have
pub room_from : (d : Dif) (node : ℕ) (o : Option ℕ) (n : ℕ) → o ≡ enrolled_home d node → IfSome o (λ i. i < length d.settings.members) → IsSome o → n ≡ drawn_at node d.flows.journal.ends → ltb n d.settings.admits ≡ true ↔ SomeDraws d node
room_from d node None n at within some count = absurd (false≢true some)
room_from d node (Some k) n at within some count =
    let m = there d.settings.members k within in
    let parts = enrolled_home_is d node k (sym at) in (
      λ less. (member_of m.0, record { place = k; at_home = parts.1; stands = slice_get-map member_of d.settings.members k ∙ ap (option_map member_of) m.1; enrolled = parts.0; room = subst (λ (x : ℕ). x < d.settings.admits) count (ltb-true n d.settings.admits less) }),
      λ may. lt-ltb n d.settings.admits (subst (λ (x : ℕ). x < d.settings.admits) (sym count) may.1.room),
    )

-- so may both, for a cube that the DIF has
pub may_from : (d : Dif) (fixed : Fixed) (cube : Cube) → d.settings.fac ≡ fixed.fac → fixed.a ≢ fixed.b → cube_by fixed.cube d.settings.cubes ≡ Some cube → SomeDraws d fixed.a → SomeDraws d fixed.b → MayBind d fixed
may_from d fixed cube fac apart is_cube a b = record { fac = fac; apart = apart; cube = cube; is_cube = is_cube; of_a = a.0; of_b = b.0; at_a = a.1; at_b = b.1 }
