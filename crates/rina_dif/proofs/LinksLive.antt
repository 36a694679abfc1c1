-- An IPC process that gets PDUs or lines of links has the live links that it had.
use Rattle.std.proofs.Common.{◌≡◌, ◌∙◌, ℕ, List, slice_get, slice_set, Some, refl, sym, ap, subst, inl, inr}
use Rattle.std.proofs.lemmas.Bool.Decides.{eqb_tells}
use Rattle.std.proofs.lemmas.Option.{same_Some}
use Rattle.rina_base.specs.declared.number.Port.{Port}
use Rattle.rina_data.specs.declared.link.Link.{Link}
use Rattle.rina_data.specs.Configs.{Config}
use Rattle.rina_data.specs.Process.{Process, with_offs, with_put}
use Rattle.rina_iface.proofs.Changed.{slice_get-set_other, slice_get-set_same}
use Rattle.rina_channel.specs.Channels.{HasLive}
use Rattle.rina_channel.specs.FlowLaws.{ServesLinks}

-- a process with the same links in the place of another
set_lives : (old : List Process) (i : ℕ) (p p' : Process) → slice_get old i ≡ Some p → p'.links ≡ p.links → (j n : ℕ) (port : Port) → HasLive (slice_set old i p') j n port → HasLive old j n port
set_lives old i p p' is same j n port x = elim (eqb_tells j i) [
  | inl t ↦
      let at : slice_get (slice_set old i p') i ≡ Some x.process = subst (λ (k : ℕ). slice_get (slice_set old i p') k ≡ Some x.process) t.1 x.is_process in
      let its : x.process ≡ p' = same_Some x.process p' (sym at ∙ slice_get-set_same old i p p' is) in
      let links : x.process.links ≡ p.links = ap (λ (z : Process). z.links) its ∙ same in
      record {
        process = p;
        is_process = subst (λ (k : ℕ). slice_get old k ≡ Some p) (sym t.1) is;
        place = x.place;
        link = x.link;
        stands = subst (λ (ls : List Link). slice_get ls x.place ≡ Some x.link) links x.stands;
        live = x.live;
        number_is = x.number_is;
        port_is = x.port_is;
      }
  | inr u ↦ record {
    process = x.process;
    is_process = sym (slice_get-set_other old i j p' u.1) ∙ x.is_process;
    place = x.place;
    link = x.link;
    stands = x.stands;
    live = x.live;
    number_is = x.number_is;
    port_is = x.port_is;
  }
]

pub serving_lives : (g : Config) (now : ℕ) (old new : List Process) → ServesLinks g now old new → (j n : ℕ) (port : Port) → HasLive new j n port → HasLive old j n port
serving_lives g now old new (i, inl s) j n port x = set_lives old i s.process (with_put s.process s.place s.queue s.items) s.is_process refl j n port (subst (λ (ps : List Process). HasLive ps j n port) s.new_is x)
serving_lives g now old new (i, inr s) j n port x = set_lives old i s.process (with_offs s.process s.offs) s.is_process refl j n port (subst (λ (ps : List Process). HasLive ps j n port) s.new_is x)
