-- What a contract sees of a DIF.
use Rattle.std.specs.Prelude.{◌≡◌, ℕ, List, map, slice_get, slice_set, Some}
use Rattle.rina_cube.specs.declared.Cube.{Cube}
use Rattle.rina_cube.specs.Cubes.{promise_of}
use Rattle.rina_iface.specs.declared.ask.Registered.{Registered}
use Rattle.rina_iface.specs.declared.ends.End.{End}
use Rattle.rina_iface.specs.Seen.{Fac, Offer}
use Rattle.rina_law.specs.Constants.{Constants}
use Rattle.rina_ids.specs.Members.{CepIds}
use Rattle.rina_dif_law.specs.Ids.{Ids}
use Rattle.rina_data.specs.Configs.{Config, Member, greatest, piece_size}
use Rattle.rina_data.specs.Process.{Process}

-- a DIF
pub record DifSeen : Type 0 where
  pub config : Config
  pub manage : Cube  -- of the management connections of its links
  pub clock : ℕ
  pub processes : List Process  -- each at the place of its member
  pub ends : List End  -- its journal
  pub conns : List Ids  -- the ids of each end's connection, at the place of the end
  pub ids : List CepIds  -- the CEP-ids of each member, at its place
  pub waiting : List ℕ  -- the places of the far ends that nobody claimed yet
  pub names : List Registered
  pub enrolled : List ℕ  -- the nodes of its enrolled members

-- what the DIF offers of a cube
abbrev pub offer_of : Cube → Offer
offer_of c = record { id = c.id; kind = Some c.kind; promise = promise_of c; largest = c.largest }

-- the DIF as a facility of its rank: the nodes of its enrolled members have a place in it
abbrev pub fac_of : DifSeen → Fac
fac_of d = record {
  ends = d.ends;
  waiting = d.waiting;
  names = d.names;
  members = d.enrolled;
  cubes = map offer_of d.config.cubes;
  admits = d.config.admits;
}

-- what never changes in the direction from the end with these ids
abbrev pub constants : Config → Cube → Ids → Constants
constants g cube ids = record { cube = cube; piece = piece_size g; max = greatest g; cep = ids.scep }

-- the IPC process of place i
pub record IsProcess (d : DifSeen) (i : ℕ) (member : Member) (process : Process) : Type 0 where
  pub is_member : slice_get d.config.members i ≡ Some member
  pub is_process : slice_get d.processes i ≡ Some process

-- the DIF with this process in the place of another
abbrev pub with_process : DifSeen → ℕ → Process → DifSeen
with_process d i p = record d { processes = slice_set d.processes i p }
