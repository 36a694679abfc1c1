-- So far each link is laid, and the rest can be.
use Rattle.std.proofs.Common.{drop, map, take}
use Rattle.rina_data.specs.Configs.{config_of}
use Rattle.rina_dif.specs.Laying.{AreLaid, BindsInTurn, CanBindAll, IsLaidIn}
use Rattle.rina_dif.specs.Planned.{link_fixed}
use Rattle.rina_dif.proofs.construction.lay_links.Given as goal

abbrev pub invariant-loop-link : goal.invariant-loop-link
invariant-loop-link g l = record {
  valid : g.F.Facility.valid l.below;
  same : g.F.Facility.same_below l.fn.below l.below;
  laid : IsLaidIn (config_of l.settings) (g.F.Facility.seen l.fn.below) (g.F.Facility.seen l.below);
  rest : CanBindAll (g.F.Facility.seen l.below) (map (link_fixed l.plan l.dif) (drop l.link-index l.dif.links));
  done : AreLaid l.plan l.dif l.settings (take l.link-index l.dif.links) (g.F.Facility.seen l.fn.below) (g.F.Facility.seen l.below) l.ports l.processes;
  whole : BindsInTurn g.F.Facility.does_bind l.fn.below (map (link_fixed l.plan l.dif) (take l.link-index l.dif.links)) l.below;
}
