-- Why an end of a link comes up in the step in which its items are put there. Here member 1 keeps nothing, so that nothing is to be put;
-- then it makes an item; and only then its end comes up. The item is never sent.
use Rattle.std.specs.Prelude.{◌≡◌, true, false, [], ◌∷◌, codes, Some, None}
use Rattle.rina_access.specs.declared.rules.Rules.{Rules}
use Rattle.rina_agent.specs.declared.link.Link.{Link}
use Rattle.rina_flood.specs.Network.{Near, Network, Make, put_agent, happens, IsRun, stands}
use Rattle.rina_flood.specs.Laws.{Owes}
use Rattle.rina_flood.specs.Sample.{sample, sample_agent, sample_link}

-- the end of member 1 is not up yet
abbrev pub waiting_link : Link
waiting_link = record { number = 0; peer = None; weight = 1; up = false; enrolment = None }

abbrev pub before_gap : Rules → Network
before_gap rules = record (sample rules) { agents = put_agent 1 (record (sample_agent rules 1) { links = waiting_link ∷ [] }) (sample_agent rules) }

abbrev pub gap : Rules → Network
gap rules = happens (before_gap rules) (Make 1 (codes "/dir/echo") (Some (codes "1")))

-- and now it is
abbrev pub after_gap : Rules → Network
after_gap rules = record (gap rules) { agents = put_agent 1 (record ((gap rules).agents 1) { links = sample_link 2 ∷ [] }) (gap rules).agents }

pub record GapBreaks (rules : Rules) : Type 0 where
  pub run : IsRun (before_gap rules) (Make 1 (codes "/dir/echo") (Some (codes "1")) ∷ [])
  pub up : stands (after_gap rules) 0 Near ≡ true
  pub broken : Owes (after_gap rules) 0 Near → ⊥
