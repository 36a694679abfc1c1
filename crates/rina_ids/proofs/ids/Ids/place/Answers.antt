-- A free id is not in use.
use Rattle.std.proofs.Common.{◌≡◌, position, arith}
use Rattle.std.proofs.lemmas.Grind.{common_steps}
use Rattle.rina_ids.specs.Ids.{is_free}
use Rattle.rina_ids.proofs.InUse.{place_unused}
use Rattle.rina_ids.proofs.ids.Ids.place.Goals as goal

pub returns-clause-unused : goal.returns-clause-unused
returns-clause-unused c =
    let at : c.free_place.result ≡ position (is_free c.args.now) c.args.self.now.1 = grind (arith, common_steps, c.free_place.ensures.place) in
    place_unused c.args.now c.args.self.now.1 c.free_place.result at
