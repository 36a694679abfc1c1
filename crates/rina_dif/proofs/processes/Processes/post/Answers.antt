use Rattle.rina_data.specs.Hops.{hop_of}
use Rattle.rina_dif.proofs.Posting.{posts_one}
use Rattle.rina_dif.proofs.processes.Processes.post.Goals as goal

pub returns : goal.returns
returns c =
    let x = c.index_mut-process.result.now in
    rw (← c.self.view_is) (posts_one c.args.now c.args.link (hop_of c.args.hop.now) c.post.result c.args.at c.self.inside.items.items x c.post.new.process (rw (← c.self.view_is) at c.requires.at) c.index_mut-process.ensures.value c.post.ensures.does c.post.ensures.kept)
