use Rattle.std.proofs.Common.{◌∙◌, ap, sym}
use Rattle.rina_iface.specs.Ends.{drawn_at}
use Rattle.rina_dif.proofs.FarAdded.{unspent}
use Rattle.rina_dif.proofs.Requested.{draws_next}
use Rattle.rina_dif.proofs.dif.Dif.next_end.Goals as goal

pub returns : goal.returns
returns c =
    let d = c.args.self.now in
    let free = unspent d c.requires.valid c.args.at c.args.node c.requires.at c.requires.room in
    draws_next d c.args.at c.args.node c.drawn-drawn.result c.in-Some-free.cep c.in-Some.member.now c.requires.valid free c.in-Some.ensures (c.drawn-drawn.ensures ∙ ap (drawn_at c.args.node) c.as_slice.ensures) (sym (c.free.ensures free.ids free.are_ids) ∙ c.in-Some-free.is)
