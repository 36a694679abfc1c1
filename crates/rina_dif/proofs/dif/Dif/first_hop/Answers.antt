use Rattle.std.proofs.Common.{◌≡◌, ◌∙◌, List, Some, sym, subst}
use Rattle.rina_data.specs.declared.link.Route.{Route}
use Rattle.rina_data.specs.Process.{next_hop}
use Rattle.rina_dif.proofs.Putting.{is_there}
use Rattle.rina_dif.proofs.Ways.{no_room, way_is}
use Rattle.rina_dif.proofs.dif.Dif.first_hop.Goals as goal

pub room-room-requires : goal.room-room-requires
room-room-requires c =
    let p = c.in-Some-get.process.now in
    let far = c.args.conn.now.sending.form.peer.far in
    let hop : next_hop far p.routes ≡ Some c.in-Some-next_link.link = subst (λ (rs : List Route). next_hop far rs ≡ Some c.in-Some-next_link.link) c.as_slice.ensures (sym c.next_link.ensures ∙ c.in-Some-next_link.is) in
    is_there _ p far c.in-Some-next_link.link c.args.conn.now.sending.form.cube.id (c.requires.housed c.in-Some.home p c.in-Some-get.ensures) hop c.requires.qos

pub returns-then-need-room-clause-err : goal.returns-then-need-room-clause-err
returns-then-need-room-clause-err c =
    let p = c.in-Some-get.process.now in
    let far = c.args.conn.now.sending.form.peer.far in
    let hop : next_hop far p.routes ≡ Some c.in-Some-next_link.link = subst (λ (rs : List Route). next_hop far rs ≡ Some c.in-Some-next_link.link) c.as_slice.ensures (sym c.next_link.ensures ∙ c.in-Some-next_link.is) in
    no_room c.args.self.now c.args.node c.args.conn.now c.args.need c.in-Some.home p c.in-Some-next_link.link c.room-room.result c.requires.housed c.requires.qos (sym c.place_at_node.ensures.place ∙ c.in-Some.is) c.in-Some-get.ensures hop c.room-room.ensures.room c.if-need-room.true

pub returns-clause-ok : goal.returns-clause-ok
returns-clause-ok c =
    let p = c.in-Some-get.process.now in
    let far = c.args.conn.now.sending.form.peer.far in
    let hop : next_hop far p.routes ≡ Some c.in-Some-next_link.link = subst (λ (rs : List Route). next_hop far rs ≡ Some c.in-Some-next_link.link) c.as_slice.ensures (sym c.next_link.ensures ∙ c.in-Some-next_link.is) in
    way_is c.args.self.now c.args.node c.args.conn.now c.args.need c.in-Some.home p c.in-Some-next_link.link c.room-room.result c.requires.housed c.requires.qos (sym c.place_at_node.ensures.place ∙ c.in-Some.is) c.in-Some-get.ensures hop c.room-room.ensures.room c.if-need-room.false c.requires.some
