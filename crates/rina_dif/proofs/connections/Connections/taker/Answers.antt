use Rattle.std.proofs.Common.{◌∙◌, ap, sym}
use Rattle.std.specs.Prelude.{position}
use Rattle.rina_channel.specs.Channels.{has_port}
use Rattle.rina_dif.proofs.connections.Connections.taker.Goals as goal

pub returns-then-takes : goal.returns-then-takes
returns-then-takes c = record {
  at = ap (position (has_port c.args.port)) (sym c.as_slice.ensures) ∙ sym c.in_ok-place.ensures.place;
  conn = c.in_ok-peer.field-0.now;
  is_conn = c.in_ok-peer.ensures;
  its_is = c.named-pdu.ensures;
  takes = c.takes.ensures.0 c.if-takes.true;
}
