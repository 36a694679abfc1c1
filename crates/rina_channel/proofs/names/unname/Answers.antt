use Rattle.std.proofs.Common.{◌≡◌, ◌+◌, ◌++◌, List, map, take, drop, slice_set, subst}
use Rattle.std.proofs.lemmas.List.Edits.{map_over_more}
use Rattle.rina_base.specs.declared.pdu.Pdu.{Pdu}
use Rattle.rina_channel.specs.Names.{unnamed}
use Rattle.rina_channel.proofs.names.unname.Goals as goal

pub loop-pdu-preserved : goal.loop-pdu-preserved
loop-pdu-preserved c =
    let old : List Pdu = c.args.pdus.now in
    let here : List Pdu = c.loop-pdu.pdus in
    subst (λ (z : Pdu). slice_set here c.loop-pdu.pdu-index (unnamed z) ≡ map unnamed (take (c.loop-pdu.pdu-index + 1) old) ++ drop (c.loop-pdu.pdu-index + 1) old) c.pdu-item.is
    (map_over_more unnamed old here c.loop-pdu.pdu-index c.pdu-item.result c.loop-pdu-test.true c.loop-pdu.invariant c.pdu-item.is)
