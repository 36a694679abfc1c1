-- The part behind the slash is a name.
use Rattle.rina_member.specs.Start.{node_of}
use Rattle.rina_member.proofs.Names.{never_bad, never_short, read_is}
use Rattle.rina_member.proofs.texts.node_of.Goals as goal

pub unreachable-requires : goal.unreachable-requires
unreachable-requires c =
    never_short c.args.member.now.name c.as_bytes.result.now c.behind.result.now c.len-length.ensures.form c.as_bytes.ensures c.behind.ensures c.read.result c.in-Err-BadLength.field-0 c.in-Err-BadLength.field-0-0
    c.in-Err-BadLength.is c.in-Err-BadLength.field-0-is c.read.ensures

pub unreachable-requires-in-Err-BadByte : goal.unreachable-requires-in-Err-BadByte
unreachable-requires-in-Err-BadByte c =
    never_bad c.args.member.now.name c.as_bytes.result.now c.behind.result.now c.len-length.ensures.form c.as_bytes.ensures c.behind.ensures c.read.result c.in-Err-BadByte.field-0 c.in-Err-BadByte.field-0-0
    c.in-Err-BadByte.is c.in-Err-BadByte.field-0-is c.read.ensures

pub returns-in-Ok : goal.returns-in-Ok
unfolding node_of
returns-in-Ok c = read_is c.args.member.now.name c.as_bytes.result.now c.behind.result.now c.len-length.ensures.form c.as_bytes.ensures c.behind.ensures c.in-Ok.name c.in-Ok.ensures
