-- One field after the other.
use Rattle.std.proofs.Common.{Bool, Some, option_map, subst}
use Rattle.rina_cdap.specs.Messages.{byte, be4, be8, contents}
use Rattle.rina_cdap.specs.Writing.{cells_written}
use Rattle.rina_cdap.proofs.Written.{Added, added_twelve}
use Rattle.rina_cdap.proofs.writing.put_fields.Goals as goal

pub returns : goal.returns
unfolding contents
returns c =
    let m = c.args.m.now in
    let r = c.is_answer-response.result in
    let whole = added_twelve r (Some (byte m.operation)) (Some (be4 m.invoke)) m.class m.name (option_map be8 m.instance) m.value (option_map byte m.result) m.reason m.source_name m.destination_name (option_map be4 m.destination_address) (option_map be4 m.source_address) c.args.out.now.items c.put_byte.new.out.items c.put_four.new.out.items c.put_name.new.out.items c.put_bytes.new.out.items c.put_eight.new.out.items c.put_bytes-2.new.out.items c.put_byte-2.new.out.items c.put_bytes-3.new.out.items c.put_app_name.new.out.items c.put_app_name-2.new.out.items c.put_four-2.new.out.items c.put_four-3.new.out.items
    c.in_ok-put_byte.ensures c.in_ok-put_four.ensures c.in_ok-put_name.ensures c.in_ok-put_bytes.ensures c.in_ok-put_eight.ensures c.in_ok-put_bytes-2.ensures c.in_ok-put_byte-2.ensures c.in_ok-put_bytes-3.ensures c.in_ok-put_app_name.ensures c.in_ok-put_app_name-2.ensures c.in_ok-put_four-2.ensures c.in_ok-put_four-3.ensures in
    subst (λ (b : Bool). Added c.args.out.now.items c.put_four-3.new.out.items (cells_written b 1 (contents m))) c.is_answer-response.ensures whole
