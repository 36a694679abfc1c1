-- The PDU at hand is the one that was served, and it is sent or written off.
use Rattle.std.proofs.Common.{◌∙◌, length, refl, sym}
use Rattle.std.proofs.lemmas.Result.{err_from_is_err_and}
use Rattle.rina_base.specs.declared.cause.Cause.TheVariants.{Expired}
use Rattle.rina_data.specs.Configs.{config_of}
use Rattle.rina_data.specs.Deciding.{process_of}
use Rattle.rina_data.specs.Outgoing.{IsHeld, sent_bytes}
use Rattle.rina_data.proofs.Leaves.{asks_for, at_hand, dealt_late, dealt_none, dealt_tried, found_link, goes_late, goes_tried, held_back, none_wait, promise_bound, promises, served_fit, served_room, some_waits}
use Rattle.rina_data.proofs.process.IpcProcess.out_step.Goals as goal

pub returns-in_default-serve-clause-does : goal.returns-in_default-serve-clause-does
returns-in_default-serve-clause-does g c =
    let live = c.in-Some.live in
    let is_link = found_link c.args.self.now.links c.as_slice.result.now c.args.link c.live_link.result live c.as_slice.ensures c.live_link.ensures c.in-Some.is in
    ((live, is_link), none_wait c.args.link c.args.self.now.queues.queues.items (c.in_default-serve.ensures.none.0 refl), refl, refl)

pub unreachable-requires : goal.unreachable-requires
unreachable-requires g c =
    let live = c.in-Some.live in
    let is_link = found_link c.args.self.now.links c.as_slice.result.now c.args.link c.live_link.result live c.as_slice.ensures c.live_link.ensures c.in-Some.is in
    promises (g.F.Facility.seen c.args.below.now) live.port _ (c.requires.can.roomy live is_link) (sym c.promise.ensures ∙ c.in_default-promise.is)

pub charge-charge-requires-clause-promise : goal.charge-charge-requires-clause-promise
charge-charge-requires-clause-promise g c = promise_bound (g.F.Facility.seen c.args.below.now) c.in-Some.live.port c.in-Some-promise.promise (g.met.F.Facility.kept c.args.below.now c.requires.valid) (sym c.promise.ensures ∙ c.in-Some-promise.is)

pub protect-requires-clause-fits : goal.protect-requires-clause-fits
protect-requires-clause-fits g c =
    let p = c.args.self.now in
    let n = c.args.link in
    let below = g.F.Facility.seen c.args.below.now in
    let live = c.in-Some.live in
    let item = c.in-Some-serve.item in
    let promise = c.in-Some-promise.promise in
    let key = c.key.result in
    let is_link = found_link p.links c.as_slice.result.now n c.live_link.result live c.as_slice.ensures c.live_link.ensures c.in-Some.is in
    let s = c.serve.ensures.served (some_waits c.serve.result item c.serve.ensures.none c.in-Some-serve.is) in
    let hand = at_hand p below n live promise s.0 c.serve.result item is_link s.5 c.in-Some-serve.is (sym c.promise.ensures ∙ c.in-Some-promise.is) in
    (served_fit (config_of c.args.settings.now) c.args.now p below n s.0 item.now c.requires.can hand.served).fits

pub send_first-requires-clause-roomy : goal.send_first-requires-clause-roomy
send_first-requires-clause-roomy g c =
    let p = c.args.self.now in
    let n = c.args.link in
    let below = g.F.Facility.seen c.args.below.now in
    let live = c.in-Some.live in
    let item = c.in-Some-serve.item in
    let promise = c.in-Some-promise.promise in
    let key = c.key.result in
    let is_link = found_link p.links c.as_slice.result.now n c.live_link.result live c.as_slice.ensures c.live_link.ensures c.in-Some.is in
    let s = c.serve.ensures.served (some_waits c.serve.result item c.serve.ensures.none c.in-Some-serve.is) in
    let hand = at_hand p below n live promise s.0 c.serve.result item is_link s.5 c.in-Some-serve.is (sym c.promise.ensures ∙ c.in-Some-promise.is) in
    served_room (config_of c.args.settings.now) c.args.now p below n s.0 live item.now c.in-Some-left_after.rest c.as_slice-2.result.now c.requires.can is_link hand.served (c.as_slice-2.ensures.value ∙ c.in_ok-bytes.ensures)

pub returns-in_default-left_after-clause-does : goal.returns-in_default-left_after-clause-does
returns-in_default-left_after-clause-does g c =
    let p = c.args.self.now in
    let n = c.args.link in
    let below = g.F.Facility.seen c.args.below.now in
    let live = c.in-Some.live in
    let item = c.in-Some-serve.item in
    let promise = c.in-Some-promise.promise in
    let key = c.key.result in
    let is_link = found_link p.links c.as_slice.result.now n c.live_link.result live c.as_slice.ensures c.live_link.ensures c.in-Some.is in
    let s = c.serve.ensures.served (some_waits c.serve.result item c.serve.ensures.none c.in-Some-serve.is) in
    let hand = at_hand p below n live promise s.0 c.serve.result item is_link s.5 c.in-Some-serve.is (sym c.promise.ensures ∙ c.in-Some-promise.is) in
    goes_late (g.F.Facility.refuses_send c.args.below.now) (config_of c.args.settings.now) c.args.now p below n live item.now promise key item.now.left c.charge-charge.result c.drop_first.result (process_of c.drop_first.new.self) hand c.key.ensures refl c.charge-charge.ensures c.in_default-left_after.ensures c.drop_first.ensures.does

pub returns-in_default-left_after-clause-shelf : goal.returns-in_default-left_after-clause-shelf
returns-in_default-left_after-clause-shelf g c =
    let p = c.args.self.now in
    let n = c.args.link in
    let below = g.F.Facility.seen c.args.below.now in
    let live = c.in-Some.live in
    let item = c.in-Some-serve.item in
    let promise = c.in-Some-promise.promise in
    let key = c.key.result in
    let is_link = found_link p.links c.as_slice.result.now n c.live_link.result live c.as_slice.ensures c.live_link.ensures c.in-Some.is in
    let s = c.serve.ensures.served (some_waits c.serve.result item c.serve.ensures.none c.in-Some-serve.is) in
    let hand = at_hand p below n live promise s.0 c.serve.result item is_link s.5 c.in-Some-serve.is (sym c.promise.ensures ∙ c.in-Some-promise.is) in
    let dealt = dealt_late (IsHeld (g.F.Facility.refuses_send c.args.below.now) (config_of c.args.settings.now) c.args.now below n (process_of p)) (process_of p) n live item.now key (Expired item.now.left c.charge-charge.result) c.drop_first.result (process_of c.drop_first.new.self) c.key.ensures c.drop_first.ensures.does in
    asks_for _ _ c.drop_first.result dealt.answer (record { pick = s.0; lawful = s.2; once = s.3; dead = s.4; item = item.now; served = hand.served; dealt = dealt.deals })

pub returns-in_err-bytes-clause-shelf : goal.returns-in_err-bytes-clause-shelf
returns-in_err-bytes-clause-shelf g c =
    let p = c.args.self.now in
    let n = c.args.link in
    let below = g.F.Facility.seen c.args.below.now in
    let live = c.in-Some.live in
    let item = c.in-Some-serve.item in
    let promise = c.in-Some-promise.promise in
    let key = c.key.result in
    let is_link = found_link p.links c.as_slice.result.now n c.live_link.result live c.as_slice.ensures c.live_link.ensures c.in-Some.is in
    let s = c.serve.ensures.served (some_waits c.serve.result item c.serve.ensures.none c.in-Some-serve.is) in
    let hand = at_hand p below n live promise s.0 c.serve.result item is_link s.5 c.in-Some-serve.is (sym c.promise.ensures ∙ c.in-Some-promise.is) in
    let err = err_from_is_err_and c.from_residual.result c.from_residual.ensures.1 in
    let dealt = dealt_none (IsHeld (g.F.Facility.refuses_send c.args.below.now) (config_of c.args.settings.now) c.args.now below n (process_of p)) (process_of p) n item.now err.0 c.from_residual.result err.2 err.1 in
    asks_for _ _ c.from_residual.result dealt.answer (record { pick = s.0; lawful = s.2; once = s.3; dead = s.4; item = item.now; served = hand.served; dealt = dealt.deals })

pub returns-clause-does : goal.returns-clause-does
returns-clause-does g c =
    let p = c.args.self.now in
    let n = c.args.link in
    let below = g.F.Facility.seen c.args.below.now in
    let live = c.in-Some.live in
    let item = c.in-Some-serve.item in
    let promise = c.in-Some-promise.promise in
    let key = c.key.result in
    let is_link = found_link p.links c.as_slice.result.now n c.live_link.result live c.as_slice.ensures c.live_link.ensures c.in-Some.is in
    let s = c.serve.ensures.served (some_waits c.serve.result item c.serve.ensures.none c.in-Some-serve.is) in
    let hand = at_hand p below n live promise s.0 c.serve.result item is_link s.5 c.in-Some-serve.is (sym c.promise.ensures ∙ c.in-Some-promise.is) in
    let in_time = c.in-Some-left_after.ensures.0 in
    let bytes = c.as_slice-2.ensures.value ∙ c.in_ok-bytes.ensures in
    goes_tried (g.F.Facility.refuses_send c.args.below.now) (config_of c.args.settings.now) c.args.now p below n live item.now promise key c.send_first.result (process_of c.send_first.new.self) (g.F.Facility.seen c.send_first.new.below) hand c.key.ensures (rw c.charge-charge.ensures at in_time) (rw (bytes, c.in-Some-left_after.ensures.1, c.charge-charge.ensures) at c.send_first.ensures.does)

pub returns-clause-shelf : goal.returns-clause-shelf
returns-clause-shelf g c =
    let p = c.args.self.now in
    let n = c.args.link in
    let below = g.F.Facility.seen c.args.below.now in
    let live = c.in-Some.live in
    let item = c.in-Some-serve.item in
    let promise = c.in-Some-promise.promise in
    let key = c.key.result in
    let is_link = found_link p.links c.as_slice.result.now n c.live_link.result live c.as_slice.ensures c.live_link.ensures c.in-Some.is in
    let s = c.serve.ensures.served (some_waits c.serve.result item c.serve.ensures.none c.in-Some-serve.is) in
    let hand = at_hand p below n live promise s.0 c.serve.result item is_link s.5 c.in-Some-serve.is (sym c.promise.ensures ∙ c.in-Some-promise.is) in
    let refuses = g.F.Facility.refuses_send c.args.below.now in
    let config = config_of c.args.settings.now in
    let in_time = c.in-Some-left_after.ensures.0 in
    let bytes = c.as_slice-2.ensures.value ∙ c.in_ok-bytes.ensures in
    let sent = sent_bytes config c.args.now item.now promise in
    let dealt = dealt_tried (IsHeld refuses config c.args.now below n (process_of p)) (refuses live.port (length sent)) (process_of p) below n live item.now key sent c.send_first.result (process_of c.send_first.new.self) (g.F.Facility.seen c.send_first.new.below) c.key.ensures (λ why said not_over. held_back refuses config c.args.now p below n live item.now promise why hand (rw c.charge-charge.ensures at in_time) said not_over) (rw (bytes, c.in-Some-left_after.ensures.1, c.charge-charge.ensures) at c.send_first.ensures.does) in
    asks_for _ _ c.send_first.result dealt.answer (record { pick = s.0; lawful = s.2; once = s.3; dead = s.4; item = item.now; served = hand.served; dealt = dealt.deals })
