use Rattle.rina_channel.proofs.Noting.{arrivals_note_links, ending_notes_links, forgetting_notes_links}
use Rattle.rina_channel.proofs.Fitting.{acknowledging_serves_links, messages_serve_links, resending_serves_links}
use Rattle.rina_channel.proofs.Flows.{links_leave_flows, taking_leaves_flows}
use Rattle.rina_channel.proofs.laws.channels_leave_flows.Goals as goal

pub returns-clause-serve : goal.returns-clause-serve
returns-clause-serve c = links_leave_flows

pub returns-clause-take : goal.returns-clause-take
returns-clause-take c = taking_leaves_flows

pub returns-clause-offer : goal.returns-clause-offer
returns-clause-offer c = messages_serve_links

pub returns-clause-acknowledge : goal.returns-clause-acknowledge
returns-clause-acknowledge c = acknowledging_serves_links

pub returns-clause-resend : goal.returns-clause-resend
returns-clause-resend c = resending_serves_links

pub returns-clause-arrive : goal.returns-clause-arrive
returns-clause-arrive c = arrivals_note_links

pub returns-clause-forget : goal.returns-clause-forget
returns-clause-forget c = forgetting_notes_links

pub returns-clause-end : goal.returns-clause-end
returns-clause-end c = ending_notes_links
