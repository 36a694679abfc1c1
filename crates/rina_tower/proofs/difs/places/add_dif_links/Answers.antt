use Rattle.std.proofs.Common.{◌≡◌, ◌∙◌, Iter, ap, length}
use Rattle.std.specs.declared.iter.Zip.{Zip}
use Rattle.std.proofs.lemmas.Slice.Zip.{zip_end}
use Rattle.rina_data.specs.declared.process.IpcProcess.{IpcProcess}
use Rattle.rina_data.specs.declared.settings.Member.{Member}
use Rattle.rina_data.specs.declared.settings.Settings.{Settings}
use Rattle.rina_tower.proofs.Listing.{processes_added}
use Rattle.rina_tower.proofs.difs.places.add_dif_links.Goals as goal

pub returns : goal.returns
returns c =
    let both = c.into_iter-member-iterator.ensures.into_iter_gives in
    let first : c.into_iter-member-iterator.result.a.rest.now ≡ c.args.dif.now.settings.members = ap (λ (z : Zip (Iter Member) (Iter IpcProcess)). z.a.rest.now) both ∙ ap (λ (z : Iter Member). z.rest.now) c.zip-member-items.ensures.first ∙ c.iter.ensures.rest ∙ c.as_slice-members.ensures ∙ ap (λ (s : Settings). s.members) c.settings-settings.ensures in
    let second : c.into_iter-member-iterator.result.b.rest.now ≡ c.args.dif.now.processes = ap (λ (z : Zip (Iter Member) (Iter IpcProcess)). z.b.rest.now) both ∙ c.zip-member-items.ensures.second.0 ∙ c.processes.ensures in
    let end = zip_end c.args.dif.now.settings.members c.args.dif.now.processes c.loop-member.yielded c.into_iter-member-iterator.result c.loop-member.member-iterator c.next.new.self c.next.result first second c.loop-member.yielded_by c.in-None.is c.next.ensures.steps in
    processes_added c.args.rank c.args.dif.now.settings.fac (length c.loop-member.yielded) c.args.dif.now.settings.members c.args.dif.now.processes c.args.places.now c.loop-member.places end c.loop-member.invariant
