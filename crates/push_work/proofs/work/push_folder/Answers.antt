use Rattle.std.proofs.Common.{refl, ap, ◌∙◌}
use Rattle.remote_port.specs.Ports.{connection_of}
use Rattle.push_work.specs.Pushes.{Asks, open_at}
use Rattle.push_work.proofs.PushLemmas.{dumps-seen, same_seen, behind_wire, pushes}
use Rattle.push_work.proofs.work.push_folder.Goals as goal

pub returns : goal.returns
returns g c = pushes g.F.Folder _ _ _ _ _ _ _ _ _ _ (connection_of c.new-port.result) (connection_of c.dump_folder-dumped.new.port)
    c.dump_folder-dumped.result c.end-ended.result
    (c.new-port.ensures ∙ ap open_at (same_seen _ _ c.new-wire.ensures.left c.new-wire.ensures.written c.new-wire.ensures.sent
    c.new-wire.ensures.faults))
    (dumps-seen _ Asks connection_of _ _ _ _ _ (λ p q calls moved. moved) _ _ _ c.dump_folder-dumped.ensures.ok
    c.dump_folder-dumped.ensures.err)
    c.end-ended.ensures c.into_wire-wire.ensures
    (behind_wire _ _ _ _ c.into_link-link.ensures.ahead refl c.into_link-link.ensures.left c.into_link-link.ensures.written
    c.into_link-link.ensures.sent c.into_link-link.ensures.faults)
    c.dump_folder-dumped.ensures.cause c.dump_folder-dumped.ensures.same c.dump_folder-dumped.ensures.counted c.end_of.ensures
