use Rattle.std.proofs.Common.{Some}
use Rattle.disk_trait.proofs.Listing.{updated}
use Rattle.disk_trait.proofs.map.FileMap.put.Goals as goal

pub returns-in-Ok : goal.returns-in-Ok
returns-in-Ok c = updated c.args.self.now (record { inner = c.insert.new.self }) c.args.file (Some c.args.bytes) c.in-Ok.ensures.updates.0
