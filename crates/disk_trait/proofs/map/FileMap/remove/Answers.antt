use Rattle.std.proofs.Common.{None}
use Rattle.disk_trait.proofs.Listing.{updated}
use Rattle.disk_trait.proofs.map.FileMap.remove.Goals as goal

pub returns : goal.returns
returns c = updated c.args.self.now (record { inner = c.remove.new.self }) c.args.file None c.remove.ensures.updates.0
