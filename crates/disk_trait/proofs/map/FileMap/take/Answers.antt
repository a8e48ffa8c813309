use Rattle.std.proofs.Common.{None}
use Rattle.disk_trait.proofs.Listing.{updated}
use Rattle.disk_trait.proofs.map.FileMap.take.Goals as goal

pub returns-in-Some-clause-gone : goal.returns-in-Some-clause-gone
returns-in-Some-clause-gone c = updated c.args.self.now (record { inner = c.remove.new.self }) c.args.file None c.remove.ensures.updates.0

pub returns-in-None-clause-gone : goal.returns-in-None-clause-gone
returns-in-None-clause-gone c = updated c.args.self.now (record { inner = c.remove.new.self }) c.args.file None c.remove.ensures.updates.0
