use Rattle.disk_trait.proofs.Listing.{names_list}
use Rattle.disk_trait.proofs.map.FileMap.list.Goals as goal

pub returns-in-Ok : goal.returns-in-Ok
returns-in-Ok c = names_list c.args.self.now _ _ c.in-Ok.ensures.ordered c.in-Ok.ensures.names c.from_vec.ensures
