use Rattle.std.specs.Prelude.{◌≡◌, List, []}
use Rattle.office_model.specs.Office.{Office, Dump, Restore, Stage, Reader, raised, IsSound}
use Rattle.office_model.specs.laws.ReopenLaws.{IsSound-reopened}
use Rattle.tree_office.proofs.office.MemoryOffice.reopen.Goals as goal

reopen_keeps : (office : Office) (dumps : List Dump) (restores : List Restore) (stages : List Stage) (readers : List Reader) → IsSound office
    → dumps ≡ [] → restores ≡ [] → stages ≡ [] → readers ≡ []
    → IsSound (record { durable = raised office.durable; volatile = record { dumps = dumps; restores = restores; stages = stages; readers = readers; sequence = 0 } })
reopen_keeps office dumps restores stages readers sound d r s e = rw (d, r, s, e) (IsSound-reopened office.durable sound.kept)

pub invariant_of-self : goal.invariant_of-self
invariant_of-self c = reopen_keeps _ _ _ _ _ c.self.invariant c.clear.ensures.items c.clear-2.ensures.items c.clear-3.ensures.items c.clear-4.ensures.items
