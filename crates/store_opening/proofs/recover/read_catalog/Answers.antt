use Rattle.std.proofs.Common.{Option, subst}
use Rattle.disk_trait.specs.Files.{Files}
use Rattle.office_catalog.specs.Held.{IsForeign}
use Rattle.store_opening.proofs.recover.read_catalog.Goals as goal

pub returns-in-Err-clause-foreign : goal.returns-in-Err-clause-foreign
returns-in-Err-clause-foreign g c = λ file found e. c.in-Err.ensures.foreign file found (c.catalog_refusal.ensures.foreign file found e)

pub returns-in-Err-clause-complete : goal.returns-in-Err-clause-complete
returns-in-Err-clause-complete g c = λ all known is holds file found e.
    c.held_files_are_not_foreign.ensures all known file found holds
    (subst (λ (t : Option Files). IsForeign t file found) is
    (c.in-Err.ensures.foreign file found (c.catalog_refusal.ensures.foreign file found e)))
