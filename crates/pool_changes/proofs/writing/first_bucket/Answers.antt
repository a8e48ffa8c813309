use Rattle.std.proofs.Common.{List, ℕ, Option, refl, subst}
use Rattle.pool_changes.specs.Kept.{slots_of}
use Rattle.pool_changes.specs.Listed.{index_of}
use Rattle.pool_changes.specs.Writing.{IsFileOf, layered}
use Rattle.pool_changes.proofs.Changing.{first_file}
use Rattle.pool_changes.proofs.writing.first_bucket.Goals as goal

pub returns-in-Ok-None : goal.returns-in-Ok-None
returns-in-Ok-None c = c.in-Ok-None.ensures.none c.in-Ok-None.field-0-is

pub returns-in-Ok-Some : goal.returns-in-Ok-Some
returns-in-Ok-Some c =
    let new = index_of (layered (slots_of c.args.names.now) (slots_of c.args.over.now)) in
    first_file (index_of (slots_of c.args.names.now)) new c.args.byte _ c.in-Ok-Some.bytes refl (subst (λ (bytes : Option (List ℕ)). IsFileOf c.args.byte new bytes) c.in-Ok-Some.field-0-is c.in-Ok-Some.ensures)
