use Rattle.std.proofs.Common.{ℕ, ◌∙◌}
use Rattle.disk_trait.specs.Files.{Files}
use Rattle.disk_trait.specs.Images.{Leaves, LeavesOnly}
use Rattle.disk_trait.specs.ImagesLaws.{leaves_then}
use Rattle.store_dumps.proofs.putting.stage.Goals as goal

left : {D : Type 0} {moment : D → ℕ} {left_since : D → ℕ → Files → Type 0} {old new : D} {P : Files → Type 0}
    → LeavesOnly moment left_since old new P → Leaves moment left_since old new P
left only = record { later = only.later; since = only.since }

pub returns-in-Ok-match_or_stage-clause-crash : goal.returns-in-Ok-match_or_stage-clause-crash
returns-in-Ok-match_or_stage-clause-crash g c = λ all told certain.
    leaves_then (c.held_by.ensures.crash all told certain)
    (left (c.match_or_stage.ensures.any_moment all (c.held_by.ensures.told ∙ told) (c.held_by.ensures.certain certain)))

pub returns-in-Err-match_or_stage-clause-crash : goal.returns-in-Err-match_or_stage-clause-crash
returns-in-Err-match_or_stage-clause-crash g c = λ all told certain.
    leaves_then (c.held_by.ensures.crash all told certain)
    (left (c.match_or_stage.ensures.any_moment all (c.held_by.ensures.told ∙ told) (c.held_by.ensures.certain certain)))
