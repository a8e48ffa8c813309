-- One magic, another, or none of them.
use Rattle.std.proofs.Common.{◌≡◌, ◌∙◌, ℕ, Some, Result, subst, ap}
use Rattle.wire_bytes.specs.Reading.{Reading}
use Rattle.backup_index.specs.declared.layouts.IndexLayout.{IndexLayout}
use Rattle.backup_index.specs.declared.layouts.IndexLayout.TheVariants.{First, Second, Third}
use Rattle.backup_index.proofs.Magics.{ReadsMagic, layout_found, layout_refused}
use Rattle.backup_index.proofs.fields.read_layout.Goals as goal

from_same : {E : Type 0} (old old' new : Reading) (layout : IndexLayout) (result : Result (Unit {0}) E) → old' ≡ old → ReadsMagic old' layout result new → ReadsMagic old layout result new
from_same old old' new layout result same reads = subst (λ (at : Reading). ReadsMagic at layout result new) same reads

pub returns-in-Ok : goal.returns-in-Ok
returns-in-Ok c = layout_found _ Third _ c.in-Ok.ensures.field.reads

pub returns-in-Ok-read_magic : goal.returns-in-Ok-read_magic
returns-in-Ok-read_magic c = layout_found _ Second _ (from_same _ _ _ Second _ c.in-Err.ensures.same c.in-Ok-read_magic.ensures.field.reads)

pub returns-in-Ok-read_magic-2 : goal.returns-in-Ok-read_magic-2
returns-in-Ok-read_magic-2 c = layout_found _ First _ (from_same _ _ _ First _ (c.in-Err-read_magic.ensures.same ∙ c.in-Err.ensures.same) c.in-Ok-read_magic-2.ensures.field.reads)

pub returns-in-Err-read_magic-2 : goal.returns-in-Err-read_magic-2
returns-in-Err-read_magic-2 c =
    layout_refused _ _ _ _ _ _ _ _ c.in-Err.ensures.field.reads
    (from_same _ _ _ Second _ c.in-Err.ensures.same c.in-Err-read_magic.ensures.field.reads)
    (from_same _ _ _ First _ (c.in-Err-read_magic.ensures.same ∙ c.in-Err.ensures.same) c.in-Err-read_magic-2.ensures.field.reads)
    (ap (λ (n : ℕ). Some n) c.offset-start.ensures.value)
