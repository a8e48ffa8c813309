-- The line has the number of the one before it in this place.
use Rattle.std.proofs.Common.{◌≡◌, ℕ, ◌+◌, ◌<◌, true, List, length, get_or, sym, subst, ap, ◌∙◌}
use Rattle.std.specs.Prelude.{slice_set}
use Rattle.backup_rules.specs.declared.lines.Line.{Line}
use Rattle.backup_index.specs.Lines.{IsSound}
use Rattle.backup_index.specs.Index.{Index}
use Rattle.backup_index.proofs.EditLaws.{replaced_sound}
use Rattle.backup_index.proofs.index.HostIndex.replace.Goals as goal

whole : (index : ℕ) (line : Line) (next : ℕ) (lines lines' : List Line) (view : Index) (len : ℕ) → view.lines ≡ lines → IsSound next lines → (get_or view.lines index line).number ≡ line.number → index < length view.lines
    → len ≡ length lines → (index + 1 ≡ len → line.filled ≡ true) → lines' ≡ slice_set lines index line → IsSound next lines'
whole index line next lines lines' view len seen sound same within counted last put =
    subst (IsSound next) (sym put)
    (replaced_sound next lines index line line sound (subst (λ (l : List Line). (get_or l index line).number ≡ line.number) seen same) (subst (λ (l : List Line). index < length l) seen within)
    (λ e. last (e ∙ sym counted)))

pub invariant_of-self : goal.invariant_of-self
invariant_of-self c = whole c.args.index c.args.line _ _ _ c.args.self.now c.len.result (ap (λ i. i.lines) (sym c.self.view_is)) c.self.invariant c.requires.same c.requires.within c.len.ensures (c.may_stand.ensures.0 c.if-not-may_stand.false) c.set.ensures
