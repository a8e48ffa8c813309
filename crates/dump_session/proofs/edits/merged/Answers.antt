use Rattle.std.proofs.Common.{◌≡◌, ℕ, List, true, sym, ap, ◌∙◌}
use Rattle.attr_records.specs.Paths.{is_within}
use Rattle.attr_records.specs.PathLaws.{within-itself}
use Rattle.dump_session.proofs.edits.merged.Goals as goal

itself : (path other slice place : List ℕ) → path ≡ place → other ≡ place → slice ≡ other → is_within slice path ≡ true
itself path other slice place a b e = ap (λ p. is_within p path) (e ∙ b ∙ sym a) ∙ within-itself path

pub is_gone-requires-clause-above : goal.is_gone-requires-clause-above
is_gone-requires-clause-above c = itself _ _ _ _ c.path.ensures c.path-in-both.ensures c.as_slice.ensures.value
