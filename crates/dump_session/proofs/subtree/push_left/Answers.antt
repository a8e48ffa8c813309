use Rattle.std.proofs.Common.{◌≡◌, ℕ, List, true, sym, ap, ◌∙◌}
use Rattle.attr_records.specs.Paths.{is_within}
use Rattle.attr_records.specs.PathLaws.{within-itself}
use Rattle.dump_session.specs.Removed.{is_gone}
use Rattle.dump_session.proofs.SubtreeLaws.{kept, pushed}
use Rattle.dump_session.proofs.subtree.push_left.Goals as goal

itself : (path other slice place : List ℕ) → path ≡ place → other ≡ place → slice ≡ other → is_within slice path ≡ true
itself path other slice place a b e = ap (λ p. is_within p path) (e ∙ b ∙ sym a) ∙ within-itself path

pub is_gone-requires-clause-above : goal.is_gone-requires-clause-above
is_gone-requires-clause-above c = itself _ _ _ _ c.path.ensures c.path-2.ensures c.as_slice.ensures.value

pub returns-then-is_gone : goal.returns-then-is_gone
returns-then-is_gone c =
    kept c.args.rows.now.items c.args.row.now _ (ap (is_gone c.args.removed.now.entries) (sym (c.as_slice.ensures.value ∙ c.path-2.ensures)) ∙ sym c.is_gone.ensures ∙ c.if-is_gone.true)
