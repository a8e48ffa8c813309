-- What the pieces that are left say stands behind the periods so far.
use Rattle.std.proofs.Common.{◌≡◌, ◌≤◌, ◌++◌, List, length, map, drop}
use Rattle.std.specs.Prelude.{option_map}
use Rattle.backup_rules.specs.Values.{Span}
use Rattle.rule_texts.specs.Periods.{each_of, period_of}
use Rattle.rule_texts.proofs.periods.read_each.Given as goal

abbrev pub invariant-loop-piece : goal.invariant-loop-piece
invariant-loop-piece l = record {
  rest : each_of period_of (map (λ piece. piece.now) l.pieces)
      ≡ option_map (λ (others : List Span). l.periods ++ others) (each_of period_of (map (λ piece. piece.now) (drop l.piece-index l.pieces)));
  few : length l.periods ≤ 16;
}
