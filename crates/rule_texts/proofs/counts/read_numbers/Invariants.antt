-- What the pieces that are left say stands behind the numbers so far.
use Rattle.std.proofs.Common.{◌≡◌, ◌++◌, ℕ, List, map, drop}
use Rattle.std.specs.Prelude.{option_map}
use Rattle.http_query.specs.Numbers.{number_of}
use Rattle.rule_texts.specs.Periods.{each_of}
use Rattle.rule_texts.proofs.counts.read_numbers.Given as goal

abbrev pub invariant-loop-piece : goal.invariant-loop-piece
invariant-loop-piece l =
    each_of (number_of 1000) (map (λ piece. piece.now) l.pieces)
    ≡ option_map (λ (others : List ℕ). l.numbers.items ++ others)
    (each_of (number_of 1000) (map (λ piece. piece.now) (drop l.piece-index l.pieces)))
