-- The next backup stays, too, or it is the one.
use Rattle.std.proofs.Common.{◌≡◌, ◌<◌, ℕ, zero, suc, Bool, true, false, ◌||◌, List, [], ◌∷◌, length, take, refl, sym, ap, ◌∙◌, add-one, arith}
use Rattle.backup_rules.specs.declared.lines.Line.{Line}
use Rattle.backup_delete.specs.Trees.{is_gone}
use Rattle.backup_delete.specs.Windows.{any_gone}
use Rattle.backup_delete.proofs.Steps.{line_at}
use Rattle.backup_delete.proofs.windows.oldest_gone.Goals as goal

one_more : (numbers : List ℕ) (lines : List Line) (i : ℕ) → any_gone numbers (take i lines) ≡ false
    → is_gone numbers (line_at lines i).number ≡ false → any_gone numbers (take (suc i) lines) ≡ false
one_more numbers [] i none stays = refl
one_more numbers (line ∷ lines) zero none stays = (λ k. stays k || false)
one_more numbers (line ∷ lines) (suc i) none stays =
    step (is_gone numbers line.number) none (λ rest. one_more numbers lines i rest stays)
  where
    step : (b : Bool) → (b || any_gone numbers (take i lines)) ≡ false
        → (any_gone numbers (take i lines) ≡ false → any_gone numbers (take (suc i) lines) ≡ false)
        → (b || any_gone numbers (take (suc i) lines)) ≡ false
    step true e rest = e
    step false e rest = rest e

pub up-preserved : goal.up-preserved
up-preserved c = record {
  within = omega (arith, c.up-test.true);
  before = ap (λ n. any_gone c.args.numbers.now (take n c.args.lines.now)) (add-one c.up.i)
      ∙ one_more c.args.numbers.now c.args.lines.now c.up.i c.up.invariant.before (sym c.if-is_gone.ensures);
}

one_gone : (numbers : List ℕ) (lines : List Line) (i : ℕ) → i < length lines → is_gone numbers (line_at lines i).number ≡ true
    → any_gone numbers (take (suc i) lines) ≡ true
one_gone numbers [] i less is = absurd (omega (arith, less))
one_gone numbers (line ∷ lines) zero less is = (λ k. is k || false)
one_gone numbers (line ∷ lines) (suc i) less is = step (is_gone numbers line.number) (one_gone numbers lines i (omega (arith, less)) is)
  where
    step : (b : Bool) → any_gone numbers (take (suc i) lines) ≡ true → (b || any_gone numbers (take (suc i) lines)) ≡ true
    step true rest = refl
    step false rest = rest

pub returns-then-is_gone-clause-here : goal.returns-then-is_gone-clause-here
returns-then-is_gone-clause-here c = λ less.
    ap (λ n. any_gone c.args.numbers.now (take n c.args.lines.now)) (add-one c.up.i)
    ∙ one_gone c.args.numbers.now c.args.lines.now c.up.i less (sym c.if-is_gone.ensures)
