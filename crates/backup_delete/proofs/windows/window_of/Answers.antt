-- From the older neighbour of the oldest one on, none before it is deleted; up to a filled one, none behind it. A deleted one is as near.
use Rattle.std.proofs.Common.{◌≡◌, ◌-◌, ◌<◌, ◌≤◌, ℕ, zero, suc, ◌+◌, Bool, true, false, ◌||◌, List, [], ◌∷◌, length, take, drop, refl, sym, ap, ◌∙◌, arith}
use Rattle.std.specs.Prelude.{nat_lt}
use Rattle.std.proofs.lemmas.Bool.{false≢true}
use Rattle.std.proofs.lemmas.Bool.Decides.{nat_tests}
use Rattle.std.proofs.lemmas.List.{take_all}
use Rattle.backup_rules.specs.declared.lines.Line.{Line}
use Rattle.backup_delete.specs.Trees.{is_first_filled, is_gone, is_next_gone}
use Rattle.backup_delete.specs.Towers.{folds}
use Rattle.backup_delete.specs.Windows.{part, any_gone, IsWindow}
use Rattle.backup_delete.specs.WindowLaws.{or_left, or_right}
use Rattle.backup_delete.proofs.windows.window_of.Goals as goal

module _ (numbers : List ℕ) where
  fewer_before : (m n : ℕ) (lines : List Line) → m ≤ n → any_gone numbers (take n lines) ≡ false → any_gone numbers (take m lines) ≡ false
  fewer_before zero n lines less none = refl
  fewer_before (suc m) n [] less none = refl
  fewer_before (suc m) zero (line ∷ lines) less none = absurd (omega (arith, less))
  fewer_before (suc m) (suc n) (line ∷ lines) less none =
      step (is_gone numbers line.number) none (λ rest. fewer_before m n lines (omega (arith, less)) rest)
    where
      step : (b : Bool) → (b || any_gone numbers (take n lines)) ≡ false
          → (any_gone numbers (take n lines) ≡ false → any_gone numbers (take m lines) ≡ false)
          → (b || any_gone numbers (take m lines)) ≡ false
      step true e rest = e
      step false e rest = rest e

  stays_before : (m n : ℕ) (lines : List Line) → m < n → any_gone numbers (take n lines) ≡ false → is_next_gone numbers (drop m lines) ≡ false
  stays_before zero n [] less none = refl
  stays_before (suc m) n [] less none = refl
  stays_before m zero (line ∷ lines) less none = absurd (omega (arith, less))
  stays_before zero (suc n) (line ∷ lines) less none = or_left (is_gone numbers line.number) (any_gone numbers (take n lines)) none
  stays_before (suc m) (suc n) (line ∷ lines) less none =
      stays_before m n lines (omega (arith, less)) (or_right (is_gone numbers line.number) (any_gone numbers (take n lines)) none)

  fewer_behind : (m n : ℕ) (lines : List Line) → m ≤ n → any_gone numbers (drop m lines) ≡ false → any_gone numbers (drop n lines) ≡ false
  fewer_behind zero zero lines less none = none
  fewer_behind (suc m) zero lines less none = absurd (omega (arith, less))
  fewer_behind zero (suc n) [] less none = refl
  fewer_behind zero (suc n) (line ∷ lines) less none =
      fewer_behind zero n lines (omega arith) (or_right (is_gone numbers line.number) (any_gone numbers lines) none)
  fewer_behind (suc m) (suc n) [] less none = refl
  fewer_behind (suc m) (suc n) (line ∷ lines) less none = fewer_behind m n lines (omega (arith, less)) none

  first_stays : (lines : List Line) → any_gone numbers lines ≡ false → is_next_gone numbers lines ≡ false
  first_stays [] none = refl
  first_stays (line ∷ lines) none = or_left (is_gone numbers line.number) (any_gone numbers lines) none

  is_window : (lines : List Line) (oldest behind first end : ℕ) → any_gone numbers (take oldest lines) ≡ false → oldest ≤ behind
      → any_gone numbers (drop behind lines) ≡ false → first ≤ oldest
      → (0 < first → first ≡ oldest → is_first_filled (drop (first - 1) lines) ≡ true) → behind ≤ end → end ≤ length lines
      → (end < length lines → 0 < folds numbers (part first end lines) → behind < end)
      → (end < length lines → 0 < folds numbers (part first end lines) → is_first_filled (drop (end - 1) lines) ≡ true)
      → IsWindow numbers lines first end
  is_window lines oldest behind first end none after rest is before more within some filled = record {
    within = within;
    before = fewer_before first oldest lines is none;
    behind = fewer_behind behind end lines more rest;
    rises = omega (arith, is, after, more);
    oldest = λ newer gone. step newer gone (nat_lt first oldest) refl;
    newest = λ less stay.
        let past = some less stay in
        record {
          filled = filled less stay;
          stays = first_stays (drop (end - 1) lines) (fewer_behind behind (end - 1) lines (omega (arith, past)) rest);
        };
  }
    where
      step : 0 < first → is_next_gone numbers (drop first lines) ≡ true → (b : Bool) → nat_lt first oldest ≡ b
          → is_first_filled (drop (first - 1) lines) ≡ true
      step newer gone true e =
          let less : first < oldest = grind (arith, nat_tests, e) in
          absurd (false≢true (sym (stays_before first oldest lines less none) ∙ gone))
      step newer gone false e = let same : first ≡ oldest = grind (arith, nat_tests, e, is) in before newer same

  module _ (lines : List Line) (oldest behind : ℕ) (none : any_gone numbers (take oldest lines) ≡ false)
      (rest : any_gone numbers (drop behind lines) ≡ false) (some : any_gone numbers lines ≡ true) (within : oldest ≤ length lines) where
    -- one of them is the oldest
    some_oldest : oldest < length lines
    some_oldest = step (nat_lt oldest (length lines)) refl
      where
        step : (b : Bool) → nat_lt oldest (length lines) ≡ b → oldest < length lines
        step true e = grind (arith, nat_tests, e)
        step false e =
            let all : length lines ≤ oldest = grind (arith, nat_tests, e) in
            absurd (false≢true (sym (ap (any_gone numbers) (sym (take_all oldest lines all)) ∙ none) ∙ some))

    near : (first : ℕ) → (oldest < length lines → any_gone numbers (take (oldest + 1) lines) ≡ true) → oldest ≤ first + 1
        → any_gone numbers (take (first + 2) lines) ≡ true
    near first here is = step (any_gone numbers (take (first + 2) lines)) refl
      where
        step : (b : Bool) → any_gone numbers (take (first + 2) lines) ≡ b → b ≡ true
        step true e = refl
        step false e = sym (fewer_before (oldest + 1) (first + 2) lines (omega (arith, is)) e) ∙ here some_oldest

    unfilled : (end i : ℕ) → oldest ≤ behind → (oldest < length lines → any_gone numbers (drop oldest lines) ≡ true)
        → (oldest < behind → any_gone numbers (drop (behind - 1) lines) ≡ true)
        → ((i : ℕ) → behind ≤ i → i + 1 < end → is_first_filled (drop i lines) ≡ false)
        → any_gone numbers (drop i lines) ≡ false → i + 1 < end → is_first_filled (drop i lines) ≡ false
    unfilled end i after on newest is past less = step (nat_lt i behind) refl
      where
        more : oldest < behind
        more = step (nat_lt oldest behind) refl
          where
            step : (b : Bool) → nat_lt oldest behind ≡ b → oldest < behind
            step true e = grind (arith, nat_tests, e)
            step false e =
                let least : behind ≤ oldest = grind (arith, nat_tests, e) in
                absurd (false≢true (sym (fewer_behind behind oldest lines least rest) ∙ on some_oldest))

        step : (b : Bool) → nat_lt i behind ≡ b → is_first_filled (drop i lines) ≡ false
        step true e =
            let below : i ≤ behind - 1 = grind (arith, nat_tests, e) in
            absurd (false≢true (sym (fewer_behind i (behind - 1) lines below past) ∙ newest more))
        step false e = let least : behind ≤ i = grind (arith, nat_tests, e) in is i least less

pub returns-clause-narrow : goal.returns-clause-narrow
returns-clause-narrow c =
    let numbers = c.args.numbers.now in
    let lines = c.args.lines.now in
    let oldest = c.oldest_gone-oldest in
    let behind = c.behind_gone-behind in
    record {
      near = λ some.
          near numbers lines oldest.result behind.result oldest.ensures.before behind.ensures.behind some oldest.ensures.within
          c.first_touched-first.result oldest.ensures.here c.first_touched-first.ensures.near;
      unfilled = λ some i past less.
          unfilled numbers lines oldest.result behind.result oldest.ensures.before behind.ensures.behind some oldest.ensures.within
          c.window_end-end.result i behind.ensures.after oldest.ensures.on behind.ensures.newest c.window_end-end.ensures.unfilled
          past less;
    }

pub returns-clause-window : goal.returns-clause-window
returns-clause-window c =
    is_window c.args.numbers.now c.args.lines.now c.oldest_gone-oldest.result c.behind_gone-behind.result c.first_touched-first.result
    c.window_end-end.result c.oldest_gone-oldest.ensures.before c.behind_gone-behind.ensures.after c.behind_gone-behind.ensures.behind
    c.first_touched-first.ensures.before c.first_touched-first.ensures.filled c.window_end-end.ensures.after c.window_end-end.ensures.within c.window_end-end.ensures.more
    c.window_end-end.ensures.filled
