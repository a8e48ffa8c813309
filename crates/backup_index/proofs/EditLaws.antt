-- Lines that are sound after one is put behind them, or in the place of another.
use Rattle.std.proofs.Common.{◌≡◌, ℕ, zero, suc, ◌+◌, ◌<◌, ◌≤◌, Bool, true, false, List, [], ◌∷◌, ◌++◌, length, get_or, None, refl, sym, subst, arith}
use Rattle.std.specs.Prelude.{slice_set}
use Rattle.std.proofs.lemmas.Bool.{false≢true}
use Rattle.backup_rules.specs.declared.lines.Line.{Line}
use Rattle.backup_index.specs.Lines.{Follows, is_none, LinesFrom, IsSound, broken_line}
use Rattle.backup_index.specs.LinesLaws.{follows_from_none}

some_behind : (lines : List Line) (line : Line) → is_none (lines ++ line ∷ []) ≡ false
some_behind [] line = refl
some_behind (other ∷ lines) line = refl

-- a line that isn't the last, below a greater number
still_follows : (low next more : ℕ) (is_last : Bool) (line : Line) → next ≤ more → Follows low next is_last line → Follows low more false line
still_follows low next more is_last line above is = record { rising = is.rising; below = let b : line.number < next = is.below in omega arith; filled = λ e. absurd (false≢true e) }

appended : (low next : ℕ) (lines : List Line) (line : Line) → low ≤ next → LinesFrom low next lines → Follows next (line.number + 1) true line → LinesFrom low (line.number + 1) (lines ++ line ∷ [])
appended low next [] line under from last = (record { rising = let r : next ≤ line.number = last.rising in omega arith; below = last.below; filled = last.filled }, tt)
appended low next (other ∷ lines) line under from last =
    let first : Follows low next (is_none lines) other = from.0 in
    let below : other.number < next = first.below in
    let rising : next ≤ line.number = last.rising in (
      subst (λ (b : Bool). Follows low (line.number + 1) b other) (sym (some_behind lines line)) (still_follows low next (line.number + 1) (is_none lines) other (omega arith) first),
      appended (other.number + 1) next lines line (omega arith) from.1 last,
    )

appended_sound : (next : ℕ) (lines : List Line) (line : Line) → line.number < 4294967296 → IsSound next lines → Follows next (line.number + 1) true line → IsSound (line.number + 1) (lines ++ line ∷ [])
appended_sound next lines line small sound last = record { bound = omega arith; in_turn = appended 0 next lines line (omega arith) sound.in_turn last }

pub append_sound : (next more : ℕ) (lines lines' : List Line) (line : Line) → more ≡ line.number + 1 → line.number < 4294967296 → IsSound next lines → None ≡ broken_line next more true line → lines' ≡ lines ++ line ∷ [] → IsSound more lines'
append_sound next more lines lines' line is small sound unbroken put =
    let last : Follows next more true line = follows_from_none next more true line (sym unbroken) in
    subst (λ (l : List Line). IsSound more l) (sym put)
    (subst (λ (n : ℕ). IsSound n (lines ++ line ∷ [])) (sym is) (appended_sound next lines line small sound (subst (λ (n : ℕ). Follows next n true line) is last)))

-- ---- in the place of another

same_end : (lines : List Line) (i : ℕ) (line : Line) → is_none (slice_set lines i line) ≡ is_none lines
same_end [] i line = refl
same_end (other ∷ lines) zero line = refl
same_end (other ∷ lines) (suc i) line = refl

end_is_last : (lines : List Line) → is_none lines ≡ true → 1 ≡ suc (length lines)
end_is_last [] e = refl
end_is_last (line ∷ lines) e = absurd (false≢true e)

replaced : (low next : ℕ) (lines : List Line) (i : ℕ) (line d : Line) → LinesFrom low next lines → (get_or lines i d).number ≡ line.number → i < length lines → (i + 1 ≡ length lines → line.filled ≡ true) → LinesFrom low next (slice_set lines i line)
replaced low next [] i line d from same within last = absurd (omega arith)
replaced low next (other ∷ lines) zero line d from same within last =
    let first : Follows low next (is_none lines) other = from.0 in (
      record {
        rising = subst (λ n. low ≤ n) same first.rising;
        below = subst (λ n. n < next) same first.below;
        filled = λ e. last (end_is_last lines e);
      },
      subst (λ n. LinesFrom (n + 1) next lines) same from.1,
    )
replaced low next (other ∷ lines) (suc i) line d from same within last = (
  subst (λ (b : Bool). Follows low next b other) (sym (same_end lines i line)) from.0,
  replaced (other.number + 1) next lines i line d from.1 same (omega arith) (λ e. last (omega arith)),
)

pub replaced_sound : (next : ℕ) (lines : List Line) (i : ℕ) (line d : Line) → IsSound next lines → (get_or lines i d).number ≡ line.number → i < length lines → (i + 1 ≡ length lines → line.filled ≡ true) → IsSound next (slice_set lines i line)
replaced_sound next lines i line d sound same within last = record { bound = sound.bound; in_turn = replaced 0 next lines i line d sound.in_turn same within last }
