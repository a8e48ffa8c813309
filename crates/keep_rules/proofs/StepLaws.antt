-- One step of a walk down the lines: from n lines that are left to n - 1.
--     next_back, next_filled, next_other      the next older filled one
--     reached, reached_in, reached_out      the flags, at a line of the group and at one that isn't
--     count_back, kept_back, kept_in      the numbers of the newer ones
--     none_more, same_more      a number that stays, and one that a test adds to
--     kept_small      there are at most as many kept ones as lines
use Rattle.std.proofs.Common.{◌≡◌, ℕ, ◌+◌, ◌-◌, ◌<◌, ◌≤◌, suc, Bool, true, false, ◌&&◌, cond, List, [], ◌∷◌, ◌++◌, length, get_or, take, drop, set, Option, Some, None, refl, sym, ap, ◌∙◌, append_assoc, subst, arith}
use Rattle.std.proofs.Math.Seq.{take-suc, drop-cons, set-append_seam}
use Rattle.std.proofs.lemmas.Bool.{cond-true, cond-false, and_left, cond_both}
use Rattle.std.proofs.lemmas.List.{length-take-le}
use Rattle.std.proofs.lemmas.List.Sums.{sum_by-cons}
use Rattle.std.specs.List.{count_by}
use Rattle.backup_rules.specs.declared.lines.Line.{Line}
use Rattle.backup_rules.specs.Values.{RuleSet}
use Rattle.keep_rules.specs.declared.groups.Group.{Group}
use Rattle.keep_rules.specs.Groups.{is_in, is_filled_in, is_unfilled_in}
use Rattle.keep_rules.specs.Keeping.{is_kept, nearer, next_older, kept_count}
use Rattle.keep_rules.specs.SetLaws.{last_snoc}
use Rattle.keep_rules.specs.Walk.{judged, flag_of, walked}

-- ---- a list at the last of its first n

module _ {A : Type 0} where
  take_back : (xs : List A) (n : ℕ) (d : A) → 0 < n → n ≤ length xs → take n xs ≡ take (n - 1) xs ++ get_or xs (n - 1) d ∷ []
  take_back xs n d some within =
      let next : n ≡ suc (n - 1) = omega arith in
      ap (λ (k : ℕ). take k xs) next ∙ take-suc xs (n - 1) d (omega arith)

  drop_back : (xs : List A) (n : ℕ) (d : A) → 0 < n → n ≤ length xs → drop (n - 1) xs ≡ get_or xs (n - 1) d ∷ drop n xs
  drop_back xs n d some within =
      let next : suc (n - 1) ≡ n = omega arith in
      drop-cons xs (n - 1) d (omega arith) ∙ ap (λ (k : ℕ). get_or xs (n - 1) d ∷ drop k xs) next

  pub count_back : (p : A → Bool) (xs : List A) (n : ℕ) (d : A) → 0 < n → n ≤ length xs
      → count_by p (drop (n - 1) xs) ≡ cond (p (get_or xs (n - 1) d)) 1 0 + count_by p (drop n xs)
  count_back p xs n d some within =
      ap (count_by p) (drop_back xs n d some within) ∙ sum_by-cons (λ (x : A). cond (p x) 1 0) (get_or xs (n - 1) d) (drop n xs)

-- none is counted, if a test fails
pub none_more : (a b : Bool) (m : ℕ) → a ≡ false → cond (a && b) 1 0 + m ≡ m
none_more a b m fails = ap (λ (t : Bool). cond t 1 0 + m) (and_left a b fails) ∙ omega arith

-- the first test holds
pub same_more : (a b : Bool) (m n : ℕ) → a ≡ true → m ≡ n → cond b 1 0 + m ≡ cond (a && b) 1 0 + n
same_more a b m n holds same = rw (holds, same) refl

-- the same where the test asks for the number
kept_more : (inside filled : Bool) (test : ℕ → Bool) (m n : ℕ) → inside ≡ true → m ≡ n
    → cond (filled && test m) 1 0 + m ≡ cond ((inside && filled) && test n) 1 0 + n
kept_more inside filled test m n holds same = rw (holds, same) refl

module _ (rules : RuleSet) (now : ℕ) (group : Group) where
  pub kept_small : (older : Option ℕ) (lines : List Line) → kept_count rules now group older lines ≤ length lines
  kept_small older [] = omega arith
  kept_small older (line ∷ newer) =
      let rest : kept_count rules now group (nearer rules now group older line) newer ≤ length newer = kept_small (nearer rules now group older line) newer in
      let test : Bool = is_filled_in rules now group line && is_kept rules group (kept_count rules now group (nearer rules now group older line) newer) line.start older in
      cond_both test 1 0 (λ (n : ℕ). n + kept_count rules now group (nearer rules now group older line) newer ≤ suc (length newer))
      (λ e. omega (arith, rest)) (λ e. omega (arith, rest))

  module _ (lines : List Line) (n : ℕ) (d : Line) (some : 0 < n) (within : n ≤ length lines) where
    abbrev line : Line
    line = get_or lines (n - 1) d

    abbrev next : Option ℕ
    next = next_older rules now group (take (n - 1) lines)

    abbrev newer : List Line
    newer = drop n lines

    pub next_back : next_older rules now group (take n lines) ≡ nearer rules now group next line
    next_back = ap (next_older rules now group) (take_back lines n d some within) ∙ last_snoc rules now group None (take (n - 1) lines) line

    pub next_filled : is_in rules now group line ≡ true → line.filled ≡ true → next_older rules now group (take n lines) ≡ Some line.start
    next_filled inside filled = next_back ∙ rw (inside, filled) refl

    pub next_other : is_filled_in rules now group line ≡ false → next_older rules now group (take n lines) ≡ next
    next_other other = next_back ∙ cond-false (is_filled_in rules now group line) (Some line.start) next other

    pub kept_back : kept_count rules now group next (drop (n - 1) lines)
        ≡ cond (is_filled_in rules now group line && is_kept rules group (kept_count rules now group (next_older rules now group (take n lines)) newer) line.start next) 1 0
        + kept_count rules now group (next_older rules now group (take n lines)) newer
    kept_back =
        ap (kept_count rules now group next) (drop_back lines n d some within)
        ∙ ap (λ (o : Option ℕ). cond (is_filled_in rules now group line && is_kept rules group (kept_count rules now group o newer) line.start next) 1 0
        + kept_count rules now group o newer)
        (sym next_back)

    -- one filled line of the group more
    pub kept_in : (kept : ℕ) → is_in rules now group line ≡ true → kept ≡ kept_count rules now group (next_older rules now group (take n lines)) newer
        → cond (line.filled && is_kept rules group kept line.start next) 1 0 + kept ≡ kept_count rules now group next (drop (n - 1) lines)
    kept_in kept inside is =
        kept_more (is_in rules now group line) line.filled (λ (m : ℕ). is_kept rules group m line.start next) kept
        (kept_count rules now group (next_older rules now group (take n lines)) newer) inside is
        ∙ sym kept_back

    module _ (flags : List Bool) (enough : length lines ≤ length flags) where
      -- what the walk made of the lines behind
      abbrev behind : List Bool
      behind = walked rules now group (next_older rules now group (take n lines)) newer (drop n flags)

      abbrev flag : Bool
      flag = get_or flags (n - 1) false

      reached_same : take n flags ++ behind ≡ take (n - 1) flags ++ flag ∷ behind
      reached_same =
          ap (λ (l : List Bool). l ++ behind) (take_back flags n false some (omega arith))
          ∙ append_assoc (take (n - 1) flags) (flag ∷ []) behind

      reached_back : take (n - 1) flags ++ walked rules now group next (drop (n - 1) lines) (drop (n - 1) flags)
          ≡ take (n - 1) flags ++ flag_of rules now group next line newer flag ∷ behind
      reached_back =
          ap (λ (l : List Line). take (n - 1) flags ++ walked rules now group next l (drop (n - 1) flags)) (drop_back lines n d some within)
          ∙ ap (λ (l : List Bool). take (n - 1) flags ++ walked rules now group next (line ∷ newer) l) (drop_back flags n false some (omega arith))
          ∙ ap (λ (o : Option ℕ). take (n - 1) flags ++ flag_of rules now group next line newer flag ∷ walked rules now group o newer (drop n flags)) (sym next_back)

      reached_set : (v : Bool) → set (take (n - 1) flags ++ flag ∷ behind) (n - 1) v ≡ take (n - 1) flags ++ v ∷ behind
      reached_set v =
          let count : length (take (n - 1) flags) ≡ n - 1 = length-take-le (n - 1) flags (omega arith) in
          subst (λ (k : ℕ). set (take (n - 1) flags ++ flag ∷ behind) k v ≡ take (n - 1) flags ++ v ∷ behind) count
          (set-append_seam (take (n - 1) flags) flag behind v)

      -- the flag of a line of the group is what is judged of it
      flag_in : (kept filled unfilled : ℕ) → is_in rules now group line ≡ true
          → kept ≡ kept_count rules now group (next_older rules now group (take n lines)) newer
          → filled ≡ count_by (is_filled_in rules now group) newer → unfilled ≡ count_by (is_unfilled_in rules now group) newer
          → judged rules now group next line kept filled unfilled ≡ flag_of rules now group next line newer flag
      flag_in kept filled unfilled inside kept_is filled_is unfilled_is =
          ap (λ (k : ℕ). judged rules now group next line k filled unfilled)
          (kept_is ∙ ap (λ (o : Option ℕ). kept_count rules now group o newer) next_back)
          ∙ ap (λ (m : ℕ). judged rules now group next line (kept_count rules now group (nearer rules now group next line) newer) m unfilled) filled_is
          ∙ ap (λ (m : ℕ). judged rules now group next line (kept_count rules now group (nearer rules now group next line) newer)
          (count_by (is_filled_in rules now group) newer) m)
          unfilled_is
          ∙ sym (cond-true (is_in rules now group line) _ flag inside)

      pub reached_in : (out : List Bool) (v : Bool) (kept filled unfilled : ℕ) → out ≡ take n flags ++ behind → is_in rules now group line ≡ true
          → kept ≡ kept_count rules now group (next_older rules now group (take n lines)) newer
          → filled ≡ count_by (is_filled_in rules now group) newer → unfilled ≡ count_by (is_unfilled_in rules now group) newer
          → v ≡ judged rules now group next line kept filled unfilled
          → set out (n - 1) v ≡ take (n - 1) flags ++ walked rules now group next (drop (n - 1) lines) (drop (n - 1) flags)
      reached_in out v kept filled unfilled reaches inside kept_is filled_is unfilled_is is =
          ap (λ (l : List Bool). set l (n - 1) v) (reaches ∙ reached_same)
          ∙ reached_set v
          ∙ ap (λ (b : Bool). take (n - 1) flags ++ b ∷ behind) (is ∙ flag_in kept filled unfilled inside kept_is filled_is unfilled_is)
          ∙ sym reached_back

      pub reached_out : (out : List Bool) → out ≡ take n flags ++ behind → is_in rules now group line ≡ false
          → out ≡ take (n - 1) flags ++ walked rules now group next (drop (n - 1) lines) (drop (n - 1) flags)
      reached_out out reaches outside =
          reaches ∙ reached_same
          ∙ ap (λ (b : Bool). take (n - 1) flags ++ b ∷ behind) (sym (cond-false (is_in rules now group line) _ flag outside))
          ∙ sym reached_back
