-- Both walks, one after the other.
--     named_by_walks      both walks give the flags by recursion
use Rattle.std.proofs.Common.{◌≡◌, ℕ, Bool, true, false, not, ◌&&◌, ◌||◌, if◌then◌else◌, List, [], ◌∷◌, ◌++◌, length, replicate, Option, None, refl, sym, ap, ◌∙◌, length-append, arith}
use Rattle.std.proofs.lemmas.List.{replicate_more}
use Rattle.backup_rules.specs.declared.lines.Line.{Line}
use Rattle.backup_rules.specs.Values.{RuleSet}
use Rattle.keep_rules.specs.declared.groups.Group.TheVariants.{Recent, Old}
use Rattle.keep_rules.specs.Groups.{is_old, is_in}
use Rattle.keep_rules.specs.Keeping.{nearer}
use Rattle.keep_rules.specs.Flags.{is_named, candidate_flags, named_flags}
use Rattle.keep_rules.specs.FlagLaws.{named_flags-snoc}
use Rattle.keep_rules.specs.Walk.{flag_of, walked}

-- ---- the two groups

one_side : (free old : Bool) → ((free && not old) && (free && old)) ≡ false
one_side true true = refl
one_side true false = refl
one_side false old = refl

-- a line is in one group, or in none
either_group : (recent old named other : Bool) → (recent && old) ≡ false
    → (if old then other else (if recent then named else false)) ≡ ((recent && named) || (old && other))
either_group true true named other apart = cc
either_group true false true other apart = refl
either_group true false false other apart = refl
either_group false true named other apart = refl
either_group false false named other apart = refl

module _ (rules : RuleSet) (now : ℕ) where
  one_group : (line : Line) → (is_in rules now Recent line && is_in rules now Old line) ≡ false
  unfolding is_in
  one_group line = one_side (not line.keep) (is_old rules now line)

  flag_of-both : (recent old : Option ℕ) (line : Line) (newer : List Line)
      → flag_of rules now Old old line newer (flag_of rules now Recent recent line newer false) ≡ is_named rules now recent old line newer
  flag_of-both recent old line newer = either_group (is_in rules now Recent line) (is_in rules now Old line) _ _ (one_group line)

  both_walks : (recent old : Option ℕ) (lines : List Line) (rest : List Bool)
      → walked rules now Old old lines (walked rules now Recent recent lines (replicate (length lines) false ++ rest))
      ≡ candidate_flags rules now recent old lines ++ rest
  both_walks recent old [] rest = refl
  both_walks recent old (line ∷ newer) rest =
      ap (λ (b : Bool). b ∷ walked rules now Old (nearer rules now Old old line) newer
      (walked rules now Recent (nearer rules now Recent recent line) newer (replicate (length newer) false ++ rest)))
      (flag_of-both recent old line newer)
      ∙ ap (λ (l : List Bool). is_named rules now recent old line newer ∷ l)
      (both_walks (nearer rules now Recent recent line) (nearer rules now Old old line) newer rest)

  pub named_by_walks : (lines rest : List Line) (last : Line) → lines ≡ rest ++ last ∷ []
      → walked rules now Old None rest (walked rules now Recent None rest (replicate (length lines) false)) ≡ named_flags rules now lines
  named_by_walks lines rest last e =
      ap (λ (n : ℕ). walked rules now Old None rest (walked rules now Recent None rest (replicate n false)))
      (ap length e ∙ length-append rest (last ∷ []))
      ∙ ap (λ (l : List Bool). walked rules now Old None rest (walked rules now Recent None rest l)) (sym (replicate_more (length rest) false))
      ∙ both_walks None None rest (false ∷ [])
      ∙ sym (named_flags-snoc rules now rest last)
      ∙ sym (ap (named_flags rules now) e)

  pub named_nothing : (lines : List Line) (flags : List Bool) → length lines ≡ 0 → length flags ≡ 0 → flags ≡ named_flags rules now lines
  unfolding named_flags
  named_nothing [] [] none no_flags = refl
  named_nothing [] (flag ∷ flags) none no_flags = absurd (omega arith)
  named_nothing (line ∷ lines) flags none no_flags = absurd (omega arith)
