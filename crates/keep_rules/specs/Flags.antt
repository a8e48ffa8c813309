-- What the keeping rules name, by recursion.
--     is_named      whether a candidate is, by the starts of the next older filled ones of both groups and by the newer candidates
--     named_flags      a flag for each backup
use Rattle.std.specs.Prelude.{ℕ, Bool, false, ◌||◌, List, [], ◌∷◌, ◌++◌, Option, None}
use Rattle.backup_rules.specs.declared.lines.Line.{Line}
use Rattle.backup_rules.specs.Values.{RuleSet}
use Rattle.keep_rules.specs.declared.groups.Group.TheVariants.{Recent, Old}
use Rattle.keep_rules.specs.Keeping.{nearer, kept_at}
use Rattle.keep_rules.specs.Named.{names_in, candidates}

module _ (rules : RuleSet) (now : ℕ) where
  abbrev pub is_named : Option ℕ → Option ℕ → Line → List Line → Bool
  is_named recent old line newer =
      names_in rules now Recent (kept_at rules now Recent recent line newer) line newer
      || names_in rules now Old (kept_at rules now Old old line newer) line newer

  -- the flags of candidates
  abbrev pub candidate_flags : Option ℕ → Option ℕ → List Line → List Bool
  candidate_flags recent old [] = []
  candidate_flags recent old (line ∷ newer) =
      is_named recent old line newer ∷ candidate_flags (nearer rules now Recent recent line) (nearer rules now Old old line) newer

-- the newest one isn't named
unfoldable pub named_flags : RuleSet → ℕ → List Line → List Bool
named_flags rules now [] = []
named_flags rules now (line ∷ newer) = candidate_flags rules now None None (candidates (line ∷ newer)) ++ false ∷ []
