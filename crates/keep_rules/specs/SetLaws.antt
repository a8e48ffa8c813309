-- The set of the filled backups that the counts keep: there is one, and but one.
--     Computes      a set of which each filled candidate is a member as the recursion says
--     computes_where_kept, kept_where_computes      the equation says the same
--     kept_sets_agree      two sets that satisfy the equation agree on each filled candidate
--     kept_set, computes_kept_set, kept_set_exists      the set by recursion, which does so where the numbers rise
use Rattle.std.specs.Prelude.{◌≡◌, ℕ, ◌+◌, ◌<◌, ◌≤◌, nat_eq, Bool, true, false, ◌&&◌, if◌then◌else◌, cond, List, [], ◌∷◌, ◌++◌, Option, None}
use Rattle.std.proofs.Common.{refl, sym, ap, ◌∙◌, append_assoc, arith}
use Rattle.std.proofs.lemmas.Bool.Decides.{nat_tests}
use Rattle.std.proofs.lemmas.List.Sums.{sum_by-cons}
use Rattle.backup_rules.specs.declared.lines.Line.{Line}
use Rattle.backup_rules.specs.Values.{RuleSet}
use Rattle.keep_rules.specs.declared.groups.Group.{Group}
use Rattle.keep_rules.specs.Groups.{is_filled_in}
use Rattle.keep_rules.specs.Keeping.{is_kept, nearer, last_from, next_older, kept_count, kept_at}
use Rattle.keep_rules.specs.Sets.{Backups, members, IsKeptSet}
use Rattle.keep_rules.specs.Named.{RiseFrom}
use Rattle.keep_rules.specs.Laws.{KeptSetExists, KeptSetsAgree}

and_alike : (f a b : Bool) → (f ≡ true → a ≡ b) → (f && a) ≡ (f && b)
and_alike true a b same = same refl
and_alike false a b same = refl

if_same : (f : Bool) (n : ℕ) (a b : Bool) → f ≡ true → (if (f && nat_eq n n) then a else b) ≡ a
if_same f n a b so = grind (arith, nat_tests)

if_other : (f : Bool) (m n : ℕ) (a b : Bool) → m < n → (if (f && nat_eq m n) then a else b) ≡ b
if_other f m n a b below = grind (arith, nat_tests)

-- a number that stands later in rising ones is at least the first that may
later : (low : ℕ) (older newer : List Line) (line : Line) → RiseFrom low (older ++ line ∷ newer) → low ≤ line.number
later low [] newer line rise = rise.0
later low (x ∷ older) newer line rise =
    let behind : x.number + 1 ≤ line.number = later (x.number + 1) older newer line rise.1 in
    let first : low ≤ x.number = rise.0 in
    omega arith

later-lt : (number : ℕ) (older newer : List Line) (line : Line) → RiseFrom (number + 1) (older ++ line ∷ newer) → number < line.number
later-lt number older newer line rise = let above : number + 1 ≤ line.number = later (number + 1) older newer line rise in omega arith

module _ (rules : RuleSet) (now : ℕ) (group : Group) where
  abbrev pub Computes : List Line → Backups → Type 0
  Computes lines set = (older newer : List Line) (line : Line) → lines ≡ older ++ line ∷ newer → is_filled_in rules now group line ≡ true
      → set line.number ≡ kept_at rules now group (next_older rules now group older) line newer

  pub last_snoc : (older : Option ℕ) (lines : List Line) (line : Line)
      → last_from rules now group older (lines ++ line ∷ []) ≡ nearer rules now group (last_from rules now group older lines) line
  last_snoc older [] line = refl
  last_snoc older (x ∷ lines) line = last_snoc (nearer rules now group older x) lines line

  module _ (lines : List Line) (set : Backups) where
    -- the start of the next older one before the lines behind this one
    next_behind : (older newer : List Line) (line : Line)
        → kept_count rules now group (next_older rules now group (older ++ line ∷ [])) newer
        ≡ kept_count rules now group (nearer rules now group (next_older rules now group older) line) newer
    next_behind older newer line = ap (λ (o : Option ℕ). kept_count rules now group o newer) (last_snoc None older line)

    -- one line more is counted, if the set has it as the recursion does
    members_more : (older newer : List Line) (line : Line)
        → (is_filled_in rules now group line ≡ true → set line.number ≡ kept_at rules now group (next_older rules now group older) line newer)
        → members rules now group set newer ≡ kept_count rules now group (nearer rules now group (next_older rules now group older) line) newer
        → members rules now group set (line ∷ newer) ≡ kept_count rules now group (next_older rules now group older) (line ∷ newer)
    members_more older newer line same rest =
        sum_by-cons (λ (x : Line). cond (is_filled_in rules now group x && set x.number) 1 0) line newer
        ∙ ap (λ (b : Bool). cond b 1 0 + members rules now group set newer)
        (and_alike (is_filled_in rules now group line) (set line.number) (kept_at rules now group (next_older rules now group older) line newer) same)
        ∙ ap (λ (m : ℕ). cond (is_filled_in rules now group line && kept_at rules now group (next_older rules now group older) line newer) 1 0 + m) rest

    members_computed : Computes lines set → (older newer : List Line) → lines ≡ older ++ newer
        → members rules now group set newer ≡ kept_count rules now group (next_older rules now group older) newer
    members_computed computes older [] e = refl
    members_computed computes older (line ∷ newer) e =
        members_more older newer line (computes older newer line e)
        (members_computed computes (older ++ line ∷ []) newer (e ∙ sym (append_assoc older (line ∷ []) newer)) ∙ next_behind older newer line)

    members_kept : IsKeptSet rules now group lines set → (older newer : List Line) → lines ≡ older ++ newer
        → members rules now group set newer ≡ kept_count rules now group (next_older rules now group older) newer
    members_kept is older [] e = refl
    members_kept is older (line ∷ newer) e =
        let rest : members rules now group set newer ≡ kept_count rules now group (nearer rules now group (next_older rules now group older) line) newer =
        members_kept is (older ++ line ∷ []) newer (e ∙ sym (append_assoc older (line ∷ []) newer)) ∙ next_behind older newer line in
        members_more older newer line
        (λ filled. is.each older newer line e filled ∙ ap (λ (m : ℕ). is_kept rules group m line.start (next_older rules now group older)) rest)
        rest

    pub kept_where_computes : Computes lines set → IsKeptSet rules now group lines set
    kept_where_computes computes = record {
      each = λ older newer line e filled. computes older newer line e filled
          ∙ ap (λ (m : ℕ). is_kept rules group m line.start (next_older rules now group older))
          (sym (members_computed computes (older ++ line ∷ []) newer (e ∙ sym (append_assoc older (line ∷ []) newer)) ∙ next_behind older newer line));
    }

    pub computes_where_kept : IsKeptSet rules now group lines set → Computes lines set
    computes_where_kept is older newer line e filled = is.each older newer line e filled
        ∙ ap (λ (m : ℕ). is_kept rules group m line.start (next_older rules now group older))
        (members_kept is (older ++ line ∷ []) newer (e ∙ sym (append_assoc older (line ∷ []) newer)) ∙ next_behind older newer line)

  -- the filled ones that the recursion keeps
  abbrev pub kept_set : Option ℕ → List Line → Backups
  kept_set older [] n = false
  kept_set older (line ∷ newer) n =
      if (is_filled_in rules now group line && nat_eq line.number n)
      then kept_at rules now group older line newer
      else kept_set (nearer rules now group older line) newer n

  kept_set-at : (low : ℕ) (next : Option ℕ) (older newer : List Line) (line : Line) → RiseFrom low (older ++ line ∷ newer)
      → is_filled_in rules now group line ≡ true
      → kept_set next (older ++ line ∷ newer) line.number ≡ kept_at rules now group (last_from rules now group next older) line newer
  kept_set-at low next [] newer line rise filled =
      if_same (is_filled_in rules now group line) line.number (kept_at rules now group next line newer)
      (kept_set (nearer rules now group next line) newer line.number) filled
  kept_set-at low next (x ∷ older) newer line rise filled =
      if_other (is_filled_in rules now group x) x.number line.number (kept_at rules now group next x (older ++ line ∷ newer))
      (kept_set (nearer rules now group next x) (older ++ line ∷ newer) line.number)
      (later-lt x.number older newer line rise.1)
      ∙ kept_set-at (x.number + 1) (nearer rules now group next x) older newer line rise.1 filled

  pub computes_kept_set : (low : ℕ) (lines : List Line) → RiseFrom low lines → Computes lines (kept_set None lines)
  computes_kept_set low lines rise older newer line e filled =
      rw e (kept_set-at low None older newer line (rw e at rise) filled)

pub kept_sets_agree : KeptSetsAgree
kept_sets_agree rules now group lines set other is too older newer line e filled =
    computes_where_kept rules now group lines set is older newer line e filled
    ∙ sym (computes_where_kept rules now group lines other too older newer line e filled)

pub kept_set_exists : KeptSetExists
kept_set_exists rules now group lines rise = (
  kept_set rules now group None lines,
  kept_where_computes rules now group lines (kept_set rules now group None lines) (computes_kept_set rules now group 0 lines rise),
)
