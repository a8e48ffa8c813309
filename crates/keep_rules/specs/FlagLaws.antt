-- The flags by recursion.
--     length-named_flags, named_flags-snoc      a flag for each backup, of which the newest one's is false
--     newest_stays, kept_stays      what no rule names
--     flags_are_named      they are those of the set that satisfies the equation, and no others are
use Rattle.std.specs.Prelude.{◌≡◌, ℕ, ◌+◌, ◌-◌, ◌<◌, zero, suc, Bool, true, false, not, ◌&&◌, ◌||◌, if◌then◌else◌, List, [], ◌∷◌, ◌++◌, length, get_or, take, Option, None}
use Rattle.std.specs.List.{count_by}
use Rattle.std.proofs.Common.{refl, sym, ap, ◌∙◌, subst, append_assoc, arith, length-append}
use Rattle.std.proofs.Math.Seq.{take-append_seam}
use Rattle.std.proofs.Math.ListN.{get_or-append}
use Rattle.std.proofs.lemmas.List.{ext_get_or, get_or_push}
use Rattle.backup_rules.specs.declared.lines.Line.{Line}
use Rattle.backup_rules.specs.Values.{RuleSet}
use Rattle.keep_rules.specs.declared.groups.Group.{Group}
use Rattle.keep_rules.specs.declared.groups.Group.TheVariants.{Recent, Old}
use Rattle.keep_rules.specs.Groups.{is_old, is_side, is_in, is_filled_in, is_unfilled_in}
use Rattle.keep_rules.specs.Keeping.{nearer, last_from, next_older, kept_at}
use Rattle.keep_rules.specs.Sets.{Backups}
use Rattle.keep_rules.specs.Named.{names_filled, names_unfilled, names_in, candidates, RiseFrom, Rise, AreNamed}
use Rattle.keep_rules.specs.Flags.{is_named, candidate_flags, named_flags}
use Rattle.keep_rules.specs.SetLaws.{Computes, computes_where_kept, kept_where_computes, kept_set, computes_kept_set}
use Rattle.keep_rules.specs.Laws.{FlagsAreNamed, NewestStays, KeptStays}

-- ---- lists

module _ {A : Type 0} where
  -- a list with an element has a last one
  last_split : (x : A) (xs : List A) → (older : List A) × (last : A) × (x ∷ xs ≡ older ++ last ∷ [])
  last_split x [] = ([], x, refl)
  last_split x (y ∷ ys) = let rest = last_split y ys in (x ∷ rest.0, rest.1, ap (λ (l : List A). x ∷ l) rest.2)

  -- a list at one of its elements
  split_at : (xs : List A) (k : ℕ) → k < length xs → (older newer : List A) × (x : A) × (xs ≡ older ++ x ∷ newer) × (length older ≡ k)
  split_at [] k inside = absurd (omega arith)
  split_at (x ∷ xs) zero inside = ([], xs, x, refl, refl)
  split_at (x ∷ xs) (suc k) inside =
      let rest = split_at xs k (omega arith) in (x ∷ rest.0, rest.1, rest.2, ap (λ (l : List A). x ∷ l) rest.3, ap suc rest.4)

pub candidates-snoc : (older : List Line) (line : Line) → candidates (older ++ line ∷ []) ≡ older
candidates-snoc older line =
    let count : length (older ++ line ∷ []) - 1 ≡ length older = omega (arith, length-append older (line ∷ [])) in
    ap (λ (n : ℕ). take n (older ++ line ∷ [])) count ∙ take-append_seam older (line ∷ [])

rise-take : (low n : ℕ) (lines : List Line) → RiseFrom low lines → RiseFrom low (take n lines)
rise-take low zero lines rise = tt
rise-take low (suc n) [] rise = tt
rise-take low (suc n) (line ∷ lines) rise = (rise.0, rise-take (line.number + 1) n lines rise.1)

-- ---- tests

alike : (inside filled a b : Bool) (P : Bool → Bool) (q : Bool) → ((inside && filled) ≡ true → a ≡ b)
    → (inside && (if filled then P a else q)) ≡ (inside && (if filled then P b else q))
alike true true a b P q same = ap P (same refl)
alike true false a b P q same = refl
alike false filled a b P q same = refl

outside : (keep side named : Bool) → keep ≡ true → ((not keep && side) && named) ≡ false
outside true side named kept = refl
outside false side named kept = cc

both_false : (a b : Bool) → a ≡ false → b ≡ false → (a || b) ≡ false
both_false a b first second = cc

module _ (rules : RuleSet) (now : ℕ) where
  names_in-alike : (group : Group) (kept other : Bool) (line : Line) (newer : List Line)
      → (is_filled_in rules now group line ≡ true → kept ≡ other) → names_in rules now group kept line newer ≡ names_in rules now group other line newer
  names_in-alike group kept other line newer same =
      alike (is_in rules now group line) line.filled kept other
      (λ (b : Bool). names_filled rules now group b (count_by (is_filled_in rules now group) newer) line)
      (names_unfilled rules now group (count_by (is_unfilled_in rules now group) newer) line) same

  names_in-keep : (group : Group) (kept : Bool) (line : Line) (newer : List Line) → line.keep ≡ true → names_in rules now group kept line newer ≡ false
  unfolding is_in
  names_in-keep group kept line newer keeps = outside line.keep (is_side group (is_old rules now line)) _ keeps

  -- ---- the flags of candidates

  pub length-candidate_flags : (recent old : Option ℕ) (lines : List Line) → length (candidate_flags rules now recent old lines) ≡ length lines
  length-candidate_flags recent old [] = refl
  length-candidate_flags recent old (line ∷ newer) =
      ap suc (length-candidate_flags (nearer rules now Recent recent line) (nearer rules now Old old line) newer)

  candidate_flags-at : (recent old : Option ℕ) (older newer : List Line) (line : Line)
      → get_or (candidate_flags rules now recent old (older ++ line ∷ newer)) (length older) false
      ≡ is_named rules now (last_from rules now Recent recent older) (last_from rules now Old old older) line newer
  candidate_flags-at recent old [] newer line = refl
  candidate_flags-at recent old (x ∷ older) newer line =
      candidate_flags-at (nearer rules now Recent recent x) (nearer rules now Old old x) older newer line

  -- ---- all flags

  pub named_flags-snoc : (older : List Line) (line : Line) → named_flags rules now (older ++ line ∷ []) ≡ candidate_flags rules now None None older ++ false ∷ []
  unfolding named_flags
  named_flags-snoc [] line = refl
  named_flags-snoc (x ∷ older) line =
      ap (λ (l : List Line). candidate_flags rules now None None l ++ false ∷ []) (candidates-snoc (x ∷ older) line)

  pub length-named_flags : (lines : List Line) → length (named_flags rules now lines) ≡ length lines
  unfolding named_flags
  length-named_flags [] = refl
  length-named_flags (line ∷ newer) =
      let split = last_split line newer in
      ap (λ (l : List Line). length (named_flags rules now l)) split.2
      ∙ ap length (named_flags-snoc split.0 split.1)
      ∙ length-append (candidate_flags rules now None None split.0) (false ∷ [])
      ∙ ap (λ (n : ℕ). n + 1) (length-candidate_flags None None split.0)
      ∙ sym (length-append split.0 (split.1 ∷ []))
      ∙ sym (ap length split.2)

  -- the flag of a candidate
  named_flags-at : (older newer : List Line) (line last : Line)
      → get_or (named_flags rules now ((older ++ line ∷ newer) ++ last ∷ [])) (length older) false
      ≡ is_named rules now (next_older rules now Recent older) (next_older rules now Old older) line newer
  named_flags-at older newer line last =
      let inside : length older < length (candidate_flags rules now None None (older ++ line ∷ newer)) =
      omega (arith, length-candidate_flags None None (older ++ line ∷ newer), length-append older (line ∷ newer)) in
      ap (λ (l : List Bool). get_or l (length older) false) (named_flags-snoc (older ++ line ∷ newer) last)
      ∙ get_or-append (candidate_flags rules now None None (older ++ line ∷ newer)) (false ∷ []) false (length older) inside
      ∙ candidate_flags-at None None older newer line

  -- the flag of the newest one
  named_flags-newest : (older : List Line) (last : Line) → get_or (named_flags rules now (older ++ last ∷ [])) (length older) false ≡ false
  named_flags-newest older last =
      ap (λ (l : List Bool). get_or l (length older) false) (named_flags-snoc older last)
      ∙ get_or_push (candidate_flags rules now None None older) false false (length older) (length-candidate_flags None None older)

  -- ---- the flags are those that the rules name

  -- lines that have candidates have a newest one behind them
  with_newest : (lines older newer : List Line) (line : Line) → candidates lines ≡ older ++ line ∷ newer
      → (last : Line) × (lines ≡ (older ++ line ∷ newer) ++ last ∷ [])
  with_newest [] older newer line e = absurd (omega (arith, ap length e, length-append older (line ∷ newer)))
  with_newest (x ∷ xs) older newer line e =
      let split = last_split x xs in (
        split.1,
        split.2 ∙ ap (λ (l : List Line). l ++ split.1 ∷ []) (sym (candidates-snoc split.0 split.1) ∙ sym (ap candidates split.2) ∙ e),
      )

  either_alike : (a a' b b' : Bool) → a ≡ a' → b ≡ b' → (a || b) ≡ (a' || b')
  either_alike a a' b b' first second = cc

  module _ (lines : List Line) (recent old : Backups) (recent_computes : Computes rules now Recent (candidates lines) recent)
      (old_computes : Computes rules now Old (candidates lines) old) where
    -- a candidate is named by these sets exactly if its flag says so
    named_at : (older newer : List Line) (line : Line) → candidates lines ≡ older ++ line ∷ newer
        → get_or (named_flags rules now lines) (length older) false
        ≡ (names_in rules now Recent (recent line.number) line newer || names_in rules now Old (old line.number) line newer)
    named_at older newer line e =
        let split = with_newest lines older newer line e in
        ap (λ (l : List Line). get_or (named_flags rules now l) (length older) false) split.1
        ∙ named_flags-at older newer line split.0
        ∙ either_alike _ _ _ _
        (names_in-alike Recent (kept_at rules now Recent (next_older rules now Recent older) line newer) (recent line.number) line newer
        (λ filled. sym (recent_computes older newer line e filled)))
        (names_in-alike Old (kept_at rules now Old (next_older rules now Old older) line newer) (old line.number) line newer
        (λ filled. sym (old_computes older newer line e filled)))

  newest_at : (lines older : List Line) (line : Line) → lines ≡ older ++ line ∷ [] → get_or (named_flags rules now lines) (length older) false ≡ false
  newest_at lines older line e = ap (λ (l : List Line). get_or (named_flags rules now l) (length older) false) e ∙ named_flags-newest older line

  flag_at : (lines : List Line) (flags : List Bool) → AreNamed rules now lines flags
      → (older newer : List Line) (line : Line) → lines ≡ older ++ line ∷ newer
      → get_or flags (length older) false ≡ get_or (named_flags rules now lines) (length older) false
  flag_at lines flags named older [] line e =
      named.newest older line e ∙ sym (newest_at lines older line e)
  flag_at lines flags named older (y ∷ ys) line e =
      let split = last_split y ys in
      let whole : lines ≡ (older ++ line ∷ split.0) ++ split.1 ∷ [] =
      e ∙ ap (λ (l : List Line). older ++ line ∷ l) split.2 ∙ sym (append_assoc older (line ∷ split.0) (split.1 ∷ [])) in
      let some : candidates lines ≡ older ++ line ∷ split.0 = ap candidates whole ∙ candidates-snoc (older ++ line ∷ split.0) split.1 in
      named.each older split.0 line some
      ∙ sym (named_at lines named.recent named.old
      (computes_where_kept rules now Recent (candidates lines) named.recent named.recent_is)
      (computes_where_kept rules now Old (candidates lines) named.old named.old_is)
      older split.0 line some)

  flags_where_named : (lines : List Line) (flags : List Bool) → AreNamed rules now lines flags → flags ≡ named_flags rules now lines
  flags_where_named lines flags named =
      ext_get_or false flags (named_flags rules now lines) (named.counted ∙ sym (length-named_flags lines))
      (λ k inside.
      let at = split_at lines k (omega (arith, named.counted)) in
      subst (λ (n : ℕ). get_or flags n false ≡ get_or (named_flags rules now lines) n false) at.4
      (flag_at lines flags named at.0 at.1 at.2 at.3))

  named_where_flags : (lines : List Line) (flags : List Bool) → Rise lines → flags ≡ named_flags rules now lines → AreNamed rules now lines flags
  named_where_flags lines flags rise e =
      let set_of : Group → Backups = λ (group : Group). kept_set rules now group None (candidates lines) in
      let computes : (group : Group) → Computes rules now group (candidates lines) (set_of group) =
      λ (group : Group). computes_kept_set rules now group 0 (candidates lines) (rise-take 0 (length lines - 1) lines rise) in
      record {
        counted = ap length e ∙ length-named_flags lines;
        recent = set_of Recent;
        old = set_of Old;
        recent_is = kept_where_computes rules now Recent (candidates lines) (set_of Recent) (computes Recent);
        old_is = kept_where_computes rules now Old (candidates lines) (set_of Old) (computes Old);
        each = λ older newer line some. ap (λ (l : List Bool). get_or l (length older) false) e
            ∙ named_at lines (set_of Recent) (set_of Old) (computes Recent) (computes Old) older newer line some;
        newest = λ older line is. ap (λ (l : List Bool). get_or l (length older) false) e
            ∙ newest_at lines older line is;
      }

  -- ---- what no rule names

  keeps_stays : (older newer : List Line) (line : Line) → line.keep ≡ true
      → get_or (named_flags rules now (older ++ line ∷ newer)) (length older) false ≡ false
  keeps_stays older [] line keeps = named_flags-newest older line
  keeps_stays older (y ∷ ys) line keeps =
      let split = last_split y ys in
      ap (λ (l : List Line). get_or (named_flags rules now l) (length older) false)
      (ap (λ (l : List Line). older ++ line ∷ l) split.2 ∙ sym (append_assoc older (line ∷ split.0) (split.1 ∷ [])))
      ∙ named_flags-at older split.0 line split.1
      ∙ both_false _ _ (names_in-keep Recent _ line split.0 keeps) (names_in-keep Old _ line split.0 keeps)

pub flags_are_named : FlagsAreNamed
flags_are_named rules now lines flags rise = (flags_where_named rules now lines flags, named_where_flags rules now lines flags rise)

pub newest_stays : NewestStays
newest_stays rules now older line = named_flags-newest rules now older line

pub kept_stays : KeptStays
kept_stays rules now older newer line keeps = keeps_stays rules now older newer line keeps
