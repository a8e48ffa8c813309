-- The name of a path that lies in a directory is a path itself.
use Rattle.std.specs.Prelude.{◌≡◌, ℕ, ◌+◌, ◌==◌, ◌||◌, ◌≤◌, ◌<◌, nat_lt, Bool, true, false, List, [], ◌∷◌, ◌++◌, length, drop, Some, None}
use Rattle.std.specs.List.{list_any}
use Rattle.std.specs.Str.{is_utf8}
use Rattle.std.proofs.Common.{refl, sym, ap, ◌∙◌, get_or, arith, length-append}
use Rattle.std.proofs.Math.Seq.{drop-append-add}
use Rattle.std.proofs.lemmas.Bool.Decides.{nat_tests}
use Rattle.std.proofs.lemmas.List.{get_or_at}
use Rattle.std.proofs.lemmas.Str.{IsUtf8-drop, IsUtf8-from_is_utf8, is_utf8-from_IsUtf8, IsCharBoundary-after_ascii}
use Rattle.attr_records.specs.Paths.{components, parent}
use Rattle.attr_records.specs.PathLaws.{components-joined, parent-parts}
use Rattle.attr_records.specs.PathRules.{is_empty_component, is_dot_component, is_long_component, broken_path_rule}
use Rattle.attr_records.specs.PathRuleLaws.{rules_kept, no_rule_broken}

none_behind : {X : Type 0} (p : X → Bool) (xs ys : List X) → list_any p (xs ++ ys) ≡ false → list_any p ys ≡ false
none_behind p [] ys e = e
none_behind p (x ∷ xs) ys e = step (p x) (none_behind p xs ys) e
  where
    step : (b : Bool) → (list_any p (xs ++ ys) ≡ false → list_any p ys ≡ false) → (b || list_any p (xs ++ ys)) ≡ false
        → list_any p ys ≡ false
    step true rest h = absurd (cc)
    step false rest h = rest h

text_behind : (directory name : List ℕ) → is_utf8 (directory ++ 47 ∷ name) ≡ true → is_utf8 name ≡ true
text_behind directory name text =
    let path = directory ++ 47 ∷ name in
    let utf8 = IsUtf8-from_is_utf8 path text in
    let slash : get_or path (length directory) 0 ≡ 47 = get_or_at directory 47 name 0 (length directory) refl in
    let within : length directory < length path = omega (arith, length-append directory (47 ∷ name)) in
    let ascii : get_or path (length directory) 0 < 128 = omega arith in
    let whole = IsUtf8-drop path (length directory + 1) utf8 (IsCharBoundary-after_ascii path (length directory) utf8 within ascii) in
    ap is_utf8 (sym (drop-append-add directory (47 ∷ name) 1)) ∙ is_utf8-from_IsUtf8 _ whole

shorter : (a b : ℕ) → a ≤ b → nat_lt 4096 b ≡ false → nat_lt 4096 a ≡ false
shorter a b le e = grind (arith, nat_tests)

rules-name : (directory name : List ℕ) → broken_path_rule (directory ++ 47 ∷ name) ≡ None → broken_path_rule name ≡ None
rules-name directory name e =
    let kept = rules_kept (directory ++ 47 ∷ name) e in
    let parts : (p : List ℕ → Bool) → list_any p (components (directory ++ 47 ∷ name)) ≡ false → list_any p (components name) ≡ false =
    λ p h. none_behind p (components directory) (components name) (sym (ap (list_any p) (components-joined directory name)) ∙ h) in
    no_rule_broken name (record {
      text = text_behind directory name kept.text;
      some = not_empty name (parts is_empty_component kept.no_empty);
      short = shorter (length name) (length (directory ++ 47 ∷ name)) (omega (arith, length-append directory (47 ∷ name))) kept.short;
      no_nul = none_behind (λ byte. byte == 0) (47 ∷ []) name (none_behind (λ byte. byte == 0) directory (47 ∷ name) kept.no_nul);
      no_empty = parts is_empty_component kept.no_empty;
      no_dot = parts is_dot_component kept.no_dot;
      no_long = parts is_long_component kept.no_long;
    })
  where
    not_empty : (name : List ℕ) → list_any is_empty_component (components name) ≡ false → is_empty_component name ≡ false
    not_empty [] h = cc
    not_empty (byte ∷ more) h = refl

-- of a path that lies in a directory: there is a name behind it, which breaks no rule of paths
pub record HasName (path directory : List ℕ) : Type 0 where
  pub within : length directory + 1 ≤ length path
  pub valid : broken_path_rule (drop (length directory + 1) path) ≡ None

pub has_name : (path directory : List ℕ) → broken_path_rule path ≡ None → parent path ≡ Some directory → HasName path directory
has_name path directory kept e =
    let w : (name : List ℕ) × (path ≡ directory ++ 47 ∷ name) × (parent name ≡ None) = parent-parts path directory e in
    let name : drop (length directory + 1) path ≡ w.0 = ap (drop (length directory + 1)) w.1 ∙ drop-append-add directory (47 ∷ w.0) 1 in
    record {
      within = omega (arith, ap length w.1, length-append directory (47 ∷ w.0));
      valid = ap broken_path_rule name ∙ rules-name directory w.0 (ap broken_path_rule (sym w.1) ∙ kept);
    }
