-- Laws of the rules of paths.
use Rattle.std.specs.Prelude.{◌≡◌, ℕ, ◌==◌, nat_lt, Bool, true, false, ◌||◌, not, List, [], ◌∷◌, ◌++◌, length, Option, Some, None, if◌then◌else◌}
use Rattle.std.specs.List.{list_any}
use Rattle.std.specs.Str.{is_utf8}
use Rattle.attr_records.specs.declared.paths.BadPath.{BadPath}
use Rattle.std.proofs.Common.{refl, sym, ap, ◌∙◌, ◌<◌, ◌≤◌, get_or, arith, length-append}
use Rattle.std.proofs.lemmas.Bool.Decides.{nat_tests}
use Rattle.std.proofs.lemmas.List.{get_or_at, take_at}
use Rattle.std.proofs.lemmas.Str.{IsUtf8-take, IsUtf8-from_is_utf8, is_utf8-from_IsUtf8, IsCharBoundary-before_ascii}
use Rattle.attr_records.specs.Paths.{components, parent}
use Rattle.attr_records.specs.PathLaws.{components-joined, parent-parts}
use Rattle.attr_records.specs.PathRules.{has_nul, is_empty_component, is_dot_component, is_long_component, broken_path_rule, KeepsRules}

passed : (broken : Bool) (rule : BadPath) (rest : Option BadPath) → (if broken then Some rule else rest) ≡ None
    → (broken ≡ false) × (rest ≡ None)
passed true rule rest e = cc
passed false rule rest e = (refl, e)

stays : (broken : Bool) (rule : BadPath) (rest : Option BadPath) → broken ≡ false → rest ≡ None
    → (if broken then Some rule else rest) ≡ None
stays broken rule rest kept e = ap (λ b. if b then Some rule else rest) kept ∙ e

turned : (b : Bool) → not b ≡ false → b ≡ true
turned true e = refl
turned false e = cc

pub rules_kept : (bytes : List ℕ) → broken_path_rule bytes ≡ None → KeepsRules bytes
unfolding broken_path_rule
rules_kept bytes e =
    let a : (not (is_utf8 bytes) ≡ false) × (_ ≡ None) = passed _ _ _ e in
    let b : (is_empty_component bytes ≡ false) × (_ ≡ None) = passed _ _ _ a.1 in
    let c : (nat_lt 4096 (length bytes) ≡ false) × (_ ≡ None) = passed _ _ _ b.1 in
    let d : (has_nul bytes ≡ false) × (_ ≡ None) = passed _ _ _ c.1 in
    let f : (list_any is_empty_component (components bytes) ≡ false) × (_ ≡ None) = passed _ _ _ d.1 in
    let g : (list_any is_dot_component (components bytes) ≡ false) × (_ ≡ None) = passed _ _ _ f.1 in
    let h : (list_any is_long_component (components bytes) ≡ false) × (_ ≡ None) = passed _ _ _ g.1 in
    record { text = turned _ a.0; some = b.0; short = c.0; no_nul = d.0; no_empty = f.0; no_dot = g.0; no_long = h.0 }

pub no_rule_broken : (bytes : List ℕ) → KeepsRules bytes → broken_path_rule bytes ≡ None
unfolding broken_path_rule
no_rule_broken bytes kept =
    stays _ _ _ (ap not kept.text) (stays _ _ _ kept.some (stays _ _ _ kept.short (stays _ _ _ kept.no_nul (stays _ _ _ kept.no_empty (stays _ _ _ kept.no_dot (stays _ _ _ kept.no_long refl))))))

none_in_front : {X : Type 0} (p : X → Bool) (xs ys : List X) → list_any p (xs ++ ys) ≡ false → list_any p xs ≡ false
none_in_front p [] ys e = refl
none_in_front p (x ∷ xs) ys e = step (p x) (none_in_front p xs ys) e
  where
    step : (b : Bool) → (list_any p (xs ++ ys) ≡ false → list_any p xs ≡ false) → (b || list_any p (xs ++ ys)) ≡ false
        → (b || list_any p xs) ≡ false
    step true rest h = h
    step false rest h = rest h

text_in_front : (directory name : List ℕ) → is_utf8 (directory ++ 47 ∷ name) ≡ true → is_utf8 directory ≡ true
text_in_front directory name text =
    let path = directory ++ 47 ∷ name in
    let slash : get_or path (length directory) 0 ≡ 47 = get_or_at directory 47 name 0 (length directory) refl in
    let within : length directory < length path = omega (arith, length-append directory (47 ∷ name)) in
    let ascii : get_or path (length directory) 0 < 128 = omega arith in
    let whole = IsUtf8-take path (length directory) (IsUtf8-from_is_utf8 path text) (IsCharBoundary-before_ascii path (length directory) within ascii) in
    ap is_utf8 (sym (take_at directory (47 ∷ name) (length directory) refl)) ∙ is_utf8-from_IsUtf8 _ whole

shorter : (a b : ℕ) → a ≤ b → nat_lt 4096 b ≡ false → nat_lt 4096 a ≡ false
shorter a b le e = grind (arith, nat_tests)

-- the directory that a path lies in breaks no rule of paths
pub broken_path_rule-directory : (directory name : List ℕ) → broken_path_rule (directory ++ 47 ∷ name) ≡ None
    → broken_path_rule directory ≡ None
broken_path_rule-directory directory name e =
    let kept = rules_kept (directory ++ 47 ∷ name) e in
    let parts : (p : List ℕ → Bool) → list_any p (components (directory ++ 47 ∷ name)) ≡ false → list_any p (components directory) ≡ false =
    λ p h. none_in_front p (components directory) (components name) (sym (ap (list_any p) (components-joined directory name)) ∙ h) in
    no_rule_broken directory (record {
      text = text_in_front directory name kept.text;
      some = not_empty directory (parts is_empty_component kept.no_empty);
      short = shorter (length directory) (length (directory ++ 47 ∷ name)) (omega (arith, length-append directory (47 ∷ name))) kept.short;
      no_nul = none_in_front (λ byte. byte == 0) directory (47 ∷ name) kept.no_nul;
      no_empty = parts is_empty_component kept.no_empty;
      no_dot = parts is_dot_component kept.no_dot;
      no_long = parts is_long_component kept.no_long;
    })
  where
    not_empty : (directory : List ℕ) → list_any is_empty_component (components directory) ≡ false → is_empty_component directory ≡ false
    not_empty [] h = cc
    not_empty (byte ∷ more) h = refl

-- the parent of a path breaks no rule of paths
pub broken_path_rule-parent : (path directory : List ℕ) → broken_path_rule path ≡ None → parent path ≡ Some directory
    → broken_path_rule directory ≡ None
broken_path_rule-parent path directory kept e =
    let w : (name : List ℕ) × (path ≡ directory ++ 47 ∷ name) × (parent name ≡ None) = parent-parts path directory e in
    broken_path_rule-directory directory w.0 (ap broken_path_rule (sym w.1) ∙ kept)

-- a path has at most 4,096 bytes
pub short_path : (path : List ℕ) → broken_path_rule path ≡ None → length path ≤ 4096
short_path path e = let kept : KeepsRules path = rules_kept path e in step (length path) kept.short
  where
    step : (n : ℕ) → nat_lt 4096 n ≡ false → n ≤ 4096
    step n short = grind (arith, nat_tests)
