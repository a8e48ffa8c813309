-- Laws of the names of hosts and the targets of links.
use Rattle.std.specs.Prelude.{◌≡◌, ℕ, ◌==◌, nat_lt, nat_le, Bool, true, false, ◌&&◌, ◌||◌, not, List, [], ◌∷◌, length, None}
use Rattle.std.specs.List.{list_any, list_all}
use Rattle.std.specs.Str.{is_utf8, IsAscii}
use Rattle.std.specs.Cmp.{first_so, second_so}
use Rattle.std.proofs.Common.{refl, ap, ◌∙◌, ◌<◌, ◌≤◌, suc, zero, arith}
use Rattle.std.proofs.lemmas.Bool.Decides.{nat_tests}
use Rattle.std.proofs.lemmas.Str.{IsUtf8-from_ascii, is_utf8-from_IsUtf8}
use Rattle.attr_records.specs.Paths.{components, joined}
use Rattle.attr_records.specs.PathRules.{broken_path_rule, has_nul, is_empty_component, is_dot_component, is_long_component}
use Rattle.attr_records.specs.PathRuleLaws.{no_rule_broken}
use Rattle.attr_records.specs.Names.{is_host_byte, begins_with_letter_or_digit, is_host_name, is_link_target}

no_nul_byte : (byte : ℕ) → is_host_byte byte ≡ true → (byte == 0) ≡ false
no_nul_byte byte e = grind (arith, nat_tests)

no_slash_byte : (byte : ℕ) → is_host_byte byte ≡ true → (byte == 47) ≡ false
no_slash_byte byte e = grind (arith, nat_tests)

ascii_byte : (byte : ℕ) → is_host_byte byte ≡ true → byte < 128
ascii_byte byte e = grind (arith, nat_tests)

no_nul_text : (text : List ℕ) → list_all is_host_byte text ≡ true → has_nul text ≡ false
no_nul_text [] all = refl
no_nul_text (byte ∷ text) all =
    ap (λ b. b || has_nul text) (no_nul_byte byte (first_so _ _ all)) ∙ no_nul_text text (second_so _ _ all)

one_component : (text : List ℕ) → list_all is_host_byte text ≡ true → components text ≡ text ∷ []
one_component [] all = refl
one_component (byte ∷ text) all =
    ap (λ slash. joined byte slash (components text)) (no_slash_byte byte (first_so _ _ all))
    ∙ ap (joined byte false) (one_component text (second_so _ _ all))

ascii_text : (text : List ℕ) → list_all is_host_byte text ≡ true → IsAscii text
ascii_text [] all i = omega arith
ascii_text (byte ∷ text) all zero = ascii_byte byte (first_so _ _ all)
ascii_text (byte ∷ text) all (suc i) = ascii_text text (second_so _ _ all) i

no_dots : (text : List ℕ) → begins_with_letter_or_digit text ≡ true → is_dot_component text ≡ false
no_dots [] e = refl
no_dots (a ∷ []) e = grind (arith, nat_tests)
no_dots (a ∷ b ∷ []) e = ap (λ dot. dot && (b == 46)) (no_dots (a ∷ []) e)
no_dots (a ∷ b ∷ c ∷ more) e = refl

not_empty : (text : List ℕ) → begins_with_letter_or_digit text ≡ true → is_empty_component text ≡ false
not_empty [] e = cc
not_empty (byte ∷ text) e = refl

-- the name of a host breaks no rule of paths
pub broken_path_rule-host : (text : List ℕ) → is_host_name text ≡ true → broken_path_rule text ≡ None
unfolding is_host_name
broken_path_rule-host text e =
    let begins = first_so (begins_with_letter_or_digit text) (nat_le (length text) 64 && list_all is_host_byte text) e in
    let rest = second_so (begins_with_letter_or_digit text) (nat_le (length text) 64 && list_all is_host_byte text) e in
    let short = first_so (nat_le (length text) 64) (list_all is_host_byte text) rest in
    let all = second_so (nat_le (length text) 64) (list_all is_host_byte text) rest in
    let one : (p : List ℕ → Bool) → p text ≡ false → list_any p (components text) ≡ false =
    λ p h. ap (list_any p) (one_component text all) ∙ ap (λ b. b || false) h in
    no_rule_broken text (record {
      text = is_utf8-from_IsUtf8 text (IsUtf8-from_ascii text (ascii_text text all));
      some = not_empty text begins;
      short = within_4096 (length text) short;
      no_nul = no_nul_text text all;
      no_empty = one is_empty_component (not_empty text begins);
      no_dot = one is_dot_component (no_dots text begins);
      no_long = one is_long_component (within_255 (length text) short);
    })
  where
    within_4096 : (n : ℕ) → nat_le n 64 ≡ true → nat_lt 4096 n ≡ false
    within_4096 n h = grind (arith, nat_tests)

    within_255 : (n : ℕ) → nat_le n 64 ≡ true → nat_lt 255 n ≡ false
    within_255 n h = grind (arith, nat_tests)

-- the target of a link has at most 4,096 bytes
pub short_target : (text : List ℕ) → is_link_target text ≡ true → length text ≤ 4096
unfolding is_link_target
short_target text e =
    step (length text) (first_so (nat_le (length text) 4096) (is_utf8 text && not (has_nul text)) (second_so (not (is_empty_component text)) (nat_le (length text) 4096 && (is_utf8 text && not (has_nul text))) e))
  where
    step : (n : ℕ) → nat_le n 4096 ≡ true → n ≤ 4096
    step n short = grind (arith, nat_tests)
