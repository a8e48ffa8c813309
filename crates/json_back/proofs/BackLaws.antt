-- What is written is read back.
use Rattle.std.proofs.Common.{◌≡◌, ◌≤◌, ◌<◌, ◌^◌, ℕ, suc, max, pos, negsuc, List, [], ◌∷◌, ◌++◌, Option, Some, None, option_map, option_and_then, refl, sym, ap, ap₂, ◌∙◌, subst, arith, append-nil, IsUtf8, true, false, Bool, if◌then◌else◌, decimal}
use Rattle.std.proofs.lemmas.Str.{IsUtf8-append, IsUtf8-nil, IsUtf8-from_ascii, is_utf8-from_IsUtf8}
use Rattle.std.proofs.lemmas.Fmt.{IsAscii-decimal}
use Rattle.json.proofs.Printed.Utf8.{IsUtf8-are_ascii, IsUtf8-quoted, IsUtf8-boolean}
use Rattle.std.specs.Ordering.{match_ordering}
use Rattle.json.specs.Lex.{tokens}
use Rattle.json.specs.Print.{quoted, IsNumber}
use Rattle.json.specs.Json as json
use Rattle.json.specs.Tree as tree
use Rattle.json.proofs.Printed.Tokens.{tokens-print}
use Rattle.json.proofs.Printed.Trees.{value-json_tokens, ArePrintable-json_tokens}
use Rattle.json.proofs.Printed.Decimals.{IsNumber-decimal, IsNumber-signed_decimal}
use Rattle.serde_json.specs.Data.{Num, unsigned, negative, float, Data, null, boolean, number, string, array, object, Items, no_items, item, Members, no_members, member, put, depth, items_depth, members_depth}
use Rattle.serde_json.specs.Read.{number_of, of_json, of_items, of_members, read, max_depth}
use Rattle.serde_json.specs.Written.{number_text, outline, items_outline, members_outline, comma_if, compact_text, items_text, members_text}
use Rattle.serde_json.proofs.Numbers.{number_of-decimal, number_of-negative}
use Rattle.json.specs.Token.{Token}
use Rattle.serde_json.proofs.Texts.{print-outline}
use Rattle.json_back.specs.Canonical.{IsCanonicalNumber, IsAfter, with_last, IsCanonical, AreCanonical, AreMembers, HasTexts, ItemsHaveTexts, MembersHaveTexts, TextsReadBack, BytesReadBack}

-- ---- numbers

number-back : (n : Num) → IsCanonicalNumber n → number_of (number_text n) ≡ Some n
number-back (unsigned n) h = number_of-decimal n h
number-back (negative (pos n)) h = absurd h
number-back (negative (negsuc n)) h = number_of-negative n h
number-back (float x) h = absurd h

number-is : (n : Num) → IsCanonicalNumber n → IsNumber (number_text n)
number-is (unsigned n) h = IsNumber-decimal n h
number-is (negative (pos n)) h = absurd h
number-is (negative (negsuc n)) h = IsNumber-signed_decimal (negsuc n) (omega arith)
number-is (float x) h = absurd h

-- ---- members

put-last : (key : List ℕ) (d : Data) (ms : Members) → IsAfter ms key → put key d ms ≡ with_last ms key d
put-last key d no_members h = refl
put-last key d (member k e ms) h =
    ap (λ r. match_ordering r (member key d (member k e ms)) (member k d ms) (member k e (put key d ms))) h.0 ∙ ap (member k e) (put-last key d ms h.1)

abbrev joined : Members → Members → Members
joined no_members more = more
joined (member k d ms) more = member k d (joined ms more)

joined-none : (ms : Members) → joined ms no_members ≡ ms
joined-none no_members = refl
joined-none (member k d ms) = ap (member k d) (joined-none ms)

joined-last : (found : Members) (key : List ℕ) (d : Data) (more : Members) → joined (with_last found key d) more ≡ joined found (member key d more)
joined-last no_members key d more = refl
joined-last (member k e ms) key d more = ap (member k e) (joined-last ms key d more)

-- ---- values

mutual
  back : (d : Data) → IsCanonical d → of_json (outline d) ≡ Some d
  back null h = refl
  back (boolean b) h = refl
  back (number n) h = ap (option_map number) (number-back n h)
  back (string s) h = refl
  back (array ds) h = ap (option_map array) (items-back ds h)
  back (object ms) h = ap (option_map object) (members-back ms no_members h)

  items-back : (ds : Items) → AreCanonical ds → of_items (items_outline ds) ≡ Some ds
  items-back no_items h = refl
  items-back (item d ds) h =
      ap (option_and_then (λ e. option_map (item e) (of_items (items_outline ds)))) (back d h.0) ∙ ap (option_map (item d)) (items-back ds h.1)

  members-back : (ms found : Members) → AreMembers found ms → of_members (members_outline ms) found ≡ Some (joined found ms)
  members-back no_members found h = ap Some (sym (joined-none found))
  members-back (member k d ms) found h =
      ap (option_and_then (λ e. of_members (members_outline ms) (put k e found))) (back d h.1)
      ∙ ap (of_members (members_outline ms)) (put-last k d found h.0)
      ∙ members-back ms (with_last found k d) h.2
      ∙ ap Some (joined-last found k d ms)

mutual
  depth-outline : (d : Data) → tree.depth (outline d) ≡ depth d
  depth-outline null = refl
  depth-outline (boolean b) = refl
  depth-outline (number n) = refl
  depth-outline (string s) = refl
  depth-outline (array ds) = ap suc (items_depth-outline ds)
  depth-outline (object ms) = ap suc (members_depth-outline ms)

  items_depth-outline : (ds : Items) → tree.items_depth (items_outline ds) ≡ items_depth ds
  items_depth-outline no_items = refl
  items_depth-outline (item d ds) = ap₂ max (depth-outline d) (items_depth-outline ds)

  members_depth-outline : (ms : Members) → tree.members_depth (members_outline ms) ≡ members_depth ms
  members_depth-outline no_members = refl
  members_depth-outline (member k d ms) = ap₂ max (depth-outline d) (members_depth-outline ms)

mutual
  numbers-outline : (d : Data) → IsCanonical d → tree.HasNumbers (outline d)
  numbers-outline null h = tt
  numbers-outline (boolean b) h = tt
  numbers-outline (number n) h = number-is n h
  numbers-outline (string s) h = tt
  numbers-outline (array ds) h = items-numbers ds h
  numbers-outline (object ms) h = members-numbers ms no_members h

  items-numbers : (ds : Items) → AreCanonical ds → tree.ItemsHaveNumbers (items_outline ds)
  items-numbers no_items h = tt
  items-numbers (item d ds) h = (numbers-outline d h.0, items-numbers ds h.1)

  members-numbers : (ms found : Members) → AreMembers found ms → tree.MembersHaveNumbers (members_outline ms)
  members-numbers no_members found h = tt
  members-numbers (member k d ms) found h = (numbers-outline d h.1, members-numbers ms (with_last found k d) h.2)

-- the value of what the grammar read, if it read all
abbrev whole : Option (json.Json × List Token) → Option Data
whole o = option_and_then of_json (option_and_then (λ p. json.if_last p.0 p.1) o)

-- the tokens of the text are those of the value
tokens-text : (d : Data) → IsCanonical d → tokens (compact_text d) ≡ tree.json_tokens (outline d)
tokens-text d h =
    ap tokens (sym (print-outline d)) ∙ tokens-print (tree.json_tokens (outline d)) (ArePrintable-json_tokens (outline d) (numbers-outline d h))

pub texts-read : TextsReadBack
texts-read d h shallow =
    ap whole (ap (json.value max_depth) (tokens-text d h ∙ sym (append-nil (tree.json_tokens (outline d))))
    ∙ value-json_tokens (outline d) max_depth [] (subst (λ n. n ≤ max_depth) (sym (depth-outline d)) shallow))
    ∙ back d h

-- ---- the text is UTF-8

comma-utf8 : (later : Bool) → IsUtf8 (comma_if later)
comma-utf8 true = IsUtf8-are_ascii (44 ∷ []) refl
comma-utf8 false = IsUtf8-nil

joined-utf8 : (a b c : List ℕ) → IsUtf8 a → IsUtf8 b → IsUtf8 c → IsUtf8 (a ++ (b ++ c))
joined-utf8 a b c p q r = IsUtf8-append a (b ++ c) p (IsUtf8-append b c q r)

after-ascii : (x : ℕ) (text : List ℕ) → IsUtf8 (x ∷ []) → IsUtf8 text → IsUtf8 (x ∷ text)
after-ascii x text p q = IsUtf8-append (x ∷ []) text p q

digits-utf8 : (n : ℕ) → n < 2 ^ 64 → IsUtf8 (decimal n)
digits-utf8 n fits = IsUtf8-from_ascii (decimal n) (IsAscii-decimal n fits)

number-utf8 : (n : Num) → IsCanonicalNumber n → IsUtf8 (number_text n)
number-utf8 (unsigned n) h = digits-utf8 n h
number-utf8 (negative (pos n)) h = absurd h
number-utf8 (negative (negsuc n)) h = after-ascii 45 (decimal (suc n)) (IsUtf8-are_ascii _ refl) (digits-utf8 (suc n) (omega arith))
number-utf8 (float x) h = absurd h

mutual
  text-utf8 : (d : Data) → IsCanonical d → HasTexts d → IsUtf8 (compact_text d)
  text-utf8 null h t = IsUtf8-are_ascii _ refl
  text-utf8 (boolean b) h t = IsUtf8-boolean b
  text-utf8 (number n) h t = number-utf8 n h
  text-utf8 (string s) h t = IsUtf8-quoted s t
  text-utf8 (array ds) h t = after-ascii 91 _ (IsUtf8-are_ascii _ refl) (items-utf8 false ds h t)
  text-utf8 (object ms) h t = after-ascii 123 _ (IsUtf8-are_ascii _ refl) (members-utf8 false ms no_members h t)

  items-utf8 : (later : Bool) (ds : Items) → AreCanonical ds → ItemsHaveTexts ds → IsUtf8 (items_text later ds)
  items-utf8 later no_items h t = IsUtf8-are_ascii _ refl
  items-utf8 later (item d ds) h t =
      joined-utf8 (comma_if later) (compact_text d) (items_text true ds) (comma-utf8 later) (text-utf8 d h.0 t.0) (items-utf8 true ds h.1 t.1)

  members-utf8 : (later : Bool) (ms found : Members) → AreMembers found ms → MembersHaveTexts ms → IsUtf8 (members_text later ms)
  members-utf8 later no_members found h t = IsUtf8-are_ascii _ refl
  members-utf8 later (member k d ms) found h t =
      joined-utf8 (comma_if later) (quoted k) (58 ∷ (compact_text d ++ members_text true ms)) (comma-utf8 later) (IsUtf8-quoted k t.0)
      (joined-utf8 (58 ∷ []) (compact_text d) (members_text true ms) (IsUtf8-are_ascii _ refl) (text-utf8 d h.1 t.1)
      (members-utf8 true ms (with_last found k d) h.2 t.2))

pub bytes-read : BytesReadBack
bytes-read d h t shallow =
    ap (λ b. if b then read (compact_text d) else None) (is_utf8-from_IsUtf8 (compact_text d) (text-utf8 d h t)) ∙ texts-read d h shallow
