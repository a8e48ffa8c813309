-- The text of a short object is what JSON writes for it.
use Rattle.std.proofs.Common.{◌≡◌, ℕ, Bool, true, false, ◌&&◌, List, [], ◌∷◌, ◌++◌, refl, sym, ap, ◌∙◌, arith, codes, append_assoc}
use Rattle.std.specs.Prelude.{decimal}
use Rattle.std.proofs.lemmas.Bool.Decides.{nat_tests}
use Rattle.std.proofs.lemmas.Grind.{common_steps}
use Rattle.json.specs.Print.{escape, escape_byte, quoted}
use Rattle.serde_json.specs.Written.{compact_text, members_text, comma_if}
use Rattle.serde_json.specs.Data.{boolean}
use Rattle.reply_bodies.specs.Objects.{Text, Count, Flag, Field, members_of, fields_of, json_text, object_of, is_plain_byte, is_plain_text, are_plain, comma, text_field, number_field, flag_text, flag_field, fields_text, object_text}

plain_byte : (b : ℕ) → is_plain_byte b ≡ true → escape_byte b ≡ b ∷ []
unfolding escape_byte
plain_byte b h = grind (arith, common_steps, nat_tests, h)

parts : (a b : Bool) → (a && b) ≡ true → (a ≡ true) × (b ≡ true)
parts true true e = (refl, refl)
parts true false e = absurd cc
parts false b e = absurd cc

three : (a b c : Bool) → (a && b && c) ≡ true → (a ≡ true) × (b ≡ true) × (c ≡ true)
three true true true e = (refl, refl, refl)
three true true false e = absurd cc
three true false c e = absurd cc
three false b c e = absurd cc

pub escape-plain : (text : List ℕ) → is_plain_text text ≡ true → escape text ≡ text
escape-plain [] h = refl
escape-plain (b ∷ text) h =
    let p = parts (is_plain_byte b) (is_plain_text text) h in
    rw (plain_byte b p.0, escape-plain text p.1) refl

pub quoted-plain : (text : List ℕ) → is_plain_text text ≡ true → quoted text ≡ codes "\"" ++ text ++ codes "\""
quoted-plain text h = ap (λ t. 34 ∷ (t ++ 34 ∷ [])) (escape-plain text h)

-- one member, whose value has this text
one_field : (later : Bool) (key value rest : List ℕ) → is_plain_text key ≡ true
    → comma_if later ++ (quoted key ++ 58 ∷ (value ++ rest)) ≡ (comma later ++ codes "\"" ++ key ++ codes "\":" ++ value) ++ rest
one_field later key value rest h = ap (λ q. comma_if later ++ (q ++ 58 ∷ (value ++ rest))) (quoted-plain key h) ∙ simp append_assoc refl

regroup : (later : Bool) (key text rest : List ℕ)
    → (comma later ++ codes "\"" ++ key ++ codes "\":" ++ (codes "\"" ++ text ++ codes "\"")) ++ rest ≡ text_field later key text ++ rest
unfolding text_field
regroup later key text rest = simp append_assoc refl

flag_is : (b : Bool) → compact_text (boolean b) ≡ flag_text b
flag_is true = refl
flag_is false = refl

pub fields_are : (later : Bool) (fields : List Field) → are_plain fields ≡ true → members_text later (members_of (fields_of fields)) ≡ fields_text later fields
unfolding text_field number_field flag_field
fields_are later [] h = refl
fields_are later ((key, Count n) ∷ fields) h =
    let p = three (is_plain_text key) true (are_plain fields) h in
    one_field later key (decimal n) (members_text true (members_of (fields_of fields))) p.0
    ∙ ap (λ rest. number_field later key n ++ rest) (fields_are true fields p.2)
fields_are later ((key, Flag b) ∷ fields) h =
    let p = three (is_plain_text key) true (are_plain fields) h in
    ap (λ t. comma_if later ++ (quoted key ++ 58 ∷ (t ++ members_text true (members_of (fields_of fields))))) (flag_is b)
    ∙ one_field later key (flag_text b) (members_text true (members_of (fields_of fields))) p.0
    ∙ ap (λ rest. flag_field later key b ++ rest) (fields_are true fields p.2)
fields_are later ((key, Text text) ∷ fields) h =
    let p = three (is_plain_text key) (is_plain_text text) (are_plain fields) h in
    one_field later key (quoted text) (members_text true (members_of (fields_of fields))) p.0
    ∙ ap (λ t. (comma later ++ codes "\"" ++ key ++ codes "\":" ++ t) ++ members_text true (members_of (fields_of fields))) (quoted-plain text p.1)
    ∙ regroup later key text (members_text true (members_of (fields_of fields)))
    ∙ ap (λ rest. text_field later key text ++ rest) (fields_are true fields p.2)

-- the object's text is what JSON writes
pub object_is : (fields : List Field) → are_plain fields ≡ true → object_text fields ≡ json_text (object_of fields)
unfolding object_text json_text
object_is fields h = ap (λ rest. 123 ∷ rest) (sym (fields_are false fields h))
