-- The body of an index in the third layout, part by part.
use Rattle.std.proofs.Common.{◌≡◌, ℕ, List, ◌++◌, length, refl, ap, ◌∙◌, append_assoc}
use Rattle.std.specs.Int.{w8, w16, w32, w64}
use Rattle.wire_bytes.specs.Layout.{number_bytes, text_bytes}
use Rattle.wire_bytes.specs.Breaks.{items_bytes}
use Rattle.wire_bytes.specs.Grammar.{field, followed_by, seen_as, items_of}
use Rattle.backup_rules.specs.declared.layouts.RulesLayout.TheVariants as rules_in
use Rattle.backup_rules.specs.Layout.{rules_grammar, line_bytes}
use Rattle.backup_index.specs.declared.layouts.IndexLayout.TheVariants.{Third}
use Rattle.backup_index.specs.Index.{Index, index_magic, receipt_bytes}
use Rattle.backup_index.specs.Stored.{index_grammar}

-- the numbers behind the rules
abbrev pub numbers_bytes : Index → List ℕ
numbers_bytes i = number_bytes w32 i.good ++ (number_bytes w32 i.bad ++ (number_bytes w64 i.next ++ number_bytes w64 (length i.lines)))

-- the receipts behind their number
abbrev pub receipts_bytes : Index → List ℕ
receipts_bytes i = number_bytes w16 (length i.receipts) ++ items_bytes receipt_bytes i.receipts

pub index_print : (i : Index) → (index_grammar).print (Third, i)
    ≡ index_magic Third ++ (number_bytes w32 i.host ++ (text_bytes w8 i.name ++ ((rules_grammar rules_in.Second).print i.rules ++ (receipts_bytes i ++ (numbers_bytes i ++ items_bytes line_bytes i.lines)))))
unfolding field followed_by seen_as items_of
index_print i = refl

-- four lists behind others, one after the other
pub four : (old one two three now a b c d : List ℕ) → one ≡ old ++ a → two ≡ one ++ b → three ≡ two ++ c → now ≡ three ++ d → now ≡ old ++ (a ++ (b ++ (c ++ d)))
four old one two three now a b c d p q r s =
    s ∙ ap (λ l. l ++ d) (r ∙ ap (λ l. l ++ c) (q ∙ ap (λ l. l ++ b) p)) ∙ append_assoc ((old ++ a) ++ b) c d ∙ append_assoc (old ++ a) b (c ++ d) ∙ append_assoc old a (b ++ (c ++ d))

pub five : (old one two three fourth now a b c d e : List ℕ) → one ≡ old ++ a → two ≡ one ++ b → three ≡ two ++ c → fourth ≡ three ++ d → now ≡ fourth ++ e → now ≡ old ++ (a ++ (b ++ (c ++ (d ++ e))))
five old one two three fourth now a b c d e p q r s t =
    t ∙ ap (λ l. l ++ e) (four old one two three fourth a b c d p q r s) ∙ append_assoc old (a ++ (b ++ (c ++ d))) e
    ∙ ap (λ l. old ++ l) (append_assoc a (b ++ (c ++ d)) e ∙ ap (λ l. a ++ l) (append_assoc b (c ++ d) e ∙ ap (λ l. b ++ l) (append_assoc c d e)))

pub six : (old one two three fourth fifth now a b c d e f : List ℕ) → one ≡ old ++ a → two ≡ one ++ b → three ≡ two ++ c → fourth ≡ three ++ d → fifth ≡ fourth ++ e → now ≡ fifth ++ f
    → now ≡ old ++ (a ++ (b ++ (c ++ (d ++ (e ++ f)))))
six old one two three fourth fifth now a b c d e f p q r s t u =
    u ∙ ap (λ l. l ++ f) (five old one two three fourth fifth a b c d e p q r s t) ∙ append_assoc old (a ++ (b ++ (c ++ (d ++ e)))) f
    ∙ ap (λ l. old ++ l) (append_assoc a (b ++ (c ++ (d ++ e))) f ∙ ap (λ l. a ++ l) (append_assoc b (c ++ (d ++ e)) f ∙ ap (λ l. b ++ l) (append_assoc c (d ++ e) f ∙ ap (λ l. c ++ l) (append_assoc d e f))))

pub seven : (old one two three fourth fifth sixth now a b c d e f g : List ℕ) → one ≡ old ++ a → two ≡ one ++ b → three ≡ two ++ c → fourth ≡ three ++ d → fifth ≡ fourth ++ e → sixth ≡ fifth ++ f → now ≡ sixth ++ g
    → now ≡ old ++ (a ++ (b ++ (c ++ (d ++ (e ++ (f ++ g))))))
seven old one two three fourth fifth sixth now a b c d e f g p q r s t u v =
    six old one two three fourth fifth now a b c d e (f ++ g) p q r s t (v ∙ ap (λ l. l ++ g) u ∙ append_assoc fifth f g)
