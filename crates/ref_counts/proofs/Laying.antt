-- What was written is the file of counts.
use Rattle.std.proofs.Common.{◌≡◌, ℕ, List, [], ◌++◌, length, append_assoc, ap, ◌∙◌}
use Rattle.std.specs.Int.{w32, w64}
use Rattle.wire_bytes.specs.Layout.{number_bytes}
use Rattle.wire_bytes.specs.Breaks.{items_bytes}
use Rattle.wire_bytes.specs.Grammar.{field, followed_by, seen_as, items_of}
use Rattle.ref_counts.specs.Numbers.{Items}
use Rattle.ref_counts.specs.Layout.{counts_magic, item_bytes}
use Rattle.ref_counts.specs.CountsFile.{counts_grammar}

pub laid : (host : ℕ) (items : Items) (first a b c d : List ℕ) → first ≡ [] → a ≡ first ++ counts_magic → b ≡ a ++ number_bytes w32 host
    → c ≡ b ++ number_bytes w64 (length items) → d ≡ c ++ items_bytes item_bytes items → d ≡ (counts_grammar host).print items
unfolding field followed_by seen_as items_of counts_grammar
laid host items first a b c d e0 e1 e2 e3 e4 =
    e4 ∙ ap (λ (l : List ℕ). l ++ items_bytes item_bytes items)
    (e3 ∙ ap (λ (l : List ℕ). l ++ number_bytes w64 (length items))
    (e2 ∙ ap (λ (l : List ℕ). l ++ number_bytes w32 host) (e1 ∙ ap (λ (l : List ℕ). l ++ counts_magic) e0)))
    ∙ ap (λ (l : List ℕ). counts_magic ++ l) (append_assoc (number_bytes w32 host) (number_bytes w64 (length items)) (items_bytes item_bytes items))
