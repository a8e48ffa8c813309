use Rattle.std.proofs.Common.{◌≡◌, ℕ, ◌<◌, List, ◌∷◌, drop, length, false, sym, ap, ◌∙◌, add-one, drop-cons, nat_eq, ◌||◌, suc, get_or}
use Rattle.std.specs.List.{starts_with}
use Rattle.std.proofs.lemmas.List.{take_rest}
use Rattle.http_query.specs.Query.{holds_replacement, replacement}
use Rattle.push_texts.proofs.names.holds_replacement.Goals as goal

-- the byte in front of what follows begins no U+FFFD
passed : (byte : ℕ) (text : List ℕ) → starts_with nat_eq (byte ∷ text) replacement ≡ false → holds_replacement text ≡ holds_replacement (byte ∷ text)
passed byte text e = ap (λ b. b || holds_replacement text) (sym e)

one_on : (text : List ℕ) (i : ℕ) → i < length text → starts_with nat_eq (drop i text) replacement ≡ false → holds_replacement (drop (suc i) text) ≡ holds_replacement (drop i text)
one_on text i within e =
    let cut : drop i text ≡ get_or text i 0 ∷ drop (suc i) text = drop-cons text i 0 within in
    passed (get_or text i 0) (drop (suc i) text) (ap (λ t. starts_with nat_eq t replacement) (sym cut) ∙ e) ∙ ap holds_replacement (sym cut)

pub loop-i-preserved : goal.loop-i-preserved
loop-i-preserved c = rw add-one (one_on c.args.text.now c.loop-i.i c.loop-i-test.true ((ap (λ t. starts_with nat_eq t replacement) (sym (take_rest c.args.text.now c.loop-i.i)) ∙ sym c.begins_with_replacement.ensures) ∙ c.if-begins_with_replacement.false) ∙ c.loop-i.invariant)
