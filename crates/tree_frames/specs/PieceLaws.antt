-- Pieces of bytes, one after the other, are these bytes.
use Rattle.std.specs.Prelude.{◌≡◌, ◌<◌, ◌≤◌, ◌-◌, ℕ, zero, suc, List, [], ◌∷◌, ◌++◌, length, take, drop}
use Rattle.std.specs.List.{concat}
use Rattle.std.proofs.Common.{refl, ap, ◌∙◌, arith}
use Rattle.std.proofs.lemmas.List.{length-drop, take-append-drop}
use Rattle.tree_frames.specs.Frames.{pieces_of, pieces}

pieces_enough : (m n : ℕ) (bytes : List ℕ) → length bytes ≤ m → length bytes ≤ n → pieces_of m bytes ≡ pieces_of n bytes
unfolding pieces_of
pieces_enough zero zero bytes a b = refl
pieces_enough zero (suc n) [] a b = refl
pieces_enough zero (suc n) (byte ∷ bytes) a b = absurd (omega arith)
pieces_enough (suc m) zero [] a b = refl
pieces_enough (suc m) zero (byte ∷ bytes) a b = absurd (omega arith)
pieces_enough (suc m) (suc n) [] a b = refl
pieces_enough (suc m) (suc n) (byte ∷ bytes) a b =
    let shorter : length (drop 65536 (byte ∷ bytes)) ≡ suc (length bytes) - 65536 = length-drop 65536 (byte ∷ bytes) in
    ap (λ ps. take 65536 (byte ∷ bytes) ∷ ps) (pieces_enough m n (drop 65536 (byte ∷ bytes)) (omega arith) (omega arith))

-- the first piece, and those of what stands behind it
pub pieces_first : (bytes : List ℕ) → 0 < length bytes → pieces bytes ≡ take 65536 bytes ∷ pieces (drop 65536 bytes)
unfolding pieces_of
pieces_first [] some = absurd (omega arith)
pieces_first (byte ∷ bytes) some =
    let shorter : length (drop 65536 (byte ∷ bytes)) ≡ suc (length bytes) - 65536 = length-drop 65536 (byte ∷ bytes) in
    ap (λ ps. take 65536 (byte ∷ bytes) ∷ ps)
    (pieces_enough (length bytes) (length (drop 65536 (byte ∷ bytes))) (drop 65536 (byte ∷ bytes)) (omega arith) (omega arith))

pub no_pieces : (bytes : List ℕ) → length bytes ≤ 0 → pieces bytes ≡ []
unfolding pieces_of
no_pieces [] none = refl
no_pieces (byte ∷ bytes) none = absurd (omega arith)

concat-pieces_of : (n : ℕ) (bytes : List ℕ) → length bytes ≤ n → concat (pieces_of n bytes) ≡ bytes
unfolding pieces_of
concat-pieces_of zero [] h = refl
concat-pieces_of zero (byte ∷ bytes) h = absurd (omega arith)
concat-pieces_of (suc n) [] h = refl
concat-pieces_of (suc n) (byte ∷ bytes) h =
    let shorter : length (drop 65536 (byte ∷ bytes)) ≡ suc (length bytes) - 65536 = length-drop 65536 (byte ∷ bytes) in
    ap (λ rest. take 65536 (byte ∷ bytes) ++ rest) (concat-pieces_of n (drop 65536 (byte ∷ bytes)) (omega arith))
    ∙ take-append-drop 65536 (byte ∷ bytes)

pub concat-pieces : (bytes : List ℕ) → concat (pieces bytes) ≡ bytes
concat-pieces bytes = concat-pieces_of (length bytes) bytes (omega arith)
