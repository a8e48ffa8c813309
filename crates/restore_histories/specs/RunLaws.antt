-- Runs of frames: their fronts, and that one without an End is a beginning of what leads to a tree.
use Rattle.std.specs.Prelude.{◌≡◌, ℕ, zero, suc, ◌+◌, ◌-◌, min, List, [], ◌∷◌, ◌++◌, map, length, Option, Some, slice_get, ◌⊎◌}
use Rattle.std.specs.List.{flat_map}
use Rattle.std.proofs.Common.{refl, sym, ap, ◌∙◌, subst, inl, inr, append_assoc, arith}
use Rattle.attr_records.specs.declared.nodes.Item.{Item}
use Rattle.attr_records.specs.Items.{Tree}
use Rattle.tree_frames.specs.declared.nodes.Frame.{Frame}
use Rattle.tree_frames.specs.declared.nodes.Frame.TheVariants.{Piece, End}
use Rattle.tree_frames.specs.Frames.{bytes_of, pieces, row_frames, frames, entries_of, removals_of, removal_frames, frames_since}
use Rattle.restore_histories.specs.Given.{IsRun, HaveNoEnd, RunBegins}

-- ---- two lists behind each other

pub in_both : (xs ys : List Frame) (k : ℕ) (frame : Frame) → slice_get (xs ++ ys) k ≡ Some frame
    → (slice_get xs k ≡ Some frame) ⊎ ((j : ℕ) × (k ≡ length xs + j) × (slice_get ys j ≡ Some frame))
in_both [] ys k frame e = inr (k, omega arith, e)
in_both (x ∷ xs) ys zero frame e = inl e
in_both (x ∷ xs) ys (suc k) frame e = step (in_both xs ys k frame e)
  where
    step : (slice_get xs k ≡ Some frame) ⊎ ((j : ℕ) × (k ≡ length xs + j) × (slice_get ys j ≡ Some frame))
        → (slice_get xs k ≡ Some frame) ⊎ ((j : ℕ) × (suc k ≡ suc (length xs) + j) × (slice_get ys j ≡ Some frame))
    step (inl f) = inl f
    step (inr w) = inr (w.0, omega (arith, w.1), w.2)

in_first : (xs ys : List Frame) (k : ℕ) (frame : Frame) → slice_get xs k ≡ Some frame → slice_get (xs ++ ys) k ≡ Some frame
in_first [] ys k frame e = absurd (cc)
in_first (x ∷ xs) ys zero frame e = e
in_first (x ∷ xs) ys (suc k) frame e = in_first xs ys k frame e

-- a front of a run is one
pub IsRun-front : (all xs ys : List Frame) → IsRun all (xs ++ ys) → IsRun all xs
IsRun-front all xs ys run k frame e = run k frame (in_first xs ys k frame e)

-- ---- frames without an End

none_then : (xs ys : List Frame) → HaveNoEnd xs → HaveNoEnd ys → HaveNoEnd (xs ++ ys)
none_then xs ys a b k count e = step (in_both xs ys k (End count) e)
  where
    step : (slice_get xs k ≡ Some (End count)) ⊎ ((j : ℕ) × (k ≡ length xs + j) × (slice_get ys j ≡ Some (End count))) → ⊥
    step (inl f) = a k count f
    step (inr w) = b w.0 count w.2

none_removed : (rows : Tree) → HaveNoEnd (removal_frames rows)
none_removed [] k count e = cc
none_removed (row ∷ rows) zero count e = cc
none_removed (row ∷ rows) (suc k) count e = none_removed rows k count e

none_in_pieces : (pieces : List (List ℕ)) → HaveNoEnd (map Piece pieces)
none_in_pieces [] k count e = cc
none_in_pieces (piece ∷ pieces) zero count e = cc
none_in_pieces (piece ∷ pieces) (suc k) count e = none_in_pieces pieces k count e

none_in_row : (row : List ℕ × Item) → HaveNoEnd (row_frames row)
none_in_row row zero count e = cc
none_in_row row (suc k) count e = none_in_pieces (pieces (bytes_of row.1)) k count e

none_in_rows : (rows : Tree) → HaveNoEnd (flat_map row_frames rows)
none_in_rows [] k count e = cc
none_in_rows (row ∷ rows) k count e = none_then (row_frames row) (flat_map row_frames rows) (none_in_row row) (none_in_rows rows) k count e

-- ---- a run of frames with an End behind them

-- behind the first frame
run_behind : (x y g : Frame) (xs gs : List Frame) → IsRun (x ∷ (y ∷ xs)) (g ∷ gs) → IsRun (y ∷ xs) gs
run_behind x y g xs gs run k frame e =
    let same : min (suc k) (length (x ∷ (y ∷ xs)) - 1) ≡ suc (min k (length (y ∷ xs) - 1)) = omega arith in
    subst (λ (n : ℕ). slice_get (x ∷ (y ∷ xs)) n ≡ Some frame) same (run (suc k) frame e)

-- what leads to a tree begins with what was given, the rest is behind it, and behind an End there is none
record BeginsWith (all done : List Frame) (frame : Frame) : Type 0 where
  pub rest : List Frame
  pub all_are : all ≡ done ++ frame ∷ rest
  pub ended : (count : ℕ) → frame ≡ End count → rest ≡ []

first_is : (x g : Frame) (xs gs : List Frame) → IsRun (x ∷ xs) (g ∷ gs) → x ≡ g
first_is x g xs gs run = let there = run 0 g refl in let zeroth : min 0 (length (x ∷ xs) - 1) ≡ 0 = omega arith in
    let here : slice_get (x ∷ xs) 0 ≡ Some g = subst (λ (n : ℕ). slice_get (x ∷ xs) n ≡ Some g) zeroth there in cc

begins : (body : List Frame) (last : ℕ) (done : List Frame) (frame : Frame) → HaveNoEnd body → IsRun (body ++ End last ∷ []) (done ++ frame ∷ [])
    → HaveNoEnd done → BeginsWith (body ++ End last ∷ []) done frame
begins [] last [] frame none run given =
    let same : End last ≡ frame = first_is (End last) frame [] [] run in
    record { rest = []; all_are = ap (λ (f : Frame). f ∷ []) same; ended = λ count e. refl }
begins [] last (g ∷ gs) frame none run given =
    let same : End last ≡ g = first_is (End last) g [] (gs ++ frame ∷ []) run in absurd (given 0 last (ap Some (sym same)))
begins (b ∷ bs) last [] frame none run given =
    let same : b ≡ frame = first_is b frame (bs ++ End last ∷ []) [] run in
    record {
      rest = bs ++ End last ∷ [];
      all_are = ap (λ (f : Frame). f ∷ (bs ++ End last ∷ [])) same;
      ended = λ count e. absurd (none 0 count (ap Some (same ∙ e)));
    }
begins (b ∷ []) last (g ∷ gs) frame none run given =
    let same : b ≡ g = first_is b g (End last ∷ []) (gs ++ frame ∷ []) run in
    let more = begins [] last gs frame (λ k count e. none (suc k) count e) (run_behind b (End last) g [] (gs ++ frame ∷ []) run)
    (λ k count e. given (suc k) count e) in
    record { rest = more.rest; all_are = (λ i. same i ∷ more.all_are i); ended = more.ended }
begins (b ∷ (c ∷ bs)) last (g ∷ gs) frame none run given =
    let same : b ≡ g = first_is b g (c ∷ (bs ++ End last ∷ [])) (gs ++ frame ∷ []) run in
    let more = begins (c ∷ bs) last gs frame (λ k count e. none (suc k) count e) (run_behind b c g (bs ++ End last ∷ []) (gs ++ frame ∷ []) run)
    (λ k count e. given (suc k) count e) in
    record { rest = more.rest; all_are = (λ i. same i ∷ more.all_are i); ended = more.ended }

-- what leads to a tree, with its End apart
end_apart : (base : Option Tree) (tree : Tree) → frames_since base tree
    ≡ (removal_frames (removals_of base tree) ++ flat_map row_frames (entries_of base tree)) ++ End (length (entries_of base tree)) ∷ []
unfolding frames
end_apart base tree =
    sym (append_assoc (removal_frames (removals_of base tree)) (flat_map row_frames (entries_of base tree)) (End (length (entries_of base tree)) ∷ []))

pub run_begins : RunBegins
run_begins base tree done frame run given =
    let body : List Frame = removal_frames (removals_of base tree) ++ flat_map row_frames (entries_of base tree) in
    let last : ℕ = length (entries_of base tree) in
    let apart : frames_since base tree ≡ body ++ End last ∷ [] = end_apart base tree in
    let w : BeginsWith (body ++ End last ∷ []) done frame =
    begins body last done frame
    (none_then (removal_frames (removals_of base tree)) (flat_map row_frames (entries_of base tree)) (none_removed (removals_of base tree)) (none_in_rows (entries_of base tree)))
    (subst (λ (all : List Frame). IsRun all (done ++ frame ∷ [])) apart run) given in
    (w.rest, apart ∙ w.all_are, w.ended)
