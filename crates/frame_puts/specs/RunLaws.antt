-- Laws of the calls of many frames.
use Rattle.std.specs.Prelude.{◌≡◌, ◌<◌, ◌≤◌, ◌-◌, ℕ, zero, suc, min, nat_lt, Bool, true, false, List, [], ◌∷◌, ◌++◌, map, length, take, drop, Some, Ok}
use Rattle.std.specs.List.{flat_map}
use Rattle.std.proofs.Common.{refl, sym, ap, ◌∙◌, subst, append_assoc, append-nil, arith}
use Rattle.std.proofs.lemmas.Bool.Decides.{Decides-ltb}
use Rattle.std.proofs.lemmas.List.{length-drop, length-take, take_all, drop_all}
use Rattle.attr_records.specs.declared.nodes.Item.{Item}
use Rattle.attr_records.specs.declared.nodes.Item.TheVariants as I
use Rattle.attr_records.specs.declared.nodes.File.{File}
use Rattle.attr_records.specs.Items.{Tree}
use Rattle.tree_frames.specs.declared.nodes.FileNode.{FileNode}
use Rattle.tree_frames.specs.declared.nodes.Frame.{Frame}
use Rattle.tree_frames.specs.declared.nodes.Frame.TheVariants.{Deleted, Entry, Piece, End}
use Rattle.tree_frames.specs.Frames.{pieces, node_of, row_frames, frames, removals_of, entries_of, removal_frames}
use Rattle.tree_frames.specs.PieceLaws.{pieces_first, no_pieces}
use Rattle.receipts.specs.declared.session.SessionName.{SessionName}
use Rattle.office_model.specs.declared.answer.Answer.TheVariants as A
use Rattle.office_model.specs.Step.{Call}
use Rattle.folder_laws.specs.Calls.{remove_call, remove_calls, put_call, piece_call, piece_calls, file_calls}
use Rattle.frame_puts.specs.declared.files.SmallFile.{SmallFile}
use Rattle.frame_puts.specs.declared.files.LargeFile.{LargeFile}
use Rattle.frame_puts.specs.declared.laying.Laying.{Laying}
use Rattle.frame_puts.specs.declared.laying.Laying.TheVariants.{Nothing, Small, Large, Ended}
use Rattle.frame_puts.specs.Steps.{Step, file_item, node_put, removal_step, whole_step, opening_step, waiting_step, end_step, more_step, last_step, piece_step, frame_step}
use Rattle.frame_puts.specs.StepLaws.{not_before, is_same, file_opens, file_waits, file_puts, only_fits, piece_more, piece_last}
use Rattle.frame_puts.specs.Runs.{Lays, Fits, row_calls, AreLaid, paths_of, LaysTree, FitsTree, LaysMore, FitsNext}

some_is : (x y : Step) → Some x ≡ Some y → x ≡ y
some_is x y e = cc

-- ---- files and their pieces

abbrev node_of_file : File → FileNode
node_of_file file = record { attr = file.attr; group = file.group; size = length file.bytes }

abbrev large_file : List ℕ → FileNode → ℕ → List ℕ → LargeFile
large_file path node stage bytes = record { path = path; node = node; stage = stage; left = length bytes }

module _ (dump : SessionName) where
  -- the next piece of bytes of which more are left
  next_more : (path : List ℕ) (node : FileNode) (stage : ℕ) (bytes : List ℕ) → 65536 < length bytes
      → piece_step dump (large_file path node stage bytes) (take 65536 bytes)
      ≡ Some (more_step (large_file path node stage bytes) (length (drop 65536 bytes)) (take 65536 bytes))
  next_more path node stage bytes more =
      let taken : length (take 65536 bytes) ≡ min 65536 (length bytes) = length-take 65536 bytes in
      let dropped : length (drop 65536 bytes) ≡ length bytes - 65536 = length-drop 65536 bytes in
      piece_more dump (large_file path node stage bytes) (take 65536 bytes) (length (drop 65536 bytes)) taken (omega (arith, taken, more)) (omega (arith, taken, dropped, more))

  next_last : (path : List ℕ) (node : FileNode) (stage : ℕ) (bytes : List ℕ) → length bytes ≤ 65536
      → piece_step dump (large_file path node stage bytes) (take 65536 bytes) ≡ Some (last_step dump (large_file path node stage bytes) (take 65536 bytes))
  next_last path node stage bytes few =
      let taken : length (take 65536 bytes) ≡ min 65536 (length bytes) = length-take 65536 bytes in
      piece_last dump (large_file path node stage bytes) (take 65536 bytes) taken (omega (arith, taken, few))

-- the pieces of bytes that are no more than one
one_piece : (bytes : List ℕ) → 0 < length bytes → length bytes ≤ 65536 → pieces bytes ≡ take 65536 bytes ∷ []
one_piece bytes some few =
    let dropped : length (drop 65536 bytes) ≡ length bytes - 65536 = length-drop 65536 bytes in
    pieces_first bytes some ∙ ap (λ ps. take 65536 bytes ∷ ps) (no_pieces (drop 65536 bytes) (omega (arith, dropped, few)))

-- what is left behind a first piece
shorter : (n : ℕ) (bytes : List ℕ) → length bytes ≤ suc n → 65536 < length bytes → length (drop 65536 bytes) ≤ n
shorter n bytes h long =
    let dropped : length (drop 65536 bytes) ≡ length bytes - 65536 = length-drop 65536 bytes in
    omega (arith, h, long, dropped)

some_left : (bytes : List ℕ) → 65536 < length bytes → 0 < length (drop 65536 bytes)
some_left bytes long =
    let dropped : length (drop 65536 bytes) ≡ length bytes - 65536 = length-drop 65536 bytes in
    omega (arith, long, dropped)

bare_pieces : pieces [] ≡ []
bare_pieces = no_pieces [] (omega arith)

-- ---- the calls of the first frames

module _ (dump : SessionName) (new : Laying) where
  -- the calls begin with these, and those of the other frames come behind them
  record Behind (laying : Laying) (first : List Call) (frames : List Frame) (calls : List Call) : Type 0 where
    pub rest : List Call
    pub calls_are : calls ≡ first ++ rest
    pub lays : Lays dump laying frames rest new

  next_frame : (old : Laying) (frame : Frame) (frames : List Frame) (calls : List Call) (steps : ℕ → Step)
      → ((stage : ℕ) → frame_step dump old stage frame ≡ Some (steps stage)) → Lays dump old (frame ∷ frames) calls new
      → (stage : ℕ) × Behind (steps stage).laying (steps stage).calls frames calls
  next_frame old frame frames calls steps are lays =
      let same : lays.1 ≡ steps lays.0 = some_is lays.1 (steps lays.0) (sym lays.3 ∙ are lays.0) in (
        lays.0,
        record {
          rest = lays.2;
          calls_are = lays.4 ∙ ap (λ (s : Step). s.calls ++ lays.2) same;
          lays = subst (λ (s : Step). Lays dump s.laying frames lays.2 new) same lays.5;
        },
      )

  -- and then with these, too
  behind_both : (laying mid : Laying) (first second : List Call) (later frames : List Frame) (calls : List Call) (b : Behind mid first later calls)
      → Behind laying second frames b.rest → Behind laying (first ++ second) frames calls
  behind_both laying mid first second later frames calls b c = record {
    rest = c.rest;
    calls_are = b.calls_are ∙ ap (λ cs. first ++ cs) c.calls_are ∙ sym (append_assoc first second c.rest);
    lays = c.lays;
  }

  removals_laid : (rows : Tree) (more : List Frame) (calls : List Call) → Lays dump Nothing (removal_frames rows ++ more) calls new
      → Behind Nothing (remove_calls dump (paths_of rows)) more calls
  removals_laid [] more calls lays = record { rest = calls; calls_are = refl; lays = lays }
  removals_laid (row ∷ rows) more calls lays =
      let n = next_frame Nothing (Deleted row.0) (removal_frames rows ++ more) calls (λ stage. removal_step dump row.0) (λ stage. refl) lays in
      behind_both Nothing Nothing (remove_call dump row.0 ∷ []) (remove_calls dump (paths_of rows)) (removal_frames rows ++ more) more calls n.1
      (removals_laid rows more n.1.rest n.1.lays)

  -- ---- the pieces of a large file

  large_laid : (n : ℕ) (path : List ℕ) (node : FileNode) (stage : ℕ) (bytes : List ℕ) (more : List Frame) (calls : List Call) → length bytes ≤ n
      → 0 < length bytes → Lays dump (Large (large_file path node stage bytes)) (map Piece (pieces bytes) ++ more) calls new
      → Behind Nothing (piece_calls stage (pieces bytes) ++ (node_put dump path node stage, Ok A.Done) ∷ []) more calls
  large_laid zero path node stage bytes more calls h some lays = absurd (omega (arith, h, some))
  large_laid (suc n) path node stage bytes more calls h some lays =
      by (nat_lt 65536 (length bytes)) refl
      (λ long later laid. large_laid n path node stage (drop 65536 bytes) more later (shorter n bytes h long) (some_left bytes long) laid)
    where
      piece : List ℕ
      piece = take 65536 bytes

      put : Call
      put = (node_put dump path node stage, Ok A.Done)

      by : (b : Bool) → nat_lt 65536 (length bytes) ≡ b
          → (65536 < length bytes → (later : List Call)
          → Lays dump (Large (large_file path node stage (drop 65536 bytes))) (map Piece (pieces (drop 65536 bytes)) ++ more) later new
          → Behind Nothing (piece_calls stage (pieces (drop 65536 bytes)) ++ put ∷ []) more later)
          → Behind Nothing (piece_calls stage (pieces bytes) ++ put ∷ []) more calls
      by true e rest =
          let long : 65536 < length bytes = (Decides-ltb 65536 (length bytes)).0 e in
          let first : pieces bytes ≡ piece ∷ pieces (drop 65536 bytes) = pieces_first bytes some in
          let k = next_frame (Large (large_file path node stage bytes)) (Piece piece) (map Piece (pieces (drop 65536 bytes)) ++ more) calls
          (λ s. more_step (large_file path node stage bytes) (length (drop 65536 bytes)) piece)
          (λ s. next_more dump path node stage bytes long)
          (subst (λ ps. Lays dump (Large (large_file path node stage bytes)) (map Piece ps ++ more) calls new) first lays) in
          subst (λ ps. Behind Nothing (piece_calls stage ps ++ put ∷ []) more calls) (sym first)
          (behind_both Nothing (Large (large_file path node stage (drop 65536 bytes))) (piece_call stage piece ∷ [])
          (piece_calls stage (pieces (drop 65536 bytes)) ++ put ∷ []) (map Piece (pieces (drop 65536 bytes)) ++ more) more calls k.1
          (rest long k.1.rest k.1.lays))
      by false e rest =
          let few : length bytes ≤ 65536 = not_before 65536 (length bytes) e in
          let only : pieces bytes ≡ piece ∷ [] = one_piece bytes some few in
          subst (λ ps. Behind Nothing (piece_calls stage ps ++ put ∷ []) more calls) (sym only)
          (next_frame (Large (large_file path node stage bytes)) (Piece piece) more calls (λ s. last_step dump (large_file path node stage bytes) piece)
          (λ s. next_last dump path node stage bytes few)
          (subst (λ ps. Lays dump (Large (large_file path node stage bytes)) (map Piece ps ++ more) calls new) only lays)).1

  -- ---- rows

  file_laid : (path : List ℕ) (file : File) (more : List Frame) (calls : List Call) → Lays dump Nothing (row_frames (path, I.File file) ++ more) calls new
      → (stage : ℕ) × Behind Nothing (file_calls (nat_lt 65536 (length file.bytes)) dump path file stage) more calls
  file_laid path file more calls lays = by (nat_lt 65536 (length file.bytes)) refl (nat_lt 0 (length file.bytes)) refl
    where
      node : FileNode
      node = node_of_file file

      behind : List Frame
      behind = map Piece (pieces file.bytes) ++ more

      by : (large : Bool) → nat_lt 65536 (length file.bytes) ≡ large → (some : Bool) → nat_lt 0 (length file.bytes) ≡ some
          → (stage : ℕ) × Behind Nothing (file_calls large dump path file stage) more calls
      by true e some f =
          let long : 65536 < length file.bytes = (Decides-ltb 65536 (length file.bytes)).0 e in
          let k = next_frame Nothing (Entry path (node_of (I.File file))) behind calls (opening_step dump path node)
          (λ stage. ap Some (file_opens dump path node stage long)) lays in
          let p = large_laid (length file.bytes) path node k.0 file.bytes more k.1.rest (omega arith) (omega (arith, long)) k.1.lays in (
            k.0,
            behind_both Nothing (Large (large_file path node k.0 file.bytes)) (opening_step dump path node k.0).calls
                (piece_calls k.0 (pieces file.bytes) ++ (node_put dump path node k.0, Ok A.Done) ∷ []) behind more calls k.1 p,
          )
      by false e true f =
          let few : length file.bytes ≤ 65536 = not_before 65536 (length file.bytes) e in
          let some : 0 < length file.bytes = (Decides-ltb 0 (length file.bytes)).0 f in
          let only : pieces file.bytes ≡ file.bytes ∷ [] = one_piece file.bytes some few ∙ ap (λ bs. bs ∷ []) (take_all 65536 file.bytes few) in
          let k = next_frame Nothing (Entry path (node_of (I.File file))) behind calls (λ stage. waiting_step path node)
          (λ stage. ap Some (file_waits dump path node stage few some)) lays in
          let small : SmallFile = record { path = path; node = node } in
          let p = next_frame (Small small) (Piece file.bytes) more k.1.rest (λ stage. whole_step dump path (I.File file))
          (λ stage. only_fits dump small file.bytes (is_same (length file.bytes) (length file.bytes) refl))
          (subst (λ ps. Lays dump (Small small) (map Piece ps ++ more) k.1.rest new) only k.1.lays) in
          (0, behind_both Nothing (Small small) [] (put_call dump path (I.File file) ∷ []) behind more calls k.1 p.1)
      by false e false f =
          let none : length file.bytes ≤ 0 = not_before 0 (length file.bytes) f in
          let bare : [] ≡ file.bytes = sym (drop_all 0 file.bytes none) in
          let k = next_frame Nothing (Entry path (node_of (I.File file))) behind calls (λ stage. whole_step dump path (file_item node []))
          (λ stage. ap Some (file_puts dump path node stage none)) lays in (
            0,
            subst (λ bs. Behind Nothing (put_call dump path (file_item node bs) ∷ []) more calls) bare
                (record {
                  rest = k.1.rest;
                  calls_are = k.1.calls_are;
                  lays = subst (λ ps. Lays dump Nothing (map Piece ps ++ more) k.1.rest new) (no_pieces file.bytes none) k.1.lays;
                }),
          )

  row_laid : (path : List ℕ) (item : Item) (more : List Frame) (calls : List Call) → Lays dump Nothing (row_frames (path, item) ++ more) calls new
      → (stage : ℕ) × Behind Nothing (row_calls dump path item stage) more calls
  row_laid path (I.File file) more calls lays = file_laid path file more calls lays
  row_laid path (I.Dir dir) more calls lays =
      next_frame Nothing (Entry path (node_of (I.Dir dir))) more calls (λ stage. whole_step dump path (I.Dir dir)) (λ stage. refl)
      (subst (λ ps. Lays dump Nothing (Entry path (node_of (I.Dir dir)) ∷ (map Piece ps ++ more)) calls new) bare_pieces lays)
  row_laid path (I.Link link) more calls lays =
      next_frame Nothing (Entry path (node_of (I.Link link))) more calls (λ stage. whole_step dump path (I.Link link)) (λ stage. refl)
      (subst (λ ps. Lays dump Nothing (Entry path (node_of (I.Link link)) ∷ (map Piece ps ++ more)) calls new) bare_pieces lays)

  rows_laid : (tree : Tree) (count : ℕ) (calls : List Call) → Lays dump Nothing (flat_map row_frames tree ++ End count ∷ []) calls new
      → AreLaid dump tree calls × (new ≡ Ended)
  rows_laid [] count calls lays =
      let k = next_frame Nothing (End count) [] calls (λ stage. end_step) (λ stage. refl) lays in (k.1.calls_are ∙ k.1.lays.0, k.1.lays.1)
  rows_laid (row ∷ tree) count calls lays =
      let behind : List Frame = flat_map row_frames tree ++ End count ∷ [] in
      let r = row_laid row.0 row.1 behind calls
      (subst (λ fs. Lays dump Nothing fs calls new) (append_assoc (row_frames row) (flat_map row_frames tree) (End count ∷ [])) lays) in
      let t = rows_laid tree count r.1.rest r.1.lays in
      ((row_calls dump row.0 row.1 r.0, r.1.rest, (r.0, refl), r.1.calls_are, t.0), t.1)

pub lays_tree : LaysTree
unfolding frames
lays_tree dump base tree calls new lays =
    let b = removals_laid dump new (removals_of base tree) (frames (entries_of base tree)) calls lays in
    let t = rows_laid dump new (entries_of base tree) (length (entries_of base tree)) b.rest b.lays in
    (record { puts = b.rest; are_puts = t.0; calls_are = b.calls_are }, t.1)

-- ---- one more frame

pub lays_more : LaysMore
lays_more dump old mid [] frame calls stage step lays is = (
  stage,
  step,
  [],
  subst (λ laying. frame_step dump laying stage frame ≡ Some step) lays.1 is,
  ap (λ cs. cs ++ step.calls) lays.0 ∙ sym (append-nil step.calls),
  (refl, refl),
)
lays_more dump old mid (first ∷ frames) frame calls stage step lays is = (
  lays.0,
  lays.1,
  lays.2 ++ step.calls,
  lays.3,
  ap (λ cs. cs ++ step.calls) lays.4 ∙ append_assoc lays.1.calls lays.2 step.calls,
  lays_more dump lays.1.laying mid frames frame lays.2 stage step lays.5 is,
)

-- ---- the frames fit

module _ (dump : SessionName) where
  fits_frame : (old : Laying) (frame : Frame) (frames : List Frame) (steps : ℕ → Step)
      → ((stage : ℕ) → frame_step dump old stage frame ≡ Some (steps stage)) → ((stage : ℕ) → Fits dump (steps stage).laying frames)
      → Fits dump old (frame ∷ frames)
  fits_frame old frame frames steps are rest = λ stage. (steps stage, are stage, rest stage)

  removals_fit : (rows : Tree) (more : List Frame) → Fits dump Nothing more → Fits dump Nothing (removal_frames rows ++ more)
  removals_fit [] more fits = fits
  removals_fit (row ∷ rows) more fits =
      fits_frame Nothing (Deleted row.0) (removal_frames rows ++ more) (λ stage. removal_step dump row.0) (λ stage. refl)
      (λ stage. removals_fit rows more fits)

  large_fits : (n : ℕ) (path : List ℕ) (node : FileNode) (stage : ℕ) (bytes : List ℕ) (more : List Frame) → length bytes ≤ n → 0 < length bytes
      → Fits dump Nothing more → Fits dump (Large (large_file path node stage bytes)) (map Piece (pieces bytes) ++ more)
  large_fits zero path node stage bytes more h some fits = absurd (omega (arith, h, some))
  large_fits (suc n) path node stage bytes more h some fits =
      by (nat_lt 65536 (length bytes)) refl
      (λ long. large_fits n path node stage (drop 65536 bytes) more (shorter n bytes h long) (some_left bytes long) fits)
    where
      piece : List ℕ
      piece = take 65536 bytes

      by : (b : Bool) → nat_lt 65536 (length bytes) ≡ b
          → (65536 < length bytes → Fits dump (Large (large_file path node stage (drop 65536 bytes))) (map Piece (pieces (drop 65536 bytes)) ++ more))
          → Fits dump (Large (large_file path node stage bytes)) (map Piece (pieces bytes) ++ more)
      by true e rest =
          let long : 65536 < length bytes = (Decides-ltb 65536 (length bytes)).0 e in
          subst (λ ps. Fits dump (Large (large_file path node stage bytes)) (map Piece ps ++ more)) (sym (pieces_first bytes some))
          (fits_frame (Large (large_file path node stage bytes)) (Piece piece) (map Piece (pieces (drop 65536 bytes)) ++ more)
          (λ s. more_step (large_file path node stage bytes) (length (drop 65536 bytes)) piece) (λ s. next_more dump path node stage bytes long) (λ s. rest long))
      by false e rest =
          let few : length bytes ≤ 65536 = not_before 65536 (length bytes) e in
          subst (λ ps. Fits dump (Large (large_file path node stage bytes)) (map Piece ps ++ more)) (sym (one_piece bytes some few))
          (fits_frame (Large (large_file path node stage bytes)) (Piece piece) more (λ s. last_step dump (large_file path node stage bytes) piece)
          (λ s. next_last dump path node stage bytes few) (λ s. fits))

  file_fits : (path : List ℕ) (file : File) (more : List Frame) → Fits dump Nothing more
      → Fits dump Nothing (row_frames (path, I.File file) ++ more)
  file_fits path file more fits = by (nat_lt 65536 (length file.bytes)) refl (nat_lt 0 (length file.bytes)) refl
    where
      node : FileNode
      node = node_of_file file

      behind : List Frame
      behind = map Piece (pieces file.bytes) ++ more

      by : (large : Bool) → nat_lt 65536 (length file.bytes) ≡ large → (some : Bool) → nat_lt 0 (length file.bytes) ≡ some
          → Fits dump Nothing (row_frames (path, I.File file) ++ more)
      by true e some f =
          let long : 65536 < length file.bytes = (Decides-ltb 65536 (length file.bytes)).0 e in
          fits_frame Nothing (Entry path (node_of (I.File file))) behind (opening_step dump path node)
          (λ stage. ap Some (file_opens dump path node stage long))
          (λ stage. large_fits (length file.bytes) path node stage file.bytes more (omega arith) (omega (arith, long)) fits)
      by false e true f =
          let few : length file.bytes ≤ 65536 = not_before 65536 (length file.bytes) e in
          let some : 0 < length file.bytes = (Decides-ltb 0 (length file.bytes)).0 f in
          let only : pieces file.bytes ≡ file.bytes ∷ [] = one_piece file.bytes some few ∙ ap (λ bs. bs ∷ []) (take_all 65536 file.bytes few) in
          let small : SmallFile = record { path = path; node = node } in
          let rest : Fits dump (Small small) behind =
          subst (λ ps. Fits dump (Small small) (map Piece ps ++ more)) (sym only)
          (fits_frame (Small small) (Piece file.bytes) more (λ stage. whole_step dump path (I.File file)) (λ stage. only_fits dump small file.bytes (is_same (length file.bytes) (length file.bytes) refl))
          (λ stage. fits)) in
          fits_frame Nothing (Entry path (node_of (I.File file))) behind (λ stage. waiting_step path node)
          (λ stage. ap Some (file_waits dump path node stage few some)) (λ stage. rest)
      by false e false f =
          let none : length file.bytes ≤ 0 = not_before 0 (length file.bytes) f in
          let rest : Fits dump Nothing behind = subst (λ ps. Fits dump Nothing (map Piece ps ++ more)) (sym (no_pieces file.bytes none)) fits in
          fits_frame Nothing (Entry path (node_of (I.File file))) behind (λ stage. whole_step dump path (file_item node []))
          (λ stage. ap Some (file_puts dump path node stage none)) (λ stage. rest)

  row_fits : (path : List ℕ) (item : Item) (more : List Frame) → Fits dump Nothing more → Fits dump Nothing (row_frames (path, item) ++ more)
  row_fits path (I.File file) more fits = file_fits path file more fits
  row_fits path (I.Dir dir) more fits =
      subst (λ ps. Fits dump Nothing (Entry path (node_of (I.Dir dir)) ∷ (map Piece ps ++ more))) (sym bare_pieces)
      (fits_frame Nothing (Entry path (node_of (I.Dir dir))) more (λ stage. whole_step dump path (I.Dir dir)) (λ stage. refl) (λ stage. fits))
  row_fits path (I.Link link) more fits =
      subst (λ ps. Fits dump Nothing (Entry path (node_of (I.Link link)) ∷ (map Piece ps ++ more))) (sym bare_pieces)
      (fits_frame Nothing (Entry path (node_of (I.Link link))) more (λ stage. whole_step dump path (I.Link link)) (λ stage. refl) (λ stage. fits))

  rows_fit : (tree : Tree) (count : ℕ) → Fits dump Nothing (flat_map row_frames tree ++ End count ∷ [])
  rows_fit [] count = fits_frame Nothing (End count) [] (λ stage. end_step) (λ stage. refl) (λ stage. tt)
  rows_fit (row ∷ tree) count =
      subst (Fits dump Nothing) (sym (append_assoc (row_frames row) (flat_map row_frames tree) (End count ∷ [])))
      (row_fits row.0 row.1 (flat_map row_frames tree ++ End count ∷ []) (rows_fit tree count))

pub fits_tree : FitsTree
unfolding frames
fits_tree dump base tree =
    removals_fit dump (removals_of base tree) (frames (entries_of base tree)) (rows_fit dump (entries_of base tree) (length (entries_of base tree)))

pub fits_next : FitsNext
fits_next dump old mid [] frame rest calls lays fits stage =
    subst (λ laying. (step : Step) × (frame_step dump laying stage frame ≡ Some step)) (sym lays.1) ((fits stage).0, (fits stage).1)
fits_next dump old mid (first ∷ done) frame rest calls lays fits stage =
    let same : (fits lays.0).0 ≡ lays.1 = some_is (fits lays.0).0 lays.1 (sym (fits lays.0).1 ∙ lays.3) in
    fits_next dump lays.1.laying mid done frame rest lays.2 lays.5
    (subst (λ (s : Step). Fits dump s.laying (done ++ frame ∷ rest)) same (fits lays.0).2) stage
