-- What a restore gives from its rows is what the model's gives from its tree.
--     is_removal, is_entry, is_piece      what comes next at a place
--     removal_gives, entry_gives, piece_gives      a removal, an entry and a piece, and the place behind them
--     never_wrong      the digest of a content that the tables tell isn't wrong
use Rattle.std.specs.Prelude.{◌≡◌, ◌<◌, ◌≤◌, ◌+◌, ◌-◌, ◌==◌, ℕ, zero, suc, min, Bool, true, false, List, [], ◌∷◌, ◌++◌, take, drop, length, Option, Some, None, slice_get, if◌then◌else◌}
use Rattle.std.proofs.Common.{refl, sym, ap, ◌∙◌, subst, arith}
use Rattle.std.proofs.lemmas.Bool.{true≢false}
use Rattle.std.proofs.lemmas.Bool.Decides.{nat_tests}
use Rattle.std.proofs.lemmas.List.{length-drop, take_min, take_all}
use Rattle.std.proofs.Math.Seq.{take-add}
use borrow.Author.Tests.{eqb-true}
use Rattle.disk_trait.specs.declared.ids.PoolId.{PoolId}
use Rattle.pool_name.specs.declared.namer.Namer.{Ghosts as NamerGhosts}
use Rattle.attr_records.specs.declared.nodes.Item.{Item}
use Rattle.attr_records.specs.Items.{Tree}
use Rattle.attr_tables.specs.declared.records.Record.{Record}
use Rattle.attr_tables.specs.declared.records.Record.TheVariants.{File, Dir, Link, Deleted}
use Rattle.merge_view.specs.Views.{Rows, is_mark, HasNoMarks}
use Rattle.stored_trees.specs.Values.{AllValues}
use Rattle.stored_trees.specs.Resolved.{bytes_of, resolved, resolved_item, IsTold, IsToldContent}
use Rattle.tree_frames.specs.declared.nodes.Node.TheVariants as N
use Rattle.tree_frames.specs.declared.nodes.Frame.TheVariants as F
use Rattle.tree_frames.specs.Frames.{node_of}
use Rattle.tree_frames.specs.Frames as Frames
use Rattle.open_sessions.specs.declared.sessions.Asked.{Asked}
use Rattle.open_sessions.specs.declared.sessions.Next.{Next as NextOf}
use Rattle.open_sessions.specs.declared.sessions.Next.TheVariants as Next
use Rattle.open_sessions.specs.declared.sessions.Place.{Place}
use Rattle.open_sessions.specs.declared.sessions.Place.TheVariants.{Removal, Entry, Content, Piece, Wrong}
use Rattle.open_sessions.specs.Opened.{AreRowsOf}
use Rattle.open_sessions.specs.Places.{entries_of, bytes_found, bytes_at, left_from, frames_from, IsPlace, IsAt, piece_of, piece_node, piece_found, removal_found, next_in, at_removal, behind_node, behind_entry}
use Rattle.open_sessions.specs.PlaceLaws.{removal_left, removal_within, entry_left, file_passed, piece_left, file_left, end_left, Gives, gives_next, gives_end}
use Rattle.store_reads.specs.Shown.{node_in}
use Rattle.store_restores.specs.Giving.{count_of, removal_in, removal_told, entry_frame, frame_found, entry_in, room_of, is_last, HasTaken, IsBehind}

-- ---- rows one by one

told_at : (P : Record → Type 0) (rows : Rows) (i : ℕ) (row : List ℕ × Record) → AllValues P rows → slice_get rows i ≡ Some row → P row.1
told_at P [] i row told e = absurd cc
told_at P (first ∷ rows) zero row told e = let same : first ≡ row = cc in subst (λ (r : List ℕ × Record). P r.1) same told.0
told_at P (first ∷ rows) (suc i) row told e = told_at P rows i row told.1 e

unmarked_at : (rows : Rows) (i : ℕ) (row : List ℕ × Record) → HasNoMarks rows → slice_get rows i ≡ Some row → is_mark row.1 ≡ false
unmarked_at [] i row clean e = absurd cc
unmarked_at (first ∷ rows) zero row clean e =
    let same : first ≡ row = cc in subst (λ (r : List ℕ × Record). is_mark r.1 ≡ false) same clean.0
unmarked_at (first ∷ rows) (suc i) row clean e = unmarked_at rows i row clean.1 e

row_within : (rows : Rows) (i : ℕ) → i < length rows → (row : List ℕ × Record) × (slice_get rows i ≡ Some row)
row_within [] i h = absurd (omega (arith, h))
row_within (row ∷ rows) zero h = (row, refl)
row_within (row ∷ rows) (suc i) h = row_within rows i (omega (arith, h))

is_zero : (n : ℕ) → (n == 0) ≡ true → n ≡ 0
is_zero n e = eqb-true n 0 e

is_more : (n : ℕ) → (n == 0) ≡ false → 0 < n
is_more zero e = absurd (true≢false e)
is_more (suc n) e = omega arith

no_wrong : (row from : ℕ) (found : Option (List ℕ × Record)) (content : PoolId) (digest : List ℕ)
    → piece_found row from found ≡ Next.Wrong content digest → ⊥
no_wrong row from None content digest e = cc
no_wrong row from (Some found) content digest e = node found.1 e
  where
    of_content : (size : ℕ) (id : Option PoolId) → piece_of row from size id ≡ Next.Wrong content digest → ⊥
    of_content size None e = cc
    of_content size (Some id) e = cc

    node : (node : Record) → piece_node row from node ≡ Next.Wrong content digest → ⊥
    node (File file) e = of_content file.size file.content e
    node (Dir dir) e = cc
    node (Link link) e = cc
    node Deleted e = cc

no_removal : (row from next : ℕ) (found : Option (List ℕ × Record)) → piece_found row from found ≡ Next.Removal next → ⊥
no_removal row from next None e = cc
no_removal row from next (Some found) e = node found.1 e
  where
    of_content : (size : ℕ) (id : Option PoolId) → piece_of row from size id ≡ Next.Removal next → ⊥
    of_content size None e = cc
    of_content size (Some id) e = cc

    node : (node : Record) → piece_node row from node ≡ Next.Removal next → ⊥
    node (File file) e = of_content file.size file.content e
    node (Dir dir) e = cc
    node (Link link) e = cc
    node Deleted e = cc

-- a removal that is told is there
pub record IsThere {S : Type 0} (removed : Rows) (place : Place S) (row : ℕ) : Type 0 where
  pub found : List ℕ × Record
  pub there : slice_get removed row ≡ Some found
  pub here : place ≡ Removal row

pub is_removal : {S : Type 0} (removed rows : Rows) (place : Place S) (row : ℕ) → Next.Removal row ≡ next_in removed rows place
    → IsThere removed place row
is_removal {S} removed rows (Removal at) row e = step (slice_get removed at) refl e
  where
    step : (found : Option (List ℕ × Record)) → slice_get removed at ≡ found → Next.Removal row ≡ removal_found at found
        → IsThere {S = S} removed (Removal at) row
    step None there e = absurd cc
    step (Some found) there e =
        let same : row ≡ at = cc in
        record { found = found; there = ap (slice_get removed) same ∙ there; here = ap (λ (k : ℕ). Removal k) (sym same) }
is_removal removed rows (Entry at) row e = absurd cc
is_removal removed rows (Wrong content digest) row e = absurd cc
is_removal removed rows (Content at) row e = absurd (no_removal at 0 row (slice_get rows at) (sym e))
is_removal removed rows (Piece at given digest) row e = absurd (no_removal at given row (slice_get rows at) (sym e))

none_some : {A : Type 0} {x : A} {o : Option A} → o ≡ None → o ≡ Some x → ⊥
none_some none some = cc

-- a removal that is there isn't passed over
removal_first : (removed : Rows) (at : ℕ) (next : NextOf) (found : Option (List ℕ × Record)) → slice_get removed at ≡ found
    → at < length removed → next ≡ removal_found at found → next ≡ Next.Removal at
removal_first removed at next None there within e = let w = row_within removed at within in absurd (none_some there w.1)
removal_first removed at next (Some found) there within e = e

no_piece : (asked : Asked) (at : ℕ) → Next.Piece asked ≡ Next.Removal at → ⊥
no_piece asked at e = cc

no_entry : (row at : ℕ) → Next.Entry row ≡ Next.Removal at → ⊥
no_entry row at e = cc

none_wrong : (content : PoolId) (digest : List ℕ) (at : ℕ) → Next.Wrong content digest ≡ Next.Removal at → ⊥
none_wrong content digest at e = cc

module _ (contents : PoolId → List ℕ) where
  abbrev shown : List ℕ × Record → List ℕ × Item
  shown row = (row.0, resolved_item contents row.1)

  shown_at : (rows : Rows) (i : ℕ) (row : List ℕ × Record) → slice_get rows i ≡ Some row
      → slice_get (resolved contents rows) i ≡ Some (shown row)
  shown_at [] i row e = absurd cc
  shown_at (first ∷ rows) zero row e = let same : first ≡ row = cc in ap (λ (r : List ℕ × Record). Some (shown r)) same
  shown_at (first ∷ rows) (suc i) row e = shown_at rows i row e

  none_at : (rows : Rows) (i : ℕ) → slice_get rows i ≡ None → slice_get (resolved contents rows) i ≡ None
  none_at [] i e = refl
  none_at (first ∷ rows) zero e = absurd cc
  none_at (first ∷ rows) (suc i) e = none_at rows i e

  pub length_shown : (rows : Rows) → length (resolved contents rows) ≡ length rows
  length_shown [] = refl
  length_shown (row ∷ rows) = ap suc (length_shown rows)

  module _ (given : PoolId → Type 0) where
    size_told : (size : ℕ) (content : Option PoolId) → IsToldContent given contents size content → size ≡ length (bytes_of contents content)
    size_told size None told = told
    size_told size (Some id) told = told.1

    entry_told : (total : ℕ) (path : List ℕ) (node : Record) → IsTold given contents node → is_mark node ≡ false
        → entry_frame total path (node_in node) ≡ F.Entry path (node_of (resolved_item contents node))
    entry_told total path (File file) told clean =
        ap (λ size. F.Entry path (N.File (record { attr = file.attr; group = file.group; size = size })))
        (size_told file.size file.content told)
    entry_told total path (Dir dir) told clean = refl
    entry_told total path (Link link) told clean = refl
    entry_told total path Deleted told clean = absurd cc

    -- the piece that is asked for is of the content of a row
    pub record IsAsked (tree : Tree) (asked : Asked) (row from : ℕ) : Type 0 where
      pub row_is : asked.row ≡ row
      pub from_is : asked.from ≡ from
      pub is_given : given asked.content
      pub bytes : bytes_at tree row ≡ contents asked.content
      pub size : asked.size ≡ length (contents asked.content)

    module _ (removed rows : Rows) (of : AreRowsOf given contents rows) where
      abbrev tree : Tree
      tree = resolved contents rows

      bytes_shown : (row : ℕ) (found : List ℕ × Record) → slice_get rows row ≡ Some found
          → bytes_at tree row ≡ Frames.bytes_of (resolved_item contents found.1)
      bytes_shown row found e = ap bytes_found (shown_at rows row found e)

      no_bytes : (row : ℕ) → slice_get rows row ≡ None → bytes_at tree row ≡ []
      no_bytes row e = ap bytes_found (none_at rows row e)

      -- ---- what comes next

      asked_at : (row from : ℕ) (asked : Asked) → piece_found row from (slice_get rows row) ≡ Next.Piece asked → IsAsked tree asked row from
      asked_at row from asked e = step (slice_get rows row) refl e
        where
          content : (size : ℕ) (content : Option PoolId) → bytes_at tree row ≡ bytes_of contents content
              → IsToldContent given contents size content → piece_of row from size content ≡ Next.Piece asked → IsAsked tree asked row from
          content size None bytes told e = absurd cc
          content size (Some id) bytes told e =
              let same : record { row = row; content = id; size = size; from = from } ≡ asked = cc in
              subst (λ (a : Asked). IsAsked tree a row from) same
              (record { row_is = refl; from_is = refl; is_given = told.0; bytes = bytes; size = told.1 })

          node : (path : List ℕ) (node : Record) → slice_get rows row ≡ Some (path, node) → piece_node row from node ≡ Next.Piece asked
              → IsAsked tree asked row from
          node path (File file) there e =
              content file.size file.content (bytes_shown row (path, File file) there)
              (told_at (IsTold given contents) rows row (path, File file) of.told there) e
          node path (Dir dir) there e = absurd cc
          node path (Link link) there e = absurd cc
          node path Deleted there e = absurd cc

          step : (found : Option (List ℕ × Record)) → slice_get rows row ≡ found → piece_found row from found ≡ Next.Piece asked
              → IsAsked tree asked row from
          step None there e = absurd cc
          step (Some found) there e = node found.0 found.1 there e

      -- what has bytes is asked for
      has_piece : (row from next : ℕ) → 0 < length (bytes_at tree row) → piece_found row from (slice_get rows row) ≡ Next.Entry next → ⊥
      has_piece row from next some e = step (slice_get rows row) refl e
        where
          nothing : bytes_at tree row ≡ [] → ⊥
          nothing none = let n = ap length none in omega (arith, n, some)

          content : (size : ℕ) (content : Option PoolId) → bytes_at tree row ≡ bytes_of contents content
              → piece_of row from size content ≡ Next.Entry next → ⊥
          content size None bytes e = nothing bytes
          content size (Some id) bytes e = cc

          node : (path : List ℕ) (node : Record) → slice_get rows row ≡ Some (path, node) → piece_node row from node ≡ Next.Entry next → ⊥
          node path (File file) there e = content file.size file.content (bytes_shown row (path, File file) there) e
          node path (Dir dir) there e = nothing (bytes_shown row (path, Dir dir) there)
          node path (Link link) there e = nothing (bytes_shown row (path, Link link) there)
          node path Deleted there e = nothing (bytes_shown row (path, Deleted) there)

          step : (found : Option (List ℕ × Record)) → slice_get rows row ≡ found → piece_found row from found ≡ Next.Entry next → ⊥
          step None there e = nothing (no_bytes row there)
          step (Some found) there e = node found.0 found.1 there e

      module _ {N S : Type 0} (n : NamerGhosts N S) where
        -- a place in a content: the rest of it comes next, and the digest took in what was given
        pub record IsIn (place : Place S) (row from : ℕ) : Type 0 where
          pub left : frames_from removed tree place ≡ left_from tree row from
          pub inside : from < length (bytes_at tree row)
          pub taken : HasTaken n.holds place (take from (bytes_at tree row))

        pub record IsPiece (place : Place S) (asked : Asked) : Type 0 where
          pub row : ℕ
          pub from : ℕ
          pub is_in : IsIn place row from
          pub is_asked : IsAsked tree asked row from

        pub is_piece : (place : Place S) (asked : Asked) → IsPlace n.holds removed tree place → Next.Piece asked ≡ next_in removed rows place
            → IsPiece place asked
        is_piece (Removal at) asked within e =
            absurd (no_piece asked at (removal_first removed at (Next.Piece asked) (slice_get removed at) refl within e))
        is_piece (Entry row) asked within e = absurd cc
        is_piece (Wrong content digest) asked within e = absurd within
        is_piece (Content at) asked within e = record {
          row = at;
          from = 0;
          is_in = record { left = refl; inside = within; taken = refl };
          is_asked = asked_at at 0 asked (sym e);
        }
        is_piece (Piece row given digest) asked within e = record {
          row = row;
          from = given;
          is_in = record { left = refl; inside = within.0; taken = within.1 };
          is_asked = asked_at row given asked (sym e);
        }

        pub is_entry : (place : Place S) (row : ℕ) → IsPlace n.holds removed tree place → Next.Entry row ≡ next_in removed rows place
            → place ≡ Entry row
        is_entry (Removal at) row within e =
            absurd (no_entry row at (removal_first removed at (Next.Entry row) (slice_get removed at) refl within e))
        is_entry (Entry row') row within e = let same : row ≡ row' = cc in ap (λ (k : ℕ). Entry k) (sym same)
        is_entry (Wrong content digest) row within e = absurd within
        is_entry (Content row') row within e = absurd (has_piece row' 0 row within (sym e))
        is_entry (Piece row' given digest) row within e =
            absurd (has_piece row' given row (let w = within.0 in omega (arith, w)) (sym e))

        pub not_wrong : (place : Place S) (content : PoolId) (digest : List ℕ) → IsPlace n.holds removed tree place
            → Next.Wrong content digest ≡ next_in removed rows place → ⊥
        not_wrong (Removal at) content digest within e =
            none_wrong content digest at (removal_first removed at (Next.Wrong content digest) (slice_get removed at) refl within e)
        not_wrong (Entry row) content digest within e = cc
        not_wrong (Wrong content' digest') content digest within e = within
        not_wrong (Content at) content digest within e = no_wrong at 0 (slice_get rows at) content digest (sym e)
        not_wrong (Piece row given digest') content digest within e = no_wrong row given (slice_get rows row) content digest (sym e)

        -- ---- the removal of a row

        pub removal_gives : (position row : ℕ) → IsAt n.holds removed tree position (Removal row) → (found : List ℕ × Record)
            → slice_get removed row ≡ Some found
            → Gives n.holds removed tree position (removal_in removed row) (at_removal (row + 1) (slice_get removed (row + 1)))
        removal_gives position row is found there =
            let frame : removal_in removed row ≡ F.Deleted found.0 = ap removal_told there in
            gives_next n.holds removed tree position (Removal row) (removal_in removed row) is (at_removal (row + 1) (slice_get removed (row + 1)))
            (removal_left tree n.holds removed row found there
            ∙ ap (λ f. f ∷ frames_from {S = S} removed tree (at_removal (row + 1) (slice_get removed (row + 1)))) (sym frame))
            (removal_within tree n.holds removed row)

        -- ---- the entry of a row

        -- what is left behind the entry of a row
        record IsAfter (at : ℕ) (place : Place S) : Type 0 where
          pub left : left_from tree at 0 ≡ frames_from removed tree place
          pub within : IsPlace n.holds removed tree place

        passed : (row : ℕ) → bytes_at tree row ≡ [] → IsAfter row (Entry (row + 1))
        passed row none = record { left = file_passed tree row (let m = ap length none in omega (arith, m)); within = tt }

        behind_is : (row : ℕ) (path : List ℕ) (node : Record) → slice_get rows row ≡ Some (path, node) → IsAfter row (behind_node row node)
        behind_is row path (Dir dir) e = passed row (bytes_shown row (path, Dir dir) e)
        behind_is row path (Link link) e = passed row (bytes_shown row (path, Link link) e)
        behind_is row path Deleted e = passed row (bytes_shown row (path, Deleted) e)
        behind_is row path (File file) e = step (file.size == 0) refl
          where
            size : length (bytes_at tree row) ≡ file.size
            size = ap length (bytes_shown row (path, File file) e)
                ∙ sym (size_told file.size file.content (told_at (IsTold given contents) rows row (path, File file) of.told e))

            step : (b : Bool) → (file.size == 0) ≡ b → IsAfter row (if b then Entry (row + 1) else Content row)
            step true none = record {
              left = file_passed tree row (let m = is_zero file.size none in omega (arith, m, size));
              within = tt;
            }
            step false some = record { left = refl; within = let m = is_more file.size some in omega (arith, m, size) }

        module _ (position : ℕ) (few : length rows ≤ 4294967295) where
          count_is : count_of rows ≡ length tree
          count_is = let m = length_shown rows in omega (arith, m, few)

          found_gives : (row : ℕ) → IsAt n.holds removed tree position (Entry row) → (found : Option (List ℕ × Record))
              → slice_get rows row ≡ found
              → Gives n.holds removed tree position (frame_found (count_of rows) found) (behind_entry row found)
          found_gives row is None e =
              gives_end n.holds removed tree position (Entry row) (F.End (count_of rows)) is
              (end_left tree row (none_at rows row e) ∙ ap (λ m. F.End m ∷ []) (sym count_is))
          found_gives at is (Some found) e =
              let behind = behind_is at found.0 found.1 e in
              let frame : entry_frame (count_of rows) found.0 (node_in found.1) ≡ F.Entry found.0 (node_of (resolved_item contents found.1)) =
              entry_told (count_of rows) found.0 found.1 (told_at (IsTold given contents) rows at found of.told e)
              (unmarked_at rows at found of.whole.no_marks e) in
              gives_next n.holds removed tree position (Entry at) (entry_frame (count_of rows) found.0 (node_in found.1)) is (behind_node at found.1)
              (entry_left tree at (shown found) (shown_at rows at found e)
              ∙ ap (λ f. f ∷ left_from tree at 0) (sym frame)
              ∙ ap (λ fs. entry_frame (count_of rows) found.0 (node_in found.1) ∷ fs) behind.left)
              behind.within

          pub entry_gives : (row : ℕ) → IsAt n.holds removed tree position (Entry row)
              → Gives n.holds removed tree position (entry_in rows row) (behind_entry row (slice_get rows row))
          entry_gives row is = found_gives row is (slice_get rows row) refl

        -- ---- a piece

        module _ (place : Place S) (asked : Asked) (p : IsPiece place asked) (piece : List ℕ)
            (piece_is : piece ≡ take (room_of asked) (drop asked.from (contents asked.content))) where
          abbrev bytes : List ℕ
          bytes = bytes_at tree p.row

          abbrev rest : List ℕ
          rest = drop p.from bytes

          size_is : asked.size - asked.from ≡ length rest
          size_is =
              let a = p.is_asked.size in
              let b = ap length p.is_asked.bytes in
              let c = p.is_asked.from_is in
              let d = length-drop p.from bytes in
              omega (arith, a, b, c, d)

          pub room_fits : asked.from + room_of asked ≤ length (contents asked.content)
          room_fits =
              let a = p.is_asked.size in
              let b = ap length p.is_asked.bytes in
              let c = p.is_asked.from_is in
              let d = p.is_in.inside in
              omega (arith, a, b, c, d)

          piece_of_rest : piece ≡ take 65536 rest
          piece_of_rest =
              piece_is
              ∙ (λ i. take (min 65536 (size_is i)) (drop (p.is_asked.from_is i) (sym p.is_asked.bytes i)))
              ∙ take_min 65536 rest

          -- with what was given before it
          together : take p.from bytes ++ piece ≡ take (p.from + 65536) bytes
          together = ap (λ (ps : List ℕ). take p.from bytes ++ ps) piece_of_rest ∙ sym (take-add p.from 65536 bytes)

          ends : is_last asked ≡ true → length bytes ≤ p.from + 65536
          ends last =
              let m : asked.size - asked.from ≤ 65536 = grind (arith, nat_tests) in
              let d = length-drop p.from bytes in
              omega (arith, m, d, size_is)

          goes_on : is_last asked ≡ false → p.from + 65536 < length bytes
          goes_on more =
              let m : 65536 < asked.size - asked.from = grind (arith, nat_tests) in
              let d = length-drop p.from bytes in
              omega (arith, m, d, size_is)

          whole : is_last asked ≡ true → take p.from bytes ++ piece ≡ contents asked.content
          whole last = together ∙ take_all (p.from + 65536) bytes (ends last) ∙ p.is_asked.bytes

          -- its digest isn't wrong
          pub never_wrong : asked.content.digest ≡ n.digest_of (contents asked.content) → (content : PoolId) (digest : List ℕ)
              → IsBehind n.holds n.digest_of place asked piece (Wrong content digest) → ⊥
          never_wrong named content digest behind =
              behind.2 (behind.3 (take p.from bytes) p.is_in.taken ∙ ap n.digest_of (whole behind.1) ∙ sym named)

          module _ (position : ℕ) (is : IsAt n.holds removed tree position place)
              (named : asked.content.digest ≡ n.digest_of (contents asked.content)) where
            begins : frames_from removed tree place ≡ F.Piece piece ∷ left_from tree p.row (p.from + 65536)
            begins =
                p.is_in.left ∙ piece_left tree p.row p.from p.is_in.inside
                ∙ ap (λ (ps : List ℕ). F.Piece ps ∷ left_from tree p.row (p.from + 65536)) (sym piece_of_rest)

            pub piece_gives : (next : Place S) → IsBehind n.holds n.digest_of place asked piece next
                → Gives n.holds removed tree position (F.Piece piece) next
            piece_gives (Removal row) behind = absurd behind
            piece_gives (Entry row) behind =
                let at : row ≡ p.row + 1 = behind.0 ∙ ap (λ k. k + 1) p.is_asked.row_is in
                gives_next n.holds removed tree position place (F.Piece piece) is (Entry row)
                (begins ∙ ap (λ fs. F.Piece piece ∷ fs) (file_left tree p.row (p.from + 65536) (ends behind.1)
                ∙ ap (λ k. entries_of (length tree) (drop k tree)) (sym at))) tt
            piece_gives (Content row) behind = absurd behind
            piece_gives (Wrong content digest) behind = absurd (never_wrong named content digest behind)
            piece_gives (Piece row given digest) behind =
                let at : row ≡ p.row = behind.0 ∙ p.is_asked.row_is in
                let goes : given ≡ p.from + 65536 = behind.1 ∙ ap (λ k. k + 65536) p.is_asked.from_is in
                gives_next n.holds removed tree position place (F.Piece piece) is (Piece row given digest)
                (begins ∙ ap (λ fs. F.Piece piece ∷ fs) (λ i. left_from tree (sym at i) (sym goes i)))
                (subst (λ (k : ℕ). (given < length (bytes_at tree k)) × n.holds digest (take given (bytes_at tree k))) (sym at)
                (subst (λ (k : ℕ). (k < length bytes) × n.holds digest (take k bytes)) (sym goes)
                (goes_on behind.2, subst (n.holds digest) together (behind.3 (take p.from bytes) p.is_in.taken))))
