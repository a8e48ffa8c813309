-- What a step comes to, by how many bytes a file and a piece have.
use Rattle.std.specs.Prelude.{◌≡◌, ◌<◌, ◌≤◌, ◌-◌, ◌==◌, ℕ, min, nat_lt, Bool, true, false, List, [], length, Some, None, if◌then◌else◌}
use Rattle.std.proofs.Common.{refl, sym, ap, ◌∙◌, arith}
use Rattle.std.proofs.lemmas.Bool.Decides.{nat_tests, Decides-eqb, Decides-ltb}
use Rattle.tree_frames.specs.declared.nodes.FileNode.{FileNode}
use Rattle.receipts.specs.declared.session.SessionName.{SessionName}
use Rattle.frame_puts.specs.declared.files.SmallFile.{SmallFile}
use Rattle.frame_puts.specs.declared.files.LargeFile.{LargeFile}
use Rattle.frame_puts.specs.Steps.{file_item, whole_step, opening_step, waiting_step, file_step, only_step, more_step, last_step, piece_step}

pub is_less : (m n : ℕ) → m < n → nat_lt m n ≡ true
is_less m n less = (Decides-ltb m n).1 less

pub is_not_less : (m n : ℕ) → n ≤ m → nat_lt m n ≡ false
is_not_less m n less = by (nat_lt m n) refl
  where
    by : (b : Bool) → nat_lt m n ≡ b → b ≡ false
    by true e = let before : m < n = (Decides-ltb m n).0 e in absurd (omega (arith, before, less))
    by false e = refl

pub not_before : (m n : ℕ) → nat_lt m n ≡ false → n ≤ m
not_before m n e = grind (arith, nat_tests)

pub is_same : (m n : ℕ) → m ≡ n → (m == n) ≡ true
is_same m n same = (Decides-eqb m n).1 same

-- a piece has as many bytes as are wanted
pub is_wanted_size : (bytes : List ℕ) (left : ℕ) → (length bytes == min 65536 left) ≡ true → length bytes ≡ min 65536 left
is_wanted_size bytes left e = (Decides-eqb (length bytes) (min 65536 left)).0 e

module _ (dump : SessionName) where
  pub file_opens : (path : List ℕ) (node : FileNode) (stage : ℕ) → 65536 < node.size → file_step dump path node stage ≡ opening_step dump path node stage
  file_opens path node stage more =
      ap (λ b. if b then opening_step dump path node stage else if nat_lt 0 node.size then waiting_step path node else whole_step dump path (file_item node []))
      (is_less 65536 node.size more)

  pub file_waits : (path : List ℕ) (node : FileNode) (stage : ℕ) → node.size ≤ 65536 → 0 < node.size → file_step dump path node stage ≡ waiting_step path node
  file_waits path node stage few some =
      ap (λ b. if b then opening_step dump path node stage else if nat_lt 0 node.size then waiting_step path node else whole_step dump path (file_item node []))
      (is_not_less 65536 node.size few)
      ∙ ap (λ b. if b then waiting_step path node else whole_step dump path (file_item node [])) (is_less 0 node.size some)

  pub file_puts : (path : List ℕ) (node : FileNode) (stage : ℕ) → node.size ≤ 0 → file_step dump path node stage ≡ whole_step dump path (file_item node [])
  file_puts path node stage none =
      ap (λ b. if b then opening_step dump path node stage else if nat_lt 0 node.size then waiting_step path node else whole_step dump path (file_item node []))
      (is_not_less 65536 node.size (omega (arith, none)))
      ∙ ap (λ b. if b then waiting_step path node else whole_step dump path (file_item node [])) (is_not_less 0 node.size none)

  pub only_fits : (file : SmallFile) (bytes : List ℕ) → (length bytes == file.node.size) ≡ true
      → only_step dump file bytes ≡ Some (whole_step dump file.path (file_item file.node bytes))
  only_fits file bytes same =
      ap (λ b. if b then Some (whole_step dump file.path (file_item file.node bytes)) else None) same

  piece_fits : (file : LargeFile) (bytes : List ℕ) → length bytes ≡ min 65536 file.left
      → piece_step dump file bytes
      ≡ Some (if nat_lt (length bytes) file.left then more_step file (file.left - length bytes) bytes else last_step dump file bytes)
  piece_fits file bytes same =
      ap (λ b. if b then Some (if nat_lt (length bytes) file.left then more_step file (file.left - length bytes) bytes else last_step dump file bytes) else None)
      (is_same (length bytes) (min 65536 file.left) same)

  pub piece_more : (file : LargeFile) (bytes : List ℕ) (left : ℕ) → length bytes ≡ min 65536 file.left → length bytes < file.left
      → left ≡ file.left - length bytes → piece_step dump file bytes ≡ Some (more_step file left bytes)
  piece_more file bytes left same less left_is =
      piece_fits file bytes same
      ∙ ap (λ b. Some (if b then more_step file (file.left - length bytes) bytes else last_step dump file bytes)) (is_less (length bytes) file.left less)
      ∙ ap (λ n. Some (more_step file n bytes)) (sym left_is)

  pub piece_last : (file : LargeFile) (bytes : List ℕ) → length bytes ≡ min 65536 file.left → file.left ≤ length bytes
      → piece_step dump file bytes ≡ Some (last_step dump file bytes)
  piece_last file bytes same all =
      piece_fits file bytes same
      ∙ ap (λ b. Some (if b then more_step file (file.left - length bytes) bytes else last_step dump file bytes)) (is_not_less (length bytes) file.left all)

  pub only_foreign : (file : SmallFile) (bytes : List ℕ) → (length bytes == file.node.size) ≡ false → only_step dump file bytes ≡ None
  only_foreign file bytes other =
      ap (λ b. if b then Some (whole_step dump file.path (file_item file.node bytes)) else None) other

  pub piece_foreign : (file : LargeFile) (bytes : List ℕ) → (length bytes == min 65536 file.left) ≡ false → piece_step dump file bytes ≡ None
  piece_foreign file bytes other =
      ap (λ b. if b then Some (if nat_lt (length bytes) file.left then more_step file (file.left - length bytes) bytes else last_step dump file bytes) else None)
      other
