-- Laws of specs/Pieces.
--     piece_not_damaged      the file of a live or staged content of so many bytes isn't damaged
use Rattle.std.specs.Prelude.{◌≡◌, ℕ, ◌+◌, ◌≤◌, List, length, take, drop, Option, Some, None}
use Rattle.std.proofs.Common.{ap, ◌∙◌, subst, arith}
use Rattle.std.proofs.lemmas.List.{length-drop, length-take}
use Rattle.disk_trait.specs.declared.ids.PoolId.{PoolId}
use Rattle.disk_trait.specs.declared.ids.FileId.{FileId}
use Rattle.disk_trait.specs.declared.disk.Disk.{Ghosts as DiskGhosts}
use Rattle.disk_trait.specs.Files.{bytes_of, piece}
use Rattle.pool_name.specs.declared.namer.Namer.{Ghosts as NamerGhosts}
use Rattle.journal_view.specs.View.{told}
use Rattle.office_files.specs.Pooled.{contents_of}
use Rattle.office_model.specs.Office.{Office, Names}
use Rattle.store_parts.specs.declared.parts.StoreParts.{StoreParts}
use Rattle.store_parts.specs.Held.{given}
use Rattle.store_parts.specs.States.{slots, IsRunning}
use Rattle.store_reads.specs.Pieces.{HasNoPiece, IsOther}

-- a piece that was read is of the file's bytes
pub piece_read : (bytes : Option (List ℕ)) (offset room : ℕ) (found : List ℕ) → Some found ≡ piece bytes offset room
    → found ≡ take room (drop offset (bytes_of bytes))
piece_read None offset room found e = absurd cc
piece_read (Some bytes) offset room found e = cc

module _ {D N S : Type 0} {d : DiskGhosts D} {n : NamerGhosts N S} where
  -- a live or staged content has all pieces of its size
  pub piece_not_damaged : (parts : StoreParts D N S d n) (content : PoolId) (offset room : ℕ) (file : FileId) (found : Option (List ℕ))
      → HasNoPiece (told parts.journal) content offset room file found → (office : Office) (names : Names)
      → (at : IsRunning parts office names) → given (slots parts) content → offset + room ≤ length (contents_of at.all content) → ⊥
  piece_not_damaged parts content offset room file found none office names at is_given within =
      let held = at.fits.held content is_given in
      let bytes : contents_of at.all content ≡ held.content = ap bytes_of held.is in
      let long : length (contents_of at.all content) ≡ length held.content = ap length bytes in
      let there : found ≡ Some (take room (drop offset held.content)) =
      none.there at.all at.told_is
      ∙ ap (λ (f : FileId). piece (at.all f) offset room) none.named
      ∙ ap (λ (b : Option (List ℕ)). piece b offset room) held.is in
      let other : IsOther room (Some (take room (drop offset held.content))) = subst (IsOther room) there none.other in
      let taken = length-take room (drop offset held.content) in
      let dropped = length-drop offset held.content in
      other (omega (arith, taken, dropped, long, within))
