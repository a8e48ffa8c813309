-- The folder is the backup's tree, if the port's moves are legal histories.
use Rattle.std.specs.Prelude.{◌≡◌, ℕ, true, List, [], ◌∷◌, ◌++◌, length, Option, Some, is_some, Ok}
use Rattle.std.specs.List.{flat_map}
use Rattle.std.proofs.Common.{subst}
use Rattle.attr_records.specs.Items.{Tree, is_dir}
use Rattle.attr_records.specs.Trees.{IsTree}
use Rattle.tree_frames.specs.declared.nodes.Frame.{Frame}
use Rattle.tree_frames.specs.declared.nodes.Frame.TheVariants.{End}
use Rattle.tree_frames.specs.Frames.{row_frames, frames}
use Rattle.office_model.specs.Office.{Office, Names, Backup, IsSound}
use Rattle.office_model.specs.Parts.{host_at, backup_at, backup_of}
use Rattle.office_model.specs.laws.Judging.{bound, at_is}
use Rattle.office_model.specs.Step.{Call, State, Running}
use Rattle.office_model.specs.History.{Leads}
use Rattle.folder_laws.specs.RestoreLaws.{restored_frames}
use Rattle.folder_restore.specs.Restores.{Restored}

-- each backup of a sound office has a tree
backup_is_tree : (office : Office) (host : List ℕ) (number : ℕ) (backup : Backup) → IsSound office
    → backup_of office.hosts host number ≡ Ok backup → IsTree is_dir backup.tree
backup_is_tree office host number backup sound e =
    let h = bound (host_at office.hosts host) _ backup e in
    let at = at_is _ office.hosts _ h.0 h.1 in
    let b = bound (backup_at h.0.value number) _ backup h.2 in
    let placed = at_is _ h.0.value.backups _ b.0 b.1 in
    let same : b.0.value ≡ backup = let both : Ok b.0.value ≡ Ok backup = b.2 in cc in
    let trees = (sound.hosts.each h.0.index h.0.value at.1).backups.numbered.trees in
    subst (λ (one : Backup). IsTree is_dir one.tree) same (trees b.0.index b.0.value placed.1).paths

-- the last of a tree's frames has the number of its entries
no_end : (frame : Frame) (list : List Frame) → [] ≡ list ++ frame ∷ [] → ⊥
no_end frame [] e = let clash : ⊥ = cc in clash
no_end frame (first ∷ list) e = let clash : ⊥ = cc in clash

same_end : (xs ys : List Frame) (x y : Frame) → xs ++ x ∷ [] ≡ ys ++ y ∷ [] → x ≡ y
same_end [] [] x y e = let same : x ≡ y = cc in same
same_end [] (b ∷ ys) x y e = absurd (no_end y ys (let rest : [] ≡ ys ++ y ∷ [] = cc in rest))
same_end (a ∷ xs) [] x y e = absurd (no_end x xs (let rest : [] ≡ xs ++ x ∷ [] = cc in rest))
same_end (a ∷ xs) (b ∷ ys) x y e = same_end xs ys x y (let rest : xs ++ x ∷ [] ≡ ys ++ y ∷ [] = cc in rest)

entries_are : (tree : Tree) (list : List Frame) (count : ℕ) → list ++ End count ∷ [] ≡ frames tree → count ≡ length tree
unfolding frames
entries_are tree list count e =
    let same : End count ≡ End (length tree) = same_end list (flat_map row_frames tree) (End count) (End (length tree)) e in
    let number : count ≡ length tree = cc in
    number

-- A restore over a port whose moves from here are legal histories from a sound office: it is of a backup of the host, with so many
-- entries, and if the folder tells its tree, it tells the backup's then.
abbrev pub RestoresTree : {P : Type 0} → (P → List Call → P → Type 0) → Type 0
RestoresTree {P} moves =
    (old new : P) (told told' : Option Tree) (host : List ℕ) (number count : ℕ) (office : Office) (names : Names) (faults : ℕ) (state' : State)
    (faults' : ℕ) → ((calls : List Call) → moves old calls new → Leads (Running office names) faults calls state' faults') → IsSound office
    → is_some told ≡ true → Restored moves old new told told' host number count
    → (backup : Backup) × (backup_of office.hosts host number ≡ Ok backup) × (told' ≡ Some backup.tree) × (count ≡ length backup.tree)

pub restored_tree : {P : Type 0} (moves : P → List Call → P → Type 0) → RestoresTree moves
restored_tree moves old new told told' host number count office names faults state' faults' legal sound telling r =
    let leads = subst (λ calls. Leads (Running office names) faults calls state' faults') r.calls_are (legal r.calls r.moved) in
    let w = restored_frames office names faults host number r.restore r.list count state' faults' sound r.plain leads in (
      w.0,
      w.1,
      r.whole w.0.tree (backup_is_tree office host number w.0 sound w.1) w.2 telling,
      entries_are w.0.tree r.list count w.2,
    )
