-- Directories are put on the stack, and those of the stack are finished.
use Rattle.std.specs.Prelude.{◌≡◌, ℕ, false, List, [], ◌∷◌, ◌++◌, length, Option, Some, is_some}
use Rattle.std.proofs.Common.{refl, sym, ap, subst}
use Rattle.std.proofs.lemmas.Bool.{true≢false}
use Rattle.attr_records.specs.declared.nodes.Item.{Item}
use Rattle.attr_records.specs.declared.nodes.Item.TheVariants as I
use Rattle.attr_records.specs.declared.nodes.Dir.{Dir}
use Rattle.attr_records.specs.declared.nodes.Link.{Link}
use Rattle.attr_records.specs.Items.{Tree}
use Rattle.attr_records.specs.Paths.{is_within}
use Rattle.folder_trait.specs.Folders.{with_made, with_finished}
use Rattle.folder_making.specs.declared.dirs.OpenDir.{OpenDir}
use Rattle.folder_making.specs.declared.noted.Noted.{Noted}
use Rattle.folder_making.specs.RowLaws.{not_needed}
use Rattle.folder_making.specs.Standing.{Stands}
use Rattle.folder_making.specs.StandLaws.{dirs_front, stands_finished, stands_plain, stands_opened, stands_whole}

-- the one on top, in which the next row doesn't lie
pub one_finished : (rows more : Tree) (path : List ℕ) (item : Item) (told told' : Option Tree) (dirs dirs' : List OpenDir) (dir : OpenDir)
    (noted : List Noted) → dirs ≡ dirs' ++ dir ∷ [] → is_within dir.path path ≡ false → told' ≡ with_finished told dir.path dir.dir
    → Stands rows ((path, item) ∷ more) told dirs noted → Stands rows ((path, item) ∷ more) told' dirs' noted
one_finished rows more path item told told' dirs dirs' dir noted popped outside is s =
    let t : Stands rows ((path, item) ∷ more) told (dirs' ++ dir ∷ []) noted = subst (λ ds. Stands rows ((path, item) ∷ more) told ds noted) popped s in
    stands_finished rows ((path, item) ∷ more) told told' dirs' dir noted is
    (λ q there within. not_needed rows (path, item) more dir.path q t.is_tree.in_order (ap is_some (dirs_front rows dirs' dir t.dirs_are).1) outside there within)
    t

-- the one on top, behind the last row
pub last_finished : (rows : Tree) (told told' : Option Tree) (dirs dirs' : List OpenDir) (dir : OpenDir) (noted : List Noted)
    → dirs ≡ dirs' ++ dir ∷ [] → told' ≡ with_finished told dir.path dir.dir → Stands rows [] told dirs noted → Stands rows [] told' dirs' noted
last_finished rows told told' dirs dirs' dir noted popped is s =
    stands_finished rows [] told told' dirs' dir noted is (λ q there within. true≢false (sym there))
    (subst (λ ds. Stands rows [] told ds noted) popped s)

-- other names for the same stack
pub same_stack : (rows more : Tree) (told : Option Tree) (dirs dirs' : List OpenDir) (noted : List Noted) → dirs' ≡ dirs
    → Stands rows more told dirs noted → Stands rows more told dirs' noted
same_stack rows more told dirs dirs' noted same s = subst (λ ds. Stands rows more told ds noted) (sym same) s

nothing : (dirs : List OpenDir) → length dirs ≡ 0 → dirs ≡ []
nothing [] e = refl
nothing (dir ∷ dirs) e = cc

-- no directory is left
pub none_left : (rows : Tree) (told : Option Tree) (dirs : List OpenDir) (noted : List Noted) → length dirs ≡ 0 → Stands rows [] told dirs noted
    → told ≡ Some rows
none_left rows told dirs noted none s = stands_whole rows told noted (subst (λ ds. Stands rows [] told ds noted) (nothing dirs none) s)

-- a directory was made, and put on the stack
pub dir_stands : (rows more : Tree) (told told' : Option Tree) (dirs dirs' : List OpenDir) (noted : List Noted) (path : List ℕ) (dir : Dir)
    → told' ≡ with_made told path (I.Dir dir) → dirs' ≡ dirs ++ record { path = path; dir = dir } ∷ []
    → Stands rows ((path, I.Dir dir) ∷ more) told dirs noted → Stands (rows ++ (path, I.Dir dir) ∷ []) more told' dirs' noted
dir_stands rows more told told' dirs dirs' noted path dir is pushed s =
    subst (λ ds. Stands (rows ++ (path, I.Dir dir) ∷ []) more told' ds noted) (sym pushed)
    (stands_opened rows more told dirs noted path (I.Dir dir) s told' dir is refl)

-- a symbolic link was made
pub symlink_stands : (rows more : Tree) (told told' : Option Tree) (dirs : List OpenDir) (noted : List Noted) (path : List ℕ) (link : Link)
    → told' ≡ with_made told path (I.Link link) → Stands rows ((path, I.Link link) ∷ more) told dirs noted
    → Stands (rows ++ (path, I.Link link) ∷ []) more told' dirs noted
symlink_stands rows more told told' dirs noted path link is s =
    stands_plain rows more told dirs noted path (I.Link link) s told' is refl refl
