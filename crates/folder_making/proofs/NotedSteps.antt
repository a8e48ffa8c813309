-- Files of groups are looked for, linked and noted.
use Rattle.std.specs.Prelude.{◌≡◌, ℕ, true, List, [], ◌∷◌, ◌++◌, Option, Some, slice_get, bytes_eq}
use Rattle.std.specs.Option.{ForSome}
use Rattle.std.proofs.Common.{refl, sym, ◌∙◌, subst}
use Rattle.std.proofs.lemmas.Slice.Eq.{bytes_eq-Decides}
use Rattle.attr_records.specs.declared.nodes.File.{File}
use Rattle.attr_records.specs.declared.nodes.Item.TheVariants as I
use Rattle.attr_records.specs.Items.{Tree}
use Rattle.folder_trait.specs.Folders.{IsReading, with_made, with_linked}
use Rattle.folder_making.specs.declared.dirs.OpenDir.{OpenDir}
use Rattle.folder_making.specs.declared.noted.Noted.{Noted}
use Rattle.folder_making.specs.RowLaws.{next_is_new}
use Rattle.folder_making.specs.Standing.{Stands, IsSame, IsEarlier}
use Rattle.folder_making.specs.StandLaws.{stands_plain, stands_linked, stands_noted}

-- the bytes that were read are the file's
pub same_file : (told : Option Tree) (noted : Noted) (file : File) (got : Option (List ℕ)) (bytes : List ℕ) → got ≡ Some bytes
    → noted.node.attr ≡ file.attr → noted.node.group ≡ file.group → bytes_eq bytes file.bytes ≡ true
    → ForSome told (λ all. IsReading all noted.path got) → ForSome told (λ all. IsSame all noted file)
same_file told noted file got bytes is_got attr group same read = λ all is. record {
  attr = attr;
  group = group;
  bytes = λ there at. let found = (read all is).found there at in
      let equal = (bytes_eq-Decides bytes file.bytes).0 same in
      cc;
}

-- the file at an index of those that were noted
pub same_at : (told : Option Tree) (noted : List Noted) (index : ℕ) (one : Noted) (file : File) → slice_get noted index ≡ Some one
    → ForSome told (λ all. IsSame all one file) → ForSome told (λ all. IsEarlier all noted index file)
same_at told noted index one file at same = λ all is other got.
    let named : one ≡ other = let both : Some one ≡ Some other = sym at ∙ got in cc in
    subst (λ (o : Noted). IsSame all o file) named (same all is)

-- it was linked
pub link_stands : (rows more : Tree) (told told' : Option Tree) (dirs : List OpenDir) (noted : List Noted) (path : List ℕ) (file : File) (index : ℕ)
    (one : Noted) → slice_get noted index ≡ Some one → ForSome told (λ all. IsEarlier all noted index file)
    → told' ≡ with_linked told path one.path → Stands rows ((path, I.File file) ∷ more) told dirs noted
    → Stands (rows ++ (path, I.File file) ∷ []) more told' dirs noted
link_stands rows more told told' dirs noted path file index one at found is s =
    let earlier : IsEarlier s.all noted index file = found s.all s.told_is in
    stands_linked rows more told told' dirs noted path file index one s at (earlier one at) is

-- a file was made
pub file_stands : (rows more : Tree) (told told' : Option Tree) (dirs : List OpenDir) (noted : List Noted) (path : List ℕ) (file : File)
    → told' ≡ with_made told path (I.File file) → Stands rows ((path, I.File file) ∷ more) told dirs noted
    → Stands (rows ++ (path, I.File file) ∷ []) more told' dirs noted
file_stands rows more told told' dirs noted path file is s =
    stands_plain rows more told dirs noted path (I.File file) s told' is refl refl

-- a file was made and noted
pub first_stands : (rows more : Tree) (told told' : Option Tree) (dirs : List OpenDir) (noted noted' : List Noted) (path : List ℕ) (file : File)
    (one : Noted) → told' ≡ with_made told path (I.File file) → noted' ≡ noted ++ one ∷ [] → one.path ≡ path → one.node.attr ≡ file.attr
    → one.node.group ≡ file.group → Stands rows ((path, I.File file) ∷ more) told dirs noted
    → Stands (rows ++ (path, I.File file) ∷ []) more told' dirs noted'
first_stands rows more told told' dirs noted noted' path file one is pushed at attr group s =
    subst (λ ns. Stands (rows ++ (path, I.File file) ∷ []) more told' dirs ns) (sym pushed)
    (stands_noted rows more told' dirs noted path file one (next_is_new rows (path, I.File file) more s.is_tree.in_order) at attr group
    (file_stands rows more told told' dirs noted path file is s))
