-- Laws of specs/Names.
use Rattle.std.specs.Prelude.{◌≡◌, Bool, true, bytes_eq, refl}
use Rattle.std.proofs.Common.{sym, ap, ◌∙◌}
use Rattle.std.specs.Cmp.Lexicographic.{bytes_decides}
use Rattle.disk_trait.specs.declared.ids.FileId.{FileId}
use Rattle.disk_trait.specs.declared.ids.FileId.TheVariants.{Head, Intent, Gate, Host, Table, Counts, PoolIndex, PoolBucket, Partial, Pool, Stage}
use Rattle.disk_trait.specs.Names.{file_at, file_key, is_same_file}

pub file_at-file_key : (file : FileId) → file_at (file_key file) ≡ file
file_at-file_key Head = refl
file_at-file_key Intent = refl
file_at-file_key Gate = refl
file_at-file_key (Host host) = refl
file_at-file_key (Table host number) = refl
file_at-file_key (Counts host) = refl
file_at-file_key PoolIndex = refl
file_at-file_key (PoolBucket byte) = refl
file_at-file_key (Partial host) = refl
file_at-file_key (Pool id) = refl
file_at-file_key (Stage number) = refl

pub same_file : (a b : FileId) → is_same_file a b ≡ true → a ≡ b
unfolding is_same_file
same_file a b e = sym (file_at-file_key a) ∙ ap file_at ((bytes_decides (file_key a) (file_key b)).0 e) ∙ file_at-file_key b

pub is_same_file-itself : (file : FileId) → is_same_file file file ≡ true
unfolding is_same_file
is_same_file-itself file = (bytes_decides (file_key file) (file_key file)).1 refl
