-- What a fault of a folder is for a restore.
use Rattle.folder_trait.specs.declared.folder.FolderFault.{FolderFault}
use Rattle.folder_trait.specs.declared.folder.FolderFault.TheVariants as F
use Rattle.folder_restore.specs.declared.refusals.RestoreRefusal.{RestoreRefusal}
use Rattle.folder_restore.specs.declared.refusals.RestoreRefusal.TheVariants as R

abbrev pub of_fault : FolderFault → RestoreRefusal
of_fault F.Failed = R.Folder
of_fault F.Memory = R.Memory
