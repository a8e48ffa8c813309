-- An ordered map from names to bytes, as files.
use Rattle.std.specs.BTreeMap.{get}
use Rattle.disk_trait.specs.declared.map.FileMap.{FileMap}
use Rattle.disk_trait.specs.Files.{Files}
use Rattle.disk_trait.specs.Order.{file_cmp}

abbrev pub files_of : FileMap → Files
files_of files asked = get file_cmp files.inner asked
