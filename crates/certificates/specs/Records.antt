-- What was read of records of one size.
use Rattle.certificates.specs.declared.records.ItemRead.{ItemRead}
use Rattle.certificates.specs.declared.records.FileRead.{FileRead}
use Rattle.certificates.specs.Certificate.{Item, PoolFile}

abbrev pub the_item : ItemRead → Item
the_item x = record { id = x.id; count = x.count }

abbrev pub the_file : FileRead → PoolFile
the_file x = record { id = x.id; size = x.size; found = x.found; mark = x.mark }
