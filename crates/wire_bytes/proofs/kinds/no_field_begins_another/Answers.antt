use Rattle.wire_bytes.proofs.Field.{read_one_way}
use Rattle.wire_bytes.proofs.Numbers.{number_field}
use Rattle.wire_bytes.proofs.Signed.{signed_field}
use Rattle.wire_bytes.proofs.Texts.{text_field}
use Rattle.wire_bytes.proofs.Flags.{flag_field}
use Rattle.wire_bytes.specs.SealLaws.{same_from_sealed}
use Rattle.wire_bytes.proofs.kinds.no_field_begins_another.Goals as goal

pub returns-clause-numbers : goal.returns-clause-numbers
returns-clause-numbers c = λ w is. read_one_way (number_field w is).reads

pub returns-clause-signed : goal.returns-clause-signed
returns-clause-signed c = λ w is. read_one_way (signed_field w is).reads

pub returns-clause-texts : goal.returns-clause-texts
returns-clause-texts c = λ w is. read_one_way (text_field w is).reads

pub returns-clause-flags : goal.returns-clause-flags
returns-clause-flags c = read_one_way flag_field.reads

pub returns-clause-seals : goal.returns-clause-seals
returns-clause-seals c = same_from_sealed
