use Rattle.certificates.specs.WrittenLaws.{certificate_put_is, written_is, read_back}
use Rattle.certificates.specs.Written.{written}
use Rattle.certificates.proofs.laws.what_is_written_is_read.Goals as goal

pub returns-clause-print : goal.returns-clause-print
returns-clause-print c = certificate_put_is

pub returns-clause-file : goal.returns-clause-file
returns-clause-file c = written_is

pub returns-clause-back : goal.returns-clause-back
returns-clause-back c = λ certificate result fits read. read_back certificate (written certificate) result fits (written_is certificate) read
