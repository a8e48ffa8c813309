use Rattle.certificates.specs.Written.{written}
use Rattle.certificates.specs.WrittenLaws.{written_is}
use Rattle.certificate_judge.specs.VerdictLaws.{judged_by_faults, sound_exactly, sound_bytes}
use Rattle.certificate_judge.proofs.laws.what_is_sound.Goals as goal

pub returns-clause-of_bytes : goal.returns-clause-of_bytes
returns-clause-of_bytes c = sound_bytes

pub returns-clause-by_faults : goal.returns-clause-by_faults
returns-clause-by_faults c = λ certificate verdict fits. judged_by_faults certificate (written certificate) fits (written_is certificate) verdict

pub returns-clause-of_written : goal.returns-clause-of_written
returns-clause-of_written c = λ certificate verdict fits. sound_exactly certificate (written certificate) fits (written_is certificate) verdict
