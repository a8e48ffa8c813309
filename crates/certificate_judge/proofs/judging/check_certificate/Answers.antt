-- The verdict by the first fault.
use Rattle.std.proofs.Common.{rules, arith}
use Rattle.certificate_judge.proofs.Closing.{none_found, some_found, faults_few, small_file, judged_all}
use Rattle.certificate_judge.proofs.judging.check_certificate.Goals as goal

pub returns-in-None : goal.returns-in-None
returns-in-None c =
    let file = c.in-Ok.ensures.ok in
    none_found c.args.bytes.now file.certificate file.fits file.is file.only c.note_files-tally.result
    (judged_all file.certificate file.fits c.in-Ok.parts file.tells (small_file c.args.bytes.now file.certificate file.fits file.is (search rules)) _ _ _ _ c.saturating_add-files_at.ensures
    c.new.ensures (λ os ps. c.note_hosts-of_hosts.ensures os ps) (λ os ps. c.note_files-tally.ensures os ps))
    (search rules)

pub returns-in-Some : goal.returns-in-Some
returns-in-Some c =
    let file = c.in-Ok.ensures.ok in
    some_found c.args.bytes.now file.certificate file.fits file.is file.only c.note_files-tally.result _
    (judged_all file.certificate file.fits c.in-Ok.parts file.tells (small_file c.args.bytes.now file.certificate file.fits file.is (search rules)) _ _ _ _ c.saturating_add-files_at.ensures
    c.new.ensures (λ os ps. c.note_hosts-of_hosts.ensures os ps) (λ os ps. c.note_files-tally.ensures os ps))
    (let few = faults_few file.certificate file.fits in let small = small_file c.args.bytes.now file.certificate file.fits file.is (search rules) in omega (arith, few, small))
    (search rules)
