-- What was read has no deletion mark.
use Rattle.partial_files.specs.Partials.{partial_fits}
use Rattle.session_acceptance.proofs.partial_files_tests.partials_are_read_and_written.Goals as goal

pub write_partial-requires : goal.write_partial-requires
write_partial-requires g c = (partial_fits 3 c.in_ok-read.read c.in_ok-read.ensures.found.0).no_mark
