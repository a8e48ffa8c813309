use Rattle.std.proofs.Common.{refl, ap}
use Rattle.disk_trait.specs.Images.{FileSet}
use Rattle.disk_trait.specs.Log.{log_files, log_moment}
use Rattle.journal_view.proofs.crashes.crash.Goals as goal

pub returns-in-Ok : goal.returns-in-Ok
returns-in-Ok c = record {
  image = log_files c.in-Ok.next.log;
  left = c.in-Ok.ensures.left (log_moment c.args.start.now.log) c.requires.later;
  all = log_files c.in-Ok.next.log;
  told = refl;
  same = λ asked. refl;
  certain = record { each = λ asked out. ap (λ (s : FileSet). s asked) c.in-Ok.ensures.certain };
}
