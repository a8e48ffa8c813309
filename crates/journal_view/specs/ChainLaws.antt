-- Laws on chains of openings, runs of calls, and crashes.
use Rattle.std.specs.Prelude.{◌≡◌, List, [], ◌∷◌, Some}
use Rattle.std.proofs.Common.{⊎_elim, refl, sym, ap, ◌∙◌, subst, arith}
use Rattle.disk_trait.specs.declared.ids.FileId.{FileId}
use Rattle.disk_trait.specs.declared.ids.FileId.TheVariants.{Gate, Intent}
use Rattle.disk_trait.specs.declared.disk.Disk.{Ghosts}
use Rattle.disk_trait.specs.Files.{Files}
use Rattle.disk_trait.specs.Images.{FileSet, nothing, IsWithin, Leaves}
use Rattle.intent_journal.specs.ChangesLaws.{applied_alike}
use Rattle.intent_journal.specs.Layout.{is_open}
use Rattle.intent_journal.specs.Overlay.{ComesTo}
use Rattle.journal_view.specs.Found.{Finds, FindsAll}
use Rattle.journal_view.specs.FoundLaws.{itself}
use Rattle.journal_view.specs.OpeningLaws.{recovered, refused_of}
use Rattle.journal_view.specs.View.{OnlyNow}
use Rattle.journal_view.specs.Chain.{IsTried, Restarts, Crashed, AreRestarts, EachFinds}

-- an opening and a crash
pub restarts_of : {D : Type 0} (d : Ghosts D) (start stop next : D) → IsTried d start stop → Crashed d start stop next
    → Restarts d start next
restarts_of d start stop next tried crashed =
    record {
      stop = stop;
      tried = tried;
      image = crashed.image;
      left = crashed.left;
      all = crashed.all;
      told = crashed.told;
      same = crashed.same;
      certain = crashed.certain;
    }

-- images that are the same come to the same
pub comes_same : (files : Files) (u : FileSet) (image other : Files) → ((asked : FileId) → other asked ≡ image asked)
    → ComesTo files u image → ComesTo files u other
comes_same files u image other same comes = record {
  closed = λ shut asked kind. same asked ∙ comes.closed (sym (ap is_open (same Gate)) ∙ shut) asked kind;
  opened = λ gate. let laid = comes.opened (sym (ap is_open (same Gate)) ∙ gate) in record {
    changes = laid.changes;
    are = laid.are;
    intent = same Intent ∙ laid.intent;
    each = λ asked kind. applied_alike laid.changes other image asked (λ out. same asked) ∙ laid.each asked kind;
  };
  contents = λ asked kind out. same asked ∙ comes.contents asked kind out;
}

-- what an opening that was tried leaves
tried_leaves : {D : Type 0} (d : Ghosts D) (P : Files → Type 0) (start stop : D) (all : Files) → d.files start ≡ Some all
    → FindsAll (d.files start) (d.uncertain start) P
    → IsTried d start stop → Leaves d.moment d.left_since start stop (Finds P)
tried_leaves d P start stop all is finds tried = ⊎_elim
    (λ opened.
    let here = finds all (itself (d.files start) (d.uncertain start) all is) in
    subst (λ disk. Leaves d.moment d.left_since start disk (Finds P)) (sym opened.1)
    (recovered P start opened.0.disk here.in_image.files finds (subst P here.in_image.is here.has)
    (opened.2.recovers all here.in_image.files is here.in_image.comes)))
    (λ refused. refused_of P start stop refused.0 all is finds refused.1)
    tried

-- A crash while nothing but P was left: the disk that starts from the image is found to have P, whatever a crash leaves of it.
pub crash_then : {D : Type 0} (d : Ghosts D) → OnlyNow d → (P : Files → Type 0) (start stop next : D) (image all : Files)
    → FindsAll (d.files start) (d.uncertain start) P
    → Leaves d.moment d.left_since start stop (Finds P) → d.left_since stop (d.moment start) image
    → d.files next ≡ Some all → ((asked : FileId) → all asked ≡ image asked) → IsWithin (d.uncertain next) nothing
    → FindsAll (d.files next) (d.uncertain next) P
crash_then d only P start stop next image all finds leaves left told same certain = λ later may.
    let found : Finds P image = ⊎_elim
    (λ before. finds image (only start image before))
    (λ now. now)
    (leaves.since (d.moment start) image (omega arith) left) in
    let one : may.all ≡ all = cc (may.is, told) in
    record {
      found = found.found;
      in_image = record {
        files = found.in_image.files;
        comes = comes_same found.in_image.files nothing image later
            (λ asked. may.image_of.each asked (certain.each asked refl) ∙ ap (λ (x : Files). x asked) one ∙ same asked)
            found.in_image.comes;
        is = found.in_image.is;
      };
      has = found.has;
    }

restarted : {D : Type 0} (d : Ghosts D) → OnlyNow d → (P : Files → Type 0) (start next : D) (all : Files) → d.files start ≡ Some all
    → FindsAll (d.files start) (d.uncertain start) P
    → Restarts d start next → FindsAll (d.files next) (d.uncertain next) P
restarted d only P start next all is finds restart =
    crash_then d only P start restart.stop next restart.image restart.all finds
    (tried_leaves d P start restart.stop all is finds restart.tried) restart.left restart.told restart.same restart.certain

-- However often a crash comes while openings are tried, each image can be opened, and what is found has P.
pub restarts_find : {D : Type 0} (d : Ghosts D) → OnlyNow d → (P : Files → Type 0) (start : D) (all : Files) (disks : List D)
    → d.files start ≡ Some all → FindsAll (d.files start) (d.uncertain start) P
    → AreRestarts d start disks → EachFinds d P disks
restarts_find d only P start all [] is finds restarts = tt
restarts_find d only P start all (next ∷ more) is finds restarts =
    let here = restarted d only P start next all is finds restarts.0 in
    (here, restarts_find d only P next restarts.0.all more restarts.0.told here restarts.1)
