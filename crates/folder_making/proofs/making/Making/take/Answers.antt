use Rattle.std.proofs.Common.{◌≡◌, ◌++◌, OnOk, sym, subst}
use Rattle.attr_records.specs.Items.{Tree}
use Rattle.tree_frames.specs.declared.nodes.Frame.{Frame}
use Rattle.folder_making.specs.Made.{Made, taken}
use Rattle.folder_making.specs.Holding.{Holds}
use Rattle.folder_making.proofs.Results.{on_ok}
use Rattle.folder_making.proofs.MakeSteps.{deleted_taken, piece_taken}
use Rattle.folder_making.proofs.making.Making.take.Goals as goal

pub returns-in-Deleted-clause-holds : goal.returns-in-Deleted-clause-holds
returns-in-Deleted-clause-holds g c = λ made more left h split.
    deleted_taken made more left (g.F.Folder.tree c.args.folder.now) c.args.self.now c.args.frame _ c.in-Deleted.is h split

pub returns-in-Entry-clause-holds : goal.returns-in-Entry-clause-holds
returns-in-Entry-clause-holds g c =
    subst (λ (frame : Frame). OnOk c.begin.result ((made : Made) (more left : Tree) → Holds made more (g.F.Folder.tree c.args.folder.now) c.args.self.now
    → made.rows ++ more ≡ (taken made frame).rows ++ left → Holds (taken made frame) left (g.F.Folder.tree c.begin.new.folder) c.begin.new.self))
    (sym c.in-Entry.is) c.begin.ensures.holds

pub returns-in-Piece-clause-holds : goal.returns-in-Piece-clause-holds
returns-in-Piece-clause-holds g c = on_ok c.extend.result c.extend.ensures.holds (λ extends made more left h split.
    piece_taken made more left (g.F.Folder.tree c.extend.new.folder) c.extend.new.self c.args.frame _ c.in-Piece.is (extends made more h) split)

pub returns-clause-holds : goal.returns-clause-holds
returns-clause-holds g c =
    subst (λ (frame : Frame). OnOk c.end_file.result ((made : Made) (more left : Tree) → Holds made more (g.F.Folder.tree c.args.folder.now) c.args.self.now
    → made.rows ++ more ≡ (taken made frame).rows ++ left → Holds (taken made frame) left (g.F.Folder.tree c.end_file.new.folder) c.end_file.new.self))
    (sym c.in-End.is) c.end_file.ensures.holds
