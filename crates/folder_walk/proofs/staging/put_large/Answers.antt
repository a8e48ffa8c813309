use Rattle.std.specs.Prelude.{Ok, Err, [], ◌∷◌}
use Rattle.std.proofs.Common.{refl, subst}
use Rattle.folder_trait.specs.declared.found.FoundNode.TheVariants as F
use Rattle.office_model.specs.declared.answer.Answer.TheVariants as A
use Rattle.folder_walk.specs.declared.refusals.DumpRefusal.TheVariants as D
use Rattle.folder_walk.specs.Puts.{IsCallFault, TakesAll, found_put}
use Rattle.folder_walk.proofs.PutLaws.{puts_none}
use Rattle.folder_walk.proofs.StageSteps.{large_unopened, large_untaken, large_dropped, large_undropped, large_put, large_unput}
use Rattle.folder_walk.proofs.staging.put_large.Goals as goal

pub returns-then-file-gt-CONTENT_LIMIT-clause-puts : goal.returns-then-file-gt-CONTENT_LIMIT-clause-puts
returns-then-file-gt-CONTENT_LIMIT-clause-puts g c =
    puts_none g.P.Port.moves g.met.P.Port.none c.args.port.now c.args.port.now (g.F.Folder.tree c.args.folder.now) c.args.dump c.args.path.now
    (F.File c.args.file) D.FileTooLarge refl

pub returns-in_default-clause-puts : goal.returns-in_default-clause-puts
returns-in_default-clause-puts g c =
    puts_none g.P.Port.moves g.met.P.Port.none c.args.port.now c.args.port.now (g.F.Folder.tree c.args.folder.now) c.args.dump c.args.path.now
    (F.File c.args.file) D.Memory refl

pub returns-in-Err-clause-puts : goal.returns-in-Err-clause-puts
returns-in-Err-clause-puts g c =
    large_unopened g.P.Port.moves g.met.P.Port.joined (g.F.Folder.tree c.args.folder.now) c.args.dump c.args.path.now c.args.file c.requires
    c.args.port.now c.open_stage.new.port c.in-Err.fault c.in-Err.ensures.err

pub returns-in-Err-send_pieces-clause-puts : goal.returns-in-Err-send_pieces-clause-puts
returns-in-Err-send_pieces-clause-puts g c =
    large_untaken g.P.Port.moves g.met.P.Port.joined (g.F.Folder.tree c.args.folder.now) c.args.dump c.args.path.now c.args.file c.requires
    c.args.port.now c.open_stage.new.port c.send_pieces.new.port c.in-Ok-open_stage.stage c.in-Ok-open_stage.ensures.ok c.in-Err-send_pieces.fault
    c.in-Err-send_pieces.ensures.takes

pub returns-in-Err-send_pieces-clause-cause : goal.returns-in-Err-send_pieces-clause-cause
returns-in-Err-send_pieces-clause-cause g c = c.in-Err-send_pieces.ensures.cause (g.F.Folder.tree c.args.folder.now) (F.File c.args.file)

pub returns-in-Ok-drop_stage-clause-puts : goal.returns-in-Ok-drop_stage-clause-puts
returns-in-Ok-drop_stage-clause-puts g c =
    large_dropped g.P.Port.moves g.met.P.Port.joined (g.F.Folder.tree c.args.folder.now) c.args.dump c.args.path.now c.args.file c.requires
    c.args.port.now c.open_stage.new.port c.send_pieces.new.port c.in-Ok-open_stage.stage c.in-Ok-open_stage.ensures.ok c.drop_stage.new.port
    (subst (λ whole. TakesAll g.P.Port.moves c.open_stage.new.port c.send_pieces.new.port (g.F.Folder.tree c.args.folder.now) c.args.path.now c.args.file.size
    c.in-Ok-open_stage.stage (Ok whole)) c.if-not-whole.true c.in-Ok-send_pieces.ensures.takes)
    c.in-Ok-drop_stage.ensures.ok

pub returns-in-Err-drop_stage-clause-puts : goal.returns-in-Err-drop_stage-clause-puts
returns-in-Err-drop_stage-clause-puts g c =
    large_undropped g.P.Port.moves g.met.P.Port.joined (g.F.Folder.tree c.args.folder.now) c.args.dump c.args.path.now c.args.file c.requires
    c.args.port.now c.open_stage.new.port c.send_pieces.new.port c.in-Ok-open_stage.stage c.in-Ok-open_stage.ensures.ok c.drop_stage.new.port
    c.in-Err-drop_stage.fault
    (subst (λ whole. TakesAll g.P.Port.moves c.open_stage.new.port c.send_pieces.new.port (g.F.Folder.tree c.args.folder.now) c.args.path.now c.args.file.size
    c.in-Ok-open_stage.stage (Ok whole)) c.if-not-whole.true c.in-Ok-send_pieces.ensures.takes)
    c.in-Err-drop_stage.ensures.err

pub returns-in-Ok-put_staged-clause-puts : goal.returns-in-Ok-put_staged-clause-puts
returns-in-Ok-put_staged-clause-puts g c =
    large_put g.P.Port.moves g.met.P.Port.joined (g.F.Folder.tree c.args.folder.now) c.args.dump c.args.path.now c.args.file c.requires
    c.args.port.now c.open_stage.new.port c.send_pieces.new.port c.in-Ok-open_stage.stage c.in-Ok-open_stage.ensures.ok c.put_staged.new.port
    (subst (λ whole. TakesAll g.P.Port.moves c.open_stage.new.port c.send_pieces.new.port (g.F.Folder.tree c.args.folder.now) c.args.path.now c.args.file.size
    c.in-Ok-open_stage.stage (Ok whole)) c.if-not-whole.false c.in-Ok-send_pieces.ensures.takes)
    (subst (λ path. g.P.Port.moves c.send_pieces.new.port ((found_put c.args.dump path c.args.file c.in-Ok-open_stage.stage, Ok A.Done) ∷ [])
    c.put_staged.new.port) c.in-Ok.ensures c.in-Ok-put_staged.ensures.ok)

pub returns-in-Err-put_staged-clause-puts : goal.returns-in-Err-put_staged-clause-puts
returns-in-Err-put_staged-clause-puts g c =
    large_unput g.P.Port.moves g.met.P.Port.joined (g.F.Folder.tree c.args.folder.now) c.args.dump c.args.path.now c.args.file c.requires
    c.args.port.now c.open_stage.new.port c.send_pieces.new.port c.in-Ok-open_stage.stage c.in-Ok-open_stage.ensures.ok c.put_staged.new.port
    c.in-Err-put_staged.fault
    (subst (λ whole. TakesAll g.P.Port.moves c.open_stage.new.port c.send_pieces.new.port (g.F.Folder.tree c.args.folder.now) c.args.path.now c.args.file.size
    c.in-Ok-open_stage.stage (Ok whole)) c.if-not-whole.false c.in-Ok-send_pieces.ensures.takes)
    (subst (λ path. IsCallFault g.P.Port.moves c.send_pieces.new.port c.put_staged.new.port (found_put c.args.dump path c.args.file c.in-Ok-open_stage.stage)
    c.in-Err-put_staged.fault) c.in-Ok.ensures c.in-Err-put_staged.ensures.err)
