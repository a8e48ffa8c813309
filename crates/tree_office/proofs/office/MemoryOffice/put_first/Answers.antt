use Rattle.tree_office.specs.Steps.{put_where}
use Rattle.tree_office.proofs.Turning.{more_kept, keeping_sound, keeping_steps, put_kept}
use Rattle.tree_office.proofs.office.MemoryOffice.put_first.Goals as goal

pub invariant_of-self : goal.invariant_of-self
invariant_of-self c = keeping_sound c.args.self.now _ c.put_plain.new.self c.args.token c.args.index c.in_ok-kept.kept.items c.keep_at.new.dumps.items c.self-2.view_is c.requires
    (put_kept c.args.session c.args.path.now c.args.item.now c.args.full c.args.self.now (record { answer = c.in_ok-answer.answer; after = c.put_plain.new.self }) c.in_ok-answer.ensures)
    (more_kept _ c.args.self.now c.args.token c.args.index c.index.result.now c.kept.result.now c.in_ok-kept.kept.items c.requires c.self.view_is c.index.ensures c.kept.ensures c.in_ok-kept.ensures)
    (c.keep_at.ensures c.args.token) c.self-2.invariant

pub returns : goal.returns
returns c = keeping_steps c.args.self.now _ c.put_plain.new.self c.args.token c.args.index c.in_ok-kept.kept.items c.keep_at.new.dumps.items c.self-2.view_is c.requires
    (put_kept c.args.session c.args.path.now c.args.item.now c.args.full c.args.self.now (record { answer = c.in_ok-answer.answer; after = c.put_plain.new.self }) c.in_ok-answer.ensures)
    (more_kept _ c.args.self.now c.args.token c.args.index c.index.result.now c.kept.result.now c.in_ok-kept.kept.items c.requires c.self.view_is c.index.ensures c.kept.ensures c.in_ok-kept.ensures)
    (c.keep_at.ensures c.args.token) (put_where c.args.session c.args.path.now c.args.item.now c.args.full c.args.self.now) c.in_ok-answer.answer c.in_ok-answer.ensures
