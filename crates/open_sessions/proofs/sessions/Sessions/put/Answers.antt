use Rattle.std.proofs.Common.{◌≡◌, false, Some, None, refl}
use Rattle.std.proofs.lemmas.Option.{slice_get_read}
use Rattle.attr_records.specs.declared.trees.PutRule.{PutRule}
use Rattle.attr_records.specs.Trees.{with_node, IsTree, broken_rule}
use Rattle.attr_tables.specs.Records.{is_dir}
use Rattle.dump_session.specs.Rules.{IsReason, HasRoom, IsWholeTree}
use Rattle.open_sessions.specs.declared.sessions.OpenDump.{OpenDump}
use Rattle.open_sessions.specs.Opened.{edited}
use Rattle.open_sessions.proofs.Placed.{set_name, at_ok, set_ok, at_err, at_set}
use Rattle.open_sessions.proofs.sessions.Sessions.put.Goals as goal

pub invariant_of-self : goal.invariant_of-self
invariant_of-self g c = record {
  dumps_in_turn = set_name c.args.self.now.dumps.items c.args.index c.index_mut.result.now
      (slice_get_read _ _ _ _ refl c.requires.within c.index_mut.ensures.value) c.args.self.now.sequence c.args.self.now.dumps_in_turn
      c.put_in.result c.put_in.new.dump (with_node c.index_mut.result.now.tree c.args.path c.args.node) c.args.token c.put_in.ensures.put
      c.put_in.ensures.err;
  restores_in_turn = c.args.self.now.restores_in_turn;
}

pub returns-clause-put : goal.returns-clause-put
returns-clause-put g c = set_ok c.args.self.now.dumps.items c.args.index c.index_mut.result.now
    (slice_get_read _ _ _ _ refl c.requires.within c.index_mut.ensures.value) c.put_in.result c.put_in.new.dump
    (λ (dump : OpenDump). edited dump (with_node dump.tree c.args.path c.args.node) c.args.token) c.put_in.ensures.put

pub returns-clause-ok : goal.returns-clause-ok
returns-clause-ok g c = at_ok c.args.self.now.dumps.items c.args.index c.index_mut.result.now
    (slice_get_read _ _ _ _ refl c.requires.within c.index_mut.ensures.value) c.put_in.result
    (λ (dump : OpenDump). IsTree is_dir dump.tree → broken_rule is_dir dump.tree c.args.path (is_dir c.args.node) false ≡ None)
    c.put_in.ensures.ok

pub returns-clause-room : goal.returns-clause-room
returns-clause-room g c = at_ok c.args.self.now.dumps.items c.args.index c.index_mut.result.now
    (slice_get_read _ _ _ _ refl c.requires.within c.index_mut.ensures.value) c.put_in.result
    (λ (dump : OpenDump). HasRoom dump.tree c.args.path (is_dir c.args.node)) c.put_in.ensures.room

pub returns-clause-rule : goal.returns-clause-rule
returns-clause-rule g c = at_err c.args.self.now.dumps.items c.args.index c.index_mut.result.now
    (slice_get_read _ _ _ _ refl c.requires.within c.index_mut.ensures.value) c.put_in.result
    (λ (rule : PutRule) (dump : OpenDump). IsTree is_dir dump.tree
    → broken_rule is_dir dump.tree c.args.path (is_dir c.args.node) false ≡ Some rule) c.put_in.ensures.rule

pub returns-clause-reason : goal.returns-clause-reason
returns-clause-reason g c = at_err c.args.self.now.dumps.items c.args.index c.index_mut.result.now
    (slice_get_read _ _ _ _ refl c.requires.within c.index_mut.ensures.value) c.put_in.result
    (λ (rule : PutRule) (dump : OpenDump). IsReason dump.tree c.args.path (is_dir c.args.node) rule) c.put_in.ensures.reason

pub returns-clause-whole : goal.returns-clause-whole
returns-clause-whole g c = at_set c.args.self.now.dumps.items c.args.index c.index_mut.result.now
    (slice_get_read _ _ _ _ refl c.requires.within c.index_mut.ensures.value) (λ (dump : OpenDump). IsWholeTree dump.tree)
    c.put_in.new.dump c.put_in.ensures.whole
