use Rattle.std.proofs.Common.{◌≡◌, ℕ, List, false, Some, Result, subst, slice_get, IfErr}
use Rattle.attr_records.specs.declared.trees.PutRule.{PutRule}
use Rattle.attr_records.specs.Trees.{IsTree, broken_rule}
use Rattle.attr_tables.specs.Records.{is_dir}
use Rattle.dump_session.specs.declared.session.PutFault.{PutFault}
use Rattle.dump_session.specs.declared.session.PutFault.TheVariants.{Broken}
use Rattle.open_sessions.specs.declared.sessions.OpenDump.{OpenDump}
use Rattle.store_stages.proofs.putting.put_file.Goals as goal

abbrev Says : List OpenDump → ℕ → Result (Unit {0}) PutFault → List ℕ → Type 0
Says dumps at result path = IfErr result
    (λ fault. (rule : PutRule) (dump : OpenDump) → fault ≡ Broken rule → slice_get dumps at ≡ Some dump
    → IsTree is_dir dump.tree → broken_rule is_dir dump.tree path false false ≡ Some rule)

pub returns-clause-rule : goal.returns-clause-rule
returns-clause-rule g c = subst (Says c.args.sessions.now.dumps.items c.args.at c.put.result) c.in_ok-path.ensures c.put.ensures.rule
