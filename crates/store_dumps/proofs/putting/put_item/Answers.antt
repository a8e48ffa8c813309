use Rattle.std.proofs.Common.{◌≡◌, ℕ, List, Bool, false, Option, Some, Result, refl, ap, ◌∙◌, subst, slice_get, IfErr}
use Rattle.disk_trait.specs.declared.ids.PoolId.{PoolId}
use Rattle.attr_records.specs.declared.trees.PutRule.{PutRule}
use Rattle.attr_records.specs.declared.nodes.Item.{Item}
use Rattle.attr_records.specs.declared.nodes.Item.TheVariants as I
use Rattle.attr_records.specs.Items.{is_dir as is_dir_item}
use Rattle.attr_records.specs.Trees.{IsTree, broken_rule}
use Rattle.attr_tables.specs.declared.records.Record.{Record}
use Rattle.attr_tables.specs.Records.{is_dir}
use Rattle.dump_session.specs.declared.session.PutFault.{PutFault}
use Rattle.dump_session.specs.declared.session.PutFault.TheVariants.{Broken}
use Rattle.open_sessions.specs.declared.sessions.OpenDump.{OpenDump}
use Rattle.store_dumps.specs.Putting.{record_for}
use Rattle.store_dumps.proofs.putting.put_item.Goals as goal

abbrev Says : List OpenDump → ℕ → Result (Unit {0}) PutFault → List ℕ → Bool → Type 0
Says dumps at result path dir = IfErr result
    (λ fault. (rule : PutRule) (dump : OpenDump) → fault ≡ Broken rule → slice_get dumps at ≡ Some dump
    → IsTree is_dir dump.tree → broken_rule is_dir dump.tree path dir false ≡ Some rule)

is_dir_for : (item : Item) (content : Option PoolId) → is_dir (record_for item content) ≡ is_dir_item item
is_dir_for (I.File file) content = refl
is_dir_for (I.Dir dir) content = refl
is_dir_for (I.Link link) content = refl

says_same : (dumps : List OpenDump) (at : ℕ) (result : Result (Unit {0}) PutFault) (path path' : List ℕ) (node : Record) (item : Item)
    (content : Option PoolId) → path ≡ path' → node ≡ record_for item content → Says dumps at result path (is_dir node)
    → Says dumps at result path' (is_dir_item item)
says_same dumps at result path path' node item content same is says =
    subst (λ (b : Bool). Says dumps at result path' b) (ap is_dir is ∙ is_dir_for item content)
    (subst (λ (p : List ℕ). Says dumps at result p (is_dir node)) same says)

pub returns-clause-rule : goal.returns-clause-rule
returns-clause-rule g c =
    says_same c.args.sessions.now.dumps.items c.args.at c.put.result _ _ _ c.args.item.now c.args.content
    c.in_ok-path.ensures c.in_ok-node.ensures c.put.ensures.rule
