-- How the calls of a dump begin its script, and follow it.
use Rattle.std.specs.Prelude.{◌≡◌, ℕ, Bool, true, false, List, [], ◌∷◌, ◌++◌, map, Option, Some, None, Ok}
use Rattle.std.proofs.Common.{refl, sym, ap, ◌∙◌, subst, append_assoc}
use Rattle.std.proofs.lemmas.List.{append-nil}
use Rattle.attr_records.specs.declared.nodes.Item.{Item}
use Rattle.attr_records.specs.declared.nodes.Item.TheVariants as I
use Rattle.attr_records.specs.declared.nodes.File.{File}
use Rattle.attr_records.specs.Items.{Tree, is_large}
use Rattle.tree_frames.specs.Frames.{pieces}
use Rattle.backup_rules.specs.declared.lines.Line.{Line}
use Rattle.backup_rules.specs.declared.lines.Kind.{Kind}
use Rattle.backup_rules.specs.declared.lines.Kind.TheVariants.{Full, Incr}
use Rattle.receipts.specs.declared.session.SessionName.{SessionName}
use Rattle.office_model.specs.declared.answer.NamedNode.{NamedNode}
use Rattle.office_model.specs.declared.event.Event.TheVariants as E
use Rattle.office_model.specs.declared.answer.Answer.TheVariants as A
use Rattle.office_model.specs.Step.{Call}
use Rattle.call_scripts.specs.Scripts.{Script, each_then, behind, Begins, AreAnswered}
use Rattle.call_scripts.specs.ScriptLaws.{AreAnswered-append}
use Rattle.folder_laws.specs.declared.known.Known.{Known}
use Rattle.folder_laws.specs.Calls.{staged_put, piece_calls, file_calls, item_calls, IsPut, ArePuts, remove_calls}
use Rattle.folder_laws.specs.Compares.{root}
use Rattle.folder_laws.specs.Lists.{gone_from, known_from, list_call, AreLists, AreRemovals, last_line, IsBase}
use Rattle.folder_laws.specs.DumpScript.{stage_script, file_script, item_script, puts_script, remove_events, list_script, removal_script, incr_script, base_script}

-- ---- puts begin their script

begins_pieces : (stage : ℕ) (list : List (List ℕ)) (next : Script) (more : List Call) → Begins next more
    → Begins (each_then (map (E.StagePiece stage) list) next) (piece_calls stage list ++ more)
begins_pieces stage [] next more begins = begins
begins_pieces stage (piece ∷ list) next more begins = (refl, begins_pieces stage list next more begins)

-- the first pieces, behind which come what begins the script of the others
pub begins_some_pieces : (stage : ℕ) (done rest : List (List ℕ)) (next : Script) (more : List Call)
    → Begins (each_then (map (E.StagePiece stage) rest) next) more
    → Begins (each_then (map (E.StagePiece stage) (done ++ rest)) next) (piece_calls stage done ++ more)
begins_some_pieces stage [] rest next more begins = begins
begins_some_pieces stage (piece ∷ done) rest next more begins = (refl, begins_some_pieces stage done rest next more begins)

-- a stage that got all pieces
pub begins_stage : (dump : SessionName) (path : List ℕ) (file : File) (stage : ℕ) (next : Script) (more : List Call)
    → Begins (each_then (staged_put dump path file stage ∷ []) next) more
    → Begins (stage_script dump path file next) ((E.StageOpen dump, Ok (A.Stage stage)) ∷ (piece_calls stage (pieces file.bytes) ++ more))
begins_stage dump path file stage next more begins =
    (refl, begins_pieces stage (pieces file.bytes) (each_then (staged_put dump path file stage ∷ []) next) more begins)

begins_file : (large : Bool) (dump : SessionName) (path : List ℕ) (file : File) (stage : ℕ) (next : Script) (more : List Call) → Begins next more
    → Begins (file_script large dump path file next) (file_calls large dump path file stage ++ more)
begins_file true dump path file stage next more begins =
    subst (λ calls. Begins (stage_script dump path file next) ((E.StageOpen dump, Ok (A.Stage stage)) ∷ calls))
    (sym (append_assoc (piece_calls stage (pieces file.bytes)) ((staged_put dump path file stage, Ok A.Done) ∷ []) more))
    (begins_stage dump path file stage next ((staged_put dump path file stage, Ok A.Done) ∷ more) (refl, begins))
begins_file false dump path file stage next more begins = (refl, begins)

begins_item : (dump : SessionName) (path : List ℕ) (item : Item) (stage : ℕ) (next : Script) (more : List Call) → Begins next more
    → Begins (item_script dump path item next) (item_calls dump path item stage ++ more)
begins_item dump path (I.File file) stage next more begins = begins_file (is_large (I.File file)) dump path file stage next more begins
begins_item dump path (I.Dir dir) stage next more begins = (refl, begins)
begins_item dump path (I.Link link) stage next more begins = (refl, begins)

-- the calls of a row, behind which come what begins the next script
pub begins_put : (dump : SessionName) (row : List ℕ × Item) (calls : List Call) (next : Script) (more : List Call) → IsPut dump row calls
    → Begins next more → Begins (item_script dump row.0 row.1 next) (calls ++ more)
begins_put dump row calls next more is begins =
    subst (λ cs. Begins (item_script dump row.0 row.1 next) (cs ++ more)) (sym is.1) (begins_item dump row.0 row.1 is.0 next more begins)

-- puts of the first rows, behind which come what begins the script of the others
pub begins_some_puts : (dump : SessionName) (done rest : Tree) (calls : List Call) (next : Script) (more : List Call) → ArePuts dump done calls
    → Begins (puts_script dump rest next) more → Begins (puts_script dump (done ++ rest) next) (calls ++ more)
begins_some_puts dump [] rest calls next more are begins = subst (λ cs. Begins (puts_script dump rest next) (cs ++ more)) (sym are) begins
begins_some_puts dump (row ∷ done) rest calls next more are begins =
    let first : List Call = are.0 in
    let left : List Call = are.1 in
    subst (λ cs. Begins (puts_script dump (row ∷ (done ++ rest)) next) cs)
    (sym (append_assoc first left more) ∙ ap (λ cs. cs ++ more) (sym are.3))
    (begins_put dump row first (puts_script dump (done ++ rest) next) (left ++ more) are.2
    (begins_some_puts dump done rest left next more are.4 begins))

-- all of them
pub begins_puts : (dump : SessionName) (rows : Tree) (calls : List Call) (next : Script) (more : List Call) → ArePuts dump rows calls
    → Begins next more → Begins (puts_script dump rows next) (calls ++ more)
begins_puts dump rows calls next more are begins =
    subst (λ rs. Begins (puts_script dump rs next) (calls ++ more)) (append-nil rows) (begins_some_puts dump rows [] calls next more are begins)

-- ---- puts and removals were answered

pub AreAnswered-pieces : (stage : ℕ) (list : List (List ℕ)) → AreAnswered (piece_calls stage list)
AreAnswered-pieces stage [] = tt
AreAnswered-pieces stage (piece ∷ list) = AreAnswered-pieces stage list

AreAnswered-file : (large : Bool) (dump : SessionName) (path : List ℕ) (file : File) (stage : ℕ) → AreAnswered (file_calls large dump path file stage)
AreAnswered-file true dump path file stage =
    AreAnswered-append (piece_calls stage (pieces file.bytes)) ((staged_put dump path file stage, Ok A.Done) ∷ []) (AreAnswered-pieces stage (pieces file.bytes)) tt
AreAnswered-file false dump path file stage = tt

AreAnswered-item : (dump : SessionName) (path : List ℕ) (item : Item) (stage : ℕ) → AreAnswered (item_calls dump path item stage)
AreAnswered-item dump path (I.File file) stage = AreAnswered-file (is_large (I.File file)) dump path file stage
AreAnswered-item dump path (I.Dir dir) stage = tt
AreAnswered-item dump path (I.Link link) stage = tt

pub AreAnswered-put : (dump : SessionName) (row : List ℕ × Item) (calls : List Call) → IsPut dump row calls → AreAnswered calls
AreAnswered-put dump row calls is = subst AreAnswered (sym is.1) (AreAnswered-item dump row.0 row.1 is.0)

pub AreAnswered-puts : (dump : SessionName) (rows : Tree) (calls : List Call) → ArePuts dump rows calls → AreAnswered calls
AreAnswered-puts dump [] calls are = subst AreAnswered (sym are) tt
AreAnswered-puts dump (row ∷ rows) calls are =
    subst AreAnswered (sym are.3) (AreAnswered-append are.0 are.1 (AreAnswered-put dump row are.0 are.2) (AreAnswered-puts dump rows are.1 are.4))

-- one more row
pub ArePuts-more : (dump : SessionName) (done : Tree) (row : List ℕ × Item) (calls more : List Call) → ArePuts dump done calls → IsPut dump row more
    → ArePuts dump (done ++ row ∷ []) (calls ++ more)
ArePuts-more dump [] row calls more are is = (more, [], is, ap (λ cs. cs ++ more) are ∙ sym (append-nil more), refl)
ArePuts-more dump (first ∷ done) row calls more are is = (
  are.0,
  are.1 ++ more,
  are.2,
  ap (λ cs. cs ++ more) are.3 ∙ append_assoc are.0 are.1 more,
  ArePuts-more dump done row are.1 more are.4 is,
)

pub AreAnswered-removes : (dump : SessionName) (paths : List (List ℕ)) → AreAnswered (remove_calls dump paths)
AreAnswered-removes dump [] = tt
AreAnswered-removes dump (path ∷ paths) = AreAnswered-removes dump paths

-- ---- listings

-- what begins a script that comes behind these listings begins the script of the listings with them
pub begins_lists : (seen : Tree) (host : List ℕ) (number : ℕ) (dump : SessionName) (next : Script) (lists : List Call) (pending : List Known)
    (gone : List (List ℕ)) (left : List Known) (all : List (List ℕ)) (more : List Call) → AreLists seen host number pending gone lists left all
    → Begins (list_script seen host number dump next left all) more
    → Begins (list_script seen host number dump next pending gone) (lists ++ more)
begins_lists seen host number dump next [] pending gone left all more are begins =
    subst (λ (ks : List Known). Begins (list_script seen host number dump next ks gone) more) (sym are.0)
    (subst (λ paths. Begins (list_script seen host number dump next left paths) more) (sym are.1) begins)
begins_lists seen host number dump next (call ∷ lists) pending gone left all more are begins =
    let known : Known = are.0 in
    let rest : List Known = are.1 in
    let entries : List NamedNode = are.2 in
    subst (λ (ks : List Known). Begins (list_script seen host number dump next ks gone) (call ∷ (lists ++ more))) (sym are.3)
    (subst (λ (c : Call). Begins (list_script seen host number dump next (known ∷ rest) gone) (c ∷ (lists ++ more))) (sym are.4) (
      refl,
      begins_lists seen host number dump next lists (known_from seen known entries ++ rest) (gone ++ gone_from seen known entries) left all more
          are.5 begins,
    ))

-- what the script calls behind these listings
pub list_script-behind : (seen : Tree) (host : List ℕ) (number : ℕ) (dump : SessionName) (next : Script) (lists : List Call)
    (pending : List Known) (gone : List (List ℕ)) (left : List Known) (all : List (List ℕ)) (more : List Call)
    → AreLists seen host number pending gone lists left all
    → list_script seen host number dump next pending gone (lists ++ more) ≡ list_script seen host number dump next left all more
list_script-behind seen host number dump next [] pending gone left all more are =
    λ i. list_script seen host number dump next (are.0 i) (are.1 i) more
list_script-behind seen host number dump next (call ∷ lists) pending gone left all more are =
    let known : Known = are.0 in
    let rest : List Known = are.1 in
    let entries : List NamedNode = are.2 in
    (λ i. list_script seen host number dump next (are.3 i) gone (are.4 i ∷ (lists ++ more)))
    ∙ list_script-behind seen host number dump next lists (known_from seen known entries ++ rest) (gone ++ gone_from seen known entries) left all more are.5

-- listings were answered
AreAnswered-lists : (seen : Tree) (host : List ℕ) (number : ℕ) (lists : List Call) (pending : List Known) (gone : List (List ℕ))
    (left : List Known) (all : List (List ℕ)) → AreLists seen host number pending gone lists left all → AreAnswered lists
AreAnswered-lists seen host number [] pending gone left all are = tt
AreAnswered-lists seen host number (call ∷ lists) pending gone left all are =
    subst (λ (c : Call). AreAnswered (c ∷ lists)) (sym are.4)
    (AreAnswered-lists seen host number lists (known_from seen are.0 are.2 ++ are.1) (gone ++ gone_from seen are.0 are.2) left all are.5)

-- one more listing
pub AreLists-more : (seen : Tree) (host : List ℕ) (number : ℕ) (lists : List Call) (pending : List Known) (gone : List (List ℕ))
    (known : Known) (rest : List Known) (all : List (List ℕ)) (entries : List NamedNode)
    → AreLists seen host number pending gone lists (known ∷ rest) all
    → AreLists seen host number pending gone (lists ++ list_call host number known entries ∷ []) (known_from seen known entries ++ rest)
    (all ++ gone_from seen known entries)
AreLists-more seen host number [] pending gone known rest all entries are =
    (known, rest, entries, are.0, refl, (refl, ap (λ paths. paths ++ gone_from seen known entries) are.1))
AreLists-more seen host number (call ∷ lists) pending gone known rest all entries are = (
  are.0,
  are.1,
  are.2,
  are.3,
  are.4,
  AreLists-more seen host number lists (known_from seen are.0 are.2 ++ are.1) (gone ++ gone_from seen are.0 are.2) known rest all entries are.5,
)

-- ---- a base that is ready

-- the events behind a base are called behind it
pub begins_base : (kind : Kind) (seen : Tree) (host : List ℕ) (dump : SessionName) (next : Script) (base more : List Call)
    → IsBase kind seen host dump base → Begins next more → Begins (base_script kind seen host dump next) (base ++ more)
begins_base Full seen host dump next base more is begins =
    subst (λ calls. Begins next (calls ++ more)) (sym is) begins
begins_base Incr seen host dump next base more is begins =
    subst (λ calls. Begins (incr_script seen host dump next) (calls ++ more)) (sym is.5) (refl, step (last_line is.0) is.4)
  where
    step : (found : Option Line) → AreRemovals seen host dump found is.3 → Begins (removal_script seen host dump next found) (is.3 ++ more)
    step None are = subst (λ calls. Begins next (calls ++ more)) (sym are) begins
    step (Some line) are =
        subst (λ calls. Begins (list_script seen host line.number dump next (root ∷ []) []) calls)
        (sym (ap (λ calls. calls ++ more) are.3 ∙ append_assoc are.0 (remove_calls dump are.1) more))
        (begins_lists seen host line.number dump next are.0 (root ∷ []) [] [] are.1 (remove_calls dump are.1 ++ more) are.2
        (removes are.1))
      where
        removes : (gone : List (List ℕ)) → Begins (each_then (remove_events dump gone) next) (remove_calls dump gone ++ more)
        removes [] = begins
        removes (path ∷ gone) = (refl, removes gone)
