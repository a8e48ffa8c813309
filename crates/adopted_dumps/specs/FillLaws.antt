-- A dump into which was laid what leads from its tree to another has that one.
use Rattle.std.specs.Prelude.{◌≡◌, ℕ, nat_lt, Bool, true, false, List, [], ◌∷◌, ◌++◌, length, Option, Some, None, Ok}
use Rattle.std.specs.List.{concat}
use Rattle.std.proofs.Common.{refl, sym, ap, ◌∙◌, subst, append_assoc}
use Rattle.std.proofs.lemmas.List.{append-nil}
use Rattle.attr_records.specs.declared.nodes.Item.{Item}
use Rattle.attr_records.specs.declared.nodes.Item.TheVariants as I
use Rattle.attr_records.specs.declared.nodes.File.{File}
use Rattle.attr_records.specs.Items.{Tree, is_dir}
use Rattle.attr_records.specs.Trees.{IsTree, with_node, without}
use Rattle.change_laws.specs.Changes.{topmost, lost_rows, changed_rows}
use Rattle.change_laws.specs.Changes as Changes
use Rattle.change_laws.specs.SameItems.{is_same_item}
use Rattle.change_laws.specs.SameItemLaws.{same_item}
use Rattle.change_laws.specs.BroughtLaws.{brought-is}
use Rattle.tree_frames.specs.Frames.{pieces, removals_of, entries_of}
use Rattle.tree_frames.specs.PieceLaws.{concat-pieces}
use Rattle.receipts.specs.declared.session.SessionName.{SessionName}
use Rattle.office_model.specs.declared.event.Event.TheVariants as E
use Rattle.office_model.specs.declared.event.StagedFile.{StagedFile}
use Rattle.office_model.specs.declared.event.PutItem.TheVariants.{Whole}
use Rattle.office_model.specs.declared.answer.Answer.TheVariants as A
use Rattle.office_model.specs.Office.{Office, Names, IsSound}
use Rattle.office_model.specs.Step.{Call, State, Running}
use Rattle.office_model.specs.History.{Leads}
use Rattle.office_model.specs.events.Put as PutEvent
use Rattle.call_scripts.specs.FirstCalls.{answered, none_left}
use Rattle.folder_laws.specs.Calls.{piece_calls, staged_put, stage_calls, file_calls, remove_calls}
use Rattle.folder_laws.specs.Replays.{without_all, with_all}
use Rattle.folder_laws.specs.ReplayLaws.{replayed}
use Rattle.folder_laws.specs.OfficeLaws.{HasDump, put_step}
use Rattle.folder_laws.specs.StagingLaws.{HasStage, stage_step, piece_step, staged_step, AfterPuts}
use Rattle.folder_laws.specs.IncrLaws.{after_removes}
use Rattle.frame_puts.specs.Runs.{row_calls, AreLaid, paths_of, LaidSince}
use Rattle.adopted_dumps.specs.Adopted.{tree_of, DumpIsFilled, AdoptNone, IsUnchanged}
use Rattle.adopted_dumps.specs.SplitLaws.{split}
use Rattle.adopted_dumps.specs.PartLaws.{parts_change_nothing, AdoptNone-append}

-- ---- a row

-- a dump is open with this tree, and with it a stage with these bytes; the rest of the history comes behind
record AfterPieces (dump : SessionName) (name : List ℕ) (tree : Tree) (number : ℕ) (bytes : List ℕ) (more : List Call) (state' : State)
    (faults' : ℕ) : Type 0 where
  pub office : Office
  pub names : Names
  pub faults : ℕ
  pub sound : IsSound office
  pub has : HasDump office dump name tree
  pub stage : HasStage office number dump bytes
  pub rest : Leads (Running office names) faults more state' faults'

after_pieces : (list : List (List ℕ)) (office : Office) (names : Names) (faults : ℕ) (dump : SessionName) (name : List ℕ) (tree : Tree) (number : ℕ)
    (front : List ℕ) (more : List Call) (state' : State) (faults' : ℕ) → IsSound office → HasDump office dump name tree
    → HasStage office number dump front → Leads (Running office names) faults (piece_calls number list ++ more) state' faults'
    → AfterPieces dump name tree number (front ++ concat list) more state' faults'
after_pieces [] office names faults dump name tree number front more state' faults' sound has stage leads = record {
  office = office;
  names = names;
  faults = faults;
  sound = sound;
  has = has;
  stage = subst (λ bytes. HasStage office number dump bytes) (sym (append-nil front)) stage;
  rest = leads;
}
after_pieces (piece ∷ list) office names faults dump name tree number front more state' faults' sound has stage leads =
    let a = answered office names faults (E.StagePiece number piece) A.Done (piece_calls number list ++ more) state' faults' leads in
    let s = piece_step office dump name tree number front piece A.Done a.after sound (record { dump = has; stage = stage }) a.carried in
    let p = after_pieces list a.after a.after_names a.faults dump name tree number (front ++ piece) more state' faults' a.sound s.dump s.stage a.rest in
    subst (λ bytes. AfterPieces dump name tree number bytes more state' faults') (append_assoc front piece (concat list)) p

module _ (office : Office) (names : Names) (faults : ℕ) (dump : SessionName) (name : List ℕ) (tree : Tree) (path : List ℕ) (more : List Call)
    (state' : State) (faults' : ℕ) (sound : IsSound office) (has : HasDump office dump name tree) where
  after_whole : (item : Item) → Leads (Running office names) faults ((E.Put dump path (Whole item) None, Ok A.Done) ∷ more) state' faults'
      → AfterPuts dump name (with_node tree path item) more state' faults'
  after_whole item leads =
      let a = answered office names faults (E.Put dump path (Whole item) None) A.Done more state' faults' leads in
      record {
        office = a.after;
        names = a.after_names;
        faults = a.faults;
        sound = a.sound;
        has = put_step office names dump name tree path item A.Done a.after sound has a.carried;
        rest = a.rest;
      }

  after_stage : (file : File) (stage : ℕ) → Leads (Running office names) faults (stage_calls dump path file stage ++ more) state' faults'
      → AfterPuts dump name (with_node tree path (I.File file)) more state' faults'
  after_stage file stage leads =
      let staged : StagedFile = record { attr = file.attr; group = file.group; stage = stage } in
      let put : Call = (staged_put dump path file stage, Ok A.Done) in
      let o = answered office names faults (E.StageOpen dump) (A.Stage stage) ((piece_calls stage (pieces file.bytes) ++ put ∷ []) ++ more) state' faults' leads in
      let s = stage_step office dump name tree names.next_stage stage o.after has o.carried in
      let p = after_pieces (pieces file.bytes) o.after o.after_names o.faults dump name tree stage [] (put ∷ more) state' faults' o.sound s.dump s.stage
      (subst (λ calls. Leads (Running o.after o.after_names) o.faults calls state' faults')
      (append_assoc (piece_calls stage (pieces file.bytes)) (put ∷ []) more) o.rest) in
      let a = answered p.office p.names p.faults (staged_put dump path file stage) A.Done more state' faults' p.rest in
      let whole : HasDump a.after dump name (with_node tree path (PutEvent.staged_item staged (concat (pieces file.bytes)))) =
      staged_step p.office p.names dump name tree path staged (concat (pieces file.bytes)) A.Done a.after p.sound
      (record { dump = p.has; stage = p.stage }) a.carried in
      record {
        office = a.after;
        names = a.after_names;
        faults = a.faults;
        sound = a.sound;
        has = subst (λ bytes. HasDump a.after dump name (with_node tree path (PutEvent.staged_item staged bytes))) (concat-pieces file.bytes) whole;
        rest = a.rest;
      }

  after_file : (large : Bool) (file : File) (stage : ℕ) → Leads (Running office names) faults (file_calls large dump path file stage ++ more) state' faults'
      → AfterPuts dump name (with_node tree path (I.File file)) more state' faults'
  after_file true file stage leads = after_stage file stage leads
  after_file false file stage leads = after_whole (I.File file) leads

  after_row : (item : Item) (stage : ℕ) → Leads (Running office names) faults (row_calls dump path item stage ++ more) state' faults'
      → AfterPuts dump name (with_node tree path item) more state' faults'
  after_row (I.File file) stage leads = after_file (nat_lt 65536 (length file.bytes)) file stage leads
  after_row (I.Dir dir) stage leads = after_whole (I.Dir dir) leads
  after_row (I.Link link) stage leads = after_whole (I.Link link) leads

-- ---- rows

after_laid : (rows : Tree) (office : Office) (names : Names) (faults : ℕ) (dump : SessionName) (name : List ℕ) (tree : Tree) (calls more : List Call)
    (state' : State) (faults' : ℕ) → IsSound office → HasDump office dump name tree → AreLaid dump rows calls
    → Leads (Running office names) faults (calls ++ more) state' faults'
    → AfterPuts dump name (with_all tree rows) more state' faults'
after_laid [] office names faults dump name tree calls more state' faults' sound has are leads = record {
  office = office;
  names = names;
  faults = faults;
  sound = sound;
  has = has;
  rest = subst (λ cs. Leads (Running office names) faults (cs ++ more) state' faults') are leads;
}
after_laid (row ∷ rows) office names faults dump name tree calls more state' faults' sound has are leads =
    let stage : ℕ = are.2.0 in
    let parts : calls ++ more ≡ row_calls dump row.0 row.1 stage ++ (are.1 ++ more) =
    ap (λ cs. cs ++ more) are.3 ∙ append_assoc are.0 are.1 more ∙ ap (λ cs. cs ++ (are.1 ++ more)) are.2.1 in
    let a = after_row office names faults dump name tree row.0 (are.1 ++ more) state' faults' sound has row.1 stage
    (subst (λ cs. Leads (Running office names) faults cs state' faults') parts leads) in
    after_laid rows a.office a.names a.faults dump name _ are.1 more state' faults' a.sound a.has are.4 a.rest

-- ---- the tree that is laid

with_same : (rows tree : Tree) → with_all tree rows ≡ Changes.with_all rows tree
with_same [] tree = refl
with_same (row ∷ rows) tree = with_same rows (with_node tree row.0 row.1)

without_same : (rows tree : Tree) → without_all tree (paths_of rows) ≡ Changes.without_all rows tree
without_same [] tree = refl
without_same (row ∷ rows) tree = without_same rows (without tree row.0)

-- what leads from a base to a tree makes it of the base
laid_is : (base : Option Tree) (tree : Tree) → IsTree is_dir tree → IsTree is_dir (tree_of base)
    → with_all (without_all (tree_of base) (paths_of (removals_of base tree))) (entries_of base tree) ≡ tree
laid_is None tree new old = replayed [] tree tt new.in_order (λ q none. refl)
laid_is (Some base) tree new old =
    with_same (changed_rows is_same_item tree base) (without_all base (paths_of (topmost (lost_rows is_dir tree base))))
    ∙ ap (Changes.with_all (changed_rows is_same_item tree base)) (without_same (topmost (lost_rows is_dir tree base)) base)
    ∙ brought-is is_dir is_same_item same_item tree base new old

filled : (office : Office) (names : Names) (faults : ℕ) (dump : SessionName) (name : List ℕ) (base : Option Tree) (tree : Tree)
    (calls more : List Call) (state' : State) (faults' : ℕ) → IsSound office → HasDump office dump name (tree_of base) → IsTree is_dir tree
    → LaidSince dump base tree calls → Leads (Running office names) faults (calls ++ more) state' faults'
    → AfterPuts dump name tree more state' faults'
filled office names faults dump name base tree calls more state' faults' sound has is_tree laid leads =
    let gone : List (List ℕ) = paths_of (removals_of base tree) in
    let parts : calls ++ more ≡ remove_calls dump gone ++ (laid.puts ++ more) =
    ap (λ cs. cs ++ more) laid.calls_are ∙ append_assoc (remove_calls dump gone) laid.puts more in
    let r = after_removes gone office names faults dump name (tree_of base) (laid.puts ++ more) state' faults' sound has
    (subst (λ cs. Leads (Running office names) faults cs state' faults') parts leads) in
    let p = after_laid (entries_of base tree) r.office r.names r.faults dump name (without_all (tree_of base) gone) laid.puts more state' faults'
    r.sound r.has laid.are_puts r.rest in
    let old : IsTree is_dir (tree_of base) = subst (IsTree is_dir) has.tree_is (sound.dumps.trees has.index has.dump has.is_dump).paths in
    record {
      office = p.office;
      names = p.names;
      faults = p.faults;
      sound = p.sound;
      has = subst (HasDump p.office dump name) (laid_is base tree is_tree old) p.has;
      rest = p.rest;
    }

-- ---- nothing of it adopts a dump

none_pieces : (stage : ℕ) (list : List (List ℕ)) → AdoptNone (piece_calls stage list)
none_pieces stage [] = tt
none_pieces stage (piece ∷ list) = (tt, none_pieces stage list)

none_file : (large : Bool) (dump : SessionName) (path : List ℕ) (file : File) (stage : ℕ) → AdoptNone (file_calls large dump path file stage)
none_file true dump path file stage = (
  tt,
  AdoptNone-append (piece_calls stage (pieces file.bytes)) ((staged_put dump path file stage, Ok A.Done) ∷ []) (none_pieces stage (pieces file.bytes))
      (tt, tt),
)
none_file false dump path file stage = (tt, tt)

none_row : (dump : SessionName) (path : List ℕ) (item : Item) (stage : ℕ) → AdoptNone (row_calls dump path item stage)
none_row dump path (I.File file) stage = none_file (nat_lt 65536 (length file.bytes)) dump path file stage
none_row dump path (I.Dir dir) stage = (tt, tt)
none_row dump path (I.Link link) stage = (tt, tt)

none_rows : (dump : SessionName) (rows : Tree) (calls : List Call) → AreLaid dump rows calls → AdoptNone calls
none_rows dump [] calls are = subst AdoptNone (sym are) tt
none_rows dump (row ∷ rows) calls are =
    subst AdoptNone (sym are.3)
    (AdoptNone-append are.0 are.1 (subst AdoptNone (sym are.2.1) (none_row dump row.0 row.1 are.2.0)) (none_rows dump rows are.1 are.4))

none_removes : (dump : SessionName) (paths : List (List ℕ)) → AdoptNone (remove_calls dump paths)
none_removes dump [] = tt
none_removes dump (path ∷ paths) = (tt, none_removes dump paths)

pub AdoptNone-laid : (dump : SessionName) (base : Option Tree) (tree : Tree) (calls : List Call) → LaidSince dump base tree calls → AdoptNone calls
AdoptNone-laid dump base tree calls laid =
    subst AdoptNone (sym laid.calls_are)
    (AdoptNone-append (remove_calls dump (paths_of (removals_of base tree))) laid.puts (none_removes dump (paths_of (removals_of base tree)))
    (none_rows dump (entries_of base tree) laid.puts laid.are_puts))

pub dump_is_filled : DumpIsFilled
dump_is_filled office names faults dump name base tree calls more state' faults' sound has is_tree laid leads =
    let s = split calls (Running office names) faults more state' faults' leads in
    let f = filled office names faults dump name base tree calls [] s.mid s.mid_faults sound has is_tree laid
    (subst (λ cs. Leads (Running office names) faults cs s.mid s.mid_faults) (sym (append-nil calls)) s.first) in
    let mid_is : s.mid ≡ Running f.office f.names = none_left (Running f.office f.names) f.faults s.mid s.mid_faults f.rest in
    let same : IsUnchanged (Running office names) s.mid =
    parts_change_nothing (Running office names) faults calls s.mid s.mid_faults s.first (AdoptNone-laid dump base tree calls laid) in
    record {
      office = f.office;
      names = f.names;
      faults = s.mid_faults;
      sound = f.sound;
      kept = subst (IsUnchanged (Running office names)) mid_is same;
      has = f.has;
      rest = subst (λ (state : State). Leads state s.mid_faults more state' faults') mid_is s.rest;
    }
