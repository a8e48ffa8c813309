-- What the calls of a row make of an office: a large file's stage is opened, takes its pieces, and is put.
--     HasStage      a stage of a dump is open, with these bytes
--     stage_step, piece_step, staged_step      from one to the other
--     after_item      the row is in the dump's tree
use Rattle.std.specs.Prelude.{◌≡◌, ℕ, ◌==◌, Bool, true, false, not, List, [], ◌∷◌, ◌++◌, length, map, Some, None, Ok, slice_get, slice_set, nat_le, nat_lt, ◌+◌}
use Rattle.std.specs.List.{concat, remove}
use Rattle.std.proofs.Common.{refl, sym, ap, ◌∙◌, subst, append_assoc}
use Rattle.std.proofs.lemmas.List.{append-nil}
use Rattle.std.proofs.lemmas.Option.{slice_get_within}
use Rattle.std.proofs.lemmas.Bool.Decides.{Decides-eqb}
use Rattle.attr_records.specs.declared.nodes.Item.{Item}
use Rattle.attr_records.specs.declared.nodes.Item.TheVariants as I
use Rattle.attr_records.specs.declared.nodes.File.{File}
use Rattle.attr_records.specs.declared.trees.PutRule.TheVariants.{FileTooLarge}
use Rattle.attr_records.specs.Items.{Tree, is_large, content_of}
use Rattle.attr_records.specs.Trees.{with_node}
use Rattle.tree_frames.specs.Frames.{pieces}
use Rattle.receipts.specs.declared.session.SessionName.{SessionName}
use Rattle.office_model.specs.declared.event.Event.TheVariants as E
use Rattle.office_model.specs.declared.event.StagedFile.{StagedFile}
use Rattle.office_model.specs.declared.event.PutItem.TheVariants.{Whole, Staged}
use Rattle.office_model.specs.declared.answer.Answer.{Answer}
use Rattle.office_model.specs.declared.answer.Answer.TheVariants as A
use Rattle.office_model.specs.declared.refusal.BrokenRule.TheVariants.{NumbersSpent, BadPiece, NoSession, Put as PutRule}
use Rattle.receipts.specs.Session.{is_same_session}
use Rattle.office_model.specs.PlacesLaws.{position-found, slice_get-set_same}
use Rattle.office_model.specs.Office.{Office, Dump, Stage, Names, IsSound, last_sequence, content_limit, stage_content, stage_index, with_dumps, with_stages}
use Rattle.office_model.specs.Meaning.{Judged, ◌>>=◌, breaks}
use Rattle.office_model.specs.Parts.{At, dump_at, stage_at}
use Rattle.office_model.specs.Step.{Call, State, Running}
use Rattle.office_model.specs.History.{Leads}
use Rattle.office_model.specs.events.StageOpen as StageOpenEvent
use Rattle.office_model.specs.events.StagePiece as StagePieceEvent
use Rattle.office_model.specs.events.Put as PutEvent
use Rattle.office_model.specs.laws.Judging.{bound, passed, at_is}
use Rattle.call_scripts.specs.FirstCalls.{answered}
use Rattle.folder_laws.specs.Calls.{piece_calls, staged_put, stage_calls, file_calls, item_calls}
use Rattle.folder_laws.specs.OfficeLaws.{HasDump, some_is, after_of, answer_of, at_end, put_step, put_dumps}
use Rattle.tree_frames.specs.PieceLaws.{concat-pieces}

-- a stage of a dump is open, with these bytes
pub record HasStage (office : Office) (number : ℕ) (session : SessionName) (bytes : List ℕ) : Type 0 where
  pub index : ℕ
  pub stage : Stage
  pub is_stage : slice_get office.stages index ≡ Some stage
  pub number_is : stage.number ≡ number
  pub dump_is : stage.dump ≡ session
  pub bytes_are : stage.bytes ≡ bytes

-- the stage of a number that is asked for is the one that is open
asked_stage : (office : Office) (number : ℕ) (session : SessionName) (bytes : List ℕ) → IsSound office
    → (has : HasStage office number session bytes) → (a : At Stage) → stage_at office.stages number ≡ Ok a
    → (a.index ≡ has.index) × (a.value ≡ has.stage)
asked_stage office number session bytes sound has a e =
    let at = at_is _ office.stages _ a e in
    let w = position-found (λ (s : Stage). s.number == number) office.stages a.index at.0 in
    let found : w.0.number ≡ number = (Decides-eqb w.0.number number).0 w.2 in
    let same : a.index ≡ has.index =
    sound.stages.numbers_differ a.index has.index w.0 has.stage w.1 has.is_stage (found ∙ sym has.number_is) in
    (same, some_is a.value has.stage (sym at.1 ∙ ap (slice_get office.stages) same ∙ has.is_stage))

-- other stages leave an open dump as it is
has_still : (office : Office) (stages : List Stage) (session : SessionName) (name : List ℕ) (tree : Tree) → HasDump office session name tree
    → HasDump (with_stages office stages) session name tree
has_still office stages session name tree has = record {
  index = has.index;
  dump = has.dump;
  is_dump = has.is_dump;
  name_is = has.name_is;
  tree_is = has.tree_is;
  host = has.host;
  is_host = has.is_host;
  host_name = has.host_name;
}

-- an office in which a dump and one of its stages are open
pub record Staging (office : Office) (session : SessionName) (name : List ℕ) (tree : Tree) (number : ℕ) (bytes : List ℕ) : Type 0 where
  pub dump : HasDump office session name tree
  pub stage : HasStage office number session bytes

stage_is : (a b : ℕ) → A.Stage a ≡ A.Stage b → a ≡ b
stage_is a b e = cc

pub stage_step : (office : Office) (session : SessionName) (name : List ℕ) (tree : Tree) (next number : ℕ) (after : Office)
    → HasDump office session name tree
    → StageOpenEvent.carried session next office ≡ Ok (record { answer = A.Stage number; after = after })
    → Staging after session name tree number []
stage_step office session name tree next number after has e =
    let w = bound (StageOpenEvent.with_stage session next office.dumps office.stages)
    (λ stages. Ok (record { answer = A.Stage next; after = with_stages office stages })) _ e in
    let a = bound (dump_at office.dumps session) _ w.0 w.1 in
    let new : Stage = StageOpenEvent.new_stage session next in
    let b : (nat_le last_sequence next ≡ false) × (Ok (office.stages ++ new ∷ []) ≡ Ok w.0) = passed NumbersSpent (nat_le last_sequence next) _ w.0 a.2 in
    let stages_are : office.stages ++ new ∷ [] ≡ w.0 = let f = b.1 in cc in
    let number_is : next ≡ number = stage_is next number (answer_of _ (A.Stage number) _ after w.2) in
    let after_is : with_stages office w.0 ≡ after = after_of _ (A.Stage number) _ after w.2 in
    let made : Staging (with_stages office (office.stages ++ new ∷ [])) session name tree next [] = record {
      dump = has_still office (office.stages ++ new ∷ []) session name tree has;
      stage = record {
        index = length office.stages;
        stage = new;
        is_stage = at_end office.stages new;
        number_is = refl;
        dump_is = refl;
        bytes_are = refl;
      };
    } in
    subst (λ (o : Office). Staging o session name tree number []) after_is
    (subst (λ ss. Staging (with_stages office ss) session name tree number []) stages_are
    (subst (λ n. Staging (with_stages office (office.stages ++ new ∷ [])) session name tree n []) number_is made))

pub piece_step : (office : Office) (session : SessionName) (name : List ℕ) (tree : Tree) (number : ℕ) (front bytes : List ℕ) (answer : Answer)
    (after : Office) → IsSound office → Staging office session name tree number front
    → StagePieceEvent.carried number bytes office ≡ Ok (record { answer = answer; after = after })
    → Staging after session name tree number (front ++ bytes)
piece_step office session name tree number front bytes answer after sound has e =
    let w = bound (StagePieceEvent.with_piece number bytes office.stages) (λ stages. Ok (record { answer = A.Done; after = with_stages office stages })) _ e in
    let a = bound (stage_at office.stages number) _ w.0 w.1 in
    let b : (StagePieceEvent.is_bad_piece bytes ≡ false) × (_ ≡ Ok w.0) = passed BadPiece (StagePieceEvent.is_bad_piece bytes) _ w.0 a.2 in
    let c : (nat_lt content_limit (length a.0.value.bytes + length bytes) ≡ false)
    × (Ok (slice_set office.stages a.0.index (StagePieceEvent.with_bytes a.0.value bytes)) ≡ Ok w.0)
    = passed (PutRule FileTooLarge) (nat_lt content_limit (length a.0.value.bytes + length bytes)) _ w.0 b.1 in
    let same = asked_stage office number session front sound has.stage a.0 a.1 in
    let new : Stage = StagePieceEvent.with_bytes has.stage.stage bytes in
    let stages_are : slice_set office.stages has.stage.index new ≡ w.0 =
    subst (λ i. slice_set office.stages i new ≡ w.0) same.0
    (subst (λ (s : Stage). slice_set office.stages a.0.index (StagePieceEvent.with_bytes s bytes) ≡ w.0) same.1 (let f = c.1 in cc)) in
    let after_is : with_stages office w.0 ≡ after = after_of A.Done answer (with_stages office w.0) after w.2 in
    let made : Staging (with_stages office (slice_set office.stages has.stage.index new)) session name tree number (front ++ bytes) = record {
      dump = has_still office (slice_set office.stages has.stage.index new) session name tree has.dump;
      stage = record {
        index = has.stage.index;
        stage = new;
        is_stage = slice_get-set_same office.stages has.stage.index new (slice_get_within office.stages has.stage.index has.stage.stage has.stage.is_stage);
        number_is = has.stage.number_is;
        dump_is = has.stage.dump_is;
        bytes_are = ap (λ bs. bs ++ bytes) has.stage.bytes_are;
      };
    } in
    subst (λ (o : Office). Staging o session name tree number (front ++ bytes)) after_is
    (subst (λ ss. Staging (with_stages office ss) session name tree number (front ++ bytes)) stages_are made)

-- a put of a stage that was answered
pub staged_step : (office : Office) (names : Names) (session : SessionName) (name : List ℕ) (tree : Tree) (path : List ℕ) (file : StagedFile)
    (bytes : List ℕ) (answer : Answer) (after : Office) → IsSound office → Staging office session name tree file.stage bytes
    → PutEvent.carried session path (Staged file) None office names ≡ Ok (record { answer = answer; after = after })
    → HasDump after session name (with_node tree path (PutEvent.staged_item file bytes))
staged_step office names session name tree path file bytes answer after sound has e =
    let full : Bool = PutEvent.is_chain_full office.pool office.dumps names (stage_content office.stages file.stage) in
    let w = bound (PutEvent.with_staged session path file full office.dumps office.stages)
    (λ made. Ok (record { answer = A.Done; after = with_stages (with_dumps office made.dumps) made.stages })) _ e in
    let s = bound (PutEvent.stage_of office.stages session file.stage) _ w.0 w.1 in
    let a = bound (stage_at office.stages file.stage) _ s.0 s.1 in
    let b : (not (is_same_session a.0.value.dump session) ≡ false) × (Ok a.0 ≡ Ok s.0) =
    passed NoSession (not (is_same_session a.0.value.dump session)) _ s.0 a.2 in
    let same = asked_stage office file.stage session bytes sound has.stage a.0 a.1 in
    let found : a.0 ≡ s.0 = let f = b.1 in cc in
    let bytes_are : s.0.value.bytes ≡ bytes = ap (λ (at : At Stage). at.value.bytes) (sym found) ∙ ap (λ (st : Stage). st.bytes) same.1 ∙ has.stage.bytes_are in
    let d = bound (PutEvent.with_put PutEvent.is_over session path (PutEvent.staged_item file s.0.value.bytes) full office.dumps) _ w.0 s.2 in
    let put : HasDump (with_dumps office d.0) session name (with_node tree path (PutEvent.staged_item file s.0.value.bytes)) =
    put_dumps PutEvent.is_over full office session name tree path (PutEvent.staged_item file s.0.value.bytes) d.0 sound has.dump d.1 in
    let made_is : (record { dumps = d.0; stages = remove office.stages s.0.index }) ≡ w.0 = let f = d.2 in cc in
    let after_is : with_stages (with_dumps office w.0.dumps) w.0.stages ≡ after =
    after_of A.Done answer (with_stages (with_dumps office w.0.dumps) w.0.stages) after w.2 in
    let tree_now : List ℕ → Tree = λ bs. with_node tree path (PutEvent.staged_item file bs) in
    subst (λ (o : Office). HasDump o session name (tree_now bytes)) after_is
    (subst (λ (p : PutEvent.Putting). HasDump (with_stages (with_dumps office p.dumps) p.stages) session name (tree_now bytes)) made_is
    (subst (λ bs. HasDump (with_stages (with_dumps office d.0) (remove office.stages s.0.index)) session name (tree_now bs)) bytes_are
    (has_still (with_dumps office d.0) (remove office.stages s.0.index) session name (tree_now s.0.value.bytes) put)))

-- ---- in a legal history

-- a dump is open with this tree, and the rest of the history
pub record AfterPuts (dump : SessionName) (name : List ℕ) (tree : Tree) (more : List Call) (state' : State) (faults' : ℕ) : Type 0 where
  pub office : Office
  pub names : Names
  pub faults : ℕ
  pub sound : IsSound office
  pub has : HasDump office dump name tree
  pub rest : Leads (Running office names) faults more state' faults'

-- and with it a stage with these bytes
record AfterPieces (dump : SessionName) (name : List ℕ) (tree : Tree) (number : ℕ) (bytes : List ℕ) (more : List Call) (state' : State)
    (faults' : ℕ) : Type 0 where
  pub office : Office
  pub names : Names
  pub faults : ℕ
  pub sound : IsSound office
  pub has : Staging office dump name tree number bytes
  pub rest : Leads (Running office names) faults more state' faults'

after_pieces : (list : List (List ℕ)) (office : Office) (names : Names) (faults : ℕ) (dump : SessionName) (name : List ℕ) (tree : Tree) (number : ℕ)
    (front : List ℕ) (more : List Call) (state' : State) (faults' : ℕ) → IsSound office → Staging office dump name tree number front
    → Leads (Running office names) faults (piece_calls number list ++ more) state' faults'
    → AfterPieces dump name tree number (front ++ concat list) more state' faults'
after_pieces [] office names faults dump name tree number front more state' faults' sound has leads = record {
  office = office;
  names = names;
  faults = faults;
  sound = sound;
  has = subst (λ bytes. Staging office dump name tree number bytes) (sym (append-nil front)) has;
  rest = leads;
}
after_pieces (piece ∷ list) office names faults dump name tree number front more state' faults' sound has leads =
    let a = answered office names faults (E.StagePiece number piece) A.Done (piece_calls number list ++ more) state' faults' leads in
    let p = after_pieces list a.after a.after_names a.faults dump name tree number (front ++ piece) more state' faults' a.sound
    (piece_step office dump name tree number front piece A.Done a.after sound has a.carried) a.rest in
    subst (λ bytes. AfterPieces dump name tree number bytes more state' faults') (append_assoc front piece (concat list)) p

module _ (office : Office) (names : Names) (faults : ℕ) (dump : SessionName) (name : List ℕ) (tree : Tree) (path : List ℕ) (more : List Call)
    (state' : State) (faults' : ℕ) (sound : IsSound office) (has : HasDump office dump name tree) where
  after_whole : (item : Item) → Leads (Running office names) faults ((E.Put dump path (Whole item) None, Ok A.Done) ∷ more) state' faults'
      → AfterPuts dump name (with_node tree path item) more state' faults'
  after_whole item leads =
      let a = answered office names faults (E.Put dump path (Whole item) None) A.Done more state' faults' leads in
      record {
        office = a.after;
        names = a.after_names;
        faults = a.faults;
        sound = a.sound;
        has = put_step office names dump name tree path item A.Done a.after sound has a.carried;
        rest = a.rest;
      }

  after_stage : (file : File) (stage : ℕ) → Leads (Running office names) faults (stage_calls dump path file stage ++ more) state' faults'
      → AfterPuts dump name (with_node tree path (I.File file)) more state' faults'
  after_stage file stage leads =
      let staged : StagedFile = record { attr = file.attr; group = file.group; stage = stage } in
      let put : Call = (staged_put dump path file stage, Ok A.Done) in
      let o = answered office names faults (E.StageOpen dump) (A.Stage stage) ((piece_calls stage (pieces file.bytes) ++ put ∷ []) ++ more) state' faults' leads in
      let p = after_pieces (pieces file.bytes) o.after o.after_names o.faults dump name tree stage [] (put ∷ more) state' faults' o.sound
      (stage_step office dump name tree names.next_stage stage o.after has o.carried)
      (subst (λ calls. Leads (Running o.after o.after_names) o.faults calls state' faults')
      (append_assoc (piece_calls stage (pieces file.bytes)) (put ∷ []) more) o.rest) in
      let a = answered p.office p.names p.faults (staged_put dump path file stage) A.Done more state' faults' p.rest in
      let whole : HasDump a.after dump name (with_node tree path (PutEvent.staged_item staged (concat (pieces file.bytes)))) =
      staged_step p.office p.names dump name tree path staged (concat (pieces file.bytes)) A.Done a.after p.sound p.has a.carried in
      record {
        office = a.after;
        names = a.after_names;
        faults = a.faults;
        sound = a.sound;
        has = subst (λ bytes. HasDump a.after dump name (with_node tree path (PutEvent.staged_item staged bytes))) (concat-pieces file.bytes) whole;
        rest = a.rest;
      }

  after_file : (large : Bool) (file : File) (stage : ℕ) → Leads (Running office names) faults (file_calls large dump path file stage ++ more) state' faults'
      → AfterPuts dump name (with_node tree path (I.File file)) more state' faults'
  after_file true file stage leads = after_stage file stage leads
  after_file false file stage leads = after_whole (I.File file) leads

  pub after_item : (item : Item) (stage : ℕ) → Leads (Running office names) faults (item_calls dump path item stage ++ more) state' faults'
      → AfterPuts dump name (with_node tree path item) more state' faults'
  after_item (I.File file) stage leads = after_file (is_large (I.File file)) file stage leads
  after_item (I.Dir dir) stage leads = after_whole (I.Dir dir) leads
  after_item (I.Link link) stage leads = after_whole (I.Link link) leads
