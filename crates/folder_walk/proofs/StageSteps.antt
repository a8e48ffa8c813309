-- The put of a large file: its stage is opened, takes its pieces, and is put.
use Rattle.std.specs.Prelude.{◌≡◌, ℕ, ◌+◌, ◌-◌, ◌<◌, ◌≤◌, min, Bool, true, false, List, [], ◌∷◌, ◌++◌, map, length, take, drop, Option, Some, None, Ok, Err, nat_lt}
use Rattle.std.specs.Option.{ForSome}
use Rattle.std.proofs.Common.{refl, sym, ap, ◌∙◌, subst, append_assoc, arith}
use Rattle.std.proofs.lemmas.Bool.{true≢false}
use Rattle.std.proofs.lemmas.List.{append-nil, map-append, length-drop, length-take, take_min, drop_min, drop-drop}
use Rattle.attr_records.specs.declared.nodes.Item.{Item}
use Rattle.attr_records.specs.declared.nodes.Item.TheVariants as I
use Rattle.attr_records.specs.declared.nodes.File.{File}
use Rattle.attr_records.specs.Items.{Tree, is_large}
use Rattle.attr_records.specs.Trees.{node_at}
use Rattle.tree_frames.specs.Frames.{pieces}
use Rattle.folder_trait.specs.declared.found.FoundNode.{FoundNode}
use Rattle.folder_trait.specs.declared.found.FoundNode.TheVariants as N
use Rattle.folder_trait.specs.declared.found.FoundFile.{FoundFile}
use Rattle.folder_trait.specs.Folders.{found_of, IsPieceRead}
use Rattle.receipts.specs.declared.session.SessionName.{SessionName}
use Rattle.office_model.specs.declared.event.Event.{Event}
use Rattle.office_model.specs.declared.event.Event.TheVariants as E
use Rattle.office_model.specs.declared.answer.Answer.TheVariants as A
use Rattle.office_model.specs.declared.refusal.Refusal.{Refusal}
use Rattle.office_model.specs.Step.{Call}
use Rattle.call_scripts.specs.Scripts.{Script, each_then, Begins, AreAnswered}
use Rattle.call_scripts.specs.ScriptLaws.{AreAnswered-append}
use Rattle.folder_laws.specs.Calls.{piece_call, piece_calls, staged_put, stage_calls, file_calls, IsPut}
use Rattle.folder_laws.specs.DumpScript.{stage_script, file_script, item_script}
use Rattle.folder_laws.specs.DumpScriptLaws.{begins_some_pieces, begins_stage}
use Rattle.tree_frames.specs.PieceLaws.{pieces_first, no_pieces}
use Rattle.folder_walk.specs.declared.refusals.DumpRefusal.{DumpRefusal}
use Rattle.folder_walk.specs.declared.refusals.DumpRefusal.TheVariants as D
use Rattle.folder_walk.specs.Rows.{is_large_node}
use Rattle.folder_walk.specs.Causes.{refusal_of, IsNoRefusal}
use Rattle.folder_walk.specs.Puts.{AnsweredOr, IsRefusedCall, IsCallFault, PutsEntry, found_put, Taken, TakesSoFar, TakesAll}
use Rattle.folder_walk.proofs.EventLaws.{AreOfDump-append}
use Rattle.folder_walk.proofs.PutLaws.{some_injects, found_file}
use Rattle.folder_walk.proofs.WalkSteps.{AnsweredOr-behind}

-- ---- the pieces

-- at a place before the end a piece of this room is the next piece, and behind it come the others
record NextPiece (bytes : List ℕ) (from room : ℕ) : Type 0 where
  pub some : 0 < length (take room (drop from bytes))
  pub pieces_are : pieces (drop from bytes) ≡ take room (drop from bytes) ∷ pieces (drop (from + room) bytes)

next_piece : (bytes : List ℕ) (size from room : ℕ) → size ≡ length bytes → from < size → room ≡ min 65536 (size - from) → NextPiece bytes from room
next_piece bytes size from room size_is before room_is =
    let xs : List ℕ = drop from bytes in
    let long : length xs ≡ length bytes - from = length-drop from bytes in
    let room_of : room ≡ min 65536 (length xs) = room_is ∙ ap (λ n. min 65536 (n - from)) size_is ∙ ap (min 65536) (sym long) in
    let taken : take room xs ≡ take 65536 xs = ap (λ n. take n xs) room_of ∙ take_min 65536 xs in
    let dropped : drop (from + room) bytes ≡ drop 65536 xs =
    sym (drop-drop room from bytes) ∙ ap (λ n. drop n xs) room_of ∙ drop_min 65536 xs in
    let taken_long : length (take room xs) ≡ min room (length xs) = length-take room xs in
    record {
      some = omega (arith, taken_long, room_is, size_is, before, long);
      pieces_are = pieces_first xs (omega (arith, long, size_is, before)) ∙ (λ i. sym taken i ∷ pieces (sym dropped i));
    }

module _ {P : Type 0} (moves : P → List Call → P → Type 0) (joined : (p q r : P) (xs ys : List Call) → moves p xs q → moves q ys r → moves p (xs ++ ys) r)
    (none : (p : P) → moves p [] p) (told : Option Tree) (path : List ℕ) (size stage : ℕ) where
  pub takes_first : (port : P) → TakesSoFar moves port port told path size stage 0
  takes_first port = record {
    calls = [];
    moved = none port;
    answered = tt;
    of_dump = tt;
    taken = λ tree is file at size_is. record { done = []; calls_are = refl; split = refl };
  }

  pub takes_more : (old mid new : P) (from room : ℕ) (bytes : List ℕ) → TakesSoFar moves old mid told path size stage from → from < size
      → room ≡ min 65536 (size - from) → ForSome told (λ tree. IsPieceRead tree path from room (Some bytes))
      → moves mid ((E.StagePiece stage bytes, Ok A.Done) ∷ []) new → TakesSoFar moves old new told path size stage (from + room)
  takes_more old mid new from room bytes so_far before room_is read moved = record {
    calls = so_far.calls ++ piece_call stage bytes ∷ [];
    moved = joined old mid new so_far.calls (piece_call stage bytes ∷ []) so_far.moved moved;
    answered = AreAnswered-append so_far.calls (piece_call stage bytes ∷ []) so_far.answered tt;
    of_dump = AreOfDump-append so_far.calls (piece_call stage bytes ∷ []) so_far.of_dump (tt, tt);
    taken = λ tree is file at size_is. step tree is file at size_is (so_far.taken tree is file at size_is);
  }
    where
      step : (tree : Tree) → told ≡ Some tree → (file : File) → node_at tree path ≡ Some (I.File file) → size ≡ length file.bytes
          → Taken stage file.bytes from so_far.calls → Taken stage file.bytes (from + room) (so_far.calls ++ piece_call stage bytes ∷ [])
      step tree is file at size_is t =
          let next = next_piece file.bytes size from room size_is before room_is in
          let bytes_are : bytes ≡ take room (drop from file.bytes) = some_injects ((read tree is).found file at) in
          record {
            done = t.done ++ bytes ∷ [];
            calls_are = ap (λ calls. calls ++ piece_call stage bytes ∷ []) t.calls_are ∙ sym (map-append (piece_call stage) t.done (bytes ∷ []));
            split = t.split ∙ ap (λ list. t.done ++ list) (next.pieces_are ∙ ap (λ piece. piece ∷ pieces (drop (from + room) file.bytes)) (sym bytes_are))
                ∙ sym (append_assoc t.done (bytes ∷ []) (pieces (drop (from + room) file.bytes)));
          }

  pub takes_all : (old new : P) (from : ℕ) → TakesSoFar moves old new told path size stage from → size ≤ from
      → TakesAll moves old new told path size stage (Ok true)
  takes_all old new from so_far behind = record {
    calls = so_far.calls;
    moved = so_far.moved;
    so = so_far.answered;
    of_dump = so_far.of_dump;
    ends = λ tree is file at size_is.
        let t : Taken stage file.bytes from so_far.calls = so_far.taken tree is file at size_is in
        let long : length (drop from file.bytes) ≡ length file.bytes - from = length-drop from file.bytes in
        let bare : pieces (drop from file.bytes) ≡ [] = no_pieces (drop from file.bytes) (omega (arith, long, size_is, behind)) in (
          refl,
          t.calls_are ∙ ap (piece_calls stage) (sym (append-nil t.done) ∙ ap (λ list. t.done ++ list) (sym bare) ∙ sym t.split),
        );
  }

  -- it has gone
  pub takes_gone : (old new : P) (from room : ℕ) → TakesSoFar moves old new told path size stage from
      → ForSome told (λ tree. IsPieceRead tree path from room None) → TakesAll moves old new told path size stage (Ok false)
  takes_gone old new from room so_far read = record {
    calls = so_far.calls;
    moved = so_far.moved;
    so = so_far.answered;
    of_dump = so_far.of_dump;
    ends = λ tree is file at size_is.
        let clash : None ≡ Some (take room (drop from file.bytes)) = (read tree is).found file at in absurd (cc);
  }

  -- it is shorter than it was
  pub takes_short : (old new : P) (from room : ℕ) (bytes : List ℕ) → TakesSoFar moves old new told path size stage from → from < size
      → room ≡ min 65536 (size - from) → ForSome told (λ tree. IsPieceRead tree path from room (Some bytes)) → bytes ≡ []
      → TakesAll moves old new told path size stage (Ok true)
  takes_short old new from room bytes so_far before room_is read bare = record {
    calls = so_far.calls;
    moved = so_far.moved;
    so = so_far.answered;
    of_dump = so_far.of_dump;
    ends = λ tree is file at size_is.
        let next = next_piece file.bytes size from room size_is before room_is in
        let none_left : length (take room (drop from file.bytes)) ≡ 0 = ap length (sym (some_injects ((read tree is).found file at)) ∙ bare) in
        let some : 0 < length (take room (drop from file.bytes)) = next.some in absurd (omega (arith, none_left, some));
  }

  -- nothing more was read
  pub takes_unread : (old new : P) (from : ℕ) (fault : DumpRefusal) → TakesSoFar moves old new told path size stage from → IsNoRefusal fault
      → TakesAll moves old new told path size stage (Err fault)
  takes_unread old new from fault so_far unrefused = record {
    calls = so_far.calls;
    moved = so_far.moved;
    so = subst (λ (r : Option Refusal). AnsweredOr r so_far.calls) (sym unrefused) so_far.answered;
    of_dump = so_far.of_dump;
    ends = λ tree is file at size_is next.
        let t : Taken stage file.bytes from so_far.calls = so_far.taken tree is file at size_is in
        let rest : List (List ℕ) = pieces (drop from file.bytes) in
        subst (λ list. Begins (each_then (map (E.StagePiece stage) list) next) so_far.calls) (sym t.split)
        (subst (λ calls. Begins (each_then (map (E.StagePiece stage) (t.done ++ rest)) next) calls) (append-nil (piece_calls stage t.done) ∙ sym t.calls_are)
        (begins_some_pieces stage t.done rest next [] tt));
  }

  -- a piece was refused
  pub takes_refused : (old mid new : P) (from room : ℕ) (bytes : List ℕ) (fault : DumpRefusal) → TakesSoFar moves old mid told path size stage from
      → from < size → room ≡ min 65536 (size - from) → ForSome told (λ tree. IsPieceRead tree path from room (Some bytes))
      → IsCallFault moves mid new (E.StagePiece stage bytes) fault → TakesAll moves old new told path size stage (Err fault)
  takes_refused old mid new from room bytes (D.Refused refusal) so_far before room_is read refused = record {
    calls = so_far.calls ++ (E.StagePiece stage bytes, Err refusal) ∷ [];
    moved = joined old mid new so_far.calls ((E.StagePiece stage bytes, Err refusal) ∷ []) so_far.moved refused;
    so = AnsweredOr-behind (Some refusal) so_far.calls ((E.StagePiece stage bytes, Err refusal) ∷ []) so_far.answered (refl, refl);
    of_dump = AreOfDump-append so_far.calls ((E.StagePiece stage bytes, Err refusal) ∷ []) so_far.of_dump (tt, tt);
    ends = λ tree is file at size_is next. step tree is file at size_is next (so_far.taken tree is file at size_is);
  }
    where
      step : (tree : Tree) → told ≡ Some tree → (file : File) → node_at tree path ≡ Some (I.File file) → size ≡ length file.bytes → (next : Script)
          → Taken stage file.bytes from so_far.calls
          → Begins (each_then (map (E.StagePiece stage) (pieces file.bytes)) next) (so_far.calls ++ (E.StagePiece stage bytes, Err refusal) ∷ [])
      step tree is file at size_is next t =
          let ahead = next_piece file.bytes size from room size_is before room_is in
          let bytes_are : take room (drop from file.bytes) ≡ bytes = sym (some_injects ((read tree is).found file at)) in
          let rest : List (List ℕ) = pieces (drop (from + room) file.bytes) in
          let split : t.done ++ bytes ∷ rest ≡ pieces file.bytes =
          ap (λ list. t.done ++ list) (ap (λ piece. piece ∷ rest) (sym bytes_are) ∙ sym ahead.pieces_are) ∙ sym t.split in
          subst (λ list. Begins (each_then (map (E.StagePiece stage) list) next) (so_far.calls ++ (E.StagePiece stage bytes, Err refusal) ∷ [])) split
          (subst (λ calls. Begins (each_then (map (E.StagePiece stage) (t.done ++ bytes ∷ rest)) next) (calls ++ (E.StagePiece stage bytes, Err refusal) ∷ []))
          (sym t.calls_are)
          (begins_some_pieces stage t.done (bytes ∷ rest) next ((E.StagePiece stage bytes, Err refusal) ∷ []) (refl, tt)))
  takes_refused old mid new from room bytes (D.BadPath rule) so_far before room_is read refused = absurd refused
  takes_refused old mid new from room bytes D.BadTarget so_far before room_is read refused = absurd refused
  takes_refused old mid new from room bytes D.FileTooLarge so_far before room_is read refused = absurd refused
  takes_refused old mid new from room bytes D.Folder so_far before room_is read refused = absurd refused
  takes_refused old mid new from room bytes D.Memory so_far before room_is read refused = absurd refused

-- ---- the whole

-- what a folder says of a file
abbrev found_file_of : File → FoundFile
found_file_of file = record { attr = file.attr; group = file.group; size = length file.bytes }

module _ {P : Type 0} (moves : P → List Call → P → Type 0) (joined : (p q r : P) (xs ys : List Call) → moves p xs q → moves q ys r → moves p (xs ++ ys) r)
    (told : Option Tree) (dump : SessionName) (path : List ℕ) (file : FoundFile) (large : is_large_node (N.File file) ≡ true) where
  same_put : (f : File) (stage : ℕ) → file ≡ found_file_of f → found_put dump path file stage ≡ staged_put dump path f stage
  same_put f stage same = ap (λ (x : FoundFile). found_put dump path x stage) same

  large_file : (f : File) → file ≡ found_file_of f → is_large (I.File f) ≡ true
  large_file f same = ap (λ (x : FoundFile). is_large_node (N.File x)) (sym same) ∙ large

  -- what begins the script of a stage begins the script of the file
  begins_large : (item : Item) (next : Script) (calls : List Call) → N.File file ≡ found_of item
      → ((f : File) → item ≡ I.File f → file ≡ found_file_of f → Begins (stage_script dump path f next) calls)
      → Begins (item_script dump path item next) calls
  begins_large (I.File f) next calls found begins =
      let same : file ≡ found_file_of f = found_file file (found_file_of f) found in
      subst (λ b. Begins (file_script b dump path f next) calls) (sym (large_file f same)) (begins f refl same)
  begins_large (I.Dir dir) next calls found begins = absurd (cc)
  begins_large (I.Link link) next calls found begins = absurd (cc)

  is_put_large : (item : Item) (stage : ℕ) (calls : List Call) → N.File file ≡ found_of item
      → ((f : File) → item ≡ I.File f → file ≡ found_file_of f → calls ≡ stage_calls dump path f stage) → IsPut dump (path, item) calls
  is_put_large (I.File f) stage calls found are =
      let same : file ≡ found_file_of f = found_file file (found_file_of f) found in
      (stage, are f refl same ∙ ap (λ b. file_calls b dump path f stage) (sym (large_file f same)))
  is_put_large (I.Dir dir) stage calls found are = absurd (cc)
  is_put_large (I.Link link) stage calls found are = absurd (cc)

  -- no stage was opened
  pub large_unopened : (old new : P) (fault : DumpRefusal) → IsCallFault moves old new (E.StageOpen dump) fault
      → PutsEntry {A = Bool} moves old new told dump path (N.File file) (Err fault)
  large_unopened old new (D.Refused refusal) refused = record {
    calls = (E.StageOpen dump, Err refusal) ∷ [];
    moved = refused;
    so = (refl, refl);
    of_dump = (tt, tt);
    ends = λ tree is item at found next. begins_large item next ((E.StageOpen dump, Err refusal) ∷ []) found (λ f item_is same. (refl, tt));
  }
  large_unopened old new (D.BadPath rule) refused = absurd refused
  large_unopened old new D.BadTarget refused = absurd refused
  large_unopened old new D.FileTooLarge refused = absurd refused
  large_unopened old new D.Folder refused = absurd refused
  large_unopened old new D.Memory refused = absurd refused

  module _ (old opened taken : P) (stage : ℕ) (open_moved : moves old ((E.StageOpen dump, Ok (A.Stage stage)) ∷ []) opened) where
    -- not all pieces were taken
    pub large_untaken : (fault : DumpRefusal) → TakesAll moves opened taken told path file.size stage (Err fault)
        → PutsEntry {A = Bool} moves old taken told dump path (N.File file) (Err fault)
    large_untaken fault takes = record {
      calls = (E.StageOpen dump, Ok (A.Stage stage)) ∷ takes.calls;
      moved = joined old opened taken ((E.StageOpen dump, Ok (A.Stage stage)) ∷ []) takes.calls open_moved takes.moved;
      so = AnsweredOr-behind (refusal_of fault) ((E.StageOpen dump, Ok (A.Stage stage)) ∷ []) takes.calls tt takes.so;
      of_dump = (tt, takes.of_dump);
      ends = λ tree is item at found next.
          begins_large item next ((E.StageOpen dump, Ok (A.Stage stage)) ∷ takes.calls) found
          (λ f item_is same. (
            refl,
            takes.ends tree is f (at ∙ ap Some item_is) (ap (λ (x : FoundFile). x.size) same) (each_then (staged_put dump path f stage ∷ []) next),
          ));
    }

    -- the calls of a stage, and one more
    abbrev all_calls : List Call → Call → List Call
    all_calls takes call = (E.StageOpen dump, Ok (A.Stage stage)) ∷ (takes ++ call ∷ [])

    all_moved : (new : P) (whole : Bool) (takes : TakesAll moves opened taken told path file.size stage (Ok whole)) (call : Call)
        → moves taken (call ∷ []) new → moves old (all_calls takes.calls call) new
    all_moved new whole takes call moved =
        joined old opened new ((E.StageOpen dump, Ok (A.Stage stage)) ∷ []) (takes.calls ++ call ∷ []) open_moved
        (joined opened taken new takes.calls (call ∷ []) takes.moved moved)

    -- the file had gone: where it is told, that can't be
    not_gone : (tree : Tree) (item : Item) → told ≡ Some tree → node_at tree path ≡ Some item → N.File file ≡ found_of item
        → TakesAll moves opened taken told path file.size stage (Ok false) → ⊥
    not_gone tree (I.File f) is at found takes =
        let same : file ≡ found_file_of f = found_file file (found_file_of f) found in
        let whole : false ≡ true = (takes.ends tree is f at (ap (λ (x : FoundFile). x.size) same)).0 in true≢false (sym whole)
    not_gone tree (I.Dir dir) is at found takes = absurd (cc)
    not_gone tree (I.Link link) is at found takes = absurd (cc)

    pub large_dropped : (new : P) → TakesAll moves opened taken told path file.size stage (Ok false)
        → moves taken ((E.StageDrop stage, Ok A.Done) ∷ []) new → PutsEntry moves old new told dump path (N.File file) (Ok false)
    large_dropped new takes moved = record {
      calls = all_calls takes.calls (E.StageDrop stage, Ok A.Done);
      moved = all_moved new false takes (E.StageDrop stage, Ok A.Done) moved;
      so = AreAnswered-append takes.calls ((E.StageDrop stage, Ok A.Done) ∷ []) takes.so tt;
      of_dump = (tt, AreOfDump-append takes.calls ((E.StageDrop stage, Ok A.Done) ∷ []) takes.of_dump (tt, tt));
      ends = λ tree is item at found. absurd (not_gone tree item is at found takes);
    }

    pub large_undropped : (new : P) (fault : DumpRefusal) → TakesAll moves opened taken told path file.size stage (Ok false)
        → IsCallFault moves taken new (E.StageDrop stage) fault → PutsEntry {A = Bool} moves old new told dump path (N.File file) (Err fault)
    large_undropped new (D.Refused refusal) takes refused = record {
      calls = all_calls takes.calls (E.StageDrop stage, Err refusal);
      moved = all_moved new false takes (E.StageDrop stage, Err refusal) refused;
      so = AnsweredOr-behind (Some refusal) takes.calls ((E.StageDrop stage, Err refusal) ∷ []) takes.so (refl, refl);
      of_dump = (tt, AreOfDump-append takes.calls ((E.StageDrop stage, Err refusal) ∷ []) takes.of_dump (tt, tt));
      ends = λ tree is item at found next. absurd (not_gone tree item is at found takes);
    }
    large_undropped new (D.BadPath rule) takes refused = absurd refused
    large_undropped new D.BadTarget takes refused = absurd refused
    large_undropped new D.FileTooLarge takes refused = absurd refused
    large_undropped new D.Folder takes refused = absurd refused
    large_undropped new D.Memory takes refused = absurd refused

    pub large_put : (new : P) → TakesAll moves opened taken told path file.size stage (Ok true)
        → moves taken ((found_put dump path file stage, Ok A.Done) ∷ []) new → PutsEntry moves old new told dump path (N.File file) (Ok true)
    large_put new takes moved = record {
      calls = all_calls takes.calls (found_put dump path file stage, Ok A.Done);
      moved = all_moved new true takes (found_put dump path file stage, Ok A.Done) moved;
      so = AreAnswered-append takes.calls ((found_put dump path file stage, Ok A.Done) ∷ []) takes.so tt;
      of_dump = (tt, AreOfDump-append takes.calls ((found_put dump path file stage, Ok A.Done) ∷ []) takes.of_dump (tt, tt));
      ends = λ tree is item at found.
          is_put_large item stage (all_calls takes.calls (found_put dump path file stage, Ok A.Done)) found
          (λ f item_is same.
          let took = takes.ends tree is f (at ∙ ap Some item_is) (ap (λ (x : FoundFile). x.size) same) in
          λ i. all_calls (took.1 i) (same_put f stage same i, Ok A.Done));
    }

    pub large_unput : (new : P) (fault : DumpRefusal) → TakesAll moves opened taken told path file.size stage (Ok true)
        → IsCallFault moves taken new (found_put dump path file stage) fault → PutsEntry {A = Bool} moves old new told dump path (N.File file) (Err fault)
    large_unput new (D.Refused refusal) takes refused = record {
      calls = all_calls takes.calls (found_put dump path file stage, Err refusal);
      moved = all_moved new true takes (found_put dump path file stage, Err refusal) refused;
      so = AnsweredOr-behind (Some refusal) takes.calls ((found_put dump path file stage, Err refusal) ∷ []) takes.so (refl, refl);
      of_dump = (tt, AreOfDump-append takes.calls ((found_put dump path file stage, Err refusal) ∷ []) takes.of_dump (tt, tt));
      ends = λ tree is item at found next.
          begins_large item next (all_calls takes.calls (found_put dump path file stage, Err refusal)) found
          (λ f item_is same.
          let took = takes.ends tree is f (at ∙ ap Some item_is) (ap (λ (x : FoundFile). x.size) same) in
          subst (λ calls. Begins (stage_script dump path f next) calls) (λ i. all_calls (sym took.1 i) (sym (same_put f stage same) i, Err refusal))
          (begins_stage dump path f stage next ((staged_put dump path f stage, Err refusal) ∷ []) (refl, tt)));
    }
    large_unput new (D.BadPath rule) takes refused = absurd refused
    large_unput new D.BadTarget takes refused = absurd refused
    large_unput new D.FileTooLarge takes refused = absurd refused
    large_unput new D.Folder takes refused = absurd refused
    large_unput new D.Memory takes refused = absurd refused
