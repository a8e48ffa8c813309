-- What the turns of a restore lead to.
--     refused_turn, failed_turn      a frame that didn't come, or wasn't made
--     begun, goes_on, ends      frames are made so far, one more, and all
--     turn_stops, fault_stops, bound_stops      it ended early
--     closed, unclosed, unopened, unmade, uncalled      behind the calls of the restore itself
--     made_here, stopped_here, seen_empty      the folder was looked at
use Rattle.std.specs.Prelude.{◌≡◌, ℕ, true, false, List, [], ◌∷◌, ◌++◌, map, Option, Some, None, is_some, Result, Ok, Err, IsErrOf, IfOk, IfErr}
use Rattle.std.specs.Option.{ForSome}
use Rattle.std.proofs.Common.{refl, sym, ap, ◌∙◌, subst, append_assoc, append-nil}
use Rattle.std.proofs.lemmas.Bool.{true≢false}
use Rattle.fault_counts.specs.Counts.{Counted}
use Rattle.attr_records.specs.Items.{Tree, is_dir}
use Rattle.attr_records.specs.Trees.{IsTree}
use Rattle.tree_frames.specs.declared.nodes.Frame.{Frame}
use Rattle.tree_frames.specs.declared.nodes.Frame.TheVariants.{Deleted, Entry, Piece, End}
use Rattle.tree_frames.specs.Frames.{frames}
use Rattle.folder_trait.specs.declared.folder.FolderFault.{FolderFault}
use Rattle.folder_trait.specs.declared.folder.FolderFault.TheVariants as F
use Rattle.folder_trait.specs.Folders.{is_bare, IsEmptiness}
use Rattle.receipts.specs.declared.session.SessionName.{SessionName}
use Rattle.office_model.specs.declared.event.Event.TheVariants as E
use Rattle.office_model.specs.declared.answer.Answer.TheVariants as A
use Rattle.office_model.specs.declared.refusal.Refusal.{Refusal}
use Rattle.office_model.specs.Step.{Call}
use Rattle.call_scripts.specs.Scripts.{Begins, AreAnswered, EndRefused}
use Rattle.call_scripts.specs.ScriptLaws.{follows_from}
use Rattle.folder_laws.specs.Calls.{next_call, ArePlain}
use Rattle.folder_making.specs.Made.{Made, nothing_made, taken, made_of}
use Rattle.folder_making.specs.MadeLaws.{made_of_frames, first_rows, made_of_more}
use Rattle.folder_making.specs.Holding.{Holds}
use Rattle.folder_making.specs.declared.making.Making.{Making}
use Rattle.folder_restore.specs.declared.refusals.RestoreRefusal.{RestoreRefusal}
use Rattle.folder_restore.specs.declared.refusals.RestoreRefusal.TheVariants as R
use Rattle.folder_restore.specs.Faults.{of_fault}
use Rattle.folder_restore.specs.RestoreScript.{read_script, restore_script}
use Rattle.folder_restore.specs.Restores.{Restored, IsCutOff, StopsSo, Stopped, IsUncalled}
use Rattle.folder_restore.specs.Turns.{end_of, Turned, ReadStops, TurnStops, MakesSoFar, MakesAll}

-- ---- the script of an open restore

-- a script goes on behind frames as it was
read_behind : (restore : SessionName) (list : List Frame) (more : List Call) → ArePlain list
    → read_script restore (map (next_call restore) list ++ more) ≡ read_script restore more
read_behind restore [] more h = refl
read_behind restore (Deleted path ∷ list) more h = read_behind restore list more h
read_behind restore (Entry path node ∷ list) more h = read_behind restore list more h
read_behind restore (Piece bytes ∷ list) more h = read_behind restore list more h
read_behind restore (End count ∷ list) more h = absurd h

begins_behind : (restore : SessionName) (list : List Frame) (more : List Call) → ArePlain list → Begins (read_script restore) more
    → Begins (read_script restore) (map (next_call restore) list ++ more)
begins_behind restore [] more h begins = begins
begins_behind restore (Deleted path ∷ list) more h begins = (refl, begins_behind restore list more h begins)
begins_behind restore (Entry path node ∷ list) more h begins = (refl, begins_behind restore list more h begins)
begins_behind restore (Piece bytes ∷ list) more h begins = (refl, begins_behind restore list more h begins)
begins_behind restore (End count ∷ list) more h begins = absurd h

answered_behind : (restore : SessionName) (list : List Frame) (more : List Call) → AreAnswered more
    → AreAnswered (map (next_call restore) list ++ more)
answered_behind restore [] more h = h
answered_behind restore (frame ∷ list) more h = answered_behind restore list more h

refused_behind : (restore : SessionName) (list : List Frame) (more : List Call) (refusal : Refusal) → EndRefused refusal more
    → EndRefused refusal (map (next_call restore) list ++ more)
refused_behind restore [] more refusal h = h
refused_behind restore (frame ∷ list) more refusal h = refused_behind restore list more refusal h

cut_behind : (restore : SessionName) (list : List Frame) (more : List Call) → ArePlain list → IsCutOff (read_script restore) more
    → IsCutOff (read_script restore) (map (next_call restore) list ++ more)
cut_behind restore list more h c = record {
  begins = begins_behind restore list more h c.begins;
  answered = answered_behind restore list more c.answered;
  left = ap is_some (read_behind restore list more h) ∙ c.left;
}

-- what ends an open restore early ends it behind frames, too
stops_behind : (restore : SessionName) (list : List Frame) (refusal : RestoreRefusal) (more : List Call) → ArePlain list
    → ReadStops restore refusal more → ReadStops restore refusal (map (next_call restore) list ++ more)
stops_behind restore list (R.Refused refusal) more h s = (
  begins_behind restore list more h s.0,
  refused_behind restore list more refusal s.1,
  read_behind restore list more h ∙ s.2,
)
stops_behind restore list R.NotEmpty more h s = s
stops_behind restore list R.Folder more h s = cut_behind restore list more h s
stops_behind restore list R.Memory more h s = cut_behind restore list more h s

-- a fault of the folder cuts it off
fault_cuts : (restore : SessionName) (fault : FolderFault) (calls : List Call) → IsCutOff (read_script restore) calls
    → ReadStops restore (of_fault fault) calls
fault_cuts restore F.Failed calls h = h
fault_cuts restore F.Memory calls h = h

-- behind one frame it goes on
frame_cut : (restore : SessionName) (frame : Frame) → IsCutOff (read_script restore) (next_call restore frame ∷ [])
frame_cut restore (Deleted path) = record { begins = (refl, tt); answered = tt; left = refl }
frame_cut restore (Entry path node) = record { begins = (refl, tt); answered = tt; left = refl }
frame_cut restore (Piece bytes) = record { begins = (refl, tt); answered = tt; left = refl }
frame_cut restore (End count) = record { begins = (refl, tt); answered = tt; left = refl }

none_cut : (restore : SessionName) → IsCutOff (read_script restore) []
none_cut restore = record { begins = tt; answered = tt; left = refl }

-- the next frame was refused
pub refused_turn : {P : Type 0} (moves : P → List Call → P → Type 0) (old new : P) (restore : SessionName) (refusal : Refusal)
    → moves old ((E.ReadNext restore, Err refusal) ∷ []) new → TurnStops moves old new restore (R.Refused refusal)
refused_turn moves old new restore refusal m = record {
  calls = (E.ReadNext restore, Err refusal) ∷ [];
  moved = m;
  stops = ((refl, tt), (refl, refl), refl);
}

-- it came, and wasn't made
pub failed_turn : {P : Type 0} (moves : P → List Call → P → Type 0) (old new : P) (restore : SessionName) (frame : Frame) (fault : FolderFault)
    → moves old (next_call restore frame ∷ []) new → TurnStops moves old new restore (of_fault fault)
failed_turn moves old new restore frame fault m = record {
  calls = next_call restore frame ∷ [];
  moved = m;
  stops = fault_cuts restore fault (next_call restore frame ∷ []) (frame_cut restore frame);
}

-- a fault of the folder is counted, and nothing else is
pub fault_counted : {A B : Type 0} (before now : ℕ) (fault : FolderFault) (named : RestoreRefusal) → named ≡ of_fault fault
    → Counted before now (IsErrOf {T = A} (Err fault) F.Failed)
    → Counted before now (IsErrOf {T = B} (Err named) R.Folder)
fault_counted before now F.Failed named is h = record {
  later = h.later;
  rose = λ e. h.rose refl;
  stays = λ otherwise. absurd (otherwise (ap Err is));
}
fault_counted before now F.Memory named is h = record {
  later = h.later;
  rose = λ e. let clash : ⊥ = cc in absurd clash;
  stays = λ otherwise. h.stays (λ e. let clash : ⊥ = cc in clash);
}

-- behind a call that didn't fail
pub counted_on : {failed : Type 0} (before mid now : ℕ) → mid ≡ before → Counted mid now failed → Counted before now failed
counted_on {failed} before mid now same h = subst (λ count. Counted count now failed) same h

-- ---- turn by turn

plain_more : (list : List Frame) (frame : Frame) → ArePlain list → None ≡ end_of frame → ArePlain (list ++ frame ∷ [])
plain_more [] (Deleted path) h e = tt
plain_more [] (Entry path node) h e = tt
plain_more [] (Piece bytes) h e = tt
plain_more [] (End count) h e = let clash : ⊥ = cc in clash
plain_more (Deleted path ∷ list) frame h e = plain_more list frame h e
plain_more (Entry path node ∷ list) frame h e = plain_more list frame h e
plain_more (Piece bytes ∷ list) frame h e = plain_more list frame h e
plain_more (End count ∷ list) frame h e = absurd h

is_end : (frame : Frame) (count : ℕ) → Some count ≡ end_of frame → frame ≡ End count
is_end (Deleted path) count e = let clash : ⊥ = cc in absurd clash
is_end (Entry path node) count e = let clash : ⊥ = cc in absurd clash
is_end (Piece bytes) count e = let clash : ⊥ = cc in absurd clash
is_end (End other) count e = let same : count ≡ other = cc in ap End (sym same)

asked_more : (restore : SessionName) (xs ys : List Frame) → map (next_call restore) xs ++ map (next_call restore) ys ≡ map (next_call restore) (xs ++ ys)
asked_more restore [] ys = refl
asked_more restore (x ∷ xs) ys = ap (λ calls. next_call restore x ∷ calls) (asked_more restore xs ys)

module _ {P : Type 0} (moves : P → List Call → P → Type 0)
    (joined : (p q r : P) (xs ys : List Call) → moves p xs q → moves q ys r → moves p (xs ++ ys) r) (none : (p : P) → moves p [] p) where
  -- nothing came so far
  pub begun : (port : P) (restore : SessionName) (told : Option Tree) (making : Making)
      → ((tree : Tree) (seen : Option Tree) → IsTree is_dir tree → seen ≡ Some [] → Holds nothing_made tree seen making)
      → MakesSoFar moves port port restore told told making
  begun port restore told making first = record {
    list = [];
    plain = tt;
    moved = none port;
    holds = λ tree rest is_tree are empty. (tree, refl, first tree told is_tree empty);
  }

  module _ (old mid new : P) (restore : SessionName) (told told1 told2 : Option Tree) (making making' : Making)
      (m : MakesSoFar moves old mid restore told told1 making) where
    came : (end : Option ℕ) (t : Turned moves mid new restore told1 told2 making making' end)
        → moves old (map (next_call restore) (m.list ++ t.frame ∷ [])) new
    came end t =
        subst (λ calls. moves old calls new) (asked_more restore m.list (t.frame ∷ []))
        (joined old mid new (map (next_call restore) m.list) (next_call restore t.frame ∷ []) m.moved t.moved)

    -- what the folder holds behind one more frame
    held : (end : Option ℕ) (t : Turned moves mid new restore told1 told2 making making' end) (tree : Tree) (rest : List Frame) → IsTree is_dir tree
        → frames tree ≡ (m.list ++ t.frame ∷ []) ++ rest → told ≡ Some []
        → (left : Tree) × (tree ≡ (made_of (m.list ++ t.frame ∷ [])).rows ++ left) × Holds (made_of (m.list ++ t.frame ∷ [])) left told2 making'
    held end t tree rest is_tree are empty =
        let was = m.holds tree (t.frame ∷ rest) is_tree (are ∙ append_assoc m.list (t.frame ∷ []) rest) empty in
        let next = first_rows tree (m.list ++ t.frame ∷ []) rest are in
        let more_is : made_of (m.list ++ t.frame ∷ []) ≡ taken (made_of m.list) t.frame = made_of_more m.list t.frame in
        let split : (made_of m.list).rows ++ was.0 ≡ (taken (made_of m.list) t.frame).rows ++ next.0 =
        sym was.1 ∙ next.1 ∙ ap (λ (made : Made). made.rows ++ next.0) more_is in
        (next.0, next.1, subst (λ (made : Made). Holds made next.0 told2 making') (sym more_is) (t.makes (made_of m.list) was.0 next.0 was.2 split))

    -- one more frame was made
    pub goes_on : Turned moves mid new restore told1 told2 making making' None → MakesSoFar moves old new restore told told2 making'
    goes_on t = record {
      list = m.list ++ t.frame ∷ [];
      plain = plain_more m.list t.frame m.plain t.end_is;
      moved = came None t;
      holds = λ tree rest is_tree are empty. held None t tree rest is_tree are empty;
    }

    -- the end came, and the directories were finished
    pub ends : (count : ℕ) (told3 : Option Tree) → Turned moves mid new restore told1 told2 making making' (Some count)
        → ((made : Made) → Holds made [] told2 making' → told3 ≡ Some made.rows) → MakesAll moves old new restore told told3 count
    ends count told3 t finished = record {
      list = m.list;
      plain = m.plain;
      moved = subst (λ (frame : Frame). moves old (map (next_call restore) (m.list ++ frame ∷ [])) new) (is_end t.frame count t.end_is) (came (Some count) t);
      whole = λ tree is_tree are empty. told_whole tree is_tree are empty;
    }
      where
        told_whole : (tree : Tree) → IsTree is_dir tree → m.list ++ End count ∷ [] ≡ frames tree → told ≡ Some [] → told3 ≡ Some tree
        told_whole tree is_tree are empty =
            let same : m.list ++ t.frame ∷ [] ≡ frames tree =
            ap (λ (frame : Frame). m.list ++ frame ∷ []) (is_end t.frame count t.end_is) ∙ are in
            let was = m.holds tree (t.frame ∷ []) is_tree (sym same) empty in
            let whole : taken (made_of m.list) t.frame ≡ record { rows = tree; file = None } =
            sym (made_of_more m.list t.frame) ∙ ap made_of same ∙ made_of_frames tree in
            let rows : (taken (made_of m.list) t.frame).rows ≡ tree = ap (λ (made : Made). made.rows) whole in
            let split : (made_of m.list).rows ++ was.0 ≡ (taken (made_of m.list) t.frame).rows ++ [] =
            sym was.1 ∙ sym rows ∙ sym (append-nil (taken (made_of m.list) t.frame).rows) in
            finished (taken (made_of m.list) t.frame) (t.makes (made_of m.list) was.0 [] was.2 split) ∙ ap Some rows

    -- the directories weren't finished
    pub fault_stops : (count : ℕ) (fault : FolderFault) → Turned moves mid new restore told1 told2 making making' (Some count)
        → TurnStops moves old new restore (of_fault fault)
    fault_stops count fault t = record {
      calls = map (next_call restore) m.list ++ next_call restore t.frame ∷ [];
      moved = joined old mid new (map (next_call restore) m.list) (next_call restore t.frame ∷ []) m.moved t.moved;
      stops = fault_cuts restore fault (map (next_call restore) m.list ++ next_call restore t.frame ∷ [])
          (cut_behind restore m.list (next_call restore t.frame ∷ []) m.plain (frame_cut restore t.frame));
    }

    -- the next frame wasn't made
    pub turn_stops : (refusal : RestoreRefusal) → TurnStops moves mid new restore refusal → TurnStops moves old new restore refusal
    turn_stops refusal t = record {
      calls = map (next_call restore) m.list ++ t.calls;
      moved = joined old mid new (map (next_call restore) m.list) t.calls m.moved t.moved;
      stops = stops_behind restore m.list refusal t.calls m.plain t.stops;
    }

  -- more frames came than can be counted
  pub bound_stops : (old mid : P) (restore : SessionName) (told told1 : Option Tree) (making : Making)
      → MakesSoFar moves old mid restore told told1 making → TurnStops moves old mid restore R.Memory
  bound_stops old mid restore told told1 making m = record {
    calls = map (next_call restore) m.list ++ [];
    moved = joined old mid mid (map (next_call restore) m.list) [] m.moved (none mid);
    stops = cut_behind restore m.list [] m.plain (none_cut restore);
  }

  -- ---- the calls of the restore itself

  module _ (old opened mid new : P) (host : List ℕ) (number : ℕ) (restore : SessionName)
      (o : moves old ((E.OpenRead host number None, Ok (A.Restore restore)) ∷ []) opened) where
    abbrev open_call : Call
    open_call = (E.OpenRead host number None, Ok (A.Restore restore))

    -- all was made, and it was closed
    pub closed : (told told' : Option Tree) (count : ℕ) → ForSome told (λ all. IsEmptiness all true) → MakesAll moves opened mid restore told told' count
        → moves mid ((E.CloseRead restore, Ok A.Done) ∷ []) new → Restored moves old new told told' host number count
    closed told told' count empty m c = record {
      calls = open_call ∷ (map (next_call restore) m.list ++ ending);
      moved = joined old opened new (open_call ∷ []) (map (next_call restore) m.list ++ ending) o
          (subst (λ calls. moves opened calls new) (calls_are m.list)
          (joined opened mid new (map (next_call restore) (m.list ++ End count ∷ [])) (close ∷ []) m.moved c));
      follows = follows_from (restore_script host number) (open_call ∷ (map (next_call restore) m.list ++ ending))
          (refl, begins_behind restore m.list ending m.plain (refl, (refl, tt))) (read_behind restore m.list ending m.plain);
      answered = answered_behind restore m.list ending tt;
      restore = restore;
      list = m.list;
      plain = m.plain;
      calls_are = refl;
      whole = λ tree is_tree are telling. m.whole tree is_tree are (nothing_told told telling empty);
    }
      where
        close : Call
        close = (E.CloseRead restore, Ok A.Done)

        ending : List Call
        ending = next_call restore (End count) ∷ close ∷ []

        calls_are : (list : List Frame) → map (next_call restore) (list ++ End count ∷ []) ++ close ∷ [] ≡ map (next_call restore) list ++ ending
        calls_are [] = refl
        calls_are (frame ∷ list) = ap (λ calls. next_call restore frame ∷ calls) (calls_are list)

        bare : (all : Tree) → true ≡ is_bare all → all ≡ []
        bare [] e = refl
        bare (row ∷ all) e = absurd (true≢false e)

        nothing_told : (told : Option Tree) → is_some told ≡ true → ForSome told (λ all. IsEmptiness all true) → told ≡ Some []
        nothing_told None telling empty = absurd (true≢false (sym telling))
        nothing_told (Some all) telling empty = ap Some (bare all (empty all refl))

    -- all was made, and the close was refused
    pub unclosed : (told told' : Option Tree) (count : ℕ) (refusal : Refusal) → MakesAll moves opened mid restore told told' count
        → moves mid ((E.CloseRead restore, Err refusal) ∷ []) new → Stopped moves old new host number (R.Refused refusal)
    unclosed told told' count refusal m c = record {
      calls = open_call ∷ (map (next_call restore) m.list ++ ending);
      moved = joined old opened new (open_call ∷ []) (map (next_call restore) m.list ++ ending) o
          (subst (λ calls. moves opened calls new) (calls_are m.list)
          (joined opened mid new (map (next_call restore) (m.list ++ End count ∷ [])) (close ∷ []) m.moved c));
      stops = (
        follows_from (restore_script host number) (open_call ∷ (map (next_call restore) m.list ++ ending))
            (refl, begins_behind restore m.list ending m.plain (refl, (refl, tt))) (read_behind restore m.list ending m.plain),
        refused_behind restore m.list ending refusal (refl, refl),
      );
    }
      where
        close : Call
        close = (E.CloseRead restore, Err refusal)

        ending : List Call
        ending = next_call restore (End count) ∷ close ∷ []

        calls_are : (list : List Frame) → map (next_call restore) (list ++ End count ∷ []) ++ close ∷ [] ≡ map (next_call restore) list ++ ending
        calls_are [] = refl
        calls_are (frame ∷ list) = ap (λ calls. next_call restore frame ∷ calls) (calls_are list)

    -- an open restore ended early
    pub unmade : (refusal : RestoreRefusal) → TurnStops moves opened new restore refusal → Stopped moves old new host number refusal
    unmade refusal t = record {
      calls = open_call ∷ t.calls;
      moved = joined old opened new (open_call ∷ []) t.calls o t.moved;
      stops = step refusal t.stops;
    }
      where
        cut : IsCutOff (read_script restore) t.calls → IsCutOff (restore_script host number) (open_call ∷ t.calls)
        cut c = record { begins = (refl, c.begins); answered = c.answered; left = c.left }

        step : (refusal : RestoreRefusal) → ReadStops restore refusal t.calls → StopsSo host number refusal (open_call ∷ t.calls)
        step (R.Refused named) s = (follows_from (restore_script host number) (open_call ∷ t.calls) (refl, s.0) s.2, s.1)
        step R.NotEmpty s = absurd s
        step R.Folder s = cut s
        step R.Memory s = cut s

  -- it wasn't opened
  pub unopened : (old new : P) (host : List ℕ) (number : ℕ) (refusal : Refusal) → moves old ((E.OpenRead host number None, Err refusal) ∷ []) new
      → Stopped moves old new host number (R.Refused refusal)
  unopened old new host number refusal o = record {
    calls = (E.OpenRead host number None, Err refusal) ∷ [];
    moved = o;
    stops = ((refl, refl), (refl, refl));
  }

  -- nothing was called
  pub uncalled : (old : P) (host : List ℕ) (number : ℕ) (refusal : RestoreRefusal) → StopsSo host number refusal []
      → Stopped moves old old host number refusal
  uncalled old host number refusal s = record { calls = []; moved = none old; stops = s }

-- before the first call the script is cut off
pub all_left : (host : List ℕ) (number : ℕ) (fault : FolderFault) → StopsSo host number (of_fault fault) []
all_left host number F.Failed = record { begins = tt; answered = tt; left = refl }
all_left host number F.Memory = record { begins = tt; answered = tt; left = refl }

-- ---- the folder was looked at

-- a fault of it comes before the first call
pub fault_uncalled : (fault : FolderFault) (named : RestoreRefusal) → named ≡ of_fault fault → IsUncalled (Err named)
fault_uncalled F.Failed named is = subst (λ (refusal : RestoreRefusal). IsUncalled (Err refusal)) (sym is) tt
fault_uncalled F.Memory named is = subst (λ (refusal : RestoreRefusal). IsUncalled (Err refusal)) (sym is) tt

-- and doesn't say that something lies in it
pub fault_unseen : {A : Type 0} (fault : FolderFault) (named : RestoreRefusal) → named ≡ of_fault fault → IsErrOf {T = A} (Err named) R.NotEmpty → ⊥
fault_unseen F.Failed named is e = let clash : ⊥ = cc in clash
fault_unseen F.Memory named is e = let clash : ⊥ = cc in clash

pub made_here : {P : Type 0} (moves : P → List Call → P → Type 0) (old new : P) (seen told told' : Option Tree) (copied host : List ℕ) (number : ℕ)
    (result : Result ℕ RestoreRefusal) → seen ≡ told → copied ≡ host → IfOk result (λ count. Restored moves old new seen told' copied number count)
    → IfOk result (λ count. Restored moves old new told told' host number count)
made_here moves old new seen told told' copied host number result same is h =
    subst (λ t. IfOk result (λ count. Restored moves old new t told' host number count)) same
    (subst (λ name. IfOk result (λ count. Restored moves old new seen told' name number count)) is h)

pub stopped_here : {P : Type 0} (moves : P → List Call → P → Type 0) (old new : P) (copied host : List ℕ) (number : ℕ) (result : Result ℕ RestoreRefusal)
    → copied ≡ host → IfErr result (λ refusal. Stopped moves old new copied number refusal)
    → IfErr result (λ refusal. Stopped moves old new host number refusal)
stopped_here moves old new copied host number result is h = subst (λ name. IfErr result (λ refusal. Stopped moves old new name number refusal)) is h

-- nothing lies in it
pub seen_empty : (told : Option Tree) → ForSome told (λ all. IsEmptiness all true) → (all : Tree) → told ≡ Some all → IsEmptiness all false → ⊥
seen_empty told found all is other = true≢false (found all is ∙ sym other)
