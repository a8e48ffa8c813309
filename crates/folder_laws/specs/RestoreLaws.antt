-- In each legal history of its calls a restore gives the frames of the backup's tree.
use Rattle.std.specs.Prelude.{◌≡◌, ℕ, ◌+◌, ◌-◌, min, List, [], ◌∷◌, ◌++◌, length, map, Option, Some, None, Ok, unwrap_or, slice_get, slice_set, nat_le}
use Rattle.std.specs.List.{flat_map}
use Rattle.std.proofs.Common.{refl, sym, ap, ◌∙◌, subst, arith, append_assoc, length-append}
use Rattle.std.proofs.lemmas.Option.{slice_get_within}
use Rattle.attr_records.specs.declared.nodes.Item.{Item}
use Rattle.attr_records.specs.Items.{Tree}
use Rattle.receipts.specs.declared.session.SessionName.{SessionName}
use Rattle.tree_frames.specs.declared.nodes.Frame.{Frame}
use Rattle.tree_frames.specs.declared.nodes.Frame.TheVariants.{Deleted, Entry, Piece, End}
use Rattle.office_model.specs.declared.event.Event.TheVariants as E
use Rattle.office_model.specs.declared.answer.Answer.TheVariants as A
use Rattle.receipts.specs.Session.{is_same_session}
use Rattle.office_model.specs.PlacesLaws.{slice_get-set_same, position-found}
use Rattle.office_model.specs.Office.{Office, Backup, Restore, Names, IsSound, last_sequence, with_restores, numbered}
use Rattle.tree_frames.specs.Frames.{frames, entries_of, frames_since, node_of, bytes_of, pieces}
use Rattle.office_model.specs.Parts.{At, restore_at, backup_of}
use Rattle.office_model.specs.History.{Leads}
use Rattle.office_model.specs.Step.{Call, State, Running}
use Rattle.office_model.specs.events.OpenDump.{next_session}
use Rattle.office_model.specs.events.OpenRead as OpenReadEvent
use Rattle.office_model.specs.events.ReadNext as ReadNextEvent
use Rattle.office_model.specs.laws.Judging.{bound, passed, at_is}
use Rattle.office_model.specs.laws.Lookups.{same_session}
use Rattle.folder_laws.specs.Calls.{next_call, restore_calls, ArePlain}
use Rattle.folder_laws.specs.OfficeLaws.{at_end, after_of, answer_of, some_is}
use Rattle.call_scripts.specs.FirstCalls.{answered}

-- a restore without a base is open: its name, its tree, and how many frames were given
pub record HasRestore (office : Office) (session : SessionName) (tree : Tree) (position : ℕ) : Type 0 where
  pub index : ℕ
  pub restore : Restore
  pub is_restore : slice_get office.restores index ≡ Some restore
  pub name_is : restore.name ≡ session
  pub tree_is : restore.tree ≡ tree
  pub base_is : restore.base ≡ None
  pub position_is : restore.position ≡ position

restore_is : (a b : SessionName) → A.Restore a ≡ A.Restore b → a ≡ b
restore_is a b e = cc

frame_is : (a b : Frame) → A.Next a ≡ A.Next b → a ≡ b
frame_is a b e = cc

pub opened_restore : (office : Office) (name : List ℕ) (number : ℕ) (session : SessionName) (after : Office)
    → OpenReadEvent.carried name number None office ≡ Ok (record { answer = A.Restore session; after = after })
    → (backup : Backup) × (backup_of office.hosts name number ≡ Ok backup) × HasRestore after session backup.tree 0
opened_restore office name number session after e =
    let w = bound (OpenReadEvent.with_restore name number None (next_session office) office.hosts office.restores)
    (λ restores. Ok (record { answer = A.Restore (next_session office); after = numbered (with_restores office restores) })) _ e in
    let a = bound (backup_of office.hosts name number) _ w.0 w.1 in
    let new : Restore = OpenReadEvent.new_restore (next_session office) a.0.tree None in
    let c : (nat_le last_sequence (next_session office).sequence ≡ _) × (Ok (office.restores ++ new ∷ []) ≡ Ok w.0) = passed _ _ _ _ a.2 in
    let restores_are : office.restores ++ new ∷ [] ≡ w.0 = let g : Ok (office.restores ++ new ∷ []) ≡ Ok w.0 = c.1 in cc in
    let named : next_session office ≡ session = restore_is _ _ (answer_of _ (A.Restore session) _ after w.2) in
    let after_is : numbered (with_restores office w.0) ≡ after = after_of _ (A.Restore session) _ after w.2 in
    let has : HasRestore (numbered (with_restores office (office.restores ++ new ∷ []))) (next_session office) a.0.tree 0 = record {
      index = length office.restores;
      restore = new;
      is_restore = at_end office.restores new;
      name_is = refl;
      tree_is = refl;
      base_is = refl;
      position_is = refl;
    } in (
      a.0,
      a.1,
      subst (λ (o : Office). HasRestore o session a.0.tree 0) after_is
          (subst (λ rs. HasRestore (numbered (with_restores office rs)) session a.0.tree 0) restores_are
          (subst (λ s. HasRestore (numbered (with_restores office (office.restores ++ new ∷ []))) s a.0.tree 0) named has)),
    )

-- the restore of a session that is asked for is the one that is open
asked_restore : (office : Office) (session : SessionName) (tree : Tree) (position : ℕ) → IsSound office
    → (has : HasRestore office session tree position) → (a : At Restore) → restore_at office.restores session ≡ Ok a
    → (a.index ≡ has.index) × (a.value ≡ has.restore)
asked_restore office session tree position sound has a e =
    let at = at_is _ office.restores _ a e in
    let found = position-found (λ (r : Restore). is_same_session r.name session) office.restores a.index at.0 in
    let same_value : found.0 ≡ a.value = some_is found.0 a.value (sym found.1 ∙ at.1) in
    let named : a.value.name ≡ session = ap (λ (r : Restore). r.name) (sym same_value) ∙ same_session found.0.name session found.2 in
    let same : a.index ≡ has.index =
    sound.sessions.restores_differ a.index has.index a.value has.restore at.1 has.is_restore (named ∙ sym has.name_is) in
    (same, some_is a.value has.restore (sym at.1 ∙ ap (slice_get office.restores) same ∙ has.is_restore))

-- the frame at a position, and the next position
abbrev pub frame_at : Tree → ℕ → Frame
frame_at tree position = unwrap_or (slice_get (frames tree) position) (End (length tree))

abbrev pub next_position : Tree → ℕ → ℕ
next_position tree position = min (position + 1) (length (frames tree) - 1)

-- the same with a base, if there is one
abbrev frame_since : Option Tree → Tree → ℕ → Frame
frame_since base tree position = unwrap_or (slice_get (frames_since base tree) position) (End (length (entries_of base tree)))

abbrev next_since : Option Tree → Tree → ℕ → ℕ
next_since base tree position = min (position + 1) (length (frames_since base tree) - 1)

pub next_step : (office : Office) (session : SessionName) (tree : Tree) (position : ℕ) (frame : Frame) (after : Office)
    → IsSound office → HasRestore office session tree position
    → ReadNextEvent.carried session office ≡ Ok (record { answer = A.Next frame; after = after })
    → (frame ≡ frame_at tree position) × HasRestore after session tree (next_position tree position)
next_step office session tree position frame after sound has e =
    let w = bound (ReadNextEvent.given session office.restores) (λ next. Ok (record { answer = A.Next next.frame; after = with_restores office next.restores })) _ e in
    let a = bound (restore_at office.restores session) _ w.0 w.1 in
    let same = asked_restore office session tree position sound has a.0 a.1 in
    let made : ReadNextEvent.Given = record { frame = ReadNextEvent.frame_of a.0.value; restores = slice_set office.restores a.0.index (ReadNextEvent.moved_on a.0.value) } in
    let made_is : made ≡ w.0 = let f : Ok made ≡ Ok w.0 = a.2 in cc in
    let after_is : with_restores office w.0.restores ≡ after = after_of _ (A.Next frame) _ after w.2 in
    let frame_here : w.0.frame ≡ frame = frame_is _ _ (answer_of _ (A.Next frame) _ after w.2) in
    let value_frame : ReadNextEvent.frame_of a.0.value ≡ frame_at tree position =
    ap ReadNextEvent.frame_of same.1 ∙ (λ i. frame_since (has.base_is i) (has.tree_is i) (has.position_is i)) in
    let here : slice_set office.restores has.index (ReadNextEvent.moved_on has.restore) ≡ w.0.restores =
    (λ i. slice_set office.restores (sym same.0 i) (ReadNextEvent.moved_on (sym same.1 i))) ∙ ap (λ (g : ReadNextEvent.Given). g.restores) made_is in
    let moved : HasRestore (with_restores office (slice_set office.restores has.index (ReadNextEvent.moved_on has.restore))) session tree (next_position tree position) = record {
      index = has.index;
      restore = ReadNextEvent.moved_on has.restore;
      is_restore = slice_get-set_same office.restores has.index (ReadNextEvent.moved_on has.restore) (slice_get_within office.restores has.index has.restore has.is_restore);
      name_is = has.name_is;
      tree_is = has.tree_is;
      base_is = has.base_is;
      position_is = λ i. next_since (has.base_is i) (has.tree_is i) (has.position_is i);
    } in (
      sym frame_here ∙ sym (ap (λ (g : ReadNextEvent.Given). g.frame) made_is) ∙ value_frame,
      subst (λ (o : Office). HasRestore o session tree (next_position tree position)) after_is
          (subst (λ rs. HasRestore (with_restores office rs) session tree (next_position tree position)) here moved),
    )

-- ---- all frames

-- the frames that are given from a position on
abbrev Gives : Tree → ℕ → List Frame → Type 0
Gives tree position [] = Unit {0}
Gives tree position (frame ∷ more) = (frame ≡ frame_at tree position) × Gives tree (next_position tree position) more

given_of : (list : List Frame) (office : Office) (names : Names) (faults : ℕ) (session : SessionName) (tree : Tree) (position : ℕ) (more : List Call)
    (state' : State) (faults' : ℕ) → IsSound office → HasRestore office session tree position
    → Leads (Running office names) faults (map (next_call session) list ++ more) state' faults' → Gives tree position list
given_of [] office names faults session tree position more state' faults' sound has leads = tt
given_of (frame ∷ list) office names faults session tree position more state' faults' sound has leads =
    let a = answered office names faults (E.ReadNext session) (A.Next frame) (map (next_call session) list ++ more) state' faults' leads in
    let n = next_step office session tree position frame a.after sound has a.carried in
    (n.0, given_of list a.after a.after_names a.faults session tree (next_position tree position) more state' faults' a.sound n.1 a.rest)

plain_append : (xs ys : List Frame) → ArePlain xs → ArePlain ys → ArePlain (xs ++ ys)
plain_append [] ys a b = b
plain_append (Deleted path ∷ xs) ys a b = plain_append xs ys a b
plain_append (Entry path node ∷ xs) ys a b = plain_append xs ys a b
plain_append (Piece bytes ∷ xs) ys a b = plain_append xs ys a b
plain_append (End count ∷ xs) ys a b = absurd a

plain_pieces : (list : List (List ℕ)) → ArePlain (map Piece list)
plain_pieces [] = tt
plain_pieces (bytes ∷ list) = plain_pieces list

abbrev body : Tree → List Frame
body tree = flat_map (λ (row : List ℕ × Item). Entry row.0 (node_of row.1) ∷ map Piece (pieces (bytes_of row.1))) tree

plain_body : (tree : Tree) → ArePlain (body tree)
plain_body [] = tt
plain_body (row ∷ tree) = plain_append (map Piece (pieces (bytes_of row.1))) (body tree) (plain_pieces (pieces (bytes_of row.1))) (plain_body tree)

frames_are : (tree : Tree) → frames tree ≡ body tree ++ End (length tree) ∷ []
unfolding frames
frames_are tree = refl

at_length : {X : Type 0} (xs : List X) (x : X) (more : List X) → slice_get (xs ++ x ∷ more) (length xs) ≡ Some x
at_length [] x more = refl
at_length (y ∷ xs) x more = at_length xs x more

-- the frames of a list that ends with the end, read from its beginning up to an end, are the list
all_given : (tree : Tree) (before rest list : List Frame) (count : ℕ) → frames tree ≡ before ++ (rest ++ End (length tree) ∷ []) → ArePlain rest
    → ArePlain list → Gives tree (length before) (list ++ End count ∷ []) → list ++ End count ∷ [] ≡ rest ++ End (length tree) ∷ []
all_given tree before [] [] count are plain_rest plain gives =
    let here : frame_at tree (length before) ≡ End (length tree) =
    ap (λ fs. unwrap_or (slice_get fs (length before)) (End (length tree))) are ∙ ap (λ o. unwrap_or o (End (length tree))) (at_length before (End (length tree)) []) in
    ap (λ f. f ∷ []) (gives.0 ∙ here)
all_given tree before [] (frame ∷ list) count are plain_rest plain gives =
    let here : frame_at tree (length before) ≡ End (length tree) =
    ap (λ fs. unwrap_or (slice_get fs (length before)) (End (length tree))) are ∙ ap (λ o. unwrap_or o (End (length tree))) (at_length before (End (length tree)) []) in
    absurd (subst (λ f. ArePlain (f ∷ list)) (gives.0 ∙ here) plain)
all_given tree before (frame ∷ rest) [] count are plain_rest plain gives =
    let here : frame_at tree (length before) ≡ frame =
    ap (λ fs. unwrap_or (slice_get fs (length before)) (End (length tree))) are ∙ ap (λ o. unwrap_or o (End (length tree))) (at_length before frame (rest ++ End (length tree) ∷ [])) in
    absurd (subst (λ f. ArePlain (f ∷ rest)) (sym (gives.0 ∙ here)) plain_rest)
all_given tree before (frame ∷ rest) (given ∷ list) count are plain_rest plain gives =
    let here : frame_at tree (length before) ≡ frame =
    ap (λ fs. unwrap_or (slice_get fs (length before)) (End (length tree))) are ∙ ap (λ o. unwrap_or o (End (length tree))) (at_length before frame (rest ++ End (length tree) ∷ [])) in
    let next : next_position tree (length before) ≡ length (before ++ frame ∷ []) =
    ap (λ fs. min (length before + 1) (length fs - 1)) are ∙ counted before frame rest (End (length tree)) in
    λ i. (gives.0 ∙ here) i ∷ all_given tree (before ++ frame ∷ []) rest list count
    (are ∙ sym (append_assoc before (frame ∷ []) (rest ++ End (length tree) ∷ []))) (plain_tail frame rest plain_rest) (plain_tail given list plain)
    (subst (λ p. Gives tree p (list ++ End count ∷ [])) next gives.1) i
  where
    plain_tail : (f : Frame) (fs : List Frame) → ArePlain (f ∷ fs) → ArePlain fs
    plain_tail (Deleted path) fs h = h
    plain_tail (Entry path node) fs h = h
    plain_tail (Piece bytes) fs h = h
    plain_tail (End n) fs h = absurd h

    counted : (before : List Frame) (frame : Frame) (rest : List Frame) (last : Frame)
        → min (length before + 1) (length (before ++ (frame ∷ (rest ++ last ∷ []))) - 1) ≡ length (before ++ frame ∷ [])
    counted before frame rest last =
        let a = length-append before (frame ∷ (rest ++ last ∷ [])) in
        let b = length-append before (frame ∷ []) in
        let c = length-append rest (last ∷ []) in
        omega (arith, a, b, c)

pub restored_frames : (office : Office) (names : Names) (faults : ℕ) (host : List ℕ) (number : ℕ) (restore : SessionName) (list : List Frame) (count : ℕ)
    (state' : State) (faults' : ℕ) → IsSound office → ArePlain list
    → Leads (Running office names) faults (restore_calls host number restore list count) state' faults'
    → (backup : Backup) × (backup_of office.hosts host number ≡ Ok backup) × (list ++ End count ∷ [] ≡ frames backup.tree)
restored_frames office names faults host number restore list count state' faults' sound plain leads =
    let a = answered office names faults (E.OpenRead host number None) (A.Restore restore) _ state' faults' leads in
    let b = opened_restore office host number restore a.after a.carried in
    let close : Call = (E.CloseRead restore, Ok A.Done) in
    let calls_are : map (next_call restore) list ++ next_call restore (End count) ∷ close ∷ [] ≡ map (next_call restore) (list ++ End count ∷ []) ++ close ∷ [] =
    asked list close in
    let gives = given_of (list ++ End count ∷ []) a.after a.after_names a.faults restore b.0.tree 0 (close ∷ []) state' faults' a.sound b.2
    (subst (λ calls. Leads (Running a.after a.after_names) a.faults calls state' faults') calls_are a.rest) in
    (b.0, b.1, all_given b.0.tree [] (body b.0.tree) list count (frames_are b.0.tree) (plain_body b.0.tree) plain gives ∙ sym (frames_are b.0.tree))
  where
    asked : (list : List Frame) (close : Call)
        → map (next_call restore) list ++ next_call restore (End count) ∷ close ∷ [] ≡ map (next_call restore) (list ++ End count ∷ []) ++ close ∷ []
    asked [] close = refl
    asked (f ∷ list) close = ap (λ calls. next_call restore f ∷ calls) (asked list close)
