-- Which content a restore names as damaged, whatever the disk: the pieces that it gave are of the file that the disk tells.
--     IsReadAt parts name      an open restore gives what the files tell, and took in what it gave
--     read_opened, read_on      so it does when it was opened, and behind each frame
--     read_damaged      a file that it names is a content that isn't what its name and its row say
use Rattle.std.specs.Prelude.{⊤, ◌+◌, ◌-◌, ◌<◌, ◌≤◌, ◌==◌, nat_lt, if◌then◌else◌, length, take, drop, slice_get}
use Rattle.std.proofs.Common.{◌≡◌, ℕ, Bool, true, false, List, [], ◌∷◌, ◌++◌, Option, None, Some, Ok, Err, refl, sym, ap, ◌∙◌, subst, inl, inr, arith}
use Rattle.std.proofs.lemmas.Bool.Decides.{nat_tests}
use Rattle.std.proofs.lemmas.List.{length-drop, length-take}
use Rattle.std.proofs.lemmas.Option.{slice_get_within}
use Rattle.std.proofs.Math.Seq.{take-add}
use Rattle.disk_trait.specs.declared.ids.FileId.{FileId}
use Rattle.disk_trait.specs.declared.ids.FileId.TheVariants.{Pool as PoolFile}
use Rattle.disk_trait.specs.declared.ids.PoolId.{PoolId}
use Rattle.disk_trait.specs.declared.disk.Disk.{Ghosts as DiskGhosts}
use Rattle.disk_trait.specs.Files.{Files, piece as piece_of}
use Rattle.pool_name.specs.declared.namer.Namer.{Ghosts as NamerGhosts}
use Rattle.journal_view.specs.View.{told}
use Rattle.intent_journal.specs.ChangesLaws.{either}
use Rattle.attr_tables.specs.declared.records.Record.{Record}
use Rattle.attr_tables.specs.declared.records.Record.TheVariants as T
use Rattle.attr_tables.specs.declared.records.StoredFile.{StoredFile}
use Rattle.backup_rules.specs.declared.lines.Line.{Line}
use Rattle.merge_view.specs.Views.{Rows}
use Rattle.backup_views.specs.Stored.{TellsTree}
use Rattle.office_model.specs.declared.answer.Answer.{Answer}
use Rattle.office_model.specs.declared.answer.Answer.TheVariants as A
use Rattle.office_model.specs.declared.event.Event.TheVariants as E
use Rattle.office_model.specs.declared.refusal.Refusal.TheVariants as R
use Rattle.office_model.specs.PlacesLaws.{slice_get-set_same, position-found}
use Rattle.office_model.specs.laws.Lookups.{same_session}
use Rattle.receipts.specs.declared.session.SessionName.{SessionName}
use Rattle.receipts.specs.Session.{is_same_session}
use Rattle.open_sessions.specs.declared.sessions.Asked.{Asked}
use Rattle.open_sessions.specs.declared.sessions.Next.{Next}
use Rattle.open_sessions.specs.declared.sessions.Next.TheVariants as X
use Rattle.open_sessions.specs.declared.sessions.OpenRestore.{OpenRestore}
use Rattle.open_sessions.specs.declared.sessions.Place.{Place}
use Rattle.open_sessions.specs.declared.sessions.Place.TheVariants.{Removal, Entry, Content, Piece, Wrong}
use Rattle.open_sessions.specs.Places.{piece_of as next_piece, piece_node, piece_found, removal_found, next_in, at_removal, behind_node, behind_entry}
use Rattle.store_parts.specs.declared.parts.StoreParts.{StoreParts}
use Rattle.store_reads.specs.Pieces.{IsOther}
use Rattle.store_restores.specs.Finding.{IsRestoreHere}
use Rattle.store_restores.specs.Giving.{room_of, is_last, HasTaken, IsBehind, wrong_in, PassesPiece, MovesTo, GivesNext}
use Rattle.store_restores.specs.Opening.{IsOpened}
use Rattle.store_restores.specs.Since.{removed_since, rows_since, TellsBase}
use Rattle.office_store.specs.declared.store.Store.{Store}
use Rattle.office_store.specs.DamagedFiles.{IsDamagedContent}
use Rattle.office_store.specs.Serves.{Serves}

-- ---- lists

last_of : {A : Type 0} (xs : List A) (last : A) → slice_get (xs ++ last ∷ []) (length xs) ≡ Some last
last_of [] last = refl
last_of (x ∷ xs) last = last_of xs last

some_is : {A : Type 0} (x y : A) → Some x ≡ Some y → x ≡ y
some_is x y e = cc

-- a file that lacks the piece is shorter than the row says
lacks : (found : Option (List ℕ)) (bytes : List ℕ) (from room size : ℕ) → IsOther room found → found ≡ piece_of (Some bytes) from room
    → from + room ≤ size → size ≤ length bytes → ⊥
lacks found bytes from room size other is fits long =
    let short : IsOther room (Some (take room (drop from bytes))) = subst (IsOther room) is other in
    let taken = length-take room (drop from bytes) in
    let dropped = length-drop from bytes in
    short (omega (arith, taken, dropped, fits, long))

-- ---- a place of a restore

module _ {S : Type 0} (holds : S → List ℕ → Type 0) (seen : Option Files) (rows : Rows) where
  -- the digest took in the first bytes of the content of a row's file, as many as were given
  record IsGiven (row given : ℕ) (digest : S) : Type 0 where
    path : List ℕ
    file : StoredFile
    id : PoolId
    is_row : slice_get rows row ≡ Some (path, T.File file)
    content_is : file.content ≡ Some id
    within : given ≤ file.size
    taken : List ℕ
    has : holds digest taken
    front : (all : Files) (bytes : List ℕ) → seen ≡ Some all → all (PoolFile id) ≡ Some bytes → taken ≡ take given bytes

  -- no digest was found wrong
  abbrev IsRight : Place S → Type 0
  IsRight (Removal row) = ⊤
  IsRight (Entry row) = ⊤
  IsRight (Content row) = ⊤
  IsRight (Piece row given digest) = IsGiven row given digest
  IsRight (Wrong content digest) = ⊥

  -- ---- what it gives next

  -- a piece is of a row's file, behind what the digest took in
  record IsAsked (place : Place S) (asked : Asked) : Type 0 where
    path : List ℕ
    file : StoredFile
    is_row : slice_get rows asked.row ≡ Some (path, T.File file)
    content_is : file.content ≡ Some asked.content
    size_is : asked.size ≡ file.size
    within : asked.from ≤ asked.size
    taken : List ℕ
    has : HasTaken holds place taken
    front : (all : Files) (bytes : List ℕ) → seen ≡ Some all → all (PoolFile asked.content) ≡ Some bytes → taken ≡ take asked.from bytes

  removal_asks : (asked : Asked) (row : ℕ) (found : Option (List ℕ × Record)) → X.Piece asked ≡ removal_found row found → ⊥
  removal_asks asked row None e = cc
  removal_asks asked row (Some found) e = cc

  -- the first piece
  first_asked : (asked : Asked) (at : ℕ) (path : List ℕ) (file : StoredFile) (content : Option PoolId)
      → slice_get rows at ≡ Some (path, T.File file) → file.content ≡ content → X.Piece asked ≡ next_piece at 0 file.size content
      → IsAsked (Content at) asked
  first_asked asked at path file None is_row content_is e = absurd cc
  first_asked asked at path file (Some id) is_row content_is e =
      let same : record { row = at; content = id; size = file.size; from = 0 } ≡ asked = cc in
      subst (IsAsked (Content at)) same (record {
        path = path;
        file = file;
        is_row = is_row;
        content_is = content_is;
        size_is = refl;
        within = omega arith;
        taken = [];
        has = refl;
        front = λ all bytes told there. refl;
      })

  first_node : (asked : Asked) (at : ℕ) (path : List ℕ) (node : Record) → slice_get rows at ≡ Some (path, node)
      → X.Piece asked ≡ piece_node at 0 node → IsAsked (Content at) asked
  first_node asked at path (T.File file) is_row e = first_asked asked at path file file.content is_row refl e
  first_node asked at path (T.Dir dir) is_row e = absurd cc
  first_node asked at path (T.Link link) is_row e = absurd cc
  first_node asked at path T.Deleted is_row e = absurd cc

  first_found : (asked : Asked) (at : ℕ) (found : Option (List ℕ × Record)) → slice_get rows at ≡ found
      → X.Piece asked ≡ piece_found at 0 found → IsAsked (Content at) asked
  first_found asked at None is_row e = absurd cc
  first_found asked at (Some found) is_row e = first_node asked at found.0 found.1 is_row e

  -- a further one
  more_asked : (asked : Asked) (row given : ℕ) (digest : S) → IsGiven row given digest
      → X.Piece asked ≡ piece_found row given (slice_get rows row) → IsAsked (Piece row given digest) asked
  more_asked asked row given digest is e =
      let next : X.Piece asked ≡ X.Piece (record { row = row; content = is.id; size = is.file.size; from = given }) =
      e ∙ ap (piece_found row given) is.is_row ∙ ap (next_piece row given is.file.size) is.content_is in
      let same : record { row = row; content = is.id; size = is.file.size; from = given } ≡ asked = cc in
      subst (IsAsked (Piece row given digest)) same (record {
        path = is.path;
        file = is.file;
        is_row = is.is_row;
        content_is = is.content_is;
        size_is = refl;
        within = is.within;
        taken = is.taken;
        has = is.has;
        front = is.front;
      })

  is_asked : (removed : Rows) (place : Place S) (asked : Asked) → IsRight place → X.Piece asked ≡ next_in removed rows place
      → IsAsked place asked
  is_asked removed (Removal row) asked right e = absurd (removal_asks asked row (slice_get removed row) e)
  is_asked removed (Entry row) asked right e = absurd cc
  is_asked removed (Content row) asked right e = first_found asked row (slice_get rows row) refl e
  is_asked removed (Piece row given digest) asked right e = more_asked asked row given digest right e
  is_asked removed (Wrong content digest) asked right e = absurd right

  -- a wrong digest doesn't come next
  removal_wrong : (content : PoolId) (digest : List ℕ) (row : ℕ) (found : Option (List ℕ × Record))
      → X.Wrong content digest ≡ removal_found row found → ⊥
  removal_wrong content digest row None e = cc
  removal_wrong content digest row (Some found) e = cc

  piece_wrong : (content : PoolId) (digest : List ℕ) (row from size : ℕ) (id : Option PoolId)
      → X.Wrong content digest ≡ next_piece row from size id → ⊥
  piece_wrong content digest row from size None e = cc
  piece_wrong content digest row from size (Some id) e = cc

  node_wrong : (content : PoolId) (digest : List ℕ) (row from : ℕ) (node : Record) → X.Wrong content digest ≡ piece_node row from node → ⊥
  node_wrong content digest row from (T.File file) e = piece_wrong content digest row from file.size file.content e
  node_wrong content digest row from (T.Dir dir) e = cc
  node_wrong content digest row from (T.Link link) e = cc
  node_wrong content digest row from T.Deleted e = cc

  found_wrong : (content : PoolId) (digest : List ℕ) (row from : ℕ) (found : Option (List ℕ × Record))
      → X.Wrong content digest ≡ piece_found row from found → ⊥
  found_wrong content digest row from None e = cc
  found_wrong content digest row from (Some found) e = node_wrong content digest row from found.1 e

  none_wrong : (removed : Rows) (place : Place S) (content : PoolId) (digest : List ℕ) → IsRight place
      → X.Wrong content digest ≡ next_in removed rows place → ⊥
  none_wrong removed (Removal row) content digest right e = removal_wrong content digest row (slice_get removed row) e
  none_wrong removed (Entry row) content digest right e = cc
  none_wrong removed (Content at) content digest right e = found_wrong content digest at 0 (slice_get rows at) e
  none_wrong removed (Piece row given digest') content digest right e = found_wrong content digest row given (slice_get rows row) e
  none_wrong removed (Wrong content' digest') content digest right e = right

  -- ---- how it moves on

  removal_right : (row : ℕ) (found : Option (List ℕ × Record)) → IsRight (at_removal row found)
  removal_right row None = tt
  removal_right row (Some found) = tt

  either_right : (empty : Bool) (row : ℕ) → IsRight (if empty then Entry (row + 1) else Content row)
  either_right true row = tt
  either_right false row = tt

  node_right : (row : ℕ) (node : Record) → IsRight (behind_node row node)
  node_right row (T.File file) = either_right (file.size == 0) row
  node_right row (T.Dir dir) = tt
  node_right row (T.Link link) = tt
  node_right row T.Deleted = tt

  entry_right : (row : ℕ) (found : Option (List ℕ × Record)) → IsRight (behind_entry row found)
  entry_right row None = tt
  entry_right row (Some found) = node_right row found.1

  -- a piece that the content's file has
  module _ (digest_of : List ℕ → List ℕ) (place : Place S) (asked : Asked) (is : IsAsked place asked) (piece : List ℕ)
      (there : (all : Files) → seen ≡ Some all → piece_of (all (PoolFile asked.content)) asked.from (room_of asked) ≡ Some piece) where
    -- with what was taken in before it, it is the front of the file
    together : (all : Files) (bytes : List ℕ) → seen ≡ Some all → all (PoolFile asked.content) ≡ Some bytes
        → is.taken ++ piece ≡ take (asked.from + room_of asked) bytes
    together all bytes told has =
        let got : take (room_of asked) (drop asked.from bytes) ≡ piece =
        some_is (take (room_of asked) (drop asked.from bytes)) piece
        (ap (λ (file : Option (List ℕ)). piece_of file asked.from (room_of asked)) (sym has) ∙ there all told) in
        ap (λ (front : List ℕ). front ++ piece) (is.front all bytes told has)
        ∙ ap (λ (rest : List ℕ). take asked.from bytes ++ rest) (sym got)
        ∙ sym (take-add asked.from (room_of asked) bytes)

    more_left : is_last asked ≡ false → 65536 < asked.size - asked.from
    more_left more = grind (arith, nat_tests)

    few_left : is_last asked ≡ true → asked.size - asked.from ≤ 65536
    few_left last = grind (arith, nat_tests)

    full_room : is_last asked ≡ false → room_of asked ≡ 65536
    full_room more = let left = more_left more in omega (arith, left)

    piece_right : (next : Place S) → IsBehind holds digest_of place asked piece next → None ≡ wrong_in next → IsRight next
    piece_right (Removal row) behind none = absurd behind
    piece_right (Entry row) behind none = tt
    piece_right (Content row) behind none = absurd behind
    piece_right (Wrong content digest) behind none = absurd cc
    piece_right (Piece row given digest) behind none = record {
      path = is.path;
      file = is.file;
      id = asked.content;
      is_row = ap (slice_get rows) behind.0 ∙ is.is_row;
      content_is = is.content_is;
      within = let left = more_left behind.2 in omega (arith, behind.1, left, is.within, is.size_is);
      taken = is.taken ++ piece;
      has = behind.3 is.taken is.has;
      front = λ all bytes told has.
          together all bytes told has
          ∙ ap (λ (k : ℕ). take (asked.from + k) bytes) (full_room behind.2)
          ∙ ap (λ (k : ℕ). take k bytes) (sym behind.1);
    }

    -- behind the last one the digest is that of as many bytes of the file as the row says
    piece_damaged : (next : Place S) (digest : List ℕ) → IsBehind holds digest_of place asked piece next → Some digest ≡ wrong_in next
        → (all : Files) (bytes : List ℕ) → seen ≡ Some all → all (PoolFile asked.content) ≡ Some bytes
        → digest_of (take is.file.size bytes) ≡ asked.content.digest → ⊥
    piece_damaged (Removal row) digest behind wrong all bytes told has e = behind
    piece_damaged (Entry row) digest behind wrong all bytes told has e = cc
    piece_damaged (Content row) digest behind wrong all bytes told has e = behind
    piece_damaged (Piece row given digest') digest behind wrong all bytes told has e = cc
    piece_damaged (Wrong content digest') digest behind wrong all bytes told has e =
        let few = few_left behind.1 in
        let size : asked.from + room_of asked ≡ is.file.size = omega (arith, few, is.within, is.size_is) in
        behind.2
        (behind.3 is.taken is.has
        ∙ ap digest_of (together all bytes told has ∙ ap (λ (k : ℕ). take k bytes) size)
        ∙ e)

module _ {D N S : Type 0} {d : DiskGhosts D} {n : NamerGhosts N S} where
  -- ---- a restore

  pub record IsReadAt (parts : StoreParts D N S d n) (name : SessionName) : Type 0 where
    at : ℕ
    session : OpenRestore S
    there : slice_get parts.sessions.restores.items at ≡ Some session
    named : session.name ≡ name
    host : ℕ
    lines : List Line
    tells : (all : Files) → told parts.journal ≡ Some all → TellsTree all host lines session.rows
    right : IsRight n.holds (told parts.journal) session.rows session.place

  -- ---- it is opened

  opens : (old new : StoreParts D N S d n) (name made : SessionName) (rows : Rows) (host : ℕ) (lines : List Line) → A.Restore name ≡ A.Restore made
      → IsOpened old.sessions old.catalog.epoch rows [] rows made new.sessions
      → ((all : Files) → told old.journal ≡ Some all → TellsTree all host lines rows) → told new.journal ≡ told old.journal
      → IsReadAt new name
  opens old new name made rows host lines is opened tells same = record {
    at = length old.sessions.restores.items;
    session = _;
    there = ap (λ (items : List (OpenRestore S)). slice_get items (length old.sessions.restores.items)) opened.restores
        ∙ last_of old.sessions.restores.items _;
    named = let e : made ≡ name = cc in e;
    host = host;
    lines = lines;
    tells = λ all here. tells all (sym same ∙ here);
    right = tt;
  }

  opens_by : (old new : StoreParts D N S d n) (host : List ℕ) (name made : SessionName) (rows : Rows) (place : ℕ) (lines : List Line)
      (older : Option Rows) → TellsBase old host None older → A.Restore name ≡ A.Restore made
      → IsOpened old.sessions old.catalog.epoch rows (removed_since older rows) (rows_since older rows) made new.sessions
      → ((all : Files) → told old.journal ≡ Some all → TellsTree all place lines rows) → told new.journal ≡ told old.journal
      → IsReadAt new name
  opens_by old new host name made rows place lines None base is opened tells same = opens old new name made rows place lines is opened tells same
  opens_by old new host name made rows place lines (Some older) base is opened tells same = absurd base

  pub read_opened : (old new : Store D N S d n) (host : List ℕ) (number : ℕ) (name : SessionName)
      → Serves old (E.OpenRead host number None) (Ok (A.Restore name)) new → IsReadAt new.parts name
  read_opened old new host number name serves =
      let says = serves.damaged.1 in
      let made = says.2 in
      opens_by old.parts new.parts host name made.2.0 says.0 says.1.placed.place _ made.0 made.1 made.2.1 made.2.2 says.1.tells
      (serves.untouched.still tt)

  -- ---- it gives a frame

  -- names are of one restore each
  same_place : (parts : StoreParts D N S d n) (i j : ℕ) (a b : OpenRestore S) → slice_get parts.sessions.restores.items i ≡ Some a
      → slice_get parts.sessions.restores.items j ≡ Some b → a.name ≡ b.name → i ≡ j
  same_place parts i j a b at_i at_j same = elim (either (nat_lt i j)) [
    | inl less ↦
        let below : i < j = grind (arith, nat_tests) in
        let rises = parts.sessions.restores_in_turn.rise i j a b below at_i at_j in
        absurd (omega (arith, rises, one))
    | inr other ↦ elim (either (nat_lt j i)) [
      | inl less ↦
          let below : j < i = grind (arith, nat_tests) in
          let rises = parts.sessions.restores_in_turn.rise j i b a below at_j at_i in
          absurd (omega (arith, rises, one))
      | inr neither ↦ grind (arith, nat_tests)
    ]
  ]
    where
      one : a.name.sequence ≡ b.name.sequence
      one = ap (λ (name : SessionName). name.sequence) same

  -- the restore that was found
  record IsFoundAt (parts : StoreParts D N S d n) (at : ℕ) (session : OpenRestore S) (name : SessionName) : Type 0 where
    there : slice_get parts.sessions.restores.items at ≡ Some session
    named : session.name ≡ name
    host : ℕ
    lines : List Line
    tells : (all : Files) → told parts.journal ≡ Some all → TellsTree all host lines session.rows
    right : IsRight n.holds (told parts.journal) session.rows session.place

  found_at : (parts : StoreParts D N S d n) (name : SessionName) (here : IsRestoreHere parts.sessions.restores.items name)
      → IsReadAt parts name → IsFoundAt parts here.place here.session name
  found_at parts name here read =
      let found = position-found (λ (restore : OpenRestore S). is_same_session restore.name name) parts.sessions.restores.items here.place
      (sym here.named) in
      let is : found.0.name ≡ name = same_session found.0.name name found.2 in
      let place : read.at ≡ here.place = same_place parts read.at here.place read.session found.0 read.there found.1 (read.named ∙ sym is) in
      let one : read.session ≡ here.session =
      some_is read.session here.session
      (sym read.there ∙ ap (slice_get parts.sessions.restores.items) place ∙ here.here) in
      record {
        there = here.here;
        named = ap (λ (r : OpenRestore S). r.name) (sym one) ∙ read.named;
        host = read.host;
        lines = read.lines;
        tells = λ all told_is.
            subst (λ (r : OpenRestore S). TellsTree all read.host read.lines r.rows) one (read.tells all told_is);
        right = subst (λ (r : OpenRestore S). IsRight n.holds (told parts.journal) r.rows r.place) one read.right;
      }

  record MovesRight (old : StoreParts D N S d n) (at : ℕ) (session : OpenRestore S) (new : StoreParts D N S d n) : Type 0 where
    place : Place S
    moves : MovesTo old.sessions at session place new.sessions
    right : IsRight n.holds (told old.journal) session.rows place

  passes_right : (old new : StoreParts D N S d n) (at : ℕ) (session : OpenRestore S) (asked : Asked) (piece : List ℕ)
      → IsAsked n.holds (told old.journal) session.rows session.place asked → (passes : PassesPiece old at session asked piece new)
      → wrong_in passes.place ≡ None → MovesRight old at session new
  passes_right old new at session asked piece is passes none = record {
    place = passes.place;
    moves = passes.moves;
    right = piece_right n.holds (told old.journal) session.rows n.digest_of session.place asked is piece passes.there passes.place
        passes.behind (sym none);
  }

  moves_right : (old new : StoreParts D N S d n) (at : ℕ) (session : OpenRestore S) (next : Next) (answer : Answer)
      → next ≡ next_in session.removed session.rows session.place
      → IsRight n.holds (told old.journal) session.rows session.place → GivesNext next old at session (Ok answer) new
      → MovesRight old at session new
  moves_right old new at session (X.Removal row) answer is right gives = record {
    place = at_removal (row + 1) (slice_get session.removed (row + 1));
    moves = gives.1;
    right = removal_right n.holds (told old.journal) session.rows (row + 1) (slice_get session.removed (row + 1));
  }
  moves_right old new at session (X.Entry row) answer is right gives = record {
    place = behind_entry row (slice_get session.rows row);
    moves = gives.1;
    right = entry_right n.holds (told old.journal) session.rows row (slice_get session.rows row);
  }
  moves_right old new at session (X.Piece asked) answer is right gives =
      passes_right old new at session asked gives.0
      (is_asked n.holds (told old.journal) session.rows session.removed session.place asked right is) gives.2.0 gives.2.1
  moves_right old new at session (X.Wrong content digest) answer is right gives = absurd gives

  pub read_on : (old new : Store D N S d n) (name : SessionName) (answer : Answer) → Serves old (E.ReadNext name) (Ok answer) new
      → IsReadAt old.parts name → IsReadAt new.parts name
  read_on old new name answer serves read =
      let here = serves.damaged.0 in
      let at = found_at old.parts name here read in
      let same = serves.untouched.still tt in
      let moved = moves_right old.parts new.parts here.place here.session _ answer refl at.right
      (serves.damaged.1 here.place here.session here.named here.here) in
      record {
        at = here.place;
        session = record here.session { place = moved.place };
        there = ap (λ (items : List (OpenRestore S)). slice_get items here.place) moved.moves.restores
            ∙ slice_get-set_same old.parts.sessions.restores.items here.place (record here.session { place = moved.place })
            (slice_get_within old.parts.sessions.restores.items here.place here.session here.here);
        named = at.named;
        host = at.host;
        lines = at.lines;
        tells = λ all told_is. at.tells all (sym same ∙ told_is);
        right = subst (λ (seen : Option Files). IsRight n.holds seen here.session.rows moved.place) (sym same) moved.right;
      }

  -- ---- it names a file

  content_of : (old : StoreParts D N S d n) (at : ℕ) (session : OpenRestore S) (name : SessionName) (asked : Asked) (file : FileId)
      → IsFoundAt old at session name → (is : IsAsked n.holds (told old.journal) session.rows session.place asked)
      → file ≡ PoolFile asked.content
      → ((all : Files) (bytes : List ℕ) → told old.journal ≡ Some all → all (PoolFile asked.content) ≡ Some bytes
      → is.file.size ≤ length bytes → n.digest_of (take is.file.size bytes) ≡ asked.content.digest → ⊥)
      → IsDamagedContent n.digest_of (told old.journal) file
  content_of old at session name asked file found is named damaged = record {
    host = found.host;
    lines = found.lines;
    rows = session.rows;
    tells = found.tells;
    row = asked.row;
    path = is.path;
    stored = is.file;
    is_row = is.is_row;
    id = asked.content;
    content_is = is.content_is;
    file_is = named;
    damaged = λ all bytes told_is there long digest. damaged all bytes told_is (ap all (sym named) ∙ there) long digest;
  }

  names_content : (old new : StoreParts D N S d n) (at : ℕ) (session : OpenRestore S) (name : SessionName) (next : Next) (file : FileId)
      (found : Option (List ℕ)) → next ≡ next_in session.removed session.rows session.place → IsFoundAt old at session name
      → GivesNext next old at session (Err (R.Damaged file found)) new → IsDamagedContent n.digest_of (told old.journal) file
  names_content old new at session name (X.Removal row) file found is here gives = absurd cc
  names_content old new at session name (X.Entry row) file found is here gives = absurd cc
  names_content old new at session name (X.Wrong content digest) file found is here gives =
      absurd (none_wrong n.holds (told old.journal) session.rows session.removed session.place content digest here.right is)
  names_content old new at session name (X.Piece asked) file found is here (inl fault) =
      let piece = is_asked n.holds (told old.journal) session.rows session.removed session.place asked here.right is in
      let none = fault.0 in
      content_of old at session name asked file here piece none.named
      (λ all bytes told_is there long digest.
      lacks found bytes asked.from (room_of asked) piece.file.size none.other
      (none.there all told_is
      ∙ ap (λ (f : FileId). piece_of (all f) asked.from (room_of asked)) none.named
      ∙ ap (λ (b : Option (List ℕ)). piece_of b asked.from (room_of asked)) there)
      (omega (arith, piece.within, piece.size_is)) long)
  names_content old new at session name (X.Piece asked) file found is here (inr wrong) =
      let piece = is_asked n.holds (told old.journal) session.rows session.removed session.place asked here.right is in
      content_of old at session name asked file here piece wrong.refused.0
      (λ all bytes told_is there long digest.
      piece_damaged n.holds (told old.journal) session.rows n.digest_of session.place asked piece wrong.piece wrong.passes.there
      wrong.passes.place wrong.digest wrong.passes.behind wrong.is all bytes told_is there digest)

  pub read_damaged : (old new : Store D N S d n) (name : SessionName) (file : FileId) (found : Option (List ℕ))
      → Serves old (E.ReadNext name) (Err (R.Damaged file found)) new → IsReadAt old.parts name
      → IsDamagedContent n.digest_of (told new.parts.journal) file
  read_damaged old new name file found serves read =
      let here = serves.damaged.0 in
      subst (λ (seen : Option Files). IsDamagedContent n.digest_of seen file) (sym (serves.untouched.still tt))
      (names_content old.parts new.parts here.place here.session name _ file found refl (found_at old.parts name here read)
      (serves.damaged.1 here.place here.session here.named here.here))
