-- What an open reader gives next is what the model's reader gives.
--     is_asked      the part that is asked for
--     never_wrong      no digest was found wrong
--     end_gives      behind the last byte the model gives nothing
--     part_given, part_within, part_gives      a part that is asked for is of a given content, within it, and the next one
use Rattle.std.specs.Prelude.{◌≡◌, ◌<◌, ◌≤◌, ◌+◌, ◌-◌, ℕ, min, nat_le, Bool, true, false, List, [], take, drop, length, Option, Some, None, Ok, slice_get, slice_set, if◌then◌else◌}
use Rattle.std.proofs.Common.{refl, sym, ap, ◌∙◌, subst, arith}
use Rattle.std.proofs.lemmas.Bool.Decides.{nat_tests}
use Rattle.std.proofs.lemmas.List.{length-drop, take_min}
use Rattle.disk_trait.specs.declared.ids.PoolId.{PoolId}
use Rattle.stored_trees.specs.Resolved.{bytes_of, IsToldContent}
use Rattle.office_model.specs.Office.{Reader, piece_limit}
use Rattle.office_model.specs.Parts.{reader_at}
use Rattle.office_model.specs.events.ReadPart.{part_of, moved_on}
use Rattle.office_model.specs.events.ReadPart as ReadPartEvent
use Rattle.open_sessions.specs.declared.readers.OpenReader.{OpenReader}
use Rattle.open_sessions.specs.Opened.{IsReader}
use Rattle.open_sessions.specs.ReaderCallLaws.{nothing_left, readers_unmoved}
use Rattle.store_readers.specs.declared.next_part.Asked.{Asked}
use Rattle.store_readers.specs.declared.next_part.NextPart.TheVariants.{End, Piece, Wrong}
use Rattle.store_readers.specs.Giving.{room_of, next_by, next_of}

-- ---- any open reader

-- the part that is asked for is the next one of its content
pub record IsAsked {S : Type 0} (reader : OpenReader S) (asked : Asked) : Type 0 where
  pub content : reader.content ≡ Some asked.content
  pub from : asked.from ≡ reader.given
  pub room : asked.room ≡ room_of reader
  pub some : reader.given < reader.size

module _ {S : Type 0} (reader : OpenReader S) where
  asked_by : (content : PoolId) (asked : Asked) (b : Bool) → nat_le reader.size reader.given ≡ b
      → Piece asked ≡ (if b then End else Piece (record { content = content; from = reader.given; room = room_of reader }))
      → (asked ≡ record { content = content; from = reader.given; room = room_of reader }) × (reader.given < reader.size)
  asked_by content asked true test e = absurd cc
  asked_by content asked false test e = (cc, grind (arith, nat_tests))

  pub is_asked : (asked : Asked) → Piece asked ≡ next_of reader → IsAsked reader asked
  is_asked asked e = step reader.content reader.wrong refl e
    where
      step : (content : Option PoolId) (wrong : Option (List ℕ)) → reader.content ≡ content → Piece asked ≡ next_by reader content wrong
          → IsAsked reader asked
      step None wrong at e = absurd cc
      step (Some id) (Some digest) at e = absurd cc
      step (Some id) None at e =
          let w = asked_by id asked (nat_le reader.size reader.given) refl e in
          record {
            content = at ∙ ap (λ (a : Asked). Some a.content) (sym w.0);
            from = ap (λ (a : Asked). a.from) w.0;
            room = ap (λ (a : Asked). a.room) w.0;
            some = w.1;
          }

-- ---- the reader of the model

module _ {S : Type 0} (holds : S → List ℕ → Type 0) (given : PoolId → Type 0) (contents : PoolId → List ℕ) (value : Reader)
    (reader : OpenReader S) (is : IsReader holds given contents value reader) where
  pub never_wrong : (content : PoolId) (digest : List ℕ) → Wrong content digest ≡ next_of reader → ⊥
  never_wrong content digest e = step reader.content reader.wrong is.right e
    where
      choose : (b : Bool) (asked : Asked) → Wrong content digest ≡ (if b then End else Piece asked) → ⊥
      choose true asked e = cc
      choose false asked e = cc

      step : (id : Option PoolId) (wrong : Option (List ℕ)) → wrong ≡ None → Wrong content digest ≡ next_by reader id wrong → ⊥
      step None wrong none e = cc
      step (Some id) (Some found) none e = cc
      step (Some id) None none e =
          choose (nat_le reader.size reader.given) (record { content = id; from = reader.given; room = room_of reader }) e

  -- ---- nothing is left

  at_end : End ≡ next_of reader → length value.content ≤ value.position
  at_end e = step reader.content reader.wrong is.right is.content is.told e
    where
      choose : (b : Bool) (asked : Asked) → End ≡ (if b then End else Piece asked) → b ≡ true
      choose true asked e = refl
      choose false asked e = absurd cc

      step : (id : Option PoolId) (wrong : Option (List ℕ)) → wrong ≡ None → value.content ≡ bytes_of contents id
          → IsToldContent given contents reader.size id → End ≡ next_by reader id wrong → length value.content ≤ value.position
      step None wrong none content told e = let empty = ap length content in omega (arith, empty)
      step (Some id) (Some found) none content told e = absurd cc
      step (Some id) None none content told e =
          let test = choose (nat_le reader.size reader.given) (record { content = id; from = reader.given; room = room_of reader }) e in
          let long = ap length content in
          let less : reader.size ≤ reader.given = grind (arith, nat_tests) in
          omega (arith, long, told.1, less, is.given_is)

  -- and the readers of the model stay
  pub end_gives : End ≡ next_of reader → (number index : ℕ) (readers : List Reader)
      → reader_at readers number ≡ Ok (record { index = index; value = value }) → slice_get readers index ≡ Some value
      → ReadPartEvent.given piece_limit number readers ≡ Ok (record { part = []; readers = readers })
  end_gives end number index readers at there =
      let made : ReadPartEvent.given piece_limit number readers
      ≡ Ok (record { part = part_of piece_limit value; readers = slice_set readers index (moved_on piece_limit value) }) = rw at refl in
      let none = nothing_left piece_limit value (at_end end) in
      let stay = readers_unmoved readers index piece_limit value there (at_end end) in
      made ∙ λ i. Ok (record { part = none i; readers = stay i })

-- ---- a part

module _ {S : Type 0} (given : PoolId → Type 0) (contents : PoolId → List ℕ) (reader : OpenReader S)
    (told : IsToldContent given contents reader.size reader.content) (asked : Asked) (a : IsAsked reader asked) where
  told_asked : given asked.content × (reader.size ≡ length (contents asked.content))
  told_asked = subst (IsToldContent given contents reader.size) a.content told

  pub part_given : given asked.content
  part_given = told_asked.0

  pub part_within : asked.from + asked.room ≤ length (contents asked.content)
  part_within = omega (arith, a.from, a.room, a.some, told_asked.1)

  pub part_gives : (part : List ℕ) → part ≡ take asked.room (drop asked.from (contents asked.content))
      → part ≡ take piece_limit (drop reader.given (bytes_of contents reader.content))
  part_gives part is =
      let bytes : bytes_of contents reader.content ≡ contents asked.content = ap (bytes_of contents) a.content in
      let long = ap length bytes in
      let rest = length-drop reader.given (bytes_of contents reader.content) in
      let left : reader.size - reader.given ≡ length (drop reader.given (bytes_of contents reader.content)) =
      omega (arith, rest, long, told_asked.1) in
      is ∙ (λ i. take asked.room (drop (a.from i) (sym bytes i)))
      ∙ ap (λ (k : ℕ). take k (drop reader.given (bytes_of contents reader.content))) (a.room ∙ ap (min piece_limit) left)
      ∙ take_min piece_limit (drop reader.given (bytes_of contents reader.content))
