-- A part of a reader, as the parts of an office give it.
use Rattle.std.specs.Prelude.{◌≡◌, ◌<◌, ◌≤◌, ℕ, ◌+◌, List, length, take, drop, get_or, Some, Ok, slice_get, slice_set}
use Rattle.std.proofs.Common.{refl, sym, ap, ◌∙◌, subst, arith, length-take, length-drop}
use Rattle.std.proofs.lemmas.Option.{slice_get-get_or, get_or_from_slice_get}
use Rattle.office_model.specs.Office.{Reader, AreReaders, reader_index}
use Rattle.office_model.specs.events.ReadPart.{part_of, moved_on, given}

-- what is known of a reader that was found
pub record ReaderThere (readers : List Reader) (index : ℕ) (reader : Reader) : Type 0 where
  pub is_reader : slice_get readers index ≡ Some reader
  pub place : reader.position ≤ length reader.content

pub reader_there : (readers slice : List Reader) (index : ℕ) (reader : Reader) → AreReaders readers → slice ≡ readers
    → index < length slice → reader ≡ get_or readers index reader → ReaderThere readers index reader
reader_there readers slice index reader are same inside is =
    let inside : index < length readers = subst (λ rs. index < length rs) same inside in
    let at : slice_get readers index ≡ Some reader = slice_get-get_or readers index reader inside ∙ ap Some (sym is) in
    record { is_reader = at; place = are.places index reader at }

part_within : (room : ℕ) (content : List ℕ) (position : ℕ) → position ≤ length content
    → position + length (take room (drop position content)) ≤ length content
part_within room content position place =
    let part = length-take room (drop position content) in
    let rest = length-drop position content in
    omega (arith, part, rest, place)

-- the reader moves on within its content
pub part_fits : (room : ℕ) (readers : List Reader) (index : ℕ) (reader again : Reader) (part : List ℕ) → ReaderThere readers index reader
    → again ≡ get_or readers index again → part ≡ part_of room reader → again.position + length part ≤ length again.content
part_fits room readers index reader again part at again_is part_is =
    let same : again ≡ reader = again_is ∙ get_or_from_slice_get readers index reader again at.is_reader in
    rw (same, part_is) (part_within room reader.content reader.position at.place)

pub given_is : (room number : ℕ) (readers slice : List Reader) (index : ℕ) (reader again reader' : Reader) (part : List ℕ)
    → ReaderThere readers index reader → slice ≡ readers → reader_index slice number ≡ Some index → again ≡ get_or readers index again
    → part ≡ part_of room reader → reader' ≡ record again { position = again.position + length part }
    → given room number readers ≡ Ok (record { part = part; readers = slice_set readers index reader' })
given_is room number readers slice index reader again reader' part at same there again_is part_is reader_is =
    let there : reader_index readers number ≡ Some index = subst (λ rs. reader_index rs number ≡ Some index) same there in
    let same_reader : again ≡ reader = again_is ∙ get_or_from_slice_get readers index reader again at.is_reader in
    let made : reader' ≡ moved_on room reader = reader_is ∙ ap (λ (r : Reader). record r { position = r.position + length part }) same_reader
    ∙ ap (λ p. record reader { position = reader.position + length p }) part_is in
    rw (made, part_is) (rw (there, at.is_reader) refl)
