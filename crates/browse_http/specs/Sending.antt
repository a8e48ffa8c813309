-- What is sent of a file in parts.
use Rattle.std.specs.Prelude.{◌≡◌, ℕ, ◌<◌, ◌≤◌, List, [], ◌∷◌, ◌++◌, length, Option, Some, None, Result, Ok, Err}
use Rattle.stream_traits.specs.Told.{behind, WroteFront}
use Rattle.office_model.specs.declared.event.Event.TheVariants as E
use Rattle.office_model.specs.declared.answer.Answer.TheVariants as A
use Rattle.office_model.specs.declared.refusal.Refusal.{Refusal}
use Rattle.office_model.specs.declared.refusal.Refusal.TheVariants as R
use Rattle.office_model.specs.Meaning.{Reply}
use Rattle.office_model.specs.Step.{Call}
use Rattle.call_scripts.specs.Scripts.{Script}
use Rattle.browse_http.specs.declared.end.End.{End}
use Rattle.browse_http.specs.declared.end.End.TheVariants.{LinkFault, Memory, Cut}
use Rattle.browse_http.specs.declared.files.OpenedFile.{OpenedFile}
use Rattle.browse_http.specs.declared.files.SentPart.{SentPart}
use Rattle.browse_http.specs.declared.files.SentPart.TheVariants as F
use Rattle.browse_http.specs.Scripts.{IsRunOf, Fate, Fine, NoMemory, CutOff, close_script, parts_script, parts_in, parts_fate}

-- behind a first part: no other if it is empty
abbrev pub rest_script : List ℕ → ℕ → ℕ → Script
rest_script [] reader most = close_script reader
rest_script (byte ∷ bytes) reader most = parts_script reader most

-- parts of a file were read and sent behind these bytes, up to its end, or up to one that was refused
pub record SentParts (script : ℕ → Script) (front : List ℕ) {P : Type 0} (moves : P → List Call → P → Type 0) (old new : P)
    (written written' : Option (List ℕ)) (most : ℕ) (fate : Fate) : Type 0 where
  pub calls : List Call
  pub moved : moves old calls new
  pub run : IsRunOf (script most) calls
  pub fate_is : parts_fate calls ≡ fate
  pub wrote : written' ≡ behind written (front ++ parts_in calls)

-- the link failed behind so many of them
pub record FailedParts (script : ℕ → Script) (front : List ℕ) {P : Type 0} (moves : P → List Call → P → Type 0) (old new : P)
    (written written' : Option (List ℕ)) (most : ℕ) : Type 0 where
  pub calls : List Call
  pub moved : moves old calls new
  pub count : ℕ
  pub few : count ≤ most
  pub run : IsRunOf (script count) calls
  pub wrote : WroteFront written written' (front ++ parts_in calls)

-- how sending ended
abbrev pub SendsParts : (script : ℕ → Script) (front : List ℕ) {P : Type 0} (moves : P → List Call → P → Type 0) (old new : P)
    (written written' : Option (List ℕ)) (most : ℕ) → Result Unit End → Type 0
SendsParts script front moves old new written written' most (Ok done) = SentParts script front moves old new written written' most Fine
SendsParts script front moves old new written written' most (Err (Cut refusal)) =
    SentParts script front moves old new written written' most (CutOff refusal)
SendsParts script front moves old new written written' most (Err Memory) =
    SentParts script front moves old new written written' most NoMemory
SendsParts script front moves old new written written' most (Err LinkFault) =
    FailedParts script front moves old new written written' most
SendsParts script front moves old new written written' most (Err end) = ⊥

-- one part was read, which isn't empty, and written; or the link failed within it
pub record TookPart {P : Type 0} (moves : P → List Call → P → Type 0) (old new : P) (written written' : Option (List ℕ)) (reader : ℕ)
    : Type 0 where
  pub bytes : List ℕ
  pub some : 0 < length bytes
  pub moved : moves old ((E.ReadPart reader, Ok (A.Part bytes)) ∷ []) new
  pub wrote : written' ≡ behind written bytes

pub record LostPart {P : Type 0} (moves : P → List Call → P → Type 0) (old new : P) (written written' : Option (List ℕ)) (reader : ℕ)
    : Type 0 where
  pub bytes : List ℕ
  pub some : 0 < length bytes
  pub moved : moves old ((E.ReadPart reader, Ok (A.Part bytes)) ∷ []) new
  pub wrote : WroteFront written written' bytes

-- what came of one part
abbrev pub TakesPart : {P : Type 0} (moves : P → List Call → P → Type 0) (old new : P) (written written' : Option (List ℕ)) (reader : ℕ)
    → SentPart → Type 0
TakesPart moves old new written written' reader F.More = TookPart moves old new written written' reader
TakesPart moves old new written written' reader F.End =
    moves old ((E.ReadPart reader, Ok (A.Part [])) ∷ []) new × (written' ≡ written)
TakesPart moves old new written written' reader (F.Refused refusal) =
    moves old ((E.ReadPart reader, Err refusal) ∷ []) new × (written' ≡ written)
TakesPart moves old new written written' reader F.Failed = LostPart moves old new written written' reader

-- how a part that is refused when the head of its response is out ends the connection
abbrev pub cut_end : Refusal → End
cut_end R.Memory = Memory
cut_end refusal = Cut refusal

-- what comes of so many parts from here on comes of more from there on
abbrev pub LeadsParts : {P : Type 0} (moves : P → List Call → P → Type 0) (old now : P) (w v : Option (List ℕ))
    (reader most left : ℕ) → Type 0
LeadsParts {P = P} moves old now w v reader most left =
    (new : P) (u : Option (List ℕ)) (result : Result Unit End)
    → SendsParts (parts_script reader) [] moves now new v u left result → SendsParts (parts_script reader) [] moves old new w u most result

-- the bytes of a part, if the reply is one
abbrev pub part_told : Reply → Option (List ℕ)
part_told (Ok (A.Part bytes)) = Some bytes
part_told reply = None

-- a file that was opened, if the reply says so
abbrev pub opened_told : Reply → Option OpenedFile
opened_told (Ok (A.Opened reader size)) = Some (record { reader = reader; size = size })
opened_told reply = None
