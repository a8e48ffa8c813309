-- What is called of a body in pieces.
use Rattle.std.specs.Prelude.{◌≡◌, ℕ, Bool, true, false, List, [], ◌∷◌, Option, Some, None, Result, Ok, Err}
use Rattle.http_bodies.specs.declared.body.Body.{Body}
use Rattle.http_bodies.specs.declared.stop.BodyStop.{BodyStop}
use Rattle.office_model.specs.declared.event.Event.{Event}
use Rattle.office_model.specs.declared.refusal.Refusal.{Refusal}
use Rattle.office_model.specs.Meaning.{Reply}
use Rattle.office_model.specs.Step.{Call}
use Rattle.call_scripts.specs.Scripts.{Script}
use Rattle.reply_bodies.specs.Replies.{takes_memory}
use Rattle.browse_http.specs.declared.stages.Answered.{Answered}
use Rattle.browse_http.specs.Scripts.{IsRunOf, drop_script, answering, file_read}
use Rattle.browse_http.specs.Reading.{ReadsAll, ReadsSome}

-- a reply whose response takes memory
abbrev pub Lacks : Reply → Type 0
Lacks (Ok answer) = takes_memory answer ≡ true
Lacks (Err refusal) = ⊥

-- what a request calls in pieces: by the pieces, and whether they are all
abbrev pub InPieces : Type 0
InPieces = List (List ℕ) → Bool → Script

-- the body came whole, and these calls were made of it, of which that one is answered
pub record CallsWhole (script : InPieces) {P : Type 0} (moves : P → List Call → P → Type 0) (old new : P) (body body' : Body)
    (left left' : Option (List ℕ)) (answered : Answered) : Type 0 where
  pub got : List ℕ
  pub reads : ReadsAll body body' left left' got
  pub calls : List Call
  pub moved : moves old calls new
  pub run : IsRunOf (script reads.pieces true) calls
  pub answers : answering calls ≡ Some (answered.event, answered.reply)
  pub plain : file_read calls ≡ None
  pub short : Lacks answered.reply → ⊥

-- it didn't, and these were made of what came
pub record CallsPart (script : InPieces) {P : Type 0} (moves : P → List Call → P → Type 0) (old new : P) (body : Body)
    (left left' : Option (List ℕ)) (stop : BodyStop) : Type 0 where
  pub reads : ReadsSome body left left' stop
  pub calls : List Call
  pub moved : moves old calls new
  pub run : IsRunOf (script reads.pieces false) calls

-- either
abbrev pub CallsBody : (script : InPieces) {P : Type 0} (moves : P → List Call → P → Type 0) (old new : P) (body body' : Body)
    (left left' : Option (List ℕ)) → Result Answered BodyStop → Type 0
CallsBody script moves old new body body' left left' (Ok answered) = CallsWhole script moves old new body body' left left' answered
CallsBody script moves old new body body' left left' (Err stop) = CallsPart script moves old new body left left' stop

-- what comes of a body from here on comes of it from there on
abbrev pub LeadsBody : (script : InPieces) {P : Type 0} (moves : P → List Call → P → Type 0) (old now : P) (a b : Body)
    (l m : Option (List ℕ)) → Type 0
LeadsBody script {P = P} moves old now a b l m =
    (new : P) (c : Body) (r : Option (List ℕ)) (result : Result Answered BodyStop)
    → CallsBody script moves now new b c m r result → CallsBody script moves old new a c l r result

-- the piece that is left at the end, if it isn't empty
abbrev pub rest_piece : List ℕ → List (List ℕ)
rest_piece [] = []
rest_piece (byte ∷ bytes) = (byte ∷ bytes) ∷ []

-- what follows a refusal: perhaps the stage is dropped
pub record CallsLater {P : Type 0} (moves : P → List Call → P → Type 0) (old new : P) (stage : ℕ) (drops : Bool) : Type 0 where
  pub later : List Call
  pub moved : moves old later new
  pub run : IsRunOf (drop_script stage drops) later

-- this event was refused, and what follows that
pub record Refuses {P : Type 0} (moves : P → List Call → P → Type 0) (old new : P) (event : Event) (stage : ℕ)
    (drops : Refusal → Bool) (answered : Answered) : Type 0 where
  pub refusal : Refusal
  pub event_is : answered.event ≡ event
  pub reply_is : answered.reply ≡ Err refusal
  pub later : List Call
  pub moved : moves old ((event, Err refusal) ∷ later) new
  pub run : IsRunOf (drop_script stage (drops refusal)) later

-- the calls of a script were made, of which that one is answered
pub record MakesCalls (script : Script) {P : Type 0} (moves : P → List Call → P → Type 0) (old new : P) (answered : Answered) : Type 0 where
  pub calls : List Call
  pub moved : moves old calls new
  pub run : IsRunOf script calls
  pub answers : answering calls ≡ Some (answered.event, answered.reply)
  pub plain : file_read calls ≡ None
  pub short : Lacks answered.reply → ⊥

-- the rest of a body was dropped, or its reading stopped
abbrev pub DropsRest : (body body' : Body) (left left' : Option (List ℕ)) → Answered → Result Answered BodyStop → Type 0
DropsRest body body' left left' answered (Ok same) = (same ≡ answered) × ((got : List ℕ) × ReadsAll body body' left left' got)
DropsRest body body' left left' answered (Err stop) = ReadsSome body left left' stop
