-- How pieces make a body, and their calls those of a script.
use Rattle.std.proofs.Common.{◌≡◌, ◌≤◌, ◌<◌, ℕ, Bool, true, false, List, [], ◌∷◌, ◌++◌, length, take, Option, Some, Result, Ok, Err, refl, sym, ap, ◌∙◌, subst, inl, inr, arith, append-nil}
use Rattle.std.specs.Prelude.{IfOk, IsErrOf}
use Rattle.std.proofs.lemmas.List.{take-append-le}
use Rattle.http_bodies.specs.declared.body.Body.{Body}
use Rattle.fault_counts.specs.Counts.{Counted}
use Rattle.http_bodies.specs.declared.stop.BodyStop.{BodyStop}
use Rattle.http_bodies.specs.declared.stop.BodyStop.TheVariants as S
use Rattle.http_bodies.specs.Reads.{ReadsPiece, Stops, piece_size}
use Rattle.http_bodies.specs.ReadLaws.{Reads-then}
use Rattle.office_model.specs.declared.event.Event.{Event}
use Rattle.office_model.specs.declared.event.Event.TheVariants as E
use Rattle.office_model.specs.declared.answer.Answer.{Answer}
use Rattle.office_model.specs.declared.answer.Answer.TheVariants as A
use Rattle.office_model.specs.declared.refusal.Refusal.{Refusal}
use Rattle.office_model.specs.Meaning.{Reply}
use Rattle.office_model.specs.Step.{Call, kind_of, meaning_of, IsAnswerTo}
use Rattle.office_model.specs.declared.answer.AnswerKind.{AnswerKind}
use Rattle.office_model.specs.declared.answer.AnswerKind.TheVariants as K
use Rattle.reply_bodies.specs.Replies.{takes_memory}
use Rattle.request_events.specs.declared.plan.FilePut.{FilePut}
use Rattle.browse_http.specs.declared.stages.Answered.{Answered}
use Rattle.browse_http.specs.Pieces.{IsCutUp}
use Rattle.browse_http.specs.Scripts.{staged_event, put_script, pieces_script, stage_script, piece_drops, put_drops, answering, only_reads, ReadOnce}
use Rattle.browse_http.specs.Reading.{ReadsAll, ReadsSome}
use Rattle.browse_http.specs.Staging.{Lacks, CallsBody, CallsLater, Refuses, MakesCalls, rest_piece, DropsRest}

-- ---- pieces

pub rest-cut : (rest : List ℕ) → length rest < piece_size → IsCutUp true (rest_piece rest) rest
rest-cut [] short = refl
rest-cut (byte ∷ bytes) short = ([], sym (append-nil (byte ∷ bytes)), inr (omega arith, short, refl), refl)

abbrev pub ReadsAll-last : (a b : Body) (l r : Option (List ℕ)) (piece : List ℕ) → ReadsPiece a b l r piece → length piece < piece_size → ReadsAll a b l r piece
ReadsAll-last a b l r piece reads short =
    record { pieces = rest_piece piece; cut = rest-cut piece short; reads = reads.reads; done = reads.last short }

pub full : (piece : List ℕ) → length piece ≤ piece_size → piece_size ≤ length piece → length piece ≡ piece_size
full piece few many = omega (arith, few, many)

abbrev pub ReadsAll-more : (a b c : Body) (l m r : Option (List ℕ)) (piece got : List ℕ) → ReadsPiece a b l m piece → piece_size ≤ length piece → ReadsAll b c m r got
    → ReadsAll a c l r (piece ++ got)
ReadsAll-more a b c l m r piece got first many later = record {
  pieces = piece ∷ later.pieces;
  cut = (got, refl, inl (full piece first.fits many), later.cut);
  reads = Reads-then a b c l m r piece got first.reads later.reads;
  done = later.done;
}

abbrev pub ReadsSome-more : (a b : Body) (l m r : Option (List ℕ)) (piece : List ℕ) (stop : BodyStop) → ReadsPiece a b l m piece → piece_size ≤ length piece
    → ReadsSome b m r stop → ReadsSome a l r stop
ReadsSome-more a b l m r piece stop first many later = record {
  place = later.place;
  got = piece ++ later.got;
  pieces = piece ∷ later.pieces;
  cut = (later.got, refl, full piece first.fits many, later.cut);
  reads = Reads-then a b later.place l m r piece later.got first.reads later.reads;
  cause = later.cause;
}

abbrev pub ReadsSome-stop : (a : Body) (l r : Option (List ℕ)) (stop : BodyStop) → Stops a l r stop → ReadsSome a l r stop
ReadsSome-stop a l r stop stops =
    record { place = stops.body; got = stops.got; pieces = []; cut = stops.short; reads = stops.reads; cause = stops.cause }

-- the first bytes of a body are those of its first piece
pub kept-first : (most : ℕ) (piece got : List ℕ) → most ≤ piece_size → piece_size ≤ length piece → take most piece ≡ take most (piece ++ got)
kept-first most piece got few many = sym (take-append-le most piece got (omega (arith, few, many)))

-- ---- calls

answering-more : (event : Event) (answer : Answer) (calls : List Call) (call : Call) → answering calls ≡ Some call → answering ((event, Ok answer) ∷ calls) ≡ Some call
answering-more event answer [] call is = absurd (cc)
answering-more event answer (next ∷ calls) call is = is

-- a piece was called, and then what follows
pub CallsBody-more : (put : FilePut) (stage : ℕ) {P : Type 0} (moves : P → List Call → P → Type 0) → ((p q r : P) (xs ys : List Call) → moves p xs q → moves q ys r → moves p (xs ++ ys) r)
    → (old now new : P) (a b c : Body) (l m r : Option (List ℕ)) (piece : List ℕ) (answer : Answer) (result : Result Answered BodyStop)
    → ReadsPiece a b l m piece → piece_size ≤ length piece → moves old ((E.StagePiece stage piece, Ok answer) ∷ []) now
    → CallsBody (pieces_script put stage) moves now new b c m r result → CallsBody (pieces_script put stage) moves old new a c l r result
CallsBody-more put stage moves joined old now new a b c l m r piece answer (Ok answered) first many moved later = record {
  got = piece ++ later.got;
  reads = ReadsAll-more a b c l m r piece later.got first many later.reads;
  calls = (E.StagePiece stage piece, Ok answer) ∷ later.calls;
  moved = joined old now new ((E.StagePiece stage piece, Ok answer) ∷ []) later.calls moved later.moved;
  run = (refl, later.run);
  answers = answering-more (E.StagePiece stage piece) answer later.calls (answered.event, answered.reply) later.answers;
  plain = refl;
  short = later.short;
}
CallsBody-more put stage moves joined old now new a b c l m r piece answer (Err stop) first many moved later = record {
  reads = ReadsSome-more a b l m r piece stop first many later.reads;
  calls = (E.StagePiece stage piece, Ok answer) ∷ later.calls;
  moved = joined old now new ((E.StagePiece stage piece, Ok answer) ∷ []) later.calls moved later.moved;
  run = (refl, later.run);
}

-- the body stopped, and the stage was dropped
pub CallsBody-stop : (put : FilePut) (stage : ℕ) {P : Type 0} (moves : P → List Call → P → Type 0) (old new : P) (a b : Body) (l r : Option (List ℕ)) (stop : BodyStop)
    (reply : Reply) → Stops a l r stop → moves old ((E.StageDrop stage, reply) ∷ []) new → CallsBody (pieces_script put stage) moves old new a b l r (Err stop)
CallsBody-stop put stage moves old new a b l r stop reply stops moved = record {
  reads = ReadsSome-stop a l r stop stops;
  calls = (E.StageDrop stage, reply) ∷ [];
  moved = moved;
  run = (refl, refl);
}

-- the rest was read, and the file was put
pub CallsBody-last : (put : FilePut) (stage : ℕ) {P : Type 0} (moves : P → List Call → P → Type 0) (old new : P) (a b : Body) (l r : Option (List ℕ)) (piece : List ℕ)
    (answered : Answered) → ReadsPiece a b l r piece → length piece < piece_size → MakesCalls (pieces_script put stage (rest_piece piece) true) moves old new answered
    → CallsBody (pieces_script put stage) moves old new a b l r (Ok answered)
CallsBody-last put stage moves old new a b l r piece answered reads short made = record {
  got = piece;
  reads = ReadsAll-last a b l r piece reads short;
  calls = made.calls;
  moved = made.moved;
  run = made.run;
  answers = made.answers;
  plain = made.plain;
  short = made.short;
}

-- a call that was refused, by its parts
answered_is : (answered : Answered) (event : Event) (refusal : Refusal) → answered.event ≡ event → answered.reply ≡ Err refusal
    → ◌≡◌ {A = Option Call} (Some (event, Err refusal)) (Some (answered.event, answered.reply))
answered_is answered event refusal e f = λ i. Some (sym e i, sym f i)

refused_short : (answered : Answered) (refusal : Refusal) → answered.reply ≡ Err refusal → Lacks answered.reply → ⊥
refused_short answered refusal is lacks = subst (λ reply. Lacks reply) is lacks

same_short : (answered same : Answered) → same ≡ answered → (Lacks answered.reply → ⊥) → Lacks same.reply → ⊥
same_short answered same is short lacks = short (subst (λ (a : Answered). Lacks a.reply) is lacks)

-- a full piece was refused, and the rest of the body was dropped
pub CallsBody-refused : (put : FilePut) (stage : ℕ) {P : Type 0} (moves : P → List Call → P → Type 0) (old new : P) (a b c : Body) (l m r : Option (List ℕ)) (piece : List ℕ)
    (answered : Answered) (result : Result Answered BodyStop) → ReadsPiece a b l m piece → piece_size ≤ length piece
    → Refuses moves old new (E.StagePiece stage piece) stage piece_drops answered → DropsRest b c m r answered result
    → CallsBody (pieces_script put stage) moves old new a c l r result
CallsBody-refused put stage moves old new a b c l m r piece answered (Ok same) first many refuses (is, (got, rest)) = record {
  got = piece ++ got;
  reads = ReadsAll-more a b c l m r piece got first many rest;
  calls = (E.StagePiece stage piece, Err refuses.refusal) ∷ refuses.later;
  moved = refuses.moved;
  run = (refl, refuses.run);
  answers = answered_is answered (E.StagePiece stage piece) refuses.refusal refuses.event_is refuses.reply_is ∙ ap (λ x. Some (x.event, x.reply)) (sym is);
  plain = refl;
  short = same_short answered same is (refused_short answered refuses.refusal refuses.reply_is);
}
CallsBody-refused put stage moves old new a b c l m r piece answered (Err stop) first many refuses some = record {
  reads = ReadsSome-more a b l m r piece stop first many some;
  calls = (E.StagePiece stage piece, Err refuses.refusal) ∷ refuses.later;
  moved = refuses.moved;
  run = (refl, refuses.run);
}

-- no stage was opened, and the body was dropped
pub CallsBody-unopened : (put : FilePut) {P : Type 0} (moves : P → List Call → P → Type 0) (old new : P) (a b : Body) (l r : Option (List ℕ)) (answered : Answered)
    (refusal : Refusal) (result : Result Answered BodyStop) → answered.event ≡ E.StageOpen put.dump → answered.reply ≡ Err refusal
    → moves old ((E.StageOpen put.dump, Err refusal) ∷ []) new → DropsRest a b l r answered result → CallsBody (stage_script put) moves old new a b l r result
CallsBody-unopened put moves old new a b l r answered refusal (Ok same) event reply moved (is, (got, rest)) = record {
  got = got;
  reads = rest;
  calls = (E.StageOpen put.dump, Err refusal) ∷ [];
  moved = moved;
  run = (refl, refl);
  answers = answered_is answered (E.StageOpen put.dump) refusal event reply ∙ ap (λ x. Some (x.event, x.reply)) (sym is);
  plain = refl;
  short = same_short answered same is (refused_short answered refusal reply);
}
CallsBody-unopened put moves old new a b l r answered refusal (Err stop) event reply moved some =
    record { reads = some; calls = (E.StageOpen put.dump, Err refusal) ∷ []; moved = moved; run = (refl, refl) }

-- a stage was opened
pub CallsBody-opened : (put : FilePut) (stage : ℕ) {P : Type 0} (moves : P → List Call → P → Type 0) → ((p q r : P) (xs ys : List Call) → moves p xs q → moves q ys r → moves p (xs ++ ys) r)
    → (old now new : P) (a b : Body) (l r : Option (List ℕ)) (result : Result Answered BodyStop) → moves old ((E.StageOpen put.dump, Ok (A.Stage stage)) ∷ []) now
    → CallsBody (pieces_script put stage) moves now new a b l r result → CallsBody (stage_script put) moves old new a b l r result
CallsBody-opened put stage moves joined old now new a b l r (Ok answered) opened calls = record {
  got = calls.got;
  reads = calls.reads;
  calls = (E.StageOpen put.dump, Ok (A.Stage stage)) ∷ calls.calls;
  moved = joined old now new ((E.StageOpen put.dump, Ok (A.Stage stage)) ∷ []) calls.calls opened calls.moved;
  run = (refl, calls.run);
  answers = answering-more (E.StageOpen put.dump) (A.Stage stage) calls.calls (answered.event, answered.reply) calls.answers;
  plain = refl;
  short = calls.short;
}
CallsBody-opened put stage moves joined old now new a b l r (Err stop) opened calls = record {
  reads = calls.reads;
  calls = (E.StageOpen put.dump, Ok (A.Stage stage)) ∷ calls.calls;
  moved = joined old now new ((E.StageOpen put.dump, Ok (A.Stage stage)) ∷ []) calls.calls opened calls.moved;
  run = (refl, calls.run);
}

-- ---- the put

-- the answers of this kind take memory
reads_kind : AnswerKind → Bool
reads_kind K.Entries = true
reads_kind K.Entry = true
reads_kind K.Hosts = true
reads_kind K.Backups = true
reads_kind K.Next = true
reads_kind _ = false

kind_reads : (answer : Answer) → reads_kind (kind_of answer) ≡ takes_memory answer
unfolding reads_kind
kind_reads A.Done = refl
kind_reads answer = refl

event_reads : (event : Event) → reads_kind (meaning_of event).kind ≡ only_reads event
unfolding reads_kind
event_reads E.Hosts = refl
event_reads event = refl

-- an event whose answer takes memory only reads
pub read_once : (event : Event) (reply : Reply) → IfOk reply (IsAnswerTo event) → Lacks reply → ReadOnce ((event, reply) ∷ [])
read_once event (Ok answer) kind lacks = sym (event_reads event) ∙ ap reads_kind (sym kind) ∙ kind_reads answer ∙ lacks
read_once event (Err refusal) kind lacks = absurd lacks

not_so : false ≡ true → ⊥
not_so e = cc (e)

-- the answer to a put takes none
done_short : (answered : Answered) (put : FilePut) (stage : ℕ) (answer : Answer) → answered.reply ≡ Ok answer → IsAnswerTo (staged_event put stage) answer
    → Lacks answered.reply → ⊥
done_short answered put stage answer is kind lacks =
    let e : takes_memory answer ≡ true = subst (λ reply. Lacks reply) is lacks in
    not_so (sym (event_reads (staged_event put stage)) ∙ ap reads_kind (sym kind) ∙ kind_reads answer ∙ e)

pub MakesCalls-put : (put : FilePut) (stage : ℕ) {P : Type 0} (moves : P → List Call → P → Type 0) (old new : P) (answered : Answered) (answer : Answer)
    → answered.event ≡ staged_event put stage → answered.reply ≡ Ok answer → moves old ((staged_event put stage, Ok answer) ∷ []) new
    → IsAnswerTo (staged_event put stage) answer → MakesCalls (put_script put stage) moves old new answered
MakesCalls-put put stage moves old new answered answer event reply moved kind = record {
  calls = (staged_event put stage, Ok answer) ∷ [];
  moved = moved;
  run = (refl, refl);
  answers = λ i. Some (sym event i, sym reply i);
  plain = refl;
  short = done_short answered put stage answer reply kind;
}

pub MakesCalls-refused : (put : FilePut) (stage : ℕ) {P : Type 0} (moves : P → List Call → P → Type 0) → ((p q r : P) (xs ys : List Call) → moves p xs q → moves q ys r → moves p (xs ++ ys) r)
    → (old now new : P) (answered : Answered) (refusal : Refusal) → answered.event ≡ staged_event put stage → answered.reply ≡ Err refusal
    → moves old ((staged_event put stage, Err refusal) ∷ []) now → CallsLater moves now new stage (put_drops refusal)
    → MakesCalls (put_script put stage) moves old new answered
MakesCalls-refused put stage moves joined old now new answered refusal event reply moved later = record {
  calls = (staged_event put stage, Err refusal) ∷ later.later;
  moved = joined old now new ((staged_event put stage, Err refusal) ∷ []) later.later moved later.moved;
  run = (refl, later.run);
  answers = answered_is answered (staged_event put stage) refusal event reply;
  plain = refl;
  short = refused_short answered refusal reply;
}

-- the last piece was called, and then the put
pub MakesCalls-last : (put : FilePut) (stage byte : ℕ) (bytes : List ℕ) {P : Type 0} (moves : P → List Call → P → Type 0) → ((p q r : P) (xs ys : List Call) → moves p xs q → moves q ys r → moves p (xs ++ ys) r)
    → (old now new : P) (answered : Answered) (answer : Answer) → moves old ((E.StagePiece stage (byte ∷ bytes), Ok answer) ∷ []) now
    → MakesCalls (put_script put stage) moves now new answered → MakesCalls (pieces_script put stage ((byte ∷ bytes) ∷ []) true) moves old new answered
MakesCalls-last put stage byte bytes moves joined old now new answered answer moved puts = record {
  calls = (E.StagePiece stage (byte ∷ bytes), Ok answer) ∷ puts.calls;
  moved = joined old now new ((E.StagePiece stage (byte ∷ bytes), Ok answer) ∷ []) puts.calls moved puts.moved;
  run = (refl, puts.run);
  answers = answering-more (E.StagePiece stage (byte ∷ bytes)) answer puts.calls (answered.event, answered.reply) puts.answers;
  plain = refl;
  short = puts.short;
}

pub MakesCalls-rest : (put : FilePut) (stage : ℕ) (rest : List ℕ) {P : Type 0} (moves : P → List Call → P → Type 0) → ((p q r : P) (xs ys : List Call) → moves p xs q → moves q ys r → moves p (xs ++ ys) r)
    → (old now new : P) (answered : Answered) (answer : Answer) → 0 < length rest → moves old ((E.StagePiece stage rest, Ok answer) ∷ []) now
    → MakesCalls (put_script put stage) moves now new answered → MakesCalls (pieces_script put stage (rest_piece rest) true) moves old new answered
MakesCalls-rest put stage [] moves joined old now new answered answer some moved puts = absurd (omega (arith, some))
MakesCalls-rest put stage (byte ∷ bytes) moves joined old now new answered answer some moved puts =
    MakesCalls-last put stage byte bytes moves joined old now new answered answer moved puts

pub MakesCalls-rest_refused : (put : FilePut) (stage : ℕ) (rest : List ℕ) {P : Type 0} (moves : P → List Call → P → Type 0) (old new : P) (answered : Answered) → 0 < length rest
    → Refuses moves old new (E.StagePiece stage rest) stage piece_drops answered → MakesCalls (pieces_script put stage (rest_piece rest) true) moves old new answered
MakesCalls-rest_refused put stage [] moves old new answered some refuses = absurd (omega (arith, some))
MakesCalls-rest_refused put stage (byte ∷ bytes) moves old new answered some refuses = record {
  calls = (E.StagePiece stage (byte ∷ bytes), Err refuses.refusal) ∷ refuses.later;
  moved = refuses.moved;
  run = (refl, refuses.run);
  answers = answered_is answered (E.StagePiece stage (byte ∷ bytes)) refuses.refusal refuses.event_is refuses.reply_is;
  plain = refl;
  short = refused_short answered refuses.refusal refuses.reply_is;
}

pub MakesCalls-empty : (put : FilePut) (stage : ℕ) (rest : List ℕ) {P : Type 0} (moves : P → List Call → P → Type 0) (old new : P) (answered : Answered) → rest ≡ []
    → MakesCalls (put_script put stage) moves old new answered → MakesCalls (pieces_script put stage (rest_piece rest) true) moves old new answered
MakesCalls-empty put stage rest moves old new answered empty puts =
    subst (λ (xs : List ℕ). MakesCalls (pieces_script put stage (rest_piece xs) true) moves old new answered) (sym empty) puts

pub CallsLater-none : {P : Type 0} (moves : P → List Call → P → Type 0) → ((p : P) → moves p [] p) → (p : P) (stage : ℕ) (drops : Bool) → drops ≡ false
    → CallsLater moves p p stage drops
CallsLater-none moves none p stage drops is =
    subst (λ d. CallsLater moves p p stage d) (sym is) (record { later = []; moved = none p; run = refl })

pub CallsLater-drop : {P : Type 0} (moves : P → List Call → P → Type 0) (old new : P) (stage : ℕ) (drops : Bool) (reply : Reply) → drops ≡ true
    → moves old ((E.StageDrop stage, reply) ∷ []) new → CallsLater moves old new stage drops
CallsLater-drop moves old new stage drops reply is moved =
    subst (λ d. CallsLater moves old new stage d) (sym is) (record { later = (E.StageDrop stage, reply) ∷ []; moved = moved; run = (refl, refl) })

pub Refuses-made : {P : Type 0} (moves : P → List Call → P → Type 0) → ((p q r : P) (xs ys : List Call) → moves p xs q → moves q ys r → moves p (xs ++ ys) r)
    → (old now new : P) (event : Event) (stage : ℕ) (drops : Refusal → Bool) (answered : Answered) (refusal : Refusal) → answered.event ≡ event
    → answered.reply ≡ Err refusal → moves old ((event, Err refusal) ∷ []) now → CallsLater moves now new stage (drops refusal)
    → Refuses moves old new event stage drops answered
Refuses-made moves joined old now new event stage drops answered refusal event_is reply_is moved later = record {
  refusal = refusal;
  event_is = event_is;
  reply_is = reply_is;
  later = later.later;
  moved = joined old now new ((event, Err refusal) ∷ []) later.later moved later.moved;
  run = later.run;
}

-- the count of faults of a reading that stopped, whatever it would have given
pub stop_counted : (A B : Type 0) (old new : ℕ) (stop : BodyStop) → Counted old new (IsErrOf {T = A} {E = BodyStop} (Err stop) S.LinkFault)
    → Counted old new (IsErrOf {T = B} {E = BodyStop} (Err stop) S.LinkFault)
stop_counted A B old new stop counted = record {
  later = counted.later;
  rose = λ e. let is : stop ≡ S.LinkFault = cc (e) in counted.rose (ap Err is);
  stays = λ no. counted.stays (λ e. let is : stop ≡ S.LinkFault = cc (e) in no (ap Err is));
}
