-- How parts make a file, and what is answered to calls.
use Rattle.std.proofs.Common.{◌≡◌, ◌≤◌, ◌<◌, ℕ, Bool, true, false, zero, suc, List, [], ◌∷◌, ◌++◌, length, take, Option, Some, None, Result, Ok, Err, refl, sym, ap, ◌∙◌, subst, inl, inr, arith, append_assoc, append-nil, IfOk, unwrap_or}
use Rattle.stream_traits.specs.Told.{behind, WroteFront}
use Rattle.stream_traits.specs.ToldLaws.{behind_nil, behind_append, WroteFront-after}
use Rattle.http_wire.specs.Message.{bytes_head, no_memory_response}
use Rattle.office_model.specs.declared.event.Event.{Event}
use Rattle.office_model.specs.declared.event.Event.TheVariants as E
use Rattle.office_model.specs.declared.answer.Answer.{Answer}
use Rattle.office_model.specs.declared.answer.Answer.TheVariants as A
use Rattle.office_model.specs.declared.refusal.Refusal.{Refusal}
use Rattle.office_model.specs.declared.refusal.Refusal.TheVariants as R
use Rattle.office_model.specs.Meaning.{Reply}
use Rattle.office_model.specs.Step.{Call, kind_of, IsAnswerTo}
use Rattle.office_model.specs.declared.answer.AnswerKind.TheVariants as K
use Rattle.call_scripts.specs.Scripts.{one_call}
use Rattle.http_replies.specs.Messages.{reply_response}
use Rattle.browse_http.specs.declared.end.End.{End}
use Rattle.browse_http.specs.declared.end.End.TheVariants.{Ended, Truncated, BadRequest, LinkFault, Memory, Cut}
use Rattle.browse_http.specs.declared.files.OpenedFile.{OpenedFile}
use Rattle.browse_http.specs.Scripts.{IsRunOf, Fate, Fine, NoMemory, CutOff, reply_fate, cut_fate, answering, file_read, response_by, fate_by, calls_response, calls_fate, parts_in, parts_script, parts_behind, parts_wanted, event_script, is_memory}
use Rattle.browse_http.specs.Reading.{SaysLast}
use Rattle.browse_http.specs.Sending.{SentParts, FailedParts, SendsParts, TookPart, LostPart, rest_script, cut_end, part_told, opened_told}
use Rattle.browse_http.specs.Talk.{Outcome, Refused, Called, Stopped, Unsaid, Lost}
use Rattle.browse_http.specs.Serving.{Answers, AnswersLast, EndsReply, Responds, EndsCalled, CarriesOut, CarriesOutLast, Behind, IsOf, IsFile, is_open}
use Rattle.browse_http.proofs.StageLemmas.{read_once}

-- ---- parts

module _ {P : Type 0} (moves : P → List Call → P → Type 0) (joined : (p q r : P) (xs ys : List Call) → moves p xs q → moves q ys r → moves p (xs ++ ys) r) (reader : ℕ) where
  sent-more : (old now new : P) (w v u : Option (List ℕ)) (after : ℕ) (fate : Fate) (bytes : List ℕ) → 0 < length bytes
      → moves old ((E.ReadPart reader, Ok (A.Part bytes)) ∷ []) now → v ≡ behind w bytes
      → SentParts (parts_script reader) [] moves now new v u after fate → SentParts (parts_script reader) [] moves old new w u (suc after) fate
  sent-more old now new w v u after fate [] some moved wrote later = absurd (omega (arith, some))
  sent-more old now new w v u after fate (b ∷ bs) some moved wrote later = record {
    calls = (E.ReadPart reader, Ok (A.Part (b ∷ bs))) ∷ later.calls;
    moved = joined old now new ((E.ReadPart reader, Ok (A.Part (b ∷ bs))) ∷ []) later.calls moved later.moved;
    run = (refl, later.run);
    fate_is = later.fate_is;
    wrote = later.wrote ∙ ap (λ t. behind t (parts_in later.calls)) wrote ∙ sym (behind_append w (b ∷ bs) (parts_in later.calls));
  }

  failed-more : (old now new : P) (w v u : Option (List ℕ)) (after : ℕ) (bytes : List ℕ) → 0 < length bytes
      → moves old ((E.ReadPart reader, Ok (A.Part bytes)) ∷ []) now → v ≡ behind w bytes
      → FailedParts (parts_script reader) [] moves now new v u after → FailedParts (parts_script reader) [] moves old new w u (suc after)
  failed-more old now new w v u after [] some moved wrote later = absurd (omega (arith, some))
  failed-more old now new w v u after (b ∷ bs) some moved wrote later = record {
    calls = (E.ReadPart reader, Ok (A.Part (b ∷ bs))) ∷ later.calls;
    moved = joined old now new ((E.ReadPart reader, Ok (A.Part (b ∷ bs))) ∷ []) later.calls moved later.moved;
    count = suc later.count;
    few = omega (arith, later.few);
    run = (refl, later.run);
    wrote = WroteFront-after w v u (b ∷ bs) (parts_in later.calls) wrote later.wrote;
  }

  -- one more part
  pub SendsParts-more : (old now new : P) (w v u : Option (List ℕ)) (most after : ℕ) (result : Result Unit End) → most ≡ suc after → TookPart moves old now w v reader
      → SendsParts (parts_script reader) [] moves now new v u after result → SendsParts (parts_script reader) [] moves old new w u most result
  SendsParts-more old now new w v u most after (Ok done) is took later =
      subst (λ n. SentParts (parts_script reader) [] moves old new w u n Fine) (sym is) (sent-more old now new w v u after Fine took.bytes took.some took.moved took.wrote later)
  SendsParts-more old now new w v u most after (Err (Cut refusal)) is took later =
      subst (λ n. SentParts (parts_script reader) [] moves old new w u n (CutOff refusal)) (sym is)
      (sent-more old now new w v u after (CutOff refusal) took.bytes took.some took.moved took.wrote later)
  SendsParts-more old now new w v u most after (Err Memory) is took later =
      subst (λ n. SentParts (parts_script reader) [] moves old new w u n NoMemory) (sym is)
      (sent-more old now new w v u after NoMemory took.bytes took.some took.moved took.wrote later)
  SendsParts-more old now new w v u most after (Err LinkFault) is took later =
      subst (λ n. FailedParts (parts_script reader) [] moves old new w u n) (sym is) (failed-more old now new w v u after took.bytes took.some took.moved took.wrote later)
  SendsParts-more old now new w v u most after (Err Ended) is took later = absurd later
  SendsParts-more old now new w v u most after (Err Truncated) is took later = absurd later
  SendsParts-more old now new w v u most after (Err BadRequest) is took later = absurd later

  -- all that may come came
  pub SendsParts-done : (old new : P) (w : Option (List ℕ)) (most : ℕ) (done : Unit) (reply : Reply) → most ≡ 0 → moves old ((E.CloseFile reader, reply) ∷ []) new
      → SendsParts (parts_script reader) [] moves old new w w most (Ok done)
  SendsParts-done old new w most done reply is moved = subst (λ n. SentParts (parts_script reader) [] moves old new w w n Fine) (sym is) (record {
    calls = (E.CloseFile reader, reply) ∷ [];
    moved = moved;
    run = (refl, refl);
    fate_is = refl;
    wrote = sym (behind_nil w);
  })

  -- the file is at its end
  pub SendsParts-end : (old now new : P) (w v : Option (List ℕ)) (most after : ℕ) (done : Unit) (reply : Reply) → most ≡ suc after
      → moves old ((E.ReadPart reader, Ok (A.Part [])) ∷ []) now → v ≡ w → moves now ((E.CloseFile reader, reply) ∷ []) new
      → SendsParts (parts_script reader) [] moves old new w v most (Ok done)
  SendsParts-end old now new w v most after done reply is moved same closed = subst (λ n. SentParts (parts_script reader) [] moves old new w v n Fine) (sym is) (record {
    calls = (E.ReadPart reader, Ok (A.Part [])) ∷ (E.CloseFile reader, reply) ∷ [];
    moved = joined old now new ((E.ReadPart reader, Ok (A.Part [])) ∷ []) ((E.CloseFile reader, reply) ∷ []) moved closed;
    run = (refl, (refl, refl));
    fate_is = refl;
    wrote = same ∙ sym (behind_nil w);
  })

  refused-part : (old now new : P) (w v : Option (List ℕ)) (after : ℕ) (refusal : Refusal) (reply : Reply)
      → moves old ((E.ReadPart reader, Err refusal) ∷ []) now → v ≡ w → moves now ((E.CloseFile reader, reply) ∷ []) new
      → SentParts (parts_script reader) [] moves old new w v (suc after) (cut_fate refusal)
  refused-part old now new w v after refusal reply moved same closed = record {
    calls = (E.ReadPart reader, Err refusal) ∷ (E.CloseFile reader, reply) ∷ [];
    moved = joined old now new ((E.ReadPart reader, Err refusal) ∷ []) ((E.CloseFile reader, reply) ∷ []) moved closed;
    run = (refl, (refl, refl));
    fate_is = refl;
    wrote = same ∙ sym (behind_nil w);
  }

  cut_sends : (old new : P) (w v : Option (List ℕ)) (most : ℕ) (refusal : Refusal) → SentParts (parts_script reader) [] moves old new w v most (cut_fate refusal)
      → SendsParts (parts_script reader) [] moves old new w v most (Err (cut_end refusal))
  cut_sends old new w v most R.Memory sent = sent
  cut_sends old new w v most (R.Broken rule) sent = sent
  cut_sends old new w v most R.Halted sent = sent
  cut_sends old new w v most R.DiskFault sent = sent
  cut_sends old new w v most (R.Damaged file found) sent = sent

  -- a part was refused
  pub SendsParts-refused : (old now new : P) (w v : Option (List ℕ)) (most after : ℕ) (refusal : Refusal) (end : End) (reply : Reply) → most ≡ suc after
      → moves old ((E.ReadPart reader, Err refusal) ∷ []) now → v ≡ w → moves now ((E.CloseFile reader, reply) ∷ []) new → end ≡ cut_end refusal
      → SendsParts (parts_script reader) [] moves old new w v most (Err end)
  SendsParts-refused old now new w v most after refusal end reply is moved same closed ends =
      subst (λ e. SendsParts (parts_script reader) [] moves old new w v most (Err e)) (sym ends)
      (cut_sends old new w v most refusal (subst (λ n. SentParts (parts_script reader) [] moves old new w v n (cut_fate refusal)) (sym is)
      (refused-part old now new w v after refusal reply moved same closed)))

  failed-part : (old now new : P) (w v : Option (List ℕ)) (after : ℕ) (reply : Reply) (bytes : List ℕ) → 0 < length bytes
      → moves old ((E.ReadPart reader, Ok (A.Part bytes)) ∷ []) now → WroteFront w v bytes → moves now ((E.CloseFile reader, reply) ∷ []) new
      → FailedParts (parts_script reader) [] moves old new w v (suc after)
  failed-part old now new w v after reply [] some moved wrote closed = absurd (omega (arith, some))
  failed-part old now new w v after reply (b ∷ bs) some moved wrote closed = record {
    calls = (E.ReadPart reader, Ok (A.Part (b ∷ bs))) ∷ (E.CloseFile reader, reply) ∷ [];
    moved = joined old now new ((E.ReadPart reader, Ok (A.Part (b ∷ bs))) ∷ []) ((E.CloseFile reader, reply) ∷ []) moved closed;
    count = suc zero;
    few = omega arith;
    run = (refl, (refl, refl));
    wrote = subst (λ (xs : List ℕ). WroteFront w v xs) (sym (append-nil (b ∷ bs))) wrote;
  }

  -- the link failed
  pub SendsParts-failed : (old now new : P) (w v : Option (List ℕ)) (most after : ℕ) (reply : Reply) → most ≡ suc after → LostPart moves old now w v reader
      → moves now ((E.CloseFile reader, reply) ∷ []) new → SendsParts (parts_script reader) [] moves old new w v most (Err LinkFault)
  SendsParts-failed old now new w v most after reply is lost closed =
      subst (λ n. FailedParts (parts_script reader) [] moves old new w v n) (sym is)
      (failed-part old now new w v after reply lost.bytes lost.some lost.moved lost.wrote closed)

  -- ---- behind the first part

  close_runs : (first : List ℕ) (reply : Reply) → IsRunOf (rest_script first reader zero) ((E.CloseFile reader, reply) ∷ [])
  close_runs [] reply = (refl, refl)
  close_runs (b ∷ bs) reply = (refl, refl)

  pub SendsRest-failed : (old new : P) (w v : Option (List ℕ)) (most : ℕ) (first front : List ℕ) (reply : Reply) → WroteFront w v front
      → moves old ((E.CloseFile reader, reply) ∷ []) new → SendsParts (rest_script first reader) front moves old new w v most (Err LinkFault)
  SendsRest-failed old new w v most first front reply wrote closed = record {
    calls = (E.CloseFile reader, reply) ∷ [];
    moved = closed;
    count = zero;
    few = omega arith;
    run = close_runs first reply;
    wrote = subst (λ (xs : List ℕ). WroteFront w v xs) (sym (append-nil front)) wrote;
  }

  pub SendsRest-empty : (old new : P) (w v : Option (List ℕ)) (most : ℕ) (first front : List ℕ) (done : Unit) (reply : Reply) → first ≡ [] → v ≡ behind w front
      → moves old ((E.CloseFile reader, reply) ∷ []) new → SendsParts (rest_script first reader) front moves old new w v most (Ok done)
  SendsRest-empty old new w v most first front done reply empty wrote closed =
      subst (λ (xs : List ℕ). SentParts (rest_script xs reader) front moves old new w v most Fine) (sym empty) (record {
        calls = (E.CloseFile reader, reply) ∷ [];
        moved = closed;
        run = (refl, refl);
        fate_is = refl;
        wrote = wrote ∙ ap (behind w) (sym (append-nil front));
      })

  some_runs : (first : List ℕ) (most : ℕ) (calls : List Call) → 0 < length first → IsRunOf (parts_script reader most) calls → IsRunOf (rest_script first reader most) calls
  some_runs [] most calls some run = absurd (omega (arith, some))
  some_runs (b ∷ bs) most calls some run = run

  rest-sent : (old new : P) (w v u : Option (List ℕ)) (most : ℕ) (first front : List ℕ) (fate : Fate) → 0 < length first → v ≡ behind w front
      → SentParts (parts_script reader) [] moves old new v u most fate → SentParts (rest_script first reader) front moves old new w u most fate
  rest-sent old new w v u most first front fate some wrote sent = record {
    calls = sent.calls;
    moved = sent.moved;
    run = some_runs first most sent.calls some sent.run;
    fate_is = sent.fate_is;
    wrote = sent.wrote ∙ ap (λ t. behind t (parts_in sent.calls)) wrote ∙ sym (behind_append w front (parts_in sent.calls));
  }

  pub SendsRest-sent : (old new : P) (w v u : Option (List ℕ)) (most : ℕ) (first front : List ℕ) (result : Result Unit End) → 0 < length first → v ≡ behind w front
      → SendsParts (parts_script reader) [] moves old new v u most result → SendsParts (rest_script first reader) front moves old new w u most result
  SendsRest-sent old new w v u most first front (Ok done) some wrote sent = rest-sent old new w v u most first front Fine some wrote sent
  SendsRest-sent old new w v u most first front (Err (Cut refusal)) some wrote sent = rest-sent old new w v u most first front (CutOff refusal) some wrote sent
  SendsRest-sent old new w v u most first front (Err Memory) some wrote sent = rest-sent old new w v u most first front NoMemory some wrote sent
  SendsRest-sent old new w v u most first front (Err LinkFault) some wrote sent = record {
    calls = sent.calls;
    moved = sent.moved;
    count = sent.count;
    few = sent.few;
    run = some_runs first sent.count sent.calls some sent.run;
    wrote = WroteFront-after w v u front (parts_in sent.calls) wrote sent.wrote;
  }
  SendsRest-sent old new w v u most first front (Err Ended) some wrote sent = absurd sent
  SendsRest-sent old new w v u most first front (Err Truncated) some wrote sent = absurd sent
  SendsRest-sent old new w v u most first front (Err BadRequest) some wrote sent = absurd sent

-- ---- the answer to calls

pub answered : (w v : Option (List ℕ)) (calls : List Call) (call : Call) (closes is_head : Bool) → answering calls ≡ Some call → file_read calls ≡ None
    → Answers w v call closes is_head → Responds w v (Called calls) closes is_head
answered w v calls call closes is_head answers plain said = record {
  wrote = said.wrote ∙ ap (λ f. behind w (response_by f (Some call) closes is_head)) (sym plain)
      ∙ ap (λ a. behind w (response_by (file_read calls) a closes is_head)) (sym answers);
  stays_open = said.stays_open;
  fine = ap (λ f. fate_by f (answering calls)) plain ∙ ap (fate_by None) answers ∙ said.fine;
}

response_is : (calls : List Call) (call : Call) (closes is_head : Bool) → answering calls ≡ Some call → file_read calls ≡ None
    → reply_response call.0 call.1 closes is_head ≡ calls_response calls closes is_head
response_is calls call closes is_head answers plain =
    ap (λ f. response_by f (Some call) closes is_head) (sym plain) ∙ ap (λ a. response_by (file_read calls) a closes is_head) (sym answers)

fate_is : (calls : List Call) (call : Call) → answering calls ≡ Some call → file_read calls ≡ None → calls_fate calls ≡ reply_fate call.1
fate_is calls call answers plain = ap (λ f. fate_by f (answering calls)) plain ∙ ap (fate_by None) answers

pub answered_last : (w v : Option (List ℕ)) (calls : List Call) (call : Call) (closes is_head : Bool) (end : End) → answering calls ≡ Some call → file_read calls ≡ None
    → AnswersLast w v call closes is_head end → EndsCalled w v (Called calls) closes is_head end
answered_last w v calls call closes is_head Ended answers plain (last, fine, wrote) = record {
  response = calls_response calls closes is_head;
  wrote = wrote ∙ ap (behind w) (response_is calls call closes is_head answers plain);
  stops = (last, fate_is calls call answers plain ∙ fine, refl);
}
answered_last w v calls call closes is_head Memory answers plain (lost, wrote) = record {
  response = calls_response calls closes is_head;
  wrote = wrote ∙ ap (behind w) (response_is calls call closes is_head answers plain);
  stops = (fate_is calls call answers plain ∙ lost, refl);
}
answered_last w v calls call closes is_head LinkFault answers plain front = record {
  response = take front.count (reply_response call.0 call.1 closes is_head);
  wrote = front.wrote;
  stops = (front.count, ap (take front.count) (response_is calls call closes is_head answers plain));
}
answered_last w v calls call closes is_head Truncated answers plain said = absurd said
answered_last w v calls call closes is_head BadRequest answers plain said = absurd said
answered_last w v calls call closes is_head (Cut refusal) answers plain said = absurd said

-- the connection ended by the response to a refusal
pub answered_refused : (w v : Option (List ℕ)) (calls : List Call) (event : Event) (refusal : Refusal) (closes is_head : Bool) (end : End)
    → answering calls ≡ Some (event, Err refusal) → file_read calls ≡ None → EndsReply w v (event, Err refusal) closes is_head end
    → EndsCalled w v (Called calls) closes is_head end
answered_refused w v calls event refusal closes is_head end answers plain (inl said) =
    answered_last w v calls (event, Err refusal) closes is_head end answers plain said
answered_refused w v calls event refusal closes is_head end answers plain (inr (lacks, says)) = absurd lacks

pub memory_fate : (reply : Reply) → is_memory reply ≡ true → reply_fate reply ≡ NoMemory
memory_fate (Err R.Memory) e = refl
memory_fate reply e = absurd (cc (e))

pub other_fate : (reply : Reply) → is_memory reply ≡ false → reply_fate reply ≡ Fine
other_fate (Err R.Memory) e = absurd (cc (e))
other_fate reply e = refl

-- ---- one call

one_answering : (call : Call) → answering (call ∷ []) ≡ Some call
one_answering (event, Ok answer) = refl
one_answering (event, Err refusal) = refl

one_plain : (event : Event) (reply : Reply) → is_open event ≡ false → file_read ((event, reply) ∷ []) ≡ None
one_plain (E.OpenFile host number path) reply e = absurd (cc)
one_plain event reply e = refl

one_run : (event : Event) → is_open event ≡ false → (calls : List Call) → IsRunOf (one_call event) calls → IsRunOf (event_script event None) calls
one_run (E.OpenFile host number path) e calls run = absurd (cc)
one_run event e calls run = run

pub one_carries : {P : Type 0} (moves : P → List Call → P → Type 0) (old new : P) (w v : Option (List ℕ)) (event : Event) (reply : Reply) (closes is_head : Bool)
    → is_open event ≡ false → moves old ((event, reply) ∷ []) new → Answers w v (event, reply) closes is_head
    → CarriesOut (IsOf (Ok event)) moves old new w v closes is_head
one_carries moves old new w v event reply closes is_head shut moved said = record {
  outcome = Called ((event, reply) ∷ []);
  is_of = one_run event shut ((event, reply) ∷ []) (refl, refl);
  moved = moved;
  responds = answered w v ((event, reply) ∷ []) (event, reply) closes is_head (one_answering (event, reply)) (one_plain event reply shut) said;
}

unsaid_ends : (w v : Option (List ℕ)) (calls : List Call) (closes is_head : Bool) (end : End)
    → SaysLast no_memory_response Memory w v end → EndsCalled w v (Unsaid calls) closes is_head end
unsaid_ends w v calls closes is_head end (inl (is, wrote)) =
    subst (λ e. EndsCalled w v (Unsaid calls) closes is_head e) (sym is)
    (record { response = no_memory_response; wrote = wrote; stops = (refl, refl) })
unsaid_ends w v calls closes is_head end (inr (is, front)) =
    subst (λ e. EndsCalled w v (Unsaid calls) closes is_head e) (sym is)
    (record { response = take front.count no_memory_response; wrote = front.wrote; stops = (front.count, refl) })

pub one_carries_last : {P : Type 0} (moves : P → List Call → P → Type 0) (old new : P) (w v : Option (List ℕ)) (event : Event) (reply : Reply) (closes is_head : Bool) (end : End)
    → is_open event ≡ false → moves old ((event, reply) ∷ []) new → IfOk reply (IsAnswerTo event) → EndsReply w v (event, reply) closes is_head end
    → CarriesOutLast (IsOf (Ok event)) moves old new w v closes is_head end
one_carries_last moves old new w v event reply closes is_head end shut moved kind (inl said) = record {
  outcome = Called ((event, reply) ∷ []);
  is_of = one_run event shut ((event, reply) ∷ []) (refl, refl);
  moved = moved;
  ends = answered_last w v ((event, reply) ∷ []) (event, reply) closes is_head end (one_answering (event, reply)) (one_plain event reply shut) said;
}
one_carries_last moves old new w v event reply closes is_head end shut moved kind (inr (lacks, says)) = record {
  outcome = Unsaid ((event, reply) ∷ []);
  is_of = (one_run event shut ((event, reply) ∷ []) (refl, refl), read_once event reply kind lacks);
  moved = moved;
  ends = unsaid_ends w v ((event, reply) ∷ []) closes is_head end says;
}

-- ---- a file

module _ {P : Type 0} (moves : P → List Call → P → Type 0) (joined : (p q r : P) (xs ys : List Call) → moves p xs q → moves q ys r → moves p (xs ++ ys) r)
    (host : List ℕ) (number : ℕ) (path : List ℕ) (reader size : ℕ) where
  first_runs : (first : List ℕ) (most : ℕ) (calls : List Call) → IsRunOf (rest_script first reader most) calls
      → IsRunOf (λ later. parts_script reader (suc most) ((E.ReadPart reader, Ok (A.Part first)) ∷ later)) calls
  first_runs [] most calls run = run
  first_runs (b ∷ bs) most calls run = run

  all_calls : List ℕ → List Call → List Call
  all_calls first calls = (E.OpenFile host number path, Ok (A.Opened reader size)) ∷ (E.ReadPart reader, Ok (A.Part first)) ∷ calls

  moved_all : (before old now new : P) (first : List ℕ) (calls : List Call) → moves before ((E.OpenFile host number path, Ok (A.Opened reader size)) ∷ []) old
      → moves old ((E.ReadPart reader, Ok (A.Part first)) ∷ []) now → moves now calls new
      → moves before ((E.OpenFile host number path, Ok (A.Opened reader size)) ∷ (E.ReadPart reader, Ok (A.Part first)) ∷ calls) new
  moved_all before old now new first calls opened read rest =
      joined before old new ((E.OpenFile host number path, Ok (A.Opened reader size)) ∷ []) ((E.ReadPart reader, Ok (A.Part first)) ∷ calls) opened
      (joined old now new ((E.ReadPart reader, Ok (A.Part first)) ∷ []) calls read rest)

  wrote_all : (w v : Option (List ℕ)) (first : List ℕ) (calls : List Call) (closes : Bool) → v ≡ behind w ((bytes_head size closes ++ first) ++ parts_in calls)
      → v ≡ behind w (bytes_head size closes ++ (first ++ parts_in calls))
  wrote_all w v first calls closes wrote = wrote ∙ ap (behind w) (append_assoc (bytes_head size closes) first (parts_in calls))

  pub file_goes : (before old now new : P) (w v : Option (List ℕ)) (first : List ℕ) (closes is_head : Bool) → moves before ((E.OpenFile host number path, Ok (A.Opened reader size)) ∷ []) old
      → moves old ((E.ReadPart reader, Ok (A.Part first)) ∷ []) now
      → SentParts (rest_script first reader) (bytes_head size closes ++ first) moves now new w v (parts_behind size) Fine → closes ≡ false
      → CarriesOut (IsFile (E.OpenFile host number path)) moves before new w v closes is_head
  file_goes before old now new w v first closes is_head opened read sent stays = record {
    outcome = Called ((E.OpenFile host number path, Ok (A.Opened reader size)) ∷ (E.ReadPart reader, Ok (A.Part first)) ∷ sent.calls);
    is_of = (refl, (refl, first_runs first (parts_behind size) sent.calls sent.run));
    moved = moved_all before old now new first sent.calls opened read sent.moved;
    responds = record { wrote = wrote_all w v first sent.calls closes sent.wrote; stays_open = stays; fine = sent.fate_is };
  }

  pub file_ended : (before old now new : P) (w v : Option (List ℕ)) (first : List ℕ) (closes is_head : Bool) → moves before ((E.OpenFile host number path, Ok (A.Opened reader size)) ∷ []) old
      → moves old ((E.ReadPart reader, Ok (A.Part first)) ∷ []) now
      → SentParts (rest_script first reader) (bytes_head size closes ++ first) moves now new w v (parts_behind size) Fine → closes ≡ true
      → CarriesOutLast (IsFile (E.OpenFile host number path)) moves before new w v closes is_head Ended
  file_ended before old now new w v first closes is_head opened read sent last = record {
    outcome = Called ((E.OpenFile host number path, Ok (A.Opened reader size)) ∷ (E.ReadPart reader, Ok (A.Part first)) ∷ sent.calls);
    is_of = (refl, (refl, first_runs first (parts_behind size) sent.calls sent.run));
    moved = moved_all before old now new first sent.calls opened read sent.moved;
    ends = record {
      response = bytes_head size closes ++ (first ++ parts_in sent.calls);
      wrote = wrote_all w v first sent.calls closes sent.wrote;
      stops = (last, sent.fate_is, refl);
    };
  }

  least : (count : ℕ) → count ≤ parts_behind size → parts_wanted (Some count) (parts_behind size) ≡ count
  least count few = omega (arith, few)

  pub file_ends : (before old now new : P) (w v : Option (List ℕ)) (first : List ℕ) (closes is_head : Bool) (end : End) → moves before ((E.OpenFile host number path, Ok (A.Opened reader size)) ∷ []) old
      → moves old ((E.ReadPart reader, Ok (A.Part first)) ∷ []) now
      → SendsParts (rest_script first reader) (bytes_head size closes ++ first) moves now new w v (parts_behind size) (Err end)
      → CarriesOutLast (IsFile (E.OpenFile host number path)) moves before new w v closes is_head end
  file_ends before old now new w v first closes is_head (Cut refusal) opened read sent = record {
    outcome = Called ((E.OpenFile host number path, Ok (A.Opened reader size)) ∷ (E.ReadPart reader, Ok (A.Part first)) ∷ sent.calls);
    is_of = (refl, (refl, first_runs first (parts_behind size) sent.calls sent.run));
    moved = moved_all before old now new first sent.calls opened read sent.moved;
    ends = record {
      response = bytes_head size closes ++ (first ++ parts_in sent.calls);
      wrote = wrote_all w v first sent.calls closes sent.wrote;
      stops = (sent.fate_is, refl);
    };
  }
  file_ends before old now new w v first closes is_head Memory opened read sent = record {
    outcome = Called ((E.OpenFile host number path, Ok (A.Opened reader size)) ∷ (E.ReadPart reader, Ok (A.Part first)) ∷ sent.calls);
    is_of = (refl, (refl, first_runs first (parts_behind size) sent.calls sent.run));
    moved = moved_all before old now new first sent.calls opened read sent.moved;
    ends = record {
      response = bytes_head size closes ++ (first ++ parts_in sent.calls);
      wrote = wrote_all w v first sent.calls closes sent.wrote;
      stops = (sent.fate_is, refl);
    };
  }
  file_ends before old now new w v first closes is_head LinkFault opened read sent = record {
    outcome = Stopped sent.count ((E.OpenFile host number path, Ok (A.Opened reader size)) ∷ (E.ReadPart reader, Ok (A.Part first)) ∷ sent.calls);
    is_of = (
      refl,
      subst (λ n. IsRunOf (λ later. parts_script reader (suc n) later) ((E.ReadPart reader, Ok (A.Part first)) ∷ sent.calls)) (sym (least sent.count sent.few))
          (refl, first_runs first sent.count sent.calls sent.run),
    );
    moved = moved_all before old now new first sent.calls opened read sent.moved;
    ends = record {
      response = take sent.wrote.count (bytes_head size closes ++ (first ++ parts_in sent.calls));
      wrote = sent.wrote.wrote ∙ ap (λ xs. behind w (take sent.wrote.count xs)) (append_assoc (bytes_head size closes) first (parts_in sent.calls));
      stops = (sent.wrote.count, refl);
    };
  }
  file_ends before old now new w v first closes is_head Ended opened read sent = absurd sent
  file_ends before old now new w v first closes is_head Truncated opened read sent = absurd sent
  file_ends before old now new w v first closes is_head BadRequest opened read sent = absurd sent

  refused_calls : (before old now new : P) (refusal : Refusal) (reply : Reply) → moves before ((E.OpenFile host number path, Ok (A.Opened reader size)) ∷ []) old
      → moves old ((E.ReadPart reader, Err refusal) ∷ []) now → moves now ((E.CloseFile reader, reply) ∷ []) new
      → moves before ((E.OpenFile host number path, Ok (A.Opened reader size)) ∷ (E.ReadPart reader, Err refusal) ∷ (E.CloseFile reader, reply) ∷ []) new
  refused_calls before old now new refusal reply opened read closed =
      joined before old new ((E.OpenFile host number path, Ok (A.Opened reader size)) ∷ []) ((E.ReadPart reader, Err refusal) ∷ (E.CloseFile reader, reply) ∷ []) opened
      (joined old now new ((E.ReadPart reader, Err refusal) ∷ []) ((E.CloseFile reader, reply) ∷ []) read closed)

  -- the first part was refused
  pub refused_goes : (before old now new : P) (w v : Option (List ℕ)) (refusal : Refusal) (reply : Reply) (closes is_head : Bool)
      → moves before ((E.OpenFile host number path, Ok (A.Opened reader size)) ∷ []) old → moves old ((E.ReadPart reader, Err refusal) ∷ []) now
      → moves now ((E.CloseFile reader, reply) ∷ []) new → Answers w v (E.ReadPart reader, Err refusal) closes is_head
      → CarriesOut (IsFile (E.OpenFile host number path)) moves before new w v closes is_head
  refused_goes before old now new w v refusal reply closes is_head opened read closed said = record {
    outcome = Called ((E.OpenFile host number path, Ok (A.Opened reader size)) ∷ (E.ReadPart reader, Err refusal) ∷ (E.CloseFile reader, reply) ∷ []);
    is_of = (refl, (refl, (refl, refl)));
    moved = refused_calls before old now new refusal reply opened read closed;
    responds = answered w v ((E.OpenFile host number path, Ok (A.Opened reader size)) ∷ (E.ReadPart reader, Err refusal) ∷ (E.CloseFile reader, reply) ∷ [])
        (E.ReadPart reader, Err refusal) closes is_head refl refl said;
  }

  pub refused_ends : (before old now new : P) (w v : Option (List ℕ)) (refusal : Refusal) (reply : Reply) (closes is_head : Bool) (end : End)
      → moves before ((E.OpenFile host number path, Ok (A.Opened reader size)) ∷ []) old → moves old ((E.ReadPart reader, Err refusal) ∷ []) now
      → moves now ((E.CloseFile reader, reply) ∷ []) new → EndsReply w v (E.ReadPart reader, Err refusal) closes is_head end
      → CarriesOutLast (IsFile (E.OpenFile host number path)) moves before new w v closes is_head end
  refused_ends before old now new w v refusal reply closes is_head end opened read closed said = record {
    outcome = Called ((E.OpenFile host number path, Ok (A.Opened reader size)) ∷ (E.ReadPart reader, Err refusal) ∷ (E.CloseFile reader, reply) ∷ []);
    is_of = (refl, (refl, (refl, refl)));
    moved = refused_calls before old now new refusal reply opened read closed;
    ends = answered_refused w v ((E.OpenFile host number path, Ok (A.Opened reader size)) ∷ (E.ReadPart reader, Err refusal) ∷ (E.CloseFile reader, reply) ∷ [])
        (E.ReadPart reader) refusal closes is_head end refl refl said;
  }

-- the file wasn't opened
pub unopened_goes : {P : Type 0} (moves : P → List Call → P → Type 0) (old new : P) (w v : Option (List ℕ)) (host : List ℕ) (number : ℕ) (path : List ℕ) (refusal : Refusal) (closes is_head : Bool)
    → moves old ((E.OpenFile host number path, Err refusal) ∷ []) new → Answers w v (E.OpenFile host number path, Err refusal) closes is_head
    → CarriesOut (IsFile (E.OpenFile host number path)) moves old new w v closes is_head
unopened_goes moves old new w v host number path refusal closes is_head moved said = record {
  outcome = Called ((E.OpenFile host number path, Err refusal) ∷ []);
  is_of = (refl, refl);
  moved = moved;
  responds = answered w v ((E.OpenFile host number path, Err refusal) ∷ []) (E.OpenFile host number path, Err refusal) closes is_head refl refl said;
}

pub unopened_ends : {P : Type 0} (moves : P → List Call → P → Type 0) (old new : P) (w v : Option (List ℕ)) (host : List ℕ) (number : ℕ) (path : List ℕ) (refusal : Refusal) (closes is_head : Bool) (end : End)
    → moves old ((E.OpenFile host number path, Err refusal) ∷ []) new → EndsReply w v (E.OpenFile host number path, Err refusal) closes is_head end
    → CarriesOutLast (IsFile (E.OpenFile host number path)) moves old new w v closes is_head end
unopened_ends moves old new w v host number path refusal closes is_head end moved said = record {
  outcome = Called ((E.OpenFile host number path, Err refusal) ∷ []);
  is_of = (refl, refl);
  moved = moved;
  ends = answered_refused w v ((E.OpenFile host number path, Err refusal) ∷ []) (E.OpenFile host number path) refusal closes is_head end refl refl said;
}

-- ---- what a reply is

-- the names of a file that an event opens
pub record Opens (event : Event) : Type 0 where
  pub host : List ℕ
  pub number : ℕ
  pub path : List ℕ
  pub is : event ≡ E.OpenFile host number path

pub not_open : false ≡ true → ⊥
not_open e = cc (e)

abbrev pub opens : (event : Event) → is_open event ≡ true → Opens event
opens (E.OpenFile host number path) e = record { host = host; number = number; path = path; is = refl }
opens event e = absurd (not_open e)

pub part_is : (reply : Reply) (first : List ℕ) → part_told reply ≡ Some first → reply ≡ Ok (A.Part first)
part_is (Ok (A.Part bytes)) first e = cc (e)
part_is reply first e = absurd (cc)

is_part : (answer : Answer) → kind_of answer ≡ K.Part → part_told (Ok answer) ≡ None → ⊥
is_part (A.Part bytes) kind e = cc (e)
is_part answer kind e = cc (kind)

pub no_part : (reader : ℕ) (reply : Reply) → part_told reply ≡ None → IfOk reply (IsAnswerTo (E.ReadPart reader)) → (refusal : Refusal) × (reply ≡ Err refusal)
no_part reader (Err refusal) e kind = (refusal, refl)
no_part reader (Ok answer) e kind = absurd (is_part answer kind e)

pub opened_is : (reply : Reply) (file : OpenedFile) → opened_told reply ≡ Some file → reply ≡ Ok (A.Opened file.reader file.size)
opened_is (Ok (A.Opened r s)) file e =
    let told_is : OpenedFile = record { reader = r; size = s } in
    ap (λ (f : OpenedFile). Ok (A.Opened f.reader f.size)) (ap (λ (told : Option OpenedFile). unwrap_or told told_is) e)
opened_is reply file e = absurd (cc)

is_opened : (answer : Answer) → kind_of answer ≡ K.Opened → opened_told (Ok answer) ≡ None → ⊥
is_opened (A.Opened r s) kind e = cc (e)
is_opened answer kind e = cc (kind)

pub not_opened : (host : List ℕ) (number : ℕ) (path : List ℕ) (reply : Reply) → opened_told reply ≡ None → IfOk reply (IsAnswerTo (E.OpenFile host number path))
    → (refusal : Refusal) × (reply ≡ Err refusal)
not_opened host number path (Err refusal) e kind = (refusal, refl)
not_opened host number path (Ok answer) e kind = absurd (is_opened answer kind e)

-- ---- the same of an event and of replies as they come

module _ {P : Type 0} (moves : P → List Call → P → Type 0) (joined : (p q r : P) (xs ys : List Call) → moves p xs q → moves q ys r → moves p (xs ++ ys) r)
    (event : Event) (is : is_open event ≡ true) (reader size : ℕ) (old now : P) (reply : Reply) (read : moves old ((E.ReadPart reader, reply) ∷ []) now) (new : P)
    (w v : Option (List ℕ)) (closes is_head : Bool) where
  pub opened_goes : (first : List ℕ) → part_told reply ≡ Some first
      → SentParts (rest_script first reader) (bytes_head size closes ++ first) moves now new w v (parts_behind size) Fine → closes ≡ false
      → Behind moves (event, Ok (A.Opened reader size)) old (λ before. CarriesOut (IsFile event) moves before new w v closes is_head)
  opened_goes first told sent stays =
      let p = opens event is in
      subst (λ e. Behind moves (e, Ok (A.Opened reader size)) old (λ before. CarriesOut (IsFile e) moves before new w v closes is_head)) (sym p.is)
      (λ before was. file_goes moves joined p.host p.number p.path reader size before old now new w v first closes is_head was
      (subst (λ r. moves old ((E.ReadPart reader, r) ∷ []) now) (part_is reply first told) read) sent stays)

  pub opened_ended : (first : List ℕ) → part_told reply ≡ Some first
      → SentParts (rest_script first reader) (bytes_head size closes ++ first) moves now new w v (parts_behind size) Fine → closes ≡ true
      → Behind moves (event, Ok (A.Opened reader size)) old (λ before. CarriesOutLast (IsFile event) moves before new w v closes is_head Ended)
  opened_ended first told sent last =
      let p = opens event is in
      subst (λ e. Behind moves (e, Ok (A.Opened reader size)) old (λ before. CarriesOutLast (IsFile e) moves before new w v closes is_head Ended)) (sym p.is)
      (λ before was. file_ended moves joined p.host p.number p.path reader size before old now new w v first closes is_head was
      (subst (λ r. moves old ((E.ReadPart reader, r) ∷ []) now) (part_is reply first told) read) sent last)

  pub opened_ends : (first : List ℕ) (end : End) → part_told reply ≡ Some first
      → SendsParts (rest_script first reader) (bytes_head size closes ++ first) moves now new w v (parts_behind size) (Err end)
      → Behind moves (event, Ok (A.Opened reader size)) old (λ before. CarriesOutLast (IsFile event) moves before new w v closes is_head end)
  opened_ends first end told sent =
      let p = opens event is in
      subst (λ e. Behind moves (e, Ok (A.Opened reader size)) old (λ before. CarriesOutLast (IsFile e) moves before new w v closes is_head end)) (sym p.is)
      (λ before was. file_ends moves joined p.host p.number p.path reader size before old now new w v first closes is_head end was
      (subst (λ r. moves old ((E.ReadPart reader, r) ∷ []) now) (part_is reply first told) read) sent)

  pub opened_refused : (closed : Reply) → part_told reply ≡ None → IfOk reply (IsAnswerTo (E.ReadPart reader)) → moves now ((E.CloseFile reader, closed) ∷ []) new
      → Answers w v (E.ReadPart reader, reply) closes is_head
      → Behind moves (event, Ok (A.Opened reader size)) old (λ before. CarriesOut (IsFile event) moves before new w v closes is_head)
  opened_refused closed told kind shut said =
      let p = opens event is in
      let r = no_part reader reply told kind in
      subst (λ e. Behind moves (e, Ok (A.Opened reader size)) old (λ before. CarriesOut (IsFile e) moves before new w v closes is_head)) (sym p.is)
      (λ before was. refused_goes moves joined p.host p.number p.path reader size before old now new w v r.0 closed closes is_head was
      (subst (λ x. moves old ((E.ReadPart reader, x) ∷ []) now) r.1 read) shut (subst (λ x. Answers w v (E.ReadPart reader, x) closes is_head) r.1 said))

  pub opened_refused_last : (closed : Reply) (end : End) → part_told reply ≡ None → IfOk reply (IsAnswerTo (E.ReadPart reader)) → moves now ((E.CloseFile reader, closed) ∷ []) new
      → EndsReply w v (E.ReadPart reader, reply) closes is_head end
      → Behind moves (event, Ok (A.Opened reader size)) old (λ before. CarriesOutLast (IsFile event) moves before new w v closes is_head end)
  opened_refused_last closed end told kind shut said =
      let p = opens event is in
      let r = no_part reader reply told kind in
      subst (λ e. Behind moves (e, Ok (A.Opened reader size)) old (λ before. CarriesOutLast (IsFile e) moves before new w v closes is_head end)) (sym p.is)
      (λ before was. refused_ends moves joined p.host p.number p.path reader size before old now new w v r.0 closed closes is_head end was
      (subst (λ x. moves old ((E.ReadPart reader, x) ∷ []) now) r.1 read) shut (subst (λ x. EndsReply w v (E.ReadPart reader, x) closes is_head end) r.1 said))

module _ {P : Type 0} (moves : P → List Call → P → Type 0) (event : Event) (is : is_open event ≡ true) (old new : P) (reply : Reply) (moved : moves old ((event, reply) ∷ []) new)
    (w v : Option (List ℕ)) (closes is_head : Bool) where
  pub unopened : opened_told reply ≡ None → IfOk reply (IsAnswerTo event) → Answers w v (event, reply) closes is_head
      → CarriesOut (IsFile event) moves old new w v closes is_head
  unopened told kind said =
      let p = opens event is in
      let r = not_opened p.host p.number p.path reply told (subst (λ e. IfOk reply (IsAnswerTo e)) p.is kind) in
      subst (λ e. CarriesOut (IsFile e) moves old new w v closes is_head) (sym p.is)
      (unopened_goes moves old new w v p.host p.number p.path r.0 closes is_head (subst (λ x. moves old ((E.OpenFile p.host p.number p.path, x) ∷ []) new) r.1 (subst (λ e. moves old ((e, reply) ∷ []) new) p.is moved))
      (subst (λ x. Answers w v (E.OpenFile p.host p.number p.path, x) closes is_head) r.1 (subst (λ e. Answers w v (e, reply) closes is_head) p.is said)))

  pub unopened_last : (end : End) → opened_told reply ≡ None → IfOk reply (IsAnswerTo event) → EndsReply w v (event, reply) closes is_head end
      → CarriesOutLast (IsFile event) moves old new w v closes is_head end
  unopened_last end told kind said =
      let p = opens event is in
      let r = not_opened p.host p.number p.path reply told (subst (λ e. IfOk reply (IsAnswerTo e)) p.is kind) in
      subst (λ e. CarriesOutLast (IsFile e) moves old new w v closes is_head end) (sym p.is)
      (unopened_ends moves old new w v p.host p.number p.path r.0 closes is_head end (subst (λ x. moves old ((E.OpenFile p.host p.number p.path, x) ∷ []) new) r.1 (subst (λ e. moves old ((e, reply) ∷ []) new) p.is moved))
      (subst (λ x. EndsReply w v (E.OpenFile p.host p.number p.path, x) closes is_head end) r.1 (subst (λ e. EndsReply w v (e, reply) closes is_head end) p.is said)))

opened_moved : {P : Type 0} (moves : P → List Call → P → Type 0) (old now : P) (event : Event) (reply : Reply) (file : OpenedFile) → opened_told reply ≡ Some file
    → moves old ((event, reply) ∷ []) now → moves old ((event, Ok (A.Opened file.reader file.size)) ∷ []) now
opened_moved moves old now event reply file told moved = subst (λ r. moves old ((event, r) ∷ []) now) (opened_is reply file told) moved

-- what comes of a file behind the reply that opened it
module _ {P : Type 0} (moves : P → List Call → P → Type 0) (old now new : P) (w v : Option (List ℕ)) (event : Event) (reply : Reply) (file : OpenedFile) (closes is_head : Bool)
    (told : opened_told reply ≡ Some file) (moved : moves old ((event, reply) ∷ []) now) where
  pub opened_carries : Behind moves (event, Ok (A.Opened file.reader file.size)) now (λ before. CarriesOut (IsFile event) moves before new w v closes is_head)
      → CarriesOut (IsFile event) moves old new w v closes is_head
  opened_carries goes = goes old (opened_moved moves old now event reply file told moved)

  pub opened_carries_last : (end : End) → Behind moves (event, Ok (A.Opened file.reader file.size)) now (λ before. CarriesOutLast (IsFile event) moves before new w v closes is_head end)
      → CarriesOutLast (IsFile event) moves old new w v closes is_head end
  opened_carries_last end ends = ends old (opened_moved moves old now event reply file told moved)

-- ---- what an event comes to

file_of : (event : Event) → is_open event ≡ true → (outcome : Outcome) → IsFile event outcome → IsOf (Ok event) outcome
file_of (E.OpenFile host number path) e (Called calls) is = is
file_of (E.OpenFile host number path) e (Stopped count calls) is = is
file_of (E.OpenFile host number path) e (Refused named) is = absurd is
file_of (E.OpenFile host number path) e (Unsaid calls) is = absurd is
file_of (E.OpenFile host number path) e Lost is = absurd is
file_of event e outcome is = absurd (cc)

pub file_carried : {P : Type 0} (moves : P → List Call → P → Type 0) (old new : P) (w v : Option (List ℕ)) (event : Event) (closes is_head : Bool) → is_open event ≡ true
    → CarriesOut (IsFile event) moves old new w v closes is_head → CarriesOut (IsOf (Ok event)) moves old new w v closes is_head
file_carried moves old new w v event closes is_head e c =
    record { outcome = c.outcome; is_of = file_of event e c.outcome c.is_of; moved = c.moved; responds = c.responds }

pub file_carried_last : {P : Type 0} (moves : P → List Call → P → Type 0) (old new : P) (w v : Option (List ℕ)) (event : Event) (closes is_head : Bool) (end : End) → is_open event ≡ true
    → CarriesOutLast (IsFile event) moves old new w v closes is_head end → CarriesOutLast (IsOf (Ok event)) moves old new w v closes is_head end
file_carried_last moves old new w v event closes is_head end e c =
    record { outcome = c.outcome; is_of = file_of event e c.outcome c.is_of; moved = c.moved; ends = c.ends }
