-- What comes of a request whose head was read.
use Rattle.std.proofs.Common.{◌≡◌, ◌≤◌, ℕ, Bool, true, false, List, [], length, take, Option, Some, None, Result, Ok, Err, unwrap_or, if◌then◌else◌, refl, sym, ap, ◌∙◌, subst, inl, inr, arith}
use Rattle.std.specs.Option.{ForSome}
use Rattle.fault_counts.specs.Counts.{Counted, Rose}
use Rattle.stream_traits.specs.Moments.{first_moment, after_reading}
use Rattle.office_model.specs.declared.event.Event.{Event}
use Rattle.office_model.specs.Step.{Call}
use Rattle.http_heads.specs.Heads.{HeadParts}
use Rattle.http_wire.specs.Message.{no_memory_response}
use Rattle.http_bodies.specs.declared.body.Body.{Body}
use Rattle.http_bodies.specs.declared.stop.BodyStop.{BodyStop}
use Rattle.http_bodies.specs.declared.stop.BodyStop.TheVariants as S
use Rattle.http_bodies.specs.Bodies.{OfLength, Chunked, IsBody, IsAt}
use Rattle.http_bodies.specs.Reads.{Reads}
use Rattle.http_bodies.specs.ReadLaws.{Reads-none, IsBody-done}
use Rattle.request_events.specs.declared.defaults.Defaults.{Defaults}
use Rattle.request_events.specs.declared.plan.FilePut.{FilePut}
use Rattle.request_events.specs.declared.plan.Plan.{Plan}
use Rattle.request_events.specs.declared.refusal.RequestRefusal.{RequestRefusal}
use Rattle.request_events.specs.declared.refusal.RequestFault.{RequestFault}
use Rattle.request_events.specs.declared.refusal.RequestFault.TheVariants.{Refused as RefusedAs, Memory as NoMemoryFor}
use Rattle.request_events.specs.Said.{Said, Says, ◌>>=◌}
use Rattle.request_events.specs.Plans.{planned}
use Rattle.request_events.specs.Events.{event_of}
use Rattle.request_events.specs.Asked.{looked_at, goes_by_stages, staged_by, One, InStages, asked_by, asked}
use Rattle.request_events.specs.Laws.{looks_at_enough, whole_fits}
use Rattle.browse_http.specs.declared.end.End.{End}
use Rattle.browse_http.specs.declared.end.End.TheVariants.{LinkFault, Memory}
use Rattle.browse_http.specs.declared.stages.Answered.{Answered}
use Rattle.browse_http.specs.Scripts.{stage_script}
use Rattle.browse_http.specs.Talk.{Outcome, Refused, Called, Stopped, Unsaid, Lost, coding_of, IsOutcome, staged_of, CallsBy, CallsOf}
use Rattle.browse_http.specs.Reading.{SaysLast, EndsBody, ReadsAll, ReadsSome}
use Rattle.browse_http.specs.Staging.{CallsWhole, CallsPart}
use Rattle.browse_http.specs.Serving.{Answers, AnswersLast, EndsReply, EndsCalled, Responds, CarriesOut, CarriesOutLast, IsOf, Attended, Attends, AttendsLast, CallsNothing}
use Rattle.browse_http.proofs.FileLemmas.{answered, answered_last}

-- ---- what is asked

staged_said : (defaults : Defaults) (parts : HeadParts) (said : Said Plan) (body : List ℕ) (moment : ℕ) (put : FilePut) → staged_of parts said ≡ Some put
    → (said >>= λ plan. asked_by (staged_by (goes_by_stages parts) plan) (event_of plan body moment defaults)) ≡ Ok (InStages put)
staged_said defaults parts (Ok plan) body moment put e = ap (λ s. asked_by s (event_of plan body moment defaults)) e
staged_said defaults parts (Err refusal) body moment put e = absurd (cc)

asked-staged : (defaults : Defaults) (parts : HeadParts) (body : List ℕ) (moment : ℕ) (put : FilePut) → staged_of parts (planned parts) ≡ Some put
    → asked parts body moment defaults ≡ Ok (InStages put)
unfolding asked
asked-staged defaults parts body moment put e = staged_said defaults parts (planned parts) body moment put e

asked-refused : (defaults : Defaults) (parts : HeadParts) (body : List ℕ) (moment : ℕ) (refusal : RequestRefusal) → planned parts ≡ Err refusal
    → asked parts body moment defaults ≡ Err refusal
unfolding asked
asked-refused defaults parts body moment refusal e =
    ap (λ said. said >>= λ plan. asked_by (staged_by (goes_by_stages parts) plan) (event_of plan body moment defaults)) e

asked-planned : (defaults : Defaults) (parts : HeadParts) (body : List ℕ) (moment : ℕ) (plan : Plan) → planned parts ≡ Ok plan
    → staged_by (goes_by_stages parts) plan ≡ None → asked parts body moment defaults ≡ asked_by None (event_of plan body moment defaults)
unfolding asked
asked-planned defaults parts body moment plan e none =
    ap (λ said. said >>= λ plan. asked_by (staged_by (goes_by_stages parts) plan) (event_of plan body moment defaults)) e
    ∙ ap (λ s. asked_by s (event_of plan body moment defaults)) none

pub staged-none : (parts : HeadParts) (plan : Plan) → planned parts ≡ Ok plan → staged_by (goes_by_stages parts) plan ≡ None → staged_of parts (planned parts) ≡ None
staged-none parts plan e none = ap (λ said. staged_of parts said) e ∙ none

pub staged-some : (parts : HeadParts) (plan : Plan) (put : FilePut) → planned parts ≡ Ok plan → staged_by (goes_by_stages parts) plan ≡ Some put
    → staged_of parts (planned parts) ≡ Some put
staged-some parts plan put e some = ap (λ said. staged_of parts said) e ∙ some

pub staged-refused : (parts : HeadParts) (refusal : RequestRefusal) → planned parts ≡ Err refusal → staged_of parts (planned parts) ≡ None
staged-refused parts refusal e = ap (λ said. staged_of parts said) e

-- ---- what is looked at of a body

counted_by : (chunked : Bool) (count : ℕ) (raw got : List ℕ) → IsBody (if chunked then Chunked else OfLength count) raw got → chunked ≡ false → length got ≡ count
counted_by true count raw got is e = absurd (cc)
counted_by false count raw got is e = is.1

event_kept : (defaults : Defaults) (parts : HeadParts) (plan : Plan) (raw got : List ℕ) (moment : ℕ) → staged_by (goes_by_stages parts) plan ≡ None → IsBody (coding_of parts) raw got
    → event_of plan (take (looked_at plan) got) moment defaults ≡ event_of plan got moment defaults
event_kept defaults parts plan raw got moment none is =
    looks_at_enough plan got moment defaults
    (whole_fits parts plan got none (counted_by parts.chunked (unwrap_or parts.content_length 0) raw got is))

-- ---- a body that stopped

before_some : (stop : BodyStop) (staged : Option FilePut) (got : List ℕ) (made : List Call) → CallsBy staged got made → CallsOf stop staged got made
before_some S.Truncated staged got made c = c
before_some S.BadChunk staged got made c = c
before_some S.TooLarge staged got made c = c
before_some S.LinkFault staged got made c = inr c
before_some S.Memory staged got made c = inr c

before_none : (stop : BodyStop) (staged : Option FilePut) (got : List ℕ) → staged ≡ None → CallsOf stop staged got []
before_none stop staged got none = before_some stop staged got [] (subst (λ s. CallsBy s got []) (sym none) refl)

-- nothing was called
pub stopped_uncalled : (defaults : Defaults) (parts : HeadParts) {P : Type 0} (moves : P → List Call → P → Type 0) → ((p : P) → moves p [] p) → (p : P) (body : Body)
    (left left' left'' written asked written' moments : Option (List ℕ)) (closes is_head : Bool) (stop : BodyStop) (end : End) → staged_of parts (planned parts) ≡ None
    → ReadsSome body left left' stop → left'' ≡ left' → asked ≡ written → EndsBody stop is_head asked written' end
    → AttendsLast defaults parts moves p p body left left'' written written' moments moments closes is_head end
stopped_uncalled defaults parts moves none p body left left' left'' written asked written' moments closes is_head stop end unstaged reads still same ends = inr (record {
  stop = stop;
  place = reads.place;
  got = reads.got;
  reads = subst (λ told. Reads body reads.place left told reads.got) (sym still) reads.reads;
  cause = λ more told. reads.cause more (sym still ∙ told);
  made = [];
  moved = none p;
  calls = before_none stop (staged_of parts (planned parts)) reads.got unstaged;
  ends = subst (λ w. EndsBody stop is_head w written' end) same ends;
  clock = refl;
})

-- a file in stages stopped
pub stopped_staged : (defaults : Defaults) (parts : HeadParts) (put : FilePut) {P : Type 0} (moves : P → List Call → P → Type 0) (old new : P) (body : Body)
    (left left' left'' written asked written' moments : Option (List ℕ)) (closes is_head : Bool) (stop : BodyStop) (end : End) → staged_of parts (planned parts) ≡ Some put
    → CallsPart (stage_script put) moves old new body left left' stop → left'' ≡ left' → asked ≡ written → EndsBody stop is_head asked written' end
    → AttendsLast defaults parts moves old new body left left'' written written' moments moments closes is_head end
stopped_staged defaults parts put moves old new body left left' left'' written asked written' moments closes is_head stop end staged calls still same ends = inr (record {
  stop = stop;
  place = calls.reads.place;
  got = calls.reads.got;
  reads = subst (λ told. Reads body calls.reads.place left told calls.reads.got) (sym still) calls.reads.reads;
  cause = λ more told. calls.reads.cause more (sym still ∙ told);
  made = calls.calls;
  moved = calls.moved;
  calls = before_some stop (staged_of parts (planned parts)) calls.reads.got calls.calls
      (subst (λ s. CallsBy s calls.reads.got calls.calls) (sym staged) (record { pieces = calls.reads.pieces; cut = calls.reads.cut; run = calls.run }));
  ends = subst (λ w. EndsBody stop is_head w written' end) same ends;
  clock = refl;
})

-- there was no memory for the plan
pub stopped_early : (defaults : Defaults) (parts : HeadParts) {P : Type 0} (moves : P → List Call → P → Type 0) → ((p : P) → moves p [] p) → (p : P) (body : Body)
    (left left' written written' moments : Option (List ℕ)) (closes is_head : Bool) (end : End) → left' ≡ left
    → SaysLast no_memory_response Memory written written' end → AttendsLast defaults parts moves p p body left left' written written' moments moments closes is_head end
stopped_early defaults parts moves none p body left left' written written' moments closes is_head end still says = inr (record {
  stop = S.Memory;
  place = body;
  got = [];
  reads = subst (λ told. Reads body body left told []) (sym still) (Reads-none body left);
  cause = λ more is. tt;
  made = [];
  moved = none p;
  calls = inl refl;
  ends = says;
  clock = refl;
})

-- the faults of the reading and of what is said behind it
pub stopped_counted : (stop : BodyStop) (is_head : Bool) (written written' : Option (List ℕ)) (end : End) (a b c : ℕ) → EndsBody stop is_head written written' end
    → Counted a b (stop ≡ S.LinkFault) → Counted b c ((end ≡ LinkFault) × (stop ≡ S.LinkFault → ⊥)) → Counted a c (end ≡ LinkFault)
stopped_counted stop is_head written written' end a b c ends x y = record {
  later = omega (arith, x.later, y.later);
  rose = λ e. rose_by stop x y e;
  stays = λ fine. y.stays (λ both. fine both.0) ∙ x.stays (λ e. fine (fault stop e ends));
}
  where
    fault : (stop : BodyStop) → stop ≡ S.LinkFault → EndsBody stop is_head written written' end → end ≡ LinkFault
    fault S.LinkFault e ends = ends.0
    fault S.Truncated e ends = absurd (cc)
    fault S.BadChunk e ends = absurd (cc)
    fault S.TooLarge e ends = absurd (cc)
    fault S.Memory e ends = absurd (cc)

    up : Rose b c → a ≤ b → Rose a c
    up rose later = omega (arith, rose, later)

    from : Rose a b → b ≤ c → Rose a c
    from rose later = omega (arith, rose, later)

    rose_by : (stop : BodyStop) → Counted a b (stop ≡ S.LinkFault) → Counted b c ((end ≡ LinkFault) × (stop ≡ S.LinkFault → ⊥)) → end ≡ LinkFault → Rose a c
    rose_by S.LinkFault x y e = from (x.rose refl) y.later
    rose_by S.Truncated x y e = up (y.rose (e, λ f. absurd (cc))) x.later
    rose_by S.BadChunk x y e = up (y.rose (e, λ f. absurd (cc))) x.later
    rose_by S.TooLarge x y e = up (y.rose (e, λ f. absurd (cc))) x.later
    rose_by S.Memory x y e = up (y.rose (e, λ f. absurd (cc))) x.later

-- ---- a body that was read

module _ (defaults : Defaults) (parts : HeadParts) {P : Type 0} (moves : P → List Call → P → Type 0) (old new : P) (body body' : Body)
    (left left' left'' written asked' written' moments moments' : Option (List ℕ)) (closes is_head : Bool) (moment : ℕ) (same : asked' ≡ written)
    (first : ForSome moments (λ told. moment ≡ first_moment told)) (later : moments' ≡ after_reading moments) (still : left'' ≡ left') where
  -- in stages
  staged_outcome : (put : FilePut) (answer : Answered) → staged_of parts (planned parts) ≡ Some put → (calls : CallsWhole (stage_script put) moves old new body body' left left' answer)
      → IsOutcome (asked parts calls.got moment defaults) calls.got (Called calls.calls)
  staged_outcome put answer staged calls = (
    InStages put,
    asked-staged defaults parts calls.got moment put staged,
    record { pieces = calls.reads.pieces; cut = calls.reads.cut; run = calls.run },
  )

  pub staged_goes : (put : FilePut) (answer : Answered) → staged_of parts (planned parts) ≡ Some put → CallsWhole (stage_script put) moves old new body body' left left' answer
      → Answers asked' written' (answer.event, answer.reply) closes is_head
      → Attends defaults parts moves old new body left left'' written written' moments moments' closes is_head
  staged_goes put answer staged calls said = record {
    attended = record {
      last = body';
      got = calls.got;
      reads = subst (λ told. Reads body body' left told calls.got) (sym still) calls.reads.reads;
      done = calls.reads.done;
      moment = moment;
      clock = (first, later);
      outcome = Called calls.calls;
      is_of = staged_outcome put answer staged calls;
      moved = calls.moved;
    };
    responds = answered written written' calls.calls (answer.event, answer.reply) closes is_head calls.answers calls.plain
        (subst (λ w. Answers w written' (answer.event, answer.reply) closes is_head) same said);
  }

  pub staged_ends : (put : FilePut) (answer : Answered) (end : End) → staged_of parts (planned parts) ≡ Some put → CallsWhole (stage_script put) moves old new body body' left left' answer
      → EndsReply asked' written' (answer.event, answer.reply) closes is_head end
      → AttendsLast defaults parts moves old new body left left'' written written' moments moments' closes is_head end
  staged_ends put answer end staged calls (inr (lacks, says)) = absurd (calls.short lacks)
  staged_ends put answer end staged calls (inl said) = inl (record {
    attended = record {
      last = body';
      got = calls.got;
      reads = subst (λ told. Reads body body' left told calls.got) (sym still) calls.reads.reads;
      done = calls.reads.done;
      moment = moment;
      clock = (first, later);
      outcome = Called calls.calls;
      is_of = staged_outcome put answer staged calls;
      moved = calls.moved;
    };
    ends = answered_last written written' calls.calls (answer.event, answer.reply) closes is_head end calls.answers calls.plain
        (subst (λ w. AnswersLast w written' (answer.event, answer.reply) closes is_head end) same said);
  })

-- an outcome of what was judged of the request
outcome_of : (said : Said Event) (body : List ℕ) (judged : Result Event RequestFault) (outcome : Outcome) → Says judged said → IsOf judged outcome
    → IsOutcome (asked_by None said) body outcome
outcome_of said body (Ok event) (Called calls) says is = (One event, ap (asked_by None) says, is)
outcome_of said body (Ok event) (Stopped count calls) says is = (One event, ap (asked_by None) says, is)
outcome_of said body (Ok event) (Unsaid calls) says is = (One event, ap (asked_by None) says, is.0, is.1)
outcome_of said body (Err (RefusedAs refusal)) (Refused named) says is = ap (asked_by None) says ∙ ap Err (sym is)
outcome_of said body (Err NoMemoryFor) Lost says is = tt
outcome_of said body judged outcome says is = absurd is

module _ (defaults : Defaults) (parts : HeadParts) {P : Type 0} (moves : P → List Call → P → Type 0) (old new : P) (body body' : Body)
    (left left' left'' written asked' written' moments moments' : Option (List ℕ)) (closes is_head : Bool) (moment : ℕ) (same : asked' ≡ written) (plan : Plan) (kept got : List ℕ)
    (judged : Result Event RequestFault) (first : ForSome moments (λ told. moment ≡ first_moment told)) (later : moments' ≡ after_reading moments) (still : left'' ≡ left')
    (start : IsAt (coding_of parts) body [] []) (is_plan : planned parts ≡ Ok plan) (none : staged_by (goes_by_stages parts) plan ≡ None)
    (reads : ReadsAll body body' left left' got) (kept_is : kept ≡ take (looked_at plan) got) (says : Says judged (event_of plan kept moment defaults)) where
  whole_body : IsBody (coding_of parts) reads.reads.raw got
  whole_body = IsBody-done (coding_of parts) body'.place body'.room reads.reads.raw got reads.done (reads.reads.at (coding_of parts) [] [] start)

  says_whole : Says judged (event_of plan got moment defaults)
  says_whole =
      subst (λ said. Says judged said) (ap (λ (xs : List ℕ). event_of plan xs moment defaults) kept_is ∙ event_kept defaults parts plan reads.reads.raw got moment none whole_body) says

  planned_outcome : (outcome : Outcome) → IsOf judged outcome → IsOutcome (asked parts got moment defaults) got outcome
  planned_outcome outcome is =
      subst (λ said. IsOutcome said got outcome) (sym (asked-planned defaults parts got moment plan is_plan none)) (outcome_of (event_of plan got moment defaults) got judged outcome says_whole is)

  pub planned_goes : CarriesOut (IsOf judged) moves old new asked' written' closes is_head
      → Attends defaults parts moves old new body left left'' written written' moments moments' closes is_head
  planned_goes carries = record {
    attended = record {
      last = body';
      got = got;
      reads = subst (λ told. Reads body body' left told got) (sym still) reads.reads;
      done = reads.done;
      moment = moment;
      clock = (first, later);
      outcome = carries.outcome;
      is_of = planned_outcome carries.outcome carries.is_of;
      moved = carries.moved;
    };
    responds = subst (λ w. Responds w written' carries.outcome closes is_head) same carries.responds;
  }

  pub planned_ends : (end : End) → CarriesOutLast (IsOf judged) moves old new asked' written' closes is_head end
      → AttendsLast defaults parts moves old new body left left'' written written' moments moments' closes is_head end
  planned_ends end carries = inl (record {
    attended = record {
      last = body';
      got = got;
      reads = subst (λ told. Reads body body' left told got) (sym still) reads.reads;
      done = reads.done;
      moment = moment;
      clock = (first, later);
      outcome = carries.outcome;
      is_of = planned_outcome carries.outcome carries.is_of;
      moved = carries.moved;
    };
    ends = subst (λ w. EndsCalled w written' carries.outcome closes is_head end) same carries.ends;
  })

-- a request that is refused before its body is read
module _ (defaults : Defaults) (parts : HeadParts) (body body' : Body)
    (left left' left'' written asked' written' moments moments' : Option (List ℕ)) (closes is_head : Bool) (moment : ℕ) (same : asked' ≡ written) (refusal : RequestRefusal) (got : List ℕ)
    (first : ForSome moments (λ told. moment ≡ first_moment told)) (later : moments' ≡ after_reading moments) (still : left'' ≡ left')
    (is_refused : planned parts ≡ Err refusal) (reads : ReadsAll body body' left left' got) where
  pub refused_attends : Responds asked' written' (Refused refusal) closes is_head
      → Attends defaults parts CallsNothing tt tt body left left'' written written' moments moments' closes is_head
  refused_attends responds = record {
    attended = record {
      last = body';
      got = got;
      reads = subst (λ told. Reads body body' left told got) (sym still) reads.reads;
      done = reads.done;
      moment = moment;
      clock = (first, later);
      outcome = Refused refusal;
      is_of = asked-refused defaults parts got moment refusal is_refused;
      moved = refl;
    };
    responds = subst (λ w. Responds w written' (Refused refusal) closes is_head) same responds;
  }

  pub refused_attends_last : (end : End) → EndsCalled asked' written' (Refused refusal) closes is_head end
      → AttendsLast defaults parts CallsNothing tt tt body left left'' written written' moments moments' closes is_head end
  refused_attends_last end ends = inl (record {
    attended = record {
      last = body';
      got = got;
      reads = subst (λ told. Reads body body' left told got) (sym still) reads.reads;
      done = reads.done;
      moment = moment;
      clock = (first, later);
      outcome = Refused refusal;
      is_of = asked-refused defaults parts got moment refusal is_refused;
      moved = refl;
    };
    ends = subst (λ w. EndsCalled w written' (Refused refusal) closes is_head end) same ends;
  })

-- over any port nothing is called as well
module _ (defaults : Defaults) (parts : HeadParts) {P : Type 0} (moves : P → List Call → P → Type 0) (none : (p : P) → moves p [] p) (p : P) (body : Body)
    (left left' written written' moments moments' : Option (List ℕ)) (closes is_head : Bool) where
  abbrev attended_quietly : Attended defaults parts CallsNothing tt tt body left left' moments moments' → Attended defaults parts moves p p body left left' moments moments'
  attended_quietly a = record {
    last = a.last;
    got = a.got;
    reads = a.reads;
    done = a.done;
    moment = a.moment;
    clock = a.clock;
    outcome = a.outcome;
    is_of = a.is_of;
    moved = subst (λ calls. moves p calls p) (sym a.moved) (none p);
  }

  pub attends_quietly : Attends defaults parts CallsNothing tt tt body left left' written written' moments moments' closes is_head
      → Attends defaults parts moves p p body left left' written written' moments moments' closes is_head
  attends_quietly a = record { attended = attended_quietly a.attended; responds = a.responds }

  pub attends_last_quietly : (end : End) → AttendsLast defaults parts CallsNothing tt tt body left left' written written' moments moments' closes is_head end
      → AttendsLast defaults parts moves p p body left left' written written' moments moments' closes is_head end
  attends_last_quietly end (inl a) = inl (record { attended = attended_quietly a.attended; ends = a.ends })
  attends_last_quietly end (inr a) = inr (record {
    stop = a.stop;
    place = a.place;
    got = a.got;
    reads = a.reads;
    cause = a.cause;
    made = a.made;
    moved = subst (λ calls. moves p calls p) (sym a.moved) (none p);
    calls = a.calls;
    ends = a.ends;
    clock = a.clock;
  })
