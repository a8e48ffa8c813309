-- How the calls of a night follow its script, and what they count.
use Rattle.std.proofs.Common.{◌≡◌, ℕ, ℤ, ◌+◌, ◌*◌, ◌<◌, ◌≤◌, Bool, true, false, List, [], ◌∷◌, ◌++◌, length, get_or, take, drop, map, cond, Option, Some, None, Ok, Err, refl, sym, ap, ◌∙◌, subst, suc, append_assoc, add-one, arith}
use Rattle.std.specs.List.{filter, range_with_len}
use Rattle.std.proofs.lemmas.List.{map-id, map-append, take_more, take-append-drop}
use Rattle.std.proofs.Math.Seq.{drop-cons}
use Rattle.std.proofs.Math.Nat.{suc-mul}
use Rattle.std.proofs.lemmas.List.Elements.{filter-append}
use Rattle.std.proofs.lemmas.List.FromFn.{map-range_with_len_more, get_or-map-range_with_len}
use Rattle.wake_schedule.specs.Nights.{is_nightly, nightly_of}
use Rattle.office_model.specs.declared.event.Event.{Event}
use Rattle.office_model.specs.declared.event.Event.TheVariants as E
use Rattle.office_model.specs.declared.answer.Answer.{Answer}
use Rattle.office_model.specs.declared.answer.Answer.TheVariants as A
use Rattle.office_model.specs.declared.refusal.Refusal.{Refusal}
use Rattle.office_model.specs.Step.{Call}
use Rattle.call_scripts.specs.Scripts.{FollowsAfter, AreAnswered, EndRefused, each_of, events_of}
use Rattle.night_work.specs.declared.ends.Night.{Night}
use Rattle.night_work.specs.declared.ends.NightEnd.TheVariants.{Done, Refused}
use Rattle.night_work.specs.Script.{events_after, night_script, night_buckets, night_of, total}
use Rattle.night_work.specs.Steps.{Carried, Stopped, added, AreAtMost, picked}
use Rattle.night_work.specs.Ends.{Ends, Worked}

-- ---- the next event

abbrev first : List Event → Option Event
first [] = None
first (event ∷ events) = Some event

events_of-append : (xs ys : List Call) → events_of (xs ++ ys) ≡ events_of xs ++ events_of ys
events_of-append [] ys = refl
events_of-append (x ∷ xs) ys = ap (λ events. x.0 ∷ events) (events_of-append xs ys)

AreAnswered-more : (xs : List Call) (event : Event) (answer : Answer) → AreAnswered xs → AreAnswered (xs ++ (event, Ok answer) ∷ [])
AreAnswered-more [] event answer answered = tt
AreAnswered-more ((asked, Ok other) ∷ xs) event answer answered = AreAnswered-more xs event answer answered
AreAnswered-more ((asked, Err refusal) ∷ xs) event answer answered = absurd answered

-- after answers comes the first of the events that are left
each_of-next : (calls : List Call) (left : List Event) → AreAnswered calls → each_of (events_of calls ++ left) calls ≡ first left
each_of-next [] [] answered = refl
each_of-next [] (event ∷ events) answered = refl
each_of-next ((asked, Ok answer) ∷ calls) left answered = each_of-next calls left answered
each_of-next ((asked, Err refusal) ∷ calls) left answered = absurd answered

-- after a refusal comes none
each_of-refused : (calls : List Call) (event : Event) (refusal : Refusal) (later : List Event) → AreAnswered calls
    → each_of (events_of calls ++ event ∷ later) (calls ++ (event, Err refusal) ∷ []) ≡ None
each_of-refused [] event refusal later answered = refl
each_of-refused ((asked, Ok answer) ∷ calls) event refusal later answered = each_of-refused calls event refusal later answered
each_of-refused ((asked, Err other) ∷ calls) event refusal later answered = absurd answered

-- ---- the script

plan_more : (done : List Call) (call : Call) (left plan : List Event) → events_of done ++ call.0 ∷ left ≡ plan
    → events_of (done ++ call ∷ []) ++ left ≡ plan
plan_more done call left plan asked =
    ap (λ events. events ++ left) (events_of-append done (call ∷ [])) ∙ append_assoc (events_of done) (call.0 ∷ []) left ∙ asked

follows_all : (moment : ℕ) (buckets : List ℕ) (hosts : List (List ℕ)) (done calls : List Call)
    → events_of done ++ events_of calls ≡ events_after moment buckets hosts → AreAnswered done → AreAnswered calls
    → FollowsAfter (night_script moment buckets) ((E.Hosts, Ok (A.Hosts hosts)) ∷ done) calls
follows_all moment buckets hosts done [] asked answered more =
    subst (λ events. each_of events done ≡ None) asked (each_of-next done [] answered)
follows_all moment buckets hosts done ((event, Ok answer) ∷ calls) asked answered more = (
  subst (λ events. each_of events done ≡ Some event) asked (each_of-next done (event ∷ events_of calls) answered),
  follows_all moment buckets hosts (done ++ (event, Ok answer) ∷ []) calls (plan_more done (event, Ok answer) (events_of calls) _ asked)
      (AreAnswered-more done event answer answered) more,
)
follows_all moment buckets hosts done ((event, Err refusal) ∷ calls) asked answered more = absurd more

follows_part : (moment : ℕ) (buckets : List ℕ) (hosts : List (List ℕ)) (done calls : List Call) (event : Event) (refusal : Refusal)
    (later : List Event) → events_of done ++ (events_of calls ++ event ∷ later) ≡ events_after moment buckets hosts → AreAnswered done
    → AreAnswered calls
    → FollowsAfter (night_script moment buckets) ((E.Hosts, Ok (A.Hosts hosts)) ∷ done) (calls ++ (event, Err refusal) ∷ [])
follows_part moment buckets hosts done [] event refusal later asked answered more = (
  subst (λ events. each_of events done ≡ Some event) asked (each_of-next done (event ∷ later) answered),
  subst (λ events. each_of events (done ++ (event, Err refusal) ∷ []) ≡ None) asked (each_of-refused done event refusal later answered),
)
follows_part moment buckets hosts done ((other, Ok answer) ∷ calls) event refusal later asked answered more = (
  subst (λ events. each_of events done ≡ Some other) asked (each_of-next done (other ∷ (events_of calls ++ event ∷ later)) answered),
  follows_part moment buckets hosts (done ++ (other, Ok answer) ∷ []) calls event refusal later
      (plan_more done (other, Ok answer) (events_of calls ++ event ∷ later) _ asked) (AreAnswered-more done other answer answered) more,
)
follows_part moment buckets hosts done ((other, Err named) ∷ calls) event refusal later asked answered more = absurd more

EndRefused-append : (calls : List Call) (event : Event) (refusal : Refusal) → AreAnswered calls
    → EndRefused refusal (calls ++ (event, Err refusal) ∷ [])
EndRefused-append [] event refusal answered = (refl, refl)
EndRefused-append ((asked, Ok answer) ∷ calls) event refusal answered = EndRefused-append calls event refusal answered
EndRefused-append ((asked, Err other) ∷ calls) event refusal answered = absurd answered

-- the names of the hosts count nothing
zero-before : (n : ℕ) → 0 + n ≡ n
zero-before n = omega arith

night_of-hosts : (day : ℤ) (hosts : List (List ℕ)) (calls : List Call)
    → night_of day calls ≡ night_of day ((E.Hosts, Ok (A.Hosts hosts)) ∷ calls)
night_of-hosts day hosts calls = rw (zero-before, zero-before, zero-before, zero-before)

-- ---- the ends

worked_done : {P : Type 0} (moves : P → List Call → P → Type 0)
    (joined : (p q r : P) (xs ys : List Call) → moves p xs q → moves q ys r → moves p (xs ++ ys) r)
    (old mid new : P) (moment : ℕ) (day : ℤ) (period : ℕ) (hosts : List (List ℕ)) (night : Night)
    → moves old ((E.Hosts, Ok (A.Hosts hosts)) ∷ []) mid
    → Carried moves mid new day (events_after moment (night_buckets day period) hosts) night
    → Worked moves old new moment day period (Done night)
worked_done moves joined old mid new moment day period hosts night asked carried = record {
  calls = (E.Hosts, Ok (A.Hosts hosts)) ∷ carried.calls;
  moved = joined old mid new ((E.Hosts, Ok (A.Hosts hosts)) ∷ []) carried.calls asked carried.moved;
  ends = (
    (refl, follows_all moment (night_buckets day period) hosts [] carried.calls carried.asked tt carried.answered),
    carried.answered,
    carried.counted ∙ night_of-hosts day hosts carried.calls,
  );
}

worked_stopped : {P : Type 0} (moves : P → List Call → P → Type 0)
    (joined : (p q r : P) (xs ys : List Call) → moves p xs q → moves q ys r → moves p (xs ++ ys) r)
    (old mid new : P) (moment : ℕ) (day : ℤ) (period : ℕ) (hosts : List (List ℕ)) (refusal : Refusal)
    → moves old ((E.Hosts, Ok (A.Hosts hosts)) ∷ []) mid
    → Stopped moves mid new (events_after moment (night_buckets day period) hosts) refusal
    → Worked moves old new moment day period (Refused refusal)
worked_stopped moves joined old mid new moment day period hosts refusal asked stopped = record {
  calls = (E.Hosts, Ok (A.Hosts hosts)) ∷ (stopped.before ++ (stopped.event, Err refusal) ∷ []);
  moved = joined old mid new ((E.Hosts, Ok (A.Hosts hosts)) ∷ []) (stopped.before ++ (stopped.event, Err refusal) ∷ []) asked stopped.moved;
  ends = (
    (
      refl,
      follows_part moment (night_buckets day period) hosts [] stopped.before stopped.event refusal stopped.later (sym stopped.asked) tt
          stopped.answered,
    ),
    EndRefused-append stopped.before stopped.event refusal stopped.answered,
  );
}

-- the events are those that follow the names of the hosts
planned : (moment : ℕ) (day day' : ℤ) (period : ℕ) (hosts hosts' : List (List ℕ)) (events shown : List Event) → day' ≡ day → hosts' ≡ hosts
    → events ≡ events_after moment (night_buckets day' period) hosts' → shown ≡ events
    → shown ≡ events_after moment (night_buckets day period) hosts
planned moment day day' period hosts hosts' events shown same_day same_hosts events_are shown_is =
    shown_is ∙ events_are ∙ ap (λ names. events_after moment (night_buckets day' period) names) same_hosts
    ∙ ap (λ d. events_after moment (night_buckets d period) hosts) same_day

pub Worked-done : {P : Type 0} (moves : P → List Call → P → Type 0)
    (joined : (p q r : P) (xs ys : List Call) → moves p xs q → moves q ys r → moves p (xs ++ ys) r)
    (old mid new : P) (moment : ℕ) (day day' : ℤ) (period : ℕ) (hosts hosts' : List (List ℕ)) (events shown : List Event) (night : Night)
    → moves old ((E.Hosts, Ok (A.Hosts hosts)) ∷ []) mid → day' ≡ day → hosts' ≡ hosts
    → events ≡ events_after moment (night_buckets day' period) hosts' → shown ≡ events → Carried moves mid new day' shown night
    → Worked moves old new moment day period (Done night)
Worked-done moves joined old mid new moment day day' period hosts hosts' events shown night asked same_day same_hosts events_are shown_is
    carried =
    worked_done moves joined old mid new moment day period hosts night asked
    (subst (λ d. Carried moves mid new d (events_after moment (night_buckets day period) hosts) night) same_day
    (subst (λ xs. Carried moves mid new day' xs night)
    (planned moment day day' period hosts hosts' events shown same_day same_hosts events_are shown_is) carried))

pub Worked-stopped : {P : Type 0} (moves : P → List Call → P → Type 0)
    (joined : (p q r : P) (xs ys : List Call) → moves p xs q → moves q ys r → moves p (xs ++ ys) r)
    (old mid new : P) (moment : ℕ) (day day' : ℤ) (period : ℕ) (hosts hosts' : List (List ℕ)) (events shown : List Event)
    (refusal : Refusal)
    → moves old ((E.Hosts, Ok (A.Hosts hosts)) ∷ []) mid → day' ≡ day → hosts' ≡ hosts
    → events ≡ events_after moment (night_buckets day' period) hosts' → shown ≡ events → Stopped moves mid new shown refusal
    → Worked moves old new moment day period (Refused refusal)
Worked-stopped moves joined old mid new moment day day' period hosts hosts' events shown refusal asked same_day same_hosts events_are
    shown_is stopped =
    worked_stopped moves joined old mid new moment day period hosts refusal asked
    (subst (λ xs. Stopped moves mid new xs refusal)
    (planned moment day day' period hosts hosts' events shown same_day same_hosts events_are shown_is) stopped)

-- ---- one more call

total-more : (count : Answer → ℕ) (calls : List Call) (event : Event) (answer : Answer)
    → total count (calls ++ (event, Ok answer) ∷ []) ≡ total count calls + count answer
total-more count [] event answer = omega arith
total-more count ((asked, Ok other) ∷ calls) event answer = omega (arith, total-more count calls event answer)
total-more count ((asked, Err refusal) ∷ calls) event answer = total-more count calls event answer

night_of-more : (day : ℤ) (calls : List Call) (event : Event) (answer : Answer)
    → added (night_of day calls) answer ≡ night_of day (calls ++ (event, Ok answer) ∷ [])
night_of-more day calls event answer = rw (total-more, total-more, total-more, total-more)

pub Carried-more : {P : Type 0} (moves : P → List Call → P → Type 0)
    (joined : (p q r : P) (xs ys : List Call) → moves p xs q → moves q ys r → moves p (xs ++ ys) r)
    (old mid new : P) (day : ℤ) (events more : List Event) (event : Event) (night after : Night) (answer : Answer)
    → Carried moves old mid day events night → moves mid ((event, Ok answer) ∷ []) new → more ≡ events ++ event ∷ []
    → after ≡ added night answer → Carried moves old new day more after
Carried-more moves joined old mid new day events more event night after answer carried moved more_is after_is = record {
  calls = carried.calls ++ (event, Ok answer) ∷ [];
  moved = joined old mid new carried.calls ((event, Ok answer) ∷ []) carried.moved moved;
  asked = events_of-append carried.calls ((event, Ok answer) ∷ []) ∙ ap (λ before. before ++ event ∷ []) carried.asked ∙ sym more_is;
  answered = AreAnswered-more carried.calls event answer carried.answered;
  counted = after_is ∙ ap (λ before. added before answer) carried.counted ∙ night_of-more day carried.calls event answer;
}

pub Carried-stopped : {P : Type 0} (moves : P → List Call → P → Type 0)
    (joined : (p q r : P) (xs ys : List Call) → moves p xs q → moves q ys r → moves p (xs ++ ys) r)
    (old mid new : P) (day : ℤ) (events later all : List Event) (event : Event) (night : Night) (refusal : Refusal)
    → Carried moves old mid day events night → moves mid ((event, Err refusal) ∷ []) new → all ≡ events ++ event ∷ later
    → Stopped moves old new all refusal
Carried-stopped moves joined old mid new day events later all event night refusal carried moved all_is = record {
  before = carried.calls;
  event = event;
  later = later;
  moved = joined old mid new carried.calls ((event, Err refusal) ∷ []) carried.moved moved;
  asked = all_is ∙ ap (λ before. before ++ event ∷ later) (sym carried.asked);
  answered = carried.answered;
}

-- ---- along the list of events

taken-more : (events : List Event) (i : ℕ) (event : Event) → i < length events → event ≡ get_or events i event
    → take (i + 1) events ≡ take i events ++ event ∷ []
taken-more events i event below at = take_more events i event below ∙ ap (λ e. take i events ++ e ∷ []) (sym at)

split-at : (events : List Event) (i : ℕ) (event : Event) → i < length events → event ≡ get_or events i event
    → events ≡ take i events ++ event ∷ drop (suc i) events
split-at events i event below at =
    sym (take-append-drop i events) ∙ ap (λ xs. take i events ++ xs) (drop-cons events i event below)
    ∙ ap (λ e. take i events ++ e ∷ drop (suc i) events) (sym at)

pub Carried-next : {P : Type 0} (moves : P → List Call → P → Type 0)
    (joined : (p q r : P) (xs ys : List Call) → moves p xs q → moves q ys r → moves p (xs ++ ys) r)
    (old mid new : P) (day : ℤ) (events : List Event) (i : ℕ) (event : Event) (night after : Night) (answer : Answer)
    → i < length events → event ≡ get_or events i event → Carried moves old mid day (take i events) night
    → moves mid ((event, Ok answer) ∷ []) new → after ≡ added night answer → Carried moves old new day (take (i + 1) events) after
Carried-next moves joined old mid new day events i event night after answer below at carried moved after_is =
    Carried-more moves joined old mid new day (take i events) (take (i + 1) events) event night after answer carried moved
    (taken-more events i event below at) after_is

pub Stopped-at : {P : Type 0} (moves : P → List Call → P → Type 0)
    (joined : (p q r : P) (xs ys : List Call) → moves p xs q → moves q ys r → moves p (xs ++ ys) r)
    (old mid new : P) (day : ℤ) (events : List Event) (i : ℕ) (event : Event) (night : Night) (refusal : Refusal)
    → i < length events → event ≡ get_or events i event → Carried moves old mid day (take i events) night
    → moves mid ((event, Err refusal) ∷ []) new → Stopped moves old new events refusal
Stopped-at moves joined old mid new day events i event night refusal below at carried moved =
    Carried-stopped moves joined old mid new day (take i events) (drop (suc i) events) events event night refusal carried moved
    (split-at events i event below at)

-- ---- room for the sums

pub AreAtMost-next : (i k : ℕ) (night : Night) → AreAtMost (i * k + k) night → AreAtMost ((i + 1) * k) night
AreAtMost-next i k night small = subst (λ most. AreAtMost most night) (sym (suc-mul i k) ∙ ap (λ j. j * k) (sym (add-one i))) small

-- ---- buckets

range-more : (n : ℕ) → range_with_len 0 (n + 1) ≡ range_with_len 0 n ++ n ∷ []
range-more n =
    sym (map-id (range_with_len 0 (n + 1))) ∙ map-range_with_len_more (λ x. x) 0 n n (omega arith)
    ∙ ap (λ xs. xs ++ n ∷ []) (map-id (range_with_len 0 n))

filter-one : (chosen : Bool) (bucket : ℕ) → cond chosen (bucket ∷ []) [] ≡ picked chosen bucket
filter-one true bucket = refl
filter-one false bucket = refl

filter-range-more : (p : ℕ → Bool) (n : ℕ) → filter p (range_with_len 0 (n + 1)) ≡ filter p (range_with_len 0 n) ++ picked (p n) n
filter-range-more p n = ap (filter p) (range-more n) ∙ filter-append p (range_with_len 0 n) (n ∷ [])
    ∙ ap (λ xs. filter p (range_with_len 0 n) ++ xs) (filter-one (p n) n)

-- a clean more of a bucket that is chosen
pub cleans-more : (p : ℕ → Bool) (n : ℕ) (before more events : List Event)
    → more ≡ before ++ map E.Clean (filter p (range_with_len 0 n)) → events ≡ more ++ map E.Clean (picked (p n) n)
    → events ≡ before ++ map E.Clean (filter p (range_with_len 0 (n + 1)))
cleans-more p n before more events more_is events_are =
    events_are ∙ ap (λ xs. xs ++ map E.Clean (picked (p n) n)) more_is
    ∙ append_assoc before (map E.Clean (filter p (range_with_len 0 n))) (map E.Clean (picked (p n) n))
    ∙ ap (λ xs. before ++ xs) (sym (map-append E.Clean (filter p (range_with_len 0 n)) (picked (p n) n)))
    ∙ ap (λ xs. before ++ map E.Clean xs) (sym (filter-range-more p n))

-- all sixteen were looked at
pub cleans-all : (day day' : ℤ) (period n : ℕ) (before events : List Event) → day' ≡ day → n ≡ 16
    → events ≡ before ++ map E.Clean (filter (is_nightly day' period) (range_with_len 0 n))
    → events ≡ before ++ map E.Clean (night_buckets day period)
cleans-all day day' period n before events same_day end events_are =
    events_are ∙ ap (λ d. before ++ map E.Clean (filter (is_nightly d period) (range_with_len 0 n))) same_day
    ∙ ap (λ m. before ++ map E.Clean (filter (is_nightly day period) (range_with_len 0 m))) end

-- whether a bucket is chosen
pub chosen-at : (day : ℤ) (period n : ℕ) (chosen : List Bool) → n < 16 → chosen ≡ nightly_of day period
    → get_or chosen n false ≡ is_nightly day period n
chosen-at day period n chosen below chosen_is =
    ap (λ xs. get_or xs n false) chosen_is ∙ get_or-map-range_with_len (is_nightly day period) 0 16 n n false below (zero-before n)

pub events-made : (moment : ℕ) (day day' : ℤ) (period : ℕ) (hosts : List (List ℕ)) (none expiries cleans all : List Event) → none ≡ []
    → expiries ≡ none ++ map (λ host. E.Expire host moment) hosts → cleans ≡ expiries ++ map E.Clean (night_buckets day' period)
    → all ≡ cleans ++ E.Sweep ∷ [] → day' ≡ day → all ≡ events_after moment (night_buckets day period) hosts
events-made moment day day' period hosts none expiries cleans all none_is expiries_are cleans_are all_are same_day =
    all_are ∙ ap (λ xs. xs ++ E.Sweep ∷ []) (cleans_are ∙ ap (λ xs. xs ++ map E.Clean (night_buckets day' period))
    (expiries_are ∙ ap (λ xs. xs ++ map (λ host. E.Expire host moment) hosts) none_is))
    ∙ append_assoc (map (λ host. E.Expire host moment) hosts) (map E.Clean (night_buckets day' period)) (E.Sweep ∷ [])
    ∙ ap (λ d. events_after moment (night_buckets d period) hosts) same_day
