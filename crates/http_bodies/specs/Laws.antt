-- An input has one reading as a body: what of it is whole, or where its reading stops.
use Rattle.std.specs.Prelude.{◌≡◌, ◌⊎◌, ℕ, List, [], ◌∷◌, ◌++◌}
use Rattle.std.proofs.Common.{refl, sym, ap, ◌∙◌, subst, arith, append_assoc, append-nil, inl, inr}
use Rattle.http_bodies.specs.declared.body.Body.{Body}
use Rattle.http_bodies.specs.declared.body.Place.{Place}
use Rattle.http_bodies.specs.declared.body.Place.TheVariants.{Counted, Line, InChunk, Trailer, Done}
use Rattle.http_bodies.specs.declared.stop.BodyStop.{BodyStop}
use Rattle.http_bodies.specs.declared.stop.BodyStop.TheVariants.{Truncated, BadChunk, TooLarge, LinkFault, Memory}
use Rattle.http_bodies.specs.Bodies.{Coding, OfLength, Chunked, IsBody, IsAt, IsItem, WantsBytes, IsLined, MayBecomeItem, HasNoItemYet, HasLargeChunk, IsCutAt}
use Rattle.http_bodies.specs.Reads.{StopsAt}
use Rattle.http_bodies.specs.RunLaws.{Step, Passed, Took, raw_of, at, IsRun, item_unique, item_or_byte, GoesOn, one_run, start_of, AreAlike, IsAt-reaches}

-- two whole bodies at the front of one input are the same, and carry the same
abbrev pub BodiesAreOne : Type 0
BodiesAreOne =
    (coding : Coding) (raw raw' body body' rest rest' : List ℕ) → IsBody coding raw body → IsBody coding raw' body' → raw ++ rest ≡ raw' ++ rest'
    → (raw ≡ raw') × (body ≡ body') × (rest ≡ rest')

-- a stop that the input is the cause of; the others are the link's and memory's
abbrev pub IsOfInput : BodyStop → Type 0
IsOfInput Truncated = Unit {0}
IsOfInput BadChunk = Unit {0}
IsOfInput TooLarge = Unit {0}
IsOfInput LinkFault = ⊥
IsOfInput Memory = ⊥

-- of the input these bytes are read as the front of a body, which carry those; there it stops for this cause
pub record StopsBody (coding : Coding) (input : List ℕ) (stop : BodyStop) (raw got : List ℕ) : Type 0 where
  pub place : Body
  pub more : List ℕ
  pub at : IsAt coding place raw got
  pub input_is : input ≡ raw ++ more
  pub of_input : IsOfInput stop
  pub cause : StopsAt stop place more

-- an input that begins with a whole body isn't cut off inside it, and its chunks aren't broken or too large
abbrev pub WholeBodiesDoNotStop : Type 0
WholeBodiesDoNotStop =
    (coding : Coding) (raw body rest front got : List ℕ) (stop : BodyStop) → IsBody coding raw body → StopsBody coding (raw ++ rest) stop front got → ⊥

-- the reading of an input stops behind the same bytes, whatever it is told for
abbrev pub StopsAreOne : Type 0
StopsAreOne =
    (coding : Coding) (input raw raw' got got' : List ℕ) (stop stop' : BodyStop) → StopsBody coding input stop raw got
    → StopsBody coding input stop' raw' got' → (raw ≡ raw') × (got ≡ got')

-- ---- where a reading doesn't go on

Halts : Body → List ℕ → Type 0
Halts body more = (end : Body) → AreAlike end body → GoesOn end more → ⊥

pub record AreOne (a b : Body) (raw raw' got got' more more' : List ℕ) : Type 0 where
  pub place_is : a.place ≡ b.place
  pub raw_is : raw ≡ raw'
  pub got_is : got ≡ got'
  pub more_is : more ≡ more'

-- two readings of one input that don't go on are the same
one_halt : (coding : Coding) (a b : Body) (raw raw' got got' more more' : List ℕ) → IsAt coding a raw got → IsAt coding b raw' got'
    → raw ++ more ≡ raw' ++ more' → Halts a more → Halts b more' → AreOne a b raw raw' got got' more more'
unfolding Halts
one_halt coding a b raw raw' got got' more more' x y is halts halts' =
    let p = IsAt-reaches coding a.place a.room raw got x in
    let q = IsAt-reaches coding b.place b.room raw' got' y in
    let input : raw_of p.runs.steps ++ more ≡ raw_of q.runs.steps ++ more'
    = ap (λ xs. xs ++ more) (sym p.runs.raw_is) ∙ is ∙ ap (λ xs. xs ++ more') q.runs.raw_is in
    elim (one_run p.runs.steps q.runs.steps (start_of coding) p.end q.end more more' p.runs.run q.runs.run input) [
      | inl same ↦ record {
        place_is = sym p.alike.place ∙ ap (λ (e : Body). e.place) same.end ∙ q.alike.place;
        raw_is = p.runs.raw_is ∙ same.raw ∙ sym q.runs.raw_is;
        got_is = p.runs.got_is ∙ same.got ∙ sym q.runs.got_is;
        more_is = same.more;
      }
      | inr (inl on) ↦ absurd (halts p.end p.alike on)
      | inr (inr on) ↦ absurd (halts' q.end q.alike on)
    ]

-- ---- a whole body doesn't go on

done_at : Coding → Body
done_at (OfLength count) = at (Counted 0) 0
done_at Chunked = at Done 0

IsAt-whole : (coding : Coding) (raw body : List ℕ) → IsBody coding raw body → IsAt coding (done_at coding) raw body
unfolding done_at
IsAt-whole (OfLength count) raw body is = (is.0, omega (arith, is.1))
IsAt-whole Chunked raw body is = is

no_step : (place : Place) (steps : List Step) (step : Step) (body end : Body) → (place ≡ Done) ⊎ (place ≡ Counted 0) → body.place ≡ place
    → IsRun (step ∷ steps) body end → ⊥
no_step place steps (Passed item size) body end (inl done) is run = subst (λ p. IsItem p item size) (is ∙ done) run.0
no_step place steps (Passed item size) body end (inr none) is run = subst (λ p. IsItem p item size) (is ∙ none) run.0
no_step place steps (Took byte) body end (inl done) is run = subst WantsBytes (is ∙ done) run.0
no_step place steps (Took byte) body end (inr none) is run = omega (arith, subst WantsBytes (is ∙ none) run.0)

done_place : (coding : Coding) → ((done_at coding).place ≡ Done) ⊎ ((done_at coding).place ≡ Counted 0)
unfolding done_at
done_place (OfLength count) = inr refl
done_place Chunked = inl refl

halts-whole : (coding : Coding) (more : List ℕ) → Halts (done_at coding) more
unfolding Halts
halts-whole coding more end alike on = no_step (done_at coding).place on.steps on.step end on.end (done_place coding) alike.place on.run

pub bodies_are_one : BodiesAreOne
bodies_are_one coding raw raw' body body' rest rest' x y is =
    let one = one_halt coding (done_at coding) (done_at coding) raw raw' body body' rest rest' (IsAt-whole coding raw body x)
    (IsAt-whole coding raw' body' y) is (halts-whole coding rest) (halts-whole coding rest') in
    (one.raw_is, one.got_is, one.more_is)

-- ---- a reading that stops doesn't go on

may_not : (place : Place) (more : List ℕ) → WantsBytes place → MayBecomeItem place more → ⊥
may_not (Counted left) more wants may = may
may_not Line more wants may = wants
may_not (InChunk left) more wants may = omega (arith, wants, may.0)
may_not Trailer more wants may = wants
may_not Done more wants may = may

lined_not : (place : Place) → WantsBytes place → IsLined place → ⊥
lined_not (Counted left) wants lined = lined
lined_not Line wants lined = wants
lined_not (InChunk left) wants lined = omega (arith, wants, lined)
lined_not Trailer wants lined = wants
lined_not Done wants lined = lined

module _ (body end : Body) (steps : List Step) (more rest : List ℕ) where
  not_cut : (step : Step) → IsRun (step ∷ steps) body end → more ≡ raw_of (step ∷ steps) ++ rest → IsCutAt body more → ⊥
  not_cut (Passed item size) run is (inl ends) = item_or_byte body.place item size run.0 ends.0
  not_cut (Passed item size) run is (inr none) =
      none.none item (raw_of steps ++ rest) size run.0 (is ∙ append_assoc item (raw_of steps) rest)
  not_cut (Took byte) run is (inl ends) = absurd (some_byte (sym ends.1 ∙ is))
    where
      some_byte : [] ≡ byte ∷ (raw_of steps ++ rest) → ⊥
      some_byte e = cc
  not_cut (Took byte) run is (inr none) = may_not body.place more run.0 none.may

  not_broken : (step : Step) → IsRun (step ∷ steps) body end → more ≡ raw_of (step ∷ steps) ++ rest → StopsAt BadChunk body more → ⊥
  not_broken (Passed item size) run is broken =
      broken.1 [] item (raw_of steps ++ rest) size run.0 (append-nil more ∙ is ∙ append_assoc item (raw_of steps) rest)
  not_broken (Took byte) run is broken = lined_not body.place run.0 broken.0

  not_large : (step : Step) → IsRun (step ∷ steps) body end → more ≡ raw_of (step ∷ steps) ++ rest → StopsAt TooLarge body more → ⊥
  not_large (Passed item size) run is large =
      let same = item_unique Line large.line item large.size size large.rest (raw_of steps ++ rest) large.is_line
      (subst (λ p. IsItem p item size) large.at_line run.0) (sym large.bytes_are ∙ is ∙ append_assoc item (raw_of steps) rest) in
      omega (arith, same.1, large.large, run.1)
  not_large (Took byte) run is large = subst WantsBytes large.at_line run.0

-- it stands at the same place, and has the same room where that counts
cause-alike : (stop : BodyStop) (a b : Body) (more : List ℕ) → AreAlike a b → IsOfInput stop → StopsAt stop b more → StopsAt stop a more
cause-alike Truncated a b more alike of cause = subst (λ p. (WantsBytes p × (more ≡ [])) ⊎ HasNoItemYet p more) (sym alike.place) cause
cause-alike BadChunk a b more alike of cause = subst (λ p. StopsAt BadChunk (at p b.room) more) (sym alike.place) cause
cause-alike TooLarge a b more alike of cause =
    subst (λ p. HasLargeChunk p a.room more) (sym alike.place) (subst (λ n. HasLargeChunk b.place n more) (sym (alike.room cause.at_line)) cause)
cause-alike LinkFault a b more alike of cause = absurd of
cause-alike Memory a b more alike of cause = absurd of

goes_on-never : (stop : BodyStop) (body : Body) (more : List ℕ) → GoesOn body more → IsOfInput stop → StopsAt stop body more → ⊥
goes_on-never Truncated body more on of cause = not_cut body on.end on.steps more on.rest on.step on.run on.more_is cause
goes_on-never BadChunk body more on of cause = not_broken body on.end on.steps more on.rest on.step on.run on.more_is cause
goes_on-never TooLarge body more on of cause = not_large body on.end on.steps more on.rest on.step on.run on.more_is cause
goes_on-never LinkFault body more on of cause = absurd of
goes_on-never Memory body more on of cause = absurd of

halts-stop : (stop : BodyStop) (body : Body) (more : List ℕ) → IsOfInput stop → StopsAt stop body more → Halts body more
unfolding Halts
halts-stop stop body more of cause end alike on = goes_on-never stop end more on of (cause-alike stop end body more alike of cause)

-- nothing stops at the end of a body
done_not : (stop : BodyStop) (place : Place) (room : ℕ) (more : List ℕ) → (place ≡ Done) ⊎ (place ≡ Counted 0) → IsOfInput stop
    → StopsAt stop (at place room) more → ⊥
done_not Truncated place room more (inl done) of (inl ends) = subst WantsBytes done ends.0
done_not Truncated place room more (inl done) of (inr none) = subst (λ p. MayBecomeItem p more) done none.may
done_not Truncated place room more (inr done) of (inl ends) = omega (arith, subst WantsBytes done ends.0)
done_not Truncated place room more (inr done) of (inr none) = subst (λ p. MayBecomeItem p more) done none.may
done_not BadChunk place room more (inl done) of cause = subst IsLined done cause.0
done_not BadChunk place room more (inr done) of cause = subst IsLined done cause.0
done_not TooLarge place room more (inl done) of cause = absurd (line_done (sym cause.at_line ∙ done))
  where
    line_done : Line ≡ Done → ⊥
    line_done e = cc
done_not TooLarge place room more (inr done) of cause = absurd (line_counted (sym cause.at_line ∙ done))
  where
    line_counted : Line ≡ Counted 0 → ⊥
    line_counted e = cc
done_not LinkFault place room more where_ of cause = absurd of
done_not Memory place room more where_ of cause = absurd of

pub whole_bodies_do_not_stop : WholeBodiesDoNotStop
whole_bodies_do_not_stop coding raw body rest front got stop x stops =
    let one = one_halt coding (done_at coding) stops.place raw front body got rest stops.more (IsAt-whole coding raw body x) stops.at stops.input_is
    (halts-whole coding rest) (halts-stop stop stops.place stops.more stops.of_input stops.cause) in
    done_not stop (done_at coding).place stops.place.room stops.more (done_place coding) stops.of_input
    (subst (λ p. StopsAt stop (at p stops.place.room) stops.more) (sym one.place_is) stops.cause)

pub stops_are_one : StopsAreOne
stops_are_one coding input raw raw' got got' stop stop' x y =
    let one = one_halt coding x.place y.place raw raw' got got' x.more y.more x.at y.at (sym x.input_is ∙ y.input_is)
    (halts-stop stop x.place x.more x.of_input x.cause) (halts-stop stop' y.place y.more y.of_input y.cause) in
    (one.raw_is, one.got_is)
