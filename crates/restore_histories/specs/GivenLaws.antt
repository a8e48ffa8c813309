-- What a restore gives is a run of what leads to its backup's tree: while it is open it stands where the frames that were given say, and
-- once it isn't no other one has its name.
use Rattle.std.specs.Prelude.{◌≡◌, ◌≢◌, ◌<◌, ◌≤◌, ◌+◌, ◌-◌, ℕ, zero, suc, min, Bool, true, false, List, [], ◌∷◌, ◌++◌, length, Option, Some, Ok, Err, unwrap_or, slice_get, slice_set, if◌then◌else◌, ◌⊎◌}
use Rattle.std.specs.List.{flat_map}
use Rattle.std.proofs.Common.{refl, sym, ap, ◌∙◌, subst, inl, inr, arith, length-append}
use Rattle.std.proofs.lemmas.Bool.{true≢false}
use Rattle.attr_records.specs.Items.{Tree}
use Rattle.receipts.specs.declared.session.SessionName.{SessionName}
use Rattle.receipts.specs.Session.{is_same_session}
use Rattle.tree_frames.specs.declared.nodes.Frame.{Frame}
use Rattle.tree_frames.specs.declared.nodes.Frame.TheVariants.{End}
use Rattle.tree_frames.specs.Frames.{row_frames, frames, entries_of, removals_of, removal_frames, frames_since}
use Rattle.office_model.specs.declared.event.Event.{Event}
use Rattle.office_model.specs.declared.event.Event.TheVariants.{OpenRead, ReadNext, Reopen}
use Rattle.office_model.specs.declared.answer.Answer.{Answer}
use Rattle.office_model.specs.declared.answer.Answer.TheVariants.{Next, Restore as Opened}
use Rattle.office_model.specs.Places.{AtEach}
use Rattle.office_model.specs.PlacesLaws.{in_set, in_longer, position-found}
use Rattle.office_model.specs.Ids.{Ids}
use Rattle.office_model.specs.Office.{Office, Restore, Durable, Names, raised, reopened, with_restores, numbered, IsSound, with_ids}
use Rattle.office_model.specs.Meaning.{Carried, Reply}
use Rattle.office_model.specs.Parts.{At, restore_at}
use Rattle.office_model.specs.Step.{State, Running, Halted, IsSoundState, IsMade, IsStep, meaning_of}
use Rattle.office_model.specs.History.{Entry, IsHistory, calls_of}
use Rattle.office_model.specs.events
use Rattle.office_model.specs.events.OpenDump.{next_session}
use Rattle.office_model.specs.events.OpenRead.{new_restore}
use Rattle.office_model.specs.events.ReadNext.{frames_of, frame_of, moved_on, Given}
use Rattle.office_model.specs.laws.Judging.{bound, at_is}
use Rattle.office_model.specs.laws.Lawful.{judged}
use Rattle.office_model.specs.laws.Lookups.{same_session, session_itself}
use Rattle.office_model.specs.laws.KeptLaws.{Follows, follows}
use Rattle.office_model.specs.laws.RepeatLaws.{given_as}
use Rattle.office_model.specs.laws.StepLaws.{faulted_is}
use Rattle.restore_histories.specs.HoldingLaws.{HoldsIn, holds_reply, holds_reopened, holds_halted}
use Rattle.restore_histories.specs.EventLaws.{FollowRestores, IsOpened, read_opened, leaves}
use Rattle.restore_histories.specs.RunLaws.{in_both}
use Rattle.restore_histories.specs.Given.{given_by, given_in, IsRun, RestoreGives}

-- ---- frames

-- at least the end is given
some_frames : (base : Option Tree) (tree : Tree) → 0 < length (frames_since base tree)
unfolding frames
some_frames base tree =
    let rows = flat_map row_frames (entries_of base tree) in
    let count : Frame = End (length (entries_of base tree)) in
    omega (arith, length-append (removal_frames (removals_of base tree)) (rows ++ count ∷ []), length-append rows (count ∷ []))

-- what is taken at a place of a list is there
taken_there : (xs : List Frame) (i : ℕ) (other : Frame) → i < length xs → slice_get xs i ≡ Some (unwrap_or (slice_get xs i) other)
taken_there [] i other h = absurd (omega arith)
taken_there (x ∷ xs) zero other h = refl
taken_there (x ∷ xs) (suc i) other h = taken_there xs i other (omega arith)

within : (n m : ℕ) → 0 < m → min n (m - 1) < m
within n m some = omega arith

one_more : (n m : ℕ) → min (min n m + 1) m ≡ min (n + 1) m
one_more n m = omega arith

-- these are given behind so many
abbrev IsRunFrom : ℕ → List Frame → List Frame → Type 0
IsRunFrom n all given = (k : ℕ) (frame : Frame) → slice_get given k ≡ Some frame → slice_get all (min (n + k) (length all - 1)) ≡ Some frame

run_then : (n : ℕ) (all xs ys : List Frame) → IsRunFrom n all xs → IsRunFrom (n + length xs) all ys → IsRunFrom n all (xs ++ ys)
run_then n all xs ys first rest k frame e = step (in_both xs ys k frame e)
  where
    step : (slice_get xs k ≡ Some frame) ⊎ ((j : ℕ) × (k ≡ length xs + j) × (slice_get ys j ≡ Some frame))
        → slice_get all (min (n + k) (length all - 1)) ≡ Some frame
    step (inl f) = first k frame f
    step (inr w) =
        let same : n + length xs + w.0 ≡ n + k = omega (arith, w.1) in
        subst (λ (m : ℕ). slice_get all (min m (length all - 1)) ≡ Some frame) same (rest w.0 frame w.2)

-- ---- an open restore

module _ (session : SessionName) (base : Option Tree) (tree : Tree) where
  -- it leads from this base to this tree, and so many frames were given
  pub record IsAt (count : ℕ) (restore : Restore) : Type 0 where
    pub tree_is : restore.tree ≡ tree
    pub base_is : restore.base ≡ base
    pub position_is : restore.position ≡ min count (length (frames_since base tree) - 1)

  -- the name was given out, and a restore that has it is this one
  pub record IsOpenAt (count : ℕ) (office : Office) : Type 0 where
    pub past : session.epoch ≤ office.epoch
    pub given : session.epoch ≡ office.epoch → session.sequence < office.sequence
    pub at : AtEach (λ (restore : Restore). restore.name ≡ session → IsAt count restore) office.restores

  -- of what a disk keeps: the next epoch is a later one
  abbrev IsPast : Durable → Type 0
  IsPast kept = session.epoch ≤ kept.epoch

  any_ids : (count : ℕ) (office : Office) (ids : Ids) → IsOpenAt count (with_ids office ids) → IsOpenAt count office
  any_ids count office ids has = record { past = has.past; given = has.given; at = has.at }

  abbrev OpenIn : ℕ → State → Type 0
  OpenIn count state = HoldsIn (IsOpenAt count) IsPast state

  raises : (kept : Durable) → IsPast kept → IsPast (raised kept)
  raises kept past = let less : session.epoch ≤ kept.epoch = past in omega arith

  opens : (count : ℕ) (kept : Durable) → IsPast kept → IsOpenAt count (reopened kept)
  opens count kept past = let less : session.epoch ≤ kept.epoch = past in record {
    past = omega arith;
    given = λ same. absurd (omega arith);
    at = λ i restore there. absurd (cc);
  }

  -- ---- all events but a ReadNext

  later : (count : ℕ) (old new : Office) → Follows old new → FollowRestores (next_session old) old.restores new.restores
      → IsOpenAt count old → IsOpenAt count new
  later count old new follow restores was = record {
    past = subst (λ (n : ℕ). session.epoch ≤ n) (sym follow.epoch) was.past;
    given = λ e. let less : session.sequence < old.sequence = was.given (e ∙ follow.epoch) in let more = follow.sequence in omega arith;
    at = λ i restore there name. step restore name (restores i restore there);
  }
    where
      step : (restore : Restore) → restore.name ≡ session
          → ((place : ℕ) × (slice_get old.restores place ≡ Some restore)) ⊎ (restore.name ≡ next_session old) → IsAt count restore
      step restore name (inl w) = was.at w.0 restore w.1 name
      step restore name (inr e) =
          let same : session ≡ next_session old = sym name ∙ e in
          let less : session.sequence < old.sequence = was.given (ap (λ (n : SessionName). n.epoch) same) in
          let its : session.sequence ≡ old.sequence = ap (λ (n : SessionName). n.sequence) same in absurd (omega arith)

  abbrev is_read : Event → Bool
  is_read (ReadNext read) = true
  is_read event = false

  carried_open : (count : ℕ) (event : Event) (office : Office) (names : Names) (c : Carried) → is_read event ≡ false → IsOpenAt count office
      → (meaning_of event).carried office names ≡ Ok c → IsOpenAt count c.after
  carried_open count Reopen office names c other has e =
      holds_reopened (IsOpenAt count) IsPast raises (any_ids count) (λ kept ids h. h) (opens count) office.durable c has.past e
  carried_open count (ReadNext read) office names c other has e = absurd (cc)
  carried_open count event office names c other has e =
      later count office c.after (follows event office names c refl e) (leaves event office names c refl e).restores has

  halted_step : (count : ℕ) (before next : Durable) (names : Names) (event : Event) (reply : Reply) (new : State)
      → IsStep (Halted before next names) event reply new → IsPast before × IsPast next → OpenIn count new
  halted_step count before next names event reply new step has =
      holds_halted (IsOpenAt count) IsPast raises (any_ids count) (λ kept ids h. h) (opens count) before next (meaning_of event).renames reply new has.0 has.1 step.0

  other_step : (count : ℕ) (state : State) (event : Event) (reply : Reply) (new : State) → is_read event ≡ false → IsStep state event reply new
      → OpenIn count state → OpenIn count new
  other_step count (Running old names) event reply new other step has =
      let w = faulted_is event old in
      holds_reply (IsOpenAt count) IsPast raises (any_ids count) (λ kept ids h. h) old names (meaning_of event) reply new has.past
      (λ refusal is. (has, subst (IsOpenAt count) (sym w.1) (record { past = has.past; given = has.given; at = has.at })))
      (λ c e is. carried_open count event old names c other has e)
      (λ c e. (carried_open count event old names c other has e).past) step.0
  other_step count (Halted before next names) event reply new other step has = halted_step count before next names event reply new step has

  -- ---- a ReadNext

  -- what was given behind so many, and what is there then
  record Gives (count : ℕ) (given : List Frame) (new : State) : Type 0 where
    pub run : IsRunFrom count (frames_since base tree) given
    pub left : OpenIn (count + length given) new

  silent : (count : ℕ) (new : State) → OpenIn count new → Gives count [] new
  silent count new has = record {
    run = λ k frame e. absurd (cc);
    left = let same : count ≡ count + 0 = omega arith in subst (λ (n : ℕ). OpenIn n new) same has;
  }

  -- the frame of the restore, and the restore behind it
  abbrev frame_since : Option Tree → Tree → ℕ → Frame
  frame_since base tree position = unwrap_or (slice_get (frames_since base tree) position) (End (length (entries_of base tree)))

  abbrev next_since : Option Tree → Tree → ℕ → ℕ
  next_since base tree position = min (position + 1) (length (frames_since base tree) - 1)

  moved : (count : ℕ) (restore : Restore) → IsAt count restore → IsAt (count + 1) (moved_on restore)
  moved count restore is = record {
    tree_is = is.tree_is;
    base_is = is.base_is;
    position_is = (λ i. next_since (is.base_is i) (is.tree_is i) (is.position_is i)) ∙ one_more count (length (frames_since base tree) - 1);
  }

  frame_there : (count : ℕ) (restore : Restore) → IsAt count restore
      → slice_get (frames_since base tree) (min count (length (frames_since base tree) - 1)) ≡ Some (frame_of restore)
  frame_there count restore is =
      taken_there (frames_since base tree) (min count (length (frames_since base tree) - 1)) (End (length (entries_of base tree)))
      (within count (length (frames_since base tree)) (some_frames base tree))
      ∙ ap Some (sym (λ i. frame_since (is.base_is i) (is.tree_is i) (is.position_is i)))

  run_one : (count : ℕ) (frame : Frame) → slice_get (frames_since base tree) (min count (length (frames_since base tree) - 1)) ≡ Some frame
      → IsRunFrom count (frames_since base tree) (frame ∷ [])
  run_one count frame is zero other e =
      let same : frame ≡ other = cc in
      let none : count ≡ count + 0 = omega arith in
      subst (λ (n : ℕ). slice_get (frames_since base tree) (min n (length (frames_since base tree) - 1)) ≡ Some other) none (is ∙ ap Some same)
  run_one count frame is (suc k) other e = absurd (cc)

  module _ (count : ℕ) (old : Office) (names : Names) (read : SessionName) (sound : IsSound old) (has : IsOpenAt count old) (p : ℕ) (restore : Restore)
      (there : slice_get old.restores p ≡ Some restore) (named : restore.name ≡ read) where
    -- the office behind it
    abbrev read_office : Office
    read_office = with_restores old (slice_set old.restores p (moved_on restore))

    own_frame : is_same_session read session ≡ true → Gives count (frame_of restore ∷ []) (Running read_office names)
    own_frame own =
        let name : restore.name ≡ session = named ∙ same_session read session own in
        let is : IsAt count restore = has.at p restore there name in
        record {
          run = run_one count (frame_of restore) (frame_there count restore is);
          left = record {
            past = has.past;
            given = has.given;
            at = λ i r at_i name_i. step i r name_i name is (in_set old.restores p (moved_on restore) i r at_i);
          };
        }
      where
        step : (i : ℕ) (r : Restore) → r.name ≡ session → restore.name ≡ session → IsAt count restore
            → ((i ≢ p) × (slice_get old.restores i ≡ Some r)) ⊎ ((i ≡ p) × (r ≡ moved_on restore) × (p < length old.restores))
            → IsAt (count + 1) r
        step i r name_i name is (inl f) = absurd (f.0 (sound.sessions.restores_differ i p r restore f.1 there (name_i ∙ sym name)))
        step i r name_i name is (inr f) = subst (IsAt (count + 1)) (sym f.1) (moved count restore is)

    other_frame : is_same_session read session ≡ false → Gives count [] (Running read_office names)
    other_frame other = silent count (Running read_office names) (record {
      past = has.past;
      given = has.given;
      at = λ i r at_i name_i. step i r name_i (in_set old.restores p (moved_on restore) i r at_i);
    })
      where
        step : (i : ℕ) (r : Restore) → r.name ≡ session
            → ((i ≢ p) × (slice_get old.restores i ≡ Some r)) ⊎ ((i ≡ p) × (r ≡ moved_on restore) × (p < length old.restores)) → IsAt count r
        step i r name_i (inl f) = has.at i r f.1 name_i
        step i r name_i (inr f) =
            let same : read ≡ session = sym named ∙ sym (ap (λ (x : Restore). x.name) f.1) ∙ name_i in
            absurd (true≢false (sym (ap (λ n. is_same_session n session) same ∙ session_itself session) ∙ other))

    read_gives : Gives count (given_by session (ReadNext read) (Ok (Next (frame_of restore)))) (Running read_office names)
    read_gives = step (is_same_session read session) refl
      where
        step : (b : Bool) → is_same_session read session ≡ b
            → Gives count (if b then frame_of restore ∷ [] else []) (Running read_office names)
        step true e = own_frame e
        step false e = other_frame e

  restore_named : (restores : List Restore) (read : SessionName) (a : At Restore) → restore_at restores read ≡ Ok a
      → (slice_get restores a.index ≡ Some a.value) × (a.value.name ≡ read)
  restore_named restores read a e =
      let there = at_is _ restores _ a e in
      let w = position-found (λ (r : Restore). is_same_session r.name read) restores a.index there.0 in
      let same : w.0 ≡ a.value = let f = w.1 in let g = there.1 in cc in
      (there.1, ap (λ (r : Restore). r.name) (sym same) ∙ same_session w.0.name read w.2)

  answered_read : (count : ℕ) (old : Office) (names : Names) (read : SessionName) (c : Carried) → IsSound old → IsOpenAt count old
      → events.ReadNext.carried read old ≡ Ok c → Gives count (given_by session (ReadNext read) (Ok c.answer)) (Running c.after names)
  answered_read count old names read c sound has e =
      let a = bound (events.ReadNext.given read old.restores) _ c e in
      let b = bound (restore_at old.restores read) _ a.0 a.1 in
      let there = restore_named old.restores read b.0 b.1 in
      let made : Given = record { frame = frame_of b.0.value; restores = slice_set old.restores b.0.index (moved_on b.0.value) } in
      let made_is : made ≡ a.0 = let f : judged made ≡ judged a.0 = b.2 in cc in
      let done : Carried = given_as (Next made.frame) (with_restores old made.restores) in
      let done_is : done ≡ c =
      ap (λ (g : Given). given_as (Next g.frame) (with_restores old g.restores)) made_is
      ∙ (let f : judged (given_as (Next a.0.frame) (with_restores old a.0.restores)) ≡ judged c = a.2 in cc) in
      subst (λ (x : Carried). Gives count (given_by session (ReadNext read) (Ok x.answer)) (Running x.after names)) done_is
      (read_gives count old names read sound has b.0.index b.0.value there.0 there.1)

  read_step : (count : ℕ) (state : State) (read : SessionName) (reply : Reply) (new : State) → IsSoundState state → IsStep state (ReadNext read) reply new
      → OpenIn count state → Gives count (given_by session (ReadNext read) reply) new
  read_step count (Running old names) read (Ok answer) (Running new n) sound step has =
      answered_read count old n read (given_as answer new) sound.office has step.0
  read_step count (Running old names) read (Ok answer) (Halted before next n) sound step has = absurd step.0
  read_step count (Running old names) read (Err refusal) new sound step has =
      silent count new (holds_reply (IsOpenAt count) IsPast raises (any_ids count) (λ kept ids h. h) old names (meaning_of (ReadNext read)) (Err refusal) new has.past
      (λ other is. (has, has)) (λ c e is. absurd (cc))
      (λ c e. subst (λ (n : ℕ). session.epoch ≤ n) (sym (follows (ReadNext read) old names c refl e).epoch) has.past) step.0)
  read_step count (Halted before next names) read reply (Running new n) sound step has = absurd step.0
  read_step count (Halted before next names) read reply (Halted before' next' n) sound step has =
      subst (λ (r : Reply). Gives count (given_by session (ReadNext read) r) (Halted before' next' n)) (sym step.0.0)
      (silent count (Halted before' next' n) (halted_step count before next names (ReadNext read) reply (Halted before' next' n) step has))

  any_step : (count : ℕ) (state : State) (event : Event) (reply : Reply) (new : State) → IsSoundState state → IsStep state event reply new
      → OpenIn count state → Gives count (given_by session event reply) new
  any_step count state (ReadNext read) reply new sound step has = read_step count state read reply new sound step has
  any_step count state event reply new sound step has = silent count new (other_step count state event reply new refl step has)

  -- ---- histories

  pub given_run : (count : ℕ) (state : State) (faults : ℕ) (entries : List Entry) → IsSoundState state → IsHistory state faults entries
      → OpenIn count state → IsRunFrom count (frames_since base tree) (given_in session (calls_of entries))
  given_run count state faults [] sound legal has = λ k frame e. absurd (cc)
  given_run count state faults (entry ∷ entries) sound legal has =
      let first = any_step count state entry.event entry.reply entry.state sound legal.0.step has in
      let given : List Frame = given_by session entry.event entry.reply in
      run_then count (frames_since base tree) given (given_in session (calls_of entries)) first.run
      (given_run (count + length given) entry.state entry.faults entries legal.0.sound legal.1 first.left)

  pub whole_run : (given : List Frame) → IsRunFrom 0 (frames_since base tree) given → IsRun (frames_since base tree) given
  whole_run given run k frame e =
      let none : 0 + k ≡ k = omega arith in
      subst (λ (n : ℕ). slice_get (frames_since base tree) (min n (length (frames_since base tree) - 1)) ≡ Some frame) none (run k frame e)

-- ---- an opening

-- what an answered event of an office at work left
pub record CarriedOut (office : Office) (names : Names) (event : Event) (answer : Answer) (new : State) : Type 0 where
  pub after : Office
  pub after_names : Names
  pub new_is : new ≡ Running after after_names
  pub carried : IsMade (meaning_of event).pools names office ((meaning_of event).carried office names) answer after

pub carried_out : (office : Office) (names : Names) (asked event : Event) (reply : Reply) (answer : Answer) (new : State) → asked ≡ event
    → reply ≡ Ok answer → IsStep (Running office names) asked reply new → CarriedOut office names event answer new
carried_out office names asked event (Err refusal) answer new same is step = absurd (cc)
carried_out office names asked event (Ok given) answer (Halted before next n) same is step = absurd step.0
carried_out office names asked event (Ok given) answer (Running after n) same is step =
    let given_is : given ≡ answer = cc in
    record {
      after = after;
      after_names = n;
      new_is = refl;
      carried = subst (λ a. IsMade (meaning_of event).pools names office ((meaning_of event).carried office names) a after) given_is
          (subst (λ q. IsMade (meaning_of q).pools names office ((meaning_of q).carried office names) given after) same step.0);
    }

restore_is : (a b : SessionName) → Opened a ≡ Opened b → a ≡ b
restore_is a b e = cc

-- where the restore was opened nothing was given
opened_now : (office : Office) (base : Option Tree) (tree : Tree) → IsSound office
    → IsOpenAt (next_session office) base tree 0 (numbered (with_restores office (office.restores ++ new_restore (next_session office) tree base ∷ [])))
opened_now office base tree sound = record {
  past = omega arith;
  given = λ same. omega arith;
  at = λ i restore there name. step i restore name (in_longer office.restores (new_restore (next_session office) tree base) i restore there);
}
  where
    step : (i : ℕ) (restore : Restore) → restore.name ≡ next_session office
        → (slice_get office.restores i ≡ Some restore) ⊎ ((i ≡ length office.restores) × (restore ≡ new_restore (next_session office) tree base))
        → IsAt (next_session office) base tree 0 restore
    step i restore name (inl f) =
        let less : restore.name.sequence < office.sequence = (sound.sessions.restores_given i restore f).given_out in
        let its : restore.name.sequence ≡ office.sequence = ap (λ (n : SessionName). n.sequence) name in absurd (omega arith)
    step i restore name (inr f) = subst (IsAt (next_session office) base tree 0) (sym f.1) (record {
      tree_is = refl;
      base_is = refl;
      position_is = omega arith;
    })

-- an opened restore with its backup
record IsBegun (office : Office) (name : List ℕ) (number : ℕ) (base : Option ℕ) (session : SessionName) (after : Office) : Type 0 where
  pub opened : IsOpened office name number base after.restores
  pub begun : IsOpenAt session opened.base_tree opened.backup.tree 0 after

begun_by : (office : Office) (name : List ℕ) (number : ℕ) (base : Option ℕ) (session : SessionName) (after : Office) → IsSound office
    → events.OpenRead.carried name number base office ≡ Ok (given_as (Opened session) after) → IsBegun office name number base session after
begun_by office name number base session after sound e =
    let a = bound (events.OpenRead.with_restore name number base (next_session office) office.hosts office.restores) _ _ e in
    let opened = read_opened office name number base a.0 a.1 in
    let done : Carried = given_as (Opened (next_session office)) (numbered (with_restores office a.0)) in
    let done_is : done ≡ given_as (Opened session) after = let f : judged done ≡ judged (given_as (Opened session) after) = a.2 in cc in
    let named : next_session office ≡ session = restore_is _ _ (ap (λ (x : Carried). x.answer) done_is) in
    let after_is : numbered (with_restores office a.0) ≡ after = ap (λ (x : Carried). x.after) done_is in
    subst (IsBegun office name number base session) after_is
    (subst (λ (s : SessionName). IsBegun office name number base s (numbered (with_restores office a.0))) named (record {
      opened = opened;
      begun = subst (λ (rs : List Restore). IsOpenAt (next_session office) opened.base_tree opened.backup.tree 0 (numbered (with_restores office rs)))
          opened.restores_are (opened_now office opened.base_tree opened.backup.tree sound);
    }))

pub restore_gives : RestoreGives
restore_gives office names faults opening entries name number base session sound legal event_is reply_is =
    let out = carried_out office names opening.event (OpenRead name number base) opening.reply (Opened session) opening.state event_is reply_is legal.0.step in
    let begun = begun_by office name number base session out.after sound.office out.carried in
    let tree : Tree = begun.opened.backup.tree in
    let base_tree : Option Tree = begun.opened.base_tree in
    let has : HoldsIn (IsOpenAt session base_tree tree 0) (λ (kept : Durable). session.epoch ≤ kept.epoch) opening.state =
    subst (HoldsIn (IsOpenAt session base_tree tree 0) (λ (kept : Durable). session.epoch ≤ kept.epoch)) (sym out.new_is) begun.begun in
    record {
      backup = begun.opened.backup;
      is_backup = begun.opened.is_backup;
      base_tree = base_tree;
      is_base = begun.opened.is_base;
      run = whole_run session base_tree tree (given_in session (calls_of entries))
          (given_run session base_tree tree 0 opening.state opening.faults entries legal.0.sound legal.1 has);
    }
