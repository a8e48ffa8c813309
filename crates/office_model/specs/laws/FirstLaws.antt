-- Of the puts and removals of one dump with one token the first Ok alone changes a tree: behind it the dump keeps the token.
use Rattle.std.specs.Prelude.{◌≡◌, ℕ, zero, suc, ◌≤◌, ◌<◌, Bool, true, false, not, List, [], ◌∷◌, ◌++◌, length, Option, Some, None, Ok, Err, nat_le, is_some, slice_get, slice_set, if◌then◌else◌, ◌⊎◌}
use Rattle.std.specs.Option.{option_map_or}
use Rattle.std.proofs.Common.{refl, sym, ap, ◌∙◌, subst, inl, inr, arith}
use Rattle.attr_records.specs.Items.{content_of, is_large}
use Rattle.attr_records.specs.Trees.{node_at}
use Rattle.receipts.specs.declared.session.SessionName.{SessionName}
use Rattle.receipts.specs.declared.session.Token.{Token}
use Rattle.receipts.specs.Session.{is_same_token}
use Rattle.office_model.specs.declared.answer.Answer.{Answer}
use Rattle.office_model.specs.declared.answer.Answer.TheVariants.{Done}
use Rattle.office_model.specs.declared.event.Event.{Event}
use Rattle.office_model.specs.declared.event.Event.TheVariants.{Put, Remove}
use Rattle.office_model.specs.declared.event.PutItem.{PutItem}
use Rattle.office_model.specs.declared.event.PutItem.TheVariants.{Whole, Staged}
use Rattle.office_model.specs.declared.refusal.BrokenRule.TheVariants.{TokensFull}
use Rattle.office_model.specs.Places.{Differ}
use Rattle.office_model.specs.Office.{Office, Dump, Names, IsSound, IsGiven, with_ids, stage_content, token_limit}
use Rattle.office_model.specs.Meaning.{Carried, Judged, Reply}
use Rattle.office_model.specs.Parts.{At, dump_at}
use Rattle.office_model.specs.UsedNames.{Among}
use Rattle.office_model.specs.Repeats.{keeps, with_token, kept_at, keeping, once}
use Rattle.office_model.specs.events
use Rattle.office_model.specs.Step.{State, Running, Halted, IsSoundState, IsStep, meaning_of}
use Rattle.office_model.specs.Tokens.{IsEdit, FirstAlone}
use Rattle.office_model.specs.laws.Judging.{bound, passed, at_is}
use Rattle.office_model.specs.laws.Lookups.{named}
use Rattle.office_model.specs.laws.Lawful.{judged}
use Rattle.office_model.specs.laws.HeldLaws.{any_found}
use Rattle.office_model.specs.laws.PutLaws.{may_put, may_put_stage}
use Rattle.office_model.specs.laws.RepeatLaws.{given_as, again_is, same_token}
use Rattle.office_model.specs.laws.IdLaws.{made_as, IsSound-ids}
use Rattle.office_model.specs.laws.KeptLaws.{Follows, follows, IsSpent, SpentIn, put_left, not_renewing, edit_renames, stay_fails, alone}

-- ---- places after a write

module _ {A : Type 0} where
  set_there : (xs : List A) (p : ℕ) (old new : A) → slice_get xs p ≡ Some old → slice_get (slice_set xs p new) p ≡ Some new
  set_there [] p old new was = absurd (cc)
  set_there (y ∷ xs) zero old new was = refl
  set_there (y ∷ xs) (suc p) old new was = set_there xs p old new was

  -- what was at a place is there, or was the old one
  set_at : (xs : List A) (p : ℕ) (old new : A) (i : ℕ) (x : A) → slice_get xs p ≡ Some old → slice_get xs i ≡ Some x
      → (slice_get (slice_set xs p new) i ≡ Some x) ⊎ ((x ≡ old) × (slice_get (slice_set xs p new) i ≡ Some new))
  set_at [] p old new i x was at = absurd (cc)
  set_at (y ∷ xs) zero old new zero x was at = inr (cc, refl)
  set_at (y ∷ xs) zero old new (suc i) x was at = inl at
  set_at (y ∷ xs) (suc p) old new zero x was at = inl at
  set_at (y ∷ xs) (suc p) old new (suc i) x was at = set_at xs p old new i x was at

  last_there : (xs : List A) (x : A) → slice_get (xs ++ x ∷ []) (length xs) ≡ Some x
  last_there [] x = refl
  last_there (y ∷ xs) x = last_there xs x

-- ---- dumps stay at their places

-- each dump of before is at its place, with its name
abbrev StayNamed : List Dump → List Dump → Type 0
StayNamed old new = (i : ℕ) (dump : Dump) → slice_get old i ≡ Some dump → (now : Dump) × (slice_get new i ≡ Some now) × (now.name ≡ dump.name)

stay_set : (dumps : List Dump) (p : ℕ) (old new : Dump) → slice_get dumps p ≡ Some old → new.name ≡ old.name → StayNamed dumps (slice_set dumps p new)
stay_set dumps p old new was name i dump at = step (set_at dumps p old new i dump was at)
  where
    step : (slice_get (slice_set dumps p new) i ≡ Some dump) ⊎ ((dump ≡ old) × (slice_get (slice_set dumps p new) i ≡ Some new))
        → (now : Dump) × (slice_get (slice_set dumps p new) i ≡ Some now) × (now.name ≡ dump.name)
    step (inl f) = (dump, f, refl)
    step (inr f) = (new, f.1, name ∙ ap (λ (d : Dump). d.name) (sym f.0))

stays_as : (old : List Dump) (made c : Carried) → judged made ≡ judged c → StayNamed old made.after.dumps → StayNamed old c.after.dumps
stays_as old made c e stay = let same : made ≡ c = cc in subst (λ (x : Carried). StayNamed old x.after.dumps) same stay

put_stays : (session : SessionName) (path : List ℕ) (item : PutItem) (office : Office) (names : Names) (c : Carried)
    → events.Put.put session path item office names ≡ Ok c → StayNamed office.dumps c.after.dumps
put_stays session path (Whole item) office names c e =
    let full : Bool = events.Put.is_chain_full office.pool office.dumps names (content_of item) in
    let a = bound (events.Put.with_put is_large session path item (events.Put.is_chain_full office.pool office.dumps names (content_of item)) office.dumps) _ c e in
    let may = may_put is_large session path item full office.dumps a.0 a.1 in
    stays_as office.dumps _ c a.2 (subst (StayNamed office.dumps) may.new_is
    (stay_set office.dumps may.index may.dump (events.Put.with_item may.dump path item) may.is_dump refl))
put_stays session path (Staged file) office names c e =
    let full : Bool = events.Put.is_chain_full office.pool office.dumps names (stage_content office.stages file.stage) in
    let a = bound (events.Put.with_staged session path file (events.Put.is_chain_full office.pool office.dumps names (stage_content office.stages file.stage)) office.dumps office.stages) _ c e in
    let by = may_put_stage session path file full office.dumps office.stages a.0 a.1 in
    let may = may_put events.Put.is_over session path (events.Put.staged_item file by.stage.bytes) full office.dumps a.0.dumps by.put in
    stays_as office.dumps _ c a.2 (subst (StayNamed office.dumps) may.new_is
    (stay_set office.dumps may.index may.dump (events.Put.with_item may.dump path (events.Put.staged_item file by.stage.bytes)) may.is_dump refl))

remove_stays : (session : SessionName) (path : List ℕ) (office : Office) (c : Carried) → events.Remove.removed session path office ≡ Ok c
    → StayNamed office.dumps c.after.dumps
remove_stays session path office c e =
    let a = bound (events.Remove.without_path session path office.dumps) _ c e in
    let b = bound (dump_at office.dumps session) _ a.0 a.1 in
    let was : slice_get office.dumps b.0.index ≡ Some b.0.value = (at_is _ office.dumps _ b.0 b.1).1 in
    let d : (not (is_some (node_at b.0.value.tree path)) ≡ false) × (Ok (slice_set office.dumps b.0.index (events.Remove.with_removed b.0.value path)) ≡ Ok a.0) = passed _ _ _ _ b.2 in
    let new_is : slice_set office.dumps b.0.index (events.Remove.with_removed b.0.value path) ≡ a.0 = let g = d.1 in cc in
    stays_as office.dumps _ c a.2 (subst (StayNamed office.dumps) new_is
    (stay_set office.dumps b.0.index b.0.value (events.Remove.with_removed b.0.value path) was refl))

-- ---- an Ok leaves the dump with the token

if_true : {A : Type 0} (b : Bool) (x y : A) → (if b then Some x else None) ≡ Some y → b ≡ true
if_true true x y e = refl
if_true false x y e = absurd (cc)

-- the dump at this place has this name and keeps the token
record KeepsAt (dumps : List Dump) (i : ℕ) (session : SessionName) (token : Token) : Type 0 where
  pub dump : Dump
  pub is_dump : slice_get dumps i ≡ Some dump
  pub name : dump.name ≡ session
  pub is_kept : Among dump.kept token

keeps_as : (made c : Carried) (i : ℕ) (session : SessionName) (token : Token) → judged made ≡ judged c → KeepsAt made.after.dumps i session token
    → KeepsAt c.after.dumps i session token
keeps_as made c i session token e keeps = let same : made ≡ c = cc in subst (λ (x : Carried). KeepsAt x.after.dumps i session token) same keeps

kept_at-there : (dumps : List Dump) (i : ℕ) (token : Token) (dump : Dump) → slice_get dumps i ≡ Some dump
    → slice_get (kept_at i token dumps) i ≡ Some (with_token token dump)
kept_at-there dumps i token dump at =
    ap (λ (r : Option Dump). slice_get (option_map_or (λ (d : Dump). slice_set dumps i (with_token token d)) r dumps) i) at
    ∙ set_there dumps i dump (with_token token dump) at

among_found : (token : Token) (dump : Dump) → keeps token dump ≡ true → Among dump.kept token
among_found token dump e =
    let w = any_found (λ (kept : Token). is_same_token kept token) dump.kept e in (w.0, w.2 ∙ ap Some (same_token w.1 token w.3))

once_keeps : (session : SessionName) (token : Token) (office left : Office) (rest : Judged Carried) (c : Carried) (dump : At Dump)
    → left.dumps ≡ office.dumps → slice_get office.dumps dump.index ≡ Some dump.value → dump.value.name ≡ session
    → ((made : Carried) → rest ≡ Ok made → StayNamed office.dumps made.after.dumps)
    → ((answer : Answer) × ((if keeps token dump.value then Some Done else None) ≡ Some answer) × (judged (given_as answer left) ≡ judged c))
    ⊎ (((if keeps token dump.value then Some Done else None) ≡ None) × (keeping dump token rest ≡ Ok c))
    → KeepsAt c.after.dumps dump.index session token
once_keeps session token office left rest c dump same was name stay (inl f) =
    keeps_as (given_as f.0 left) c dump.index session token f.2 (record {
      dump = dump.value;
      is_dump = ap (λ (ds : List Dump). slice_get ds dump.index) same ∙ was;
      name = name;
      is_kept = among_found token dump.value (if_true (keeps token dump.value) Done f.0 f.1);
    })
once_keeps session token office left rest c dump same was name stay (inr f) =
    let a = passed TokensFull (nat_le token_limit (length dump.value.kept)) _ c f.1 in
    let b = bound rest _ c a.1 in
    let w = stay b.0 b.1 dump.index dump.value was in
    keeps_as _ c dump.index session token b.2 (record {
      dump = with_token token w.0;
      is_dump = kept_at-there b.0.after.dumps dump.index token w.0 w.1;
      name = w.2 ∙ name;
      is_kept = (length w.0.kept, last_there w.0.kept token);
    })

-- where names differ, it is the only one of its name
kept_alone : (dumps : List Dump) (i : ℕ) (session : SessionName) (token : Token) → Differ (λ (dump : Dump). dump.name) dumps
    → KeepsAt dumps i session token → (j : ℕ) (dump : Dump) → slice_get dumps j ≡ Some dump → dump.name ≡ session → Among dump.kept token
kept_alone dumps i session token differ keeps j dump at name =
    let place : i ≡ j = differ i j keeps.dump dump keeps.is_dump at (keeps.name ∙ sym name) in
    let there : slice_get dumps j ≡ Some keeps.dump = ap (slice_get dumps) (sym place) ∙ keeps.is_dump in
    let same : keeps.dump ≡ dump = let f = at in cc in
    subst (λ (d : Dump). Among d.kept token) same keeps.is_kept

once_spent : (session : SessionName) (token : Token) (office left : Office) (rest : Judged Carried) (c : Carried) → IsSound office → IsSound c.after
    → Follows office c.after → left.dumps ≡ office.dumps
    → ((made : Carried) → rest ≡ Ok made → StayNamed office.dumps made.after.dumps)
    → once session (Some token) office.dumps left rest ≡ Ok c → IsSpent c.after.epoch c.after.sequence c.after.dumps session token
once_spent session token office left rest c sound after f same stay e =
    let a = bound (dump_at office.dumps session) _ c e in
    let there = at_is _ office.dumps _ a.0 a.1 in
    let name : a.0.value.name ≡ session = named office.dumps session a.0.index a.0.value there.0 there.1 in
    let was : IsGiven office.epoch office.sequence session = subst (IsGiven office.epoch office.sequence) name (sound.sessions.dumps_given a.0.index a.0.value there.1) in
    let this_epoch : session.epoch ≡ office.epoch = was.this_epoch in
    let given_out : session.sequence < office.sequence = was.given_out in
    let epoch : c.after.epoch ≡ office.epoch = f.epoch in
    let sequence : office.sequence ≤ c.after.sequence = f.sequence in
    record {
      past = omega arith;
      given = λ its. omega arith;
      kept = kept_alone c.after.dumps a.0.index session token after.sessions.dumps_differ
          (once_keeps session token office left rest c a.0 same there.1 name stay
          (again_is left (if keeps token a.0.value then Some Done else None) (keeping a.0 token rest) c a.2));
    }

-- ---- the first Ok

module _ (session : SessionName) (token : Token) where
  -- as edit_same says what events edit
  edit_as : (c : Carried) (name : SessionName) (own : Token) → name ≡ session → own ≡ token
      → IsSpent c.after.epoch c.after.sequence c.after.dumps name own → IsSpent c.after.epoch c.after.sequence c.after.dumps session token
  edit_as c name own is its has =
      subst (λ (s : SessionName). IsSpent c.after.epoch c.after.sequence c.after.dumps s token) is
      (subst (λ (t : Token). IsSpent c.after.epoch c.after.sequence c.after.dumps name t) its has)

  edit_spent : (event : Event) (office : Office) (names : Names) (c : Carried) → IsEdit event session token → IsSound office → IsSound c.after
      → (meaning_of event).carried office names ≡ Ok c → IsSpent c.after.epoch c.after.sequence c.after.dumps session token
  edit_spent (Put dump path item (Some own)) office names c edit sound after e =
      edit_as c dump own edit.0 edit.1
      (once_spent dump own office (events.Put.repeated dump item office) (events.Put.put dump path item office names) c sound after
      (follows (Put dump path item (Some own)) office names c refl e) (put_left dump item office)
      (λ made is. put_stays dump path item office names made is) e)
  edit_spent (Remove dump path (Some own)) office names c edit sound after e =
      edit_as c dump own edit.0 edit.1
      (once_spent dump own office office (events.Remove.removed dump path office) c sound after
      (follows (Remove dump path (Some own)) office names c refl e) refl (λ made is. remove_stays dump path office made is) e)
  edit_spent event office names c edit sound after e = absurd edit

  first_spent : (state : State) (event : Event) (reply : Reply) (new : State) (answer : Answer) → IsSoundState state → IsSoundState new
      → IsEdit event session token → reply ≡ Ok answer → IsStep state event reply new → SpentIn new session token
  first_spent (Running old names) event (Ok given) (Running new n) answer sound after edit ok step =
      let w = made_as (meaning_of event).pools names old ((meaning_of event).carried old names) given new step.0 in
      edit_spent event old names (given_as given (with_ids new w.0)) edit sound.office (IsSound-ids (with_ids new w.0) new.ids after.office) w.1
  first_spent (Running old names) event (Ok given) (Halted before next n) answer sound after edit ok step = absurd step.0
  first_spent (Running old names) event (Err refusal) new answer sound after edit ok step = absurd (cc)
  first_spent (Halted before next names) event reply new answer sound after edit ok step =
      absurd (stay_fails session token before next reply new answer ok
      (not_renewing session token (meaning_of event).renames before next reply new (λ e. edit_renames session token event edit e) step.0))

pub first_alone : FirstAlone
first_alone state faults first entries second session token a b sound legal one is_a two is_b =
    alone session token first.state first.faults entries second b
    (first_spent session token state first.event first.reply first.state a sound legal.0.sound one is_a legal.0.step) legal.1 two is_b
