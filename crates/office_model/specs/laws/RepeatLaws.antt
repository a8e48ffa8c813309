-- What it says that a request repeats another, or that it doesn't; and a dump that keeps a token more.
use Rattle.std.specs.Prelude.{◌≡◌, ◌≢◌, ◌<◌, ℕ, ◌+◌, Bool, true, false, ◌||◌, List, [], ◌∷◌, ◌++◌, length, Option, Some, None, Ok, nat_le, slice_get, slice_set, if◌then◌else◌, ◌⊎◌}
use Rattle.std.specs.List.{position_from}
use Rattle.std.specs.Option.{option_and_then, option_map_or}
use Rattle.std.proofs.Common.{refl, sym, ap, ◌∙◌, subst, inl, inr, arith, length-append}
use Rattle.std.proofs.lemmas.Bool.{true≢false}
use Rattle.std.proofs.lemmas.Slice.Eq.{bytes_eq-Decides}
use Rattle.receipts.specs.declared.session.SessionName.{SessionName}
use Rattle.receipts.specs.declared.session.Token.{Token}
use Rattle.office_model.specs.declared.answer.Answer.{Answer}
use Rattle.office_model.specs.declared.answer.Answer.TheVariants.{Done}
use Rattle.office_model.specs.declared.refusal.BrokenRule.TheVariants.{TokensFull}
use Rattle.receipts.specs.Session.{is_same_token}
use Rattle.office_model.specs.Places.{AtEach}
use Rattle.office_model.specs.PlacesLaws.{AtEach-set, Differ-longer, position-found, position-none}
use Rattle.office_model.specs.Office.{Office, Dump, Names, token_limit, with_dumps, in_dumps, IsSound, IsTree, AreKept, HasHost, IsUnspent}
use Rattle.office_model.specs.Meaning.{Meaning, Carried, Judged}
use Rattle.office_model.specs.Parts.{At, dump_at}
use Rattle.office_model.specs.UsedNames.{AreSound}
use Rattle.office_model.specs.Repeats.{again, keeps, with_token, kept_at, keeping, once}
use Rattle.office_model.specs.laws.Judging.{bound, passed, at_is}
use Rattle.office_model.specs.laws.AddHostLaws.{below}
use Rattle.office_model.specs.laws.VolatileLaws.{dump_set, pooled_dump_set, over_dump_set}
use Rattle.office_model.specs.laws.PoolLaws.{any_at}
use Rattle.office_model.specs.laws.HeldLaws.{set_held, held_by}
use Rattle.office_model.specs.laws.Lawful.{Does, judged, does}

-- ---- repeated or not

abbrev pub given_as : Answer → Office → Carried
given_as answer office = record { answer = answer; after = office }

pub again_is : (left : Office) (repeated : Option Answer) (rest : Judged Carried) (c : Carried) → again left repeated rest ≡ Ok c
    → ((answer : Answer) × (repeated ≡ Some answer) × (judged (given_as answer left) ≡ judged c)) ⊎ ((repeated ≡ None) × (rest ≡ Ok c))
again_is left None rest c e = inr (refl, e)
again_is left (Some answer) rest c e = inl (answer, refl, e)

pub if_some : {A : Type 0} (b : Bool) (x y : A) → (if b then Some x else None) ≡ Some y → x ≡ y
if_some true x y e = cc
if_some false x y e = absurd (cc)

pub if_none : {A : Type 0} (b : Bool) (x : A) → (if b then Some x else None) ≡ None → b ≡ false
if_none true x e = absurd (cc)
if_none false x e = refl

-- ---- tokens

token_of : List ℕ → Token
token_of bytes = record { bytes = bytes }

pub same_token : (a b : Token) → is_same_token a b ≡ true → a ≡ b
unfolding token_of
same_token a b e = ap token_of ((bytes_eq-Decides a.bytes b.bytes).0 e)

pub token_itself : (a : Token) → is_same_token a a ≡ true
token_itself a = (bytes_eq-Decides a.bytes a.bytes).1 refl

-- ---- the first that passes

module _ {A : Type 0} (test : A → Bool) (xs : List A) where
  pub sought-none : option_and_then (slice_get xs) (position_from test 0 xs) ≡ None → (i : ℕ) (x : A) → slice_get xs i ≡ Some x → test x ≡ false
  sought-none e i x at = step (position_from test 0 xs) refl e
    where
      step : (r : Option ℕ) → position_from test 0 xs ≡ r → option_and_then (slice_get xs) r ≡ None → test x ≡ false
      step None is f = position-none test xs i x is at
      step (Some j) is f = let w = position-found test xs j is in let g = w.1 in absurd (cc)

-- ---- a dump at its place with another tree or other tokens kept

pub record IsRetreed (old new : Dump) : Type 0 where
  pub name : new.name ≡ old.name
  pub host : new.host ≡ old.host
  pub base : new.base ≡ old.base
  pub token : new.token ≡ old.token

pub IsSound-retreed : (office : Office) (p : ℕ) (old new : Dump) → IsSound office → slice_get office.dumps p ≡ Some old
    → IsRetreed old new → IsTree new.tree → AreKept new.kept → IsSound (with_dumps office (slice_set office.dumps p new))
IsSound-retreed office p old new sound was same tree kept = record {
  kept = sound.kept;
  now = dump_set office.epoch office.volatile sound.now p old new was same.name same.host same.base tree kept;
  tied = record {
    hosted = AtEach-set (HasHost office.hosts) office.dumps p new sound.hosted
        (let has : HasHost office.hosts old = sound.hosted p old was in record {
          host = has.host;
          is_host = ap (slice_get office.hosts) same.host ∙ has.is_host;
          has_number = has.has_number;
          unspent = subst (IsUnspent has.host.receipts) (sym same.token) has.unspent;
        });
    over = λ i n r at. over_dump_set office.epoch office.sequence office.dumps office.restores r (sound.over i n r at) p old new was same.name;
    pooled = pooled_dump_set office.pool office.volatile sound.pooled p old new was same.base;
  };
}

-- ---- a dump that keeps a token more

-- a token that a dump doesn't keep yet, and has room for
pub record MayKeep (token : Token) (dump : Dump) : Type 0 where
  pub is_new : AtEach (λ (kept : Token). kept ≢ token) dump.kept
  pub has_room : length dump.kept < token_limit

AreKept-more : (token : Token) (dump : Dump) → MayKeep token dump → AreKept dump.kept → AreKept (with_token token dump).kept
AreKept-more token dump may was = record {
  few = let more : length (dump.kept ++ token ∷ []) ≡ length dump.kept + 1 = length-append dump.kept (token ∷ []) in let room = may.has_room in omega arith;
  differ = Differ-longer (λ (t : Token). t) dump.kept token was.differ may.is_new;
}

pub IsSound-kept : (office : Office) (i : ℕ) (token : Token) → IsSound office
    → ((dump : Dump) → slice_get office.dumps i ≡ Some dump → MayKeep token dump) → IsSound (with_dumps office (kept_at i token office.dumps))
IsSound-kept office i token sound may = step (slice_get office.dumps i) refl
  where
    step : (r : Option Dump) → slice_get office.dumps i ≡ r
        → IsSound (with_dumps office (option_map_or (λ (d : Dump). slice_set office.dumps i (with_token token d)) r office.dumps))
    step None at = sound
    step (Some dump) at =
        IsSound-retreed office i dump (with_token token dump) sound at (record { name = refl; host = refl; base = refl; token = refl })
        (sound.dumps.trees i dump at) (AreKept-more token dump (may dump at) (sound.dumps.tokens i dump at))

held_kept : (content : List ℕ) (dumps : List Dump) (i : ℕ) (token : Token) → in_dumps (kept_at i token dumps) content ≡ true
    → in_dumps dumps content ≡ true
held_kept content dumps i token h = step (slice_get dumps i) refl h
  where
    was : (in_dumps dumps content ≡ true) ⊎ ⊥ → in_dumps dumps content ≡ true
    was (inl f) = f
    was (inr none) = absurd none

    step : (r : Option Dump) → slice_get dumps i ≡ r
        → in_dumps (option_map_or (λ (d : Dump). slice_set dumps i (with_token token d)) r dumps) content ≡ true → in_dumps dumps content ≡ true
    step None at g = g
    step (Some dump) at g = was (set_held content ⊥ dumps i dump (with_token token dump) at (λ f. inl f) g)

left : (a b : Bool) → a ≡ true → (a || b) ≡ true
left true b h = refl
left false b h = absurd (cc)

right : (a b : Bool) → b ≡ true → (a || b) ≡ true
right true b h = refl
right false b h = h

-- ---- once

-- the dumps keep the tokens that they kept
abbrev pub SameKept : List Dump → List Dump → Type 0
SameKept old new = (i : ℕ) (dump : Dump) → slice_get new i ≡ Some dump
    → (was : Dump) × (slice_get old i ≡ Some was) × (dump.kept ≡ was.kept)

module _ (meaning : Meaning) (office : Office) (names : Names) (sound : AreSound office names) (session : SessionName)
    (repeated : Office) (rest : Judged Carried)
    (rest_does : (c : Carried) → rest ≡ Ok c → Does meaning office names c)
    (same_kept : (c : Carried) → rest ≡ Ok c → SameKept office.dumps c.after.dumps)
    (repeat_does : Does meaning office names (given_as Done repeated)) where
  may_keep : (token : Token) (dump : At Dump) → slice_get office.dumps dump.index ≡ Some dump.value → keeps token dump.value ≡ false
      → nat_le token_limit (length dump.value.kept) ≡ false → (c : Carried) → rest ≡ Ok c
      → (d : Dump) → slice_get c.after.dumps dump.index ≡ Some d → MayKeep token d
  may_keep token dump is fresh room c e d at =
      let w = same_kept c e dump.index d at in
      let one : w.0 ≡ dump.value = let f = w.1 in cc in
      let same : d.kept ≡ dump.value.kept = w.2 ∙ ap (λ (x : Dump). x.kept) one in record {
        is_new = subst (AtEach (λ (kept : Token). kept ≢ token)) (sym same) (λ j kept there its.
            true≢false (sym (any_at (λ (k : Token). is_same_token k token) dump.value.kept j kept there (ap (λ k. is_same_token k token) its ∙ token_itself token)) ∙ fresh));
        has_room = subst (λ (ks : List Token). length ks < token_limit) (sym same) (below token_limit (length dump.value.kept) room);
      }

  keeping_does : (token : Token) (dump : At Dump) → slice_get office.dumps dump.index ≡ Some dump.value → keeps token dump.value ≡ false
      → (c : Carried) → keeping dump token rest ≡ Ok c → Does meaning office names c
  keeping_does token dump is fresh c e =
      let a = passed TokensFull (nat_le token_limit (length dump.value.kept)) _ c e in
      let b = bound rest _ c a.1 in
      let d : Does meaning office names b.0 = rest_does b.0 b.1 in
      does meaning office names sound _ c b.2 (record {
        in_kind = d.in_kind;
        ids = d.ids;
        contents = d.contents;
        sound = IsSound-kept b.0.after dump.index token d.sound (may_keep token dump is fresh a.0 b.0 b.1);
        numbers = record { stages = d.numbers.stages; readers = d.numbers.readers };
        held = λ content h. held_by content office meaning.renames b.0.after.pool (kept_at dump.index token b.0.after.dumps)
            (λ g. d.held content (left _ _ g)) (λ g. d.held content (right _ _ (held_kept content b.0.after.dumps dump.index token g))) h;
      })

  pub once_does : (token : Option Token) (c : Carried) → once session token office.dumps repeated rest ≡ Ok c → Does meaning office names c
  once_does None c e = rest_does c e
  once_does (Some token) c e =
      let a = bound (dump_at office.dumps session) _ c e in
      let is : slice_get office.dumps a.0.index ≡ Some a.0.value = (at_is _ office.dumps _ a.0 a.1).1 in
      step a.0 is (again_is repeated (if keeps token a.0.value then Some Done else None) (keeping a.0 token rest) c a.2)
    where
      step : (dump : At Dump) → slice_get office.dumps dump.index ≡ Some dump.value
          → ((answer : Answer) × ((if keeps token dump.value then Some Done else None) ≡ Some answer) × (judged (given_as answer repeated) ≡ judged c))
          ⊎ (((if keeps token dump.value then Some Done else None) ≡ None) × (keeping dump token rest ≡ Ok c))
          → Does meaning office names c
      step dump is (inl f) =
          let done : Done ≡ f.0 = if_some (keeps token dump.value) Done f.0 f.1 in
          does meaning office names sound _ c f.2 (subst (λ (x : Answer). Does meaning office names (given_as x repeated)) done repeat_does)
      step dump is (inr f) = keeping_does token dump is (if_none (keeps token dump.value) Done f.0) c f.1
