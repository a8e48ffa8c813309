-- No more of a body is looked at than its event needs.
use Rattle.std.specs.Prelude.{◌≡◌, ◌≤◌, ℕ, nat_le, nat_lt, Bool, true, false, ◌&&◌, ◌||◌, not, List, take, length, Option, None, unwrap_or}
use Rattle.std.specs.Str.{is_utf8}
use Rattle.std.proofs.Common.{◌<◌, refl, sym, ap, subst, arith, inl, inr}
use Rattle.std.proofs.lemmas.Bool.{cases_lt}
use Rattle.std.proofs.lemmas.Bool.Decides.{nat_tests}
use Rattle.std.proofs.lemmas.List.{length-take, take_all}
use Rattle.attr_records.specs.Attributes.{Attributes}
use Rattle.attr_records.specs.Names.{is_link_target}
use Rattle.attr_records.specs.PathRules.{has_nul, is_empty_component}
use Rattle.http_heads.specs.Heads.{HeadParts}
use Rattle.office_model.specs.Office.{piece_limit}
use Rattle.receipts.specs.declared.session.SessionName.{SessionName}
use Rattle.receipts.specs.declared.session.Token.{Token}
use Rattle.request_events.specs.declared.defaults.Defaults.{Defaults}
use Rattle.request_events.specs.declared.plan.FilePut.{FilePut}
use Rattle.request_events.specs.declared.plan.Plan.{Plan}
use Rattle.request_events.specs.declared.plan.Plan.TheVariants as P
use Rattle.request_events.specs.Events.{link_event, event_of}
use Rattle.request_events.specs.Asked.{looked_at, goes_by_stages, staged_by}

-- a file is no longer than a piece
abbrev pub FitsPiece : Plan → List ℕ → Type 0
FitsPiece (P.PutFile put) body = length body ≤ piece_limit
FitsPiece plan body = Unit {0}

-- the event needs no byte of a body behind those that are looked at
abbrev pub LooksAtEnough : Type 0
LooksAtEnough = (plan : Plan) (body : List ℕ) (moment : ℕ) (defaults : Defaults) → FitsPiece plan body
    → event_of plan (take (looked_at plan) body) moment defaults ≡ event_of plan body moment defaults

-- a file that goes whole is no longer than a piece, if its body has the length that the head names
abbrev pub WholeFits : Type 0
WholeFits = (head : HeadParts) (plan : Plan) (body : List ℕ) → staged_by (goes_by_stages head) plan ≡ None
    → (head.chunked ≡ false → length body ≡ unwrap_or head.content_length 0) → FitsPiece plan body

long_is_none : (text : List ℕ) → 4096 < length text → is_link_target text ≡ false
unfolding is_link_target
long_is_none text long = step (not (is_empty_component text)) (length text) (is_utf8 text && not (has_nul text)) long
  where
    step : (some : Bool) (n : ℕ) (plain : Bool) → 4096 < n → (some && (nat_le n 4096 && plain)) ≡ false
    step some n plain long = grind (arith, nat_tests)

target_kept : (dump : SessionName) (path : List ℕ) (attributes : Attributes) (token : Option Token) (body : List ℕ)
    → link_event dump path attributes token (take 4097 body) ≡ link_event dump path attributes token body
target_kept dump path attributes token body = elim (cases_lt 4096 (length body)) [
  | inl long ↦
      let kept : is_link_target (take 4097 body) ≡ false = long_is_none (take 4097 body) (omega (arith, length-take 4097 body, long)) in
      rw (kept, long_is_none body long) refl
  | inr short ↦ ap (λ (bytes : List ℕ). link_event dump path attributes token bytes) (take_all 4097 body (omega (arith, short)))
]

pub looks_at_enough : LooksAtEnough
looks_at_enough (P.PutFile put) body moment defaults fits = ap (λ (bytes : List ℕ). event_of (P.PutFile put) bytes moment defaults) (take_all piece_limit body fits)
looks_at_enough (P.PutLink dump path attributes token) body moment defaults fits = target_kept dump path attributes token body
looks_at_enough plan body moment defaults fits = refl

few : (count : ℕ) → nat_lt piece_limit count ≡ false → count ≤ piece_limit
few count e = grind (arith, nat_tests)

not_long : (put : FilePut) (long : Bool) → staged_by long (P.PutFile put) ≡ None → long ≡ false
not_long put true none = absurd (cc)
not_long put false none = refl

file_fits : (put : FilePut) (chunked : Bool) (count : ℕ) (body : List ℕ) → staged_by (chunked || nat_lt piece_limit count) (P.PutFile put) ≡ None
    → (chunked ≡ false → length body ≡ count) → length body ≤ piece_limit
file_fits put true count body none told = absurd (cc)
file_fits put false count body none told = subst (λ n. n ≤ piece_limit) (sym (told refl)) (few count (not_long put (nat_lt piece_limit count) none))

pub whole_fits : WholeFits
whole_fits head (P.PutFile put) body none told = file_fits put head.chunked (unwrap_or head.content_length 0) body none told
whole_fits head plan body none told = tt
