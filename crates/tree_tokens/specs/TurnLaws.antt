-- What `office_model` says of tokens, by the parts that are asked.
use Rattle.std.specs.Prelude.{◌≡◌, ◌≢◌, ◌<◌, ℕ, Bool, true, false, List, [], ◌∷◌, ◌++◌, length, Option, Some, None, Ok, Err, nat_le, slice_get, if◌then◌else◌}
use Rattle.std.specs.Option.{option_map, option_or}
use Rattle.std.proofs.Common.{refl, sym, ap, ◌∙◌, subst}
use Rattle.std.proofs.lemmas.Bool.{true≢false}
use Rattle.backup_rules.specs.declared.lines.Kind.{Kind}
use Rattle.receipts.specs.declared.session.SessionName.{SessionName}
use Rattle.receipts.specs.declared.session.Token.{Token}
use Rattle.receipts.specs.declared.receipt.Receipt.{Receipt}
use Rattle.receipts.specs.Session.{is_same_token}
use Rattle.receipts.specs.Receipts.{receipt_with}
use Rattle.office_model.specs.declared.answer.Answer.{Answer}
use Rattle.office_model.specs.declared.answer.Answer.TheVariants.{Done, Already}
use Rattle.office_model.specs.declared.refusal.BrokenRule.{BrokenRule}
use Rattle.office_model.specs.declared.refusal.BrokenRule.TheVariants.{TokensFull}
use Rattle.office_model.specs.Places.{AtEach}
use Rattle.office_model.specs.Office.{Office, Host, Dump, token_limit, IsUnspent}
use Rattle.office_model.specs.Meaning.{Carried, Judged, ◌>>=◌, ◌>>◌, breaks}
use Rattle.office_model.specs.Parts.{At, host_at, dump_at}
use Rattle.office_model.specs.Repeats.{again, keeps, once}
use Rattle.office_model.specs.events.OpenDump.{opened, repeated, by_dump, carried}
use Rattle.office_model.specs.laws.Judging.{bound, passed, at_is}
use Rattle.office_model.specs.laws.AddHostLaws.{below}
use Rattle.office_model.specs.laws.OpenDumpLaws.{IsFresh}
use Rattle.office_model.specs.laws.PoolLaws.{any_at}
use Rattle.office_model.specs.laws.RepeatLaws.{MayKeep, SameKept, token_itself, sought-none}
use Rattle.tree_tokens.specs.Turns.{repeated_at, place_for, kept_by, turned, IsPlace}

-- ---- openings

module _ (name : List ℕ) (kind : Kind) (now : ℕ) (token : Token) (office : Office) where
  pub opening_turned : (given : Option Answer) → repeated_at name token office.hosts office.dumps ≡ Ok given
      → carried name kind now (Some token) office ≡ again office given (opened name kind now (Some token) office)
  opening_turned given e =
      let a = bound (host_at office.hosts name) _ given e in
      let same : repeated token a.0 office.dumps ≡ given = let f = a.2 in cc in
      ap (λ (r : Judged (At Host)). r >>= λ host. again office (repeated token host office.dumps) (opened name kind now (Some token) office)) a.1
      ∙ ap (λ (g : Option Answer). again office g (opened name kind now (Some token) office)) same

  pub opening_broken : (rule : BrokenRule) → repeated_at name token office.hosts office.dumps ≡ Err rule
      → carried name kind now (Some token) office ≡ Err rule
  opening_broken rule e = step (host_at office.hosts name) e
    where
      step : (r : Judged (At Host)) → (r >>= λ host. Ok (repeated token host office.dumps)) ≡ Err rule
          → (r >>= λ host. again office (repeated token host office.dumps) (opened name kind now (Some token) office)) ≡ Err rule
      step (Ok host) f = absurd (cc)
      step (Err other) f = cc

unspent : (token : Token) (host : At Host) (dumps : List Dump) → repeated token host dumps ≡ None → IsUnspent host.value.receipts (Some token)
unspent token host dumps e i receipt at same = step (receipt_with host.value.receipts token) refl e
  where
    step : (r : Option Receipt) → receipt_with host.value.receipts token ≡ r
        → option_or (option_map (λ (x : Receipt). Already x.number) r) (by_dump token host.index dumps) ≡ None → ⊥
    step None is f =
        true≢false (sym (ap (λ t. is_same_token t token) same ∙ token_itself token)
        ∙ sought-none (λ (x : Receipt). is_same_token x.token token) host.value.receipts is i receipt at)
    step (Some other) is f = cc

-- what repeats no opening has no receipt
pub opening_fresh : (name : List ℕ) (token : Token) (hosts : List Host) (dumps : List Dump) → repeated_at name token hosts dumps ≡ Ok None
    → IsFresh hosts name (Some token)
opening_fresh name token hosts dumps e host found =
    let none : Ok (repeated token host dumps) ≡ Ok None = sym (ap (λ (r : Judged (At Host)). r >>= λ h. Ok (repeated token h dumps)) found) ∙ e in
    unspent token host dumps (let f = none in cc)

-- ---- puts and removals

pub once_turned : (session : SessionName) (token : Token) (dumps : List Dump) (left : Office) (rest : Judged Carried)
    → once session (Some token) dumps left rest ≡ (place_for session token dumps >>= turned left token rest)
once_turned session token dumps left rest = step (dump_at dumps session)
  where
    inner : (index : ℕ) (kept full : Bool) → again left (if kept then Some Done else None) (breaks TokensFull full >> kept_by index token rest)
        ≡ ((if kept then Ok None else (breaks TokensFull full >> Ok (Some index))) >>= turned left token rest)
    inner index true full = refl
    inner index false true = refl
    inner index false false = refl

    step : (r : Judged (At Dump))
        → (r >>= λ dump. again left (if keeps token dump.value then Some Done else None)
        (breaks TokensFull (nat_le token_limit (length dump.value.kept)) >> kept_by dump.index token rest))
        ≡ ((r >>= λ dump. if keeps token dump.value then Ok None else (breaks TokensFull (nat_le token_limit (length dump.value.kept)) >> Ok (Some dump.index)))
        >>= turned left token rest)
    step (Ok dump) = inner dump.index (keeps token dump.value) (nat_le token_limit (length dump.value.kept))
    step (Err rule) = refl

pub place_is : (session : SessionName) (token : Token) (dumps : List Dump) (index : ℕ) → place_for session token dumps ≡ Ok (Some index)
    → IsPlace token dumps index
place_is session token dumps index e =
    let a = bound (dump_at dumps session) _ (Some index) e in
    step a.0 ((at_is _ dumps _ a.0 a.1).1) (keeps token a.0.value) refl a.2
  where
    step : (dump : At Dump) → slice_get dumps dump.index ≡ Some dump.value → (kept : Bool) → keeps token dump.value ≡ kept
        → (if kept then Ok None else (breaks TokensFull (nat_le token_limit (length dump.value.kept)) >> Ok (Some dump.index))) ≡ Ok (Some index)
        → IsPlace token dumps index
    step dump at true is f = absurd (cc)
    step dump at false is f =
        let b : (nat_le token_limit (length dump.value.kept) ≡ false) × (Ok (Some dump.index) ≡ Ok (Some index)) = passed TokensFull (nat_le token_limit (length dump.value.kept)) _ (Some index) f in
        let same : dump.index ≡ index = let g = b.1 in cc in
        record {
          dump = dump.value;
          is_dump = ap (slice_get dumps) (sym same) ∙ at;
          is_new = is;
          has_room = below token_limit (length dump.value.kept) b.0;
        }

module _ (token : Token) (old new : List Dump) (index : ℕ) (place : IsPlace token old index) (same_kept : SameKept old new) where
  same_as : (dump : Dump) → slice_get new index ≡ Some dump → dump.kept ≡ place.dump.kept
  same_as dump at =
      let w = same_kept index dump at in
      let one : w.0 ≡ place.dump = let f = w.1 in let g = place.is_dump in cc in
      w.2 ∙ ap (λ (d : Dump). d.kept) one

  -- the dump at the place may still keep the token after what kept all tokens
  pub may_keep : (dump : Dump) → slice_get new index ≡ Some dump → MayKeep token dump
  may_keep dump at = record {
    is_new = subst (AtEach (λ (kept : Token). kept ≢ token)) (sym (same_as dump at)) (λ j kept there its.
        true≢false (sym (any_at (λ (k : Token). is_same_token k token) place.dump.kept j kept there (ap (λ k. is_same_token k token) its ∙ token_itself token)) ∙ place.is_new));
    has_room = subst (λ (ks : List Token). length ks < token_limit) (sym (same_as dump at)) place.has_room;
  }

  pub kept_is : (kept : List Token) → kept ≡ place.dump.kept ++ token ∷ []
      → (dump : Dump) → slice_get new index ≡ Some dump → kept ≡ dump.kept ++ token ∷ []
  kept_is kept is dump at = is ∙ ap (λ (ks : List Token). ks ++ token ∷ []) (sym (same_as dump at))
