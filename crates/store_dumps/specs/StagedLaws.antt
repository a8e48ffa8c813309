-- What the pool's answer to a content is to the office.
--     StagedAs old mid office names at content bytes      the bytes have this name, which is claimed, and the chain isn't full
--     MissedAs old mid office names at bytes      they got none
use Rattle.std.specs.Prelude.{Ok, ◌≡◌, ◌<◌, ◌+◌, ℕ, Bool, true, false, not, ◌&&◌, List, [], ◌∷◌, length, Option, Some, None, option_map, is_some, ◌⊎◌}
use Rattle.std.proofs.Common.{refl, sym, ap, ◌∙◌, subst, inl, inr, arith}
use Rattle.std.proofs.lemmas.Bool.{false≢true}
use Rattle.disk_trait.specs.declared.ids.PoolId.{PoolId}
use Rattle.disk_trait.specs.declared.ids.FileId.TheVariants as F
use Rattle.disk_trait.specs.declared.disk.Disk.{Ghosts as DiskGhosts}
use Rattle.disk_trait.specs.Files.{Files, SameButOne, with_bytes, bytes_of as file_bytes}
use Rattle.pool_name.specs.declared.namer.Namer.{Ghosts as NamerGhosts}
use Rattle.attr_records.specs.Items.{some_bytes}
use Rattle.attr_tables.specs.Records.{IsContentOf}
use Rattle.intent_journal.specs.ChangesLaws.{with_bytes_there}
use Rattle.disk_trait.specs.NamesLaws.{is_same_file-itself}
use Rattle.journal_view.specs.Found.{seen}
use Rattle.journal_view.specs.View.{told, uncertain}
use Rattle.pool_changes.specs.declared.slot.Slot.TheVariants.{Staged, Doomed}
use Rattle.pool_changes.specs.Slots.{is_given, claims_of, id_of}
use Rattle.pool_changes.specs.Kept.{IsSame, IsSet}
use Rattle.pool_store.specs.Chains.{IsFree, AreOthers}
use Rattle.pool_store.specs.Chains as C
use Rattle.pool_store.specs.Pools.{IsCertain, IsUnstaged, IsFull, Matches, Adds}
use Rattle.stored_trees.specs.Resolved.{bytes_of, IsToldContent}
use Rattle.open_sessions.specs.Opened.{claims_in}
use Rattle.office_model.specs.events.Put.{is_spent, is_chain_full, name_change}
use Rattle.office_model.specs.Meaning.{Carried, Reply}
use Rattle.office_model.specs.Office.{Office, Names, is_held}
use Rattle.office_model.specs.UsedNames.{Among, AddsName, IsRenamed}
use Rattle.office_files.specs.Pooled.{contents_of}
use Rattle.store_parts.specs.declared.parts.StoreParts.{StoreParts}
use Rattle.store_parts.specs.Held.{given}
use Rattle.store_parts.specs.States.{slots, IsRunning}
use Rattle.store_parts.specs.HoldingLaws.{given_held, not_held}
use Rattle.store_parts.specs.StagingLaws.{with_used, HasStaged}
use Rattle.store_dumps.specs.Claims.{claims_of_content}
use Rattle.store_dumps.specs.ClaimLaws.{one_of}
use Rattle.store_dumps.specs.Putting.{TakesName, TakesIn}
use Rattle.store_dumps.specs.CountingLaws.{spent, unspent}
use Rattle.store_dumps.specs.SeenLaws.{takes_seen, misses_others, one_seen}
use Rattle.store_dumps.specs.TakingLaws.{staged_none, staged_matches, staged_adds, staged_doomed, claims_matches, claims_adds, claims_doomed, set_there, adds_name}

some_is : (bytes : List ℕ) → 0 < length bytes → some_bytes bytes ≡ Some bytes
some_is [] h = absurd (omega (arith, h))
some_is (byte ∷ bytes) h = refl

none_is : (bytes : List ℕ) → length bytes ≡ 0 → some_bytes bytes ≡ None
none_is [] h = refl
none_is (byte ∷ bytes) h = absurd (omega (arith, h))

empty_is : (bytes : List ℕ) → length bytes ≡ 0 → [] ≡ bytes
empty_is [] h = refl
empty_is (byte ∷ bytes) h = absurd (omega (arith, h))

and_false : (a b : Bool) → b ≡ false → (a && b) ≡ false
and_false true b e = e
and_false false b e = refl

-- the names that a put of the bytes may leave, if it breaks no rule
abbrev pub AreNamedAs : Office → Names → List ℕ → List PoolId → Type 0
AreNamedAs office names bytes used' = (carried : Carried) (reply : Reply)
    → IsRenamed (name_change (some_bytes bytes)) office names (Ok carried) reply (with_used names used')

module _ {D N S : Type 0} {d : DiskGhosts D} {n : NamerGhosts N S} where
  pub record StagedAs (old mid : StoreParts D N S d n) (office : Office) (names : Names) (at : IsRunning old office names)
      (content : Option PoolId) (bytes : List ℕ) : Type 0 where
    pub has : HasStaged old mid names office.stages at.all
    pub claims : (id : PoolId) → claims_of (slots mid id) ≡ claims_in old.sessions id + claims_of_content content id
    pub told : IsToldContent (given (slots mid)) (contents_of has.all') (length bytes) content
    pub is : bytes_of (contents_of has.all') content ≡ bytes
    pub named : AreNamedAs office names bytes has.used'
    pub free : is_chain_full office.pool office.dumps names (some_bytes bytes) ≡ false

  pub record MissedAs (old mid : StoreParts D N S d n) (office : Office) (names : Names) (at : IsRunning old office names)
      (bytes : List ℕ) : Type 0 where
    pub has : HasStaged old mid names office.stages at.all
    pub claims : (id : PoolId) → claims_of (slots mid id) ≡ claims_in old.sessions id
    pub named : (has.used' ≡ names.used) ⊎ (AreNamedAs office names bytes has.used'
        × (is_chain_full office.pool office.dumps names (some_bytes bytes) ≡ false))

  -- ---- the chain

  module _ (parts : StoreParts D N S d n) (office : Office) (names : Names) (at : IsRunning parts office names) (content : List ℕ)
      (some : 0 < length content) where
    abbrev full : Type 0
    full = is_chain_full office.pool office.dumps names (some_bytes content) ≡ true

    abbrev free : Type 0
    free = is_chain_full office.pool office.dumps names (some_bytes content) ≡ false

    full_is : is_chain_full office.pool office.dumps names (some_bytes content)
        ≡ (not (is_held office.pool office.dumps content) && is_spent names content)
    full_is = ap (is_chain_full office.pool office.dumps names) (some_is content some)

    free_held : is_held office.pool office.dumps content ≡ true → free
    free_held held = full_is ∙ ap (λ (b : Bool). not b && is_spent names content) held

    free_unspent : (extension : ℕ) → slots parts (id_of (n.digest_of content) extension) ≡ None → extension < 65536 → free
    free_unspent extension unused near =
        full_is ∙ and_false (not (is_held office.pool office.dumps content)) (is_spent names content)
        (unspent (names.digest_of content) names.used 65536 extension at.used.distinct
        (λ id among. at.used.near id (at.used.slot id among)) near missing)
      where
        missing : Among names.used (id_of (names.digest_of content) extension) → ⊥
        missing among =
            let same : id_of (names.digest_of content) extension ≡ id_of (n.digest_of content) extension
            = ap (λ f. id_of (f content) extension) at.digest in
            false≢true (sym (ap is_some unused) ∙ ap (λ (x : PoolId). is_some (slots parts x)) (sym same)
            ∙ at.used.slot (id_of (names.digest_of content) extension) among)

    -- if no file of its digest holds it, it isn't held
    others_not_held : AreOthers (slots parts) (n.digest_of content) at.all content 65536 → is_held office.pool office.dumps content ≡ false
    others_not_held others = not_held parts office names at content (λ id g is.
        let held = at.fits.held id g in
        let bytes : held.content ≡ content = sym (ap file_bytes held.is) ∙ is in
        let digest : id.digest ≡ n.digest_of content = sym held.digest ∙ ap n.digest_of bytes in
        let name : id ≡ id_of (n.digest_of content) id.extension = ap (λ (d : List ℕ). id_of d id.extension) digest in
        others id.extension (at.fits.near id g) (subst (λ (x : PoolId). is_given (slots parts x) ≡ true) name g)
        (subst (λ (x : PoolId). at.all (F.Pool x) ≡ Some content) name (held.is ∙ ap Some bytes)))

    full_spent : C.AreUsed (slots parts) (n.digest_of content) 65536
        → AreOthers (slots parts) (n.digest_of content) at.all content 65536 → full
    full_spent used others =
        full_is ∙ (λ i. not (others_not_held others i) && is_spent names content)
        ∙ spent (names.digest_of content) names.used 65536 (λ k h. among k (slots parts (id_of (n.digest_of content) k)) refl (used k h))
      where
        among : (k : ℕ) (slot : _) → slots parts (id_of (n.digest_of content) k) ≡ slot
            → (slots parts (id_of (n.digest_of content) k) ≡ None → ⊥) → Among names.used (id_of (names.digest_of content) k)
        among k None e not_none = absurd (not_none e)
        among k (Some slot) e not_none =
            subst (Among names.used) (ap (λ f. id_of (f content) k) (sym at.digest))
            (at.used.among (id_of (n.digest_of content) k) (ap is_some e))

  -- ---- the answers

  module _ (old mid : StoreParts D N S d n) (office : Office) (names : Names) (at : IsRunning old office names)
      (certain : IsCertain (slots old) (uncertain mid.journal)) where
    -- it got a name
    module _ (id : PoolId) (content : List ℕ) (some : 0 < length content) where
      named_some : (used' : List PoolId)
          → (used' ≡ names.used) ⊎ ((is_held office.pool office.dumps content ≡ false)
          × AddsName (names.digest_of content) names.used used')
          → AreNamedAs office names content used'
      named_some used' how carried reply =
          subst (λ (c : Option (List ℕ)). IsRenamed (name_change c) office names (Ok carried) reply (with_used names used'))
          (sym (some_is content some)) (refl, how)

      matched : Matches (slots old) (slots mid) (told old.journal) (told mid.journal) id content
          → StagedAs old mid office names at (Some id) content
      unfolding staged_matches
      matched m =
          let holds : at.all (F.Pool id) ≡ Some content = m.holds at.all at.told_is in
          let has = staged_matches old mid office names at certain id content m in
          record {
            has = has;
            claims = λ asked. claims_matches old mid office names at certain id content m asked
                ∙ ap (λ k. k + one_of id asked) (at.claimed asked);
            told = (has.grows.given id m.given, ap length (sym (ap file_bytes holds)));
            is = ap file_bytes holds;
            named = named_some names.used (inl refl);
            free = free_held old office names at content some
                (subst (λ (c : List ℕ). is_held office.pool office.dumps c ≡ true) (ap file_bytes holds)
                (given_held old office names at id m.given));
          }

      added : Adds (slots old) (slots mid) (told old.journal) (told mid.journal) id content → id.digest ≡ n.digest_of content
          → StagedAs old mid office names at (Some id) content
      unfolding staged_adds
      added a digest =
          let there : with_bytes at.all (F.Pool id) (Some content) (F.Pool id) ≡ Some content
          = with_bytes_there at.all (F.Pool id) (Some content) (F.Pool id) (is_same_file-itself (F.Pool id)) in
          record {
            has = staged_adds old mid office names at certain id content a digest some;
            claims = λ asked. claims_adds old mid office names at certain id content a asked
                ∙ ap (λ k. k + one_of id asked) (at.claimed asked);
            told = (
              ap is_given (set_there (slots old) (slots mid) id (Some (Staged (length content) 1)) a.set),
              ap length (sym (ap file_bytes there)),
            );
            is = ap file_bytes there;
            named = named_some (id ∷ names.used)
                (inr (
                  others_not_held old office names at content some
                      (subst (λ (d : List ℕ). AreOthers (slots old) d at.all content 65536) digest (a.others at.all at.told_is)),
                  adds_name (slots old) names.used id (names.digest_of content) at.used a.free.unused
                      (digest ∙ ap (λ f. f content) (sym at.digest)),
                ));
            free = free_unspent old office names at content some id.extension
                (subst (λ (d : List ℕ). slots old (id_of d id.extension) ≡ None) digest a.free.unused) a.near;
          }

      taken : TakesName n.digest_of (slots old) (slots mid) (told old.journal) (told mid.journal) id content
          → StagedAs old mid office names at (Some id) content
      taken takes = step takes
        where
          step : Matches (slots old) (slots mid) (told old.journal) (told mid.journal) id content
              ⊎ (Adds (slots old) (slots mid) (told old.journal) (told mid.journal) id content × (id.digest ≡ n.digest_of content))
              → StagedAs old mid office names at (Some id) content
          step (inl m) = matched m
          step (inr (a, digest)) = added a digest

    -- there was none to name
    untaken : (bytes : List ℕ) → IsSame (slots old) (slots mid) → told mid.journal ≡ told old.journal → length bytes ≡ 0
        → StagedAs old mid office names at None bytes
    unfolding staged_none
    untaken bytes same quiet none = record {
      has = staged_none old mid office names at certain same quiet;
      claims = λ asked. ap claims_of (same asked) ∙ at.claimed asked ∙ nothing (claims_in old.sessions asked);
      told = none;
      is = empty_is bytes none;
      named = λ carried reply. subst (λ (c : Option (List ℕ)). IsRenamed (name_change c) office names (Ok carried) reply names)
          (sym (none_is bytes none)) refl;
      free = ap (is_chain_full office.pool office.dumps names) (none_is bytes none);
    }
      where
        nothing : (m : ℕ) → m ≡ m + 0
        nothing m = omega arith

    pub staged_as : (content : Option PoolId) (bytes : List ℕ) → IsContentOf (length bytes) content
        → TakesIn n.digest_of (slots old) (slots mid) (d.files old.journal.disk) (d.files mid.journal.disk) content bytes
        → StagedAs old mid office names at content bytes
    staged_as None bytes shape takes = untaken bytes takes.0 (ap (option_map seen) takes.1) takes.2
    staged_as (Some id) bytes shape takes =
        taken id bytes shape (takes_seen n.digest_of (slots old) (slots mid) (d.files old.journal.disk)
        (d.files mid.journal.disk) id bytes takes)

    -- ---- it got none

    missed_still : (bytes : List ℕ) → IsSame (slots old) (slots mid) → told mid.journal ≡ told old.journal
        → MissedAs old mid office names at bytes
    unfolding staged_none
    missed_still bytes same quiet = record {
      has = staged_none old mid office names at certain same quiet;
      claims = λ asked. ap claims_of (same asked) ∙ at.claimed asked;
      named = inl refl;
    }

    abbrev IsMiss : List ℕ → Type 0
    IsMiss content = (IsSame (slots old) (slots mid) × (d.files mid.journal.disk ≡ d.files old.journal.disk))
        ⊎ ((extension : ℕ) × (extension < 65536) × IsFree (slots old) (n.digest_of content) extension
        × ((all : Files) → d.files old.journal.disk ≡ Some all → AreOthers (slots old) (n.digest_of content) all content 65536)
        × IsUnstaged (slots old) (slots mid) (d.files old.journal.disk) (d.files mid.journal.disk) (id_of (n.digest_of content) extension))

    missed_doomed : (content : List ℕ) → 0 < length content → (extension : ℕ) → extension < 65536
        → slots old (id_of (n.digest_of content) extension) ≡ None
        → AreOthers (slots old) (n.digest_of content) at.all content 65536
        → IsSet (slots old) (slots mid) (id_of (n.digest_of content) extension) (Some Doomed)
        → SameButOne (F.Pool (id_of (n.digest_of content) extension)) (d.files old.journal.disk) (d.files mid.journal.disk)
        → MissedAs old mid office names at content
    unfolding staged_doomed
    missed_doomed content some extension near unused others set one =
        let id = id_of (n.digest_of content) extension in
        record {
          has = staged_doomed old mid office names at certain id unused near set
              (one_seen (F.Pool id) (d.files old.journal.disk) (d.files mid.journal.disk) at.all at.told_is one);
          claims = λ asked. claims_doomed old mid office names at certain id unused set asked ∙ at.claimed asked;
          named = inr (
            named_some id content some (id ∷ names.used) (inr (
              others_not_held old office names at content some others,
              adds_name (slots old) names.used id (names.digest_of content) at.used unused (ap (λ f. f content) (sym at.digest)),
            )),
            free_unspent old office names at content some extension unused near,
          );
        }

    pub missed_as : (content : List ℕ) → 0 < length content → IsMiss content → MissedAs old mid office names at content
    missed_as content some (inl same) = missed_still content same.0 (ap (option_map seen) same.1)
    missed_as content some (inr (extension, near, free, others, unstaged)) = step unstaged
      where
        step : IsUnstaged (slots old) (slots mid) (d.files old.journal.disk) (d.files mid.journal.disk)
            (id_of (n.digest_of content) extension)
            → MissedAs old mid office names at content
        step (inl same) = missed_still content same.0 (ap (option_map seen) same.1)
        step (inr doomed) = missed_doomed content some extension near free.unused
            (misses_others n.digest_of (slots old) (slots mid) (d.files old.journal.disk) (d.files mid.journal.disk)
            (n.digest_of content) content others
            at.all at.told_is) doomed.0 doomed.1

    -- and the chain is full
    pub full_as : (content : List ℕ) → 0 < length content → IsFull (n.digest_of content) (slots old) (d.files old.journal.disk) content
        → is_chain_full office.pool office.dumps names (some_bytes content) ≡ true
    full_as content some is = full_spent old office names at content some is.used
        (misses_others n.digest_of (slots old) (slots mid) (d.files old.journal.disk) (d.files mid.journal.disk)
        (n.digest_of content) content is.others
        at.all at.told_is)
