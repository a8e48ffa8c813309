-- What a cleaning of a bucket leaves.
--     none_counted      an answer of three numbers that are none
--     protected_is_kept      a live name is kept exactly if its content is protected
--     cleans_bad, cleans_nothing, cleans_refused, cleans      the answers
use Rattle.std.specs.Prelude.{◌≡◌, ◌<◌, ◌≤◌, ◌/◌, ◌==◌, ◌&&◌, ◌||◌, nat_le, nat_lt, ℕ, Bool, true, false, List, [], ◌∷◌, length, Result, Option, Some, None, Ok, Err, is_some, option_map, if◌then◌else◌}
use Rattle.std.specs.Cmp.Lexicographic.{nat_list_cmp_total}
use Rattle.std.proofs.Common.{refl, sym, ap, ◌∙◌, subst, inl, inr, arith}
use Rattle.std.proofs.lemmas.Bool.{false≢true}
use Rattle.std.proofs.lemmas.Bool.Decides.{nat_tests}
use Rattle.disk_trait.specs.declared.ids.PoolId.{PoolId}
use Rattle.disk_trait.specs.declared.ids.FileId.{FileId}
use Rattle.disk_trait.specs.declared.ids.FileId.TheVariants as F
use Rattle.disk_trait.specs.declared.disk.Disk.{Ghosts as DiskGhosts}
use Rattle.disk_trait.specs.Names.{is_metadata}
use Rattle.disk_trait.specs.Files.{Files}
use Rattle.pool_name.specs.declared.namer.Namer.{Ghosts as NamerGhosts}
use Rattle.intent_journal.specs.declared.changes.Change.{Change}
use Rattle.intent_journal.specs.declared.journal.Journal.{Journal}
use Rattle.intent_journal.specs.Changes.{applied, names as named_by}
use Rattle.intent_journal.specs.ChangesLaws.{applied_other, applied_contents}
use Rattle.journal_view.specs.View.{told, uncertain}
use Rattle.pool_index.specs.declared.item.IndexItem.{IndexItem}
use Rattle.pool_index.specs.Items.{byte_of, item_at}
use Rattle.pool_index.specs.Layout.{bucket_of}
use Rattle.pool_index.specs.Index.{Index, TellsIn}
use Rattle.pool_changes.specs.declared.slot.Slot.{Slot}
use Rattle.pool_changes.specs.Slots.{Slots, is_live, is_given, claims_of}
use Rattle.pool_changes.specs.Kept.{IsSame, slots_of}
use Rattle.pool_changes.specs.Listed.{item_of, index_of}
use Rattle.pool_changes.specs.Indexed.{after}
use Rattle.pool_changes.specs.Written.{LeadsIndex, IsIndexFile}
use Rattle.pool_store.specs.declared.pool.Pool.{Pool}
use Rattle.pool_store.specs.Fits.{Fits}
use Rattle.pool_store.specs.AcceptedLaws.{fits_accepted}
use Rattle.backup_views.specs.declared.kept.Views.{Views}
use Rattle.ref_counts.specs.Numbers.{Items}
use Rattle.nightly_clean.specs.declared.cleaning.Cleaning.{Cleaning}
use Rattle.pool_fate.specs.declared.fate.Fate.{Fate}
use Rattle.pool_fate.specs.Fates.{is_same_fate}
use Rattle.nightly_clean.specs.Cleanings.{is_named, is_protected as is_kept, wanted_ids, cleaned_slot, cleaned as cleaned_names, IsCleaning}
use Rattle.open_sessions.specs.declared.sessions.Sessions.{Sessions}
use Rattle.open_sessions.specs.Opened.{AreSessions, claims_in}
use Rattle.open_sessions.specs.SessionLaws.{AreSessions-claimed}
use Rattle.office_model.specs.declared.answer.Answer.{Answer}
use Rattle.office_model.specs.declared.answer.Answer.TheVariants.{Cleaned}
use Rattle.office_model.specs.declared.event.Event.TheVariants.{Clean}
use Rattle.pool_fate.specs.declared.fate.Fate.TheVariants.{Stays, Gains, Loses, Leaves}
use Rattle.office_model.specs.declared.refusal.BrokenRule.TheVariants.{BadBucket}
use Rattle.office_model.specs.declared.refusal.Refusal.{Refusal}
use Rattle.office_model.specs.declared.refusal.Refusal.TheVariants.{Broken, DiskFault}
use Rattle.office_model.specs.Meaning.{Carried, Nothing, Commits}
use Rattle.office_model.specs.Office.{Office, Names, in_hosts, with_pool, with_ids}
use Rattle.office_model.specs.Pool.{byte_cmp, cleaned, fated}
use Rattle.office_model.specs.Step.{Running, IsStep, meaning_of}
use Rattle.office_model.specs.events.Clean as CleanEvent
use Rattle.office_model.specs.events.Clean.{in_bucket}
use Rattle.office_model.specs.UsedNames.{AreIdsAfter}
use Rattle.office_model.specs.laws.CleanLaws.{IsSound-cleaned}
use Rattle.office_model.specs.laws.IdLaws.{IsSoundDurable-ids}
use Rattle.office_model.specs.laws.StateLaws.{AreSound-carried}
use Rattle.office_files.specs.Pooled.{contents_of, IsListed, HasNoIndex}
use Rattle.office_files.specs.Stands.{Stands}
use Rattle.office_files.specs.TableLayouts.{WriteNoFirst}
use Rattle.office_files.specs.TableLayoutLaws.{second_applied}
use Rattle.office_changes.specs.BridgeLaws.{protected_counted}
use Rattle.office_changes.specs.ChangeLaws.{is_of_index}
use Rattle.office_changes.specs.CleanLaws.{IsCleanedIndex, clean_stands}
use Rattle.office_changes.specs.IdLaws.{ids_left}
use Rattle.office_changes.specs.LayoutLaws.{second_of_index}
use Rattle.office_pool.specs.FitLaws.{given_one}
use Rattle.store_parts.specs.declared.parts.StoreParts.{StoreParts}
use Rattle.store_parts.specs.Held.{given, AreCountsOf, IsKeptView}
use Rattle.store_parts.specs.States.{slots, IsRunning, staging_of}
use Rattle.store_parts.specs.Runs.{Runs}
use Rattle.store_parts.specs.Writes.{Writes}
use Rattle.store_parts.specs.StoredLaws.{contents_written, listed_live}
use Rattle.store_parts.specs.StepLaws.{IsCommitting}
use Rattle.store_parts.specs.RunLaws.{runs_reads, reads_still, counted_still}
use Rattle.store_parts.specs.RefusedLaws.{runs_broken}
use Rattle.store_parts.specs.WriteLaws.{LeadsTo, Holds, runs_write_refused, runs_written}
use Rattle.store_parts.specs.ListLaws.{entry_found}
use Rattle.store_parts.specs.HoldingLaws.{any_found}
use Rattle.store_cleaning.proofs.CleanIds.{ids_still, ids_cleaned}
use Rattle.store_cleaning.specs.CleanLaws.{opened_has, protected_in, sessions_hold, hosts_count, AreKept, kept_by, listed_item, bucket_claimed, either_way, cleaned_used, cleaned_claims, cleaned_given, cleaned_index, cleaned_number, changes_in, none_cleaned, some_cleaned}

-- ---- the model's side

abbrev after_cleaning : (List ℕ → Bool) → Office → Office
after_cleaning inside office =
    with_pool office (cleaned inside (protected_in office) office.pool)

-- what a cleaning means of a bucket that there is
abbrev carried_by : (List ℕ → Bool) → Office → Carried
carried_by inside office = record {
  answer = Cleaned (fated inside (protected_in office) Gains office.pool)
      (fated inside (protected_in office) Loses office.pool)
      (fated inside (protected_in office) Leaves office.pool);
  after = after_cleaning inside office;
}

judged_by : (digest_of : List ℕ → List ℕ) (bucket : ℕ) (office : Office) → nat_le 16 bucket ≡ false
    → CleanEvent.carried digest_of bucket office ≡ Ok (carried_by (in_bucket digest_of bucket) office)
judged_by digest_of bucket office within = rw within refl

-- ---- files

index_file_is : (in_one : Bool) (old new : Index) (file : FileId) → IsIndexFile in_one old new file → is_of_index file ≡ true
index_file_is in_one old new file (inl (is, one)) = ap is_of_index is
index_file_is in_one old new file (inr (byte, within, is, called)) = ap is_of_index is

no_items : (byte : ℕ) (items : List IndexItem) (id : PoolId) (item : Option IndexItem) → bucket_of byte items ≡ None
    → item ≡ item_at items id
    → is_some item ≡ true → ⊥
no_items byte [] id item none is listed = false≢true (sym (ap is_some is) ∙ listed)
no_items byte (x ∷ items) id item none is listed = absurd (cc)

-- without files of an index nothing is listed
unlisted : (in_one : Bool) (index : Index) (files : Files) → TellsIn in_one index files → HasNoIndex files → (id : PoolId)
    → IsListed index id → ⊥
unlisted true index files tells none id listed = let e = sym tells.is ∙ none.one in cc
unlisted false index files tells none id listed =
    let within = tells.within id listed in
    let byte = tells.each (byte_of id) within in
    no_items (byte_of id) byte.items id (index id) (sym byte.is ∙ none.each (byte_of id) within) (byte.each id refl) listed

-- a live name is in use
live_used : (slot : Option Slot) → is_live slot ≡ true → is_some slot ≡ true
live_used None live = live
live_used (Some slot) live = refl

pub beyond : (bucket : ℕ) → 16 ≤ bucket → nat_le 16 bucket ≡ true
beyond bucket h = grind (arith, nat_tests)

pub below : (bucket : ℕ) → bucket < 16 → nat_le 16 bucket ≡ false
below bucket h = grind (arith, nat_tests)

-- whether all three numbers are none
pub all_none : (a b c : ℕ) → true ≡ ((a == 0 && b == 0) && c == 0) → (a ≡ 0) × (b ≡ 0) × (c ≡ 0)
all_none a b c e = step (a == 0) refl (b == 0) refl (c == 0) refl e
  where
    zero_of : (n : ℕ) → (n == 0) ≡ true → n ≡ 0
    zero_of n e = grind (arith, nat_tests)

    step : (p : Bool) → (a == 0) ≡ p → (q : Bool) → (b == 0) ≡ q → (r : Bool) → (c == 0) ≡ r → true ≡ ((p && q) && r)
        → (a ≡ 0) × (b ≡ 0) × (c ≡ 0)
    step true f true g true h e = (zero_of a f, zero_of b g, zero_of c h)
    step true f true g false h e = absurd (false≢true (sym e))
    step true f false g r h e = absurd (false≢true (sym e))
    step false f q g r h e = absurd (false≢true (sym e))

pub none_counted : (a b c : ℕ) (reply : Result Answer Refusal) → reply ≡ Ok (Cleaned a b c) → reply ≡ Ok (Cleaned 0 0 0)
    → (a ≡ 0) × (b ≡ 0) × (c ≡ 0)
none_counted a b c reply is none =
    let first : a ≡ 0 = cc (is, none) in
    let second : b ≡ 0 = cc (is, none) in
    let third : c ≡ 0 = cc (is, none) in
    (first, second, third)

pub not_none : (a b c : ℕ) → false ≡ ((a == 0 && b == 0) && c == 0) → (a ≡ 0) × (b ≡ 0) × (c ≡ 0) → ⊥
not_none a b c e none =
    false≢true (e ∙ (λ i. (none.0 i == 0 && none.1 i == 0) && none.2 i == 0))

module _ {D N S : Type 0} {d : DiskGhosts D} {n : NamerGhosts N S} where
  pub protected_is_kept : (parts : StoreParts D N S d n) (office : Office) (names : Names) (at : IsRunning parts office names)
      → AreKept parts.counts (slots parts) (contents_of at.all) (protected_in office)
  protected_is_kept parts office names at id item e =
      let content = contents_of at.all id in
      let claimed = bucket_claimed id (slots parts id) item e in
      let listed = listed_item id (slots parts id) item e in
      let one = given_one n.digest_of (slots parts) (uncertain parts.journal) at.all at.fits in
      let hosted = protected_counted n.digest_of (index_of (slots parts)) at.shown at.all office.durable at.stands id
      (ap is_some listed.0)
      ∙ sym (hosts_count id parts.counts at.shown at.counted) in
      let opened = sessions_hold (given (slots parts)) (contents_of at.all) one id claimed.0 n.holds (staging_of at.all names)
      office.volatile parts.sessions at.sessions
      ∙ ap (nat_lt 0) (sym (at.claimed id)) in
      (λ i. claimed.1 i || is_named parts.counts (listed.1 i))
      ∙ kept_by (in_hosts office.hosts content)
      (opened_has office.volatile content)
      (nat_lt 0 (claims_of (slots parts id))) (is_named parts.counts id) hosted opened

  module _ (old : StoreParts D N S d n) (bucket : ℕ) (within : nat_le 16 bucket ≡ false) (cleaning : Cleaning)
      (is : IsCleaning (slots old) bucket old.counts cleaning) where
    abbrev inside : List ℕ → Bool
    inside = in_bucket n.digest_of bucket

    abbrev relisted : Slots
    relisted = after cleaning.change (slots old)

    abbrev answer : Answer
    answer = Cleaned cleaning.marked cleaning.unmarked cleaning.removed

    module _ (office : Office) (names : Names) (at : IsRunning old office names) where
      abbrev protected : List ℕ → Bool
      protected = protected_in office

      number : (wanted : Fate) → is_same_fate Stays wanted ≡ false → length (wanted_ids wanted (is_kept old.counts) is.items)
          ≡ fated inside protected wanted office.pool
      number wanted turns =
          cleaned_number n.digest_of bucket old.counts (slots old) (contents_of at.all) office.pool protected at.stands.pool
          (protected_is_kept old office names at) at.stands.one at.sound.pool_order is.items is.of_bucket wanted turns

      gained : cleaning.marked ≡ fated inside protected Gains office.pool
      gained = is.marked ∙ number Gains refl

      lost : cleaning.unmarked ≡ fated inside protected Loses office.pool
      lost = is.unmarked ∙ number Loses refl

      left : cleaning.removed ≡ fated inside protected Leaves office.pool
      left = is.removed ∙ number Leaves refl

      judged : CleanEvent.carried names.digest_of bucket office ≡ Ok (carried_by inside office)
      judged = ap (λ f. CleanEvent.carried f bucket office) at.digest ∙ judged_by n.digest_of bucket office within

      -- ---- nothing changes

      still : (cleaning.marked ≡ 0) × (cleaning.unmarked ≡ 0) × (cleaning.removed ≡ 0)
          → IsStep (Running office names) (Clean bucket) (Ok (Cleaned 0 0 0)) (Running office names)
      still none =
          let gains = sym gained ∙ none.0 in
          let loses = sym lost ∙ none.1 in
          let leaves = sym left ∙ none.2 in
          let pool = none_cleaned inside protected office.pool (gains, loses, leaves) in (
            (
              judged ∙ (λ i. Ok (record {
                answer = Cleaned (gains i) (loses i) (leaves i);
                after = with_pool office (pool i);
              })),
              ids_still office names at.sound,
            ),
            refl,
          )

      -- ---- something does

      module _ (some : (cleaning.marked ≡ 0) × (cleaning.unmarked ≡ 0) × (cleaning.removed ≡ 0) → ⊥) where
        changes : changes_in inside protected office.pool ≡ true
        changes = some_cleaned inside protected office.pool (λ none. some (gained ∙ none.0, lost ∙ none.1, left ∙ none.2))

        commits : IsCommitting ((meaning_of (Clean bucket)).touches office names)
        commits = inl (ap (λ f. if CleanEvent.changes f bucket office then Commits else Nothing) at.digest
            ∙ ap (λ (b : Bool). if b then Commits else Nothing) changes)

        headed : at.all F.Head ≡ None → ⊥
        headed none =
            let w = any_found _ office.pool changes in
            let found = entry_found byte_cmp nat_list_cmp_total office.pool w.0 w.1 at.sound.pool_order w.2 in
            let listed = at.stands.pool.listed w.1.0 w.1.1 found in
            unlisted old.pool.in_one_file (index_of (slots old)) at.all at.tells (at.stands.no_index none) listed.0 (ap is_some listed.2)

        index_cleaned : IsCleanedIndex inside protected (contents_of at.all) (index_of (slots old)) (index_of relisted)
        index_cleaned id =
            ap (item_of id) (is.each id)
            ∙ cleaned_index n.digest_of bucket old.counts (slots old) (contents_of at.all) office.pool protected at.stands.pool
            (protected_is_kept old office names at) id

        module _ (leads : LeadsIndex old.pool.in_one_file (index_of (slots old)) (index_of relisted) cleaning.change.changes) where
          stays : (file : FileId) → is_metadata file ≡ true → is_of_index file ≡ false
              → applied cleaning.change.changes at.all file ≡ at.all file
          stays file kind out = step (named_by cleaning.change.changes file) refl
            where
              step : (b : Bool) → named_by cleaning.change.changes file ≡ b → applied cleaning.change.changes at.all file ≡ at.all file
              step true e =
                  let of_index = index_file_is old.pool.in_one_file (index_of (slots old)) (index_of relisted) file (leads.only file e) in
                  absurd (false≢true (sym out ∙ of_index))
              step false e = applied_other cleaning.change.changes at.all file e

          safe : (content : List ℕ) → in_hosts office.hosts content ≡ true → protected content ≡ true
          safe content e =
              let opened = opened_has office.volatile content in
              ap (λ (b : Bool). b || opened) e

          -- the office after it, with the ids that are left
          abbrev cleaned_office : Office
          cleaned_office = with_ids (after_cleaning inside office) (ids_left (index_of relisted) office.ids)

          stands : Stands n.digest_of (index_of relisted) at.shown (applied cleaning.change.changes at.all) cleaned_office.durable
          stands = clean_stands n.digest_of inside protected (index_of (slots old)) (index_of relisted) at.shown at.all
              (applied cleaning.change.changes at.all) office.durable safe stays
              (λ id. applied_contents cleaning.change.changes at.all (F.Pool id) leads.are refl) headed index_cleaned
              (inr (leads.leads at.all at.tells))
              (IsSoundDurable-ids cleaned_office.durable office.ids (IsSound-cleaned office inside at.sound.office).kept) at.stands

          ids : AreIdsAfter names office.durable cleaned_office.durable
          ids = ids_cleaned names inside protected (index_of (slots old)) (index_of relisted) at.shown at.all
              (applied cleaning.change.changes at.all) office.durable cleaned_office.durable
              (subst (λ (f : List ℕ → List ℕ). Stands f (index_of (slots old)) at.shown at.all office.durable) (sym at.digest) at.stands)
              (subst (λ (f : List ℕ → List ℕ). Stands f (index_of relisted) at.shown (applied cleaning.change.changes at.all) cleaned_office.durable)
              (sym at.digest) stands)
              index_cleaned
              (λ id. sym (ap (λ (c : PoolId → List ℕ). c id) (contents_written cleaning.change.changes at.all leads.are)))
              (λ id listed. at.used.among id (live_used (slots old id) (listed_live (slots old) id listed)))

          second : WriteNoFirst cleaning.change.changes
          second = second_of_index cleaning.change.changes
              (λ file named. index_file_is old.pool.in_one_file (index_of (slots old)) (index_of relisted) file (leads.only file named))

          leads_to : LeadsTo n.digest_of (Clean bucket) cleaning.change.changes office names at.all
          leads_to = record {
            carried = record { answer = (carried_by inside office).answer; after = cleaned_office };
            judged = (judged, ids);
            stands = record { index = index_of relisted; shown = at.shown; stands = stands };
            second = second;
          }

          -- ---- the parts behind the commit

          module _ (mid new : StoreParts D N S d n) (done : Unit {0}) (w : Writes old cleaning.change.changes (Ok done) mid)
              (accepted : IsSame relisted (slots new)) (form : new.pool.in_one_file ≡ false) (journal : new.journal ≡ mid.journal)
              (catalog : new.catalog ≡ old.catalog) (counts : new.counts ≡ old.counts) (partials : new.partials ≡ old.partials)
              (sessions : new.sessions ≡ old.sessions)
              (views : new.views ≡ old.views) (halted : new.halted ≡ mid.halted) where
            abbrev image : Files
            image = applied cleaning.change.changes at.all

            file : (id : PoolId) → image (F.Pool id) ≡ at.all (F.Pool id)
            file id = applied_contents cleaning.change.changes at.all (F.Pool id) leads.are refl

            slot_is : (id : PoolId) → slots new id ≡ cleaned_names bucket old.counts (slots old) id
            slot_is id = accepted id ∙ is.each id

            -- what a cleaning leaves of a slot
            same : {A : Type 0} (f : Option Slot → A) → ((named : Bool) (slot : Option Slot) → f (cleaned_slot named slot) ≡ f slot)
                → (id : PoolId) → f (slots new id) ≡ f (slots old id)
            same f keeps id =
                ap f (slot_is id)
                ∙ either_way f (is_named old.counts id) (slots old id) (keeps (is_named old.counts id) (slots old id))
                (byte_of id / 16 == bucket)

            used : (id : PoolId) → is_some (slots new id) ≡ is_some (slots old id)
            used id = same is_some cleaned_used id

            claimed : (id : PoolId) → claims_of (slots new id) ≡ claims_in new.sessions id
            claimed id = same claims_of cleaned_claims id ∙ at.claimed id ∙ ap (λ (s : Sessions S). claims_in s id) (sym sessions)

            still_given : (id : PoolId) → given (slots old) id → 0 < claims_of (slots old id) → given (slots new) id
            still_given id g some =
                ap is_given (slot_is id)
                ∙ step (byte_of id / 16 == bucket)
              where
                step : (b : Bool) → is_given (if b then cleaned_slot (is_named old.counts id) (slots old id) else slots old id) ≡ true
                step true = cleaned_given (is_named old.counts id) (slots old id) g some
                step false = g

            index : index_of (slots new) ≡ index_of relisted
            index = λ i id. item_of id (accepted id i)

            fits : Fits n.digest_of (slots new) (uncertain mid.journal) image
            fits = fits_accepted n.digest_of cleaning.change.added.items cleaning.change.marked.items cleaning.change.unmarked.items
                cleaning.change.removed.items (slots old) (slots new) (uncertain old.journal)
                (uncertain mid.journal) at.all image accepted file
                (λ id. (w.committed.certain (ap is_some at.told_is)).each (F.Pool id) refl) at.fits

            running : IsRunning new cleaned_office names
            running = record {
              working = record {
                ready = halted ∙ w.stays (λ e. absurd cc) ∙ at.ready;
                stored = record {
                  journal_ready = subst (λ (j : Journal D d). j.halted ≡ false) (sym journal) w.committed.ready;
                  all = image;
                  shown = at.shown;
                  told_is = subst (λ (j : Journal D d). told j ≡ Some image) (sym journal)
                      (w.committed.done ∙ ap (option_map (applied cleaning.change.changes)) at.told_is);
                  stands = subst (λ (i : Index). Stands n.digest_of i at.shown image cleaned_office.durable)
                      (sym index) stands;
                  tells = subst (λ (b : Bool). TellsIn b (index_of (slots new)) image) (sym form)
                      (subst (λ (i : Index). TellsIn false i image) (sym index) (leads.leads at.all at.tells));
                  fits = subst (λ (j : Journal D d). Fits n.digest_of (slots new) (uncertain j) image) (sym journal) fits;
                  all_used = λ id there. used id ∙ at.all_used id (ap is_some (sym (file id)) ∙ there);
                  used = record {
                    distinct = at.used.distinct;
                    slot = λ id among. used id ∙ at.used.slot id among;
                    among = λ id e. at.used.among id (sym (used id) ∙ e);
                    near = λ id e. at.used.near id (sym (used id) ∙ e);
                  };
                  digest = at.digest;
                  second = second_applied names.old_hosts at.all cleaning.change.changes second at.second;
                  catalog_is = catalog ∙ at.catalog_is;
                };
                counted = subst (λ (cs : List Items). AreCountsOf cs at.shown) (sym counts) at.counted;
                parked = partials ∙ at.parked;
                sessions = subst (λ (s : Sessions S). AreSessions n.holds (given (slots new)) (contents_of image)
                    (staging_of image names) office.volatile s) (sym sessions)
                    (AreSessions-claimed n.holds (given (slots old)) (contents_of at.all) (given (slots new)) (contents_of image)
                    (staging_of at.all names) (staging_of image names) office.volatile old.sessions
                    (record {
                      staged = λ i stage there. applied_contents cleaning.change.changes at.all (F.Stage stage.number) leads.are refl;
                      next_stage = refl;
                      next_reader = refl;
                    })
                    (λ id g some. (
                      still_given id g (subst (λ (m : ℕ). 0 < m) (sym (at.claimed id)) some),
                      sym (ap (λ (c : PoolId → List ℕ). c id) (contents_written cleaning.change.changes at.all leads.are)),
                    )) at.sessions);
                view = subst (λ (v : Views). IsKeptView v.kept office.hosts at.shown) (sym views) at.view;
                sound = AreSound-carried office names (Clean bucket) (carried_by inside office).answer cleaned_office names at.sound (judged, ids) refl;
              };
              claimed = claimed;
            }

            holds : Holds (Clean bucket) answer cleaning.change.changes office names at.all new
            unfolding leads_to
            holds = record {
              leads = leads_to;
              answer_is = sym (λ i. Cleaned (gained i) (lost i) (left i));
              running = running;
            }

  -- ---- the answers

  pub cleaned_by : (parts : StoreParts D N S d n) (bucket : ℕ) (counts : List Items) (cleaning : Cleaning) → counts ≡ parts.counts
      → IsCleaning (slots parts) bucket counts cleaning → IsCleaning (slots parts) bucket parts.counts cleaning
  cleaned_by parts bucket counts cleaning same is = subst (λ (cs : List Items). IsCleaning (slots parts) bucket cs cleaning) same is

  pub written_by : (old new : StoreParts D N S d n) (changes changes' : List Change) (result : Result (Unit {0}) Refusal)
      → changes ≡ changes'
      → Writes old changes result new → Writes old changes' result new
  written_by old new changes changes' result same w = subst (λ (cs : List Change). Writes old cs result new) same w

  pub cleans_bad : (old : StoreParts D N S d n) (bucket : ℕ) → nat_le 16 bucket ≡ true
      → Runs old (Clean bucket) (Err (Broken BadBucket)) old
  cleans_bad old bucket beyond = runs_broken old (Clean bucket) BadBucket (λ office names at. rw beyond refl)

  module _ (old : StoreParts D N S d n) (bucket : ℕ) (within : nat_le 16 bucket ≡ false) (cleaning : Cleaning)
      (is : IsCleaning (slots old) bucket old.counts cleaning) where
    pub cleans_nothing : (cleaning.marked ≡ 0) × (cleaning.unmarked ≡ 0) × (cleaning.removed ≡ 0)
        → Runs old (Clean bucket) (Ok (Cleaned 0 0 0)) old
    cleans_nothing none =
        runs_reads old old (Clean bucket) (Ok (Cleaned 0 0 0)) (reads_still old)
        (λ office names at. still old bucket within cleaning is office names at none) (λ office names at. tt) refl (λ e. absurd cc)
        (counted_still (d.fault_count old.journal.disk) (Ok (Cleaned 0 0 0) ≡ Err DiskFault) (λ e. absurd cc))

    module _ (some : (cleaning.marked ≡ 0) × (cleaning.unmarked ≡ 0) × (cleaning.removed ≡ 0) → ⊥)
        (leads : LeadsIndex old.pool.in_one_file (index_of (slots old))
        (index_of (after cleaning.change (slots old))) cleaning.change.changes) where
      pub cleans_refused : (new : StoreParts D N S d n) (refusal : Refusal) → Writes old cleaning.change.changes (Err refusal) new
          → Runs old (Clean bucket) (Err refusal) new
      cleans_refused new refusal w =
          runs_write_refused old new (Clean bucket) cleaning.change.changes refusal w
          (λ office names at. leads_to old bucket within cleaning is office names at some leads)
          (λ office names at. commits old bucket within cleaning is office names at some)

      pub cleans : (mid new : StoreParts D N S d n) (done : Unit {0}) → Writes old cleaning.change.changes (Ok done) mid
          → IsSame (after cleaning.change (slots mid)) (slots new) → new.pool.in_one_file ≡ false → new.journal ≡ mid.journal
          → new.catalog ≡ mid.catalog → new.counts ≡ mid.counts → new.partials ≡ mid.partials → new.sessions ≡ mid.sessions
          → new.views ≡ mid.views → new.halted ≡ mid.halted
          → Runs old (Clean bucket) (Ok (Cleaned cleaning.marked cleaning.unmarked cleaning.removed)) new
      cleans mid new done w accepted form journal catalog counts partials sessions views halted =
          runs_written old mid new (Clean bucket)
          (Cleaned cleaning.marked cleaning.unmarked cleaning.removed) cleaning.change.changes done w journal halted
          (λ office names at. holds old bucket within cleaning is office names at some leads mid new done w
          (subst (λ (p : Pool N S n). IsSame (after cleaning.change (slots_of p.names)) (slots new)) w.pool_same accepted) form journal
          (catalog ∙ w.catalog_same) (counts ∙ w.counts_same) (partials ∙ w.partials_same) (sessions ∙ w.sessions_same) (views ∙ w.views_same) halted)
          (λ office names. refl) refl
