-- What Delete and Expire are to the model, by the lines of a host.
--     delete_broken, delete_shortens      one backup
--     expire_none, expire_shortens      those that the keeping rules name
--     no_host_delete, no_host_expire      there is no host of the name
--     deleting_broken, deleting, expiring_none, expiring      the same by what the catalog has at the host's place
use Rattle.std.specs.Prelude.{◌≡◌, ℕ, zero, suc, ◌+◌, ◌==◌, Bool, cond, List, [], ◌∷◌, length, count_by, Option, Some, None, Ok, Err, slice_get, slice_set, if◌then◌else◌}
use Rattle.std.specs.Option.{option_map_or}
use Rattle.std.specs.List.{position_from}
use Rattle.std.proofs.Common.{refl, sym, ap, ◌∙◌, subst}
use Rattle.std.proofs.lemmas.Bool.{eqb-true}
use Rattle.std.proofs.lemmas.List.{length-map}
use Rattle.backup_rules.specs.declared.lines.Line.{Line}
use Rattle.backup_index.specs.Index.{Index}
use Rattle.office_catalog.specs.Known.{Known, host_named, names_of, line_numbered}
use Rattle.office_model.specs.declared.answer.Answer.TheVariants.{Done, Expired}
use Rattle.office_model.specs.declared.event.Event.TheVariants.{Delete, Expire}
use Rattle.office_model.specs.declared.refusal.BrokenRule.{BrokenRule}
use Rattle.office_model.specs.declared.refusal.BrokenRule.TheVariants.{NoHost, NoBackup, Kept}
use Rattle.office_model.specs.Office.{Office, Host, Backup, Names, IsSoundHost, backup_index, with_hosts}
use Rattle.office_model.specs.Meaning.{ReadsAndCommits, Reads, breaks}
use Rattle.office_model.specs.Parts.{host_at, lines_of}
use Rattle.office_model.specs.PlacesLaws.{position-found}
use Rattle.office_model.specs.Step.{meaning_of}
use Rattle.office_model.specs.UsedNames.{AreSound}
use Rattle.office_model.specs.laws.Judging.{at_found}
use Rattle.office_model.specs.laws.ExpireLaws.{flags_fit}
use Rattle.office_model.specs.events.Delete.{deletable}
use Rattle.office_model.specs.events.Expire.{unflagged, named_of, without_named, touched}
use Rattle.office_files.specs.Hosts.{index_of_host}
use Rattle.store_parts.specs.KnownOffice.{known_of_office, named_host, index_found}
use Rattle.office_deletion.specs.DeletionLaws.{left_backups, deleted_left}
use Rattle.office_deletion.specs.ExpiryLaws.{flagged_count, flagged_none, flagged_some, unflagged_none, expired_left}
use Rattle.store_deletions.specs.Shortens.{broken_at, broken_rule, named_numbers, Shortens, Shortening}

-- the line of a number stands where its backup does
line_found : (number k : ℕ) (backups : List Backup)
    → position_from (λ (line : Line). line.number == number) k (lines_of backups)
    ≡ position_from (λ (backup : Backup). backup.line.number == number) k backups
line_found number k [] = refl
line_found number k (backup ∷ backups) = ap (cond (backup.line.number == number) (Some k)) (line_found number (k + 1) backups)

line_there : (backups : List Backup) (i : ℕ) (backup : Backup) → slice_get backups i ≡ Some backup
    → slice_get (lines_of backups) i ≡ Some backup.line
line_there [] i backup e = absurd cc
line_there (b ∷ backups) zero backup e = let same : b ≡ backup = cc in ap (λ (x : Backup). Some x.line) same
line_there (b ∷ backups) (suc i) backup e = line_there backups i backup e

-- ---- one backup

module _ (host : Host) (number : ℕ) where
  -- the rule that is broken, by the place of the backup
  deletable_broken : (place : Option ℕ) (rule : BrokenRule) → backup_index host.backups number ≡ place
      → broken_at (lines_of host.backups) place ≡ Some rule → deletable host number ≡ Err rule
  deletable_broken None rule e is =
      let same : NoBackup ≡ rule = cc in subst (λ (r : BrokenRule). deletable host number ≡ Err r) same (rw e refl)
  deletable_broken (Some i) rule e is =
      let b = position-found (λ (backup : Backup). backup.line.number == number) host.backups i e in
      let found = at_found NoBackup host.backups (backup_index host.backups number) i b.0 e b.1 in
      let broken : breaks Kept b.0.line.keep ≡ Some rule =
      sym (ap (λ o. option_map_or (λ (line : Line). breaks Kept line.keep) o (Some NoBackup)) (line_there host.backups i b.0 b.1)) ∙ is in
      rw found (rw broken refl)

  -- where none is, the backup
  record IsDeletable : Type 0 where
    pub place : ℕ
    pub backup : Backup
    pub there : slice_get host.backups place ≡ Some backup
    pub number_is : backup.line.number ≡ number
    pub judged : deletable host number ≡ Ok place

  deletable_fine : (place : Option ℕ) → backup_index host.backups number ≡ place → broken_at (lines_of host.backups) place ≡ None
      → IsDeletable
  deletable_fine None e is = absurd cc
  deletable_fine (Some i) e is =
      let b = position-found (λ (backup : Backup). backup.line.number == number) host.backups i e in
      let found = at_found NoBackup host.backups (backup_index host.backups number) i b.0 e b.1 in
      let fine : breaks Kept b.0.line.keep ≡ None =
      sym (ap (λ o. option_map_or (λ (line : Line). breaks Kept line.keep) o (Some NoBackup)) (line_there host.backups i b.0 b.1)) ∙ is in
      record {
        place = i;
        backup = b.0;
        there = b.1;
        number_is = eqb-true b.0.line.number number b.2;
        judged = rw found (rw fine refl);
      }

module _ (office : Office) (names : Names) (name : List ℕ) (p : ℕ) (host : Host)
    (judged : host_at office.hosts name ≡ Ok (record { index = p; value = host })) where
  place_is : (number : ℕ) → backup_index host.backups number ≡ line_numbered (lines_of host.backups) number
  place_is number = sym (line_found number 0 host.backups)

  pub delete_broken : (number : ℕ) (rule : BrokenRule) → broken_rule (lines_of host.backups) number ≡ Some rule
      → (meaning_of (Delete name number)).carried office names ≡ Err rule
  delete_broken number rule is =
      let broken = deletable_broken host number (line_numbered (lines_of host.backups) number) rule (place_is number) is in
      rw judged (rw broken refl)

  pub delete_shortens : (number : ℕ) → IsSoundHost host → slice_get office.hosts p ≡ Some host
      → broken_rule (lines_of host.backups) number ≡ None → Shortens (Delete name number) Done office names p (number ∷ [])
  delete_shortens number sound here is =
      let d = deletable_fine host number (line_numbered (lines_of host.backups) number) (place_is number) is in
      record {
        host = host;
        is_host = here;
        judged = rw judged (rw d.judged refl)
            ∙ ap (λ (bs : List Backup). Ok (record {
              answer = Done;
              after = with_hosts office (slice_set office.hosts p (record host { backups = bs }));
            })) (deleted_left host.backups d.place d.backup sound.backups.numbered.rise d.there
            ∙ ap (λ (k : ℕ). left_backups (k ∷ []) host.backups) d.number_is);
        touches = refl;
        plain = refl;
      }

  -- ---- those that the rules name

  module _ (now : ℕ) (sound : IsSoundHost host) (here : slice_get office.hosts p ≡ Some host) where
    counted : length (named_of now host) ≡ length (lines_of host.backups)
    counted = (flags_fit host.rules now host.next host.backups sound.backups.numbered).counted
        ∙ sym (length-map host.backups (λ (backup : Backup). backup.line))

    carried_is : (meaning_of (Expire name now)).carried office names
        ≡ Ok (record {
          answer = Expired (count_by (λ flag. flag) (named_of now host));
          after = with_hosts office (slice_set office.hosts p (without_named now host));
        })
    carried_is = rw judged refl

    number_is : length (named_numbers host.rules now (lines_of host.backups)) ≡ count_by (λ flag. flag) (named_of now host)
    number_is = flagged_count (named_of now host) (lines_of host.backups) counted

    set_still : (hosts : List Host) (i : ℕ) → slice_get hosts i ≡ Some host → slice_set hosts i host ≡ hosts
    set_still [] i e = refl
    set_still (h ∷ hosts) zero e = let same : host ≡ h = cc in ap (λ (x : Host). x ∷ hosts) same
    set_still (h ∷ hosts) (suc i) e = ap (λ hs. h ∷ hs) (set_still hosts i e)

    -- none is named
    pub expire_none : named_numbers host.rules now (lines_of host.backups) ≡ []
        → (meaning_of (Expire name now)).carried office names ≡ Ok (record { answer = Expired 0; after = office })
    expire_none none =
        let still : without_named now host ≡ host =
        ap (λ (bs : List Backup). record host { backups = bs })
        (unflagged_none (named_of now host) host.backups (flagged_none (named_of now host) (lines_of host.backups) counted none)) in
        let zero_is : count_by (λ flag. flag) (named_of now host) ≡ 0 = sym number_is ∙ ap length none in
        carried_is
        ∙ (λ i. Ok (record {
          answer = Expired (zero_is i);
          after = with_hosts office (slice_set office.hosts p (still i));
        }))
        ∙ ap (λ (hs : List Host). Ok (record { answer = Expired 0; after = with_hosts office hs })) (set_still office.hosts p here)

    pub expire_shortens : (named_numbers host.rules now (lines_of host.backups) ≡ [] → ⊥)
        → Shortens (Expire name now) (Expired (length (named_numbers host.rules now (lines_of host.backups)))) office names p
        (named_numbers host.rules now (lines_of host.backups))
    expire_shortens some = record {
      host = host;
      is_host = here;
      judged = carried_is
          ∙ (λ i. Ok (record {
            answer = Expired (sym number_is i);
            after = with_hosts office (slice_set office.hosts p (record host { backups = left i }));
          }));
      touches = ap (touched now) judged
          ∙ ap (λ (b : Bool). if b then ReadsAndCommits else Reads) (flagged_some (named_of now host) (lines_of host.backups) some);
      plain = refl;
    }
      where
        left : unflagged (named_of now host) host.backups ≡ left_backups (named_numbers host.rules now (lines_of host.backups)) host.backups
        left = expired_left host.next (named_of now host) host.backups sound.backups
            (flags_fit host.rules now host.next host.backups sound.backups.numbered)

-- ---- by the catalog

pub no_host_delete : (name : List ℕ) (number : ℕ) (office : Office) (names : Names) → host_at office.hosts name ≡ Err NoHost
    → (meaning_of (Delete name number)).carried office names ≡ Err NoHost
no_host_delete name number office names e = rw e refl

pub no_host_expire : (name : List ℕ) (now : ℕ) (office : Office) (names : Names) → host_at office.hosts name ≡ Err NoHost
    → (meaning_of (Expire name now)).carried office names ≡ Err NoHost
no_host_expire name now office names e = rw e refl

module _ (known : Known) (name : List ℕ) (p : ℕ) (index : Index) (named : Some p ≡ host_named (names_of known.hosts) name)
    (here : slice_get known.hosts p ≡ Some index) where
  -- the host of the name has this index
  record IsOf (office : Office) : Type 0 where
    pub host : Host
    pub is_host : slice_get office.hosts p ≡ Some host
    pub judged : host_at office.hosts name ≡ Ok (record { index = p; value = host })
    pub index_is : index ≡ index_of_host p host

  host_of : (office : Office) → known ≡ known_of_office office.durable → IsOf office
  host_of office is =
      let w = named_host office.durable known name p is named in
      record {
        host = w.host;
        is_host = w.is_host;
        judged = w.judged;
        index_is = index_found office.hosts p w.host index w.is_host (ap (λ (k : Known). slice_get k.hosts p) (sym is) ∙ here);
      }

  pub deleting_broken : (number : ℕ) (rule : BrokenRule) → Some rule ≡ broken_rule index.lines number
      → (office : Office) (names : Names) → known ≡ known_of_office office.durable
      → (meaning_of (Delete name number)).carried office names ≡ Err rule
  deleting_broken number rule broken office names is =
      let h = host_of office is in
      delete_broken office names name p h.host h.judged number rule
      (ap (λ (i : Index). broken_rule i.lines number) (sym h.index_is) ∙ sym broken)

  pub deleting : (number : ℕ) → None ≡ broken_rule index.lines number → Shortening known (Delete name number) Done p (number ∷ [])
  deleting number fine = record {
    each = λ office names is sound.
        let h = host_of office is in
        delete_shortens office names name p h.host h.judged number (sound.hosts.each p h.host h.is_host) h.is_host
        (ap (λ (i : Index). broken_rule i.lines number) (sym h.index_is) ∙ sym fine);
    stay = λ office names reply. refl;
    in_kind = refl;
  }

  -- what the rules name, by the index
  named_is : (office : Office) (h : IsOf office) (now : ℕ) → named_numbers index.rules now index.lines
      ≡ named_numbers h.host.rules now (lines_of h.host.backups)
  named_is office h now = ap (λ (i : Index). named_numbers i.rules now i.lines) h.index_is

  pub expiring_none : (now : ℕ) → named_numbers index.rules now index.lines ≡ []
      → (office : Office) (names : Names) → known ≡ known_of_office office.durable → AreSound office names
      → (meaning_of (Expire name now)).carried office names ≡ Ok (record { answer = Expired 0; after = office })
  expiring_none now none office names is sound =
      let h = host_of office is in
      expire_none office names name p h.host h.judged now (sound.hosts.each p h.host h.is_host) h.is_host
      (sym (named_is office h now) ∙ none)

  pub expiring : (now : ℕ) (numbers : List ℕ) → numbers ≡ named_numbers index.rules now index.lines → (numbers ≡ [] → ⊥)
      → Shortening known (Expire name now) (Expired (length numbers)) p numbers
  expiring now numbers are some = record {
    each = λ office names is sound.
        let h = host_of office is in
        let same = are ∙ named_is office h now in
        subst (λ (ns : List ℕ). Shortens (Expire name now) (Expired (length ns)) office names p ns) (sym same)
        (expire_shortens office names name p h.host h.judged now (sound.hosts.each p h.host h.is_host) h.is_host
        (λ none. some (same ∙ none)));
    stay = λ office names reply. refl;
    in_kind = refl;
  }
