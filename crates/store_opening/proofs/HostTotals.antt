-- The counts and the partials that the files of an office hold.
--     counts_of_office, heads_of_office      those that were read are those of its hosts
--     never_without      no host's file is without them
--     few_known, without_counts, without_partial      what reading them wants, and what a refusal says
use Rattle.std.specs.Prelude.{slice_get, map}
use Rattle.std.specs.Option.{option_map}
use Rattle.std.proofs.Common.{◌≡◌, ℕ, zero, suc, ◌<◌, ◌≤◌, List, [], ◌∷◌, length, Option, None, Some, refl, sym, ap, ◌∙◌, subst, inl, inr, arith}
use Rattle.std.proofs.lemmas.Option.{same_Some}
use Rattle.disk_trait.specs.declared.ids.FileId.{FileId}
use Rattle.disk_trait.specs.declared.ids.FileId.TheVariants as F
use Rattle.disk_trait.specs.Files.{Files}
use Rattle.pool_index.specs.Index.{Index as PoolListing}
use Rattle.backup_index.specs.Index.{Index}
use Rattle.ref_counts.specs.Numbers.{Items, number}
use Rattle.merge_view.specs.Views.{Rows}
use Rattle.stored_trees.specs.Resolved.{resolved_item}
use Rattle.ref_counts.specs.Stored.{StoredHost}
use Rattle.partial_files.specs.declared.partial.PartialFile.{PartialFile}
use Rattle.office_model.specs.Office.{Durable, Host, Partial}
use Rattle.office_files.specs.FoundLaws.{partial_found}
use Rattle.office_files.specs.Hosts.{StandsPartial}
use Rattle.office_model.specs.PairsLaws.{other_at, same_elements}
use Rattle.office_files.specs.Pooled.{contents_of, IsListed}
use Rattle.office_files.specs.Stands.{Stands}
use Rattle.office_changes.specs.BoundLaws.{length-map_values}
use Rattle.office_catalog.specs.Known.{Known, IsCatalog, names_of}
use Rattle.office_catalog.specs.Held.{HoldsCatalog}
use Rattle.store_parts.specs.KnownOffice.{indices_from, one_catalog}
use Rattle.host_counts.specs.Held.{HasCounts, TellsCounts, AreTold, IsForeign}
use Rattle.host_partials.specs.declared.held.PartialHead.{PartialHead}
use Rattle.host_partials.specs.Held.{HasPartial, HasNone, TellsHead, AreTold as ArePartialsTold, IsForeign as IsForeignToPartials, head_of_file}
use Rattle.store_parts.specs.Held.{AreCounts, AreCountsOf, head_of, heads_of}
use Rattle.store_opening.specs.Recovers.{IsWithoutCounts, IsWithoutPartial, IsForeignToHosts}

-- ---- numbers of hosts

hosts_counted : (number : ℕ) (hosts : List Host) → length (indices_from number hosts) ≡ length hosts
hosts_counted number [] = refl
hosts_counted number (host ∷ hosts) = ap suc (hosts_counted (suc number) hosts)

names_counted : (hosts : List Index) → length (names_of hosts) ≡ length hosts
names_counted [] = refl
names_counted (index ∷ hosts) = ap suc (names_counted hosts)

pub few_known : (items hosts : List Index) → items ≡ hosts → IsCatalog hosts → length items ≤ 1024
few_known items hosts same are =
    let few = are.names.few in
    let count = names_counted hosts in
    let l = ap length same in
    omega (arith, few, count, l)

there_at : {A : Type 0} (xs : List A) (i : ℕ) → i < length xs → (x : A) × (slice_get xs i ≡ Some x)
there_at [] i within = absurd (omega (arith, within))
there_at (x ∷ xs) zero within = (x, refl)
there_at (x ∷ xs) (suc i) within = there_at xs i (omega (arith, within))

mapped_at : {A B : Type 0} (f : A → B) (xs : List A) (i : ℕ) (y : B) → slice_get (map f xs) i ≡ Some y
    → (x : A) × (slice_get xs i ≡ Some x) × (f x ≡ y)
mapped_at f [] i y e = absurd cc
mapped_at f (x ∷ xs) zero y e = (x, refl, same_Some (f x) y e)
mapped_at f (x ∷ xs) (suc i) y e = mapped_at f xs i y e

length_mapped : {A B : Type 0} (f : A → B) (xs : List A) → length (map f xs) ≡ length xs
length_mapped f [] = refl
length_mapped f (x ∷ xs) = ap suc (length_mapped f xs)

-- ---- files that stand for an office

module _ (digest_of : List ℕ → List ℕ) (listing : PoolListing) (shown : List StoredHost) (all : Files) (office : Durable)
    (stands : Stands digest_of listing shown all office) where
  hosts_known : (known : Known) → HoldsCatalog all known → length known.hosts ≡ length office.hosts
  hosts_known known holds =
      ap (λ (k : Known). length k.hosts) (one_catalog digest_of listing shown all office stands known holds)
      ∙ hosts_counted 0 office.hosts

  -- the file of a host holds the counts of what is stored of it
  record Has (host : ℕ) (of : StoredHost) : Type 0 where
    pub items : Items
    pub has : HasCounts host items (all (F.Counts host))
    pub are : AreCounts items of

  has_counts : (host : ℕ) (h : Host) (of : StoredHost) → slice_get office.hosts host ≡ Some h → slice_get shown host ≡ Some of → Has host of
  has_counts host h of here there =
      let is = (stands.hosts.each host h of here there).counts in
      record { items = is.items; has = record { fits = is.fits; is = is.is }; are = is.each }

  same_counts : (host : ℕ) (items : Items) (of : StoredHost) → TellsCounts host items (all (F.Counts host)) → Has host of
      → AreCounts items of
  same_counts host items of tells w = λ id. ap (λ (i : Items). number i id) (tells.only w.items w.has) ∙ w.are id

  pub counts_of_office : (known : Known) (counts : List Items) → HoldsCatalog all known → AreTold all (length known.hosts) counts
      → AreCountsOf counts shown
  counts_of_office known counts holds told = record {
    counted = stands.hosts.counted ∙ sym (told.count ∙ hosts_known known holds);
    each = λ host items of e f.
        let h = other_at shown office.hosts host of (sym stands.hosts.counted) f in
        same_counts host items of (told.each host items e) (has_counts host h.0 of h.1 f);
  }

  -- what is known of a partial that was read is what is known of the host's
  head_told : (host : ℕ) (h : Host) (of : StoredHost) (head : Option PartialHead) → slice_get office.hosts host ≡ Some h
      → slice_get shown host ≡ Some of → TellsHead host head (all (F.Partial host)) → head ≡ option_map head_of h.partial
  head_told host h of head here there tells = tells.is ∙ step tells.partial tells.has
    where
      absent : (partial : Option Partial) (rows : Option Rows) (found : Option (List ℕ))
          → StandsPartial (IsListed listing) (contents_of all) host partial rows found → found ≡ None → None ≡ option_map head_of partial
      absent None rows found is none = refl
      absent (Some partial) None found is none = absurd is
      absent (Some partial) (Some rows) found is none = let clash : Some _ ≡ None = sym is.file.is ∙ none in absurd cc

      step : (file : Option PartialFile) → HasPartial host file (all (F.Partial host))
          → option_map head_of_file file ≡ option_map head_of h.partial
      step None none = absent h.partial of.partial (all (F.Partial host)) (stands.hosts.each host h of here there).partial none
      step (Some file) has =
          let found = partial_found digest_of listing shown all office stands host h of file.kind file.start file.rows here there
          (record { fits = has.0; is = has.1 }) in
          let entries = length-map_values (resolved_item (contents_of all)) file.rows in
          (λ i. Some (record { entries = sym entries i; kind = file.kind; start = file.start })) ∙ sym (ap (option_map head_of) found.1)

  pub heads_of_office : (known : Known) (heads : List (Option PartialHead)) → HoldsCatalog all known
      → ArePartialsTold all (length known.hosts) heads → heads ≡ heads_of office.hosts
  heads_of_office known heads holds told =
      same_elements heads (heads_of office.hosts)
      (length_mapped (λ (host : Host). option_map head_of host.partial) office.hosts ∙ sym (told.count ∙ hosts_known known holds))
      (λ i head other at at_other.
      let h = mapped_at (λ (host : Host). option_map head_of host.partial) office.hosts i other at_other in
      let of = other_at office.hosts shown i h.0 stands.hosts.counted h.1 in
      head_told i h.0 of.0 head h.1 of.1 (told.each i head at) ∙ h.2)

  never_foreign : (known : Known) (file : FileId) (found : Option (List ℕ)) → HoldsCatalog all known
      → IsForeign (Some all) (length known.hosts) file found → ⊥
  never_foreign known file found holds foreign =
      let h = there_at office.hosts foreign.host within in
      let b = other_at office.hosts shown foreign.host h.0 stands.hosts.counted h.1 in
      let w = has_counts foreign.host h.0 b.0 h.1 b.1 in
      foreign.of_host.none w.items
      (subst (HasCounts foreign.host w.items) (sym (foreign.of_host.is all refl ∙ ap all foreign.of_host.is_file)) w.has)
    where
      within : foreign.host < length office.hosts
      within = subst (λ (n : ℕ). foreign.host < n) (hosts_known known holds) foreign.within

  -- a file that is there is that of the partial of its host
  held_partial : (host : ℕ) (partial : Option Partial) (rows : Option Rows) (bytes : List ℕ) (found : Option (List ℕ))
      → StandsPartial (IsListed listing) (contents_of all) host partial rows found → found ≡ Some bytes → HasNone host bytes → ⊥
  held_partial host None None bytes found is there none = let clash : None ≡ Some bytes = sym is ∙ there in absurd cc
  held_partial host None (Some rows) bytes found is there none = is
  held_partial host (Some partial) None bytes found is there none = is
  held_partial host (Some partial) (Some rows) bytes found is there none =
      none (record { kind = partial.kind; start = partial.start; rows = rows }) is.file.fits (same_Some _ _ (sym there ∙ is.file.is))

  never_partial : (known : Known) (file : FileId) (bytes : List ℕ) → HoldsCatalog all known
      → IsForeignToPartials (Some all) (length known.hosts) file bytes → ⊥
  never_partial known file bytes holds foreign =
      let h = there_at office.hosts foreign.host within in
      let b = other_at office.hosts shown foreign.host h.0 stands.hosts.counted h.1 in
      held_partial foreign.host h.0.partial b.0.partial bytes (all (F.Partial foreign.host))
      (stands.hosts.each foreign.host h.0 b.0 h.1 b.1).partial (sym (foreign.of_host.is all refl ∙ ap all foreign.of_host.is_file))
      foreign.of_host.none
    where
      within : foreign.host < length office.hosts
      within = subst (λ (n : ℕ). foreign.host < n) (hosts_known known holds) foreign.within

  pub never_without : (file : FileId) (found : Option (List ℕ)) → IsForeignToHosts all file found → ⊥
  never_without file found (inl without) = never_foreign without.known file found without.holds without.foreign
  never_without file found (inr without) = never_partial without.known file without.bytes without.holds without.foreign

-- ---- a refusal

pub without_counts : (told : Option Files) (all : Files) (known : Known) (items : List Index) (file : FileId) (found : Option (List ℕ))
    → told ≡ Some all → items ≡ known.hosts → HoldsCatalog all known → IsForeign told (length items) file found
    → IsWithoutCounts all file found
without_counts told all known items file found is same holds foreign = record {
  known = known;
  holds = holds;
  foreign = subst (λ (t : Option Files). IsForeign t (length known.hosts) file found) is
      (subst (λ (hosts : List Index). IsForeign told (length hosts) file found) same foreign);
}

pub without_partial : (told : Option Files) (all : Files) (known : Known) (items : List Index) (file : FileId) (found : Option (List ℕ))
    (bytes : List ℕ) → found ≡ Some bytes → told ≡ Some all → items ≡ known.hosts → HoldsCatalog all known
    → IsForeignToPartials told (length items) file bytes → IsWithoutPartial all file found
without_partial told all known items file found bytes there is same holds foreign = record {
  known = known;
  holds = holds;
  bytes = bytes;
  there = there;
  foreign = subst (λ (t : Option Files). IsForeignToPartials t (length known.hosts) file bytes) is
      (subst (λ (hosts : List Index). IsForeignToPartials told (length hosts) file bytes) same foreign);
}
