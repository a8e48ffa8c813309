-- Files hold one catalog, and nothing foreign where they hold one.
use Rattle.std.proofs.Common.{◌≡◌, ◌⊎◌, inl, inr, ℕ, List, length, Option, Some, None, refl, sym, ap, subst, ◌∙◌}
use Rattle.std.specs.Prelude.{slice_get, option_map}
use Rattle.std.proofs.lemmas.Option.{none-some, same_Some, slice_get-map}
use Rattle.disk_trait.specs.declared.ids.FileId.{FileId}
use Rattle.disk_trait.specs.declared.ids.FileId.TheVariants.{Head, Host}
use Rattle.disk_trait.specs.Files.{Files}
use Rattle.wire_bytes.specs.Seal.{sealed}
use Rattle.backup_index.specs.declared.head.HeadFile.{HeadFile}
use Rattle.backup_index.specs.declared.layouts.IndexLayout.{IndexLayout}
use Rattle.backup_index.specs.Head.{IsHead, head_grammar}
use Rattle.backup_index.specs.Index.{Index, IsStored}
use Rattle.backup_index.specs.Stored.{index_grammar}
use Rattle.office_catalog.specs.Known.{Known, known_of, names_of, head_of}
use Rattle.office_catalog.specs.Held.{head_file, index_file, HoldsHead, HoldsIndex, HoldsNames, HoldsCatalog, IsNoHead, IsUncalled, IsForeignHost, IsForeign}
use Rattle.office_catalog.proofs.Hosts.{same_items, length_names}

-- what the layouts promise
pub record AreTold : Type 0 where
  pub heads : (a b : HeadFile) → IsHead a → IsHead b → sealed ((head_grammar).print a) ≡ sealed ((head_grammar).print b) → a ≡ b
  pub indices : (a b : IndexLayout × Index) → IsStored a → IsStored b → sealed ((index_grammar).print a) ≡ sealed ((index_grammar).print b) → a ≡ b

-- an item of a mapped list
mapped : {X Y : Type 0} (f : X → Y) (o : Option X) (y : Y) → option_map f o ≡ Some y → (x : X) × (o ≡ Some x) × (f x ≡ y)
mapped f None y e = absurd (none-some y e)
mapped f (Some x) y e = (x, refl, same_Some (f x) y e)

pub host_called : (hosts : List Index) (host : ℕ) (name : List ℕ) → slice_get (names_of hosts) host ≡ Some name → (index : Index) × (slice_get hosts host ≡ Some index) × (index.name ≡ name)
host_called hosts host name e = mapped (λ (index : Index). index.name) (slice_get hosts host) name (sym (slice_get-map (λ (index : Index). index.name) hosts host) ∙ e)

module _ (told : AreTold) where
  one_head : (a b : HeadFile) (found : Option (List ℕ)) → HoldsHead a found → HoldsHead b found → a ≡ b
  one_head a b found first second = told.heads a b first.fits second.fits (same_Some (head_file a) (head_file b) (sym first.is ∙ second.is))

  one_index : (a b : Index) (found : Option (List ℕ)) → HoldsIndex a found → HoldsIndex b found → a ≡ b
  one_index a b found first second =
      ap (λ (stored : IndexLayout × Index). stored.1) (told.indices (first.layout, a) (second.layout, b) first.fits second.fits
      (same_Some (index_file (first.layout, a)) (index_file (second.layout, b)) (sym first.is ∙ second.is)))

  one_known : (a b : Known) → head_of a ≡ head_of b → a.hosts ≡ b.hosts → a ≡ b
  one_known a b head hosts = ap (λ (epoch : ℕ). known_of epoch a.hosts) (ap (λ (h : HeadFile). h.epoch) head) ∙ ap (known_of b.epoch) hosts

  as_many : (a b : Known) → head_of a ≡ head_of b → length a.hosts ≡ length b.hosts
  as_many a b head = sym (length_names a.hosts) ∙ ap (λ (h : HeadFile). length h.names) head ∙ length_names b.hosts

  pub catalog_once : (files : Files) (a b : Known) → HoldsCatalog files a → HoldsCatalog files b → a ≡ b
  catalog_once files a b first second = step first.head second.head
    where
      step : HoldsNames a (files Head) → HoldsNames b (files Head) → a ≡ b
      step (inl x) (inl y) =
          let head = one_head (head_of a) (head_of b) (files Head) x y in
          one_known a b head
          (same_items a.hosts b.hosts (as_many a b head) (λ host i j there there'. one_index i j (files (Host host)) (first.each host i there) (second.each host j there')))
      step (inl x) (inr y) = absurd (none-some (head_file (head_of a)) (sym y.0 ∙ x.is))
      step (inr x) (inl y) = absurd (none-some (head_file (head_of b)) (sym x.0 ∙ y.is))
      step (inr x) (inr y) = x.1 ∙ sym y.1

  -- what was found of a file that is held
  not_uncalled : (host : ℕ) (index : Index) (found : Option (List ℕ)) → index.host ≡ host → HoldsIndex index found → IsUncalled host index.name found → ⊥
  not_uncalled host index found number holds (inl none) = none-some (index_file (holds.layout, index)) (sym none ∙ holds.is)
  not_uncalled host index found number holds (inr (inl bad)) =
      bad.none (holds.layout, index) holds.fits (same_Some bad.bytes (index_file (holds.layout, index)) (sym bad.is ∙ holds.is))
  not_uncalled host index found number holds (inr (inr another)) =
      let same = one_index index another.index found holds another.holds in
      another.other (ap (λ (i : Index). i.host) (sym same) ∙ number) (ap (λ (i : Index). i.name) (sym same))

  host_not_foreign : (files : Files) (known : Known) (file : FileId) (found : Option (List ℕ)) → HoldsCatalog files known → found ≡ files file → IsForeignHost (Some files) file found → ⊥
  host_not_foreign files known file found holds there foreign = step holds.head
    where
      step : HoldsNames known (files Head) → ⊥
      step (inr none) = none-some (head_file foreign.head) (sym none.0 ∙ (foreign.called files refl).is)
      step (inl x) =
          let head = one_head foreign.head (head_of known) (files Head) (foreign.called files refl) x in
          let called = host_called known.hosts foreign.host foreign.name (ap (λ (h : HeadFile). slice_get h.names foreign.host) (sym head) ∙ foreign.named) in
          let is = holds.each foreign.host called.0 called.1 in
          not_uncalled foreign.host called.0 found (holds.is.each foreign.host called.0 called.1).number
          (record { layout = is.layout; fits = is.fits; is = there ∙ ap files foreign.file_is ∙ is.is })
          (subst (λ (n : List ℕ). IsUncalled foreign.host n found) (sym called.2) foreign.why)

  pub not_foreign : (files : Files) (known : Known) (file : FileId) (found : Option (List ℕ)) → HoldsCatalog files known → IsForeign (Some files) file found → ⊥
  not_foreign files known file found holds foreign = step foreign.why
    where
      no_head : HoldsNames known (files Head) → found ≡ files Head → IsNoHead found → ⊥
      no_head (inr none) same bad = none-some bad.bytes (sym none.0 ∙ sym same ∙ bad.is)
      no_head (inl x) same bad = bad.none (head_of known) x.fits (same_Some bad.bytes (head_file (head_of known)) (sym bad.is ∙ same ∙ x.is))

      step : ((file ≡ Head) × IsNoHead found) ⊎ IsForeignHost (Some files) file found → ⊥
      step (inl bad) = no_head holds.head (foreign.there files refl ∙ ap files bad.0) bad.1
      step (inr host) = host_not_foreign files known file found holds (foreign.there files refl) host
