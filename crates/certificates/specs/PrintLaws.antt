-- What fits the parts of a certificate, and how long their bytes are.
--     table_print, host_print, certificate_print      the bytes of each
--     table_fits, host_fits, certificate_fits      what each of them fits by
--     length-table, length-host, length-certificate      how long they are
--     rising_ids      the keys of things that stand in order rise
use Rattle.std.specs.Prelude.{◌≡◌, ℕ, ◌+◌, ◌*◌, true, List, [], ◌∷◌, ◌++◌, length, map}
use Rattle.std.specs.declared.cmp.Ordering.{Ordering}
use Rattle.std.specs.declared.cmp.Ordering.TheVariants.{Less, Equal, Greater}
use Rattle.std.specs.Ordering.{is_lt}
use Rattle.std.specs.Cmp.Lexicographic.{nat_list_cmp_total}
use Rattle.std.specs.Int.{w8, w32, w64}
use Rattle.std.specs.List.{AllByRecursion}
use Rattle.std.proofs.Common.{refl, sym, ap, ◌∙◌, length-append, arith}
use Rattle.wire_bytes.specs.Layout.{number_bytes, IsNumber, text_bytes, IsText}
use Rattle.wire_bytes.specs.Breaks.{items_bytes, AreItems}
use Rattle.wire_bytes.specs.Grammar.{field, followed_by, seen_as, items_of}
use Rattle.wire_bytes.proofs.Numbers.{length-number_bytes}
use Rattle.certificates.specs.Certificate.{Id, Table, HostPart, Certificate}
use Rattle.certificates.specs.Layout.{last_key, is_after, IsNext, id_cmp, one_id_bytes, ids_bytes, AreIds, table_grammar, IsNextTable, item_bytes, IsItem, IsNextItem, host_grammar, file_bytes, IsFile, IsNextFile, certificate_magic, certificate_grammar}
use Rattle.certificates.specs.ChunkLaws.{length_all}
use Rattle.certificates.specs.SizeLaws.{all_fit, all_map, length-item, length-file}

-- ---- tables

pub table_print : (t : Table) → table_grammar.print t ≡ number_bytes w32 t.number ++ ids_bytes t.ids
unfolding table_grammar seen_as followed_by field
table_print t = refl

pub table_fits : (t : Table) → table_grammar.Fits t → IsNumber w32 t.number × AreIds t.ids
unfolding table_grammar seen_as followed_by field
table_fits t fits = fits

length-ids : (ids : List Id) → AreIds ids → length (ids_bytes ids) ≡ 4 + 18 * length ids
length-ids ids are =
    omega (
      arith,
      length-append (number_bytes w32 (length ids)) (items_bytes one_id_bytes ids),
      length-number_bytes w32 tt (length ids),
      length_all one_id_bytes 18 ids are.each,
    )

pub length-table : (t : Table) → table_grammar.Fits t → length (table_grammar.print t) ≡ 8 + 18 * length t.ids
length-table t fits =
    omega (
      arith,
      ap length (table_print t),
      length-append (number_bytes w32 t.number) (ids_bytes t.ids),
      length-number_bytes w32 tt t.number,
      length-ids t.ids (table_fits t fits).1,
    )

-- ---- hosts

pub record HostFits (host : HostPart) : Type 0 where
  pub name : IsText w8 host.name
  pub tables_count : IsNumber w64 (length host.tables)
  pub tables : AreItems IsNextTable [] host.tables
  pub partial : AreIds host.partial
  pub items_count : IsNumber w64 (length host.items)
  pub items : AreItems IsNextItem [] host.items

pub host_fits : (host : HostPart) → host_grammar.Fits host → HostFits host
unfolding host_grammar seen_as followed_by field items_of
host_fits host fits = record {
  name = fits.0;
  tables_count = fits.1.0.0;
  tables = fits.1.0.1;
  partial = fits.1.1.0;
  items_count = fits.1.1.1.0;
  items = fits.1.1.1.1;
}

abbrev pub host_bytes : HostPart → List ℕ
host_bytes host =
    text_bytes w8 host.name
    ++ ((number_bytes w64 (length host.tables) ++ items_bytes table_grammar.print host.tables)
    ++ (ids_bytes host.partial ++ (number_bytes w64 (length host.items) ++ items_bytes item_bytes host.items)))

pub host_print : (host : HostPart) → host_grammar.print host ≡ host_bytes host
unfolding host_grammar seen_as followed_by field items_of
host_print host = refl

pub length-host : (host : HostPart) → host_grammar.Fits host
    → length (host_grammar.print host)
    ≡ length (text_bytes w8 host.name) + 8 + length (items_bytes table_grammar.print host.tables) + 4 + 18 * length host.partial + 8 + 26 * length host.items
length-host host fits =
    let is = host_fits host fits in
    let each = all_map IsItem (λ x. length (item_bytes x) ≡ 26) length-item host.items (all_fit IsItem _ _ [] host.items is.items) in
    omega (
      arith,
      ap length (host_print host),
      length-append (text_bytes w8 host.name) ((number_bytes w64 (length host.tables) ++ items_bytes table_grammar.print host.tables) ++ (ids_bytes host.partial ++ (number_bytes w64 (length host.items) ++ items_bytes item_bytes host.items))),
      length-append (number_bytes w64 (length host.tables) ++ items_bytes table_grammar.print host.tables) (ids_bytes host.partial ++ (number_bytes w64 (length host.items) ++ items_bytes item_bytes host.items)),
      length-append (number_bytes w64 (length host.tables)) (items_bytes table_grammar.print host.tables),
      length-append (ids_bytes host.partial) (number_bytes w64 (length host.items) ++ items_bytes item_bytes host.items),
      length-append (number_bytes w64 (length host.items)) (items_bytes item_bytes host.items),
      length-number_bytes w64 tt (length host.tables),
      length-number_bytes w64 tt (length host.items),
      length-ids host.partial is.partial,
      length_all item_bytes 26 host.items each,
    )

-- ---- the whole

pub record CertificateFits (c : Certificate) : Type 0 where
  pub epoch : IsNumber w64 c.epoch
  pub hosts_count : IsNumber w32 (length c.hosts)
  pub hosts : AreItems (λ _. host_grammar.Fits) [] c.hosts
  pub pool_count : IsNumber w64 (length c.pool)
  pub pool : AreItems IsNextFile [] c.pool

pub certificate_fits : (c : Certificate) → certificate_grammar.Fits c → CertificateFits c
unfolding certificate_grammar seen_as followed_by field items_of
certificate_fits c fits = record {
  epoch = fits.1.0;
  hosts_count = fits.1.1.0.0;
  hosts = fits.1.1.0.1;
  pool_count = fits.1.1.1.0;
  pool = fits.1.1.1.1;
}

abbrev pub certificate_bytes : Certificate → List ℕ
certificate_bytes c =
    certificate_magic ++ (number_bytes w64 c.epoch
    ++ ((number_bytes w32 (length c.hosts) ++ items_bytes host_grammar.print c.hosts)
    ++ (number_bytes w64 (length c.pool) ++ items_bytes file_bytes c.pool)))

pub certificate_print : (c : Certificate) → certificate_grammar.print c ≡ certificate_bytes c
unfolding certificate_grammar seen_as followed_by field items_of
certificate_print c = refl

pub length-certificate : (c : Certificate) → certificate_grammar.Fits c
    → length (certificate_grammar.print c) ≡ 16 + length (items_bytes host_grammar.print c.hosts) + 8 + 43 * length c.pool
length-certificate c fits =
    let is = certificate_fits c fits in
    let each = all_map IsFile (λ x. length (file_bytes x) ≡ 43) length-file c.pool (all_fit IsFile _ _ [] c.pool is.pool) in
    omega (
      arith,
      ap length (certificate_print c),
      length-append certificate_magic (number_bytes w64 c.epoch ++ ((number_bytes w32 (length c.hosts) ++ items_bytes host_grammar.print c.hosts) ++ (number_bytes w64 (length c.pool) ++ items_bytes file_bytes c.pool))),
      length-append (number_bytes w64 c.epoch) ((number_bytes w32 (length c.hosts) ++ items_bytes host_grammar.print c.hosts) ++ (number_bytes w64 (length c.pool) ++ items_bytes file_bytes c.pool)),
      length-append (number_bytes w32 (length c.hosts) ++ items_bytes host_grammar.print c.hosts) (number_bytes w64 (length c.pool) ++ items_bytes file_bytes c.pool),
      length-append (number_bytes w32 (length c.hosts)) (items_bytes host_grammar.print c.hosts),
      length-append (number_bytes w64 (length c.pool)) (items_bytes file_bytes c.pool),
      length-number_bytes w64 tt c.epoch,
      length-number_bytes w32 tt (length c.hosts),
      length-number_bytes w64 tt (length c.pool),
      length_all file_bytes 43 c.pool each,
    )

-- ---- order

less_from_test : (r : Ordering) → is_lt r ≡ true → r ≡ Less
less_from_test Less e = refl
less_from_test Equal e = cc
less_from_test Greater e = cc

-- each id comes before all those behind it
abbrev pub AreRising : List Id → Type 0
AreRising [] = Unit {0}
AreRising (id ∷ ids) = AllByRecursion (λ later. id_cmp id later ≡ Less) ids × AreRising ids

module _ {A : Type 0} (Fits : A → Type 0) (key : A → Id) where
  after_snoc : (before : List A) (x : A) (id : Id) → is_after id_cmp (last_key key (before ++ x ∷ [])) id ≡ is_lt (id_cmp (key x) id)
  after_snoc [] x id = refl
  after_snoc (y ∷ []) x id = refl
  after_snoc (y ∷ z ∷ before) x id = after_snoc (z ∷ before) x id

  below_through : (low middle : Id) (ids : List Id) → id_cmp low middle ≡ Less → AllByRecursion (λ later. id_cmp middle later ≡ Less) ids
      → AllByRecursion (λ later. id_cmp low later ≡ Less) ids
  below_through low middle [] less all = tt
  below_through low middle (id ∷ ids) less all =
      (nat_list_cmp_total.trans low middle id less all.0, below_through low middle ids less all.1)

  behind : (before : List A) (x : A) (xs : List A) → AreItems (IsNext Fits id_cmp key) (before ++ x ∷ []) xs → AreRising (map key (x ∷ xs))
  behind before x [] are = (tt, tt)
  behind before x (y ∷ xs) are =
      let rest = behind (before ++ x ∷ []) y xs are.1 in
      let less : id_cmp (key x) (key y) ≡ Less = less_from_test _ (sym (after_snoc before x (key y)) ∙ are.0.next) in
      ((less, below_through (key x) (key y) (map key xs) less rest.0), rest)

  pub rising_ids : (xs : List A) → AreItems (IsNext Fits id_cmp key) [] xs → AreRising (map key xs)
  rising_ids [] are = tt
  rising_ids (x ∷ xs) are = behind [] x xs are.1
