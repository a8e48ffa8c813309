-- Things that stand one behind the other, as they are read one after another.
use Rattle.std.specs.Prelude.{◌≡◌, ℕ, ◌+◌, ◌<◌, ◌≤◌, ◌^◌, Bool, List, [], ◌∷◌, ◌++◌, length}
use Rattle.std.specs.List.{AllByRecursion}
use Rattle.std.proofs.Common.{sym, ap, subst, ◌∙◌, append_assoc, length-append, arith}
use Rattle.std.proofs.lemmas.List.{append-nil}
use Rattle.wire_bytes.specs.Reading.{Reading, at_front, left}
use Rattle.wire_bytes.specs.Breaks.{items_bytes}
use Rattle.certificates.specs.Certificate.{Id, Table, HostPart}
use Rattle.certificates.specs.Layout.{table_grammar, host_grammar}
use Rattle.certificates.specs.Telling.{AreIn}
use Rattle.certificates.specs.declared.bytes.Run.{Run}
use Rattle.certificate_judge.specs.declared.tally.Tally.{Tally}
use Rattle.certificate_judge.specs.Faults.{number_of, number_in, wrong, tables_faults, host_faults, hosts_faults}
use Rattle.certificate_judge.specs.Judging.{IsTally, AreNumbers}
use Rattle.certificate_judge.proofs.Numbers.{numbers_alike}

-- the things that are left to be read, of a number of them
pub record AreLeft {V : Type 0} (Fits : V → Type 0) (print : V → List ℕ) (more : List V) (bytes : List ℕ) (i count : ℕ) : Type 0 where
  pub fits : AllByRecursion Fits more
  pub is : bytes ≡ items_bytes print more
  pub many : length more + i ≡ count

-- ---- counting

-- tables of which some were counted: those that are left, and the numbers so far
pub record Counting (numbers : Id → ℕ) (ts : List Table) (ids : List Id) (bytes : List ℕ) (counters : List ℕ) (i count : ℕ) : Type 0 where
  pub more : List Table
  pub now : Id → ℕ
  pub are_left : AreLeft table_grammar.Fits table_grammar.print more bytes i count
  pub same : (id : Id) → now id + number_in id more ≡ numbers id + number_in id ts
  pub are : AreNumbers now ids counters

module _ (numbers : Id → ℕ) (ts : List Table) (ids : List Id) (bytes counters : List ℕ) (i count : ℕ) where
  -- a loop's step
  pub count_more : (later new : List ℕ) → i < count → Counting numbers ts ids bytes counters i count
      → ((now : Id → ℕ) (t : Table) (rest : List ℕ) → table_grammar.Fits t → bytes ≡ table_grammar.print t ++ rest → AreNumbers now ids counters
      → (later ≡ rest) × AreNumbers (λ id. now id + number_of id t.ids) ids new)
      → Counting numbers ts ids later new (i + 1) count
  count_more later new within so_far clause = step so_far.more so_far.are_left so_far.same
    where
      step : (more : List Table) → AreLeft table_grammar.Fits table_grammar.print more bytes i count
          → ((id : Id) → so_far.now id + number_in id more ≡ numbers id + number_in id ts) → Counting numbers ts ids later new (i + 1) count
      step [] l same = absurd (omega (arith, l.many))
      step (t ∷ more) l same =
          let did = clause so_far.now t (items_bytes table_grammar.print more) l.fits.0 l.is so_far.are in record {
            more = more;
            now = λ id. so_far.now id + number_of id t.ids;
            are_left = record { fits = l.fits.1; is = did.0; many = omega (arith, l.many) };
            same = λ id. let e = same id in omega (arith, e);
            are = did.1;
          }

  pub counted_all : count ≤ i → Counting numbers ts ids bytes counters i count → AreNumbers (λ id. numbers id + number_in id ts) ids counters
  counted_all end so_far = step so_far.more so_far.are_left so_far.same
    where
      step : (more : List Table) → AreLeft table_grammar.Fits table_grammar.print more bytes i count
          → ((id : Id) → so_far.now id + number_in id more ≡ numbers id + number_in id ts) → AreNumbers (λ id. numbers id + number_in id ts) ids counters
      step [] l same = numbers_alike so_far.now (λ id. numbers id + number_in id ts) (λ id. let e = same id in omega (arith, e)) ids counters so_far.are
      step (t ∷ more) l same = absurd (omega (arith, l.many))

-- ---- noting

-- tables of which some were judged: those that are left, and the faults so far
pub record Noting (is_wrong : Id → Bool) (offsets : List ℕ) (at : ℕ) (ts : List Table) (size : ℕ) (reading : Reading) (tally : Tally) (i count : ℕ) : Type 0 where
  pub more : List Table
  pub noted : List ℕ
  pub are_left : AreLeft table_grammar.Fits table_grammar.print more (left reading) i count
  pub ends : reading.offset + length (items_bytes table_grammar.print more) ≡ size
  pub same : noted ++ tables_faults is_wrong (at + reading.offset) more ≡ offsets ++ tables_faults is_wrong at ts
  pub are : IsTally noted tally

module _ (is_wrong : Id → Bool) (offsets : List ℕ) (at : ℕ) (ts : List Table) (size : ℕ) (reading : Reading) (tally : Tally) (i count : ℕ) where
  -- a loop's step
  pub note_more : (later : Reading) (new : Tally) → i < count → at + size < 2 ^ 64 → Noting is_wrong offsets at ts size reading tally i count
      → ((os : List ℕ) (t : Table) (rest : List ℕ) → table_grammar.Fits t → left reading ≡ table_grammar.print t ++ rest
      → at + reading.offset + length (table_grammar.print t) < 2 ^ 64 → IsTally os tally
      → (left later ≡ rest) × (later.offset ≡ reading.offset + length (table_grammar.print t))
      × IsTally (os ++ wrong is_wrong 18 (at + reading.offset + 8) t.ids) new)
      → Noting is_wrong offsets at ts size later new (i + 1) count
  note_more later new within below so_far clause = step so_far.more so_far.are_left so_far.ends so_far.same
    where
      step : (more : List Table) → AreLeft table_grammar.Fits table_grammar.print more (left reading) i count
          → reading.offset + length (items_bytes table_grammar.print more) ≡ size
          → so_far.noted ++ tables_faults is_wrong (at + reading.offset) more ≡ offsets ++ tables_faults is_wrong at ts
          → Noting is_wrong offsets at ts size later new (i + 1) count
      step [] l ends same = absurd (omega (arith, l.many))
      step (t ∷ more) l ends same =
          let len = length-append (table_grammar.print t) (items_bytes table_grammar.print more) in
          let did = clause so_far.noted t (items_bytes table_grammar.print more) l.fits.0 l.is (omega (arith, below, ends, len)) so_far.are in
          let next : at + reading.offset + length (table_grammar.print t) ≡ at + later.offset = omega (arith, did.1) in record {
            more = more;
            noted = so_far.noted ++ wrong is_wrong 18 (at + reading.offset + 8) t.ids;
            are_left = record { fits = l.fits.1; is = did.0; many = omega (arith, l.many) };
            ends = omega (arith, ends, len, did.1);
            same = append_assoc so_far.noted (wrong is_wrong 18 (at + reading.offset + 8) t.ids) (tables_faults is_wrong (at + later.offset) more)
                ∙ ap (λ (n : ℕ). so_far.noted ++ (wrong is_wrong 18 (at + reading.offset + 8) t.ids ++ tables_faults is_wrong n more)) (sym next) ∙ same;
            are = did.2;
          }

  pub noted_all : count ≤ i → Noting is_wrong offsets at ts size reading tally i count → IsTally (offsets ++ tables_faults is_wrong at ts) tally
  noted_all end so_far = step so_far.more so_far.are_left so_far.same
    where
      step : (more : List Table) → AreLeft table_grammar.Fits table_grammar.print more (left reading) i count
          → so_far.noted ++ tables_faults is_wrong (at + reading.offset) more ≡ offsets ++ tables_faults is_wrong at ts
          → IsTally (offsets ++ tables_faults is_wrong at ts) tally
      step [] l same = subst (λ (os : List ℕ). IsTally os tally) (sym (append-nil so_far.noted) ∙ same) so_far.are
      step (t ∷ more) l same = absurd (omega (arith, l.many))

pub noting_none : (is_wrong : Id → Bool) (offsets : List ℕ) (at : ℕ) (ts : List Table) (run : Run) (first : Reading) (tally : Tally)
    → first ≡ at_front run.bytes.now → AreIn table_grammar.print ts run → AllByRecursion table_grammar.Fits ts → IsTally offsets tally
    → Noting is_wrong offsets at ts (length run.bytes.now) first tally 0 run.count
noting_none is_wrong offsets at ts run first tally is are fits before =
    let start : at ≡ at + first.offset = let zero_at : first.offset ≡ 0 = ap (λ (r : Reading). r.offset) is in omega (arith, zero_at) in record {
      more = ts;
      noted = offsets;
      are_left = record { fits = fits; is = ap left is ∙ are.bytes; many = let count = are.count in omega (arith, count) };
      ends = let zero_at : first.offset ≡ 0 = ap (λ (r : Reading). r.offset) is in omega (arith, zero_at, ap length are.bytes);
      same = ap (λ (n : ℕ). offsets ++ tables_faults is_wrong n ts) (sym start);
      are = before;
    }

-- ---- hosts

-- hosts of which some were judged
pub record NotingHosts (pool : List Id) (offsets : List ℕ) (hosts : List HostPart) (size : ℕ) (reading : Reading) (tally : Tally) (i count : ℕ) : Type 0 where
  pub more : List HostPart
  pub noted : List ℕ
  pub are_left : AreLeft host_grammar.Fits host_grammar.print more (left reading) i count
  pub ends : reading.offset + length (items_bytes host_grammar.print more) ≡ size
  pub same : noted ++ hosts_faults pool (16 + reading.offset) more ≡ offsets ++ hosts_faults pool 16 hosts
  pub are : IsTally noted tally

module _ (pool : List Id) (offsets : List ℕ) (hosts : List HostPart) (size : ℕ) (reading : Reading) (tally : Tally) (i count : ℕ) where
  pub note_more_hosts : (later : Reading) (new : Tally) → i < count → 16 + size + 24 < 2 ^ 64 → NotingHosts pool offsets hosts size reading tally i count
      → ((os : List ℕ) (h : HostPart) (rest : List ℕ) → host_grammar.Fits h → left reading ≡ host_grammar.print h ++ rest
      → 16 + reading.offset + length (host_grammar.print h) + 24 < 2 ^ 64 → IsTally os tally
      → (left later ≡ rest) × (later.offset ≡ reading.offset + length (host_grammar.print h))
      × IsTally (os ++ host_faults pool (16 + reading.offset) h) new)
      → NotingHosts pool offsets hosts size later new (i + 1) count
  note_more_hosts later new within below so_far clause = step so_far.more so_far.are_left so_far.ends so_far.same
    where
      step : (more : List HostPart) → AreLeft host_grammar.Fits host_grammar.print more (left reading) i count
          → reading.offset + length (items_bytes host_grammar.print more) ≡ size
          → so_far.noted ++ hosts_faults pool (16 + reading.offset) more ≡ offsets ++ hosts_faults pool 16 hosts
          → NotingHosts pool offsets hosts size later new (i + 1) count
      step [] l ends same = absurd (omega (arith, l.many))
      step (h ∷ more) l ends same =
          let len = length-append (host_grammar.print h) (items_bytes host_grammar.print more) in
          let did = clause so_far.noted h (items_bytes host_grammar.print more) l.fits.0 l.is (omega (arith, below, ends, len)) so_far.are in
          let next : 16 + reading.offset + length (host_grammar.print h) ≡ 16 + later.offset = omega (arith, did.1) in record {
            more = more;
            noted = so_far.noted ++ host_faults pool (16 + reading.offset) h;
            are_left = record { fits = l.fits.1; is = did.0; many = omega (arith, l.many) };
            ends = omega (arith, ends, len, did.1);
            same = append_assoc so_far.noted (host_faults pool (16 + reading.offset) h) (hosts_faults pool (16 + later.offset) more)
                ∙ ap (λ (n : ℕ). so_far.noted ++ (host_faults pool (16 + reading.offset) h ++ hosts_faults pool n more)) (sym next) ∙ same;
            are = did.2;
          }

  pub noted_all_hosts : count ≤ i → NotingHosts pool offsets hosts size reading tally i count → IsTally (offsets ++ hosts_faults pool 16 hosts) tally
  noted_all_hosts end so_far = step so_far.more so_far.are_left so_far.same
    where
      step : (more : List HostPart) → AreLeft host_grammar.Fits host_grammar.print more (left reading) i count
          → so_far.noted ++ hosts_faults pool (16 + reading.offset) more ≡ offsets ++ hosts_faults pool 16 hosts
          → IsTally (offsets ++ hosts_faults pool 16 hosts) tally
      step [] l same = subst (λ (os : List ℕ). IsTally os tally) (sym (append-nil so_far.noted) ∙ same) so_far.are
      step (h ∷ more) l same = absurd (omega (arith, l.many))

pub noting_no_hosts : (pool : List Id) (offsets : List ℕ) (hosts : List HostPart) (run : Run) (first : Reading) (tally : Tally)
    → first ≡ at_front run.bytes.now → AreIn host_grammar.print hosts run → AllByRecursion host_grammar.Fits hosts → IsTally offsets tally
    → NotingHosts pool offsets hosts (length run.bytes.now) first tally 0 run.count
noting_no_hosts pool offsets hosts run first tally is are fits before =
    let zero_at : first.offset ≡ 0 = ap (λ (r : Reading). r.offset) is in
    let start : 16 ≡ 16 + first.offset = omega (arith, zero_at) in record {
      more = hosts;
      noted = offsets;
      are_left = record { fits = fits; is = ap left is ∙ are.bytes; many = let count = are.count in omega (arith, count) };
      ends = omega (arith, zero_at, ap length are.bytes);
      same = ap (λ (n : ℕ). offsets ++ hosts_faults pool n hosts) (sym start);
      are = before;
    }
