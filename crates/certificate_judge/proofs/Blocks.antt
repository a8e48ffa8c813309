-- Items that are judged a block at a time.
use Rattle.std.specs.Prelude.{◌≡◌, ℕ, zero, suc, ◌+◌, ◌*◌, ◌<◌, ◌≤◌, ◌^◌, List, [], ◌∷◌, ◌++◌, length, take, drop, map}
use Rattle.std.specs.declared.cmp.Ordering.TheVariants.{Less}
use Rattle.std.specs.List.{AllByRecursion}
use Rattle.std.proofs.Common.{refl, sym, ap, subst, ◌∙◌, append_assoc, arith}
use Rattle.std.proofs.lemmas.List.{append-nil, length-map, length-drop, length-take-le, take-append-drop}
use Rattle.certificates.specs.Certificate.{Id, Item, HostPart}
use Rattle.certificates.specs.Layout.{id_cmp, item_bytes, IsItem, host_grammar}
use Rattle.certificates.specs.SizeLaws.{all_fit}
use Rattle.certificates.specs.PrintLaws.{AreRising, rising_ids, host_fits}
use Rattle.certificate_judge.specs.declared.tally.Tally.{Tally}
use Rattle.certificate_judge.specs.Faults.{occurrences, ids_of_items, is_miscounted, wrong}
use Rattle.certificate_judge.specs.Judging.{IsTally, ids_in}
use Rattle.certificate_judge.proofs.Parts.{ids_in-items}
use Rattle.certificate_judge.proofs.Wrongs.{wrong-append}

-- ---- parts of lists

pub map-take : {A B : Type 0} (f : A → B) (n : ℕ) (xs : List A) → take n (map f xs) ≡ map f (take n xs)
map-take f zero xs = refl
map-take f (suc n) [] = refl
map-take f (suc n) (x ∷ xs) = ap (λ l. f x ∷ l) (map-take f n xs)

pub map-drop : {A B : Type 0} (f : A → B) (n : ℕ) (xs : List A) → drop n (map f xs) ≡ map f (drop n xs)
map-drop f zero xs = refl
map-drop f (suc n) [] = refl
map-drop f (suc n) (x ∷ xs) = map-drop f n xs

all-take : {A : Type 0} (P : A → Type 0) (n : ℕ) (xs : List A) → AllByRecursion P xs → AllByRecursion P (take n xs)
all-take P zero xs all = tt
all-take P (suc n) [] all = tt
all-take P (suc n) (x ∷ xs) all = (all.0, all-take P n xs all.1)

all-drop : {A : Type 0} (P : A → Type 0) (n : ℕ) (xs : List A) → AllByRecursion P xs → AllByRecursion P (drop n xs)
all-drop P zero xs all = all
all-drop P (suc n) [] all = tt
all-drop P (suc n) (x ∷ xs) all = all-drop P n xs all.1

rising-take : (n : ℕ) (ids : List Id) → AreRising ids → AreRising (take n ids)
rising-take zero ids rising = tt
rising-take (suc n) [] rising = tt
rising-take (suc n) (id ∷ ids) rising = (all-take (λ later. id_cmp id later ≡ Less) n ids rising.0, rising-take n ids rising.1)

rising-drop : (n : ℕ) (ids : List Id) → AreRising ids → AreRising (drop n ids)
rising-drop zero ids rising = rising
rising-drop (suc n) [] rising = tt
rising-drop (suc n) (id ∷ ids) rising = rising-drop n ids rising.1

-- ---- a host's items

-- items of which some were judged
pub record NotingItems (part : HostPart) (offsets : List ℕ) (at : ℕ) (records : List (List ℕ)) (here : ℕ) (tally : Tally) : Type 0 where
  pub more : List Item
  pub noted : List ℕ
  pub is : records ≡ map item_bytes more
  pub fits : AllByRecursion IsItem more
  pub rising : AreRising (ids_in records)
  pub ends : here + 26 * length more ≡ at + 26 * length part.items
  pub same : noted ++ wrong (is_miscounted (occurrences part)) 26 here more ≡ offsets ++ wrong (is_miscounted (occurrences part)) 26 at part.items
  pub are : IsTally noted tally

pub noting_no_items : (part : HostPart) (offsets : List ℕ) (at : ℕ) (records : List (List ℕ)) (tally : Tally) → host_grammar.Fits part
    → records ≡ map item_bytes part.items → IsTally offsets tally → NotingItems part offsets at records at tally
noting_no_items part offsets at records tally fits is before =
    let each : AllByRecursion IsItem part.items = all_fit IsItem _ _ [] part.items (host_fits part fits).items in
    let ids : ids_in records ≡ ids_of_items part.items = ap (λ (l : List (List ℕ)). ids_in l) is ∙ ids_in-items part.items each in
    record {
      more = part.items;
      noted = offsets;
      is = is;
      fits = each;
      rising = subst AreRising (sym ids) (rising_ids IsItem (λ (x : Item). x.id) part.items (host_fits part fits).items);
      ends = refl;
      same = refl;
      are = before;
    }

module _ (part : HostPart) (offsets : List ℕ) (at : ℕ) (records : List (List ℕ)) (here n : ℕ) (tally : Tally) where
  -- a loop's step
  pub note_block : (later : ℕ) (new : Tally) → n ≤ length records → at + 26 * length part.items < 2 ^ 64
      → (here + 26 * n < 2 ^ 64 → later ≡ here + 26 * n) → NotingItems part offsets at records here tally
      → ((os : List ℕ) (items : List Item) → AreRising (ids_in (take n records)) → take n records ≡ map item_bytes items → AllByRecursion IsItem items
      → here + 26 * length items < 2 ^ 64 → IsTally os tally → IsTally (os ++ wrong (is_miscounted (occurrences part)) 26 here items) new)
      → NotingItems part offsets at (drop n records) later new
  note_block later new within below moved so_far clause =
      let w : ℕ → List Item → List ℕ = λ k xs. wrong (is_miscounted (occurrences part)) 26 k xs in
      let more = so_far.more in
      let many : length records ≡ length more = ap length so_far.is ∙ length-map more item_bytes in
      let front : length (take n more) ≡ n = length-take-le n more (omega (arith, within, many)) in
      let back : length (drop n more) + n ≡ length more = omega (arith, length-drop n more, within, many) in
      let next : later ≡ here + 26 * n = moved (omega (arith, so_far.ends, below, within, many)) in
      let step : here + length (take n more) * 26 ≡ later = omega (arith, next, front) in
      let block : take n records ≡ map item_bytes (take n more) = ap (take n) so_far.is ∙ map-take item_bytes n more in
      let did = clause so_far.noted (take n more) (subst AreRising (map-take (take 18) n records) (rising-take n (ids_in records) so_far.rising)) block
      (all-take IsItem n more so_far.fits) (omega (arith, so_far.ends, below, front, within, many)) so_far.are in
      record {
        more = drop n more;
        noted = so_far.noted ++ w here (take n more);
        is = ap (drop n) so_far.is ∙ map-drop item_bytes n more;
        fits = all-drop IsItem n more so_far.fits;
        rising = subst AreRising (map-drop (take 18) n records) (rising-drop n (ids_in records) so_far.rising);
        ends = omega (arith, next, back, so_far.ends);
        same = append_assoc so_far.noted (w here (take n more)) (w later (drop n more))
            ∙ ap (λ (l : List ℕ). so_far.noted ++ l)
            (ap (λ (k : ℕ). w here (take n more) ++ w k (drop n more)) (sym step)
            ∙ sym (wrong-append (is_miscounted (occurrences part)) 26 here (take n more) (drop n more))
            ∙ ap (w here) (take-append-drop n more))
            ∙ so_far.same;
        are = did;
      }

pub noted_items : (part : HostPart) (offsets : List ℕ) (at : ℕ) (records : List (List ℕ)) (here : ℕ) (tally : Tally) → length records ≡ 0
    → NotingItems part offsets at records here tally → IsTally (offsets ++ wrong (is_miscounted (occurrences part)) 26 at part.items) tally
noted_items part offsets at records here tally none so_far = step so_far.more so_far.is so_far.same
  where
    step : (more : List Item) → records ≡ map item_bytes more
        → so_far.noted ++ wrong (is_miscounted (occurrences part)) 26 here more ≡ offsets ++ wrong (is_miscounted (occurrences part)) 26 at part.items
        → IsTally (offsets ++ wrong (is_miscounted (occurrences part)) 26 at part.items) tally
    step [] is same = subst (λ (os : List ℕ). IsTally os tally) (sym (append-nil so_far.noted) ∙ same) so_far.are
    step (x ∷ more) is same = absurd (omega (arith, none, ap length is))
