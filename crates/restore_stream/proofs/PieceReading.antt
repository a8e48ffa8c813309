-- Reading the pieces of a file.
use Rattle.std.specs.Prelude.{◌≡◌, ℕ, ◌+◌, ◌-◌, ◌<◌, ◌≤◌, nat_le, min, Bool, true, false, List, [], ◌∷◌, ◌++◌, length, take, drop, Option, Some, None}
use Rattle.std.specs.Int.{w8, w32}
use Rattle.std.specs.List.{concat}
use Rattle.std.proofs.Common.{refl, sym, ap, subst, ◌∙◌, length-append, arith}
use Rattle.std.proofs.Math.ListN.{drop_of_length-le}
use Rattle.std.proofs.lemmas.Bool.Decides.{nat_tests}
use Rattle.std.proofs.lemmas.List.{append-nil, take_at, drop_at}
use Rattle.std.proofs.lemmas.List.Folds.{concat-append}
use Rattle.wire_bytes.specs.Layout.{number_bytes}
use Rattle.wire_bytes.proofs.Numbers.{length-number_bytes}
use Rattle.stream_traits.specs.ToldLaws.{before_nil}
use Rattle.restore_stream.specs.declared.faults.ReadStreamFault.{ReadStreamFault}
use Rattle.tree_frames.specs.Frames.{pieces_of, pieces}
use Rattle.restore_stream.specs.Cuts.{Layout, field, nothing, chosen, followed_by, seen_as}
use Rattle.restore_stream.specs.Sequences.{AreAll, items_print, sequence}
use Rattle.restore_stream.specs.Streams.{limited, one_more, piece_layout, piece_size, piece_step, pieces_layout}
use Rattle.restore_stream.specs.Reading.{Finds, Refuses, ReadSoFar}
use Rattle.tree_frames.specs.PieceLaws.{pieces_first}
use Rattle.restore_stream.proofs.FrameLaws.{take_all}
use Rattle.restore_stream.proofs.ReadingLaws.{seen_finds, seen_refuses}
use Rattle.restore_stream.proofs.SequenceLaws.{none_read, more_read, all_read, stop_refuses, print-snoc, all_print-from}

more_left : (size got : ℕ) → got < size → nat_le size got ≡ false
more_left size got h = grind (arith, nat_tests)

none_left : (size got : ℕ) → size ≤ got → nat_le size got ≡ true
none_left size got h = grind (arith, nat_tests)

pub step_more : (size count : ℕ) (done : List (List ℕ)) → length (concat done) < size → count ≡ piece_size size done
    → piece_step size done ≡ one_more (piece_layout count)
unfolding piece_step
step_more size count done more is =
    ap (λ b. chosen b (nothing None) (one_more (piece_layout (piece_size size done)))) (more_left size (length (concat done)) more)
    ∙ ap (λ n. one_more (piece_layout n)) (sym is)

pub step_done : (size : ℕ) (done : List (List ℕ)) → size ≤ length (concat done) → piece_step size done ≡ nothing None
unfolding piece_step
step_done size done all =
    ap (λ b. chosen b (nothing None) (one_more (piece_layout (piece_size size done)))) (none_left size (length (concat done)) all)

done_found : (told : Option (List ℕ)) → Finds {V = Option (List ℕ)} (nothing None) told None told
unfolding nothing
done_found told = record { fits = refl; took = sym (before_nil told) }

-- ---- what fits

piece_len : (count : ℕ) (bytes : List ℕ) → (piece_layout count).Fits bytes → length bytes ≡ count
unfolding piece_layout seen_as followed_by limited field
piece_len count bytes fits = fits.1.0.1

piece_print : (count : ℕ) (bytes : List ℕ) → length ((piece_layout count).print bytes) ≡ 5 + length bytes
unfolding piece_layout seen_as followed_by limited field
piece_print count bytes =
    let a = length-number_bytes w8 tt 68 in
    let b = length-number_bytes w32 tt (length bytes) in
    let c = length-append (number_bytes w8 68) (number_bytes w32 (length bytes) ++ bytes) in
    let d = length-append (number_bytes w32 (length bytes)) bytes in
    omega (arith, a, b, c, d)

some_fits : (size : ℕ) (done : List (List ℕ)) (piece : List ℕ) → (piece_step size done).Fits (Some piece)
    → (length (concat done) < size) × (length piece ≡ piece_size size done)
unfolding piece_step nothing seen_as
some_fits size done piece fits = step (nat_le size (length (concat done))) refl fits
  where
    step : (b : Bool) → nat_le size (length (concat done)) ≡ b
        → (chosen b (nothing None) (one_more (piece_layout (piece_size size done)))).Fits (Some piece)
        → (length (concat done) < size) × (length piece ≡ piece_size size done)
    step true e h = cc
    step false e h = (grind (arith, nat_tests), piece_len (piece_size size done) piece h)

none_fits : (size : ℕ) (done : List (List ℕ)) → (piece_step size done).Fits None → size ≤ length (concat done)
unfolding piece_step nothing seen_as
none_fits size done fits = step (nat_le size (length (concat done))) refl fits
  where
    step : (b : Bool) → nat_le size (length (concat done)) ≡ b
        → (chosen b (nothing None) (one_more (piece_layout (piece_size size done)))).Fits None → size ≤ length (concat done)
    step true e h = grind (arith, nat_tests)
    step false e h = absurd h

pub concat-snoc : (items : List (List ℕ)) (piece : List ℕ) → concat (items ++ piece ∷ []) ≡ concat items ++ piece
concat-snoc items piece = concat-append items (piece ∷ []) ∙ ap (λ bytes. concat items ++ bytes) (append-nil piece)

-- pieces up to the last are the pieces of their bytes
all_pieces : (size : ℕ) (done items : List (List ℕ)) → length (concat done) ≤ size → AreAll (piece_step size) done items
    → (pieces (concat items) ≡ items) × (length (concat done) + length (concat items) ≡ size)
unfolding pieces_of
all_pieces size done [] within are = let all = none_fits size done are in (refl, omega (arith, within, all))
all_pieces size done (p ∷ ps) within are =
    let f = some_fits size done p are.0 in
    let n : length (concat (done ++ p ∷ [])) ≡ length (concat done) + length p = ap length (concat-snoc done p)
    ∙ length-append (concat done) p in
    let rest = all_pieces size (done ++ p ∷ []) ps (omega (arith, n, f.1, f.0)) are.1 in
    let sum : length (concat done) + length p + length (concat ps) ≡ size = omega (arith, n, rest.1) in
    let m = length-append p (concat ps) in
    let parts = split p (concat ps) size (length (concat done)) f.0 f.1 sum in (
      pieces_first (p ++ concat ps) (omega (arith, m, f.0, f.1)) ∙ ap (λ front. front ∷ pieces (drop 65536 (p ++ concat ps))) parts.0
          ∙ ap (λ bytes. p ∷ pieces bytes) parts.1 ∙ ap (λ items. p ∷ items) rest.0,
      omega (arith, m, sum),
    )
  where
    split : (p more : List ℕ) (size done : ℕ) → done < size → length p ≡ min 65536 (size - done) → done + length p + length more ≡ size
        → (take 65536 (p ++ more) ≡ p) × (drop 65536 (p ++ more) ≡ more)
    split p more size done some len sum = step (nat_le 65536 (length p)) refl
      where
        no_more : (bytes : List ℕ) → length bytes ≤ 0 → bytes ≡ []
        no_more [] h = refl
        no_more (b ∷ bs) h = absurd (omega arith)

        step : (b : Bool) → nat_le 65536 (length p) ≡ b → (take 65536 (p ++ more) ≡ p) × (drop 65536 (p ++ more) ≡ more)
        step true e =
            let long : 65536 ≤ length p = grind (arith, nat_tests) in
            let full : length p ≡ 65536 = omega (arith, long, len) in
            (take_at p more 65536 full, drop_at p more 65536 full)
        step false e =
            let short : length p < 65536 = grind (arith, nat_tests) in
            let none : more ≡ [] = no_more more (omega (arith, short, len, sum)) in
            let whole : p ++ more ≡ p = ap (λ bytes. p ++ bytes) none ∙ append-nil p in (
              ap (take 65536) whole ∙ take_all 65536 p (omega (arith, short)),
              ap (drop 65536) whole ∙ drop_of_length-le p {i = 65536} (omega (arith, short)) ∙ sym none,
            )

-- ---- the loop

-- the pieces that were read so far, and their bytes
pub record PiecesRead (size start offset : ℕ) (old now : Option (List ℕ)) (got : List ℕ) : Type 0 where
  pub items : List (List ℕ)
  pub so_far : ReadSoFar (piece_step size) old now items
  pub got_is : concat items ≡ got
  pub place : offset ≡ start + length (items_print (piece_step size) [] items)
  pub within : length got ≤ size

pub no_piece : (size start : ℕ) (told : Option (List ℕ)) (got : List ℕ) → got ≡ [] → PiecesRead size start start told told got
no_piece size start told got none = record {
  items = [];
  so_far = none_read (piece_step size) told;
  got_is = sym none;
  place = omega arith;
  within = let n : length got ≡ 0 = ap length none in omega (arith, n);
}

pub one_piece : {size start offset : ℕ} {old now new : Option (List ℕ)} {got : List ℕ} (count offset' : ℕ) (piece got' : List ℕ)
    → PiecesRead size start offset old now got → length got < size → count ≡ min 65536 (size - length got)
    → Finds (piece_layout count) now piece new → got' ≡ got ++ piece → offset' ≡ offset + (count + 5)
    → PiecesRead size start offset' old new got'
unfolding seen_as
one_piece {size} {start} {offset} {old} {now} {new} {got} count offset' piece got' read some is f got'_is place' =
    let l : length (concat read.items) ≡ length got = ap length read.got_is in
    let same : count ≡ piece_size size read.items = is ∙ ap (λ n. min 65536 (size - n)) (sym l) in
    let step = step_more size count read.items (omega (arith, l, some)) same in
    let found : Finds (piece_step size read.items) now (Some piece) new =
    subst (λ (layout : Layout (Option (List ℕ))). Finds layout now (Some piece) new) (sym step) (seen_finds _ _ _ (Some piece) refl f) in
    let p : length piece ≡ count = piece_len count piece f.fits in
    let print : (piece_step size read.items).print (Some piece) ≡ (piece_layout count).print piece = step_print step in
    let q : length ((piece_step size read.items).print (Some piece)) ≡ 5 + length piece = ap length print ∙ piece_print count piece in
    let r = ap length (print-snoc (piece_step size) [] read.items piece)
    ∙ length-append (items_print (piece_step size) [] read.items) ((piece_step size read.items).print (Some piece)) in
    let g : length got' ≡ length got + length piece = ap length got'_is ∙ length-append got piece in
    record {
      items = read.items ++ piece ∷ [];
      so_far = more_read (piece_step size) read.items piece read.so_far found;
      got_is = concat-snoc read.items piece ∙ ap (λ bytes. bytes ++ piece) read.got_is ∙ sym got'_is;
      place = omega (arith, place', read.place, p, q, r);
      within = omega (arith, g, p, is, some);
    }
  where
    one_print : (n : ℕ) (bytes : List ℕ) → (one_more (piece_layout n)).print (Some bytes) ≡ (piece_layout n).print bytes
    one_print n bytes = refl

    step_print : {layout : Layout (Option (List ℕ))} → layout ≡ one_more (piece_layout count)
        → layout.print (Some piece) ≡ (piece_layout count).print piece
    step_print e = ap (λ (l : Layout (Option (List ℕ))). l.print (Some piece)) e ∙ one_print count piece

pub piece_stops : {size start offset : ℕ} {old now : Option (List ℕ)} {got : List ℕ} (count : ℕ) (fault : ReadStreamFault)
    → PiecesRead size start offset old now got → length got < size → count ≡ min 65536 (size - length got)
    → Refuses (piece_layout count) offset now fault → Refuses (pieces_layout size) start old fault
unfolding pieces_layout
piece_stops {size} {start} {offset} {old} {now} {got} count fault read some is refused =
    let l : length (concat read.items) ≡ length got = ap length read.got_is in
    let same : count ≡ piece_size size read.items = is ∙ ap (λ n. min 65536 (size - n)) (sym l) in
    let step = step_more size count read.items (omega (arith, l, some)) same in
    stop_refuses (piece_step size) read.items read.so_far read.place
    (subst (λ (layout : Layout (Option (List ℕ))). Refuses layout offset now fault) (sym step) (seen_refuses _ _ _ refused))

-- all pieces were read: those of their bytes
pub pieces_read : {size start offset : ℕ} {old now : Option (List ℕ)} {got : List ℕ} → PiecesRead size start offset old now got
    → size ≤ length got
    → Finds (pieces_layout size) old (pieces got) now × (offset ≡ start + length ((pieces_layout size).print (pieces got))) ×
    (length got ≡ size)
unfolding pieces_layout sequence nothing
pieces_read {size} {start} {offset} {old} {now} {got} read all =
    let l : length (concat read.items) ≡ length got = ap length read.got_is in
    let step = step_done size read.items (omega (arith, l, all)) in
    let end : Finds (piece_step size read.items) now None now =
    subst (λ (layout : Layout (Option (List ℕ))). Finds layout now None now) (sym step) (done_found now) in
    let found : Finds (pieces_layout size) old read.items now = all_read (piece_step size) read.items read.so_far end in
    let are = all_pieces size [] read.items (omega arith) found.fits in
    let is : read.items ≡ pieces got = sym are.0 ∙ ap pieces read.got_is in
    let no_end : (piece_step size read.items).print None ≡ [] = ap (λ (layout : Layout (Option (List ℕ))). layout.print None) step
    ∙ nothing_print in
    let whole = all_print-from (piece_step size) [] read.items ∙ ap (λ bytes. items_print (piece_step size) [] read.items ++ bytes) no_end
    ∙ append-nil (items_print (piece_step size) [] read.items) in (
      subst (λ items. Finds (pieces_layout size) old items now) is found,
      read.place ∙ ap (λ bytes. start + length bytes) (sym whole) ∙ ap (λ items. start + length ((pieces_layout size).print items)) is,
      let w = read.within in omega (arith, all, w),
    )
  where
    nothing_print : ◌≡◌ {A = List ℕ} ((nothing {V = Option (List ℕ)} None).print None) []
    nothing_print = refl

-- a piece makes the bytes longer
pub piece_longer : {now new : Option (List ℕ)} (size count : ℕ) (got piece got' : List ℕ) → length got < size
    → count ≡ min 65536 (size - length got)
    → Finds (piece_layout count) now piece new → got' ≡ got ++ piece → size - length got' < size - length got
piece_longer size count got piece got' some is f got'_is =
    let p : length piece ≡ count = piece_len count piece f.fits in
    let g : length got' ≡ length got + length piece = ap length got'_is ∙ length-append got piece in
    omega (arith, p, g, is, some)
