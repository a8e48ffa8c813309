-- Numbers of callers, the calls of each, and what passes that have all numbers know.
use Rattle.std.proofs.Common.{◌≡◌, ◌≢◌, inl, inr, ℕ, zero, suc, ◌+◌, ◌<◌, ◌≤◌, List, [], ◌∷◌, ◌++◌, length, set, Bool, true}
use Rattle.std.proofs.Common.{false, Option, None, Some, true≢false, refl, sym, ap, subst, ◌∙◌, arith, ltb, eqb, eq-eqb, ne_eqb, eqb-true}
use Rattle.std.proofs.Common.{ltb-false, ltb-true, le-ltb, lt-ltb, cond, append_assoc, append-nil, All, map}
use Rattle.std.proofs.lemmas.Bool.{cases_lt}
use Rattle.std.proofs.lemmas.List.Elements.{All-head, All-tail}
use mathlib.Core.Logic.{dite}
use native.Mathlib.Decide.{ℕ_discrete}
use mathlib.Core.Option.{some, some-injective, some-ne-none}
use lib.ListN.{get_elem?}
use Rattle.atomic_table.proofs.Lists.{set_else}
use Rattle.turn_lock.specs.declared.object.Entry.{Entry}
use Rattle.turn_lock.specs.declared.object.Caller.{Caller}
use Rattle.turn_lock.specs.declared.object.View.{View}
use Rattle.turn_lock.specs.History.{same_number, stands_from, owns, entry, calls_by, caller, FitsCaller, Fits, owns_all}
use Rattle.turn_lock.specs.History.{idle, has_number, is_live, HasChildren, AllReturned, NoOtherCalls, callers_of, StartsWith}
use Rattle.turn_lock.specs.History.{longer, StoodIn, Met}
use Rattle.turn_lock.specs.Rule.{owns_views, tickets, ticket_count}

pub number_is : (p : List ℕ) → same_number p p ≡ true
number_is [] = refl
number_is (x ∷ p) = rw (eq-eqb x x refl) (number_is p)

number_step : (x y : ℕ) (p q : List ℕ) → (b : Bool) → eqb x y ≡ b → (same_number p q ≡ true → p ≡ q)
    → cond b (same_number p q) false ≡ true → x ∷ p ≡ y ∷ q
number_step x y p q true e ih is = let h : x ≡ y = eqb-true x y e in let t : p ≡ q = ih is in (λ k. h k ∷ t k)
number_step x y p q false e ih is = absurd (true≢false (sym is))

pub number_same : (p q : List ℕ) → same_number p q ≡ true → p ≡ q
number_same [] [] is = refl
number_same [] (y ∷ q) is = absurd (true≢false (sym is))
number_same (x ∷ p) [] is = absurd (true≢false (sym is))
number_same (x ∷ p) (y ∷ q) is = number_step x y p q (eqb x y) refl (number_same p q) is

not_true : (b : Bool) → (b ≡ true → ⊥) → b ≡ false
not_true true not = absurd (not refl)
not_true false not = refl

pub number_other : (p q : List ℕ) → p ≢ q → same_number p q ≡ false
number_other p q other = not_true (same_number p q) (λ yes. other (number_same p q yes))

pub owns_own : (p : List ℕ) (g : ℕ) → owns p g p ≡ 1
owns_own [] g = refl
owns_own (x ∷ p) g = rw (eq-eqb x x refl) (owns_own p g)

cond_sum : (b : Bool) (x y z : ℕ) → x + y ≡ z → cond b x 0 + cond b y 0 ≡ cond b z 0
cond_sum true x y z e = e
cond_sum false x y z e = refl

pub any_owned : (q : List ℕ) → owns [] 0 q ≡ 1
any_owned [] = refl
any_owned (k ∷ q) = rw (le-ltb k 0 (omega arith)) refl

next_owned : (g k : ℕ) → cond (ltb k (g + 1)) 0 1 + cond (eqb g k) 1 0 ≡ cond (ltb k g) 0 1
next_owned g k = dite (ℕ_discrete g k)
    (λ same. rw (eq-eqb g k same, lt-ltb k (g + 1) (omega (arith, same)), le-ltb k g (omega (arith, same))) refl)
    (λ other. elim (cases_lt k g) [
      | inl less ↦ rw (ne_eqb g k other, lt-ltb k (g + 1) (omega (arith, less)), lt-ltb k g less) refl
      | inr more ↦ rw (ne_eqb g k other, le-ltb k (g + 1) (omega (arith, more, other)), le-ltb k g more) refl
    ])

-- what a caller may give is what it keeps once it has children, and the number children with all that it may give
pub owns_split : (p : List ℕ) (g : ℕ) (q : List ℕ) → owns p (g + 1) q + owns (p ++ g ∷ []) 0 q ≡ owns p g q
owns_split [] g [] = refl
owns_split [] g (k ∷ q) = rw (any_owned q) (next_owned g k)
owns_split (x ∷ p) g [] = refl
owns_split (x ∷ p) g (y ∷ q) = cond_sum (eqb x y) _ _ _ (owns_split p g q)

-- a number behind the caller's own
pub owns_behind : (p : List ℕ) (g k : ℕ) (r : List ℕ) → owns p g (p ++ k ∷ r) ≡ cond (ltb k g) 0 1
owns_behind [] g k r = refl
owns_behind (x ∷ p) g k r = rw (eq-eqb x x refl) (owns_behind p g k r)

most_bool : (b : Bool) → cond b 0 1 ≤ 1
most_bool true = omega arith
most_bool false = omega arith

most_cond : (b : Bool) (n : ℕ) → n ≤ 1 → cond b n 0 ≤ 1
most_cond true n h = h
most_cond false n h = omega arith

pub owns_most : (p : List ℕ) (g : ℕ) (q : List ℕ) → owns p g q ≤ 1
owns_most [] g [] = omega arith
owns_most [] g (k ∷ q) = most_bool (ltb k g)
owns_most (x ∷ p) g [] = omega arith
owns_most (x ∷ p) g (y ∷ q) = most_cond (eqb x y) (owns p g q) (owns_most p g q)

pub empty_is : {X : Type 0} (xs : List X) → length xs ≡ 0 → xs ≡ []
empty_is [] e = refl
empty_is (x ∷ xs) e = absurd (omega (arith, e))

module _ {A B : Type 0} where
  cond_more : (h : Bool) (e : Entry A B) (x y z : List (Entry A B)) → x ≡ y ++ z → cond h (e ∷ x) x ≡ cond h (e ∷ y) y ++ z
  cond_more true e x y z same = ap (λ l. e ∷ l) same
  cond_more false e x y z same = same

  cond_same : (h : Bool) (e : Entry A B) (x y : List (Entry A B)) → x ≡ y → cond h (e ∷ x) x ≡ cond h (e ∷ y) y
  cond_same true e x y same = ap (λ l. e ∷ l) same
  cond_same false e x y same = same

  -- one more call, by the caller or by another
  pub calls_more : (by : List ℕ) (a : A) (b : B) (log : List (Entry A B))
      → calls_by by (log ++ entry by a b ∷ []) ≡ calls_by by log ++ entry by a b ∷ []
  calls_more by a b [] = rw (number_is by) refl
  calls_more by a b (e ∷ rest) = cond_more (same_number e.caller by) e _ _ _ (calls_more by a b rest)

  pub calls_else : (i by : List ℕ) (a : A) (b : B) (log : List (Entry A B)) → by ≢ i
      → calls_by i (log ++ entry by a b ∷ []) ≡ calls_by i log
  calls_else i by a b [] other = rw (number_other by i other) refl
  calls_else i by a b (e ∷ rest) other = cond_same (same_number e.caller i) e _ _ (calls_else i by a b rest other)

  caller_else : (p : Caller A B) (n : List ℕ) (a : A) (b : B) (log : List (Entry A B)) → owns p.number p.children n ≡ 0 → FitsCaller log p
      → FitsCaller (log ++ entry n a b ∷ []) p
  caller_else p n a b log free fits = (
    calls_else p.number n a b log (λ (same : n ≡ p.number). let own = owns_own p.number p.children in
        let e = ap (owns p.number p.children) same in omega (arith, own, free, e)) ∙ fits.0,
    λ q own other. calls_else q n a b log (λ (same : n ≡ q). let e = ap (owns p.number p.children) same in omega (arith, own, free, e))
        ∙ fits.1 q own other,
  )

  -- a call of another
  pub fits_else : (ps : List (Caller A B)) (n : List ℕ) (a : A) (b : B) (log : List (Entry A B)) → owns_all ps n ≡ 0 → Fits log ps
      → Fits (log ++ entry n a b ∷ []) ps
  fits_else [] n a b log free fits = tt
  fits_else (p ∷ ps) n a b log free fits = (
    caller_else p n a b log (omega (arith, free)) fits.0,
    fits_else ps n a b log (omega (arith, free)) fits.1,
  )

  -- a call of one's own
  pub caller_more : (p : Caller A B) (a : A) (b : B) (log : List (Entry A B)) → FitsCaller log p
      → FitsCaller (log ++ entry p.number a b ∷ []) (caller p.number p.children (p.calls ++ entry p.number a b ∷ []))
  caller_more p a b log fits = (
    calls_more p.number a b log ∙ ap (λ (l : List (Entry A B)). l ++ entry p.number a b ∷ []) fits.0,
    λ q own other. calls_else q p.number a b log (λ same. other (sym same)) ∙ fits.1 q own other,
  )

  pub fits_append : (log : List (Entry A B)) (ps qs : List (Caller A B)) → Fits log ps → Fits log qs → Fits log (ps ++ qs)
  fits_append log [] qs one two = two
  fits_append log (p ∷ ps) qs one two = (one.0, fits_append log ps qs one.1 two)

  pub fits_left : (log : List (Entry A B)) (ps qs : List (Caller A B)) → Fits log (ps ++ qs) → Fits log ps
  fits_left log [] qs both = tt
  fits_left log (p ∷ ps) qs both = (both.0, fits_left log ps qs both.1)

  pub fits_right : (log : List (Entry A B)) (ps qs : List (Caller A B)) → Fits log (ps ++ qs) → Fits log qs
  fits_right log [] qs both = both
  fits_right log (p ∷ ps) qs both = fits_right log ps qs both.1

  -- a number is children
  pub caller_with_child : (p : Caller A B) (log : List (Entry A B)) → FitsCaller log p
      → FitsCaller log (caller p.number (p.children + 1) p.calls)
  caller_with_child p log fits = (
    fits.0,
    λ q own other. fits.1 q (let s = owns_split p.number p.children q in
        let m = owns_most p.number p.children q in omega (arith, s, m, own)) other,
  )

  pub caller_new : (p : Caller A B) (log : List (Entry A B)) → FitsCaller log p → FitsCaller log (caller (p.number ++ p.children ∷ []) 0 [])
  caller_new p log fits =
      let n : List ℕ = p.number ++ p.children ∷ [] in
      let unowned : owns n 0 p.number ≡ 0 = let s = owns_split p.number p.children p.number in let one = owns_own p.number p.children in
      let two = owns_own p.number (p.children + 1) in omega (arith, s, one, two) in
      let none : (q : List ℕ) → owns n 0 q ≡ 1 → calls_by q log ≡ [] = λ q own. fits.1 q
      (let s = owns_split p.number p.children q in let m = owns_most p.number p.children q in omega (arith, s, m, own))
      (λ (same : q ≡ p.number). let e = ap (owns n 0) same in omega (arith, e, own, unowned)) in
      (none n (owns_own n 0), λ q own other. none q own)

  -- who owns a number, after a change of one view
  pub owns_set : {O : Type 0} (views : List (View O A B)) (i : ℕ) (v w : View O A B) (q : List ℕ) → get_elem? views i ≡ some v
      → owns_views (set views i w) q + owns_all v.callers q ≡ owns_views views q + owns_all w.callers q
  owns_set {O = O} [] i v w q at = absurd (some-ne-none v (sym at))
  owns_set {O = O} (x ∷ xs) zero v w q at = let same = ap (λ (u : View O A B). owns_all u.callers q) (some-injective x v at) in
      omega (arith, same)
  owns_set {O = O} (x ∷ xs) (suc i) v w q at = let ih = owns_set xs i v w q at in omega (arith, ih)

  pub tickets_set : {O : Type 0} (views : List (View O A B)) (i : ℕ) (v w : View O A B) → get_elem? views i ≡ some v
      → tickets (set views i w) + ticket_count v.ticket ≡ tickets views + ticket_count w.ticket
  tickets_set {O = O} [] i v w at = absurd (some-ne-none v (sym at))
  tickets_set {O = O} (x ∷ xs) zero v w at = let same = ap (λ (u : View O A B). ticket_count u.ticket) (some-injective x v at) in
      omega (arith, same)
  tickets_set {O = O} (x ∷ xs) (suc i) v w at = let ih = tickets_set xs i v w at in omega (arith, ih)

  pub tickets_snoc : {O : Type 0} (views : List (View O A B)) (w : View O A B)
      → tickets (views ++ w ∷ []) ≡ tickets views + ticket_count w.ticket
  tickets_snoc [] w = omega arith
  tickets_snoc (x ∷ xs) w = let ih = tickets_snoc xs w in omega (arith, ih)

  pub owns_snoc : {O : Type 0} (views : List (View O A B)) (w : View O A B) (q : List ℕ)
      → owns_views (views ++ w ∷ []) q ≡ owns_views views q + owns_all w.callers q
  owns_snoc [] w q = omega arith
  owns_snoc (x ∷ xs) w q = let ih = owns_snoc xs w q in omega (arith, ih)

  pub owns_append : (ps qs : List (Caller A B)) (q : List ℕ) → owns_all (ps ++ qs) q ≡ owns_all ps q + owns_all qs q
  owns_append [] qs q = omega arith
  owns_append (p ∷ ps) qs q = let ih = owns_append ps qs q in omega (arith, ih)

  pub owns_at : {O : Type 0} (views : List (View O A B)) (i : ℕ) (v : View O A B) (q : List ℕ) → get_elem? views i ≡ some v
      → owns_all v.callers q ≤ owns_views views q
  owns_at views i v q at = let s = owns_set views i v (idle None [] []) q at in omega (arith, s)

  pub owns_two : {O : Type 0} (views : List (View O A B)) (i j : ℕ) (v w : View O A B) (q : List ℕ) → get_elem? views i ≡ some v
      → get_elem? views j ≡ some w → j ≢ i → owns_all v.callers q + owns_all w.callers q ≤ owns_views views q
  owns_two views i j v w q at at' other =
      let s = owns_set views i v (idle None [] []) q at in
      let t = owns_at (set views i (idle None [] [])) j w q (set_else views i j (idle None [] []) other ∙ at') in
      omega (arith, s, t)

  -- where each number that was children is there, each number is a caller's own or may still be children
  found : (all ps : List (Caller A B)) (n : List ℕ) → has_number ps n ≡ true → HasChildren all ps
      → (p : Caller A B) × (p.number ≡ n) × ((q : List ℕ) → owns p.number p.children q ≤ owns_all ps q)
      × ((k : ℕ) → k < p.children → has_number all (p.number ++ k ∷ []) ≡ true)
  found all [] n is children = absurd (true≢false (sym is))
  found all (p ∷ ps) n is children = found_by (λ h. found all ps n h children.1) (same_number p.number n) refl is
    where
      Found : List (Caller A B) → Type 0
      Found rs = (r : Caller A B) × (r.number ≡ n) × ((q : List ℕ) → owns r.number r.children q ≤ owns_all rs q)
          × ((k : ℕ) → k < r.children → has_number all (r.number ++ k ∷ []) ≡ true)

      found_by : (has_number ps n ≡ true → Found ps) → (b : Bool) → same_number p.number n ≡ b → cond b true (has_number ps n) ≡ true
          → Found (p ∷ ps)
      found_by further true e h = (p, number_same p.number n e, (λ q. omega arith), children.0)
      found_by further false e h = let r = further h in (r.0, r.1, (λ q. let s = r.2 q in omega (arith, s)), r.3)

  covers : (all : List (Caller A B)) → HasChildren all all → (n r : List ℕ) → has_number all n ≡ true → 1 ≤ owns_all all (n ++ r)
  covers all children n [] is =
      let f = found all all n is children in
      let p = f.0 in
      let few = f.2 (n ++ []) in
      let own = owns_own p.number p.children in
      let e : owns p.number p.children (n ++ []) ≡ owns p.number p.children p.number =
      ap (owns p.number p.children) (append-nil n ∙ sym f.1) in
      omega (arith, few, own, e)
  covers all children n (k ∷ r) is =
      let f = found all all n is children in
      let p = f.0 in
      elim (cases_lt k p.children) [
        | inl less ↦
            let there : has_number all (n ++ k ∷ []) ≡ true = subst (λ (m : List ℕ). has_number all (m ++ k ∷ []) ≡ true) f.1
            (f.3 k less) in
            let ih = covers all children (n ++ k ∷ []) r there in
            subst (λ (m : List ℕ). 1 ≤ owns_all all m) (append_assoc n (k ∷ []) r) ih
        | inr more ↦
            let few = f.2 (n ++ k ∷ r) in
            let own : owns p.number p.children (p.number ++ k ∷ r) ≡ 1 = owns_behind p.number p.children k r
            ∙ rw (le-ltb k p.children more) refl in
            let e : owns p.number p.children (n ++ k ∷ r) ≡ owns p.number p.children (p.number ++ k ∷ r) =
            ap (λ (m : List ℕ). owns p.number p.children (m ++ k ∷ r)) (sym f.1) in
            omega (arith, few, own, e)
      ]

  unknown : (ps : List (Caller A B)) (log : List (Entry A B)) (q : List ℕ) → Fits log ps → has_number ps q ≡ false → 1 ≤ owns_all ps q
      → calls_by q log ≡ []
  unknown [] log q fits not_there own = absurd (omega (arith, own))
  unknown (p ∷ ps) log q fits not_there own = unknown_by (unknown ps log q fits.1) (same_number p.number q) refl not_there
    where
      unknown_by : (has_number ps q ≡ false → 1 ≤ owns_all ps q → calls_by q log ≡ []) → (b : Bool) → same_number p.number q ≡ b
          → cond b true (has_number ps q) ≡ false → calls_by q log ≡ []
      unknown_by further true e h = absurd (true≢false h)
      unknown_by further false e h = dite (ℕ_discrete (owns p.number p.children q) 1)
          (λ mine. fits.0.1 q mine (λ (same : q ≡ p.number). true≢false
          (sym (number_is p.number) ∙ ap (same_number p.number) (sym same) ∙ e)))
          (λ other. let m = owns_most p.number p.children q in further h (omega (arith, own, other, m)))

  pub no_others : (all : List (Caller A B)) (log : List (Entry A B)) → Fits log all → AllReturned all → NoOtherCalls all log
  no_others all log fits closed = λ q not_there. unknown all log q fits not_there (covers all closed.1 [] q closed.0)

  pub longer_one : (xs ys : List (Entry A B)) (F : List (Entry A B) → Type 0) → F xs → F ys → F (longer xs ys)
  longer_one xs ys F one two = by_test (ltb (length xs) (length ys))
    where
      by_test : (b : Bool) → F (cond b ys xs)
      by_test true = two
      by_test false = one

  -- two beginnings of one history: the shorter begins the longer
  shorter : (log xs ys r s : List (Entry A B)) → log ≡ xs ++ r → log ≡ ys ++ s → length xs ≤ length ys → StartsWith ys xs
  shorter log [] ys r s one two few = (ys, refl)
  shorter log (x ∷ xs) [] r s one two few = absurd (omega (arith, few))
  shorter [] (x ∷ xs) (y ∷ ys) r s one two few = cc one
  shorter (z ∷ log) (x ∷ xs) (y ∷ ys) r s one two few =
      let tail_one : log ≡ xs ++ r = cc one in
      let tail_two : log ≡ ys ++ s = cc two in
      let head : y ≡ x = cc (sym two ∙ one) in
      let ih = shorter log xs ys r s tail_one tail_two (omega (arith, few)) in
      (ih.0, λ k. head k ∷ ih.1 k)

  pub longer_both : (log xs ys : List (Entry A B)) → StartsWith log xs → StartsWith log ys → StartsWith (longer xs ys) xs
      × StartsWith (longer xs ys) ys
  longer_both log xs ys one two = by_test (ltb (length xs) (length ys)) refl
    where
      by_test : (b : Bool) → ltb (length xs) (length ys) ≡ b → StartsWith (cond b ys xs) xs × StartsWith (cond b ys xs) ys
      by_test true e = let less = ltb-true (length xs) (length ys) e in
          (shorter log xs ys one.0 two.0 one.1 two.1 (omega (arith, less)), ([], sym (append-nil ys)))
      by_test false e = (([], sym (append-nil xs)), shorter log ys xs two.0 one.0 two.1 one.1 (ltb-false (length xs) (length ys) e))

  pub starts_more : (log xs ys : List (Entry A B)) → StartsWith log xs → StartsWith xs ys → StartsWith log ys
  starts_more log xs ys one two = (two.0 ++ one.0, one.1 ∙ ap (λ (l : List (Entry A B)). l ++ one.0) two.1 ∙ append_assoc ys two.0 one.0)

  pub live_append : (ps qs : List (Caller A B)) → is_live ps ≡ true → is_live (ps ++ qs) ≡ true
  live_append [] qs live = absurd (true≢false (sym live))
  live_append (p ∷ ps) qs live = refl

  -- what passes that stand in a history have done fits it
  pub fits_of : {O X : Type 0} (f : X → View O A B) (log : List (Entry A B)) (xs : List X) → All (λ x. StoodIn log (f x)) xs
      → Fits log (callers_of (map f xs))
  fits_of f log [] all = tt
  fits_of f log (x ∷ xs) all = fits_append log (f x).callers (callers_of (map f xs)) (All-head (λ y. StoodIn log (f y)) x xs all).1
      (fits_of f log xs (All-tail (λ y. StoodIn log (f y)) x xs all))

-- where the pass that met another stands, both stand
pub met_stood : {O A B : Type 0} (stands : O → O → List (Entry A B) → Type 0) (v w u : View O A B) (log : List (Entry A B))
    → Met stands v w u → StoodIn log u → StoodIn log v × StoodIn log w
met_stood stands v w u log m s =
    let both : Fits log (v.callers ++ w.callers) = subst (λ ps. Fits log ps) m.3 s.1 in (
      (starts_more log u.seen v.seen s.0 m.1, fits_left log v.callers w.callers both),
      (starts_more log u.seen w.seen s.0 m.2, fits_right log v.callers w.callers both),
    )

-- what an object's call does to what it stands for, from any opening
pub stands_more : {O A B : Type 0} (stands : O → O → List (Entry A B) → Type 0) (p : Option O) (o o' : O) (log log' : List (Entry A B))
    → ((from : O) → stands from o log → stands from o' log') → stands_from stands p o log → stands_from stands p o' log'
stands_more stands None o o' log log' more is = absurd is
stands_more stands (Some from) o o' log log' more is = more from is
