-- Items one behind the other, up to one that ends them: which layout comes next depends on the items before.
--     AreItems, items_print      items that may stand there, and their prints
--     StopsAt      behind some items the bytes are as Q says
--     sequence      the layout of them all
use Rattle.std.specs.Prelude.{◌≡◌, ℕ, ◌+◌, List, [], ◌∷◌, ◌++◌, length, Option, Some, None}
use Rattle.std.proofs.Common.{refl, sym, ap, subst, ◌∙◌, append_assoc}
use Rattle.std.proofs.lemmas.List.{append-nil}
use Rattle.wire_bytes.specs.Kind.{IsReadOneWay}
use Rattle.restore_stream.specs.Cuts.{Layout}

module _ {A : Type 0} (step : List A → Layout (Option A)) where
  -- each item may stand behind those before it
  abbrev pub AreItems : List A → List A → Type 0
  AreItems before [] = Unit {0}
  AreItems before (item ∷ items) = (step before).Fits (Some item) × AreItems (before ++ item ∷ []) items

  abbrev pub items_print : List A → List A → List ℕ
  items_print before [] = []
  items_print before (item ∷ items) = (step before).print (Some item) ++ items_print (before ++ item ∷ []) items

  -- items, and behind them the end
  abbrev pub AreAll : List A → List A → Type 0
  AreAll before [] = (step before).Fits None
  AreAll before (item ∷ items) = (step before).Fits (Some item) × AreAll (before ++ item ∷ []) items

  abbrev pub all_print : List A → List A → List ℕ
  all_print before [] = (step before).print None
  all_print before (item ∷ items) = (step before).print (Some item) ++ all_print (before ++ item ∷ []) items

  -- some items stand at the front, and what follows them is as Q says
  pub record StopsAt (Q : List A → List ℕ → Type 0) (before : List A) (bytes : List ℕ) : Type 0 where
    pub items : List A
    pub rest : List ℕ
    pub are : AreItems before items
    pub parts : bytes ≡ items_print before items ++ rest
    pub why : Q (before ++ items) rest

  -- a whole field breaks the layout behind the items
  pub record BrokenAt (before : List A) (bytes : List ℕ) (offset : ℕ) : Type 0 where
    pub behind : ℕ
    pub stop : StopsAt (λ done rest. (step done).Broken rest behind) before bytes
    pub here : offset ≡ length (items_print before stop.items) + behind

  abbrev pub CutAt : List A → List ℕ → Type 0
  CutAt = StopsAt (λ done rest. (step done).Cut rest)

  -- no print goes along with Q
  abbrev pub NoPrint : (List A → List ℕ → Type 0) → Type 0
  NoPrint Q = (done : List A) (next : Option A) (rest : List ℕ) → (step done).Fits next → Q done ((step done).print next ++ rest) → ⊥

  not_none : (item : A) → ◌≡◌ {A = Option A} None (Some item) → ⊥
  not_none item e = cc

  same_item : (a b : A) → ◌≡◌ {A = Option A} (Some a) (Some b) → a ≡ b
  same_item a b e = cc

  -- the same Q behind the first item, said of what follows it
  later : (Q : List A → List ℕ → Type 0) (before : List A) (item : A) (items : List A) (rest : List ℕ)
      → Q (before ++ item ∷ items) rest → Q ((before ++ item ∷ []) ++ items) rest
  later Q before item items rest why = subst (λ (done : List A). Q done rest) (sym (append_assoc before (item ∷ []) items)) why

  pub all_one_way : (before : List A) → IsReadOneWay (AreAll before) (all_print before)
  all_one_way before = λ a b x y fits_a fits_b e. go before a b x y fits_a fits_b e
    where
      go : (before a b : List A) (x y : List ℕ) → AreAll before a → AreAll before b → all_print before a ++ x ≡ all_print before b ++ y
          → (a ≡ b) × (x ≡ y)
      go before [] [] x y fits_a fits_b e = (refl, ((step before).one_way None None x y fits_a fits_b e).1)
      go before [] (b ∷ bs) x y fits_a fits_b e =
          absurd (not_none b ((step before).one_way None (Some b) x _ fits_a fits_b.0
          (e ∙ append_assoc ((step before).print (Some b)) _ y)).0)
      go before (a ∷ cs) [] x y fits_a fits_b e =
          absurd (not_none a ((step before).one_way None (Some a) y _ fits_b fits_a.0
          (sym e ∙ append_assoc ((step before).print (Some a)) _ x)).0)
      go before (a ∷ cs) (b ∷ bs) x y fits_a fits_b e =
          let h = (step before).one_way (Some a) (Some b) (all_print (before ++ a ∷ []) cs ++ x)
          (all_print (before ++ b ∷ []) bs ++ y) fits_a.0 fits_b.0
          (sym (append_assoc ((step before).print (Some a)) _ x) ∙ e ∙ append_assoc ((step before).print (Some b)) _ y) in
          let same = same_item a b h.0 in
          let fits' = subst (λ (c : A). AreAll (before ++ c ∷ []) bs) (sym same) fits_b.1 in
          let e' = h.1 ∙ ap (λ (c : A). all_print (before ++ c ∷ []) bs ++ y) (sym same) in
          let rest = go (before ++ a ∷ []) cs bs x y fits_a.1 fits' e' in
          (λ i. same i ∷ rest.0 i, rest.1)

  -- where items stand and then Q, the print of no whole sequence stands
  pub not_printed : (Q : List A → List ℕ → Type 0) → NoPrint Q → (before all items : List A) (more rest : List ℕ) → AreAll before all
      → AreItems before items → all_print before all ++ more ≡ items_print before items ++ rest → Q (before ++ items) rest → ⊥
  not_printed Q none before [] [] more rest fits are e why =
      let here = subst (λ (done : List A). Q done rest) (append-nil before) why in
      none before None more fits (subst (Q before) (sym e) here)
  not_printed Q none before (a ∷ cs) [] more rest fits are e why =
      let here = subst (λ (done : List A). Q done rest) (append-nil before) why in
      none before (Some a) (all_print (before ++ a ∷ []) cs ++ more) fits.0
      (subst (Q before) (sym e ∙ append_assoc ((step before).print (Some a)) (all_print (before ++ a ∷ []) cs) more) here)
  not_printed Q none before [] (i ∷ is) more rest fits are e why =
      not_none i ((step before).one_way None (Some i) more _ fits are.0 (e ∙ append_assoc ((step before).print (Some i)) _ rest)).0
  not_printed Q none before (a ∷ cs) (i ∷ is) more rest fits are e why =
      let h = (step before).one_way (Some a) (Some i) (all_print (before ++ a ∷ []) cs ++ more)
      (items_print (before ++ i ∷ []) is ++ rest) fits.0 are.0
      (sym (append_assoc ((step before).print (Some a)) _ more) ∙ e ∙ append_assoc ((step before).print (Some i)) _ rest) in
      let same = same_item a i h.0 in
      let are' = subst (λ (c : A). AreItems (before ++ c ∷ []) is) (sym same) are.1 in
      let e' = h.1 ∙ ap (λ (c : A). items_print (before ++ c ∷ []) is ++ rest) (sym same) in
      let why' = later Q before a is rest (subst (λ (c : A). Q (before ++ c ∷ is) rest) (sym same) why) in
      not_printed Q none (before ++ a ∷ []) cs is more rest fits.1 are' e' why'

  -- two lists of items that end where no further print stands are one
  same_stop : (Q R : List A → List ℕ → Type 0) → NoPrint Q → NoPrint R → (before is js : List A) (x y : List ℕ) → AreItems before is
      → AreItems before js → items_print before is ++ x ≡ items_print before js ++ y → Q (before ++ is) x → R (before ++ js) y
      → (is ≡ js) × (x ≡ y)
  same_stop Q R no_q no_r before [] [] x y fits_i fits_j e q r = (refl, e)
  same_stop Q R no_q no_r before [] (j ∷ js) x y fits_i fits_j e q r =
      let here = subst (λ (done : List A). Q done x) (append-nil before) q in
      absurd (no_q before (Some j) (items_print (before ++ j ∷ []) js ++ y) fits_j.0
      (subst (Q before) (e ∙ append_assoc ((step before).print (Some j)) _ y) here))
  same_stop Q R no_q no_r before (i ∷ is) [] x y fits_i fits_j e q r =
      let here = subst (λ (done : List A). R done y) (append-nil before) r in
      absurd (no_r before (Some i) (items_print (before ++ i ∷ []) is ++ x) fits_i.0
      (subst (R before) (sym e ∙ append_assoc ((step before).print (Some i)) _ x) here))
  same_stop Q R no_q no_r before (i ∷ is) (j ∷ js) x y fits_i fits_j e q r =
      let h = (step before).one_way (Some i) (Some j) (items_print (before ++ i ∷ []) is ++ x)
      (items_print (before ++ j ∷ []) js ++ y) fits_i.0 fits_j.0
      (sym (append_assoc ((step before).print (Some i)) _ x) ∙ e ∙ append_assoc ((step before).print (Some j)) _ y) in
      let same = same_item i j h.0 in
      let fits' = subst (λ (c : A). AreItems (before ++ c ∷ []) js) (sym same) fits_j.1 in
      let e' = h.1 ∙ ap (λ (c : A). items_print (before ++ c ∷ []) js ++ y) (sym same) in
      let r' = later R before i js y (subst (λ (c : A). R (before ++ c ∷ js) y) (sym same) r) in
      let q' = later Q before i is x q in
      let rest = same_stop Q R no_q no_r (before ++ i ∷ []) is js x y fits_i.1 fits' e' q' r' in
      (λ k. same k ∷ rest.0 k, rest.1)

  pub no_broken : (behind : ℕ) → NoPrint (λ done rest. (step done).Broken rest behind)
  no_broken behind = λ done next rest fits why. (step done).not_broken next rest behind fits why

  pub no_cut : NoPrint (λ done rest. (step done).Cut rest)
  no_cut = λ done next rest fits why. (step done).not_cut next rest fits why

  pub broken_or_cut : (before : List A) (bytes : List ℕ) (offset : ℕ) → BrokenAt before bytes offset → CutAt before bytes → ⊥
  broken_or_cut before bytes offset b c =
      let h = same_stop (λ done rest. (step done).Broken rest b.behind) (λ done rest. (step done).Cut rest)
      (no_broken b.behind) no_cut before b.stop.items c.items b.stop.rest c.rest b.stop.are c.are
      (sym b.stop.parts ∙ c.parts) b.stop.why c.why in
      (step (before ++ b.stop.items)).not_both b.stop.rest b.behind b.stop.why
      (subst (λ (is : List A). (step (before ++ is)).Cut b.stop.rest) (sym h.0)
      (subst (λ (r : List ℕ). (step (before ++ c.items)).Cut r) (sym h.1) c.why))

  pub broken_once : (before : List A) (bytes : List ℕ) (m n : ℕ) → BrokenAt before bytes m → BrokenAt before bytes n → m ≡ n
  broken_once before bytes m n a b =
      let h = same_stop (λ done rest. (step done).Broken rest a.behind) (λ done rest. (step done).Broken rest b.behind)
      (no_broken a.behind) (no_broken b.behind) before a.stop.items b.stop.items a.stop.rest b.stop.rest a.stop.are b.stop.are
      (sym a.stop.parts ∙ b.stop.parts) a.stop.why b.stop.why in
      let why = subst (λ (is : List A). (step (before ++ is)).Broken a.stop.rest b.behind) (sym h.0)
      (subst (λ (r : List ℕ). (step (before ++ b.stop.items)).Broken r b.behind) (sym h.1) b.stop.why) in
      let k = (step (before ++ a.stop.items)).one_offset a.stop.rest a.behind b.behind a.stop.why why in
      a.here ∙ ap (λ (is : List A). length (items_print before is) + a.behind) h.0
      ∙ ap (λ (j : ℕ). length (items_print before b.stop.items) + j) k ∙ sym b.here

-- items up to the one that ends them
unfoldable pub sequence : {A : Type 0} → (List A → Layout (Option A)) → Layout (List A)
sequence {A} step = record {
  Fits = AreAll step [];
  print = all_print step [];
  Broken = BrokenAt step [];
  Cut = CutAt step [];
  one_way = all_one_way step [];
  not_broken = λ all rest offset fits b.
      not_printed step (λ done r. (step done).Broken r b.behind)
      (no_broken step b.behind) [] all b.stop.items rest b.stop.rest fits b.stop.are b.stop.parts b.stop.why;
  not_cut = λ all rest fits c.
      not_printed step (λ done r. (step done).Cut r) (no_cut step) [] all c.items rest c.rest fits c.are c.parts c.why;
  not_both = broken_or_cut step [];
  one_offset = broken_once step [];
}
