-- Parts that are planned one behind the other.
use Rattle.std.proofs.Common.{◌≡◌, ℕ, ◌+◌, List, [], ◌∷◌, ◌++◌, suc, refl, sym, ap, subst, ◌∙◌, append_assoc, add-one}
use Rattle.std.proofs.lemmas.List.{append-nil}
use Rattle.demo_work.specs.declared.asks.Ask.{Ask}
use Rattle.demo_work.specs.declared.asks.Ask.TheVariants as Q
use Rattle.demo_work.specs.Asks.{repeated}
use Rattle.demo_work.specs.Plan.{drawn, below, each, Drawn, followed_by, each_drawn, edit, edits, opening, closing, dump, clean, sweep, upkeep, day_of, days, plan}
use Rattle.demo_work.specs.Steps.{Planned}

-- ---- parts without draws

each-none : (part : ℕ → List Ask) → each part 0 ≡ []
unfolding each
each-none part = refl

each-more : (part : ℕ → List Ask) (n : ℕ) → each part (suc n) ≡ each part n ++ part n
unfolding each
each-more part n = refl

pub each-begun : (part : ℕ → List Ask) (before : List Ask) → before ≡ before ++ each part 0
each-begun part before = sym (ap (λ xs. before ++ xs) (each-none part) ∙ append-nil before)

pub each-next : (part : ℕ → List Ask) (n : ℕ) (before mid after : List Ask) → mid ≡ before ++ each part n → after ≡ mid ++ part n
    → after ≡ before ++ each part (n + 1)
each-next part n before mid after mid_is after_is =
    after_is ∙ ap (λ xs. xs ++ part n) mid_is ∙ append_assoc before (each part n) (part n)
    ∙ ap (λ xs. before ++ xs) (sym (ap (λ k. each part k) (add-one n) ∙ each-more part n))

pub each-all : (part : ℕ → List Ask) (n m : ℕ) (before after : List Ask) → n ≡ m → after ≡ before ++ each part n
    → after ≡ before ++ each part m
each-all part n m before after end is = is ∙ ap (λ k. before ++ each part k) end

pub upkeep_is : (day : ℕ) (before mid after : List Ask) → mid ≡ before ++ each (clean day) 16 → after ≡ mid ++ sweep day
    → after ≡ before ++ upkeep day
unfolding upkeep
upkeep_is day before mid after mid_is after_is =
    after_is ∙ ap (λ xs. xs ++ sweep day) mid_is ∙ append_assoc before (each (clean day) 16) (sweep day)

-- ---- parts with draws

drawn-none : (part : ℕ → ℕ → Drawn) (state : ℕ) → each_drawn part 0 state ≡ ([], state)
unfolding each_drawn
drawn-none part state = refl

drawn-more : (part : ℕ → ℕ → Drawn) (n state : ℕ) → each_drawn part (suc n) state ≡ followed_by (each_drawn part n state) (part n)
unfolding each_drawn
drawn-more part n state = refl

pub Planned-begun : (part : ℕ → ℕ → Drawn) (first state : ℕ) (before : List Ask) → state ≡ first
    → Planned before before state (each_drawn part 0 first)
Planned-begun part first state before same =
    subst (λ d. Planned before before state d) (sym (drawn-none part first)) (record { asks = sym (append-nil before); state_is = same })

pub Planned-behind : (one : Drawn) (part : ℕ → Drawn) (state last : ℕ) (before mid after : List Ask) → Planned before mid state one
    → Planned mid after last (part state) → Planned before after last (followed_by one part)
Planned-behind one part state last before mid after a b = record {
  asks = b.asks ∙ ap (λ xs. xs ++ (part state).0) a.asks ∙ append_assoc before one.0 (part state).0
      ∙ ap (λ k. before ++ (one.0 ++ (part k).0)) a.state_is;
  state_is = b.state_is ∙ ap (λ k. (part k).1) a.state_is;
}

pub Planned-next : (part : ℕ → ℕ → Drawn) (n first state last : ℕ) (before mid after : List Ask)
    → Planned before mid state (each_drawn part n first) → Planned mid after last (part n state)
    → Planned before after last (each_drawn part (n + 1) first)
Planned-next part n first state last before mid after a b =
    subst (λ d. Planned before after last d) (sym (ap (λ k. each_drawn part k first) (add-one n) ∙ drawn-more part n first))
    (Planned-behind (each_drawn part n first) (part n) state last before mid after a b)

pub Planned-all : (part : ℕ → ℕ → Drawn) (n m first state : ℕ) (before after : List Ask) → n ≡ m
    → Planned before after state (each_drawn part n first) → Planned before after state (each_drawn part m first)
Planned-all part n m first state before after end is = subst (λ k. Planned before after state (each_drawn part k first)) end is

pub Planned-edits : (n first state : ℕ) (before after : List Ask) → n ≡ 1 + below 20 (drawn first)
    → Planned before after state (each_drawn (λ _ at. edit at) n (drawn first)) → Planned before after state (edits first)
unfolding edits
Planned-edits n first state before after end is =
    Planned-all (λ _ at. edit at) n (1 + below 20 (drawn first)) (drawn first) state before after end is

pub planned_dump : (day host first state : ℕ) (before opened edited after : List Ask) → opened ≡ before ++ opening day host
    → Planned opened edited state (edits first) → after ≡ edited ++ closing day host → Planned before after state (dump day host first)
unfolding dump
planned_dump day host first state before opened edited after opened_is edits_are after_is = record {
  asks = after_is ∙ ap (λ xs. xs ++ closing day host) (edits_are.asks ∙ ap (λ xs. xs ++ (edits first).0) opened_is)
      ∙ append_assoc (before ++ opening day host) (edits first).0 (closing day host)
      ∙ append_assoc before (opening day host) ((edits first).0 ++ closing day host);
  state_is = edits_are.state_is;
}

pub planned_day : (day first state : ℕ) (before mid after : List Ask) → Planned before mid state (each_drawn (dump day) 4 first)
    → after ≡ mid ++ upkeep day → Planned before after state (day_of day first)
unfolding day_of
planned_day day first state before mid after dumps after_is = record {
  asks = after_is ∙ ap (λ xs. xs ++ upkeep day) dumps.asks ∙ append_assoc before (each_drawn (dump day) 4 first).0 (upkeep day);
  state_is = dumps.state_is;
}

pub days-are : (n number state : ℕ) (before after : List Ask) → n ≡ 60 → Planned before after state (each_drawn day_of n number)
    → after ≡ before ++ (days number).0
unfolding days
days-are n number state before after end is = (Planned-all day_of n 60 number state before after end is).asks

pub plan-is : (number : ℕ) (none hosts dumped asked all : List Ask) → none ≡ []
    → hosts ≡ none ++ each (λ host. Q.AddHost host ∷ []) 4 → dumped ≡ hosts ++ (days number).0 → asked ≡ dumped ++ Q.Stats ∷ []
    → all ≡ asked ++ each (λ host. Q.Backups host ∷ []) 4 → all ≡ plan number
unfolding plan
plan-is number none hosts dumped asked all none_is hosts_are dumped_is asked_is all_is =
    all_is ∙ ap (λ xs. xs ++ each (λ host. Q.Backups host ∷ []) 4) asked_is
    ∙ append_assoc dumped (Q.Stats ∷ []) (each (λ host. Q.Backups host ∷ []) 4)
    ∙ ap (λ xs. xs ++ Q.Stats ∷ each (λ host. Q.Backups host ∷ []) 4) dumped_is
    ∙ append_assoc hosts (days number).0 (Q.Stats ∷ each (λ host. Q.Backups host ∷ []) 4)
    ∙ ap (λ xs. xs ++ ((days number).0 ++ Q.Stats ∷ each (λ host. Q.Backups host ∷ []) 4))
    (hosts_are ∙ ap (λ xs. xs ++ each (λ host. Q.AddHost host ∷ []) 4) none_is)

-- ---- words

pub repeated-begun : (word bytes : List ℕ) → bytes ≡ [] → bytes ≡ repeated 0 word
unfolding repeated
repeated-begun word bytes none = none

repeated-more : (n : ℕ) (word : List ℕ) → repeated (suc n) word ≡ repeated n word ++ word
unfolding repeated
repeated-more n word = refl

pub repeated-next : (n : ℕ) (word bytes after : List ℕ) → bytes ≡ repeated n word → after ≡ bytes ++ word → after ≡ repeated (n + 1) word
repeated-next n word bytes after bytes_are after_is =
    after_is ∙ ap (λ xs. xs ++ word) bytes_are ∙ sym (ap (λ k. repeated k word) (add-one n) ∙ repeated-more n word)

pub repeated-all : (n m : ℕ) (word bytes made : List ℕ) → n ≡ m → bytes ≡ repeated n word → made ≡ bytes → made ≡ repeated m word
repeated-all n m word bytes made end bytes_are made_is = made_is ∙ bytes_are ∙ ap (λ k. repeated k word) end
