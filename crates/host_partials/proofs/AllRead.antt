-- What is known of the partials of the hosts that were read so far.
use Rattle.std.proofs.Common.{◌≡◌, ◌⊎◌, inl, inr, ℕ, zero, suc, ◌+◌, refl, sym, ap, subst, ◌∙◌, arith}
use Rattle.std.specs.Prelude.{List, [], ◌∷◌, ◌++◌, length, Option, Some, slice_get}
use Rattle.std.proofs.lemmas.Option.{none-some, same_Some}
use Rattle.disk_trait.specs.declared.ids.FileId.TheVariants.{Partial as PartialOf}
use Rattle.disk_trait.specs.Files.{Files}
use Rattle.host_partials.specs.declared.held.PartialHead.{PartialHead}
use Rattle.host_partials.specs.Held.{TellsHead, AreTold}

pub record AreRead (told : Option Files) (hosts : ℕ) (heads : List (Option PartialHead)) : Type 0 where
  pub count : length heads ≡ hosts
  pub are : (all : Files) → told ≡ Some all → AreTold all hosts heads

item_pushed : {X : Type 0} (xs : List X) (x : X) (i : ℕ) (y : X) → slice_get (xs ++ x ∷ []) i ≡ Some y
    → (slice_get xs i ≡ Some y) ⊎ ((i ≡ length xs) × (y ≡ x))
item_pushed [] x zero y e = inr (refl, sym (same_Some x y e))
item_pushed [] x (suc i) y e = absurd (none-some y e)
item_pushed (a ∷ xs) x zero y e = inl e
item_pushed (a ∷ xs) x (suc i) y e = elim (item_pushed xs x i y e) [
  | inl there ↦ inl there
  | inr last ↦ inr (ap suc last.0, last.1)
]

length_pushed : {X : Type 0} (xs : List X) (x : X) → length (xs ++ x ∷ []) ≡ length xs + 1
length_pushed [] x = refl
length_pushed (y ∷ xs) x = let more = length_pushed xs x in omega (arith, more)

pub none_read : (told : Option Files) (heads : List (Option PartialHead)) → heads ≡ [] → AreRead told 0 heads
none_read told heads none = subst (AreRead told 0) (sym none) (record {
  count = refl;
  are = λ all is. record { count = refl; each = λ host head e. absurd (none-some head e) };
})

pub more_read : (start told : Option Files) (hosts : ℕ) (heads new : List (Option PartialHead)) (head : Option PartialHead) → told ≡ start
    → AreRead start hosts heads
    → ((all : Files) → told ≡ Some all → TellsHead hosts head (all (PartialOf hosts))) → new ≡ heads ++ head ∷ []
    → AreRead start (hosts + 1) new
more_read start told hosts heads new head same read tells is = subst (AreRead start (hosts + 1)) (sym is) (record {
  count = count;
  are = λ all e. record {
    count = count;
    each = λ host other there. step all (tells all (same ∙ e)) (read.are all e) host other (item_pushed heads head host other there);
  };
})
  where
    count : length (heads ++ head ∷ []) ≡ hosts + 1
    count = length_pushed heads head ∙ ap (λ n. n + 1) read.count

    step : (all : Files) → TellsHead hosts head (all (PartialOf hosts)) → AreTold all hosts heads → (host : ℕ) (other : Option PartialHead)
        → (slice_get heads host ≡ Some other) ⊎ ((host ≡ length heads) × (other ≡ head))
        → TellsHead host other (all (PartialOf host))
    step all next are host other (inl there) = are.each host other there
    step all next are host other (inr last) =
        subst (λ (o : Option PartialHead). TellsHead host o (all (PartialOf host))) (sym last.1)
        (subst (λ (h : ℕ). TellsHead h head (all (PartialOf h))) (sym (last.0 ∙ read.count)) next)
