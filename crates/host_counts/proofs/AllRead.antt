-- The counts of the hosts that were read so far.
use Rattle.std.proofs.Common.{◌≡◌, ◌⊎◌, inl, inr, ℕ, zero, suc, ◌+◌, refl, sym, ap, subst, ◌∙◌, arith}
use Rattle.std.specs.Prelude.{List, [], ◌∷◌, ◌++◌, length, Option, Some, slice_get}
use Rattle.std.proofs.lemmas.Option.{none-some, same_Some}
use Rattle.disk_trait.specs.declared.ids.FileId.TheVariants.{Counts as CountsFile}
use Rattle.disk_trait.specs.Files.{Files}
use Rattle.ref_counts.specs.Numbers.{Items}
use Rattle.host_counts.specs.Held.{TellsCounts, AreTold}

pub record AreRead (told : Option Files) (hosts : ℕ) (counts : List Items) : Type 0 where
  pub count : length counts ≡ hosts
  pub are : (all : Files) → told ≡ Some all → AreTold all hosts counts

item_pushed : {X : Type 0} (xs : List X) (x : X) (i : ℕ) (y : X) → slice_get (xs ++ x ∷ []) i ≡ Some y
    → (slice_get xs i ≡ Some y) ⊎ ((i ≡ length xs) × (y ≡ x))
item_pushed [] x zero y e = inr (refl, sym (same_Some x y e))
item_pushed [] x (suc i) y e = absurd (none-some y e)
item_pushed (a ∷ xs) x zero y e = inl e
item_pushed (a ∷ xs) x (suc i) y e = elim (item_pushed xs x i y e) [
  | inl there ↦ inl there
  | inr last ↦ inr (ap suc last.0, last.1)
]

length_pushed : {X : Type 0} (xs : List X) (x : X) → length (xs ++ x ∷ []) ≡ length xs + 1
length_pushed [] x = refl
length_pushed (y ∷ xs) x = let more = length_pushed xs x in omega (arith, more)

pub none_read : (told : Option Files) (counts : List Items) → counts ≡ [] → AreRead told 0 counts
none_read told counts none = subst (AreRead told 0) (sym none) (record {
  count = refl;
  are = λ all is. record { count = refl; each = λ host items e. absurd (none-some items e) };
})

pub more_read : (start told : Option Files) (hosts : ℕ) (counts new : List Items) (items : Items) → told ≡ start
    → AreRead start hosts counts
    → ((all : Files) → told ≡ Some all → TellsCounts hosts items (all (CountsFile hosts))) → new ≡ counts ++ items ∷ []
    → AreRead start (hosts + 1) new
more_read start told hosts counts new items same read tells is = subst (AreRead start (hosts + 1)) (sym is) (record {
  count = count;
  are = λ all e. record {
    count = count;
    each = λ host others there. step all (tells all (same ∙ e)) (read.are all e) host others (item_pushed counts items host others there);
  };
})
  where
    count : length (counts ++ items ∷ []) ≡ hosts + 1
    count = length_pushed counts items ∙ ap (λ n. n + 1) read.count

    step : (all : Files) → TellsCounts hosts items (all (CountsFile hosts)) → AreTold all hosts counts → (host : ℕ) (others : Items)
        → (slice_get counts host ≡ Some others) ⊎ ((host ≡ length counts) × (others ≡ items))
        → TellsCounts host others (all (CountsFile host))
    step all next are host others (inl there) = are.each host others there
    step all next are host others (inr last) =
        subst (λ (o : Items). TellsCounts host o (all (CountsFile host))) (sym last.1)
        (subst (λ (h : ℕ). TellsCounts h items (all (CountsFile h))) (sym (last.0 ∙ read.count)) next)
