-- One more name, for which there is room and which the others are not.
use Rattle.std.proofs.Common.{◌≡◌, ℕ, ◌<◌, List, [], ◌∷◌, ◌++◌, length, false, sym, ap, ◌∙◌, subst, arith}
use Rattle.std.proofs.lemmas.List.{length_push}
use Rattle.backup_index.specs.Names.{has_name, AreNames}
use Rattle.backup_index.specs.NameLaws.{differ_push}
use Rattle.backup_index.proofs.names.NameList.add.Goals as goal

more : (names reserved new : List (List ℕ)) (name : List ℕ) → AreNames names → length names < 1024 → has_name names name ≡ false → reserved ≡ names → new ≡ reserved ++ name ∷ [] → AreNames new
more names reserved new name are room fresh same is =
    let whole : AreNames (names ++ name ∷ []) = record { few = omega (arith, length_push names name); differ = differ_push names name are.differ fresh } in
    subst AreNames (sym (is ∙ ap (λ xs. xs ++ name ∷ []) same)) whole

pub invariant_of-self-2 : goal.invariant_of-self-2
invariant_of-self-2 c = more _ _ _ c.args.name c.self.invariant
    (subst (λ xs. length xs < 1024) (sym c.self.view_is) c.requires.room) (subst (λ xs. has_name xs c.args.name ≡ false) (sym c.self.view_is) c.requires.fresh)
    c.reserve.ensures.items c.in-Ok.ensures.items
