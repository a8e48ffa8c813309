-- No path has the forms of two routes.
use Rattle.std.proofs.Common.{◌≡◌, ◌≢◌, inl, inr, ℕ, List, [], ◌∷◌, ◌++◌, Bool, true, false, cond, ◌==◌, ◌&&◌, ltb, refl, sym, ◌∙◌, subst}
use Rattle.std.proofs.lemmas.Bool.{ltb-true, eqb-true, eqb-false, and_parts}
use Rattle.std.proofs.lemmas.List.Elements.{All-head, All-tail}
use Rattle.matchit.specs.Rows.{RowsOf}
use Rattle.http_routes.specs.Forms.{IsWhole, Takes, done, byte, param, rest, Has}
use Rattle.http_routes.proofs.TakesLemmas.{takes_byte, takes_piece, takes_none, takes_some, at_end, is_cut, cut_tail, cut_end, token_is}

-- where two lists of tokens part, both have a byte, or one has ended
abbrev pub apart : List ℕ → List ℕ → Bool
apart [] [] = false
apart [] (y ∷ u) = true
apart (x ∷ t) [] = true
apart (x ∷ t) (y ∷ u) = cond (x == y) (apart t u) (ltb x 256 && ltb y 256)

-- the path ends, or goes on with a slash
abbrev AtSlash : List ℕ → Type 0
AtSlash [] = Unit {0}
AtSlash (b ∷ path) = b ≡ 47

at_slash : (t path : List ℕ) → at_end t ≡ true → Takes t path → AtSlash path
at_slash t path e done = tt
at_slash t path e (byte {b = b} h) = eqb-true b 47 e
at_slash t path e (param piece after ok is h) = absurd (cc e)
at_slash t path e rest = absurd (cc e)

-- a piece ends at the first slash
same_rest : (p q a c : List ℕ) → IsWhole p → IsWhole q → AtSlash a → AtSlash c → p ++ a ≡ q ++ c → a ≡ c
same_rest [] [] a c whole_p whole_q at_a at_c e = e
same_rest [] (y ∷ q) [] c whole_p whole_q at_a at_c e = absurd (cc e)
same_rest [] (y ∷ q) (z ∷ a) c whole_p whole_q at_a at_c e =
    let same : y ≡ z = cc e in absurd (All-head (λ b. b ≢ 47) y q whole_q (same ∙ at_a))
same_rest (x ∷ p) [] a [] whole_p whole_q at_a at_c e = absurd (cc e)
same_rest (x ∷ p) [] a (z ∷ c) whole_p whole_q at_a at_c e =
    let same : x ≡ z = cc e in absurd (All-head (λ b. b ≢ 47) x p whole_p (same ∙ at_c))
same_rest (x ∷ p) (y ∷ q) a c whole_p whole_q at_a at_c e =
    let more : p ++ a ≡ q ++ c = cc e in
    same_rest p q a c (All-tail (λ b. b ≢ 47) x p whole_p) (All-tail (λ b. b ≢ 47) y q whole_q) at_a at_c more

-- the same token takes the same of a path
one_step : (x : ℕ) (t u path : List ℕ) → is_cut (x ∷ t) ≡ true → is_cut (x ∷ u) ≡ true → Takes (x ∷ t) path → Takes (x ∷ u) path
    → (p : List ℕ) × Takes t p × Takes u p
one_step x t u path cut_t cut_u takes_t takes_u =
    elim (token_is x t cut_t) [
      | inl small ↦
          let a = takes_byte x t path small takes_t in
          let b = takes_byte x u path small takes_u in
          let same : b.0 ≡ a.0 = cc (sym b.1 ∙ a.1) in
          (a.0, a.2, subst (Takes u) same b.2)
      | inr is ↦
          let a = takes_piece t path (subst (λ n. Takes (n ∷ t) path) is takes_t) in
          let b = takes_piece u path (subst (λ n. Takes (n ∷ u) path) is takes_u) in
          let at_a = at_slash t a.1 (cut_end t (subst (λ n. is_cut (n ∷ t) ≡ true) is cut_t)) a.4 in
          let at_b = at_slash u b.1 (cut_end u (subst (λ n. is_cut (n ∷ u) ≡ true) is cut_u)) b.4 in
          let same : b.1 ≡ a.1 = same_rest b.0 a.0 b.1 a.1 b.2.1 a.2.1 at_b at_a (sym b.3 ∙ a.3) in
          (a.1, a.4, subst (Takes u) same b.4)
    ]

-- lists that are apart take no path in common
no_path : (t u path : List ℕ) → is_cut t ≡ true → is_cut u ≡ true → apart t u ≡ true → Takes t path → Takes u path → ⊥
no_path [] [] path cut_t cut_u e takes_t takes_u = cc e
no_path [] (y ∷ u) path cut_t cut_u e takes_t takes_u = takes_some y u path takes_u (takes_none path takes_t)
no_path (x ∷ t) [] path cut_t cut_u e takes_t takes_u = takes_some x t path takes_t (takes_none path takes_u)
no_path (x ∷ t) (y ∷ u) path cut_t cut_u e takes_t takes_u =
    by (x == y) refl (λ p. no_path t u p (cut_tail x t cut_t) (cut_tail y u cut_u)) e
  where
    by : (v : Bool) → (x == y) ≡ v → ((p : List ℕ) → apart t u ≡ true → Takes t p → Takes u p → ⊥)
        → cond v (apart t u) (ltb x 256 && ltb y 256) ≡ true → ⊥
    by true q later e =
        let same : y ≡ x = sym (eqb-true x y q) in
        let step = one_step x t u path cut_t (subst (λ n. is_cut (n ∷ u) ≡ true) same cut_u) takes_t (subst (λ n. Takes (n ∷ u) path) same takes_u) in
        later step.0 e step.1 step.2
    by false q later e =
        let both = and_parts (ltb x 256) (ltb y 256) e in
        let a = takes_byte x t path (ltb-true x 256 both.0) takes_t in
        let b = takes_byte y u path (ltb-true y 256 both.1) takes_u in
        let same : x ≡ y = cc (sym a.1 ∙ b.1) in
        eqb-false x y q same

module _ {K : Type 0} where
  abbrev apart_from : List ℕ → RowsOf K → Bool
  apart_from t [] = true
  apart_from t ((u, l) ∷ rs) = apart t u && apart_from t rs

  -- each two rows are apart
  abbrev pub are_apart : RowsOf K → Bool
  are_apart [] = true
  are_apart ((t, k) ∷ rs) = apart_from t rs && are_apart rs

  -- each row is cut
  abbrev pub are_cut : RowsOf K → Bool
  are_cut [] = true
  are_cut ((t, k) ∷ rs) = is_cut t && are_cut rs

  pub cut_at : (rs : RowsOf K) → are_cut rs ≡ true → (t : List ℕ) (k : K) → Has t k rs → is_cut t ≡ true
  cut_at [] e t k h = absurd h
  cut_at ((u, l) ∷ rs) e t k (inl same) = subst (λ w. is_cut w ≡ true) same.0 (and_parts (is_cut u) (are_cut rs) e).0
  cut_at ((u, l) ∷ rs) e t k (inr h) = cut_at rs (and_parts (is_cut u) (are_cut rs) e).1 t k h

  apart_at : (t : List ℕ) (rs : RowsOf K) → apart_from t rs ≡ true → (u : List ℕ) (l : K) → Has u l rs → apart t u ≡ true
  apart_at t [] e u l h = absurd h
  apart_at t ((v, m) ∷ rs) e u l (inl same) = subst (λ w. apart t w ≡ true) same.0 (and_parts (apart t v) (apart_from t rs) e).0
  apart_at t ((v, m) ∷ rs) e u l (inr h) = apart_at t rs (and_parts (apart t v) (apart_from t rs) e).1 u l h

  -- two rows that take one path are one
  pub one_row : (rs : RowsOf K) → are_cut rs ≡ true → are_apart rs ≡ true → (t u path : List ℕ) (k l : K)
      → Has t k rs → Has u l rs → Takes t path → Takes u path → k ≡ l
  one_row [] cut e t u path k l has_t has_u takes_t takes_u = absurd has_t
  one_row ((v, m) ∷ rs) cut e t u path k l (inl at) (inl at_u) takes_t takes_u = sym at.1 ∙ at_u.1
  one_row ((v, m) ∷ rs) cut e t u path k l (inl at) (inr has_u) takes_t takes_u =
      let far = apart_at v rs (and_parts (apart_from v rs) (are_apart rs) e).0 u l has_u in
      absurd (no_path v u path (cut_at ((v, m) ∷ rs) cut v m (inl (refl, refl))) (cut_at ((v, m) ∷ rs) cut u l (inr has_u)) far
      (subst (λ w. Takes w path) (sym at.0) takes_t) takes_u)
  one_row ((v, m) ∷ rs) cut e t u path k l (inr has_t) (inl at) takes_t takes_u =
      let far = apart_at v rs (and_parts (apart_from v rs) (are_apart rs) e).0 t k has_t in
      absurd (no_path v t path (cut_at ((v, m) ∷ rs) cut v m (inl (refl, refl))) (cut_at ((v, m) ∷ rs) cut t k (inr has_t)) far
      (subst (λ w. Takes w path) (sym at.0) takes_u) takes_t)
  one_row ((v, m) ∷ rs) cut e t u path k l (inr has_t) (inr has_u) takes_t takes_u =
      one_row rs (and_parts (is_cut v) (are_cut rs) cut).1 (and_parts (apart_from v rs) (are_apart rs) e).1 t u path k l has_t has_u takes_t takes_u
