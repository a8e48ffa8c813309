-- What the router finds takes the path.
use Rattle.std.proofs.Common.{◌≡◌, ◌≢◌, ◌⊎◌, inl, inr, ℕ, zero, suc, ◌-◌, ◌<◌, ◌≤◌, List, [], ◌∷◌, length, take, drop, Option, Some, None, Bool, true, false, cond, ◌==◌, refl, sym, ap, ◌∙◌, subst, arith, ltb}
use Rattle.std.proofs.lemmas.Bool.{ltb-true, eqb-true, eqb-false}
use Rattle.std.proofs.lemmas.List.Elements.{All-cons, All-nil}
use Rattle.std.proofs.lemmas.List.{take-append-drop, take_all}
use Rattle.matchit.specs.Rows.{RowsOf}
use Rattle.matchit.specs.Seek.{seek, param_step, step, own, or_else, segment, has_slash, longest_suffix, with_suffix, same_text}
use Rattle.matchit.specs.Router.{rename}
use Rattle.matchit.proofs.ParamLemmas.{longest-short, length-segment}
use Rattle.matchit.proofs.RenameLemmas.{longest-rename}
use Rattle.http_routes.specs.Forms.{IsWhole, Takes, done, byte, param, rest, Has}
use Rattle.http_routes.proofs.PathLemmas.{one_less}

module _ {K : Type 0} where
  own-has : (rs : RowsOf K) (k : K) → own rs ≡ Some k → Has [] k rs
  own-has [] k h = cc h
  own-has (([], l) ∷ rs) k h = inl (refl, some_of l h)
    where
      some_of : (m : K) → Some m ≡ Some k → m ≡ k
      some_of m e = cc e
  own-has ((x ∷ t, l) ∷ rs) k h = inr (own-has rs k h)

  pub step-has : (b : ℕ) (t : List ℕ) (k : K) (rs : RowsOf K) → Has t k (step b rs) → Has (b ∷ t) k rs
  step-has b t k [] h = h
  step-has b t k (([], l) ∷ rs) h = inr (step-has b t k rs h)
  step-has b t k ((x ∷ u, l) ∷ rs) h = by (x == b) refl (step-has b t k rs) h
    where
      by : (v : Bool) → (x == b) ≡ v → (Has t k (step b rs) → Has (b ∷ t) k rs) → Has t k (cond v ((u, l) ∷ step b rs) (step b rs)) → Has (b ∷ t) k ((x ∷ u, l) ∷ rs)
      by true e more (inl same) = let xb : x ≡ b = eqb-true x b e in inl (ap (λ z. z ∷ u) xb ∙ ap (λ z. b ∷ z) same.0, same.1)
      by true e more (inr has) = inr (more has)
      by false e more has = inr (more has)

  pub suffix-has : (s t : List ℕ) (k : K) (rs : RowsOf K) → Has t k (with_suffix s rs) → Has t k rs
  suffix-has s t k [] h = h
  suffix-has s t k ((u, l) ∷ rs) h = by (same_text (segment u) s) (suffix-has s t k rs) h
    where
      by : (v : Bool) → (Has t k (with_suffix s rs) → Has t k rs) → Has t k (cond v ((u, l) ∷ with_suffix s rs) (with_suffix s rs)) → Has t k ((u, l) ∷ rs)
      by true more (inl same) = inl same
      by true more (inr has) = inr (more has)
      by false more has = inr (more has)

  or_cases : (a c : Option K) (k : K) → or_else a c ≡ Some k → (a ≡ Some k) ⊎ (c ≡ Some k)
  or_cases None c k h = inr h
  or_cases (Some x) c k h = inl h

  -- the longest suffix is empty, or shorter than the segment
  shorter : (seg : List ℕ) (rs : RowsOf K) → (length (longest_suffix seg rs) ≡ 0) ⊎ (length (longest_suffix seg rs) < length seg)
  shorter seg rs =
      let F : List ℕ → Type 0 = λ s. (length s ≡ 0) ⊎ (length s < length seg) in
      subst F (longest-rename (λ (k : K). 0) seg [] rs) (longest-short seg [] (rename (λ (k : K). 0) rs) (inl refl))

-- fewer bytes than the whole segment have no slash
whole-front : (p : List ℕ) (n : ℕ) → n < length (segment p) → IsWhole (take n p)
whole-front [] n h = elim h [ ]
whole-front (b ∷ p) zero h = All-nil (λ c. c ≢ 47)
whole-front (b ∷ p) (suc n) h = by (b == 47) refl (whole-front p n) h
  where
    by : (v : Bool) → (b == 47) ≡ v → (n < length (segment p) → IsWhole (take n p)) → suc n < length (cond v (b ∷ []) (b ∷ segment p)) → IsWhole (b ∷ take n p)
    by true e more lt = absurd (omega arith)
    by false e more lt = All-cons (λ c. c ≢ 47) b (take n p) (eqb-false b 47 e) (more (omega arith))

-- nor has a path without one
whole-path : (p : List ℕ) → has_slash p ≡ false → IsWhole p
whole-path [] h = All-nil (λ c. c ≢ 47)
whole-path (b ∷ p) h = by (b == 47) refl (whole-path p) h
  where
    by : (v : Bool) → (b == 47) ≡ v → (has_slash p ≡ false → IsWhole p) → cond v true (has_slash p) ≡ false → IsWhole (b ∷ p)
    by true e more none = cc none
    by false e more none = All-cons (λ c. c ≢ 47) b p (eqb-false b 47 e) (more none)

-- what a row of the rows takes
abbrev pub Finds : {K : Type 0} → RowsOf K → K → List ℕ → Type 0
Finds rs k path = (t : List ℕ) × Has t k rs × Takes t path

takes-from : (n b : ℕ) (path t : List ℕ) → 0 < n → n ≤ suc (length path) → IsWhole (take n (b ∷ path)) → Takes t (drop (n - 1) path) → Takes (256 ∷ t) (b ∷ path)
takes-from zero b path t pos fits whole h = absurd (omega arith)
takes-from (suc m) b path t pos fits whole h =
    let some : 0 < length (take (suc m) (b ∷ path)) = omega arith in
    param (take (suc m) (b ∷ path)) (drop m path) (some, whole) (sym (take-append-drop (suc m) (b ∷ path))) (rw one_less at h)

module _ {K : Type 0} where
  -- a parameter takes at most the path, and a piece of it
  abbrev Stepped : RowsOf K → ℕ → List ℕ → ℕ × RowsOf K → Type 0
  Stepped rs b path ps =
      (ps.0 - 1 ≤ length path)
      × ((t : List ℕ) (k : K) → Has t k ps.1 → Takes t (drop (ps.0 - 1) path) → Has t k rs × Takes (256 ∷ t) (b ∷ path))

  param-steps : (rs : RowsOf K) (b : ℕ) (path : List ℕ) → Stepped rs b path (param_step rs (b ∷ path))
  unfolding param_step
  param-steps rs b path = by (ltb 0 (length L)) (has_slash (b ∷ path)) refl refl
    where
      L : List ℕ
      L = longest_suffix (segment (b ∷ path)) rs

      by : (u v : Bool) → ltb 0 (length L) ≡ u → has_slash (b ∷ path) ≡ v
          → Stepped rs b path (cond u (length (segment (b ∷ path)) - length L, with_suffix L rs) (cond v (0, []) (length (b ∷ path), rs)))
      by true v some e =
          let pos : 0 < length L = ltb-true 0 (length L) some in
          let most = length-segment (b ∷ path) in
          elim (shorter (segment (b ∷ path)) rs) [
            | inl z ↦ absurd (omega (arith, z, pos))
            | inr lt ↦ (
              omega (arith, lt, most, pos),
              λ t k h w. (
                suffix-has L t k rs h,
                takes-from (length (segment (b ∷ path)) - length L) b path t (omega (arith, lt)) (omega (arith, most))
                    (whole-front (b ∷ path) (length (segment (b ∷ path)) - length L) (omega (arith, lt, pos))) w,
              ),
            )
          ]
      by false true none e = (omega arith, λ t k h w. elim h [ ])
      by false false none e = (omega arith, λ t k h w. (h, takes-from (length (b ∷ path)) b path t (omega arith) (omega arith) (subst IsWhole (sym (take_all (length (b ∷ path)) (b ∷ path) (omega arith))) (whole-path (b ∷ path) e)) w))

pub sound : {K : Type 0} (path : List ℕ) (skip : ℕ) (rs : RowsOf K) (k : K) → skip ≤ length path → seek skip rs path ≡ Some k → Finds rs k (drop skip path)
unfolding seek
sound [] zero rs k fits h = ([], own-has rs k h, done)
sound [] (suc skip) rs k fits h = absurd (omega arith)
sound (b ∷ path) (suc skip) rs k fits h = sound path skip rs k (omega arith) h
sound (b ∷ path) zero rs k fits h =
    elim (or_cases (seek 0 (step b rs) path) _ k h) [
      | inl literal ↦
          let f = sound path 0 (step b rs) k (omega arith) literal in
          (b ∷ f.0, step-has b f.0 k rs f.1, byte f.2)
      | inr more ↦ elim (or_cases (seek ((param_step (step 256 rs) (b ∷ path)).0 - 1) (param_step (step 256 rs) (b ∷ path)).1 path) _ k more) [
        | inl parameter ↦
            let steps = param-steps (step 256 rs) b path in
            let f = sound path ((param_step (step 256 rs) (b ∷ path)).0 - 1) (param_step (step 256 rs) (b ∷ path)).1 k steps.0 parameter in
            let g = steps.1 f.0 k f.1 f.2 in
            (256 ∷ f.0, step-has 256 f.0 k rs g.0, g.1)
        | inr catch_all ↦ (257 ∷ [], step-has 257 [] k rs (own-has (step 257 rs) k catch_all), rest)
      ]
    ]
