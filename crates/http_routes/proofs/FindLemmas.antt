-- A path that the tokens of a row take is found.
use Rattle.std.proofs.Common.{◌≡◌, ◌⊎◌, inl, inr, ℕ, List, [], ◌∷◌, ◌++◌, length, Option, Some, None, Bool, true, false, cond, ◌==◌, refl, sym, ap, ◌∙◌, subst, arith, append-nil}
use Rattle.std.proofs.lemmas.Bool.{eqb-true, eqb-false}
use Rattle.matchit.specs.Rows.{RowsOf}
use Rattle.matchit.specs.Seek.{seek, step, own, or_else, segment, longest_from, longest_suffix, with_suffix, same_text}
use Rattle.matchit.proofs.ParamLemmas.{same_text-self}
use Rattle.http_routes.specs.Forms.{IsWhole, IsPiece, Takes, done, byte, param, rest, Has}
use Rattle.http_routes.proofs.PathLemmas.{cuts-slash, cuts-end, param-piece, param-last, seek-skip, seek-skip_end, one_less}
use Rattle.http_routes.proofs.SoundLemmas.{step-has, suffix-has}
use Rattle.http_routes.proofs.TakesLemmas.{takes_byte, takes_none, at_end, is_cut, cut_tail, cut_end}

-- tokens that end, or go on with a slash
segment-cut : (t : List ℕ) → at_end t ≡ true → (segment t ≡ []) ⊎ (segment t ≡ 47 ∷ [])
segment-cut [] e = inl refl
segment-cut (b ∷ t) e = let is : b ≡ 47 = eqb-true b 47 e in inr (rw is refl)

module _ {K : Type 0} where
  abbrev pub AreCut : RowsOf K → Type 0
  AreCut rs = (t : List ℕ) (k : K) → Has t k rs → is_cut t ≡ true

  abbrev AtEnds : RowsOf K → Type 0
  AtEnds rs = (t : List ℕ) (k : K) → Has t k rs → at_end t ≡ true

  cut-step : (b : ℕ) (rs : RowsOf K) → AreCut rs → AreCut (step b rs)
  cut-step b rs cut t k h = cut_tail b t (cut (b ∷ t) k (step-has b t k rs h))

  cut-suffix : (s : List ℕ) (rs : RowsOf K) → AreCut rs → AreCut (with_suffix s rs)
  cut-suffix s rs cut t k h = cut t k (suffix-has s t k rs h)

  ends-step : (rs : RowsOf K) → AreCut rs → AtEnds (step 256 rs)
  ends-step rs cut t k h = cut_end t (cut (256 ∷ t) k (step-has 256 t k rs h))

  -- a row goes on behind its first token, and ends where it has none
  has-step : (b : ℕ) (t : List ℕ) (k : K) (rs : RowsOf K) → Has (b ∷ t) k rs → Has t k (step b rs)
  has-step b t k [] h = h
  has-step b t k (([], l) ∷ rs) (inl same) = absurd (cc same.0)
  has-step b t k (([], l) ∷ rs) (inr h) = has-step b t k rs h
  has-step b t k ((x ∷ u, l) ∷ rs) h = by (x == b) refl (has-step b t k rs) h
    where
      by : (v : Bool) → (x == b) ≡ v → (Has (b ∷ t) k rs → Has t k (step b rs)) → Has (b ∷ t) k ((x ∷ u, l) ∷ rs)
          → Has t k (cond v ((u, l) ∷ step b rs) (step b rs))
      by true e more (inl same) = let later : u ≡ t = cc same.0 in inl (later, same.1)
      by true e more (inr has) = inr (more has)
      by false e more (inl same) = let first : x ≡ b = cc same.0 in absurd (eqb-false x b e first)
      by false e more (inr has) = more has

  own-some : (k : K) (rs : RowsOf K) → Has [] k rs → (found : K) × (own rs ≡ Some found)
  own-some k [] h = absurd h
  own-some k (([], l) ∷ rs) h = (l, refl)
  own-some k ((x ∷ t, l) ∷ rs) (inl same) = absurd (cc same.0)
  own-some k ((x ∷ t, l) ∷ rs) (inr h) = own-some k rs h

  has-suffix : (t : List ℕ) (k : K) (rs : RowsOf K) → Has t k rs → Has t k (with_suffix (segment t) rs)
  has-suffix t k [] h = h
  has-suffix t k ((u, l) ∷ rs) h = by (same_text (segment u) (segment t)) refl (has-suffix t k rs) h
    where
      by : (v : Bool) → same_text (segment u) (segment t) ≡ v → (Has t k rs → Has t k (with_suffix (segment t) rs)) → Has t k ((u, l) ∷ rs)
          → Has t k (cond v ((u, l) ∷ with_suffix (segment t) rs) (with_suffix (segment t) rs))
      by true e more (inl same) = inl same
      by true e more (inr has) = inr (more has)
      by false e more (inl same) =
          let itself : same_text (segment t) (segment t) ≡ false = subst (λ w. same_text (segment w) (segment t) ≡ false) same.0 e in
          absurd (cc (sym itself ∙ same_text-self (segment t)))
      by false e more (inr has) = more has

  -- the longest suffix of rows behind a parameter is a slash, if one goes on with it and the piece does
  longest-kept : (b : ℕ) (h : List ℕ) (rs : RowsOf K) → AtEnds rs → longest_from ((b ∷ h) ++ 47 ∷ []) (47 ∷ []) rs ≡ 47 ∷ []
  longest-kept b h [] ends = refl
  longest-kept b h ((u, l) ∷ rs) ends =
      let more = longest-kept b h rs (λ t k has. ends t k (inr has)) in
      elim (segment-cut u (ends u l (inl (refl, refl)))) [ inl none ↦ rw none more | inr slash ↦ rw slash more ]

  longest-slash : (b : ℕ) (h t : List ℕ) (k : K) (rs : RowsOf K) → AtEnds rs → Has (47 ∷ t) k rs
      → longest_suffix ((b ∷ h) ++ 47 ∷ []) rs ≡ 47 ∷ []
  longest-slash b h t k [] ends has = absurd has
  longest-slash b h t k ((u, l) ∷ rs) ends has =
      elim (segment-cut u (ends u l (inl (refl, refl)))) [
        | inl none ↦ rw none (longest-slash b h t k rs (λ v m at. ends v m (inr at)) (later none has))
        | inr slash ↦ rw (slash, cuts-slash b h) (longest-kept b h rs (λ v m at. ends v m (inr at)))
      ]
    where
      later : segment u ≡ [] → Has (47 ∷ t) k ((u, l) ∷ rs) → Has (47 ∷ t) k rs
      later none (inl same) = absurd (cc (sym none ∙ ap segment same.0))
      later none (inr has) = has

  longest-end : (b : ℕ) (h : List ℕ) (rs : RowsOf K) → IsWhole (b ∷ h) → AtEnds rs → longest_suffix (b ∷ h) rs ≡ []
  longest-end b h [] whole ends = refl
  longest-end b h ((u, l) ∷ rs) whole ends =
      let more = longest-end b h rs whole (λ t k has. ends t k (inr has)) in
      elim (segment-cut u (ends u l (inl (refl, refl)))) [ inl none ↦ rw none more | inr slash ↦ rw (slash, cuts-end b h whole) more ]

  abbrev Found : RowsOf K → List ℕ → Type 0
  Found rs path = (found : K) × (seek 0 rs path ≡ Some found)

  some_first : (a c : Option K) (k : K) → a ≡ Some k → (found : K) × (or_else a c ≡ Some found)
  some_first a c k e = (k, rw e refl)

  some_next : (a c d : Option K) (k : K) → c ≡ Some k → (found : K) × (or_else a (or_else c d) ≡ Some found)
  some_next None c d k e = (k, rw e refl)
  some_next (Some x) c d k e = (x, refl)

  -- a piece, and a slash behind it
  piece_found : (rs : RowsOf K) (b : ℕ) (h later : List ℕ) (k : K) → IsWhole (b ∷ h)
      → longest_suffix ((b ∷ h) ++ 47 ∷ []) (step 256 rs) ≡ 47 ∷ []
      → seek 0 (with_suffix (47 ∷ []) (step 256 rs)) (47 ∷ later) ≡ Some k → Found rs ((b ∷ h) ++ 47 ∷ later)
  unfolding seek
  piece_found rs b h later k ok longest e =
      let at = param-piece (step 256 rs) (b ∷ h) later ok longest in
      let go = seek-skip h (with_suffix (47 ∷ []) (step 256 rs)) (47 ∷ later) in
      some_next (seek 0 (step b rs) (h ++ 47 ∷ later)) _ (own (step 257 rs)) k (rw (at, one_less (length h)) (go ∙ e))

  -- a piece that ends the path
  last_found : (rs : RowsOf K) (b : ℕ) (h : List ℕ) (k : K) → IsWhole (b ∷ h) → longest_suffix (b ∷ h) (step 256 rs) ≡ []
      → own (step 256 rs) ≡ Some k → Found rs (b ∷ h)
  unfolding seek
  last_found rs b h k ok longest e =
      let at = param-last (step 256 rs) (b ∷ h) ok longest in
      some_next (seek 0 (step b rs) h) _ (own (step 257 rs)) k (rw (at, one_less (length h)) (seek-skip_end h (step 256 rs) ∙ e))

  after_piece : (u piece after : List ℕ) (k : K) (rs : RowsOf K) → AreCut rs → Has (256 ∷ u) k rs → IsPiece piece → Takes u after
      → Found (with_suffix (segment u) (step 256 rs)) after → Found rs (piece ++ after)
  after_piece u [] after k rs cut has ok takes found = absurd (omega (arith, ok.0))
  after_piece [] (b ∷ h) after k rs cut has ok takes found =
      let is = own-some k (step 256 rs) (has-step 256 [] k rs has) in
      let none = takes_none after takes in
      subst (λ p. Found rs ((b ∷ h) ++ p)) (sym none)
      (subst (Found rs) (sym (append-nil (b ∷ h))) (last_found rs b h is.0 ok.1 (longest-end b h (step 256 rs) ok.1 (ends-step rs cut)) is.1))
  after_piece (c ∷ u) (b ∷ h) after k rs cut has ok takes found =
      let is : c ≡ 47 = eqb-true c 47 (cut_end (c ∷ u) (cut (256 ∷ c ∷ u) k has)) in
      let at : Has (47 ∷ u) k (step 256 rs) = subst (λ n. Has (n ∷ u) k (step 256 rs)) is (has-step 256 (c ∷ u) k rs has) in
      let next = takes_byte 47 u after (omega arith) (subst (λ n. Takes (n ∷ u) after) is takes) in
      let there : Found (with_suffix (47 ∷ []) (step 256 rs)) (47 ∷ next.0) =
      subst (Found (with_suffix (47 ∷ []) (step 256 rs))) next.1 (subst (λ n. Found (with_suffix (segment (n ∷ u)) (step 256 rs)) after) is found) in
      subst (λ p. Found rs ((b ∷ h) ++ p)) (sym next.1)
      (piece_found rs b h next.0 there.0 ok.1 (longest-slash b h u k (step 256 rs) (ends-step rs cut) at) there.1)

  -- what takes the path is found, or something else is
  pub found_of : (t path : List ℕ) (k : K) (rs : RowsOf K) → AreCut rs → Has t k rs → Takes t path → Found rs path
  unfolding seek
  found_of t path k rs cut has done = own-some k rs has
  found_of t path k rs cut has (byte {b = b} {t = u} {path = p} h) =
      let found = found_of u p k (step b rs) (cut-step b rs cut) (has-step b u k rs has) h in
      some_first (seek 0 (step b rs) p) _ found.0 found.1
  found_of t path k rs cut has (param {t = u} piece after ok e h) =
      let later : RowsOf K = with_suffix (segment u) (step 256 rs) in
      let found = found_of u after k later (cut-suffix (segment u) (step 256 rs) (cut-step 256 rs cut)) (has-suffix u k (step 256 rs) (has-step 256 u k rs has)) h in
      subst (Found rs) (sym e) (after_piece u piece after k rs cut has ok h found)
  found_of t path k rs cut has rest = absurd (cc (cut t k has))
