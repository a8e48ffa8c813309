-- What the router's search does at a parameter.
use Rattle.std.proofs.Common.{◌≡◌, ◌≢◌, ℕ, suc, ◌-◌, List, [], ◌∷◌, ◌++◌, length, true, false, ◌==◌, refl, sym, arith, nat_eq, ltb, length-append, drop}
use Rattle.std.proofs.lemmas.List.Elements.{All-head, All-tail}
use Rattle.std.proofs.lemmas.Bool.{ne_eqb, lt-ltb}
use Rattle.std.proofs.Math.Bool.{and-false}
use Rattle.std.specs.List.{ends_with}
use Rattle.matchit.specs.Rows.{RowsOf}
use Rattle.matchit.specs.Seek.{seek, param_step, own, segment, has_slash, longest_suffix, with_suffix, cuts}
use Rattle.http_routes.specs.Forms.{IsWhole}

-- the segment of a piece that a slash follows, and of one that ends the path
pub segment-slash : (h rest : List ℕ) → IsWhole h → segment (h ++ 47 ∷ rest) ≡ h ++ 47 ∷ []
segment-slash [] rest ok = refl
segment-slash (b ∷ h) rest ok =
    let ne : (b == 47) ≡ false = ne_eqb b 47 (All-head (λ c. c ≢ 47) b h ok) in
    let more = segment-slash h rest (All-tail (λ c. c ≢ 47) b h ok) in
    rw (ne, more) refl

pub segment-end : (h : List ℕ) → IsWhole h → segment h ≡ h
segment-end [] ok = refl
segment-end (b ∷ h) ok =
    let ne : (b == 47) ≡ false = ne_eqb b 47 (All-head (λ c. c ≢ 47) b h ok) in
    let more = segment-end h (All-tail (λ c. c ≢ 47) b h ok) in
    rw (ne, more) refl

pub has_slash-end : (h : List ℕ) → IsWhole h → has_slash h ≡ false
has_slash-end [] ok = refl
has_slash-end (b ∷ h) ok =
    let ne : (b == 47) ≡ false = ne_eqb b 47 (All-head (λ c. c ≢ 47) b h ok) in
    rw ne (has_slash-end h (All-tail (λ c. c ≢ 47) b h ok))

-- skipping what was taken
pub seek-skip : {K : Type 0} (h : List ℕ) (rs : RowsOf K) (rest : List ℕ) → seek (length h) rs (h ++ rest) ≡ seek 0 rs rest
unfolding seek
seek-skip [] rs rest = refl
seek-skip (b ∷ h) rs rest = seek-skip h rs rest

pub seek-skip_end : {K : Type 0} (h : List ℕ) (rs : RowsOf K) → seek (length h) rs h ≡ own rs
unfolding seek
seek-skip_end [] rs = refl
seek-skip_end (b ∷ h) rs = seek-skip_end h rs

drop-own : (h xs : List ℕ) → drop (length h) (h ++ xs) ≡ xs
drop-own [] xs = refl
drop-own (b ∷ h) xs = drop-own h xs

-- a slash ends what a slash follows
ends-slash : (h : List ℕ) → ends_with nat_eq (h ++ 47 ∷ []) (47 ∷ []) ≡ true
ends-slash h =
    let n : length (h ++ 47 ∷ []) - 1 ≡ length h = omega (arith, length-append h (47 ∷ [])) in
    rw (n, drop-own h (47 ∷ [])) refl

pub cuts-slash : (b : ℕ) (h : List ℕ) → cuts ((b ∷ h) ++ 47 ∷ []) (47 ∷ []) ≡ true
cuts-slash b h =
    let long : ltb 1 (length ((b ∷ h) ++ 47 ∷ [])) ≡ true = lt-ltb 1 _ (omega (arith, length-append h (47 ∷ []))) in
    rw (long, ends-slash (b ∷ h)) refl

pub one_less : (n : ℕ) → suc n - 1 ≡ n
one_less n = omega arith

no-end : (b : ℕ) (h : List ℕ) → IsWhole (b ∷ h) → ends_with nat_eq (b ∷ h) (47 ∷ []) ≡ false
no-end b [] ok =
    let ne : (47 == b) ≡ false = ne_eqb 47 b (λ e. All-head (λ c. c ≢ 47) b [] ok (sym e)) in
    rw ne refl
no-end b (c ∷ h) ok =
    let more = no-end c h (All-tail (λ d. d ≢ 47) b (c ∷ h) ok) in
    rw one_less (rw one_less at more)

pub cuts-end : (b : ℕ) (h : List ℕ) → IsWhole (b ∷ h) → cuts (b ∷ h) (47 ∷ []) ≡ false
cuts-end b h ok = rw (no-end b h ok) (and-false _)

module _ {K : Type 0} where
  pub param-piece : (rs : RowsOf K) (h rest : List ℕ) → IsWhole h → longest_suffix (h ++ 47 ∷ []) rs ≡ 47 ∷ []
      → param_step rs (h ++ 47 ∷ rest) ≡ (length h, with_suffix (47 ∷ []) rs)
  unfolding param_step
  param-piece rs h rest ok longest =
      let seg = segment-slash h rest ok in
      let n : length (h ++ 47 ∷ []) - 1 ≡ length h = omega (arith, length-append h (47 ∷ [])) in
      rw (seg, longest, n) refl

  pub param-last : (rs : RowsOf K) (h : List ℕ) → IsWhole h → longest_suffix h rs ≡ [] → param_step rs h ≡ (length h, rs)
  unfolding param_step
  param-last rs h ok longest = rw (segment-end h ok, longest, has_slash-end h ok) refl
