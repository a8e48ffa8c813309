-- Laws of readings, for the proofs of the crates above.
use Rattle.std.specs.Prelude.{◌≡◌, ℕ, ◌==◌, true, List, [], ◌++◌, Option}
use Rattle.std.proofs.Common.{sym, ap, ◌∙◌, subst, arith, append_assoc, append-nil, length-append}
use Rattle.std.proofs.lemmas.Bool.Decides.{nat_tests}
use Rattle.stream_traits.specs.Told.{before}
use Rattle.stream_traits.specs.ToldLaws.{before_nil, before_append}
use Rattle.http_bodies.specs.declared.body.Body.{Body}
use Rattle.http_bodies.specs.declared.body.Place.{Place}
use Rattle.http_bodies.specs.declared.body.Place.TheVariants.{Counted, Line, InChunk, Trailer, Done}
use Rattle.http_bodies.specs.Bodies.{Coding, OfLength, Chunked, IsBody, IsAtPlace, IsAt, is_done_at}
use Rattle.http_bodies.specs.Reads.{Reads}

-- a reading that goes no way
pub Reads-none : (body : Body) (left : Option (List ℕ)) → Reads body body left left []
Reads-none body left = record {
  raw = [];
  took = sym (before_nil left);
  at = λ coding front had at.
      subst (λ (xs : List ℕ). IsAt coding body xs (had ++ [])) (sym (append-nil front))
      (subst (λ (xs : List ℕ). IsAt coding body front xs) (sym (append-nil had)) at);
  less = omega arith;
}

-- one reading, and then another
pub Reads-then : (a b c : Body) (l m r : Option (List ℕ)) (got more : List ℕ) → Reads a b l m got → Reads b c m r more → Reads a c l r (got ++ more)
Reads-then a b c l m r got more x y = record {
  raw = x.raw ++ y.raw;
  took = x.took ∙ ap (before x.raw) y.took ∙ sym (before_append x.raw y.raw r);
  at = λ coding front had at.
      subst (λ (xs : List ℕ). IsAt coding c xs (had ++ (got ++ more))) (append_assoc front x.raw y.raw)
      (subst (λ (xs : List ℕ). IsAt coding c ((front ++ x.raw) ++ y.raw) xs) (append_assoc had got more)
      (y.at coding (front ++ x.raw) (had ++ got) (x.at coding front had at)));
  less = omega (arith, x.less, y.less, length-append got more);
}

zero_where : (size : ℕ) → (size == 0) ≡ true → size ≡ 0
zero_where size e = grind (arith, nat_tests)

-- all was read: a whole body
pub IsBody-done : (coding : Coding) (place : Place) (room : ℕ) (raw got : List ℕ) → is_done_at place ≡ true → IsAtPlace coding place room raw got → IsBody coding raw got
IsBody-done (OfLength count) (Counted left) room raw got done at = (at.0, omega (arith, at.1, zero_where left done))
IsBody-done (OfLength count) Line room raw got done at = absurd at
IsBody-done (OfLength count) (InChunk left) room raw got done at = absurd at
IsBody-done (OfLength count) Trailer room raw got done at = absurd at
IsBody-done (OfLength count) Done room raw got done at = absurd at
IsBody-done Chunked (Counted left) room raw got done at = absurd at
IsBody-done Chunked Line room raw got done at = absurd (cc)
IsBody-done Chunked (InChunk left) room raw got done at = absurd (cc)
IsBody-done Chunked Trailer room raw got done at = absurd (cc)
IsBody-done Chunked Done room raw got done at = at
