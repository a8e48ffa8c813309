-- The parts of a sealed file, which tell its body.
use Rattle.std.proofs.Common.{◌≡◌, ℕ, ◌+◌, ◌-◌, List, length, take, drop, refl, sym, ap, ◌∙◌, arith}
use Rattle.std.proofs.lemmas.List.{take_at, drop_at, length-append}
use Rattle.md5.specs.Md5.{md5}
use Rattle.md5.proofs.StandardFacts.{length-md5}
use Rattle.wire_bytes.specs.Seal.{sealed}

-- a seal has 16 bytes
pub length-sealed : (body : List ℕ) → length (sealed body) ≡ length body + 16
unfolding sealed
length-sealed body = omega (arith, length-append body (md5 body), length-md5 body)

pub record Parts (file content : List ℕ) : Type 0 where
  pub body : take (length file - 16) file ≡ content
  pub seal : drop (length file - 16) file ≡ md5 content

pub parts_of_sealed : (file body : List ℕ) → file ≡ sealed body → Parts file body
unfolding sealed
parts_of_sealed file body e =
    let place : length body ≡ length file - 16 = omega (arith, ap length e, length-sealed body) in
    record {
      body = ap (take (length file - 16)) e ∙ take_at body (md5 body) (length file - 16) place;
      seal = ap (drop (length file - 16)) e ∙ drop_at body (md5 body) (length file - 16) place;
    }

-- no two bodies have one sealed file
pub same_from_sealed : (a b : List ℕ) → sealed a ≡ sealed b → a ≡ b
same_from_sealed a b e = sym (parts_of_sealed (sealed a) a refl).body ∙ (parts_of_sealed (sealed a) b e).body
