-- Two options that agree in two parts agree in both together.
use Rattle.std.proofs.Common.{◌≡◌, Option, Some, None, option_map, refl}

pub option_map-both : {X B P Q : Type 0} (f : X → P) (g : X → Q) (h : B → P) (k : B → Q) (x : Option X) (b : Option B)
    → option_map f x ≡ option_map h b
    → option_map g x ≡ option_map (λ (p : P × Q). p.1) (option_map {U = P × Q} (λ y. (h y, k y)) b)
    → option_map {U = P × Q} (λ y. (f y, g y)) x ≡ option_map {U = P × Q} (λ y. (h y, k y)) b
option_map-both f g h k None None e e' = refl
option_map-both f g h k None (Some b) e e' = cc e
option_map-both f g h k (Some x) None e e' = cc e
option_map-both f g h k (Some x) (Some b) e e' = cc (e, e')
