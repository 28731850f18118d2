-- Lists that are the same have the same first item and the same others.
use Rattle.std.proofs.Common.{◌≡◌, List, [], ◌∷◌, drop, length, ap, arith}
use Rattle.std.specs.Prelude.{slice_index_or}

pub head-same : {X : Type 0} (x y : X) (xs ys : List X) → x ∷ xs ≡ y ∷ ys → x ≡ y
head-same x y xs ys e = ap (λ (l : List _). slice_index_or l 0 x) e

pub tail-same : {X : Type 0} (x y : X) (xs ys : List X) → x ∷ xs ≡ y ∷ ys → xs ≡ ys
tail-same x y xs ys e = ap (λ (l : List _). drop 1 l) e

pub some-none : {X : Type 0} (x : X) (xs : List X) → x ∷ xs ≡ [] → ⊥
some-none x xs e = omega (arith, ap length e)

pub none-some : {X : Type 0} (x : X) (xs : List X) → [] ≡ x ∷ xs → ⊥
none-some x xs e = omega (arith, ap length e)
