-- One more of a list, and the size of numbers.
use Rattle.std.proofs.Common.{◌≡◌, ℕ, ◌+◌, ◌^◌, ◌<◌, List, [], ◌∷◌, length, ◌++◌, get_or, take, map, ap, arith, ◌∙◌}
use Rattle.std.specs.Prelude.{ℤ, pos, ◌+ℤ◌, FitsSigned}
use Rattle.std.specs.List.{AllByRecursion}
use Rattle.std.specs.Int.{w128}
use Rattle.std.proofs.lemmas.Int.{ints, fits_signed_from_abs}
use Rattle.std.proofs.lemmas.List.{take_more, map-append}
use Rattle.scaled_num.specs.Sums.{total}
use Rattle.scaled_num.proofs.Products.{sums}
use Rattle.scaled_num.proofs.Sums.{total-append, each-at}
use Rattle.game_model.specs.Game.{IsWithin}

pub total-more : {X : Type 0} (f : X → ℤ) (xs : List X) (i : ℕ) (d : X) → i < length xs → total f (take (i + 1) xs) ≡ total f (take i xs) +ℤ f (get_or xs i d)
total-more f xs i d l = ap (total f) (take_more xs i d l) ∙ total-append f (take i xs) (get_or xs i d ∷ []) ∙ omega (arith, sums)

pub map-more : {X Y : Type 0} (f : X → Y) (xs : List X) (i : ℕ) (d : X) → i < length xs → map f (take (i + 1) xs) ≡ map f (take i xs) ++ f (get_or xs i d) ∷ []
map-more f xs i d l = ap (map f) (take_more xs i d l) ∙ map-append f (take i xs) (get_or xs i d ∷ [])

pub weight_fits : (weights : List ℤ) (i : ℕ) (d : ℤ) → AllByRecursion (IsWithin (pos 0) (pos (2 ^ 20))) weights → i < length weights → FitsSigned w128 (get_or weights i d)
weight_fits weights i d each l =
    let w = each-at (IsWithin (pos 0) (pos (2 ^ 20))) d weights i each l in
    let low = w.0 in
    let high = w.1 in
    fits_signed_from_abs w128 (get_or weights i d) (omega (arith, ints))
