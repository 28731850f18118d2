-- A total that is shared by weights is shared whole, into parts of 0 to the total.
use Rattle.std.proofs.Common.{◌≡◌, ◌⊎◌, ℕ, zero, suc, ◌<◌, ◌-◌, ◌∷◌, List, length, replicate, refl, sym, subst, ap, inl, inr, arith}
use Rattle.std.specs.Prelude.{ℤ, pos, negsuc, ◌+ℤ◌, ◌-ℤ◌, ◌≤ℤ◌, ◌<ℤ◌}
use Rattle.std.specs.List.{AllByRecursion}
use Rattle.std.proofs.lemmas.Int.{ints}
use Rattle.std.proofs.Math.ListN.{length-set}
use Rattle.game_model.specs.Game.{IsWithin}
use Rattle.scaled_num.proofs.Each.{each-by-place}
use Rattle.scaled_num.proofs.Floors.{All-at, NoneNegative, at_le_sum, floors-none_negative, floors-sum, replicate-none_negative, set-none_negative, sum-none_negative, sum-zeros, topped-sum}
use Rattle.scaled_num.specs.Share.{AreToppedFloors, IsShared, at}
use Rattle.scaled_num.specs.Sums.{sum_of}

-- parts of a whole
pub record ArePartsOf (whole : ℤ) (count : ℕ) (parts : List ℤ) : Type 0 where
  pub long : length parts ≡ count
  pub not_negative : NoneNegative parts
  pub sums : sum_of parts ≡ whole

none-or-some : (s : ℤ) → pos 0 ≤ℤ s → (s ≡ pos 0) ⊎ (pos 0 <ℤ s)
none-or-some (pos zero) l = inl refl
none-or-some (pos (suc n)) l = inr (omega (arith, ints))
none-or-some (negsuc n) l = absurd (omega (arith, ints))

length-replicate : (n : ℕ) (x : ℤ) → length (replicate n x) ≡ n
length-replicate zero x = refl
length-replicate (suc n) x = ap suc (length-replicate n x)

first-takes-all : (n : ℕ) (whole : ℤ) → pos 0 ≤ℤ whole → ArePartsOf whole (suc n) (whole ∷ replicate n (pos 0))
first-takes-all n whole low = record {
  long = ap suc (length-replicate n (pos 0));
  not_negative = All-at (λ x. pos 0 ≤ℤ x) (whole ∷ replicate n (pos 0)) each;
  sums = omega (arith, ints, sum-zeros n);
}
  where
    each : (i : ℕ) → i < length (whole ∷ replicate n (pos 0)) → pos 0 ≤ℤ at (whole ∷ replicate n (pos 0)) i
    each zero l = low
    each (suc i) l = replicate-none_negative n i (pos 0) (omega arith)

topped-parts : (weights : List ℤ) (whole : ℤ) (shares : List ℤ) → NoneNegative weights → pos 0 ≤ℤ whole → pos 0 <ℤ sum_of weights → AreToppedFloors weights whole shares → ArePartsOf whole (length weights) shares
topped-parts weights whole shares low whole_low some topped =
    let floors = topped.floors in
    let place = topped.place in
    let floors_low : NoneNegative floors = floors-none_negative weights whole floors low whole_low some topped.are_floors in
    let floors_small : sum_of floors ≤ℤ whole = floors-sum weights whole floors some topped.are_floors in
    let inside : place < length floors = omega (arith, topped.is_first.inside, topped.are_floors.same_length) in
    let here : pos 0 ≤ℤ at floors place = floors_low place (pos 0) inside in
    let top : ℤ = at floors place +ℤ (whole -ℤ sum_of floors) in
    subst (ArePartsOf whole (length weights)) (sym topped.topped) (record {
      long = simp length-set topped.are_floors.same_length;
      not_negative = set-none_negative floors place top floors_low (omega (arith, ints, here, floors_small));
      sums = topped-sum floors place whole inside;
    })

pub shared-parts : (weights : List ℤ) (whole : ℤ) (shares : List ℤ) → NoneNegative weights → 0 < length weights → pos 0 ≤ℤ whole → IsShared weights whole shares → ArePartsOf whole (length weights) shares
shared-parts weights whole shares low some whole_low shared = elim (none-or-some (sum_of weights) (sum-none_negative weights low)) [
  | inl e ↦ subst (ArePartsOf whole (length weights)) (sym (shared.none e)) (subst (λ (n : ℕ). ArePartsOf whole n (whole ∷ replicate (length weights - 1) (pos 0))) (let back : suc (length weights - 1) ≡ length weights = omega arith in back) (first-takes-all (length weights - 1) whole whole_low))
  | inr l ↦ topped-parts weights whole shares low whole_low l (shared.some l)
]

-- each part is 0 to the whole
pub parts-within : (whole : ℤ) (count : ℕ) (parts : List ℤ) → ArePartsOf whole count parts → AllByRecursion (IsWithin (pos 0) whole) parts
parts-within whole count parts are =
    each-by-place (IsWithin (pos 0) whole) (pos 0) parts
    (λ i l. (are.not_negative i (pos 0) l, let small : at parts i ≤ℤ sum_of parts = at_le_sum parts i are.not_negative l in subst (λ z. at parts i ≤ℤ z) are.sums small))
