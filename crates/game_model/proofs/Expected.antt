-- A running sum over the landings of a row, and its size.
use Rattle.std.proofs.Common.{◌≡◌, ℕ, ◌+◌, ◌*◌, ◌^◌, ◌<◌, ◌≤◌, List, length, get_or, take, sum_by, ap, arith, sym, ◌∙◌}
use Rattle.std.specs.Prelude.{ℤ, pos, ◌+ℤ◌, ◌*ℤ◌, unsigned_abs, FitsSigned}
use Rattle.std.specs.List.{AllByRecursion}
use Rattle.std.specs.Int.{w128}
use Rattle.std.proofs.Math.Nat.{mul-le-mul}
use Rattle.std.proofs.lemmas.Int.{fits_signed_from_abs, unsigned_abs-mul}
use Rattle.std.proofs.lemmas.List.Sums.{sum_by_more, sum_by_more_le}
use Rattle.scaled_num.specs.Sums.{total}
use Rattle.scaled_num.proofs.Sums.{each-at}
use Rattle.game_model.specs.declared.parts.Landing.{Landing}
use Rattle.game_model.specs.Build.{landing_of}
use Rattle.game_model.proofs.Sizes.{total-more}
use Rattle.scaled_num.proofs.Products.{abs-add}

abbrev pub term : List ℤ → Landing → ℤ
term vector l = l.weight *ℤ get_or vector l.to (pos 0)

abbrev pub size : Landing → ℕ
size l = unsigned_abs l.weight

abbrev none : Landing
none = landing_of 0 0 (pos 0)

-- the sum over the first landings
pub record SoFar (row : List Landing) (vector : List ℤ) (i : ℕ) (sum : ℤ) : Type 0 where
  pub is : sum ≡ total (term vector) (take i row)
  pub bounded : unsigned_abs sum ≤ sum_by size (take i row) * 2 ^ 70

pub record Next (row : List Landing) (vector : List ℤ) (i : ℕ) (sum : ℤ) : Type 0 where
  pub weight_fits : FitsSigned w128 (get_or row i none).weight
  pub entry_fits : FitsSigned w128 (get_or vector (get_or row i none).to (pos 0))
  pub product_fits : FitsSigned w128 (term vector (get_or row i none))
  pub sum_fits : FitsSigned w128 (sum +ℤ term vector (get_or row i none))
  pub so_far : SoFar row vector (i + 1) (sum +ℤ term vector (get_or row i none))

pub next : (row : List Landing) (vector : List ℤ) (i : ℕ) (sum : ℤ) → i < length row →
    AllByRecursion (λ (l : Landing). l.to < length vector) row → sum_by size row ≤ 2 ^ 30 → AllByRecursion (λ x. unsigned_abs x ≤ 2 ^ 70) vector →
    SoFar row vector i sum → Next row vector i sum
next row vector i sum l inside weights entries so_far =
    let landing : Landing = get_or row i none in
    let x : ℤ = get_or vector landing.to (pos 0) in
    let within : landing.to < length vector = each-at (λ (k : Landing). k.to < length vector) none row i inside l in
    let small : unsigned_abs x ≤ 2 ^ 70 = each-at (λ y. unsigned_abs y ≤ 2 ^ 70) (pos 0) vector landing.to entries within in
    let more : sum_by size (take i row) + size landing ≤ sum_by size row = sum_by_more_le size row i none l in
    let light : size landing ≤ 2 ^ 30 = omega arith in
    let product : unsigned_abs (term vector landing) ≤ size landing * 2 ^ 70 = rw (unsigned_abs-mul landing.weight x) (mul-le-mul {n₁ = size landing} (omega arith) small) in
    let upto : unsigned_abs (sum +ℤ term vector landing) ≤ (sum_by size (take i row) + size landing) * 2 ^ 70 = omega (arith, abs-add sum (term vector landing), so_far.bounded) in
    record {
      weight_fits = fits_signed_from_abs w128 landing.weight (omega arith);
      entry_fits = fits_signed_from_abs w128 x (omega arith);
      product_fits = fits_signed_from_abs w128 (term vector landing) (omega arith);
      sum_fits = fits_signed_from_abs w128 (sum +ℤ term vector landing) (omega arith);
      so_far = record {
        is = ap (λ z. z +ℤ term vector landing) so_far.is ∙ sym (total-more (term vector) row i none l);
        bounded = rw (sum_by_more size row i none l) upto;
      };
    }
