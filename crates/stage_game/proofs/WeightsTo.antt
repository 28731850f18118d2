-- A running sum over landings, of the weights that lead to one next state.
use Rattle.std.proofs.Common.{◌≡◌, ℕ, ◌+◌, ◌<◌, ◌≤◌, cond, ◌==◌, List, get_or, length, take, refl, ap, arith, sym, ◌∙◌, inl, inr}
use Rattle.std.specs.Prelude.{ℤ, pos, ◌+ℤ◌, ◌≤ℤ◌, sum_by, unsigned_abs, FitsSigned}
use Rattle.std.specs.Int.{w128}
use Rattle.std.proofs.lemmas.Int.{fits_signed_from_abs}
use Rattle.std.proofs.lemmas.Bool.Decides.{eqb_tells}
use Rattle.std.proofs.lemmas.List.Sums.{sum_by_more, sum_by_more_le}
use Rattle.scaled_num.proofs.Products.{magnitude-is}
use Rattle.scaled_num.proofs.Sums.{each-at}
use Rattle.game_model.specs.Build.{landing_of}
use Rattle.game_model.specs.declared.parts.Landing.{Landing}
use Rattle.belief.specs.Masses.{AreLandings, landed}
use Rattle.belief.proofs.Landings.{landed-le}

abbrev none : Landing
none = landing_of 0 0 (pos 0)

pub record WeightNext (ls : List Landing) (i t : ℕ) (sum : ℤ) : Type 0 where
  pub weight_fits : FitsSigned w128 (get_or ls i none).weight
  pub so_far_fits : FitsSigned w128 sum
  pub sum_fits : FitsSigned w128 (sum +ℤ (get_or ls i none).weight)
  pub added : (get_or ls i none).to ≡ t → sum +ℤ (get_or ls i none).weight ≡ pos (landed (take (i + 1) ls) t)
  pub skipped : ((get_or ls i none).to ≡ t → ⊥) → sum ≡ pos (landed (take (i + 1) ls) t)

pub weight-next : (n : ℕ) (ls : List Landing) (i t : ℕ) (sum : ℤ) → i < length ls → AreLandings n ls → sum ≡ pos (landed (take i ls) t) → WeightNext ls i t sum
weight-next n ls i t sum l landings so_far =
    let x : Landing = get_or ls i none in
    let w : ℕ = unsigned_abs x.weight in
    let size : Landing → ℕ = λ (k : Landing). unsigned_abs k.weight in
    let is : x.weight ≡ pos w = magnitude-is x.weight (each-at (λ (k : Landing). pos 0 ≤ℤ k.weight) none ls i landings.positive l) in
    let more : sum_by size (take i ls) + w ≤ sum_by size ls = sum_by_more_le size ls i none l in
    let before : landed (take i ls) t ≤ sum_by size (take i ls) = landed-le (take i ls) t in
    let light = landings.light in
    let next : landed (take (i + 1) ls) t ≡ landed (take i ls) t + cond (x.to == t) w 0 = sum_by_more (λ (k : Landing). cond (k.to == t) (unsigned_abs k.weight) 0) ls i none l in
    let both : sum +ℤ x.weight ≡ pos (landed (take i ls) t + w) = ap (λ (z : ℤ). z +ℤ x.weight) so_far ∙ ap (λ (z : ℤ). pos (landed (take i ls) t) +ℤ z) is in
    record {
      weight_fits = rw is (fits_signed_from_abs w128 (pos w) (omega arith));
      so_far_fits = rw so_far (fits_signed_from_abs w128 (pos (landed (take i ls) t)) (omega arith));
      sum_fits = rw both (fits_signed_from_abs w128 (pos (landed (take i ls) t + w)) (omega arith));
      added = λ e. both ∙ ap pos (sym (next ∙ same (landed (take i ls) t) w x.to e));
      skipped = λ e. so_far ∙ ap pos (sym (next ∙ other (landed (take i ls) t) w x.to e));
    }
  where
    same : (a w k : ℕ) → k ≡ t → a + cond (k == t) w 0 ≡ a + w
    same a w k e = elim (eqb_tells k t) [ inl h ↦ rw h.0 refl | inr h ↦ absurd (h.1 e) ]

    other : (a w k : ℕ) → (k ≡ t → ⊥) → a + cond (k == t) w 0 ≡ a
    other a w k n = elim (eqb_tells k t) [ inl h ↦ absurd (n h.1) | inr h ↦ rw h.0 (omega arith) ]
