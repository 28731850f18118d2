-- What the code forms on the way to what going on with a next state brings.
use Rattle.std.proofs.Common.{◌≡◌, ℕ, ◌*◌, ◌^◌, ◌<◌, ◌≤◌, List, [], ◌∷◌, filter, ap, arith, sym, subst, ◌∙◌}
use Rattle.std.specs.Prelude.{ℤ, pos, neg_ℤ, ◌*ℤ◌, ◌≤ℤ◌, ◌<ℤ◌, FitsSigned}
use Rattle.std.specs.List.{AllByRecursion}
use Rattle.std.specs.Int.{w128}
use Rattle.std.proofs.lemmas.Nat.{mul-le}
use Rattle.game_model.specs.Game.{GameData, IsGame, numbers, row_at}
use Rattle.game_model.specs.declared.parts.Landing.{Landing}
use Rattle.belief.specs.Masses.{AreLandings, IsSeen, landed}
use Rattle.belief.proofs.Landings.{landings-seen, row-landings}
use Rattle.stage_game.specs.Asked.{AreBits}
use Rattle.stage_game.specs.Scaling.{ceil_of, scale}
use Rattle.stage_game.specs.UpperProgram.{state_brings}
use Rattle.stage_game.proofs.LowerNumbers.{bits-few}
use Rattle.stage_game.proofs.Sizes.{limits, number-fits, over, product-is, roomy, under, whole}
use Rattle.stage_game.proofs.UpperNumbers.{seen-weight, state-is, weight-upto}

-- landings to fewer states
wider : (n m : ℕ) (ls : List Landing) → n ≤ m → AreLandings n ls → AreLandings m ls
wider n m ls l h = record { inside = each ls h.inside; positive = h.positive; light = h.light }
  where
    each : (ls : List Landing) → AllByRecursion (λ (k : Landing). k.to < n) ls → AllByRecursion (λ (k : Landing). k.to < m) ls
    each [] h = tt
    each (x ∷ xs) h = (let here = h.0 in omega arith, each xs h.1)

pub few-landings : (g : GameData) → IsGame g → (s a c o : ℕ) → s < g.shape.states → a < g.shape.own_actions → c < g.shape.informed_actions → (found row : List Landing) →
    row ≡ row_at g s a c → found ≡ filter (IsSeen o) row → AreLandings 16 found
few-landings g h s a c o ls la lc found row r f =
    let states = h.shape.states.1 in
    subst (AreLandings 16) (sym (f ∙ ap (λ (ls : List Landing). filter (IsSeen o) ls) r))
    (wider g.shape.states 16 (filter (IsSeen o) (row_at g s a c)) (omega arith) (landings-seen g.shape.states (row_at g s a c) o (row-landings g h s a c ls la lc)))

pub record StateFits (g : GameData) (bits s a c o t : ℕ) (times oved weight undered total : ℤ) : Type 0 where
  pub times_fits : FitsSigned w128 times
  pub over_fits : FitsSigned w128 oved
  pub weight_fits : FitsSigned w128 weight
  pub under_fits : FitsSigned w128 undered
  pub total_fits : FitsSigned w128 total
  pub inner_fits : FitsSigned w128 (oved *ℤ weight)
  pub part_fits : FitsSigned w128 (times *ℤ (oved *ℤ weight))
  pub whole_fits : FitsSigned w128 (undered *ℤ total)
  pub low : pos 0 ≤ℤ (times *ℤ (oved *ℤ weight))
  pub room : (times *ℤ (oved *ℤ weight)) ≤ℤ pos (2 ^ 126)
  pub divisor : pos 0 <ℤ (undered *ℤ total)
  pub is : neg_ℤ (ceil_of (times *ℤ (oved *ℤ weight)) (undered *ℤ total)) ≡ neg_ℤ (state_brings g bits s a c o t)

pub state-fits : (g : GameData) → IsGame g → (bits : ℕ) → AreBits bits → (s a c o t : ℕ) → s < g.shape.states → a < g.shape.own_actions → c < g.shape.informed_actions →
    (found row : List Landing) → row ≡ row_at g s a c → found ≡ filter (IsSeen o) row →
    (times oved weight undered total : ℤ) → times ≡ scale bits → oved ≡ g.shape.discount.0 → weight ≡ pos (landed found t) → undered ≡ g.shape.discount.1 → total ≡ g.shape.row_total →
    StateFits g bits s a c o t times oved weight undered total
state-fits g h bits b s a c o t ls la lc found row r f times oved weight undered total e1 e2 e3 e4 e5 =
    let n = limits g h in
    let w : ℕ = (numbers g).weight s a c o t in
    let few : 2 ^ bits ≤ 2 ^ 10 = bits-few bits b in
    let light : w ≤ whole g = weight-upto g h s a c o t ls la lc in
    let over_is : oved ≡ pos (over g) = e2 ∙ n.numerator in
    let under_is : undered ≡ pos (under g) = e4 ∙ n.denominator in
    let total_is : total ≡ pos (whole g) = e5 ∙ n.row_total in
    let weight_is : weight ≡ pos w = e3 ∙ ap (λ (ls : List Landing). pos (landed ls t)) (f ∙ ap (λ (ls : List Landing). filter (IsSeen o) ls) r) ∙ ap pos (seen-weight g s a c o t) in
    let inner_is : oved *ℤ weight ≡ pos (over g * w) = product-is oved weight (over g) w over_is weight_is in
    let part_is : times *ℤ (oved *ℤ weight) ≡ scale bits *ℤ pos (over g * w) = ap (λ (z : ℤ). z *ℤ (oved *ℤ weight)) e1 ∙ ap (λ (z : ℤ). scale bits *ℤ z) inner_is in
    let whole_is : undered *ℤ total ≡ pos (under g * whole g) = product-is undered total (under g) (whole g) under_is total_is in
    let q = state-is g h bits b s a c o t ls la lc in
    let over_small : over g ≤ 2 ^ 20 = omega (arith, n.below, n.under_small) in
    let weight_small : w ≤ 2 ^ 30 = omega (arith, n.whole_small) in
    let inner_size : over g * w ≤ 2 ^ 20 * 2 ^ 30 = mul-le (over g) w (2 ^ 20) (2 ^ 30) over_small weight_small in
    let part_size : 2 ^ bits * (over g * w) ≤ 2 ^ 10 * (2 ^ 20 * 2 ^ 30) = mul-le (2 ^ bits) (over g * w) (2 ^ 10) (2 ^ 20 * 2 ^ 30) few inner_size in
    let whole_size : under g * whole g ≤ 2 ^ 20 * 2 ^ 30 = mul-le (under g) (whole g) (2 ^ 20) (2 ^ 30) n.under_small n.whole_small in
    record {
      times_fits = number-fits times (2 ^ bits) e1 (omega arith);
      over_fits = number-fits oved (over g) over_is (omega arith);
      weight_fits = number-fits weight w weight_is (omega arith);
      under_fits = number-fits undered (under g) under_is (omega (arith, n.under_small));
      total_fits = number-fits total (whole g) total_is (omega (arith, n.whole_small));
      inner_fits = number-fits _ (over g * w) inner_is (omega arith);
      part_fits = number-fits _ (2 ^ bits * (over g * w)) part_is (omega arith);
      whole_fits = number-fits _ (under g * whole g) whole_is (omega arith);
      low = subst (λ (z : ℤ). pos 0 ≤ℤ z) (sym part_is) q.low;
      room = subst (λ (z : ℤ). z ≤ℤ pos (2 ^ 126)) (sym part_is) (roomy q);
      divisor = subst (λ (z : ℤ). pos 0 <ℤ z) (sym whole_is) q.divisor;
      is = ap (λ (z : ℤ). neg_ℤ (ceil_of z (undered *ℤ total))) part_is ∙ ap (λ (z : ℤ). neg_ℤ (ceil_of (scale bits *ℤ pos (over g * w)) z)) whole_is;
    }
