-- The numbers of the upper stage program: what the code divides, and that all are narrow.
use Rattle.std.proofs.Common.{◌≡◌, ℕ, ◌*◌, ◌^◌, ◌<◌, ◌≤◌, ◌==◌, ◌&&◌, List, [], ◌∷◌, ◌++◌, filter, get_or, length, map, arith, sym, subst}
use Rattle.std.specs.Prelude.{ℤ, pos, neg_ℤ, ◌+ℤ◌, ◌*ℤ◌, unsigned_abs}
use Rattle.std.specs.List.{AllByRecursion}
use Rattle.std.proofs.lemmas.Int.{ints}
use Rattle.scaled_num.specs.Share.{at}
use Rattle.scaled_num.specs.Sums.{below, sum_of}
use Rattle.scaled_num.proofs.Sums.{below-each, each-append, each-at, each-flat_map, each-map}
use Rattle.game_model.specs.Game.{GameData, IsGame, numbers, row_at, span}
use Rattle.game_model.specs.declared.parts.Landing.{Landing}
use Rattle.game_model.proofs.Games.{row-in, row-weights}
use Rattle.belief.specs.Masses.{IsSeen, landed}
use Rattle.belief.proofs.Landings.{landed-le, landed-seen, sum-filter}
use Rattle.point_set.specs.Corners.{point_at}
use Rattle.point_set.specs.Members.{most_points}
use Rattle.point_set.specs.Points.{PointData, PointFits, no_point}
use Rattle.simplex.specs.Program.{IsNarrow}
use Rattle.stage_game.specs.Asked.{AreBits}
use Rattle.stage_game.specs.Masses.{over_pairs}
use Rattle.stage_game.specs.Pairs.{pairs}
use Rattle.stage_game.specs.Scaling.{ceil_of, floor_of, most_scale, paid_above, pay_width, scale, width, worth_rows}
use Rattle.stage_game.specs.UpperProgram.{point_row, upper_worth_row}
use Rattle.stage_game.specs.Variables.{Variable, variables}
use Rattle.stage_game.proofs.Appends.{IsInside, each-of-pairs, over-pairs, pairs-inside}
use Rattle.stage_game.proofs.BeliefShares.{belief-quotient}
use Rattle.stage_game.proofs.LowerNumbers.{bits-few, minus-narrow, narrow-over, one-narrow}
use Rattle.stage_game.proofs.Quotients.{IsSmall, ceil-small, floor-small}
use Rattle.stage_game.proofs.Serving.{AreNarrowOver}
use Rattle.stage_game.proofs.Sizes.{IsQuotient, over, paid-quotient, state-quotient, under, whole, worth-quotient}

-- what the seen landings of a row weigh at a next state is the weight of the game, at most the row total
pub seen-weight : (g : GameData) (s a c o t : ℕ) → landed (filter (IsSeen o) (row_at g s a c)) t ≡ (numbers g).weight s a c o t
seen-weight g s a c o t = landed-seen (row_at g s a c) o t

pub weight-upto : (g : GameData) → IsGame g → (s a c o t : ℕ) → s < g.shape.states → a < g.shape.own_actions → c < g.shape.informed_actions → (numbers g).weight s a c o t ≤ whole g
weight-upto g h s a c o t ls la lc =
    let row : List Landing = row_at g s a c in
    subst (λ (n : ℕ). n ≤ whole g) (seen-weight g s a c o t)
    (omega (arith, landed-le (filter (IsSeen o) row) t, sum-filter (λ (l : Landing). unsigned_abs l.weight) (IsSeen o) row, row-weights g.shape row (row-in g h s a c ls la lc)))

pub state-is : (g : GameData) → IsGame g → (bits : ℕ) → AreBits bits → (s a c o t : ℕ) → s < g.shape.states → a < g.shape.own_actions → c < g.shape.informed_actions →
    IsQuotient (2 ^ bits) (scale bits *ℤ pos (over g * (numbers g).weight s a c o t)) (pos (under g * whole g))
state-is g h bits b s a c o t ls la lc = state-quotient g h bits (bits-few bits b) ((numbers g).weight s a c o t) (weight-upto g h s a c o t ls la lc)

-- a quotient rounded up is narrow
pub ceil-narrow : (k : ℕ) (a b : ℤ) → k ≤ most_scale → IsQuotient k a b → IsNarrow (neg_ℤ (ceil_of a b))
ceil-narrow k a b few q = minus-narrow (ceil_of a b) k few (ceil-small a b k q.divisor q.low q.high)

small-narrow : (q : ℤ) (k : ℕ) → k ≤ most_scale → IsSmall k q → IsNarrow q
small-narrow q k few small = let low = small.low in let high = small.high in omega (arith, ints)

-- a point that fits, by number, and what its belief is worth over its total
pub point-in : (g : GameData) (points : List PointData) (k : ℕ) → AllByRecursion (PointFits g most_points) points → k < length points → PointFits g most_points (get_or points k no_point)
point-in g points k fit l = each-at (PointFits g most_points) no_point points k fit l

pub worth-is : (g : GameData) → IsGame g → (bits : ℕ) → AreBits bits → (point : PointData) → PointFits g most_points point →
    IsQuotient (2 ^ bits) (scale bits *ℤ (point.value +ℤ pos (span g) *ℤ sum_of point.belief)) (width g *ℤ sum_of point.belief)
worth-is g h bits b point fits = worth-quotient g h bits (bits-few bits b) point.value (sum_of point.belief) fits.belief.sums.0 fits.belief.sums.1 fits.value.0 fits.value.1

-- the row of a state and an informed action is narrow
worth-narrow : (g : GameData) → IsGame g → (bits : ℕ) → AreBits bits → (s c : ℕ) → s < g.shape.states → c < g.shape.informed_actions →
    AreNarrowOver (variables g (below g.shape.states)) (upper_worth_row g bits s c)
worth-narrow g h bits b s c ls lc = narrow-over g (upper_worth_row g bits s c) g.shape.states (below g.shape.states) (below-each (λ t. t < g.shape.states) g.shape.states (λ t l. l))
    (λ t l. one-narrow (t == s) (pos 1) (pos 0) (omega arith) (omega arith))
    (λ a la. ceil-narrow (2 ^ bits) (paid_above g bits s a c) (pay_width g) (bits-few bits b) (paid-quotient g h bits s a c (bits-few bits b) ls la lc))
    (λ a o t la lo lt. ceil-narrow (2 ^ bits) _ _ (bits-few bits b) (state-is g h bits b s a c o t ls la lc))

-- the row of a point is narrow
point-narrow : (g : GameData) → IsGame g → (bits : ℕ) → AreBits bits → (point : PointData) → PointFits g most_points point → (a o : ℕ) →
    AreNarrowOver (variables g (below g.shape.states)) (point_row g bits point a o)
point-narrow g h bits b point fits a o = narrow-over g (point_row g bits point a o) g.shape.states (below g.shape.states) (below-each (λ t. t < g.shape.states) g.shape.states (λ t l. l))
    (λ t l. omega arith)
    (λ d l. one-narrow (d == a) _ (pos 0) (ceil-narrow (2 ^ bits) _ _ (bits-few bits b) (worth-is g h bits b point fits)) (omega arith))
    (λ d p t l m n. one-narrow ((d == a) && (p == o)) _ (pos 0) (share t n) (omega arith))
  where
    share : (t : ℕ) → t < g.shape.states → IsNarrow (floor_of (scale bits *ℤ at point.belief t) (sum_of point.belief))
    share t l =
        let q = belief-quotient g.shape.states point.belief fits.belief bits (bits-few bits b) t l in
        small-narrow _ (2 ^ bits) (bits-few bits b) (floor-small (scale bits *ℤ at point.belief t) (sum_of point.belief) (2 ^ bits) q.divisor q.low q.high)

-- all rows of the upper program are narrow
pub upper-narrow : (g : GameData) → IsGame g → (bits : ℕ) → AreBits bits → (points : List PointData) → AllByRecursion (PointFits g most_points) points →
    (candidates : List ℕ) → AllByRecursion (λ k. k < length points) candidates →
    AllByRecursion (AreNarrowOver (variables g (below g.shape.states))) (worth_rows g (upper_worth_row g bits) ++ over_pairs g (λ a o. map (λ k. point_row g bits (point_at points k) a o) candidates))
upper-narrow g h bits b points fit candidates inside =
    let P : (Variable → ℤ) → Type 0 = AreNarrowOver (variables g (below g.shape.states)) in
    each-append P (worth_rows g (upper_worth_row g bits)) _
    (subst (AllByRecursion P) (sym (each-of-pairs (upper_worth_row g bits) g.shape.states g.shape.informed_actions))
    (each-map P (λ (p : ℕ × ℕ). upper_worth_row g bits p.0 p.1) (pairs g.shape.states g.shape.informed_actions)
    (worths (pairs g.shape.states g.shape.informed_actions) (pairs-inside g.shape.states g.shape.informed_actions))))
    (subst (AllByRecursion P) (sym (over-pairs (λ a o. map (λ k. point_row g bits (point_at points k) a o) candidates) g.shape.own_actions g.shape.observations))
    (each-flat_map P (λ (p : ℕ × ℕ). map (λ k. point_row g bits (point_at points k) p.0 p.1) candidates) (pairs g.shape.own_actions g.shape.observations) (blocks (pairs g.shape.own_actions g.shape.observations))))
  where
    worths : (ps : List (ℕ × ℕ)) → AllByRecursion (IsInside g.shape.states g.shape.informed_actions) ps → AllByRecursion (λ (p : ℕ × ℕ). AreNarrowOver (variables g (below g.shape.states)) (upper_worth_row g bits p.0 p.1)) ps
    worths [] e = tt
    worths (p ∷ ps) e = (worth-narrow g h bits b p.0 p.1 e.0.0 e.0.1, worths ps e.1)

    each-point : (a o : ℕ) (ks : List ℕ) → AllByRecursion (λ k. k < length points) ks → AllByRecursion (λ k. AreNarrowOver (variables g (below g.shape.states)) (point_row g bits (get_or points k no_point) a o)) ks
    each-point a o [] e = tt
    each-point a o (k ∷ ks) e = (point-narrow g h bits b (get_or points k no_point) (point-in g points k fit e.0) a o, each-point a o ks e.1)

    blocks : (ps : List (ℕ × ℕ)) → AllByRecursion (λ (p : ℕ × ℕ). AllByRecursion (AreNarrowOver (variables g (below g.shape.states))) (map (λ k. point_row g bits (get_or points k no_point) p.0 p.1) candidates)) ps
    blocks [] = tt
    blocks (p ∷ ps) = (each-map (AreNarrowOver (variables g (below g.shape.states))) (λ k. point_row g bits (get_or points k no_point) p.0 p.1) candidates (each-point p.0 p.1 candidates inside), blocks ps)
