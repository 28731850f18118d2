-- The masses that follow a belief under mixes are masses of the game.
use Rattle.std.specs.List.{AllByRecursion}
use Rattle.std.proofs.Common.{◌≡◌, ℕ, ◌*◌, ◌^◌, ◌<◌, ◌≤◌, List, [], ◌∷◌, flat_map, ap, arith, sym, subst, ◌∙◌}
use Rattle.std.specs.Prelude.{ℤ, pos, ◌*ℤ◌, ◌≤ℤ◌, sum_by}
use Rattle.std.proofs.Math.Nat.{mul-le-mul_left}
use Rattle.std.proofs.lemmas.Int.{ints}
use Rattle.std.proofs.lemmas.List.FromFn.{get_or-range_with_len, length-map-range_with_len, length-range_with_len}
use Rattle.std.proofs.lemmas.List.Sums.{get_or-le-sum_by}
use Rattle.scaled_num.specs.Sums.{below, sum_of}
use Rattle.scaled_num.proofs.Sums.{below-each, each-append, each-map, total-map, total-pos}
use Rattle.game_model.specs.Game.{GameData, IsBelief, IsGame, IsMass, numbers}
use Rattle.game_model.proofs.Games.{keeps-span}
use Rattle.belief.specs.After.{mass_after}
use Rattle.belief.specs.Beliefs.{mix_weight, weight_at}
use Rattle.belief.specs.Mixes.{MixesData, mass_of}
use Rattle.belief.proofs.Landings.{each-filter}
use Rattle.point_set.specs.Points.{Point, PointData}
use Rattle.point_set.specs.Sawtooth.{AreMeasured}
use Rattle.point_set.proofs.Masses.{belief-total, masses-sum, mix-total}
use Rattle.stage_game.specs.Fits.{MixesFit}
use Rattle.stage_game.specs.Asked.{PointsServe}
use Rattle.stage_game.specs.Masses.{is_some_mass, masses, over_pairs}
use Rattle.stage_game.proofs.Sizes.{limits, whole}

pub mass-right : (g : GameData) → IsGame g → (belief : List ℤ) → IsBelief g.shape.states belief → (mixes : MixesData) → MixesFit g mixes → (a o : ℕ) → a < g.shape.own_actions → o < g.shape.observations →
    IsMass g (mass_after g belief mixes a o)
mass-right g h belief right mixes fits a o la lo =
    let states : ℕ = g.shape.states in
    let m : ℕ → ℕ → ℕ = λ o t. mass_of (numbers g) (weight_at belief) (mix_weight mixes) a o t in
    let point : Point = record { belief = weight_at belief; value = pos 0; mixes = mix_weight mixes; splits = [] } in
    let full : (s : ℕ) → s < states → sum_by (mix_weight mixes s) (below g.shape.informed_actions) ≡ 65536 =
    λ s l. ap (λ (n : ℕ). sum_by (mix_weight mixes s) (below n)) (sym fits.actions) ∙ mix-total mixes fits.right s (subst (λ (n : ℕ). s < n) (sym fits.states) l) in
    let all = masses-sum (numbers g) 65536 point (keeps-span g h).full full a la in
    let part : sum_by (m o) (below states) ≤ sum_by (λ o. sum_by (m o) (below states)) (below g.shape.observations) =
    subst (λ (n : ℕ). sum_by (m n) (below states) ≤ sum_by (λ o. sum_by (m o) (below states)) (below g.shape.observations)) (get_or-range_with_len 0 g.shape.observations o 0 lo ∙ omega arith)
    (get_or-le-sum_by (λ o. sum_by (m o) (below states)) (below g.shape.observations) o 0 (rw (length-range_with_len 0 g.shape.observations) lo)) in
    let total_is : sum_of belief ≡ pos (sum_by (weight_at belief) (below states)) = belief-total states belief right in
    let small : sum_by (weight_at belief) (below states) ≤ 2 ^ 20 = let most = right.sums.1 in omega (arith, ints) in
    let size : whole g * 65536 * sum_by (weight_at belief) (below states) ≤ whole g * 65536 * 2 ^ 20 = mul-le-mul_left (whole g * 65536) small in
    let upto : sum_by (m o) (below states) ≤ 2 ^ 36 * whole g = omega arith in
    let sum_is : sum_of (mass_after g belief mixes a o) ≡ pos (sum_by (m o) (below states)) =
    total-map (λ (x : ℤ). x) (λ t. pos (m o t)) (below states) ∙ total-pos (m o) (below states) in
    record {
      long = length-map-range_with_len (λ t. pos (m o t)) 0 states;
      each = each-map (λ x. pos 0 ≤ℤ x) (λ t. pos (m o t)) (below states) (below-each (λ t. pos 0 ≤ℤ pos (m o t)) states (λ t l. omega (arith, ints)));
      most = rw sum_is (rw ((limits g h).row_total) (omega (arith, ints)));
    }

-- the masses that are not zero are measured by points that serve
pub masses-measured : (g : GameData) → IsGame g → (belief : List ℤ) → IsBelief g.shape.states belief → (mixes : MixesData) → MixesFit g mixes → (points : List PointData) → PointsServe g points →
    AllByRecursion (AreMeasured points) (masses g belief mixes)
masses-measured g h belief right mixes fits points serve =
    each-filter (AreMeasured points) is_some_mass (over_pairs g (λ a o. mass_after g belief mixes a o ∷ []))
    (blocks (λ a. flat_map (λ o. mass_after g belief mixes a o ∷ []) (below g.shape.observations)) g.shape.own_actions
    (λ a la. blocks (λ o. mass_after g belief mixes a o ∷ []) g.shape.observations
    (λ o lo. (record { game = g; accepted = h; fit = serve.fit; corners = serve.corners; right = mass-right g h belief right mixes fits a o la lo }, tt))))
  where
    each : (f : ℕ → List (List ℤ)) (xs : List ℕ) → AllByRecursion (λ i. AllByRecursion (AreMeasured points) (f i)) xs → AllByRecursion (AreMeasured points) (flat_map f xs)
    each f [] h = tt
    each f (x ∷ xs) h = each-append (AreMeasured points) (f x) (flat_map f xs) h.0 (each f xs h.1)

    blocks : (f : ℕ → List (List ℤ)) (n : ℕ) → ((i : ℕ) → i < n → AllByRecursion (AreMeasured points) (f i)) → AllByRecursion (AreMeasured points) (flat_map f (below n))
    blocks f n h = each f (below n) (below-each (λ i. AllByRecursion (AreMeasured points) (f i)) n h)

-- a mass has a sum that can be formed
pub mass-light : (g : GameData) → IsGame g → (mass : List ℤ) → IsMass g mass → sum_of mass ≤ℤ pos (2 ^ 126)
mass-light g h mass right = light (sum_of mass) g.shape.row_total right.most h.shape.row_total.1
  where
    light : (sum whole : ℤ) → sum ≤ℤ (pos (2 ^ 36) *ℤ whole) → whole ≤ℤ pos (2 ^ 30) → sum ≤ℤ pos (2 ^ 126)
    light sum whole l m = omega (arith, ints)
