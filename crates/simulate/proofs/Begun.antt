-- What the start of a play draws is of the game and of the certificate.
use Rattle.std.proofs.Common.{◌≡◌, ℕ, ◌+◌, ◌*◌, ◌^◌, ◌<◌, ◌≤◌, ◌==◌, Bool, true, false, List, [], ◌∷◌, length, map, ap, arith, rules, sym, subst, ◌∙◌}
use Rattle.std.specs.Prelude.{ℤ, pos, ◌*ℤ◌, ◌≤ℤ◌, unsigned_abs, IfSome, if◌then◌else◌}
use Rattle.std.specs.List.{AllByRecursion, sum, sum_by}
use Rattle.std.proofs.lemmas.Int.{ints, unsigned_abs-mul}
use Rattle.std.proofs.lemmas.Nat.{mul-le}
use Rattle.std.proofs.lemmas.List.Sums.{sum-map, sum_by-cons}
use Rattle.scaled_num.specs.Share.{at}
use Rattle.scaled_num.specs.Sums.{below}
use Rattle.scaled_num.proofs.Products.{magnitude-is}
use Rattle.scaled_num.proofs.Sums.{each-at, sum_by-same}
use Rattle.rand_pcg.specs.Lcg.{Lcg}
use Rattle.hsvi_draw.specs.Draws.{after_draws}
use Rattle.game_model.specs.Game.{GameData, IsGame, IsWithin, first_at}
use Rattle.game_model.proofs.Pay.{each-from}
use Rattle.point_set.specs.Corners.{point_at}
use Rattle.point_set.specs.Points.{PointFits, no_point, points_of}
use Rattle.controller.specs.Certificates.{CertificateData, CertificateFits, CertificateStands}
use Rattle.controller.specs.Starts.{AreStarts, IsStart, most_from, most_over}
use Rattle.controller.proofs.Members.{sum-abs}
use Rattle.controller.proofs.Places.{rules as stand_rules}
use Rattle.controller.proofs.StartSums.{first-total-within}
use Rattle.simulate.specs.Choices.{IsLight, place_drawn}
use Rattle.simulate.specs.Plays.{CanStand, begun, draws_over, from_weights, member_drawn, over_weights, start_point, state_drawn}
use Rattle.simulate.specs.declared.parts.Rival.{Rival}
use Rattle.simulate.specs.declared.parts.Rival.TheVariants.{Points, Uniform}
use Rattle.simulate.proofs.Places.{IsSome, drawn-below, drawn-item}

-- ---- the first state
pub state-sum : (g : GameData) → IsGame g → (1 ≤ sum_by (first_at g) (below g.shape.states)) × (sum_by (first_at g) (below g.shape.states) ≤ 2 ^ 20)
state-sum g game = first-total-within g game

pub state-right : (g : GameData) (draws : Lcg) → IsGame g → IsSome (first_at g) g.shape.states (state_drawn g draws)
state-right g draws game = drawn-below draws (first_at g) g.shape.states (state-sum g game).0

-- ---- the start node
start-low : (count : ℕ) (most : ℤ) (start : ℕ × ℤ) → IsStart count most start → pos 0 ≤ℤ start.1
start-low count most start h = let low = h.1.0 in omega (arith, ints)

start-some : (count : ℕ) (most : ℤ) (start : ℕ × ℤ) → IsStart count most start → 1 ≤ unsigned_abs start.1
start-some count most start h = let low = h.1.0 in omega (arith, ints)

some-sum : (f : ℕ × ℤ → ℕ) (starts : List (ℕ × ℤ)) → 1 ≤ length starts → AllByRecursion (λ start. 1 ≤ f start) starts → 1 ≤ sum_by f starts
some-sum f [] l h = omega (arith, l)
some-sum f (start ∷ rest) l h =
    let first : 1 ≤ f start = h.0 in
    omega (arith, first, sum_by-cons f start rest)

pub from-sum : (k : CertificateData) (g : GameData) → CertificateFits g k → (1 ≤ sum_by (λ (start : ℕ × ℤ). unsigned_abs start.1) k.start_nodes) × (sum_by (λ (start : ℕ × ℤ). unsigned_abs start.1) k.start_nodes ≤ 65536)
from-sum k g fits =
    let from = fits.starts.from in
    let total_is = sum-abs (λ (start : ℕ × ℤ). start.1) k.start_nodes (each-from (IsStart (length k.nodes) (pos most_from)) _ k.start_nodes (start-low (length k.nodes) (pos most_from)) from.each) in
    let high : pos (sum_by (λ (start : ℕ × ℤ). unsigned_abs start.1) k.start_nodes) ≤ℤ pos 65536 = subst (λ (z : ℤ). z ≤ℤ pos 65536) (sym total_is) fits.starts.from_sum in (
      some-sum (λ (start : ℕ × ℤ). unsigned_abs start.1) k.start_nodes from.some (each-from (IsStart (length k.nodes) (pos most_from)) _ k.start_nodes (start-some (length k.nodes) (pos most_from)) from.each),
      omega (arith, ints, high),
    )

-- ---- a member that is drawn over starts
pub member-right : (count : ℕ) (most : ℤ) (f : ℕ × ℤ → ℕ) (starts : List (ℕ × ℤ)) (draws : Lcg) → AreStarts count most starts → 1 ≤ sum_by f starts → member_drawn starts (map f starts) draws < count
member-right count most f starts draws h some =
    (each-at (IsStart count most) (0, pos 0) starts (if length starts == 1 then 0 else place_drawn draws (map f starts)) h.each (inside (length starts == 1))).0
  where
    inside : (b : Bool) → (if b then 0 else place_drawn draws (map f starts)) < length starts
    inside true = omega (arith, h.some)
    inside false = (drawn-item draws f starts (0, pos 0) some).within

pub node-start : (g : GameData) (k : CertificateData) (draws : Lcg) → CertificateFits g k → member_drawn k.start_nodes (from_weights k) draws < length k.nodes
node-start g k draws fits = member-right (length k.nodes) (pos most_from) (λ (start : ℕ × ℤ). unsigned_abs start.1) k.start_nodes draws fits.starts.from (from-sum k g fits).0

-- ---- the start point: what the start points bring to a state sums to the multiple of the first belief
brings : (g : GameData) (k : CertificateData) (s : ℕ) → CertificateFits g k → s < g.shape.states →
    AllByRecursion (λ (start : ℕ × ℤ). pos 0 ≤ℤ (start.1 *ℤ at (point_at k.points start.0).belief s)) k.start_points
brings g k s fits ls =
    each-from (IsStart (length k.points) (pos most_over)) _ k.start_points
    (λ start i.
    let point = each-at (PointFits g (length k.points)) no_point k.points start.0 fits.points i.0 in
    product (start.1) (at (point_at k.points start.0).belief s) (start-low (length k.points) (pos most_over) start i)
    (each-at (IsWithin (pos 0) (pos (2 ^ 20))) (pos 0) (point_at k.points start.0).belief s point.belief.each (subst (λ (n : ℕ). s < n) (sym point.belief.long) ls)).0)
    fits.starts.over.each
  where
    product : (x y : ℤ) → pos 0 ≤ℤ x → pos 0 ≤ℤ y → pos 0 ≤ℤ (x *ℤ y)
    product x y h k = rw (magnitude-is x h, magnitude-is y k) (omega (arith, ints))

pub over-sum : (g : GameData) (k : CertificateData) (s : ℕ) → CertificateStands g k → s < g.shape.states →
    sum_by (λ (start : ℕ × ℤ). unsigned_abs start.1 * (points_of k.points start.0).belief s) k.start_points ≡ unsigned_abs k.multiple * first_at g s
over-sum g k s stands ls =
    sum_by-same (λ (start : ℕ × ℤ). unsigned_abs start.1 * (points_of k.points start.0).belief s) (λ (start : ℕ × ℤ). unsigned_abs (start.1 *ℤ at (point_at k.points start.0).belief s)) k.start_points
    (λ start. sym (unsigned_abs-mul start.1 (at (point_at k.points start.0).belief s)))
    ∙ ap unsigned_abs (sum-abs (λ (start : ℕ × ℤ). start.1 *ℤ at (point_at k.points start.0).belief s) k.start_points (brings g k s stands.fits ls) ∙ (stand_rules g k stands.holds).start s ls)
    ∙ unsigned_abs-mul k.multiple (at g.first s)

pub over-some : (g : GameData) (k : CertificateData) (s : ℕ) → CertificateStands g k → s < g.shape.states → 1 ≤ first_at g s →
    1 ≤ sum_by (λ (start : ℕ × ℤ). unsigned_abs start.1 * (points_of k.points start.0).belief s) k.start_points
over-some g k s stands ls some =
    let low = stands.fits.starts.multiple.0 in
    let times : 1 ≤ unsigned_abs k.multiple = omega (arith, ints) in
    omega (arith, over-sum g k s stands ls, mul-le 1 1 (unsigned_abs k.multiple) (first_at g s) times some)

-- the weights of the start points, as they are drawn over
pub over-total : (g : GameData) (k : CertificateData) (s : ℕ) → CertificateStands g k → s < g.shape.states → sum (over_weights k s) ≡ unsigned_abs k.multiple * first_at g s
over-total g k s stands ls =
    sum-map (λ (start : ℕ × ℤ). unsigned_abs start.1 * (points_of k.points start.0).belief s) k.start_points ∙ over-sum g k s stands ls

first-small : (g : GameData) (s : ℕ) → IsGame g → s < g.shape.states → first_at g s ≤ 2 ^ 20
first-small g s game ls =
    small _ (each-at (IsWithin (pos 0) (pos (2 ^ 20))) (pos 0) g.first s game.first.each (subst (λ (n : ℕ). s < n) (sym game.first.long) ls))
  where
    small : (x : ℤ) → IsWithin (pos 0) (pos (2 ^ 20)) x → unsigned_abs x ≤ 2 ^ 20
    small x h = let low = h.0 in let high = h.1 in omega (arith, ints)

pub over-small : (g : GameData) (k : CertificateData) (s : ℕ) → IsGame g → CertificateStands g k → s < g.shape.states → sum (over_weights k s) ≤ 65536 * 2 ^ 20
over-small g k s game stands ls =
    let high = stands.fits.starts.multiple.1 in
    let low = stands.fits.starts.multiple.0 in
    let times : unsigned_abs k.multiple ≤ 65536 = omega (arith, ints) in
    let product = mul-le (unsigned_abs k.multiple) (first_at g s) 65536 (2 ^ 20) times (first-small g s game ls) in
    omega (arith, over-total g k s stands ls, product)

-- each of them is light
pub starts-light : (g : GameData) (k : CertificateData) → CertificateFits g k → AllByRecursion (λ (start : ℕ × ℤ). IsLight (length k.points) start.0 start.1) k.start_points
starts-light g k fits =
    each-from (IsStart (length k.points) (pos most_over)) _ k.start_points (λ start h. (h.0, light start.1 h.1)) fits.starts.over.each
  where
    light : (x : ℤ) → IsWithin (pos 1) (pos (2 ^ 36)) x → unsigned_abs x ≤ 2 ^ 66
    light x h = let low = h.0 in let high = h.1 in omega (arith, ints)

pub point-start : (g : GameData) (k : CertificateData) (against : Rival) (s : ℕ) (draws : Lcg) → CertificateStands g k → s < g.shape.states → 1 ≤ first_at g s →
    IfSome (start_point k against s draws) (λ j. j < length k.points)
point-start g k Uniform s draws stands ls some = search rules
point-start g k Points s draws stands ls some =
    member-right (length k.points) (pos most_over) (λ (start : ℕ × ℤ). unsigned_abs start.1 * (points_of k.points start.0).belief s) k.start_points draws stands.fits.starts.over
    (over-some g k s stands ls some)

-- ---- where a play begins
pub begun-right : (g : GameData) (k : CertificateData) (against : Rival) (draws : Lcg) → IsGame g → CertificateStands g k → CanStand g k (begun g k against draws)
begun-right g k against draws game stands =
    let state = state-right g draws game in
    record {
      state = state.within;
      node = node-start g k (after_draws 1 draws) stands.fits;
      point = point-start g k against (state_drawn g draws) (after_draws (1 + draws_over k.start_nodes) draws) stands state.within state.weight;
    }
