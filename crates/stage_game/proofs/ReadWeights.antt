-- Weights that are read are not negative, and mixes that are shared by them sum to the mix total.
use Rattle.std.proofs.Common.{◌≡◌, ℕ, ◌<◌, ◌≤◌, ◌+◌, ◌*◌, List, length, sym, subst, ap, ◌∙◌, arith}
use Rattle.std.specs.Prelude.{ℤ, pos, ◌*ℤ◌, ◌≤ℤ◌}
use Rattle.std.proofs.lemmas.Int.{ints}
use Rattle.scaled_num.proofs.Floors.{All-at, NoneNegative, floor-none_negative, product_none_negative}
use Rattle.scaled_num.specs.Share.{at}
use Rattle.alpha_set.specs.Nodes.{IsMix}
use Rattle.game_model.specs.Branches.{mix_total}
use Rattle.game_model.specs.Game.{GameData}
use Rattle.simplex.specs.Dictionary.{Dictionary}
use Rattle.stage_game.specs.Advice.{IsMixRead, IsOwnRead}
use Rattle.stage_game.specs.Reading.{ArePriceWeights, ArePrimalWeights, IsPrimalWeight, IsReadable, weight_end}
use Rattle.stage_game.proofs.Last.{value-read}
use Rattle.stage_game.proofs.SharedTotals.{ArePartsOf, parts-within, shared-parts}
use Rattle.stage_game.proofs.Shifted.{left-not-negative, length-left}

-- the weight of a variable is not negative
weight-low : (d : Dictionary) (i : ℕ) (weight : ℤ) → IsReadable d → i < length d.out → IsPrimalWeight d i weight → pos 0 ≤ℤ weight
weight-low d i weight readable inside read =
    let value = value-read d i read.num read.den readable inside read.value in
    floor-none_negative weight (read.num *ℤ pos weight_end) read.den (product_none_negative read.num (pos weight_end) value.not_negative (omega (arith, ints))) value.positive read.floor

pub primal-low : (d : Dictionary) (first count : ℕ) (weights : List ℤ) → IsReadable d → first + count ≤ length d.out → ArePrimalWeights d first count weights → NoneNegative weights
primal-low d first count weights readable inside read =
    All-at (λ x. pos 0 ≤ℤ x) weights (λ i l. weight-low d (first + i) (at weights i) readable (omega (arith, read.long)) (read.each i (omega (arith, read.long))))

pub prices-low : (d : Dictionary) (first count : ℕ) (weights : List ℤ) → ArePriceWeights d first count weights → NoneNegative weights
prices-low d first count weights read = subst NoneNegative (sym read.same) (left-not-negative read.prices read.bits read.least.fits)

pub prices-long : (d : Dictionary) (first count : ℕ) (weights : List ℤ) → ArePriceWeights d first count weights → length weights ≡ count
prices-long d first count weights read = ap length read.same ∙ length-left read.prices read.bits ∙ read.read.long

-- parts of the mix total are a mix
pub mix-of : (count : ℕ) (mix : List ℤ) → ArePartsOf (pos mix_total) count mix → IsMix count mix
mix-of count mix are = record { long = are.long; each = parts-within (pos mix_total) count mix are; sums = are.sums }

pub own-mix : (g : GameData) (d : Dictionary) (own : List ℤ) → IsReadable d → g.shape.states + g.shape.own_actions ≤ length d.out → 0 < g.shape.own_actions → IsOwnRead g d own → IsMix g.shape.own_actions own
own-mix g d own readable inside some read =
    mix-of g.shape.own_actions own
    (subst (λ (n : ℕ). ArePartsOf (pos mix_total) n own) read.read.long
    (shared-parts read.weights (pos mix_total) own
    (primal-low d g.shape.states g.shape.own_actions read.weights readable inside read.read) (omega (arith, read.read.long)) (omega (arith, ints)) read.shared))

pub state-mix : (g : GameData) (d : Dictionary) (s : ℕ) (mix : List ℤ) → 0 < g.shape.informed_actions → IsMixRead g d s mix → ArePartsOf (pos mix_total) g.shape.informed_actions mix
state-mix g d s mix some read =
    let long : length read.weights ≡ g.shape.informed_actions = prices-long d (s * g.shape.informed_actions) g.shape.informed_actions read.weights read.read in
    subst (λ (n : ℕ). ArePartsOf (pos mix_total) n mix) long
    (shared-parts read.weights (pos mix_total) mix
    (prices-low d (s * g.shape.informed_actions) g.shape.informed_actions read.weights read.read) (omega arith) (omega (arith, ints)) read.shared)
