-- What is read from a lower program's run fits.
use Rattle.std.proofs.Common.{◌≡◌, ℕ, ◌<◌, ◌≤◌, ◌+◌, ◌*◌, ◌∷◌, [], List, Bool, true, false, cond, length, refl, sym, subst, ap, ◌∙◌, arith}
use Rattle.std.specs.Prelude.{ℤ, pos, filter, unsigned_abs, ◌+ℤ◌, ◌≤ℤ◌}
use Rattle.std.specs.List.{AllByRecursion}
use Rattle.std.proofs.lemmas.Bool.{ltb-false, ltb-true}
use Rattle.std.proofs.lemmas.Int.{ints}
use Rattle.std.proofs.Math.Nat.{mul-le-mul_right}
use Rattle.scaled_num.proofs.Floors.{NoneNegative}
use Rattle.scaled_num.proofs.Sums.{each-at, total-map, total-places}
use Rattle.scaled_num.specs.Share.{at}
use Rattle.scaled_num.specs.Sums.{below, sum_of, total}
use Rattle.alpha_set.specs.Nodes.{IsMix}
use Rattle.game_model.specs.Branches.{AreBranches, Branch, IsBranch, branches_at, mix_total}
use Rattle.game_model.specs.Game.{GameData, IsWithin, numbers}
use Rattle.simplex.specs.Dictionary.{Dictionary}
use Rattle.stage_game.specs.Advice.{AreInformedRead, AreStepsAfter, AreStepsRead, IsOwnRead}
use Rattle.stage_game.specs.AdviceData.{LowerAdviceData, first_going_on, has_weight, listed, listed_one}
use Rattle.stage_game.specs.Asked.{AreNamed, lower_variables}
use Rattle.stage_game.specs.Fits.{LowerFits}
use Rattle.stage_game.specs.Reading.{IsReadable}
use Rattle.stage_game.proofs.Placed.{AllBefore, IsAt, before-filter, branches-of-pair, each-filter, each-weaker, listed-at, listed-before, map-each, over-pairs-each, over-pairs-rising}
use Rattle.stage_game.proofs.ReadWeights.{own-mix, primal-low}
use Rattle.stage_game.proofs.SharedTotals.{ArePartsOf, parts-within, shared-parts}
use Rattle.stage_game.proofs.StateMixes.{informed-fit}

-- places of 0 add nothing to a sum
no-weight : (b : Branch) → has_weight b ≡ false → b.weight ≡ pos 0
no-weight b e = let none : unsigned_abs b.weight ≤ 0 = ltb-false 0 (unsigned_abs b.weight) e in omega (arith, ints)

some-weight : (b : Branch) → has_weight b ≡ true → pos 0 ≤ℤ b.weight → pos 1 ≤ℤ b.weight
some-weight b e low = let some : 0 < unsigned_abs b.weight = ltb-true 0 (unsigned_abs b.weight) e in omega (arith, ints)

nothing-more : (x y : ℤ) → x ≡ pos 0 → y ≡ x +ℤ y
nothing-more x y e = omega (arith, ints)

weight-kept : (t : Bool) (b : Branch) (steps : List Branch) → has_weight b ≡ t → total (λ b. b.weight) (filter has_weight steps) ≡ total (λ b. b.weight) steps
    → total (λ b. b.weight) (cond t (b ∷ filter has_weight steps) (filter has_weight steps)) ≡ b.weight +ℤ total (λ b. b.weight) steps
weight-kept true b steps e rest = ap (λ z. b.weight +ℤ z) rest
weight-kept false b steps e rest = rest ∙ nothing-more b.weight (total (λ b. b.weight) steps) (no-weight b e)

weights-passed : (steps : List Branch) → total (λ b. b.weight) (filter has_weight steps) ≡ total (λ b. b.weight) steps
weights-passed [] = refl
weights-passed (b ∷ steps) = weight-kept (has_weight b) b steps refl (weights-passed steps)

-- what passes has a weight of at least 1
passed-kept : (P : Branch → Type 0) (Q : Branch → Type 0) → ((b : Branch) → has_weight b ≡ true → P b → Q b) → (t : Bool) (b : Branch) (steps : List Branch) → has_weight b ≡ t → P b → AllByRecursion Q (filter has_weight steps)
    → AllByRecursion Q (cond t (b ∷ filter has_weight steps) (filter has_weight steps))
passed-kept P Q h true b steps e p rest = (h b e p, rest)
passed-kept P Q h false b steps e p rest = rest

passed-each : (P : Branch → Type 0) (Q : Branch → Type 0) → ((b : Branch) → has_weight b ≡ true → P b → Q b) → (steps : List Branch) → AllByRecursion P steps → AllByRecursion Q (filter has_weight steps)
passed-each P Q h [] p = tt
passed-each P Q h (b ∷ steps) p = passed-kept P Q h (has_weight b) b steps refl p.0 (passed-each P Q h steps p.1)

-- a place of an own action and an observation is inside
pub block-inside : (a o actions observations count : ℕ) → a < actions → o < observations → (a * observations + o) * count + count ≤ actions * observations * count
block-inside a o actions observations count la lo =
    let pair : a * observations + o + 1 ≤ actions * observations = grind (arith, mul-le-mul_right observations la) in
    let blocks : (a * observations + o + 1) * count ≤ actions * observations * count = mul-le-mul_right count pair in
    omega (arith, blocks)

-- what is known of the steps after one pair
record AreFitting (g : GameData) (nodes a o : ℕ) (weight : ℤ) (steps : List Branch) : Type 0 where
  each : AllByRecursion (IsBranch (numbers g) nodes (pos mix_total)) steps
  sums : total (λ b. b.weight) steps ≡ weight
  before : AllBefore steps
  places : AllByRecursion (IsAt a o) steps

-- a step that is listed: its weight is 0 to the whole
record IsListed (g : GameData) (nodes : ℕ) (b : Branch) : Type 0 where
  own : b.own < g.shape.own_actions
  seen : b.seen < g.shape.observations
  member : b.member < nodes
  weight : IsWithin (pos 0) (pos mix_total) b.weight

listed-each : (g : GameData) (nodes a o : ℕ) (candidates : List ℕ) (shares : List ℤ) → AllByRecursion (λ k. k < nodes) candidates → a < g.shape.own_actions → o < g.shape.observations
    → length shares ≡ length candidates → AllByRecursion (IsWithin (pos 0) (pos mix_total)) shares → AllByRecursion (IsListed g nodes) (listed a o candidates shares)
listed-each g nodes a o candidates shares named la lo long within =
    map-each (IsListed g nodes) (listed_one a o candidates shares) 0 (length candidates)
    (λ i l. record {
      own = la;
      seen = lo;
      member = each-at (λ k. k < nodes) 0 candidates i named (omega arith);
      weight = each-at (IsWithin (pos 0) (pos mix_total)) (pos 0) shares i within (omega arith);
    })

listed-sum : (a o : ℕ) (candidates : List ℕ) (shares : List ℤ) → length shares ≡ length candidates → total (λ b. b.weight) (listed a o candidates shares) ≡ sum_of shares
listed-sum a o candidates shares long =
    total-map (λ b. b.weight) (listed_one a o candidates shares) (below (length candidates))
    ∙ ap (λ (n : ℕ). total (λ i. at shares i) (below n)) (sym long)
    ∙ total-places (λ x. x) (pos 0) shares

steps-fitting : (g : GameData) (nodes : ℕ) (candidates : List ℕ) (d : Dictionary) (own : List ℤ) (a o : ℕ) (steps : List Branch)
    → IsReadable d → lower_variables g (length candidates) ≤ length d.out → 1 ≤ length candidates → AreNamed nodes candidates
    → IsMix g.shape.own_actions own → a < g.shape.own_actions → o < g.shape.observations → AreStepsAfter g candidates d own a o steps
    → AreFitting g nodes a o (at own a) steps
steps-fitting g nodes candidates d own a o steps readable inside some named mix la lo read =
    let count : ℕ = length candidates in
    let weight : IsWithin (pos 0) (pos mix_total) (at own a) = each-at (IsWithin (pos 0) (pos mix_total)) (pos 0) own a mix.each (omega (arith, mix.long)) in
    let low : NoneNegative read.weights =
    primal-low d (first_going_on g count a o) count read.weights readable (omega (arith, block-inside a o g.shape.own_actions g.shape.observations count la lo)) read.read in
    let parts : ArePartsOf (at own a) (length read.weights) read.shares = shared-parts read.weights (at own a) read.shares low (omega (arith, read.read.long)) weight.0 read.shared in
    let long : length read.shares ≡ count = parts.long ∙ read.read.long in
    let all : List Branch = listed a o candidates read.shares in
    let within : AllByRecursion (IsWithin (pos 0) (pos mix_total)) read.shares =
    each-weaker (IsWithin (pos 0) (at own a)) (IsWithin (pos 0) (pos mix_total)) (λ x l. (l.0, omega (arith, ints, l.1, weight.1))) read.shares
    (parts-within (at own a) (length read.weights) read.shares parts) in
    subst (AreFitting g nodes a o (at own a)) (sym read.same) (record {
      each = passed-each (IsListed g nodes) (IsBranch (numbers g) nodes (pos mix_total))
          (λ b e l. record { own = l.own; seen = l.seen; member = l.member; weight = (some-weight b e l.weight.0, l.weight.1) })
          all (listed-each g nodes a o candidates read.shares named.inside la lo long within);
      sums = weights-passed all ∙ listed-sum a o candidates read.shares long ∙ parts.sums;
      before = before-filter has_weight all (listed-before a o candidates read.shares named.rising);
      places = each-filter (IsAt a o) has_weight all (listed-at a o candidates read.shares);
    })

pub lower-fits : (g : GameData) (nodes : ℕ) (candidates : List ℕ) (d : Dictionary) (advice : LowerAdviceData) → IsReadable d
    → 0 < g.shape.own_actions → 0 < g.shape.informed_actions → lower_variables g (length candidates) ≤ length d.out
    → 1 ≤ length candidates → AreNamed nodes candidates
    → IsOwnRead g d advice.own → AreStepsRead g candidates d advice.own advice.next → AreInformedRead g d advice.informed → LowerFits g nodes advice
lower-fits g nodes candidates d advice readable some_own some_informed inside some named own next informed =
    let mix : IsMix g.shape.own_actions advice.own = own-mix g d advice.own readable (omega arith) some_own own in
    let fitting = λ (a o : ℕ) (la : a < g.shape.own_actions) (lo : o < g.shape.observations).
    steps-fitting g nodes candidates d advice.own a o (next.after a o) readable inside some named mix la lo (next.read a o la lo) in
    record {
      mix = mix;
      next = subst (AreBranches (numbers g) nodes (pos mix_total)) (sym next.same) (record {
        rising = over-pairs-rising g next.after (record { before = λ a o la lo. (fitting a o la lo).before; places = λ a o la lo. (fitting a o la lo).places });
        each = over-pairs-each (IsBranch (numbers g) nodes (pos mix_total)) g next.after (λ a o la lo. (fitting a o la lo).each);
      });
      sums = λ a o la lo.
          ap (λ (steps : List Branch). total (λ b. b.weight) (branches_at steps a o)) next.same
          ∙ ap (λ (steps : List Branch). total (λ b. b.weight) steps) (branches-of-pair g next.after a o la lo (λ c p lc lp. (fitting c p lc lp).places))
          ∙ (fitting a o la lo).sums;
      informed = informed-fit g d advice.informed some_informed informed;
    }
