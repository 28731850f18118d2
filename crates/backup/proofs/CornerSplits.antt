-- Shares that split masses into corners make them up.
use Rattle.std.proofs.Common.{◌≡◌, ℕ, ◌*◌, ◌<◌, ◌≤◌, Bool, true, false, cond, ◌==◌, ◌&&◌, List, [], ◌∷◌, map, filter, refl, ap, arith, sym, ◌∙◌}
use Rattle.std.specs.Prelude.{ℤ, pos, ◌+ℤ◌, ◌*ℤ◌, unsigned_abs, flat_map}
use Rattle.std.proofs.lemmas.Int.{ints}
use Rattle.std.proofs.lemmas.Bool.{ltb-false}
use Rattle.scaled_num.specs.Sums.{below, total}
use Rattle.scaled_num.proofs.Products.{mulℤ_comm}
use Rattle.scaled_num.proofs.Sums.{total-below, total-flat_map, total-map, total-pos, total-scale, total-single}
use Rattle.game_model.specs.Branches.{Branch, Continuation, continuation_of}
use Rattle.game_model.specs.Game.{GameData, numbers}
use Rattle.belief.specs.Mixes.{MixesData}
use Rattle.point_set.specs.Points.{Point, SplitHolds, point_of, shares_at}
use Rattle.backup.specs.Seeds.{corner_split, has_weight, mass_at}
use Rattle.backup.proofs.Placed.{turn}

zero-plus : (x y z : ℤ) → x ≡ pos 0 → z ≡ y → z ≡ x +ℤ y
zero-plus x y z e f = omega (arith, ints)

-- a sum over the shares that pass a test, where those that were left out count for nothing
filter-total : (F : Continuation → ℤ) (p : Continuation → Bool) (q : Branch → Bool) (xs : List Branch) →
    ((b : Branch) → q b ≡ false → cond (p (continuation_of b)) (F (continuation_of b)) (pos 0) ≡ pos 0) →
    total F (filter p (map continuation_of (filter q xs))) ≡ total (λ b. cond (p (continuation_of b)) (F (continuation_of b)) (pos 0)) xs
filter-total F p q [] none = refl
filter-total F p q (b ∷ bs) none =
    let G : Branch → ℤ = λ b. cond (p (continuation_of b)) (F (continuation_of b)) (pos 0) in
    let rest : List Continuation = filter p (map continuation_of (filter q bs)) in
    let later : total F rest ≡ total G bs = filter-total F p q bs none in
    elim (q b) as (λ x. q b ≡ x → total F (filter p (map continuation_of (cond x (b ∷ filter q bs) (filter q bs)))) ≡ G b +ℤ total G bs) [
      | true ↦ (λ e. elim (p (continuation_of b)) as (λ y. total F (cond y (continuation_of b ∷ rest) rest) ≡ cond y (F (continuation_of b)) (pos 0) +ℤ total G bs) [
        | true ↦ ap (λ (z : ℤ). F (continuation_of b) +ℤ z) later
        | false ↦ zero-plus (pos 0) _ _ refl later
      ])
      | false ↦ (λ e. zero-plus (G b) _ _ (none b e) later)
    ] refl

-- the shares of all places, also those with no weight
abbrev pub all_shares : (ℕ → ℕ → ℕ → ℕ) → ℕ → ℕ → ℕ → List Branch
all_shares m A O S =
    flat_map (λ a. flat_map (λ o. map (λ t. record { own = a; seen = o; member = t; weight = pos (m a o t) }) (below S)) (below O)) (below A)

counts : (x y : Bool) (v : ℤ) → cond (x && y) v (pos 0) ≡ pos (cond x 1 0) *ℤ (pos (cond y 1 0) *ℤ v)
counts true true v = omega (arith, ints)
counts true false v = omega (arith, ints)
counts false y v = omega (arith, ints)

counted-all : (m : ℕ → ℕ → ℕ → ℕ) (A O S a o : ℕ) (z : ℕ → ℤ) → a < A → o < O →
    total (λ (b : Branch). cond ((b.own == a) && (b.seen == o)) (pos (unsigned_abs b.weight) *ℤ z b.member) (pos 0)) (all_shares m A O S)
    ≡ total (λ t. pos (m a o t) *ℤ z t) (below S)
counted-all m A O S a o z la lo =
    let G : Branch → ℤ = λ (b : Branch). cond ((b.own == a) && (b.seen == o)) (pos (unsigned_abs b.weight) *ℤ z b.member) (pos 0) in
    let here : ℕ → ℕ → ℕ → Branch = λ p u t. record { own = p; seen = u; member = t; weight = pos (m p u t) } in
    let inner : ℕ → ℕ → ℤ = λ p u. total (λ t. pos (m p u t) *ℤ z t) (below S) in
    total-flat_map G (λ p. flat_map (λ u. map (here p u) (below S)) (below O)) (below A)
    ∙ total-below A _ (λ p. pos (cond (p == a) 1 0) *ℤ inner p o) (λ p lp.
    total-flat_map G (λ u. map (here p u) (below S)) (below O)
    ∙ total-below O _ (λ u. pos (cond (p == a) 1 0) *ℤ (pos (cond (u == o) 1 0) *ℤ inner p u)) (λ u lu.
    total-map G (here p u) (below S)
    ∙ total-below S _ (λ t. pos (cond (p == a) 1 0) *ℤ (pos (cond (u == o) 1 0) *ℤ (pos (m p u t) *ℤ z t))) (λ t lt. counts (p == a) (u == o) (pos (m p u t) *ℤ z t))
    ∙ total-scale (pos (cond (p == a) 1 0)) (λ t. pos (cond (u == o) 1 0) *ℤ (pos (m p u t) *ℤ z t)) (below S)
    ∙ ap (λ (y : ℤ). pos (cond (p == a) 1 0) *ℤ y) (total-scale (pos (cond (u == o) 1 0)) (λ t. pos (m p u t) *ℤ z t) (below S)))
    ∙ total-scale (pos (cond (p == a) 1 0)) (λ u. pos (cond (u == o) 1 0) *ℤ inner p u) (below O)
    ∙ ap (λ (y : ℤ). pos (cond (p == a) 1 0) *ℤ y) (total-single (λ u. inner p u) o O lo))
    ∙ total-single (λ p. inner p o) a A la

no-weight : (z : ℕ → ℤ) (c : Bool) (b : Branch) → has_weight b ≡ false → cond c (pos (unsigned_abs b.weight) *ℤ z b.member) (pos 0) ≡ pos 0
no-weight z true b e =
    let none : unsigned_abs b.weight ≤ 0 = ltb-false 0 (unsigned_abs b.weight) e in
    ap (λ (n : ℕ). pos n *ℤ z b.member) (same (unsigned_abs b.weight) none) ∙ nothing (z b.member)
  where
    same : (n : ℕ) → n ≤ 0 → n ≡ 0
    same n l = omega arith

    nothing : (z : ℤ) → pos 0 *ℤ z ≡ pos 0
    nothing z = omega (arith, ints)
no-weight z false b e = refl

-- what the shares after an own action and an observation count for: each mass times what its corner counts for
pub counted-corners : (g : GameData) (belief : List ℤ) (value : ℤ) (mixes : MixesData) (a o : ℕ) (z : ℕ → ℤ) → a < g.shape.own_actions → o < g.shape.observations →
    total (λ share. pos share.weight *ℤ z share.member) (shares_at (point_of (corner_split g belief value mixes)) a o)
    ≡ total (λ t. pos (mass_at g belief mixes a o t) *ℤ z t) (below g.shape.states)
counted-corners g belief value mixes a o z la lo =
    filter-total (λ share. pos share.weight *ℤ z share.member) (λ share. (share.own == a) && (share.seen == o)) has_weight
    (all_shares (mass_at g belief mixes) g.shape.own_actions g.shape.observations g.shape.states)
    (λ b e. no-weight z ((b.own == a) && (b.seen == o)) b e)
    ∙ counted-all (mass_at g belief mixes) g.shape.own_actions g.shape.observations g.shape.states a o z la lo

-- the first points are the corners, with these values
pub record BeginWithCorners (g : GameData) (values : ℕ → ℤ) (points : ℕ → Point) : Type 0 where
  pub belief : (t u : ℕ) → t < g.shape.states → u < g.shape.states → (points t).belief u ≡ cond (u == t) 1 0
  pub value : (t : ℕ) → t < g.shape.states → (points t).value ≡ values t

-- so the split rule holds
pub corner-splits : (g : GameData) (values : ℕ → ℤ) (points : ℕ → Point) → BeginWithCorners g values points → (belief : List ℤ) (value : ℤ) (mixes : MixesData) (a o t : ℕ) →
    a < g.shape.own_actions → o < g.shape.observations → t < g.shape.states → SplitHolds (numbers g) points (point_of (corner_split g belief value mixes)) a o t
corner-splits g values points corners belief value mixes a o t la lo lt =
    ap unsigned_abs
    (sym (total-pos (λ (share : Continuation). share.weight * (points share.member).belief t) (shares_at (point_of (corner_split g belief value mixes)) a o))
    ∙ counted-corners g belief value mixes a o (λ k. pos ((points k).belief t)) la lo
    ∙ total-below g.shape.states _ (λ k. pos (cond (k == t) 1 0) *ℤ pos (mass_at g belief mixes a o k)) (λ k lk.
    ap (λ (n : ℕ). pos (mass_at g belief mixes a o k) *ℤ pos n) (corners.belief k t lk lt ∙ ap (λ (b : Bool). cond b 1 0) (turn t k))
    ∙ mulℤ_comm (pos (mass_at g belief mixes a o k)) (pos (cond (k == t) 1 0)))
    ∙ total-single (λ k. pos (mass_at g belief mixes a o k)) t g.shape.states lt)
