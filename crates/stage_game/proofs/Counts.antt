-- How many rows and variables stage programs have, and their goal.
use Rattle.std.proofs.Common.{◌≡◌, ℕ, suc, ◌+◌, ◌*◌, ◌^◌, ◌<◌, List, [], ◌∷◌, ◌++◌, flat_map, length, map, refl, ap, arith, ◌∙◌}
use Rattle.std.specs.Prelude.{ℤ, ◌*ℤ◌}
use Rattle.std.specs.List.{AllByRecursion}
use Rattle.std.proofs.lemmas.Int.{ints}
use Rattle.std.proofs.lemmas.List.{length-append}
use Rattle.std.proofs.lemmas.List.FromFn.{length-range_with_len}
use Rattle.scaled_num.specs.Sums.{below, sum_of}
use Rattle.scaled_num.specs.Share.{at}
use Rattle.game_model.specs.Game.{GameData, IsBelief}
use Rattle.simplex.specs.Program.{IsNarrow}
use Rattle.stage_game.specs.Asked.{AreBits}
use Rattle.stage_game.specs.Masses.{over_pairs}
use Rattle.stage_game.specs.Pairs.{pairs}
use Rattle.stage_game.specs.Scaling.{ceil_of, goal_at, scale, worth_rows}
use Rattle.stage_game.specs.Variables.{GoesOn, Plays, Variable, WorthOf, variables}
use Rattle.stage_game.proofs.Appends.{each-of-pairs, over-pairs}
use Rattle.stage_game.proofs.BeliefShares.{belief-quotient}
use Rattle.stage_game.proofs.Blocks.{length-rows}
use Rattle.stage_game.proofs.LowerNumbers.{bits-few, narrow-over}
use Rattle.stage_game.proofs.Quotients.{ceil-small}
use Rattle.stage_game.proofs.Serving.{AreNarrowOver}

pub length-mapped : {X Y : Type 0} (f : X → Y) (xs : List X) → length (map f xs) ≡ length xs
length-mapped f [] = refl
length-mapped f (x ∷ xs) = ap suc (length-mapped f xs)

pub length-pairs : (m n : ℕ) → length (pairs m n) ≡ m * n
length-pairs m n = length-rows n (below m) ∙ ap (λ (k : ℕ). k * n) (length-range_with_len 0 m)

length-blocks : {X Y : Type 0} (f : X → List Y) (n : ℕ) (xs : List X) → AllByRecursion (λ x. length (f x) ≡ n) xs → length (flat_map f xs) ≡ length xs * n
length-blocks f n [] h = omega arith
length-blocks f n (x ∷ xs) h = length-append (f x) (flat_map f xs) ∙ joined (length (f x)) (length (flat_map f xs)) (length xs) n h.0 (length-blocks f n xs h.1)
  where
    joined : (a b m n : ℕ) → a ≡ n → b ≡ m * n → a + b ≡ suc m * n
    joined a b m n e f = omega arith

everywhere : {X : Type 0} {P : X → Type 0} (xs : List X) → ((x : X) → P x) → AllByRecursion P xs
everywhere [] h = tt
everywhere (x ∷ xs) h = (h x, everywhere xs h)

pub length-over_pairs : {X : Type 0} (g : GameData) (f : ℕ → ℕ → List X) (n : ℕ) → ((a o : ℕ) → length (f a o) ≡ n) → length (over_pairs g f) ≡ g.shape.own_actions * g.shape.observations * n
length-over_pairs g f n h =
    ap (λ (xs : List _). length xs) (over-pairs f g.shape.own_actions g.shape.observations)
    ∙ length-blocks (λ (p : ℕ × ℕ). f p.0 p.1) n (pairs g.shape.own_actions g.shape.observations) (everywhere _ (λ p. h p.0 p.1))
    ∙ ap (λ (k : ℕ). k * n) (length-pairs g.shape.own_actions g.shape.observations)

pub length-variables : (g : GameData) (ends : List ℕ) → length (variables g ends) ≡ g.shape.states + g.shape.own_actions + g.shape.own_actions * g.shape.observations * length ends
length-variables g ends =
    let third : List Variable = over_pairs g (λ a o. map (GoesOn a o) ends) in
    let worths : length (map WorthOf (below g.shape.states)) ≡ g.shape.states = length-mapped WorthOf (below g.shape.states) ∙ length-range_with_len 0 g.shape.states in
    let plays : length (map Plays (below g.shape.own_actions)) ≡ g.shape.own_actions = length-mapped Plays (below g.shape.own_actions) ∙ length-range_with_len 0 g.shape.own_actions in
    let goes : length third ≡ g.shape.own_actions * g.shape.observations * length ends = length-over_pairs g (λ a o. map (GoesOn a o) ends) (length ends) (λ a o. length-mapped (GoesOn a o) ends) in
    length-append (map WorthOf (below g.shape.states)) (map Plays (below g.shape.own_actions) ++ third)
    ∙ omega (arith, worths, plays, goes, length-append (map Plays (below g.shape.own_actions)) third)

pub length-worth_rows : (g : GameData) (f : ℕ → ℕ → Variable → ℤ) → length (worth_rows g f) ≡ g.shape.states * g.shape.informed_actions
length-worth_rows g f =
    ap (λ (xs : List (Variable → ℤ)). length xs) (each-of-pairs f g.shape.states g.shape.informed_actions)
    ∙ length-mapped (λ (p : ℕ × ℕ). f p.0 p.1) (pairs g.shape.states g.shape.informed_actions)
    ∙ length-pairs g.shape.states g.shape.informed_actions

pub length-lower_rows : (g : GameData) (f h : ℕ → ℕ → Variable → ℤ) →
    length (worth_rows g f ++ over_pairs g (λ a o. h a o ∷ [])) ≡ g.shape.states * g.shape.informed_actions + g.shape.own_actions * g.shape.observations
length-lower_rows g f h =
    let goes : length (over_pairs g (λ a o. h a o ∷ [])) ≡ g.shape.own_actions * g.shape.observations * 1 = length-over_pairs g (λ a o. h a o ∷ []) 1 (λ a o. refl) in
    length-append (worth_rows g f) (over_pairs g (λ a o. h a o ∷ [])) ∙ omega (arith, length-worth_rows g f, goes)

pub length-upper_rows : (g : GameData) (f : ℕ → ℕ → Variable → ℤ) (h : ℕ → ℕ → ℕ → Variable → ℤ) (ends : List ℕ) →
    length (worth_rows g f ++ over_pairs g (λ a o. map (λ k. h k a o) ends)) ≡ g.shape.states * g.shape.informed_actions + g.shape.own_actions * g.shape.observations * length ends
length-upper_rows g f h ends =
    let points : length (over_pairs g (λ a o. map (λ k. h k a o) ends)) ≡ g.shape.own_actions * g.shape.observations * length ends = length-over_pairs g (λ a o. map (λ k. h k a o) ends) (length ends) (λ a o. length-mapped (λ k. h k a o) ends) in
    length-append (worth_rows g f) (over_pairs g (λ a o. map (λ k. h k a o) ends)) ∙ omega (arith, length-worth_rows g f, points)

-- the goal is narrow
pub goal-narrow : (g : GameData) (belief : List ℤ) (bits count : ℕ) (ends : List ℕ) → AllByRecursion (λ k. k < count) ends → AreBits bits → IsBelief g.shape.states belief → AreNarrowOver (variables g ends) (goal_at belief bits)
goal-narrow g belief bits count ends inside b right = narrow-over g (goal_at belief bits) count ends inside worths (λ a l. omega arith) (λ a o k l m n. omega arith)
  where
    worths : (s : ℕ) → s < g.shape.states → IsNarrow (ceil_of (scale bits *ℤ at belief s) (sum_of belief))
    worths s l =
        let few = bits-few bits b in
        let q = belief-quotient g.shape.states belief right bits few s l in
        let small = ceil-small (scale bits *ℤ at belief s) (sum_of belief) (2 ^ bits) q.divisor q.low q.high in
        let low = small.low in
        let high = small.high in
        omega (arith, ints)
