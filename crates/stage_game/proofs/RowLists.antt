-- The lists of rows of both programs, as they are made.
use Rattle.std.proofs.Common.{◌≡◌, ℕ, suc, ◌≤◌, List, [], ◌∷◌, ◌++◌, length, map, flat_map, take, replicate, refl, ap, sym, ◌∙◌, append_assoc}
use Rattle.std.specs.Prelude.{ℤ, pos}
use Rattle.std.specs.List.{AllByRecursion}
use Rattle.std.proofs.lemmas.List.{map-append, take_all}
use Rattle.std.proofs.lemmas.List.Concat.{flat_map_single}
use Rattle.scaled_num.specs.Sums.{below}
use Rattle.game_model.specs.Game.{GameData}
use Rattle.stage_game.specs.Masses.{over_pairs}
use Rattle.stage_game.specs.Pairs.{pairs}
use Rattle.stage_game.specs.Scaling.{goal_at, mix_row, stage_program, worth_rows}
use Rattle.stage_game.specs.Variables.{GoesOn, Plays, ProgramData, Variable, WorthOf, variables}
use Rattle.stage_game.proofs.Appends.{blocks-same, each-of-pairs, map-blocks, map-both, over-pairs as over-pairs-is}
use Rattle.stage_game.proofs.Blocks.{variables-parts}

-- a row, made of its three groups
pub row-made : (f : Variable → ℤ) (g : GameData) (ends : List ℕ) (row : List ℤ) (after : List (ℕ × ℕ)) (i : ℕ) →
    after ≡ pairs g.shape.own_actions g.shape.observations → length after ≤ i →
    row ≡ (map (λ s. f (WorthOf s)) (below g.shape.states) ++ map (λ a. f (Plays a)) (below g.shape.own_actions))
    ++ flat_map (λ (p : ℕ × ℕ). map (λ k. f (GoesOn p.0 p.1 k)) ends) (take i after) →
    row ≡ map f (variables g ends)
row-made f g ends row after i e l is =
    let F : ℕ × ℕ → List ℤ = λ (p : ℕ × ℕ). map (λ k. f (GoesOn p.0 p.1 k)) ends in
    is
    ∙ ap (λ (ps : List (ℕ × ℕ)). (map (λ s. f (WorthOf s)) (below g.shape.states) ++ map (λ a. f (Plays a)) (below g.shape.own_actions)) ++ flat_map F ps) (take_all i after l ∙ e)
    ∙ append_assoc (map (λ s. f (WorthOf s)) (below g.shape.states)) (map (λ a. f (Plays a)) (below g.shape.own_actions)) (flat_map F (pairs g.shape.own_actions g.shape.observations))
    ∙ sym (variables-parts f g ends)

abbrev pub over_all : List Variable → List (Variable → ℤ) → List (List ℤ)
over_all vars numbers = map (λ number. map number vars) numbers

pub worth_rows-made : (g : GameData) (f : ℕ → ℕ → Variable → ℤ) (vars : List Variable) →
    map (λ (p : ℕ × ℕ). map (f p.0 p.1) vars) (pairs g.shape.states g.shape.informed_actions) ≡ over_all vars (worth_rows g f)
worth_rows-made g f vars =
    sym (ap (λ (numbers : List (Variable → ℤ)). over_all vars numbers) (each-of-pairs f g.shape.states g.shape.informed_actions)
    ∙ map-both (λ (number : Variable → ℤ). map number vars) (λ (p : ℕ × ℕ). f p.0 p.1) (pairs g.shape.states g.shape.informed_actions))

pub pair_rows-made : (g : GameData) (f : ℕ → ℕ → Variable → ℤ) (vars : List Variable) →
    map (λ (p : ℕ × ℕ). map (f p.0 p.1) vars) (pairs g.shape.own_actions g.shape.observations) ≡ over_all vars (over_pairs g (λ a o. f a o ∷ []))
pair_rows-made g f vars =
    sym (ap (λ (numbers : List (Variable → ℤ)). over_all vars numbers)
    (over-pairs-is (λ a o. f a o ∷ []) g.shape.own_actions g.shape.observations ∙ flat_map_single (λ (p : ℕ × ℕ). f p.0 p.1) (pairs g.shape.own_actions g.shape.observations))
    ∙ map-both (λ (number : Variable → ℤ). map number vars) (λ (p : ℕ × ℕ). f p.0 p.1) (pairs g.shape.own_actions g.shape.observations))

pub member_rows-made : (g : GameData) (f : ℕ → ℕ → ℕ → Variable → ℤ) (members : List ℕ) (vars : List Variable) →
    flat_map (λ (p : ℕ × ℕ). map (λ k. map (f k p.0 p.1) vars) members) (pairs g.shape.own_actions g.shape.observations)
    ≡ over_all vars (over_pairs g (λ a o. map (λ k. f k a o) members))
member_rows-made g f members vars =
    sym (ap (λ (numbers : List (Variable → ℤ)). over_all vars numbers) (over-pairs-is (λ a o. map (λ k. f k a o) members) g.shape.own_actions g.shape.observations)
    ∙ map-blocks (λ (number : Variable → ℤ). map number vars) (λ (p : ℕ × ℕ). map (λ k. f k p.0 p.1) members) (pairs g.shape.own_actions g.shape.observations)
    ∙ blocks-same _ _ (pairs g.shape.own_actions g.shape.observations) (each (pairs g.shape.own_actions g.shape.observations)))
  where
    each : (ps : List (ℕ × ℕ)) → AllByRecursion (λ (p : ℕ × ℕ). map (λ (number : Variable → ℤ). map number vars) (map (λ k. f k p.0 p.1) members) ≡ map (λ k. map (f k p.0 p.1) vars) members) ps
    each [] = tt
    each (p ∷ ps) = (map-both (λ (number : Variable → ℤ). map number vars) (λ k. f k p.0 p.1) members, each ps)

length-all : (vars : List Variable) (numbers : List (Variable → ℤ)) → length (over_all vars numbers) ≡ length numbers
length-all vars [] = refl
length-all vars (n ∷ ns) = ap suc (length-all vars ns)

abbrev pub program_of : List (List ℤ) → List ℤ → List ℤ → ProgramData
program_of r l g = record { rows = r; limits = l; goal = g }

-- a whole program, made of its rows, the row of the mix, its limits and its goal
pub program-made : (g : GameData) (belief : List ℤ) (bits : ℕ) (members : List ℕ) (numbers : List (Variable → ℤ)) (rows : List (List ℤ)) (mix limits goal : List ℤ) →
    rows ≡ over_all (variables g members) numbers → mix ≡ map mix_row (variables g members) →
    limits ≡ replicate (length rows) (pos 0) ++ pos 1 ∷ [] → goal ≡ map (goal_at belief bits) (variables g members) →
    program_of (rows ++ mix ∷ []) limits goal ≡ stage_program g belief bits members numbers
program-made g belief bits members numbers rows mix limits goal e m l k =
    let vars : List Variable = variables g members in
    let count : length rows ≡ length numbers = ap (λ (xs : List (List ℤ)). length xs) e ∙ length-all vars numbers in
    let rows_is : rows ++ mix ∷ [] ≡ over_all vars (numbers ++ mix_row ∷ []) =
    ap (λ (xs : List (List ℤ)). xs ++ mix ∷ []) e ∙ ap (λ (x : List ℤ). over_all vars numbers ++ x ∷ []) m ∙ sym (map-append (λ (number : Variable → ℤ). map number vars) numbers (mix_row ∷ [])) in
    let limits_is : limits ≡ replicate (length numbers) (pos 0) ++ pos 1 ∷ [] = l ∙ ap (λ (n : ℕ). replicate n (pos 0) ++ pos 1 ∷ []) count in
    same rows_is limits_is k
  where
    same : {r1 r2 : List (List ℤ)} {l1 l2 g1 g2 : List ℤ} → r1 ≡ r2 → l1 ≡ l2 → g1 ≡ g2 →
        program_of r1 l1 g1 ≡ program_of r2 l2 g2
    same {r1} {r2} {l1} {l2} {g1} {g2} a b c =
        ap (λ (r : List (List ℤ)). program_of r l1 g1) a ∙ ap (λ (l : List ℤ). program_of r2 l g1) b ∙ ap (λ (x : List ℤ). program_of r2 l2 x) c
