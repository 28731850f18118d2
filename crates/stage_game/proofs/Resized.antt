-- Rows that are made by lengthening them with equal numbers.
use Rattle.std.proofs.Common.{◌≡◌, ℕ, suc, ◌+◌, ◌-◌, ◌*◌, ◌<◌, ◌≤◌, List, [], ◌∷◌, ◌++◌, length, map, flat_map, take, replicate, refl, ap, arith, sym, ◌∙◌, append_assoc}
use Rattle.std.specs.Prelude.{ℤ, pos}
use Rattle.std.specs.List.{AllByRecursion}
use Rattle.std.proofs.Math.Nat.{mul-le-mul_right}
use Rattle.std.proofs.lemmas.List.{length-append, length-replicate, replicate-append-replicate, take_all}
use Rattle.std.proofs.lemmas.List.FromFn.{length-range_with_len}
use Rattle.scaled_num.specs.Sums.{below}
use Rattle.scaled_num.proofs.Sums.{below-each}
use Rattle.game_model.specs.Game.{GameData}
use Rattle.stage_game.specs.PairRow.{IsPairRow}
use Rattle.stage_game.specs.Pairs.{pairs}
use Rattle.stage_game.specs.Scaling.{goal_at, mix_row}
use Rattle.stage_game.specs.Variables.{GoesOn, Plays, Variable, WorthOf, variables}
use Rattle.stage_game.proofs.Blocks.{all-same, length-rows, pair_row-is, variables-parts, zero-blocks, zeros}

-- a list that is cut to a length or filled up to it, where it is no longer than that
abbrev pub resized : List ℤ → ℕ → ℤ → List ℤ
resized xs n z = take n xs ++ replicate (n - length xs) z

pub padded : (xs : List ℤ) (n m : ℕ) (z : ℤ) → length xs + m ≡ n → resized xs n z ≡ xs ++ replicate m z
padded xs n m z e =
    let left : n - length xs ≡ m = omega arith in
    ap (λ (ys : List ℤ). ys ++ replicate (n - length xs) z) (take_all n xs (omega arith)) ∙ ap (λ (k : ℕ). xs ++ replicate k z) left

pub first-padded : (n : ℕ) (z : ℤ) → resized [] n z ≡ replicate n z
first-padded n z = padded [] n n z (omega arith)

-- the third group, where all is 0
pub third-zero : (f : Variable → ℤ) (g : GameData) (ends : List ℕ) → ((a o k : ℕ) → f (GoesOn a o k) ≡ pos 0) →
    flat_map (λ (p : ℕ × ℕ). map (λ k. f (GoesOn p.0 p.1 k)) ends) (pairs g.shape.own_actions g.shape.observations)
    ≡ zeros (g.shape.own_actions * g.shape.observations * length ends)
third-zero f g ends h =
    let A : ℕ = g.shape.own_actions in
    let O : ℕ = g.shape.observations in
    let count : length (pairs A O) ≡ A * O = length-rows O (below A) ∙ ap (λ (k : ℕ). k * O) (length-range_with_len 0 A) in
    zero-blocks _ (length ends) (pairs A O) (each (pairs A O)) ∙ ap (λ (k : ℕ). zeros (k * length ends)) count
  where
    numbers : (p : ℕ × ℕ) (xs : List ℕ) → AllByRecursion (λ k. f (GoesOn p.0 p.1 k) ≡ pos 0) xs
    numbers p [] = tt
    numbers p (x ∷ xs) = (h p.0 p.1 x, numbers p xs)

    each : (ps : List (ℕ × ℕ)) → AllByRecursion (λ (p : ℕ × ℕ). map (λ k. f (GoesOn p.0 p.1 k)) ends ≡ zeros (length ends)) ps
    each [] = tt
    each (p ∷ ps) = (all-same (λ k. f (GoesOn p.0 p.1 k)) (pos 0) ends (numbers p ends), each ps)

-- the row of the mix, as it is made
pub mix_row-made : (g : GameData) (ends : List ℕ) (width : ℕ) →
    width ≡ g.shape.states + g.shape.own_actions + g.shape.own_actions * g.shape.observations * length ends →
    resized (resized (resized [] g.shape.states (pos 0)) (g.shape.states + g.shape.own_actions) (pos 1)) width (pos 0) ≡ map mix_row (variables g ends)
mix_row-made g ends width e =
    let S : ℕ = g.shape.states in
    let A : ℕ = g.shape.own_actions in
    let rest : ℕ = A * g.shape.observations * length ends in
    let ones : List ℤ = replicate A (pos 1) in
    let two : List ℤ = zeros S ++ ones in
    let worths : map (λ s. mix_row (WorthOf s)) (below S) ≡ zeros S = all-same _ (pos 0) (below S) (below-each _ S (λ s m. refl)) ∙ ap zeros (length-range_with_len 0 S) in
    let plays : map (λ a. mix_row (Plays a)) (below A) ≡ ones = all-same _ (pos 1) (below A) (below-each _ A (λ s m. refl)) ∙ ap (λ (k : ℕ). replicate k (pos 1)) (length-range_with_len 0 A) in
    let two_long : length two ≡ S + A = length-append (zeros S) ones ∙ omega (arith, length-replicate S (pos 0), length-replicate A (pos 1)) in
    ap (λ (xs : List ℤ). resized (resized xs (S + A) (pos 1)) width (pos 0)) (first-padded S (pos 0))
    ∙ ap (λ (xs : List ℤ). resized xs width (pos 0)) (padded (zeros S) (S + A) A (pos 1) (omega (arith, length-replicate S (pos 0))))
    ∙ padded two width rest (pos 0) (omega arith)
    ∙ append_assoc (zeros S) ones (zeros rest)
    ∙ sym (variables-parts mix_row g ends
    ∙ ap (λ (xs : List ℤ). xs ++ (map (λ a. mix_row (Plays a)) (below A) ++ flat_map (λ (p : ℕ × ℕ). map (λ k. mix_row (GoesOn p.0 p.1 k)) ends) (pairs A g.shape.observations))) worths
    ∙ ap (λ (xs : List ℤ). zeros S ++ (xs ++ flat_map (λ (p : ℕ × ℕ). map (λ k. mix_row (GoesOn p.0 p.1 k)) ends) (pairs A g.shape.observations))) plays
    ∙ ap (λ (xs : List ℤ). zeros S ++ (ones ++ xs)) (third-zero mix_row g ends (λ a o k. refl)))

-- the goal, as it is made
pub goal-made : (g : GameData) (belief : List ℤ) (bits : ℕ) (ends : List ℕ) (row : List ℤ) (width : ℕ) →
    width ≡ g.shape.states + g.shape.own_actions + g.shape.own_actions * g.shape.observations * length ends →
    row ≡ map (λ s. goal_at belief bits (WorthOf s)) (below g.shape.states) →
    resized row width (pos 0) ≡ map (goal_at belief bits) (variables g ends)
goal-made g belief bits ends row width e is =
    let S : ℕ = g.shape.states in
    let A : ℕ = g.shape.own_actions in
    let third : ℕ = A * g.shape.observations * length ends in
    let f : Variable → ℤ = goal_at belief bits in
    let plays : map (λ a. f (Plays a)) (below A) ≡ zeros A = all-same _ (pos 0) (below A) (below-each _ A (λ s m. refl)) ∙ ap zeros (length-range_with_len 0 A) in
    let long : length row ≡ S = ap (λ (xs : List ℤ). length xs) is ∙ length-mapped (λ s. f (WorthOf s)) (below S) ∙ length-range_with_len 0 S in
    padded row width (A + third) (pos 0) (omega arith)
    ∙ ap (λ (xs : List ℤ). xs ++ zeros (A + third)) is
    ∙ ap (λ (xs : List ℤ). map (λ s. f (WorthOf s)) (below S) ++ xs) (sym (replicate-append-replicate A third (pos 0)))
    ∙ sym (variables-parts f g ends
    ∙ ap (λ (xs : List ℤ). map (λ s. f (WorthOf s)) (below S) ++ (xs ++ flat_map (λ (p : ℕ × ℕ). map (λ k. f (GoesOn p.0 p.1 k)) ends) (pairs A g.shape.observations))) plays
    ∙ ap (λ (xs : List ℤ). map (λ s. f (WorthOf s)) (below S) ++ (zeros A ++ xs)) (third-zero f g ends (λ a o k. refl)))
  where
    length-mapped : (f : ℕ → ℤ) (xs : List ℕ) → length (map f xs) ≡ length xs
    length-mapped f [] = refl
    length-mapped f (x ∷ xs) = ap suc (length-mapped f xs)

-- a row about one pair, as it is made
pub pair_row-made : (f : Variable → ℤ) (g : GameData) (a o : ℕ) (own : ℤ) (ends : List ℕ) (block : List ℤ) (start width : ℕ) →
    a < g.shape.own_actions → o < g.shape.observations → length ends ≡ length block → IsPairRow f a o own ends block →
    start ≡ g.shape.states + g.shape.own_actions + (a * g.shape.observations + o) * length block →
    width ≡ g.shape.states + g.shape.own_actions + g.shape.own_actions * g.shape.observations * length block →
    resized (resized (resized [] (g.shape.states + a) (pos 0) ++ own ∷ []) start (pos 0) ++ block) width (pos 0) ≡ map f (variables g ends)
pair_row-made f g a o own ends block start width la lo long is start_is width_is =
    let S : ℕ = g.shape.states in
    let A : ℕ = g.shape.own_actions in
    let O : ℕ = g.shape.observations in
    let n : ℕ = length block in
    let first : List ℤ = zeros (S + a) ++ own ∷ [] in
    let gap : ℕ = A - a - 1 + (a * O + o) * n in
    let rest : ℕ = (A * O - (a * O + o) - 1) * n in
    let first_long : length first ≡ S + a + 1 = length-append (zeros (S + a)) (own ∷ []) ∙ omega (arith, length-replicate (S + a) (pos 0)) in
    let second : List ℤ = first ++ zeros gap in
    let second_long : length second ≡ start = length-append first (zeros gap) ∙ omega (arith, length-replicate gap (pos 0)) in
    let third : List ℤ = second ++ block in
    let third_long : length third ≡ start + n = length-append second block ∙ omega arith in
    ap (λ (xs : List ℤ). resized (resized (xs ++ own ∷ []) start (pos 0) ++ block) width (pos 0)) (first-padded (S + a) (pos 0))
    ∙ ap (λ (xs : List ℤ). resized (xs ++ block) width (pos 0)) (padded first start gap (pos 0) (omega arith))
    ∙ padded third width rest (pos 0) (third_long_is (length third) start n width A O a o S la lo start_is width_is third_long)
    ∙ append_assoc second block (zeros rest)
    ∙ append_assoc first (zeros gap) (block ++ zeros rest)
    ∙ append_assoc (zeros (S + a)) (own ∷ []) (zeros gap ++ (block ++ zeros rest))
    ∙ sym (pair_row-is f g a o own ends block la lo long is)
  where
    third_long_is : (t start n width A O a o S : ℕ) → a < A → o < O → start ≡ S + A + (a * O + o) * n → width ≡ S + A + A * O * n → t ≡ start + n → t + (A * O - (a * O + o) - 1) * n ≡ width
    third_long_is t start n width A O a o S la lo s w e =
        let up : (a + 1) * O ≤ A * O = mul-le-mul_right O (omega arith) in
        let l : ℕ = A * O - (a * O + o) - 1 in
        let all : A * O ≡ a * O + o + 1 + l = omega arith in
        let spread : A * O * n ≡ (a * O + o) * n + n + l * n = ap (λ (k : ℕ). k * n) all ∙ parts (a * O + o) l n in
        omega arith
      where
        parts : (x l n : ℕ) → (x + 1 + l) * n ≡ x * n + n + l * n
        parts x l n = omega arith

-- the same, where the length that was found is given beside the list
lengthened : (xs : List ℤ) (n k : ℕ) (z : ℤ) → k ≡ length xs → take n xs ++ replicate (n - k) z ≡ resized xs n z
lengthened xs n k z e = ap (λ (i : ℕ). take n xs ++ replicate (n - i) z) e

length-resized : (xs : List ℤ) (n : ℕ) (z : ℤ) → length xs ≤ n → length (resized xs n z) ≡ n
length-resized xs n z l =
    ap (λ (ys : List ℤ). length (ys ++ replicate (n - length xs) z)) (take_all n xs l)
    ∙ length-append xs (replicate (n - length xs) z)
    ∙ omega (arith, length-replicate (n - length xs) z)

pub mix_row-steps : (g : GameData) (ends : List ℕ) (states both width l0 l1 l2 : ℕ) (r0 r1 r2 r3 : List ℤ) →
    states ≡ g.shape.states → both ≡ g.shape.states + g.shape.own_actions →
    width ≡ g.shape.states + g.shape.own_actions + g.shape.own_actions * g.shape.observations * length ends →
    r0 ≡ [] → l0 ≡ 0 → l1 ≡ states → l2 ≡ both →
    r1 ≡ take states r0 ++ replicate (states - l0) (pos 0) → r2 ≡ take both r1 ++ replicate (both - l1) (pos 1) → r3 ≡ take width r2 ++ replicate (width - l2) (pos 0) →
    r3 ≡ map mix_row (variables g ends)
mix_row-steps g ends states both width l0 l1 l2 r0 r1 r2 r3 s b w e0 z0 z1 z2 e1 e2 e3 =
    let S : ℕ = g.shape.states in
    let B : ℕ = S + g.shape.own_actions in
    let i1 : r1 ≡ resized [] S (pos 0) = e1 ∙ ap (λ (xs : List ℤ). take states xs ++ replicate (states - l0) (pos 0)) e0 ∙ lengthened [] states l0 (pos 0) z0 ∙ ap (λ (n : ℕ). resized [] n (pos 0)) s in
    let n1 : length r1 ≡ S = ap (λ (xs : List ℤ). length xs) i1 ∙ length-resized [] S (pos 0) (omega arith) in
    let i2 : r2 ≡ resized (resized [] S (pos 0)) B (pos 1) = e2 ∙ lengthened r1 both l1 (pos 1) (omega arith) ∙ ap (λ (n : ℕ). resized r1 n (pos 1)) b ∙ ap (λ (xs : List ℤ). resized xs B (pos 1)) i1 in
    let n2 : length r2 ≡ B = ap (λ (xs : List ℤ). length xs) (e2 ∙ lengthened r1 both l1 (pos 1) (omega arith) ∙ ap (λ (n : ℕ). resized r1 n (pos 1)) b) ∙ length-resized r1 B (pos 1) (omega arith) in
    e3 ∙ lengthened r2 width l2 (pos 0) (omega arith) ∙ ap (λ (xs : List ℤ). resized xs width (pos 0)) i2 ∙ mix_row-made g ends width w

pub pair_row-steps : (f : Variable → ℤ) (g : GameData) (a o : ℕ) (own : ℤ) (ends : List ℕ) (block : List ℤ) (first start width l0 l2 l4 : ℕ) (r0 r1 r2 r3 r4 r5 : List ℤ) →
    a < g.shape.own_actions → o < g.shape.observations → length ends ≡ length block → IsPairRow f a o own ends block →
    first ≡ g.shape.states + a → start ≡ g.shape.states + g.shape.own_actions + (a * g.shape.observations + o) * length block →
    width ≡ g.shape.states + g.shape.own_actions + g.shape.own_actions * g.shape.observations * length block →
    r0 ≡ [] → l0 ≡ 0 → l2 ≡ first + 1 → l4 ≡ start + length block →
    r1 ≡ take first r0 ++ replicate (first - l0) (pos 0) → r2 ≡ r1 ++ own ∷ [] → r3 ≡ take start r2 ++ replicate (start - l2) (pos 0) →
    r4 ≡ r3 ++ block → r5 ≡ take width r4 ++ replicate (width - l4) (pos 0) →
    r5 ≡ map f (variables g ends)
pair_row-steps f g a o own ends block first start width l0 l2 l4 r0 r1 r2 r3 r4 r5 la lo long is f_is s_is w_is e0 z0 z2 z4 e1 e2 e3 e4 e5 =
    let F : ℕ = g.shape.states + a in
    let i1 : r1 ≡ resized [] F (pos 0) = e1 ∙ ap (λ (xs : List ℤ). take first xs ++ replicate (first - l0) (pos 0)) e0 ∙ lengthened [] first l0 (pos 0) z0 ∙ ap (λ (n : ℕ). resized [] n (pos 0)) f_is in
    let n1 : length r1 ≡ F = ap (λ (xs : List ℤ). length xs) i1 ∙ length-resized [] F (pos 0) (omega arith) in
    let n2 : length r2 ≡ F + 1 = ap (λ (xs : List ℤ). length xs) e2 ∙ length-append r1 (own ∷ []) ∙ omega arith in
    let i3 : r3 ≡ resized r2 start (pos 0) = e3 ∙ lengthened r2 start l2 (pos 0) (omega arith) in
    let n3 : length r3 ≡ start = ap (λ (xs : List ℤ). length xs) i3 ∙ length-resized r2 start (pos 0) (below-start (length r2) F start la n2 s_is) in
    let n4 : length r4 ≡ start + length block = ap (λ (xs : List ℤ). length xs) e4 ∙ length-append r3 block ∙ omega arith in
    e5 ∙ lengthened r4 width l4 (pos 0) (omega arith)
    ∙ ap (λ (xs : List ℤ). resized xs width (pos 0)) (e4 ∙ ap (λ (xs : List ℤ). xs ++ block) (i3 ∙ ap (λ (xs : List ℤ). resized xs start (pos 0)) (e2 ∙ ap (λ (xs : List ℤ). xs ++ own ∷ []) i1)))
    ∙ pair_row-made f g a o own ends block start width la lo long is s_is w_is
  where
    below-start : (n F start : ℕ) → a < g.shape.own_actions → n ≡ g.shape.states + a + 1 → start ≡ g.shape.states + g.shape.own_actions + (a * g.shape.observations + o) * length block → n ≤ start
    below-start n F start l e s = omega arith

pub goal-steps : (g : GameData) (belief : List ℤ) (bits : ℕ) (ends : List ℕ) (row last : List ℤ) (width l : ℕ) →
    width ≡ g.shape.states + g.shape.own_actions + g.shape.own_actions * g.shape.observations * length ends →
    row ≡ map (λ s. goal_at belief bits (WorthOf s)) (below g.shape.states) → l ≡ length row →
    last ≡ take width row ++ replicate (width - l) (pos 0) → last ≡ map (goal_at belief bits) (variables g ends)
goal-steps g belief bits ends row last width l w e z e1 = e1 ∙ lengthened row width l (pos 0) z ∙ goal-made g belief bits ends row width w e
