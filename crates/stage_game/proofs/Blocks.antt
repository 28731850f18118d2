-- The numbers of a row over all variables, part by part; rows with one block that is not 0.
use Rattle.std.proofs.Common.{◌≡◌, ℕ, zero, suc, ◌+◌, ◌-◌, ◌*◌, ◌<◌, List, [], ◌∷◌, ◌++◌, length, map, flat_map, replicate, refl, ap, arith, sym, ◌∙◌, append_assoc}
use Rattle.std.specs.Prelude.{ℤ, pos}
use Rattle.std.specs.List.{AllByRecursion, range_with_len}
use Rattle.std.proofs.lemmas.List.{map-append, length-append, replicate-append-replicate}
use Rattle.std.proofs.lemmas.List.FromFn.{length-range_with_len}
use Rattle.std.proofs.lemmas.Grind.{flat_map-append}
use Rattle.scaled_num.specs.Sums.{below}
use Rattle.scaled_num.proofs.Sums.{each-append, below-each, from-each}
use Rattle.game_model.specs.Game.{GameData}
use Rattle.stage_game.specs.PairRow.{IsPairRow}
use Rattle.stage_game.specs.Pairs.{pairs}
use Rattle.stage_game.specs.Variables.{GoesOn, Plays, Variable, WorthOf, variables}
use Rattle.stage_game.proofs.Appends.{map-blocks, map-both, over-pairs}

-- the numbers of a row: those of the states' worth, of the own actions, and of going on, by pair
pub variables-parts : (f : Variable → ℤ) (g : GameData) (ends : List ℕ) →
    map f (variables g ends)
    ≡ map (λ s. f (WorthOf s)) (below g.shape.states)
    ++ (map (λ a. f (Plays a)) (below g.shape.own_actions)
    ++ flat_map (λ (p : ℕ × ℕ). map (λ k. f (GoesOn p.0 p.1 k)) ends) (pairs g.shape.own_actions g.shape.observations))
variables-parts f g ends =
    let third : List Variable = flat_map (λ (p : ℕ × ℕ). map (GoesOn p.0 p.1) ends) (pairs g.shape.own_actions g.shape.observations) in
    ap (λ (xs : List Variable). map f (map WorthOf (below g.shape.states) ++ (map Plays (below g.shape.own_actions) ++ xs))) (over-pairs (λ a o. map (GoesOn a o) ends) g.shape.own_actions g.shape.observations)
    ∙ map-append f (map WorthOf (below g.shape.states)) (map Plays (below g.shape.own_actions) ++ third)
    ∙ ap (λ (xs : List ℤ). xs ++ map f (map Plays (below g.shape.own_actions) ++ third)) (map-both f WorthOf (below g.shape.states))
    ∙ ap (λ (xs : List ℤ). map (λ s. f (WorthOf s)) (below g.shape.states) ++ xs) (map-append f (map Plays (below g.shape.own_actions)) third
    ∙ ap (λ (xs : List ℤ). xs ++ map f third) (map-both f Plays (below g.shape.own_actions))
    ∙ ap (λ (xs : List ℤ). map (λ a. f (Plays a)) (below g.shape.own_actions) ++ xs) (map-blocks f (λ (p : ℕ × ℕ). map (GoesOn p.0 p.1) ends) (pairs g.shape.own_actions g.shape.observations)
    ∙ same (pairs g.shape.own_actions g.shape.observations)))
  where
    same : (ps : List (ℕ × ℕ)) → flat_map (λ (p : ℕ × ℕ). map f (map (GoesOn p.0 p.1) ends)) ps ≡ flat_map (λ (p : ℕ × ℕ). map (λ k. f (GoesOn p.0 p.1 k)) ends) ps
    same [] = refl
    same (p ∷ ps) =
        ap (λ (xs : List ℤ). xs ++ flat_map (λ (p : ℕ × ℕ). map f (map (GoesOn p.0 p.1) ends)) ps) (map-both f (GoesOn p.0 p.1) ends)
        ∙ ap (λ (xs : List ℤ). map (λ k. f (GoesOn p.0 p.1 k)) ends ++ xs) (same ps)

abbrev pub zeros : ℕ → List ℤ
zeros n = replicate n (pos 0)

pub all-same : {X : Type 0} (f : X → ℤ) (z : ℤ) (xs : List X) → AllByRecursion (λ x. f x ≡ z) xs → map f xs ≡ replicate (length xs) z
all-same f z [] h = refl
all-same f z (x ∷ xs) h = ap (λ (y : ℤ). y ∷ map f xs) h.0 ∙ ap (λ (ys : List ℤ). z ∷ ys) (all-same f z xs h.1)

pub zero-blocks : {X : Type 0} (f : X → List ℤ) (n : ℕ) (xs : List X) → AllByRecursion (λ x. f x ≡ zeros n) xs → flat_map f xs ≡ zeros (length xs * n)
zero-blocks f n [] h = let none : 0 ≡ 0 * n = omega arith in ap zeros none
zero-blocks f n (x ∷ xs) h =
    ap (λ (ys : List ℤ). ys ++ flat_map f xs) h.0
    ∙ ap (λ (ys : List ℤ). zeros n ++ ys) (zero-blocks f n xs h.1)
    ∙ replicate-append-replicate n (length xs * n) (pos 0)
    ∙ ap zeros (one-more (length xs) n)
  where
    one-more : (m n : ℕ) → n + m * n ≡ suc m * n
    one-more m n = omega arith

range-parts : (a m n : ℕ) → range_with_len a (m + n) ≡ range_with_len a m ++ range_with_len (a + m) n
range-parts a zero n = ap (λ (k : ℕ). range_with_len a k) (omega arith) ∙ ap (λ (k : ℕ). range_with_len k n) (omega arith)
range-parts a (suc m) n =
    let e : suc m + n ≡ suc (m + n) = omega arith in
    ap (λ (k : ℕ). range_with_len a k) e ∙ ap (λ (xs : List ℕ). a ∷ xs) (range-parts (a + 1) m n ∙ ap (λ (k : ℕ). range_with_len (a + 1) m ++ range_with_len k n) (omega arith))

-- the numbers below a count: those below one of them, this one, and those above
pub below-parts : (n i : ℕ) → i < n → below n ≡ below i ++ (i ∷ range_with_len (i + 1) (n - i - 1))
below-parts n i l =
    let e : n ≡ i + suc (n - i - 1) = omega arith in
    ap below e ∙ range-parts 0 i (suc (n - i - 1)) ∙ ap (λ (k : ℕ). below i ++ range_with_len k (suc (n - i - 1))) (omega arith)

-- the numbers of the own actions in a row about one of them
one-number : (f : ℕ → ℤ) (own : ℤ) (n a : ℕ) → a < n → f a ≡ own → ((b : ℕ) → (b ≡ a → ⊥) → f b ≡ pos 0) → map f (below n) ≡ zeros a ++ (own ∷ zeros (n - a - 1))
one-number f own n a l here there =
    let r : ℕ = n - a - 1 in
    ap (λ (xs : List ℕ). map f xs) (below-parts n a l)
    ∙ map-append f (below a) (a ∷ range_with_len (a + 1) r)
    ∙ ap (λ (xs : List ℤ). xs ++ (f a ∷ map f (range_with_len (a + 1) r))) (all-same f (pos 0) (below a) (below-each _ a (λ b m. there b (λ e. absurd (omega arith)))) ∙ ap zeros (length-range_with_len 0 a))
    ∙ ap (λ (x : ℤ). zeros a ++ (x ∷ map f (range_with_len (a + 1) r))) here
    ∙ ap (λ (xs : List ℤ). zeros a ++ (own ∷ xs)) (all-same f (pos 0) (range_with_len (a + 1) r) (from-each _ (a + 1) r (λ b m k. there b (λ e. absurd (omega arith)))) ∙ ap zeros (length-range_with_len (a + 1) r))

-- a pair is another one
abbrev IsOther : ℕ → ℕ → ℕ × ℕ → Type 0
IsOther a o p = p.0 ≡ a → p.1 ≡ o → ⊥

abbrev pub beside : ℕ → List ℕ → List (ℕ × ℕ)
beside i ys = map (λ j. (i, j)) ys

pub record PairParts (m n a o : ℕ) : Type 0 where
  pub before : List (ℕ × ℕ)
  pub after : List (ℕ × ℕ)
  pub parts : pairs m n ≡ before ++ ((a, o) ∷ after)
  pub before_other : AllByRecursion (IsOther a o) before
  pub after_other : AllByRecursion (IsOther a o) after
  pub before_long : length before ≡ a * n + o
  pub after_long : length after ≡ m * n - (a * n + o) - 1

pub length-beside : (i : ℕ) (ys : List ℕ) → length (beside i ys) ≡ length ys
length-beside i [] = refl
length-beside i (y ∷ ys) = ap suc (length-beside i ys)

pub length-rows : (n : ℕ) (xs : List ℕ) → length (flat_map (λ i. beside i (below n)) xs) ≡ length xs * n
length-rows n [] = omega arith
length-rows n (x ∷ xs) =
    length-append (beside x (below n)) (flat_map (λ i. beside i (below n)) xs)
    ∙ omega (arith, length-beside x (below n), length-range_with_len 0 n, length-rows n xs)

pub pair-parts : (m n a o : ℕ) → a < m → o < n → PairParts m n a o
pair-parts m n a o la lo =
    let row : ℕ → List (ℕ × ℕ) = λ i. beside i (below n) in
    let r : ℕ = m - a - 1 in
    let q : ℕ = n - o - 1 in
    let first : List (ℕ × ℕ) = flat_map row (below a) in
    let last : List (ℕ × ℕ) = flat_map row (range_with_len (a + 1) r) in
    let left : List (ℕ × ℕ) = beside a (below o) in
    let right : List (ℕ × ℕ) = beside a (range_with_len (o + 1) q) in
    let own_row : row a ≡ left ++ ((a, o) ∷ right) =
    ap (λ (xs : List ℕ). beside a xs) (below-parts n o lo) ∙ map-append (λ (j : ℕ). (a, j)) (below o) (o ∷ range_with_len (o + 1) q) in
    let m_is : m ≡ a + 1 + r = omega arith in
    let n_is : n ≡ o + 1 + q = omega arith in
    let count : m * n ≡ a * n + o + 1 + (q + r * n) = ap (λ (k : ℕ). k * n) m_is ∙ spread a r n o q n_is in
    record {
      before = first ++ left;
      after = right ++ last;
      parts =
          ap (λ (xs : List ℕ). flat_map row xs) (below-parts m a la)
          ∙ flat_map-append row (below a) (a ∷ range_with_len (a + 1) r)
          ∙ ap (λ (xs : List (ℕ × ℕ)). first ++ (xs ++ last)) own_row
          ∙ ap (λ (xs : List (ℕ × ℕ)). first ++ xs) (append_assoc left ((a, o) ∷ right) last)
          ∙ sym (append_assoc first left ((a, o) ∷ (right ++ last)));
      before_other = each-append (IsOther a o) first left
          (rows a o n (below a) (below-each _ a (λ i l e. absurd (omega arith))))
          (row-other a o a (below o) (below-each _ o (λ j l e. absurd (omega arith))));
      after_other = each-append (IsOther a o) right last
          (row-other a o a (range_with_len (o + 1) q) (from-each _ (o + 1) q (λ j l k e. absurd (omega arith))))
          (rows a o n (range_with_len (a + 1) r) (from-each _ (a + 1) r (λ i l k e. absurd (omega arith))));
      before_long = length-append first left ∙ omega (arith, length-rows n (below a), length-range_with_len 0 a, length-beside a (below o), length-range_with_len 0 o, ap (λ (k : ℕ). k * n) (length-range_with_len 0 a));
      after_long = length-append right last ∙ omega (arith, count, length-rows n (range_with_len (a + 1) r), ap (λ (k : ℕ). k * n) (length-range_with_len (a + 1) r), length-beside a (range_with_len (o + 1) q), length-range_with_len (o + 1) q);
    }
  where
    spread : (a r n o q : ℕ) → n ≡ o + 1 + q → (a + 1 + r) * n ≡ a * n + o + 1 + (q + r * n)
    spread a r n o q e = omega arith

    row-other : (a o i : ℕ) (ys : List ℕ) → AllByRecursion (λ j. j ≡ o → ⊥) ys → AllByRecursion (IsOther a o) (beside i ys)
    row-other a o i [] h = tt
    row-other a o i (y ∷ ys) h = ((λ e k. h.0 k), row-other a o i ys h.1)

    row-elsewhere : (a o i : ℕ) → (i ≡ a → ⊥) → (ys : List ℕ) → AllByRecursion (IsOther a o) (beside i ys)
    row-elsewhere a o i n [] = tt
    row-elsewhere a o i n (y ∷ ys) = ((λ e k. n e), row-elsewhere a o i n ys)

    rows : (a o n : ℕ) (xs : List ℕ) → AllByRecursion (λ i. i ≡ a → ⊥) xs → AllByRecursion (IsOther a o) (flat_map (λ i. beside i (below n)) xs)
    rows a o n [] h = tt
    rows a o n (x ∷ xs) h = each-append (IsOther a o) (beside x (below n)) (flat_map (λ i. beside i (below n)) xs) (row-elsewhere a o x h.0 (below n)) (rows a o n xs h.1)

-- a block at one pair, and 0 at all others
one-block : (f : ℕ × ℕ → List ℤ) (block : List ℤ) (m n a o : ℕ) → a < m → o < n → f (a, o) ≡ block → ((p : ℕ × ℕ) → IsOther a o p → f p ≡ zeros (length block)) →
    flat_map f (pairs m n) ≡ zeros ((a * n + o) * length block) ++ (block ++ zeros ((m * n - (a * n + o) - 1) * length block))
one-block f block m n a o la lo here there =
    let k : ℕ = length block in
    let p = pair-parts m n a o la lo in
    ap (λ (xs : List (ℕ × ℕ)). flat_map f xs) p.parts
    ∙ flat_map-append f p.before ((a, o) ∷ p.after)
    ∙ ap (λ (xs : List ℤ). xs ++ (f (a, o) ++ flat_map f p.after)) (zero-blocks f k p.before (each-other p.before p.before_other) ∙ ap (λ (i : ℕ). zeros (i * k)) p.before_long)
    ∙ ap (λ (xs : List ℤ). zeros ((a * n + o) * k) ++ (xs ++ flat_map f p.after)) here
    ∙ ap (λ (xs : List ℤ). zeros ((a * n + o) * k) ++ (block ++ xs)) (zero-blocks f k p.after (each-other p.after p.after_other) ∙ ap (λ (i : ℕ). zeros (i * k)) p.after_long)
  where
    each-other : (ps : List (ℕ × ℕ)) → AllByRecursion (IsOther a o) ps → AllByRecursion (λ p. f p ≡ zeros (length block)) ps
    each-other [] h = tt
    each-other (p ∷ ps) h = (there p h.0, each-other ps h.1)

-- a row about one pair, as it is made: 0 up to the own action, its number, 0 up to the block, the block, and 0
pub pair_row-is : (f : Variable → ℤ) (g : GameData) (a o : ℕ) (own : ℤ) (ends : List ℕ) (block : List ℤ) →
    a < g.shape.own_actions → o < g.shape.observations → length ends ≡ length block → IsPairRow f a o own ends block →
    map f (variables g ends)
    ≡ zeros (g.shape.states + a) ++ (own ∷ (zeros (g.shape.own_actions - a - 1 + (a * g.shape.observations + o) * length block)
    ++ (block ++ zeros ((g.shape.own_actions * g.shape.observations - (a * g.shape.observations + o) - 1) * length block))))
pair_row-is f g a o own ends block la lo long is =
    let S : ℕ = g.shape.states in
    let A : ℕ = g.shape.own_actions in
    let O : ℕ = g.shape.observations in
    let l : ℕ = (a * O + o) * length block in
    let rest : List ℤ = block ++ zeros ((A * O - (a * O + o) - 1) * length block) in
    let worths : map (λ s. f (WorthOf s)) (below S) ≡ zeros S =
    all-same (λ s. f (WorthOf s)) (pos 0) (below S) (below-each _ S (λ s m. is.worth s)) ∙ ap zeros (length-range_with_len 0 S) in
    let plays : map (λ b. f (Plays b)) (below A) ≡ zeros a ++ (own ∷ zeros (A - a - 1)) =
    one-number (λ b. f (Plays b)) own A a la is.action is.other_actions in
    let third : flat_map (λ (p : ℕ × ℕ). map (λ k. f (GoesOn p.0 p.1 k)) ends) (pairs A O) ≡ zeros l ++ rest =
    one-block (λ (p : ℕ × ℕ). map (λ k. f (GoesOn p.0 p.1 k)) ends) block A O a o la lo is.block_is
    (λ p other. all-same (λ k. f (GoesOn p.0 p.1 k)) (pos 0) ends (everywhere ends (λ k. is.elsewhere p.0 p.1 k other)) ∙ ap zeros long) in
    variables-parts f g ends
    ∙ ap (λ (xs : List ℤ). xs ++ (map (λ a. f (Plays a)) (below A) ++ flat_map (λ (p : ℕ × ℕ). map (λ k. f (GoesOn p.0 p.1 k)) ends) (pairs A O))) worths
    ∙ ap (λ (xs : List ℤ). zeros S ++ (xs ++ flat_map (λ (p : ℕ × ℕ). map (λ k. f (GoesOn p.0 p.1 k)) ends) (pairs A O))) plays
    ∙ ap (λ (xs : List ℤ). zeros S ++ ((zeros a ++ (own ∷ zeros (A - a - 1))) ++ xs)) third
    ∙ joined S a own (A - a - 1) l rest
  where
    everywhere : {P : ℕ → Type 0} (xs : List ℕ) → ((x : ℕ) → P x) → AllByRecursion P xs
    everywhere [] h = tt
    everywhere (x ∷ xs) h = (h x, everywhere xs h)

    joined : (s a : ℕ) (own : ℤ) (r l : ℕ) (rest : List ℤ) →
        zeros s ++ ((zeros a ++ (own ∷ zeros r)) ++ (zeros l ++ rest)) ≡ zeros (s + a) ++ (own ∷ (zeros (r + l) ++ rest))
    joined s a own r l rest =
        ap (λ (xs : List ℤ). zeros s ++ xs) (append_assoc (zeros a) (own ∷ zeros r) (zeros l ++ rest))
        ∙ sym (append_assoc (zeros s) (zeros a) (own ∷ (zeros r ++ (zeros l ++ rest))))
        ∙ ap (λ (xs : List ℤ). xs ++ (own ∷ (zeros r ++ (zeros l ++ rest)))) (replicate-append-replicate s a (pos 0))
        ∙ ap (λ (xs : List ℤ). zeros (s + a) ++ (own ∷ xs)) (sym (append_assoc (zeros r) (zeros l) rest) ∙ ap (λ (xs : List ℤ). xs ++ rest) (replicate-append-replicate r l (pos 0)))
