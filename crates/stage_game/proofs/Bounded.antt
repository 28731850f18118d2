-- A stage program is bounded: it has no direction in which its goal grows without end.
use Rattle.std.proofs.Common.{◌≡◌, ℕ, zero, suc, ◌<◌, ◌++◌, ◌/◌, ◌^◌, ◌∷◌, [], List, Bool, true, false, cond, length, map, get_or, replicate, refl, sym, subst, ap, ◌∙◌, inl, inr, arith, eq-eqb}
use Rattle.std.specs.Prelude.{ℤ, pos, negsuc, flat_map, slice_index_or, ◌&&◌, ◌==◌, ◌*ℤ◌, ◌≤ℤ◌, ◌<ℤ◌}
use Rattle.std.specs.List.{AllByRecursion}
use Rattle.std.proofs.lemmas.Bool.{cases_eq}
use Rattle.std.proofs.lemmas.Int.{ints}
use Rattle.std.proofs.lemmas.List.{get_or-set_same, length-append, length-map}
use Rattle.std.proofs.lemmas.Nat.{pow_pos}
use Rattle.std.proofs.Math.Nat.{div-one}
use Rattle.scaled_num.proofs.Floors.{NoneNegative, replicate-none_negative, set-none_negative, tail-none_negative}
use Rattle.scaled_num.proofs.Each.{at-below, each-back, each-by-place, each-front, each-of-flat_map, each-of-map, get-map}
use Rattle.scaled_num.proofs.Sums.{below-each, each, each-append, each-at, each-flat_map, each-map}
use Rattle.scaled_num.specs.Sums.{below, sum_of}
use Rattle.belief.proofs.Parts.{corner-sum}
use Rattle.belief.specs.Beliefs.{corner_of}
use Rattle.game_model.specs.Game.{GameData}
use Rattle.alpha_set.specs.Nodes.{NodeData}
use Rattle.simplex.proofs.Optimum.{not_negative_product}
use Rattle.scaled_num.proofs.Products.{mulℤ_comm}
use Rattle.simplex.proofs.Combine.{sum_zero}
use Rattle.simplex.proofs.Unique.{factor}
use Rattle.simplex.proofs.AlongRuns.{unbounded_has_direction}
use Rattle.simplex.specs.Dictionary.{Dictionary}
use Rattle.simplex.specs.Laws.{HasDirection}
use Rattle.simplex.specs.Program.{at, program_data, sum_to}
use Rattle.simplex.specs.Run.{RunEnds}
use Rattle.simplex.specs.declared.End.{End}
use Rattle.simplex.specs.declared.End.TheVariants.{Unbounded}
use Rattle.simplex.specs.declared.Program.{Program}
use Rattle.point_set.specs.Corners.{IsCurrentCorner, point_at}
use Rattle.point_set.specs.Points.{PointData}
use Rattle.stage_game.specs.Asked.{AreUpperEnds}
use Rattle.stage_game.specs.LowerProgram.{going_on_row, lower_program, lower_worth_row}
use Rattle.stage_game.specs.Masses.{over_pairs}
use Rattle.stage_game.specs.Scaling.{floor_of, goal_at, mix_row, scale, stage_program, worth_rows}
use Rattle.stage_game.specs.UpperProgram.{point_row, upper_program, upper_worth_row}
use Rattle.stage_game.specs.Variables.{GoesOn, Plays, ProgramData, Variable, WorthOf, variables}

-- numbers of the variables, none negative, by which no row's sum rises, and the goal's does
pub record HasRise (p : ProgramData) : Type 0 where
  pub x : ℕ → ℤ
  pub not_negative : (j : ℕ) → j < length p.goal → pos 0 ≤ℤ (x j)
  pub rows_kept : (i : ℕ) → i < length p.limits → sum_to (length p.goal) (λ j. at (slice_index_or p.rows i []) j *ℤ x j) ≤ℤ pos 0
  pub goal_rises : pos 0 <ℤ sum_to (length p.goal) (λ j. at p.goal j *ℤ x j)

length-replicate : (n : ℕ) (x : ℤ) → length (replicate n x) ≡ n
length-replicate zero x = refl
length-replicate (suc n) x = ap suc (length-replicate n x)

-- ---- sums of numbers that are not negative
sum-low : (n : ℕ) (f : ℕ → ℤ) → ((j : ℕ) → j < n → pos 0 ≤ℤ f j) → pos 0 ≤ℤ sum_to n f
sum-low zero f h = omega (arith, ints)
sum-low (suc n) f h =
    let before : pos 0 ≤ℤ sum_to n f = sum-low n f (λ j l. h j (omega arith)) in
    let last : pos 0 ≤ℤ f n = h n (omega arith) in
    omega (arith, ints)

-- where such a sum is at most 0, each of them is 0
each-none : (n : ℕ) (f : ℕ → ℤ) → ((j : ℕ) → j < n → pos 0 ≤ℤ f j) → sum_to n f ≤ℤ pos 0 → (j : ℕ) → j < n → f j ≡ pos 0
each-none zero f h l j inside = absurd (omega arith)
each-none (suc n) f h l j inside =
    let before : pos 0 ≤ℤ sum_to n f = sum-low n f (λ j l. h j (omega arith)) in
    let last : pos 0 ≤ℤ f n = h n (omega arith) in
    let front : sum_to n f ≤ℤ pos 0 = omega (arith, ints) in
    let last_none : f n ≡ pos 0 = omega (arith, ints) in
    elim (cases_eq j n) [
      | inl e ↦ ap f e ∙ last_none
      | inr ne ↦ each-none n f (λ j l. h j (omega arith)) front j (omega arith)
    ]

no-product : (a x : ℤ) → x ≡ pos 0 → a *ℤ x ≡ pos 0
no-product a x e = ap (λ z. a *ℤ z) e ∙ times-none a
  where
    times-none : (a : ℤ) → a *ℤ pos 0 ≡ pos 0
    times-none a = omega (arith, ints)

-- ---- the variables of a program
-- a variable of a game, which goes on with such ends
abbrev IsOf : GameData → (ℕ → Type 0) → Variable → Type 0
IsOf g Ends (WorthOf s) = s < g.shape.states
IsOf g Ends (Plays a) = a < g.shape.own_actions
IsOf g Ends (GoesOn a o k) = (a < g.shape.own_actions) × (o < g.shape.observations) × Ends k

all-of : (g : GameData) (Ends : ℕ → Type 0) (ends : List ℕ) → AllByRecursion Ends ends → AllByRecursion (IsOf g Ends) (variables g ends)
all-of g Ends ends right =
    each-append (IsOf g Ends) (map WorthOf (below g.shape.states)) (map Plays (below g.shape.own_actions) ++ over_pairs g (λ a o. map (GoesOn a o) ends))
    (each-map (IsOf g Ends) WorthOf (below g.shape.states) (below-each (λ s. s < g.shape.states) g.shape.states (λ i l. l)))
    (each-append (IsOf g Ends) (map Plays (below g.shape.own_actions)) (over_pairs g (λ a o. map (GoesOn a o) ends))
    (each-map (IsOf g Ends) Plays (below g.shape.own_actions) (below-each (λ a. a < g.shape.own_actions) g.shape.own_actions (λ i l. l)))
    (each-flat_map (IsOf g Ends) (λ a. flat_map (λ o. map (GoesOn a o) ends) (below g.shape.observations)) (below g.shape.own_actions)
    (below-each (λ a. AllByRecursion (IsOf g Ends) (flat_map (λ o. map (GoesOn a o) ends) (below g.shape.observations))) g.shape.own_actions
    (λ a la. each-flat_map (IsOf g Ends) (λ o. map (GoesOn a o) ends) (below g.shape.observations)
    (below-each (λ o. AllByRecursion (IsOf g Ends) (map (GoesOn a o) ends)) g.shape.observations
    (λ o lo. each-map (IsOf g Ends) (GoesOn a o) ends (both ends right a o la lo)))))))
  where
    both : (ks : List ℕ) → AllByRecursion Ends ks → (a o : ℕ) → a < g.shape.own_actions → o < g.shape.observations → AllByRecursion (λ k. (a < g.shape.own_actions) × (o < g.shape.observations) × Ends k) ks
    both [] all a o la lo = tt
    both (k ∷ ks) all a o la lo = ((la, lo, all.0), both ks all.1 a o la lo)

-- ---- a rise of a program over variables, row by row
no-variable : Variable
no-variable = WorthOf 0

abbrev Rises : List Variable → (ℕ → ℤ) → (Variable → ℤ) → Type 0
Rises vars x row = sum_to (length vars) (λ j. at (map row vars) j *ℤ x j) ≤ℤ pos 0

-- what a row says of a variable, where no term is negative
row-none : (vars : List Variable) (x : ℕ → ℤ) (row : Variable → ℤ) → Rises vars x row
    → ((j : ℕ) → j < length vars → pos 0 ≤ℤ (row (get_or vars j no-variable) *ℤ x j))
    → (j : ℕ) → j < length vars → row (get_or vars j no-variable) *ℤ x j ≡ pos 0
row-none vars x row rises low j l =
    ap (λ z. z *ℤ x j) (sym (get-map row vars j no-variable (pos 0) l))
    ∙ each-none (length vars) (λ j. at (map row vars) j *ℤ x j)
    (λ j l. subst (λ z. pos 0 ≤ℤ (z *ℤ x j)) (sym (get-map row vars j no-variable (pos 0) l)) (low j l))
    rises j l

-- the variables of one kind that are 0
abbrev AreNone : List Variable → (ℕ → ℤ) → (Variable → Type 0) → Type 0
AreNone vars x P = (j : ℕ) → j < length vars → P (get_or vars j no-variable) → x j ≡ pos 0

abbrev IsPlay : Variable → Type 0
IsPlay (WorthOf s) = ⊥
IsPlay (Plays a) = Unit {0}
IsPlay (GoesOn a o k) = ⊥

abbrev IsGoing : Variable → Type 0
IsGoing (WorthOf s) = ⊥
IsGoing (Plays a) = ⊥
IsGoing (GoesOn a o k) = Unit {0}

one-none : (x : ℤ) → pos 1 *ℤ x ≡ pos 0 → x ≡ pos 0
one-none x e = omega (arith, ints)

-- the own actions are 0, by the row of the mix
plays-none : (vars : List Variable) (x : ℕ → ℤ) → ((j : ℕ) → j < length vars → pos 0 ≤ℤ x j) → Rises vars x mix_row → AreNone vars x IsPlay
plays-none vars x low rises j l = here (get_or vars j no-variable) (row-none vars x mix_row rises (λ j l. not_negative_product (mix_row (get_or vars j no-variable)) (x j) (mix-low (get_or vars j no-variable)) (low j l)) j l)
  where
    mix-low : (v : Variable) → pos 0 ≤ℤ mix_row v
    mix-low (WorthOf s) = omega (arith, ints)
    mix-low (Plays a) = omega (arith, ints)
    mix-low (GoesOn a o k) = omega (arith, ints)

    here : (v : Variable) → mix_row v *ℤ x j ≡ pos 0 → IsPlay v → x j ≡ pos 0
    here (WorthOf s) e p = absurd p
    here (Plays a) e p = one-none (x j) e
    here (GoesOn a o k) e p = absurd p

-- a row of going on: nothing at the worths, nothing negative where play goes on, and something at one place
pub record IsGoingRow (row : Variable → ℤ) (a o k : ℕ) : Type 0 where
  pub worth : (s : ℕ) → row (WorthOf s) ≡ pos 0
  pub going : (b p q : ℕ) → pos 0 ≤ℤ row (GoesOn b p q)
  pub own : pos 0 <ℤ row (GoesOn a o k)

no-times : (a x : ℤ) → a ≡ pos 0 → pos 0 ≤ℤ (a *ℤ x)
no-times a x e = subst (λ z. pos 0 ≤ℤ (z *ℤ x)) (sym e) (omega (arith, ints))

at-none : (a x : ℤ) → x ≡ pos 0 → pos 0 ≤ℤ (a *ℤ x)
at-none a x e = subst (λ z. pos 0 ≤ℤ z) (sym (no-product a x e)) (omega (arith, ints))

-- one of two factors is positive, so the other is 0
other-none : (a x : ℤ) → pos 0 <ℤ a → a *ℤ x ≡ pos 0 → x ≡ pos 0
other-none a x positive e = factor x a positive (mulℤ_comm x a ∙ e)

-- what play goes on with is 0
going-none : (vars : List Variable) (x : ℕ → ℤ) (Of : ℕ → ℕ → ℕ → Type 0) → ((j : ℕ) → j < length vars → pos 0 ≤ℤ x j) → AreNone vars x IsPlay
    → ((j a o k : ℕ) → j < length vars → get_or vars j no-variable ≡ GoesOn a o k → Of a o k)
    → ((a o k : ℕ) → Of a o k → (row : Variable → ℤ) × Rises vars x row × IsGoingRow row a o k)
    → AreNone vars x IsGoing
going-none vars x Of low plays of rows j l = here (get_or vars j no-variable) refl
  where
    low-in : (row : Variable → ℤ) → ((s : ℕ) → row (WorthOf s) ≡ pos 0) → ((b p q : ℕ) → pos 0 ≤ℤ row (GoesOn b p q)) → (j : ℕ) → j < length vars
        → (v : Variable) → get_or vars j no-variable ≡ v → pos 0 ≤ℤ (row v *ℤ x j)
    low-in row worth going j l (WorthOf s) e = no-times (row (WorthOf s)) (x j) (worth s)
    low-in row worth going j l (Plays a) e = at-none (row (Plays a)) (x j) (plays j l (subst IsPlay (sym e) tt))
    low-in row worth going j l (GoesOn b p q) e = not_negative_product (row (GoesOn b p q)) (x j) (going b p q) (low j l)

    here : (v : Variable) → get_or vars j no-variable ≡ v → IsGoing v → x j ≡ pos 0
    here (WorthOf s) e p = absurd p
    here (Plays a) e p = absurd p
    here (GoesOn a o k) e p =
        let found = rows a o k (of j a o k l e) in
        let row = found.0 in
        other-none (row (GoesOn a o k)) (x j) found.2.own
        (subst (λ (v : Variable). row v *ℤ x j ≡ pos 0) e
        (row-none vars x row found.1 (λ j l. low-in row found.2.worth found.2.going j l (get_or vars j no-variable) refl) j l))

-- a row of a worth: nothing negative at the worths, and something at one of them
pub record IsWorthRow (row : Variable → ℤ) (s : ℕ) : Type 0 where
  pub worth : (t : ℕ) → pos 0 ≤ℤ row (WorthOf t)
  pub own : pos 0 <ℤ row (WorthOf s)

-- then all variables are 0
all-none : (vars : List Variable) (x : ℕ → ℤ) (Of : ℕ → Type 0) → ((j : ℕ) → j < length vars → pos 0 ≤ℤ x j) → AreNone vars x IsPlay → AreNone vars x IsGoing
    → ((j s : ℕ) → j < length vars → get_or vars j no-variable ≡ WorthOf s → Of s)
    → ((s : ℕ) → Of s → (row : Variable → ℤ) × Rises vars x row × IsWorthRow row s)
    → (j : ℕ) → j < length vars → x j ≡ pos 0
all-none vars x Of low plays goings of rows j l = here (get_or vars j no-variable) refl
  where
    low-in : (row : Variable → ℤ) → ((t : ℕ) → pos 0 ≤ℤ row (WorthOf t)) → (j : ℕ) → j < length vars → (v : Variable) → get_or vars j no-variable ≡ v → pos 0 ≤ℤ (row v *ℤ x j)
    low-in row worth j l (WorthOf t) e = not_negative_product (row (WorthOf t)) (x j) (worth t) (low j l)
    low-in row worth j l (Plays a) e = at-none (row (Plays a)) (x j) (plays j l (subst IsPlay (sym e) tt))
    low-in row worth j l (GoesOn b p q) e = at-none (row (GoesOn b p q)) (x j) (goings j l (subst IsGoing (sym e) tt))

    here : (v : Variable) → get_or vars j no-variable ≡ v → x j ≡ pos 0
    here (WorthOf s) e =
        let found = rows s (of j s l e) in
        let row = found.0 in
        other-none (row (WorthOf s)) (x j) found.2.own
        (subst (λ (v : Variable). row v *ℤ x j ≡ pos 0) e
        (row-none vars x row found.1 (λ j l. low-in row found.2.worth j l (get_or vars j no-variable) refl) j l))
    here (Plays a) e = plays j l (subst IsPlay (sym e) tt)
    here (GoesOn a o k) e = goings j l (subst IsGoing (sym e) tt)

-- ---- a stage program has no rise
-- each row of a rise of a stage program
record IsRise (vars : List Variable) (rows : List (Variable → ℤ)) (goal : Variable → ℤ) : Type 0 where
  x : ℕ → ℤ
  not_negative : (j : ℕ) → j < length vars → pos 0 ≤ℤ x j
  kept : AllByRecursion (Rises vars x) rows
  mix : Rises vars x mix_row
  rises : pos 0 <ℤ sum_to (length vars) (λ j. at (map goal vars) j *ℤ x j)

rise-of : (g : GameData) (belief : List ℤ) (bits : ℕ) (ends : List ℕ) (rows : List (Variable → ℤ)) → HasRise (stage_program g belief bits ends rows)
    → IsRise (variables g ends) rows (goal_at belief bits)
rise-of g belief bits ends rows rise =
    let vars : List Variable = variables g ends in
    let goal_long : length (map (goal_at belief bits) vars) ≡ length vars = length-map vars (goal_at belief bits) in
    let line : (Variable → ℤ) → List ℤ = λ row. map row vars in
    let all : AllByRecursion (Rises vars rise.x) (rows ++ mix_row ∷ []) =
    each-by-place (Rises vars rise.x) mix_row (rows ++ mix_row ∷ [])
    (λ i l.
    let inside : i < length (replicate (length rows) (pos 0) ++ pos 1 ∷ []) =
    omega (arith, length-append rows (mix_row ∷ []), length-append (replicate (length rows) (pos 0)) (pos 1 ∷ []), length-replicate (length rows) (pos 0)) in
    subst (λ (n : ℕ). sum_to n (λ j. at (map (get_or (rows ++ mix_row ∷ []) i mix_row) vars) j *ℤ rise.x j) ≤ℤ pos 0) goal_long
    (subst (λ (row : List ℤ). sum_to (length (map (goal_at belief bits) vars)) (λ j. at row j *ℤ rise.x j) ≤ℤ pos 0)
    (get-map line (rows ++ mix_row ∷ []) i mix_row [] l) (rise.rows_kept i inside))) in
    record {
      x = rise.x;
      not_negative = λ j l. rise.not_negative j (subst (λ (n : ℕ). j < n) (sym goal_long) l);
      kept = each-front (Rises vars rise.x) rows (mix_row ∷ []) all;
      mix = (each-back (Rises vars rise.x) rows (mix_row ∷ []) all).0;
      rises = subst (λ (n : ℕ). pos 0 <ℤ sum_to n (λ j. at (map (goal_at belief bits) vars) j *ℤ rise.x j)) goal_long rise.goal_rises;
    }

-- the rows of the worths, one by one
worth-row : (P : (Variable → ℤ) → Type 0) (g : GameData) (row : ℕ → ℕ → Variable → ℤ) (s c : ℕ) → s < g.shape.states → c < g.shape.informed_actions → AllByRecursion P (worth_rows g row) → P (row s c)
worth-row P g row s c ls lc all =
    at-below (λ c. P (row s c)) g.shape.informed_actions c
    (each-of-map P (λ c. row s c) (below g.shape.informed_actions)
    (at-below (λ s. AllByRecursion P (map (λ c. row s c) (below g.shape.informed_actions))) g.shape.states s
    (each-of-flat_map P (λ s. map (λ c. row s c) (below g.shape.informed_actions)) (below g.shape.states) all) ls)) lc

-- the rows of the pairs of an own action and an observation, pair by pair
pair-rows : (P : (Variable → ℤ) → Type 0) (g : GameData) (rows : ℕ → ℕ → List (Variable → ℤ)) (a o : ℕ) → a < g.shape.own_actions → o < g.shape.observations → AllByRecursion P (over_pairs g rows) → AllByRecursion P (rows a o)
pair-rows P g rows a o la lo all =
    at-below (λ o. AllByRecursion P (rows a o)) g.shape.observations o
    (each-of-flat_map P (λ o. rows a o) (below g.shape.observations)
    (at-below (λ a. AllByRecursion P (flat_map (λ o. rows a o) (below g.shape.observations))) g.shape.own_actions a
    (each-of-flat_map P (λ a. flat_map (λ o. rows a o) (below g.shape.observations)) (below g.shape.own_actions) all) la)) lo

-- no variable rises, so the goal does not
no-rise : (vars : List Variable) (x : ℕ → ℤ) (goal : Variable → ℤ) → ((j : ℕ) → j < length vars → x j ≡ pos 0) → pos 0 <ℤ sum_to (length vars) (λ j. at (map goal vars) j *ℤ x j) → ⊥
no-rise vars x goal none rises =
    let nothing : sum_to (length vars) (λ j. at (map goal vars) j *ℤ x j) ≡ pos 0 =
    sum_zero (length vars) (λ j. at (map goal vars) j *ℤ x j) (λ j l. no-product (at (map goal vars) j) (x j) (none j l)) in
    omega (arith, ints)

of-worth : (g : GameData) (Ends : ℕ → Type 0) (vars : List Variable) → AllByRecursion (IsOf g Ends) vars → (j s : ℕ) → j < length vars → get_or vars j no-variable ≡ WorthOf s → s < g.shape.states
of-worth g Ends vars all j s l e = subst (IsOf g Ends) e (each-at (IsOf g Ends) no-variable vars j all l)

of-going : (g : GameData) (Ends : ℕ → Type 0) (vars : List Variable) → AllByRecursion (IsOf g Ends) vars → (j a o k : ℕ) → j < length vars → get_or vars j no-variable ≡ GoesOn a o k
    → (a < g.shape.own_actions) × (o < g.shape.observations) × Ends k
of-going g Ends vars all j a o k l e = subst (IsOf g Ends) e (each-at (IsOf g Ends) no-variable vars j all l)

-- a stage program is bounded where each worth and each way to go on has its row
bounded : (g : GameData) (belief : List ℤ) (bits : ℕ) (ends : List ℕ) (Ends : ℕ → Type 0) (rows : List (Variable → ℤ)) → AllByRecursion Ends ends
    → ((P : (Variable → ℤ) → Type 0) → AllByRecursion P rows → (s : ℕ) → s < g.shape.states → (row : Variable → ℤ) × P row × IsWorthRow row s)
    → ((P : (Variable → ℤ) → Type 0) → AllByRecursion P rows → (a o k : ℕ) → (a < g.shape.own_actions) × (o < g.shape.observations) × Ends k → (row : Variable → ℤ) × P row × IsGoingRow row a o k)
    → HasRise (stage_program g belief bits ends rows) → ⊥
bounded g belief bits ends Ends rows right worths goings given =
    let rise = rise-of g belief bits ends rows given in
    let vars : List Variable = variables g ends in
    let all : AllByRecursion (IsOf g Ends) vars = all-of g Ends ends right in
    let plays : AreNone vars rise.x IsPlay = plays-none vars rise.x rise.not_negative rise.mix in
    let going : AreNone vars rise.x IsGoing =
    going-none vars rise.x (λ a o k. (a < g.shape.own_actions) × (o < g.shape.observations) × Ends k) rise.not_negative plays (of-going g Ends vars all) (goings (Rises vars rise.x) rise.kept) in
    no-rise vars rise.x (goal_at belief bits)
    (all-none vars rise.x (λ s. s < g.shape.states) rise.not_negative plays going (of-worth g Ends vars all) (worths (Rises vars rise.x) rise.kept)) rise.rises

-- ---- the lower program
both-same : (a o : ℕ) → ((a == a) && (o == o)) ≡ true
both-same a o = ap (λ b. b && (o == o)) (eq-eqb a a refl) ∙ eq-eqb o o refl

low-choice : (b : Bool) (x : ℤ) → pos 0 ≤ℤ x → pos 0 ≤ℤ cond b x (pos 0)
low-choice true x l = l
low-choice false x l = omega (arith, ints)

own-worth : (s : ℕ) → pos 0 <ℤ cond (s == s) (pos 1) (pos 0)
own-worth s = subst (λ b. pos 0 <ℤ cond b (pos 1) (pos 0)) (sym (eq-eqb s s refl)) (omega (arith, ints))

pub lower-bounded : (g : GameData) (belief : List ℤ) (nodes : List NodeData) (candidates : List ℕ) (bits : ℕ) → 0 < g.shape.informed_actions
    → HasRise (lower_program g belief nodes candidates bits) → ⊥
lower-bounded g belief nodes candidates bits some =
    let worth : List (Variable → ℤ) = worth_rows g (lower_worth_row g bits nodes) in
    let pairs : List (Variable → ℤ) = over_pairs g (λ a o. going_on_row a o ∷ []) in
    bounded g belief bits candidates (λ k. Unit {0}) (worth ++ pairs) (each (λ k. tt) candidates)
    (λ P all s ls. (
      lower_worth_row g bits nodes s 0,
      worth-row P g (lower_worth_row g bits nodes) s 0 ls some (each-front P worth pairs all),
      record { worth = λ t. low-choice (t == s) (pos 1) (omega (arith, ints)); own = own-worth s },
    ))
    (λ P all a o k inside. (
      going_on_row a o,
      (pair-rows P g (λ a o. going_on_row a o ∷ []) a o inside.0 inside.1 (each-back P worth pairs all)).0,
      record {
        worth = λ s. refl;
        going = λ b p q. low-choice ((b == a) && (p == o)) (pos 1) (omega (arith, ints));
        own = subst (λ b. pos 0 <ℤ cond b (pos 1) (pos 0)) (sym (both-same a o)) (omega (arith, ints));
      },
    ))

-- ---- the upper program
at-any : (xs : List ℤ) → NoneNegative xs → (q : ℕ) → pos 0 ≤ℤ at xs q
at-any [] low q = omega (arith, ints)
at-any (x ∷ xs) low zero = low 0 (pos 0) (omega arith)
at-any (x ∷ xs) low (suc q) = at-any xs (tail-none_negative x xs low) q

floor-low : (a b : ℤ) → pos 0 ≤ℤ a → pos 0 <ℤ b → pos 0 ≤ℤ floor_of a b
floor-low (pos a) (pos b) p q = omega (arith, ints)
floor-low (pos a) (negsuc b) p q = absurd (omega (arith, ints))
floor-low (negsuc a) b p q = absurd (omega (arith, ints))

floor-whole : (a : ℤ) → pos 0 <ℤ a → pos 0 <ℤ floor_of a (pos 1)
floor-whole (pos a) p = let same : a / 1 ≡ a = div-one a in omega (arith, ints)
floor-whole (negsuc a) p = absurd (omega (arith, ints))

-- the belief of a corner
record IsSureOf (t : ℕ) (belief : List ℤ) : Type 0 where
  low : NoneNegative belief
  one : at belief t ≡ pos 1
  sum : sum_of belief ≡ pos 1

corner-sure : (n t : ℕ) → t < n → IsSureOf t (corner_of n t)
corner-sure n t l = record {
  low = set-none_negative (replicate n (pos 0)) t (pos 1) (replicate-none_negative n) (omega (arith, ints));
  one = get_or-set_same (replicate n (pos 0)) t (pos 1) (pos 0) (omega (arith, length-replicate n (pos 0)));
  sum = corner-sum n t l;
}

point-sure : (points : List PointData) (t k : ℕ) → IsCurrentCorner points t k → IsSureOf t (point_at points k).belief
point-sure points t k corner = subst (IsSureOf t) (sym corner.corner.belief) (corner-sure (length (point_at points k).belief) t corner.corner.state)

scale-some : (bits : ℕ) → pos 0 <ℤ scale bits
scale-some bits = let some : 0 < 2 ^ bits = pow_pos bits in omega (arith, ints)

corner-row : (g : GameData) (bits : ℕ) (point : PointData) (a o t : ℕ) → IsSureOf t point.belief → IsGoingRow (point_row g bits point a o) a o t
corner-row g bits point a o t sure =
    let some : pos 0 <ℤ scale bits = scale-some bits in
    let low : pos 0 ≤ℤ scale bits = omega (arith, ints) in
    let whole : pos 0 <ℤ sum_of point.belief = subst (λ z. pos 0 <ℤ z) (sym sure.sum) (omega (arith, ints)) in
    record {
      worth = λ s. refl;
      going = λ b p q. low-choice ((b == a) && (p == o)) (floor_of (scale bits *ℤ at point.belief q) (sum_of point.belief))
          (floor-low (scale bits *ℤ at point.belief q) (sum_of point.belief) (not_negative_product (scale bits) (at point.belief q) low (at-any point.belief sure.low q)) whole);
      own = subst (λ b. pos 0 <ℤ cond b (floor_of (scale bits *ℤ at point.belief t) (sum_of point.belief)) (pos 0)) (sym (both-same a o))
          (subst (λ z. pos 0 <ℤ floor_of (scale bits *ℤ at point.belief t) z) (sym sure.sum)
          (floor-whole (scale bits *ℤ at point.belief t) (subst (λ z. pos 0 <ℤ (scale bits *ℤ z)) (sym sure.one) (times-one (scale bits) some))));
    }
  where
    times-one : (x : ℤ) → pos 0 <ℤ x → pos 0 <ℤ (x *ℤ pos 1)
    times-one x l = omega (arith, ints)

pub upper-bounded : (g : GameData) (belief : List ℤ) (points : List PointData) (candidates : List ℕ) (bits : ℕ) → 0 < g.shape.informed_actions
    → AreUpperEnds g points candidates → HasRise (upper_program g belief points candidates bits) → ⊥
upper-bounded g belief points candidates bits some ends =
    let worth : List (Variable → ℤ) = worth_rows g (upper_worth_row g bits) in
    let after : ℕ → ℕ → List (Variable → ℤ) = λ a o. map (λ k. point_row g bits (point_at points k) a o) candidates in
    let pairs : List (Variable → ℤ) = over_pairs g after in
    bounded g belief bits (below g.shape.states) (λ t. t < g.shape.states) (worth ++ pairs) (below-each (λ t. t < g.shape.states) g.shape.states (λ i l. l))
    (λ P all s ls. (
      upper_worth_row g bits s 0,
      worth-row P g (upper_worth_row g bits) s 0 ls some (each-front P worth pairs all),
      record { worth = λ t. low-choice (t == s) (pos 1) (omega (arith, ints)); own = own-worth s },
    ))
    (λ P all a o t inside.
    let found = ends.each t inside.2 in
    let corner : ℕ = ends.corners t in (
      point_row g bits (point_at points corner) a o,
      subst (λ (k : ℕ). P (point_row g bits (point_at points k) a o)) found.2
          (each-at (λ k. P (point_row g bits (point_at points k) a o)) 0 candidates found.0
          (each-of-map P (λ k. point_row g bits (point_at points k) a o) candidates (pair-rows P g after a o inside.0 inside.1 (each-back P worth pairs all))) found.1),
      corner-row g bits (point_at points corner) a o t (point-sure points t corner (ends.current t inside.2)),
    ))

-- ---- so no run ends unbounded
rise-of-direction : (p : Program) → HasDirection p → HasRise (program_data p)
rise-of-direction p h = record { x = h.x; not_negative = h.not_negative; rows_kept = h.rows_kept; goal_rises = h.goal_rises }

not-unbounded : (p : Program) (data_of : ProgramData) (pivots : ℕ) (d : Dictionary) (end : End) → program_data p ≡ data_of → (HasRise data_of → ⊥) → RunEnds p pivots d end
    → (col : ℕ) → end ≡ Unbounded col → ⊥
not-unbounded p data_of pivots d end written none run col e =
    none (subst HasRise written (rise-of-direction p (unbounded_has_direction p pivots d col (subst (RunEnds p pivots d) e run))))

pub lower-not-unbounded : (g : GameData) (belief : List ℤ) (nodes : List NodeData) (candidates : List ℕ) (bits : ℕ) (p : Program) (pivots : ℕ) (d : Dictionary) (end : End)
    → 0 < g.shape.informed_actions → program_data p ≡ lower_program g belief nodes candidates bits → RunEnds p pivots d end → (col : ℕ) → end ≡ Unbounded col → ⊥
lower-not-unbounded g belief nodes candidates bits p pivots d end some written run =
    not-unbounded p (lower_program g belief nodes candidates bits) pivots d end written (lower-bounded g belief nodes candidates bits some) run

pub upper-not-unbounded : (g : GameData) (belief : List ℤ) (points : List PointData) (candidates : List ℕ) (bits : ℕ) (p : Program) (pivots : ℕ) (d : Dictionary) (end : End)
    → 0 < g.shape.informed_actions → AreUpperEnds g points candidates → program_data p ≡ upper_program g belief points candidates bits → RunEnds p pivots d end
    → (col : ℕ) → end ≡ Unbounded col → ⊥
upper-not-unbounded g belief points candidates bits p pivots d end some ends written run =
    not-unbounded p (upper_program g belief points candidates bits) pivots d end written (upper-bounded g belief points candidates bits some ends) run
