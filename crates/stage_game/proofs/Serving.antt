-- Programs that serve a run: rows over variables whose numbers are all narrow.
use Rattle.std.proofs.Common.{◌≡◌, ℕ, zero, suc, ◌+◌, ◌<◌, List, [], ◌∷◌, ◌++◌, get_or, length, map, replicate, refl, ap, arith, sym, subst, ◌∙◌}
use Rattle.std.specs.Prelude.{ℤ, pos, ◌≤ℤ◌}
use Rattle.std.specs.List.{AllByRecursion}
use Rattle.std.proofs.lemmas.Int.{ints}
use Rattle.std.proofs.lemmas.List.{length-append, length-replicate}
use Rattle.scaled_num.proofs.Each.{get-map}
use Rattle.scaled_num.proofs.Sums.{each-append, each-at, each-map}
use Rattle.simplex.specs.Program.{AllNarrow, IsNarrow, IsProgram, at, row_lists}
use Rattle.simplex.specs.declared.Program.{Program}
use Rattle.stage_game.specs.Scaling.{mix_row}
use Rattle.stage_game.specs.Variables.{GoesOn, Plays, ProgramData, Variable, WorthOf, over_variables, program_data}

abbrev pub AreNarrowOver : List Variable → (Variable → ℤ) → Type 0
AreNarrowOver vars number = AllByRecursion (λ v. IsNarrow (number v)) vars

length-mapped : {X Y : Type 0} (f : X → Y) (xs : List X) → length (map f xs) ≡ length xs
length-mapped f [] = refl
length-mapped f (x ∷ xs) = ap suc (length-mapped f xs)

zeros-each : (P : ℤ → Type 0) (z : ℤ) (n : ℕ) → P z → AllByRecursion P (replicate n z)
zeros-each P z zero p = tt
zeros-each P z (suc n) p = (p, zeros-each P z n p)

mix-narrow : (vars : List Variable) → AreNarrowOver vars mix_row
mix-narrow [] = tt
mix-narrow (v ∷ vs) = (one v, mix-narrow vs)
  where
    one : (v : Variable) → IsNarrow (mix_row v)
    one (WorthOf s) = omega arith
    one (Plays a) = omega arith
    one (GoesOn a o k) = omega arith

pub program-serves : (p : Program) (vars : List Variable) (numbers : List (Variable → ℤ)) (goal : Variable → ℤ) →
    program_data p ≡ over_variables vars (numbers ++ mix_row ∷ []) (replicate (length numbers) (pos 0) ++ pos 1 ∷ []) goal →
    0 < length vars → AllByRecursion (AreNarrowOver vars) numbers → AreNarrowOver vars goal → IsProgram p
program-serves p vars numbers goal e some narrow goal_narrow =
    let all : List (Variable → ℤ) = numbers ++ mix_row ∷ [] in
    let over : (Variable → ℤ) → List ℤ = λ number. map number vars in
    let limits : List ℤ = replicate (length numbers) (pos 0) ++ pos 1 ∷ [] in
    let rows_is : row_lists p ≡ map over all = ap (λ (d : ProgramData). d.rows) e in
    let limits_is : p.limits.items ≡ limits = ap (λ (d : ProgramData). d.limits) e in
    let goal_is : p.goal.items ≡ map goal vars = ap (λ (d : ProgramData). d.goal) e in
    let limits_long : length limits ≡ length numbers + 1 = length-append (replicate (length numbers) (pos 0)) (pos 1 ∷ []) ∙ omega (arith, length-replicate (length numbers) (pos 0)) in
    let count : length p.limits.items ≡ length numbers + 1 = ap (λ (xs : List ℤ). length xs) limits_is ∙ limits_long in
    let all_long : length all ≡ length numbers + 1 = length-append numbers (mix_row ∷ []) in
    let width : length p.goal.items ≡ length vars = ap (λ (xs : List ℤ). length xs) goal_is ∙ length-mapped goal vars in
    let each_narrow : AllByRecursion (AreNarrowOver vars) all = each-append (AreNarrowOver vars) numbers (mix_row ∷ []) narrow (mix-narrow vars, tt) in
    let row : (i : ℕ) → i < length p.limits.items → get_or (row_lists p) i [] ≡ map (get_or all i mix_row) vars =
    λ i l. ap (λ (rs : List (List ℤ)). get_or rs i []) rows_is ∙ get-map over all i mix_row [] (omega arith) in
    let P : ℤ → Type 0 = λ z. pos 0 ≤ℤ z in
    let low : AllByRecursion P limits = each-append P (replicate (length numbers) (pos 0)) (pos 1 ∷ []) (zeros-each P (pos 0) (length numbers) (omega (arith, ints))) (omega (arith, ints), tt) in
    let limits_narrow : AllByRecursion IsNarrow limits = each-append IsNarrow (replicate (length numbers) (pos 0)) (pos 1 ∷ []) (zeros-each IsNarrow (pos 0) (length numbers) (omega arith)) (omega arith, tt) in
    record {
      some_row = omega arith;
      some_variable = omega arith;
      long = sym (length-mapped (λ (r : _). r.items) p.rows.items) ∙ ap (λ (rs : List (List ℤ)). length rs) rows_is ∙ length-mapped over all ∙ all_long ∙ sym count;
      wide = λ i l. ap (λ (xs : List ℤ). length xs) (row i l) ∙ length-mapped (get_or all i mix_row) vars ∙ sym width;
      not_negative = λ i l. subst (λ (xs : List ℤ). pos 0 ≤ℤ at xs i) (sym limits_is) (each-at P (pos 0) limits i low (omega arith));
      narrow_rows = λ i l. subst AllNarrow (sym (row i l)) (narrow-list _ (each-map IsNarrow (get_or all i mix_row) vars (each-at (AreNarrowOver vars) mix_row all i each_narrow (omega arith))));
      narrow_limits = subst AllNarrow (sym limits_is) (narrow-list limits limits_narrow);
      narrow_goal = subst AllNarrow (sym goal_is) (narrow-list (map goal vars) (each-map IsNarrow goal vars goal_narrow));
    }
  where
    narrow-list : (xs : List ℤ) → AllByRecursion IsNarrow xs → AllNarrow xs
    narrow-list xs h k l = each-at IsNarrow (pos 0) xs k h l
