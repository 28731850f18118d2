-- Strategies by history as plans of game_model.
use Rattle.std.proofs.Common.{◌≡◌, ℕ, suc, zero, ◌+◌, ◌<◌, ◌≤◌, List, [], ◌∷◌, ◌++◌, length, length-append, refl, ap, arith, sym, ◌∙◌}
use Rattle.std.specs.Prelude.{ℤ, pos, ◌*ℤ◌, map, sum_by}
use Rattle.std.specs.List.{AllByRecursion}
use Rattle.scaled_num.specs.Sums.{below}
use Rattle.scaled_num.proofs.Sums.{below-each, each-append, each-map, sum_by-map, total-below, total-map}
use Rattle.game_model.specs.Numbers.{Numbers}
use Rattle.game_model.specs.Plan.{InformedPlan, IsInformedPlan, IsOwnPlan, OwnPlan}
use Rattle.history_model.specs.Courses.{Stage}
use Rattle.history_model.specs.Strategies.{Felt, InformedStrategy, IsFelt, IsInformedStrategy, IsKnown, IsOwnStrategy, Known, OwnStrategy, felt, informed_weights, known, own_weights}
use Rattle.history_model.specs.Playing.{InformedPlaysAs, OwnPlaysAs, stage_of}
use Rattle.history_model.specs.Trees.{InformedStrategiesArePlans, InformedStrategiesPlay, OwnStrategiesArePlans, OwnStrategiesPlay, StrategiesPay, felt_of, informed_tree, known_of, own_tree}
use Rattle.history_model.proofs.Matching.{pays}

longer : {X : Type 0} (xs : List X) (x : X) (n most : ℕ) → length xs + suc n ≤ most → length (xs ++ x ∷ []) + n ≤ most
longer xs x n most l = omega (arith, length-append xs (x ∷ []))

map-snoc : {X Y : Type 0} (f : X → Y) (xs : List X) (x : X) → map f (xs ++ x ∷ []) ≡ map f xs ++ f x ∷ []
map-snoc f [] x = refl
map-snoc f (z ∷ xs) x = ap (λ ys. f z ∷ ys) (map-snoc f xs x)

-- ---- the informed player
informed_tree-matches : (g : Numbers) (strategy : InformedStrategy) (first coins n : ℕ) (past : List Stage) (history : List Known) → map known past ≡ history →
    InformedPlaysAs g coins (informed_weights strategy first) n (informed_tree strategy first coins n history) past
informed_tree-matches g strategy first coins zero past history e = tt
informed_tree-matches g strategy first coins (suc n) past history e = λ c a o t lc la lo lt F G same.
    total-map (λ (b : ℕ × InformedPlan n). pos b.0 *ℤ F b.1)
    (λ v. (strategy first history c v, informed_tree strategy first coins n (history ++ known_of a c o t v ∷ []))) (below coins)
    ∙ total-below coins _ _ (λ v lv.
    ap (λ (z : ℤ). pos (strategy first history c v) *ℤ z)
    (same v lv (informed_tree strategy first coins n (history ++ known_of a c o t v ∷ []))
    (λ u. informed_tree-matches g strategy first coins n (past ++ stage_of a c o t u v ∷ []) (history ++ known_of a c o t v ∷ [])
    (map-snoc known past (stage_of a c o t u v) ∙ ap (λ (h : List Known). h ++ known_of a c o t v ∷ []) e)))
    ∙ ap (λ (h : List Known). pos (strategy first h c v) *ℤ G v) (sym e))

informed_tree-is_plan : (g : Numbers) (coins whole most : ℕ) (strategy : InformedStrategy) → IsInformedStrategy g coins whole most strategy →
    (first n : ℕ) (history : List Known) → first < g.states → length history + n ≤ most → AllByRecursion (IsKnown g coins) history →
    IsInformedPlan g whole n (informed_tree strategy first coins n history)
informed_tree-is_plan g coins whole most strategy is first zero history lf lh h = tt
informed_tree-is_plan g coins whole most strategy is first (suc n) history lf lh h =
    record {
      some = is.some;
      part = λ c. sum_by (λ v. strategy first history c v) (below coins);
      same = λ c a o t lc la lo lt. sum_by-map (λ (b : ℕ × InformedPlan n). b.0) _ (below coins);
      sums = is.sums first history lf (omega arith) h;
      rest = λ c a o t lc la lo lt. each-map (λ (b : ℕ × InformedPlan n). IsInformedPlan g whole n b.1) _ (below coins)
          (below-each _ coins (λ v lv. informed_tree-is_plan g coins whole most strategy is first n (history ++ known_of a c o t v ∷ []) lf (longer history (known_of a c o t v) n most lh)
          (each-append (IsKnown g coins) history (known_of a c o t v ∷ []) h (record { own = la; informed = lc; seen = lo; to = lt; coin = lv }, tt))));
    }

-- ---- player one
own_tree-matches : (g : Numbers) (strategy : OwnStrategy) (coins n : ℕ) (past : List Stage) (history : List Felt) → map felt past ≡ history →
    OwnPlaysAs g coins (own_weights strategy) n (own_tree strategy coins n history) past
own_tree-matches g strategy coins zero past history e = tt
own_tree-matches g strategy coins (suc n) past history e = λ a o la lo F G same.
    total-map (λ (b : ℕ × OwnPlan n). pos b.0 *ℤ F b.1)
    (λ u. (strategy history a u, own_tree strategy coins n (history ++ felt_of a o u ∷ []))) (below coins)
    ∙ total-below coins _ _ (λ u lu.
    ap (λ (z : ℤ). pos (strategy history a u) *ℤ z)
    (same u lu (own_tree strategy coins n (history ++ felt_of a o u ∷ []))
    (λ c t v. own_tree-matches g strategy coins n (past ++ stage_of a c o t u v ∷ []) (history ++ felt_of a o u ∷ [])
    (map-snoc felt past (stage_of a c o t u v) ∙ ap (λ (h : List Felt). h ++ felt_of a o u ∷ []) e)))
    ∙ ap (λ (h : List Felt). pos (strategy h a u) *ℤ G u) (sym e))

own_tree-is_plan : (g : Numbers) (coins whole most : ℕ) (strategy : OwnStrategy) → IsOwnStrategy g coins whole most strategy →
    (n : ℕ) (history : List Felt) → length history + n ≤ most → AllByRecursion (IsFelt g coins) history → IsOwnPlan g whole n (own_tree strategy coins n history)
own_tree-is_plan g coins whole most strategy is zero history lh h = tt
own_tree-is_plan g coins whole most strategy is (suc n) history lh h =
    record {
      some = is.some;
      part = λ a. sum_by (λ u. strategy history a u) (below coins);
      same = λ a o la lo. sum_by-map (λ (b : ℕ × OwnPlan n). b.0) _ (below coins);
      sums = is.sums history (omega arith) h;
      rest = λ a o la lo. each-map (λ (b : ℕ × OwnPlan n). IsOwnPlan g whole n b.1) _ (below coins)
          (below-each _ coins (λ u lu. own_tree-is_plan g coins whole most strategy is n (history ++ felt_of a o u ∷ []) (longer history (felt_of a o u) n most lh)
          (each-append (IsFelt g coins) history (felt_of a o u ∷ []) h (record { own = la; seen = lo; coin = lu }, tt))));
    }

-- ---- from no history
whole_length : (n : ℕ) → 0 + n ≤ n
whole_length n = omega arith

pub own-plans : OwnStrategiesArePlans
own-plans g coins whole n strategy is = own_tree-is_plan g coins whole n strategy is n [] (whole_length n) tt

pub informed-plans : InformedStrategiesArePlans
informed-plans g coins whole n first strategy lf is = informed_tree-is_plan g coins whole n strategy is first n [] lf (whole_length n) tt

pub own-plays : OwnStrategiesPlay
own-plays g coins n strategy = own_tree-matches g strategy coins n [] [] refl

pub informed-plays : InformedStrategiesPlay
informed-plays g coins n first strategy = informed_tree-matches g strategy first coins n [] [] refl

pub strategies-pay : StrategiesPay
strategies-pay g U V n s own informed =
    pays g U V (own_weights own) (informed_weights informed s) n s (own_tree own U n []) (informed_tree informed s V n []) (own-plays g U n own) (informed-plays g V n s informed)
