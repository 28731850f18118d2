-- The continuations after an own action and an observation are those of the branches after them.
use Rattle.std.proofs.Common.{◌≡◌, ℕ, Bool, true, false, cond, List, [], ◌∷◌, map, filter, refl, ap, ◌==◌, ◌&&◌}
use Rattle.game_model.specs.Branches.{Branch, branches_at, continuation_of, continuations_at}

-- a filter of a mapped list
pub filter-map : {X Y : Type 0} (f : X → Y) (p : Y → Bool) (xs : List X) → filter p (map f xs) ≡ map f (filter (λ x. p (f x)) xs)
filter-map f p [] = refl
filter-map {X} {Y} f p (x ∷ xs) = by (p (f x)) (filter-map f p xs)
  where
    by : (b : Bool) → filter p (map f xs) ≡ map f (filter (λ x. p (f x)) xs) →
        cond b (f x ∷ filter p (map f xs)) (filter p (map f xs)) ≡ map f (cond b (x ∷ filter (λ x. p (f x)) xs) (filter (λ x. p (f x)) xs))
    by true k = ap (λ (ys : List Y). f x ∷ ys) k
    by false k = k

pub continuations-are : (branches : List Branch) (a o : ℕ) → continuations_at (map continuation_of branches) a o ≡ map continuation_of (branches_at branches a o)
continuations-are branches a o = filter-map continuation_of (λ c. (c.own == a) && (c.seen == o)) branches
