-- The list of plays holds just the plays, each once.
use Rattle.std.proofs.Common.{◌≡◌, ℕ, suc, zero, ◌+◌, ◌<◌, ◌≤◌, List, [], ◌∷◌, ◌++◌, length, refl, ap, arith, sym, subst, ◌∙◌, ⊎_elim}
use Rattle.std.specs.Prelude.{map, flat_map, Contains, AllPairs}
use Rattle.std.specs.List.{AllByRecursion, range_with_len}
use Rattle.std.proofs.lemmas.List.Elements.{All-from_recursion, All-contains, Contains-get_or, Contains-append_left, Contains-append_right, Contains-append_cases}
use Rattle.std.proofs.lemmas.List.FromFn.{length-range_with_len, get_or-range_with_len}
use Rattle.scaled_num.specs.Sums.{below}
use Rattle.scaled_num.proofs.Sums.{each, from-each, each-flat_map, each-map}
use Rattle.game_model.specs.Numbers.{Numbers}
use Rattle.game_model.specs.Plan.{OwnPlan, InformedPlan}
use Rattle.game_model.specs.Play.{Step, first_steps, own_after, informed_after, plays, IsPlay}
use Rattle.game_model.specs.Laws.{PlaysAreListed, PlaysAreOnce}
use Rattle.game_model.proofs.Steps.{step_of, first_steps-each}
use Rattle.game_model.proofs.Pay.{each-from}

-- what holds of each element holds of one that is contained
contained : {X : Type 0} (P : X → Type 0) (xs : List X) (x : X) → AllByRecursion P xs → Contains xs x → P x
contained P xs x h at = All-contains P xs x (All-from_recursion P xs h) at

-- the elements of joined lists
flat_map-contains : {X Y : Type 0} (f : X → List Y) (xs : List X) (x : X) (y : Y) → Contains xs x → Contains (f x) y → Contains (flat_map f xs) y
flat_map-contains f [] x y at inner = absurd (omega (arith, at.1))
flat_map-contains f (z ∷ xs) x y (zero, lt, e) inner = Contains-append_left (f z) (flat_map f xs) y (subst (λ w. Contains (f w) y) (sym e) inner)
flat_map-contains f (z ∷ xs) x y (suc k, lt, e) inner = Contains-append_right (f z) (flat_map f xs) y (flat_map-contains f xs x y (k, omega arith, e) inner)

map-contains : {X Y : Type 0} (f : X → Y) (xs : List X) (x : X) → Contains xs x → Contains (map f xs) (f x)
map-contains f [] x at = absurd (omega (arith, at.1))
map-contains f (z ∷ xs) x (zero, lt, e) = (0, omega arith, ap f e)
map-contains f (z ∷ xs) x (suc k, lt, e) =
    let rest = map-contains f xs x (k, omega arith, e) in
    let l = rest.1 in
    (suc rest.0, omega arith, rest.2)

below-contains : (n i : ℕ) → i < n → Contains (below n) i
below-contains n i l = (i, omega (arith, length-range_with_len 0 n), get_or-range_with_len 0 n i i l ∙ omega arith)

-- a step whose parts are in range is listed
first_steps-contains : (g : Numbers) (n : ℕ) (sigma : OwnPlan (suc n)) (tau : InformedPlan (suc n)) (a c o t u v : ℕ) →
    a < g.own_actions → c < g.informed_actions → o < g.observations → t < g.states → u < length (sigma a o) → v < length (tau c a o t) →
    Contains (first_steps g n sigma tau) (step_of a c o t u v)
first_steps-contains g n sigma tau a c o t u v la lc lo lt lu lv =
    flat_map-contains _ (below g.own_actions) a _ (below-contains g.own_actions a la)
    (flat_map-contains _ (below g.informed_actions) c _ (below-contains g.informed_actions c lc)
    (flat_map-contains _ (below g.observations) o _ (below-contains g.observations o lo)
    (flat_map-contains _ (below g.states) t _ (below-contains g.states t lt)
    (flat_map-contains _ (below (length (sigma a o))) u _ (below-contains (length (sigma a o)) u lu)
    (map-contains (step_of a c o t u) (below (length (tau c a o t))) v (below-contains (length (tau c a o t)) v lv))))))

-- each listed play is one
all-plays : (g : Numbers) (n : ℕ) (sigma : OwnPlan n) (tau : InformedPlan n) → AllByRecursion (IsPlay g n sigma tau) (plays g n sigma tau)
all-plays g zero sigma tau = (tt, tt)
all-plays g (suc n) sigma tau =
    each-flat_map (IsPlay g (suc n) sigma tau) _ (first_steps g n sigma tau)
    (first_steps-each g n sigma tau _ (λ a c o t u v la lc lo lt lu lv.
    let step = step_of a c o t u v in
    let rests = plays g n (own_after n sigma step).1 (informed_after n tau step).1 in
    each-map (IsPlay g (suc n) sigma tau) (λ rest. step ∷ rest) rests
    (each-from (IsPlay g n (own_after n sigma step).1 (informed_after n tau step).1) _ rests (λ rest is. (la, lc, lo, lt, lu, lv, is))
    (all-plays g n (own_after n sigma step).1 (informed_after n tau step).1))))

-- each play is listed
plays-contain : (g : Numbers) (n : ℕ) (sigma : OwnPlan n) (tau : InformedPlan n) (play : List Step) → IsPlay g n sigma tau play → Contains (plays g n sigma tau) play
plays-contain g zero sigma tau [] is = (0, omega arith, refl)
plays-contain g zero sigma tau (step ∷ rest) is = absurd is
plays-contain g (suc n) sigma tau [] is = absurd is
plays-contain g (suc n) sigma tau (step ∷ rest) is =
    flat_map-contains _ (first_steps g n sigma tau) step (step ∷ rest)
    (first_steps-contains g n sigma tau step.own step.informed step.seen step.to step.own_place step.informed_place is.0 is.1 is.2 is.3 is.4 is.5)
    (map-contains (λ others. step ∷ others) (plays g n (own_after n sigma step).1 (informed_after n tau step).1) rest
    (plays-contain g n (own_after n sigma step).1 (informed_after n tau step).1 rest is.6))

pub plays-are_listed : PlaysAreListed
plays-are_listed g n sigma tau play = (contained (IsPlay g n sigma tau) (plays g n sigma tau) play (all-plays g n sigma tau), plays-contain g n sigma tau play)

-- no element of the list stands in it again
abbrev Apart : {X : Type 0} → List X → Type 0
Apart [] = Unit {0}
Apart (x ∷ xs) = (Contains xs x → ⊥) × Apart xs

apart-pairs : {X : Type 0} (xs : List X) → Apart xs → AllPairs (λ x y. x ≡ y → ⊥) xs
apart-pairs [] h i j d l m = absurd (omega arith)
apart-pairs (x ∷ xs) h zero zero d l m = absurd (omega arith)
apart-pairs (x ∷ xs) h zero (suc j) d l m = λ e. h.0 (subst (Contains xs) (sym e) (Contains-get_or xs j d (omega arith)))
apart-pairs (x ∷ xs) h (suc i) zero d l m = absurd (omega arith)
apart-pairs (x ∷ xs) h (suc i) (suc j) d l m = apart-pairs xs h.1 i j d (omega arith) (omega arith)

apart-append : {X : Type 0} (xs ys : List X) → Apart xs → Apart ys → ((z : X) → Contains xs z → Contains ys z → ⊥) → Apart (xs ++ ys)
apart-append [] ys h k other = k
apart-append (x ∷ xs) ys h k other = (
  λ at. ⊎_elim (λ inside. h.0 inside) (λ past. other x (0, omega arith, refl) past) (Contains-append_cases xs ys x at),
  apart-append xs ys h.1 k (λ z at past. other z (Contains-append_right (x ∷ []) xs z at) past),
)

-- where each element of a list tells by its key which part of a joined list it comes from, the key of what is
-- contained is contained
key-contained : {X Y : Type 0} (key : Y → X) (f : X → List Y) → ((x : X) → AllByRecursion (λ y. key y ≡ x) (f x)) →
    (xs : List X) (y : Y) → Contains (flat_map f xs) y → Contains xs (key y)
key-contained key f h [] y at = absurd (omega (arith, at.1))
key-contained key f h (x ∷ xs) y at =
    ⊎_elim
    (λ inside. (0, omega arith, sym (contained (λ z. key z ≡ x) (f x) y (h x) inside)))
    (λ past. Contains-append_right (x ∷ []) xs (key y) (key-contained key f h xs y past))
    (Contains-append_cases (f x) (flat_map f xs) y at)

apart-flat_map : {X Y : Type 0} (key : Y → X) (f : X → List Y) → ((x : X) → AllByRecursion (λ y. key y ≡ x) (f x)) → ((x : X) → Apart (f x)) →
    (xs : List X) → Apart xs → Apart (flat_map f xs)
apart-flat_map key f h k [] a = tt
apart-flat_map key f h k (x ∷ xs) a =
    apart-append (f x) (flat_map f xs) (k x) (apart-flat_map key f h k xs a.1)
    (λ y inside past. a.0 (subst (Contains xs) (contained (λ z. key z ≡ x) (f x) y (h x) inside) (key-contained key f h xs y past)))

map_key-contained : {X Y : Type 0} (key : Y → X) (f : X → Y) → ((x : X) → key (f x) ≡ x) → (xs : List X) (y : Y) → Contains (map f xs) y → Contains xs (key y)
map_key-contained key f h [] y at = absurd (omega (arith, at.1))
map_key-contained key f h (x ∷ xs) y (zero, lt, e) = (0, omega arith, sym (h x) ∙ ap key e)
map_key-contained key f h (x ∷ xs) y (suc k, lt, e) = Contains-append_right (x ∷ []) xs (key y) (map_key-contained key f h xs y (k, omega arith, e))

apart-map : {X Y : Type 0} (key : Y → X) (f : X → Y) → ((x : X) → key (f x) ≡ x) → (xs : List X) → Apart xs → Apart (map f xs)
apart-map key f h [] a = tt
apart-map key f h (x ∷ xs) a = (λ at. a.0 (subst (Contains xs) (h x) (map_key-contained key f h xs (f x) at)), apart-map key f h xs a.1)

apart-range : (a n : ℕ) → Apart (range_with_len a n)
apart-range a zero = tt
apart-range a (suc n) = (
  λ at. let past : a + 1 ≤ a = contained (λ i. a + 1 ≤ i) (range_with_len (a + 1) n) a (from-each (λ i. a + 1 ≤ i) (a + 1) n (λ i l m. l)) at in absurd (omega arith),
  apart-range (a + 1) n,
)

-- what holds of every part holds of the joined list
every-flat_map : {X Y : Type 0} (P : Y → Type 0) (f : X → List Y) (xs : List X) → ((x : X) → AllByRecursion P (f x)) → AllByRecursion P (flat_map f xs)
every-flat_map P f xs h = each-flat_map P f xs (each h xs)

every-map : {X Y : Type 0} (P : Y → Type 0) (f : X → Y) (xs : List X) → ((x : X) → P (f x)) → AllByRecursion P (map f xs)
every-map P f xs h = each-map P f xs (each h xs)

apart-first_steps : (g : Numbers) (n : ℕ) (sigma : OwnPlan (suc n)) (tau : InformedPlan (suc n)) → Apart (first_steps g n sigma tau)
apart-first_steps g n sigma tau =
    apart-flat_map (λ (x : Step). x.own) _
    (λ a. every-flat_map _ _ (below g.informed_actions) (λ c. every-flat_map _ _ (below g.observations) (λ o.
    every-flat_map _ _ (below g.states) (λ t. every-flat_map _ _ (below (length (sigma a o))) (λ u.
    every-map (λ x. x.own ≡ a) (step_of a c o t u) (below (length (tau c a o t))) (λ v. refl))))))
    (λ a. apart-flat_map (λ (x : Step). x.informed) _
    (λ c. every-flat_map _ _ (below g.observations) (λ o.
    every-flat_map _ _ (below g.states) (λ t. every-flat_map _ _ (below (length (sigma a o))) (λ u.
    every-map (λ x. x.informed ≡ c) (step_of a c o t u) (below (length (tau c a o t))) (λ v. refl)))))
    (λ c. apart-flat_map (λ (x : Step). x.seen) _
    (λ o. every-flat_map _ _ (below g.states) (λ t. every-flat_map _ _ (below (length (sigma a o))) (λ u.
    every-map (λ x. x.seen ≡ o) (step_of a c o t u) (below (length (tau c a o t))) (λ v. refl))))
    (λ o. apart-flat_map (λ (x : Step). x.to) _
    (λ t. every-flat_map _ _ (below (length (sigma a o))) (λ u.
    every-map (λ x. x.to ≡ t) (step_of a c o t u) (below (length (tau c a o t))) (λ v. refl)))
    (λ t. apart-flat_map (λ (x : Step). x.own_place) _
    (λ u. every-map (λ x. x.own_place ≡ u) (step_of a c o t u) (below (length (tau c a o t))) (λ v. refl))
    (λ u. apart-map (λ (x : Step). x.informed_place) (step_of a c o t u) (λ v. refl) (below (length (tau c a o t))) (apart-range 0 (length (tau c a o t))))
    (below (length (sigma a o))) (apart-range 0 (length (sigma a o))))
    (below g.states) (apart-range 0 g.states))
    (below g.observations) (apart-range 0 g.observations))
    (below g.informed_actions) (apart-range 0 g.informed_actions))
    (below g.own_actions) (apart-range 0 g.own_actions)

-- the first step of a play, and what follows it
abbrev first_of : List Step → Step
first_of [] = step_of 0 0 0 0 0 0
first_of (step ∷ rest) = step

abbrev rest_of : List Step → List Step
rest_of [] = []
rest_of (step ∷ rest) = rest

apart-plays : (g : Numbers) (n : ℕ) (sigma : OwnPlan n) (tau : InformedPlan n) → Apart (plays g n sigma tau)
apart-plays g zero sigma tau = (λ at. absurd (omega (arith, at.1)), tt)
apart-plays g (suc n) sigma tau =
    apart-flat_map first_of _
    (λ step. every-map (λ play. first_of play ≡ step) (λ rest. step ∷ rest) (plays g n (own_after n sigma step).1 (informed_after n tau step).1) (λ rest. refl))
    (λ step. apart-map rest_of (λ rest. step ∷ rest) (λ rest. refl) (plays g n (own_after n sigma step).1 (informed_after n tau step).1)
    (apart-plays g n (own_after n sigma step).1 (informed_after n tau step).1))
    (first_steps g n sigma tau) (apart-first_steps g n sigma tau)

pub plays-are_once : PlaysAreOnce
plays-are_once g n sigma tau = apart-pairs (plays g n sigma tau) (apart-plays g n sigma tau)
