-- Numbers that rise are no more than the list that they are all in; so an upper program has few candidates.
use Rattle.std.proofs.Common.{◌≡◌, ℕ, zero, suc, ◌+◌, ◌<◌, ◌≤◌, ◌⊎◌, inl, inr, Bool, true, false, cond, not, ◌==◌, ◌||◌, List, [], ◌∷◌, filter, get_or, length, map, refl, arith, sym, subst, ◌∙◌}
use Rattle.std.specs.List.{AllByRecursion}
use Rattle.std.specs.Prelude.{IsTrue}
use Rattle.std.proofs.lemmas.Bool.{false≢true}
use Rattle.std.proofs.lemmas.Bool.Decides.{eqb_tells}
use Rattle.std.proofs.lemmas.List.Filters.{length-filter_both}
use Rattle.std.proofs.lemmas.List.FromFn.{get_or-map-range_with_len, length-map-range_with_len}
use Rattle.scaled_num.specs.Sums.{below}
use Rattle.game_model.specs.Game.{GameData}
use Rattle.belief.proofs.Landings.{each-filter}
use Rattle.point_set.specs.Corners.{point_at}
use Rattle.point_set.specs.Points.{PointData}
use Rattle.stage_game.specs.Asked.{AreRisingNumbers, AreUpperEnds, IsOneCorner}
use Rattle.stage_game.specs.Chosen.{is_among}
use Rattle.stage_game.specs.UpperCandidates.{is_at_corner}
use Rattle.stage_game.proofs.Choosing.{among-filtered}

-- each number is below all that follow
abbrev pub AreApart : List ℕ → Type 0
AreApart [] = Unit {0}
AreApart (x ∷ xs) = AllByRecursion (λ y. x < y) xs × AreApart xs

pub apart-rising : (xs : List ℕ) → AreRisingNumbers xs → AreApart xs
apart-rising [] h = tt
apart-rising (x ∷ []) h = (tt, tt)
apart-rising (x ∷ y ∷ rest) h = let more = apart-rising (y ∷ rest) h.1 in ((h.0, further x y rest h.0 more.0), more)
  where
    further : (x y : ℕ) (zs : List ℕ) → x < y → AllByRecursion (λ z. y < z) zs → AllByRecursion (λ z. x < z) zs
    further x y [] l h = tt
    further x y (z ∷ zs) l h = (let here = h.0 in omega arith, further x y zs l h.1)

pub apart-filter : (q : ℕ → Bool) (xs : List ℕ) → AreApart xs → AreApart (filter q xs)
apart-filter q [] h = tt
apart-filter q (x ∷ xs) h =
    elim (q x) as (λ b. AreApart (cond b (x ∷ filter q xs) (filter q xs))) [ true ↦ (each-filter (λ y. x < y) q xs h.0, apart-filter q xs h.1) | false ↦ apart-filter q xs h.1 ]

-- a number that is among a list leaves fewer others
fewer-others : (x : ℕ) (zs : List ℕ) → is_among x zs ≡ true → length (filter (λ y. not (y == x)) zs) + 1 ≤ length zs
fewer-others x [] e = absurd (false≢true e)
fewer-others x (z ∷ zs) e = elim (eqb_tells z x) [
  | inl h ↦ rw h.0 (omega (arith, length-filter_both (λ y. not (y == x)) (λ y. not (not (y == x))) (λ y. refl) zs))
  | inr h ↦ rw h.0 (omega (arith, fewer-others x zs (rw h.0 at e)))
]

pub few-apart : (xs zs : List ℕ) → AreApart xs → AllByRecursion (λ x. is_among x zs ≡ true) xs → length xs ≤ length zs
few-apart [] zs h m = omega arith
few-apart (x ∷ xs) zs h m = omega (arith, fewer-others x zs m.0, few-apart xs (filter (λ y. not (y == x)) zs) h.1 (others xs h.0 m.1))
  where
    others : (ys : List ℕ) → AllByRecursion (λ y. x < y) ys → AllByRecursion (λ y. is_among y zs ≡ true) ys → AllByRecursion (λ y. is_among y (filter (λ y. not (y == x)) zs) ≡ true) ys
    others [] l m = tt
    others (y ∷ ys) l m = (among-filtered y x zs (λ e. absurd (let here = l.0 in omega arith)) ∙ m.0, others ys l.1 m.1)

pub among-place : (k : ℕ) (xs : List ℕ) (i : ℕ) → i < length xs → get_or xs i 0 ≡ k → is_among k xs ≡ true
among-place k [] i l e = absurd (omega arith)
among-place k (x ∷ xs) zero l e = elim (eqb_tells x k) [ inl h ↦ rw h.0 refl | inr h ↦ absurd (h.1 e) ]
among-place k (x ∷ xs) (suc i) l e = elim (x == k) as (λ b. (b || is_among k xs) ≡ true) [ true ↦ refl | false ↦ among-place k xs i (omega arith) e ]

pub among-corners : (corners : ℕ → ℕ) (states k : ℕ) → IsOneCorner corners states k → is_among k (map corners (below states)) ≡ true
among-corners corners states k c =
    among-place k (map corners (below states)) c.0 (subst (λ (n : ℕ). c.0 < n) (sym (length-map-range_with_len corners 0 states)) c.1)
    (get_or-map-range_with_len corners 0 states c.0 c.0 0 c.1 (omega arith) ∙ c.2)

pub few-candidates : (g : GameData) (points : List PointData) (candidates : List ℕ) → AreUpperEnds g points candidates → length candidates ≤ g.shape.states + 8
few-candidates g points candidates h =
    let q : ℕ → Bool = λ k. not (is_at_corner (point_at points k)) in
    let both = length-filter_both q (λ k. not (q k)) (λ k. refl) candidates in
    let sure : length (filter (λ k. not (q k)) candidates) ≤ length (map h.corners (below g.shape.states)) =
    few-apart (filter (λ k. not (q k)) candidates) (map h.corners (below g.shape.states)) (apart-filter (λ k. not (q k)) candidates (apart-rising candidates h.named.rising)) (each candidates h.others) in
    omega (arith, both, sure, h.few, length-map-range_with_len h.corners 0 g.shape.states)
  where
    at-corner : (k : ℕ) (rest : List ℕ) → IsOneCorner h.corners g.shape.states k ⊎ (IsTrue (is_at_corner (point_at points k)) → ⊥) →
        AllByRecursion (λ x. is_among x (map h.corners (below g.shape.states)) ≡ true) rest → (b : Bool) → is_at_corner (point_at points k) ≡ b →
        AllByRecursion (λ x. is_among x (map h.corners (below g.shape.states)) ≡ true) (cond (not (not b)) (k ∷ rest) rest)
    at-corner k rest (inl c) all true e = (among-corners h.corners g.shape.states k c, all)
    at-corner k rest (inr n) all true e = absurd (n e)
    at-corner k rest d all false e = all

    each : (xs : List ℕ) → AllByRecursion (λ k. IsOneCorner h.corners g.shape.states k ⊎ (IsTrue (is_at_corner (point_at points k)) → ⊥)) xs →
        AllByRecursion (λ x. is_among x (map h.corners (below g.shape.states)) ≡ true) (filter (λ k. not (not (is_at_corner (point_at points k)))) xs)
    each [] d = tt
    each (x ∷ xs) d = at-corner x _ d.0 (each xs d.1) (is_at_corner (point_at points x)) refl
