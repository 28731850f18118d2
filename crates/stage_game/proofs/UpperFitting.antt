-- What is read from an upper program's run fits.
use Rattle.std.proofs.Common.{◌≡◌, ◌⊎◌, ℕ, zero, suc, ◌<◌, ◌≤◌, ◌+◌, ◌∷◌, [], List, Bool, true, false, cond, length, map, refl, sym, subst, ap, ◌∙◌, inl, inr, arith}
use Rattle.std.specs.Prelude.{ℤ, pos, filter, not, slice_index}
use Rattle.std.specs.List.{AllByRecursion, range_with_len}
use Rattle.std.proofs.lemmas.List.{ext_get_or}
use Rattle.std.proofs.lemmas.List.FromFn.{get_or-map-range_with_len, length-map-range_with_len}
use Rattle.scaled_num.proofs.Sums.{below-each, each-at}
use Rattle.scaled_num.specs.Share.{at}
use Rattle.scaled_num.specs.Sums.{below}
use Rattle.game_model.specs.Branches.{AreRising, Branch}
use Rattle.game_model.specs.Game.{GameData, IsWithin}
use Rattle.point_set.proofs.Counted.{few-items}
use Rattle.point_set.proofs.Rests.{corner-is}
use Rattle.point_set.specs.Corners.{point_at}
use Rattle.point_set.specs.Points.{PointData}
use Rattle.point_set.specs.Split.{AreRisingPairs, IsWanted, is_corner}
use Rattle.simplex.specs.Dictionary.{Dictionary}
use Rattle.stage_game.specs.Advice.{AreInformedRead, AreWantedAfter, AreWantedRead, IsOwnRead}
use Rattle.stage_game.specs.AdviceData.{UpperAdviceData, listed, listed_one}
use Rattle.stage_game.specs.Asked.{AreUpperEnds, IsOneCorner}
use Rattle.stage_game.specs.Fits.{IsPlaced, UpperFits, wanted_at}
use Rattle.stage_game.specs.Reading.{IsReadable, weight_end}
use Rattle.stage_game.specs.UpperCandidates.{is_at_corner}
use Rattle.stage_game.proofs.Placed.{AllBefore, IsAt, branches-of-pair, each-weaker, listed-at, listed-before, map-each, over-pairs-each, over-pairs-rising, rising-at}
use Rattle.stage_game.proofs.ReadWeights.{own-mix, prices-long}
use Rattle.stage_game.proofs.Shifted.{left-within}
use Rattle.stage_game.proofs.StateMixes.{informed-fit}

-- ---- members with weights, as pairs
abbrev pair_at : List ℕ → List ℤ → ℕ → ℕ × ℤ
pair_at members weights i = (slice_index members i, at weights i)

abbrev pairs_of : List ℕ → List ℤ → List (ℕ × ℤ)
pairs_of members weights = map (pair_at members weights) (below (length members))

pairs-of-listed : (a o : ℕ) (members : List ℕ) (weights : List ℤ) → map (λ b. (b.member, b.weight)) (listed a o members weights) ≡ pairs_of members weights
pairs-of-listed a o members weights = both (below (length members))
  where
    both : (is : List ℕ) → map (λ b. (b.member, b.weight)) (map (listed_one a o members weights) is) ≡ map (pair_at members weights) is
    both [] = refl
    both (i ∷ is) = ap (λ (ps : List (ℕ × ℤ)). (slice_index members i, at weights i) ∷ ps) (both is)

rising-range : (f : ℕ → ℕ × ℤ) (a n : ℕ) → ((i j : ℕ) → i < j → j < a + n → (f i).0 < (f j).0) → AreRisingPairs (map f (range_with_len a n))
rising-range f a zero h = tt
rising-range f a (suc zero) h = tt
rising-range f a (suc (suc n)) h = (h a (a + 1) (omega arith) (omega arith), rising-range f (a + 1) (suc n) (λ i j l k. h i j l (omega arith)))

-- ---- at most eight of the candidates are no corner
-- the more pass a test, the longer the list of those that do
passing-kept : (b c : Bool) (i : ℕ) (xs ys : List ℕ) → (b ≡ true → c ≡ true) → length xs ≤ length ys → length (cond b (i ∷ xs) xs) ≤ length (cond c (i ∷ ys) ys)
passing-kept true true i xs ys e l = omega arith
passing-kept true false i xs ys e l = let never : false ≡ true = e refl in cc
passing-kept false true i xs ys e l = omega arith
passing-kept false false i xs ys e l = l

passing-more : (p q : ℕ → Bool) (is : List ℕ) → AllByRecursion (λ i. p i ≡ true → q i ≡ true) is → length (filter p is) ≤ length (filter q is)
passing-more p q [] h = omega arith
passing-more p q (i ∷ is) h = passing-kept (p i) (q i) i (filter p is) (filter q is) h.0 (passing-more p q is h.1)

as-many : {X Y : Type 0} (b : Bool) (x : X) (y : Y) (xs : List X) (ys : List Y) → length ys ≡ length xs → length (cond b (y ∷ ys) ys) ≡ length (cond b (x ∷ xs) xs)
as-many true x y xs ys e = ap suc e
as-many false x y xs ys e = e

filter-map : {X Y : Type 0} (test : Y → Bool) (f : X → Y) (xs : List X) → length (filter test (map f xs)) ≡ length (filter (λ x. test (f x)) xs)
filter-map test f [] = refl
filter-map test f (x ∷ xs) = as-many (test (f x)) x (f x) (filter (λ x. test (f x)) xs) (filter test (map f xs)) (filter-map test f xs)

by-place : (members : List ℕ) → map (λ i. slice_index members i) (below (length members)) ≡ members
by-place members =
    ext_get_or 0 (map (λ i. slice_index members i) (below (length members))) members (length-map-range_with_len (λ i. slice_index members i) 0 (length members))
    (λ i l. get_or-map-range_with_len (λ i. slice_index members i) 0 (length members) i i 0 (let inside : i < length members = omega (arith, length-map-range_with_len (λ i. slice_index members i) 0 (length members)) in inside) (omega arith))

-- a candidate is a corner of a state, or its belief is none
not-corner : (corners : ℕ → ℕ) (states : ℕ) (points : List PointData) (k : ℕ) → IsOneCorner corners states k ⊎ (is_at_corner (point_at points k) ≡ true → ⊥)
    → not (is_corner corners states k) ≡ true → not (is_at_corner (point_at points k)) ≡ true
not-corner corners states points k (inl found) h =
    let corner : is_corner corners states k ≡ true = subst (λ (k : ℕ). is_corner corners states k ≡ true) found.2 (corner-is corners states found.0 found.1) in
    absurd (never (is_corner corners states k) corner h)
  where
    never : (b : Bool) → b ≡ true → not b ≡ true → ⊥
    never true p q = cc
    never false p q = cc
not-corner corners states points k (inr ne) h = passes (is_at_corner (point_at points k)) ne
  where
    passes : (b : Bool) → (b ≡ true → ⊥) → not b ≡ true
    passes true n = absurd (n refl)
    passes false n = refl

pairs-few : (g : GameData) (points : List PointData) (candidates : List ℕ) (weights : List ℤ) (ends : AreUpperEnds g points candidates)
    → length (filter (λ want. not (is_corner ends.corners g.shape.states want.0)) (pairs_of candidates weights)) ≤ 8
pairs-few g points candidates weights ends =
    let corner : ℕ → Bool = λ k. not (is_corner ends.corners g.shape.states k) in
    let other : ℕ → Bool = λ k. not (is_at_corner (point_at points k)) in
    let numbers : List ℕ = below (length candidates) in
    let first : length (filter (λ want. corner want.0) (pairs_of candidates weights)) ≡ length (filter (λ i. corner (slice_index candidates i)) numbers) =
    filter-map (λ want. corner want.0) (pair_at candidates weights) numbers in
    let more : length (filter (λ i. corner (slice_index candidates i)) numbers) ≤ length (filter (λ i. other (slice_index candidates i)) numbers) =
    passing-more (λ i. corner (slice_index candidates i)) (λ i. other (slice_index candidates i)) numbers
    (below-each (λ i. corner (slice_index candidates i) ≡ true → other (slice_index candidates i) ≡ true) (length candidates)
    (λ i l. not-corner ends.corners g.shape.states points (slice_index candidates i)
    (each-at (λ k. IsOneCorner ends.corners g.shape.states k ⊎ (is_at_corner (point_at points k) ≡ true → ⊥)) 0 candidates i ends.others l))) in
    let last : length (filter (λ i. other (slice_index candidates i)) numbers) ≡ length (filter other candidates) =
    sym (filter-map other (λ i. slice_index candidates i) numbers) ∙ ap (λ (ks : List ℕ). length (filter other ks)) (by-place candidates) in
    omega (arith, first, more, last, ends.few)

pairs-rising : (candidates : List ℕ) (weights : List ℤ) (g : GameData) (points : List PointData) → AreUpperEnds g points candidates → AreRisingPairs (pairs_of candidates weights)
pairs-rising candidates weights g points ends = rising-range (pair_at candidates weights) 0 (length candidates) (λ i j l k. rising-at candidates ends.named.rising i j l (omega arith))

-- so there are at most 24
pub few-candidates : (g : GameData) (points : List PointData) (candidates : List ℕ) → AreUpperEnds g points candidates → g.shape.states ≤ 16 → length candidates ≤ 24
few-candidates g points candidates ends few =
    let pairs : List (ℕ × ℤ) = pairs_of candidates [] in
    let long : length pairs ≡ length candidates = length-map-range_with_len (pair_at candidates []) 0 (length candidates) in
    omega (arith, long, few-items ends.corners g.shape.states pairs (pairs-rising candidates [] g points ends) (pairs-few g points candidates [] ends) few)

-- at least one, since there is a state
some-candidate : (g : GameData) (points : List PointData) (candidates : List ℕ) → AreUpperEnds g points candidates → 0 < g.shape.states → 1 ≤ length candidates
some-candidate g points candidates ends some = let found = ends.each 0 some in omega (arith, found.1)

pub wanted-right : (g : GameData) (points : List PointData) (candidates : List ℕ) (weights : List ℤ) → AreUpperEnds g points candidates → 0 < g.shape.states
    → length weights ≡ length candidates → AllByRecursion (IsWithin (pos 0) (pos weight_end)) weights → IsWanted points g.shape.states (pairs_of candidates weights)
wanted-right g points candidates weights ends some long within = record {
  some = omega (arith, length-map-range_with_len (pair_at candidates weights) 0 (length candidates), some-candidate g points candidates ends some);
  rising = pairs-rising candidates weights g points ends;
  inside = map-each (λ want. want.0 < length points) (pair_at candidates weights) 0 (length candidates) (λ i l. each-at (λ k. k < length points) 0 candidates i ends.named.inside (omega arith));
  weights = map-each (λ want. IsWithin (pos 0) (pos weight_end) want.1) (pair_at candidates weights) 0 (length candidates)
      (λ i l. each-at (IsWithin (pos 0) (pos weight_end)) (pos 0) weights i within (omega arith));
  corners = ends.corners;
  current = ends.current;
  few = pairs-few g points candidates weights ends;
}

-- ---- the advice
abbrev WantedFits : GameData → List PointData → ℕ → ℕ → List Branch → Type 0
WantedFits g points a o wanted = AllBefore wanted × AllByRecursion (IsAt a o) wanted × IsWanted points g.shape.states (map (λ b. (b.member, b.weight)) wanted)

wanted-fitting : (g : GameData) (points : List PointData) (candidates : List ℕ) (d : Dictionary) (a o : ℕ) (wanted : List Branch)
    → AreUpperEnds g points candidates → 0 < g.shape.states → AreWantedAfter g candidates d a o wanted → WantedFits g points a o wanted
wanted-fitting g points candidates d a o wanted ends some read =
    subst (WantedFits g points a o) (sym read.same) (
      listed-before a o candidates read.weights ends.named.rising,
      listed-at a o candidates read.weights,
      subst (IsWanted points g.shape.states) (sym (pairs-of-listed a o candidates read.weights))
          (wanted-right g points candidates read.weights ends some (prices-long d _ (length candidates) read.weights read.read)
          (subst (AllByRecursion (IsWithin (pos 0) (pos weight_end))) (sym read.read.same) (left-within read.read.prices read.read.bits read.read.least.fits))),
    )

pub upper-fits : (g : GameData) (points : List PointData) (candidates : List ℕ) (d : Dictionary) (advice : UpperAdviceData) → IsReadable d
    → 0 < g.shape.states → 0 < g.shape.own_actions → 0 < g.shape.informed_actions → g.shape.states + g.shape.own_actions ≤ length d.out
    → AreUpperEnds g points candidates
    → IsOwnRead g d advice.own → AreWantedRead g candidates d advice.wanted → AreInformedRead g d advice.informed → UpperFits g points advice
upper-fits g points candidates d advice readable some some_own some_informed inside ends own wanted informed =
    let fitting = λ (a o : ℕ) (la : a < g.shape.own_actions) (lo : o < g.shape.observations).
    wanted-fitting g points candidates d a o (wanted.after a o) ends some (wanted.read a o la lo) in
    record {
      informed = informed-fit g d advice.informed some_informed informed;
      own = own-mix g d advice.own readable inside some_own own;
      rising = subst AreRising (sym wanted.same) (over-pairs-rising g wanted.after (record { before = λ a o la lo. (fitting a o la lo).0; places = λ a o la lo. (fitting a o la lo).1 }));
      placed = subst (AllByRecursion (IsPlaced g)) (sym wanted.same)
          (over-pairs-each (IsPlaced g) g wanted.after
          (λ a o la lo. each-weaker (IsAt a o) (IsPlaced g) (λ b h. (subst (λ (k : ℕ). k < g.shape.own_actions) (sym h.0) la, subst (λ (k : ℕ). k < g.shape.observations) (sym h.1) lo)) (wanted.after a o) (fitting a o la lo).1));
      wanted = λ a o la lo.
          subst (λ (branches : List Branch). IsWanted points g.shape.states (wanted_at branches a o)) (sym wanted.same)
          (subst (λ (branches : List Branch). IsWanted points g.shape.states (map (λ b. (b.member, b.weight)) branches))
          (sym (branches-of-pair g wanted.after a o la lo (λ c p lc lp. (fitting c p lc lp).1))) (fitting a o la lo).2);
    }
