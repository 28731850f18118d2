-- The current corners and at most 8 points at no corner serve an upper program; a best point is at no corner.
use Rattle.std.proofs.Common.{◌≡◌, ℕ, zero, suc, ◌+◌, ◌^◌, ◌<◌, ◌≤◌, ◌⊎◌, inl, inr, Bool, true, false, cond, not, ◌==◌, ◌||◌, Option, Some, None, List, [], ◌∷◌, ◌++◌, filter, filter_map, get_or, length, map, reverse, take, refl, ap, arith, sym, subst, ◌∙◌}
use Rattle.std.specs.Prelude.{ℤ, pos, ◌+ℤ◌, ◌*ℤ◌, ◌-ℤ◌, ◌≤ℤ◌, ◌<ℤ◌, IsTrue, unsigned_abs}
use Rattle.std.specs.List.{AllByRecursion, range_with_len}
use Rattle.std.proofs.lemmas.Bool.{false≢true}
use Rattle.std.proofs.lemmas.Bool.Decides.{eqb_tells}
use Rattle.std.proofs.lemmas.Int.{by_lt_z, ints}
use Rattle.std.proofs.lemmas.List.{length-take}
use Rattle.std.proofs.lemmas.List.FromFn.{get_or-map-range_with_len}
use Rattle.scaled_num.specs.Share.{at}
use Rattle.scaled_num.specs.Sums.{below, sum_of}
use Rattle.scaled_num.proofs.Floors.{product_none_negative}
use Rattle.scaled_num.proofs.Sums.{below-each, each-append, each-at, each-map, total-below, total-single}
use Rattle.belief.specs.Beliefs.{corner_of}
use Rattle.belief.proofs.Landings.{each-filter}
use Rattle.game_model.specs.Game.{GameData, IsBelief, IsWithin}
use Rattle.point_set.specs.Best.{IsBest, IsBestPoint}
use Rattle.point_set.specs.Bounds.{cost_at, gap_bound}
use Rattle.point_set.specs.Corners.{IsAtCorner, IsCurrentCorner, point_at}
use Rattle.point_set.specs.Kept.{IsSure}
use Rattle.point_set.specs.Members.{most_points}
use Rattle.point_set.specs.Points.{PointData, PointFits, no_point}
use Rattle.point_set.specs.Sawtooth.{AreCorners, AreMeasured, IsBound, base_cost}
use Rattle.point_set.proofs.CornerNumbers.{is-sure, sure-sum}
use Rattle.point_set.proofs.LeastBounds.{base-is, gap-cost}
use Rattle.point_set.proofs.PointBounds.{times-low}
use Rattle.point_set.proofs.Rests.{corner-at, corner-other}
use Rattle.stage_game.specs.Asked.{AreUpperEnds, IsOneCorner}
use Rattle.stage_game.specs.Chosen.{different, is_among, risen}
use Rattle.stage_game.specs.UpperCandidates.{AreBest, AreCornersAnd, is_at_corner, most_others, others_downwards}
use Rattle.stage_game.proofs.FewPoints.{among-corners, apart-filter, few-apart}
use Rattle.stage_game.proofs.LowerEnds.{filter-passes, named-risen, risen-apart}

-- ---- what is among two lists
among-both : (k : ℕ) (xs ys : List ℕ) → is_among k (xs ++ ys) ≡ true → (is_among k xs ≡ true) ⊎ (is_among k ys ≡ true)
among-both k [] ys e = inr e
among-both k (x ∷ xs) ys e = by (x == k) e (among-both k xs ys)
  where
    by : (b : Bool) → (b || is_among k (xs ++ ys)) ≡ true → (is_among k (xs ++ ys) ≡ true → (is_among k xs ≡ true) ⊎ (is_among k ys ≡ true)) → ((b || is_among k xs) ≡ true) ⊎ (is_among k ys ≡ true)
    by true e f = inl refl
    by false e f = f e

among-left : (k : ℕ) (xs ys : List ℕ) → is_among k xs ≡ true → is_among k (xs ++ ys) ≡ true
among-left k [] ys e = absurd (false≢true e)
among-left k (x ∷ xs) ys e = by (x == k) e (among-left k xs ys)
  where
    by : (b : Bool) → (b || is_among k xs) ≡ true → (is_among k xs ≡ true → is_among k (xs ++ ys) ≡ true) → (b || is_among k (xs ++ ys)) ≡ true
    by true e f = refl
    by false e f = f e

-- what is so of each of a list is so of what is among it
among-each : (P : ℕ → Type 0) (k : ℕ) (xs : List ℕ) → AllByRecursion P xs → is_among k xs ≡ true → P k
among-each P k [] h e = absurd (false≢true e)
among-each P k (x ∷ xs) h e = elim (eqb_tells x k) [
  | inl t ↦ subst P t.1 h.0
  | inr t ↦ among-each P k xs h.1 (sym (ap (λ (b : Bool). b || is_among k xs) t.0) ∙ e)
]

each-take : (P : ℕ → Type 0) (n : ℕ) (xs : List ℕ) → AllByRecursion P xs → AllByRecursion P (take n xs)
each-take P zero xs h = tt
each-take P (suc n) [] h = tt
each-take P (suc n) (x ∷ xs) h = (h.0, each-take P n xs h.1)

each-different : (P : ℕ → Type 0) (xs : List ℕ) → AllByRecursion P xs → AllByRecursion P (different xs)
each-different P [] h = tt
each-different P (x ∷ xs) h = (h.0, each-filter P (λ y. not (y == x)) (different xs) (each-different P xs h.1))

-- ---- where a number that passes stands
record Place (k : ℕ) (xs : List ℕ) : Type 0 where
  i : ℕ
  inside : i < length xs
  is : get_or xs i 0 ≡ k

place-passes : (q : ℕ → Bool) (k : ℕ) → q k ≡ true → (a n : ℕ) → a ≤ k → k < a + n → Place k (filter q (range_with_len a n))
place-passes q k e a zero l m = absurd (omega arith)
place-passes q k e a (suc n) l m = elim (eqb_tells k a) [
  | inl h ↦ first (q a) (ap q (sym h.1) ∙ e) h.1
  | inr h ↦ rest (q a) (place-passes q k e (a + 1) n (omega (arith, h.1)) (omega arith))
]
  where
    first : (b : Bool) → b ≡ true → k ≡ a → Place k (cond b (a ∷ filter q (range_with_len (a + 1) n)) (filter q (range_with_len (a + 1) n)))
    first true e same = record { i = 0; inside = omega arith; is = sym same }
    first false e same = absurd (false≢true e)

    rest : (b : Bool) → Place k (filter q (range_with_len (a + 1) n)) → Place k (cond b (a ∷ filter q (range_with_len (a + 1) n)) (filter q (range_with_len (a + 1) n)))
    rest true p = record { i = suc p.i; inside = (let l = p.inside in omega arith); is = p.is }
    rest false p = p

-- ---- points at no corner
abbrev pub IsElsewhere : List PointData → ℕ → Type 0
IsElsewhere points k = is_at_corner (point_at points k) ≡ false

others-elsewhere : (points : List PointData) → AllByRecursion (IsElsewhere points) (others_downwards points)
others-elsewhere points = each (reverse (below (length points)))
  where
    one : (k : ℕ) (rest : List ℕ) → AllByRecursion (IsElsewhere points) rest → (b : Bool) → is_at_corner (point_at points k) ≡ b → AllByRecursion (IsElsewhere points) (cond (not b) (k ∷ rest) rest)
    one k rest h true e = h
    one k rest h false e = (e, h)

    each : (xs : List ℕ) → AllByRecursion (IsElsewhere points) (filter (λ k. not (is_at_corner (point_at points k))) xs)
    each [] = tt
    each (x ∷ xs) = one x (filter (λ k. not (is_at_corner (point_at points k))) xs) (each xs) (is_at_corner (point_at points x)) refl

corner-total : (points : List PointData) (s k : ℕ) → IsCurrentCorner points s k → is_at_corner (point_at points k) ≡ true
corner-total points s k h =
    ap (λ (z : ℤ). unsigned_abs z == 1) (sure-sum (point_at points k).belief s (record { state = h.corner.state; parts = h.corner.belief }))

-- of a list of corners and others, those that are at no corner are among the others
elsewhere-other : (points : List PointData) (sure others : List ℕ) → AllByRecursion (λ k. is_at_corner (point_at points k) ≡ true) sure →
    (xs : List ℕ) → AllByRecursion (λ k. is_among k (sure ++ others) ≡ true) xs →
    AllByRecursion (λ k. is_among k others ≡ true) (filter (λ k. not (is_at_corner (point_at points k))) xs)
elsewhere-other points sure others corners [] h = tt
elsewhere-other points sure others corners (x ∷ xs) h = one (elsewhere-other points sure others corners xs h.1) (is_at_corner (point_at points x)) refl
  where
    other : is_at_corner (point_at points x) ≡ false → (is_among x sure ≡ true) ⊎ (is_among x others ≡ true) → is_among x others ≡ true
    other e (inl m) = absurd (false≢true (sym e ∙ among-each (λ k. is_at_corner (point_at points k) ≡ true) x sure corners m))
    other e (inr m) = m

    one : AllByRecursion (λ k. is_among k others ≡ true) (filter (λ k. not (is_at_corner (point_at points k))) xs) → (b : Bool) → is_at_corner (point_at points x) ≡ b →
        AllByRecursion (λ k. is_among k others ≡ true) (cond (not b) (x ∷ filter (λ k. not (is_at_corner (point_at points k))) xs) (filter (λ k. not (is_at_corner (point_at points k))) xs))
    one rest true e = rest
    one rest false e = (other e (among-both x sure others h.0), rest)

-- each of a list of corners and others is one of them
corner-or-other : (points : List PointData) (corners : ℕ → ℕ) (states : ℕ) (others : List ℕ) → AllByRecursion (IsElsewhere points) others →
    (xs : List ℕ) → AllByRecursion (λ k. is_among k (map corners (below states) ++ others) ≡ true) xs →
    AllByRecursion (λ k. IsOneCorner corners states k ⊎ (IsTrue (is_at_corner (point_at points k)) → ⊥)) xs
corner-or-other points corners states others elsewhere [] h = tt
corner-or-other points corners states others elsewhere (x ∷ xs) h =
    (one (among-both x (map corners (below states)) others h.0), corner-or-other points corners states others elsewhere xs h.1)
  where
    one : (is_among x (map corners (below states)) ≡ true) ⊎ (is_among x others ≡ true) → IsOneCorner corners states x ⊎ (IsTrue (is_at_corner (point_at points x)) → ⊥)
    one (inl m) =
        inl (among-each (IsOneCorner corners states) x (map corners (below states))
        (each-map (IsOneCorner corners states) corners (below states) (below-each (λ s. IsOneCorner corners states (corners s)) states (λ s l. (s, l, refl)))) m)
    one (inr m) = inr (λ t. false≢true (sym (among-each (IsElsewhere points) x others elsewhere m) ∙ t))

-- the current corners, and others at no corner, serve an upper program
pub upper-serves : (g : GameData) (points : List PointData) (preferred candidates : List ℕ) → AllByRecursion (IsElsewhere points) preferred →
    AreCornersAnd g points preferred candidates → AreUpperEnds g points candidates
upper-serves g points preferred candidates elsewhere h =
    let states : ℕ = g.shape.states in
    let sure : List ℕ = map h.corners (below states) in
    let others : List ℕ = take most_others (different (preferred ++ others_downwards points)) in
    let numbers : List ℕ = sure ++ others in
    let chosen : List ℕ = risen (length points) numbers in
    let q : ℕ → Bool = λ k. not (is_at_corner (point_at points k)) in
    let all_others : AllByRecursion (IsElsewhere points) others =
    each-take (IsElsewhere points) most_others (different (preferred ++ others_downwards points))
    (each-different (IsElsewhere points) (preferred ++ others_downwards points) (each-append (IsElsewhere points) preferred (others_downwards points) elsewhere (others-elsewhere points))) in
    let all_sure : AllByRecursion (λ k. is_at_corner (point_at points k) ≡ true) sure =
    each-map (λ k. is_at_corner (point_at points k) ≡ true) h.corners (below states)
    (below-each (λ s. is_at_corner (point_at points (h.corners s)) ≡ true) states (λ s l. corner-total points s (h.corners s) (h.current s l))) in
    let passed : AllByRecursion (λ k. is_among k numbers ≡ true) chosen = filter-passes (λ k. is_among k numbers) (below (length points)) in
    subst (AreUpperEnds g points) (sym h.same) (record {
      named = named-risen (length points) numbers;
      corners = h.corners;
      current = h.current;
      each = λ s l.
          let p : Place (h.corners s) chosen =
          place-passes (λ k. is_among k numbers) (h.corners s) (among-left (h.corners s) sure others (among-corners h.corners states (h.corners s) (s, l, refl))) 0 (length points) (omega arith)
          (let inside = (h.current s l).inside in omega arith) in
          (p.i, p.inside, p.is);
      others = corner-or-other points h.corners states others all_others chosen passed;
      few = omega (arith, few-apart (filter q chosen) others (apart-filter q chosen (risen-apart (length points) numbers)) (elsewhere-other points sure others all_sure chosen passed), length-take most_others (different (preferred ++ others_downwards points)));
    })

-- ---- a best point is at no corner
pub some-part : (xs : List ℤ) → AllByRecursion (IsWithin (pos 0) (pos (2 ^ 20))) xs → sum_of xs ≡ pos 1 → (s : ℕ) × (s < length xs) × (pos 1 ≤ℤ at xs s)
some-part [] h e = absurd (omega (arith, ints))
some-part (x ∷ xs) h e = by (λ z. some-part xs h.1 (omega (arith, ints, z))) (side x h.0.0)
  where
    side : (x : ℤ) → pos 0 ≤ℤ x → (x ≡ pos 0) ⊎ (pos 1 ≤ℤ x)
    side x l = by_lt_z x (pos 1) (λ less. inl (omega (arith, ints))) (λ most. inr most)

    by : (x ≡ pos 0 → (s : ℕ) × (s < length xs) × (pos 1 ≤ℤ at xs s)) → (x ≡ pos 0) ⊎ (pos 1 ≤ℤ x) → (s : ℕ) × (s < length (x ∷ xs)) × (pos 1 ≤ℤ at (x ∷ xs) s)
    by rest (inl z) = let r = rest z in (suc r.0, (let l = r.1 in omega arith), r.2)
    by rest (inr l) = (0, omega arith, l)

at-corner-of : (n j s : ℕ) → j < n → s < n → at (corner_of n j) s ≡ pos (cond (s == j) 1 0)
at-corner-of n j s lj ls = elim (eqb_tells s j) [
  | inl e ↦ ap (at (corner_of n j)) e.1 ∙ corner-at n j lj ∙ sym (ap (λ (b : Bool). pos (cond b 1 0)) e.0)
  | inr e ↦ corner-other n j s ls e.1 ∙ sym (ap (λ (b : Bool). pos (cond b 1 0)) e.0)
]

corner-cost : (belief values : List ℤ) (j : ℕ) → j < length belief → belief ≡ corner_of (length belief) j → cost_at belief values ≡ at values j
corner-cost belief values j l e =
    total-below (length belief) (λ s. at belief s *ℤ at values s) (λ s. pos (cond (s == j) 1 0) *ℤ at values s)
    (λ s ls. ap (λ (z : ℤ). z *ℤ at values s) (ap (λ (b : List ℤ). at b s) e ∙ at-corner-of (length belief) j s l ls))
    ∙ total-single (λ s. at values s) j (length belief) l

-- at a corner a point's bound is no less than what the mass costs at the corners alone
corner-bound : (points : List PointData) (mass : List ℤ) (corners : ℕ → ℕ) (k s : ℕ) (bound : ℤ) → AllByRecursion (λ x. pos 0 ≤ℤ x) mass → AreCorners points (length mass) corners →
    length (point_at points k).belief ≡ length mass → IsAtCorner s (point_at points k) → IsBound points corners mass k bound → base_cost points corners mass ≤ℤ bound
corner-bound points mass corners k s bound low current long there b =
    let n : ℕ = length mass in
    let point : PointData = point_at points k in
    let values : List ℤ = map (λ s. (point_at points (corners s)).value) (below n) in
    let is : (s : ℕ) → s < n → at values s ≡ (point_at points (corners s)).value = λ s l. get_or-map-range_with_len (λ s. (point_at points (corners s)).value) 0 n s s (pos 0) l (omega arith) in
    let inside : s < n = subst (λ (m : ℕ). s < m) long there.state in
    let cost : cost_at point.belief values ≡ at values s = corner-cost point.belief values s there.state there.belief in
    let least : (point_at points (corners s)).value ≤ℤ point.value = (current s inside).least k b.inside there in
    let times : ℤ = b.times in
    let gap : ℤ = point.value -ℤ cost_at point.belief values in
    let some : pos 0 ≤ℤ times = times-low mass point.belief times low b.most in
    let up : pos 0 ≤ℤ gap = subst (λ (z : ℤ). pos 0 ≤ℤ (point.value -ℤ z)) (sym (cost ∙ is s inside)) (above (point_at points (corners s)).value point.value least) in
    let same : gap_bound (cost_at mass values) gap times ≡ bound = gap-cost points mass values corners point gap (cost_at mass values) times is long refl refl ∙ sym b.cost in
    subst (λ (z : ℤ). z ≤ℤ bound) (base-is points mass values corners is) (subst (λ (z : ℤ). cost_at mass values ≤ℤ z) same (more (cost_at mass values) (times *ℤ gap) (product_none_negative times gap some up)))
  where
    above : (x y : ℤ) → x ≤ℤ y → pos 0 ≤ℤ (y -ℤ x)
    above x y l = omega (arith, ints)

    more : (x y : ℤ) → pos 0 ≤ℤ y → x ≤ℤ (x +ℤ y)
    more x y l = omega (arith, ints)

total-one : (z : ℤ) → pos 1 ≤ℤ z → (unsigned_abs z == 1) ≡ true → z ≡ pos 1
total-one z l e = by (eqb_tells (unsigned_abs z) 1)
  where
    by : (((unsigned_abs z == 1) ≡ true) × (unsigned_abs z ≡ 1)) ⊎ (((unsigned_abs z == 1) ≡ false) × (unsigned_abs z ≡ 1 → ⊥)) → z ≡ pos 1
    by (inl h) = let is = h.1 in omega (arith, ints)
    by (inr h) = absurd (false≢true (sym h.0 ∙ e))

-- a point whose belief has not the total 1 is at no corner
pub elsewhere-one : (points : List PointData) (k : ℕ) (belief : List ℤ) → (point_at points k).belief ≡ belief → pos 1 ≤ℤ sum_of belief → (sum_of belief ≡ pos 1 → ⊥) → IsElsewhere points k
elsewhere-one points k belief e l n = by (is_at_corner (point_at points k)) refl
  where
    by : (b : Bool) → is_at_corner (point_at points k) ≡ b → b ≡ false
    by false q = refl
    by true q = absurd (n (total-one (sum_of belief) l (ap (λ (xs : List ℤ). unsigned_abs (sum_of xs) == 1) (sym e) ∙ q)))

best-elsewhere : (points : List PointData) (mass : List ℤ) (m : AreMeasured points mass) (k : ℕ) → IsBestPoint points mass k → IsElsewhere points k
best-elsewhere points mass m k h = by (is_at_corner (point_at points k)) refl
  where
    fits : PointFits m.game most_points (point_at points k)
    fits = each-at (PointFits m.game most_points) no_point points k m.fit h.has.inside

    never : (x y : ℤ) → x <ℤ y → y ≤ℤ x → ⊥
    never x y l m = omega (arith, ints)

    by : (b : Bool) → is_at_corner (point_at points k) ≡ b → b ≡ false
    by false e = refl
    by true e =
        let belief : List ℤ = (point_at points k).belief in
        let long : length belief ≡ length mass = fits.belief.long ∙ sym m.right.long in
        let sum : sum_of belief ≡ pos 1 = total-one (sum_of belief) fits.belief.sums.0 e in
        let place : (s : ℕ) × (s < length belief) × (pos 1 ≤ℤ at belief s) = some-part belief fits.belief.each sum in
        let sure : IsSure belief place.0 = is-sure belief place.0 (subst (λ (n : ℕ). IsBelief n belief) (sym fits.belief.long) fits.belief) place.1 place.2 sum in
        absurd (never h.bound (base_cost points h.corners mass) h.below
        (corner-bound points mass h.corners k place.0 h.bound m.right.each h.current long (record { state = sure.state; belief = sure.parts }) h.has))

-- best points at masses are at no corner
pub answers-elsewhere : (points : List PointData) (ms : List (List ℤ)) (answers : List (Option ℕ)) → AllByRecursion (AreMeasured points) ms → AreBest points ms answers →
    AllByRecursion (IsElsewhere points) (filter_map (λ answer. answer) answers)
answers-elsewhere points [] [] m h = tt
answers-elsewhere points [] (x ∷ answers) m h = absurd (let e = h.count in omega arith)
answers-elsewhere points (mass ∷ ms) [] m h = absurd (let e = h.count in omega arith)
answers-elsewhere points (mass ∷ ms) (answer ∷ answers) m h =
    one (answers-elsewhere points ms answers m.1 (record { count = (let e = h.count in omega arith); each = λ i l. h.each (suc i) (omega arith) })) answer (h.each 0 (omega arith))
  where
    one : AllByRecursion (IsElsewhere points) (filter_map (λ answer. answer) answers) → (x : Option ℕ) → IsBest points mass x → AllByRecursion (IsElsewhere points) (filter_map (λ answer. answer) (x ∷ answers))
    one rest None b = rest
    one rest (Some k) b = (best-elsewhere points mass m.0 k b, rest)
