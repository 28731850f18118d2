-- The landings of drawn pairs, place by place: the pair of an observation o and a next state t has the place o * S + t.
use Rattle.std.proofs.Common.{◌≡◌, ℕ, zero, suc, ◌+◌, ◌-◌, ◌*◌, ◌/◌, ◌%◌, ◌<◌, ◌≤◌, ◌⊎◌, inl, inr, List, [], ◌∷◌, ◌++◌, length, Bool, cond, ◌&&◌, ◌==◌, refl, sym, ap, subst, ◌∙◌, arith, append_assoc, append-nil}
use Rattle.std.specs.Prelude.{ℤ, pos, ◌+ℤ◌, ◌≤ℤ◌, count_by, flat_map, ltb, if◌then◌else◌}
use Rattle.std.specs.List.{AllByRecursion, range_with_len}
use Rattle.std.proofs.lemmas.Int.{ints}
use Rattle.std.proofs.lemmas.Nat.{div-add-mod', div-mul-add, div_below, mod-mul-add, mod_below, mul-add-lt, same_from_place}
use Rattle.std.proofs.lemmas.Bool.{cases_order}
use Rattle.std.proofs.lemmas.Bool.Decides.{eqb_tells, nat_tests}
use Rattle.std.proofs.Math.Nat.{mul-le-mul_right}
use Rattle.std.proofs.lemmas.List.Sums.{sum_by-cons, count_by-le-length}
use Rattle.std.proofs.lemmas.Grind.{flat_map-append}
use Rattle.scaled_num.specs.Sums.{below}
use Rattle.scaled_num.proofs.Sums.{below-each, each-at, each-flat_map, total-append}
use Rattle.game_model.specs.declared.parts.Shape.{Shape}
use Rattle.game_model.specs.declared.parts.Landing.{Landing}
use Rattle.game_model.specs.Game.{IsBefore, IsRow, IsRowFront, row_sum}
use Rattle.game_model.specs.Build.{IsNext, landing_of}
use Rattle.game_model.proofs.Front.{row-landing}
use Rattle.game_model.proofs.Pay.{each-from}
use Rattle.game_gen.specs.Rows.{ArePairs, Serves, landing_if_drawn, row_of, times}

-- the numbers below n + 1 end with n
range-more : (a n : ℕ) → range_with_len a (n + 1) ≡ range_with_len a n ++ (a + n) ∷ []
range-more a zero = let e : a + 0 ≡ a = omega arith in rw e refl
range-more a (suc n) =
    let e : suc n + 1 ≡ suc (n + 1) = omega arith in
    let f : a + 1 + n ≡ a + suc n = omega arith in
    ap (range_with_len a) e ∙ ap (λ (l : List ℕ). a ∷ l) (range-more (a + 1) n) ∙ ap (λ (k : ℕ). a ∷ (range_with_len (a + 1) n ++ k ∷ [])) f

pub below-more : (n : ℕ) → below (n + 1) ≡ below n ++ n ∷ []
below-more n = let e : 0 + n ≡ n = omega arith in range-more 0 n ∙ ap (λ (k : ℕ). below n ++ k ∷ []) e

pieces-more : {X : Type 0} (f : ℕ → List X) (n : ℕ) → flat_map f (below (n + 1)) ≡ flat_map f (below n) ++ f n
pieces-more {X} f n =
    ap (λ l. flat_map f l) (below-more n)
    ∙ flat_map-append f (below n) (n ∷ [])
    ∙ ap (λ (l : List X). flat_map f (below n) ++ l) (append-nil (f n))

pieces-suc : {X : Type 0} (f : ℕ → List X) (n : ℕ) → flat_map f (below (suc n)) ≡ flat_map f (below n) ++ f n
pieces-suc f n = let e : suc n ≡ n + 1 = omega arith in ap (λ (k : ℕ). flat_map f (below k)) e ∙ pieces-more f n

-- places in order are pairs in order
module _ {X : Type 0} (f : ℕ → ℕ → List X) (states : ℕ) where
  abbrev piece_at : ℕ → List X
  piece_at place = f (place / states) (place % states)

  row_places : (o n : ℕ) → n ≤ states → flat_map piece_at (below (o * states + n)) ≡ flat_map piece_at (below (o * states)) ++ flat_map (f o) (below n)
  row_places o zero le =
      let e : o * states + zero ≡ o * states = omega arith in
      ap (λ (k : ℕ). flat_map piece_at (below k)) e ∙ sym (append-nil (flat_map piece_at (below (o * states))))
  row_places o (suc n) le =
      let before = flat_map piece_at (below (o * states)) in
      let e : o * states + suc n ≡ suc (o * states + n) = omega arith in
      let here : piece_at (o * states + n) ≡ f o n =
      ap (λ (k : ℕ). f k ((o * states + n) % states)) (div-mul-add o states n (omega arith)) ∙ ap (λ (k : ℕ). f o k) (mod-mul-add o states n (omega arith)) in
      ap (λ (k : ℕ). flat_map piece_at (below k)) e
      ∙ pieces-suc piece_at (o * states + n)
      ∙ ap (λ (l : List X). l ++ piece_at (o * states + n)) (row_places o n (omega arith))
      ∙ ap (λ (l : List X). (before ++ flat_map (f o) (below n)) ++ l) here
      ∙ append_assoc before (flat_map (f o) (below n)) (f o n)
      ∙ ap (λ (l : List X). before ++ l) (sym (pieces-suc (f o) n))

  all_places : (n : ℕ) → flat_map (λ o. flat_map (f o) (below states)) (below n) ≡ flat_map piece_at (below (n * states))
  all_places zero =
      let e : 0 ≡ zero * states = omega arith in
      ap (λ (k : ℕ). flat_map piece_at (below k)) e
  all_places (suc n) =
      let e : n * states + states ≡ suc n * states = omega arith in
      pieces-suc (λ o. flat_map (f o) (below states)) n
      ∙ ap (λ (l : List X). l ++ flat_map (f n) (below states)) (all_places n)
      ∙ sym (row_places n states (omega arith))
      ∙ ap (λ (k : ℕ). flat_map piece_at (below k)) e

-- the landing of a pair that was drawn so often
abbrev pub landing_times : ℕ → ℕ → ℕ → List Landing
landing_times k o t = if k == 0 then [] else landing_of o t (pos (25 * k)) ∷ []

-- what holds of no landing where the pair was not drawn, and of its landing where it was
pub times-cases : (P : List Landing → Type 0) (k o t : ℕ) → (k ≡ 0 → P []) → (1 ≤ k → P (landing_of o t (pos (25 * k)) ∷ [])) → P (landing_times k o t)
times-cases P k o t none some =
    let at = λ (b : Bool). P (if b then [] else landing_of o t (pos (25 * k)) ∷ []) in
    elim (eqb_tells k 0) [ inl e ↦ subst at (sym e.0) (none e.1) | inr e ↦ subst at (sym e.0) (some (omega arith)) ]

-- the landing of a place, and the landings of the first n places
abbrev pub landing_at : ℕ → List (ℕ × ℕ) → ℕ → List Landing
landing_at states pairs place = landing_if_drawn pairs (place / states) (place % states)

unfoldable pub landings : ℕ → List (ℕ × ℕ) → ℕ → List Landing
landings states pairs n = flat_map (landing_at states pairs) (below n)

pub landings-zero : (states : ℕ) (pairs : List (ℕ × ℕ)) → landings states pairs 0 ≡ []
unfolding landings
landings-zero states pairs = refl

pub landings-more : (states : ℕ) (pairs : List (ℕ × ℕ)) (n : ℕ) → landings states pairs (n + 1) ≡ landings states pairs n ++ landing_at states pairs n
unfolding landings
landings-more states pairs n = pieces-more (landing_at states pairs) n

landings-suc : (states : ℕ) (pairs : List (ℕ × ℕ)) (n : ℕ) → landings states pairs (suc n) ≡ landings states pairs n ++ landing_at states pairs n
unfolding landings
landings-suc states pairs n = pieces-suc (landing_at states pairs) n

pub row_of-places : (shape : Shape) (pairs : List (ℕ × ℕ)) → row_of shape pairs ≡ landings shape.states pairs (shape.observations * shape.states)
unfolding row_of landings
row_of-places shape pairs = all_places (landing_if_drawn pairs) shape.states shape.observations

-- how many pairs have a place below n
abbrev pub pairs_before : ℕ → ℕ → List (ℕ × ℕ) → ℕ
pairs_before states n pairs = count_by (λ p. ltb (p.0 * states + p.1) n) pairs

one_place : (x n a b c d : ℕ) → (x ≡ n → (a ≡ c) × (b ≡ d)) → (a ≡ c → b ≡ d → x ≡ n) → cond (ltb x (n + 1)) 1 0 ≡ cond (ltb x n) 1 0 + cond ((a == c) && (b == d)) 1 0
one_place x n a b c d there back = grind (arith, nat_tests)

pair_counts : (states n o t : ℕ) → t < states → cond (ltb (o * states + t) (n + 1)) 1 0 ≡ cond (ltb (o * states + t) n) 1 0 + cond ((o == n / states) && (t == n % states)) 1 0
pair_counts states n o t lt =
    let whole = div-add-mod' n states in
    one_place (o * states + t) n o t (n / states) (n % states)
    (λ e. same_from_place o t (n / states) (n % states) states lt (mod_below n states (omega arith)) (e ∙ sym whole))
    (λ e f. ap (λ (k : ℕ). k * states + t) e ∙ ap (λ (k : ℕ). n / states * states + k) f ∙ whole)

pub pairs_before-more : (states n : ℕ) (pairs : List (ℕ × ℕ)) → AllByRecursion (λ p. p.1 < states) pairs →
    pairs_before states (n + 1) pairs ≡ pairs_before states n pairs + times pairs (n / states) (n % states)
pairs_before-more states n [] all = refl
pairs_before-more states n (p ∷ pairs) all =
    omega (
      arith,
      sum_by-cons (λ (q : ℕ × ℕ). cond (ltb (q.0 * states + q.1) (n + 1)) 1 0) p pairs,
      sum_by-cons (λ (q : ℕ × ℕ). cond (ltb (q.0 * states + q.1) n) 1 0) p pairs,
      sum_by-cons (λ (q : ℕ × ℕ). cond ((q.0 == n / states) && (q.1 == n % states)) 1 0) p pairs,
      pair_counts states n p.0 p.1 all.0,
      pairs_before-more states n pairs all.1,
    )

counted : (a b : ℕ) → a < b → ◌≡◌ {A = ℕ} (cond (ltb a b) 1 0) 1
counted a b lt = grind (arith, nat_tests)

not_counted : (a : ℕ) → ◌≡◌ {A = ℕ} (cond (ltb a 0) 1 0) 0
not_counted a = grind (arith, nat_tests)

pairs_before-zero : (states : ℕ) (pairs : List (ℕ × ℕ)) → pairs_before states 0 pairs ≡ 0
pairs_before-zero states [] = refl
pairs_before-zero states (p ∷ pairs) =
    omega (arith, sum_by-cons (λ (q : ℕ × ℕ). cond (ltb (q.0 * states + q.1) 0) 1 0) p pairs, not_counted (p.0 * states + p.1), pairs_before-zero states pairs)

-- all pairs have a place
pairs_before-all : (states observations : ℕ) (pairs : List (ℕ × ℕ)) → AllByRecursion (λ p. (p.0 < observations) × (p.1 < states)) pairs →
    pairs_before states (observations * states) pairs ≡ length pairs
pairs_before-all states observations [] all = refl
pairs_before-all states observations (p ∷ pairs) all =
    let place : p.0 * states + p.1 < observations * states = omega (arith, mul-add-lt p.0 states p.1 observations all.0.0 all.0.1) in
    omega (
      arith,
      sum_by-cons (λ (q : ℕ × ℕ). cond (ltb (q.0 * states + q.1) (observations * states)) 1 0) p pairs,
      counted (p.0 * states + p.1) (observations * states) place,
      pairs_before-all states observations pairs all.1,
    )

-- the landings of the first places weigh 25 for each of their pairs
weighs : (k o t : ℕ) → row_sum (landing_times k o t) ≡ pos (25 * k)
weighs k o t =
    times-cases (λ row. row_sum row ≡ pos (25 * k)) k o t
    (λ e. let none : 0 ≡ 25 * k = omega arith in ap pos none)
    (λ some. omega (arith, ints))

pub row_sum-landings : (states n : ℕ) (pairs : List (ℕ × ℕ)) → AllByRecursion (λ p. p.1 < states) pairs → row_sum (landings states pairs n) ≡ pos (25 * pairs_before states n pairs)
row_sum-landings states zero pairs all =
    let none : 0 ≡ 25 * pairs_before states 0 pairs = omega (arith, pairs_before-zero states pairs) in
    ap row_sum (landings-zero states pairs) ∙ ap pos none
row_sum-landings states (suc n) pairs all =
    let now = row_sum-landings states n pairs all in
    let piece = weighs (times pairs (n / states) (n % states)) (n / states) (n % states) in
    let more = pairs_before-more states n pairs all in
    let e : n + 1 ≡ suc n = omega arith in
    let sum : row_sum (landings states pairs n) +ℤ row_sum (landing_at states pairs n) ≡ pos (25 * pairs_before states (n + 1) pairs) = omega (arith, ints, now, piece, more) in
    ap row_sum (landings-suc states pairs n)
    ∙ total-append (λ (l : Landing). l.weight) (landings states pairs n) (landing_at states pairs n)
    ∙ sum
    ∙ ap (λ (m : ℕ). pos (25 * pairs_before states m pairs)) e

-- the landings of the first places come before the pair of the next
earlier : (states m n : ℕ) → 0 < states → m < n → (m / states < n / states) ⊎ ((m / states ≡ n / states) × (m % states < n % states))
earlier states m n some lt =
    let first = div-add-mod' m states in
    let second = div-add-mod' n states in
    elim (cases_order (m / states) (n / states)) [
      | inl e ↦ inr (e, omega (arith, first, second, ap (λ (k : ℕ). k * states) e))
      | inr x ↦ elim x [
        | inl less ↦ inl less
        | inr more ↦
            let far : suc (n / states) * states ≤ m / states * states = mul-le-mul_right states more in
            absurd (omega (arith, first, second, far, mod_below n states some))
      ]
    ]

each_times : (P : Landing → Type 0) (k o t : ℕ) → P (landing_of o t (pos (25 * k))) → AllByRecursion P (landing_times k o t)
each_times P k o t p = times-cases (AllByRecursion P) k o t (λ e. tt) (λ some. (p, tt))

each_earlier : (states n : ℕ) (pairs : List (ℕ × ℕ)) (w : ℤ) → 0 < states → AllByRecursion (λ l. IsBefore l (landing_of (n / states) (n % states) w)) (landings states pairs n)
unfolding landings
each_earlier states n pairs w some =
    let P = λ (l : Landing). IsBefore l (landing_of (n / states) (n % states) w) in
    each-flat_map P (landing_at states pairs) (below n)
    (below-each (λ m. AllByRecursion P (landing_at states pairs m)) n
    (λ m lt. each_times P (times pairs (m / states) (m % states)) (m / states) (m % states) (earlier states m n some lt)))

pub is_next : (states n : ℕ) (pairs : List (ℕ × ℕ)) (w : ℤ) → 0 < states → IsNext (landings states pairs n) (landing_of (n / states) (n % states) w)
is_next states n pairs w some = λ present.
    each-at (λ l. IsBefore l (landing_of (n / states) (n % states) w)) (landing_of 0 0 (pos 0)) (landings states pairs n) (length (landings states pairs n) - 1)
    (each_earlier states n pairs w some) (omega arith)

-- the landings of the first places are the front of a row
module _ (shape : Shape) (pairs : List (ℕ × ℕ)) (serves : Serves shape) (right : ArePairs shape pairs) where
  some_states : 0 < shape.states
  some_states = let least = serves.limits.states.0 in omega arith

  second_each : AllByRecursion (λ p. p.1 < shape.states) pairs
  second_each = each-from (λ p. (p.0 < shape.observations) × (p.1 < shape.states)) (λ p. p.1 < shape.states) pairs (λ p h. h.1) right.each

  pub has_left : (n : ℕ) → (row_sum (landings shape.states pairs n) +ℤ pos (25 * times pairs (n / shape.states) (n % shape.states))) ≤ℤ shape.row_total
  has_left n =
      let sum = row_sum-landings shape.states n pairs second_each in
      let more = pairs_before-more shape.states n pairs second_each in
      let few = count_by-le-length (λ (p : ℕ × ℕ). ltb (p.0 * shape.states + p.1) (n + 1)) pairs in
      omega (arith, ints, sum, more, few, right.four, serves.total)

  front-times : (row : List Landing) (k o t : ℕ) → IsRowFront shape row → o < shape.observations → t < shape.states → IsNext row (landing_of o t (pos (25 * k)))
      → (row_sum row +ℤ pos (25 * k)) ≤ℤ shape.row_total → pos (25 * k) ≤ℤ shape.row_total → IsRowFront shape (row ++ landing_times k o t)
  front-times row k o t front lo lt next left within =
      times-cases (λ more. IsRowFront shape (row ++ more)) k o t
      (λ e. subst (IsRowFront shape) (sym (append-nil row)) front)
      (λ some. row-landing shape row (landing_of o t (pos (25 * k))) front (record { seen = lo; to = lt; weight = (omega (arith, ints), within) }) next left)

  pub is_front : (n : ℕ) → n ≤ shape.observations * shape.states → IsRowFront shape (landings shape.states pairs n)
  is_front zero le =
      subst (IsRowFront shape) (sym (landings-zero shape.states pairs)) (record { rising = tt; each = tt; most = omega (arith, ints, serves.total) })
  is_front (suc n) le =
      let k = times pairs (n / shape.states) (n % shape.states) in
      let sum = row_sum-landings shape.states n pairs second_each in
      let left = has_left n in
      subst (IsRowFront shape) (sym (landings-suc shape.states pairs n))
      (front-times (landings shape.states pairs n) k (n / shape.states) (n % shape.states) (is_front n (omega arith))
      (div_below n shape.states shape.observations some_states (omega arith))
      (mod_below n shape.states some_states)
      (is_next shape.states n pairs (pos (25 * k)) some_states)
      left
      (omega (arith, ints, sum, left)))

  pub is_row : IsRow shape (row_of shape pairs)
  is_row =
      let n = shape.observations * shape.states in
      let front = is_front n (omega arith) in
      let sum = row_sum-landings shape.states n pairs second_each in
      let all = pairs_before-all shape.states shape.observations pairs right.each in
      subst (IsRow shape) (sym (row_of-places shape pairs))
      (record { rising = front.rising; each = front.each; sums = omega (arith, ints, sum, all, right.four, serves.total) })
