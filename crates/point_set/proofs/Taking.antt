-- What a belief takes off a mass, and the takes of several points in order.
use Rattle.std.proofs.Common.{◌≡◌, ℕ, zero, suc, ◌+◌, ◌*◌, ◌^◌, ◌<◌, ◌≤◌, cond, ◌==◌, List, [], ◌∷◌, ◌++◌, length, map, set, below_more, refl, ap, arith, sym, subst, ◌∙◌}
use Rattle.std.specs.Prelude.{ℤ, pos, negsuc, ◌+ℤ◌, ◌-ℤ◌, ◌*ℤ◌, ◌≤ℤ◌, ◌<ℤ◌, FitsSigned}
use Rattle.std.specs.Int.{w128}
use Rattle.std.proofs.lemmas.Nat.{mul-le}
use Rattle.std.specs.List.{AllByRecursion}
use Rattle.std.proofs.lemmas.Int.{ints, by_lt_z}
use Rattle.std.proofs.lemmas.List.{ext_get_or, get_or-set_other, get_or-set_same, length-set, map-append}
use Rattle.std.proofs.lemmas.List.FromFn.{get_or-map-range_with_len, length-map-range_with_len}
use Rattle.scaled_num.specs.Share.{at}
use Rattle.scaled_num.specs.Sums.{below, sum_of, total}
use Rattle.scaled_num.proofs.Floors.{All-from_recursion, NoneNegative, at_le_sum, cancel, product_le, product_none_negative, small_fits}
use Rattle.scaled_num.proofs.Products.{add-mulℤ, sums}
use Rattle.scaled_num.proofs.Sums.{each-at, each-map, total-append, total-below-le, total-places}
use Rattle.game_model.proofs.Pay.{each-from}
use Rattle.game_model.specs.Game.{IsBelief, IsWithin}
use Rattle.point_set.specs.Corners.{point_at}
use Rattle.point_set.specs.Points.{PointData}
use Rattle.point_set.specs.Sawtooth.{FitsTimes, IsMostTimes}
use Rattle.point_set.specs.Split.{AreTakes, Take, TakesMost, less_times, weight_of}
use Rattle.point_set.specs.Takes.{AreTaken, IsLesser}
use Rattle.point_set.proofs.Items.{at-least, has-weight, parts-none-negative}
use Rattle.scaled_num.proofs.Each.{each-by-place}

pub less-long : (mass belief : List ℤ) (times : ℤ) → length (less_times mass belief times) ≡ length mass
less-long mass belief times = length-map-range_with_len (λ s. at mass s -ℤ times *ℤ at belief s) 0 (length mass)

pub less-at : (mass belief : List ℤ) (times : ℤ) (s : ℕ) → s < length mass → at (less_times mass belief times) s ≡ at mass s -ℤ times *ℤ at belief s
less-at mass belief times s l = get_or-map-range_with_len (λ i. at mass i -ℤ times *ℤ at belief i) 0 (length mass) s s (pos 0) l (omega arith)

-- a list that has these numbers is the lesser mass
pub is-less : (mass belief rest : List ℤ) (times : ℤ) → length rest ≡ length mass → ((s : ℕ) → s < length mass → at rest s ≡ at mass s -ℤ times *ℤ at belief s) → rest ≡ less_times mass belief times
is-less mass belief rest times long each =
    ext_get_or (pos 0) rest (less_times mass belief times) (long ∙ sym (less-long mass belief times))
    (λ s l. let inside : s < length mass = omega arith in each s inside ∙ sym (less-at mass belief times s inside))

-- nothing is taken
pub less-none : (mass belief : List ℤ) → mass ≡ less_times mass belief (pos 0)
less-none mass belief = is-less mass belief mass (pos 0) refl (λ s l. zero_times (at mass s) (at belief s))
  where
    zero_times : (a b : ℤ) → a ≡ a -ℤ pos 0 *ℤ b
    zero_times a b = omega (arith, ints)

-- what fits leaves nothing negative, and no more than before
pub less-none-negative : (mass belief : List ℤ) (times : ℤ) → FitsTimes mass belief times → AllByRecursion (λ x. pos 0 ≤ℤ x) (less_times mass belief times)
less-none-negative mass belief times fits = each-by-place (λ x. pos 0 ≤ℤ x) (pos 0) (less_times mass belief times) (λ s l.
    let inside : s < length mass = omega (arith, less-long mass belief times) in
    subst (λ (z : ℤ). pos 0 ≤ℤ z) (sym (less-at mass belief times s inside)) (room (at mass s) (times *ℤ at belief s) (fits s inside)))
  where
    room : (a b : ℤ) → b ≤ℤ a → pos 0 ≤ℤ (a -ℤ b)
    room a b h = omega (arith, ints)

part-at : (belief : List ℤ) (states s : ℕ) → IsBelief states belief → s < states → pos 0 ≤ℤ at belief s
part-at belief states s h l = All-from_recursion (λ x. pos 0 ≤ℤ x) belief (parts-none-negative states belief h) s (pos 0) (subst (λ (n : ℕ). s < n) (sym h.long) l)

pub less-sum : (mass belief : List ℤ) (times : ℤ) → IsBelief (length mass) belief → pos 0 ≤ℤ times → (sum_of (less_times mass belief times)) ≤ℤ (sum_of mass)
less-sum mass belief times h low =
    let rest : List ℤ = less_times mass belief times in
    let upto : (total (λ s. at rest s) (below (length mass))) ≤ℤ (total (λ s. at mass s) (below (length mass))) =
    total-below-le (length mass) (λ s. at rest s) (λ s. at mass s) (λ s l.
    subst (λ (z : ℤ). z ≤ℤ at mass s) (sym (less-at mass belief times s l)) (lower (at mass s) (times *ℤ at belief s) (product_none_negative times (at belief s) low (part-at belief (length mass) s h l)))) in
    let left : total (λ s. at rest s) (below (length mass)) ≡ sum_of rest = ap (λ (n : ℕ). total (λ s. at rest s) (below n)) (sym (less-long mass belief times)) ∙ total-places (λ (x : ℤ). x) (pos 0) rest in
    joined _ _ _ _ left upto (total-places (λ (x : ℤ). x) (pos 0) mass)
  where
    lower : (a b : ℤ) → pos 0 ≤ℤ b → (a -ℤ b) ≤ℤ a
    lower a b p = omega (arith, ints)

    joined : (a b c d : ℤ) → a ≡ b → a ≤ℤ c → c ≡ d → b ≤ℤ d
    joined a b c d p q r = omega (arith, ints)

-- how often a belief fits
none-fits : (mass belief : List ℤ) → AllByRecursion (λ x. pos 0 ≤ℤ x) mass → FitsTimes mass belief (pos 0)
none-fits mass belief none s l = zero_times (at belief s) (at mass s) (All-from_recursion (λ x. pos 0 ≤ℤ x) mass none s (pos 0) l)
  where
    zero_times : (b a : ℤ) → pos 0 ≤ℤ a → (pos 0 *ℤ b) ≤ℤ a
    zero_times b a p = omega (arith, ints)

pub times-low : (mass belief : List ℤ) (times : ℤ) → AllByRecursion (λ x. pos 0 ≤ℤ x) mass → IsMostTimes mass belief times → pos 0 ≤ℤ times
times-low mass belief times none h = h.most (pos 0) (none-fits mass belief none)

pub times-most : (mass belief : List ℤ) (times : ℤ) → IsBelief (length mass) belief → AllByRecursion (λ x. pos 0 ≤ℤ x) mass → pos 0 ≤ℤ times → FitsTimes mass belief times → times ≤ℤ sum_of mass
times-most mass belief times h none low fits =
    let place = has-weight belief (parts-none-negative (length mass) belief h) h.sums.0 in
    let s : ℕ = place.0 in
    let here : s < length mass = subst (λ (n : ℕ). s < n) h.long place.1 in
    through times (times *ℤ at belief s) (at mass s) (sum_of mass) (at-least times (at belief s) low place.2) (fits s here) (at_le_sum mass s (All-from_recursion (λ x. pos 0 ≤ℤ x) mass none) here)
  where
    through : (a b c d : ℤ) → a ≤ℤ b → b ≤ℤ c → c ≤ℤ d → a ≤ℤ d
    through a b c d p q r = omega (arith, ints)

pub times-within : (mass belief : List ℤ) (times : ℤ) (most : ℕ) → IsBelief (length mass) belief → AllByRecursion (λ x. pos 0 ≤ℤ x) mass → sum_of mass ≤ℤ pos most → IsMostTimes mass belief times → IsWithin (pos 0) (pos most) times
times-within mass belief times most h none sum m =
    let low : pos 0 ≤ℤ times = times-low mass belief times none m in
    (low, through times (sum_of mass) (pos most) (times-most mass belief times h none low m.fits) sum)
  where
    through : (a b c : ℤ) → a ≤ℤ b → b ≤ℤ c → a ≤ℤ c
    through a b c p q = omega (arith, ints)

fewer-fit : (mass belief : List ℤ) (times few : ℤ) → IsBelief (length mass) belief → few ≤ℤ times → FitsTimes mass belief times → FitsTimes mass belief few
fewer-fit mass belief times few h l fits s m = through (few *ℤ at belief s) (times *ℤ at belief s) (at mass s) (product_le few times (at belief s) (part-at belief (length mass) s h m) l) (fits s m)
  where
    through : (a b c : ℤ) → a ≤ℤ b → b ≤ℤ c → a ≤ℤ c
    through a b c p q = omega (arith, ints)

-- the lesser of how often a belief fits and how often the share allows
pub takes-most : (mass belief : List ℤ) (share times few whole : ℤ) → IsBelief (length mass) belief → whole ≡ sum_of belief → IsMostTimes mass belief times → IsLesser times share whole few → TakesMost mass belief share few
takes-most mass belief share times few whole h e m l = record {
  allowed = subst (λ (z : ℤ). (few *ℤ z) ≤ℤ share) e l.allowed;
  fits = fewer-fit mass belief times few h l.upto m.fits;
  most = λ more allowed fits. l.most more (m.most more fits) (subst (λ (z : ℤ). (more *ℤ z) ≤ℤ share) (sym e) allowed);
}

-- a share below the total of the belief
no-more : (more share whole : ℤ) → pos 0 ≤ℤ share → share <ℤ whole → (more *ℤ whole) ≤ℤ share → more ≤ℤ pos 0
no-more (pos zero) share whole p l h = omega (arith, ints)
no-more (pos (suc n)) share (pos w) p l h = absurd (omega (arith, ints))
no-more (pos (suc n)) share (negsuc w) p l h = absurd (omega (arith, ints))
no-more (negsuc n) share whole p l h = omega (arith, ints)

pub takes-none : (mass belief : List ℤ) (share whole : ℤ) → AllByRecursion (λ x. pos 0 ≤ℤ x) mass → whole ≡ sum_of belief → pos 0 ≤ℤ share → share <ℤ whole → TakesMost mass belief share (pos 0)
takes-none mass belief share whole none e low less = record {
  allowed = zero_times (sum_of belief) share low;
  fits = none-fits mass belief none;
  most = λ more allowed fits. no-more more share whole low less (subst (λ (z : ℤ). (more *ℤ z) ≤ℤ share) (sym e) allowed);
}
  where
    zero_times : (b a : ℤ) → pos 0 ≤ℤ a → (pos 0 *ℤ b) ≤ℤ a
    zero_times b a p = omega (arith, ints)

-- the lesser of a number of times and a quotient
pub lesser-all : (times share whole : ℤ) → pos 0 ≤ℤ times → (times *ℤ whole) ≤ℤ share → IsLesser times share whole times
lesser-all times share whole low h = record { low = low; upto = same times; allowed = h; most = λ more l a. l }
  where
    same : (a : ℤ) → a ≤ℤ a
    same a = omega (arith, ints)

pub lesser-floor : (times share whole q : ℤ) → pos 0 ≤ℤ share → pos 1 ≤ℤ whole → share <ℤ (times *ℤ whole) → (q *ℤ whole) ≤ℤ share → share <ℤ (q *ℤ whole +ℤ whole) → IsLesser times share whole q
lesser-floor times share whole q low some less down up = record {
  low = below-next (pos 0) q (through (pos 0 *ℤ whole) share (q *ℤ whole +ℤ whole) (zero_times whole share low) up);
  upto = cancel q times whole (above whole some) (between (q *ℤ whole) share (times *ℤ whole) down less);
  allowed = down;
  most = λ more l a. below-next more q (through (more *ℤ whole) share (q *ℤ whole +ℤ whole) a up);
}
  where
    zero_times : (b a : ℤ) → pos 0 ≤ℤ a → (pos 0 *ℤ b) ≤ℤ a
    zero_times b a p = omega (arith, ints)

    through : (a b c : ℤ) → a ≤ℤ b → b <ℤ c → a <ℤ c
    through a b c p q = omega (arith, ints)

    between : (a b c : ℤ) → a ≤ℤ b → b <ℤ c → a ≤ℤ c
    between a b c p q = omega (arith, ints)

    above : (a : ℤ) → pos 1 ≤ℤ a → pos 0 <ℤ a
    above a p = omega (arith, ints)

    one-more : (q b : ℤ) → q *ℤ b +ℤ b ≡ (q +ℤ pos 1) *ℤ b
    one-more q b = sym (add-mulℤ q (pos 1) b ∙ ap (λ z. q *ℤ b +ℤ z) (once b))
      where
        once : (b : ℤ) → pos 1 *ℤ b ≡ b
        once b = omega (arith, ints)

    below-next : (more q : ℤ) → (more *ℤ whole) <ℤ (q *ℤ whole +ℤ whole) → more ≤ℤ q
    below-next more q h = by_lt_z q more
        (λ l. absurd (clash (more *ℤ whole) (q *ℤ whole +ℤ whole) ((q +ℤ pos 1) *ℤ whole) h (one-more q whole) (product_le (q +ℤ pos 1) more whole (between (pos 0) (pos 0) whole (omega (arith, ints)) (above whole some)) (next q more l))))
        (λ l. l)
      where
        next : (q more : ℤ) → q <ℤ more → (q +ℤ pos 1) ≤ℤ more
        next q more l = omega (arith, ints)

        clash : (a b c : ℤ) → a <ℤ b → b ≡ c → c ≤ℤ a → ⊥
        clash a b c p q r = omega (arith, ints)

-- one more take at the end
pub takes-more : (points : List PointData) (mass : List ℤ) (takes : List Take) (rest : List ℤ) (t : Take) → AreTakes points mass takes rest →
    TakesMost rest (point_at points t.number).belief t.share t.times → AreTakes points mass (takes ++ t ∷ []) (less_times rest (point_at points t.number).belief t.times)
takes-more points mass [] rest t e h = (subst (λ (m : List ℤ). TakesMost m (point_at points t.number).belief t.share t.times) e h, ap (λ (m : List ℤ). less_times m (point_at points t.number).belief t.times) e)
takes-more points mass (first ∷ takes) rest t h more = (h.0, takes-more points (less_times mass (point_at points first.number).belief first.times) takes rest t h.1 more)

pub no-takes : (points : List PointData) (mass : List ℤ) → AreTaken points [] [] mass mass []
no-takes points mass = record { takes = []; listed = refl; shared = refl; taken = refl; weights = λ k. refl }

pub taken-more : (points : List PointData) (numbers : List ℕ) (shares mass rest : List ℤ) (items next : List (ℕ × ℤ)) (k : ℕ) (share times : ℤ) → AreTaken points numbers shares mass rest items →
    TakesMost rest (point_at points k).belief share times → ((j : ℕ) → weight_of next j ≡ weight_of items j +ℤ cond (k == j) times (pos 0)) →
    AreTaken points (numbers ++ k ∷ []) (shares ++ share ∷ []) mass (less_times rest (point_at points k).belief times) next
taken-more points numbers shares mass rest items next k share times h most weights =
    let t : Take = record { number = k; share = share; times = times } in
    record {
      takes = h.takes ++ t ∷ [];
      listed = map-append (λ (t : Take). t.number) h.takes (t ∷ []) ∙ ap (λ (xs : List ℕ). xs ++ k ∷ []) h.listed;
      shared = map-append (λ (t : Take). t.share) h.takes (t ∷ []) ∙ ap (λ (xs : List ℤ). xs ++ share ∷ []) h.shared;
      taken = takes-more points mass h.takes rest t h.taken most;
      weights = λ j.
          weights j
          ∙ ap (λ z. z +ℤ cond (k == j) times (pos 0)) (h.weights j)
          ∙ sym (total-append (λ (t : Take). cond (t.number == j) t.times (pos 0)) h.takes (t ∷ []) ∙ ap (λ z. total (λ (t : Take). cond (t.number == j) t.times (pos 0)) h.takes +ℤ z) (alone (cond (k == j) times (pos 0))));
    }
  where
    alone : (a : ℤ) → a +ℤ pos 0 ≡ a
    alone a = omega (arith, sums)

-- products fit
pub product-within : (a b : ℤ) (m n : ℕ) → IsWithin (pos 0) (pos m) a → IsWithin (pos 0) (pos n) b → IsWithin (pos 0) (pos (m * n)) (a *ℤ b)
product-within (pos k) (pos l) m n h i =
    let k_small : k ≤ m = small k m h.1 in
    let l_small : l ≤ n = small l n i.1 in
    (omega (arith, ints), omega (arith, ints, mul-le k l m n k_small l_small))
  where
    small : (k m : ℕ) → pos k ≤ℤ pos m → k ≤ m
    small k m h = omega (arith, ints)
product-within (negsuc k) b m n h i = absurd (omega (arith, ints, h.0))
product-within (pos k) (negsuc l) m n h i = absurd (omega (arith, ints, i.0))

pub product-fits : (a b : ℤ) → IsWithin (pos 0) (pos (2 ^ 66)) a → IsWithin (pos 0) (pos (2 ^ 20)) b → FitsSigned w128 (a *ℤ b)
product-fits a b h i =
    let both = product-within a b (2 ^ 66) (2 ^ 20) h i in
    small_fits (a *ℤ b) both.0 (wide (a *ℤ b) both.1)
  where
    wide : (x : ℤ) → x ≤ℤ pos (2 ^ 66 * 2 ^ 20) → x ≤ℤ pos (2 ^ 126)
    wide x h = omega (arith, ints)

-- the first places of a mass less so many times a belief
pub record LessSoFar (mass belief : List ℤ) (times : ℤ) (i : ℕ) (rest : List ℤ) : Type 0 where
  pub long : length rest ≡ length mass
  pub before : (k : ℕ) → k < i → at rest k ≡ at mass k -ℤ times *ℤ at belief k
  pub after : (k : ℕ) → i ≤ k → at rest k ≡ at mass k

pub less-start : (mass belief : List ℤ) (times : ℤ) → LessSoFar mass belief times 0 mass
less-start mass belief times = record { long = refl; before = λ k l. absurd (omega arith); after = λ k l. refl }

pub less-next : (mass belief : List ℤ) (times : ℤ) (i : ℕ) (rest : List ℤ) → LessSoFar mass belief times i rest → i < length rest → LessSoFar mass belief times (i + 1) (set rest i (at rest i -ℤ times *ℤ at belief i))
less-next mass belief times i rest h l =
    let x : ℤ = at rest i -ℤ times *ℤ at belief i in
    record {
      long = length-set rest i x ∙ h.long;
      before = below_more (λ k. at (set rest i x) k ≡ at mass k -ℤ times *ℤ at belief k) i
          (λ k m. get_or-set_other rest i k x (pos 0) (λ e. omega arith) ∙ h.before k m)
          (get_or-set_same rest i x (pos 0) l ∙ ap (λ z. z -ℤ times *ℤ at belief i) (h.after i (same i)));
      after = λ k m. get_or-set_other rest i k x (pos 0) (λ e. omega arith) ∙ h.after k (omega arith);
    }
  where
    same : (i : ℕ) → i ≤ i
    same i = omega arith

pub less-skip : (mass belief : List ℤ) (times : ℤ) (i : ℕ) (rest : List ℤ) → LessSoFar mass belief times i rest → pos 0 ≤ℤ at belief i → at belief i ≤ℤ pos 0 → LessSoFar mass belief times (i + 1) rest
less-skip mass belief times i rest h low high = record {
  long = h.long;
  before = below_more (λ k. at rest k ≡ at mass k -ℤ times *ℤ at belief k) i h.before (h.after i (same i) ∙ nothing (at mass i) times (at belief i) (zero-only (at belief i) low high));
  after = λ k m. h.after k (omega arith);
}
  where
    same : (i : ℕ) → i ≤ i
    same i = omega arith

    zero-only : (b : ℤ) → pos 0 ≤ℤ b → b ≤ℤ pos 0 → b ≡ pos 0
    zero-only (pos zero) p q = refl
    zero-only (pos (suc n)) p q = absurd (omega (arith, ints))
    zero-only (negsuc n) p q = absurd (omega (arith, ints))

    nothing : (a t b : ℤ) → b ≡ pos 0 → a ≡ a -ℤ t *ℤ b
    nothing a t b e = rw e (omega (arith, ints))

pub less-all : (mass belief : List ℤ) (times : ℤ) (i : ℕ) (rest : List ℤ) → LessSoFar mass belief times i rest → length mass ≤ i → rest ≡ less_times mass belief times
less-all mass belief times i rest h l = is-less mass belief rest times h.long (λ s m. h.before s (omega arith))

-- the numbers of one place fit
pub record PlaceFits (times part rest : ℤ) : Type 0 where
  pub part_fits : FitsSigned w128 part
  pub times_fits : FitsSigned w128 times
  pub rest_fits : FitsSigned w128 rest
  pub product_fits : FitsSigned w128 (times *ℤ part)
  pub less_fits : FitsSigned w128 (rest -ℤ times *ℤ part)

pub place-fits : (mass belief : List ℤ) (times : ℤ) (i : ℕ) (rest : List ℤ) → IsBelief (length mass) belief → AllByRecursion (λ x. pos 0 ≤ℤ x) mass → sum_of mass ≤ℤ pos (2 ^ 66) → pos 0 ≤ℤ times → FitsTimes mass belief times →
    LessSoFar mass belief times i rest → i < length belief → PlaceFits times (at belief i) (at rest i)
place-fits mass belief times i rest h none sum low fits so l =
    let here : i < length mass = subst (λ (n : ℕ). i < n) h.long l in
    let part = each-at (IsWithin (pos 0) (pos (2 ^ 20))) (pos 0) belief i h.each l in
    let most : at mass i ≤ℤ pos (2 ^ 66) = through (at mass i) (sum_of mass) (pos (2 ^ 66)) (at_le_sum mass i (All-from_recursion (λ x. pos 0 ≤ℤ x) mass none) here) sum in
    let floor : pos 0 ≤ℤ at mass i = All-from_recursion (λ x. pos 0 ≤ℤ x) mass none i (pos 0) here in
    let product : pos 0 ≤ℤ (times *ℤ at belief i) = product_none_negative times (at belief i) low part.0 in
    let is : at rest i ≡ at mass i = so.after i (same i) in
    record {
      part_fits = small (at belief i) part.0 part.1;
      times_fits = wide times low (through times (sum_of mass) (pos (2 ^ 66)) (times-most mass belief times h none low fits) sum);
      rest_fits = subst (FitsSigned w128) (sym is) (wide (at mass i) floor most);
      product_fits = wide (times *ℤ at belief i) product (through (times *ℤ at belief i) (at mass i) (pos (2 ^ 66)) (fits i here) most);
      less_fits = subst (λ (z : ℤ). FitsSigned w128 (z -ℤ times *ℤ at belief i)) (sym is) (less (at mass i) (times *ℤ at belief i) (fits i here) product most);
    }
  where
    same : (i : ℕ) → i ≤ i
    same i = omega arith

    through : (a b c : ℤ) → a ≤ℤ b → b ≤ℤ c → a ≤ℤ c
    through a b c p q = omega (arith, ints)

    small : (a : ℤ) → pos 0 ≤ℤ a → a ≤ℤ pos (2 ^ 20) → FitsSigned w128 a
    small a p q = small_fits a p (through a (pos (2 ^ 20)) (pos (2 ^ 126)) q (omega (arith, ints)))

    wide : (a : ℤ) → pos 0 ≤ℤ a → a ≤ℤ pos (2 ^ 66) → FitsSigned w128 a
    wide a p q = small_fits a p (through a (pos (2 ^ 66)) (pos (2 ^ 126)) q (omega (arith, ints)))

    less : (a b : ℤ) → b ≤ℤ a → pos 0 ≤ℤ b → a ≤ℤ pos (2 ^ 66) → FitsSigned w128 (a -ℤ b)
    less a b p q r = wide (a -ℤ b) (omega (arith, ints)) (omega (arith, ints))

-- what is known of a take
pub record TakesWell (mass belief : List ℤ) (share times few : ℤ) : Type 0 where
  pub times_within : IsWithin (pos 0) (pos (2 ^ 66)) times
  pub most : TakesMost mass belief share few
  pub within : IsWithin (pos 0) (pos (2 ^ 66)) few

pub takes-well : (mass belief parts : List ℤ) (share times few whole : ℤ) → IsBelief (length mass) belief → AllByRecursion (λ x. pos 0 ≤ℤ x) mass → sum_of mass ≤ℤ pos (2 ^ 66) → parts ≡ belief → whole ≡ sum_of belief →
    IsMostTimes mass parts times → IsLesser times share whole few → TakesWell mass belief share times few
takes-well mass belief parts share times few whole h none sum same e most lesser =
    let m : IsMostTimes mass belief times = subst (λ (ps : List ℤ). IsMostTimes mass ps times) same most in
    let within : IsWithin (pos 0) (pos (2 ^ 66)) times = times-within mass belief times (2 ^ 66) h none sum m in
    record {
      times_within = within;
      most = takes-most mass belief share times few whole h e m lesser;
      within = (lesser.low, through few times (pos (2 ^ 66)) lesser.upto within.1);
    }
  where
    through : (a b c : ℤ) → a ≤ℤ b → b ≤ℤ c → a ≤ℤ c
    through a b c p q = omega (arith, ints)

-- the weights of wanted points
abbrev weight : ℕ × ℤ → ℤ
weight want = want.1

pub weights-each : (wanted : List (ℕ × ℤ)) → AllByRecursion (λ want. IsWithin (pos 0) (pos (2 ^ 30)) want.1) wanted → AllByRecursion (λ x. pos 0 ≤ℤ x) (map (λ want. want.1) wanted)
weights-each wanted h = each-map (λ x. pos 0 ≤ℤ x) weight wanted (each-from (λ (want : ℕ × ℤ). IsWithin (pos 0) (pos (2 ^ 30)) want.1) (λ want. pos 0 ≤ℤ want.1) wanted (λ x w. w.0) h)

weights-upto : (wanted : List (ℕ × ℤ)) → AllByRecursion (λ want. IsWithin (pos 0) (pos (2 ^ 30)) want.1) wanted → IsWithin (pos 0) (pos (length wanted * 2 ^ 30)) (sum_of (map (λ want. want.1) wanted))
weights-upto [] h = (omega (arith, ints), omega (arith, ints))
weights-upto (x ∷ xs) h =
    let rest = weights-upto xs h.1 in
    both x.1 (sum_of (map weight xs)) (length xs) h.0.0 h.0.1 rest.0 rest.1
  where
    both : (a b : ℤ) (n : ℕ) → pos 0 ≤ℤ a → a ≤ℤ pos (2 ^ 30) → pos 0 ≤ℤ b → b ≤ℤ pos (n * 2 ^ 30) → IsWithin (pos 0) (pos (suc n * 2 ^ 30)) (a +ℤ b)
    both a b n p q r s = (omega (arith, ints), omega (arith, ints))

pub weights-sum : (wanted : List (ℕ × ℤ)) → AllByRecursion (λ want. IsWithin (pos 0) (pos (2 ^ 30)) want.1) wanted → length wanted ≤ 24 → IsWithin (pos 0) (pos (24 * 2 ^ 30)) (sum_of (map (λ want. want.1) wanted))
weights-sum wanted h l = let upto = weights-upto wanted h in (upto.0, more (sum_of (map weight wanted)) (length wanted) l upto.1)
  where
    more : (a : ℤ) (n : ℕ) → n ≤ 24 → a ≤ℤ pos (n * 2 ^ 30) → a ≤ℤ pos (24 * 2 ^ 30)
    more a n l h = omega (arith, ints)

-- each share of a total is at most the total
pub shares-within : (shares : List ℤ) (most : ℕ) (whole : ℤ) → NoneNegative shares → sum_of shares ≡ whole → whole ≤ℤ pos most → AllByRecursion (IsWithin (pos 0) (pos most)) shares
shares-within shares most whole none e h = each-by-place (IsWithin (pos 0) (pos most)) (pos 0) shares (λ i l. (none i (pos 0) l, through (at shares i) (sum_of shares) whole (pos most) (at_le_sum shares i none l) e h))
  where
    through : (a b c d : ℤ) → a ≤ℤ b → b ≡ c → c ≤ℤ d → a ≤ℤ d
    through a b c d p q r = omega (arith, ints)
