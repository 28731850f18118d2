-- The wanted points so far: what they took from a mass, and their items.
use Rattle.std.proofs.Common.{◌≡◌, ℕ, zero, suc, ◌+◌, ◌^◌, ◌<◌, ◌≤◌, Bool, true, false, not, cond, ◌==◌, List, [], ◌∷◌, ◌++◌, length, get_or, map, take, filter, refl, ap, arith, sym, subst, ◌∙◌}
use Rattle.std.specs.Prelude.{ℤ, pos, negsuc, ◌+ℤ◌, ◌-ℤ◌, ◌*ℤ◌, ◌≤ℤ◌}
use Rattle.std.specs.List.{AllByRecursion}
use Rattle.std.proofs.lemmas.Int.{ints}
use Rattle.std.proofs.lemmas.List.{map_more, take_more}
use Rattle.std.proofs.lemmas.List.Filters.{length-filter_more}
use Rattle.scaled_num.specs.Share.{at}
use Rattle.scaled_num.specs.Sums.{sum_of}
use Rattle.scaled_num.proofs.Floors.{All-from_recursion, at_le_sum}
use Rattle.scaled_num.proofs.Products.{sums}
use Rattle.scaled_num.proofs.Sums.{each-at}
use Rattle.game_model.specs.Game.{IsBelief}
use Rattle.point_set.specs.Corners.{point_at}
use Rattle.point_set.specs.Points.{PointData}
use Rattle.point_set.specs.Split.{IsWanted, TakesMost, is_corner, less_times, weight_of}
use Rattle.point_set.specs.Takes.{AreBeliefs, AreItems, AreTaken, IsSmall, inserted, others}
use Rattle.point_set.proofs.Counted.{few-items, others-inserted}
use Rattle.point_set.proofs.Items.{add-item, belief-at, items-most, no-items, rising-inserted, weight-inserted}
use Rattle.point_set.proofs.Taking.{less-at, less-long, less-none, less-none-negative, less-sum, no-takes, taken-more}
use Rattle.scaled_num.proofs.Each.{each-by-place}

-- the wanted points before the i-th took from a mass, this remains, and these are the items
pub record WantedSoFar (points : List PointData) (mass : List ℤ) (wanted : List (ℕ × ℤ)) (shares : List ℤ) (i : ℕ) (rest : List ℤ) (items : List (ℕ × ℤ)) : Type 0 where
  pub taken : AreTaken points (map (λ want. want.0) (take i wanted)) (take i shares) mass rest items
  pub listed : AreItems points mass (at rest) items
  pub none : AllByRecursion (λ x. pos 0 ≤ℤ x) rest
  pub long : length rest ≡ length mass
  pub sum : sum_of rest ≤ℤ sum_of mass
  pub few : (corners : ℕ → ℕ) → others corners (length mass) items ≤ others corners (length mass) (take i wanted)

pub wanted-start : (points : List PointData) (mass : List ℤ) (wanted : List (ℕ × ℤ)) (shares : List ℤ) → AllByRecursion (λ x. pos 0 ≤ℤ x) mass → WantedSoFar points mass wanted shares 0 mass []
wanted-start points mass wanted shares none = record {
  taken = no-takes points mass;
  listed = no-items points mass;
  none = none;
  long = refl;
  sum = same (sum_of mass);
  few = λ corners. omega arith;
}
  where
    same : (a : ℤ) → a ≤ℤ a
    same a = omega (arith, ints)

front-more : (corners : ℕ → ℕ) (states : ℕ) (wanted : List (ℕ × ℤ)) (i : ℕ) → i < length wanted →
    others corners states (take (i + 1) wanted) ≡ others corners states (take i wanted) + cond (not (is_corner corners states (get_or wanted i (0, pos 0)).0)) 1 0
front-more corners states wanted i l = length-filter_more (λ (want : ℕ × ℤ). not (is_corner corners states want.0)) wanted i (0, pos 0) l

-- a front has no more of them than the whole
pub front-fewer : (corners : ℕ → ℕ) (states : ℕ) (wanted : List (ℕ × ℤ)) (i : ℕ) → others corners states (take i wanted) ≤ others corners states wanted
front-fewer corners states [] zero = omega arith
front-fewer corners states [] (suc i) = omega arith
front-fewer corners states (x ∷ xs) zero = omega arith
front-fewer corners states (x ∷ xs) (suc i) =
    elim (not (is_corner corners states x.0)) as (λ b. length (cond b (x ∷ filter (λ (want : ℕ × ℤ). not (is_corner corners states want.0)) (take i xs)) (filter (λ (want : ℕ × ℤ). not (is_corner corners states want.0)) (take i xs)))
    ≤ length (cond b (x ∷ filter (λ (want : ℕ × ℤ). not (is_corner corners states want.0)) xs) (filter (λ (want : ℕ × ℤ). not (is_corner corners states want.0)) xs))) [
      | true ↦ omega (arith, front-fewer corners states xs i)
      | false ↦ front-fewer corners states xs i
    ]

-- the parts of the next step that do not depend on the items
pub record Lessened (mass rest : List ℤ) : Type 0 where
  pub none : AllByRecursion (λ x. pos 0 ≤ℤ x) rest
  pub long : length rest ≡ length mass
  pub sum : sum_of rest ≤ℤ sum_of mass

lessened : (mass rest belief : List ℤ) (share times : ℤ) → IsBelief (length rest) belief → length rest ≡ length mass → sum_of rest ≤ℤ sum_of mass → pos 0 ≤ℤ times → TakesMost rest belief share times →
    Lessened mass (less_times rest belief times)
lessened mass rest belief share times h long sum low most = record {
  none = less-none-negative rest belief times most.fits;
  long = less-long rest belief times ∙ long;
  sum = through (sum_of (less_times rest belief times)) (sum_of rest) (sum_of mass) (less-sum rest belief times h low) sum;
}
  where
    through : (a b c : ℤ) → a ≤ℤ b → b ≤ℤ c → a ≤ℤ c
    through a b c p q = omega (arith, ints)

pub wanted-add : (points : List PointData) (mass : List ℤ) (wanted : List (ℕ × ℤ)) (shares : List ℤ) (i : ℕ) (rest : List ℤ) (items : List (ℕ × ℤ)) (times : ℤ) → AreBeliefs (length mass) points →
    WantedSoFar points mass wanted shares i rest items → i < length wanted → i < length shares → (get_or wanted i (0, pos 0)).0 < length points → pos 1 ≤ℤ times →
    TakesMost rest (point_at points (get_or wanted i (0, pos 0)).0).belief (get_or shares i (pos 0)) times →
    WantedSoFar points mass wanted shares (i + 1) (less_times rest (point_at points (get_or wanted i (0, pos 0)).0).belief times) (inserted (get_or wanted i (0, pos 0)).0 times items)
wanted-add points mass wanted shares i rest items times beliefs so lw ls inside some most =
    let k : ℕ = (get_or wanted i (0, pos 0)).0 in
    let belief : List ℤ = (point_at points k).belief in
    let h : IsBelief (length rest) belief = subst (λ (n : ℕ). IsBelief n belief) (sym so.long) (belief-at (length mass) points k beliefs inside) in
    let parts = lessened mass rest belief (get_or shares i (pos 0)) times h so.long so.sum (low times some) most in
    let taken = taken-more points (map (λ (want : ℕ × ℤ). want.0) (take i wanted)) (take i shares) mass rest items (inserted k times items) k (get_or shares i (pos 0)) times so.taken most
    (λ j. weight-inserted k times items j) in
    record {
      taken = subst (λ (ns : List ℕ). AreTaken points ns (take (i + 1) shares) mass (less_times rest belief times) (inserted k times items)) (sym (map_more (λ (want : ℕ × ℤ). want.0) wanted i (0, pos 0) lw))
          (subst (λ (ss : List ℤ). AreTaken points (map (λ (want : ℕ × ℤ). want.0) (take i wanted) ++ k ∷ []) ss mass (less_times rest belief times) (inserted k times items)) (sym (take_more shares i (pos 0) ls)) taken);
      listed = add-item points mass (at rest) (at (less_times rest belief times)) items k times so.listed some inside (λ s l.
          back (at rest s) (times *ℤ at belief s) (at (less_times rest belief times) s) (less-at rest belief times s (subst (λ (n : ℕ). s < n) (sym so.long) l)));
      none = parts.none;
      long = parts.long;
      sum = parts.sum;
      few = λ corners. omega (arith, so.few corners, others-inserted corners (length mass) k times items, front-more corners (length mass) wanted i lw);
    }
  where
    low : (a : ℤ) → pos 1 ≤ℤ a → pos 0 ≤ℤ a
    low a h = omega (arith, ints)

    back : (a b c : ℤ) → c ≡ a -ℤ b → a ≡ c +ℤ b
    back a b c e = omega (arith, ints)

pub wanted-skip : (points : List PointData) (mass : List ℤ) (wanted : List (ℕ × ℤ)) (shares : List ℤ) (i : ℕ) (rest : List ℤ) (items : List (ℕ × ℤ)) (times : ℤ) →
    WantedSoFar points mass wanted shares i rest items → i < length wanted → i < length shares → times ≡ pos 0 →
    TakesMost rest (point_at points (get_or wanted i (0, pos 0)).0).belief (get_or shares i (pos 0)) times →
    WantedSoFar points mass wanted shares (i + 1) (less_times rest (point_at points (get_or wanted i (0, pos 0)).0).belief times) items
wanted-skip points mass wanted shares i rest items times so lw ls e most =
    let k : ℕ = (get_or wanted i (0, pos 0)).0 in
    let belief : List ℤ = (point_at points k).belief in
    let same : rest ≡ less_times rest belief times = less-none rest belief ∙ ap (less_times rest belief) (sym e) in
    let taken = taken-more points (map (λ (want : ℕ × ℤ). want.0) (take i wanted)) (take i shares) mass rest items items k (get_or shares i (pos 0)) times so.taken most
    (λ j. nothing (weight_of items j) times (k == j) e) in
    subst (λ (r : List ℤ). WantedSoFar points mass wanted shares (i + 1) r items) same
    (record {
      taken = subst (λ (r : List ℤ). AreTaken points (map (λ (want : ℕ × ℤ). want.0) (take (i + 1) wanted)) (take (i + 1) shares) mass r items) (sym same)
          (subst (λ (ns : List ℕ). AreTaken points ns (take (i + 1) shares) mass (less_times rest belief times) items) (sym (map_more (λ (want : ℕ × ℤ). want.0) wanted i (0, pos 0) lw))
          (subst (λ (ss : List ℤ). AreTaken points (map (λ (want : ℕ × ℤ). want.0) (take i wanted) ++ k ∷ []) ss mass (less_times rest belief times) items) (sym (take_more shares i (pos 0) ls)) taken));
      listed = so.listed;
      none = so.none;
      long = so.long;
      sum = so.sum;
      few = λ corners. omega (arith, so.few corners, front-more corners (length mass) wanted i lw);
    })
  where
    nothing : (a t : ℤ) (b : Bool) → t ≡ pos 0 → a ≡ a +ℤ cond b t (pos 0)
    nothing a t true e = rw e (omega (arith, sums))
    nothing a t false e = omega (arith, sums)

-- what the next take and the next item ask
pub record WantedReady (points : List PointData) (rest : List ℤ) (items : List (ℕ × ℤ)) : Type 0 where
  pub small : AllByRecursion (λ x. x ≤ℤ pos (2 ^ 100)) rest
  pub sum : sum_of rest ≤ℤ pos (2 ^ 66)
  pub light : AllByRecursion (λ item. IsSmall item.1) items

pub wanted-ready : (points : List PointData) (mass : List ℤ) (wanted : List (ℕ × ℤ)) (shares : List ℤ) (i : ℕ) (rest : List ℤ) (items : List (ℕ × ℤ)) → AreBeliefs (length mass) points →
    AllByRecursion (λ x. pos 0 ≤ℤ x) mass → sum_of mass ≤ℤ pos (2 ^ 66) → WantedSoFar points mass wanted shares i rest items → WantedReady points rest items
wanted-ready points mass wanted shares i rest items beliefs none sum so =
    let light = items-most points mass (at rest) items beliefs none (λ s l. All-from_recursion (λ x. pos 0 ≤ℤ x) rest so.none s (pos 0) (subst (λ (n : ℕ). s < n) (sym so.long) l)) so.listed in
    record {
      small = each-by-place (λ x. x ≤ℤ pos (2 ^ 100)) (pos 0) rest (λ s l. narrow (at rest s) (sum_of rest) (sum_of mass) (at_le_sum rest s (All-from_recursion (λ x. pos 0 ≤ℤ x) rest so.none) l) so.sum sum);
      sum = through (sum_of rest) (sum_of mass) (pos (2 ^ 66)) so.sum sum;
      light = each-by-place (λ (item : ℕ × ℤ). IsSmall item.1) (0, pos 0) items (λ j l.
          let some : pos 1 ≤ℤ (get_or items j (0, pos 0)).1 = each-at (λ (item : ℕ × ℤ). pos 1 ≤ℤ item.1) (0, pos 0) items j so.listed.positive l in
          let most : (get_or items j (0, pos 0)).1 ≤ℤ sum_of mass = each-at (λ (item : ℕ × ℤ). item.1 ≤ℤ sum_of mass) (0, pos 0) items j light l in
          small (get_or items j (0, pos 0)).1 (sum_of mass) some most sum);
    }
  where
    through : (a b c : ℤ) → a ≤ℤ b → b ≤ℤ c → a ≤ℤ c
    through a b c p q = omega (arith, ints)

    narrow : (a b c : ℤ) → a ≤ℤ b → b ≤ℤ c → c ≤ℤ pos (2 ^ 66) → a ≤ℤ pos (2 ^ 100)
    narrow a b c p q r = omega (arith, ints)

    small : (a b : ℤ) → pos 1 ≤ℤ a → a ≤ℤ b → b ≤ℤ pos (2 ^ 66) → IsSmall a
    small a b p q r = (omega (arith, ints), omega (arith, ints))

-- room for one more item
pub wanted-room : (points : List PointData) (mass : List ℤ) (wanted : List (ℕ × ℤ)) (shares : List ℤ) (i : ℕ) (rest : List ℤ) (items : List (ℕ × ℤ)) (times : ℤ) → IsWanted points (length mass) wanted → length mass ≤ 16 →
    WantedSoFar points mass wanted shares i rest items → i < length wanted → length (inserted (get_or wanted i (0, pos 0)).0 times items) ≤ 24
wanted-room points mass wanted shares i rest items times h l so lw =
    let k : ℕ = (get_or wanted i (0, pos 0)).0 in
    few-items h.corners (length mass) (inserted k times items) (rising-inserted k times items so.listed.rising)
    (omega (arith, h.few, so.few h.corners, others-inserted h.corners (length mass) k times items, front-more h.corners (length mass) wanted i lw, front-fewer h.corners (length mass) wanted (i + 1))) l

pub zero-only : (a : ℤ) → pos 0 ≤ℤ a → a ≤ℤ pos 0 → a ≡ pos 0
zero-only (pos zero) p q = refl
zero-only (pos (suc n)) p q = absurd (omega (arith, ints))
zero-only (negsuc n) p q = absurd (omega (arith, ints))
