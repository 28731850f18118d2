-- The split of a mass, put together.
use Rattle.std.proofs.Common.{◌≡◌, ℕ, ◌^◌, ◌<◌, ◌≤◌, cond, ◌==◌, List, length, get_or, map, ap, arith, sym, subst, ◌∙◌}
use Rattle.std.specs.Prelude.{ℤ, pos, ◌+ℤ◌, ◌*ℤ◌, ◌≤ℤ◌}
use Rattle.std.specs.List.{AllByRecursion}
use Rattle.std.proofs.lemmas.Int.{ints}
use Rattle.scaled_num.specs.Share.{IsShared, at}
use Rattle.scaled_num.specs.Sums.{below, sum_of, total}
use Rattle.scaled_num.proofs.Floors.{All-from_recursion, at_le_sum, sum-none_negative}
use Rattle.scaled_num.proofs.Products.{sums}
use Rattle.scaled_num.proofs.Sums.{each-at}
use Rattle.game_model.proofs.Pay.{each-from}
use Rattle.game_model.specs.Game.{IsBelief, IsWithin}
use Rattle.point_set.specs.Corners.{point_at}
use Rattle.point_set.specs.Members.{most_points}
use Rattle.point_set.specs.Points.{PointData, PointFits}
use Rattle.point_set.specs.Sawtooth.{AreCorners, AreMeasured}
use Rattle.point_set.specs.Split.{IsSplit, IsWanted, MakesUp}
use Rattle.point_set.specs.Takes.{AreBeliefs, AreItems, AreTaken, others, with_rests}
use Rattle.point_set.proofs.Counted.{few-items}
use Rattle.point_set.proofs.Items.{items-most}
use Rattle.point_set.proofs.Rests.{left_from, rests-end, rests-made, rests-weigh, same-corners, same-others}
use Rattle.scaled_num.proofs.Each.{each-by-place}

-- what is measured
pub measured-beliefs : (points : List PointData) (mass : List ℤ) → AreMeasured points mass → AreBeliefs (length mass) points
measured-beliefs points mass m =
    each-from (PointFits m.game most_points) (λ (point : PointData). IsBelief (length mass) point.belief) points (λ point fits. subst (λ (n : ℕ). IsBelief n point.belief) (sym m.right.long) fits.belief) m.fit

pub measured-few : (points : List PointData) (mass : List ℤ) → AreMeasured points mass → length mass ≤ 16
measured-few points mass m = let few = m.accepted.shape.states.1 in omega (arith, m.right.long)

pub measured-some : (points : List PointData) (mass : List ℤ) → AreMeasured points mass → 1 ≤ length mass
measured-some points mass m = let some = m.accepted.shape.states.0 in omega (arith, m.right.long)

pub measured-sum : (points : List PointData) (mass : List ℤ) → AreMeasured points mass → sum_of mass ≤ℤ pos (2 ^ 66)
measured-sum points mass m = through (sum_of mass) m.game.shape.row_total m.right.most m.accepted.shape.row_total.1
  where
    through : (a d : ℤ) → a ≤ℤ (pos (2 ^ 36) *ℤ d) → d ≤ℤ pos (2 ^ 30) → a ≤ℤ pos (2 ^ 66)
    through a d h k = omega (arith, ints)

pub wanted-few : (points : List PointData) (states : ℕ) (wanted : List (ℕ × ℤ)) → IsWanted points states wanted → states ≤ 16 → length wanted ≤ 24
wanted-few points states wanted h l = few-items h.corners states wanted h.rising h.few l

-- what the corners ask of the items of the wanted points
pub corners-few : (points : List PointData) (states : ℕ) (wanted items : List (ℕ × ℤ)) (corners : ℕ → ℕ) → IsWanted points states wanted → AreCorners points states corners →
    ((c : ℕ → ℕ) → others c states items ≤ others c states wanted) → others corners states items ≤ 8
corners-few points states wanted items corners h current few =
    let fewer : others h.corners states wanted ≤ 8 = h.few in
    omega (arith, few corners, same-others corners h.corners states wanted (same-corners points states corners h.corners current h.current))

pub items-within : (points : List PointData) (mass rest : List ℤ) (items : List (ℕ × ℤ)) → AreBeliefs (length mass) points → AllByRecursion (λ x. pos 0 ≤ℤ x) mass → AllByRecursion (λ x. pos 0 ≤ℤ x) rest → length rest ≡ length mass →
    sum_of mass ≤ℤ pos (2 ^ 66) → AreItems points mass (at rest) items → AllByRecursion (λ item. IsWithin (pos 0) (pos (2 ^ 66)) item.1) items
items-within points mass rest items beliefs none left long sum h =
    let light = items-most points mass (at rest) items beliefs none (λ s l. All-from_recursion (λ x. pos 0 ≤ℤ x) rest left s (pos 0) (subst (λ (n : ℕ). s < n) (sym long) l)) h in
    each-by-place (λ (item : ℕ × ℤ). IsWithin (pos 0) (pos (2 ^ 66)) item.1) (0, pos 0) items (λ j l.
    within (get_or items j (0, pos 0)).1 (sum_of mass) (each-at (λ (item : ℕ × ℤ). pos 1 ≤ℤ item.1) (0, pos 0) items j h.positive l) (each-at (λ (item : ℕ × ℤ). item.1 ≤ℤ sum_of mass) (0, pos 0) items j light l) sum)
  where
    within : (a b : ℤ) → pos 1 ≤ℤ a → a ≤ℤ b → b ≤ℤ pos (2 ^ 66) → IsWithin (pos 0) (pos (2 ^ 66)) a
    within a b p q r = (omega (arith, ints), omega (arith, ints))

pub rest-within : (mass rest : List ℤ) → AllByRecursion (λ x. pos 0 ≤ℤ x) rest → sum_of rest ≤ℤ sum_of mass → sum_of mass ≤ℤ pos (2 ^ 66) → AllByRecursion (IsWithin (pos 0) (pos (2 ^ 66))) rest
rest-within mass rest none less sum = each-by-place (IsWithin (pos 0) (pos (2 ^ 66))) (pos 0) rest (λ s l.
    let low : pos 0 ≤ℤ at rest s = All-from_recursion (λ x. pos 0 ≤ℤ x) rest none s (pos 0) l in
    (low, through (at rest s) (sum_of rest) (sum_of mass) (pos (2 ^ 66)) (at_le_sum rest s (All-from_recursion (λ x. pos 0 ≤ℤ x) rest none) l) less sum))
  where
    through : (a b c d : ℤ) → a ≤ℤ b → b ≤ℤ c → c ≤ℤ d → a ≤ℤ d
    through a b c d p q r = omega (arith, ints)

-- the split, and what follows of its items
pub record IsDone (points : List PointData) (wanted : List (ℕ × ℤ)) (mass : List ℤ) (out : List (ℕ × ℤ)) : Type 0 where
  pub split : IsSplit points wanted mass out
  pub makes_up : MakesUp points out mass
  pub inside : AllByRecursion (λ item. item.0 < length points) out
  pub most : AllByRecursion (λ item. item.1 ≤ℤ sum_of mass) out

pub done : (points : List PointData) (wanted : List (ℕ × ℤ)) (mass shares rest : List ℤ) (items : List (ℕ × ℤ)) (corners : ℕ → ℕ) → AreBeliefs (length mass) points → AllByRecursion (λ x. pos 0 ≤ℤ x) mass → AreCorners points (length mass) corners →
    IsShared (map (λ want. want.1) wanted) (sum_of mass) shares → AreTaken points (map (λ want. want.0) wanted) shares mass rest items → AreItems points mass (at rest) items → AllByRecursion (λ x. pos 0 ≤ℤ x) rest → length rest ≡ length mass →
    IsDone points wanted mass (with_rests corners rest items (length mass))
done points wanted mass shares rest items corners beliefs whole current shared taken made none long =
    let n : ℕ = length mass in
    let out : List (ℕ × ℤ) = with_rests corners rest items n in
    let h : AreItems points mass (left_from rest n) out = rests-made points mass rest corners items n beliefs current none long (same n) made in
    record {
      split = record {
        takes = taken.takes;
        rest = rest;
        corners = corners;
        listed = taken.listed;
        shared = subst (λ (ss : List ℤ). IsShared (map (λ (want : ℕ × ℤ). want.1) wanted) (sum_of mass) ss) (sym taken.shared) shared;
        taken = taken.taken;
        current = current;
        rising = h.rising;
        positive = h.positive;
        weights = λ k. rests-weigh corners rest items n k none (upto n (length rest) long) ∙ ap (λ z. z +ℤ total (λ s. cond (corners s == k) (at rest s) (pos 0)) (below n)) (taken.weights k);
      };
      makes_up = λ s l. alone (total (λ item. item.1 *ℤ at (point_at points item.0).belief s) out) (left_from rest n s) (rests-end rest n s l) ∙ h.made s l;
      inside = h.inside;
      most = items-most points mass (left_from rest n) out beliefs whole (λ s l. subst (λ (z : ℤ). pos 0 ≤ℤ z) (sym (rests-end rest n s l)) zero-low) h;
    }
  where
    same : (n : ℕ) → n ≤ n
    same n = omega arith

    upto : (n m : ℕ) → m ≡ n → n ≤ m
    upto n m e = omega arith

    alone : (a b : ℤ) → b ≡ pos 0 → a ≡ a +ℤ b
    alone a b e = rw e (omega (arith, sums))

    zero-low : pos 0 ≤ℤ pos 0
    zero-low = omega (arith, ints)

pub sum-within : (points : List PointData) (mass : List ℤ) → AreMeasured points mass → IsWithin (pos 0) (pos (2 ^ 66)) (sum_of mass)
sum-within points mass m = (sum-none_negative mass (All-from_recursion (λ x. pos 0 ≤ℤ x) mass m.right.each), measured-sum points mass m)

-- the same where the mass was copied first
pub done-by-copy : (points : List PointData) (wanted : List (ℕ × ℤ)) (mass copy shares rest : List ℤ) (items out : List (ℕ × ℤ)) (corners : ℕ → ℕ) (n : ℕ) (sum : ℤ) → AreMeasured points mass → AreCorners points (length mass) corners →
    copy ≡ mass → n ≡ length mass → sum ≡ sum_of mass → IsShared (map (λ want. want.1) wanted) sum shares → AreTaken points (map (λ want. want.0) wanted) shares copy rest items → AreItems points copy (at rest) items →
    AllByRecursion (λ x. pos 0 ≤ℤ x) rest → length rest ≡ length copy → out ≡ with_rests corners rest items n → IsDone points wanted mass out
done-by-copy points wanted mass copy shares rest items out corners n sum m current same states whole shared taken made none long is =
    subst (IsDone points wanted mass) (sym (is ∙ ap (with_rests corners rest items) states))
    (done points wanted mass shares rest items corners (measured-beliefs points mass m) m.right.each current
    (subst (λ (z : ℤ). IsShared (map (λ (want : ℕ × ℤ). want.1) wanted) z shares) whole shared)
    (subst (λ (xs : List ℤ). AreTaken points (map (λ (want : ℕ × ℤ). want.0) wanted) shares xs rest items) same taken)
    (subst (λ (xs : List ℤ). AreItems points xs (at rest) items) same made)
    none (long ∙ ap length same))
