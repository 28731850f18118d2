-- Three points of two states, and a mass over them.
use Rattle.std.proofs.Common.{◌≡◌, ℕ, zero, suc, ◌+◌, ◌^◌, ◌<◌, ◌≤◌, List, [], ◌∷◌, ◌++◌, length, refl, ap, arith, subst, sym, ◌∙◌, length-append, Bool, true, false, cond}
use Rattle.std.specs.Prelude.{ℤ, pos, not, ◌+ℤ◌, ◌*ℤ◌, ◌≤ℤ◌}
use Rattle.std.proofs.lemmas.Int.{ints}
use Rattle.game_model.specs.Game.{GameData, IsGame}
use Rattle.belief.specs.Beliefs.{corner_of}
use Rattle.point_set.specs.Corners.{HasCorner, IsAtCorner, IsCurrentCorner}
use Rattle.point_set.specs.Members.{most_points}
use Rattle.point_set.specs.Points.{PointData, PointFits}
use Rattle.point_set.specs.Sawtooth.{AreCorners, AreMeasured}
use Rattle.point_set.specs.Split.{IsWanted, is_corner}
use Rattle.point_set.proofs.CornerNumbers.{new-at}

-- a belief of two states that is sure of one
pub two-corner : (point : PointData) (s : ℕ) → s < 2 → point.belief ≡ corner_of 2 s → IsAtCorner s point
two-corner point s l e =
    let long : length point.belief ≡ 2 = ap length e ∙ corner-long s l in
    record {
      state = subst (λ (n : ℕ). s < n) (sym long) l;
      belief = e ∙ ap (λ (n : ℕ). corner_of n s) (sym long);
    }
  where
    corner-long : (s : ℕ) → s < 2 → length (corner_of 2 s) ≡ 2
    corner-long zero l = refl
    corner-long (suc zero) l = refl
    corner-long (suc (suc s)) l = absurd (omega arith)

pub corner-added : (points : List PointData) (point : PointData) (s : ℕ) → IsAtCorner s point → HasCorner (points ++ point ∷ []) s
corner-added points point s h = record {
  number = length points;
  inside = omega (arith, length-append points (point ∷ []));
  corner = subst (IsAtCorner s) (sym (new-at points point)) h;
}

two-corners : (p q r : PointData) → IsAtCorner 0 p → IsAtCorner 1 q → (s : ℕ) → s < 2 → HasCorner (p ∷ q ∷ r ∷ []) s
two-corners p q r h k zero l = record { number = 0; inside = omega arith; corner = h }
two-corners p q r h k (suc zero) l = record { number = 1; inside = omega arith; corner = k }
two-corners p q r h k (suc (suc s)) l = absurd (omega arith)

heavy : (m n : ℕ) (t : ℤ) → m + n ≤ 2 ^ 36 → pos 1 ≤ℤ t → (pos m +ℤ (pos n +ℤ pos 0)) ≤ℤ (pos (2 ^ 36) *ℤ t)
heavy m n t few l = omega (arith, ints)

pub three-measured : (g : GameData) (p q r : PointData) (m n : ℕ) → m + n ≤ 2 ^ 36 → IsGame g → g.shape.states ≡ 2 → PointFits g most_points p → PointFits g most_points q → PointFits g most_points r → IsAtCorner 0 p → IsAtCorner 1 q →
    AreMeasured (p ∷ q ∷ r ∷ []) (pos m ∷ pos n ∷ [])
three-measured g p q r m n few accepted two fp fq fr cp cq = record {
  game = g;
  accepted = accepted;
  fit = (fp, (fq, (fr, tt)));
  corners = λ s l. two-corners p q r cp cq s (subst (λ (n : ℕ). s < n) two l);
  right = record {
    long = sym two;
    each = (omega (arith, ints), (omega (arith, ints), tt));
    most = heavy m n g.shape.row_total few accepted.shape.row_total.0;
  };
}

-- the corners of two states
abbrev corner_pair : ℕ → ℕ → ℕ → ℕ
corner_pair i j zero = i
corner_pair i j (suc s) = j

both-current : (points : List PointData) (i j : ℕ) → IsCurrentCorner points 0 i → IsCurrentCorner points 1 j → AreCorners points 2 (corner_pair i j)
both-current points i j first second zero l = first
both-current points i j first second (suc zero) l = second
both-current points i j first second (suc (suc s)) l = absurd (omega arith)

-- the third point is wanted, where these are the current corners
pub third-wanted : (points : List PointData) (i j : ℕ) → length points ≡ 3 → IsCurrentCorner points 0 i → IsCurrentCorner points 1 j → IsWanted points 2 ((2, pos 1) ∷ [])
third-wanted points i j three first second = record {
  some = omega arith;
  rising = tt;
  inside = (omega (arith, three), tt);
  weights = ((omega (arith, ints), omega (arith, ints)), tt);
  corners = corner_pair i j;
  current = both-current points i j first second;
  few = one (not (is_corner (corner_pair i j) 2 2));
}
  where
    one : (b : Bool) → length {A = ℕ × ℤ} (cond b ((2, pos 1) ∷ []) []) ≤ 8
    one true = omega arith
    one false = omega arith
