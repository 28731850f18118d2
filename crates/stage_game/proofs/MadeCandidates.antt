-- Candidates as their calls make them, step by step.
use Rattle.std.proofs.Common.{◌≡◌, ◌∙◌, ℕ, ◌+◌, ◌<◌, ◌⊎◌, inl, inr, List, [], ◌∷◌, ◌++◌, filter_map, get_or, length, map, take, refl, ap, arith, subst, sym}
use Rattle.std.specs.Prelude.{ℤ}
use Rattle.std.proofs.Math.Seq.{get_or-append_seam}
use Rattle.std.proofs.lemmas.List.{get_or_append_left, length-take}
use Rattle.std.proofs.lemmas.List.FromFn.{fill_by_all}
use Rattle.scaled_num.specs.Sums.{below}
use Rattle.alpha_set.specs.Nodes.{NodeData}
use Rattle.alpha_set.specs.Worth.{IsWorth}
use Rattle.belief.specs.Mixes.{MixesData}
use Rattle.game_model.specs.Game.{GameData, IsBelief, IsGame}
use Rattle.point_set.specs.Corners.{IsCurrentCorner}
use Rattle.point_set.specs.Points.{PointData}
use Rattle.stage_game.specs.Asked.{AreLowerEnds, AreUpperEnds, PointsServe}
use Rattle.stage_game.specs.Chosen.{different, downwards, risen}
use Rattle.stage_game.specs.Fits.{MixesFit}
use Rattle.stage_game.specs.LowerCandidates.{ArePricedLower, most_lower}
use Rattle.stage_game.specs.Masses.{masses}
use Rattle.stage_game.specs.Preferred.{AreCornersOf, GoesOn, GoesOnWorthy}
use Rattle.stage_game.specs.UpperCandidates.{AreCornersAnd, ArePricedUpper, most_others, others_downwards}
use Rattle.stage_game.proofs.LowerEnds.{first-among, lower-serves}
use Rattle.stage_game.proofs.RightMasses.{masses-measured}
use Rattle.stage_game.proofs.UpperEnds.{answers-elsewhere, upper-serves}

-- the best node first, then the nodes of worth, then all downwards
pub priced-made : (g : GameData) (belief : List ℤ) (nodes : List NodeData) (mixes : MixesData) (value : ℤ) (best : ℕ) (first priced all found : List ℕ) → IsWorth nodes belief value best → first ≡ best ∷ [] →
    GoesOnWorthy nodes (masses g belief mixes) first priced → GoesOn most_lower (downwards (length nodes)) priced all → found ≡ risen (length nodes) all → ArePricedLower g belief nodes mixes found
priced-made g belief nodes mixes value best first priced all found is begin h down e =
    record {
      best = best;
      worthy = (value, is);
      priced = h.priced;
      at_masses = h.worthy;
      same = e ∙ ap (λ (xs : List ℕ). risen (length nodes) xs) (down (best ∷ h.priced) (h.goes_on (best ∷ []) begin));
    }

pub priced-serves : (g : GameData) (belief : List ℤ) (nodes : List NodeData) (mixes : MixesData) (found : List ℕ) → ArePricedLower g belief nodes mixes found → AreLowerEnds nodes found
priced-serves g belief nodes mixes found h =
    let numbers : List ℕ = take most_lower (different (h.best ∷ h.priced ++ downwards (length nodes))) in
    subst (AreLowerEnds nodes) (sym h.same)
    (lower-serves nodes numbers h.best h.worthy.1.inside (first-among h.best _) (omega (arith, length-take most_lower (different (h.best ∷ h.priced ++ downwards (length nodes))))))

-- the corners, then points that are preferred, then all others downwards
pub corners-and-made : (g : GameData) (points : List PointData) (preferred old others corners kept found : List ℕ) → old ≡ take most_others (different preferred) →
    GoesOn most_others (others_downwards points) old others → AreCornersOf g points corners → kept ≡ corners ++ others → found ≡ risen (length points) kept → AreCornersAnd g points preferred found
corners-and-made g points preferred old others corners kept found begin down h both e = record {
  corners = h.corners;
  current = h.current;
  same = e ∙ ap (λ (xs : List ℕ). risen (length points) xs) (both ∙ ap (λ (xs : List ℕ). xs ++ others) h.same ∙ ap (λ (xs : List ℕ). map h.corners (below g.shape.states) ++ xs) (down preferred begin));
}

pub priced-points-serve : (g : GameData) → IsGame g → (belief : List ℤ) → IsBelief g.shape.states belief → (mixes : MixesData) → MixesFit g mixes → (points : List PointData) → PointsServe g points →
    (found : List ℕ) → ArePricedUpper g belief points mixes found → AreUpperEnds g points found
priced-points-serve g h belief right mixes fits points serve found p =
    upper-serves g points (filter_map (λ answer. answer) p.answers) found (answers-elsewhere points (masses g belief mixes) p.answers (masses-measured g h belief right mixes fits points serve) p.at_masses) p.are

-- the corners that are pushed one by one
pub corners-pushed : (g : GameData) (points : List PointData) (numbers : List ℕ) (n : ℕ) → length numbers ≡ n → n ≡ g.shape.states → ((s : ℕ) → s < n → IsCurrentCorner points s (get_or numbers s 0)) → AreCornersOf g points numbers
corners-pushed g points numbers n long all each = record {
  corners = λ s. get_or numbers s 0;
  current = λ s l. each s (omega arith);
  same = fill_by_all (λ s. get_or numbers s 0) numbers g.shape.states 0 (long ∙ all) (λ s l. refl);
}

pub corner-more : (points : List PointData) (numbers : List ℕ) (n k : ℕ) → length numbers ≡ n → ((s : ℕ) → s < n → IsCurrentCorner points s (get_or numbers s 0)) → IsCurrentCorner points n k →
    (s : ℕ) → s < n + 1 → IsCurrentCorner points s (get_or (numbers ++ k ∷ []) s 0)
corner-more points numbers n k long each here s l = by (side s l)
  where
    side : (s : ℕ) → s < n + 1 → (s < n) ⊎ (s ≡ n)
    side s l = search arith

    by : (s < n) ⊎ (s ≡ n) → IsCurrentCorner points s (get_or (numbers ++ k ∷ []) s 0)
    by (inl m) = subst (IsCurrentCorner points s) (sym (get_or_append_left numbers (k ∷ []) 0 s (omega arith))) (each s m)
    by (inr e) =
        subst (λ (i : ℕ). IsCurrentCorner points i (get_or (numbers ++ k ∷ []) i 0)) (sym e)
        (subst (IsCurrentCorner points n) (sym (ap (λ (i : ℕ). get_or (numbers ++ k ∷ []) i 0) (sym long) ∙ get_or-append_seam numbers k [] 0)) here)
