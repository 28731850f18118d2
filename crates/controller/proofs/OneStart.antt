-- One start: it fits, it makes up the first belief where its point has it, and what its node is worth there.
use Rattle.std.proofs.Common.{◌≡◌, ℕ, ◌<◌, List, [], ◌∷◌, ap, sym, subst, ◌∙◌, arith}
use Rattle.std.specs.Prelude.{ℤ, pos, slice_index_or, ◌+ℤ◌, ◌*ℤ◌, ◌≤ℤ◌}
use Rattle.std.proofs.Math.Nat.{eq-one_of_dvd-one}
use Rattle.std.proofs.lemmas.Int.{ints}
use Rattle.scaled_num.specs.Share.{at}
use Rattle.scaled_num.specs.Sums.{below, total}
use Rattle.scaled_num.proofs.Products.{magnitude-is}
use Rattle.scaled_num.proofs.Sums.{each-at, total-below}
use Rattle.alpha_set.specs.Nodes.{NodeData, no_node}
use Rattle.alpha_set.specs.Worth.{worth_at}
use Rattle.controller.specs.Certificates.{node_product}
use Rattle.controller.specs.Starts.{AreStarts, MakesUpMultiple}
use Rattle.game_model.specs.Game.{GameData, IsGame, IsWithin}
use Rattle.game_model.specs.Limits.{most_belief}
use Rattle.point_set.specs.Corners.{point_at}
use Rattle.point_set.specs.Points.{PointData}

-- a start of one member fits
pub one-start : (count member : ℕ) (most : ℤ) → member < count → pos 1 ≤ℤ most →
    AreStarts count most ((member, pos 1) ∷ [])
one-start count member most inside large = record {
  some = omega arith;
  rising = tt;
  each = ((inside, (omega (arith, ints), large)), tt);
  coprime = λ d h. eq-one_of_dvd-one h.0;
}

-- a point of the first belief makes it up
pub one-makes-up : (g : GameData) (points : List PointData) (root : ℕ) → (point_at points root).belief ≡ g.first →
    MakesUpMultiple points ((root, pos 1) ∷ []) (pos 1) g.first g.shape.states
one-makes-up g points root here s l =
    once (at (point_at points root).belief s) ∙ ap (λ (belief : List ℤ). pos 1 *ℤ at belief s) here
  where
    once : (z : ℤ) → pos 1 *ℤ z +ℤ pos 0 ≡ pos 1 *ℤ z
    once z = omega (arith, ints)

-- the product with the first belief is what the node is worth there
pub product-is : (g : GameData) → IsGame g → (nodes : List NodeData) (i : ℕ) →
    node_product g nodes i ≡ worth_at g.first (slice_index_or nodes i no_node).vector
product-is g game nodes i =
    total-below g.shape.states _ (λ s. at g.first s *ℤ at vector s)
    (λ s l. ap (λ (z : ℤ). z *ℤ at vector s) (sym (magnitude-is (at g.first s) (weight s l))))
    ∙ ap (λ (n : ℕ). total (λ s. at g.first s *ℤ at vector s) (below n)) (sym game.first.long)
  where
    vector : List ℤ
    vector = (slice_index_or nodes i no_node).vector

    weight : (s : ℕ) → s < g.shape.states → pos 0 ≤ℤ at g.first s
    weight s l = (each-at (IsWithin (pos 0) (pos most_belief)) (pos 0) g.first s game.first.each
        (subst (λ (n : ℕ). s < n) (sym game.first.long) l)).0
