-- The rows of points, made of their parts.
use Rattle.std.proofs.Common.{◌≡◌, ℕ, suc, ◌+◌, ◌<◌, Bool, cond, ◌==◌, ◌&&◌, List, [], ◌∷◌, get_or, length, map, refl, ap, arith, sym, subst, ◌∙◌}
use Rattle.std.specs.Prelude.{ℤ, pos, ◌*ℤ◌}
use Rattle.std.specs.List.{AllByRecursion, range_with_len}
use Rattle.std.proofs.lemmas.List.FromFn.{get_or-map-range_with_len, length-map-range_with_len}
use Rattle.scaled_num.specs.Share.{at}
use Rattle.scaled_num.specs.Sums.{below, sum_of}
use Rattle.scaled_num.proofs.Sums.{below-each, each-append, each-flat_map, each-map}
use Rattle.game_model.specs.Game.{GameData}
use Rattle.point_set.specs.Corners.{point_at}
use Rattle.point_set.specs.Points.{PointData}
use Rattle.stage_game.specs.Masses.{over_pairs}
use Rattle.stage_game.specs.PairRow.{IsPairRow}
use Rattle.stage_game.specs.Pairs.{pairs}
use Rattle.stage_game.specs.PointParts.{Part, part_data, part_of, part_row}
use Rattle.stage_game.specs.declared.upper.PointPart.{PointPart}
use Rattle.stage_game.specs.Scaling.{floor_of, scale}
use Rattle.stage_game.specs.UpperProgram.{point_row}
use Rattle.stage_game.specs.Variables.{GoesOn, Plays, Variable, WorthOf, variables}
use Rattle.stage_game.proofs.Appends.{map-both, map-same, over-pairs}
use Rattle.stage_game.proofs.GoingOn.{both-same, not-both, other-number, same-number}

-- a list, entry by entry
places-from : (f : ℕ → ℤ) (xs : List ℤ) (a : ℕ) → ((i : ℕ) → i < length xs → f (a + i) ≡ get_or xs i (pos 0)) → map f (range_with_len a (length xs)) ≡ xs
places-from f [] a h = refl
places-from f (x ∷ xs) a h =
    ap (λ (y : ℤ). y ∷ map f (range_with_len (a + 1) (length xs))) (ap f (omega arith) ∙ h 0 (omega arith))
    ∙ ap (λ (ys : List ℤ). x ∷ ys) (places-from f xs (a + 1) (λ i l. ap f (omega arith) ∙ h (suc i) (omega arith)))

pub places : (f : ℕ → ℤ) (xs : List ℤ) (n : ℕ) → length xs ≡ n → ((i : ℕ) → i < length xs → f i ≡ at xs i) → map f (below n) ≡ xs
places f xs n e h = ap (λ (k : ℕ). map f (below k)) (sym e) ∙ places-from f xs 0 (λ i l. ap f (omega arith) ∙ h i l)

-- a list mapped, entry by entry
pub places-mapped : (f : ℤ → ℤ) (xs : List ℤ) (n : ℕ) → length xs ≡ n → map (λ t. f (at xs t)) (below n) ≡ map f xs
places-mapped f xs n e = sym (map-both f (λ t. at xs t) (below n)) ∙ ap (λ (ys : List ℤ). map f ys) (places (λ t. at xs t) xs n e (λ i l. refl))

-- the row of a part is about one own action and one observation
pub part-is_pair : (part : Part) (a o states : ℕ) → length part.block ≡ states → IsPairRow (part_row part a o) a o part.own (below states) part.block
part-is_pair part a o states long = record {
  worth = λ s. refl;
  action = ap (λ (b : Bool). cond b part.own (pos 0)) (same-number a);
  other_actions = λ b n. ap (λ (t : Bool). cond t part.own (pos 0)) (other-number b a n);
  block_is = places (λ k. part_row part a o (GoesOn a o k)) part.block states long (λ i l. ap (λ (b : Bool). cond b (at part.block i) (pos 0)) (both-same a o));
  elsewhere = λ b p k n. ap (λ (t : Bool). cond t (at part.block k) (pos 0)) (not-both b a p o n);
}

-- the row of a point's part is the row of the point, at each variable
same-at-goes : (g : GameData) (bits : ℕ) (point : PointData) (a o b p t : ℕ) → t < g.shape.states →
    part_row (part_of g bits point) a o (GoesOn b p t) ≡ point_row g bits point a o (GoesOn b p t)
same-at-goes g bits point a o b p t l =
    ap (λ (z : ℤ). cond ((b == a) && (p == o)) z (pos 0))
    (get_or-map-range_with_len (λ t. floor_of (scale bits *ℤ at point.belief t) (sum_of point.belief)) 0 g.shape.states t t (pos 0) l (omega arith))

pub part-row-same : (g : GameData) (bits : ℕ) (point : PointData) (a o : ℕ) →
    map (part_row (part_of g bits point) a o) (variables g (below g.shape.states)) ≡ map (point_row g bits point a o) (variables g (below g.shape.states))
part-row-same g bits point a o =
    let P : Variable → Type 0 = λ v. part_row (part_of g bits point) a o v ≡ point_row g bits point a o v in
    let third : AllByRecursion P (over_pairs g (λ b p. map (GoesOn b p) (below g.shape.states))) =
    subst (AllByRecursion P) (sym (over-pairs (λ b p. map (GoesOn b p) (below g.shape.states)) g.shape.own_actions g.shape.observations))
    (each-flat_map P (λ (q : ℕ × ℕ). map (GoesOn q.0 q.1) (below g.shape.states)) (pairs g.shape.own_actions g.shape.observations) (blocks (pairs g.shape.own_actions g.shape.observations))) in
    map-same (part_row (part_of g bits point) a o) (point_row g bits point a o) (variables g (below g.shape.states))
    (each-append P (map WorthOf (below g.shape.states)) _ (each-map P WorthOf (below g.shape.states) (below-each (λ s. P (WorthOf s)) g.shape.states (λ s l. refl)))
    (each-append P (map Plays (below g.shape.own_actions)) _ (each-map P Plays (below g.shape.own_actions) (below-each (λ b. P (Plays b)) g.shape.own_actions (λ b l. refl))) third))
  where
    blocks : (ps : List (ℕ × ℕ)) → AllByRecursion (λ (q : ℕ × ℕ). AllByRecursion (λ v. part_row (part_of g bits point) a o v ≡ point_row g bits point a o v) (map (GoesOn q.0 q.1) (below g.shape.states))) ps
    blocks [] = tt
    blocks (q ∷ qs) = (
      each-map (λ v. part_row (part_of g bits point) a o v ≡ point_row g bits point a o v) (GoesOn q.0 q.1) (below g.shape.states)
          (below-each (λ t. part_row (part_of g bits point) a o (GoesOn q.0 q.1 t) ≡ point_row g bits point a o (GoesOn q.0 q.1 t)) g.shape.states (λ t l. same-at-goes g bits point a o q.0 q.1 t l)),
      blocks qs,
    )

-- the parts that are made, and their rows
all-mapped : {X : Type 0} (f : X → Part) (P : Part → Type 0) (xs : List X) → AllByRecursion P (map f xs) → AllByRecursion (λ x. P (f x)) xs
all-mapped f P [] h = tt
all-mapped f P (x ∷ xs) h = (h.0, all-mapped f P xs h.1)

abbrev pub all_parts_of : GameData → ℕ → List PointData → List ℕ → List Part
all_parts_of g bits points candidates = map (λ k. part_of g bits (point_at points k)) candidates

pub parts-long : (g : GameData) (bits : ℕ) (points : List PointData) (candidates : List ℕ) (parts : List PointPart) →
    map part_data parts ≡ all_parts_of g bits points candidates → AllByRecursion (λ (part : PointPart). length part.block.items ≡ g.shape.states) parts
parts-long g bits points candidates parts e =
    all-mapped part_data (λ (d : Part). length d.block ≡ g.shape.states) parts (subst (AllByRecursion (λ (d : Part). length d.block ≡ g.shape.states)) (sym e) (each candidates))
  where
    each : (ks : List ℕ) → AllByRecursion (λ (d : Part). length d.block ≡ g.shape.states) (map (λ k. part_of g bits (point_at points k)) ks)
    each [] = tt
    each (k ∷ ks) = (length-map-range_with_len (λ t. floor_of (scale bits *ℤ at (point_at points k).belief t) (sum_of (point_at points k).belief)) 0 g.shape.states, each ks)

pub part-rows-made : (g : GameData) (bits : ℕ) (points : List PointData) (candidates : List ℕ) (parts : List PointPart) (a o : ℕ) →
    map part_data parts ≡ all_parts_of g bits points candidates →
    map (λ (part : PointPart). map (part_row (part_data part) a o) (variables g (below g.shape.states))) parts
    ≡ map (λ k. map (point_row g bits (point_at points k) a o) (variables g (below g.shape.states))) candidates
part-rows-made g bits points candidates parts a o e =
    let row : Part → List ℤ = λ (d : Part). map (part_row d a o) (variables g (below g.shape.states)) in
    sym (map-both row part_data parts)
    ∙ ap (λ (ds : List Part). map row ds) e
    ∙ map-both row (λ k. part_of g bits (point_at points k)) candidates
    ∙ map-same (λ k. row (part_of g bits (point_at points k))) (λ k. map (point_row g bits (point_at points k) a o) (variables g (below g.shape.states))) candidates (each candidates)
  where
    each : (ks : List ℕ) → AllByRecursion (λ k. map (part_row (part_of g bits (point_at points k)) a o) (variables g (below g.shape.states)) ≡ map (point_row g bits (point_at points k) a o) (variables g (below g.shape.states))) ks
    each [] = tt
    each (k ∷ ks) = (part-row-same g bits (point_at points k) a o, each ks)
