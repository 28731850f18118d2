-- The seeds of a game serve its stage programs.
use Rattle.std.proofs.Common.{◌≡◌, ℕ, zero, suc, ◌+◌, ◌<◌, ◌≤◌, ◌⊎◌, inl, inr, true, false, ◌==◌, List, [], ◌∷◌, ◌++◌, get_or, length, map, refl, ap, arith, length-append, subst, sym, ◌∙◌}
use Rattle.std.specs.Prelude.{ℤ, pos, ◌≤ℤ◌, unsigned_abs}
use Rattle.std.specs.List.{AllByRecursion}
use Rattle.std.proofs.lemmas.Bool.Decides.{eqb_tells}
use Rattle.std.proofs.lemmas.Int.{ints}
use Rattle.std.proofs.lemmas.List.{append-nil, get_or_append_left, length-set, length-replicate}
use Rattle.std.proofs.lemmas.List.FromFn.{get_or-map-range_with_len, length-map-range_with_len}
use Rattle.scaled_num.specs.Share.{at}
use Rattle.scaled_num.specs.Sums.{below, sum_of}
use Rattle.scaled_num.proofs.Sums.{each-append}
use Rattle.game_model.specs.Branches.{IsBranch, mix_total}
use Rattle.game_model.specs.Game.{GameData, IsBelief, IsGame, numbers}
use Rattle.game_model.proofs.Pay.{each-from}
use Rattle.alpha_set.specs.Members.{most_nodes}
use Rattle.alpha_set.specs.Nodes.{NodeData, NodeFits}
use Rattle.belief.specs.Beliefs.{corner_of}
use Rattle.belief.specs.Mixes.{MixesData, pure_mixes}
use Rattle.belief.proofs.Choices.{pure-mixes}
use Rattle.backup.specs.Seeds.{AreSeedNodes, AreSeedPoints, corner_points, corner_split}
use Rattle.point_set.specs.Corners.{HasCorner, IsAtCorner, point_at}
use Rattle.point_set.specs.Members.{most_points}
use Rattle.point_set.specs.Points.{PointData, PointFits, no_point}
use Rattle.point_set.proofs.CornerNumbers.{is-sure, sure-sum}
use Rattle.point_set.proofs.Fitting.{fits-more}
use Rattle.stage_game.specs.Asked.{BeliefFits, NodesServe, PointsServe}
use Rattle.stage_game.specs.Fits.{MixesFit}
use Rattle.stage_game.proofs.UpperEnds.{some-part}

node-more : (g : GameData) (few many : ℕ) (node : NodeData) → few ≤ many → NodeFits g few node → NodeFits g many node
node-more g few many node l h = record {
  long = h.long;
  entries = h.entries;
  mix = h.mix;
  next = record {
    rising = h.next.rising;
    each = each-from (IsBranch (numbers g) few (pos mix_total)) (IsBranch (numbers g) many (pos mix_total)) node.next (λ b i. record { own = i.own; seen = i.seen; member = omega arith; weight = i.weight }) h.next.each;
  };
  sums = h.sums;
}

pub nodes-serve : (g : GameData) → IsGame g → (nodes : List NodeData) → AreSeedNodes g nodes → AllByRecursion (NodeFits g (length nodes)) nodes → length nodes ≤ most_nodes → NodesServe g nodes
nodes-serve g h nodes seeds fit few = record {
  some = some g.shape.own_actions h.shape.own_actions.0 seeds.count;
  fit = each-from (NodeFits g (length nodes)) (NodeFits g most_nodes) nodes (λ node f. node-more g (length nodes) most_nodes node few f) fit;
}
  where
    some : (n : ℕ) → 1 ≤ n → length nodes ≡ n → 1 ≤ length nodes
    some n l e = omega arith

corner-long : (n s : ℕ) → length (corner_of n s) ≡ n
corner-long n s = length-set _ s (pos 1) ∙ length-replicate n (pos 0)

corner-there : (g : GameData) (values : List ℤ) (mixes : MixesData) (rest : List PointData) (s : ℕ) → s < g.shape.states → HasCorner (corner_points g values mixes ++ rest) s
corner-there g values mixes rest s l =
    let n : ℕ = g.shape.states in
    let made : ℕ → PointData = λ s. corner_split g (corner_of n s) (at values s) mixes in
    let long : length (corner_points g values mixes) ≡ n = length-map-range_with_len made 0 n in
    let inside : s < length (corner_points g values mixes) = subst (λ (m : ℕ). s < m) (sym long) l in
    let is : point_at (corner_points g values mixes ++ rest) s ≡ made s =
    get_or_append_left (corner_points g values mixes) rest no_point s inside ∙ get_or-map-range_with_len made 0 n s s no_point l (omega arith) in
    record {
      number = s;
      inside = omega (arith, length-append (corner_points g values mixes) rest);
      corner = subst (IsAtCorner s) (sym is) (record {
        state = subst (λ (m : ℕ). s < m) (sym (corner-long n s)) l;
        belief = ap (λ (m : ℕ). corner_of m s) (sym (corner-long n s));
      });
    }

abbrev IsSureOf : List ℤ → Type 0
IsSureOf belief = (s : ℕ) × (s < length belief) × (belief ≡ corner_of (length belief) s)

sure-or-not : (belief : List ℤ) → IsBelief (length belief) belief → IsSureOf belief ⊎ (IsSureOf belief → ⊥)
sure-or-not belief right = by (eqb_tells (unsigned_abs (sum_of belief)) 1)
  where
    one : (z : ℤ) → pos 1 ≤ℤ z → unsigned_abs z ≡ 1 → z ≡ pos 1
    one z l e = omega (arith, ints)

    by : (((unsigned_abs (sum_of belief) == 1) ≡ true) × (unsigned_abs (sum_of belief) ≡ 1)) ⊎ (((unsigned_abs (sum_of belief) == 1) ≡ false) × (unsigned_abs (sum_of belief) ≡ 1 → ⊥)) → IsSureOf belief ⊎ (IsSureOf belief → ⊥)
    by (inl e) =
        let sum : sum_of belief ≡ pos 1 = one (sum_of belief) right.sums.0 e.1 in
        let place = some-part belief right.each sum in
        let sure = is-sure belief place.0 right place.1 place.2 sum in
        inl (place.0, place.1, sure.parts)
    by (inr e) = inr (λ sure. e.1 (ap unsigned_abs (sure-sum belief sure.0 (record { state = sure.1; parts = sure.2 }))))

pub points-serve : (g : GameData) → IsGame g → (points : List PointData) → AreSeedPoints g points → AllByRecursion (PointFits g (length points)) points → length points ≤ most_points → PointsServe g points
points-serve g h points seeds fit few = record {
  corners = by (sure-or-not g.first (subst (λ (n : ℕ). IsBelief n g.first) (sym h.first.long) h.first));
  fit = each-from (PointFits g (length points)) (PointFits g most_points) points (λ point f. fits-more g (length points) most_points point few f) fit;
}
  where
    by : IsSureOf g.first ⊎ (IsSureOf g.first → ⊥) → (s : ℕ) → s < g.shape.states → HasCorner points s
    by (inl sure) s l =
        subst (λ (ps : List PointData). HasCorner ps s) (append-nil (corner_points g seeds.values (pure_mixes g seeds.replies)) ∙ sym (seeds.sure sure))
        (corner-there g seeds.values (pure_mixes g seeds.replies) [] s l)
    by (inr unsure) s l =
        let root = seeds.unsure unsure in
        subst (λ (ps : List PointData). HasCorner ps s) (sym root.2) (corner-there g seeds.values (pure_mixes g seeds.replies) (root.0 ∷ []) s l)

-- the first belief of a game fits it
pub first-fits : (g : GameData) → IsGame g → BeliefFits g g.first
first-fits g h = record { right = h.first; coprime = h.coprime }

-- one member more behind those that fit
pub node-behind : (g : GameData) (nodes : List NodeData) (node : NodeData) → AllByRecursion (NodeFits g most_nodes) nodes → NodeFits g most_nodes node → NodesServe g (nodes ++ node ∷ [])
node-behind g nodes node all one = record {
  some = omega (arith, length-append nodes (node ∷ []));
  fit = each-append (NodeFits g most_nodes) nodes (node ∷ []) all (one, tt);
}

pub corner-kept : (points : List PointData) (point : PointData) (s : ℕ) → HasCorner points s → HasCorner (points ++ point ∷ []) s
corner-kept points point s h = record {
  number = h.number;
  inside = (let l = h.inside in omega (arith, length-append points (point ∷ [])));
  corner = subst (IsAtCorner s) (sym (get_or_append_left points (point ∷ []) no_point h.number h.inside)) h.corner;
}

pub both-states : (P : ℕ → Type 0) → P 0 → P 1 → (s : ℕ) → s < 2 → P s
both-states P first second zero l = first
both-states P first second (suc zero) l = second
both-states P first second (suc (suc s)) l = absurd (omega arith)

-- mixes that surely play one action
pub only-fit : (g : GameData) (choice : List ℕ) → length choice ≡ g.shape.states → AllByRecursion (λ chosen. chosen < g.shape.informed_actions) choice → MixesFit g (pure_mixes g choice)
only-fit g choice long right = record { states = refl; actions = refl; right = pure-mixes g choice long right }

-- a set with a new member still serves
pub nodes-kept : (g : GameData) (nodes : List NodeData) (node : NodeData) → length nodes ≤ most_nodes → NodesServe g nodes → NodeFits g (length nodes) node → NodesServe g (nodes ++ node ∷ [])
nodes-kept g nodes node few serve fits = node-behind g nodes node serve.fit (node-more g (length nodes) most_nodes node few fits)

pub points-kept : (g : GameData) (points : List PointData) (point : PointData) → length points ≤ most_points → PointsServe g points → PointFits g (length points) point → PointsServe g (points ++ point ∷ [])
points-kept g points point few serve fits = record {
  corners = λ s l. corner-kept points point s (serve.corners s l);
  fit = each-append (PointFits g most_points) points (point ∷ []) serve.fit (fits-more g (length points) most_points point few fits, tt);
}
