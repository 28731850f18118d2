-- Branches that loops write for each own action and observation, and the advice that they make.
use Rattle.std.proofs.Common.{ℕ, ◌<◌, ◌++◌, ◌∷◌, [], List, map, sym, subst, ap, ◌∙◌}
use Rattle.std.specs.Prelude.{ℤ, pos, flat_map}
use Rattle.std.specs.List.{AllByRecursion}
use Rattle.scaled_num.specs.Share.{at}
use Rattle.scaled_num.specs.Sums.{below, total}
use Rattle.alpha_set.specs.Nodes.{IsMix}
use Rattle.game_model.specs.Branches.{AreBranches, AreRising, Branch, IsBranch, branches_at, mix_total}
use Rattle.game_model.specs.Game.{GameData, IsWithin, numbers}
use Rattle.point_set.specs.Points.{PointData}
use Rattle.point_set.specs.Split.{IsWanted}
use Rattle.stage_game.specs.AdviceData.{LowerAdviceData, UpperAdviceData}
use Rattle.stage_game.specs.Fits.{IsPlaced, LowerFits, MixesFit, UpperFits, wanted_at}
use Rattle.stage_game.proofs.Families.{Adds}
use Rattle.stage_game.proofs.Placed.{AllBefore, IsAt, branches-of-pair, each-weaker, over-pairs-each, over-pairs-rising}
use Rattle.closing.specs.Plans.{AddsForEach, AreForPairs, AreInOrder, AreStepsFor, AreWishesFor}

pub for-each : (R : ℕ → List Branch → Type 0) (count : ℕ) (old new : List Branch)
    → Adds {X = List Branch} {Y = Branch} R (λ added. added) count old new → AddsForEach R count old new
for-each R count old new adds = record {
  after = adds.made.value;
  right = adds.made.right;
  same = adds.same ∙ ap (λ (bs : List Branch). old ++ bs) adds.made.same;
}

pub for-pairs : (g : GameData) (R : ℕ → ℕ → List Branch → Type 0) (new : List Branch)
    → Adds {X = ℕ → List Branch} {Y = Branch} (λ a after. (o : ℕ) → o < g.shape.observations → R a o (after o)) (λ after. flat_map after (below g.shape.observations)) g.shape.own_actions [] new
    → AreForPairs g R new
for-pairs g R new adds = record {
  after = adds.made.value;
  right = λ a o la lo. adds.made.right a la o lo;
  same = adds.same ∙ adds.made.same;
}

all-before : (branches : List Branch) → AreInOrder branches → AllBefore branches
all-before [] h = tt
all-before (b ∷ rest) h = (h.0, all-before rest h.1)

each-both : (P Q : Branch → Type 0) (bs : List Branch) → AllByRecursion P bs → AllByRecursion Q bs → AllByRecursion (λ b. P b × Q b) bs
each-both P Q [] p q = tt
each-both P Q (b ∷ bs) p q = ((p.0, q.0), each-both P Q bs p.1 q.1)

-- steps that fit each own action and observation are branches of a node
steps-branches : (g : GameData) (nodes a o : ℕ) (weight : ℤ) (steps : List Branch) → a < g.shape.own_actions → o < g.shape.observations → AreStepsFor nodes a o weight steps
    → AllByRecursion (IsBranch (numbers g) nodes (pos mix_total)) steps
steps-branches g nodes a o weight steps la lo right =
    each-weaker (λ b. IsAt a o b × ((b.member < nodes) × IsWithin (pos 1) (pos mix_total) b.weight)) (IsBranch (numbers g) nodes (pos mix_total))
    (λ b h. record {
      own = subst (λ (k : ℕ). k < g.shape.own_actions) (sym h.0.0) la;
      seen = subst (λ (k : ℕ). k < g.shape.observations) (sym h.0.1) lo;
      member = h.1.0;
      weight = h.1.1;
    }) steps
    (each-both (IsAt a o) (λ b. (b.member < nodes) × IsWithin (pos 1) (pos mix_total) b.weight) steps right.after.places
    (each-both (λ b. b.member < nodes) (λ b. IsWithin (pos 1) (pos mix_total) b.weight) steps right.members right.weights))

pub lower-fits : (g : GameData) (nodes : ℕ) (advice : LowerAdviceData) → IsMix g.shape.own_actions advice.own
    → AreForPairs g (λ a o. AreStepsFor nodes a o (at advice.own a)) advice.next → MixesFit g advice.informed → LowerFits g nodes advice
lower-fits g nodes advice mix next informed = record {
  mix = mix;
  next = subst (AreBranches (numbers g) nodes (pos mix_total)) (sym next.same) (record {
    rising = over-pairs-rising g next.after
        (record { before = λ a o la lo. all-before (next.after a o) (next.right a o la lo).after.order; places = λ a o la lo. (next.right a o la lo).after.places });
    each = over-pairs-each (IsBranch (numbers g) nodes (pos mix_total)) g next.after
        (λ a o la lo. steps-branches g nodes a o (at advice.own a) (next.after a o) la lo (next.right a o la lo));
  });
  sums = λ a o la lo.
      ap (λ (steps : List Branch). total (λ b. b.weight) (branches_at steps a o)) next.same
      ∙ ap (λ (steps : List Branch). total (λ b. b.weight) steps) (branches-of-pair g next.after a o la lo (λ c p lc lp. (next.right c p lc lp).after.places))
      ∙ (next.right a o la lo).sums;
  informed = informed;
}

pub upper-fits : (g : GameData) (points : List PointData) (advice : UpperAdviceData) → IsMix g.shape.own_actions advice.own
    → AreForPairs g (λ a o. AreWishesFor points g.shape.states a o) advice.wanted → MixesFit g advice.informed → UpperFits g points advice
upper-fits g points advice own wanted informed = record {
  informed = informed;
  own = own;
  rising = subst AreRising (sym wanted.same) (over-pairs-rising g wanted.after
      (record { before = λ a o la lo. all-before (wanted.after a o) (wanted.right a o la lo).after.order; places = λ a o la lo. (wanted.right a o la lo).after.places }));
  placed = subst (AllByRecursion (IsPlaced g)) (sym wanted.same)
      (over-pairs-each (IsPlaced g) g wanted.after
      (λ a o la lo. each-weaker (IsAt a o) (IsPlaced g) (λ b h. (subst (λ (k : ℕ). k < g.shape.own_actions) (sym h.0) la, subst (λ (k : ℕ). k < g.shape.observations) (sym h.1) lo)) (wanted.after a o) (wanted.right a o la lo).after.places));
  wanted = λ a o la lo.
      subst (λ (branches : List Branch). IsWanted points g.shape.states (wanted_at branches a o)) (sym wanted.same)
      (subst (λ (branches : List Branch). IsWanted points g.shape.states (map (λ b. (b.member, b.weight)) branches))
      (sym (branches-of-pair g wanted.after a o la lo (λ c p lc lp. (wanted.right c p lc lp).after.places))) (wanted.right a o la lo).wanted);
}
