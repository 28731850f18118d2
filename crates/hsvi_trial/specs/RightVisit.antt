-- A right visit: what it makes, keeps and chooses is what the rules say on the sets before it.
use Rattle.std.specs.Prelude.{ℕ, suc, ℤ, pos, Bool, IsTrue, IsFalse, List, Some, None, ltb, not, ◌≡◌, ◌↔◌, ◌&&◌}
use Rattle.alpha_set.specs.Nodes.{NodeData}
use Rattle.belief.specs.Reduced.{IsReduced}
use Rattle.controller.specs.Certificates.{FractionData}
use Rattle.game_model.specs.Game.{GameData, numbers}
use Rattle.point_set.specs.Points.{PointData}
use Rattle.backup.specs.LowerVisits.{IsLowerVisit}
use Rattle.backup.specs.UpperVisits.{IsUpperVisit}
use Rattle.stage_game.specs.AdviceData.{LowerAdviceData, UpperAdviceData}
use Rattle.belief.specs.After.{mass_after}
use Rattle.hsvi_trial.specs.Due.{IsCut, IsNodeRefused, KeepsNode, KeepsPoint}
use Rattle.hsvi_trial.specs.Excess.{IsChoice, View}
use Rattle.hsvi_trial.specs.Sets.{Sets}
use Rattle.hsvi_trial.specs.Thresholds.{most_depth, threshold}
use Rattle.hsvi_trial.specs.declared.visits.Visit.{Visit}

-- both advices at a belief, and their members
pub record Made : Type 0 where
  pub lower : LowerAdviceData
  pub node : NodeData
  pub upper : UpperAdviceData
  pub point : PointData

-- what is made at a belief on sets
pub record IsMade (g : GameData) (sets : Sets) (belief : List ℤ) (made : Made) : Type 0 where
  pub lower_is : IsLowerVisit g belief sets.nodes made.lower made.node
  pub upper_is : IsUpperVisit g belief sets.points made.upper made.point

-- whether a visit looks for where to go on: on the way down, not cut, with a discount, and above the greatest depth
abbrev pub looks_on : GameData → Visit → Bool → Bool
looks_on g visit cut = visit.down && (not cut && (ltb 0 (numbers g).discount_over && ltb visit.depth most_depth))

-- what a visit that made this sees, on the sets after it
abbrev pub view_of : GameData → FractionData → Sets → Visit → Made → View
view_of g gap after visit made = record {
  sets = after;
  belief = visit.belief;
  informed = made.lower.informed;
  own = made.upper.own;
  threshold = pos (threshold g gap (suc visit.depth));
}

-- A right visit between the sets before it and after it: it keeps what is due where there is room, is cut where there
-- is none, and chooses the first greatest positive excess.
pub record IsRightVisit (g : GameData) (gap : FractionData) (before after : Sets) (cut : Bool) (visit : Visit) : Type 0 where
  pub made : Made
  pub is_made : IsMade g before visit.belief made
  pub is_cut : IsTrue cut ↔ IsCut before visit.belief made.node made.point
  pub node : KeepsNode before.nodes after.nodes visit.belief made.node visit.node
  pub point : KeepsPoint (IsNodeRefused before.nodes visit.belief made.node) before.points after.points visit.belief made.point visit.point
  pub looks : IsTrue (looks_on g visit cut) → IsChoice g (view_of g gap after visit made) visit.chosen
  pub stays : IsFalse (looks_on g visit cut) → visit.chosen ≡ None

-- where a visit goes on: the belief of the mass that it chose, under the mixes of its lower advice on the sets before
pub record IsNextBelief (g : GameData) (before : Sets) (visit : Visit) (next : List ℤ) : Type 0 where
  pub a : ℕ
  pub o : ℕ
  pub chosen : visit.chosen ≡ Some (a, o)
  pub advice : LowerAdviceData
  pub node : NodeData
  pub is_lower : IsLowerVisit g visit.belief before.nodes advice node
  pub reduced : IsReduced (mass_after g visit.belief advice.informed a o) next
