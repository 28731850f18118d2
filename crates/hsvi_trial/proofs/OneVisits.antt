-- A right visit is one: at a belief and a depth, on the same sets, it keeps, refuses and chooses one thing.
use Rattle.std.proofs.Common.{◌≡◌, ℕ, Bool, true, false, List, Option, None, inl, inr, refl, ap, ap₂, sym, subst, ◌∙◌}
use Rattle.std.specs.Prelude.{ℤ, IsTrue, IsFalse}
use Rattle.std.proofs.lemmas.Bool.{cases_Bool}
use Rattle.alpha_set.specs.Nodes.{NodeData}
use Rattle.controller.specs.Certificates.{FractionData}
use Rattle.game_model.specs.Game.{GameData}
use Rattle.point_set.specs.Points.{PointData}
use Rattle.backup.specs.LowerVisits.{IsLowerVisit}
use Rattle.backup.specs.UpperVisits.{IsUpperVisit}
use Rattle.stage_game.specs.AdviceData.{LowerAdviceData, UpperAdviceData}
use Rattle.hsvi_trial.specs.Due.{IsCut, IsNodeRefused, KeepsNode, KeepsPoint}
use Rattle.hsvi_trial.specs.Excess.{IsChoice}
use Rattle.hsvi_trial.specs.RightVisit.{IsMade, IsRightVisit, Made, looks_on, view_of}
use Rattle.hsvi_trial.specs.Sets.{Sets}
use Rattle.hsvi_trial.specs.declared.visits.Visit.{Visit}
use Rattle.hsvi_trial.proofs.OneChoices.{choice-one}
use Rattle.hsvi_trial.proofs.OneKept.{node-kept_one, point-kept_one}

-- what a game's lower visits are is one, and what its upper visits are
abbrev pub LowersAreOne : GameData → Type 0
LowersAreOne g =
    (belief : List ℤ) (nodes : List NodeData) (advice other : LowerAdviceData) (node other_node : NodeData) →
    IsLowerVisit g belief nodes advice node → IsLowerVisit g belief nodes other other_node → (advice ≡ other) × (node ≡ other_node)

abbrev pub UppersAreOne : GameData → Type 0
UppersAreOne g =
    (belief : List ℤ) (points : List PointData) (advice other : UpperAdviceData) (point other_point : PointData) →
    IsUpperVisit g belief points advice point → IsUpperVisit g belief points other other_point → (advice ≡ other) × (point ≡ other_point)

pub record VisitsAreOne (g : GameData) : Type 0 where
  pub lower : LowersAreOne g
  pub upper : UppersAreOne g

pub made-one : (g : GameData) (sets : Sets) (belief : List ℤ) (made other : Made) → VisitsAreOne g → IsMade g sets belief made → IsMade g sets belief other → made ≡ other
made-one g sets belief made other one p q =
    let low = one.lower belief sets.nodes made.lower other.lower made.node other.node p.lower_is q.lower_is in
    let high = one.upper belief sets.points made.upper other.upper made.point other.point p.upper_is q.upper_is in
    ap₂ (λ (l : LowerAdviceData) (n : NodeData). whole l n made.upper made.point) low.0 low.1
    ∙ ap₂ (λ (u : UpperAdviceData) (p : PointData). whole other.lower other.node u p) high.0 high.1
  where
    whole : LowerAdviceData → NodeData → UpperAdviceData → PointData → Made
    whole l n u p = record { lower = l; node = n; upper = u; point = p }

-- a flag that tells one thing is one
flag-one : (P : Type 0) (flag other : Bool) → (IsTrue flag → P) → (P → IsTrue flag) → (IsTrue other → P) → (P → IsTrue other) → flag ≡ other
flag-one P true other a b c d = sym (d (a refl))
flag-one P false true a b c d = b (c refl)
flag-one P false false a b c d = refl

-- a visit with other things kept and chosen
abbrev pub changed : Visit → Option ℕ → Option ℕ → Option (ℕ × ℕ) → Visit
changed visit node point chosen = record visit { node = node; point = point; chosen = chosen }

-- what two right visits at one place have in common
pub record AreSame (after others : Sets) (cut other_cut : Bool) (visit other : Visit) : Type 0 where
  pub sets : after ≡ others
  pub cut_is : cut ≡ other_cut
  pub node_is : visit.node ≡ other.node
  pub point_is : visit.point ≡ other.point
  pub chosen_is : visit.chosen ≡ other.chosen

chosen-at : (g : GameData) (gap : FractionData) (after : Sets) (cut : Bool) (visit : Visit) (made : Made) (chosen other : Option (ℕ × ℕ)) →
    (IsTrue (looks_on g visit cut) → IsChoice g (view_of g gap after visit made) chosen) → (IsFalse (looks_on g visit cut) → chosen ≡ None) →
    (IsTrue (looks_on g visit cut) → IsChoice g (view_of g gap after visit made) other) → (IsFalse (looks_on g visit cut) → other ≡ None) → chosen ≡ other
chosen-at g gap after cut visit made chosen other a b c d = elim (cases_Bool (looks_on g visit cut)) [
  | inl looks ↦ choice-one g (view_of g gap after visit made) chosen other (a looks) (c looks)
  | inr stays ↦ b stays ∙ sym (d stays)
]

pub right-at : (g : GameData) (gap : FractionData) (before after others : Sets) (cut other_cut : Bool) (visit : Visit) (node point : Option ℕ) (chosen : Option (ℕ × ℕ)) →
    VisitsAreOne g → IsRightVisit g gap before after cut visit → IsRightVisit g gap before others other_cut (changed visit node point chosen) →
    AreSame after others cut other_cut visit (changed visit node point chosen)
right-at g gap before after others cut other_cut visit node point chosen one p q = record {
  sets = sets;
  cut_is = cut_is;
  node_is = nodes.0;
  point_is = points.0;
  chosen_is = chosen-at g gap after cut visit p.made visit.chosen chosen p.looks p.stays
      (subst (λ (m : Made). IsTrue (looks_on g visit cut) → IsChoice g (view_of g gap after visit m) chosen) (sym made)
      (subst (λ (s : Sets). IsTrue (looks_on g visit cut) → IsChoice g (view_of g gap s visit q.made) chosen) (sym sets)
      (subst (λ (c : Bool). IsTrue (looks_on g visit c) → IsChoice g (view_of g gap others visit q.made) chosen) (sym cut_is) q.looks)))
      (subst (λ (c : Bool). IsFalse (looks_on g visit c) → chosen ≡ None) (sym cut_is) q.stays);
}
  where
    made : p.made ≡ q.made
    made = made-one g before visit.belief p.made q.made one p.is_made q.is_made

    nodes : (visit.node ≡ node) × (after.nodes ≡ others.nodes)
    nodes = node-kept_one before.nodes after.nodes others.nodes visit.belief p.made.node visit.node node p.node
        (subst (λ (m : Made). KeepsNode before.nodes others.nodes visit.belief m.node node) (sym made) q.node)

    points : (visit.point ≡ point) × (after.points ≡ others.points)
    points = point-kept_one (IsNodeRefused before.nodes visit.belief p.made.node) before.points after.points others.points visit.belief p.made.point visit.point point p.point
        (subst (λ (m : Made). KeepsPoint (IsNodeRefused before.nodes visit.belief m.node) before.points others.points visit.belief m.point point) (sym made) q.point)

    sets : after ≡ others
    sets = ap₂ (λ (ns : List NodeData) (ps : List PointData). both ns ps) nodes.1 points.1
      where
        both : List NodeData → List PointData → Sets
        both ns ps = record { nodes = ns; points = ps }

    cut_is : cut ≡ other_cut
    cut_is = flag-one (IsCut before visit.belief p.made.node p.made.point) cut other_cut p.is_cut.0 p.is_cut.1
        (subst (λ (m : Made). IsTrue other_cut → IsCut before visit.belief m.node m.point) (sym made) q.is_cut.0)
        (subst (λ (m : Made). IsCut before visit.belief m.node m.point → IsTrue other_cut) (sym made) q.is_cut.1)

-- two visits of the same trial at one place
pub record AreAlike (visit other : Visit) : Type 0 where
  pub trial_is : visit.trial ≡ other.trial
  pub depth_is : visit.depth ≡ other.depth
  pub belief_is : visit.belief ≡ other.belief
  pub down_is : visit.down ≡ other.down

-- the second one is the first with other things kept and chosen
alike-is : (visit other : Visit) → AreAlike visit other → other ≡ changed visit other.node other.point other.chosen
alike-is visit other alike =
    ap (λ (t : ℕ). whole t other.depth other.belief other.down) (sym alike.trial_is)
    ∙ ap (λ (d : ℕ). whole visit.trial d other.belief other.down) (sym alike.depth_is)
    ∙ ap (λ (b : List ℤ). whole visit.trial visit.depth b other.down) (sym alike.belief_is)
    ∙ ap (λ (w : Bool). whole visit.trial visit.depth visit.belief w) (sym alike.down_is)
  where
    whole : ℕ → ℕ → List ℤ → Bool → Visit
    whole t d b w = record { trial = t; depth = d; belief = b; down = w; node = other.node; point = other.point; chosen = other.chosen }

kept-same : (visit : Visit) (node point : Option ℕ) (chosen : Option (ℕ × ℕ)) → visit.node ≡ node → visit.point ≡ point → visit.chosen ≡ chosen → visit ≡ changed visit node point chosen
kept-same visit node point chosen a b c =
    ap (λ (n : Option ℕ). changed visit n visit.point visit.chosen) a
    ∙ ap (λ (p : Option ℕ). changed visit node p visit.chosen) b
    ∙ ap (λ (c : Option (ℕ × ℕ)). changed visit node point c) c

-- two right visits at one place on the same sets
pub record AreOne (after others : Sets) (cut other_cut : Bool) (visit other : Visit) : Type 0 where
  pub sets : after ≡ others
  pub cut_is : cut ≡ other_cut
  pub visit_is : visit ≡ other

pub right-one : (g : GameData) (gap : FractionData) (before after others : Sets) (cut other_cut : Bool) (visit other : Visit) →
    VisitsAreOne g → AreAlike visit other → IsRightVisit g gap before after cut visit → IsRightVisit g gap before others other_cut other → AreOne after others cut other_cut visit other
right-one g gap before after others cut other_cut visit other one alike p q =
    let same = right-at g gap before after others cut other_cut visit other.node other.point other.chosen one p
    (subst (λ (v : Visit). IsRightVisit g gap before others other_cut v) (alike-is visit other alike) q) in record {
      sets = same.sets;
      cut_is = same.cut_is;
      visit_is = kept-same visit other.node other.point other.chosen same.node_is same.point_is same.chosen_is ∙ sym (alike-is visit other alike);
    }
