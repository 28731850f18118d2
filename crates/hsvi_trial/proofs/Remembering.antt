-- What is remembered stays right while visits keep members, and may be used where there are as many.
use Rattle.std.proofs.Common.{◌≡◌, ℕ, ◌+◌, List, Option, Some, None, [], ◌∷◌, length, ap, sym, subst, ◌∙◌, arith, length-append}
use Rattle.std.proofs.lemmas.List.Elements.{All-set}
use Rattle.std.specs.List.{All}
use Rattle.std.specs.Prelude.{ℤ, IfSome, slice_set}
use Rattle.alpha_set.specs.Members.{node_data}
use Rattle.alpha_set.specs.Nodes.{NodeData}
use Rattle.alpha_set.specs.declared.nodes.Node.{Node}
use Rattle.game_model.specs.Game.{GameData}
use Rattle.point_set.specs.Members.{point_data}
use Rattle.point_set.specs.Points.{PointData}
use Rattle.point_set.specs.declared.points.Point.{Point}
use Rattle.stage_game.specs.AdviceData.{LowerAdviceData, UpperAdviceData}
use Rattle.stage_game.specs.Data.{lower_data, upper_data}
use Rattle.hsvi_trial.specs.Due.{KeepsNode, KeepsPoint}
use Rattle.hsvi_trial.specs.Remembered.{AreLowerSides, AreUpperSides, IsLowerMade, IsLowerSide, IsMemory, IsUpperMade, IsUpperSide, left_of}
use Rattle.hsvi_trial.specs.declared.memory.LowerSide.{LowerSide}
use Rattle.hsvi_trial.specs.declared.memory.Memory.{Memory}
use Rattle.hsvi_trial.specs.declared.memory.UpperSide.{UpperSide}

-- ---- a side is remembered
pub lower-remembered : (g : GameData) (nodes : List NodeData) (sides : List (Option LowerSide)) (i : ℕ) (side : LowerSide) → AreLowerSides g nodes sides → side.count ≡ length nodes →
    IsLowerMade g nodes side.belief (lower_data side.advice) (node_data side.node) → AreLowerSides g nodes (slice_set sides i (Some side))
lower-remembered g nodes sides i side each count made =
    All-set (λ (s : Option LowerSide). IfSome s (IsLowerSide g nodes)) sides i (Some side) (record { few = omega (arith, count); right = λ _. made }) each

pub upper-remembered : (g : GameData) (points : List PointData) (sides : List (Option UpperSide)) (i : ℕ) (side : UpperSide) → AreUpperSides g points sides → side.count ≡ length points →
    IsUpperMade g points side.belief (upper_data side.advice) (point_data side.point) → AreUpperSides g points (slice_set sides i (Some side))
upper-remembered g points sides i side each count made =
    All-set (λ (s : Option UpperSide). IfSome s (IsUpperSide g points)) sides i (Some side) (record { few = omega (arith, count); right = λ _. made }) each

-- ---- a visit keeps a member
some-more : {X : Type 0} (P Q : X → Type 0) → ((x : X) → P x → Q x) → (o : Option X) → IfSome o P → IfSome o Q
some-more P Q go None h = h
some-more P Q go (Some x) h = go x h

lower-goes-on : (g : GameData) (before after : List NodeData) (belief : List ℤ) (node : NodeData) (number : Option ℕ) → KeepsNode before after belief node number →
    (side : LowerSide) → IsLowerSide g before side → IsLowerSide g after side
lower-goes-on g before after belief node None keeps side is = subst (λ (ns : List NodeData). IsLowerSide g ns side) (sym keeps.1) is
lower-goes-on g before after belief node (Some n) keeps side is =
    let more : length after ≡ length before + 1 = omega (arith, ap length keeps.3, length-append before (node ∷ [])) in
    record { few = omega (arith, is.few, more); right = λ e. absurd (omega (arith, is.few, more, e)) }

pub lower-sides-go-on : (g : GameData) (before after : List NodeData) (belief : List ℤ) (node : NodeData) (number : Option ℕ) → KeepsNode before after belief node number →
    (sides : List (Option LowerSide)) → AreLowerSides g before sides → AreLowerSides g after sides
lower-sides-go-on g before after belief node number keeps sides each = λ k d l.
    some-more (IsLowerSide g before) (IsLowerSide g after) (lower-goes-on g before after belief node number keeps) _ (each k d l)

upper-goes-on : (Refused : Type 0) (g : GameData) (before after : List PointData) (belief : List ℤ) (point : PointData) (number : Option ℕ) → KeepsPoint Refused before after belief point number →
    (side : UpperSide) → IsUpperSide g before side → IsUpperSide g after side
upper-goes-on Refused g before after belief point None keeps side is = subst (λ (ps : List PointData). IsUpperSide g ps side) (sym keeps.1) is
upper-goes-on Refused g before after belief point (Some n) keeps side is =
    let more : length after ≡ length before + 1 = omega (arith, ap length keeps.4, length-append before (point ∷ [])) in
    record { few = omega (arith, is.few, more); right = λ e. absurd (omega (arith, is.few, more, e)) }

pub upper-sides-go-on : (Refused : Type 0) (g : GameData) (before after : List PointData) (belief : List ℤ) (point : PointData) (number : Option ℕ) → KeepsPoint Refused before after belief point number →
    (sides : List (Option UpperSide)) → AreUpperSides g before sides → AreUpperSides g after sides
upper-sides-go-on Refused g before after belief point number keeps sides each = λ k d l.
    some-more (IsUpperSide g before) (IsUpperSide g after) (upper-goes-on Refused g before after belief point number keeps) _ (each k d l)

-- ---- what is left of a visit is right on the sets after it
pub lower-left : (g : GameData) (before after : List NodeData) (belief : List ℤ) (advice : LowerAdviceData) (node : Node) (number : Option ℕ) (left : Option Node) →
    KeepsNode before after belief (node_data node) number → left ≡ left_of number node → IsLowerMade g before belief advice (node_data node) →
    IfSome left (λ (x : Node). IsLowerMade g after belief advice (node_data x))
lower-left g before after belief advice node None left keeps is made =
    subst (λ (o : Option Node). IfSome o (λ (x : Node). IsLowerMade g after belief advice (node_data x))) (sym is)
    (subst (λ (ns : List NodeData). IsLowerMade g ns belief advice (node_data node)) (sym keeps.1) made)
lower-left g before after belief advice node (Some n) left keeps is made =
    subst (λ (o : Option Node). IfSome o (λ (x : Node). IsLowerMade g after belief advice (node_data x))) (sym is) tt

pub upper-left : (Refused : Type 0) (g : GameData) (before after : List PointData) (belief : List ℤ) (advice : UpperAdviceData) (point : Point) (number : Option ℕ) (left : Option Point) →
    KeepsPoint Refused before after belief (point_data point) number → left ≡ left_of number point → IsUpperMade g before belief advice (point_data point) →
    IfSome left (λ (x : Point). IsUpperMade g after belief advice (point_data x))
upper-left Refused g before after belief advice point None left keeps is made =
    subst (λ (o : Option Point). IfSome o (λ (x : Point). IsUpperMade g after belief advice (point_data x))) (sym is)
    (subst (λ (ps : List PointData). IsUpperMade g ps belief advice (point_data point)) (sym keeps.1) made)
upper-left Refused g before after belief advice point (Some n) left keeps is made =
    subst (λ (o : Option Point). IfSome o (λ (x : Point). IsUpperMade g after belief advice (point_data x))) (sym is) tt

-- ---- nothing is remembered at first
nothing : {X : Type 0} (P : X → Type 0) (o : Option X) → o ≡ None → IfSome o P
nothing P o e = subst (λ (x : Option _). IfSome x P) (sym e) tt

pub memory-new : (g : GameData) (nodes : List NodeData) (points : List PointData) (memory : Memory) → All (λ side. side ≡ None) memory.lower.items → All (λ side. side ≡ None) memory.upper.items →
    IsMemory g nodes points memory
memory-new g nodes points memory lower upper = record {
  lower = λ k d l. nothing (IsLowerSide g nodes) _ (lower k d l);
  upper = λ k d l. nothing (IsUpperSide g points) _ (upper k d l);
}

-- ---- a side is recalled
pub lower-forgotten : (g : GameData) (nodes : List NodeData) (sides : List (Option LowerSide)) (i : ℕ) (gone : Option LowerSide) → AreLowerSides g nodes sides → gone ≡ None → AreLowerSides g nodes (slice_set sides i gone)
lower-forgotten g nodes sides i gone each none = All-set (λ (s : Option LowerSide). IfSome s (IsLowerSide g nodes)) sides i gone (nothing (IsLowerSide g nodes) gone none) each

pub upper-forgotten : (g : GameData) (points : List PointData) (sides : List (Option UpperSide)) (i : ℕ) (gone : Option UpperSide) → AreUpperSides g points sides → gone ≡ None → AreUpperSides g points (slice_set sides i gone)
upper-forgotten g points sides i gone each none = All-set (λ (s : Option UpperSide). IfSome s (IsUpperSide g points)) sides i gone (nothing (IsUpperSide g points) gone none) each

pub lower-recalled : (g : GameData) (nodes : List NodeData) (belief : List ℤ) (count : ℕ) (side : Option LowerSide) → IfSome side (IsLowerSide g nodes) → count ≡ length nodes →
    IfSome side (λ (s : LowerSide). (s.count ≡ count) × (s.belief ≡ belief)) → IfSome side (λ (s : LowerSide). IsLowerMade g nodes belief (lower_data s.advice) (node_data s.node))
lower-recalled g nodes belief count None is few at = tt
lower-recalled g nodes belief count (Some s) is few at = subst (λ (b : List ℤ). IsLowerMade g nodes b (lower_data s.advice) (node_data s.node)) at.1 (is.right (at.0 ∙ few))

pub upper-recalled : (g : GameData) (points : List PointData) (belief : List ℤ) (count : ℕ) (side : Option UpperSide) → IfSome side (IsUpperSide g points) → count ≡ length points →
    IfSome side (λ (s : UpperSide). (s.count ≡ count) × (s.belief ≡ belief)) → IfSome side (λ (s : UpperSide). IsUpperMade g points belief (upper_data s.advice) (point_data s.point))
upper-recalled g points belief count None is few at = tt
upper-recalled g points belief count (Some s) is few at = subst (λ (b : List ℤ). IsUpperMade g points b (upper_data s.advice) (point_data s.point)) at.1 (is.right (at.0 ∙ few))
