use Rattle.std.proofs.Common.{◌≡◌, Option, length, subst, sym, ◌<◌, ◌∙◌, rules}
use Rattle.std.proofs.lemmas.List.{get_or_default}
use Rattle.std.specs.Prelude.{IfSome}
use Rattle.hsvi_trial.specs.Remembered.{AreLowerSides, IsLowerSide}
use Rattle.hsvi_trial.specs.declared.memory.LowerSide.{LowerSide}
use Rattle.hsvi_trial.proofs.Remembering.{lower-forgotten, lower-recalled}
use Rattle.hsvi_trial.proofs.memory.recall_lower.Goals as goal

pub returns-then-is_lower_at-clause-sides : goal.returns-then-is_lower_at-clause-sides
returns-then-is_lower_at-clause-sides c =
    lower-forgotten c.args._game.now c.args.nodes.now.members c.loop-i.sides.items c.loop-i.i c.take.new.self
    (subst (AreLowerSides c.args._game.now c.args.nodes.now.members) (sym c.loop-i.invariant) c.requires.sides) c.take.ensures.after

pub returns-then-is_lower_at-clause-made : goal.returns-then-is_lower_at-clause-made
returns-then-is_lower_at-clause-made c =
    let each = subst (AreLowerSides c.args._game.now c.args.nodes.now.members) (sym c.loop-i.invariant) c.requires.sides in
    let inside : c.loop-i.i < length c.loop-i.sides.items = search rules in
    let taken = c.take.ensures.value ∙ c.index_mut.ensures.value in
    let same = c.index.ensures ∙ get_or_default c.loop-i.sides.items c.loop-i.i c.index.result.now c.index_mut.result.now inside ∙ sym taken in
    lower-recalled c.args._game.now c.args.nodes.now.members c.args.belief.now c.len.result c.take.result
    (subst (λ (o : Option LowerSide). IfSome o (IsLowerSide c.args._game.now c.args.nodes.now.members)) (sym taken) (each c.loop-i.i c.index_mut.result.now inside))
    c.len.ensures.count
    (subst (λ (o : Option LowerSide). IfSome o (λ (s : LowerSide). (s.count ≡ c.len.result) × (s.belief ≡ c.args.belief.now))) same (c.is_lower_at.ensures c.if-is_lower_at.true))
