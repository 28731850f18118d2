use Rattle.std.proofs.Common.{◌≡◌, Option, length, subst, sym, ◌<◌, ◌∙◌, rules}
use Rattle.std.proofs.lemmas.List.{get_or_default}
use Rattle.std.specs.Prelude.{IfSome}
use Rattle.hsvi_trial.specs.Remembered.{AreUpperSides, IsUpperSide}
use Rattle.hsvi_trial.specs.declared.memory.UpperSide.{UpperSide}
use Rattle.hsvi_trial.proofs.Remembering.{upper-forgotten, upper-recalled}
use Rattle.hsvi_trial.proofs.memory.recall_upper.Goals as goal

pub returns-then-is_upper_at-clause-sides : goal.returns-then-is_upper_at-clause-sides
returns-then-is_upper_at-clause-sides c =
    upper-forgotten c.args._game.now c.args.points.now.members c.loop-i.sides.items c.loop-i.i c.take.new.self
    (subst (AreUpperSides c.args._game.now c.args.points.now.members) (sym c.loop-i.invariant) c.requires.sides) c.take.ensures.after

pub returns-then-is_upper_at-clause-made : goal.returns-then-is_upper_at-clause-made
returns-then-is_upper_at-clause-made c =
    let each = subst (AreUpperSides c.args._game.now c.args.points.now.members) (sym c.loop-i.invariant) c.requires.sides in
    let inside : c.loop-i.i < length c.loop-i.sides.items = search rules in
    let taken = c.take.ensures.value ∙ c.index_mut.ensures.value in
    let same = c.index.ensures ∙ get_or_default c.loop-i.sides.items c.loop-i.i c.index.result.now c.index_mut.result.now inside ∙ sym taken in
    upper-recalled c.args._game.now c.args.points.now.members c.args.belief.now c.len.result c.take.result
    (subst (λ (o : Option UpperSide). IfSome o (IsUpperSide c.args._game.now c.args.points.now.members)) (sym taken) (each c.loop-i.i c.index_mut.result.now inside))
    c.len.ensures.count
    (subst (λ (o : Option UpperSide). IfSome o (λ (s : UpperSide). (s.count ≡ c.len.result) × (s.belief ≡ c.args.belief.now))) same (c.is_upper_at.ensures c.if-is_upper_at.true))
