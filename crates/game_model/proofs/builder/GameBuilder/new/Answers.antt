use Rattle.std.proofs.Common.{rules, sym, subst, List}
use Rattle.std.specs.Prelude.{pos}
use Rattle.game_model.specs.Build.{IsBuilder, data_of}
use Rattle.game_model.specs.Game.{IsShape, IsBelief}
use Rattle.game_model.specs.declared.parts.Entry.{Entry}
use Rattle.game_model.proofs.Front.{front-new}
use Rattle.game_model.proofs.builder.GameBuilder.new.Goals as goal

pub invariant_of-result : goal.invariant_of-result
invariant_of-result c =
    let shaped : IsShape c.args.shape = search rules in
    let belief : IsBelief c.args.shape.states c.args.first.now = search rules in
    subst (λ (es : List Entry). IsBuilder (data_of c.args.shape c.in-Ok.first.items es) (pos 0)) (sym c.new.ensures.items)
    (front-new c.args.shape c.args.first.now c.in-Ok.first.items shaped belief c.in-Ok.ensures.multiple c.in-Ok.ensures.coprime)

pub returns-clause-front : goal.returns-clause-front
returns-clause-front c =
    let shaped : IsShape c.args.shape = search rules in
    let belief : IsBelief c.args.shape.states c.args.first.now = search rules in
    (subst (λ (es : List Entry). IsBuilder (data_of c.args.shape c.in-Ok.first.items es) (pos 0)) (sym c.new.ensures.items)
    (front-new c.args.shape c.args.first.now c.in-Ok.first.items shaped belief c.in-Ok.ensures.multiple c.in-Ok.ensures.coprime)).front
