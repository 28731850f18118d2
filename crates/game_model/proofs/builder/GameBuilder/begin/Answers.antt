use Rattle.std.proofs.Common.{◌≡◌, sym, subst, ap, ◌∙◌, List, ◌++◌, ◌∷◌, []}
use Rattle.std.specs.Prelude.{ℤ, pos, FitsSigned}
use Rattle.std.specs.Int.{w128}
use Rattle.std.proofs.lemmas.Int.{to_z-of_z}
use Rattle.game_model.specs.Build.{IsBuilder, IsGameFront, data_of, with_step}
use Rattle.game_model.specs.Game.{GameData}
use Rattle.game_model.specs.declared.parts.Entry.{Entry}
use Rattle.game_model.proofs.Front.{step-next, data-step}
use Rattle.game_model.proofs.builder.GameBuilder.begin.Goals as goal

pub invariant_of-self-2 : goal.invariant_of-self-2
invariant_of-self-2 c =
    let s = c.self.inside in
    let reward : ℤ = c.args.reward in
    let fits : FitsSigned w128 reward = c.ranges.reward in
    let e : Entry = record { reward = reward; row = c.new-row.result } in
    let items : c.push.new.self.items ≡ s.entries.items ++ e ∷ [] = simp to_z-of_z at c.in_ok-push.ensures.items in
    let after : data_of s.shape s.first.items c.push.new.self.items ≡ with_step (data_of s.shape s.first.items s.entries.items) reward =
    ap (λ (es : List Entry). data_of s.shape s.first.items es) items ∙ data-step s.shape s.first.items s.entries.items e c.new-row.ensures.items in
    subst (λ (g : GameData). IsBuilder g (pos 0)) (sym after)
    (step-next _ c.args.self.now s.filled reward c.self.view_is c.self.invariant c.requires.room c.requires.range c.requires.last c.requires.narrow)

pub returns-clause-begun : goal.returns-clause-begun
returns-clause-begun c =
    let s = c.self.inside in
    let reward : ℤ = c.args.reward in
    let fits : FitsSigned w128 reward = c.ranges.reward in
    let e : Entry = record { reward = reward; row = c.new-row.result } in
    let items : c.push.new.self.items ≡ s.entries.items ++ e ∷ [] = simp to_z-of_z at c.in_ok-push.ensures.items in
    ap (λ (es : List Entry). data_of s.shape s.first.items es) items ∙ data-step s.shape s.first.items s.entries.items e c.new-row.ensures.items
    ∙ ap (λ (g : GameData). with_step g reward) c.self.view_is

pub returns-clause-front : goal.returns-clause-front
returns-clause-front c =
    let s = c.self.inside in
    let reward : ℤ = c.args.reward in
    let fits : FitsSigned w128 reward = c.ranges.reward in
    let e : Entry = record { reward = reward; row = c.new-row.result } in
    let items : c.push.new.self.items ≡ s.entries.items ++ e ∷ [] = simp to_z-of_z at c.in_ok-push.ensures.items in
    let after : data_of s.shape s.first.items c.push.new.self.items ≡ with_step (data_of s.shape s.first.items s.entries.items) reward =
    ap (λ (es : List Entry). data_of s.shape s.first.items es) items ∙ data-step s.shape s.first.items s.entries.items e c.new-row.ensures.items in
    subst IsGameFront (sym after)
    (step-next _ c.args.self.now s.filled reward c.self.view_is c.self.invariant c.requires.room c.requires.range c.requires.last c.requires.narrow).front
