use Rattle.std.proofs.Common.{ℕ}
use Rattle.game_model.specs.Game.{GameData, numbers}
use Rattle.scaled_num.proofs.First.{if-some, none-found}
use Rattle.alpha_set.specs.Faults.{rule_places}
use Rattle.alpha_set.specs.Members.{FailsFirstAmong, FailsFirstBy}
use Rattle.alpha_set.proofs.Rules.{fails-first, stands-from, stands-none}
use Rattle.alpha_set.proofs.stands.first_fault.Goals as goal

pub returns-clause-first : goal.returns-clause-first
returns-clause-first c =
    let g : GameData = c.args.game.now in
    if-some (FailsFirstBy g c.args.node.now c.fill.new.table (rule_places (numbers g))) (FailsFirstAmong g c.args.nodes.now c.args.node.now) c.first_by.result
    (λ place f. fails-first g c.args.nodes.now c.args.node.now c.fill.new.table c.fill.ensures.worths place f) c.first_by.ensures.first

pub returns-clause-none : goal.returns-clause-none
returns-clause-none c =
    let g : GameData = c.args.game.now in (
      λ none. stands-from g c.args.nodes.now c.args.node.now c.fill.new.table c.fill.ensures.worths (c.first_by.ensures.none none),
      λ stands. none-found (FailsFirstAmong g c.args.nodes.now c.args.node.now) c.first_by.result (λ place f. stands-none g c.args.nodes.now c.args.node.now stands place f) (returns-clause-first c),
    )
