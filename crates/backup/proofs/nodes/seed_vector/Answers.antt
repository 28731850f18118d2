use Rattle.std.proofs.Common.{◌≡◌, ◌∙◌, List, length, sym, subst}
use Rattle.std.specs.Prelude.{ℤ}
use Rattle.game_model.specs.Game.{GameData, numbers, span}
use Rattle.game_model.specs.Seeds.{IsSeed}
use Rattle.scaled_num.specs.Share.{at}
use Rattle.backup.specs.Steps.{IsSeedVector}
use Rattle.backup.proofs.Places.{front-is}
use Rattle.backup.proofs.nodes.seed_vector.Goals as goal

pub returns : goal.returns
returns c =
    let g : GameData = c.args.game.now in
    let items : List ℤ = c.in_ok-vector.vector.items in
    let out : List ℤ = c.steady.new.out in
    let count : length out ≡ c.in_ok-vector.vector.len = c.steady.auto.out ∙ c.deref_mut.ensures.len in
    let seed : IsSeed (numbers g) (span g) c.args.a (at out) = assumption c.steady.ensures.seed in
    subst (IsSeedVector g c.args.a) (sym (front-is out items c.in_ok-vector.vector.len count))
    (record { long = count ∙ c.in_ok-vector.ensures.len ∙ c.states.ensures; seed = seed })
