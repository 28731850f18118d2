use Rattle.std.proofs.Common.{◌≡◌, ◌++◌, List, filter, map, subst}
use Rattle.std.specs.Prelude.{pos, OnOk}
use Rattle.scaled_num.specs.Share.{at}
use Rattle.game_model.specs.Branches.{Branch, branch_of}
use Rattle.backup.specs.Seeds.{has_weight, mass_at}
use Rattle.backup.proofs.ShareLists.{row-same}
use Rattle.backup.proofs.shares.add_seen.Goals as goal

pub returns : goal.returns
returns c =
    let g = c.args.game.now in
    subst (λ (ys : List Branch). OnOk c.add_row.result (map branch_of c.add_row.new.shares.items ≡ map branch_of c.args.shares.now.items ++ filter has_weight ys))
    (row-same (at c.mass.new.out) (λ t. pos (mass_at g c.args.belief.now c.args.mixes.now c.args.a c.args.o t)) c.args.a c.args.o _ g.shape.states c.mass.ensures.places c.mass.ensures.exact)
    c.add_row.ensures
