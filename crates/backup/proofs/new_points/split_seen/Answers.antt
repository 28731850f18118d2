use Rattle.std.proofs.Common.{◌≡◌, ℕ, List, filter, map, subst, sym, ap, ◌∙◌}
use Rattle.game_model.specs.Branches.{branch_of}
use Rattle.game_model.specs.declared.branches.Branch.{Branch as Share}
use Rattle.point_set.specs.Members.{IsAfter}
use Rattle.point_set.specs.Sawtooth.{AreMeasured}
use Rattle.point_set.specs.Split.{IsWanted}
use Rattle.stage_game.specs.Data.{upper_data}
use Rattle.stage_game.specs.Fits.{wanted_at}
use Rattle.backup.proofs.NewPoints.{measured}
use Rattle.backup.proofs.PointShares.{OnOk-then, pairs_of, shares-added, wanted-pairs}
use Rattle.backup.proofs.new_points.split_seen.Goals as goal

pub split_of-split-requires-clause-measured : goal.split_of-split-requires-clause-measured
split_of-split-requires-clause-measured c =
    subst (AreMeasured c.args.points.now.members) (sym c.mass.ensures.list)
    (measured c.args.game.now c.law_game.ensures.accepted c.args.belief.now c.args.points.now.members (upper_data c.args.advice.now) c.requires.belief c.requires.points c.requires.advice c.args.a c.args.o c.requires.own c.requires.seen)

pub split_of-split-requires-clause-wanted : goal.split_of-split-requires-clause-wanted
split_of-split-requires-clause-wanted c =
    let points = c.args.points.now.members in
    let shares : List Share = c.args.advice.now.wanted.items in
    let wants : c.deref-2.result.now ≡ wanted_at (map branch_of shares) c.args.a c.args.o =
    c.deref-2.ensures.value ∙ c.in_ok-wanted.ensures ∙ ap (λ (xs : List Share). pairs_of (filter (IsAfter c.args.a c.args.o) xs)) c.deref.ensures.value ∙ wanted-pairs c.args.a c.args.o shares in
    subst (λ (n : ℕ). IsWanted points n c.deref-2.result.now) (sym c.mass.ensures.places)
    (subst (IsWanted points c.args.game.now.shape.states) (sym wants) (c.requires.advice.wanted c.args.a c.args.o c.requires.own c.requires.seen))

pub returns : goal.returns
returns c =
    let shares : List Share = c.args.advice.now.wanted.items in
    let wants : c.deref-2.result.now ≡ wanted_at (map branch_of shares) c.args.a c.args.o =
    c.deref-2.ensures.value ∙ c.in_ok-wanted.ensures ∙ ap (λ (xs : List Share). pairs_of (filter (IsAfter c.args.a c.args.o) xs)) c.deref.ensures.value ∙ wanted-pairs c.args.a c.args.o shares in
    OnOk-then c.add_items.result c.add_items.ensures (λ e.
    shares-added c.args.game.now c.args.belief.now c.args.advice.now.informed (map branch_of shares) c.args.points.now.members c.args.a c.args.o c.deref-2.result.now c.split_of-split.result c.mass.new.out
    (map branch_of c.args.shares.now.items) (map branch_of c.add_items.new.shares.items) wants c.mass.ensures.list c.split_of-split.ensures e)
