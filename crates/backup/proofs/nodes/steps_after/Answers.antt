use Rattle.std.proofs.Common.{◌≡◌, ◌∙◌, ◌++◌, ◌∷◌, [], List, ap, map, sym}
use Rattle.std.specs.Prelude.{pos}
use Rattle.std.proofs.lemmas.List.{map-append}
use Rattle.game_model.specs.declared.branches.Branch.{Branch as Step}
use Rattle.game_model.specs.Branches.{Branch, branch_of, mix_total}
use Rattle.backup.proofs.Places.{map-below-more}
use Rattle.backup.proofs.nodes.steps_after.Goals as goal

pub loop-o-preserved : goal.loop-o-preserved
loop-o-preserved c =
    let a = c.args.a in
    let next : Step = record { a = a; o = c.loop-o.o; k = a; weight = pos 65536 } in
    let pushed : c.push.new.self.items ≡ c.loop-o.steps.items ++ next ∷ [] = cc (c.in_ok-push.ensures.items) in
    ap (λ (xs : List Step). map branch_of xs) pushed
    ∙ map-append branch_of c.loop-o.steps.items (next ∷ [])
    ∙ ap (λ (xs : List Branch). xs ++ branch_of next ∷ []) c.loop-o.invariant
    ∙ sym (map-below-more (λ o. record { own = a; seen = o; member = a; weight = pos mix_total }) c.loop-o.o)
