use Rattle.std.proofs.Common.{◌≡◌, ◌∙◌, ◌++◌, ◌∷◌, [], List, ap, cond, ◌==◌, rules}
use Rattle.std.specs.Prelude.{ℤ, pos, FitsSigned}
use Rattle.std.specs.Int.{w128}
use Rattle.std.proofs.lemmas.Int.{to_z-of_z}
use Rattle.stage_game.proofs.Appends.{number-more}
use Rattle.stage_game.proofs.parts.push_unit.Goals as goal

pub loop-i-preserved : goal.loop-i-preserved
loop-i-preserved c =
    let fits : FitsSigned w128 c.one_at.result = search rules in
    let pushed : c.push.new.self.items ≡ c.loop-i.row.items ++ c.one_at.result ∷ [] = simp to_z-of_z at c.in_ok-push.ensures.items in
    pushed
    ∙ ap (λ (x : ℤ). c.loop-i.row.items ++ x ∷ []) c.one_at.ensures
    ∙ ap (λ (xs : List ℤ). xs ++ cond (c.loop-i.i == c.args.place) (pos 1) (pos 0) ∷ []) c.loop-i.invariant
    ∙ number-more (λ t. cond (t == c.args.place) (pos 1) (pos 0)) c.args.row.now.items c.loop-i.i
