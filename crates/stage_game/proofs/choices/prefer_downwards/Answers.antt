use Rattle.std.proofs.Common.{◌∙◌, ◌++◌, ◌∷◌, [], ◌-◌, ℕ, List, ap, append_assoc, arith, take}
use Rattle.std.proofs.lemmas.List.{take_all}
use Rattle.stage_game.specs.Chosen.{different, downwards}
use Rattle.stage_game.proofs.Choosing.{downwards-more, length-downwards}
use Rattle.stage_game.proofs.choices.prefer_downwards.Goals as goal

pub loop-i-preserved : goal.loop-i-preserved
loop-i-preserved c = λ seen e.
    c.in_ok-prefer.ensures (seen ++ take c.loop-i.i (downwards c.args.count)) (c.loop-i.invariant seen e)
    ∙ ap (λ (xs : List ℕ). take c.args.most (different xs)) (append_assoc seen (take c.loop-i.i (downwards c.args.count)) ((c.args.count - 1 - c.loop-i.i) ∷ []) ∙ ap (λ (xs : List ℕ). seen ++ xs) (downwards-more c.args.count c.loop-i.i c.loop-i-test.true))

pub returns : goal.returns
returns c = λ seen e.
    c.loop-i.invariant seen e
    ∙ ap (λ (xs : List ℕ). take c.args.most (different (seen ++ xs))) (take_all c.loop-i.i (downwards c.args.count) (rw (length-downwards c.args.count) (omega (arith, c.loop-i-test.false))))
