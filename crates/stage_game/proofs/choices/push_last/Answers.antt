use Rattle.std.proofs.Common.{◌≡◌, ◌∙◌, ◌++◌, ◌∷◌, [], ◌-◌, ◌<◌, ℕ, List, ap, append_assoc, arith, length, min, rules, take}
use Rattle.std.proofs.lemmas.List.{take_min}
use Rattle.stage_game.specs.Chosen.{downwards}
use Rattle.stage_game.proofs.Choosing.{downwards-more, length-downwards}
use Rattle.stage_game.proofs.choices.push_last.Goals as goal

pub loop-i-preserved : goal.loop-i-preserved
loop-i-preserved c =
    let inside : c.loop-i.i < c.args.count = search (rules, arith) in
    c.in_ok-push.ensures.items
    ∙ ap (λ (xs : List ℕ). xs ++ (c.args.count - 1 - c.loop-i.i) ∷ []) c.loop-i.invariant
    ∙ append_assoc c.args.kept.now.items (take c.loop-i.i (downwards c.args.count)) ((c.args.count - 1 - c.loop-i.i) ∷ [])
    ∙ ap (λ (xs : List ℕ). c.args.kept.now.items ++ xs) (downwards-more c.args.count c.loop-i.i inside)

pub returns : goal.returns
returns c =
    let all : c.loop-i.i ≡ min c.args.most (length (downwards c.args.count)) = rw (length-downwards c.args.count) (search (rules, arith)) in
    c.loop-i.invariant
    ∙ ap (λ (n : ℕ). c.args.kept.now.items ++ take n (downwards c.args.count)) all
    ∙ ap (λ (xs : List ℕ). c.args.kept.now.items ++ xs) (take_min c.args.most (downwards c.args.count))
