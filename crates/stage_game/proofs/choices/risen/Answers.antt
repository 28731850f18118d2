use Rattle.std.proofs.Common.{◌≡◌, ◌∙◌, ◌++◌, ◌∷◌, [], ℕ, List, true, false, ap, refl, sym}
use Rattle.stage_game.specs.Chosen.{is_among}
use Rattle.stage_game.proofs.Choosing.{among-any, risen-other, risen-there}
use Rattle.stage_game.proofs.choices.risen.Goals.{then-contains+in_ok-push, else-contains}
use Rattle.stage_game.proofs.choices.risen.Goals as goal

pub loop-k-preserved : goal.loop-k-preserved
loop-k-preserved c =
    let k : ℕ = c.loop-k.k-counter in
    let numbers : List ℕ = c.args.numbers.now in
    elim c.if-contains.branch [
      | then-contains+in_ok-push w ↦
          let is : c.if-contains.found.items ≡ w.push.new.self.items = rw w.found-is refl in
          let there : is_among k numbers ≡ true = sym (among-any k numbers) ∙ sym c.contains.ensures.value ∙ w.if-contains.true in
          is ∙ w.in_ok-push.ensures.items ∙ ap (λ (xs : List ℕ). xs ++ k ∷ []) c.loop-k.invariant ∙ risen-there numbers k there
      | else-contains w ↦
          let is : c.if-contains.found.items ≡ c.loop-k.found.items = rw w.found-is refl in
          let other : is_among k numbers ≡ false = sym (among-any k numbers) ∙ sym c.contains.ensures.value ∙ w.if-contains.false in
          is ∙ c.loop-k.invariant ∙ risen-other numbers k other
    ]
