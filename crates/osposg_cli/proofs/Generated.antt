-- The answer of `gen`: there is one, it has a text, and it spells the game of the number and the size.
use Rattle.std.proofs.Common.{ℕ, ◌≤◌, List, [], refl, sym, subst, inr}
use Rattle.game_gen.specs.Generated.{game_of}
use Rattle.game_model.specs.Game.{IsGame}
use Rattle.game_text.specs.Laws.{CanonicalTexts}
use Rattle.game_text.specs.Text.{IsWholeTextOf, canonical_text}
use Rattle.osposg_cli.specs.declared.status.Status.TheVariants.{Done}
use Rattle.osposg_cli.specs.Generate.{GenIsAnswered, GenIsDefined, KeepsGen}
use Rattle.osposg_cli.proofs.Shown.{shown-once, shown-told}

pub gen-defined : GenIsDefined
gen-defined number size = record {
  one = λ input. shown-once (game_of number size);
  told = λ input. shown-told (game_of number size);
}

pub gen-some : GenIsAnswered
gen-some number size = (Done, canonical_text (game_of number size), (refl, refl))

pub gen-keeps : CanonicalTexts → ((number size : ℕ) → 1 ≤ size → size ≤ 16 → IsGame (game_of number size)) → KeepsGen
gen-keeps canonical games number size text least most (done, t) =
    let g = game_of number size in
    let here : IsWholeTextOf g text = subst (IsWholeTextOf g) (sym t) (canonical g (games number size least most)).whole in
    (here, inr (g, here, (refl, t)))
