-- The answer of `show` to an input: there is one, it has a text, and it spells the game that was read.
use Rattle.std.proofs.Common.{◌≡◌, ℕ, List, [], refl, sym, ◌∙◌, subst, inl, inr}
use Rattle.game_model.specs.Game.{GameData, IsGame}
use Rattle.game_text.specs.Laws.{CanonicalTexts, DecidedAlone}
use Rattle.game_text.specs.Text.{IsWholeTextOf, canonical_text}
use Rattle.osposg_cli.specs.declared.status.Status.TheVariants.{Done}
use Rattle.osposg_cli.specs.Defined.{HasText, IsAnswered, IsDefined, IsOne, IsTold}
use Rattle.osposg_cli.specs.Inputs.{TextsAreExact}
use Rattle.osposg_cli.specs.Show.{AnswersShow, IsShown, KeepsShow}
use Rattle.osposg_cli.proofs.Shared.{game-once, game-some, game-told}

pub shown-once : (g : GameData) → IsOne (IsShown g)
shown-once g status other text more (s, t) (r, m) = (s ∙ sym r, t ∙ sym m)

pub shown-told : (g : GameData) → IsTold (IsShown g)
shown-told g status text (s, t) = subst HasText (sym s) tt

shown-some : (g : GameData) → IsGame g → IsAnswered (IsShown g)
shown-some g game = (Done, canonical_text g, (refl, refl))

pub show_answer-some : DecidedAlone → (input : List ℕ) → IsAnswered (AnswersShow input)
show_answer-some decided = game-some decided IsShown shown-some

pub show-defined : TextsAreExact → IsDefined AnswersShow
show-defined laws = record { one = game-once laws IsShown (λ g game. shown-once g); told = game-told IsShown shown-told }

pub show-keeps : CanonicalTexts → TextsAreExact → KeepsShow
show-keeps canonical laws input text (inl (line, kind, is, s, t)) = λ g at. absurd (laws.whole input g line kind at is)
show-keeps canonical laws input text (inr (h, at, (s, t))) = λ g is.
    let same : h ≡ g = laws.wholes input h g at is in
    let here : IsWholeTextOf h text = subst (IsWholeTextOf h) (sym t) (canonical h at.1.game).whole in
    (subst (λ (k : GameData). IsWholeTextOf k text) same here, inr (h, here, (refl, t)))
