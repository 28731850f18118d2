-- Before the first line, and a text that ends with its `end` line.
use Rattle.std.proofs.Common.{◌≡◌, ℕ, List, [], ◌∷◌, length, refl, sym, ap, subst, ◌∙◌, arith}
use Rattle.std.proofs.lemmas.Int.{ints}
use Rattle.text_words.specs.Lines.{Line, lines_of, after_lines}
use Rattle.game_model.specs.Game.{GameData, IsGame}
use Rattle.game_model.proofs.Worth.{span-small}
use Rattle.cert_text.specs.Entries.{Entry, limits_of, start_of}
use Rattle.cert_text.specs.Steps.{Accepts, AcceptsAll}
use Rattle.cert_text.specs.View.{AreLimits}

pub limits_kept : (g : GameData) → IsGame g → AreLimits (limits_of g)
limits_kept g game =
    let small = span-small g game in
    record {
      states = game.shape.states;
      own_actions = game.shape.own_actions;
      informed_actions = game.shape.informed_actions;
      observations = game.shape.observations;
      span = (omega (arith, ints), omega (arith, ints, small));
    }

pub nothing_left : (rest : List ℕ) → length rest ≡ 0 → rest ≡ []
nothing_left [] e = refl
nothing_left (b ∷ rest) e = absurd (omega arith)

no_lines : lines_of [] ≡ []
unfolding lines_of
no_lines = refl

pub whole_accepted : (g : GameData) (bytes : List ℕ) (entries : List Entry) (rest : List ℕ) → rest ≡ [] → Accepts (start_of g) (lines_of bytes) entries (lines_of rest)
    → rest ≡ after_lines (length entries) bytes → AcceptsAll g bytes entries
whole_accepted g bytes entries rest none accepts after =
    (subst (λ (ls : List Line). Accepts (start_of g) (lines_of bytes) entries ls) (ap lines_of none ∙ no_lines) accepts, sym after ∙ none)
