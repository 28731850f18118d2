-- The game that a reader builds is that of the text.
use Rattle.std.proofs.Common.{◌≡◌, ℕ, ◌-◌, ◌≤◌, List, ◌∷◌, ◌++◌, reverse, length, map, drop, ℤ, sym, ap, subst, ◌∙◌, arith, length-append}
use Rattle.std.proofs.lemmas.List.{drop_at}
use Rattle.text_words.specs.Lines.{Line}
use Rattle.game_text.specs.Plain.{after_lines, lines_of}
use Rattle.game_text.specs.Places.{IsAt}
use Rattle.game_text.proofs.Behind.{is_behind}
use Rattle.game_model.specs.declared.parts.Shape.{Shape}
use Rattle.game_model.specs.declared.parts.Landing.{Landing}
use Rattle.game_model.specs.Game.{GameData, IsGame, IsBelief}
use Rattle.game_text.specs.Text.{IsTextOf, Spells}
use Rattle.game_text.specs.Entries.{Entry, End, shape_in}
use Rattle.game_text.specs.Steps.{Reads}
use Rattle.game_text.specs.Built.{rewards_in, rows_in, IsBuilt, IsEnded, EndsAt}
use Rattle.game_text.proofs.Runs.{say_run, shape_spelled}
use Rattle.game_text.proofs.Spells.{finished, game_from}
use Rattle.game_text.proofs.Bytes.{back_text}
use Rattle.game_text.proofs.Coprime.{Parts}
use Rattle.game_text.proofs.Accept.{spells_from, finished_text, weights_in, weights_spelled, rewards_spelled, rows_spelled}

pub same_fields : (g : GameData) (shape : Shape) (rs : List ℤ) (rows : List (List Landing)) → g.shape ≡ shape → g.rewards ≡ reverse rs → g.rows ≡ reverse (map reverse rows) → game_from shape g.first rs rows ≡ g
same_fields g shape rs rows p q r =
    ap (λ (x : Shape). game_from x g.first rs rows) (sym p)
    ∙ ap (λ (x : List ℤ). record g { rewards = x; rows = reverse (map reverse rows) }) (sym q)
    ∙ ap (λ (x : List (List Landing)). record g { rows = x }) (sym r)

pub built_game : (text : List ℕ) (count : ℕ) (before : List Entry) (after : List Line) (rest : List ℕ) (first : List ℤ) (g : GameData) → Reads (lines_of text) count (End ∷ before) after → after_lines count text ≡ rest
    → IsBuilt first (End ∷ before) g → weights_in before ≡ first → IsGame g → IsTextOf g text rest
built_game text count before after rest first g reads ends built weights game =
    let run = (say_run reads.0 (End ∷ before) reads.3).1 in
    let f = finished before run in
    let F = f.front in
    let shape : g.shape ≡ F.shape = built.shape ∙ ap shape_in F.same ∙ shape_spelled F.shape F.first F.rs F.rows in
    let rewards : g.rewards ≡ reverse F.rs = built.rewards ∙ ap (λ (es : List Entry). reverse (rewards_in es)) F.same ∙ ap reverse (rewards_spelled F.shape F.first F.rs F.rows F.good) in
    let rows : g.rows ≡ reverse (map reverse F.rows) = built.rows ∙ ap (λ (es : List Entry). reverse (map reverse (rows_in es))) F.same ∙ ap (λ (x : List (List Landing)). reverse (map reverse x)) (rows_spelled F.shape F.first F.rs F.rows F.good) in
    let said : first ≡ F.first = sym weights ∙ ap weights_in F.same ∙ weights_spelled F.shape F.first F.rs F.rows in
    let m = built.divided in
    let p : Parts F.shape.states F.first = record {
      times = m.0;
      kept = g.first;
      some = m.1;
      same = sym m.2 ∙ said;
      coprime = game.coprime;
      belief = subst (λ (x : Shape). IsBelief x.states g.first) shape game.first;
    } in
    let spells = subst (Spells (back_text (End ∷ before)) text) ends (spells_from text count (End ∷ before) after reads) in
    subst (λ (x : GameData). IsTextOf x text rest) (same_fields g F.shape F.rs F.rows shape rewards rows) (finished_text before f p text rest spells)

-- what is left of the bytes stands behind their front
dropped : (text front rest : List ℕ) → text ≡ front ++ rest → (length text - length rest ≤ length text) × (drop (length text - length rest) text ≡ rest)
dropped text front rest e =
    let counted : length front ≡ length text - length rest = omega (arith, ap length e, length-append {A = ℕ}) in
    (omega arith, ap (drop (length text - length rest)) e ∙ drop_at front rest (length text - length rest) counted)

pub record Found (text : List ℕ) (offset lines : ℕ) (rest : List ℕ) (g : GameData) : Type 0 where
  pub dropped : drop offset text ≡ rest
  pub ends : EndsAt text lines (drop offset text)
  pub game : IsTextOf g text (drop offset text)

pub found : (text : List ℕ) (count : ℕ) (entries : List Entry) (lines : ℕ) (rest : List ℕ) (first : List ℤ) (g : GameData) → IsAt text count entries lines rest
    → IsEnded entries → IsBuilt first entries g → weights_in entries ≡ first → IsGame g → Found text (length text - length rest) lines rest g
found text count entries lines rest first g at ended built weights game =
    let front = is_behind text count rest at.after in
    let d = dropped text front.0 rest front.1 in
    let e = ended.1 in
    let here : IsAt text count (End ∷ ended.0) lines rest = subst (λ (es : List Entry). IsAt text count es lines rest) e at in
    record {
      dropped = d.1;
      ends = subst (EndsAt text lines) (sym d.1) (count, ended.0, here);
      game = subst (IsTextOf g text) (sym d.1)
          (built_game text count ended.0 _ rest first g here.reads (sym here.after)
          (subst (λ (x : List Entry). IsBuilt first x g) e built) (subst (λ (x : List Entry). weights_in x ≡ first) e weights) game);
    }
