use Rattle.std.proofs.Common.{◌≡◌, ℕ, List, [], ◌++◌, ◌∙◌, ap, sym, subst, codes, rules}
use Rattle.std.specs.String.{string_bytes}
use Rattle.game_model.specs.Game.{GameData}
use Rattle.game_text.specs.Text.{IsWholeTextOf, header_text, rows_text, text_of}
use Rattle.game_text.proofs.Canonical.{canonical-texts}
use Rattle.text_words.proofs.Grown.{behind}
use Rattle.text_words.specs.Spelled.{line_of}
use Rattle.game_text.proofs.printing.print.Goals as goal

pub returns-clause-canonical : goal.returns-clause-canonical
returns-clause-canonical c =
    let g : GameData = c.args.game.now in
    let last : List ℕ = string_bytes c.write_line.new.text in
    let whole : last ≡ string_bytes c.new-text.result ++ text_of g g.first =
    behind (string_bytes c.new-text.result) (string_bytes c.header_lines.new.text) last (header_text g g.first) (rows_text g ++ line_of (codes "end") []) c.in_ok-header_lines.ensures
    (behind (string_bytes c.header_lines.new.text) (string_bytes c.rows_lines.new.text) last (rows_text g) (line_of (codes "end") []) c.in_ok-rows_lines.ensures c.in_ok-write_line.ensures) in
    let none : string_bytes c.new-text.result ≡ [] = search rules in
    let bytes : c.into_bytes.result.items ≡ last = search rules in
    bytes ∙ whole ∙ ap (λ (l : List ℕ). l ++ text_of g g.first) none

pub returns-clause-text : goal.returns-clause-text
returns-clause-text c = subst (IsWholeTextOf c.args.game.now) (sym (returns-clause-canonical c)) (canonical-texts c.args.game.now c.law_game.ensures.accepted).whole
