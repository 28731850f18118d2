use Rattle.std.proofs.Common.{◌≡◌, ℤ, List, [], ◌∷◌, ◌++◌, ◌∙◌, ap, codes, pos, rules, FitsSigned, to_z-of_z}
use Rattle.std.specs.Int.{w128}
use Rattle.std.specs.String.{string_bytes}
use Rattle.std.proofs.lemmas.Result.{IfOk-weaker}
use Rattle.text_words.proofs.Grown.{behind}
use Rattle.text_words.specs.Spelled.{line_of}
use Rattle.game_text.specs.Text.{size_text}
use Rattle.game_text.proofs.printing.header_lines.Goals as goal

pub returns : goal.returns
returns c =
    let g = c.args.game.now in
    let sized = string_bytes c.size_line.new.text in
    let totalled = string_bytes c.write_line-2.new.text in
    let discounted = string_bytes c.write_line-3.new.text in
    let fits_total : FitsSigned w128 c.row_total.result = search rules in
    let fits_over : FitsSigned w128 c.discount-over.result.0 = search rules in
    let fits_under : FitsSigned w128 c.discount-over.result.1 = search rules in
    let total : totalled ≡ sized ++ line_of (codes "total") (g.shape.row_total ∷ []) =
    (simp to_z-of_z at c.in_ok-write_line-2.ensures) ∙ ap (λ (z : ℤ). sized ++ line_of (codes "total") (z ∷ [])) c.row_total.ensures in
    let discount : discounted ≡ totalled ++ line_of (codes "discount") (g.shape.discount.0 ∷ g.shape.discount.1 ∷ []) =
    (simp to_z-of_z at c.in_ok-write_line-3.ensures) ∙ ap (λ (d : ℤ × ℤ). totalled ++ line_of (codes "discount") (d.0 ∷ d.1 ∷ [])) c.discount-over.ensures in
    IfOk-weaker c.write_line-4.result _ _ (λ u h.
    behind (string_bytes c.args.text.now) (string_bytes c.write_line.new.text) _ (line_of (codes "osposg") (pos 1 ∷ [])) _ c.in_ok-write_line.ensures
    (behind _ sized _ (size_text g) _ c.in_ok-size_line.ensures
    (behind _ totalled _ (line_of (codes "total") (g.shape.row_total ∷ [])) _ total
    (behind _ discounted _ (line_of (codes "discount") (g.shape.discount.0 ∷ g.shape.discount.1 ∷ [])) _ discount
    (h ∙ ap (λ (first : List ℤ). discounted ++ line_of (codes "first") first) c.first.ensures))))) c.write_line-4.ensures
