use Rattle.std.proofs.Common.{◌≡◌, ℕ, ◌*◌, ◌/◌, ◌%◌, ◌<◌, List, pos, sym, ap, subst, ◌∙◌, arith}
use Rattle.std.proofs.lemmas.Int.{ints}
use Rattle.game_model.specs.declared.parts.Landing.{Landing}
use Rattle.game_model.specs.Game.{GameData, row_sum}
use Rattle.game_model.specs.Build.{IsNext, landing_of, last_row}
use Rattle.game_gen.specs.Rows.{landing_if_drawn, with_last}
use Rattle.game_gen.proofs.LastRows.{last_row-with_last, with_last-last_row, with_last-more}
use Rattle.game_gen.proofs.Places.{has_left, is_next, landings, landings-more, landings-zero, row_of-places}
use Rattle.game_gen.proofs.rows.add_landings.Goals as goal

pub loop-place-init : goal.loop-place-init
loop-place-init c =
    let b = c.args.builder.now in
    sym (ap (with_last b) (landings-zero c.args.shape.now.states c.args.pairs.now ∙ sym c.requires.empty) ∙ with_last-last_row b)

pub add_landing-requires-clause-next : goal.add_landing-requires-clause-next
add_landing-requires-clause-next c =
    let b = c.args.builder.now in
    let states = c.args.shape.now.states in
    let n = c.loop-place.place in
    let row = landings states c.args.pairs.now n in
    let last : last_row c.loop-place.builder ≡ row = ap last_row c.loop-place.invariant ∙ last_row-with_last b row c.requires.begun in
    let some : 0 < states = let least = c.requires.serves.limits.states.0 in omega arith in
    subst (λ (r : List Landing). IsNext r (landing_of (n / states) (n % states) (pos 25))) (sym last) (is_next states n c.args.pairs.now (pos 25) some)

pub add_landing-requires-clause-left : goal.add_landing-requires-clause-left
add_landing-requires-clause-left c =
    let b = c.args.builder.now in
    let shape = c.args.shape.now in
    let n = c.loop-place.place in
    let row = landings shape.states c.args.pairs.now n in
    let last : last_row c.loop-place.builder ≡ row = ap last_row c.loop-place.invariant ∙ last_row-with_last b row c.requires.begun in
    let total : c.loop-place.builder.shape.row_total ≡ shape.row_total = ap (λ (g : GameData). g.shape.row_total) c.loop-place.invariant ∙ ap (λ s. s.row_total) c.requires.shape in
    let left = has_left shape c.args.pairs.now c.requires.serves c.requires.pairs n in
    omega (arith, ints, left, total, ap row_sum last)

pub loop-place-preserved : goal.loop-place-preserved
loop-place-preserved c =
    let b = c.args.builder.now in
    let states = c.args.shape.now.states in
    let pairs = c.args.pairs.now in
    let n = c.loop-place.place in
    with_last-more b c.loop-place.builder c.add_landing.new.builder (landings states pairs n) (landing_if_drawn pairs (n / states) (n % states))
    c.requires.begun c.loop-place.invariant c.in_ok-add_landing.ensures.added
    ∙ ap (with_last b) (sym (landings-more states pairs n))

pub returns-clause-added : goal.returns-clause-added
returns-clause-added c =
    let b = c.args.builder.now in
    let shape = c.args.shape.now in
    let all : c.loop-place.place ≡ shape.observations * shape.states = omega arith in
    c.loop-place.invariant
    ∙ ap (λ (n : ℕ). with_last b (landings shape.states c.args.pairs.now n)) all
    ∙ ap (with_last b) (sym (row_of-places shape c.args.pairs.now))
