use Rattle.std.proofs.Common.{◌≡◌, ◌∙◌}
use Rattle.game_gen.specs.Rows.{pair_at}
use Rattle.game_gen.proofs.Drawing.{after_draws-more, pair_at-after_draws}
use Rattle.game_gen.proofs.rows.draw_pairs.Goals as goal

pub returns-clause-pairs : goal.returns-clause-pairs
returns-clause-pairs c =
    let shape = c.args.shape.now in
    let g = c.args.draw.now in
    let p = c.draw_pair in
    let q = c.draw_pair-2 in
    let r = c.draw_pair-3 in
    let s = c.draw_pair-4 in
    let after_q = after_draws-more 2 2 g p.new.draw q.new.draw p.ensures.moved q.ensures.moved in
    let after_r = after_draws-more 4 2 g q.new.draw r.new.draw after_q r.ensures.moved in
    let second : q.result ≡ pair_at shape g 2 = q.ensures.pair ∙ pair_at-after_draws shape 2 0 g p.new.draw p.ensures.moved in
    let third : r.result ≡ pair_at shape g 4 = r.ensures.pair ∙ pair_at-after_draws shape 4 0 g q.new.draw after_q in
    let fourth : s.result ≡ pair_at shape g 6 = s.ensures.pair ∙ pair_at-after_draws shape 6 0 g r.new.draw after_r in
    let first : p.result ≡ pair_at shape g 0 = p.ensures.pair in
    cc

pub returns-clause-moved : goal.returns-clause-moved
returns-clause-moved c =
    let g = c.args.draw.now in
    let p = c.draw_pair in
    let q = c.draw_pair-2 in
    let r = c.draw_pair-3 in
    let after_q = after_draws-more 2 2 g p.new.draw q.new.draw p.ensures.moved q.ensures.moved in
    let after_r = after_draws-more 4 2 g q.new.draw r.new.draw after_q r.ensures.moved in
    after_draws-more 6 2 g r.new.draw c.draw_pair-4.new.draw after_r c.draw_pair-4.ensures.moved
