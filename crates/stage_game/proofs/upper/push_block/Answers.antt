use Rattle.std.proofs.Common.{◌≡◌, ◌∙◌, ◌++◌, ◌∷◌, [], ℕ, List, ap, arith, map, rules}
use Rattle.std.specs.Prelude.{ℤ, neg_ℤ, FitsSigned, ◌*ℤ◌}
use Rattle.std.specs.Int.{w128}
use Rattle.std.proofs.lemmas.Int.{to_z-of_z}
use Rattle.scaled_num.specs.Sums.{below}
use Rattle.stage_game.specs.Scaling.{ceil_of}
use Rattle.stage_game.specs.UpperProgram.{state_brings}
use Rattle.stage_game.proofs.Appends.{number-more}
use Rattle.stage_game.proofs.StateNumbers.{few-landings, state-fits}
use Rattle.stage_game.proofs.upper.push_block.Goals as goal

pub weight_to-requires : goal.weight_to-requires
weight_to-requires c =
    few-landings c.args.game.now c.law_game.ensures.accepted c.args.s c.args.a c.args.c c.args.o c.requires.state c.requires.own c.requires.informed c.seen_so-landings.result.now c.row.result.now c.row.ensures c.seen_so-landings.ensures

pub overflow_mul-over : goal.overflow_mul-over
overflow_mul-over c =
    let f = state-fits c.args.game.now c.law_game.ensures.accepted c.args.bits c.requires.bits c.args.s c.args.a c.args.c c.args.o c.loop-t.t c.requires.state c.requires.own c.requires.informed
    c.seen_so-landings.result.now c.row.result.now c.row.ensures c.seen_so-landings.ensures
    c.scale_of-times.result c.discount-over.result.0 c.weight_to.result c.discount-over.result.1 c.row_total.result
    c.scale_of-times.ensures.exact (ap (λ (p : ℤ × ℤ). p.0) c.discount-over.ensures) c.weight_to.ensures (ap (λ (p : ℤ × ℤ). p.1) c.discount-over.ensures) c.row_total.ensures in
    let times_fits = f.times_fits in
    let over_fits = f.over_fits in
    let weight_fits = f.weight_fits in
    let under_fits = f.under_fits in
    let total_fits = f.total_fits in
    simp to_z-of_z f.inner_fits

pub overflow_mul-times : goal.overflow_mul-times
overflow_mul-times c =
    let f = state-fits c.args.game.now c.law_game.ensures.accepted c.args.bits c.requires.bits c.args.s c.args.a c.args.c c.args.o c.loop-t.t c.requires.state c.requires.own c.requires.informed
    c.seen_so-landings.result.now c.row.result.now c.row.ensures c.seen_so-landings.ensures
    c.scale_of-times.result c.discount-over.result.0 c.weight_to.result c.discount-over.result.1 c.row_total.result
    c.scale_of-times.ensures.exact (ap (λ (p : ℤ × ℤ). p.0) c.discount-over.ensures) c.weight_to.ensures (ap (λ (p : ℤ × ℤ). p.1) c.discount-over.ensures) c.row_total.ensures in
    let times_fits = f.times_fits in
    let over_fits = f.over_fits in
    let weight_fits = f.weight_fits in
    let under_fits = f.under_fits in
    let total_fits = f.total_fits in
    let inner_fits = f.inner_fits in
    simp to_z-of_z f.part_fits

pub minus_up-requires-clause-divisor : goal.minus_up-requires-clause-divisor
minus_up-requires-clause-divisor c =
    let f = state-fits c.args.game.now c.law_game.ensures.accepted c.args.bits c.requires.bits c.args.s c.args.a c.args.c c.args.o c.loop-t.t c.requires.state c.requires.own c.requires.informed
    c.seen_so-landings.result.now c.row.result.now c.row.ensures c.seen_so-landings.ensures
    c.scale_of-times.result c.discount-over.result.0 c.weight_to.result c.discount-over.result.1 c.row_total.result
    c.scale_of-times.ensures.exact (ap (λ (p : ℤ × ℤ). p.0) c.discount-over.ensures) c.weight_to.ensures (ap (λ (p : ℤ × ℤ). p.1) c.discount-over.ensures) c.row_total.ensures in
    let times_fits = f.times_fits in
    let over_fits = f.over_fits in
    let weight_fits = f.weight_fits in
    let under_fits = f.under_fits in
    let total_fits = f.total_fits in
    let inner_fits = f.inner_fits in
    let part_fits = f.part_fits in
    let whole_fits = f.whole_fits in
    simp to_z-of_z f.divisor

pub minus_up-requires-clause-part : goal.minus_up-requires-clause-part
minus_up-requires-clause-part c =
    let f = state-fits c.args.game.now c.law_game.ensures.accepted c.args.bits c.requires.bits c.args.s c.args.a c.args.c c.args.o c.loop-t.t c.requires.state c.requires.own c.requires.informed
    c.seen_so-landings.result.now c.row.result.now c.row.ensures c.seen_so-landings.ensures
    c.scale_of-times.result c.discount-over.result.0 c.weight_to.result c.discount-over.result.1 c.row_total.result
    c.scale_of-times.ensures.exact (ap (λ (p : ℤ × ℤ). p.0) c.discount-over.ensures) c.weight_to.ensures (ap (λ (p : ℤ × ℤ). p.1) c.discount-over.ensures) c.row_total.ensures in
    let times_fits = f.times_fits in
    let over_fits = f.over_fits in
    let weight_fits = f.weight_fits in
    let under_fits = f.under_fits in
    let total_fits = f.total_fits in
    let inner_fits = f.inner_fits in
    let part_fits = f.part_fits in
    let whole_fits = f.whole_fits in
    simp to_z-of_z f.low

pub minus_up-requires-clause-room : goal.minus_up-requires-clause-room
minus_up-requires-clause-room c =
    let f = state-fits c.args.game.now c.law_game.ensures.accepted c.args.bits c.requires.bits c.args.s c.args.a c.args.c c.args.o c.loop-t.t c.requires.state c.requires.own c.requires.informed
    c.seen_so-landings.result.now c.row.result.now c.row.ensures c.seen_so-landings.ensures
    c.scale_of-times.result c.discount-over.result.0 c.weight_to.result c.discount-over.result.1 c.row_total.result
    c.scale_of-times.ensures.exact (ap (λ (p : ℤ × ℤ). p.0) c.discount-over.ensures) c.weight_to.ensures (ap (λ (p : ℤ × ℤ). p.1) c.discount-over.ensures) c.row_total.ensures in
    let times_fits = f.times_fits in
    let over_fits = f.over_fits in
    let weight_fits = f.weight_fits in
    let under_fits = f.under_fits in
    let total_fits = f.total_fits in
    let inner_fits = f.inner_fits in
    let part_fits = f.part_fits in
    let whole_fits = f.whole_fits in
    simp to_z-of_z f.room

pub loop-t-preserved : goal.loop-t-preserved
loop-t-preserved c =
    let f = state-fits c.args.game.now c.law_game.ensures.accepted c.args.bits c.requires.bits c.args.s c.args.a c.args.c c.args.o c.loop-t.t c.requires.state c.requires.own c.requires.informed
    c.seen_so-landings.result.now c.row.result.now c.row.ensures c.seen_so-landings.ensures
    c.scale_of-times.result c.discount-over.result.0 c.weight_to.result c.discount-over.result.1 c.row_total.result
    c.scale_of-times.ensures.exact (ap (λ (p : ℤ × ℤ). p.0) c.discount-over.ensures) c.weight_to.ensures (ap (λ (p : ℤ × ℤ). p.1) c.discount-over.ensures) c.row_total.ensures in
    let times_fits = f.times_fits in
    let over_fits = f.over_fits in
    let weight_fits = f.weight_fits in
    let under_fits = f.under_fits in
    let total_fits = f.total_fits in
    let inner_fits = f.inner_fits in
    let part_fits = f.part_fits in
    let whole_fits = f.whole_fits in
    let made_fits : FitsSigned w128 c.minus_up.result = search rules in
    let made : c.minus_up.result ≡ neg_ℤ (ceil_of (c.scale_of-times.result *ℤ (c.discount-over.result.0 *ℤ c.weight_to.result)) (c.discount-over.result.1 *ℤ c.row_total.result)) = simp to_z-of_z at c.minus_up.ensures in
    let pushed : c.push.new.self.items ≡ c.loop-t.row.items ++ c.minus_up.result ∷ [] = simp to_z-of_z at c.in_ok-push.ensures.items in
    let brought : ℕ → ℤ = λ t. neg_ℤ (state_brings c.args.game.now c.args.bits c.args.s c.args.a c.args.c c.args.o t) in
    pushed ∙ ap (λ (x : ℤ). c.loop-t.row.items ++ x ∷ []) (made ∙ f.is) ∙ ap (λ (xs : List ℤ). xs ++ brought c.loop-t.t ∷ []) c.loop-t.invariant ∙ number-more brought c.args.row.now.items c.loop-t.t

pub returns : goal.returns
returns c =
    let brought : ℕ → ℤ = λ t. neg_ℤ (state_brings c.args.game.now c.args.bits c.args.s c.args.a c.args.c c.args.o t) in
    let all : c.loop-t.t ≡ c.args.game.now.shape.states = search (rules, arith) in
    c.loop-t.invariant ∙ ap (λ (n : ℕ). c.args.row.now.items ++ map brought (below n)) all
