use Rattle.std.proofs.Common.{◌≡◌, ◌∙◌, ◌*◌, ◌^◌, ◌<◌, ◌≤◌, ◌++◌, ◌∷◌, [], ℕ, List, ap, arith, filter, get_or, length, map, rules, subst, sym}
use Rattle.std.specs.Prelude.{ℤ, pos, neg_ℤ, FitsSigned, ◌+ℤ◌, ◌*ℤ◌, ◌<ℤ◌, ◌≤ℤ◌, unsigned_abs}
use Rattle.std.specs.Int.{w128}
use Rattle.std.specs.List.{AllByRecursion}
use Rattle.std.proofs.lemmas.Int.{ints, to_z-of_z, fits_signed_from_abs}
use Rattle.std.proofs.lemmas.Nat.{mul-le}
use Rattle.std.proofs.lemmas.List.{take_all}
use Rattle.scaled_num.specs.Share.{at}
use Rattle.scaled_num.specs.Sums.{below, total}
use Rattle.scaled_num.proofs.Sums.{each-at}
use Rattle.game_model.specs.Game.{GameData, numbers, row_at, span}
use Rattle.game_model.specs.declared.parts.Landing.{Landing}
use Rattle.alpha_set.specs.Nodes.{NodeData, no_node}
use Rattle.belief.specs.Masses.{AreLandings, IsSeen}
use Rattle.stage_game.specs.LowerProgram.{node_brings}
use Rattle.stage_game.specs.Scaling.{floor_of, scale, width}
use Rattle.stage_game.proofs.Appends.{item-more}
use Rattle.stage_game.proofs.LowerNumbers.{bits-few, brings-is, node-in, seen-bring, small-entries, summed}
use Rattle.stage_game.proofs.Sizes.{limits, number-fits, over, product-is, under, whole, wideness, width-small}
use Rattle.stage_game.proofs.lower.push_block.Goals as goal

pub overflow_mul-whole-2 : goal.overflow_mul-whole-2
overflow_mul-whole-2 c =
    let g : GameData = c.args.game.now in
    let h = c.law_game.ensures.accepted in
    let n = limits g h in
    let under_is : c.discount-over.result.1 ≡ pos (under g) = ap (λ (p : ℤ × ℤ). p.1) c.discount-over.ensures ∙ n.denominator in
    let pair_is : c.row_total.result *ℤ c.discount-over.result.1 ≡ pos (whole g * under g) = product-is c.row_total.result c.discount-over.result.1 (whole g) (under g) (c.row_total.ensures ∙ n.row_total) under_is in
    let whole_is : c.row_total.result *ℤ c.discount-over.result.1 *ℤ c.width_of.result ≡ pos (whole g * under g * wideness g) = product-is (c.row_total.result *ℤ c.discount-over.result.1) c.width_of.result (whole g * under g) (wideness g) pair_is c.width_of.ensures in
    let pair_size : whole g * under g ≤ 2 ^ 30 * 2 ^ 20 = mul-le (whole g) (under g) (2 ^ 30) (2 ^ 20) n.whole_small n.under_small in
    let under_fits : FitsSigned w128 c.discount-over.result.1 = number-fits c.discount-over.result.1 (under g) under_is (omega (arith, n.under_small)) in
    let total_fits : FitsSigned w128 c.row_total.result = number-fits c.row_total.result (whole g) (c.row_total.ensures ∙ n.row_total) (omega (arith, n.whole_small)) in
    let width_fits : FitsSigned w128 c.width_of.result = number-fits c.width_of.result (wideness g) c.width_of.ensures (omega (arith, n.span_small)) in
    let pair_fits : FitsSigned w128 (c.row_total.result *ℤ c.discount-over.result.1) = number-fits _ (whole g * under g) pair_is (omega arith) in
    simp to_z-of_z (number-fits _ (whole g * under g * wideness g) whole_is (omega (arith, width-small g h)))

pub raised_sum-sum-requires-clause-landings : goal.raised_sum-sum-requires-clause-landings
raised_sum-sum-requires-clause-landings c =
    let g : GameData = c.args.game.now in
    let k : ℕ = get_or c.args.candidates.now c.loop-k.k-index 0 in
    let h = c.law_game.ensures.accepted in
    let inside : k < length c.args.nodes.now.members = each-at (λ k. k < length c.args.nodes.now.members) 0 c.args.candidates.now c.loop-k.k-index c.requires.candidates.named.inside c.loop-k-test.true in
    let node = node-in g c.args.nodes.now.members k c.requires.nodes.fit inside in
    let vector : List ℤ = (get_or c.args.nodes.now.members k no_node).vector in
    let same : c.deref.result.now ≡ vector = c.deref.ensures.value ∙ ap (λ (d : NodeData). d.vector) c.node.ensures in
    let bring = seen-bring g h c.args.s c.args.a c.args.c c.args.o c.requires.state c.requires.own c.requires.informed vector node.long node.entries in
    let seen : c.seen_so-landings.result.now ≡ filter (IsSeen c.args.o) (row_at g c.args.s c.args.a c.args.c) = c.seen_so-landings.ensures ∙ ap (λ (ls : List Landing). filter (IsSeen c.args.o) ls) c.row.ensures in
    subst (λ (v : List ℤ). AreLandings (length v) c.seen_so-landings.result.now) (sym same) (subst (AreLandings (length vector)) (sym seen) bring.landings)

pub raised_sum-sum-requires-clause-entries : goal.raised_sum-sum-requires-clause-entries
raised_sum-sum-requires-clause-entries c =
    let g : GameData = c.args.game.now in
    let k : ℕ = get_or c.args.candidates.now c.loop-k.k-index 0 in
    let h = c.law_game.ensures.accepted in
    let inside : k < length c.args.nodes.now.members = each-at (λ k. k < length c.args.nodes.now.members) 0 c.args.candidates.now c.loop-k.k-index c.requires.candidates.named.inside c.loop-k-test.true in
    let node = node-in g c.args.nodes.now.members k c.requires.nodes.fit inside in
    let vector : List ℤ = (get_or c.args.nodes.now.members k no_node).vector in
    let same : c.deref.result.now ≡ vector = c.deref.ensures.value ∙ ap (λ (d : NodeData). d.vector) c.node.ensures in
    let bring = seen-bring g h c.args.s c.args.a c.args.c c.args.o c.requires.state c.requires.own c.requires.informed vector node.long node.entries in
    let seen : c.seen_so-landings.result.now ≡ filter (IsSeen c.args.o) (row_at g c.args.s c.args.a c.args.c) = c.seen_so-landings.ensures ∙ ap (λ (ls : List Landing). filter (IsSeen c.args.o) ls) c.row.ensures in
    subst (λ (v : List ℤ). AllByRecursion (λ x. unsigned_abs x ≤ 2 ^ 69) v) (sym same) (small-entries g h vector node.entries)

pub raised_sum-sum-requires-clause-raise : goal.raised_sum-sum-requires-clause-raise
raised_sum-sum-requires-clause-raise c =
    let g : GameData = c.args.game.now in
    let n = limits g c.law_game.ensures.accepted in
    let is : c.span.result ≡ pos (span g) = c.span.ensures in
    let span_fits : FitsSigned w128 c.span.result = number-fits c.span.result (span g) is (omega (arith, n.span_small)) in
    let size = n.span_small in
    simp to_z-of_z (omega (arith, ints))

pub overflow_mul-times-in-loop-k : goal.overflow_mul-times-in-loop-k
overflow_mul-times-in-loop-k c =
    let g : GameData = c.args.game.now in
    let k : ℕ = get_or c.args.candidates.now c.loop-k.k-index 0 in
    let h = c.law_game.ensures.accepted in
    let inside : k < length c.args.nodes.now.members = each-at (λ k. k < length c.args.nodes.now.members) 0 c.args.candidates.now c.loop-k.k-index c.requires.candidates.named.inside c.loop-k-test.true in
    let node = node-in g c.args.nodes.now.members k c.requires.nodes.fit inside in
    let vector : List ℤ = (get_or c.args.nodes.now.members k no_node).vector in
    let same : c.deref.result.now ≡ vector = c.deref.ensures.value ∙ ap (λ (d : NodeData). d.vector) c.node.ensures in
    let bring = seen-bring g h c.args.s c.args.a c.args.c c.args.o c.requires.state c.requires.own c.requires.informed vector node.long node.entries in
    let seen : c.seen_so-landings.result.now ≡ filter (IsSeen c.args.o) (row_at g c.args.s c.args.a c.args.c) = c.seen_so-landings.ensures ∙ ap (λ (ls : List Landing). filter (IsSeen c.args.o) ls) c.row.ensures in
    let n = limits g h in
    let span_fits : FitsSigned w128 c.span.result = number-fits c.span.result (span g) c.span.ensures (omega (arith, n.span_small)) in
    let found = simp to_z-of_z at c.raised_sum-sum.ensures in
    let sum : ℤ = total (λ t. pos ((numbers g).weight c.args.s c.args.a c.args.c c.args.o t) *ℤ (at vector t +ℤ pos (span g))) (below g.shape.states) in
    let sum_is : c.raised_sum-sum.result ≡ sum = found ∙ summed g c.args.s c.args.a c.args.c c.args.o vector c.deref.result.now c.seen_so-landings.result.now c.span.result same seen c.span.ensures bring in
    let q = brings-is g h c.args.bits c.requires.bits c.args.nodes.now.members c.requires.nodes.fit c.args.s c.args.a c.args.c c.args.o k c.requires.state c.requires.own c.requires.informed inside in
    let size = q.small in
    let divisor_size = q.divisor_small in
    let times_is : c.scale_of.result *ℤ c.discount-over.result.0 ≡ scale c.args.bits *ℤ pos (over g) =
    ap (λ (z : ℤ). z *ℤ c.discount-over.result.0) c.scale_of.ensures.exact ∙ ap (λ (z : ℤ). scale c.args.bits *ℤ z) (ap (λ (p : ℤ × ℤ). p.0) c.discount-over.ensures ∙ n.numerator) in
    let under_is : c.discount-over.result.1 ≡ pos (under g) = ap (λ (p : ℤ × ℤ). p.1) c.discount-over.ensures ∙ n.denominator in
    let pair_is : c.row_total.result *ℤ c.discount-over.result.1 ≡ pos (whole g * under g) = product-is c.row_total.result c.discount-over.result.1 (whole g) (under g) (c.row_total.ensures ∙ n.row_total) under_is in
    let whole_is : c.row_total.result *ℤ c.discount-over.result.1 *ℤ c.width_of.result ≡ pos (whole g * under g) *ℤ width g = ap (λ (z : ℤ). z *ℤ c.width_of.result) pair_is ∙ ap (λ (z : ℤ). pos (whole g * under g) *ℤ z) c.width_of.ensures in
    let over_size : 2 ^ c.args.bits * over g ≤ 2 ^ 10 * 2 ^ 20 = mul-le (2 ^ c.args.bits) (over g) (2 ^ 10) (2 ^ 20) (bits-few c.args.bits c.requires.bits) (omega (arith, n.below, n.under_small)) in
    let pair_size : whole g * under g ≤ 2 ^ 30 * 2 ^ 20 = mul-le (whole g) (under g) (2 ^ 30) (2 ^ 20) n.whole_small n.under_small in
    let scale_fits : FitsSigned w128 c.scale_of.result = number-fits c.scale_of.result (2 ^ c.args.bits) c.scale_of.ensures.exact (omega (arith, bits-few c.args.bits c.requires.bits)) in
    let over_fits : FitsSigned w128 c.discount-over.result.0 = number-fits c.discount-over.result.0 (over g) (ap (λ (p : ℤ × ℤ). p.0) c.discount-over.ensures ∙ n.numerator) (omega (arith, n.below, n.under_small)) in
    let under_fits : FitsSigned w128 c.discount-over.result.1 = number-fits c.discount-over.result.1 (under g) under_is (omega (arith, n.under_small)) in
    let total_fits : FitsSigned w128 c.row_total.result = number-fits c.row_total.result (whole g) (c.row_total.ensures ∙ n.row_total) (omega (arith, n.whole_small)) in
    let width_fits : FitsSigned w128 c.width_of.result = number-fits c.width_of.result (wideness g) c.width_of.ensures (omega (arith, n.span_small)) in
    let sum_fits : FitsSigned w128 c.raised_sum-sum.result = search rules in
    let times_fits : FitsSigned w128 (c.scale_of.result *ℤ c.discount-over.result.0) = number-fits _ (2 ^ c.args.bits * over g) times_is (omega arith) in
    let pair_fits : FitsSigned w128 (c.row_total.result *ℤ c.discount-over.result.1) = number-fits _ (whole g * under g) pair_is (omega arith) in
    let whole_fits : FitsSigned w128 (c.row_total.result *ℤ c.discount-over.result.1 *ℤ c.width_of.result) = rw whole_is (fits_signed_from_abs w128 _ (omega arith)) in
    let part_is : c.scale_of.result *ℤ c.discount-over.result.0 *ℤ c.raised_sum-sum.result ≡ scale c.args.bits *ℤ pos (over g) *ℤ sum = ap (λ (z : ℤ). z *ℤ c.raised_sum-sum.result) times_is ∙ ap (λ (z : ℤ). scale c.args.bits *ℤ pos (over g) *ℤ z) sum_is in
    let part_fits : FitsSigned w128 (c.scale_of.result *ℤ c.discount-over.result.0 *ℤ c.raised_sum-sum.result) = rw part_is (fits_signed_from_abs w128 _ (omega arith)) in
    simp to_z-of_z part_fits

pub minus_down-requires-clause-divisor : goal.minus_down-requires-clause-divisor
minus_down-requires-clause-divisor c =
    let g : GameData = c.args.game.now in
    let k : ℕ = get_or c.args.candidates.now c.loop-k.k-index 0 in
    let h = c.law_game.ensures.accepted in
    let inside : k < length c.args.nodes.now.members = each-at (λ k. k < length c.args.nodes.now.members) 0 c.args.candidates.now c.loop-k.k-index c.requires.candidates.named.inside c.loop-k-test.true in
    let node = node-in g c.args.nodes.now.members k c.requires.nodes.fit inside in
    let vector : List ℤ = (get_or c.args.nodes.now.members k no_node).vector in
    let same : c.deref.result.now ≡ vector = c.deref.ensures.value ∙ ap (λ (d : NodeData). d.vector) c.node.ensures in
    let bring = seen-bring g h c.args.s c.args.a c.args.c c.args.o c.requires.state c.requires.own c.requires.informed vector node.long node.entries in
    let seen : c.seen_so-landings.result.now ≡ filter (IsSeen c.args.o) (row_at g c.args.s c.args.a c.args.c) = c.seen_so-landings.ensures ∙ ap (λ (ls : List Landing). filter (IsSeen c.args.o) ls) c.row.ensures in
    let n = limits g h in
    let span_fits : FitsSigned w128 c.span.result = number-fits c.span.result (span g) c.span.ensures (omega (arith, n.span_small)) in
    let found = simp to_z-of_z at c.raised_sum-sum.ensures in
    let sum : ℤ = total (λ t. pos ((numbers g).weight c.args.s c.args.a c.args.c c.args.o t) *ℤ (at vector t +ℤ pos (span g))) (below g.shape.states) in
    let sum_is : c.raised_sum-sum.result ≡ sum = found ∙ summed g c.args.s c.args.a c.args.c c.args.o vector c.deref.result.now c.seen_so-landings.result.now c.span.result same seen c.span.ensures bring in
    let q = brings-is g h c.args.bits c.requires.bits c.args.nodes.now.members c.requires.nodes.fit c.args.s c.args.a c.args.c c.args.o k c.requires.state c.requires.own c.requires.informed inside in
    let size = q.small in
    let divisor_size = q.divisor_small in
    let times_is : c.scale_of.result *ℤ c.discount-over.result.0 ≡ scale c.args.bits *ℤ pos (over g) =
    ap (λ (z : ℤ). z *ℤ c.discount-over.result.0) c.scale_of.ensures.exact ∙ ap (λ (z : ℤ). scale c.args.bits *ℤ z) (ap (λ (p : ℤ × ℤ). p.0) c.discount-over.ensures ∙ n.numerator) in
    let under_is : c.discount-over.result.1 ≡ pos (under g) = ap (λ (p : ℤ × ℤ). p.1) c.discount-over.ensures ∙ n.denominator in
    let pair_is : c.row_total.result *ℤ c.discount-over.result.1 ≡ pos (whole g * under g) = product-is c.row_total.result c.discount-over.result.1 (whole g) (under g) (c.row_total.ensures ∙ n.row_total) under_is in
    let whole_is : c.row_total.result *ℤ c.discount-over.result.1 *ℤ c.width_of.result ≡ pos (whole g * under g) *ℤ width g = ap (λ (z : ℤ). z *ℤ c.width_of.result) pair_is ∙ ap (λ (z : ℤ). pos (whole g * under g) *ℤ z) c.width_of.ensures in
    let over_size : 2 ^ c.args.bits * over g ≤ 2 ^ 10 * 2 ^ 20 = mul-le (2 ^ c.args.bits) (over g) (2 ^ 10) (2 ^ 20) (bits-few c.args.bits c.requires.bits) (omega (arith, n.below, n.under_small)) in
    let pair_size : whole g * under g ≤ 2 ^ 30 * 2 ^ 20 = mul-le (whole g) (under g) (2 ^ 30) (2 ^ 20) n.whole_small n.under_small in
    let scale_fits : FitsSigned w128 c.scale_of.result = number-fits c.scale_of.result (2 ^ c.args.bits) c.scale_of.ensures.exact (omega (arith, bits-few c.args.bits c.requires.bits)) in
    let over_fits : FitsSigned w128 c.discount-over.result.0 = number-fits c.discount-over.result.0 (over g) (ap (λ (p : ℤ × ℤ). p.0) c.discount-over.ensures ∙ n.numerator) (omega (arith, n.below, n.under_small)) in
    let under_fits : FitsSigned w128 c.discount-over.result.1 = number-fits c.discount-over.result.1 (under g) under_is (omega (arith, n.under_small)) in
    let total_fits : FitsSigned w128 c.row_total.result = number-fits c.row_total.result (whole g) (c.row_total.ensures ∙ n.row_total) (omega (arith, n.whole_small)) in
    let width_fits : FitsSigned w128 c.width_of.result = number-fits c.width_of.result (wideness g) c.width_of.ensures (omega (arith, n.span_small)) in
    let sum_fits : FitsSigned w128 c.raised_sum-sum.result = search rules in
    let times_fits : FitsSigned w128 (c.scale_of.result *ℤ c.discount-over.result.0) = number-fits _ (2 ^ c.args.bits * over g) times_is (omega arith) in
    let pair_fits : FitsSigned w128 (c.row_total.result *ℤ c.discount-over.result.1) = number-fits _ (whole g * under g) pair_is (omega arith) in
    let whole_fits : FitsSigned w128 (c.row_total.result *ℤ c.discount-over.result.1 *ℤ c.width_of.result) = rw whole_is (fits_signed_from_abs w128 _ (omega arith)) in
    let part_is : c.scale_of.result *ℤ c.discount-over.result.0 *ℤ c.raised_sum-sum.result ≡ scale c.args.bits *ℤ pos (over g) *ℤ sum = ap (λ (z : ℤ). z *ℤ c.raised_sum-sum.result) times_is ∙ ap (λ (z : ℤ). scale c.args.bits *ℤ pos (over g) *ℤ z) sum_is in
    let part_fits : FitsSigned w128 (c.scale_of.result *ℤ c.discount-over.result.0 *ℤ c.raised_sum-sum.result) = rw part_is (fits_signed_from_abs w128 _ (omega arith)) in
    simp to_z-of_z (subst (λ (z : ℤ). pos 0 <ℤ z) (sym whole_is) q.divisor)

pub minus_down-requires-clause-part : goal.minus_down-requires-clause-part
minus_down-requires-clause-part c =
    let g : GameData = c.args.game.now in
    let k : ℕ = get_or c.args.candidates.now c.loop-k.k-index 0 in
    let h = c.law_game.ensures.accepted in
    let inside : k < length c.args.nodes.now.members = each-at (λ k. k < length c.args.nodes.now.members) 0 c.args.candidates.now c.loop-k.k-index c.requires.candidates.named.inside c.loop-k-test.true in
    let node = node-in g c.args.nodes.now.members k c.requires.nodes.fit inside in
    let vector : List ℤ = (get_or c.args.nodes.now.members k no_node).vector in
    let same : c.deref.result.now ≡ vector = c.deref.ensures.value ∙ ap (λ (d : NodeData). d.vector) c.node.ensures in
    let bring = seen-bring g h c.args.s c.args.a c.args.c c.args.o c.requires.state c.requires.own c.requires.informed vector node.long node.entries in
    let seen : c.seen_so-landings.result.now ≡ filter (IsSeen c.args.o) (row_at g c.args.s c.args.a c.args.c) = c.seen_so-landings.ensures ∙ ap (λ (ls : List Landing). filter (IsSeen c.args.o) ls) c.row.ensures in
    let n = limits g h in
    let span_fits : FitsSigned w128 c.span.result = number-fits c.span.result (span g) c.span.ensures (omega (arith, n.span_small)) in
    let found = simp to_z-of_z at c.raised_sum-sum.ensures in
    let sum : ℤ = total (λ t. pos ((numbers g).weight c.args.s c.args.a c.args.c c.args.o t) *ℤ (at vector t +ℤ pos (span g))) (below g.shape.states) in
    let sum_is : c.raised_sum-sum.result ≡ sum = found ∙ summed g c.args.s c.args.a c.args.c c.args.o vector c.deref.result.now c.seen_so-landings.result.now c.span.result same seen c.span.ensures bring in
    let q = brings-is g h c.args.bits c.requires.bits c.args.nodes.now.members c.requires.nodes.fit c.args.s c.args.a c.args.c c.args.o k c.requires.state c.requires.own c.requires.informed inside in
    let size = q.small in
    let divisor_size = q.divisor_small in
    let times_is : c.scale_of.result *ℤ c.discount-over.result.0 ≡ scale c.args.bits *ℤ pos (over g) =
    ap (λ (z : ℤ). z *ℤ c.discount-over.result.0) c.scale_of.ensures.exact ∙ ap (λ (z : ℤ). scale c.args.bits *ℤ z) (ap (λ (p : ℤ × ℤ). p.0) c.discount-over.ensures ∙ n.numerator) in
    let under_is : c.discount-over.result.1 ≡ pos (under g) = ap (λ (p : ℤ × ℤ). p.1) c.discount-over.ensures ∙ n.denominator in
    let pair_is : c.row_total.result *ℤ c.discount-over.result.1 ≡ pos (whole g * under g) = product-is c.row_total.result c.discount-over.result.1 (whole g) (under g) (c.row_total.ensures ∙ n.row_total) under_is in
    let whole_is : c.row_total.result *ℤ c.discount-over.result.1 *ℤ c.width_of.result ≡ pos (whole g * under g) *ℤ width g = ap (λ (z : ℤ). z *ℤ c.width_of.result) pair_is ∙ ap (λ (z : ℤ). pos (whole g * under g) *ℤ z) c.width_of.ensures in
    let over_size : 2 ^ c.args.bits * over g ≤ 2 ^ 10 * 2 ^ 20 = mul-le (2 ^ c.args.bits) (over g) (2 ^ 10) (2 ^ 20) (bits-few c.args.bits c.requires.bits) (omega (arith, n.below, n.under_small)) in
    let pair_size : whole g * under g ≤ 2 ^ 30 * 2 ^ 20 = mul-le (whole g) (under g) (2 ^ 30) (2 ^ 20) n.whole_small n.under_small in
    let scale_fits : FitsSigned w128 c.scale_of.result = number-fits c.scale_of.result (2 ^ c.args.bits) c.scale_of.ensures.exact (omega (arith, bits-few c.args.bits c.requires.bits)) in
    let over_fits : FitsSigned w128 c.discount-over.result.0 = number-fits c.discount-over.result.0 (over g) (ap (λ (p : ℤ × ℤ). p.0) c.discount-over.ensures ∙ n.numerator) (omega (arith, n.below, n.under_small)) in
    let under_fits : FitsSigned w128 c.discount-over.result.1 = number-fits c.discount-over.result.1 (under g) under_is (omega (arith, n.under_small)) in
    let total_fits : FitsSigned w128 c.row_total.result = number-fits c.row_total.result (whole g) (c.row_total.ensures ∙ n.row_total) (omega (arith, n.whole_small)) in
    let width_fits : FitsSigned w128 c.width_of.result = number-fits c.width_of.result (wideness g) c.width_of.ensures (omega (arith, n.span_small)) in
    let sum_fits : FitsSigned w128 c.raised_sum-sum.result = search rules in
    let times_fits : FitsSigned w128 (c.scale_of.result *ℤ c.discount-over.result.0) = number-fits _ (2 ^ c.args.bits * over g) times_is (omega arith) in
    let pair_fits : FitsSigned w128 (c.row_total.result *ℤ c.discount-over.result.1) = number-fits _ (whole g * under g) pair_is (omega arith) in
    let whole_fits : FitsSigned w128 (c.row_total.result *ℤ c.discount-over.result.1 *ℤ c.width_of.result) = rw whole_is (fits_signed_from_abs w128 _ (omega arith)) in
    let part_is : c.scale_of.result *ℤ c.discount-over.result.0 *ℤ c.raised_sum-sum.result ≡ scale c.args.bits *ℤ pos (over g) *ℤ sum = ap (λ (z : ℤ). z *ℤ c.raised_sum-sum.result) times_is ∙ ap (λ (z : ℤ). scale c.args.bits *ℤ pos (over g) *ℤ z) sum_is in
    let part_fits : FitsSigned w128 (c.scale_of.result *ℤ c.discount-over.result.0 *ℤ c.raised_sum-sum.result) = rw part_is (fits_signed_from_abs w128 _ (omega arith)) in
    simp to_z-of_z (subst (λ (z : ℤ). pos 0 ≤ℤ z) (sym part_is) q.low)

pub loop-k-preserved : goal.loop-k-preserved
loop-k-preserved c =
    let g : GameData = c.args.game.now in
    let k : ℕ = get_or c.args.candidates.now c.loop-k.k-index 0 in
    let h = c.law_game.ensures.accepted in
    let inside : k < length c.args.nodes.now.members = each-at (λ k. k < length c.args.nodes.now.members) 0 c.args.candidates.now c.loop-k.k-index c.requires.candidates.named.inside c.loop-k-test.true in
    let node = node-in g c.args.nodes.now.members k c.requires.nodes.fit inside in
    let vector : List ℤ = (get_or c.args.nodes.now.members k no_node).vector in
    let same : c.deref.result.now ≡ vector = c.deref.ensures.value ∙ ap (λ (d : NodeData). d.vector) c.node.ensures in
    let bring = seen-bring g h c.args.s c.args.a c.args.c c.args.o c.requires.state c.requires.own c.requires.informed vector node.long node.entries in
    let seen : c.seen_so-landings.result.now ≡ filter (IsSeen c.args.o) (row_at g c.args.s c.args.a c.args.c) = c.seen_so-landings.ensures ∙ ap (λ (ls : List Landing). filter (IsSeen c.args.o) ls) c.row.ensures in
    let n = limits g h in
    let span_fits : FitsSigned w128 c.span.result = number-fits c.span.result (span g) c.span.ensures (omega (arith, n.span_small)) in
    let found = simp to_z-of_z at c.raised_sum-sum.ensures in
    let sum : ℤ = total (λ t. pos ((numbers g).weight c.args.s c.args.a c.args.c c.args.o t) *ℤ (at vector t +ℤ pos (span g))) (below g.shape.states) in
    let sum_is : c.raised_sum-sum.result ≡ sum = found ∙ summed g c.args.s c.args.a c.args.c c.args.o vector c.deref.result.now c.seen_so-landings.result.now c.span.result same seen c.span.ensures bring in
    let q = brings-is g h c.args.bits c.requires.bits c.args.nodes.now.members c.requires.nodes.fit c.args.s c.args.a c.args.c c.args.o k c.requires.state c.requires.own c.requires.informed inside in
    let size = q.small in
    let divisor_size = q.divisor_small in
    let times_is : c.scale_of.result *ℤ c.discount-over.result.0 ≡ scale c.args.bits *ℤ pos (over g) =
    ap (λ (z : ℤ). z *ℤ c.discount-over.result.0) c.scale_of.ensures.exact ∙ ap (λ (z : ℤ). scale c.args.bits *ℤ z) (ap (λ (p : ℤ × ℤ). p.0) c.discount-over.ensures ∙ n.numerator) in
    let under_is : c.discount-over.result.1 ≡ pos (under g) = ap (λ (p : ℤ × ℤ). p.1) c.discount-over.ensures ∙ n.denominator in
    let pair_is : c.row_total.result *ℤ c.discount-over.result.1 ≡ pos (whole g * under g) = product-is c.row_total.result c.discount-over.result.1 (whole g) (under g) (c.row_total.ensures ∙ n.row_total) under_is in
    let whole_is : c.row_total.result *ℤ c.discount-over.result.1 *ℤ c.width_of.result ≡ pos (whole g * under g) *ℤ width g = ap (λ (z : ℤ). z *ℤ c.width_of.result) pair_is ∙ ap (λ (z : ℤ). pos (whole g * under g) *ℤ z) c.width_of.ensures in
    let over_size : 2 ^ c.args.bits * over g ≤ 2 ^ 10 * 2 ^ 20 = mul-le (2 ^ c.args.bits) (over g) (2 ^ 10) (2 ^ 20) (bits-few c.args.bits c.requires.bits) (omega (arith, n.below, n.under_small)) in
    let pair_size : whole g * under g ≤ 2 ^ 30 * 2 ^ 20 = mul-le (whole g) (under g) (2 ^ 30) (2 ^ 20) n.whole_small n.under_small in
    let scale_fits : FitsSigned w128 c.scale_of.result = number-fits c.scale_of.result (2 ^ c.args.bits) c.scale_of.ensures.exact (omega (arith, bits-few c.args.bits c.requires.bits)) in
    let over_fits : FitsSigned w128 c.discount-over.result.0 = number-fits c.discount-over.result.0 (over g) (ap (λ (p : ℤ × ℤ). p.0) c.discount-over.ensures ∙ n.numerator) (omega (arith, n.below, n.under_small)) in
    let under_fits : FitsSigned w128 c.discount-over.result.1 = number-fits c.discount-over.result.1 (under g) under_is (omega (arith, n.under_small)) in
    let total_fits : FitsSigned w128 c.row_total.result = number-fits c.row_total.result (whole g) (c.row_total.ensures ∙ n.row_total) (omega (arith, n.whole_small)) in
    let width_fits : FitsSigned w128 c.width_of.result = number-fits c.width_of.result (wideness g) c.width_of.ensures (omega (arith, n.span_small)) in
    let sum_fits : FitsSigned w128 c.raised_sum-sum.result = search rules in
    let times_fits : FitsSigned w128 (c.scale_of.result *ℤ c.discount-over.result.0) = number-fits _ (2 ^ c.args.bits * over g) times_is (omega arith) in
    let pair_fits : FitsSigned w128 (c.row_total.result *ℤ c.discount-over.result.1) = number-fits _ (whole g * under g) pair_is (omega arith) in
    let whole_fits : FitsSigned w128 (c.row_total.result *ℤ c.discount-over.result.1 *ℤ c.width_of.result) = rw whole_is (fits_signed_from_abs w128 _ (omega arith)) in
    let part_is : c.scale_of.result *ℤ c.discount-over.result.0 *ℤ c.raised_sum-sum.result ≡ scale c.args.bits *ℤ pos (over g) *ℤ sum = ap (λ (z : ℤ). z *ℤ c.raised_sum-sum.result) times_is ∙ ap (λ (z : ℤ). scale c.args.bits *ℤ pos (over g) *ℤ z) sum_is in
    let part_fits : FitsSigned w128 (c.scale_of.result *ℤ c.discount-over.result.0 *ℤ c.raised_sum-sum.result) = rw part_is (fits_signed_from_abs w128 _ (omega arith)) in
    let made_fits : FitsSigned w128 c.minus_down.result = search rules in
    let made : c.minus_down.result ≡ neg_ℤ (floor_of (c.scale_of.result *ℤ c.discount-over.result.0 *ℤ c.raised_sum-sum.result) (c.row_total.result *ℤ c.discount-over.result.1 *ℤ c.width_of.result)) = simp to_z-of_z at c.minus_down.ensures in
    let pushed : c.push.new.self.items ≡ c.loop-k.row.items ++ c.minus_down.result ∷ [] = simp to_z-of_z at c.in_ok-push.ensures.items in
    let f : ℕ → ℤ = λ k. neg_ℤ (node_brings g c.args.bits c.args.nodes.now.members c.args.s c.args.a c.args.c c.args.o k) in
    let number : c.minus_down.result ≡ f k =
    made ∙ ap (λ (z : ℤ). neg_ℤ (floor_of z (c.row_total.result *ℤ c.discount-over.result.1 *ℤ c.width_of.result))) part_is ∙ ap (λ (z : ℤ). neg_ℤ (floor_of (scale c.args.bits *ℤ pos (over g) *ℤ sum) z)) whole_is in
    pushed ∙ ap (λ (x : ℤ). c.loop-k.row.items ++ x ∷ []) number ∙ ap (λ (xs : List ℤ). xs ++ f k ∷ []) c.loop-k.invariant ∙ item-more f c.args.row.now.items c.args.candidates.now c.loop-k.k-index 0 c.loop-k-test.true

pub returns : goal.returns
returns c =
    let f : ℕ → ℤ = λ k. neg_ℤ (node_brings c.args.game.now c.args.bits c.args.nodes.now.members c.args.s c.args.a c.args.c c.args.o k) in
    c.loop-k.invariant ∙ ap (λ (ks : List ℕ). c.args.row.now.items ++ map f ks) (take_all c.loop-k.k-index c.args.candidates.now c.loop-k-test.false)
