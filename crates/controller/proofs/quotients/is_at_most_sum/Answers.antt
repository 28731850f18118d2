use Rattle.std.proofs.Common.{arith, rules, subst, sym, Bool, false, true, ◌≡◌}
use Rattle.std.proofs.Math.Dec.{T}
use Rattle.std.specs.Prelude.{ℤ, pos, neg_ℤ, not, ◌+ℤ◌, ◌-ℤ◌, ◌≤ℤ◌, ◌<ℤ◌}
use Rattle.std.specs.Int.Signed.{lt_z, lt_z_no, lt_z_yes}
use Rattle.std.proofs.lemmas.Int.{ints, to_z-of_z}
use Rattle.game_model.proofs.Width.{at_most}
use Rattle.controller.proofs.Remainders.{Rests, even-from, even-to, narrow-to, quotient-fits, room-fits, short-from, short-to, sum-fits, wide-from}
use Rattle.controller.proofs.quotients.is_at_most_sum.Goals as goal

-- what a test of an order says where it passes, and where it fails
is_less : (a b : ℤ) → lt_z a b ≡ true → a <ℤ b
is_less a b test = lt_z_yes (subst T (sym test) tt)

not_less : (a b : ℤ) → lt_z a b ≡ false → b ≤ℤ a
not_less a b test = lt_z_no (subst (λ (b : Bool). T (not b)) (sym test) tt)

pub returns-then-room-gt0 : goal.returns-then-room-gt0
returns-then-room-gt0 c =
    let u = quotient-fits c.args.upper.now c.requires.upper in
    let l = quotient-fits c.args.lower.now c.requires.lower in
    let g = quotient-fits c.args.gap.now c.requires.gap in
    let r = room-fits c.args.lower.now.whole c.args.gap.now.whole c.args.upper.now.whole c.requires.lower.whole c.requires.gap.whole c.requires.upper.whole in
    let upper_whole = u.whole_fits in
    let upper_rest = u.rest_fits in
    let upper_under = u.under_fits in
    let lower_whole = l.whole_fits in
    let lower_rest = l.rest_fits in
    let lower_under = l.under_fits in
    let gap_whole = g.whole_fits in
    let gap_rest = g.rest_fits in
    let gap_under = g.under_fits in
    let sum = r.sum in
    let room = r.room in
    let test = simp to_z-of_z at c.if-room-gt0.true in
    let less : pos 0 <ℤ (c.args.lower.now.whole +ℤ c.args.gap.now.whole -ℤ c.args.upper.now.whole) = is_less (pos 0) (c.args.lower.now.whole +ℤ c.args.gap.now.whole -ℤ c.args.upper.now.whole) test in
    let wide : pos 1 ≤ℤ (c.args.lower.now.whole +ℤ c.args.gap.now.whole -ℤ c.args.upper.now.whole) = omega (arith, ints, less) in (
      λ t. wide-from c.args.upper.now c.args.lower.now c.args.gap.now c.requires.upper c.requires.lower c.requires.gap wide,
      λ most. search rules,
    )

pub returns-then-room-ltminus1 : goal.returns-then-room-ltminus1
returns-then-room-ltminus1 c =
    let u = quotient-fits c.args.upper.now c.requires.upper in
    let l = quotient-fits c.args.lower.now c.requires.lower in
    let g = quotient-fits c.args.gap.now c.requires.gap in
    let r = room-fits c.args.lower.now.whole c.args.gap.now.whole c.args.upper.now.whole c.requires.lower.whole c.requires.gap.whole c.requires.upper.whole in
    let upper_whole = u.whole_fits in
    let upper_rest = u.rest_fits in
    let upper_under = u.under_fits in
    let lower_whole = l.whole_fits in
    let lower_rest = l.rest_fits in
    let lower_under = l.under_fits in
    let gap_whole = g.whole_fits in
    let gap_rest = g.rest_fits in
    let gap_under = g.under_fits in
    let sum = r.sum in
    let room = r.room in
    let test = simp to_z-of_z at c.if-room-ltminus1.true in
    let less : (c.args.lower.now.whole +ℤ c.args.gap.now.whole -ℤ c.args.upper.now.whole) <ℤ neg_ℤ (pos 1) = is_less (c.args.lower.now.whole +ℤ c.args.gap.now.whole -ℤ c.args.upper.now.whole) (neg_ℤ (pos 1)) test in
    let narrow : (c.args.lower.now.whole +ℤ c.args.gap.now.whole -ℤ c.args.upper.now.whole) ≤ℤ neg_ℤ (pos 2) = omega (arith, ints, less) in (
      λ t. cc,
      λ most. absurd (narrow-to c.args.upper.now c.args.lower.now c.args.gap.now c.requires.upper c.requires.lower c.requires.gap narrow most),
    )

pub product-first-requires-clause-a : goal.product-first-requires-clause-a
product-first-requires-clause-a c =
    let q = quotient-fits c.args.lower.now c.requires.lower in
    let rest = q.rest_fits in
    simp to_z-of_z q.rest_in

pub product-first-requires-clause-b : goal.product-first-requires-clause-b
product-first-requires-clause-b c =
    let q = quotient-fits c.args.upper.now c.requires.upper in
    let under = q.under_fits in
    simp to_z-of_z q.under_in

pub product-first-requires-clause-c : goal.product-first-requires-clause-c
product-first-requires-clause-c c =
    let q = quotient-fits c.args.gap.now c.requires.gap in
    let under = q.under_fits in
    simp to_z-of_z q.under_in

pub product-second-requires-clause-a : goal.product-second-requires-clause-a
product-second-requires-clause-a c =
    let q = quotient-fits c.args.gap.now c.requires.gap in
    let rest = q.rest_fits in
    simp to_z-of_z q.rest_in

pub product-second-requires-clause-b : goal.product-second-requires-clause-b
product-second-requires-clause-b c =
    let q = quotient-fits c.args.upper.now c.requires.upper in
    let under = q.under_fits in
    simp to_z-of_z q.under_in

pub product-second-requires-clause-c : goal.product-second-requires-clause-c
product-second-requires-clause-c c =
    let q = quotient-fits c.args.lower.now c.requires.lower in
    let under = q.under_fits in
    simp to_z-of_z q.under_in

pub product-requires-clause-a : goal.product-requires-clause-a
product-requires-clause-a c =
    let q = quotient-fits c.args.upper.now c.requires.upper in
    let under = q.under_fits in
    simp to_z-of_z q.under_in

pub product-requires-clause-b : goal.product-requires-clause-b
product-requires-clause-b c =
    let q = quotient-fits c.args.lower.now c.requires.lower in
    let under = q.under_fits in
    simp to_z-of_z q.under_in

pub product-requires-clause-c : goal.product-requires-clause-c
product-requires-clause-c c =
    let q = quotient-fits c.args.gap.now c.requires.gap in
    let under = q.under_fits in
    simp to_z-of_z q.under_in

pub overflow_add-result : goal.overflow_add-result
overflow_add-result c =
    let s = sum-fits c.product-first.result c.product-second.result c.product-first.ensures.small c.product-second.ensures.small in
    let first = s.first in
    let second = s.second in
    simp to_z-of_z s.sum

pub overflow_add-result-2 : goal.overflow_add-result-2
overflow_add-result-2 c =
    let s = sum-fits c.product-used.result c.product.result c.product-used.ensures.small c.product.ensures.small in
    let first = s.first in
    let second = s.second in
    simp to_z-of_z s.sum

pub overflow_add-result-3 : goal.overflow_add-result-3
overflow_add-result-3 c =
    let s = sum-fits c.product-first.result c.product-second.result c.product-first.ensures.small c.product-second.ensures.small in
    let first = s.first in
    let second = s.second in
    simp to_z-of_z s.sum

pub returns-then-room-gtminus1 : goal.returns-then-room-gtminus1
returns-then-room-gtminus1 c =
    let u = quotient-fits c.args.upper.now c.requires.upper in
    let l = quotient-fits c.args.lower.now c.requires.lower in
    let g = quotient-fits c.args.gap.now c.requires.gap in
    let r = room-fits c.args.lower.now.whole c.args.gap.now.whole c.args.upper.now.whole c.requires.lower.whole c.requires.gap.whole c.requires.upper.whole in
    let upper_whole = u.whole_fits in
    let upper_rest = u.rest_fits in
    let upper_under = u.under_fits in
    let lower_whole = l.whole_fits in
    let lower_rest = l.rest_fits in
    let lower_under = l.under_fits in
    let gap_whole = g.whole_fits in
    let gap_rest = g.rest_fits in
    let gap_under = g.under_fits in
    let sum = r.sum in
    let room = r.room in
    let used_is = simp to_z-of_z at c.product-used.ensures.exact in
    let first_is = simp to_z-of_z at c.product-first.ensures.exact in
    let second_is = simp to_z-of_z at c.product-second.ensures.exact in
    let rests : Rests c.args.upper.now c.args.lower.now c.args.gap.now c.product-used.result c.product-first.result c.product-second.result = record { used_is = used_is; first_is = first_is; second_is = second_is } in
    let s = sum-fits c.product-first.result c.product-second.result c.product-first.ensures.small c.product-second.ensures.small in
    let first_fits = s.first in
    let second_fits = s.second in
    let both_fits = s.sum in
    let used = sum-fits c.product-used.result c.product-used.result c.product-used.ensures.small c.product-used.ensures.small in
    let used_fits = used.first in
    let above = simp to_z-of_z at c.if-room-gtminus1.true in
    let even_low : neg_ℤ (pos 1) <ℤ (c.args.lower.now.whole +ℤ c.args.gap.now.whole -ℤ c.args.upper.now.whole) = is_less (neg_ℤ (pos 1)) (c.args.lower.now.whole +ℤ c.args.gap.now.whole -ℤ c.args.upper.now.whole) above in
    let not_wide = simp to_z-of_z at c.if-room-gt0.false in
    let even_high : (c.args.lower.now.whole +ℤ c.args.gap.now.whole -ℤ c.args.upper.now.whole) ≤ℤ pos 0 = not_less (pos 0) (c.args.lower.now.whole +ℤ c.args.gap.now.whole -ℤ c.args.upper.now.whole) not_wide in
    let even : c.args.lower.now.whole +ℤ c.args.gap.now.whole -ℤ c.args.upper.now.whole ≡ pos 0 = omega (arith, ints, even_low, even_high) in
    simp to_z-of_z (
      λ t. even-from c.args.upper.now c.args.lower.now c.args.gap.now c.product-used.result c.product-first.result c.product-second.result rests even ((at_most c.product-used.result (c.product-first.result +ℤ c.product-second.result)).0 t),
      λ most. (at_most c.product-used.result (c.product-first.result +ℤ c.product-second.result)).1 (even-to c.args.upper.now c.args.lower.now c.args.gap.now c.product-used.result c.product-first.result c.product-second.result rests even most),
    )

pub returns : goal.returns
returns c =
    let u = quotient-fits c.args.upper.now c.requires.upper in
    let l = quotient-fits c.args.lower.now c.requires.lower in
    let g = quotient-fits c.args.gap.now c.requires.gap in
    let r = room-fits c.args.lower.now.whole c.args.gap.now.whole c.args.upper.now.whole c.requires.lower.whole c.requires.gap.whole c.requires.upper.whole in
    let upper_whole = u.whole_fits in
    let upper_rest = u.rest_fits in
    let upper_under = u.under_fits in
    let lower_whole = l.whole_fits in
    let lower_rest = l.rest_fits in
    let lower_under = l.under_fits in
    let gap_whole = g.whole_fits in
    let gap_rest = g.rest_fits in
    let gap_under = g.under_fits in
    let sum = r.sum in
    let room = r.room in
    let used_is = simp to_z-of_z at c.product-used.ensures.exact in
    let first_is = simp to_z-of_z at c.product-first.ensures.exact in
    let second_is = simp to_z-of_z at c.product-second.ensures.exact in
    let rests : Rests c.args.upper.now c.args.lower.now c.args.gap.now c.product-used.result c.product-first.result c.product-second.result = record { used_is = used_is; first_is = first_is; second_is = second_is } in
    let s = sum-fits c.product-first.result c.product-second.result c.product-first.ensures.small c.product-second.ensures.small in
    let first_fits = s.first in
    let second_fits = s.second in
    let both_fits = s.sum in
    let all_is = simp to_z-of_z at c.product.ensures.exact in
    let used = sum-fits c.product-used.result c.product.result c.product-used.ensures.small c.product.ensures.small in
    let used_fits = used.first in
    let all_fits = used.second in
    let used_all_fits = used.sum in
    let not_narrow = simp to_z-of_z at c.if-room-ltminus1.false in
    let not_even = simp to_z-of_z at c.if-room-gtminus1.false in
    let short_high : (c.args.lower.now.whole +ℤ c.args.gap.now.whole -ℤ c.args.upper.now.whole) ≤ℤ neg_ℤ (pos 1) = not_less (neg_ℤ (pos 1)) (c.args.lower.now.whole +ℤ c.args.gap.now.whole -ℤ c.args.upper.now.whole) not_even in
    let short_low : neg_ℤ (pos 1) ≤ℤ (c.args.lower.now.whole +ℤ c.args.gap.now.whole -ℤ c.args.upper.now.whole) = not_less (c.args.lower.now.whole +ℤ c.args.gap.now.whole -ℤ c.args.upper.now.whole) (neg_ℤ (pos 1)) not_narrow in
    let short : c.args.lower.now.whole +ℤ c.args.gap.now.whole -ℤ c.args.upper.now.whole ≡ neg_ℤ (pos 1) = omega (arith, ints, short_low, short_high) in
    simp to_z-of_z (
      λ t. short-from c.args.upper.now c.args.lower.now c.args.gap.now c.product-used.result c.product-first.result c.product-second.result c.product.result c.requires.upper c.requires.lower c.requires.gap rests all_is short
          ((at_most (c.product-used.result +ℤ c.product.result) (c.product-first.result +ℤ c.product-second.result)).0 t),
      λ most. (at_most (c.product-used.result +ℤ c.product.result) (c.product-first.result +ℤ c.product-second.result)).1
          (short-to c.args.upper.now c.args.lower.now c.args.gap.now c.product-used.result c.product-first.result c.product-second.result c.product.result c.requires.upper c.requires.lower c.requires.gap rests all_is short most),
    )
