use Rattle.std.proofs.Common.{◌≡◌, ◌∙◌, ◌+◌, ◌∷◌, ◌++◌, [], ℕ, Bool, cond, length, map, ap, arith, false, true, refl, rules}
use mir.Val.{bool_byte}
use Rattle.scaled_num.specs.Sums.{below}
use Rattle.controller.specs.Export.{new_number}
use Rattle.controller.specs.Reached.{flag_at}
use Rattle.controller.proofs.Renumbering.{number-few, numbers-more}
use Rattle.controller.proofs.numbering.Numbering.of.Goals as goal

more : (c : goal.After-from-count) →
    (c.push.new.self.items ≡ map (new_number (flag_at c.deref-keep-items.result.now)) (below (c.loop-keep.keep-index + 1)))
    × (c.loop-keep.count + cond (flag_at c.deref-keep-items.result.now c.loop-keep.keep-index) 1 0 ≡ new_number (flag_at c.deref-keep-items.result.now) (c.loop-keep.keep-index + 1))
more c =
    let pushed : c.push.new.self.items ≡ c.loop-keep.numbers.items ++ c.loop-keep.count ∷ [] = cc (c.in_ok-push.ensures.items) in
    numbers-more (flag_at c.deref-keep-items.result.now) c.loop-keep.keep-index c.loop-keep.count c.loop-keep.numbers.items c.push.new.self.items c.loop-keep.invariant pushed

added : (c : goal.After-from-count) → c.loop-keep.count + c.from-count.result ≡ new_number (flag_at c.deref-keep-items.result.now) (c.loop-keep.keep-index + 1)
added c = ap (λ (k : ℕ). c.loop-keep.count + k) (c.from-count.ensures ∙ byte (flag_at c.deref-keep-items.result.now c.loop-keep.keep-index)) ∙ (more c).1
  where
    byte : (b : Bool) → bool_byte b ≡ cond b 1 0
    byte true = refl
    byte false = refl

pub overflow_add-count : goal.overflow_add-count
overflow_add-count c =
    let sum = added c in
    let few = number-few (flag_at c.deref-keep-items.result.now) (c.loop-keep.keep-index + 1) in
    let inside = c.loop-keep-test.true in
    let long : length c.deref-keep-items.result.now ≡ length c.args.kept.items = ap length c.deref-keep-items.ensures.value in
    let room = c.requires in
    search (rules, arith)

pub loop-keep-preserved : goal.loop-keep-preserved
loop-keep-preserved c = ((more c).0, added c)
