use Rattle.std.proofs.Common.{◌≡◌, ℕ, ◌+◌, List, map, take, get_or, subst}
use Rattle.std.specs.Prelude.{ℤ, pos}
use Rattle.std.proofs.lemmas.List.{take_all}
use Rattle.controller.specs.Reached.{ListsAlso, IsListed}
use Rattle.controller.proofs.Listed.{first-more, listed-more}
use Rattle.controller.proofs.Reaching.{find-both}
use Rattle.controller.proofs.found.Found.add_starts.Goals as goal

abbrev number : ℕ × ℤ → ℕ
number start = start.0

pub loop-start-preserved : goal.loop-start-preserved
loop-start-preserved c =
    let n : ℕ = c.loop-start.start-index in
    let x : ℕ = (get_or c.args.starts.now n (0, pos 0)).0 in
    let before : List ℕ = map number (take n c.args.starts.now) in
    let after : List ℕ = map number (take (n + 1) c.args.starts.now) in
    find-both c.args.self.now.flags.items c.loop-start.self.flags.items c.add.new.self.flags.items c.args.self.now.numbers.items c.loop-start.self.numbers.items c.add.new.self.numbers.items
    (IsListed before) (λ i. i ≡ x) (IsListed after) (listed-more before after x (first-more number c.args.starts.now n (0, pos 0) c.loop-start-test.true)) c.loop-start.invariant c.in_ok-add.ensures

pub returns : goal.returns
returns c =
    subst (λ (starts : List (ℕ × ℤ)). ListsAlso c.args.self.now.flags.items c.args.self.now.numbers.items c.loop-start.self.flags.items c.loop-start.self.numbers.items (IsListed (map number starts)))
    (take_all c.loop-start.start-index c.args.starts.now c.loop-start-test.false) c.loop-start.invariant
