use Rattle.std.proofs.Common.{◌≡◌, ◌%◌, ℤ, pos, ap, ◌∙◌, arith, to_z-of_z, FitsSigned}
use Rattle.std.specs.Prelude.{true, false, [], ◌∷◌, int_lt, if◌then◌else◌}
use Rattle.std.specs.Fmt.{styled_decimal, format_spec}
use Rattle.std.specs.Int.{w128}
use Rattle.std.proofs.lemmas.Int.{ints}
use Rattle.scaled_num.proofs.Places.{padded_six, six_places-parts, IfOk-then}
use Rattle.scaled_num.proofs.fractions.print_millionths.Goals as goal
use Rattle.scaled_num.proofs.fractions.print_millionths.Goals.{then-negative, else-negative}

pub returns : goal.returns
returns c =
    let count : ℤ = c.args.count in
    let fits : FitsSigned w128 count = c.ranges.count in
    let sign : c.if-negative.sign.now ≡ (if int_lt count (pos 0) then 45 ∷ [] else []) = elim c.if-negative.branch [
      | then-negative w ↦ ap (λ s. s.now) w.sign-is ∙ (let t : int_lt count (pos 0) ≡ true = grind (arith, ints, w.if-negative.true) in rw t)
      | else-negative w ↦ ap (λ s. s.now) w.sign-is ∙ (let t : int_lt count (pos 0) ≡ false = grind (arith, ints, w.if-negative.false) in rw t)
    ] in
    let six : c.laid_out.result ≡ format_spec 32 0 4 6 18446744073709551615 = cc in
    IfOk-then c.format.result c.format.ensures.ok (λ text same.
    six_places-parts count _ _ _ _ _ _ _ same (ap (λ s. styled_decimal s (c.unsigned_abs-3.result % c.unsigned_abs-4.result)) six ∙ padded_six _)
    (simp to_z-of_z at c.unsigned_abs.ensures.value) c.unsigned_abs-2.ensures.value
    (simp to_z-of_z at c.unsigned_abs-3.ensures.value) c.unsigned_abs-4.ensures.value sign)
