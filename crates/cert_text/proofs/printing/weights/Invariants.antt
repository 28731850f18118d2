use Rattle.std.proofs.Common.{◌≡◌, ◌∷◌, ◌++◌, flat_map}
use Rattle.std.specs.Fmt.{signed_decimal}
use Rattle.std.specs.String.{string_bytes}
use Rattle.scaled_num.specs.Sums.{below}
use Rattle.belief.specs.Mixes.{mix_at}
use Rattle.cert_text.proofs.printing.weights.Given as goal

abbrev pub invariant-loop-c : goal.invariant-loop-c
invariant-loop-c l = string_bytes l.text ≡ string_bytes l.initial.text ++ flat_map (λ c. 32 ∷ signed_decimal (mix_at l.mixes l.s c)) (below l.c)
