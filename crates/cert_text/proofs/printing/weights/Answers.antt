use Rattle.std.proofs.Common.{◌≡◌, ◌++◌, ◌∷◌, ◌∙◌, ap, rules, ℤ, FitsSigned, to_z-of_z}
use Rattle.std.specs.Int.{w128}
use Rattle.std.specs.Fmt.{signed_decimal}
use Rattle.std.specs.String.{string_bytes}
use Rattle.belief.specs.Mixes.{mix_at}
use Rattle.text_words.proofs.Grown.{grown-numbered}
use Rattle.cert_text.proofs.printing.weights.Goals as goal

pub loop-c-preserved : goal.loop-c-preserved
loop-c-preserved c =
    let now = string_bytes c.loop-c.text in
    let fits : FitsSigned w128 c.get.result = search rules in
    let wrote = simp to_z-of_z at c.in_ok-write.ensures.bytes in
    let step : string_bytes c.write.new.self ≡ now ++ (32 ∷ signed_decimal (mix_at c.args.mixes.now c.args.s c.loop-c.c)) = wrote ∙ ap (λ (z : ℤ). now ++ (32 ∷ signed_decimal z)) c.get.ensures.weight in
    grown-numbered (λ k. 32 ∷ signed_decimal (mix_at c.args.mixes.now c.args.s k)) c.loop-c.c (string_bytes c.args.text.now) now (string_bytes c.write.new.self) c.loop-c.invariant step
