use Rattle.std.proofs.Common.{◌/◌, pos, arith, refl, replicate}
use Rattle.std.specs.Prelude.{slice_index_or}
use Rattle.text_words.proofs.Limits.{each_small}
use Rattle.cert_text.specs.Entries.{lacking_of}
use Rattle.cert_text.proofs.Below.{pointwise_below}
use Rattle.cert_text.proofs.reader.lacking_of.Goals as goal

pub returns-clause-value : goal.returns-clause-value
unfolding lacking_of
returns-clause-value c =
    pointwise_below (λ i. slice_index_or c.args.weights.now (i / c.args.observations) (pos 0)) 48 c.loop-i.lacking c.loop-i.invariant.long
    (λ k l. c.loop-i.invariant.done k (omega (arith, l, c.loop-i-test.false)))

pub loop-i-init : goal.loop-i-init
loop-i-init c = record { done = λ k l. absurd (omega (arith, l)); small = each_small (pos 0) (pos 65536) (replicate 48 (pos 0)) refl; long = refl }
