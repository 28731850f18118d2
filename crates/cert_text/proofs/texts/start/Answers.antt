use Rattle.std.proofs.Common.{pos, refl, arith, replicate}
use Rattle.std.proofs.lemmas.Int.{ints}
use Rattle.text_words.proofs.Limits.{each_small}
use Rattle.cert_text.proofs.texts.start.Goals as goal

pub returns-clause-kept : goal.returns-clause-kept
returns-clause-kept c = record {
  limits = c.limits.ensures.kept;
  begun = omega arith;
  state = omega arith;
  nodes = omega arith;
  points = omega arith;
  sum = (omega (arith, ints), omega (arith, ints));
  lacking = each_small (pos 0) (pos 65536) (replicate 48 (pos 0)) refl;
  total = (omega (arith, ints), omega (arith, ints));
}
