use Rattle.game_text.proofs.Cuts.{cut_refused}
use Rattle.game_text.proofs.laws.law_cut.Goals as goal

pub returns : goal.returns
returns c = cut_refused c.args.bytes.now c.args.at c.requires
