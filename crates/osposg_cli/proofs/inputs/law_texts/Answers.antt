use Rattle.osposg_cli.proofs.inputs.law_texts.Goals as goal

pub returns : goal.returns
returns c = record {
  games = c.law_games.ensures;
  wholes = c.law_whole_games.ensures;
  refused = c.law_refused_once.ensures;
  front_refused = c.law_front_refused_once.ensures;
  front = c.law_not_refused.ensures;
  whole = c.law_whole_not_refused.ensures;
  certificates = c.law_one.ensures;
  cert_refused = c.law_refused_once-2.ensures;
  read = c.law_read.ensures;
  accepted = c.law_not_refused-2.ensures;
}
