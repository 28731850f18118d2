use Rattle.promises.proofs.Promises.{draws, earns, earns-at, earns-mean, holds-down, holds-mean, starts-are_drawn}
use Rattle.promises.proofs.Watching.{earns-watched, earns-watched_at, watched-mean}
use Rattle.promises.proofs.law_promises.Goals as goal

pub returns-clause-lower : goal.returns-clause-lower
returns-clause-lower c = earns c.law_told.ensures _ _ c.law_game.ensures.keeps_span c.requires

pub returns-clause-lower_at : goal.returns-clause-lower_at
returns-clause-lower_at c = earns-at c.law_told.ensures _ _ c.law_game.ensures.keeps_span c.requires

pub returns-clause-lower_mean : goal.returns-clause-lower_mean
returns-clause-lower_mean c = earns-mean c.law_told.ensures _ _ c.law_game.ensures.keeps_span.full c.requires

pub returns-clause-upper : goal.returns-clause-upper
returns-clause-upper c = holds-down c.law_told.ensures _ _ c.law_game.ensures.keeps_span c.requires

pub returns-clause-upper_mean : goal.returns-clause-upper_mean
returns-clause-upper_mean c = holds-mean c.law_told.ensures _ _ c.law_game.ensures.keeps_span.full c.requires

pub returns-clause-draws : goal.returns-clause-draws
returns-clause-draws c = draws c.law_told.ensures c.args.game.now c.args.certificate.now

pub returns-clause-starts : goal.returns-clause-starts
returns-clause-starts c = starts-are_drawn c.law_told.ensures c.args.game.now c.args.certificate.now c.requires

pub returns-clause-watched : goal.returns-clause-watched
returns-clause-watched c = earns-watched c.args.game.now c.args.certificate.now c.law_game.ensures.keeps_span.full c.requires

pub returns-clause-watched_at : goal.returns-clause-watched_at
returns-clause-watched_at c = earns-watched_at c.args.game.now c.args.certificate.now c.law_game.ensures.keeps_span.full c.requires

pub returns-clause-watched_mean : goal.returns-clause-watched_mean
returns-clause-watched_mean c = watched-mean c.args.game.now c.args.certificate.now c.law_game.ensures.keeps_span.full c.requires
