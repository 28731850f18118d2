use Rattle.std.proofs.Common.{map}
use Rattle.cert_text.specs.Draft.{spot_data}
use Rattle.cert_text.proofs.Final.{are_fit}
use Rattle.cert_text.proofs.texts.finish.Goals as goal

pub point_set-requires : goal.point_set-requires
point_set-requires c = are_fit c.args.game.now _ (map spot_data c.args.draft.points.items) c.requires.points
