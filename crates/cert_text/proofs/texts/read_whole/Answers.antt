use Rattle.std.proofs.Common.{◌≡◌, length, rules}
use Rattle.cert_text.specs.Draft.{draft_data}
use Rattle.cert_text.proofs.Whole.{nothing_left}
use Rattle.cert_text.proofs.Final.{whole_text}
use Rattle.cert_text.proofs.texts.read_whole.Goals as goal

pub returns-clause-text : goal.returns-clause-text
returns-clause-text c =
    let none : length c.in_ok-draft.rest.now ≡ 0 = search rules in
    whole_text c.args.game.now c.args.bytes.now c.start.result (draft_data c.in_ok-draft.draft) c.in_ok-draft.lines c.in_ok-draft.rest.now c.law_game.ensures.accepted c.start.ensures.value (nothing_left c.in_ok-draft.rest.now none) c.in_ok-draft.ensures.found
