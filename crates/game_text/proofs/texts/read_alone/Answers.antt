use Rattle.std.proofs.Common.{◌≡◌, ◌+◌, true, false, Result, Ok, Err, IfErr, sym, subst, ◌∙◌}
use Rattle.std.proofs.lemmas.Result.{IfOk-weaker}
use Rattle.game_text.specs.Answers.{IsRefusedAlone}
use Rattle.game_text.specs.Plain.{is_end, open_words}
use Rattle.game_text.proofs.Refusals.{game_piece, game_whole, no_text, refused_alone, refused_piece}
use Rattle.game_text.proofs.texts.read_alone.Goals as goal

err_weaker : {T E : Type 0} (r : Result T E) (P Q : E → Type 0) → ((e : E) → P e → Q e) → IfErr r P → IfErr r Q
err_weaker (Ok t) P Q f h = tt
err_weaker (Err e) P Q f h = f e h

pub returns-then-not-branch-clause-game : goal.returns-then-not-branch-clause-game
returns-then-not-branch-clause-game c =
    let whole : is_end (open_words c.args.bytes.now) ≡ false = sym c.in_ok-ends_open.ensures ∙ c.if-not-branch.true in
    IfOk-weaker c.read_whole.result _ _ (λ game h. game_whole c.args.bytes.now game whole h) c.read_whole.ensures.game

pub returns-then-not-branch-clause-refused : goal.returns-then-not-branch-clause-refused
returns-then-not-branch-clause-refused c =
    let whole : is_end (open_words c.args.bytes.now) ≡ false = sym c.in_ok-ends_open.ensures ∙ c.if-not-branch.true in
    err_weaker c.read_whole.result _ _ (λ fault h. refused_alone c.args.bytes.now fault whole h) c.read_whole.ensures.refused

pub returns-then-not-branch-clause-no_game : goal.returns-then-not-branch-clause-no_game
returns-then-not-branch-clause-no_game c =
    let whole : is_end (open_words c.args.bytes.now) ≡ false = sym c.in_ok-ends_open.ensures ∙ c.if-not-branch.true in
    err_weaker c.read_whole.result _ _ (λ fault h. no_text c.args.bytes.now fault (refused_alone c.args.bytes.now fault whole h)) c.read_whole.ensures.refused

pub returns-in-Ok-clause-game : goal.returns-in-Ok-clause-game
returns-in-Ok-clause-game c =
    let piece : is_end (open_words c.args.bytes.now) ≡ true = sym c.in_ok-ends_open.ensures ∙ c.if-not-branch.false in
    game_piece c.args.bytes.now c.deref.result.now c.in-Ok.game piece (c.deref.ensures.value ∙ c.in_ok-text.ensures.bytes) c.in-Ok.ensures.game

pub returns-clause-refused : goal.returns-clause-refused
returns-clause-refused c =
    let piece : is_end (open_words c.args.bytes.now) ≡ true = sym c.in_ok-ends_open.ensures ∙ c.if-not-branch.false in
    subst (IsRefusedAlone c.args.bytes.now) (sym c.told.ensures)
    (refused_piece c.args.bytes.now c.deref.result.now (c.line_feeds.result + 1) c.in-Err.fault piece (c.deref.ensures.value ∙ c.in_ok-text.ensures.bytes) c.line_feeds.ensures.pieces c.in-Err.ensures.refused)

pub returns-clause-no_game : goal.returns-clause-no_game
returns-clause-no_game c =
    let piece : is_end (open_words c.args.bytes.now) ≡ true = sym c.in_ok-ends_open.ensures ∙ c.if-not-branch.false in
    no_text c.args.bytes.now c.told.result
    (subst (IsRefusedAlone c.args.bytes.now) (sym c.told.ensures)
    (refused_piece c.args.bytes.now c.deref.result.now (c.line_feeds.result + 1) c.in-Err.fault piece (c.deref.ensures.value ∙ c.in_ok-text.ensures.bytes) c.line_feeds.ensures.pieces c.in-Err.ensures.refused))
