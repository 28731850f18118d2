use Rattle.std.proofs.Common.{◌≡◌, ◌+◌, ◌-◌, List, [], ◌∷◌, length, refl, sym, ap, subst, arith}
use Rattle.std.proofs.lemmas.Result.{err_from_is_err_and}
use Rattle.game_text.specs.declared.progress.RowEntry.{RowEntry}
use Rattle.game_text.specs.Header.{said_by}
use Rattle.game_text.specs.declared.progress.RowEntry.TheVariants as row
use Rattle.game_text.specs.Entries.{Entry}
use Rattle.game_text.specs.Built.{IsBuilt, IsEnded}
use Rattle.game_text.proofs.Accept.{weights_in}
use Rattle.game_text.specs.Progress.{said, entry_in}
use Rattle.game_text.specs.Steps.{Say}
use Rattle.game_text.proofs.Final.{Found, found}
use Rattle.game_text.proofs.texts.read_front.Goals as goal
use Rattle.game_text.proofs.texts.read_front.Goals.{After-drop-header-2}

pub returns-in_err-entries-clause-refused : goal.returns-in_err-entries-clause-refused
returns-in_err-entries-clause-refused c =
    let p = err_from_is_err_and c.from_residual-in_err-entries.result c.from_residual-in_err-entries.ensures.1 in
    rw (p.1, p.2) (c.in_err-entries.ensures.refused c.args.bytes.now (said_by c.in_ok-header.header) c.in_ok-header.ensures.found refl tt)

pub build-requires : goal.build-requires
build-requires c =
    let reads = (c.in_ok-entries.ensures.found c.args.bytes.now (said_by c.in_ok-header.header) c.in_ok-header.ensures.found refl tt).reads in
    record {
      ended = subst (λ (es : List RowEntry). IsEnded (said es (said_by c.in_ok-header.header))) (sym c.deref.ensures.value) (c.in_ok-entries.ensures.ended (said_by c.in_ok-header.header));
      said = (reads.0, subst (λ (es : List RowEntry). Say reads.0 (said es (said_by c.in_ok-header.header))) (sym c.deref.ensures.value) reads.3);
    }

pub returns-in_err-game-clause-refused : goal.returns-in_err-game-clause-refused
returns-in_err-game-clause-refused c =
    let p = err_from_is_err_and c.from_residual-in_err-game.result c.from_residual-in_err-game.ensures.1 in
    rw (p.1, p.2, c.in_err-game.ensures.others) tt

weights_said : (items : List RowEntry) (before : List Entry) → weights_in (said items before) ≡ weights_in before
weights_said [] before = refl
weights_said (row.Step s a c r ∷ items) before = weights_said items (entry_in (row.Step s a c r) ∷ before)
weights_said (row.Out l ∷ items) before = weights_said items (entry_in (row.Out l) ∷ before)
weights_said (row.End ∷ items) before = weights_said items (entry_in row.End ∷ before)

found_here : (c : After-drop-header-2) → Found c.args.bytes.now (length c.args.bytes.now - length c.in_ok-entries.rest.now) c.in_ok-entries.lines c.in_ok-entries.rest.now c.in_ok-game.game
found_here c =
    let base = said_by c.in_ok-header.header in
    let at = c.in_ok-entries.ensures.found c.args.bytes.now base c.in_ok-header.ensures.found refl tt in
    let built = subst (λ (es : List RowEntry). IsBuilt c.in_ok-header.header.first.items (said es base) c.in_ok-game.game) c.deref.ensures.value c.in_ok-game.ensures.game in
    found c.args.bytes.now (5 + length c.in_ok-entries.entries.items) (said c.in_ok-entries.entries.items base) c.in_ok-entries.lines c.in_ok-entries.rest.now c.in_ok-header.header.first.items c.in_ok-game.game
    at (c.in_ok-entries.ensures.ended base) built (weights_said c.in_ok-entries.entries.items base) c.law_game.ensures.accepted

pub returns-clause-ends : goal.returns-clause-ends
returns-clause-ends c = (found_here c).ends

pub returns-clause-game : goal.returns-clause-game
returns-clause-game c = (found_here c).game

pub returns-clause-few : goal.returns-clause-few
returns-clause-few c = omega (arith, ap length (found_here c).dropped, c.in_ok-entries.ensures.shorter, c.in_ok-header.ensures.shorter)
