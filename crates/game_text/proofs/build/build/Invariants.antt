use Rattle.std.proofs.Common.{take, drop}
use Rattle.game_text.specs.Built.{IsBuilt}
use Rattle.game_text.specs.Header.{said_by}
use Rattle.game_text.specs.Progress.{said}
use Rattle.game_text.proofs.Runs.{Run}
use Rattle.game_text.proofs.build.build.Given as goal

abbrev pub invariant-loop-entry : goal.invariant-loop-entry
invariant-loop-entry l = record {
  built : IsBuilt l.header.first.items (said (take l.entry-index l.entries) (said_by l.header)) l.builder;
  left : Run (said (drop l.entry-index l.entries) (said (take l.entry-index l.entries) (said_by l.header)));
}
