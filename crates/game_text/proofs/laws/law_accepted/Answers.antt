use Rattle.game_text.specs.Plain.{lines_of}
use Rattle.game_text.proofs.Accept.{lines_are_texts}
use Rattle.game_text.proofs.Ruled.{accepts_to}
use Rattle.game_text.proofs.laws.law_accepted.Goals as goal

pub returns : goal.returns
returns c = λ text count entries rest a. lines_are_texts text count entries rest (accepts_to (lines_of text) count entries rest a)
