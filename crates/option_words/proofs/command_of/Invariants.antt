use Rattle.std.proofs.Common.{◌≡◌, map, take}
use Rattle.clap.specs.Simple.{app_of}
use Rattle.option_words.specs.Apps.{option_app}
use Rattle.option_words.proofs.command_of.Given as goal

abbrev pub invariant-loop-name : goal.invariant-loop-name
invariant-loop-name l = app_of l.command ≡ option_app (map (λ name. name.now) (take l.name-index l.names))
