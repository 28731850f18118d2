-- The command of `clap` with one option for each name.
use Rattle.std.specs.Prelude.{true, List, [], map, Some, codes}
use Rattle.clap.specs.Simple.{App, Shape, new_rule, new_shape}
use Rattle.clap.specs.Walk.{Rule, Text}
use Rattle.clap.specs.declared.builder.action.ArgAction.TheVariants.{Set}

-- an option of one value, by its name
abbrev pub plain_rule : Text → Rule
plain_rule name = record (new_rule name) { long = Some name; action = Some Set }

abbrev pub option_shape : List Rule → Shape
option_shape rules = record (new_shape (codes "options")) { rules = rules; no_binary_name = true; disable_help_flag = true }

abbrev pub option_app : List Text → App
option_app names = record { top = option_shape (map plain_rule names); subs = [] }
