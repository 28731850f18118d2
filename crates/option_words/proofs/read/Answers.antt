use Rattle.std.proofs.Common.{◌≡◌, ◌∙◌, sym, ap, subst, map, string_bytes}
use Rattle.clap.specs.Faults.{fault_of, is_simple_and_free}
use Rattle.clap.specs.Kinds.{HasKind}
use Rattle.clap.specs.Simple.{App, HasMatchesOf, app_of}
use Rattle.option_words.specs.Apps.{option_app}
use Rattle.option_words.proofs.Apps.{simple-options}
use Rattle.option_words.proofs.Whole.{are-read, refused-bare, refused-fault}
use Rattle.option_words.proofs.read.Goals as goal

pub returns-then-has_bare_dashes : goal.returns-then-has_bare_dashes
returns-then-has_bare_dashes c =
    refused-bare (map (λ name. name.now) c.args.names.now) (map string_bytes c.args.words.now) c.requires.names (sym c.has_bare_dashes.ensures ∙ c.if-has_bare_dashes.true)

pub returns-in-Ok : goal.returns-in-Ok
returns-in-Ok c =
    let names = map (λ name. name.now) c.args.names.now in
    let words = map string_bytes c.args.words.now in
    let app : app_of c.in_ok-command.command ≡ option_app names = c.in_ok-command.ensures in
    are-read names words c.in-Ok.matches (sym c.has_bare_dashes.ensures ∙ c.if-has_bare_dashes.false)
    (ap (λ (a : App). fault_of a words) (sym app) ∙ c.in-Ok.ensures.kinds (ap is_simple_and_free app ∙ simple-options names))
    (subst (λ (a : App). HasMatchesOf a words c.in-Ok.matches) app c.in-Ok.ensures.matches)

pub returns : goal.returns
returns c =
    let names = map (λ name. name.now) c.args.names.now in
    let words = map string_bytes c.args.words.now in
    let app : app_of c.in_ok-command.command ≡ option_app names = c.in_ok-command.ensures in
    refused-fault names words c.in-Err.fault c.requires.names
    (subst (λ (a : App). HasKind (fault_of a words) c.in-Err.fault) app (c.in-Err.ensures.kinds (ap is_simple_and_free app ∙ simple-options names)))
    (λ memory. c.in_default.not-OutOfMemory (c.kind.ensures ∙ memory))
