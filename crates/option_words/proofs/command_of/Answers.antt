use Rattle.std.proofs.Common.{◌≡◌, ◌∙◌, ◌++◌, ◌+◌, ℕ, List, [], ◌∷◌, map, take, sym, ap, ap₂, rules, arith, get_or, Bor, ◌<◌, length}
use Rattle.std.proofs.lemmas.List.{map-append, take_more}
use Rattle.clap.specs.Simple.{App, app_of, with_rule}
use Rattle.clap.specs.Walk.{Rule, Text, rule_of}
use Rattle.option_words.specs.Apps.{option_app, plain_rule}
use Rattle.option_words.proofs.command_of.Goals as goal

one_more : (names : List Text) (name : Text) → with_rule (option_app names) (plain_rule name) ≡ option_app (names ++ name ∷ [])
one_more names name = ap (λ (rules : List Rule). record (option_app names) { top = record (option_app names).top { rules = rules } }) (sym (map-append plain_rule names (name ∷ [])))

next_names : (names : List (Bor Text)) (i : ℕ) (d : Bor Text) → i < length names → map (λ name. name.now) (take i names) ++ (get_or names i d).now ∷ [] ≡ map (λ name. name.now) (take (i + 1) names)
next_names names i d l = sym (ap (map (λ name. name.now)) (take_more names i d l) ∙ map-append (λ name. name.now) (take i names) (get_or names i d ∷ []))

pub loop-name-preserved : goal.loop-name-preserved
loop-name-preserved c =
    let names = c.args.names.now in
    let i = c.loop-name.name-index in
    let rule : rule_of c.action.result ≡ plain_rule c.new-in-loop-name.result.id.now = search rules in
    c.in_ok-command.ensures.shape (search rules) ∙ ap₂ with_rule c.loop-name.invariant rule
    ∙ one_more (map (λ name. name.now) (take i names)) c.new-in-loop-name.result.id.now
    ∙ ap option_app (rw c.new-in-loop-name.ensures.id (next_names names i _ (omega arith)))
