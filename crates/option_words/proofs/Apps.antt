-- What building makes of the command with one option for each name.
use Rattle.std.proofs.Common.{◌≡◌, ℕ, Bool, true, false, refl, ap, List, [], ◌∷◌, map}
use Rattle.std.specs.List.{count_by, list_all, list_any}
use Rattle.clap.specs.Facts.{unwrap_or_range}
use Rattle.clap.specs.Faults.{is_simple_and_free}
use Rattle.clap.specs.Simple.{Shape, built, filled, filled_from}
use Rattle.clap.specs.Walk.{Rule, Text, is_early_multiple}
use Rattle.option_words.specs.Apps.{option_app, option_shape, plain_rule}

abbrev pub option_rule : Text → Rule
option_rule name = filled (plain_rule name)

abbrev pub built_shape : List Rule → Shape
built_shape rules = record (option_shape rules) { disable_help_subcommand = true; is_built = true }

filled-options : (names : List Text) → filled_from 1 (map plain_rule names) ≡ map option_rule names
filled-options [] = refl
filled-options (name ∷ names) = ap (λ rest. option_rule name ∷ rest) (filled-options names)

pub built-options : (names : List Text) → built (option_app names) ≡ record { top = built_shape (map option_rule names); subs = [] }
built-options names = ap (λ rules. record { top = built_shape rules; subs = [] }) (filled-options names)

simple_rules : (names : List Text) → list_all (λ (a : Rule). a.is_simple) (map plain_rule names) ≡ true
simple_rules [] = refl
simple_rules (name ∷ names) = simple_rules names

built_simple : (names : List Text) → list_all (λ (a : Rule). a.is_simple) (map option_rule names) ≡ true
built_simple [] = refl
built_simple (name ∷ names) = built_simple names

built_free : (names : List Text) → list_all (λ (a : Rule). a.is_free) (map option_rule names) ≡ true
built_free [] = refl
built_free (name ∷ names) = built_free names

none_early : (n : ℕ) (names : List Text) → list_any (is_early_multiple n) (map option_rule names) ≡ false
none_early n [] = refl
none_early n (name ∷ names) = none_early n names

pub simple-options : (names : List Text) → is_simple_and_free (option_app names) ≡ true
simple-options names = rw (simple_rules names, filled-options names, built_simple names, none_early _ names, built_free names) refl
