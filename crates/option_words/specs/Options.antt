-- The options of a command line: names with their values.
use Rattle.std.specs.Prelude.{ℕ, ◌==◌, ◌≡◌, ⊤, Bool, true, false, List, [], ◌∷◌, Option, Some, None, filter, map, if◌then◌else◌}
use Rattle.std.specs.List.{AllByRecursion, after_first, before_first, list_all, list_any}
use Rattle.std.specs.Option.{option_map}
use Rattle.std.specs.Str.{bytes_eq}
use Rattle.clap.specs.Matches.{first_value, found_of}
use Rattle.clap.specs.declared.parser.matches.ArgMatches.{ArgMatches}

-- an option that words give: its name with the dashes, and its value
pub record Named : Type 0 where
  pub name : List ℕ
  pub value : List ℕ

abbrev pub is_equals : ℕ → Bool
is_equals byte = byte == 61

-- name and value in one word, around its first equals sign
abbrev pub split_word : List ℕ → Named
split_word word = record { name = before_first is_equals word; value = after_first is_equals word }

-- an option before others, where these are options
abbrev pub with_others : Named → Option (List Named) → Option (List Named)
with_others first others = option_map (λ options. first ∷ options) others

-- The options of words, each in two words or in one; none where the last name has no value. A name may wait for its value.
unfoldable pub options_after : Option (List ℕ) → List (List ℕ) → Option (List Named)
options_after None [] = Some []
options_after None (word ∷ words) =
    if list_any is_equals word then with_others (split_word word) (options_after None words)
    else options_after (Some word) words
options_after (Some name) [] = None
options_after (Some name) (value ∷ words) = with_others (record { name = name; value = value }) (options_after None words)

abbrev pub options_of : List (List ℕ) → Option (List Named)
options_of words = options_after None words

-- a name as words write it
abbrev pub dashed : List ℕ → List ℕ
dashed name = 45 ∷ 45 ∷ name

-- a name has a byte
abbrev pub is_filled : List ℕ → Bool
is_filled [] = false
is_filled (byte ∷ name) = true

-- whether an option has one of these names
abbrev pub is_among : List (List ℕ) → Named → Bool
is_among names option = list_any (λ name. bytes_eq option.name (dashed name)) names

-- the values that options give under a name
abbrev pub values_under : List ℕ → List Named → List (List ℕ)
values_under name options = map (λ option. option.value) (filter (λ option. bytes_eq option.name (dashed name)) options)

-- ---- what is read

abbrev pub one_or_none : Option (List ℕ) → List (List ℕ)
one_or_none None = []
one_or_none (Some value) = value ∷ []

-- the value that is read under a name, if any
abbrev pub values_read : ArgMatches → List ℕ → List (List ℕ)
values_read matches name = one_or_none (first_value (found_of matches) name)

-- The words are options of these names, each at most once, and under each name the value is read that they give.
pub record AreRead (names words : List (List ℕ)) (matches : ArgMatches) : Type 0 where
  pub options : List Named
  pub spelled : options_of words ≡ Some options
  pub named : list_all (is_among names) options ≡ true
  pub values : (name : List ℕ) → values_under name options ≡ values_read matches name

abbrev pub has_hyphen : List ℕ → Bool
has_hyphen [] = false
has_hyphen (byte ∷ text) = byte == 45

-- at most one value, with no hyphen in front
abbrev pub IsPlain : List (List ℕ) → Type 0
IsPlain [] = ⊤
IsPlain (value ∷ []) = has_hyphen value ≡ false
IsPlain (value ∷ next ∷ values) = ⊥

-- options of these names, each at most once, with no value that begins with a hyphen
pub record ArePlain (names : List (List ℕ)) (options : List Named) : Type 0 where
  pub named : list_all (is_among names) options ≡ true
  pub plain : AllByRecursion (λ name. IsPlain (values_under name options)) names

-- The words are no plain options of these names.
abbrev pub AreRefused : List (List ℕ) → List (List ℕ) → Type 0
AreRefused names words = (options : List Named) → options_of words ≡ Some options → ArePlain names options → ⊥
