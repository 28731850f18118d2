-- What `clap` answers to the words of options, as a whole.
use Rattle.std.proofs.Common.{◌≡◌, ◌⊎◌, ◌&&◌, ◌||◌, ℕ, Bool, true, false, cond, true≢false, refl, sym, ap, ◌∙◌, subst, inl, inr, List, [], ◌∷◌, map, Option, Some, None, fold, is_some, not}
use Rattle.std.specs.List.{AllByRecursion, list_all, list_any}
use Rattle.std.specs.Str.{bytes_eq}
use Rattle.std.proofs.lemmas.Slice.Eq.{bytes_eq-Decides}
use Rattle.clap.specs.Faults.{built_fault, check_fault, defaults_fault, entered_fault, fault_of, level_fault, settle_fault, walk_fault}
use Rattle.clap.specs.Kinds.{HasKind, Kinds, or_else}
use Rattle.clap.specs.Matches.{found_of}
use Rattle.clap.specs.Simple.{App, HasMatchesOf, entered, is_simple, names_of}
use Rattle.clap.specs.Takes.{is_given}
use Rattle.clap.specs.Values.{kind_of}
use Rattle.clap.specs.Walk.{Row, Rule, Text, first_of, nothing_held, rows_after, settled, walk, with_default}
use Rattle.clap.specs.declared.error.Error.{Error}
use Rattle.clap.specs.declared.error.kind.ErrorKind.TheVariants.{OutOfMemory}
use Rattle.clap.specs.declared.parser.matches.ArgMatches.{ArgMatches}
use Rattle.clap.proofs.WalkLemmas.{first_value-rows}
use Rattle.option_words.specs.Apps.{option_app}
use Rattle.option_words.specs.Options.{ArePlain, AreRead, AreRefused, IsPlain, Named, is_filled, one_or_none, options_of, values_under}
use Rattle.option_words.proofs.Apps.{built-options, option_rule, simple-options}
use Rattle.option_words.proofs.Finds.{is_name}
use Rattle.option_words.proofs.Readings.{end_of, is_bare, ready-sound}
use Rattle.option_words.proofs.Rows.{among-told, first-row, once-none, rows, told, under-told}
use Rattle.option_words.proofs.Takings.{IsTaken, ready-taken}
use Rattle.option_words.proofs.Walks.{or_else-both, ready, rules_of, shape_of}

abbrev built_app : List Text → App
built_app names = record { top = shape_of names; subs = [] }

-- ---- options have no defaults, and none is required

or_true : (b : Bool) → (b || true) ≡ true
or_true true = refl
or_true false = refl

either_same : {X : Type 0} (b : Bool) (x : X) → cond b x x ≡ x
either_same true x = refl
either_same false x = refl

or_else-nil : (a : Kinds) → or_else a [] ≡ a
or_else-nil [] = refl
or_else-nil (k ∷ ks) = refl

no-defaults : (names : List Text) (rs : List Row) → defaults_fault rs (rules_of names) ≡ []
unfolding defaults_fault
no-defaults [] rs = refl
no-defaults (name ∷ names) rs = rw (or_true _) (no-defaults names (with_default rs (option_rule name)))

kept-rows : (names : List Text) (rs : List Row) → fold with_default rs (rules_of names) ≡ rs
kept-rows [] rs = refl
kept-rows (name ∷ names) rs = ap (λ (r : List Row). fold with_default r (rules_of names)) (either_same _ rs) ∙ kept-rows names rs

none-required : (names : List Text) (rs : List Row) → list_any (λ (a : Rule). a.required && not (is_given a.id rs)) (rules_of names) ≡ false
none-required [] rs = refl
none-required (name ∷ names) rs = none-required names rs

none-checked : (names : List Text) (rs : List Row) → check_fault (shape_of names) rs false ≡ []
none-checked names rs = rw (none-required names rs) refl

-- ---- the faults are those of the walk, and of settling at its end

faults-are : (names words : List Text) → fault_of (option_app names) words ≡
    or_else (walk_fault (shape_of names) [] (ready [] None) words) (settle_fault (rules_of names) false (end_of names (ready [] None) words).held)
faults-are names words =
    ap (λ (a : App). built_fault a nothing_held words) (built-options names) ∙ go (walk (rules_of names) [] nothing_held words).stopped
  where
    level : level_fault (shape_of names) [] nothing_held words false [] ≡
        or_else (walk_fault (shape_of names) [] (ready [] None) words) (settle_fault (rules_of names) false (end_of names (ready [] None) words).held)
    level = rw (no-defaults names _, none-checked names _, or_else-nil) refl

    go : (stop : Option (Text × List Text)) → level_fault (shape_of names) [] nothing_held words (is_some (entered (built_app names) stop)) (entered_fault (built_app names) stop) ≡
        or_else (walk_fault (shape_of names) [] (ready [] None) words) (settle_fault (rules_of names) false (end_of names (ready [] None) words).held)
    go None = level
    go (Some p) = level

-- ---- what is read, and what is refused

both-true : (a b : Bool) → (a && b) ≡ true → (a ≡ true) × (b ≡ true)
both-true true b e = (refl, e)
both-true false b e = absurd (true≢false (sym e))

simple : (names : List Text) → is_simple (option_app names) ≡ true
simple names = (both-true (is_simple (option_app names)) _ (simple-options names)).0

pub are-read : (names words : List Text) (m : ArgMatches) → list_any is_bare words ≡ false → fault_of (option_app names) words ≡ [] → HasMatchesOf (option_app names) words m → AreRead names words m
are-read names words m bare fault matches =
    let parts = or_else-both (walk_fault (shape_of names) [] (ready [] None) words) (settle_fault (rules_of names) false (end_of names (ready [] None) words).held) (sym (faults-are names words) ∙ fault) in
    let read = ready-sound names words [] None once-none tt bare parts.0 parts.1 in
    let held = (matches (simple names)).0 ∙ ap (λ (a : App). rows_after a.top.rules (names_of a) words) (built-options names)
    ∙ kept-rows names (settled (rules_of names) (end_of names (ready [] None) words).held).rows ∙ read.held in
    record {
      options = map told read.more;
      spelled = read.spelled;
      named = sym (among-told names read.more) ∙ read.named;
      values = λ name. under-told name read.more ∙ first-row name read.more (read.once name)
          ∙ ap one_or_none (ap (first_of name) (sym held) ∙ sym (first_value-rows (found_of m) name));
    }

all-plain : (P : Text → Type 0) (names : List Text) (name : Text) → AllByRecursion P names → is_name names name ≡ true → P name
all-plain P [] name all e = absurd (true≢false (sym e))
all-plain P (n ∷ names) name all e = go (bytes_eq name n) refl (all-plain P names name all.1)
  where
    go : (b : Bool) → bytes_eq name n ≡ b → (is_name names name ≡ true → P name) → P name
    go true f others = subst P (sym ((bytes_eq-Decides name n).0 f)) all.0
    go false f others = others (rw f at e)

taken : (names words : List Text) (options : List Named) → list_all is_filled names ≡ true → options_of words ≡ Some options → ArePlain names options → IsTaken names words (ready [] None)
taken names words options filled spelled plain =
    ready-taken names words filled [] None options tt spelled (record {
      named = plain.named;
      plain = λ name found. all-plain (λ (n : Text). IsPlain (values_under n options)) names name plain.plain found;
    })

pub refused-bare : (names words : List Text) → list_all is_filled names ≡ true → list_any is_bare words ≡ true → AreRefused names words
refused-bare names words filled bare options spelled plain = true≢false (sym bare ∙ (taken names words options filled spelled plain).bare)

pub refused-fault : (names words : List Text) (e : Error) → list_all is_filled names ≡ true → HasKind (fault_of (option_app names) words) e → (kind_of e ≡ OutOfMemory → ⊥) → AreRefused names words
refused-fault names words e filled has other options spelled plain =
    let is = taken names words options filled spelled plain in
    let none : fault_of (option_app names) words ≡ [] = faults-are names words ∙ rw (is.fault, is.settle) refl in
    elim (subst (λ (k : Kinds). HasKind k e) none has) [ inl memory ↦ other memory | inr bad ↦ bad ]
