-- Words that are read as options, and words that are refused: the command that they name.
use Rattle.std.proofs.Common.{◌≡◌, ℕ, Bool, true, false, codes, refl, sym, ap, ◌∙◌, subst, List, [], ◌∷◌, Option, Some, None, eqb, arith, one-add}
use Rattle.std.proofs.lemmas.Bool.{eqb-true}
use Rattle.std.specs.List.{AllByRecursion, before_first, list_all}
use Rattle.std.specs.Option.{option_and_then, option_map}
use Rattle.clap.specs.declared.parser.matches.ArgMatches.{ArgMatches}
use Rattle.closing.specs.Closer.{most_rounds}
use Rattle.controller.specs.Certificates.{most_gap}
use Rattle.option_words.specs.Options.{ArePlain, AreRead, AreRefused, IsPlain, Named, has_hyphen, is_among, options_of, values_read, values_under}
use Rattle.osposg_cli.proofs.DigitValues.{digits_of-other}
use Rattle.osposg_cli.specs.declared.words.Command.{Command}
use Rattle.osposg_cli.specs.declared.words.Command.TheVariants.{Close, Simulate, Solve, Summary}
use Rattle.osposg_cli.specs.declared.words.Gap.{Gap}
use Rattle.simulate.specs.declared.parts.Rival.TheVariants.{Uniform}
use Rattle.hsvi_trial.specs.Run.{most_trials}
use Rattle.osposg_cli.specs.Options.{Values, said, said_once}
use Rattle.osposg_cli.specs.Words.{most_plays, rival_in, rival_of, seed_in, simulate_names, simulate_of, stages_in, close_names, close_of, own_gap_in, rounds_in, some_gap, digits_of, gap_in, gap_of, gap_over, gen_names, gen_of, is_slash, made_of, most_number, most_size, number_in, number_of, read_by, size_in, solve_names, solve_of, trials_in, with_names}

-- ---- what is read

pub read-some : (names : List (List ℕ)) (command : Values → Option Command) (words : List (List ℕ)) (m : ArgMatches) → AreRead names words m → command (values_read m) ≡ read_by names command words
read-some names command words m read =
    let same : (λ (name : List ℕ). values_under name read.options) ≡ values_read m = λ i name. read.values name i in
    sym (rw (read.spelled, read.named) (ap command same))

-- ---- what is refused

-- wherever values make a command, those of the names are plain
abbrev pub TakesPlain : List (List ℕ) → (Values → Option Command) → Type 0
TakesPlain names command = (values : Values) (c : Command) → command values ≡ Some c → AllByRecursion (λ name. IsPlain (values name)) names

pub read-none : (names : List (List ℕ)) (command : Values → Option Command) (words : List (List ℕ)) → TakesPlain names command → AreRefused names words → None ≡ read_by names command words
read-none names command words plain refused = by_options (options_of words) refl
  where
    by_command : (options : List Named) → options_of words ≡ Some options → list_all (is_among names) options ≡ true → (o : Option Command) → command (λ name. values_under name options) ≡ o → None ≡ o
    by_command options spelled named None e = refl
    by_command options spelled named (Some c) e = absurd (refused options spelled (record { named = named; plain = plain (λ name. values_under name options) c e }))

    by_names : (options : List Named) → options_of words ≡ Some options → (b : Bool) → list_all (is_among names) options ≡ b → None ≡ with_names names command options
    by_names options spelled true e = rw e (by_command options spelled e (command (λ name. values_under name options)) refl)
    by_names options spelled false e = rw e refl

    by_options : (o : Option (List Named)) → options_of words ≡ o → None ≡ option_and_then (with_names names command) o
    by_options None e = refl
    by_options (Some options) e = by_names options e (list_all (is_among names) options) refl

-- ---- values with a hyphen in front say nothing

abbrev pub SaysPlain : {A : Type 0} → (List ℕ → Option A) → Type 0
SaysPlain {A} spelled = (text : List ℕ) → spelled (45 ∷ text) ≡ None

hyphen-none : {A : Type 0} (spelled : List ℕ → Option A) → SaysPlain spelled → (text : List ℕ) (x : A) → spelled text ≡ Some x → has_hyphen text ≡ false
hyphen-none spelled plain [] x e = refl
hyphen-none {A} spelled plain (b ∷ text) x e = go (eqb b 45) refl
  where
    go : (t : Bool) → eqb b 45 ≡ t → t ≡ false
    go true f =
        let none : spelled (b ∷ text) ≡ None = ap (λ (n : ℕ). spelled (n ∷ text)) (eqb-true b 45 f) ∙ plain text in
        let bad = sym none ∙ e in
        absurd cc
    go false f = refl

pub said-plain : {A : Type 0} (default : A) (spelled : List ℕ → Option A) (values : List (List ℕ)) (x : A) → SaysPlain spelled → said default spelled values ≡ Some x → IsPlain values
said-plain default spelled [] x plain e = tt
said-plain default spelled (v ∷ []) x plain e = hyphen-none spelled plain v x e
said-plain default spelled (v ∷ w ∷ values) x plain e = absurd cc

pub once-plain : {A : Type 0} (spelled : List ℕ → Option A) (values : List (List ℕ)) (x : A) → SaysPlain spelled → said_once spelled values ≡ Some x → IsPlain values
once-plain spelled [] x plain e = tt
once-plain spelled (v ∷ []) x plain e = hyphen-none spelled plain v x e
once-plain spelled (v ∷ w ∷ values) x plain e = absurd cc

digits-plain : SaysPlain digits_of
digits-plain text = digits_of-other (45 ∷ text) 0 (omega arith) refl

pub number-plain : (low high : ℕ) → SaysPlain (number_of low high)
unfolding number_of
number-plain low high text = rw (digits-plain text) refl

pub gap-plain : SaysPlain gap_of
unfolding gap_of
gap-plain text =
    let before : before_first is_slash (45 ∷ text) ≡ 45 ∷ before_first is_slash text = rw one-add refl in
    rw (before, number-plain 0 most_gap (before_first is_slash text)) refl

-- ---- the commands with options

some-then : {A B : Type 0} (f : A → Option B) (o : Option A) (c : B) → option_and_then f o ≡ Some c → (x : A) × (o ≡ Some x) × (f x ≡ Some c)
some-then f None c e = absurd cc
some-then f (Some x) c e = (x, refl, e)

some-map : {A B : Type 0} (f : A → B) (o : Option A) (c : B) → option_map f o ≡ Some c → (x : A) × (o ≡ Some x)
some-map f None c e = absurd cc
some-map f (Some x) c e = (x, refl)

trials-plain : (values : Values) (n : ℕ) → trials_in values ≡ Some n → IsPlain (values (codes "trials"))
trials-plain values n e = said-plain 100 (number_of 0 most_trials) (values (codes "trials")) n (number-plain 0 most_trials) e

tolerance-plain : (values : Values) (gap : Gap) → gap_in values ≡ Some gap → IsPlain (values (codes "gap"))
tolerance-plain values gap e = said-plain (gap_over 1 100) gap_of (values (codes "gap")) gap gap-plain e

pub solve-plain : TakesPlain solve_names solve_of
unfolding solve_of
solve-plain values c e =
    let trials = some-then (λ (n : ℕ). option_map (Solve n) (gap_in values)) (trials_in values) c e in
    let gap = some-map (Solve trials.0) (gap_in values) c trials.2 in
    (trials-plain values trials.0 trials.1, (tolerance-plain values gap.0 gap.1, tt))

own-gap-plain : SaysPlain some_gap
own-gap-plain text = rw (gap-plain text) refl

pub close-plain : TakesPlain close_names close_of
unfolding close_of
close-plain values c e =
    let rounds = some-then (λ (n : ℕ). option_map (Close n) (own_gap_in values)) (rounds_in values) c e in
    let gap = some-map (Close rounds.0) (own_gap_in values) c rounds.2 in (
      said-plain 100 (number_of 0 most_rounds) (values (codes "rounds")) rounds.0 (number-plain 0 most_rounds) rounds.1,
      (said-plain None some_gap (values (codes "gap")) gap.0 own-gap-plain gap.1, tt),
    )

rival-plain : SaysPlain rival_of
rival-plain text = refl

pub simulate-plain : TakesPlain simulate_names simulate_of
unfolding simulate_of
simulate-plain values c e =
    let seed = some-then (λ (n : ℕ). option_and_then (λ (stages : ℕ). option_map (Simulate n stages) (rival_in values)) (stages_in values)) (seed_in values) c e in
    let stages = some-then (λ (n : ℕ). option_map (Simulate seed.0 n) (rival_in values)) (stages_in values) c seed.2 in
    let rival = some-map (Simulate seed.0 stages.0) (rival_in values) c stages.2 in (
      said-plain 0 (number_of 0 most_number) (values (codes "seed")) seed.0 (number-plain 0 most_number) seed.1,
      (
        said-plain 10 (number_of 1 most_plays) (values (codes "stages")) stages.0 (number-plain 1 most_plays) stages.1,
        (said-plain Uniform rival_of (values (codes "rival")) rival.0 rival-plain rival.1, tt),
      ),
    )

made-plain : (values : Values) (trials gaps : List (List ℕ)) (number size : ℕ) (c : Command) → values (codes "trials") ≡ trials → values (codes "gap") ≡ gaps → made_of values trials gaps number size ≡ Some c →
    IsPlain (values (codes "trials")) × IsPlain (values (codes "gap"))
made-plain values [] [] number size c f g e = (subst IsPlain (sym f) tt, subst IsPlain (sym g) tt)
made-plain values [] (gap ∷ gaps) number size c f g e = absurd cc
made-plain values (count ∷ counts) gaps number size c f g e =
    let trials = some-then (λ (n : ℕ). option_map (Summary number size n) (gap_in values)) (trials_in values) c e in
    let gap = some-map (Summary number size trials.0) (gap_in values) c trials.2 in
    (trials-plain values trials.0 trials.1, tolerance-plain values gap.0 gap.1)

pub gen-plain : TakesPlain gen_names gen_of
unfolding gen_of
gen-plain values c e =
    let trials = values (codes "trials") in
    let gaps = values (codes "gap") in
    let number = some-then (λ (n : ℕ). option_and_then (made_of values trials gaps n) (size_in values)) (number_in values) c e in
    let size = some-then (made_of values trials gaps number.0) (size_in values) c number.2 in
    let made = made-plain values trials gaps number.0 size.0 c refl refl size.2 in
    let numbers = once-plain (number_of 0 most_number) (values (codes "number")) number.0 (number-plain 0 most_number) number.1 in
    let sizes = once-plain (number_of 1 most_size) (values (codes "size")) size.0 (number-plain 1 most_size) size.1 in
    (numbers, (sizes, (made.0, (made.1, tt))))
