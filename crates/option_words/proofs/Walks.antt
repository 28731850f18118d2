-- What `clap` makes of a word, where a command has options of one value alone.
use Rattle.std.proofs.Common.{◌≡◌, ◌⊎◌, ◌&&◌, ◌||◌, ℕ, Bool, true, false, cond, true≢false, refl, sym, ap, ap₂, ◌∙◌, subst, inl, inr, List, [], ◌∷◌, ◌++◌, map, length, Option, Some, None, option_map, suc, zero, slice_get, chars}
use Rattle.std.specs.List.{after_first, before_first, list_any}
use Rattle.std.specs.Prelude.{⊤}
use Rattle.std.specs.Str.{bytes_eq}
use Rattle.std.proofs.lemmas.Slice.Eq.{bytes_eq-Decides}
use Rattle.clap.specs.Faults.{bundle_fault, flag_word_fault, flags_fault, react_fault, settle_fault, step_fault, turn_fault, use_fault, word_fault}
use Rattle.clap.specs.Kinds.{Kinds, or_else}
use Rattle.clap.specs.Lexer.{has_byte, long_of, name_and_value, short_of}
use Rattle.clap.specs.Simple.{Shape}
use Rattle.clap.specs.Walk.{Held, Row, Rule, Step, Text, Waiting, Walk, arg_by_long, arg_by_short, bundle, bundle_met, has_row, idle, next, option, plain, plain_word, reacted, settled, subcommand_met, used, value, walked, word_met}
use Rattle.clap.specs.declared.error.kind.ErrorKind.{ErrorKind}
use Rattle.clap.specs.declared.error.kind.ErrorKind.TheVariants.{InvalidValue}
use Rattle.option_words.specs.Options.{Named, dashed, has_hyphen, is_equals, split_word}
use Rattle.option_words.proofs.Apps.{built_shape, option_rule}
use Rattle.option_words.proofs.Finds.{by-long, by-name, is_name, none-index, none-short}
use Rattle.option_words.proofs.Rows.{Said, row, rows, told, used-once}
use Rattle.option_words.proofs.WordForms.{before-none, long-cases, plain-word, split-dashed}

abbrev pub rules_of : List Text → List Rule
rules_of names = map option_rule names

abbrev pub shape_of : List Text → Shape
shape_of names = built_shape (rules_of names)

-- ---- where the walk stands

abbrev pub held_with : List Said → Option (Text × List Text) → Held
held_with said pending = record { rows = rows said; pending = pending; skip = 0 }

abbrev pub walk_with : Held → Waiting → Walk
walk_with h waiting = record { held = h; waiting = waiting; position = 1; is_trailing = false; stopped = None }

abbrev pub pending_for : Option Said → Option (Text × List Text)
pending_for last = option_map (λ (s : Said). (s.name, s.value ∷ [])) last

-- these options are settled, and the last one is not yet
abbrev pub ready : List Said → Option Said → Walk
ready said last = walk_with (held_with said (pending_for last)) idle

-- a name waits for its value
abbrev pub opened : List Said → Text → Walk
opened said name = walk_with (held_with said (Some (name, []))) (option name)

abbrev pub whole : List Said → Option Said → List Said
whole said None = said
whole said (Some s) = said ++ s ∷ []

abbrev pub IsNamed : List Text → Option Said → Type 0
IsNamed names None = ⊤
IsNamed names (Some s) = is_name names s.name ≡ true

-- the last option has one of the names, and is given once
abbrev pub FitsLast : List Text → List Said → Option Said → Type 0
FitsLast names said None = ⊤
FitsLast names said (Some s) = (is_name names s.name ≡ true) × (has_row s.name (rows said) ≡ false)

pub or_else-both : (a b : Kinds) → or_else a b ≡ [] → (a ≡ []) × (b ≡ [])
or_else-both [] b e = (refl, e)
or_else-both (k ∷ ks) b e = absurd cc

pub same-name : (name : Text) → bytes_eq name name ≡ true
same-name name = (bytes_eq-Decides name name).1 refl

-- ---- settling

use-once : (name text : Text) (rs : List Row) → has_row name rs ≡ false → use_fault false (option_rule name) (text ∷ []) rs ≡ []
use-once name text rs none = rw none refl

use-checks : (name text : Text) (rs : List Row) → use_fault false (option_rule name) (text ∷ []) rs ≡ [] → has_row name rs ≡ false
use-checks name text rs e = go (has_row name rs) refl
  where
    go : (b : Bool) → has_row name rs ≡ b → has_row name rs ≡ false
    go true f = let bad = rw f at e in absurd cc
    go false f = f

pub settle-ready : (names : List Text) (said : List Said) (last : Option Said) → FitsLast names said last →
    (settle_fault (rules_of names) false (held_with said (pending_for last)) ≡ []) × (settled (rules_of names) (held_with said (pending_for last)) ≡ held_with (whole said last) None)
settle-ready names said None fits = (refl, refl)
settle-ready names said (Some s) fits =
    let found = (by-name names s.name fits.0).1 in
    (rw found (use-once s.name s.value (rows said) fits.1), rw found (ap (λ (rs : List Row). record { rows = rs; pending = None; skip = 0 }) (used-once s said fits.1)))

pub fits-when : (names : List Text) (said : List Said) (last : Option Said) → IsNamed names last → settle_fault (rules_of names) false (held_with said (pending_for last)) ≡ [] → FitsLast names said last
fits-when names said None named e = tt
fits-when names said (Some s) named e = (named, use-checks s.name s.value (rows said) (rw (by-name names s.name named).1 at e))

pub settle-opened : (names : List Text) (said : List Said) (name : Text) → is_name names name ≡ true → settle_fault (rules_of names) false (held_with said (Some (name, []))) ≡ InvalidValue ∷ []
settle-opened names said name named = rw (by-name names name named).1 refl

-- ---- one word

joined-met : (names : List Text) (h : Held) (word name text : Text) → bytes_eq word (45 ∷ 45 ∷ []) ≡ false → long_of word ≡ Some (name, Some text) → is_name names name ≡ true →
    word_met (rules_of names) [] false idle 1 word h ≡ (reacted (rules_of names) (option_rule name) (text ∷ []) h, next idle)
joined-met names h word name text bare long named = rw (bare, long, (by-name names name named).0) refl

joined-fault : (names : List Text) (h : Held) (word name text : Text) → bytes_eq word (45 ∷ 45 ∷ []) ≡ false → long_of word ≡ Some (name, Some text) → is_name names name ≡ true →
    word_fault (shape_of names) [] false idle word h ≡ react_fault (rules_of names) false (option_rule name) (text ∷ []) h
joined-fault names h word name text bare long named = rw (bare, long, (by-name names name named).0) refl

opened-met : (names : List Text) (h : Held) (word name : Text) → bytes_eq word (45 ∷ 45 ∷ []) ≡ false → long_of word ≡ Some (name, None) → is_name names name ≡ true →
    word_met (rules_of names) [] false idle 1 word h ≡ (record (settled (rules_of names) h) { pending = Some (name, []) }, next (option name))
opened-met names h word name bare long named = rw (bare, long, (by-name names name named).0) refl

opened-fault : (names : List Text) (h : Held) (word name : Text) → bytes_eq word (45 ∷ 45 ∷ []) ≡ false → long_of word ≡ Some (name, None) → is_name names name ≡ true →
    word_fault (shape_of names) [] false idle word h ≡ settle_fault (rules_of names) false h
opened-fault names h word name bare long named = rw (bare, long, (by-name names name named).0) refl

reacted-once : (names : List Text) (said : List Said) (last : Option Said) (s : Said) → FitsLast names said last → has_row s.name (rows (whole said last)) ≡ false →
    (react_fault (rules_of names) false (option_rule s.name) (s.value ∷ []) (held_with said (pending_for last)) ≡ [])
    × (reacted (rules_of names) (option_rule s.name) (s.value ∷ []) (held_with said (pending_for last)) ≡ held_with (whole said last ++ s ∷ []) None)
reacted-once names said last s fits none =
    let settle = settle-ready names said last fits in
    let clear : use_fault false (option_rule s.name) (s.value ∷ []) (settled (rules_of names) (held_with said (pending_for last))).rows ≡ [] =
    ap (λ (h : Held). use_fault false (option_rule s.name) (s.value ∷ []) h.rows) settle.1 ∙ use-once s.name s.value (rows (whole said last)) none in (
      ap (λ (k : Kinds). or_else k (use_fault false (option_rule s.name) (s.value ∷ []) (settled (rules_of names) (held_with said (pending_for last))).rows)) settle.0 ∙ clear,
      ap (λ (h : Held). record { rows = used (option_rule s.name) (s.value ∷ []) h.rows; pending = None; skip = 0 }) settle.1
          ∙ ap (λ (rs : List Row). record { rows = rs; pending = None; skip = 0 }) (used-once s (whole said last) none),
    )

-- a word that is an option by itself
pub joined-turn : (names : List Text) (said : List Said) (last : Option Said) (s : Said) (word : Text) → bytes_eq word (45 ∷ 45 ∷ []) ≡ false → long_of word ≡ Some (s.name, Some s.value) → is_name names s.name ≡ true →
    FitsLast names said last → has_row s.name (rows (whole said last)) ≡ false →
    (turn_fault (shape_of names) [] (ready said last) word ≡ []) × (walked (rules_of names) [] (ready said last) word ≡ ready (whole said last ++ s ∷ []) None)
unfolding walked
joined-turn names said last s word bare long named fits none =
    let h = held_with said (pending_for last) in
    let met = joined-met names h word s.name s.value bare long named in
    let fault = joined-fault names h word s.name s.value bare long named in
    let once = reacted-once names said last s fits none in
    (rw (met, fault, once.0) refl, rw met (ap (λ (k : Held). walk_with k idle) once.1))

-- a word that is a name
pub opened-turn : (names : List Text) (said : List Said) (last : Option Said) (name word : Text) → bytes_eq word (45 ∷ 45 ∷ []) ≡ false → long_of word ≡ Some (name, None) → is_name names name ≡ true →
    FitsLast names said last →
    (turn_fault (shape_of names) [] (ready said last) word ≡ []) × (walked (rules_of names) [] (ready said last) word ≡ opened (whole said last) name)
unfolding walked
opened-turn names said last name word bare long named fits =
    let h = held_with said (pending_for last) in
    let met = opened-met names h word name bare long named in
    let fault = opened-fault names h word name bare long named in
    let settle = settle-ready names said last fits in
    (rw (met, fault, settle.0) refl, rw met (ap (λ (k : Held). walk_with (record k { pending = Some (name, []) }) (option name)) settle.1))

-- ---- words that are no flags

bundle-plain : (names : List Text) (k : ℕ) (flags : Text) (h : Held) → flags_fault (rules_of names) false k flags 0 h ≡ [] → bundle_met (rules_of names) k flags 0 plain h ≡ (h, plain)
unfolding flags_fault bundle_met
bundle-plain names zero flags h e = refl
bundle-plain names (suc k) flags h e = go (slice_get (chars flags) 0) refl
  where
    go : (o : Option ℕ) → slice_get (chars flags) 0 ≡ o → bundle_met (rules_of names) (suc k) flags 0 plain h ≡ (h, plain)
    go None f = rw f refl
    go (Some x) f = let bad = rw (f, none-short names x) at e in absurd cc

plain-met : (names : List Text) (said : List Said) (pending : Option (Text × List Text)) (waiting : Waiting) (word : Text) → subcommand_met [] waiting word ≡ None →
    bytes_eq word (45 ∷ 45 ∷ []) ≡ false → long_of word ≡ None → flag_word_fault (rules_of names) false (long_of word) word (held_with said pending) ≡ [] →
    word_met (rules_of names) [] false waiting 1 word (held_with said pending) ≡ plain_word (rules_of names) waiting word (held_with said pending)
plain-met names said pending waiting word none bare long e = go (short_of word) refl
  where
    go : (o : Option Text) → short_of word ≡ o → word_met (rules_of names) [] false waiting 1 word (held_with said pending) ≡ plain_word (rules_of names) waiting word (held_with said pending)
    go None f = rw (none, bare, long, f) refl
    go (Some flags) f =
        let clear : flags_fault (rules_of names) false (length flags) flags 0 (held_with said pending) ≡ [] = rw (long, f) at e in
        rw (none, bare, long, f, bundle-plain names (length flags) flags (held_with said pending) clear) refl

-- ---- what a word is, where none fails

abbrev pub IsJoined : List Text → List Said → Option Said → Text → Type 0
IsJoined names said last word =
    (s : Said) × (list_any is_equals word ≡ true) × (split_word word ≡ told s) × (long_of word ≡ Some (s.name, Some s.value)) × (is_name names s.name ≡ true)
    × FitsLast names said last × (has_row s.name (rows (whole said last)) ≡ false)

abbrev pub IsOpened : List Text → List Said → Option Said → Text → Type 0
IsOpened names said last word =
    (name : Text) × (list_any is_equals word ≡ false) × (word ≡ dashed name) × (long_of word ≡ Some (name, None)) × (is_name names name ≡ true) × FitsLast names said last

unknown : (names : List Text) (h : Held) (waiting : Waiting) (word name : Text) (v : Option Text) → subcommand_met [] waiting word ≡ None → bytes_eq word (45 ∷ 45 ∷ []) ≡ false →
    long_of word ≡ Some (name, v) → arg_by_long (rules_of names) name ≡ None → word_fault (shape_of names) [] false waiting word h ≡ [] → ⊥
unknown names h waiting word name v none bare long nothing e = let bad = rw (none, bare, long, nothing) at e in absurd cc

stray : (names : List Text) (said : List Said) (last : Option Said) (word : Text) → bytes_eq word (45 ∷ 45 ∷ []) ≡ false → long_of word ≡ None →
    turn_fault (shape_of names) [] (ready said last) word ≡ [] → ⊥
stray names said last word bare long e =
    let h = held_with said (pending_for last) in
    let met = word_met (rules_of names) [] false idle 1 word h in
    let parts = or_else-both (word_fault (shape_of names) [] false idle word h) (step_fault (shape_of names) 1 met.0 met.1) e in
    let clear : flag_word_fault (rules_of names) false (long_of word) word h ≡ [] = rw bare at parts.0 in
    let plain_one = plain-met names said (pending_for last) idle word refl bare long clear in
    let bad = rw (plain_one, none-index names 1) at parts.1 in
    absurd cc

pub ready-turn : (names : List Text) (said : List Said) (last : Option Said) (word : Text) → IsNamed names last → bytes_eq word (45 ∷ 45 ∷ []) ≡ false →
    turn_fault (shape_of names) [] (ready said last) word ≡ [] → IsJoined names said last word ⊎ IsOpened names said last word
ready-turn names said last word named bare e =
    elim (long-cases word bare) [ inl none ↦ absurd (stray names said last word bare none e) | inr long ↦ go long.0 long.1 long.2 (list_any is_equals long.0) refl ]
  where
    clear : word_fault (shape_of names) [] false idle word (held_with said (pending_for last)) ≡ []
    clear =
        let h = held_with said (pending_for last) in
        let met = word_met (rules_of names) [] false idle 1 word h in
        (or_else-both (word_fault (shape_of names) [] false idle word h) (step_fault (shape_of names) 1 met.0 met.1) e).0

    joined : (s : Said) → list_any is_equals word ≡ true → split_word word ≡ told s → long_of word ≡ Some (s.name, Some s.value) → is_name names s.name ≡ true → IsJoined names said last word
    joined s some split long found =
        let h = held_with said (pending_for last) in
        let both = or_else-both (settle_fault (rules_of names) false h) (use_fault false (option_rule s.name) (s.value ∷ []) (settled (rules_of names) h).rows)
        (sym (joined-fault names h word s.name s.value bare long found) ∙ clear) in
        let fits = fits-when names said last named both.0 in
        let settle = settle-ready names said last fits in
        (s, some, split, long, found, fits, use-checks s.name s.value (rows (whole said last)) (sym (ap (λ (k : Held). use_fault false (option_rule s.name) (s.value ∷ []) k.rows) settle.1) ∙ both.1))

    go : (text : Text) → word ≡ dashed text → long_of word ≡ Some (name_and_value text) → (t : Bool) → list_any is_equals text ≡ t → IsJoined names said last word ⊎ IsOpened names said last word
    go text is long true f =
        let name = before_first is_equals text in
        let cut : long_of word ≡ Some (name, Some (after_first is_equals text)) = long ∙ rw f refl in
        elim (by-long names name) [
          | inl nothing ↦ absurd (unknown names (held_with said (pending_for last)) idle word name _ refl bare cut nothing clear)
          | inr found ↦ inl (joined (record { name = name; value = after_first is_equals text }) (rw is f) (rw is (split-dashed text)) cut found.1)
        ]
    go text is long false f =
        let cut : long_of word ≡ Some (text, None) = long ∙ rw (f, before-none text f) refl in
        elim (by-long names text) [
          | inl nothing ↦ absurd (unknown names (held_with said (pending_for last)) idle word text _ refl bare cut nothing clear)
          | inr found ↦ inr (text, rw is f, is, cut, found.1, fits-when names said last named (sym (opened-fault names (held_with said (pending_for last)) word text bare cut found.1) ∙ clear))
        ]

-- ---- the value of a name that waits

value-kept : (names : List Text) (said : List Said) (name word : Text) → is_name names name ≡ true →
    word_met (rules_of names) [] false (option name) 1 word (held_with said (Some (name, []))) ≡ plain_word (rules_of names) (option name) word (held_with said (Some (name, []))) →
    walked (rules_of names) [] (opened said name) word ≡ ready said (Some (record { name = name; value = word }))
unfolding walked
value-kept names said name word named met = rw (met, (by-name names name named).1, same-name name) refl

pub value-turn : (names : List Text) (said : List Said) (name word : Text) → is_name names name ≡ true → bytes_eq word (45 ∷ 45 ∷ []) ≡ false →
    turn_fault (shape_of names) [] (opened said name) word ≡ [] → walked (rules_of names) [] (opened said name) word ≡ ready said (Some (record { name = name; value = word }))
value-turn names said name word named bare e =
    elim (long-cases word bare) [
      | inl none ↦ value-kept names said name word named (plain-met names said (Some (name, [])) (option name) word refl bare none (rw bare at clear))
      | inr long ↦ absurd (go long.0 long.2 (list_any is_equals long.0) refl)
    ]
  where
    clear : word_fault (shape_of names) [] false (option name) word (held_with said (Some (name, []))) ≡ []
    clear =
        let h = held_with said (Some (name, [])) in
        let met = word_met (rules_of names) [] false (option name) 1 word h in
        (or_else-both (word_fault (shape_of names) [] false (option name) word h) (step_fault (shape_of names) 1 met.0 met.1) e).0

    known : (other : Text) (v : Option Text) → long_of word ≡ Some (other, v) → arg_by_long (rules_of names) other ≡ Some (option_rule other) → ⊥
    known other None long found = let bad = rw (bare, long, found, settle-opened names said name named) at clear in absurd cc
    known other (Some v) long found = let bad = rw (bare, long, found, settle-opened names said name named) at clear in absurd cc

    either : (other : Text) (v : Option Text) → long_of word ≡ Some (other, v) → ⊥
    either other v long = elim (by-long names other) [
      | inl nothing ↦ unknown names (held_with said (Some (name, []))) (option name) word other v refl bare long nothing clear
      | inr found ↦ known other v long found.0
    ]

    go : (text : Text) → long_of word ≡ Some (name_and_value text) → (t : Bool) → list_any is_equals text ≡ t → ⊥
    go text long t f = either (name_and_value text).0 (name_and_value text).1 long

pub plain-turn : (names : List Text) (said : List Said) (name word : Text) → is_name names name ≡ true → has_hyphen word ≡ false →
    (turn_fault (shape_of names) [] (opened said name) word ≡ []) × (walked (rules_of names) [] (opened said name) word ≡ ready said (Some (record { name = name; value = word })))
plain-turn names said name word named plain_one =
    let forms = plain-word word plain_one in
    let h = held_with said (Some (name, [])) in
    let met : word_met (rules_of names) [] false (option name) 1 word h ≡ plain_word (rules_of names) (option name) word h = rw (forms.2, forms.0, forms.1) refl in
    let clear : word_fault (shape_of names) [] false (option name) word h ≡ [] = rw (forms.2, forms.0, forms.1) refl in
    (rw (clear, met) refl, value-kept names said name word named met)
