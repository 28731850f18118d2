-- `clap` takes words that are plain options.
use Rattle.std.proofs.Common.{◌≡◌, ◌&&◌, ◌||◌, ℕ, Bool, true, false, true≢false, refl, sym, ap, ◌∙◌, subst, List, [], ◌∷◌, ◌++◌, append_assoc, map, filter, cond, Option, Some, None}
use Rattle.std.specs.List.{after_first, before_first, list_all, list_any}
use Rattle.std.specs.Str.{bytes_eq}
use Rattle.std.proofs.lemmas.Slice.Eq.{bytes_eq-Decides}
use Rattle.clap.specs.Faults.{settle_fault, turn_fault, walk_fault}
use Rattle.clap.specs.Kinds.{or_else}
use Rattle.clap.specs.Lexer.{long_of}
use Rattle.clap.specs.Walk.{Row, Text, Walk, has_row, walked}
use Rattle.option_words.specs.Options.{IsPlain, Named, dashed, has_hyphen, is_among, is_equals, is_filled, options_after, split_word, values_under, with_others}
use Rattle.option_words.proofs.Finds.{is_name}
use Rattle.option_words.proofs.Readings.{end_of, is_bare}
use Rattle.option_words.proofs.Rows.{Said, row-none, rows, told, values-append, values_in}
use Rattle.option_words.proofs.Walks.{FitsLast, joined-turn, opened, opened-turn, plain-turn, ready, rules_of, same-name, settle-ready, shape_of, whole}
use Rattle.option_words.proofs.WordForms.{long-joined, long-name, plain-word}

-- the walk over the words fails at no word, and settles at the end
pub record IsTaken (names words : List Text) (w : Walk) : Type 0 where
  pub bare : list_any is_bare words ≡ false
  pub fault : walk_fault (shape_of names) [] w words ≡ []
  pub settle : settle_fault (rules_of names) false (end_of names w words).held ≡ []

-- options of the names, plain after others
pub record ArePlainAfter (names : List Text) (said : List Said) (options : List Named) : Type 0 where
  pub named : list_all (is_among names) options ≡ true
  pub plain : (name : Text) → is_name names name ≡ true → IsPlain (values_in name said ++ values_under name options)

abbrev ReadyTaken : List Text → List Text → Type 0
ReadyTaken names words =
    (said : List Said) (last : Option Said) (options : List Named) → FitsLast names said last → options_after None words ≡ Some options → ArePlainAfter names (whole said last) options →
    IsTaken names words (ready said last)

abbrev OpenedTaken : List Text → List Text → Type 0
OpenedTaken names words =
    (said : List Said) (name : Text) (options : List Named) → is_name names name ≡ true → options_after (Some (dashed name)) words ≡ Some options → ArePlainAfter names said options →
    IsTaken names words (opened said name)

-- ---- names

both-true : (a b : Bool) → (a && b) ≡ true → (a ≡ true) × (b ≡ true)
both-true true b e = (refl, e)
both-true false b e = absurd (true≢false (sym e))

filled-name : (names : List Text) (name : Text) → list_all is_filled names ≡ true → is_name names name ≡ true → (b : ℕ) × (rest : Text) × (name ≡ b ∷ rest)
filled-name [] name all e = absurd (true≢false (sym e))
filled-name (n ∷ names) name all e = go (bytes_eq name n) refl (filled-name names name (both-true (is_filled n) (list_all is_filled names) all).1)
  where
    first : (n : Text) → is_filled n ≡ true → name ≡ n → (b : ℕ) × (rest : Text) × (name ≡ b ∷ rest)
    first [] f is = absurd (true≢false (sym f))
    first (b ∷ rest) f is = (b, rest, is)

    go : (t : Bool) → bytes_eq name n ≡ t → (is_name names name ≡ true → (b : ℕ) × (rest : Text) × (name ≡ b ∷ rest)) → (b : ℕ) × (rest : Text) × (name ≡ b ∷ rest)
    go true f others = first n (both-true (is_filled n) (list_all is_filled names) all).0 ((bytes_eq-Decides name n).0 f)
    go false f others = others (rw f at e)

-- the name of an option of the names
among-name : (names : List Text) (option : Named) → is_among names option ≡ true → (name : Text) × (is_name names name ≡ true) × (option.name ≡ dashed name)
among-name [] option e = absurd (true≢false (sym e))
among-name (n ∷ names) option e = go (bytes_eq option.name (dashed n)) refl (among-name names option)
  where
    or_true : (b : Bool) → (b || true) ≡ true
    or_true true = refl
    or_true false = refl

    Name : List Text → Type 0
    Name names = (name : Text) × (is_name names name ≡ true) × (option.name ≡ dashed name)

    later : Name names → Name (n ∷ names)
    later (name, found, is) = (name, rw found (or_true (bytes_eq name n)), is)

    go : (t : Bool) → bytes_eq option.name (dashed n) ≡ t → (is_among names option ≡ true → Name names) → Name (n ∷ names)
    go true f others = (n, rw (same-name n) refl, (bytes_eq-Decides option.name (dashed n)).0 f)
    go false f others = later (others (rw f at e))

-- ---- plain values

plain-here : (a : List Text) (v : Text) (b : List Text) → IsPlain (a ++ v ∷ b) → (a ≡ []) × (has_hyphen v ≡ false)
plain-here [] v [] h = (refl, h)
plain-here [] v (w ∷ b) h = absurd h
plain-here (x ∷ []) v b h = absurd h
plain-here (x ∷ y ∷ a) v b h = absurd h

under-first : (s : Said) (rest : List Named) → values_under s.name (told s ∷ rest) ≡ s.value ∷ values_under s.name rest
under-first s rest = rw (same-name s.name) refl

-- an option of plain ones is given once, and its value has no hyphen in front
plain-first : (names : List Text) (said : List Said) (s : Said) (rest : List Named) → is_name names s.name ≡ true → ArePlainAfter names said (told s ∷ rest) →
    (has_row s.name (rows said) ≡ false) × (has_hyphen s.value ≡ false)
plain-first names said s rest named plain =
    let here = plain-here (values_in s.name said) s.value (values_under s.name rest)
    (subst (λ (vs : List Text). IsPlain (values_in s.name said ++ vs)) (under-first s rest) (plain.plain s.name named)) in
    (row-none s.name said here.0, here.1)

under-next : (name : Text) (said : List Said) (s : Said) (rest : List Named) → values_in name said ++ values_under name (told s ∷ rest) ≡ values_in name (said ++ s ∷ []) ++ values_under name rest
under-next name said s rest = rw (values-append name said (s ∷ [])) (go (bytes_eq s.name name))
  where
    go : (b : Bool) → values_in name said ++ map (λ (o : Named). o.value) (cond b (told s ∷ filter (λ (o : Named). bytes_eq o.name (dashed name)) rest) (filter (λ (o : Named). bytes_eq o.name (dashed name)) rest))
        ≡ (values_in name said ++ map (λ (t : Said). t.value) (cond b (s ∷ []) [])) ++ values_under name rest
    go true = sym (append_assoc (values_in name said) (s.value ∷ []) (values_under name rest))
    go false = sym (append_assoc (values_in name said) [] (values_under name rest))

plain-next : (names : List Text) (said : List Said) (s : Said) (rest : List Named) → ArePlainAfter names said (told s ∷ rest) → ArePlainAfter names (said ++ s ∷ []) rest
plain-next names said s rest plain = record {
  named = (both-true (is_among names (told s)) (list_all (is_among names) rest) plain.named).1;
  plain = λ name named. subst IsPlain (under-next name said s rest) (plain.plain name named);
}

-- ---- words

-- options of which this is the first
others-of : (first : Named) (others : Option (List Named)) (options : List Named) → with_others first others ≡ Some options → (rest : List Named) × (others ≡ Some rest) × (options ≡ first ∷ rest)
others-of first None options e = absurd cc
others-of first (Some rest) options e = (rest, refl, cc)

ready-nil : (names : List Text) → ReadyTaken names []
unfolding options_after walk_fault
ready-nil names said last options fits e plain = record { bare = refl; fault = refl; settle = (settle-ready names said last fits).0 }

opened-nil : (names : List Text) → OpenedTaken names []
unfolding options_after
opened-nil names said name options named e plain = absurd cc

-- a walk that goes on after a word
taken-next : (names : List Text) (word : Text) (words : List Text) (w next : Walk) → is_bare word ≡ false → turn_fault (shape_of names) [] w word ≡ [] → walked (rules_of names) [] w word ≡ next →
    IsTaken names words next → IsTaken names (word ∷ words) w
unfolding walk_fault
taken-next names word words w next bare turn goes rest = record {
  bare = rw (bare, rest.bare) refl;
  fault = rw turn (ap (λ (v : Walk). walk_fault (shape_of names) [] v words) goes ∙ rest.fault);
  settle = ap (λ (v : Walk). settle_fault (rules_of names) false (end_of names v words).held) goes ∙ rest.settle;
}

-- a name that waits is the name of the first option
waiting-name : (names : List Text) (word : Text) (words : List Text) (options : List Named) → options_after (Some word) words ≡ Some options → list_all (is_among names) options ≡ true →
    (name : Text) × (is_name names name ≡ true) × (word ≡ dashed name)
unfolding options_after
waiting-name names word [] options e named = absurd cc
waiting-name names word (text ∷ words) options e named =
    let others = others-of (record { name = word; value = text }) (options_after None words) options e in
    let first = both-true (is_among names (record { name = word; value = text })) (list_all (is_among names) others.0) (subst (λ (os : List Named). list_all (is_among names) os ≡ true) others.2 named) in
    among-name names (record { name = word; value = text }) first.0

ready-cons : (names : List Text) (word : Text) (words : List Text) → list_all is_filled names ≡ true → ReadyTaken names words → OpenedTaken names words → ReadyTaken names (word ∷ words)
unfolding options_after
ready-cons names word words filled ready-rest opened-rest said last options fits e plain = go (list_any is_equals word) refl
  where
    joined : list_any is_equals word ≡ true → (rest : List Named) → options_after None words ≡ Some rest → options ≡ split_word word ∷ rest → IsTaken names (word ∷ words) (ready said last)
    joined some rest spelled is =
        let before = whole said last in
        let all = subst (λ (os : List Named). ArePlainAfter names before os) is plain in
        let found = among-name names (split_word word) (both-true (is_among names (split_word word)) (list_all (is_among names) rest) all.named).0 in
        let s : Said = record { name = found.0; value = after_first is_equals word } in
        let split : split_word word ≡ told s = ap (λ (n : Text). record { name = n; value = after_first is_equals word }) found.2 in
        let these = subst (λ (o : Named). ArePlainAfter names before (o ∷ rest)) split all in
        let once = plain-first names before s rest found.1 these in
        let forms = long-joined word found.0 some found.2 in
        let turn = joined-turn names said last s word forms.1 forms.0 found.1 fits once.0 in
        taken-next names word words (ready said last) (ready (before ++ s ∷ []) None) forms.1 turn.0 turn.1
        (ready-rest (before ++ s ∷ []) None rest tt spelled (plain-next names before s rest these))

    open-name : list_any is_equals word ≡ false → options_after (Some word) words ≡ Some options → IsTaken names (word ∷ words) (ready said last)
    open-name none spelled =
        let found = waiting-name names word words options spelled plain.named in
        let text = filled-name names found.0 filled found.1 in
        let is : word ≡ dashed (text.0 ∷ text.1) = found.2 ∙ ap dashed text.2 in
        let forms = long-name text.0 text.1 (subst (λ (w : Text). list_any is_equals w ≡ false) is none) in
        let long : long_of word ≡ Some (found.0, None) = ap long_of is ∙ forms.0 ∙ ap (λ (n : Text). Some (n, None)) (sym text.2) in
        let bare : is_bare word ≡ false = ap is_bare is ∙ forms.1 in
        let turn = opened-turn names said last found.0 word bare long found.1 fits in
        taken-next names word words (ready said last) (opened (whole said last) found.0) bare turn.0 turn.1
        (opened-rest (whole said last) found.0 options found.1 (subst (λ (w : Text). options_after (Some w) words ≡ Some options) found.2 spelled) plain)

    go : (t : Bool) → list_any is_equals word ≡ t → IsTaken names (word ∷ words) (ready said last)
    go true f = let others = others-of (split_word word) (options_after None words) options (rw f at e) in joined f others.0 others.1 others.2
    go false f = open-name f (rw f at e)

opened-cons : (names : List Text) (word : Text) (words : List Text) → ReadyTaken names words → OpenedTaken names (word ∷ words)
unfolding options_after
opened-cons names word words ready-rest said name options named e plain =
    let s : Said = record { name = name; value = word } in
    let others = others-of (told s) (options_after None words) options e in
    let these = subst (λ (os : List Named). ArePlainAfter names said os) others.2 plain in
    let once = plain-first names said s others.0 named these in
    let turn = plain-turn names said name word named once.1 in
    taken-next names word words (opened said name) (ready said (Some s)) (plain-word word once.1).2 turn.0 turn.1
    (ready-rest said (Some s) others.0 (named, once.0) others.1 (plain-next names said s others.0 these))

both-taken : (names words : List Text) → list_all is_filled names ≡ true → ReadyTaken names words × OpenedTaken names words
both-taken names [] filled = (ready-nil names, opened-nil names)
both-taken names (word ∷ words) filled =
    let rest = both-taken names words filled in
    (ready-cons names word words filled rest.0 rest.1, opened-cons names word words rest.0)

pub ready-taken : (names words : List Text) → list_all is_filled names ≡ true → ReadyTaken names words
ready-taken names words filled = (both-taken names words filled).0
