-- Where `clap` takes words, they are options, and it holds what they say.
use Rattle.std.proofs.Common.{◌≡◌, ◌⊎◌, ◌&&◌, ◌||◌, ℕ, Bool, true, false, true≢false, refl, sym, ap, ◌∙◌, subst, inl, inr, List, [], ◌∷◌, ◌++◌, append-nil, append_assoc, map, Option, Some, None, fold}
use Rattle.std.specs.List.{list_any}
use Rattle.std.specs.Str.{bytes_eq}
use Rattle.clap.specs.Faults.{settle_fault, turn_fault, walk_fault}
use Rattle.clap.specs.Kinds.{Kinds}
use Rattle.clap.specs.Walk.{Held, Row, Text, Walk, settled, walked}
use Rattle.option_words.specs.Options.{dashed, is_equals, options_after, with_others}
use Rattle.option_words.proofs.Finds.{is_name}
use Rattle.option_words.proofs.Rows.{IsOnce, Said, are_names, once-more, rows, told}
use Rattle.option_words.proofs.Walks.{FitsLast, IsJoined, IsNamed, IsOpened, fits-when, joined-turn, opened, opened-turn, or_else-both, ready, ready-turn, rules_of, settle-opened, settle-ready, shape_of, value-turn, whole}

abbrev pub is_bare : Text → Bool
is_bare word = bytes_eq word (45 ∷ 45 ∷ [])

-- where the walk ends
abbrev pub end_of : List Text → Walk → List Text → Walk
end_of names w words = fold (walked (rules_of names) []) w words

-- the words say these options, after others, and the walk holds them all
pub record IsReadAs (names words : List Text) (waits : Option Text) (before : List Said) (h : Held) : Type 0 where
  pub more : List Said
  pub spelled : options_after waits words ≡ Some (map told more)
  pub named : are_names names more ≡ true
  pub once : IsOnce (before ++ more)
  pub held : (settled (rules_of names) h).rows ≡ rows (before ++ more)

abbrev ReadySound : List Text → List Text → Type 0
ReadySound names words =
    (said : List Said) (last : Option Said) → IsOnce said → IsNamed names last → list_any is_bare words ≡ false → walk_fault (shape_of names) [] (ready said last) words ≡ [] →
    settle_fault (rules_of names) false (end_of names (ready said last) words).held ≡ [] → IsReadAs names words None (whole said last) (end_of names (ready said last) words).held

abbrev OpenedSound : List Text → List Text → Type 0
OpenedSound names words =
    (said : List Said) (name : Text) → IsOnce said → is_name names name ≡ true → list_any is_bare words ≡ false → walk_fault (shape_of names) [] (opened said name) words ≡ [] →
    settle_fault (rules_of names) false (end_of names (opened said name) words).held ≡ [] → IsReadAs names words (Some (dashed name)) said (end_of names (opened said name) words).held

once-whole : (names : List Text) (said : List Said) (last : Option Said) → IsOnce said → FitsLast names said last → IsOnce (whole said last)
once-whole names said None once fits = once
once-whole names said (Some s) once fits = once-more said s once fits.1

neither : (a b : Bool) → (a || b) ≡ false → (a ≡ false) × (b ≡ false)
neither true b e = absurd (true≢false e)
neither false b e = (refl, e)

ready-nil : (names : List Text) → ReadySound names []
unfolding options_after
ready-nil names said last once named bare fault settle =
    let fits = fits-when names said last named settle in
    record {
      more = [];
      spelled = refl;
      named = refl;
      once = rw (append-nil (whole said last)) (once-whole names said last once fits);
      held = ap (λ (h : Held). h.rows) (settle-ready names said last fits).1 ∙ ap rows (sym (append-nil (whole said last)));
    }

opened-nil : (names : List Text) → OpenedSound names []
opened-nil names said name once named bare fault settle = let bad = rw (settle-opened names said name named) at settle in absurd cc

ready-cons : (names : List Text) (word : Text) (words : List Text) → ReadySound names words → OpenedSound names words → ReadySound names (word ∷ words)
unfolding options_after walk_fault
ready-cons names word words ready-rest opened-rest said last once named bare fault settle =
    elim (ready-turn names said last word named bares.0 parts.0) [ inl j ↦ joined j | inr o ↦ open-name o ]
  where
    bares : (is_bare word ≡ false) × (list_any is_bare words ≡ false)
    bares = neither (is_bare word) (list_any is_bare words) bare

    parts : (turn_fault (shape_of names) [] (ready said last) word ≡ []) × (walk_fault (shape_of names) [] (walked (rules_of names) [] (ready said last) word) words ≡ [])
    parts = or_else-both (turn_fault (shape_of names) [] (ready said last) word) (walk_fault (shape_of names) [] (walked (rules_of names) [] (ready said last) word) words) fault

    joined : IsJoined names said last word → IsReadAs names (word ∷ words) None (whole said last) (end_of names (ready said last) (word ∷ words)).held
    joined (s, some, split, long, found, fits, none) =
        let before = whole said last in
        let turn = joined-turn names said last s word bares.0 long found fits none in
        let rest = ready-rest (before ++ s ∷ []) None (once-more before s (once-whole names said last once fits) none) tt bares.1
        (subst (λ (w : Walk). walk_fault (shape_of names) [] w words ≡ []) turn.1 parts.1)
        (subst (λ (w : Walk). settle_fault (rules_of names) false (end_of names w words).held ≡ []) turn.1 settle) in
        record {
          more = s ∷ rest.more;
          spelled = rw (some, split, rest.spelled) refl;
          named = rw (found, rest.named) refl;
          once = subst IsOnce (append_assoc before (s ∷ []) rest.more) rest.once;
          held = ap (λ (w : Walk). (settled (rules_of names) (end_of names w words).held).rows) turn.1 ∙ rest.held ∙ ap rows (append_assoc before (s ∷ []) rest.more);
        }

    open-name : IsOpened names said last word → IsReadAs names (word ∷ words) None (whole said last) (end_of names (ready said last) (word ∷ words)).held
    open-name (name, none, is, long, found, fits) =
        let turn = opened-turn names said last name word bares.0 long found fits in
        let rest = opened-rest (whole said last) name (once-whole names said last once fits) found bares.1
        (subst (λ (w : Walk). walk_fault (shape_of names) [] w words ≡ []) turn.1 parts.1)
        (subst (λ (w : Walk). settle_fault (rules_of names) false (end_of names w words).held ≡ []) turn.1 settle) in
        record {
          more = rest.more;
          spelled = rw none (ap (λ (w : Text). options_after (Some w) words) is ∙ rest.spelled);
          named = rest.named;
          once = rest.once;
          held = ap (λ (w : Walk). (settled (rules_of names) (end_of names w words).held).rows) turn.1 ∙ rest.held;
        }

opened-cons : (names : List Text) (word : Text) (words : List Text) → ReadySound names words → OpenedSound names (word ∷ words)
unfolding options_after walk_fault
opened-cons names word words ready-rest said name once named bare fault settle =
    let bares = neither (is_bare word) (list_any is_bare words) bare in
    let parts = or_else-both (turn_fault (shape_of names) [] (opened said name) word) (walk_fault (shape_of names) [] (walked (rules_of names) [] (opened said name) word) words) fault in
    let s : Said = record { name = name; value = word } in
    let turn = value-turn names said name word named bares.0 parts.0 in
    let rest = ready-rest said (Some s) once named bares.1
    (subst (λ (w : Walk). walk_fault (shape_of names) [] w words ≡ []) turn parts.1)
    (subst (λ (w : Walk). settle_fault (rules_of names) false (end_of names w words).held ≡ []) turn settle) in
    record {
      more = s ∷ rest.more;
      spelled = rw rest.spelled refl;
      named = rw (named, rest.named) refl;
      once = subst IsOnce (append_assoc said (s ∷ []) rest.more) rest.once;
      held = ap (λ (w : Walk). (settled (rules_of names) (end_of names w words).held).rows) turn ∙ rest.held ∙ ap rows (append_assoc said (s ∷ []) rest.more);
    }

both-sound : (names words : List Text) → ReadySound names words × OpenedSound names words
both-sound names [] = (ready-nil names, opened-nil names)
both-sound names (word ∷ words) =
    let rest = both-sound names words in
    (ready-cons names word words rest.0 rest.1, opened-cons names word words rest.0)

pub ready-sound : (names words : List Text) → ReadySound names words
ready-sound names words = (both-sound names words).0
