-- Options that were read, as `clap` holds them.
use Rattle.std.proofs.Common.{◌≡◌, ◌⊎◌, ◌&&◌, ◌||◌, ◌≤◌, ◌+◌, ℕ, Bool, true, false, cond, true≢false, refl, sym, ap, ◌∙◌, subst, inl, inr, List, [], ◌∷◌, ◌++◌, append-nil, append_assoc, map, filter, find, length, Option, Some, None, suc, zero, arith, slice_get}
use Rattle.std.specs.List.{list_all, list_any}
use Rattle.std.specs.Prelude.{⊤, option_and_then}
use Rattle.std.specs.Str.{bytes_eq}
use Rattle.std.proofs.lemmas.List.{map-append}
use Rattle.std.proofs.lemmas.Slice.Eq.{bytes_eq-Decides}
use Rattle.clap.specs.Walk.{Row, Text, at_row, first_of, has_row, more_values, used}
use Rattle.clap.specs.declared.builder.value_parser.Reading.TheVariants.{AsWritten}
use Rattle.clap.specs.declared.parser.matches.ValueSource.TheVariants.{CommandLine}
use Rattle.option_words.specs.Options.{IsPlain, Named, dashed, has_hyphen, is_among, one_or_none, values_under}
use Rattle.option_words.proofs.Apps.{option_rule}
use Rattle.option_words.proofs.Finds.{is_name}

-- an option by its name without the dashes, and its value
pub record Said : Type 0 where
  pub name : Text
  pub value : Text

-- as words say it
abbrev pub told : Said → Named
told said = record { name = dashed said.name; value = said.value }

-- as `clap` holds it
abbrev pub row : Said → Row
row said = record { id = said.name; values = said.value ∷ []; count = None; source = Some CommandLine; reading = AsWritten }

abbrev pub rows : List Said → List Row
rows = map row

abbrev pub values_in : Text → List Said → List Text
values_in name said = map (λ (s : Said). s.value) (filter (λ (s : Said). bytes_eq s.name name) said)

-- each name is given once at most
abbrev pub IsOnce : List Said → Type 0
IsOnce said = (name : Text) → length (values_in name said) ≤ 1

abbrev pub are_names : List Text → List Said → Bool
are_names names said = list_all (λ (s : Said). is_name names s.name) said

pub under-told : (name : Text) (said : List Said) → values_under name (map told said) ≡ values_in name said
under-told name [] = refl
under-told name (s ∷ said) = go (bytes_eq s.name name) (under-told name said)
  where
    go : (b : Bool) → values_under name (map told said) ≡ values_in name said →
        map (λ (o : Named). o.value) (cond b (told s ∷ filter (λ (o : Named). bytes_eq o.name (dashed name)) (map told said)) (filter (λ (o : Named). bytes_eq o.name (dashed name)) (map told said)))
        ≡ map (λ (t : Said). t.value) (cond b (s ∷ filter (λ (t : Said). bytes_eq t.name name) said) (filter (λ (t : Said). bytes_eq t.name name) said))
    go true e = ap (λ vs. s.value ∷ vs) e
    go false e = e

pub among-told : (names : List Text) (said : List Said) → are_names names said ≡ list_all (is_among names) (map told said)
among-told names [] = refl
among-told names (s ∷ said) = ap (λ b. is_name names s.name && b) (among-told names said)

pub values-append : (name : Text) (a b : List Said) → values_in name (a ++ b) ≡ values_in name a ++ values_in name b
values-append name [] b = refl
values-append name (s ∷ a) b = go (bytes_eq s.name name) (values-append name a b)
  where
    go : (t : Bool) → values_in name (a ++ b) ≡ values_in name a ++ values_in name b →
        map (λ (t : Said). t.value) (cond t (s ∷ filter (λ (t : Said). bytes_eq t.name name) (a ++ b)) (filter (λ (t : Said). bytes_eq t.name name) (a ++ b)))
        ≡ map (λ (t : Said). t.value) (cond t (s ∷ filter (λ (t : Said). bytes_eq t.name name) a) (filter (λ (t : Said). bytes_eq t.name name) a)) ++ values_in name b
    go true e = ap (λ vs. s.value ∷ vs) e
    go false e = e

-- ---- rows of a name

pub row-none : (name : Text) (said : List Said) → values_in name said ≡ [] → has_row name (rows said) ≡ false
row-none name [] e = refl
row-none name (s ∷ said) e = go (bytes_eq s.name name) e (row-none name said)
  where
    go : (b : Bool) → map (λ (t : Said). t.value) (cond b (s ∷ filter (λ (t : Said). bytes_eq t.name name) said) (filter (λ (t : Said). bytes_eq t.name name) said)) ≡ [] →
        (values_in name said ≡ [] → has_row name (rows said) ≡ false) → (b || has_row name (rows said)) ≡ false
    go true e h = absurd cc
    go false e h = h e

pub none-row : (name : Text) (said : List Said) → has_row name (rows said) ≡ false → values_in name said ≡ []
none-row name [] e = refl
none-row name (s ∷ said) e = go (bytes_eq s.name name) e (none-row name said)
  where
    go : (b : Bool) → (b || has_row name (rows said)) ≡ false → (has_row name (rows said) ≡ false → values_in name said ≡ []) →
        map (λ (t : Said). t.value) (cond b (s ∷ filter (λ (t : Said). bytes_eq t.name name) said) (filter (λ (t : Said). bytes_eq t.name name) said)) ≡ []
    go true e h = absurd (true≢false e)
    go false e h = h e

-- a row of a name that has none comes last
pub row-last : (id : Text) (change : Row → List Row) (missing : List Row) (rs : List Row) → has_row id rs ≡ false → at_row id change missing rs ≡ rs ++ missing
row-last id change missing [] e = refl
row-last id change missing (r ∷ rs) e = go (bytes_eq r.id id) e (row-last id change missing rs)
  where
    go : (b : Bool) → (b || has_row id rs) ≡ false → (has_row id rs ≡ false → at_row id change missing rs ≡ rs ++ missing) →
        cond b (change r ++ rs) (r ∷ at_row id change missing rs) ≡ r ∷ (rs ++ missing)
    go true e h = absurd (true≢false e)
    go false e h = ap (λ more. r ∷ more) (h e)

pub used-once : (s : Said) (said : List Said) → has_row s.name (rows said) ≡ false → used (option_rule s.name) (s.value ∷ []) (rows said) ≡ rows (said ++ s ∷ [])
used-once s said none =
    let kept : at_row s.name (λ _. []) [] (rows said) ≡ rows said = row-last s.name (λ _. []) [] (rows said) none ∙ append-nil (rows said) in
    rw kept (row-last s.name (more_values CommandLine (s.value ∷ [])) (row s ∷ []) (rows said) none ∙ sym (map-append row said (s ∷ [])))

pub once-none : IsOnce []
once-none name = omega arith

pub once-more : (said : List Said) (s : Said) → IsOnce said → has_row s.name (rows said) ≡ false → IsOnce (said ++ s ∷ [])
once-more said s once none name = rw (values-append name said (s ∷ [])) (go (bytes_eq s.name name) refl)
  where
    go : (b : Bool) → bytes_eq s.name name ≡ b → length (values_in name said ++ map (λ (t : Said). t.value) (cond b (s ∷ []) [])) ≤ 1
    go true e =
        let same : s.name ≡ name = (bytes_eq-Decides s.name name).0 e in
        rw (none-row name said (subst (λ (n : Text). has_row n (rows said) ≡ false) same none)) (omega arith)
    go false e = rw (append-nil (values_in name said)) (once name)

-- the values under a name are the first value of its row, if any
pub first-row : (name : Text) (said : List Said) → length (values_in name said) ≤ 1 → values_in name said ≡ one_or_none (first_of name (rows said))
first-row name [] l = refl
first-row name (s ∷ said) l = go (bytes_eq s.name name) l (first-row name said)
  where
    nil : (vs : List Text) → length (s.value ∷ vs) ≤ 1 → vs ≡ []
    nil [] l = refl
    nil (v ∷ vs) l = absurd (omega arith)

    go : (b : Bool) → length (map (λ (t : Said). t.value) (cond b (s ∷ filter (λ (t : Said). bytes_eq t.name name) said) (filter (λ (t : Said). bytes_eq t.name name) said))) ≤ 1 →
        (length (values_in name said) ≤ 1 → values_in name said ≡ one_or_none (first_of name (rows said))) →
        map (λ (t : Said). t.value) (cond b (s ∷ filter (λ (t : Said). bytes_eq t.name name) said) (filter (λ (t : Said). bytes_eq t.name name) said))
        ≡ one_or_none (option_and_then (λ (r : Row). slice_get r.values 0) (cond b (Some (row s)) (find (λ (r : Row). bytes_eq r.id name) (rows said))))
    go true l h = ap (λ vs. s.value ∷ vs) (nil (values_in name said) l)
    go false l h = h l
