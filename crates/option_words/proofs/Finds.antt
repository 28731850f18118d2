-- The rules that names find among those of options.
use Rattle.std.proofs.Common.{◌≡◌, ◌⊎◌, ◌||◌, ℕ, Bool, true, false, true≢false, refl, sym, ap, ◌∙◌, subst, inl, inr, List, [], ◌∷◌, map, Option, Some, None}
use Rattle.std.specs.List.{list_any}
use Rattle.std.specs.Str.{bytes_eq}
use Rattle.std.proofs.lemmas.Slice.Eq.{bytes_eq-Decides}
use Rattle.clap.specs.Walk.{Rule, Text, arg_by_id, arg_by_index, arg_by_long, arg_by_short}
use Rattle.option_words.proofs.Apps.{option_rule}

-- whether a text is one of the names
abbrev pub is_name : List Text → Text → Bool
is_name names text = list_any (λ name. bytes_eq text name) names

same : (a b : Text) → bytes_eq a b ≡ true → a ≡ b
same a b e = (bytes_eq-Decides a b).0 e

turned : (a b : Text) → bytes_eq a b ≡ true → bytes_eq b a ≡ true
turned a b e = (bytes_eq-Decides b a).1 (sym (same a b e))

pub none-short : (names : List Text) (x : ℕ) → arg_by_short (map option_rule names) x ≡ None
none-short [] x = refl
none-short (name ∷ names) x = none-short names x

pub none-index : (names : List Text) (i : ℕ) → arg_by_index (map option_rule names) i ≡ None
none-index [] i = refl
none-index (name ∷ names) i = none-index names i

or_true : (b : Bool) → (b || true) ≡ true
or_true true = refl
or_true false = refl

-- the options of names have one of this name
abbrev IsFound : List Text → Text → Type 0
IsFound names text = (arg_by_long (map option_rule names) text ≡ Some (option_rule text)) × (is_name names text ≡ true)

-- a long name finds the option of that name, or none
pub by-long : (names : List Text) (text : Text) →
    (arg_by_long (map option_rule names) text ≡ None) ⊎ ((arg_by_long (map option_rule names) text ≡ Some (option_rule text)) × (is_name names text ≡ true))
by-long [] text = inl refl
by-long (name ∷ names) text = go (bytes_eq name text) refl (by-long names text)
  where
    go : (b : Bool) → bytes_eq name text ≡ b → (arg_by_long (map option_rule names) text ≡ None) ⊎ IsFound names text →
        (arg_by_long (map option_rule (name ∷ names)) text ≡ None) ⊎ IsFound (name ∷ names) text
    go true e others = inr (rw e (ap (λ (t : Text). Some (option_rule t)) (same name text e)), rw (turned name text e) refl)
    go false e (inl none) = inl (rw e none)
    go false e (inr found) = inr (rw e found.0, rw (found.1) (or_true (bytes_eq text name)))

-- a name finds its option, as a long name and as an id
pub by-name : (names : List Text) (text : Text) → is_name names text ≡ true →
    (arg_by_long (map option_rule names) text ≡ Some (option_rule text)) × (arg_by_id (map option_rule names) text ≡ Some (option_rule text))
by-name [] text e = absurd (true≢false (sym e))
by-name (name ∷ names) text e = go (bytes_eq name text) refl (λ f. by-name names text (tail f (bytes_eq text name) refl))
  where
    Both : List Text → Type 0
    Both names = (arg_by_long (map option_rule names) text ≡ Some (option_rule text)) × (arg_by_id (map option_rule names) text ≡ Some (option_rule text))

    tail : bytes_eq name text ≡ false → (b : Bool) → bytes_eq text name ≡ b → is_name names text ≡ true
    tail f true g = absurd (true≢false (sym (turned text name g) ∙ f))
    tail f false g = rw g at e

    go : (b : Bool) → bytes_eq name text ≡ b → (bytes_eq name text ≡ false → Both names) → Both (name ∷ names)
    go true f others = let s = ap (λ (t : Text). Some (option_rule t)) (same name text f) in (rw f s, rw f s)
    go false f others = let h = others f in (rw f h.0, rw f h.1)
