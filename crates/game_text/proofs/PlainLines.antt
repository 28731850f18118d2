-- The plain spelling of a line: its first word, and the numbers behind it.
use Rattle.std.proofs.Common.{◌≡◌, ℕ, ◌-◌, ◌<◌, ◌≤◌, Bool, true, false, cond, ◌&&◌, eqb, List, [], ◌∷◌, length, get_or, map, take, drop, Err, Bor, refl, sym, ap, ◌∙◌, arith}
use Rattle.std.specs.Prelude.{codes, ◌==◌}
use Rattle.std.specs.Str.{bytes_eq}
use Rattle.std.proofs.lemmas.List.{length-map, take_all}
use Rattle.std.proofs.lemmas.Bool.Decides.{nat_tests}
use Rattle.text_words.specs.Lines.{Line, Word, line_in}
use Rattle.text_words.specs.Forms.{begins, numbers_said}
use Rattle.text_words.proofs.Numerals.{bytes_is}
use Rattle.game_text.specs.declared.fault.Kind.TheVariants as kinds
use Rattle.text_words.specs.Forms as forms
use Rattle.game_text.specs.Forms.{numbers_after}
use Rattle.game_text.specs.Plain.{plain_line, plain_word}

eqb_is : (a b : ℕ) → a ≡ b → eqb a b ≡ true
eqb_is a b e = grind (arith, nat_tests)

eqb_isnt : (a b : ℕ) → (a ≡ b → ⊥) → eqb a b ≡ false
eqb_isnt a b e = grind (arith, nat_tests, e)

-- a line that begins with another word than `osposg`
plain_other : (word : Word) (words : Line) → bytes_eq word (codes "osposg") ≡ false → plain_line (word ∷ words) ≡ word ∷ map plain_word words
unfolding plain_line
plain_other word words other = ap (λ (b : Bool). word ∷ cond b words (map plain_word words)) other

not_version : (word name : Word) → bytes_eq name (codes "osposg") ≡ false → bytes_eq word name ≡ true → bytes_eq word (codes "osposg") ≡ false
not_version word name other same = ap (λ (w : Word). bytes_eq w (codes "osposg")) (bytes_is word name same) ∙ other

chosen : {X : Type 0} (a b : Bool) (x y : X) → a ≡ true → b ≡ true → cond (a && b) x y ≡ x
chosen true true x y p q = refl
chosen true false x y p q = absurd cc
chosen false b x y p q = absurd cc

named : (word name : Word) (words : Line) (count : ℕ) → bytes_eq name (codes "osposg") ≡ false → bytes_eq word name ≡ true → length words ≡ count
    → numbers_after name count (plain_line (word ∷ words)) ≡ numbers_said kinds.Number (map plain_word words)
unfolding forms.numbers_after
named word name words count other same counted =
    ap (λ (l : Line). numbers_after name count l) (plain_other word words (not_version word name other same))
    ∙ chosen (bytes_eq word name) (length (map plain_word words) == count) (numbers_said kinds.Number (map plain_word words)) (Err kinds.Shape) same (eqb_is (length (map plain_word words)) count (length-map words plain_word ∙ counted))

one_of : (word : Word) (words : Line) (b : Bool) → (more : Line) × (word ∷ cond b words (map plain_word words) ≡ word ∷ more) × (length more ≡ length words)
one_of word words true = (words, refl, refl)
one_of word words false = (map plain_word words, refl, length-map words plain_word)

plain_length : (word : Word) (words : Line) → (more : Line) × (plain_line (word ∷ words) ≡ word ∷ more) × (length more ≡ length words)
unfolding plain_line
plain_length word words = one_of word words (bytes_eq word (codes "osposg"))

unnamed : (word name : Word) (words : Line) (count : ℕ) → (bytes_eq word name && (length words == count)) ≡ false → numbers_after name count (plain_line (word ∷ words)) ≡ Err kinds.Shape
unfolding forms.numbers_after
unnamed word name words count fails =
    let p = plain_length word words in
    ap (λ (l : Line). numbers_after name count l) p.1
    ∙ ap (λ (n : ℕ). cond (bytes_eq word name && (n == count)) (numbers_said kinds.Number p.0) (Err kinds.Shape)) p.2
    ∙ ap (λ (b : Bool). cond b (numbers_said kinds.Number p.0) (Err kinds.Shape)) fails

and_none : (a : Bool) → (a && false) ≡ false
and_none true = refl
and_none false = refl

-- the same of the words that are read

-- the words behind the first one
abbrev pub later : List (Bor Word) → List (Bor Word)
later words = take (length words - 1) (drop 1 words)

later_are : (word : Bor Word) (words : List (Bor Word)) → later (word ∷ words) ≡ words
later_are word words = take_all (length (word ∷ words) - 1) words (omega arith)

pub after_some : (words : List (Bor Word)) (d : Bor Word) (name : Word) (count : ℕ) → bytes_eq name (codes "osposg") ≡ false → 1 ≤ length words → bytes_eq (get_or words 0 d).now name ≡ true → length (later words) ≡ count
    → numbers_after name count (plain_line (line_in words)) ≡ numbers_said kinds.Number (map plain_word (line_in (later words)))
after_some [] d name count other some same counted = absurd (omega arith)
after_some (word ∷ words) d name count other some same counted =
    named word.now name (line_in words) count other same (length-map words (λ word. word.now) ∙ ap length (sym (later_are word words)) ∙ counted)
    ∙ ap (λ (ws : List (Bor Word)). numbers_said kinds.Number (map plain_word (line_in ws))) (sym (later_are word words))

pub after_none : (words : List (Bor Word)) (name : Word) (count : ℕ) → length words < 1 → numbers_after name count (plain_line (line_in words)) ≡ Err kinds.Shape
unfolding forms.numbers_after plain_line
after_none [] name count none = refl
after_none (word ∷ words) name count none = absurd (omega arith)

pub after_name : (words : List (Bor Word)) (d : Bor Word) (name : Word) (count : ℕ) → 1 ≤ length words → bytes_eq (get_or words 0 d).now name ≡ false → numbers_after name count (plain_line (line_in words)) ≡ Err kinds.Shape
after_name [] d name count some other = absurd (omega arith)
after_name (word ∷ words) d name count some other = unnamed word.now name (line_in words) count (ap (λ (b : Bool). b && (length (line_in words) == count)) other)

pub after_count : (words : List (Bor Word)) (name : Word) (count : ℕ) → 1 ≤ length words → (length (later words) ≡ count → ⊥) → numbers_after name count (plain_line (line_in words)) ≡ Err kinds.Shape
after_count [] name count some other = absurd (omega arith)
after_count (word ∷ words) name count some other =
    let differs : (length (line_in words) == count) ≡ false = eqb_isnt (length (line_in words)) count (λ e. other (ap length (later_are word words) ∙ sym (length-map words (λ word. word.now)) ∙ e)) in
    unnamed word.now name (line_in words) count (ap (λ (b : Bool). bytes_eq word.now name && b) differs ∙ and_none (bytes_eq word.now name))

pub begins_plain : (name : Word) (line : Line) → begins name (plain_line line) ≡ begins name line
unfolding plain_line
begins_plain name [] = refl
begins_plain name (word ∷ words) = refl
