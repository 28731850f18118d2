-- The words of the lines, and the fractions in them.
use Rattle.std.proofs.Common.{◌≡◌, ℕ, suc, ◌^◌, ◌<◌, Bool, true, false, cond, ◌&&◌, List, [], ◌∷◌, ◌++◌, Result, Ok, Err, ℤ, pos, negsuc, refl, sym, ap, subst, ◌∙◌, arith, inl, inr, ◌⊎◌}
use Rattle.std.specs.Prelude.{codes, ◌==◌, if◌then◌else◌}
use Rattle.std.specs.List.{slice_split, join_with_byte}
use Rattle.std.specs.Option.{ok_or}
use Rattle.std.specs.Str.{bytes_eq}
use Rattle.std.specs.Str.Parse.{AllDigits}
use Rattle.std.specs.Fmt.{decimal, signed_decimal}
use Rattle.std.proofs.lemmas.List.Splits.{join_with_byte-slice_split}
use Rattle.std.proofs.lemmas.Str.Parse.{digit_from_value}
use Rattle.std.proofs.lemmas.Fmt.{decimal_is_IsNumeral_wide}
use Rattle.std.proofs.lemmas.Bool.Decides.{nat_tests}
use Rattle.text_words.specs.Lines.{Line, Word}
use Rattle.text_words.specs.Numbers.{number_of}
use Rattle.text_words.proofs.Printed.{number_of-printed, number_of-prints, signed_decimal-above}
use Rattle.text_words.proofs.Whole.{Lacks, IsWord, split_at, split_none}
use Rattle.text_words.proofs.Limits.{bind_ok, cond_ok, or_some, and_true}
use Rattle.text_words.proofs.Numerals.{Small, bytes_same, bytes_is}
use Rattle.controller.specs.Certificates.{Closed, Ending, FractionData, Full as FullRun, Trials}
use Rattle.cert_text.specs.declared.fault.CertKind.{CertKind}
use Rattle.cert_text.specs.declared.fault.CertKind.TheVariants as kinds
use Rattle.cert_text.specs.Forms.{are_words, version_line, word_after, outcome_of, fraction_from, fraction_of}
use Rattle.cert_text.specs.Text.{outcome_word}

-- a word after a word

pub word_after-ok : (name : List ℕ) (line : Line) (word : Word) → word_after name line ≡ Ok word → line ≡ name ∷ word ∷ []
unfolding word_after
word_after-ok name [] word h = absurd cc
word_after-ok name (first ∷ []) word h = absurd cc
word_after-ok name (first ∷ second ∷ []) word h =
    let p = cond_ok (bytes_eq first name) second word kinds.Shape h in
    ap (λ (w : List ℕ). w ∷ second ∷ []) (bytes_is first name p.0) ∙ ap (λ (w : List ℕ). name ∷ w ∷ []) p.1
word_after-ok name (first ∷ second ∷ more ∷ words) word h = absurd cc

pub word_after-to : (name : List ℕ) (word : Word) → word_after name (name ∷ word ∷ []) ≡ Ok word
unfolding word_after
word_after-to name word = rw (bytes_same name) refl

-- a version of the text, and its word
abbrev pub IsVersion : ℕ → Type 0
IsVersion number = (number ≡ 1) ⊎ (number ≡ 2)

abbrev pub version_word_of : ℕ → Word
version_word_of number = if number == 1 then codes "1" else codes "2"

are_words-ok : (name second : List ℕ) (line : Line) → are_words name second line ≡ true → line ≡ name ∷ second ∷ []
unfolding are_words
are_words-ok name second [] h = absurd cc
are_words-ok name second (first ∷ []) h = absurd cc
are_words-ok name second (first ∷ word ∷ []) h =
    let p = and_true (bytes_eq first name) (bytes_eq word second) h in
    ap (λ (w : List ℕ). w ∷ word ∷ []) (bytes_is first name p.0) ∙ ap (λ (w : List ℕ). name ∷ w ∷ []) (bytes_is word second p.1)
are_words-ok name second (first ∷ word ∷ more ∷ words) h = absurd cc

version_read : ℕ → Result ℕ CertKind
version_read n = Ok n

version_by : (line : Line) (a b : Bool) (n : ℕ) → are_words (codes "certificate") (codes "1") line ≡ a → are_words (codes "certificate") (codes "2") line ≡ b
    → cond a (version_read 1) (cond b (version_read 2) (Err kinds.Version)) ≡ version_read n → IsVersion n × (line ≡ codes "certificate" ∷ version_word_of n ∷ [])
unfolding version_read
version_by line true b n p q h =
    let e : n ≡ 1 = cc in (inl e, are_words-ok (codes "certificate") (codes "1") line p ∙ ap (λ (m : ℕ). codes "certificate" ∷ version_word_of m ∷ []) (sym e))
version_by line false true n p q h =
    let e : n ≡ 2 = cc in (inr e, are_words-ok (codes "certificate") (codes "2") line q ∙ ap (λ (m : ℕ). codes "certificate" ∷ version_word_of m ∷ []) (sym e))
version_by line false false n p q h = absurd cc

pub version_line-ok : (line : Line) (n : ℕ) → version_line line ≡ Ok n → IsVersion n × (line ≡ codes "certificate" ∷ version_word_of n ∷ [])
unfolding version_line version_read
version_line-ok line n h = version_by line (are_words (codes "certificate") (codes "1") line) (are_words (codes "certificate") (codes "2") line) n refl refl h

pub version_line-one : version_line (codes "certificate" ∷ codes "1" ∷ []) ≡ Ok 1
unfolding version_line are_words
version_line-one = refl

pub version_line-two : version_line (codes "certificate" ∷ codes "2" ∷ []) ≡ Ok 2
unfolding version_line are_words
version_line-two = refl

pub version_line-to : (n : ℕ) → IsVersion n → version_line (codes "certificate" ∷ version_word_of n ∷ []) ≡ Ok n
version_line-to n (inl e) = subst (λ (m : ℕ). version_line (codes "certificate" ∷ version_word_of m ∷ []) ≡ Ok m) (sym e) version_line-one
version_line-to n (inr e) = subst (λ (m : ℕ). version_line (codes "certificate" ∷ version_word_of m ∷ []) ≡ Ok m) (sym e) version_line-two

-- the three endings

outcome_by : (word : Word) (a b c : Bool) (ending : Ending) → bytes_eq word (codes "closed") ≡ a → bytes_eq word (codes "trials") ≡ b → bytes_eq word (codes "full") ≡ c
    → cond a (Ok Closed) (cond b (Ok Trials) (cond c (Ok FullRun) (Err kinds.Shape))) ≡ Ok ending → word ≡ outcome_word ending
outcome_by word true b c ending p q r h = let e : Closed ≡ ending = cc in bytes_is word (codes "closed") p ∙ ap outcome_word e
outcome_by word false true c ending p q r h = let e : Trials ≡ ending = cc in bytes_is word (codes "trials") q ∙ ap outcome_word e
outcome_by word false false true ending p q r h = let e : FullRun ≡ ending = cc in bytes_is word (codes "full") r ∙ ap outcome_word e
outcome_by word false false false ending p q r h = absurd cc

pub outcome_of-ok : (word : Word) (ending : Ending) → outcome_of word ≡ Ok ending → word ≡ outcome_word ending
unfolding outcome_of
outcome_of-ok word ending h = outcome_by word (bytes_eq word (codes "closed")) (bytes_eq word (codes "trials")) (bytes_eq word (codes "full")) ending refl refl refl h

pub outcome_of-to : (ending : Ending) → outcome_of (outcome_word ending) ≡ Ok ending
unfolding outcome_of
outcome_of-to Closed = refl
outcome_of-to Trials = refl
outcome_of-to FullRun = refl

-- fractions

abbrev pub fraction_word : FractionData → List ℕ
fraction_word f = signed_decimal f.num ++ (47 ∷ signed_decimal f.den)

abbrev pub IsBrief : FractionData → Type 0
IsBrief f = Small f.num × Small f.den

abbrev whole : FractionData → Result FractionData CertKind
whole x = Ok x

ok_is : (x y : FractionData) → whole x ≡ whole y → x ≡ y
ok_is x y e = cc

pieces_are : (pieces : List Word) (f : FractionData) → fraction_from pieces ≡ Ok f → (join_with_byte 47 pieces ≡ fraction_word f) × IsBrief f
unfolding fraction_from
pieces_are [] f h = absurd cc
pieces_are (num ∷ []) f h = absurd cc
pieces_are (num ∷ den ∷ []) f h =
    let over = bind_ok (ok_or (number_of num) kinds.Number) _ f h in
    let under = bind_ok (ok_or (number_of den) kinds.Number) _ f over.2 in
    let a = number_of-prints num over.0 (or_some (number_of num) kinds.Number over.0 over.1) in
    let b = number_of-prints den under.0 (or_some (number_of den) kinds.Number under.0 under.1) in
    let g : FractionData = record { num = over.0; den = under.0 } in
    let same : g ≡ f = ok_is g f under.2 in
    subst (λ (x : FractionData). (num ++ (47 ∷ den) ≡ fraction_word x) × IsBrief x) same
    (ap (λ (w : List ℕ). w ++ (47 ∷ den)) a.0 ∙ ap (λ (w : List ℕ). signed_decimal over.0 ++ (47 ∷ w)) b.0, (a.1, b.1))
pieces_are (num ∷ den ∷ more ∷ pieces) f h = absurd cc

pub fraction_of-ok : (word : Word) (f : FractionData) → fraction_of word ≡ Ok f → (word ≡ fraction_word f) × IsBrief f
unfolding fraction_of
fraction_of-ok word f h =
    let p = pieces_are (slice_split (λ b. b == 47) word) f h in
    (sym (join_with_byte-slice_split 47 word) ∙ p.0, p.1)

digits_lack : (ds : List ℕ) → AllDigits 10 ds → Lacks (λ b. b == 47) ds
digits_lack [] d = tt
digits_lack (c ∷ cs) d = let k = digit_from_value c d.0 in (grind (arith, nat_tests, k), digits_lack cs d.1)

decimal_lacks : (n : ℕ) → n < 10 ^ 36 → Lacks (λ b. b == 47) (decimal n)
decimal_lacks n small = digits_lack (decimal n) (decimal_is_IsNumeral_wide n (omega arith)).0.1

signed_lacks : (z : ℤ) → Small z → Lacks (λ b. b == 47) (signed_decimal z)
signed_lacks (pos n) small = decimal_lacks n small
signed_lacks (negsuc n) small = (refl, decimal_lacks (suc n) small)

pub fraction_of-to : (f : FractionData) → IsBrief f → fraction_of (fraction_word f) ≡ Ok f
unfolding fraction_of fraction_from
fraction_of-to f brief =
    let cut : slice_split (λ b. b == 47) (fraction_word f) ≡ signed_decimal f.num ∷ signed_decimal f.den ∷ [] =
    split_at (λ b. b == 47) (signed_decimal f.num) 47 (signed_decimal f.den) (signed_lacks f.num brief.0) refl
    ∙ ap (λ (ws : List Word). signed_decimal f.num ∷ ws) (split_none (λ b. b == 47) (signed_decimal f.den) (signed_lacks f.den brief.1)) in
    ap fraction_from cut ∙ rw (number_of-printed f.num brief.0, number_of-printed f.den brief.1) refl

-- words have no space and no line feed

word_append : (xs ys : List ℕ) → IsWord xs → IsWord ys → IsWord (xs ++ ys)
word_append [] ys a b = b
word_append (x ∷ xs) ys a b = (a.0, word_append xs ys a.1 b)

pub fraction_written : (f : FractionData) → IsBrief f → IsWord (fraction_word f)
fraction_written f brief = word_append (signed_decimal f.num) (47 ∷ signed_decimal f.den) (signed_decimal-above f.num brief.0) (omega arith, signed_decimal-above f.den brief.1)
